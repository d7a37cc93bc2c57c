use Rattle.sp_disk.proofs.Sampling.{by_write, by_cut}
use Rattle.sp_disk.proofs.samples.spread.Goals as goal

pub returns-in_ok-each_write-in-Write : goal.returns-in_ok-each_write-in-Write
returns-in_ok-each_write-in-Write c =
    rw c.in-Write.is (by_write _ _ _ _ _ _ c.as_slice.ensures c.as_slice-in-Write.ensures c.in_ok-each_write-in-Write.ensures)

pub returns-in_ok-each_cut-in-Cut : goal.returns-in_ok-each_cut-in-Cut
returns-in_ok-each_cut-in-Cut c = rw c.in-Cut.is (by_cut _ _ _ _ c.as_slice-in-Cut.ensures c.in_ok-each_cut-in-Cut.ensures)
