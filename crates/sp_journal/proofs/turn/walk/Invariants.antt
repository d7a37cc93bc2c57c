use Rattle.std.proofs.Common.{◌≡◌, ◌<◌, ◌≤◌, ◌-◌, length, IsTrue}
use Rattle.sp_journal.specs.Chaining.{Reached}
use Rattle.sp_journal.specs.Looking.{OnlyReads}
use Rattle.sp_journal.specs.Recovery.{Base}
use Rattle.sp_journal.proofs.turn.walk.Given as goal

abbrev pub invariant-walk : goal.invariant-walk
invariant-walk g l = record {
  inside : l.chain.at < l.len;
  reached : (base : Base) → IsTrue (g.D.Disk.tells l.fn.disk) → length (g.D.Disk.reads l.fn.disk) ≡ l.len → Reached (g.D.Disk.reads l.fn.disk) l.fn.chain base → (next : Base) × (next.version ≡ base.version) × Reached (g.D.Disk.reads l.fn.disk) l.chain next;
  generation : l.chain.generation ≡ l.fn.chain.generation;
  looks : IsTrue (g.D.Disk.tells l.fn.disk) → OnlyReads (g.D.Disk.moment l.fn.disk) (g.D.Disk.moment l.disk) (g.D.Disk.reads l.fn.disk) (g.D.Disk.reads l.disk) (g.D.Disk.images l.fn.disk) (g.D.Disk.images l.disk);
  later : g.D.Disk.faults l.fn.disk ≤ g.D.Disk.faults l.disk;
  tells : g.D.Disk.tells l.disk ≡ g.D.Disk.tells l.fn.disk;
  takes : g.D.Disk.takes_memory l.disk ≡ g.D.Disk.takes_memory l.fn.disk;
}

abbrev pub decreases-walk : goal.decreases-walk
decreases-walk g l = l.len - l.chain.at
