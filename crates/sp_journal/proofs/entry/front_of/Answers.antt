use Rattle.std.proofs.Common.{ap}
use Rattle.std.proofs.Common.{get_or}
use Rattle.sp_journal.proofs.Heads.{size_of}
use Rattle.sp_journal.proofs.entry.front_of.Goals as goal

pub returns : goal.returns
returns c = λ gate rest behind is. (ap (λ l. get_or l 0 0) is, size_of c.args.bytes.now rest gate c.read_u32.result c.told-bytes c.fits-bytes is c.read_u32.ensures)
