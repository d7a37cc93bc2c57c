use Rattle.std.proofs.Common.{rules}
use Rattle.sp_journal.proofs.Framing.{cleared}
use Rattle.sp_journal.proofs.frames.clear.Goals as goal

pub returns-clause-bytes : goal.returns-clause-bytes
returns-clause-bytes c =
    cleared c.args.buf.now.items c.truncate.new.self.items c.as_mut_slice.result.now c.frame.new.buf c.truncate.new.self.items c.truncate.new.self.len c.requires c.truncate.ensures.items c.as_mut_slice.ensures.value c.frame.ensures (search rules)
