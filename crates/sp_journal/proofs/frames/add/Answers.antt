use Rattle.std.proofs.Common.{rules}
use Rattle.sp_journal.proofs.Framing.{added}
use Rattle.sp_journal.proofs.frames.add.Goals as goal

pub returns-clause-added : goal.returns-clause-added
returns-clause-added c = λ q d old commit count.
    added q d c.args.buf.now.items c.args.commit.now c.extend_over_last.new.buf.items c.as_mut_slice.result.now c.frame.new.buf c.extend_over_last.new.buf.items _ c.args.count c.extend_over_last.new.buf.len old commit count
    c.in_ok-extend_over_last.ensures c.as_mut_slice.ensures.value (search rules) c.frame.ensures (search rules)
