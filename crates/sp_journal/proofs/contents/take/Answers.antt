use Rattle.sp_journal.proofs.Smallness.{answer_small}
use Rattle.sp_journal.proofs.contents.take.Goals as goal

pub returns-clause-small : goal.returns-clause-small
returns-clause-small c = answer_small c.take.result c.args.changes.now c.args.store.now c.take.new.self c.take.ensures.made c.take.ensures.refused c.take.ensures.err
