use Rattle.sp_insertion.proofs.insertion.plan_insertion.Goals as goal
use Rattle.sp_insertion.proofs.Inserting.{plan_inserts}

pub returns-in-Ok-clause-inserted : goal.returns-in-Ok-clause-inserted
returns-in-Ok-clause-inserted c = plan_inserts c.args.tree.now.table c.args.entry c.in-Ok.plan c.next-rising.ensures.rising c.in-Ok.ensures.made c.in-Ok.ensures.grown
