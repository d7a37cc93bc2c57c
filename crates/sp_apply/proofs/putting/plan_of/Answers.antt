use Rattle.sp_apply.proofs.putting.plan_of.Goals as goal

pub returns-in-Some-clause-made : goal.returns-in-Some-clause-made
returns-in-Some-clause-made c = c.in-Some.ensures.made c.args.tree.now.table c.requires.sketch

pub returns-in-Some-clause-inserted : goal.returns-in-Some-clause-inserted
returns-in-Some-clause-inserted c = c.in-Some.ensures.inserted c.args.tree.now.table c.requires.sketch
