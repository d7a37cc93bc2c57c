use Rattle.std.proofs.Common.{refl}
use Rattle.sp_grow.proofs.grown.grow.Goals as goal

pub returns-in-Ok-clause-made : goal.returns-in-Ok-clause-made
returns-in-Ok-clause-made c = (c.in-Ok.ensures c.args.entry refl).made

pub returns-in-Ok-clause-parts : goal.returns-in-Ok-clause-parts
returns-in-Ok-clause-parts c = (c.in-Ok.ensures c.args.entry refl).few
