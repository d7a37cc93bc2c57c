use Rattle.std.proofs.Common.{sym, subst}
use Rattle.sp_node.specs.declared.plan.Plan.{Plan}
use Rattle.sp_node.specs.Plan.{IsMadeOf}
use Rattle.sp_node.specs.Table.{Table}
use Rattle.sp_node.proofs.Sample.{sample_made}
use Rattle.sp_node.proofs.tests.overlays.Goals as goal

pub planned-after-requires : goal.planned-after-requires
planned-after-requires g c = subst (λ (t : Table). IsMadeOf t c.in_ok-plan.plan) (sym c.in_ok-tree.ensures) (subst (λ (p : Plan). IsMadeOf _ p) (sym c.in_ok-plan.ensures) sample_made)
