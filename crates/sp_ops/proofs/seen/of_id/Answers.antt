use Rattle.std.proofs.Common.{ℕ, List, subst, IfOk}
use Rattle.std.specs.List.Sorted.{IsPermutation}
use Rattle.sp_ops.proofs.Seeing.{with_id_is}
use Rattle.sp_ops.proofs.seen.of_id.Goals as goal

pub returns-clause-found : goal.returns-clause-found
returns-clause-found c = subst (λ (ns : List ℕ). IfOk c.of_id.result (λ numbers. IsPermutation ns numbers)) (with_id_is c.args.tree.now.table c.args.id) c.of_id.ensures.found
