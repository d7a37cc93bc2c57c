use Rattle.std.proofs.Common.{ℕ, List, subst, IfOk}
use Rattle.std.specs.List.Sorted.{IsPermutation}
use Rattle.sp_ops.proofs.Seeing.{meeting_is}
use Rattle.sp_ops.proofs.seen.in_area.Goals as goal

pub returns-clause-found : goal.returns-clause-found
returns-clause-found c =
    subst (λ (ns : List ℕ). IfOk c.meeting.result (λ numbers. IsPermutation ns numbers)) (meeting_is c.args.tree.now.table c.args.rect.now) (rw c.new.ensures at c.meeting.ensures.found)
