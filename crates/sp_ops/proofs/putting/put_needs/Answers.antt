use Rattle.std.proofs.lemmas.Result.{IfOk-weaker}
use Rattle.sp_locks.specs.declared.row.Duration.TheVariants.{Commit}
use Rattle.sp_node.specs.Plan.{planned}
use Rattle.sp_granule.specs.Granules.{granules}
use Rattle.sp_protection.specs.Needs.{PutWant, AreNeedsOf}
use Rattle.sp_ops.specs.Wanted.{AreWants, IsWanted}
use Rattle.sp_ops.proofs.Joining.{all_last, needs_as}
use Rattle.sp_ops.proofs.putting.put_needs.Goals as goal

pub joined-requires : goal.joined-requires
joined-requires c = all_last c.as_slice.result.now

pub returns : goal.returns
returns c =
    let t = c.args.tree.now.table in
    let same : AreWants (PutWant (granules t) (granules (planned t c.args.plan.now)) c.args.searches.now) c.as_slice.result.now = rw c.as_slice.ensures.value c.in_ok-wants.ensures in
    IfOk-weaker c.joined.result (AreNeedsOf (IsWanted c.as_slice.result.now) Commit) (AreNeedsOf (PutWant (granules t) (granules (planned t c.args.plan.now)) c.args.searches.now) Commit) (λ needs h. needs_as same Commit needs h) c.joined.ensures
