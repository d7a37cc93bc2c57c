use Rattle.std.proofs.lemmas.Result.{IfOk-weaker}
use Rattle.sp_locks.specs.declared.row.Duration.TheVariants.{Commit}
use Rattle.sp_node.specs.Table.{entries_of}
use Rattle.sp_granule.specs.Granules.{granules}
use Rattle.sp_protection.specs.Needs.{StayWant, AreNeedsOf}
use Rattle.sp_ops.specs.Wanted.{AreWants, IsWanted}
use Rattle.sp_ops.proofs.Joining.{all_last, needs_as}
use Rattle.sp_ops.proofs.staying.stay_needs.Goals as goal

pub joined-requires : goal.joined-requires
joined-requires c = all_last c.as_slice.result.now

pub returns : goal.returns
returns c =
    let same : AreWants (StayWant (granules c.args.tree.now.table) (entries_of c.args.tree.now.table) c.args.txn c.args.op.now) c.as_slice.result.now = rw c.as_slice.ensures.value c.in_ok-wants.ensures in
    IfOk-weaker c.joined.result (AreNeedsOf (IsWanted c.as_slice.result.now) Commit) (AreNeedsOf (StayWant (granules c.args.tree.now.table) (entries_of c.args.tree.now.table) c.args.txn c.args.op.now) Commit) (λ needs h. needs_as same Commit needs h) c.joined.ensures
