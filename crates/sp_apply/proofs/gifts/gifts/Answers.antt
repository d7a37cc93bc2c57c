use Rattle.std.proofs.Common.{List, subst}
use Rattle.sp_locks.specs.declared.row.Duration.TheVariants.{Commit}
use Rattle.sp_protection.specs.Needs.{AreNeedsOf}
use Rattle.sp_ops.specs.declared.wants.Want.{Want}
use Rattle.sp_ops.specs.Wanted.{IsWanted}
use Rattle.sp_apply.proofs.Meetings.{if_ok}
use Rattle.sp_apply.proofs.PartWants.{gifts_are}
use Rattle.sp_apply.proofs.gifts.gifts.Goals as goal

pub returns : goal.returns
returns c =
    if_ok c.joined.result _ _
    (λ needs h. gifts_are c.args.tree.now.table c.root-valid.ensures.valid c.args.plan.now c.requires c.args.seat.now.txn.number c.args.seat.now.txn.searches c.in_ok-wants.wants.items needs c.in_ok-wants.ensures
    (subst (λ (ws : List Want). AreNeedsOf (IsWanted ws) Commit needs) c.as_slice.ensures.value h)) c.joined.ensures
