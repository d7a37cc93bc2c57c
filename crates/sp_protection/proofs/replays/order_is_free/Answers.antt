use Rattle.std.proofs.Common.{refl}
use Rattle.sp_txn.specs.Visible.{is_live, is_visible, record_of, record_for}
use Rattle.sp_protection.proofs.replays.order_is_free.Goals as goal
use Rattle.sp_protection.proofs.Rearranging.{rearranged}

pub returns-clause-live : goal.returns-clause-live
returns-clause-live c = λ es others members one. rearranged is_live record_of es others (λ e. refl) members one

pub returns-clause-view : goal.returns-clause-view
returns-clause-view c = λ t es others members one. rearranged (is_visible t) (record_for t) es others (λ e. refl) members one
