-- A session in its place.
use Rattle.std.proofs.Common.{◌≡◌, ℕ, List, None, Some, Ok, Err, sym, ap, ◌∙◌}
use Rattle.std.specs.Prelude.{slice_get, slice_set, Result, OnOk}
use Rattle.sp_locks.specs.declared.needs.Need.{Need}
use Rattle.sp_rect.specs.declared.operation.Op.{Op}
use Rattle.sp_rect.specs.declared.operation.Reply.{Reply}
use Rattle.sp_model.specs.declared.session.Session.{Session}
use Rattle.sp_model.specs.declared.session.Stage.{Stage}
use Rattle.sp_model.specs.declared.session.Stage.TheVariants.{Idle, Planned}
use Rattle.sp_model.specs.State.{staged, with_change, at_stage}
use Rattle.sp_model.specs.Moves.{lengthened}
use Rattle.sp_model.specs.Soundness.{AreAscending}
use Rattle.sp_model.proofs.Operating.{kept-idle}
use Rattle.sp_state.specs.Stages.{kept, kept_at, area, planned_area}
use Rattle.sp_state.proofs.Standing.{with_change-set}

one : {A : Type 0} (x y : A) → Some x ≡ Some y → x ≡ y
one x y e = cc

-- the kept session at its place
pub kept_there : (xs ys : List Session) (at : ℕ) (x y : Session) (op : Op) (left : List Need) (reply : Reply) → AreAscending xs → slice_get xs at ≡ Some y → ys ≡ slice_set xs at (kept reply y) → slice_get xs at ≡ Some x → x.stage ≡ Planned op left
    → ys ≡ staged x.txn.session Idle (with_change x.txn.session (lengthened op reply) xs)
kept_there xs ys at x y op left reply ascending there is found planned =
    let same : y ≡ x = one y x (sym there ∙ found) in
    is ∙ ap (λ (z : Session). slice_set xs at (kept reply z)) same ∙ ap (λ (stage : Stage). slice_set xs at (kept_at stage reply x)) planned
    ∙ with_change-set xs at x (λ (z : Session). at_stage Idle (lengthened op reply z)) ascending found ∙ sym (kept-idle x.txn.session op reply xs)

pub rested_there : (xs ys : List Session) (at : ℕ) (x y : Session) → AreAscending xs → slice_get xs at ≡ Some y → ys ≡ slice_set xs at (at_stage Idle y) → slice_get xs at ≡ Some x → ys ≡ staged x.txn.session Idle xs
rested_there xs ys at x y ascending there is found =
    is ∙ ap (λ (z : Session). slice_set xs at (at_stage Idle z)) (one y x (sym there ∙ found)) ∙ with_change-set xs at x (at_stage Idle) ascending found

pub on_ok : {A E : Type 0} (P Q : Type 0) (r : Result A E) → (P → Q) → OnOk r P → OnOk r Q
on_ok P Q (Ok a) f h = f h
on_ok P Q (Err e) f h = tt

-- the planned operation looks at no area
pub no_area : (xs : List Session) (at : ℕ) (x y : Session) (op : Op) (left : List Need) → slice_get xs at ≡ Some y → slice_get xs at ≡ Some x → x.stage ≡ Planned op left → area op ≡ None → planned_area y.stage ≡ None
no_area xs at x y op left there found planned none = ap planned_area (ap (λ (z : Session). z.stage) (one y x (sym there ∙ found)) ∙ planned) ∙ none
