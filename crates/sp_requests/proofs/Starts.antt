-- A start does what it is to do, and its state fits.
use Rattle.std.proofs.Common.{◌≡◌, ℕ, ◌+◌, None, refl, sym, ap, ◌∙◌, subst, arith}
use Rattle.std.specs.Prelude.{slice_set}
use Rattle.sp_rect.specs.declared.operation.Op.{Op}
use Rattle.sp_event.specs.declared.event.Event.TheVariants.{Start}
use Rattle.sp_event.specs.declared.answer.Answer.TheVariants.{Started as IsStarted}
use Rattle.sp_model.specs.declared.session.Session.{Session}
use Rattle.sp_model.specs.declared.session.Stage.TheVariants.{Started, Idle}
use Rattle.sp_model.specs.State.{Kernel, is_active_stage, at_stage, staged}
use Rattle.sp_model.specs.Refusals.{turned_away, under_way}
use Rattle.sp_model.specs.Plans.{HasRectangle}
use Rattle.sp_model.specs.Removal.{IsTakenOut}
use Rattle.sp_model.specs.Stepped.{Does, Starts}
use Rattle.sp_model.specs.Soundness.{Sound}
use Rattle.sp_model.proofs.Turned.{may_start}
use Rattle.sp_state.specs.declared.state.State.{State}
use Rattle.sp_state.specs.Held.{kernel_of, Fits}
use Rattle.sp_state.specs.Sketches.{IsSketchOf}
use Rattle.sp_requests.proofs.Seating.{StandsAt, staged-set, staged-fits}

pub starts-done : (k : Kernel) (s : ℕ) (op : Op) (at : ℕ) (x y : Session) → Sound k → HasRectangle op → StandsAt s k.sessions at x → y ≡ at_stage (Started op) x
    → Does IsTakenOut k (Start s op) IsStarted (record k { sessions = slice_set k.sessions at y })
starts-done k s op at x y sound rect stands e =
    subst (λ xs. Does IsTakenOut k (Start s op) IsStarted (record k { sessions = xs }))
    (sym (staged-set s k.sessions at x y (Started op) sound.sessions.ascending stands e ∙ ap (λ n. staged n (Started op) k.sessions) stands.is)) (Starts s x op stands.found rect)

-- the operation is counted
pub starts-fit : (a b : State) (s : ℕ) (op : Op) (at : ℕ) (x y : Session) → Sound (kernel_of a) → turned_away (kernel_of a) (Start s op) ≡ None → StandsAt s a.seats.items at x → y ≡ at_stage (Started op) x
    → b.seats.items ≡ slice_set a.seats.items at y → b.operations ≡ a.operations + 1 → b.records ≡ a.records → b.audit ≡ a.audit → b.tree ≡ a.tree → b.dead ≡ a.dead → IsSketchOf b.tree.table b.sketch → Fits a → Fits b
starts-fit a b s op at x y sound goes stands e seats count =
    staged-fits a b x (Started op) sound.sessions.ascending stands.among (ap is_active_stage idle) refl (seats ∙ staged-set s a.seats.items at x y (Started op) sound.sessions.ascending stands e) (counted b.operations a.operations (under_way x.stage) count (ap under_way idle))
  where
    idle : x.stage ≡ Idle
    idle = (may_start (kernel_of a) s op x stands.found goes).idle

    counted : (n m u : ℕ) → n ≡ m + 1 → u ≡ 0 → n + u ≡ m + 1
    counted n m u e f = omega arith
