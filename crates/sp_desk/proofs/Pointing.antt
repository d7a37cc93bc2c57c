-- What is asked at a point.
use Rattle.std.proofs.Common.{◌≡◌, ℕ, zero, suc, refl}
use Rattle.sp_event.specs.declared.event.Event.TheVariants.{Ask}
use Rattle.sp_desk.specs.declared.point.Point.TheVariants.{Locks}
use Rattle.sp_desk.specs.Points.{event_at}

pub asks_next : (s n : ℕ) → (n ≡ 0 → ⊥) → event_at s (Locks n) ≡ Ask s
asks_next s zero h = absurd (h refl)
asks_next s (suc n) h = refl
