-- Where an operation under way stands, and where it goes on.
use Rattle.std.specs.Prelude.{ℕ, zero, suc, ◌+◌, ◌^◌, Option, Some, None}
use Rattle.sp_event.specs.declared.event.Event.{Event}
use Rattle.sp_event.specs.declared.event.Event.TheVariants.{Name, Plan as AskPlan, Ask, Apply}
use Rattle.sp_event.specs.declared.answer.Answer.{Answer}
use Rattle.sp_event.specs.declared.answer.Answer.TheVariants.{Granted, Planned}
use Rattle.sp_desk.specs.declared.point.Point.{Point}
use Rattle.sp_desk.specs.declared.point.Point.TheVariants.{Object, Plan, Locks}

-- what the session asks there; where no lock is left to ask, it applies the operation
abbrev pub event_at : ℕ → Point → Event
event_at s Object = Name s
event_at s Plan = AskPlan s
event_at s (Locks zero) = Apply s
event_at s (Locks (suc left)) = Ask s

-- the point after an answer by which the operation goes on
abbrev pub next_after : Point → Answer → Option Point
next_after Object Granted = Some Plan
next_after Plan (Planned count) = Some (Locks count)
next_after (Locks (suc left)) Granted = Some (Locks left)
next_after point answer = None

-- where an operation goes on that waited there: what it needs is planned anew
abbrev pub resumed : Point → Point
resumed Object = Object
resumed point = Plan

-- more than the events that are still to come there
abbrev pub ahead : Point → ℕ
ahead Object = 2 ^ 64 + 1
ahead Plan = 2 ^ 64
ahead (Locks left) = left
