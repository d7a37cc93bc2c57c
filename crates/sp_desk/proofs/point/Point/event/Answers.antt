use Rattle.std.proofs.Common.{ℕ, sym, ap, ◌∙◌}
use Rattle.sp_desk.specs.declared.point.Point.{Point}
use Rattle.sp_desk.specs.declared.point.Point.TheVariants.{Locks}
use Rattle.sp_desk.specs.Points.{event_at}
use Rattle.sp_desk.proofs.Pointing.{asks_next}
use Rattle.sp_desk.proofs.point.Point.event.Goals as goal

pub returns-in-Object : goal.returns-in-Object
returns-in-Object c = sym (ap (λ (p : Point). event_at c.args.session p) c.in-Object.is)

pub returns-in-Plan : goal.returns-in-Plan
returns-in-Plan c = sym (ap (λ (p : Point). event_at c.args.session p) c.in-Plan.is)

pub returns-in-Locks-eq0 : goal.returns-in-Locks-eq0
returns-in-Locks-eq0 c = sym (ap (λ (p : Point). event_at c.args.session p) (c.in-Locks-eq0.is ∙ ap (λ (n : ℕ). Locks n) (sym c.in-Locks-eq0.field-0-is ∙ c.in-Locks-eq0.field-0-test)))

pub returns-in-Locks : goal.returns-in-Locks
returns-in-Locks c = sym (ap (λ (p : Point). event_at c.args.session p) c.in-Locks.is ∙ asks_next c.args.session c.in-Locks.field-0 (λ e. c.in-Locks.field-0-test.1 (c.in-Locks.field-0-is ∙ e)))
