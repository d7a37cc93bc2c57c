use Rattle.std.proofs.Common.{sym, ◌∙◌}
use Rattle.sp_state.proofs.Same.{same_from}
use Rattle.sp_state.proofs.sketch.are_same_records.Goals as goal

pub returns-then-has_same_rect-clause-rect : goal.returns-then-has_same_rect-clause-rect
returns-then-has_same_rect-clause-rect c = λ same. same_from c.args.a.now.rect c.args.b.now.rect (sym c.eq-has_same_rect.ensures ∙ c.if-has_same_rect.true.1)
