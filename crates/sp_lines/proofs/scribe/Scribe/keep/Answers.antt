use Rattle.std.proofs.Common.{rules, ap, ◌∙◌}
use Rattle.sp_io.proofs.Known.{Appends-none}
use Rattle.sp_lines.specs.Keeping.{Notes}
use Rattle.sp_lines.proofs.Results.{left_at_err}
use Rattle.sp_lines.proofs.scribe.Scribe.keep.Goals as goal

pub returns-then-is_err-2-clause-stops : goal.returns-then-is_err-2-clause-stops
returns-then-is_err-2-clause-stops g c =
    (left_at_err c.push.result _ _ _ c.push.ensures (search rules) ∙ ap (λ (n : Notes). n.items) c.self.view_is, Appends-none _)
