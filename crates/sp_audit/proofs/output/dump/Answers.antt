use Rattle.std.proofs.Common.{◌≡◌, ◌++◌, ◌∷◌, [], subst, IfOk}
use Rattle.serde_json.specs.Data.{Data}
use Rattle.serde_json.specs.Written.{compact_text}
use Rattle.sp_audit.specs.Line.{audit_text}
use Rattle.sp_audit.proofs.Floats.{in_audit}
use Rattle.sp_audit.proofs.output.dump.Goals as goal

pub line_of-requires : goal.line_of-requires
line_of-requires c = rw c.in_ok-value.ensures (in_audit c.args.audit.now)

pub returns : goal.returns
unfolding audit_text
returns c = subst (λ (d : Data). IfOk c.line_of.result (λ text. text ≡ compact_text d ++ 10 ∷ [])) c.in_ok-value.ensures c.line_of.ensures
