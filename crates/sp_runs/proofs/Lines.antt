-- One kernel's audits have one line.
use Rattle.std.proofs.Common.{◌≡◌, Bool, true, false, refl, sym, ◌∙◌}
use Rattle.sp_audit.specs.History.{History}
use Rattle.sp_audit.specs.Line.{audit_told, audit_text}
use Rattle.sp_model.specs.State.{Kernel}
use Rattle.sp_runs.specs.Running.{IsAuditOf}
use Rattle.sp_runs.specs.Writing.{audit_line}

same_text : (a b : History) → a.base ≡ b.base → a.commits ≡ b.commits → a.ended ≡ b.ended → audit_text a ≡ audit_text b
unfolding audit_text audit_told
same_text a b p q r = cc

pub same_line : (audited : Bool) (k : Kernel) (a b : History) → IsAuditOf k a → IsAuditOf k b → audit_line audited a ≡ audit_line audited b
same_line true k a b p q = same_text a b (p.base ∙ sym q.base) (p.commits ∙ sym q.commits) (p.ended ∙ sym q.ended)
same_line false k a b p q = refl
