-- Every answer of a run of a script of commands fits what was told before it.
use Rattle.std.proofs.Common.{◌≡◌, ◌⊎◌, inl, inr, List, refl, sym, ◌∙◌, subst}
use Rattle.sp_rect.specs.declared.record.Record.{Record}
use Rattle.sp_node.specs.declared.node.Shape.{Shape}
use Rattle.sp_text.specs.declared.types.Item.{Item}
use Rattle.sp_text.specs.declared.types.End.{End}
use Rattle.sp_text.specs.declared.types.End.TheVariants.{Input}
use Rattle.sp_audit.specs.History.{History}
use Rattle.sp_desk.specs.Hearing.{script_sessions}
use Rattle.sp_desk.specs.Script.{PlaysTo}
use Rattle.sp_conduct.specs.Transcript.{IsConducted, IsClosed}
use Rattle.sp_conduct.proofs.Items.{conducted_none}
use Rattle.sp_conduct.proofs.Transcripts.{conducted, closed, based}
use Rattle.sp_runs.specs.declared.language.Language.TheVariants.{Commands}
use Rattle.sp_runs.specs.Running.{IsNotRun}
use Rattle.sp_runs.specs.Opening.{RunsFrom}

pub run_fits : (shape : Shape) (end : End) (items : List Item) (audit : History) → ((records : List Record) × RunsFrom Commands shape records end items audit) ⊎ IsNotRun items audit → IsConducted audit.base items
run_fits shape end items audit (inl (records, h)) =
    subst (λ (base : List Record). IsConducted base items) (sym (h.audited.base ∙ based shape records h.start h.opened h.sound end items h.last h.runs.answers))
    (conducted shape records h.start h.opened h.sound end items h.last h.runs.answers)
run_fits shape end items audit (inr none) = subst (λ (is : List Item). IsConducted audit.base is) (sym none.silent) (conducted_none audit.base)

pub run_closed : (shape : Shape) (end : End) (items : List Item) (audit : History) → ((records : List Record) × RunsFrom Commands shape records end items audit) ⊎ IsNotRun items audit → end ≡ Input → IsClosed items script_sessions
run_closed shape end items audit (inl (records, h)) ends =
    closed shape records h.start h.opened h.sound items h.last script_sessions (subst (λ (e : End). PlaysTo e h.start items h.last) ends h.runs.answers) (h.runs.closed ends)
run_closed shape end items audit (inr none) ends = λ s low. subst (λ (is : List Item). IsClosed is script_sessions) (sym none.silent) (λ s low. refl) s low
