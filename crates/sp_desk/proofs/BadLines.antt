-- A line that is no command.
use Rattle.std.proofs.Common.{rules, ◌≡◌, ℕ, Bool, true, false, List, [], ◌∷◌, ◌++◌, Option, Err, refl, sym, ap, ◌∙◌, subst}
use Rattle.std.specs.Io.KnownBytes.{Appends}
use Rattle.sp_io.specs.Streams.{AppendsFront}
use Rattle.sp_text.specs.Grammar.{said, wrong}
use Rattle.sp_text.specs.declared.form.Form.{Form}
use Rattle.sp_text.specs.declared.form.Form.TheVariants.{Play}
use Rattle.sp_text.specs.Texts.{render, item_text}
use Rattle.sp_text.specs.declared.types.Bad.{Bad as Reason}
use Rattle.sp_text.specs.declared.types.Item.{Item}
use Rattle.sp_text.specs.declared.types.Item.TheVariants.{Bad}
use Rattle.sp_lines.specs.declared.fault.Fault.{Fault}
use Rattle.sp_lines.specs.declared.fault.Fault.TheVariants.{Write, Disk, Memory}
use Rattle.sp_lines.specs.Keeping.{KeptAt}
use Rattle.sp_model.specs.State.{Kernel}
use Rattle.sp_kernel.specs.Whole.{Whole}
use Rattle.sp_desk.specs.declared.stalled.Stalled.{Stalled}
use Rattle.sp_desk.specs.Playing.{Turn, Plays}
use Rattle.sp_desk.specs.Hearing.{Place, place, AnswersLines, StopsInLines, Went, Halted, script_sessions}
use Rattle.sp_desk.proofs.Joining.{leads_none, course_none}

append-nil : {A : Type 0} (x : List A) → x ++ [] ≡ x
append-nil x = search rules

render_one : (item : Item) → render Play (item ∷ []) ≡ item_text Play item
render_one item = append-nil (item_text Play item)

false_true : false ≡ true → ⊥
false_true e = cc

write_disk : Write ≡ Disk → ⊥
write_disk e = cc

memory_disk : Memory ≡ Disk → ⊥
memory_disk e = cc

memory_write : Memory ≡ Write → ⊥
memory_write e = cc

module _ (line : List ℕ) (session : Option ℕ) (bad : Reason) (is js : List Item) (w : List Stalled) (k : Kernel) (old new : Option (List ℕ)) (form : Form) (play : form ≡ Play) (e : said Play line ≡ Err (wrong session bad)) where
  pub bad_answers : js ≡ is ++ Bad session bad ∷ [] → Appends old new (item_text form (Bad session bad)) → AnswersLines script_sessions false (line ∷ []) (place is w k old) (place js w k new)
  bad_answers kept wrote = record {
    passes = record {
      items = [] ++ Bad session bad ∷ [];
      kept = kept;
      heard_as = ap (λ x. x ∷ []) (sym e);
      plays = Plays.HearsBad Plays.Stays session bad;
      written = subst (λ (l : List ℕ). Appends old new l) (ap (λ (f : Form). item_text f (Bad session bad)) play ∙ sym (render_one (Bad session bad))) wrote;
    };
    closed = λ h. absurd (false_true h);
  }

  pub bad_halts : (fault : Fault) → KeptAt fault form is js (Bad session bad) old new → StopsInLines fault (line ∷ []) (place is w k old) (place js w k new)
  bad_halts Write kept = record {
    stops = record {
      items = [] ++ Bad session bad ∷ [];
      kept = kept.0;
      unanswered = [];
      heard_as = ap (λ x. x ∷ []) e;
      reached = k;
      waiting = w;
      turn = Turn.Hearing;
      plays = Plays.HearsBad Plays.Stays session bad;
      leads = leads_none k;
      whole = λ h. refl;
      written = subst (λ (l : List ℕ). AppendsFront old new l) (ap (λ (f : Form). item_text f (Bad session bad)) play ∙ sym (render_one (Bad session bad))) kept.1;
    };
    stopped = λ h. absurd (write_disk h);
  }
  bad_halts Disk kept = absurd kept
  bad_halts Memory kept = record {
    stops = record {
      items = [];
      kept = kept.0 ∙ sym (append-nil is);
      unanswered = said Play line ∷ [];
      heard_as = refl;
      reached = k;
      waiting = w;
      turn = Turn.Hearing;
      plays = Plays.Stays;
      leads = leads_none k;
      whole = λ h. absurd (memory_write h);
      written = kept.1;
    };
    stopped = λ h. absurd (memory_disk h);
  }

module _ {D : Type 0} (tells takes : D → Bool) (faults moment : D → ℕ) (images : D → ℕ → List ℕ → Type 0) (w : Whole D) (lines : List (List ℕ)) (p q : Place) where
  -- lines that no event is done for
  pub went_still : (ended : Bool) → AnswersLines script_sessions ended lines p q → Went tells takes faults moment images ended lines p w q w
  went_still ended h = record { answers = h; course = course_none tells takes faults moment images w }

  pub halted_still : (fault : Fault) → StopsInLines fault lines p q → Halted tells takes faults moment images fault lines p w q w
  halted_still fault h = record { stops = h; course = course_none tells takes faults moment images w }
