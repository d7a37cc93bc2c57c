-- How what was answered and written goes on.
use Rattle.std.proofs.Common.{◌≡◌, ℕ, Bool, true, false, List, [], ◌∷◌, ◌++◌, Option, Result, Ok, Err, refl, sym, ap, ◌∙◌, subst}
use Rattle.std.specs.Prelude.{OnOk}
use Rattle.std.specs.Io.KnownBytes.{Appends}
use Rattle.sp_lines.proofs.Hearing.{hears_item}
use Rattle.sp_event.specs.declared.event.Event.{Event}
use Rattle.sp_event.specs.declared.event.Event.TheVariants.{Commit}
use Rattle.sp_event.specs.declared.answer.Answer.{Answer}
use Rattle.sp_event.specs.declared.answer.Answer.TheVariants.{Durable}
use Rattle.sp_text.specs.Grammar.{said, wrong}
use Rattle.sp_text.specs.declared.form.Form.TheVariants.{Drill}
use Rattle.sp_text.specs.Texts.{item_text}
use Rattle.sp_text.specs.declared.types.Bad.{Bad as Reason}
use Rattle.sp_text.specs.declared.types.Said.TheVariants.{Step}
use Rattle.sp_text.specs.declared.types.Item.TheVariants.{Bad, Stepped}
use Rattle.sp_lines.specs.Keeping.{Notes}
use Rattle.sp_model.specs.State.{Kernel}
use Rattle.sp_model.specs.Soundness.{Sound}
use Rattle.sp_kernel.specs.Answers.{Answers}
use Rattle.sp_kernel.specs.Whole.{Whole}
use Rattle.sp_drill.specs.declared.due.Due.{Due}
use Rattle.sp_drill.specs.declared.due.Due.TheVariants.{Line, Places, End}
use Rattle.sp_drill.specs.Leading.{Leads}
use Rattle.sp_drill.specs.Drilling.{Next, owed, GoesOn, Drilled}
use Rattle.sp_drill.specs.Hearing.{IsDueAfter, Does, Goes, placed_from}
use Rattle.sp_drill.proofs.Joining.{leads_none}
use Rattle.sp_drill.proofs.Answering.{commit_faultless, Placed, durable_places}
use Rattle.sp_drill.proofs.Drilling.{owed_none}

-- two facts of a call that succeeded
pub ok_both : {A E : Type 0} (r : Result A E) (P Q R : Type 0) → (P → Q → R) → OnOk r P → OnOk r Q → OnOk r R
ok_both (Ok a) P Q R f p q = f p q
ok_both (Err e) P Q R f p q = tt

durable_goes : (answer : Answer) (first count : ℕ) → answer ≡ Durable first count → GoesOn answer
durable_goes answer first count e = (λ f. cc, λ f. cc)

-- after a commit the run goes on
commit_goes : (k : Kernel) (s : ℕ) (answer : Answer) (n : Kernel) (due : Due) → Answers k (Commit s) answer n → IsDueAfter answer due → GoesOn answer
commit_goes k s answer n Line a f = f.0
commit_goes k s answer n (Places first) a f = durable_goes answer first f.0 f.1
commit_goes k s answer n End a f = absurd (commit_faultless k s answer n a f)

-- what a batch that is on the disk leaves to tell
pub are_placed : (l m : Notes) (k n : Kernel) (old new : Option (List ℕ)) (first : ℕ) (event : Event) → Does event false (Places first) k l old n m new → Sound k → Placed k first n
are_placed l m k n old new first event d sound = durable_places k event first d.follows.0 n sound (subst (λ (a : Answer). Answers k event a n) d.follows.1 d.answers)

module _ {D : Type 0} (tells takes : D → Bool) (faults moment : D → ℕ) (images : D → ℕ → List ℕ → Type 0) where
  -- a bad line
  pub goes_bad : (line : List ℕ) (session : Option ℕ) (bad : Reason) (l m : Notes) (w : Whole D) (old new : Option (List ℕ)) → said Drill line ≡ Err (wrong session bad)
      → m.items ≡ l.items ++ Bad session bad ∷ [] → Appends old new (item_text Drill (Bad session bad)) → Goes tells takes faults moment images (Next.Tells []) (Next.Tells []) (line ∷ []) l w old m w new
  goes_bad line session bad l m w old new e kept wrote = record {
    items = Bad session bad ∷ [];
    hears = hears_item Drill (line ∷ []) (Bad session bad) l.items m.items old new (ap (λ r. r ∷ []) (sym e)) kept wrote;
    drilled = Drilled.HearsBad {items = []} session bad Drilled.IsStart;
    leads = leads_none tells takes faults moment images w;
  }

  module _ (l m : Notes) (w v : Whole D) (old new : Option (List ℕ)) (leads : Leads tells takes faults moment images w v) where
    -- an event of a line, and what it leaves to tell
    pub goes_event : (line : List ℕ) (event : Event) (due : Due) (d : Does event false due w.kernel l old v.kernel m new) → said Drill line ≡ Ok (Step event) → GoesOn d.answer
        → Goes tells takes faults moment images (Next.Tells []) (Next.Tells (owed w.kernel d.answer)) (line ∷ []) l w old m v new
    goes_event line event due d e on = record {
      items = Stepped event d.answer false ∷ [];
      hears = hears_item Drill (line ∷ []) (Stepped event d.answer false) l.items m.items old new (ap (λ r. r ∷ []) (sym e)) d.kept d.written;
      drilled = Drilled.HearsEvent {items = []} event d.answer v.kernel Drilled.IsStart on d.answers;
      leads = leads;
    }

    pub goes_line : (line : List ℕ) (event : Event) → Does event false Line w.kernel l old v.kernel m new → said Drill line ≡ Ok (Step event) → Goes tells takes faults moment images (Next.Tells []) (Next.Tells []) (line ∷ []) l w old m v new
    goes_line line event d e =
        subst (λ (xs : List ℕ). Goes tells takes faults moment images (Next.Tells []) (Next.Tells xs) (line ∷ []) l w old m v new) (owed_none w.kernel d.answer d.follows.1)
        (goes_event line event Line d e d.follows.0)

    pub goes_places : (first : ℕ) (line : List ℕ) (event : Event) → Does event false (Places first) w.kernel l old v.kernel m new → Sound w.kernel → said Drill line ≡ Ok (Step event)
        → Goes tells takes faults moment images (Next.Tells []) (Next.Tells (placed_from first v.kernel)) (line ∷ []) l w old m v new
    goes_places first line event d sound e =
        subst (λ (xs : List ℕ). Goes tells takes faults moment images (Next.Tells []) (Next.Tells xs) (line ∷ []) l w old m v new)
        (ap (owed w.kernel) d.follows.1 ∙ sym (are_placed l m w.kernel v.kernel old new first event d sound).batch)
        (goes_event line event (Places first) d e (durable_goes d.answer first d.follows.0 d.follows.1))

    -- a commit of the batch is told its place
    pub goes_place : (s : ℕ) (rest : List ℕ) (due : Due) → Does (Commit s) true due w.kernel l old v.kernel m new → Goes tells takes faults moment images (Next.Tells (s ∷ rest)) (Next.Tells rest) [] l w old m v new
    goes_place s rest due d = record {
      items = Stepped (Commit s) d.answer true ∷ [];
      hears = hears_item Drill [] (Stepped (Commit s) d.answer true) l.items m.items old new refl d.kept d.written;
      drilled = Drilled.TellsPlace {items = []} s rest d.answer v.kernel Drilled.IsStart (commit_goes w.kernel s d.answer v.kernel due d.answers d.follows) d.answers;
      leads = leads;
    }
