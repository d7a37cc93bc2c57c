-- What was answered and written before a fault.
use Rattle.std.proofs.Common.{◌≡◌, ◌≢◌, ◌⊎◌, inl, inr, ℕ, Bool, true, false, List, [], ◌∷◌, Option, Ok, Err, refl, sym, ap, subst}
use Rattle.sp_lines.proofs.Hearing.{hears_item, until_none, until_heard, until_item}
use Rattle.sp_disk.specs.Faults.{Rose}
use Rattle.sp_event.specs.declared.event.Event.{Event}
use Rattle.sp_event.specs.declared.event.Event.TheVariants.{Commit}
use Rattle.sp_event.specs.declared.answer.Answer.{Answer}
use Rattle.sp_event.specs.declared.answer.Answer.TheVariants.{DiskFault, Memory as WantsMemory}
use Rattle.sp_text.specs.Grammar.{said, wrong}
use Rattle.sp_text.specs.declared.form.Form.TheVariants.{Drill}
use Rattle.sp_text.specs.declared.types.Bad.{Bad as Reason}
use Rattle.sp_text.specs.declared.types.Said.TheVariants.{Step}
use Rattle.sp_text.specs.declared.types.Item.TheVariants.{Bad, Stepped}
use Rattle.sp_lines.specs.declared.fault.Fault.{Fault}
use Rattle.sp_lines.specs.declared.fault.Fault.TheVariants.{Write, Disk, Memory}
use Rattle.sp_lines.specs.Keeping.{Notes, KeptAt}
use Rattle.sp_model.specs.State.{Kernel}
use Rattle.sp_kernel.specs.Answers.{Answers}
use Rattle.sp_kernel.specs.Whole.{Whole}
use Rattle.sp_drill.specs.declared.due.Due.TheVariants.{End}
use Rattle.sp_drill.specs.Leading.{Leads}
use Rattle.sp_drill.specs.Drilling.{Next, owed, Drilled, Lacks}
use Rattle.sp_drill.specs.Hearing.{Does, DoesUntil, Stops}
use Rattle.sp_drill.proofs.Joining.{leads_none}
use Rattle.sp_drill.proofs.Answering.{is_fault, only_flush_fails, commit_faultless}

write_apart : Write ≡ Disk → ⊥
write_apart e = cc

memory_apart : Memory ≡ Disk → ⊥
memory_apart e = cc

-- the kernel that wanted memory, where nothing or one event of a line was done, or one commit of the batch
lacks_event : (k n : Kernel) (event : Event) → (n ≡ k) ⊎ ((answer : Answer) × Answers k event answer n) → Lacks k [] n
lacks_event k n event (inl e) = subst (λ (x : Kernel). Lacks k [] x) (sym e) Lacks.IsThere
lacks_event k n event (inr h) = Lacks.HasDone event h.0 n h.1

lacks_place : (k n : Kernel) (s : ℕ) (rest : List ℕ) → (n ≡ k) ⊎ ((answer : Answer) × Answers k (Commit s) answer n) → Lacks k (s ∷ rest) n
lacks_place k n s rest (inl e) = subst (λ (x : Kernel). Lacks k (s ∷ rest) x) (sym e) Lacks.IsThere
lacks_place k n s rest (inr h) = Lacks.HasTold s rest h.0 n h.1

-- a flush that failed
failed_event : (k n : Kernel) (event : Event) (answer : Answer) → answer ≡ DiskFault → Answers k event answer n → Drilled k (Next.Tells []) (Stepped event answer false ∷ []) n Next.Ends
failed_event k n event answer e answers =
    let told : Answers k event DiskFault n = subst (λ (a : Answer). Answers k event a n) e answers in
    let flush = only_flush_fails k event n told in
    subst (λ (a : Answer). Drilled k (Next.Tells []) (Stepped event a false ∷ []) n Next.Ends) (sym e)
    (subst (λ (x : Event). Drilled k (Next.Tells []) (Stepped x DiskFault false ∷ []) n Next.Ends) (sym flush)
    (Drilled.FlushFails {items = []} n Drilled.IsStart (subst (λ (x : Event). Answers k x DiskFault n) flush told)))

-- an event whose text was written in part may be a flush that failed
written_event : (k n : Kernel) (event : Event) (answer : Answer) → answer ≢ WantsMemory → Answers k event answer n → (next : Next) × Drilled k (Next.Tells []) (Stepped event answer false ∷ []) n next
written_event k n event answer some answers = by_fault (is_fault answer)
  where
    by_fault : (answer ≡ DiskFault) ⊎ (answer ≢ DiskFault) → (next : Next) × Drilled k (Next.Tells []) (Stepped event answer false ∷ []) n next
    by_fault (inl e) = (Next.Ends, failed_event k n event answer e answers)
    by_fault (inr h) = (Next.Tells (owed k answer), Drilled.HearsEvent {items = []} event answer n Drilled.IsStart (h, some) answers)

module _ {D : Type 0} (tells takes : D → Bool) (faults moment : D → ℕ) (images : D → ℕ → List ℕ → Type 0) where
  -- a bad line
  pub stops_bad : (fault : Fault) (line : List ℕ) (session : Option ℕ) (bad : Reason) (l m : Notes) (w : Whole D) (old new : Option (List ℕ)) → said Drill line ≡ Err (wrong session bad)
      → KeptAt fault Drill l.items m.items (Bad session bad) old new → Stops tells takes faults moment images (Next.Tells []) fault (line ∷ []) l w old m w new
  stops_bad Write line session bad l m w old new e kept = record {
    items = Bad session bad ∷ [];
    hears = until_item Drill (line ∷ []) (Bad session bad) l.items m.items old new (ap (λ r. r ∷ []) (sym e)) kept;
    drilled = (Next.Tells [], Drilled.HearsBad {items = []} session bad Drilled.IsStart);
    leads = leads_none tells takes faults moment images w;
    caused = λ f. absurd (write_apart f);
  }
  stops_bad Disk line session bad l m w old new e kept = absurd kept
  stops_bad Memory line session bad l m w old new e kept = record {
    items = [];
    hears = until_none Memory Drill (line ∷ []) l.items m.items old new kept.0 kept.1;
    drilled = (w.kernel, [], Drilled.IsStart, Lacks.IsThere);
    leads = leads_none tells takes faults moment images w;
    caused = λ f. absurd (memory_apart f);
  }

  module _ (l m : Notes) (w v : Whole D) (old new : Option (List ℕ)) (leads : Leads tells takes faults moment images w v) where
    -- an event of a line, at a fault of its item
    pub stops_event : (fault : Fault) (line : List ℕ) (event : Event) → DoesUntil fault event false w.kernel l old v.kernel m new → said Drill line ≡ Ok (Step event)
        → Stops tells takes faults moment images (Next.Tells []) fault (line ∷ []) l w old m v new
    stops_event Write line event d e = record {
      items = Stepped event d.0 false ∷ [];
      hears = until_item Drill (line ∷ []) (Stepped event d.0 false) l.items m.items old new (ap (λ r. r ∷ []) (sym e)) d.3;
      drilled = written_event w.kernel v.kernel event d.0 d.1 d.2;
      leads = leads;
      caused = λ f. absurd (write_apart f);
    }
    stops_event Disk line event d e = absurd d
    stops_event Memory line event d e = record {
      items = [];
      hears = until_none Memory Drill (line ∷ []) l.items m.items old new d.0 d.1;
      drilled = (w.kernel, [], Drilled.IsStart, lacks_event w.kernel v.kernel event d.2);
      leads = leads;
      caused = λ f. absurd (memory_apart f);
    }

    -- a commit of the batch
    pub stops_place : (fault : Fault) (s : ℕ) (rest : List ℕ) → DoesUntil fault (Commit s) true w.kernel l old v.kernel m new → Stops tells takes faults moment images (Next.Tells (s ∷ rest)) fault [] l w old m v new
    stops_place Write s rest d = record {
      items = Stepped (Commit s) d.0 true ∷ [];
      hears = until_item Drill [] (Stepped (Commit s) d.0 true) l.items m.items old new refl d.3;
      drilled = (Next.Tells rest, Drilled.TellsPlace {items = []} s rest d.0 v.kernel Drilled.IsStart (commit_faultless w.kernel s d.0 v.kernel d.2, d.1) d.2);
      leads = leads;
      caused = λ f. absurd (write_apart f);
    }
    stops_place Disk s rest d = absurd d
    stops_place Memory s rest d = record {
      items = [];
      hears = until_none Memory Drill [] l.items m.items old new d.0 d.1;
      drilled = (w.kernel, s ∷ rest, Drilled.IsStart, lacks_place w.kernel v.kernel s rest d.2);
      leads = leads;
      caused = λ f. absurd (memory_apart f);
    }

    -- the disk failed, and that was told
    pub stops_disk : (line : List ℕ) (event : Event) (d : Does event false End w.kernel l old v.kernel m new) → said Drill line ≡ Ok (Step event) → Rose (faults w.disk) (faults v.disk)
        → Stops tells takes faults moment images (Next.Tells []) Disk (line ∷ []) l w old m v new
    stops_disk line event d e rose = record {
      items = Stepped event d.answer false ∷ [];
      hears = until_heard Disk Drill (line ∷ []) (Stepped event d.answer false ∷ []) l.items m.items old new
          (hears_item Drill (line ∷ []) (Stepped event d.answer false) l.items m.items old new (ap (λ r. r ∷ []) (sym e)) d.kept d.written);
      drilled = failed_event w.kernel v.kernel event d.answer d.follows d.answers;
      leads = leads;
      caused = λ f. rose;
    }
