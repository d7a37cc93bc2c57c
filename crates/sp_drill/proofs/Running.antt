-- A whole run: what was heard, written and done of it.
use Rattle.std.proofs.Common.{◌≡◌, ℕ, Bool, true, false, List, [], ◌∷◌, ◌++◌, map, Option, refl, sym, ap, ◌∙◌, subst, ◌+◌, ◌<◌, length, get_or, drop, add-one, drop-cons}
use Rattle.std.specs.Io.KnownBytes.{Appends}
use Rattle.sp_disk.specs.Faults.{Rose}
use Rattle.sp_text.specs.Grammar.{said}
use Rattle.sp_text.specs.Texts.{render}
use Rattle.sp_text.specs.Transcripts.{heard}
use Rattle.sp_text.specs.declared.form.Form.TheVariants.{Drill}
use Rattle.sp_text.specs.declared.types.Item.{Item}
use Rattle.sp_text.specs.declared.types.End.{End}
use Rattle.sp_text.specs.declared.types.End.TheVariants.{Input, Usage, ReadFault, WriteFault, DiskFault, Foreign, Damaged, Memory as OutOfMemory, Long}
use Rattle.sp_lines.specs.declared.fault.Fault.{Fault}
use Rattle.sp_lines.specs.Hearing.{RunsTo}
use Rattle.sp_lines.specs.Keeping.{Notes, HeardFront, WrittenAt}
use Rattle.sp_lines.specs.Reading.{ReadsTo, WritesTo}
use Rattle.sp_lines.proofs.Reading.{reads_to, writes_to}
use Rattle.sp_kernel.specs.Whole.{Whole}
use Rattle.sp_drill.specs.Leading.{Leads}
use Rattle.sp_drill.specs.Drilling.{Next, Drilled, LeadsBy, DrillsTo}
use Rattle.sp_drill.specs.Hearing.{Goes, Stops}

-- the session that is told next
pub next_session : (xs : List ℕ) (i : ℕ) → i < length xs → drop i xs ≡ get_or xs i 0 ∷ drop (i + 1) xs
next_session xs i h = rw (add-one, drop-cons xs i 0)

module _ {D : Type 0} (tells takes : D → Bool) (faults moment : D → ℕ) (images : D → ℕ → List ℕ → Type 0)
    (before : Notes) (w : Whole D) (old : Option (List ℕ)) (after : Notes) (v : Whole D) (new : Option (List ℕ)) (fresh : before.items ≡ []) where
  abbrev Went : Bool → List (List ℕ) → Type 0
  Went ended lines = Goes tells takes faults moment images (Next.Tells []) (Next.Tells []) lines before w old after v new

  abbrev Stopped : Fault → List (List ℕ) → Type 0
  Stopped fault lines = Stops tells takes faults moment images (Next.Tells []) fault lines before w old after v new

  -- the items are all
  all : (items : List Item) → after.items ≡ before.items ++ items → items ≡ after.items
  all items kept = sym (kept ∙ ap (λ (x : List Item). x ++ items) fresh)

  went_heard : (ended : Bool) (l : List (List ℕ)) → Went ended l → heard Drill after.items ≡ map (said Drill) l
  went_heard ended l g = ap (heard Drill) (sym (all g.items g.hears.kept)) ∙ g.hears.heard_as

  stopped_heard : (fault : Fault) (l : List (List ℕ)) → Stopped fault l → HeardFront Drill l after.items
  stopped_heard fault l s = subst (λ (is : List Item). HeardFront Drill l is) (all s.items s.hears.kept) s.hears.heard_as

  went_written : (ended : Bool) (l : List (List ℕ)) → Went ended l → Appends old new (render Drill after.items)
  went_written ended l g = subst (λ (is : List Item). Appends old new (render Drill is)) (all g.items g.hears.kept) g.hears.written

  stopped_written : (fault : Fault) (l : List (List ℕ)) → Stopped fault l → WrittenAt fault old new (render Drill after.items)
  stopped_written fault l s = subst (λ (is : List Item). WrittenAt fault old new (render Drill is)) (all s.items s.hears.kept) s.hears.written

  went_drilled : (ended : Bool) (l : List (List ℕ)) → Went ended l → Drilled w.kernel (Next.Tells []) after.items v.kernel (Next.Tells [])
  went_drilled ended l g = subst (λ (is : List Item). Drilled w.kernel (Next.Tells []) is v.kernel (Next.Tells [])) (all g.items g.hears.kept) g.drilled

  stopped_drilled : (end : End) (items : List Item) → after.items ≡ before.items ++ items → LeadsBy end w.kernel (Next.Tells []) items v.kernel → DrillsTo end w.kernel after.items v.kernel
  stopped_drilled end items kept h = subst (λ (is : List Item). LeadsBy end w.kernel (Next.Tells []) is v.kernel) (all items kept) h

  module _ (left rest : Option (List ℕ)) where
    pub run_reads : (end : End) → RunsTo Went Stopped end left rest → ReadsTo Drill end left rest after.items
    run_reads end runs = reads_to Drill after.items Went Stopped went_heard stopped_heard end left rest runs

    pub run_writes : (end : End) → RunsTo Went Stopped end left rest → WritesTo end old new (render Drill after.items)
    run_writes end runs = writes_to (render Drill after.items) old new Went Stopped went_written stopped_written end left rest runs

    pub run_leads : (end : End) → RunsTo Went Stopped end left rest → Leads tells takes faults moment images w v
    run_leads Input r = r.went.leads
    run_leads ReadFault r = r.0.went.leads
    run_leads Long r = r.0.went.leads
    run_leads WriteFault r = r.stopped.leads
    run_leads DiskFault r = r.stopped.leads
    run_leads OutOfMemory r = r.stopped.leads
    run_leads Usage r = absurd r
    run_leads Foreign r = absurd r
    run_leads (Damaged offset) r = absurd r

    pub run_drills : (end : End) → RunsTo Went Stopped end left rest → DrillsTo end w.kernel after.items v.kernel
    run_drills Input r = went_drilled true _ r.went
    run_drills ReadFault r = went_drilled false _ r.0.went
    run_drills Long r = went_drilled false _ r.0.went
    run_drills WriteFault r = stopped_drilled WriteFault r.stopped.items r.stopped.hears.kept r.stopped.drilled
    run_drills DiskFault r = stopped_drilled DiskFault r.stopped.items r.stopped.hears.kept r.stopped.drilled
    run_drills OutOfMemory r = stopped_drilled OutOfMemory r.stopped.items r.stopped.hears.kept r.stopped.drilled
    run_drills Usage r = absurd r
    run_drills Foreign r = absurd r
    run_drills (Damaged offset) r = absurd r

    -- the disk failed only where it is told so
    pub run_fails : (end : End) → RunsTo Went Stopped end left rest → end ≡ DiskFault → Rose (faults w.disk) (faults v.disk)
    run_fails DiskFault r e = r.stopped.caused refl
    run_fails Input r e = absurd (input e)
      where
        input : Input ≡ DiskFault → ⊥
        input e = cc
    run_fails ReadFault r e = absurd (read e)
      where
        read : ReadFault ≡ DiskFault → ⊥
        read e = cc
    run_fails Long r e = absurd (long e)
      where
        long : Long ≡ DiskFault → ⊥
        long e = cc
    run_fails WriteFault r e = absurd (write e)
      where
        write : WriteFault ≡ DiskFault → ⊥
        write e = cc
    run_fails OutOfMemory r e = absurd (memory e)
      where
        memory : OutOfMemory ≡ DiskFault → ⊥
        memory e = cc
    run_fails Usage r e = absurd r
    run_fails Foreign r e = absurd r
    run_fails (Damaged offset) r e = absurd r
