-- A whole run: what was heard, written and done of it.
use Rattle.std.proofs.Common.{◌≡◌, ◌≢◌, ◌⊎◌, ℕ, Bool, true, false, List, [], ◌∷◌, ◌++◌, map, Option, None, Result, refl, sym, ap, ◌∙◌, subst, inl, inr}
use Rattle.std.specs.Io.KnownBytes.{Appends}
use Rattle.sp_disk.specs.Faults.{Rose}
use Rattle.sp_text.specs.Grammar.{said, Wrong}
use Rattle.sp_text.specs.Texts.{render}
use Rattle.sp_text.specs.Transcripts.{heard}
use Rattle.sp_text.specs.declared.form.Form.TheVariants.{Play}
use Rattle.sp_text.specs.declared.types.Said.{Said}
use Rattle.sp_text.specs.declared.types.Item.{Item}
use Rattle.sp_text.specs.declared.types.End.{End}
use Rattle.sp_text.specs.declared.types.End.TheVariants.{Input, Usage, ReadFault, WriteFault, DiskFault, Foreign, Damaged, Memory as OutOfMemory, Long}
use Rattle.sp_lines.specs.declared.fault.Fault.{Fault}
use Rattle.sp_lines.specs.Hearing.{RunsTo}
use Rattle.sp_lines.specs.Keeping.{HeardFront, WrittenAt}
use Rattle.sp_lines.specs.Reading.{ReadsTo, WritesTo}
use Rattle.sp_lines.proofs.Reading.{reads_to, writes_to}
use Rattle.sp_model.specs.State.{Kernel}
use Rattle.sp_kernel.specs.Whole.{Whole}
use Rattle.sp_desk.specs.declared.stalled.Stalled.{Stalled}
use Rattle.sp_desk.specs.Course.{Course}
use Rattle.sp_desk.specs.Playing.{Turn, Plays, AreOver}
use Rattle.sp_desk.specs.Hearing.{Place, Went, Halted, script_sessions}
use Rattle.sp_desk.specs.Script.{PlaysUpTo, PlaysPart, PlaysTo}

-- the first ones of these lines, by what they say
record Front (lines : List (List ℕ)) (says : List (Result Said Wrong)) : Type 0 where
  pub front : List (List ℕ)
  pub unanswered : List (List ℕ)
  pub parts : lines ≡ front ++ unanswered
  pub same : says ≡ map (said Play) front

first_of : (lines : List (List ℕ)) (says rest : List (Result Said Wrong)) → map (said Play) lines ≡ says ++ rest → Front lines says
first_of lines [] rest e = record { front = []; unanswered = lines; parts = refl; same = refl }
first_of [] (x ∷ says) rest e = absurd (differ e)
  where
    differ : [] ≡ x ∷ (says ++ rest) → ⊥
    differ h = cc
first_of (line ∷ lines) (x ∷ says) rest e =
    let h = first_of lines says rest (tail e) in
    record { front = line ∷ h.front; unanswered = h.unanswered; parts = ap (λ l. line ∷ l) h.parts; same = join (head e) h.same }
  where
    head : said Play line ∷ map (said Play) lines ≡ x ∷ (says ++ rest) → said Play line ≡ x
    head h = cc

    tail : said Play line ∷ map (said Play) lines ≡ x ∷ (says ++ rest) → map (said Play) lines ≡ says ++ rest
    tail h = cc

    join : {others : List (Result Said Wrong)} → said Play line ≡ x → says ≡ others → x ∷ says ≡ said Play line ∷ others
    join a b = cc

module _ {D : Type 0} (tells takes : D → Bool) (faults moment : D → ℕ) (images : D → ℕ → List ℕ → Type 0) (p z : Place) (u v : Whole D) (fresh : p.items ≡ []) where
  abbrev WentOn : Bool → List (List ℕ) → Type 0
  WentOn ended lines = Went tells takes faults moment images ended lines p u z v

  abbrev HaltedBy : Fault → List (List ℕ) → Type 0
  HaltedBy fault lines = Halted tells takes faults moment images fault lines p u z v

  -- the items are all
  all : (items : List Item) → z.items ≡ p.items ++ items → items ≡ z.items
  all items kept = sym (kept ∙ ap (λ (x : List Item). x ++ items) fresh)

  went_heard : (ended : Bool) (l : List (List ℕ)) → WentOn ended l → heard Play z.items ≡ map (said Play) l
  went_heard ended l g = let a = g.answers.passes in ap (heard Play) (sym (all a.items a.kept)) ∙ a.heard_as

  halted_heard : (fault : Fault) (l : List (List ℕ)) → HaltedBy fault l → HeardFront Play l z.items
  halted_heard fault l g =
      let a = g.stops.stops in
      let h = first_of l (heard Play a.items) a.unanswered a.heard_as in
      record { front = h.front; unanswered = h.unanswered; parts = h.parts; heard_as = ap (heard Play) (sym (all a.items a.kept)) ∙ h.same }

  went_written : (ended : Bool) (l : List (List ℕ)) → WentOn ended l → Appends p.taken z.taken (render Play z.items)
  went_written ended l g = let a = g.answers.passes in subst (λ (is : List Item). Appends p.taken z.taken (render Play is)) (all a.items a.kept) a.written

  halted_written : (fault : Fault) (l : List (List ℕ)) → HaltedBy fault l → WrittenAt fault p.taken z.taken (render Play z.items)
  halted_written fault l g = let a = g.stops.stops in subst (λ (is : List Item). WrittenAt fault p.taken z.taken (render Play is)) (all a.items a.kept) a.written

  module _ (alone : p.waiting ≡ []) where
    from_start : (turn : Turn) (items : List Item) (n : Kernel) (w : List Stalled) → z.items ≡ p.items ++ items → Plays p.kernel p.waiting Turn.Hearing items n w turn → PlaysUpTo turn p.kernel z.items n
    from_start turn items n w kept plays = record {
      waiting = w;
      plays = subst (λ (l : List Stalled). Plays p.kernel l Turn.Hearing z.items n w turn) alone
          (subst (λ (is : List Item). Plays p.kernel p.waiting Turn.Hearing is n w turn) (all items kept) plays);
    }

    went_on : (l : List (List ℕ)) → WentOn false l → PlaysUpTo Turn.Hearing p.kernel z.items z.kernel
    went_on l g = let a = g.answers.passes in from_start Turn.Hearing a.items z.kernel z.waiting a.kept a.plays

    went_whole : (l : List (List ℕ)) → WentOn true l → PlaysUpTo Turn.Closing p.kernel z.items z.kernel
    went_whole l g = let a = g.answers.passes in from_start Turn.Closing a.items z.kernel z.waiting a.kept a.plays

    halted_part : (fault : Fault) (l : List (List ℕ)) → HaltedBy fault l → PlaysPart p.kernel z.items z.kernel
    halted_part fault l g =
        let a = g.stops.stops in
        record { turn = a.turn; reached = a.reached; plays = from_start a.turn a.items a.reached a.waiting a.kept a.plays; behind = a.leads }

    halted_write : (l : List (List ℕ)) → HaltedBy Fault.Write l → (turn : Turn) × PlaysUpTo turn p.kernel z.items z.kernel
    halted_write l g =
        let a = g.stops.stops in
        (a.turn, subst (λ (n : Kernel). PlaysUpTo a.turn p.kernel z.items n) (sym (a.whole refl)) (from_start a.turn a.items a.reached a.waiting a.kept a.plays))

    pub run_plays : (end : End) (left rest : Option (List ℕ)) → RunsTo WentOn HaltedBy end left rest → PlaysTo end p.kernel z.items z.kernel
    run_plays Input left rest r = went_whole _ r.went
    run_plays ReadFault left rest r = went_on _ r.0.went
    run_plays Long left rest r = went_on _ r.0.went
    run_plays WriteFault left rest r = halted_write _ r.stopped
    run_plays DiskFault left rest r = halted_part Fault.Disk _ r.stopped
    run_plays OutOfMemory left rest r = halted_part Fault.Memory _ r.stopped
    run_plays Usage left rest r = absurd r
    run_plays Foreign left rest r = absurd r
    run_plays (Damaged offset) left rest r = absurd r

  pub run_reads : (end : End) (left rest : Option (List ℕ)) → RunsTo WentOn HaltedBy end left rest → ReadsTo Play end left rest z.items
  run_reads end left rest runs = reads_to Play z.items WentOn HaltedBy went_heard halted_heard end left rest runs

  pub run_writes : (end : End) (left rest : Option (List ℕ)) → RunsTo WentOn HaltedBy end left rest → WritesTo end p.taken z.taken (render Play z.items)
  run_writes end left rest runs = writes_to (render Play z.items) p.taken z.taken WentOn HaltedBy went_written halted_written end left rest runs

  pub run_course : (end : End) (left rest : Option (List ℕ)) → RunsTo WentOn HaltedBy end left rest → Course tells takes faults moment images u v
  run_course Input left rest r = r.went.course
  run_course ReadFault left rest r = r.0.went.course
  run_course Long left rest r = r.0.went.course
  run_course WriteFault left rest r = r.stopped.course
  run_course DiskFault left rest r = r.stopped.course
  run_course OutOfMemory left rest r = r.stopped.course
  run_course Usage left rest r = absurd r
  run_course Foreign left rest r = absurd r
  run_course (Damaged offset) left rest r = absurd r

  -- by what a run that ended so has said
  pub run_closed : (end : End) (left rest : Option (List ℕ)) → RunsTo WentOn HaltedBy end left rest → end ≡ Input → AreOver z.kernel script_sessions
  run_closed end left rest runs e = closed (subst (λ (x : End). RunsTo WentOn HaltedBy x left rest) e runs)
    where
      closed : RunsTo WentOn HaltedBy Input left rest → AreOver z.kernel script_sessions
      closed r = r.went.answers.closed refl

  -- the disk failed where the kernel is stopped that was not before
  pub run_fails : (end : End) (left rest : Option (List ℕ)) → z.kernel ≡ v.kernel → u.kernel.stopped ≡ None → RunsTo WentOn HaltedBy end left rest → end ≡ DiskFault → Rose (faults u.disk) (faults v.disk)
  run_fails end left rest same free runs e = fails (subst (λ (x : End). RunsTo WentOn HaltedBy x left rest) e runs)
    where
      fails : RunsTo WentOn HaltedBy DiskFault left rest → Rose (faults u.disk) (faults v.disk)
      fails r = by_stop (r.stopped.course.stops free)
        where
          stopped : v.kernel.stopped ≢ None
          stopped = subst (λ (n : Kernel). n.stopped ≢ None) same (r.stopped.stops.stopped refl)

          by_stop : (v.kernel.stopped ≡ None) ⊎ Rose (faults u.disk) (faults v.disk) → Rose (faults u.disk) (faults v.disk)
          by_stop (inl none) = absurd (stopped none)
          by_stop (inr rose) = rose
