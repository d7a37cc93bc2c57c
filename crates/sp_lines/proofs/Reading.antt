-- What a run has done, by what its reader came to; and what it has read and written, by what is said of its lines.
use Rattle.std.proofs.Common.{◌≡◌, ℕ, ◌≤◌, ◌<◌, ◌^◌, Bool, true, false, cond, not, List, [], ◌∷◌, ◌++◌, map, length, Option, refl, sym, ap, ◌∙◌, subst, arith}
use Rattle.std.proofs.lemmas.List.{map-append}
use Rattle.std.specs.Io.KnownBytes.{Appends}
use Rattle.sp_text.specs.Grammar.{said}
use Rattle.sp_text.specs.Lines.{is_blank}
use Rattle.sp_text.specs.declared.form.Form.{Form}
use Rattle.sp_text.specs.Transcripts.{heard}
use Rattle.sp_text.specs.declared.types.Item.{Item}
use Rattle.sp_text.specs.declared.types.End.{End}
use Rattle.sp_text.specs.declared.types.End.TheVariants.{Input, Usage, ReadFault, WriteFault, DiskFault, Foreign, Damaged, Memory as OutOfMemory, Long}
use Rattle.sp_lines.specs.declared.fault.Fault.{Fault}
use Rattle.sp_lines.specs.declared.fault.Fault.TheVariants.{Write, Disk, Memory}
use Rattle.sp_lines.specs.Cutting.{answered, cut_after}
use Rattle.sp_lines.specs.Hearing.{GoesThrough, GoesSoFar, StopsWithin, RunsTo, EndsRun, end_of}
use Rattle.sp_lines.specs.Keeping.{WrittenAt, HeardFront}
use Rattle.sp_lines.specs.Reading.{ReadsPart, ReadsTo, WritesTo}
use Rattle.sp_lines.proofs.CutLines.{answered-append}
use Rattle.sp_lines.specs.Pending.{Pending}
use Rattle.sp_lines.specs.Taking.{HasTaken}
use Rattle.sp_lines.proofs.Taking.{further}
use Rattle.sp_lines.proofs.Whole.{heard_whole}

one_line : (form : Form) (line : List ℕ) (b : Bool) → length (map (said form) (cond (not b) (line ∷ []) [])) ≤ 1
one_line form line true = omega arith
one_line form line false = omega arith

says-append : (form : Form) (a b : List (List ℕ)) → map (said form) (answered (a ++ b)) ≡ map (said form) (answered a) ++ map (said form) (answered b)
says-append form a b = ap (map (said form)) (answered-append a b) ∙ map-append (said form) (answered a) (answered b)

-- a run ends by a fault
by_fault : (Went : Bool → List (List ℕ) → Type 0) (Stopped : Fault → List (List ℕ) → Type 0) (fault : Fault) (left rest : Option (List ℕ))
    → StopsWithin Stopped fault left rest → RunsTo Went Stopped (end_of fault) left rest
by_fault Went Stopped Write left rest h = h
by_fault Went Stopped Disk left rest h = h
by_fault Went Stopped Memory left rest h = h

pub stopped_by : (Went : Bool → List (List ℕ) → Type 0) (Stopped : Fault → List (List ℕ) → Type 0) (fault : Fault) (end : End) (left rest : Option (List ℕ))
    → end ≡ end_of fault → StopsWithin Stopped fault left rest → RunsTo Went Stopped end left rest
stopped_by Went Stopped fault end left rest e h =
    let P : End → Type 0 = λ x. RunsTo Went Stopped x left rest in
    subst P (sym e) (by_fault Went Stopped fault left rest h)

-- A run by what its reader came to, where it has taken these lines and they were answered.
module _ (Went : Bool → List (List ℕ) → Type 0) (start left : Option (List ℕ)) (lines : List (List ℕ)) where
  -- the end of the input was heard too
  pub ended_run : GoesThrough (λ ended l. l ≡ lines) start left → Went true lines → GoesThrough Went start left
  ended_run h w = record { bytes = h.bytes; read = h.read; end = h.end; short = h.short; went = subst (Went true) (sym h.went) w }

  so_far_went : (g : GoesSoFar (λ ended l. l ≡ lines) start left) → Went false lines → (w : GoesSoFar Went start left) × (w.bytes ≡ g.bytes)
  so_far_went g w = (record { bytes = g.bytes; read = g.read; went = subst (Went false) (sym g.went) w }, refl)

  -- the source failed, or gave all that is read at most
  pub failed_run : (g : GoesSoFar (λ ended l. l ≡ lines) start left) × (length g.bytes < 2 ^ 32) → Went false lines
      → (g : GoesSoFar Went start left) × (length g.bytes < 2 ^ 32)
  failed_run h w = let g = so_far_went h.0 w in (g.0, omega (arith, h.1, ap length g.1))

  pub long_run : (g : GoesSoFar (λ ended l. l ≡ lines) start left) × (length g.bytes ≡ 2 ^ 32) → Went false lines
      → (g : GoesSoFar Went start left) × (length g.bytes ≡ 2 ^ 32)
  long_run h w = let g = so_far_went h.0 w in (g.0, ap length g.1 ∙ h.1)

-- A run that a fault stopped, while one of these lines was answered or behind them.
module _ (Stopped : Fault → List (List ℕ) → Type 0) (start left : Option (List ℕ)) (lines : List (List ℕ)) where
  -- there was no memory for a line, or what was written could not be handed on before the next
  pub unheard_run : (fault : Fault) → StopsWithin (λ fault l. (others : List (List ℕ)) × (l ≡ lines ++ others)) fault start left
      → ((others : List (List ℕ)) → Stopped fault (lines ++ others)) → StopsWithin Stopped fault start left
  unheard_run fault h s = record { bytes = h.bytes; read = h.read; stopped = subst (Stopped fault) (sym h.stopped.1) (s h.stopped.0) }

  module _ (Went : Bool → List (List ℕ) → Type 0) (fault : Fault) (end : End) (told : end ≡ end_of fault) where
    -- the source has ended
    pub faulty_end : GoesThrough (λ ended l. l ≡ lines) start left → Stopped fault lines → RunsTo Went Stopped end start left
    faulty_end h s = stopped_by Went Stopped fault end start left told (record { bytes = h.bytes; read = h.read; stopped = subst (Stopped fault) (sym h.went) s })

    -- it has not
    pub faulty_run : (pending : Pending) (rest : List ℕ) → HasTaken start left pending rest lines
        → ((others : List (List ℕ)) → Stopped fault (lines ++ others)) → RunsTo Went Stopped end start left
    faulty_run pending rest h s =
        let more = further start left pending rest lines h in
        stopped_by Went Stopped fault end start left told (record { bytes = h.cut ++ pending.bytes; read = h.read; stopped = subst (Stopped fault) (sym more.1) (s more.0) })

-- which ends never come
pub ends_run : (Went : Bool → List (List ℕ) → Type 0) (Stopped : Fault → List (List ℕ) → Type 0) (end : End) (left rest : Option (List ℕ))
    → RunsTo Went Stopped end left rest → EndsRun end
ends_run Went Stopped Input left rest h = tt
ends_run Went Stopped ReadFault left rest h = tt
ends_run Went Stopped Long left rest h = tt
ends_run Went Stopped WriteFault left rest h = tt
ends_run Went Stopped DiskFault left rest h = tt
ends_run Went Stopped OutOfMemory left rest h = tt
ends_run Went Stopped Usage left rest h = h
ends_run Went Stopped Foreign left rest h = h
ends_run Went Stopped (Damaged offset) left rest h = h

-- What was read, where the items are those of the lines that were answered.
module _ (form : Form) (items : List Item) (Went : Bool → List (List ℕ) → Type 0) (Stopped : Fault → List (List ℕ) → Type 0)
    (went_heard : (ended : Bool) (l : List (List ℕ)) → Went ended l → heard form items ≡ map (said form) l)
    (stopped_heard : (fault : Fault) (l : List (List ℕ)) → Stopped fault l → HeardFront form l items) where
  so_far : (left rest : Option (List ℕ)) (g : GoesSoFar Went left rest)
      → (part : ReadsPart form left rest items) × (length part.unanswered ≤ 1) × (part.bytes ≡ g.bytes)
  so_far left rest g =
      let cut = cut_after [] g.bytes in (
        record {
          bytes = g.bytes;
          read = g.read;
          unanswered = map (said form) (answered (cut.rest ∷ []));
          heard_as = sym (heard_whole form g.bytes) ∙ says-append form cut.lines (cut.rest ∷ [])
              ∙ ap (λ x. x ++ map (said form) (answered (cut.rest ∷ []))) (sym (went_heard false (answered cut.lines) g.went));
        },
        one_line form _ (is_blank cut.rest),
        refl,
      )

  within : (fault : Fault) (left rest : Option (List ℕ)) → StopsWithin Stopped fault left rest → ReadsPart form left rest items
  within fault left rest h =
      let p = stopped_heard fault _ h.stopped in
      record {
        bytes = h.bytes;
        read = h.read;
        unanswered = map (said form) p.unanswered;
        heard_as = sym (heard_whole form h.bytes) ∙ ap (map (said form)) p.parts ∙ map-append (said form) p.front p.unanswered
            ∙ ap (λ x. x ++ map (said form) p.unanswered) (sym p.heard_as);
      }

  pub reads_to : (end : End) (left rest : Option (List ℕ)) → RunsTo Went Stopped end left rest → ReadsTo form end left rest items
  reads_to Input left rest h = record {
    bytes = h.bytes;
    read = h.read;
    end = h.end;
    short = h.short;
    heard_as = went_heard true _ h.went ∙ heard_whole form h.bytes;
  }
  reads_to ReadFault left rest h = let p = so_far left rest h.0 in (p.0, p.1, omega (arith, h.1, ap length p.2))
  reads_to Long left rest h = let p = so_far left rest h.0 in (p.0, p.1, ap length p.2 ∙ h.1)
  reads_to WriteFault left rest h = within Write left rest h
  reads_to DiskFault left rest h = within Disk left rest h
  reads_to OutOfMemory left rest h = within Memory left rest h
  reads_to Usage left rest h = absurd h
  reads_to Foreign left rest h = absurd h
  reads_to (Damaged offset) left rest h = absurd h

-- What was written, where it is said of the lines.
module _ (text : List ℕ) (old new : Option (List ℕ)) (Went : Bool → List (List ℕ) → Type 0) (Stopped : Fault → List (List ℕ) → Type 0)
    (went_written : (ended : Bool) (l : List (List ℕ)) → Went ended l → Appends old new text)
    (stopped_written : (fault : Fault) (l : List (List ℕ)) → Stopped fault l → WrittenAt fault old new text) where
  pub writes_to : (end : End) (left rest : Option (List ℕ)) → RunsTo Went Stopped end left rest → WritesTo end old new text
  writes_to Input left rest h = went_written true _ h.went
  writes_to ReadFault left rest h = went_written false _ h.0.went
  writes_to Long left rest h = went_written false _ h.0.went
  writes_to WriteFault left rest h = stopped_written Write _ h.stopped
  writes_to DiskFault left rest h = stopped_written Disk _ h.stopped
  writes_to OutOfMemory left rest h = stopped_written Memory _ h.stopped
  writes_to Usage left rest h = absurd h
  writes_to Foreign left rest h = absurd h
  writes_to (Damaged offset) left rest h = absurd h
