-- What a run of a script in memory comes to, over a source and a sink that never fail.
use Rattle.std.proofs.Common.{rules, ◌≡◌, ◌⊎◌, inl, inr, ℕ, ◌<◌, ◌^◌, List, [], ◌++◌, map, length, Option, Some, None, Result, refl, sym, ap, ◌∙◌, subst, arith}
use Rattle.std.specs.Io.KnownBytes.{Consumes, IsAtEnd}
use Rattle.std.proofs.lemmas.List.{length-append}
use Rattle.sp_io.specs.Faults.{Rose}
use Rattle.sp_rect.specs.Serial.{Serial}
use Rattle.sp_node.specs.declared.node.Shape.{Shape}
use Rattle.sp_text.specs.Grammar.{said, Wrong}
use Rattle.sp_text.specs.declared.types.Said.{Said}
use Rattle.sp_text.specs.Lines.{lines}
use Rattle.sp_text.specs.Transcripts.{heard}
use Rattle.sp_text.specs.declared.form.Form.TheVariants.{Play}
use Rattle.sp_text.specs.declared.types.Item.{Item}
use Rattle.sp_text.specs.declared.types.End.{End}
use Rattle.sp_text.specs.declared.types.End.TheVariants.{Input, Usage, ReadFault, WriteFault, DiskFault, Foreign, Damaged, Memory, Long}
use Rattle.sp_lines.specs.Hearing.{EndsRun}
use Rattle.sp_lines.specs.Reading.{ReadsPart, ReadsTo}
use Rattle.sp_audit.specs.History.{History}
use Rattle.sp_runs.specs.declared.language.Language.TheVariants.{Commands}
use Rattle.sp_runs.specs.Opening.{RunsFrom, RunsInMemory}
use Rattle.sp_runs.specs.Running.{IsCutShort, IsTold, IsNotRun}
use Rattle.sp_runs.proofs.Shortening.{when_cut, cut_from, cut_told}
use Rattle.sp_runs.proofs.Telling.{none_told}
use Rattle.sp_runs.specs.Writing.{last_line, WritesOrFails}
use Rattle.sp_stress.specs.Stressing.{HearsScript, PlaysScript, EndsPlaying, EndsStress, WritesSummary}
use Rattle.sp_stress.proofs.Bases.{played_base}

append-nil : (x : List ℕ) → x ++ [] ≡ x
append-nil x = search rules

unrisen : Rose 0 0 → ⊥
unrisen r = omega (arith, r)

-- no more is read than the script
part_short : (script : List ℕ) (rest : Option (List ℕ)) (bytes : List ℕ) → length script < 2 ^ 32 → Consumes (Some script) rest bytes → length bytes ≡ 2 ^ 32 → ⊥
part_short script None bytes short c e = absurd c
part_short script (Some rest) bytes short c e = omega (arith, ap length c, length-append bytes rest)

whole_read : (script : List ℕ) (rest : Option (List ℕ)) (bytes : List ℕ) → Consumes (Some script) rest bytes → IsAtEnd rest → bytes ≡ script
whole_read script None bytes c e = absurd c
whole_read script (Some rest) bytes c e = sym (c ∙ ap (λ l. bytes ++ l) e ∙ append-nil bytes)

module _ (script : List ℕ) (items : List Item) where
  pub ends_playing : (end : End) (rest : Option (List ℕ)) → length script < 2 ^ 32 → ReadsTo Play end (Some script) rest items → (end ≡ ReadFault → Rose 0 0) → (end ≡ WriteFault → Rose 0 0)
      → EndsRun end → (end ≡ DiskFault → ⊥) → EndsPlaying end
  ends_playing Input rest short r read write runs disk = tt
  ends_playing Memory rest short r read write runs disk = tt
  ends_playing ReadFault rest short r read write runs disk = unrisen (read refl)
  ends_playing WriteFault rest short r read write runs disk = unrisen (write refl)
  ends_playing DiskFault rest short r read write runs disk = disk refl
  ends_playing Long rest short r read write runs disk = part_short script rest r.0.bytes short r.0.read r.2
  ends_playing Usage rest short r read write runs disk = runs
  ends_playing Foreign rest short r read write runs disk = runs
  ends_playing (Damaged offset) rest short r read write runs disk = runs

  part_heard : (rest : Option (List ℕ)) → ReadsPart Play (Some script) rest items → HearsScript Memory script items
  part_heard None r = absurd r.read
  part_heard (Some rest) r = (rest, r)

  pub hears_script : (end : End) (rest : Option (List ℕ)) → EndsPlaying end → ReadsTo Play end (Some script) rest items → HearsScript end script items
  hears_script Input rest e r = r.heard_as ∙ ap (λ l. map (said Play) (lines l)) (whole_read script rest r.bytes r.read r.end)
  hears_script Memory rest e r = part_heard rest r
  hears_script ReadFault rest e r = absurd e
  hears_script WriteFault rest e r = absurd e
  hears_script DiskFault rest e r = absurd e
  hears_script Long rest e r = absurd e
  hears_script Usage rest e r = absurd e
  hears_script Foreign rest e r = absurd e
  hears_script (Damaged offset) rest e r = absurd e

-- the run began without records
pub run_base : (shape : Shape) (end : End) (items : List Item) (audit : History) → RunsInMemory Commands shape end items audit → audit.base ≡ []
run_base shape end items audit (inl h) = h.audited.base ∙ played_base end h.start items h.last h.runs.answers ∙ h.opened.base
run_base shape end items audit (inr h) = h.1.base

-- nothing is heard where there is no memory for the script
pub unplayed_script : (shape : Shape) (script : List ℕ) (end : End) (items : List Item) (audit : History) → end ≡ Memory → IsNotRun items audit → Serial audit.base audit.commits → PlaysScript shape script end items audit
unplayed_script shape script end items audit e none serial = record {
  runs = inr (e, none);
  heard_as = subst (λ (x : End). HearsScript x script items) (sym e) (subst (λ (x : List Item). HearsScript Memory script x) (sym none.silent) nothing);
  told = none_told end items audit none;
  serial = serial;
}
  where
    nothing : HearsScript Memory script []
    nothing = (script, record { bytes = []; read = refl; unanswered = []; heard_as = refl })

-- all of the script was heard, and then there was no memory
whole_heard : (script : List ℕ) (items : List Item) → HearsScript Input script items → HearsScript Memory script items
whole_heard script items h = ([], record { bytes = script; read = sym (append-nil script); unanswered = []; heard_as = sym h ∙ sym (append-nil-said _) })
  where
    append-nil-said : (x : List (Result Said Wrong)) → x ++ [] ≡ x
    append-nil-said x = search rules

-- the write of the summary may end otherwise
pub cut_script : (shape : Shape) (script : List ℕ) (before end : End) (items : List Item) (audit : History) → IsCutShort before end → PlaysScript shape script before items audit → PlaysScript shape script end items audit
cut_script shape script before end items audit cut h = record {
  runs = cut_from Commands shape before end items audit cut h.runs;
  heard_as = when_cut (λ (e : End). HearsScript e script items) before end cut (λ x. x) (whole_heard script items) h.heard_as;
  told = cut_told before end items audit cut h.told;
  serial = h.serial;
}

-- a run that was played to its end may end so behind that
pub short_behind : (before end : End) → before ≡ Input → EndsStress end → IsCutShort before end
short_behind before Input e h = inl (sym e)
short_behind before WriteFault e h = inr (e, inl refl)
short_behind before Memory e h = inr (e, inr refl)
short_behind before Usage e h = absurd h
short_behind before ReadFault e h = absurd h
short_behind before DiskFault e h = absurd h
short_behind before Foreign e h = absurd h
short_behind before (Damaged offset) e h = absurd h
short_behind before Long e h = absurd h

-- one that was not wanted memory, whose line is written
pub lacks_memory : (end : End) → EndsPlaying end → (end ≡ Input → ⊥) → end ≡ Memory
lacks_memory Memory h other = refl
lacks_memory Input h other = absurd (other refl)
lacks_memory WriteFault h other = absurd h
lacks_memory Usage h other = absurd h
lacks_memory ReadFault h other = absurd h
lacks_memory DiskFault h other = absurd h
lacks_memory Foreign h other = absurd h
lacks_memory (Damaged offset) h other = absurd h
lacks_memory Long h other = absurd h

pub lacks_ends : (end : End) → end ≡ Memory → EndsStress end
lacks_ends end e = subst EndsStress (sym e) tt

pub lacks_written : (end : End) (a b : Option (List ℕ)) (k n : ℕ) (summary : List ℕ) → end ≡ Memory → WritesOrFails a b k n (last_line end) → WritesSummary end a b k n summary
lacks_written end a b k n summary e h =
    subst (λ (x : End). WritesSummary x a b k n summary) (sym e) (subst (λ (x : End). WritesOrFails a b k n (last_line x)) e h)

pub lacks_write : (end : End) (P : Type 0) → end ≡ Memory → end ≡ WriteFault → P
lacks_write end P e w = absurd (apart (sym e ∙ w))
  where
    apart : Memory ≡ WriteFault → ⊥
    apart q = cc

-- the text is the script
pub script_is : (shape : Shape) (text script : List ℕ) (end : End) (items : List Item) (audit : History) → text ≡ script → PlaysScript shape text end items audit → PlaysScript shape script end items audit
script_is shape text script end items audit e h = subst (λ (l : List ℕ). PlaysScript shape l end items audit) e h
