-- A run that came to the end of its input is also one that ended there by a failed write, or for want of memory.
use Rattle.std.proofs.Common.{rules, ◌≡◌, inl, inr, ℕ, List, [], ◌++◌, Option, refl, sym, ap, ◌∙◌, subst}
use Rattle.sp_rect.specs.declared.commit.Commit.{Commit}
use Rattle.sp_node.specs.declared.node.Shape.{Shape}
use Rattle.sp_text.specs.declared.form.Form.{Form}
use Rattle.sp_text.specs.declared.types.Item.{Item}
use Rattle.sp_text.specs.declared.types.End.{End}
use Rattle.sp_text.specs.declared.types.End.TheVariants.{Input, WriteFault, Memory}
use Rattle.sp_text.specs.Transcripts.{committed}
use Rattle.sp_lines.specs.Hearing.{EndsRun}
use Rattle.sp_lines.specs.Reading.{ReadsWhole, ReadsPart, ReadsTo}
use Rattle.sp_audit.specs.History.{History}
use Rattle.sp_model.specs.State.{Kernel}
use Rattle.sp_kernel.specs.Answers.{Histories}
use Rattle.sp_drill.specs.Drilling.{Next, Lacks}
use Rattle.sp_desk.specs.Course.{Leads}
use Rattle.sp_desk.specs.Playing.{Turn}
use Rattle.sp_runs.specs.declared.language.Language.{Language}
use Rattle.sp_runs.specs.declared.language.Language.TheVariants.{Commands, Events}
use Rattle.sp_runs.specs.Scripts.{RunsBy, ToldIn, ClosesIn}
use Rattle.sp_runs.specs.Running.{IsCutShort, Runs, IsTold}
use Rattle.sp_runs.specs.Opening.{RunsInMemory}

append-nil : {A : Type 0} (x : List A) → x ++ [] ≡ x
append-nil x = search rules

-- what holds at the end of the input, and at the two ends that come behind it, holds of a run that was cut short
pub when_cut : (P : End → Type 0) (before end : End) → IsCutShort before end → (P Input → P WriteFault) → (P Input → P Memory) → P before → P end
when_cut P before end (inl is) write memory h = subst P (sym is) h
when_cut P before end (inr (was, inl is)) write memory h = subst P (sym is) (write (subst P was h))
when_cut P before end (inr (was, inr is)) write memory h = subst P (sym is) (memory (subst P was h))

whole_part : (form : Form) (old new : Option (List ℕ)) (items : List Item) → ReadsWhole form old new items → ReadsPart form old new items
whole_part form old new items h = record { bytes = h.bytes; read = h.read; unanswered = []; heard_as = sym h.heard_as ∙ sym (append-nil _) }

pub cut_reads : (form : Form) (old new : Option (List ℕ)) (items : List Item) (before end : End) → IsCutShort before end → ReadsTo form before old new items → ReadsTo form end old new items
cut_reads form old new items before end cut h =
    when_cut (λ (e : End). ReadsTo form e old new items) before end cut (whole_part form old new items) (whole_part form old new items) h

stays : (k : Kernel) → Leads k k
stays k = record { steps = []; history = Histories.Stays }

at_write : (language : Language) (k : Kernel) (items : List Item) (n : Kernel) → RunsBy language Input k items n → RunsBy language WriteFault k items n
at_write Commands k items n h = (Turn.Closing, h)
at_write Events k items n h = (Next.Tells [], h)

at_memory : (language : Language) (k : Kernel) (items : List Item) (n : Kernel) → RunsBy language Input k items n → RunsBy language Memory k items n
at_memory Commands k items n h = record { turn = Turn.Closing; reached = n; plays = h; behind = stays n }
at_memory Events k items n h = (n, [], h, Lacks.IsThere)

told_at_write : (language : Language) (before : List Commit) (items : List Item) (n : Kernel) → ToldIn language Input before items n → ToldIn language WriteFault before items n
told_at_write Commands before items n h = h
told_at_write Events before items n h = ([], h ∙ ap (λ (l : List Commit). before ++ l) (sym (append-nil (committed items))))

told_at_memory : (language : Language) (before : List Commit) (items : List Item) (n : Kernel) → ToldIn language Input before items n → ToldIn language Memory before items n
told_at_memory Commands before items n h = (n, h, stays n)
told_at_memory Events before items n h = (n, told_at_write Events before items n h, inl refl)

apart_memory : Memory ≡ Input → ⊥
apart_memory e = cc

-- a run that ends at the end of its input was not cut short
pub uncut : (before end : End) → IsCutShort before end → end ≡ Input → before ≡ Input
uncut before end (inl is) e = sym is ∙ e
uncut before end (inr cut) e = cut.0

pub cut_runs : (language : Language) (k : Kernel) (items : List Item) (n : Kernel) (before end : End) → IsCutShort before end → RunsBy language before k items n → ToldIn language before k.commits items n → (before ≡ Input → ClosesIn language n)
    → Runs language k end items n
cut_runs language k items n before end cut answers told closed = record {
  answers = when_cut (λ (e : End). RunsBy language e k items n) before end cut (at_write language k items n) (at_memory language k items n) answers;
  told = when_cut (λ (e : End). ToldIn language e k.commits items n) before end cut (told_at_write language k.commits items n) (told_at_memory language k.commits items n) told;
  closed = λ e. closed (uncut before end cut e);
}

pub cut_ends : (before end : End) → IsCutShort before end → EndsRun before → EndsRun end
cut_ends before end cut h = when_cut EndsRun before end cut (λ x. tt) (λ x. tt) h

-- a run is cut short in the same way whichever kernel it began with
pub cut_from : (language : Language) (shape : Shape) (before end : End) (items : List Item) (audit : History) → IsCutShort before end → RunsInMemory language shape before items audit → RunsInMemory language shape end items audit
cut_from language shape before end items audit cut (inl h) = inl (record {
  start = h.start;
  opened = h.opened;
  sound = h.sound;
  last = h.last;
  runs = cut_runs language h.start items h.last before end cut h.runs.answers h.runs.told h.runs.closed;
  audited = h.audited;
})
cut_from language shape before end items audit (inl is) (inr h) = inr (is ∙ h.0, h.1)
cut_from language shape before end items audit (inr cut) (inr h) = absurd (apart_memory (sym h.0 ∙ cut.0))

pub cut_told : (before end : End) (items : List Item) (audit : History) → IsCutShort before end → IsTold before items audit → IsTold end items audit
cut_told before end items audit cut h = record { first = h.first; all = λ e. h.all (uncut before end cut e) }
