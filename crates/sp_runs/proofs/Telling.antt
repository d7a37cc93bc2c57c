-- What a run was told of commits, and its audit.
use Rattle.std.proofs.Common.{◌≡◌, ◌⊎◌, inl, inr, List, [], sym, ap, ◌∙◌, subst}
use Rattle.sp_rect.specs.declared.commit.Commit.{Commit}
use Rattle.sp_node.specs.declared.node.Shape.{Shape}
use Rattle.sp_rect.specs.declared.record.Record.{Record}
use Rattle.sp_event.specs.declared.event.Event.{Event}
use Rattle.sp_event.specs.declared.answer.Answer.{Answer}
use Rattle.sp_text.specs.declared.types.Item.{Item}
use Rattle.sp_text.specs.declared.types.End.{End}
use Rattle.sp_text.specs.declared.types.End.TheVariants.{Input, Usage, ReadFault, WriteFault, DiskFault, Foreign, Damaged, Memory, Long}
use Rattle.sp_text.specs.Transcripts.{committed}
use Rattle.sp_audit.specs.History.{History}
use Rattle.sp_model.specs.State.{Kernel}
use Rattle.sp_kernel.specs.Answers.{Answers}
use Rattle.sp_desk.specs.Course.{Leads}
use Rattle.sp_runs.specs.declared.language.Language.{Language}
use Rattle.sp_runs.specs.declared.language.Language.TheVariants.{Commands, Events}
use Rattle.sp_runs.specs.Scripts.{ToldIn}
use Rattle.sp_runs.specs.Running.{IsTold, IsNotRun}
use Rattle.sp_runs.specs.Opening.{RunsFrom, RunsInMemory}
use Rattle.sp_runs.proofs.Growing.{Grows, grows_none, grows_more, answer_grows, history_grows}

exactly : (x y : List Commit) → y ≡ x → Grows x y
exactly x y e = subst (λ (l : List Commit). Grows x l) (sym e) (grows_none x)

behind : (x : List Commit) (m n : Kernel) → m.commits ≡ x → Leads m n → Grows x n.commits
behind x m n e h = grows_more x m.commits n.commits (exactly x m.commits e) (history_grows m h.steps n h.history)

one_behind : (x : List Commit) (m n : Kernel) → Grows x m.commits → (m ≡ n) ⊎ ((event : Event) × (answer : Answer) × Answers m event answer n) → Grows x n.commits
one_behind x m n g (inl e) = subst (λ (k : Kernel). Grows x k.commits) e g
one_behind x m n g (inr h) = grows_more x m.commits n.commits g (answer_grows m h.0 h.1 n h.2)

-- what was told is a front of what the kernel keeps
front_told : (language : Language) (end : End) (items : List Item) (n : Kernel) → ToldIn language end [] items n → Grows (committed items) n.commits
front_told Commands DiskFault items n h = behind (committed items) h.0 n h.1 h.2
front_told Commands Memory items n h = behind (committed items) h.0 n h.1 h.2
front_told Commands Input items n h = exactly (committed items) n.commits h
front_told Commands Usage items n h = exactly (committed items) n.commits h
front_told Commands ReadFault items n h = exactly (committed items) n.commits h
front_told Commands WriteFault items n h = exactly (committed items) n.commits h
front_told Commands Foreign items n h = exactly (committed items) n.commits h
front_told Commands (Damaged offset) items n h = exactly (committed items) n.commits h
front_told Commands Long items n h = exactly (committed items) n.commits h
front_told Events WriteFault items n h = h
front_told Events Memory items n h = one_behind (committed items) h.0 n h.1 h.2
front_told Events Input items n h = exactly (committed items) n.commits h
front_told Events Usage items n h = exactly (committed items) n.commits h
front_told Events ReadFault items n h = exactly (committed items) n.commits h
front_told Events DiskFault items n h = exactly (committed items) n.commits h
front_told Events Foreign items n h = exactly (committed items) n.commits h
front_told Events (Damaged offset) items n h = exactly (committed items) n.commits h
front_told Events Long items n h = exactly (committed items) n.commits h

all_told : (language : Language) (items : List Item) (n : Kernel) → ToldIn language Input [] items n → n.commits ≡ committed items
all_told Commands items n h = h
all_told Events items n h = h

pub from_told : (language : Language) (shape : Shape) (records : List Record) (end : End) (items : List Item) (audit : History) → RunsFrom language shape records end items audit → IsTold end items audit
from_told language shape records end items audit h =
    let told : ToldIn language end [] items h.last = subst (λ (l : List Commit). ToldIn language end l items h.last) h.opened.commits h.runs.told in
    let front = front_told language end items h.last told in
    record {
      first = (front.0, h.audited.commits ∙ front.1);
      all = λ e. h.audited.commits ∙ all_told language items h.last (subst (λ (x : End). ToldIn language x [] items h.last) e told);
    }

pub none_told : (end : End) (items : List Item) (audit : History) → IsNotRun items audit → IsTold end items audit
none_told end items audit h =
    let none : audit.commits ≡ committed items = h.commits ∙ ap committed (sym h.silent) in
    record { first = exactly (committed items) audit.commits none; all = λ e. none }

pub memory_told : (language : Language) (shape : Shape) (end : End) (items : List Item) (audit : History) → RunsInMemory language shape end items audit → IsTold end items audit
memory_told language shape end items audit (inl h) = from_told language shape [] end items audit h
memory_told language shape end items audit (inr h) = none_told end items audit h.1
