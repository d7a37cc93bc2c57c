-- A course of one event.
use Rattle.std.proofs.Common.{◌≡◌, ◌⊎◌, ℕ, ◌≤◌, Bool, IsTrue, List, None, inl, inr}
use Rattle.sp_disk.specs.Faults.{Rose}
use Rattle.sp_disk.specs.Moments.{LeavesOnly}
use Rattle.sp_event.specs.declared.event.Event.{Event}
use Rattle.sp_event.specs.declared.answer.Answer.{Answer}
use Rattle.sp_event.specs.declared.answer.Answer.TheVariants.{DiskFault}
use Rattle.sp_journal.specs.Kinds.{KeepsOneOf}
use Rattle.sp_journal.specs.declared.work.Phase.{Phase}
use Rattle.sp_journal.specs.declared.work.Phase.TheVariants.{Ready, Written, Settled, Opened, Broken}
use Rattle.sp_model.specs.State.{Kernel}
use Rattle.sp_durable.specs.Recovered.{HoldsOrMore, IsLeftInCall}
use Rattle.sp_kernel.specs.Answers.{Answers}
use Rattle.sp_kernel.specs.Whole.{Whole}
use Rattle.sp_desk.specs.Course.{Course}
use Rattle.sp_desk.proofs.Joining.{leads_none, leads_one}
use Rattle.sp_desk.proofs.Answering.{answer_stops}

-- what a stop in a call leaves
left_in_call : (phase : Phase) (k : Kernel) (file : List ℕ) → IsLeftInCall phase k file → HoldsOrMore k file
left_in_call Ready k file h = inl h
left_in_call Written k file h = inl h
left_in_call Settled k file h = h
left_in_call Opened k file h = h
left_in_call Broken k file h = h

module _ {D : Type 0} (tells takes : D → Bool) (faults moment : D → ℕ) (images : D → ℕ → List ℕ → Type 0) where
  -- one event
  pub course_one : (v w : Whole D) (event : Event) (answer : Answer) → Answers v.kernel event answer w.kernel
      → (IsTrue (tells v.disk) → LeavesOnly (moment v.disk) (moment w.disk) (images v.disk) (images w.disk) (IsLeftInCall v.work.phase v.kernel))
      → (IsTrue (tells v.disk) → LeavesOnly (moment v.disk) (moment w.disk) (images v.disk) (images w.disk) (KeepsOneOf (images v.disk (moment v.disk))))
      → faults v.disk ≤ faults w.disk → (answer ≡ DiskFault → Rose (faults v.disk) (faults w.disk)) → tells w.disk ≡ tells v.disk → takes w.disk ≡ takes v.disk
      → Course tells takes faults moment images v w
  course_one v w event answer answers crash kinds later fault same_tells same_takes = record {
    leads = leads_one v.kernel event answer w.kernel answers;
    crash = λ t. inr (let c = crash t in record {
      later = c.later;
      each = λ i file low high left. record {
        between = v.kernel;
        before = leads_none v.kernel;
        behind = leads_one v.kernel event answer w.kernel answers;
        holds = left_in_call v.work.phase v.kernel file (c.each i file low high left);
      };
      past = c.past;
    });
    kinds = kinds;
    later = later;
    stops = λ e. fold_or (answer_stops v.kernel event answer w.kernel answers e);
    same_tells = same_tells;
    same_takes = same_takes;
  }
    where
      fold_or : (w.kernel.stopped ≡ None) ⊎ (answer ≡ DiskFault) → (w.kernel.stopped ≡ None) ⊎ Rose (faults v.disk) (faults w.disk)
      fold_or (inl e) = inl e
      fold_or (inr e) = inr (fault e)
