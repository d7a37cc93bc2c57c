-- What events do on the way from kernel to kernel.
use Rattle.std.proofs.Common.{◌≡◌, ◌⊎◌, inl, inr, ◌≤◌, ℕ, Bool, IsTrue, List, [], ◌∷◌, ◌++◌, sym, subst, arith}
use Rattle.sp_disk.specs.Moments.{LeavesOnly}
use Rattle.sp_event.specs.declared.event.Event.{Event}
use Rattle.sp_event.specs.declared.answer.Answer.{Answer}
use Rattle.sp_journal.specs.Kinds.{KeepsOneOf}
use Rattle.sp_journal.specs.declared.work.Phase.{Phase}
use Rattle.sp_journal.specs.declared.work.Phase.TheVariants.{Ready, Written, Settled, Opened, Broken}
use Rattle.sp_model.specs.State.{Kernel}
use Rattle.sp_model.specs.Soundness.{Sound}
use Rattle.sp_durable.specs.Recovered.{HoldsOrMore, IsLeftInCall}
use Rattle.sp_kernel.specs.Answers.{Answers, Histories}
use Rattle.sp_kernel.specs.Whole.{Whole}
use Rattle.sp_kernel.proofs.Going.{history_keeps, history_base}
use Rattle.sp_drill.specs.Leading.{LeadsTo, IsLeftBetween, Leads}
use Rattle.sp_drill.proofs.Joining.{stays}

-- one event with its answer
pub one_step : (k : Kernel) (event : Event) (answer : Answer) (n : Kernel) → Answers k event answer n → LeadsTo k n
one_step k event answer n a = ([] ++ record { event = event; answer = answer } ∷ [], Histories.Goes k [] (record { event = event; answer = answer }) Histories.Stays a)

pub keeps_sound : (k n : Kernel) → LeadsTo k n → Sound k → Sound n
keeps_sound k n p sound = history_keeps k p.0 n sound p.1

pub keeps_base : (k n : Kernel) → LeadsTo k n → n.base ≡ k.base
keeps_base k n p = history_base k p.0 n p.1

-- what a call leaves is what the kernel has, perhaps with the batch in flight
held_in_call : (phase : Phase) (k : Kernel) (file : List ℕ) → IsLeftInCall phase k file → HoldsOrMore k file
held_in_call Ready k file h = inl h
held_in_call Written k file h = inl h
held_in_call Settled k file h = h
held_in_call Opened k file h = h
held_in_call Broken k file h = h

left_at_start : (k n : Kernel) (file : List ℕ) → LeadsTo k n → HoldsOrMore k file → IsLeftBetween k n file
left_at_start k n file goes h = record { kernel = k; before = stays k; after = goes; holds = h }

leaves_weaker : (a b : ℕ) (x y : ℕ → List ℕ → Type 0) (P Q : List ℕ → Type 0) → ((file : List ℕ) → P file → Q file) → LeavesOnly a b x y P → LeavesOnly a b x y Q
leaves_weaker a b x y P Q weaker p = record { later = p.later; each = λ k file low high left. weaker file (p.each k file low high left); past = p.past }

module _ {D : Type 0} (tells takes : D → Bool) (faults moment : D → ℕ) (images : D → ℕ → List ℕ → Type 0) where
  abbrev LeavesBetween : Whole D → Whole D → Type 0
  LeavesBetween w v = LeavesOnly (moment w.disk) (moment v.disk) (images w.disk) (images v.disk) (IsLeftBetween w.kernel v.kernel)

  pub leads_step : (w v : Whole D) (event : Event) (answer : Answer) (phase : Phase) → Answers w.kernel event answer v.kernel
      → (IsTrue (tells w.disk) → LeavesOnly (moment w.disk) (moment v.disk) (images w.disk) (images v.disk) (IsLeftInCall phase w.kernel))
      → (IsTrue (tells w.disk) → LeavesOnly (moment w.disk) (moment v.disk) (images w.disk) (images v.disk) (KeepsOneOf (images w.disk (moment w.disk))))
      → faults w.disk ≤ faults v.disk → tells v.disk ≡ tells w.disk → takes v.disk ≡ takes w.disk → Leads tells takes faults moment images w v
  leads_step w v event answer phase answers leaves kinds later same_tells same_takes =
      let goes = one_step w.kernel event answer v.kernel answers in
      record {
        goes = goes;
        leaves = λ t. inr (leaves_weaker (moment w.disk) (moment v.disk) (images w.disk) (images v.disk) (IsLeftInCall phase w.kernel) (IsLeftBetween w.kernel v.kernel) (λ file h. left_at_start w.kernel v.kernel file goes (held_in_call phase w.kernel file h)) (leaves t));
        kinds = kinds;
        later = later;
        same_tells = same_tells;
        same_takes = same_takes;
      }

  -- from the first moment on, where what it leaves is known
  pub leaves_all : (w v : Whole D) → ((file : List ℕ) → images w.disk (moment w.disk) file → HoldsOrMore w.kernel file) → Leads tells takes faults moment images w v → IsTrue (tells w.disk) → LeavesBetween w v
  leaves_all w v held p t = by_leaving (p.leaves t)
    where
      by_leaving : (v ≡ w) ⊎ LeavesBetween w v → LeavesBetween w v
      by_leaving (inr q) = q
      by_leaving (inl e) = subst (λ (x : Whole D). LeavesBetween w x) (sym e) (record {
        later = omega arith;
        each = λ k file low high left. let is : k ≡ moment w.disk = omega arith in left_at_start w.kernel w.kernel file (stays w.kernel) (held file (subst (λ (n : ℕ). images w.disk n file) is left));
        past = λ k file low. (λ h. h, λ h. h);
      })
