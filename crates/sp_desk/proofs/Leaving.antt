-- What always holds of the kernel after a course.
use Rattle.std.proofs.Common.{◌≡◌, ◌⊎◌, inl, inr, ℕ, Bool, IsTrue, List, sym, subst, arith}
use Rattle.sp_disk.specs.Moments.{LeavesOnly}
use Rattle.sp_model.specs.State.{Kernel}
use Rattle.sp_model.specs.Soundness.{Sound}
use Rattle.sp_durable.specs.Recovered.{HoldsOrMore}
use Rattle.sp_kernel.specs.Whole.{Whole}
use Rattle.sp_kernel.proofs.Going.{history_keeps, history_base}
use Rattle.sp_desk.specs.Course.{Leads, IsLeftBetween, IsUntouched, Course}
use Rattle.sp_desk.proofs.Joining.{leads_none}

pub keeps_sound : (k n : Kernel) → Leads k n → Sound k → Sound n
keeps_sound k n p sound = history_keeps k p.steps n sound p.history

pub keeps_base : (k n : Kernel) → Leads k n → n.base ≡ k.base
keeps_base k n p = history_base k p.steps n p.history

module _ {D : Type 0} (tells takes : D → Bool) (faults moment : D → ℕ) (images : D → ℕ → List ℕ → Type 0) where
  abbrev LeavesBetween : Whole D → Whole D → Type 0
  LeavesBetween w v = LeavesOnly (moment w.disk) (moment v.disk) (images w.disk) (images v.disk) (IsLeftBetween w.kernel v.kernel)

  -- from the first moment on, where what it leaves is known
  pub leaves_all : (w v : Whole D) → ((file : List ℕ) → images w.disk (moment w.disk) file → HoldsOrMore w.kernel file) → Course tells takes faults moment images w v → IsTrue (tells w.disk) → LeavesBetween w v
  leaves_all w v held p t = by_leaving (p.crash t)
    where
      untouched : LeavesBetween w w
      untouched = record {
        later = omega arith;
        each = λ k file low high left. let is : k ≡ moment w.disk = omega arith in
            record { between = w.kernel; before = leads_none w.kernel; behind = leads_none w.kernel; holds = held file (subst (λ (n : ℕ). images w.disk n file) is left) };
        past = λ k file low. (λ h. h, λ h. h);
      }

      by_leaving : IsUntouched w v ⊎ LeavesBetween w v → LeavesBetween w v
      by_leaving (inr q) = q
      by_leaving (inl e) =
          subst (λ (d : D). LeavesOnly (moment w.disk) (moment d) (images w.disk) (images d) (IsLeftBetween w.kernel v.kernel)) (sym e.disk)
          (subst (λ (k : Kernel). LeavesOnly (moment w.disk) (moment w.disk) (images w.disk) (images w.disk) (IsLeftBetween w.kernel k)) (sym e.kernel) untouched)
