-- Laws of what happens to a kernel over a disk: how one stretch of events joins the next.
use Rattle.std.proofs.Common.{rules, ◌≡◌, ◌⊎◌, ℕ, ◌≤◌, ◌<◌, Bool, IsTrue, List, [], ◌∷◌, ◌++◌, None, refl, sym, ◌∙◌, subst, inl, inr, append_assoc, arith}
use Rattle.std.specs.Prelude.{◌↔◌}
use Rattle.std.proofs.lemmas.Bool.{cases_lt}
use Rattle.sp_disk.specs.Faults.{Rose}
use Rattle.sp_disk.specs.Moments.{LeavesOnly}
use Rattle.sp_event.specs.declared.event.Event.{Event}
use Rattle.sp_event.specs.declared.answer.Answer.{Answer}
use Rattle.sp_event.specs.declared.step.Step.{Step}
use Rattle.sp_journal.proofs.Kinding.{still_keeps, runs_keep}
use Rattle.sp_model.specs.State.{Kernel}
use Rattle.sp_kernel.specs.Answers.{Answers, Histories}
use Rattle.sp_kernel.specs.Whole.{Whole}
use Rattle.sp_desk.specs.Course.{Leads, IsLeftBetween, IsUntouched, Course}

-- one history after another
pub histories_join : (k m n : Kernel) (xs ys : List Step) → Histories k xs m → Histories m ys n → Histories k (xs ++ ys) n
histories_join k m _ xs _ first Histories.Stays = subst (λ (l : List Step). Histories k l m) (sym (append-nil xs)) first
  where
    append-nil : (l : List Step) → l ++ [] ≡ l
    append-nil l = search rules
histories_join k m n xs _ first (Histories.Goes between steps step goes answers) =
    subst (λ (l : List Step). Histories k l n) (append_assoc xs steps (step ∷ []))
    (Histories.Goes between (xs ++ steps) step (histories_join k m between xs steps first goes) answers)

pub leads_none : (k : Kernel) → Leads k k
leads_none k = record { steps = []; history = Histories.Stays }

pub leads_join : (k m n : Kernel) → Leads k m → Leads m n → Leads k n
leads_join k m n a b = record { steps = a.steps ++ b.steps; history = histories_join k m n a.steps b.steps a.history b.history }

pub leads_one : (k : Kernel) (event : Event) (answer : Answer) (after : Kernel) → Answers k event answer after → Leads k after
leads_one k event answer after h = record { steps = [] ++ record { event = event; answer = answer } ∷ []; history = Histories.Goes k [] (record { event = event; answer = answer }) Histories.Stays h }

module _ {D : Type 0} (tells takes : D → Bool) (faults moment : D → ℕ) (images : D → ℕ → List ℕ → Type 0) where
  -- no event
  pub course_none : (w : Whole D) → Course tells takes faults moment images w w
  course_none w = record {
    leads = leads_none w.kernel;
    crash = λ t. inl (record { kernel = refl; disk = refl });
    kinds = λ t. still_keeps (moment w.disk) (images w.disk);
    later = omega arith;
    stops = λ e. inl e;
    same_tells = refl;
    same_takes = refl;
  }

  rose_later : (a b c : ℕ) → Rose a b → b ≤ c → Rose a c
  rose_later a b c h l = grind (arith)

  rose_before : (a b c : ℕ) → a ≤ b → Rose b c → Rose a c
  rose_before a b c l h = grind (arith)

  -- one course after another
  pub course_join : (u v w : Whole D) → Course tells takes faults moment images u v → Course tells takes faults moment images v w → Course tells takes faults moment images u w
  course_join u v w a b = record {
    leads = leads_join u.kernel v.kernel w.kernel a.leads b.leads;
    crash = λ t. crash (a.crash t) (b.crash (subst (λ (c : Bool). IsTrue c) (sym a.same_tells) t));
    kinds = λ t. runs_keep (moment u.disk) (moment v.disk) (moment w.disk) (images u.disk) (images v.disk) (images w.disk) (a.kinds t) (b.kinds (subst (λ (c : Bool). IsTrue c) (sym a.same_tells) t));
    later = omega (arith, a.later, b.later);
    stops = λ e. stops (a.stops e);
    same_tells = b.same_tells ∙ a.same_tells;
    same_takes = b.same_takes ∙ a.same_takes;
  }
    where
      stops_then : (v.kernel.stopped ≡ None → (w.kernel.stopped ≡ None) ⊎ Rose (faults v.disk) (faults w.disk)) → v.kernel.stopped ≡ None → (w.kernel.stopped ≡ None) ⊎ Rose (faults u.disk) (faults w.disk)
      stops_then f e = go (f e)
        where
          go : (w.kernel.stopped ≡ None) ⊎ Rose (faults v.disk) (faults w.disk) → (w.kernel.stopped ≡ None) ⊎ Rose (faults u.disk) (faults w.disk)
          go (inl h) = inl h
          go (inr h) = inr (rose_before (faults u.disk) (faults v.disk) (faults w.disk) a.later h)

      stops : (v.kernel.stopped ≡ None) ⊎ Rose (faults u.disk) (faults v.disk) → (w.kernel.stopped ≡ None) ⊎ Rose (faults u.disk) (faults w.disk)
      stops (inl e) = stops_then b.stops e
      stops (inr h) = inr (rose_later (faults u.disk) (faults v.disk) (faults w.disk) h b.later)

      further : (k l m : Kernel) (file : List ℕ) → Leads l m → IsLeftBetween k l file → IsLeftBetween k m file
      further k l m file more h = record { between = h.between; before = h.before; behind = leads_join h.between l m h.behind more; holds = h.holds }

      sooner : (k l m : Kernel) (file : List ℕ) → Leads k l → IsLeftBetween l m file → IsLeftBetween k m file
      sooner k l m file first h = record { between = h.between; before = leads_join k l h.between first h.before; behind = h.behind; holds = h.holds }

      crash : IsUntouched u v ⊎ LeavesOnly (moment u.disk) (moment v.disk) (images u.disk) (images v.disk) (IsLeftBetween u.kernel v.kernel)
          → IsUntouched v w ⊎ LeavesOnly (moment v.disk) (moment w.disk) (images v.disk) (images w.disk) (IsLeftBetween v.kernel w.kernel)
          → IsUntouched u w ⊎ LeavesOnly (moment u.disk) (moment w.disk) (images u.disk) (images w.disk) (IsLeftBetween u.kernel w.kernel)
      crash (inl p) (inl q) = inl (record { kernel = q.kernel ∙ p.kernel; disk = q.disk ∙ p.disk })
      crash (inl p) (inr q) = inr (subst (λ (d : D). LeavesOnly (moment d) (moment w.disk) (images d) (images w.disk) (IsLeftBetween u.kernel w.kernel)) p.disk
          (subst (λ (k : Kernel). LeavesOnly (moment v.disk) (moment w.disk) (images v.disk) (images w.disk) (IsLeftBetween k w.kernel)) p.kernel q))
      crash (inr p) (inl q) = inr (subst (λ (d : D). LeavesOnly (moment u.disk) (moment d) (images u.disk) (images d) (IsLeftBetween u.kernel w.kernel)) (sym q.disk)
          (subst (λ (k : Kernel). LeavesOnly (moment u.disk) (moment v.disk) (images u.disk) (images v.disk) (IsLeftBetween u.kernel k)) (sym q.kernel) p))
      crash (inr p) (inr q) = inr (record {
        later = omega (arith, p.later, q.later);
        each = λ i file low high left. each i file low high left (cases_lt i (moment v.disk));
        past = λ i file low. past i file low (p.past i file low) (q.past i file (omega (arith, p.later, low)));
      })
        where
          each : (i : ℕ) (file : List ℕ) → moment u.disk ≤ i → i ≤ moment w.disk → images w.disk i file → (i < moment v.disk) ⊎ (moment v.disk ≤ i) → IsLeftBetween u.kernel w.kernel file
          each i file low high left (inl l) = further u.kernel v.kernel w.kernel file b.leads (p.each i file low (omega (arith, l)) ((q.past i file (omega (arith, l))).0 left))
          each i file low high left (inr l) = sooner u.kernel v.kernel w.kernel file a.leads (q.each i file l high left)

          past : (i : ℕ) (file : List ℕ) → i ≤ moment u.disk → (images v.disk i file ↔ images u.disk i file) → (images w.disk i file ↔ images v.disk i file) → (images w.disk i file ↔ images u.disk i file)
          past i file low x y = (λ h. x.0 (y.0 h), λ h. y.1 (x.1 h))
