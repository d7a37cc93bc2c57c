-- How ways from kernel to kernel, items and lines join, one after the other.
use Rattle.std.proofs.Common.{rules, ◌≡◌, ◌⊎◌, inl, inr, ◌≤◌, ◌<◌, ℕ, Bool, IsTrue, true, false, List, [], ◌∷◌, ◌++◌, Option, refl, sym, ◌∙◌, subst, arith, append_assoc}
use Rattle.std.proofs.lemmas.Bool.{cases_lt}
use Rattle.std.specs.Io.KnownBytes.{Appends}
use Rattle.sp_io.proofs.Known.{Appends-none}
use Rattle.sp_disk.specs.Moments.{LeavesOnly}
use Rattle.sp_event.specs.declared.event.Event.TheVariants.{Commit, Flush}
use Rattle.sp_event.specs.declared.answer.Answer.TheVariants.{DiskFault}
use Rattle.sp_event.specs.declared.step.Step.{Step}
use Rattle.sp_journal.proofs.Kinding.{still_keeps, runs_keep}
use Rattle.sp_text.specs.declared.form.Form.TheVariants.{Drill}
use Rattle.sp_text.specs.declared.types.Item.{Item}
use Rattle.sp_text.specs.declared.types.Item.TheVariants.{Bad, Stepped}
use Rattle.sp_lines.specs.declared.fault.Fault.{Fault}
use Rattle.sp_lines.specs.declared.fault.Fault.TheVariants.{Write, Disk, Memory}
use Rattle.sp_lines.specs.Hearing.{end_of}
use Rattle.sp_lines.specs.Keeping.{Notes}
use Rattle.sp_lines.proofs.Hearing.{hears_none, hears_more, until_none, until_later, until_more}
use Rattle.sp_model.specs.State.{Kernel}
use Rattle.sp_kernel.specs.Answers.{Histories}
use Rattle.sp_kernel.specs.Whole.{Whole}
use Rattle.sp_drill.specs.Leading.{LeadsTo, IsLeftBetween, Leads}
use Rattle.sp_drill.specs.Drilling.{Next, Drilled, Lacks, LeadsBy}
use Rattle.sp_drill.specs.Hearing.{Goes, Stops}

append-nil : {A : Type 0} (x : List A) → x ++ [] ≡ x
append-nil x = search rules

-- histories, one after the other
pub histories_join : (k m : Kernel) (xs ys : List Step) (n : Kernel) → Histories k xs m → Histories m ys n → Histories k (xs ++ ys) n
histories_join k m xs _ _ p Histories.Stays = subst (λ (l : List Step). Histories k l m) (sym (append-nil xs)) p
histories_join k m xs _ n p (Histories.Goes between steps step goes answers) =
    subst (λ (l : List Step). Histories k l n) (append_assoc xs steps (step ∷ []))
    (Histories.Goes between (xs ++ steps) step (histories_join k m xs steps between p goes) answers)

pub stays : (k : Kernel) → LeadsTo k k
stays k = ([], Histories.Stays)

pub joins : (k m n : Kernel) → LeadsTo k m → LeadsTo m n → LeadsTo k n
joins k m n p q = (p.0 ++ q.0, histories_join k m p.0 q.0 n p.1 q.1)

-- a further way, and an earlier one
left_before : (k m n : Kernel) (file : List ℕ) → LeadsTo m n → IsLeftBetween k m file → IsLeftBetween k n file
left_before k m n file goes h = record { kernel = h.kernel; before = h.before; after = joins h.kernel m n h.after goes; holds = h.holds }

left_after : (k m n : Kernel) (file : List ℕ) → LeadsTo k m → IsLeftBetween m n file → IsLeftBetween k n file
left_after k m n file goes h = record { kernel = h.kernel; before = joins k m h.kernel goes h.before; after = h.after; holds = h.holds }

-- moments after moments
leaves_join : (a b c : ℕ) (x y z : ℕ → List ℕ → Type 0) (P Q R : List ℕ → Type 0) → ((file : List ℕ) → P file → R file) → ((file : List ℕ) → Q file → R file)
    → LeavesOnly a b x y P → LeavesOnly b c y z Q → LeavesOnly a c x z R
leaves_join a b c x y z P Q R first second p q = record {
  later = let l = p.later in let m = q.later in omega arith;
  each = λ k file low high left. by_moment k file low high left (cases_lt b k);
  past = λ k file low. let l = p.later in
      let e = q.past k file (omega arith) in
      let f = p.past k file low in
      (λ h. f.0 (e.0 h), λ h. e.1 (f.1 h));
}
  where
    by_moment : (k : ℕ) (file : List ℕ) → a ≤ k → k ≤ c → z k file → (b < k) ⊎ (k ≤ b) → R file
    by_moment k file low high left (inl late) = second file (q.each k file (omega arith) high left)
    by_moment k file low high left (inr early) = first file (p.each k file low early ((q.past k file early).0 left))

-- what leads on from where the first items led
pub drilled_more : (k : Kernel) (first : Next) (is : List Item) (m : Kernel) (middle : Next) (js : List Item) (n : Kernel) (next : Next) → Drilled k first is m middle → Drilled m middle js n next → Drilled k first (is ++ js) n next
drilled_more k first is m middle _ _ _ p Drilled.IsStart = subst (λ (l : List Item). Drilled k first l m middle) (sym (append-nil is)) p
drilled_more k first is m middle _ n next p (Drilled.HearsBad {items = js} session bad q) =
    subst (λ (l : List Item). Drilled k first l n next) (append_assoc is js (Bad session bad ∷ []))
    (Drilled.HearsBad session bad (drilled_more k first is m middle js n (Next.Tells []) p q))
drilled_more k first is m middle _ n next p (Drilled.HearsEvent {items = js} {m = l} event answer _ q on a) =
    subst (λ (x : List Item). Drilled k first x n next) (append_assoc is js (Stepped event answer false ∷ []))
    (Drilled.HearsEvent event answer n (drilled_more k first is m middle js l (Next.Tells []) p q) on a)
drilled_more k first is m middle _ n next p (Drilled.TellsPlace {items = js} {m = l} s rest answer _ q on a) =
    subst (λ (x : List Item). Drilled k first x n next) (append_assoc is js (Stepped (Commit s) answer true ∷ []))
    (Drilled.TellsPlace s rest answer n (drilled_more k first is m middle js l (Next.Tells (s ∷ rest)) p q) on a)
drilled_more k first is m middle _ n next p (Drilled.FlushFails {items = js} {m = l} _ q a) =
    subst (λ (x : List Item). Drilled k first x n next) (append_assoc is js (Stepped Flush DiskFault false ∷ []))
    (Drilled.FlushFails n (drilled_more k first is m middle js l (Next.Tells []) p q) a)

-- the same at a fault
pub leads_by_more : (fault : Fault) (k : Kernel) (first : Next) (is : List Item) (m : Kernel) (middle : Next) (js : List Item) (n : Kernel) → Drilled k first is m middle → LeadsBy (end_of fault) m middle js n → LeadsBy (end_of fault) k first (is ++ js) n
leads_by_more Write k first is m middle js n p q = (q.0, drilled_more k first is m middle js n q.0 p q.1)
leads_by_more Disk k first is m middle js n p q = drilled_more k first is m middle js n Next.Ends p q
leads_by_more Memory k first is m middle js n p q = (q.0, q.1, drilled_more k first is m middle js q.0 (Next.Tells q.1) p q.2, q.3)

memory_apart : Memory ≡ Disk → ⊥
memory_apart e = cc

module _ {D : Type 0} (tells takes : D → Bool) (faults moment : D → ℕ) (images : D → ℕ → List ℕ → Type 0) where
  abbrev LeavesBetween : Whole D → Whole D → Type 0
  LeavesBetween w v = LeavesOnly (moment w.disk) (moment v.disk) (images w.disk) (images v.disk) (IsLeftBetween w.kernel v.kernel)

  pub leads_none : (w : Whole D) → Leads tells takes faults moment images w w
  leads_none w = record { goes = stays w.kernel; leaves = λ t. inl refl; kinds = λ t. still_keeps (moment w.disk) (images w.disk); later = omega arith; same_tells = refl; same_takes = refl }

  module _ (w v u : Whole D) (first : LeadsTo w.kernel v.kernel) (second : LeadsTo v.kernel u.kernel) where
    leaves_more : (v ≡ w) ⊎ LeavesBetween w v → (u ≡ v) ⊎ LeavesBetween v u → (u ≡ w) ⊎ LeavesBetween w u
    leaves_more (inl e) (inl f) = inl (f ∙ e)
    leaves_more (inl e) (inr q) = inr (subst (λ (x : Whole D). LeavesBetween x u) e q)
    leaves_more (inr p) (inl f) = inr (subst (λ (x : Whole D). LeavesBetween w x) (sym f) p)
    leaves_more (inr p) (inr q) =
        inr (leaves_join (moment w.disk) (moment v.disk) (moment u.disk) (images w.disk) (images v.disk) (images u.disk)
        (IsLeftBetween w.kernel v.kernel) (IsLeftBetween v.kernel u.kernel) (IsLeftBetween w.kernel u.kernel)
        (λ file h. left_before w.kernel v.kernel u.kernel file second h) (λ file h. left_after w.kernel v.kernel u.kernel file first h) p q)

  pub leads_more : (w v u : Whole D) → Leads tells takes faults moment images w v → Leads tells takes faults moment images v u → Leads tells takes faults moment images w u
  leads_more w v u p q = record {
    goes = joins w.kernel v.kernel u.kernel p.goes q.goes;
    leaves = λ t. leaves_more w v u p.goes q.goes (p.leaves t) (q.leaves (subst (λ (b : Bool). IsTrue b) (sym p.same_tells) t));
    kinds = λ t. runs_keep (moment w.disk) (moment v.disk) (moment u.disk) (images w.disk) (images v.disk) (images u.disk) (p.kinds t) (q.kinds (subst (λ (b : Bool). IsTrue b) (sym p.same_tells) t));
    later = let l = p.later in let m = q.later in omega arith;
    same_tells = q.same_tells ∙ p.same_tells;
    same_takes = q.same_takes ∙ p.same_takes;
  }

  pub goes_none : (first : Next) (before : Notes) (w : Whole D) (old : Option (List ℕ)) → Goes tells takes faults moment images first first [] before w old before w old
  goes_none first before w old = record { items = []; hears = hears_none Drill before.items old; drilled = Drilled.IsStart; leads = leads_none w }

  -- the sink is flushed
  goes_flush : (before : Notes) (w : Whole D) (old new : Option (List ℕ)) → Appends old new [] → Goes tells takes faults moment images (Next.Tells []) (Next.Tells []) [] before w old before w new
  goes_flush before w old new f = record { items = []; hears = record { kept = sym (append-nil before.items); heard_as = refl; written = f }; drilled = Drilled.IsStart; leads = leads_none w }

  pub goes_more : (first middle next : Next) (xs ys : List (List ℕ)) (l m n : Notes) (w v u : Whole D) (old mid new : Option (List ℕ))
      → Goes tells takes faults moment images first middle xs l w old m v mid → Goes tells takes faults moment images middle next ys m v mid n u new → Goes tells takes faults moment images first next (xs ++ ys) l w old n u new
  goes_more first middle next xs ys l m n w v u old mid new p q = record {
    items = p.items ++ q.items;
    hears = hears_more Drill xs ys p.items q.items l.items m.items n.items old mid new p.hears q.hears;
    drilled = drilled_more w.kernel first p.items v.kernel middle q.items u.kernel next p.drilled q.drilled;
    leads = leads_more w v u p.leads q.leads;
  }

  -- memory ran out before anything was done
  pub stops_none : (xs : List (List ℕ)) (first : List ℕ) (l : Notes) (w : Whole D) (old : Option (List ℕ)) → Stops tells takes faults moment images (Next.Tells first) Memory xs l w old l w old
  stops_none xs first l w old = record {
    items = [];
    hears = until_none Memory Drill xs l.items l.items old old refl (Appends-none old);
    drilled = (w.kernel, first, Drilled.IsStart, Lacks.IsThere);
    leads = leads_none w;
    caused = λ e. absurd (memory_apart e);
  }

  pub stops_later : (first middle : Next) (fault : Fault) (xs ys : List (List ℕ)) (l m n : Notes) (w v u : Whole D) (old mid new : Option (List ℕ))
      → Goes tells takes faults moment images first middle xs l w old m v mid → Stops tells takes faults moment images middle fault ys m v mid n u new → Stops tells takes faults moment images first fault (xs ++ ys) l w old n u new
  stops_later first middle fault xs ys l m n w v u old mid new p q = record {
    items = p.items ++ q.items;
    hears = until_later fault Drill xs ys p.items q.items l.items m.items n.items old mid new p.hears q.hears;
    drilled = leads_by_more fault w.kernel first p.items v.kernel middle q.items u.kernel p.drilled q.drilled;
    leads = leads_more w v u p.leads q.leads;
    caused = λ e. let h = q.caused e in let f = p.leads.later in omega (arith, h, f);
  }

  pub stops_more : (first : Next) (fault : Fault) (xs ys : List (List ℕ)) (l m : Notes) (w v : Whole D) (old new : Option (List ℕ)) → Stops tells takes faults moment images first fault xs l w old m v new → Stops tells takes faults moment images first fault (xs ++ ys) l w old m v new
  stops_more first fault xs ys l m w v old new p = record {
    items = p.items;
    hears = until_more fault Drill xs ys p.items l.items m.items old new p.hears;
    drilled = p.drilled;
    leads = p.leads;
    caused = p.caused;
  }

  -- one line more, which a reader told
  pub goes_further : (first : Next) (l : List (List ℕ)) (told line : List ℕ) (a b c : Notes) (w v u : Whole D) (old mid new : Option (List ℕ)) → told ≡ line
      → Goes tells takes faults moment images first (Next.Tells []) l a w old b v mid → Goes tells takes faults moment images (Next.Tells []) (Next.Tells []) (told ∷ []) b v mid c u new → Goes tells takes faults moment images first (Next.Tells []) (l ++ line ∷ []) a w old c u new
  goes_further first l told line a b c w v u old mid new e p q =
      subst (λ (x : List ℕ). Goes tells takes faults moment images first (Next.Tells []) (l ++ x ∷ []) a w old c u new) e (goes_more first (Next.Tells []) (Next.Tells []) l (told ∷ []) a b c w v u old mid new p q)

  pub stops_further : (first : Next) (fault : Fault) (l : List (List ℕ)) (told line : List ℕ) (a b c : Notes) (w v u : Whole D) (old mid new : Option (List ℕ)) → told ≡ line
      → Goes tells takes faults moment images first (Next.Tells []) l a w old b v mid → Stops tells takes faults moment images (Next.Tells []) fault (told ∷ []) b v mid c u new → Stops tells takes faults moment images first fault (l ++ line ∷ []) a w old c u new
  stops_further first fault l told line a b c w v u old mid new e p q =
      subst (λ (x : List ℕ). Stops tells takes faults moment images first fault (l ++ x ∷ []) a w old c u new) e (stops_later first (Next.Tells []) fault l (told ∷ []) a b c w v u old mid new p q)

  -- there was no memory for the next line
  pub stops_unheard : (first : Next) (l others : List (List ℕ)) (a b : Notes) (w v : Whole D) (old new : Option (List ℕ)) → Goes tells takes faults moment images first (Next.Tells []) l a w old b v new → Stops tells takes faults moment images first Memory (l ++ others) a w old b v new
  stops_unheard first l others a b w v old new p = stops_later first (Next.Tells []) Memory l others a b b w v v old new new p (stops_none others [] b v new)

  pub goes_flushed : (first : Next) (l : List (List ℕ)) (a b : Notes) (w v : Whole D) (old mid new : Option (List ℕ)) → Appends mid new []
      → Goes tells takes faults moment images first (Next.Tells []) l a w old b v mid → Goes tells takes faults moment images first (Next.Tells []) l a w old b v new
  goes_flushed first l a b w v old mid new f p =
      subst (λ (x : List (List ℕ)). Goes tells takes faults moment images first (Next.Tells []) x a w old b v new) (append-nil l)
      (goes_more first (Next.Tells []) (Next.Tells []) l [] a b b w v v old mid new p (goes_flush b v mid new f))

  -- what was written could not be handed on before the next line
  pub stops_unwritten : (first : Next) (l others : List (List ℕ)) (a b : Notes) (w v : Whole D) (old mid new : Option (List ℕ)) → Appends mid new []
      → Goes tells takes faults moment images first (Next.Tells []) l a w old b v mid → Stops tells takes faults moment images first Write (l ++ others) a w old b v new
  stops_unwritten first l others a b w v old mid new f p =
      stops_later first (Next.Tells []) Write l others a b b w v v old mid new p (record {
        items = [];
        hears = until_none Write Drill others b.items b.items mid new refl f;
        drilled = (Next.Tells [], Drilled.IsStart);
        leads = leads_none v;
        caused = λ e. absurd (apart e);
      })
    where
      apart : Write ≡ Disk → ⊥
      apart e = cc
