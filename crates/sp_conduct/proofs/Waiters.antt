-- The operations that wait, as one goes on and one joins them.
use Rattle.std.proofs.Common.{◌≡◌, ◌≢◌, ℕ, zero, suc, List, [], ◌∷◌, ◌++◌, map, Some, nat_eq, refl, sym, ap, ◌∙◌, subst, inl, inr}
use Rattle.std.specs.Prelude.{slice_get}
use Rattle.std.specs.List.{IsDistinct, remove}
use Rattle.std.proofs.lemmas.List.{map-append}
use Rattle.std.proofs.lemmas.Map.Keys.{IsDistinct-tail}
use Rattle.sp_rect.specs.declared.operation.Op.{Op}
use Rattle.sp_node.specs.Among.{Among}
use Rattle.sp_event.specs.declared.answer.Answer.{Answer}
use Rattle.sp_event.specs.declared.answer.Answer.TheVariants.{Waits}
use Rattle.sp_model.specs.State.{Kernel}
use Rattle.sp_model.proofs.Dead.{distinct-cons, distinct-out, distinct-empty, distinct-append}
use Rattle.sp_desk.specs.declared.point.Point.{Point}
use Rattle.sp_desk.specs.declared.stalled.Stalled.{Stalled as Waiter}
use Rattle.sp_desk.specs.Waiting.{stalled_by}
use Rattle.sp_desk.proofs.Each.{Each, each_append, each_remove}
use Rattle.sp_conduct.proofs.Resting.{WaitsAt, AreWaiting}

-- the sessions of those that wait
abbrev pub sessions_in : List Waiter → List ℕ
sessions_in w = map (λ x. x.session) w

among_sessions : (x : Waiter) (w : List Waiter) → Among x w → Among x.session (sessions_in w)
among_sessions x [] i = absurd i
among_sessions x (y ∷ w) (inl e) = inl (ap (λ (z : Waiter). z.session) e)
among_sessions x (y ∷ w) (inr i) = inr (among_sessions x w i)

of_sessions : (s : ℕ) (w : List Waiter) → Among s (sessions_in w) → (x : Waiter) × Among x w × (x.session ≡ s)
of_sessions s [] i = absurd i
of_sessions s (y ∷ w) (inl e) = (y, inl refl, sym e)
of_sessions s (y ∷ w) (inr i) = let r = of_sessions s w i in (r.0, inr r.1, r.2)

at_place : (w : List Waiter) (i : ℕ) (x : Waiter) → slice_get w i ≡ Some x → Among x w
at_place [] i x e = absurd (none e)
  where
    none : slice_get [] i ≡ Some x → ⊥
    none h = cc
at_place (y ∷ w) zero x e = inl (sym (same e))
  where
    same : Some y ≡ Some x → y ≡ x
    same h = cc
at_place (y ∷ w) (suc i) x e = inr (at_place w i x e)

pub each_among : (P : Waiter → Type 0) (w : List Waiter) (x : Waiter) → Each P w → Among x w → P x
each_among P [] x a i = absurd i
each_among P (y ∷ w) x a (inl e) = subst P (sym e) a.0
each_among P (y ∷ w) x a (inr i) = each_among P w x a.1 i

of_removed : (w : List Waiter) (i : ℕ) (y : Waiter) → Among y (remove w i) → Among y w
of_removed [] zero y j = absurd j
of_removed [] (suc i) y j = absurd j
of_removed (x ∷ w) zero y j = inr j
of_removed (x ∷ w) (suc i) y (inl e) = inl e
of_removed (x ∷ w) (suc i) y (inr j) = inr (of_removed w i y j)

removed_once : (w : List Waiter) (i : ℕ) → IsDistinct nat_eq (sessions_in w) → IsDistinct nat_eq (sessions_in (remove w i))
removed_once [] zero h = h
removed_once [] (suc i) h = h
removed_once (x ∷ w) zero h = IsDistinct-tail nat_eq x.session (sessions_in w) h
removed_once (x ∷ w) (suc i) h =
    distinct-cons x.session (sessions_in (remove w i))
    (λ j. let r = of_sessions x.session (remove w i) j in distinct-out x.session (sessions_in w) h (subst (λ (t : ℕ). Among t (sessions_in w)) r.2 (among_sessions r.0 w (of_removed w i r.0 r.1))))
    (removed_once w i (IsDistinct-tail nat_eq x.session (sessions_in w) h))

-- once it is removed, none of its session is left
pub removed_other : (w : List Waiter) (i : ℕ) (x : Waiter) → slice_get w i ≡ Some x → IsDistinct nat_eq (sessions_in w) → (y : Waiter) → Among y (remove w i) → y.session ≢ x.session
removed_other [] i x e h y j same = absurd (none e)
  where
    none : slice_get [] i ≡ Some x → ⊥
    none h = cc
removed_other (z ∷ w) zero x e h y j same = distinct-out z.session (sessions_in w) h (subst (λ (t : ℕ). Among t (sessions_in w)) (same ∙ ap (λ (v : Waiter). v.session) (sym (is e))) (among_sessions y w j))
  where
    is : Some z ≡ Some x → z ≡ x
    is h = cc
removed_other (z ∷ w) (suc i) x e h y (inl f) same =
    distinct-out z.session (sessions_in w) h (subst (λ (t : ℕ). Among t (sessions_in w)) (sym same ∙ ap (λ (v : Waiter). v.session) f) (among_sessions x w (at_place w i x e)))
removed_other (z ∷ w) (suc i) x e h y (inr j) same = removed_other w i x e (IsDistinct-tail nat_eq z.session (sessions_in w) h) y j same

pub removed_waiting : (k : Kernel) (w : List Waiter) (i : ℕ) → AreWaiting k w → AreWaiting k (remove w i)
removed_waiting k w i a = record { each = each_remove (WaitsAt k) w i a.each; once = removed_once w i a.once }

stalled_own : (s : ℕ) (op : Op) (answer : Answer) (point : Point) (t : ℕ) → Among t (sessions_in (stalled_by s op answer point)) → t ≡ s
stalled_own s op (Waits name mode sessions) point t (inl e) = e
stalled_own s op (Waits name mode sessions) point t (inr i) = absurd i
stalled_own s op answer point t i = absurd i

stalled_once : (s : ℕ) (op : Op) (answer : Answer) (point : Point) → IsDistinct nat_eq (sessions_in (stalled_by s op answer point))
stalled_once s op (Waits name mode sessions) point = distinct-cons s [] (λ i. i) distinct-empty
stalled_once s op answer point = distinct-empty

-- an operation whose answer is that it waits joins those of other sessions
pub joined_waiting : (n : Kernel) (w : List Waiter) (s : ℕ) (op : Op) (answer : Answer) (point : Point) → AreWaiting n w → ((x : Waiter) → Among x w → x.session ≢ s) → Each (WaitsAt n) (stalled_by s op answer point)
    → AreWaiting n (w ++ stalled_by s op answer point)
joined_waiting n w s op answer point a apart own = record {
  each = each_append (WaitsAt n) w (stalled_by s op answer point) a.each own;
  once = subst (IsDistinct nat_eq) (sym (map-append (λ (x : Waiter). x.session) w (stalled_by s op answer point)))
      (distinct-append (sessions_in w) (sessions_in (stalled_by s op answer point)) a.once (stalled_once s op answer point)
      (λ t i j. let r = of_sessions t w i in apart r.0 r.1 (r.2 ∙ stalled_own s op answer point t j)));
}
