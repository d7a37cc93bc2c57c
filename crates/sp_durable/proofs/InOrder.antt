-- Changes in their order, and those of one id among them.
use Rattle.std.proofs.Common.{◌≡◌, ℕ, zero, suc, ◌+◌, ◌<◌, ◌≤◌, Bool, true, false, not, ◌&&◌, ◌||◌, cond, nat_eq, nat_lt, List, [], ◌∷◌, length, get_or, filter, refl, sym, ap, ◌∙◌, subst, inl, inr, arith}
use Rattle.std.specs.Cmp.{IsStrictWeakOrder}
use Rattle.std.specs.List.{sum_by}
use Rattle.std.specs.List.Sorted.{IsSortedBy}
use Rattle.std.proofs.lemmas.Bool.Decides.{nat_tests}
use Rattle.std.proofs.lemmas.List.Sorted.{sorted_far}
use Rattle.std.proofs.lemmas.List.Sums.{sum_by-cons}
use Rattle.sp_plain.specs.declared.change.Change.{Change}
use Rattle.sp_node.specs.Among.{Among}
use Rattle.sp_txn.specs.Changes.{id_of, is_drop, precedes}

one_way : (i j : ℕ) (p q : Bool) → (nat_lt i j || (nat_eq i j && (p && not q))) ≡ true → (nat_lt j i || (nat_eq j i && (q && not p))) ≡ false
one_way i j p q h = grind (arith, nat_tests)

chain : (i j l : ℕ) (p q r : Bool) → (nat_lt i j || (nat_eq i j && (p && not q))) ≡ false → (nat_lt j l || (nat_eq j l && (q && not r))) ≡ false → (nat_lt i l || (nat_eq i l && (p && not r))) ≡ false
chain i j l p q r h k = grind (arith, nat_tests)

precedes-order : IsStrictWeakOrder precedes
precedes-order = record {
  one_way = λ a b h. one_way (id_of a) (id_of b) (is_drop a) (is_drop b) h;
  chain = λ a b c h k. chain (id_of a) (id_of b) (id_of c) (is_drop a) (is_drop b) (is_drop c) h k;
}

-- none precedes one that stands before it
abbrev pub AreInOrder : List Change → Type 0
AreInOrder [] = Unit {0}
AreInOrder (c ∷ cs) = ((d : Change) → Among d cs → precedes d c ≡ false) × AreInOrder cs

pub place_of : (d : Change) (cs : List Change) → Among d cs → (i : ℕ) × (i < length cs) × (get_or cs i d ≡ d)
place_of d [] h = absurd h
place_of d (c ∷ cs) (inl e) = (0, omega arith, sym e)
place_of d (c ∷ cs) (inr h) = let p = place_of d cs h in let l = p.1 in (suc p.0, omega arith, p.2)

pub among_place : (cs : List Change) (d : Change) (i : ℕ) → i < length cs → get_or cs i d ≡ d → Among d cs
among_place [] d i h e = absurd (omega arith)
among_place (c ∷ cs) d zero h e = inl (sym e)
among_place (c ∷ cs) d (suc i) h e = inr (among_place cs d i (omega arith) e)

pub in_order : (cs : List Change) → IsSortedBy precedes cs → AreInOrder cs
in_order [] s = tt
in_order (c ∷ cs) s = (λ d h. behind d (place_of d cs h), in_order cs (λ k d low high. tail k d low high))
  where
    behind : (d : Change) → (i : ℕ) × (i < length cs) × (get_or cs i d ≡ d) → precedes d c ≡ false
    behind d p =
        let l = p.1 in
        subst (λ (z : Change). precedes z c ≡ false) p.2 (sorted_far precedes precedes-order (c ∷ cs) s 0 (suc p.0) d (omega arith) (omega arith))

    tail : (k : ℕ) (d : Change) → 0 ≤ k → k + 1 < length cs → precedes (get_or cs (k + 1) d) (get_or cs k d) ≡ false
    tail k d low high = subst (λ (n : ℕ). precedes (get_or cs n d) (get_or cs k d) ≡ false) (omega arith) (sorted_far precedes precedes-order (c ∷ cs) s (suc k) (suc (suc k)) d (omega arith) (omega arith))

-- the change is of the id
abbrev pub is_of : ℕ → Change → Bool
is_of id c = nat_eq (id_of c) id

-- the changes of one id
abbrev pub of_id : ℕ → List Change → List Change
of_id id cs = filter (is_of id) cs

pub among-filtered : (test : Change → Bool) (d : Change) (cs : List Change) → Among d (filter test cs) → Among d cs × (test d ≡ true)
among-filtered test d [] h = absurd h
among-filtered test d (c ∷ cs) h = go (test c) refl h (among-filtered test d cs)
  where
    go : (b : Bool) → test c ≡ b → Among d (cond b (c ∷ filter test cs) (filter test cs)) → (Among d (filter test cs) → Among d cs × (test d ≡ true)) → Among d (c ∷ cs) × (test d ≡ true)
    go true e (inl s) more = (inl s, ap test s ∙ e)
    go true e (inr k) more = let m = more k in (inr m.0, m.1)
    go false e k more = let m = more k in (inr m.0, m.1)

pub filtered-among : (test : Change → Bool) (d : Change) (cs : List Change) → Among d cs → test d ≡ true → Among d (filter test cs)
filtered-among test d [] h t = absurd h
filtered-among test d (c ∷ cs) (inl s) t = rw (ap test (sym s) ∙ t) (inl s)
filtered-among test d (c ∷ cs) (inr h) t = go (test c) (filtered-among test d cs h t)
  where
    go : (b : Bool) → Among d (filter test cs) → Among d (cond b (c ∷ filter test cs) (filter test cs))
    go true k = inr k
    go false k = k

pub filtered_in_order : (test : Change → Bool) (cs : List Change) → AreInOrder cs → AreInOrder (filter test cs)
filtered_in_order test [] h = tt
filtered_in_order test (c ∷ cs) h = go (test c) (filtered_in_order test cs h.1)
  where
    go : (b : Bool) → AreInOrder (filter test cs) → AreInOrder (cond b (c ∷ filter test cs) (filter test cs))
    go true k = (λ d i. h.0 d (among-filtered test d cs i).0, k)
    go false k = k

-- a sum over those that pass is one over all
pub filtered_sum : (f : Change → ℕ) (test : Change → Bool) (cs : List Change) → sum_by f (filter test cs) ≡ sum_by (λ c. cond (test c) (f c) 0) cs
filtered_sum f test [] = refl
filtered_sum f test (c ∷ cs) = go (test c) (filtered_sum f test cs) ∙ sym (sum_by-cons (λ c. cond (test c) (f c) 0) c cs)
  where
    go : (b : Bool) → sum_by f (filter test cs) ≡ sum_by (λ c. cond (test c) (f c) 0) cs → sum_by f (cond b (c ∷ filter test cs) (filter test cs)) ≡ cond b (f c) 0 + sum_by (λ c. cond (test c) (f c) 0) cs
    go true e = sum_by-cons f c (filter test cs) ∙ ap (λ (n : ℕ). f c + n) e
    go false e = omega (arith, e)
