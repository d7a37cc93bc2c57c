-- The dead list takes what dies.
use Rattle.std.proofs.Common.{◌≡◌, ◌⊎◌, ℕ, Bool, true, false, not, cond, List, [], ◌∷◌, ◌++◌, map, filter, nat_eq, refl, sym, ◌∙◌, subst, inl, inr, true≢false}
use Rattle.std.specs.Prelude.{nat_le}
use Rattle.std.specs.List.{AllByRecursion, IsDistinct, list_any}
use Rattle.std.proofs.lemmas.Map.Keys.{IsDistinct-cons, IsDistinct-head, IsDistinct-tail}
use Rattle.sp_node.specs.declared.node.Entry.{Entry}
use Rattle.sp_node.specs.Among.{Among}
use Rattle.sp_node.specs.Marks.{is_done}
use Rattle.sp_node.proofs.Among.{all_among, among_left, among_right, among_split}
use Rattle.sp_protection.proofs.Leaves.{among_map, from_map}
use Rattle.sp_model.specs.Moves.{with_number, ascending, dead_among, newly_dead}
use Rattle.sp_model.specs.Soundness.{DeadListed}
use Rattle.sp_model.proofs.Sessions.{number-same, number-tell, number-apart, not-true, to-not, among-kept, of_kept}
use Rattle.sp_model.proofs.Holding.{any-among, among-any}

-- a number that is not among distinct ones joins them
none_equal : (n : ℕ) (ms : List ℕ) → (Among n ms → ⊥) → AllByRecursion (λ m. nat_eq n m ≡ false) ms
none_equal n [] out = tt
none_equal n (m ∷ ms) out = (number-apart n m (λ e. out (inl e)), none_equal n ms (λ i. out (inr i)))

pub distinct-cons : (n : ℕ) (ms : List ℕ) → (Among n ms → ⊥) → IsDistinct nat_eq ms → IsDistinct nat_eq (n ∷ ms)
distinct-cons n ms out h = IsDistinct-cons nat_eq n ms (none_equal n ms out) h

pub distinct-out : (n : ℕ) (ms : List ℕ) → IsDistinct nat_eq (n ∷ ms) → Among n ms → ⊥
distinct-out n ms h i = true≢false (sym (number-tell n n refl) ∙ all_among (λ m. nat_eq n m ≡ false) n ms (IsDistinct-head nat_eq n ms h) i)

pub distinct-empty : IsDistinct nat_eq []
unfolding IsDistinct
distinct-empty = tt

pub distinct-append : (xs ys : List ℕ) → IsDistinct nat_eq xs → IsDistinct nat_eq ys → ((n : ℕ) → Among n xs → Among n ys → ⊥) → IsDistinct nat_eq (xs ++ ys)
distinct-append [] ys h k apart = k
distinct-append (x ∷ xs) ys h k apart = distinct-cons x (xs ++ ys) (λ i. go (among_split x xs ys i)) (distinct-append xs ys (IsDistinct-tail nat_eq x xs h) k (λ n i j. apart n (inr i) j))
  where
    go : Among x xs ⊎ Among x ys → ⊥
    go (inl i) = distinct-out x xs h i
    go (inr j) = apart x (inl refl) j

pub distinct-filter : (test : ℕ → Bool) (ns : List ℕ) → IsDistinct nat_eq ns → IsDistinct nat_eq (filter test ns)
distinct-filter test [] h = h
distinct-filter test (n ∷ ns) h = go (test n) (distinct-filter test ns (IsDistinct-tail nat_eq n ns h))
  where
    go : (b : Bool) → IsDistinct nat_eq (filter test ns) → IsDistinct nat_eq (cond b (n ∷ filter test ns) (filter test ns))
    go true k = distinct-cons n (filter test ns) (λ i. distinct-out n ns h (of_kept test n ns i).0) k
    go false k = k

-- ascending order is the same numbers
among-inserted : (n m : ℕ) (ms : List ℕ) → (m ≡ n) ⊎ Among m ms → Among m (with_number n ms)
among-inserted n m [] (inl e) = inl e
among-inserted n m [] (inr i) = absurd i
among-inserted n m (l ∷ ls) h = go (nat_le n l) h (among-inserted n m ls)
  where
    go : (b : Bool) → (m ≡ n) ⊎ Among m (l ∷ ls) → ((m ≡ n) ⊎ Among m ls → Among m (with_number n ls)) → Among m (cond b (n ∷ l ∷ ls) (l ∷ with_number n ls))
    go true (inl e) rest = inl e
    go true (inr i) rest = inr i
    go false (inl e) rest = inr (rest (inl e))
    go false (inr (inl e)) rest = inl e
    go false (inr (inr i)) rest = inr (rest (inr i))

of_inserted : (n m : ℕ) (ms : List ℕ) → Among m (with_number n ms) → (m ≡ n) ⊎ Among m ms
of_inserted n m [] (inl e) = inl e
of_inserted n m [] (inr i) = absurd i
of_inserted n m (l ∷ ls) i = go (nat_le n l) i (of_inserted n m ls)
  where
    later : (m ≡ n) ⊎ Among m ls → (m ≡ n) ⊎ Among m (l ∷ ls)
    later (inl e) = inl e
    later (inr j) = inr (inr j)

    go : (b : Bool) → Among m (cond b (n ∷ l ∷ ls) (l ∷ with_number n ls)) → (Among m (with_number n ls) → (m ≡ n) ⊎ Among m ls) → (m ≡ n) ⊎ Among m (l ∷ ls)
    go true (inl e) rest = inl e
    go true (inr j) rest = inr j
    go false (inl e) rest = inr (inl e)
    go false (inr j) rest = later (rest j)

distinct-inserted : (n : ℕ) (ms : List ℕ) → (Among n ms → ⊥) → IsDistinct nat_eq ms → IsDistinct nat_eq (with_number n ms)
distinct-inserted n [] out h = distinct-cons n [] (λ i. i) h
distinct-inserted n (m ∷ ms) out h = go (nat_le n m) (distinct-inserted n ms (λ i. out (inr i)) (IsDistinct-tail nat_eq m ms h))
  where
    never : Among m (with_number n ms) → ⊥
    never i = from (of_inserted n m ms i)
      where
        from : (m ≡ n) ⊎ Among m ms → ⊥
        from (inl e) = out (inl (sym e))
        from (inr j) = distinct-out m ms h j

    go : (b : Bool) → IsDistinct nat_eq (with_number n ms) → IsDistinct nat_eq (cond b (n ∷ m ∷ ms) (m ∷ with_number n ms))
    go true k = distinct-cons n (m ∷ ms) out h
    go false k = distinct-cons m (with_number n ms) never k

pub among-ascending : (m : ℕ) (ns : List ℕ) → Among m ns → Among m (ascending ns)
among-ascending m [] i = absurd i
among-ascending m (n ∷ ns) (inl e) = among-inserted n m (ascending ns) (inl e)
among-ascending m (n ∷ ns) (inr i) = among-inserted n m (ascending ns) (inr (among-ascending m ns i))

pub of_ascending : (m : ℕ) (ns : List ℕ) → Among m (ascending ns) → Among m ns
of_ascending m [] i = absurd i
of_ascending m (n ∷ ns) i = go (of_inserted n m (ascending ns) i) (of_ascending m ns)
  where
    go : (m ≡ n) ⊎ Among m (ascending ns) → (Among m (ascending ns) → Among m ns) → Among m (n ∷ ns)
    go (inl e) rest = inl e
    go (inr j) rest = inr (rest j)

pub distinct-ascending : (ns : List ℕ) → IsDistinct nat_eq ns → IsDistinct nat_eq (ascending ns)
distinct-ascending [] h = h
distinct-ascending (n ∷ ns) h = distinct-inserted n (ascending ns) (λ i. distinct-out n ns h (of_ascending n ns i)) (distinct-ascending ns (IsDistinct-tail nat_eq n ns h))

-- the numbers of the dead are those of dead entries
pub among-dead : (e : Entry) (es : List Entry) → Among e es → is_done e.marks.ended ≡ true → Among e.number (dead_among es)
among-dead e es i d = among_map (λ (z : Entry). z.number) e (filter (λ z. is_done z.marks.ended) es) (among-kept (λ (z : Entry). is_done z.marks.ended) e es i d)

pub of_dead : (n : ℕ) (es : List Entry) → Among n (dead_among es) → (e : Entry) × Among e es × (e.number ≡ n) × (is_done e.marks.ended ≡ true)
of_dead n es i =
    let r = from_map (λ (z : Entry). z.number) n (filter (λ z. is_done z.marks.ended) es) i in
    let k = of_kept (λ (z : Entry). is_done z.marks.ended) r.0 es r.1 in
    (r.0, k.0, r.2, k.1)

distinct-dead : (es : List Entry) → IsDistinct nat_eq (map (λ e. e.number) es) → IsDistinct nat_eq (dead_among es)
distinct-dead [] h = h
distinct-dead (e ∷ es) h = go (is_done e.marks.ended) (distinct-dead es (IsDistinct-tail nat_eq e.number (map (λ (z : Entry). z.number) es) h))
  where
    out : Among e.number (dead_among es) → ⊥
    out i = let d = of_dead e.number es i in distinct-out e.number (map (λ (z : Entry). z.number) es) h (subst (λ n. Among n (map (λ (z : Entry). z.number) es)) d.2 (among_map (λ (z : Entry). z.number) d.0 es d.1))

    go : (b : Bool) → IsDistinct nat_eq (dead_among es) → IsDistinct nat_eq (map (λ (z : Entry). z.number) (cond b (e ∷ filter (λ z. is_done z.marks.ended) es) (filter (λ z. is_done z.marks.ended) es)))
    go true k = distinct-cons e.number (dead_among es) out k
    go false k = k

abbrev is_old : List Entry → ℕ → Bool
is_old es n = list_any (nat_eq n) (dead_among es)

of_old : (es : List Entry) (n : ℕ) → is_old es n ≡ true → Among n (dead_among es)
of_old es n h = let a = any-among (nat_eq n) (dead_among es) h in subst (λ m. Among m (dead_among es)) (sym (number-same n a.0 a.2)) a.1

old : (es : List Entry) (n : ℕ) → Among n (dead_among es) → is_old es n ≡ true
old es n i = among-any (nat_eq n) n (dead_among es) i (number-tell n n refl)

pub of_newly : (es es' : List Entry) (n : ℕ) → Among n (newly_dead es es') → Among n (dead_among es') × (Among n (dead_among es) → ⊥)
of_newly es es' n i =
    let k = of_kept (λ m. not (is_old es m)) n (dead_among es') (of_ascending n (filter (λ m. not (is_old es m)) (dead_among es')) i) in
    (k.0, λ j. true≢false (sym (old es n j) ∙ not-true (is_old es n) k.1))

pub among-newly : (es es' : List Entry) (n : ℕ) → Among n (dead_among es') → is_old es n ≡ false → Among n (newly_dead es es')
among-newly es es' n i k = among-ascending n (filter (λ m. not (is_old es m)) (dead_among es')) (among-kept (λ m. not (is_old es m)) n (dead_among es') i (to-not (is_old es n) k))

-- who is dead stays dead, under the same number
abbrev pub StayDead : List Entry → List Entry → Type 0
StayDead es es' = (n : ℕ) → Among n (dead_among es) → Among n (dead_among es')

pub stay_dead-map : (change : Entry → Entry) (es : List Entry) → ((e : Entry) → (change e).number ≡ e.number) → ((e : Entry) → is_done e.marks.ended ≡ true → is_done (change e).marks.ended ≡ true) → StayDead es (map change es)
stay_dead-map change es same done n i =
    let d = of_dead n es i in
    subst (λ m. Among m (dead_among (map change es))) (same d.0 ∙ d.2) (among-dead (change d.0) (map change es) (among_map change d.0 es d.1) (done d.0 d.3))

-- the dead list takes those that die
pub dead_grows : (dead : List ℕ) (es es' : List Entry) → IsDistinct nat_eq (map (λ e. e.number) es') → StayDead es es' → DeadListed dead es → DeadListed (dead ++ newly_dead es es') es'
dead_grows dead es es' distinct stay h = record {
  once = distinct-append dead (newly_dead es es') h.once (distinct-ascending (filter (λ m. not (is_old es m)) (dead_among es')) (distinct-filter (λ m. not (is_old es m)) (dead_among es') (distinct-dead es' distinct))) apart;
  there = λ e i d. there e (among-dead e es' i d) (is_old es e.number) refl;
  back = λ n i. back n (among_split n dead (newly_dead es es') i);
}
  where
    listed : (n : ℕ) → Among n dead → Among n (dead_among es)
    listed n i = let b = h.back n i in subst (λ m. Among m (dead_among es)) b.2 (among-dead b.0 es b.1 b.3)

    apart : (n : ℕ) → Among n dead → Among n (newly_dead es es') → ⊥
    apart n i j = (of_newly es es' n j).1 (listed n i)

    there : (e : Entry) → Among e.number (dead_among es') → (b : Bool) → is_old es e.number ≡ b → Among e.number (dead ++ newly_dead es es')
    there e i true k = let d = of_dead e.number es (of_old es e.number k) in among_left e.number dead (newly_dead es es') (subst (λ n. Among n dead) d.2 (h.there d.0 d.1 d.3))
    there e i false k = among_right e.number dead (newly_dead es es') (among-newly es es' e.number i k)

    back : (n : ℕ) → Among n dead ⊎ Among n (newly_dead es es') → (e : Entry) × Among e es' × (e.number ≡ n) × (is_done e.marks.ended ≡ true)
    back n (inl i) = of_dead n es' (stay n (listed n i))
    back n (inr i) = of_dead n es' (of_newly es es' n i).0
