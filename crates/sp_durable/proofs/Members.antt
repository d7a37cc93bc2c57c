-- Lists of entries with the same members give the same changes, in whatever order.
use Rattle.std.proofs.Common.{◌≡◌, ◌⊎◌, ℕ, false, List, [], ◌∷◌, ◌++◌, map, filter, nat_eq, refl, sym, ap, ◌∙◌, subst, inl, inr, append_assoc}
use Rattle.std.specs.List.{flat_map, IsDistinct, AllByRecursion}
use Rattle.std.specs.List.Sorted.{IsPermutation}
use Rattle.std.specs.Option.{option_to_list}
use Rattle.std.proofs.lemmas.List.Sorted.{IsPermutation-refl, IsPermutation-sym, IsPermutation-trans, IsPermutation-append_comm, IsPermutation-append_left, IsPermutation-append_right}
use Rattle.sp_plain.specs.declared.change.Change.{Change}
use Rattle.sp_node.specs.declared.node.Entry.{Entry}
use Rattle.sp_node.specs.Among.{Among}
use Rattle.sp_node.specs.Marks.{is_marked}
use Rattle.sp_node.proofs.Lists.{flat_map-filter, distinct_filter}
use Rattle.sp_txn.specs.Changes.{change_of, changes_of}
use Rattle.sp_protection.specs.Replays.{SameMembers}
use Rattle.sp_protection.proofs.Leaves.{among_map}
use Rattle.sp_model.proofs.Sessions.{among-kept, of_kept}
use Rattle.sp_model.proofs.Dead.{distinct-out}
use Rattle.sp_durable.proofs.Alike.{unmarked_none}
use Rattle.std.proofs.lemmas.Map.Keys.{IsDistinct-tail}

-- each member stands once
abbrev AreOnce : List Entry → Type 0
AreOnce [] = Unit {0}
AreOnce (e ∷ es) = (Among e es → ⊥) × AreOnce es

once : (es : List Entry) → IsDistinct nat_eq (map (λ e. e.number) es) → AreOnce es
once [] d = tt
once (e ∷ es) d = (λ i. distinct-out e.number (map (λ x. x.number) es) d (among_map (λ x. x.number) e es i), once es (IsDistinct-tail nat_eq e.number (map (λ x. x.number) es) d))

-- the list without that member
without_one : (e : Entry) (es : List Entry) → Among e es → List Entry
without_one e [] h = []
without_one e (x ∷ es) (inl s) = es
without_one e (x ∷ es) (inr h) = x ∷ without_one e es h

still_among : (e f : Entry) (es : List Entry) (i : Among e es) → Among f es → (f ≡ e) ⊎ Among f (without_one e es i)
unfolding without_one
still_among e f [] h j = absurd h
still_among e f (x ∷ es) (inl s) (inl t) = inl (t ∙ sym s)
still_among e f (x ∷ es) (inl s) (inr j) = inr j
still_among e f (x ∷ es) (inr h) (inl t) = inr (inl t)
still_among e f (x ∷ es) (inr h) (inr j) = go (still_among e f es h j)
  where
    go : (f ≡ e) ⊎ Among f (without_one e es h) → (f ≡ e) ⊎ Among f (x ∷ without_one e es h)
    go (inl s) = inl s
    go (inr k) = inr (inr k)

was_among : (e f : Entry) (es : List Entry) (i : Among e es) → Among f (without_one e es i) → Among f es
unfolding without_one
was_among e f [] h j = absurd h
was_among e f (x ∷ es) (inl s) j = inr j
was_among e f (x ∷ es) (inr h) (inl t) = inl t
was_among e f (x ∷ es) (inr h) (inr j) = inr (was_among e f es h j)

still_once : (e : Entry) (es : List Entry) (i : Among e es) → AreOnce es → AreOnce (without_one e es i)
unfolding without_one
still_once e [] h o = absurd h
still_once e (x ∷ es) (inl s) o = o.1
still_once e (x ∷ es) (inr h) o = (λ j. o.0 (was_among e x es h j), still_once e es h o.1)

gone : (e : Entry) (es : List Entry) (i : Among e es) → AreOnce es → Among e (without_one e es i) → ⊥
unfolding without_one
gone e [] h o j = h
gone e (x ∷ es) (inl s) o j = o.0 (subst (λ (z : Entry). Among z es) s j)
gone e (x ∷ es) (inr h) o (inl t) = o.0 (subst (λ (z : Entry). Among z es) t h)
gone e (x ∷ es) (inr h) o (inr j) = gone e es h o.1 j

module _ (f : Entry → List Change) where
  turned : (u v w : List Change) → IsPermutation (u ++ (v ++ w)) (v ++ (u ++ w))
  turned u v w = subst (λ (l : List Change). IsPermutation l (v ++ (u ++ w))) (append_assoc u v w) (subst (λ (r : List Change). IsPermutation ((u ++ v) ++ w) r) (append_assoc v u w) (IsPermutation-append_left w (u ++ v) (v ++ u) (IsPermutation-append_comm u v)))

  taken_out : (e : Entry) (es : List Entry) (i : Among e es) → IsPermutation (flat_map f es) (f e ++ flat_map f (without_one e es i))
  unfolding without_one
  taken_out e [] h = absurd h
  taken_out e (x ∷ es) (inl s) = subst (λ (z : Entry). IsPermutation (f x ++ flat_map f es) (f z ++ flat_map f es)) (sym s) (IsPermutation-refl (f x ++ flat_map f es))
  taken_out e (x ∷ es) (inr h) =
      IsPermutation-trans (f x ++ flat_map f es) (f x ++ (f e ++ flat_map f (without_one e es h))) (f e ++ (f x ++ flat_map f (without_one e es h)))
      (IsPermutation-append_right (f x) (flat_map f es) (f e ++ flat_map f (without_one e es h)) (taken_out e es h)) (turned (f x) (f e) (flat_map f (without_one e es h)))

  same_permuted : (xs ys : List Entry) → AreOnce xs → AreOnce ys → ((e : Entry) → Among e xs → Among e ys) → ((e : Entry) → Among e ys → Among e xs) → IsPermutation (flat_map f xs) (flat_map f ys)
  same_permuted [] [] o p there back = IsPermutation-refl []
  same_permuted [] (y ∷ ys) o p there back = absurd (back y (inl refl))
  same_permuted (x ∷ xs) ys o p there back =
      let i = there x (inl refl) in
      let rest = without_one x ys i in
      let more = same_permuted xs rest o.1 (still_once x ys i p) (λ e j. others e j rest (still_among x e ys i (there e (inr j)))) (λ e j. old e i j (back e (was_among x e ys i j))) in
      IsPermutation-trans (f x ++ flat_map f xs) (f x ++ flat_map f rest) (flat_map f ys) (IsPermutation-append_right (f x) (flat_map f xs) (flat_map f rest) more) (IsPermutation-sym (flat_map f ys) (f x ++ flat_map f rest) (taken_out x ys i))
    where
      others : (e : Entry) → Among e xs → (rest : List Entry) → (e ≡ x) ⊎ Among e rest → Among e rest
      others e j rest (inl s) = absurd (o.0 (subst (λ (z : Entry). Among z xs) s j))
      others e j rest (inr k) = k

      old : (e : Entry) (i : Among x ys) → Among e (without_one x ys i) → (e ≡ x) ⊎ Among e xs → Among e xs
      old e i j (inl s) = absurd (gone x ys i p (subst (λ (z : Entry). Among z (without_one x ys i)) s j))
      old e i j (inr k) = k

each : (P : Entry → Type 0) (es : List Entry) → ((e : Entry) → Among e es → P e) → AllByRecursion P es
each P [] f = tt
each P (e ∷ es) f = (f e (inl refl), each P es (λ x i. f x (inr i)))

-- the changes are those at the entries that bear a mark
at_marked : (t : ℕ) (es : List Entry) → changes_of t es ≡ flat_map (λ e. option_to_list (change_of t e)) (filter (is_marked t) es)
at_marked t es = flat_map-filter (is_marked t) (λ e. option_to_list (change_of t e)) es (each (λ e. is_marked t e ≡ false → option_to_list (change_of t e) ≡ []) es (λ e i m. ap option_to_list (unmarked_none t e m)))

pub changes_permuted : (t : ℕ) (es others : List Entry) → SameMembers (is_marked t) es others → IsPermutation (changes_of t es) (changes_of t others)
changes_permuted t es others same =
    subst (λ (cs : List Change). IsPermutation cs (changes_of t others)) (sym (at_marked t es))
    (subst (IsPermutation (flat_map (λ e. option_to_list (change_of t e)) (filter (is_marked t) es))) (sym (at_marked t others))
    (same_permuted (λ e. option_to_list (change_of t e)) (filter (is_marked t) es) (filter (is_marked t) others)
    (once (filter (is_marked t) es) (distinct_filter (is_marked t) (λ e. e.number) es same.distinct)) (once (filter (is_marked t) others) (distinct_filter (is_marked t) (λ e. e.number) others same.distinct_others))
    (λ e i. let k = of_kept (is_marked t) e es i in among-kept (is_marked t) e others (same.there e k.0 k.1) k.1) (λ e i. let k = of_kept (is_marked t) e others i in among-kept (is_marked t) e es (same.back e k.0 k.1) k.1)))
