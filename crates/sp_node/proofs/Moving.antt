-- Entries that stay where they are need not be noted anew: an index that forgets those that leave and notes those that
-- arrive is the one that forgets all entries of the changed leaves and notes all of the new ones.
use Rattle.std.proofs.Common.{◌≡◌, ℕ, zero, suc, ◌<◌, Bool, true, false, cond, ◌&&◌, ◌||◌, List, [], ◌∷◌, ◌++◌, take, drop, map, Option, Some, None, refl, sym, ap, ◌∙◌, subst, arith, inl, inr, ◌⊎◌}
use Rattle.std.specs.Prelude.{nat_eq}
use Rattle.std.specs.List.{AllByRecursion, flat_map, list_any, IsDistinct}
use Rattle.std.proofs.lemmas.Bool.Decides.{nat_tests}
use Rattle.std.proofs.lemmas.List.{map-append}
use Rattle.sp_rect.specs.Plane.{whole}
use Rattle.sp_node.specs.declared.node.Entry.{Entry}
use Rattle.sp_node.specs.declared.node.Node.{Node}
use Rattle.sp_node.specs.declared.plan.Part.{Part}
use Rattle.sp_node.specs.Index.{has_number, is_held, noted, IsIndex}
use Rattle.sp_node.specs.Known.{is_known, AreKnown}
use Rattle.sp_node.specs.Look.{look, entries_in}
use Rattle.sp_node.specs.Moving.{unmoved, before_of, after_of, leaves_by, arrives_by, is_leaving, arrived}
use Rattle.sp_node.specs.Nested.{Place}
use Rattle.sp_node.specs.Plan.{number_of, content, with_parts, AreOrdered}
use Rattle.sp_node.specs.Table.{Table, IsValid, level_of, body_at, places_of}
use Rattle.sp_node.proofs.Adopt.{part_at, look_parts, IsSingle}
use Rattle.sp_node.proofs.Among.{Among, all_among}
use Rattle.sp_node.proofs.ByNumber.{node_of_number}
use Rattle.sp_node.proofs.Single.{own, own_entries, present, absent}
use Rattle.sp_node.proofs.Update.{distinct_apart, distinct_back, distinct_front}

equal_from : (j k : ℕ) → nat_eq j k ≡ true → j ≡ k
equal_from j k e = grind (arith, nat_tests)

self_equal : (k : ℕ) → nat_eq k k ≡ true
self_equal k = grind (arith, nat_tests)

first_of_both : (a b : Bool) → (a && b) ≡ true → a ≡ true
first_of_both true b h = refl
first_of_both false b h = cc

second_of_both : (a b : Bool) → (a && b) ≡ true → b ≡ true
second_of_both true b h = h
second_of_both false b h = cc

-- what stays in front has the same numbers in both lists
pub same_front : (q : ℕ) (before after : List Entry) → has_number (take (unmoved before after) before) q ≡ has_number (take (unmoved before after) after) q
same_front q [] after = refl
same_front q (e ∷ es) [] = refl
same_front q (e ∷ es) (f ∷ fs) = by_test (nat_eq e.number f.number && nat_eq e.id f.id) refl (same_front q es fs)
  where
    by_test : (b : Bool) → (nat_eq e.number f.number && nat_eq e.id f.id) ≡ b → has_number (take (unmoved es fs) es) q ≡ has_number (take (unmoved es fs) fs) q
        → has_number (take (cond b (suc (unmoved es fs)) 0) (e ∷ es)) q ≡ has_number (take (cond b (suc (unmoved es fs)) 0) (f ∷ fs)) q
    by_test true same more =
        ap (λ (n : ℕ). nat_eq q n || has_number (take (unmoved es fs) es) q) (equal_from e.number f.number (first_of_both (nat_eq e.number f.number) (nat_eq e.id f.id) same))
        ∙ ap (λ (b : Bool). nat_eq q f.number || b) more
    by_test false same more = refl

pub front_and_rest : (q n : ℕ) (es : List Entry) → has_number es q ≡ (has_number (take n es) q || has_number (drop n es) q)
front_and_rest q zero es = refl
front_and_rest q (suc n) [] = refl
front_and_rest q (suc n) (e ∷ es) = ap (λ (b : Bool). nat_eq q e.number || b) (front_and_rest q n es) ∙ turn (nat_eq q e.number) (has_number (take n es) q) (has_number (drop n es) q)
  where
    turn : (a b c : Bool) → (a || (b || c)) ≡ ((a || b) || c)
    turn true b c = refl
    turn false b c = refl

-- what is known of the entries that stay is known of them after
pub known_front : (known : List (ℕ × ℕ)) (before after : List Entry) → AreKnown known before → AreKnown known (drop (unmoved before after) after) → AreKnown known after
known_front known [] after all rest = rest
known_front known (e ∷ es) [] all rest = tt
known_front known (e ∷ es) (f ∷ fs) all rest = by_test (nat_eq e.number f.number && nat_eq e.id f.id) refl rest (known_front known es fs all.1)
  where
    by_test : (b : Bool) → (nat_eq e.number f.number && nat_eq e.id f.id) ≡ b → AreKnown known (drop (cond b (suc (unmoved es fs)) 0) (f ∷ fs)) → (AreKnown known (drop (unmoved es fs) fs) → AreKnown known fs) → AreKnown known (f ∷ fs)
    by_test true same rest more =
        let number : e.number ≡ f.number = equal_from e.number f.number (first_of_both (nat_eq e.number f.number) (nat_eq e.id f.id) same) in
        let id : e.id ≡ f.id = equal_from e.id f.id (second_of_both (nat_eq e.number f.number) (nat_eq e.id f.id) same) in
        (ap (λ (i : ℕ). is_known known i f.number) (sym id) ∙ ap (λ (n : ℕ). is_known known e.id n) (sym number) ∙ all.0, more rest)
    by_test false same rest more = rest

-- the entries of a leaf of a valid tree stand in it once
abbrev pub IsOnce : List (ℕ × Node) → Type 0
IsOnce nodes = (k n q : ℕ) → has_number (take n (entries_in (look nodes k))) q ≡ true → has_number (drop n (entries_in (look nodes k))) q ≡ true → ⊥

own_distinct : (p : Place) (ps : List Place) → IsDistinct nat_eq (map (λ e. e.number) (flat_map own ps)) → Among p ps → IsDistinct nat_eq (map (λ e. e.number) (own p))
own_distinct p [] d a = absurd a
own_distinct p (x ∷ ps) d a = by_case a (subst (IsDistinct nat_eq) (map-append (λ (e : Entry). e.number) (own x) (flat_map own ps)) d) (own_distinct p ps)
  where
    by_case : Among p (x ∷ ps) → IsDistinct nat_eq (map (λ (e : Entry). e.number) (own x) ++ map (λ (e : Entry). e.number) (flat_map own ps)) → (IsDistinct nat_eq (map (λ e. e.number) (flat_map own ps)) → Among p ps → IsDistinct nat_eq (map (λ e. e.number) (own p))) → IsDistinct nat_eq (map (λ (e : Entry). e.number) (own p))
    by_case (inl e) split more = subst (λ (y : Place). IsDistinct nat_eq (map (λ (e : Entry). e.number) (own y))) (sym e) (distinct_front (map (λ (e : Entry). e.number) (own x)) (map (λ (e : Entry). e.number) (flat_map own ps)) split)
    by_case (inr m) split more = more (distinct_back (map (λ (e : Entry). e.number) (own x)) (map (λ (e : Entry). e.number) (flat_map own ps)) split) m

take_and_drop : (n : ℕ) (es : List Entry) → es ≡ take n es ++ drop n es
take_and_drop zero es = refl
take_and_drop (suc n) [] = refl
take_and_drop (suc n) (e ∷ es) = ap (λ (xs : List Entry). e ∷ xs) (take_and_drop n es)

once : (q n : ℕ) (es : List Entry) → IsDistinct nat_eq (map (λ e. e.number) es) → has_number (take n es) q ≡ true → has_number (drop n es) q ≡ true → ⊥
once q n es d front rest =
    let numbers : List Entry → List ℕ = λ xs. map (λ (e : Entry). e.number) xs in
    let split = subst (IsDistinct nat_eq) (ap numbers (take_and_drop n es) ∙ map-append (λ (e : Entry). e.number) (take n es) (drop n es)) d in
    let none = absent q (drop n es) (present q (take n es) front (numbers (drop n es)) (distinct_apart (numbers (take n es)) (numbers (drop n es)) split)) in
    cc

pub leaves_once : (t : Table) → IsValid t → IsOnce t.nodes
leaves_once t v k n q front rest = elim (node_of_number t v k) [
  | inr none ↦ absurd (nothing (look t.nodes k) none.1 rest)
  | inl p ↦
      let d = subst (λ (es : List Entry). IsDistinct nat_eq (map (λ (e : Entry). e.number) es)) (sym (own_entries (level_of t) t.root whole (body_at (look t.nodes) (level_of t) t.root))) v.distinct_entries in
      let one : IsDistinct nat_eq (map (λ (e : Entry). e.number) (entries_in (look t.nodes k))) = subst (λ (o : Option Node). IsDistinct nat_eq (map (λ (e : Entry). e.number) (entries_in o))) (sym p.3) (own_distinct p.0 (places_of t) d p.1) in
      once q n (entries_in (look t.nodes k)) one front rest
]
  where
    nothing : (o : Option Node) → o ≡ None → has_number (drop n (entries_in o)) q ≡ true → ⊥
    nothing None e h = empty n h
      where
        empty : (n : ℕ) → has_number (drop n []) q ≡ true → ⊥
        empty zero h = cc
        empty (suc n) h = cc
    nothing (Some x) e h = cc

-- the first part that passes a test, or none does
module _ (test : Part → Bool) where
  abbrev pub chosen : List Part → Option ℕ → Option ℕ
  chosen [] before = before
  chosen (p ∷ ps) before = cond (test p) (Some (number_of p)) (chosen ps before)

  chosen_case : (ps : List Part) (before : Option ℕ) → ((p : Part) × Among p ps × (test p ≡ true) × (chosen ps before ≡ Some (number_of p))) ⊎ ((chosen ps before ≡ before) × AllByRecursion (λ p. test p ≡ false) ps)
  chosen_case [] before = inr (refl, tt)
  chosen_case (p ∷ ps) before = by_test (test p) refl (chosen_case ps before)
    where
      by_test : (b : Bool) → test p ≡ b → ((r : Part) × Among r ps × (test r ≡ true) × (chosen ps before ≡ Some (number_of r))) ⊎ ((chosen ps before ≡ before) × AllByRecursion (λ r. test r ≡ false) ps)
          → ((r : Part) × Among r (p ∷ ps) × (test r ≡ true) × (cond b (Some (number_of p)) (chosen ps before) ≡ Some (number_of r))) ⊎ ((cond b (Some (number_of p)) (chosen ps before) ≡ before) × AllByRecursion (λ r. test r ≡ false) (p ∷ ps))
      by_test true e more = inl (p, inl refl, e, refl)
      by_test false e (inl r) = inl (r.0, inr r.1, r.2, r.3)
      by_test false e (inr none) = inr (none.0, (e, none.1))

  any_case : (ps : List Part) → ((p : Part) × Among p ps × (test p ≡ true) × (list_any test ps ≡ true)) ⊎ ((list_any test ps ≡ false) × AllByRecursion (λ p. test p ≡ false) ps)
  any_case [] = inr (refl, tt)
  any_case (p ∷ ps) = by_test (test p) refl (any_case ps)
    where
      by_test : (b : Bool) → test p ≡ b → ((r : Part) × Among r ps × (test r ≡ true) × (list_any test ps ≡ true)) ⊎ ((list_any test ps ≡ false) × AllByRecursion (λ r. test r ≡ false) ps)
          → ((r : Part) × Among r (p ∷ ps) × (test r ≡ true) × ((b || list_any test ps) ≡ true)) ⊎ (((b || list_any test ps) ≡ false) × AllByRecursion (λ r. test r ≡ false) (p ∷ ps))
      by_test true e more = inl (p, inl refl, e, refl)
      by_test false e (inl r) = inl (r.0, inr r.1, r.2, r.3)
      by_test false e (inr none) = inr (none.0, (e, none.1))

module _ (nodes : List (ℕ × Node)) (q : ℕ) where
  arrived_is : (ps : List Part) (before : Option ℕ) → arrived nodes ps q before ≡ chosen (arrives_by nodes q) ps before
  arrived_is [] before = refl
  arrived_is (p ∷ ps) before = ap (λ (o : Option ℕ). cond (arrives_by nodes q p) (Some (number_of p)) o) (arrived_is ps before)

  noted_is : (ps : List Part) (before : Option ℕ) → noted ps q before ≡ chosen (λ p. has_number (after_of p) q) ps before
  noted_is [] before = refl
  noted_is (p ∷ ps) before = ap (λ (o : Option ℕ). cond (has_number (after_of p) q) (Some (number_of p)) o) (noted_is ps before)

  held_is_any : (ps : List Part) → is_held nodes ps q ≡ list_any (λ p. has_number (before_of nodes p) q) ps
  held_is_any [] = refl
  held_is_any (p ∷ ps) = ap (λ (b : Bool). has_number (before_of nodes p) q || b) (held_is_any ps)

-- under the number of a part stands its content
at_part : (ps : List Part) (p : Part) (o : Option Node) → AreOrdered ps → Among p ps → part_at ps (number_of p) o ≡ content p
at_part [] p o a m = absurd m
at_part (x ∷ ps) p o a (inl e) = ap (λ (r : Part). cond (nat_eq (number_of r) (number_of x)) (content x) (part_at ps (number_of r) o)) e ∙ ap (λ (b : Bool). cond b (content x) (part_at ps (number_of x) o)) (self_equal (number_of x)) ∙ ap content (sym e)
at_part (x ∷ ps) p o a (inr m) = ap (λ (b : Bool). cond b (content x) (part_at ps (number_of p) o)) (apart (number_of x) (number_of p) (all_among (λ (r : Part). number_of x < number_of r) p ps a.0 m)) ∙ at_part ps p o a.1 m
  where
    apart : (m n : ℕ) → m < n → nat_eq n m ≡ false
    apart m n lt = grind (arith, nat_tests)

or_first : (a b : Bool) → a ≡ true → (a || b) ≡ true
or_first a b e = ap (λ (x : Bool). x || b) e

or_second : (a b : Bool) → b ≡ true → (a || b) ≡ true
or_second true b e = refl
or_second false b e = e

not_first : (a b : Bool) → (a || b) ≡ false → a ≡ false
not_first true b e = cc
not_first false b e = refl

one_is_not_second : (a b c : Bool) → c ≡ (a || b) → c ≡ true → b ≡ false → a ≡ true
one_is_not_second true b c is c_is h = refl
one_is_not_second false b c is c_is h = cc

-- what leaves stood there, and what arrives stands there after
module _ (nodes : List (ℕ × Node)) (q : ℕ) (p : Part) where
  abbrev stay : ℕ
  stay = unmoved (before_of nodes p) (after_of p)

  left_stood : leaves_by nodes q p ≡ true → has_number (before_of nodes p) q ≡ true
  left_stood h = front_and_rest q stay (before_of nodes p) ∙ or_second (has_number (take stay (before_of nodes p)) q) (leaves_by nodes q p) h

  arrived_stands : arrives_by nodes q p ≡ true → has_number (after_of p) q ≡ true
  arrived_stands h = front_and_rest q stay (after_of p) ∙ or_second (has_number (take stay (after_of p)) q) (arrives_by nodes q p) h

  -- what stands there after and did not arrive stayed
  stayed : has_number (after_of p) q ≡ true → arrives_by nodes q p ≡ false → has_number (take stay (before_of nodes p)) q ≡ true
  stayed h not = same_front q (before_of nodes p) (after_of p) ∙ one_is_not_second (has_number (take stay (after_of p)) q) (arrives_by nodes q p) (has_number (after_of p) q) (front_and_rest q stay (after_of p)) h not

  stayed_stood : has_number (take stay (before_of nodes p)) q ≡ true → has_number (before_of nodes p) q ≡ true
  stayed_stood h = front_and_rest q stay (before_of nodes p) ∙ or_first (has_number (take stay (before_of nodes p)) q) (leaves_by nodes q p) h

  -- what stood there and stands there no more leaves
  leaves : has_number (before_of nodes p) q ≡ true → has_number (after_of p) q ≡ false → leaves_by nodes q p ≡ false → ⊥
  leaves h gone not =
      let front : has_number (take stay (before_of nodes p)) q ≡ true = one_is_not_second (has_number (take stay (before_of nodes p)) q) (leaves_by nodes q p) (has_number (before_of nodes p) q) (front_and_rest q stay (before_of nodes p)) h not in
      let after : has_number (take stay (after_of p)) q ≡ false = not_first (has_number (take stay (after_of p)) q) (arrives_by nodes q p) (sym (front_and_rest q stay (after_of p)) ∙ gone) in
      let same = same_front q (before_of nodes p) (after_of p) in
      cc

module _ (leaf : ℕ → Option ℕ) (nodes : List (ℕ × Node)) (ps : List Part) (ordered : AreOrdered ps) (index : IsIndex leaf nodes) (single : IsSingle (with_parts nodes ps)) (alone : IsOnce nodes) (q : ℕ) where
  some_is : (a b : ℕ) → Some a ≡ Some b → a ≡ b
  some_is a b e = cc

  look_after : (p : Part) → Among p ps → look (with_parts nodes ps) (number_of p) ≡ content p
  look_after p m = look_parts nodes ps (number_of p) ∙ at_part ps p (look nodes (number_of p)) ordered m

  same_part : (p r : Part) → Among p ps → Among r ps → has_number (after_of p) q ≡ true → has_number (after_of r) q ≡ true → number_of p ≡ number_of r
  same_part p r m n h k = single q (number_of p) (number_of r) (ap (λ (o : Option Node). has_number (entries_in o) q) (look_after p m) ∙ h) (ap (λ (o : Option Node). has_number (entries_in o) q) (look_after r n) ∙ k)

  -- an entry that stays is not among those that leave
  staying : (p r : Part) → Among p ps → Among r ps → has_number (take (unmoved (before_of nodes p) (after_of p)) (before_of nodes p)) q ≡ true → leaves_by nodes q r ≡ true → ⊥
  staying p r m n h k =
      let here : leaf q ≡ Some (number_of p) = (index q (number_of p)).1 (stayed_stood nodes q p h) in
      let there : leaf q ≡ Some (number_of r) = (index q (number_of r)).1 (left_stood nodes q r k) in
      let same : number_of r ≡ number_of p = some_is (number_of r) (number_of p) (sym there ∙ here) in
      let after : content r ≡ content p = sym (look_after r n) ∙ ap (look (with_parts nodes ps)) same ∙ look_after p m in
      let moved : has_number (drop (unmoved (before_of nodes p) (after_of p)) (before_of nodes p)) q ≡ true =
      ap (λ (o : Option Node). has_number (drop (unmoved (before_of nodes p) (entries_in o)) (before_of nodes p)) q) (sym after)
      ∙ ap (λ (j : ℕ). has_number (drop (unmoved (entries_in (look nodes j)) (after_of r)) (entries_in (look nodes j))) q) (sym same) ∙ k in
      alone (number_of p) (unmoved (before_of nodes p) (after_of p)) q h moved

  abbrev left_out : Option ℕ
  left_out = cond (is_leaving nodes ps q) None (leaf q)

  abbrev held_out : Option ℕ
  held_out = cond (is_held nodes ps q) None (leaf q)

  stays_known : (p : Part) → Among p ps → has_number (after_of p) q ≡ true → AllByRecursion (λ r. arrives_by nodes q r ≡ false) ps → left_out ≡ Some (number_of p)
  stays_known p m h none =
      let stays = stayed nodes q p h (all_among (λ (r : Part). arrives_by nodes q r ≡ false) p ps none m) in
      elim (any_case (leaves_by nodes q) ps) [
        | inl r ↦ absurd (staying p r.0 m r.1 stays r.2)
        | inr not ↦ ap (λ (b : Bool). cond b None (leaf q)) not.0 ∙ (index q (number_of p)).1 (stayed_stood nodes q p stays)
      ]

  same_out : AllByRecursion (λ p. has_number (after_of p) q ≡ false) ps → left_out ≡ held_out
  same_out none = ap (λ (b : Bool). cond b None (leaf q)) (elim (any_case (leaves_by nodes q) ps) [
    | inl r ↦ elim (any_case (λ p. has_number (before_of nodes p) q) ps) [
      | inl p ↦ r.3 ∙ sym p.3 ∙ sym (held_is_any nodes q ps)
      | inr not ↦ absurd (clash (has_number (before_of nodes r.0) q) (left_stood nodes q r.0 r.2) (all_among (λ (p : Part). has_number (before_of nodes p) q ≡ false) r.0 ps not.1 r.1))
    ]
    | inr not ↦ elim (any_case (λ p. has_number (before_of nodes p) q) ps) [
      | inl p ↦ absurd (leaves nodes q p.0 p.2 (all_among (λ (p : Part). has_number (after_of p) q ≡ false) p.0 ps none p.1) (all_among (λ (p : Part). leaves_by nodes q p ≡ false) p.0 ps not.1 p.1))
      | inr none_held ↦ not.0 ∙ sym none_held.0 ∙ sym (held_is_any nodes q ps)
    ]
  ])
    where
      clash : (b : Bool) → b ≡ true → b ≡ false → ⊥
      clash b e f = cc

  pub arrived_as_noted : arrived nodes ps q (cond (is_leaving nodes ps q) None (leaf q)) ≡ noted ps q (cond (is_held nodes ps q) None (leaf q))
  arrived_as_noted = arrived_is nodes q ps left_out ∙ by_cases ∙ sym (noted_is nodes q ps held_out)
    where
      by_cases : chosen (arrives_by nodes q) ps left_out ≡ chosen (λ p. has_number (after_of p) q) ps held_out
      by_cases = elim (chosen_case (arrives_by nodes q) ps left_out) [
        | inl r ↦ elim (chosen_case (λ p. has_number (after_of p) q) ps held_out) [
          | inl p ↦ r.3 ∙ ap (λ (n : ℕ). Some n) (same_part r.0 p.0 r.1 p.1 (arrived_stands nodes q r.0 r.2) p.2) ∙ sym p.3
          | inr not ↦ absurd (clash (has_number (after_of r.0) q) (arrived_stands nodes q r.0 r.2) (all_among (λ (p : Part). has_number (after_of p) q ≡ false) r.0 ps not.1 r.1))
        ]
        | inr none ↦ elim (chosen_case (λ p. has_number (after_of p) q) ps held_out) [
          | inl p ↦ none.0 ∙ stays_known p.0 p.1 p.2 none.1 ∙ sym p.3
          | inr not ↦ none.0 ∙ same_out not.1 ∙ sym not.0
        ]
      ]
        where
          clash : (b : Bool) → b ≡ true → b ≡ false → ⊥
          clash b e f = cc
