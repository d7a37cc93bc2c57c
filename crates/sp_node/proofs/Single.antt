-- No entry of a valid tree stands in two leaves; and an index tells the first leaf of the table.
use Rattle.std.proofs.Common.{◌≡◌, ℕ, zero, suc, Bool, true, false, cond, ◌||◌, List, [], ◌∷◌, ◌++◌, Option, Some, None, map, refl, sym, ap, ◌∙◌, subst, arith, inl, inr, ◌⊎◌}
use Rattle.std.specs.Prelude.{nat_eq}
use Rattle.std.specs.List.{AllByRecursion, flat_map, IsDistinct}
use Rattle.std.proofs.lemmas.Bool.Decides.{nat_tests}
use Rattle.std.proofs.lemmas.Cmp.{nat_eq_equiv}
use Rattle.std.proofs.lemmas.List.{map-append, append-nil}
use Rattle.std.proofs.lemmas.Grind.{flat_map-append}
use Rattle.std.proofs.lemmas.List.Sorted.{IsPermutation-sym}
use Rattle.std.proofs.lemmas.Map.Keys.{IsDistinct-head, IsDistinct-tail, IsDistinct-IsPermutation}
use Rattle.sp_rect.specs.Plane.{Rectangle, whole}
use Rattle.sp_node.specs.declared.node.Entry.{Entry}
use Rattle.sp_node.specs.declared.node.Node.{Node}
use Rattle.sp_node.specs.Nested.{Body, Branch, Place, places, node, entries}
use Rattle.sp_node.specs.Look.{look, entries_of_node}
use Rattle.sp_node.specs.Index.{has_number, leaf_with, IsIndex}
use Rattle.sp_node.specs.Table.{Table, level_of, IsValid, places_of, body_at}
use Rattle.sp_node.proofs.Among.{Among}
use Rattle.sp_node.proofs.Update.{IsNone, distinct_apart, distinct_back}
use Rattle.sp_node.proofs.ByNumber.{node_of_number}
use Rattle.sp_node.proofs.Adopt.{has, IsSingle}

-- the entries of one place
abbrev pub own : Place → List Entry
own p = entries_of_node (node p.level p.body)

own_below : (level : ℕ) (branches : List (Branch (Body level))) → ((b : Branch (Body level)) → flat_map own (places level b.number b.rect b.body) ≡ entries level b.body) → flat_map own (flat_map (λ b. places level b.number b.rect b.body) branches) ≡ flat_map (λ b. entries level b.body) branches
own_below level [] f = refl
own_below level (b ∷ bs) f = joined (places level b.number b.rect b.body) (flat_map (λ b. places level b.number b.rect b.body) bs) ∙ ap (λ (es : List Entry). es ++ flat_map own (flat_map (λ b. places level b.number b.rect b.body) bs)) (f b) ∙ ap (λ (es : List Entry). entries level b.body ++ es) (own_below level bs f)
  where
    joined : (ps rs : List Place) → flat_map own (ps ++ rs) ≡ flat_map own ps ++ flat_map own rs
    joined ps rs = flat_map-append own ps rs

pub own_entries : (level number : ℕ) (space : Rectangle) (body : Body level) → flat_map own (places level number space body) ≡ entries level body
own_entries zero number space es = append-nil es
own_entries (suc level) number space bs = own_below level bs (λ b. own_entries level b.number b.rect b.body)

-- of distinct numbers, one stands in one list alone
module _ (q : ℕ) where
  pub present : (es : List Entry) → has_number es q ≡ true → (x : List ℕ) → AllByRecursion (IsNone x) (map (λ e. e.number) es) → IsNone x q
  present [] h x a = cc
  present (e ∷ es) h x a = by_test (nat_eq q e.number) refl h (λ k. present es k x a.1)
    where
      same : nat_eq q e.number ≡ true → q ≡ e.number
      same k = grind (arith, nat_tests)

      by_test : (b : Bool) → nat_eq q e.number ≡ b → (b || has_number es q) ≡ true → (has_number es q ≡ true → IsNone x q) → IsNone x q
      by_test true k h f = subst (IsNone x) (sym (same k)) a.0
      by_test false k h f = f h

  pub absent : (es : List Entry) → IsNone (map (λ e. e.number) es) q → has_number es q ≡ false
  absent [] n = refl
  absent (e ∷ es) n = ap (λ (b : Bool). b || has_number es q) n.0 ∙ absent es n.1

  pub has_append : (es fs : List Entry) → has_number (es ++ fs) q ≡ (has_number es q || has_number fs q)
  has_append [] fs = refl
  has_append (e ∷ es) fs = ap (λ (b : Bool). nat_eq q e.number || b) (has_append es fs) ∙ turn (nat_eq q e.number) (has_number es q) (has_number fs q)
    where
      turn : (a b c : Bool) → (a || (b || c)) ≡ ((a || b) || c)
      turn true b c = refl
      turn false b c = refl

  pub has_among : (p : Place) (ps : List Place) → Among p ps → has_number (own p) q ≡ true → has_number (flat_map own ps) q ≡ true
  has_among p [] a h = absurd a
  has_among p (r ∷ ps) (inl e) h = has_append (own r) (flat_map own ps) ∙ ap (λ (b : Bool). b || has_number (flat_map own ps) q) (ap (λ (x : Place). has_number (own x) q) (sym e) ∙ h)
  has_among p (r ∷ ps) (inr a) h = has_append (own r) (flat_map own ps) ∙ or_true (has_number (own r) q) _ (has_among p ps a h)
    where
      or_true : (b c : Bool) → c ≡ true → (b || c) ≡ true
      or_true true c e = refl
      or_true false c e = e

  -- the head's entries are apart from the rest's
  clash : (p r : Place) (ps : List Place) → IsDistinct nat_eq (map (λ e. e.number) (flat_map own (p ∷ ps))) → Among r ps → has_number (own p) q ≡ true → has_number (own r) q ≡ true → ⊥
  clash p r ps d a h k =
      let split = subst (IsDistinct nat_eq) (map-append (λ (e : Entry). e.number) (own p) (flat_map own ps)) d in
      let apart = distinct_apart (map (λ (e : Entry). e.number) (own p)) (map (λ (e : Entry). e.number) (flat_map own ps)) split in
      let none = absent (flat_map own ps) (present (own p) h (map (λ (e : Entry). e.number) (flat_map own ps)) apart) in
      let some = has_among r ps a k in
      cc

  single_place : (ps : List Place) → IsDistinct nat_eq (map (λ e. e.number) (flat_map own ps)) → (p r : Place) → Among p ps → Among r ps → has_number (own p) q ≡ true → has_number (own r) q ≡ true → p ≡ r
  single_place [] d p r a b h k = absurd a
  single_place (x ∷ ps) d p r (inl e) (inl f) h k = e ∙ sym f
  single_place (x ∷ ps) d p r (inl e) (inr b) h k = absurd (clash x r ps d b (ap (λ (y : Place). has_number (own y) q) (sym e) ∙ h) k)
  single_place (x ∷ ps) d p r (inr a) (inl f) h k = absurd (clash x p ps d a (ap (λ (y : Place). has_number (own y) q) (sym f) ∙ k) h)
  single_place (x ∷ ps) d p r (inr a) (inr b) h k = single_place ps (distinct_back (map (λ (e : Entry). e.number) (own x)) _ (subst (IsDistinct nat_eq) (map-append (λ (e : Entry). e.number) (own x) (flat_map own ps)) d)) p r a b h k

pub single_leaf : (t : Table) → IsValid t → IsSingle t.nodes
single_leaf t v q j k hj hk = elim (node_of_number t v j) [
  | inr n ↦ absurd (nothing (look t.nodes j) n.1 hj)
  | inl p ↦ elim (node_of_number t v k) [
    | inr n ↦ absurd (nothing (look t.nodes k) n.1 hk)
    | inl r ↦
        let here : Place = p.0 in
        let there : Place = r.0 in
        let d = subst (λ (es : List Entry). IsDistinct nat_eq (map (λ (e : Entry). e.number) es)) (sym (own_entries (level_of t) t.root whole (body_at (look t.nodes) (level_of t) t.root))) v.distinct_entries in
        let same = single_place q (places_of t) d here there p.1 r.1 (ap (λ (o : Option Node). has o q) (sym p.3) ∙ hj) (ap (λ (o : Option Node). has o q) (sym r.3) ∙ hk) in
        sym p.2 ∙ ap (λ (x : Place). x.number) same ∙ r.2
  ]
]
  where
    nothing : (o : Option Node) → o ≡ None → has o q ≡ true → ⊥
    nothing o e h = let f = ap (λ (x : Option Node). has x q) e in cc

-- the first leaf of the table that has the entry
module _ (q : ℕ) where
  gone : (k : ℕ) (ns : List (ℕ × Node)) → AllByRecursion (λ m. nat_eq k m ≡ false) (map (λ n. n.0) ns) → look ns k ≡ None
  gone k [] h = refl
  gone k (n ∷ ns) h = ap (λ (b : Bool). cond b (Some n.1) (look ns k)) h.0 ∙ gone k ns h.1

  pub first_leaf : (ns : List (ℕ × Node)) → IsDistinct nat_eq (map (λ n. n.0) ns) → ((k : ℕ) × (leaf_with ns q ≡ Some k) × (has (look ns k) q ≡ true)) ⊎ ((leaf_with ns q ≡ None) × ((k : ℕ) → has (look ns k) q ≡ false))
  first_leaf [] d = inr (refl, λ k. refl)
  first_leaf (n ∷ ns) d = by_test (has_number (entries_of_node n.1) q) refl (first_leaf ns (IsDistinct-tail nat_eq n.0 (map (λ m. m.0) ns) d))
    where
      self_equal : (k : ℕ) → nat_eq k k ≡ true
      self_equal k = grind (arith, nat_tests)

      equal_from : (j k : ℕ) → nat_eq j k ≡ true → j ≡ k
      equal_from j k e = grind (arith, nat_tests)

      absent_own : look ns n.0 ≡ None
      absent_own = gone n.0 ns (IsDistinct-head nat_eq n.0 (map (λ m. m.0) ns) d)

      other : (k : ℕ) (b : Bool) → nat_eq k n.0 ≡ b → has (look ns k) q ≡ true → has (cond b (Some n.1) (look ns k)) q ≡ true
      other k true e h = let f = ap (λ (o : Option Node). has o q) (ap (look ns) (equal_from k n.0 e) ∙ absent_own) in cc
      other k false e h = h

      none : (k : ℕ) (b : Bool) → has_number (entries_of_node n.1) q ≡ false → has (look ns k) q ≡ false → has (cond b (Some n.1) (look ns k)) q ≡ false
      none k true e h = e
      none k false e h = h

      by_test : (b : Bool) → has_number (entries_of_node n.1) q ≡ b → (((k : ℕ) × (leaf_with ns q ≡ Some k) × (has (look ns k) q ≡ true)) ⊎ ((leaf_with ns q ≡ None) × ((k : ℕ) → has (look ns k) q ≡ false))) → ((k : ℕ) × (leaf_with (n ∷ ns) q ≡ Some k) × (has (look (n ∷ ns) k) q ≡ true)) ⊎ ((leaf_with (n ∷ ns) q ≡ None) × ((k : ℕ) → has (look (n ∷ ns) k) q ≡ false))
      by_test true e h = inl (n.0, ap (λ (b : Bool). cond b (Some n.0) (leaf_with ns q)) e, ap (λ (b : Bool). has (cond b (Some n.1) (look ns n.0)) q) (self_equal n.0) ∙ e)
      by_test false e (inl h) = inl (h.0, ap (λ (b : Bool). cond b (Some n.0) (leaf_with ns q)) e ∙ h.1, other h.0 (nat_eq h.0 n.0) refl h.2)
      by_test false e (inr h) = inr (ap (λ (b : Bool). cond b (Some n.0) (leaf_with ns q)) e ∙ h.0, λ k. none k (nat_eq k n.0) e (h.1 k))

pub index_is_first : (leaf : ℕ → Option ℕ) (t : Table) → IsValid t → IsIndex leaf t.nodes → (q : ℕ) → leaf q ≡ leaf_with t.nodes q
index_is_first leaf t v index q = elim (first_leaf q t.nodes d) [
  | inl h ↦ (index q h.0).1 h.2 ∙ sym h.1
  | inr h ↦ by_cases (leaf q) refl (λ k e. absurd (no (has (look t.nodes k) q) ((index q k).0 e) (h.1 k))) ∙ sym h.0
]
  where
    d : IsDistinct nat_eq (map (λ n. n.0) t.nodes)
    d = IsDistinct-IsPermutation nat_eq (nat_eq_equiv.symm) _ _ (IsPermutation-sym _ _ v.whole_table) v.distinct

    no : (b : Bool) → b ≡ true → b ≡ false → ⊥
    no b e f = cc

    by_cases : (o : Option ℕ) → leaf q ≡ o → ((k : ℕ) → leaf q ≡ Some k → ⊥) → o ≡ None
    by_cases None e f = refl
    by_cases (Some k) e f = absurd (f k e)
