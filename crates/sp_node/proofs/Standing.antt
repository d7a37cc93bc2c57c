-- What a table has under a number is what the tree has there: nodes, the leaves of entries, and entries.
use Rattle.std.proofs.Common.{◌≡◌, ℕ, Bool, true, false, cond, ◌||◌, List, [], ◌∷◌, ◌++◌, Option, Some, None, map, refl, sym, ap, ◌∙◌, subst, arith, inl, inr, ◌⊎◌}
use Rattle.std.specs.Prelude.{nat_eq, MatchOption}
use Rattle.std.specs.List.{AllByRecursion, flat_map, IsDistinct, list_any, filter}
use Rattle.std.specs.List.Sorted.{IsPermutation, IsStrictlyIncreasing}
use Rattle.std.specs.Option.{option_and_then}
use Rattle.std.proofs.lemmas.Bool.Decides.{nat_tests}
use Rattle.std.proofs.lemmas.Cmp.{nat_eq_equiv}
use Rattle.std.proofs.lemmas.List.{map-append}
use Rattle.std.proofs.lemmas.List.Sorted.{IsPermutation-sym}
use Rattle.std.proofs.lemmas.Map.Keys.{IsDistinct-head, IsDistinct-tail, IsDistinct-cons, IsDistinct-IsPermutation}
use Rattle.sp_rect.specs.Plane.{whole}
use Rattle.sp_node.specs.declared.node.Entry.{Entry}
use Rattle.sp_node.specs.declared.node.Node.{Node}
use Rattle.sp_node.specs.Among.{Among}
use Rattle.sp_node.specs.Look.{look, entries_in}
use Rattle.sp_node.specs.Nested.{Place, node}
use Rattle.sp_node.specs.Known.{is_known, IsNoted, numbers_under}
use Rattle.sp_node.specs.Marked.{entries_marked}
use Rattle.sp_node.specs.Marks.{is_marked}
use Rattle.sp_node.specs.Index.{has_number, has_id, passes, leaf_with, entry_in, entry_of, AreAllKnown, AreAllNoted}
use Rattle.sp_node.specs.Table.{Table, level_of, IsValid, places_of, entries_of, body_at, entries_with_id}
use Rattle.sp_node.specs.Standing.{IsNodeOf, HasNoNode, IsEntryOf, HasNoEntry, IsLeafOf}
use Rattle.sp_node.proofs.Among.{all_among, among_flat_map, from_flat_map}
use Rattle.sp_node.proofs.Adopt.{has}
use Rattle.sp_node.proofs.Entries.{has_from_among}
use Rattle.sp_node.proofs.ByNumber.{node_of_number}
use Rattle.sp_node.proofs.Frame.{places_stand}
use Rattle.sp_node.proofs.Known.{under_any}
use Rattle.sp_node.proofs.Lists.{distinct_filter}
use Rattle.sp_node.proofs.Members.{permutation_from_members, ascends_filter, distinct_from_ascending, any_filter}
use Rattle.sp_node.proofs.Single.{own, own_entries, has_append, single_leaf, first_leaf}
use Rattle.sp_node.proofs.Update.{distinct_back}

self_equal : (k : ℕ) → nat_eq k k ≡ true
self_equal k = grind (arith, nat_tests)

equal_from : (j k : ℕ) → nat_eq j k ≡ true → j ≡ k
equal_from j k e = grind (arith, nat_tests)

-- entries by their numbers
pub has_is_any : (es : List Entry) (q : ℕ) → has_number es q ≡ list_any (nat_eq q) (map (λ e. e.number) es)
has_is_any [] q = refl
has_is_any (e ∷ es) q = ap (λ (b : Bool). nat_eq q e.number || b) (has_is_any es q)

pub entry_in_is : (es : List Entry) (q : ℕ) (e : Entry) → entry_in es q ≡ Some e → Among e es × (e.number ≡ q)
entry_in_is [] q e h = cc
entry_in_is (x ∷ es) q e h = by_test (nat_eq q x.number) refl h (entry_in_is es q e)
  where
    by_test : (b : Bool) → nat_eq q x.number ≡ b → cond b (Some x) (entry_in es q) ≡ Some e → (entry_in es q ≡ Some e → Among e es × (e.number ≡ q)) → Among e (x ∷ es) × (e.number ≡ q)
    by_test true k h f = let same : x ≡ e = cc in (inl (sym same), ap (λ (y : Entry). y.number) (sym same) ∙ sym (equal_from q x.number k))
    by_test false k h f = let more = f h in (inr more.0, more.1)

pub entry_in_some : (es : List Entry) (q : ℕ) → has_number es q ≡ true → (e : Entry) × (entry_in es q ≡ Some e)
entry_in_some [] q h = cc
entry_in_some (x ∷ es) q h = by_test (nat_eq q x.number) h (entry_in_some es q)
  where
    by_test : (b : Bool) → (b || has_number es q) ≡ true → (has_number es q ≡ true → (e : Entry) × (entry_in es q ≡ Some e)) → (e : Entry) × (cond b (Some x) (entry_in es q) ≡ Some e)
    by_test true h f = (x, refl)
    by_test false h f = f h

pub entry_in_of : (es : List Entry) (e : Entry) → IsDistinct nat_eq (map (λ x. x.number) es) → Among e es → entry_in es e.number ≡ Some e
entry_in_of [] e d a = absurd a
entry_in_of (x ∷ es) e d (inl same) = ap (λ (b : Bool). cond b (Some x) (entry_in es e.number)) (ap (λ (y : Entry). nat_eq e.number y.number) (sym same) ∙ self_equal e.number) ∙ ap (λ (y : Entry). Some y) (sym same)
entry_in_of (x ∷ es) e d (inr a) =
    let apart = all_number e es (IsDistinct-head nat_eq x.number (map (λ y. y.number) es) d) a in
    ap (λ (b : Bool). cond b (Some x) (entry_in es e.number)) (nat_eq_equiv.symm e.number x.number ∙ apart) ∙ entry_in_of es e (IsDistinct-tail nat_eq x.number (map (λ y. y.number) es) d) a
  where
    all_number : (e : Entry) (es : List Entry) → AllByRecursion (λ n. nat_eq x.number n ≡ false) (map (λ y. y.number) es) → Among e es → nat_eq x.number e.number ≡ false
    all_number e [] h a = absurd a
    all_number e (y ∷ ys) h (inl s) = ap (λ (z : Entry). nat_eq x.number z.number) s ∙ h.0
    all_number e (y ∷ ys) h (inr a) = all_number e ys h.1 a

-- numbers of a part are distinct
distinct_front : (xs ys : List ℕ) → IsDistinct nat_eq (xs ++ ys) → IsDistinct nat_eq xs
distinct_front [] ys d = IsDistinct-nil
  where
    IsDistinct-nil : IsDistinct nat_eq []
    IsDistinct-nil = distinct_back ys [] (subst (IsDistinct nat_eq) (sym (append_none ys)) d)
      where
        append_none : (zs : List ℕ) → zs ++ [] ≡ zs
        append_none [] = refl
        append_none (z ∷ zs) = ap (λ ws. z ∷ ws) (append_none zs)
distinct_front (x ∷ xs) ys d = IsDistinct-cons nat_eq x xs (front (λ y. nat_eq x y ≡ false) xs ys (IsDistinct-head nat_eq x (xs ++ ys) d)) (distinct_front xs ys (IsDistinct-tail nat_eq x (xs ++ ys) d))
  where
    front : (P : ℕ → Type 0) (xs ys : List ℕ) → AllByRecursion P (xs ++ ys) → AllByRecursion P xs
    front P [] ys h = tt
    front P (x ∷ xs) ys h = (h.0, front P xs ys h.1)

pub own_distinct : (ps : List Place) → IsDistinct nat_eq (map (λ e. e.number) (flat_map own ps)) → (p : Place) → Among p ps → IsDistinct nat_eq (map (λ e. e.number) (own p))
own_distinct [] d p a = absurd a
own_distinct (r ∷ ps) d p a = by_case a (λ b. own_distinct ps (distinct_back (map (λ (e : Entry). e.number) (own r)) _ split) p b)
  where
    split : IsDistinct nat_eq (map (λ (e : Entry). e.number) (own r) ++ map (λ (e : Entry). e.number) (flat_map own ps))
    split = subst (IsDistinct nat_eq) (map-append (λ (e : Entry). e.number) (own r) (flat_map own ps)) d

    by_case : Among p (r ∷ ps) → (Among p ps → IsDistinct nat_eq (map (λ (e : Entry). e.number) (own p))) → IsDistinct nat_eq (map (λ (e : Entry). e.number) (own p))
    by_case (inl e) f = subst (λ (x : Place). IsDistinct nat_eq (map (λ (y : Entry). y.number) (own x))) (sym e) (distinct_front (map (λ (y : Entry). y.number) (own r)) _ split)
    by_case (inr b) f = f b

module _ (t : Table) (v : IsValid t) where
  pub own_all : flat_map own (places_of t) ≡ entries_of t
  own_all = own_entries (level_of t) t.root whole (body_at (look t.nodes) (level_of t) t.root)

  pub all_distinct : IsDistinct nat_eq (map (λ e. e.number) (flat_map own (places_of t)))
  all_distinct = subst (λ (es : List Entry). IsDistinct nat_eq (map (λ (e : Entry). e.number) es)) (sym own_all) v.distinct_entries

  pub keys_distinct : IsDistinct nat_eq (map (λ n. n.0) t.nodes)
  keys_distinct = IsDistinct-IsPermutation nat_eq (nat_eq_equiv.symm) _ _ (IsPermutation-sym _ _ v.whole_table) v.distinct

  -- a node of the tree is in the table
  pub place_stands : (p : Place) → Among p (places_of t) → look t.nodes p.number ≡ Some (node p.level p.body)
  place_stands p a = all_among (λ (r : Place). look t.nodes r.number ≡ Some (node r.level r.body)) p (places_of t) (places_stand (look t.nodes) (level_of t) t.root whole v.stands) a

  pub node_stands : (k : ℕ) → MatchOption (look t.nodes k) (HasNoNode t k) (IsNodeOf t k)
  node_stands k = elim (node_of_number t v k) [
    | inl p ↦ subst (λ (o : Option Node). MatchOption o (HasNoNode t k) (IsNodeOf t k)) (sym p.3) (record { place = p.0; among = p.1; named = p.2; is = refl })
    | inr n ↦ subst (λ (o : Option Node). MatchOption o (HasNoNode t k) (IsNodeOf t k)) (sym n.1) n.0
  ]

  none_own : (q : ℕ) (ps : List Place) → AllByRecursion (λ p. has_number (own p) q ≡ false) ps → has_number (flat_map own ps) q ≡ false
  none_own q [] h = refl
  none_own q (p ∷ ps) h = has_append q (own p) (flat_map own ps) ∙ ap (λ (b : Bool). b || has_number (flat_map own ps) q) h.0 ∙ none_own q ps h.1

  each : {X : Type 0} (P : X → Type 0) (xs : List X) → ((x : X) → Among x xs → P x) → AllByRecursion P xs
  each P [] f = tt
  each P (x ∷ xs) f = (f x (inl refl), each P xs (λ y a. f y (inr a)))

  pub leaf_stands : (q : ℕ) → MatchOption (leaf_with t.nodes q) (HasNoEntry t q) (IsLeafOf t q)
  leaf_stands q = elim (first_leaf q t.nodes keys_distinct) [
    | inl h ↦ subst (λ (o : Option ℕ). MatchOption o (HasNoEntry t q) (IsLeafOf t q)) (sym h.1) (at_leaf h.0 h.2)
    | inr h ↦ subst (λ (o : Option ℕ). MatchOption o (HasNoEntry t q) (IsLeafOf t q)) (sym h.0) (nowhere h.1)
  ]
    where
      at_leaf : (k : ℕ) → has (look t.nodes k) q ≡ true → IsLeafOf t q k
      at_leaf k h = elim (node_of_number t v k) [
        | inl p ↦
            let e = entry_in_some (own p.0) q (ap (λ (o : Option Node). has o q) (sym p.3) ∙ h) in
            let is = entry_in_is (own p.0) q e.0 e.1 in
            record { place = p.0; among = p.1; named = p.2; entry = e.0; has = is.0; is = is.1 }
        | inr n ↦ absurd (nothing (look t.nodes k) n.1 h)
      ]
        where
          nothing : (o : Option Node) → o ≡ None → has o q ≡ true → ⊥
          nothing o e h = let f = ap (λ (x : Option Node). has x q) e in cc

      nowhere : ((k : ℕ) → has (look t.nodes k) q ≡ false) → HasNoEntry t q
      nowhere h =
          sym (has_is_any (entries_of t) q) ∙ ap (λ (es : List Entry). has_number es q) (sym own_all)
          ∙ none_own q (places_of t) (each (λ p. has_number (own p) q ≡ false) (places_of t) (λ p a. ap (λ (o : Option Node). has o q) (sym (place_stands p a)) ∙ h p.number))

  -- an entry of the tree is found by its number
  pub entry_of_among : (e : Entry) → Among e (entries_of t) → entry_of t.nodes e.number ≡ Some e
  entry_of_among e a = by_leaf (first_leaf e.number t.nodes keys_distinct)
    where
      clash : (b : Bool) → b ≡ true → b ≡ false → ⊥
      clash b x y = cc

      at : (p : Place) × Among p (places_of t) × Among e (own p)
      at = from_flat_map own e (places_of t) (subst (Among e) (sym own_all) a)

      here : has (look t.nodes at.0.number) e.number ≡ true
      here = ap (λ (o : Option Node). has o e.number) (place_stands at.0 at.1) ∙ has_from_among e (own at.0) at.2

      by_leaf : (((k : ℕ) × (leaf_with t.nodes e.number ≡ Some k) × (has (look t.nodes k) e.number ≡ true)) ⊎ ((leaf_with t.nodes e.number ≡ None) × ((k : ℕ) → has (look t.nodes k) e.number ≡ false))) → entry_of t.nodes e.number ≡ Some e
      by_leaf (inl h) =
          let same : h.0 ≡ at.0.number = single_leaf t v e.number h.0 at.0.number h.2 here in
          ap (λ (o : Option ℕ). option_and_then (λ k. entry_in (entries_in (look t.nodes k)) e.number) o) h.1
          ∙ ap (λ (k : ℕ). entry_in (entries_in (look t.nodes k)) e.number) same
          ∙ ap (λ (o : Option Node). entry_in (entries_in o) e.number) (place_stands at.0 at.1)
          ∙ entry_in_of (own at.0) e (own_distinct (places_of t) all_distinct at.0 at.1) at.2
      by_leaf (inr h) = absurd (clash (has (look t.nodes at.0.number) e.number) here (h.1 at.0.number))

  pub entry_stands : (q : ℕ) → MatchOption (entry_of t.nodes q) (HasNoEntry t q) (IsEntryOf t q)
  entry_stands q = by_leaf (leaf_with t.nodes q) refl (leaf_stands q)
    where
      by_leaf : (o : Option ℕ) → leaf_with t.nodes q ≡ o → MatchOption o (HasNoEntry t q) (IsLeafOf t q) → MatchOption (entry_of t.nodes q) (HasNoEntry t q) (IsEntryOf t q)
      by_leaf None e h = subst (λ (o : Option Entry). MatchOption o (HasNoEntry t q) (IsEntryOf t q)) (sym (ap (λ (o : Option ℕ). option_and_then (λ k. entry_in (entries_in (look t.nodes k)) q) o) e)) h
      by_leaf (Some k) e h =
          let among : Among h.entry (entries_of t) = subst (Among h.entry) own_all (among_flat_map own h.entry h.place (places_of t) h.among h.has) in
          subst (λ (o : Option Entry). MatchOption o (HasNoEntry t q) (IsEntryOf t q)) (sym (ap (λ (n : ℕ). entry_of t.nodes n) (sym h.is) ∙ entry_of_among h.entry among)) (record { among = among; named = h.is })

  -- the entries that pass a test, by their numbers
  module _ (test : Entry → Bool) where
    abbrev pub bears : ℕ → Bool
    bears q = passes test (entry_of t.nodes q)

    any_with : (es : List Entry) → ((e : Entry) → Among e es → entry_of t.nodes e.number ≡ Some e) → (q : ℕ) → list_any (nat_eq q) (map (λ e. e.number) (filter test es)) ≡ cond (bears q) (has_number es q) false
    any_with [] f q = none (bears q)
      where
        none : (b : Bool) → false ≡ cond b false false
        none true = refl
        none false = refl
    any_with (e ∷ es) f q = by_test (test e) refl (nat_eq q e.number) refl (any_with es (λ x a. f x (inr a)) q)
      where
        here : nat_eq q e.number ≡ true → bears q ≡ test e
        here k = ap (λ (n : ℕ). passes test (entry_of t.nodes n)) (equal_from q e.number k) ∙ ap (passes test) (f e (inl refl))

        by_test : (b : Bool) → test e ≡ b → (c : Bool) → nat_eq q e.number ≡ c → list_any (nat_eq q) (map (λ (x : Entry). x.number) (filter test es)) ≡ cond (bears q) (has_number es q) false → list_any (nat_eq q) (map (λ (x : Entry). x.number) (cond b (e ∷ filter (test) es) (filter test es))) ≡ cond (bears q) (c || has_number es q) false
        by_test true k true l h = ap (λ (b : Bool). b || list_any (nat_eq q) (map (λ (x : Entry). x.number) (filter test es))) l ∙ ap (λ (b : Bool). cond b true false) (sym k ∙ sym (here l))
        by_test true k false l h = ap (λ (b : Bool). b || list_any (nat_eq q) (map (λ (x : Entry). x.number) (filter test es))) l ∙ h
        by_test false k true l h = h ∙ both (bears q) (here l ∙ k)
          where
            both : (b : Bool) → b ≡ false → cond b (has_number es q) false ≡ cond b true false
            both true e = cc
            both false e = refl
        by_test false k false l h = h

    -- what is kept of the numbers known under a key, under which each entry that passes is known
    pub with_test : (known : List (ℕ × ℕ)) (key : ℕ) → ((e : Entry) → Among e (entries_of t) → test e ≡ true → is_known known key e.number ≡ true) → IsStrictlyIncreasing (numbers_under known key) → IsPermutation (map (λ e. e.number) (filter test (entries_of t))) (filter bears (numbers_under known key))
    with_test known key all ascends = permutation_from_members (map (λ (e : Entry). e.number) (filter test (entries_of t))) (filter bears (numbers_under known key))
        (distinct_filter test (λ e. e.number) (entries_of t) v.distinct_entries)
        (distinct_from_ascending _ (ascends_filter bears (numbers_under known key) ascends))
        (λ q. any_with (entries_of t) entry_of_among q ∙ agree q (entry_of t.nodes q) refl (entry_stands q) ∙ sym (any_filter bears (numbers_under known key) q))
      where
        agree : (q : ℕ) (o : Option Entry) → entry_of t.nodes q ≡ o → MatchOption o (HasNoEntry t q) (IsEntryOf t q) → cond (bears q) (has_number (entries_of t) q) false ≡ cond (bears q) (list_any (nat_eq q) (numbers_under known key)) false
        agree q None e h = none (bears q) (ap (passes test) e)
          where
            none : (b : Bool) → b ≡ false → cond b (has_number (entries_of t) q) false ≡ cond b (list_any (nat_eq q) (numbers_under known key)) false
            none true e = cc
            none false e = refl
        agree q (Some x) e h = by_test (bears q) (ap (passes test) e)
          where
            by_test : (b : Bool) → b ≡ test x → cond b (has_number (entries_of t) q) false ≡ cond b (list_any (nat_eq q) (numbers_under known key)) false
            by_test false k = refl
            by_test true k =
                ap (λ (n : ℕ). has_number (entries_of t) n) (sym h.named) ∙ has_from_among x (entries_of t) h.among
                ∙ sym (under_any known key q ∙ ap (λ (n : ℕ). is_known known key n) (sym h.named) ∙ all x h.among (sym k))

  -- what holds of each entry of the table holds of each entry of the tree
  pub each_entry : (P : Entry → Type 0) → ((k : ℕ) → AllByRecursion P (entries_in (look t.nodes k))) → (e : Entry) → Among e (entries_of t) → P e
  each_entry P all e a =
      let at = from_flat_map own e (places_of t) (subst (Among e) (sym own_all) a) in
      all_among P e (own at.0) (subst (λ (o : Option Node). AllByRecursion P (entries_in o)) (place_stands at.0 at.1) (all at.0.number)) at.2

  pub all_entries : (P : Entry → Type 0) → ((k : ℕ) → AllByRecursion P (entries_in (look t.nodes k))) → AllByRecursion P (entries_of t)
  all_entries P all = each P (entries_of t) (each_entry P all)

  -- the entries with an id, and those with marks of a transaction
  pub with_id : (id : ℕ) (known : List (ℕ × ℕ)) → AreAllKnown known t.nodes → IsStrictlyIncreasing (numbers_under known id) → IsPermutation (entries_with_id t id) (filter (λ q. has_id id (entry_of t.nodes q)) (numbers_under known id))
  unfolding entries_with_id
  with_id id known all ascends = with_test (λ e. nat_eq id e.id) known id (λ e a k. ap (λ (n : ℕ). is_known known n e.number) (equal_from id e.id k) ∙ each_entry (λ x. is_known known x.id x.number ≡ true) all e a) ascends

  pub with_marks : (txn : ℕ) (noted : List (ℕ × ℕ)) → AreAllNoted noted t.nodes → IsStrictlyIncreasing (numbers_under noted txn) → IsPermutation (entries_marked t txn) (filter (λ q. passes (is_marked txn) (entry_of t.nodes q)) (numbers_under noted txn))
  unfolding entries_marked
  with_marks txn noted all ascends = with_test (is_marked txn) noted txn (λ e a k. each_entry (λ x. IsNoted noted x.number x.marks) all e a txn k) ascends
