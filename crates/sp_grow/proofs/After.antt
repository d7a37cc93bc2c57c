-- A tree after changes: when it is valid, and made of the tree before.
use Rattle.std.proofs.Common.{◌≡◌, ℕ, zero, suc, ◌+◌, ◌<◌, ◌≤◌, ◌⊎◌, inl, inr, Bool, true, false, cond, ◌||◌, List, [], ◌∷◌, ◌++◌, length, map, get_or, Option, Some, is_some, refl, sym, ap, ◌∙◌, subst, arith}
use Rattle.std.specs.Prelude.{nat_eq}
use Rattle.std.specs.List.{AllByRecursion, IsDistinct, sum_by, Contains}
use Rattle.std.specs.List.Sorted.{IsPermutation}
use Rattle.std.specs.Option.{IsSome}
use Rattle.std.proofs.lemmas.Bool.Decides.{nat_tests}
use Rattle.std.proofs.lemmas.Cmp.{nat_eq_equiv}
use Rattle.std.proofs.lemmas.List.Folds.{list_any-append}
use Rattle.std.proofs.lemmas.List.Sums.{sum_by-append, sum_by-cons}
use Rattle.std.proofs.lemmas.List.Sorted.{list_any-IsPermutation}
use Rattle.std.proofs.lemmas.Map.Keys.{IsDistinct-head, IsDistinct-tail, IsDistinct-cons, IsDistinct-push, IsDistinct-IsPermutation, IsDistinct-from_apart}
use Rattle.sp_rect.specs.Plane.{whole}
use Rattle.sp_node.specs.declared.node.Entry.{Entry}
use Rattle.sp_node.specs.declared.node.Node.{Node}
use Rattle.sp_node.specs.declared.plan.Part.{Part}
use Rattle.sp_node.specs.declared.plan.Part.TheVariants.{Now, Gone}
use Rattle.sp_node.specs.Among.{Among}
use Rattle.sp_node.specs.Look.{look, IsAscending}
use Rattle.sp_node.specs.Plan.{with_parts, SameEntries}
use Rattle.sp_node.specs.Table.{Table, body_at, level_of, numbers_at, entries_of, IsValid}
use Rattle.sp_node.proofs.Lists.{all_map, all_unmap, all_imply}
use Rattle.sp_node.proofs.Among.{all_among}
use Rattle.sp_node.proofs.Adopt.{part_at, look_parts, listed}
use Rattle.sp_node.proofs.Pairs.{ascending_put, ascending_take}
use Rattle.sp_split.specs.Split.{is_among}
use Rattle.sp_split.proofs.Members.{among_all, all_none, none_all, same_members, permutation_from_sums, self_equal, or_left, or_true}
use Rattle.sp_grow.specs.Below.{numbers, AreChanges, IsNow}
use Rattle.sp_grow.specs.declared.left.Draft.{Draft}
use Rattle.sp_grow.proofs.Numbers.{numbers_places, among_from_all}
use Rattle.sp_grow.proofs.Sums.{sum_map}
use Rattle.sp_grow.specs.Reached.{new_numbers}
use Rattle.sp_grow.proofs.Counting.{new_within, new_there, new_distinct}
use Rattle.sp_grow.proofs.Parts.{off_parts, look_unlisted}

-- the numbers of a table
abbrev pub keys : List (ℕ × Node) → List ℕ
keys nodes = map (λ n. n.0) nodes

pub rising_parts : (nodes : List (ℕ × Node)) (ps : List Part) → IsAscending nodes → IsAscending (with_parts nodes ps)
rising_parts nodes [] a = a
rising_parts nodes (Now k n ∷ ps) a = ascending_put k n (with_parts nodes ps) (rising_parts nodes ps a)
rising_parts nodes (Gone k ∷ ps) a = ascending_take k (with_parts nodes ps) (rising_parts nodes ps a)

less_apart : (j k : ℕ) → j < k → nat_eq j k ≡ false
less_apart j k lt = grind (arith, nat_tests)

pub keys_distinct : (nodes : List (ℕ × Node)) → IsAscending nodes → IsDistinct nat_eq (keys nodes)
keys_distinct [] a = IsDistinct-from_apart nat_eq [] (λ i j d lt len. absurd (omega arith))
keys_distinct (n ∷ ns) a = IsDistinct-cons nat_eq n.0 (keys ns) (all_map (λ k. nat_eq n.0 k ≡ false) (λ (m : ℕ × Node). m.0) ns (all_imply (λ m h. less_apart n.0 m.0 h) ns a.0)) (keys_distinct ns a.1)

pub keys_look : (nodes : List (ℕ × Node)) (k : ℕ) → is_among (keys nodes) k ≡ is_some (look nodes k)
keys_look [] k = refl
keys_look (n ∷ ns) k = by_test (nat_eq k n.0) (keys_look ns k)
  where
    by_test : (b : Bool) → is_among (keys ns) k ≡ is_some (look ns k) → (b || is_among (keys ns) k) ≡ is_some (cond b (Some n.1) (look ns k))
    by_test true e = refl
    by_test false e = e

-- a part that is there now leaves its node
still_some : (ps : List Part) (k : ℕ) (o : Option Node) → AllByRecursion IsNow ps → IsSome o → IsSome (part_at ps k o)
still_some [] k o h s = s
still_some (Now j n ∷ ps) k o h s = by_test (nat_eq k j) (still_some ps k o h.1 s)
  where
    by_test : (b : Bool) → IsSome (part_at ps k o) → IsSome (cond b (Some n) (part_at ps k o))
    by_test true m = refl
    by_test false m = m
still_some (Gone j ∷ ps) k o h s = absurd h.0

-- entries with distinct numbers
pub distinct_same : (es : List Entry) (e f : Entry) → IsDistinct nat_eq (map (λ x. x.number) es) → Among e es → Among f es → e.number ≡ f.number → e ≡ f
distinct_same [] e f d a b s = absurd a
distinct_same (x ∷ es) e f d (inl a) (inl b) s = a ∙ sym b
distinct_same (x ∷ es) e f d (inl a) (inr b) s = absurd (clash x f es (IsDistinct-head nat_eq x.number (map (λ y. y.number) es) d) b (ap (λ (y : Entry). y.number) (sym a) ∙ s))
  where
    clash : (x f : Entry) (es : List Entry) → AllByRecursion (λ k. nat_eq x.number k ≡ false) (map (λ y. y.number) es) → Among f es → x.number ≡ f.number → ⊥
    clash x f es h b s =
        let off = all_among (λ (y : Entry). nat_eq x.number y.number ≡ false) f es (all_unmap (λ k. nat_eq x.number k ≡ false) (λ (y : Entry). y.number) es h) b in
        let yes = ap (nat_eq x.number) (sym s) ∙ self_equal x.number in
        cc
distinct_same (x ∷ es) e f d (inr a) (inl b) s = absurd (clash x e es (IsDistinct-head nat_eq x.number (map (λ y. y.number) es) d) a (ap (λ (y : Entry). y.number) (sym b) ∙ sym s))
  where
    clash : (x f : Entry) (es : List Entry) → AllByRecursion (λ k. nat_eq x.number k ≡ false) (map (λ y. y.number) es) → Among f es → x.number ≡ f.number → ⊥
    clash x f es h b s =
        let off = all_among (λ (y : Entry). nat_eq x.number y.number ≡ false) f es (all_unmap (λ k. nat_eq x.number k ≡ false) (λ (y : Entry). y.number) es h) b in
        let yes = ap (nat_eq x.number) (sym s) ∙ self_equal x.number in
        cc
distinct_same (x ∷ es) e f d (inr a) (inr b) s = distinct_same es e f (IsDistinct-tail nat_eq x.number (map (λ y. y.number) es) d) a b s

among_at : {X : Type 0} (xs : List X) (k : ℕ) (x : X) → k < length xs → get_or xs k x ≡ x → Among x xs
among_at [] k x lt e = absurd (omega arith)
among_at (y ∷ xs) zero x lt e = inl (sym e)
among_at (y ∷ xs) (suc k) x lt e = inr (among_at xs k x (omega arith) e)

pub among_from_contains : {X : Type 0} (xs : List X) (x : X) → Contains xs x → Among x xs
among_from_contains xs x h = among_at xs h.0 x h.1 h.2

pub all_members : {X : Type 0} (xs : List X) → AllByRecursion (λ x. Among x xs) xs
all_members [] = tt
all_members (x ∷ xs) = (inl refl, all_imply (λ y h. inr h) xs (all_members xs))

numbered : (es : List Entry) (e : Entry) → Among e es → is_among (map (λ x. x.number) es) e.number ≡ true
numbered [] e a = absurd a
numbered (x ∷ es) e (inl s) = or_left (nat_eq e.number x.number) (is_among (map (λ y. y.number) es) e.number) (ap (λ (y : Entry). nat_eq e.number y.number) (sym s) ∙ self_equal e.number)
numbered (x ∷ es) e (inr a) = ap (λ (b : Bool). nat_eq e.number x.number || b) (numbered es e a) ∙ or_true (nat_eq e.number x.number)

module _ (t : Table) (v : IsValid t) (rising : IsAscending t.nodes) where
  abbrev pub own : List ℕ
  own = numbers (level_of t) t.root (body_at (look t.nodes) (level_of t) t.root)

  own_places : numbers_at t (level_of t) ≡ own
  own_places = numbers_places (level_of t) t.root whole (body_at (look t.nodes) (level_of t) t.root)

  pub own_low : AllByRecursion (λ n. n < t.next) own
  own_low = subst (AllByRecursion (λ n. n < t.next)) own_places v.below_next

  pub own_distinct : IsDistinct nat_eq own
  own_distinct = subst (IsDistinct nat_eq) own_places v.distinct

  pub own_look : (k : ℕ) → is_some (look t.nodes k) ≡ is_among own k
  own_look k = sym (keys_look t.nodes k) ∙ list_any-IsPermutation (nat_eq k) (keys t.nodes) (numbers_at t (level_of t)) v.whole_table ∙ ap (λ (ns : List ℕ). is_among ns k) own_places

  module _ (draft : Draft) (c : AreChanges t own draft) (count : ℕ) (next_is : draft.next ≡ t.next + count) where
    abbrev after : ℕ → Option Node
    after = look (with_parts t.nodes draft.parts)

    IsOwned : ℕ → Type 0
    IsOwned k = (is_among own k ≡ true) ⊎ ((t.next ≤ k) × (k < draft.next))

    -- what stands under a number that is neither old nor new
    unowned : (k : ℕ) → is_among own k ≡ false → is_among (new_numbers t.next count) k ≡ false → listed draft.parts k ≡ false
    unowned k a b = off_parts (λ j. (is_among own j ≡ true) ⊎ ((t.next ≤ j) × (j < draft.next))) draft.parts k c.owned never
      where
        never : (is_among own k ≡ true) ⊎ ((t.next ≤ k) × (k < draft.next)) → ⊥
        never (inl h) = cc
        never (inr h) = let there = new_there t.next count k h.0 (omega (arith, h.1, next_is)) in cc

    -- the old numbers and the new ones are those with a node
    after_look : (k : ℕ) → is_some (after k) ≡ (is_among own k || is_among (new_numbers t.next count) k)
    after_look k = by_test (is_among own k) (is_among (new_numbers t.next count) k) refl refl
      where
        by_test : (a b : Bool) → is_among own k ≡ a → is_among (new_numbers t.next count) k ≡ b → is_some (after k) ≡ (a || b)
        by_test true b x y = subst IsSome (sym (look_parts t.nodes draft.parts k)) (still_some draft.parts k (look t.nodes k) c.now (own_look k ∙ x))
        by_test false true x y = let r = new_within t.next count k y in c.made k r.0 (omega (arith, r.1, next_is))
        by_test false false x y = ap is_some (look_unlisted t.nodes draft.parts k (unowned k x y)) ∙ own_look k ∙ x

    pub no_return : (k : ℕ) → k < t.next → IsSome (after k) → IsSome (look t.nodes k)
    no_return k lt s = own_look k ∙ by_test (is_among own k) (is_among (new_numbers t.next count) k) refl refl (sym (after_look k) ∙ s)
      where
        by_test : (a b : Bool) → is_among own k ≡ a → is_among (new_numbers t.next count) k ≡ b → (is_among own k || is_among (new_numbers t.next count) k) ≡ true → is_among own k ≡ true
        by_test true b x y h = x
        by_test false true x y h = let r = new_within t.next count k y in absurd (omega (arith, r.0))
        by_test false false x y h = cc

    -- a list of the old numbers and the new ones
    module _ (ns : List ℕ) (sums : (f : ℕ → ℕ) → sum_by f ns ≡ sum_by f own + sum_by f (new_numbers t.next count)) where
      moved : IsPermutation (own ++ new_numbers t.next count) ns
      moved = permutation_from_sums (own ++ new_numbers t.next count) ns (λ f. sum_by-append f own (new_numbers t.next count) ∙ sym (sums f))

      member : (k : ℕ) → is_among ns k ≡ (is_among own k || is_among (new_numbers t.next count) k)
      member k = sym (list_any-IsPermutation (nat_eq k) (own ++ new_numbers t.next count) ns moved) ∙ list_any-append (nat_eq k) own (new_numbers t.next count)

      joined : (xs : List ℕ) → AllByRecursion (λ n. n < t.next) xs → IsDistinct nat_eq xs → IsDistinct nat_eq (xs ++ new_numbers t.next count)
      joined [] low d = new_distinct t.next count
      joined (x ∷ xs) low d =
          IsDistinct-cons nat_eq x (xs ++ new_numbers t.next count)
          (none_all (xs ++ new_numbers t.next count) x (list_any-append (nat_eq x) xs (new_numbers t.next count) ∙ both (is_among xs x) (is_among (new_numbers t.next count) x) (all_none xs x (IsDistinct-head nat_eq x xs d)) (off (is_among (new_numbers t.next count) x) refl)))
          (joined xs low.1 (IsDistinct-tail nat_eq x xs d))
        where
          both : (a b : Bool) → a ≡ false → b ≡ false → (a || b) ≡ false
          both a b e f = cc

          off : (b : Bool) → is_among (new_numbers t.next count) x ≡ b → b ≡ false
          off true h = let r = new_within t.next count x h in absurd (omega (arith, r.0, low.0))
          off false h = refl

      pub then_distinct : IsDistinct nat_eq ns
      then_distinct = IsDistinct-IsPermutation nat_eq nat_eq_equiv.symm (own ++ new_numbers t.next count) ns moved (joined own own_low own_distinct)

      pub then_low : AllByRecursion (λ n. n < draft.next) ns
      then_low = among_from_all (λ n. n < draft.next) ns (λ k h. by_test k (is_among own k) (is_among (new_numbers t.next count) k) refl refl (sym (member k) ∙ h))
        where
          by_test : (k : ℕ) (a b : Bool) → is_among own k ≡ a → is_among (new_numbers t.next count) k ≡ b → (is_among own k || is_among (new_numbers t.next count) k) ≡ true → k < draft.next
          by_test k true b x y h = let lt = among_all (λ n. n < t.next) own k own_low x in omega (arith, next_is)
          by_test k false true x y h = let r = new_within t.next count k y in omega (arith, r.1, next_is)
          by_test k false false x y h = cc

      pub then_whole : IsPermutation (keys (with_parts t.nodes draft.parts)) ns
      then_whole =
          same_members (keys (with_parts t.nodes draft.parts)) ns (keys_distinct (with_parts t.nodes draft.parts) (rising_parts t.nodes draft.parts rising)) then_distinct
          (λ k. keys_look (with_parts t.nodes draft.parts) k ∙ after_look k ∙ sym (member k))

  -- the entries and one more
  module _ (e : Entry) (new : is_among (map (λ x. x.number) (entries_of t)) e.number ≡ false) (es : List Entry) (sums : (w : Entry → ℕ) → sum_by w es ≡ sum_by w (entries_of t) + w e) where
    pub then_distinct_entries : IsDistinct nat_eq (map (λ x. x.number) es)
    then_distinct_entries =
        let before = map (λ (x : Entry). x.number) (entries_of t) in
        let moved : IsPermutation (before ++ e.number ∷ []) (map (λ x. x.number) es) =
        permutation_from_sums (before ++ e.number ∷ []) (map (λ x. x.number) es)
        (λ f. omega (arith, sum_by-append f before (e.number ∷ []), sum_by-cons f e.number [], sum_map f (λ (x : Entry). x.number) (entries_of t), sum_map f (λ (x : Entry). x.number) es, sums (λ x. f x.number))) in
        IsDistinct-IsPermutation nat_eq nat_eq_equiv.symm (before ++ e.number ∷ []) (map (λ x. x.number) es) moved (IsDistinct-push nat_eq_equiv before e.number v.distinct_entries new)

    pub then_same : AllByRecursion (λ f. Among f (entries_of t) ⊎ (f ≡ e)) es → SameEntries (entries_of t) es
    then_same all x f has_x has_f same = by_case (all_among (λ g. Among g (entries_of t) ⊎ (g ≡ e)) f es all (among_from_contains es f has_f))
      where
        among_x : Among x (entries_of t)
        among_x = among_from_contains (entries_of t) x has_x

        by_case : Among f (entries_of t) ⊎ (f ≡ e) → x ≡ f
        by_case (inl a) = distinct_same (entries_of t) x f v.distinct_entries among_x a same
        by_case (inr s) =
            let there : is_among (map (λ y. y.number) (entries_of t)) x.number ≡ true = numbered (entries_of t) x among_x in
            let other : x.number ≡ e.number = same ∙ ap (λ (y : Entry). y.number) s in
            let never = ap (is_among (map (λ y. y.number) (entries_of t))) (sym other) ∙ there in
            absurd (clash (is_among (map (λ y. y.number) (entries_of t)) e.number) new never)
          where
            clash : (b : Bool) → b ≡ false → b ≡ true → ⊥
            clash b p q = cc
