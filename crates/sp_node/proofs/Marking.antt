-- The entry of a number, changed where it stands.
use Rattle.std.proofs.Common.{◌≡◌, ℕ, Bool, true, false, cond, ◌||◌, List, [], ◌∷◌, Option, Some, None, map, refl, sym, ap, ◌∙◌, subst, arith, inl, inr}
use Rattle.std.specs.Prelude.{nat_eq}
use Rattle.std.specs.List.{AllByRecursion, IsDistinct}
use Rattle.std.proofs.lemmas.Bool.Decides.{nat_tests}
use Rattle.std.proofs.lemmas.Map.Keys.{IsDistinct-head, IsDistinct-tail}
use Rattle.sp_node.specs.declared.node.Entry.{Entry}
use Rattle.sp_node.specs.declared.node.Node.{Node}
use Rattle.sp_node.specs.declared.node.Node.TheVariants.{Leaf, Inner}
use Rattle.sp_node.specs.declared.node.Change.{Change}
use Rattle.sp_node.specs.declared.node.Change.TheVariants.{Mark, Settle, Undo}
use Rattle.sp_node.specs.Change.{at_number, node_with, nodes_with, Keeps}
use Rattle.sp_node.specs.First.{changed, first_changed, node_first_changed, first_node_changed}
use Rattle.sp_node.specs.Index.{has_number, IsIndex}
use Rattle.sp_node.specs.Look.{look, entries_of_node}
use Rattle.sp_node.specs.Table.{Table, IsValid, places_of}
use Rattle.sp_node.proofs.Adopt.{has}
use Rattle.sp_node.proofs.ByNumber.{node_of_number}
use Rattle.sp_node.proofs.Standing.{own_distinct, all_distinct, keys_distinct}

self_equal : (k : ℕ) → nat_eq k k ≡ true
self_equal k = grind (arith, nat_tests)

equal_from : (j k : ℕ) → nat_eq j k ≡ true → j ≡ k
equal_from j k e = grind (arith, nat_tests)

abbrev numbers_in : Node → List ℕ
numbers_in n = map (λ e. e.number) (entries_of_node n)

module _ (q : ℕ) (change : Entry → Entry) where
  apart : (es : List Entry) → has_number es q ≡ false → map (at_number q change) es ≡ es
  apart [] h = refl
  apart (e ∷ es) h = by_test (nat_eq q e.number) h (apart es)
    where
      by_test : (b : Bool) → (b || has_number es q) ≡ false → (has_number es q ≡ false → map (at_number q change) es ≡ es) → cond b (change e) e ∷ map (at_number q change) es ≡ e ∷ es
      by_test true h f = cc
      by_test false h f = ap (λ (xs : List Entry). e ∷ xs) (f h)

  none_after : (e : Entry) (es : List Entry) → nat_eq q e.number ≡ true → AllByRecursion (λ n. nat_eq e.number n ≡ false) (map (λ x. x.number) es) → has_number es q ≡ false
  none_after e [] k h = refl
  none_after e (x ∷ es) k h = ap (λ (b : Bool). b || has_number es q) (ap (λ (n : ℕ). nat_eq n x.number) (equal_from q e.number k) ∙ h.0) ∙ none_after e es k h.1

  first_is : (es : List Entry) → IsDistinct nat_eq (map (λ e. e.number) es) → first_changed q change es ≡ map (at_number q change) es
  first_is [] d = refl
  first_is (e ∷ es) d = by_test (nat_eq q e.number) refl (first_is es (IsDistinct-tail nat_eq e.number (map (λ x. x.number) es) d))
    where
      by_test : (b : Bool) → nat_eq q e.number ≡ b → first_changed q change es ≡ map (at_number q change) es → cond b (change e ∷ es) (e ∷ first_changed q change es) ≡ cond b (change e) e ∷ map (at_number q change) es
      by_test true k f = ap (λ (xs : List Entry). change e ∷ xs) (sym (apart es (none_after e es k (IsDistinct-head nat_eq e.number (map (λ x. x.number) es) d))))
      by_test false k f = ap (λ (xs : List Entry). e ∷ xs) f

  node_apart : (n : Node) → has_number (entries_of_node n) q ≡ false → node_with (at_number q change) n ≡ n
  node_apart (Leaf es) h = ap (λ (xs : List Entry). Leaf xs) (apart es h)
  node_apart (Inner cs) h = refl

  node_is : (n : Node) → IsDistinct nat_eq (numbers_in n) → node_first_changed q change n ≡ node_with (at_number q change) n
  node_is (Leaf es) d = ap (λ (xs : List Entry). Leaf xs) (first_is es d)
  node_is (Inner cs) d = refl

  nodes_apart : (ns : List (ℕ × Node)) → AllByRecursion (λ (n : ℕ × Node). has_number (entries_of_node n.1) q ≡ false) ns → nodes_with (at_number q change) ns ≡ ns
  nodes_apart [] h = refl
  nodes_apart (n ∷ ns) h = λ i. (n.0, node_apart n.1 h.0 i) ∷ nodes_apart ns h.1 i

  module _ (k : ℕ) where
    -- the leaf k has distinct numbers, and no other node has q
    abbrev Fits : ℕ × Node → Type 0
    Fits n = (nat_eq k n.0 ≡ true → IsDistinct nat_eq (numbers_in n.1)) × (nat_eq k n.0 ≡ false → has_number (entries_of_node n.1) q ≡ false)

    others : (n : ℕ × Node) (ns : List (ℕ × Node)) → nat_eq k n.0 ≡ true → AllByRecursion (λ j. nat_eq n.0 j ≡ false) (map (λ (m : ℕ × Node). m.0) ns) → AllByRecursion Fits ns → AllByRecursion (λ (m : ℕ × Node). has_number (entries_of_node m.1) q ≡ false) ns
    others n [] e h f = tt
    others n (m ∷ ns) e h f = (f.0.1 (ap (λ (j : ℕ). nat_eq j m.0) (equal_from k n.0 e) ∙ h.0), others n ns e h.1 f.1)

    nodes_is : (ns : List (ℕ × Node)) → IsDistinct nat_eq (map (λ (n : ℕ × Node). n.0) ns) → AllByRecursion Fits ns → first_node_changed k (node_first_changed q change) ns ≡ nodes_with (at_number q change) ns
    nodes_is [] d f = refl
    nodes_is (n ∷ ns) d f = by_test (nat_eq k n.0) refl (nodes_is ns (IsDistinct-tail nat_eq n.0 (map (λ (m : ℕ × Node). m.0) ns) d) f.1)
      where
        by_test : (b : Bool) → nat_eq k n.0 ≡ b → first_node_changed k (node_first_changed q change) ns ≡ nodes_with (at_number q change) ns → cond b ((n.0, node_first_changed q change n.1) ∷ ns) (n ∷ first_node_changed k (node_first_changed q change) ns) ≡ (n.0, node_with (at_number q change) n.1) ∷ nodes_with (at_number q change) ns
        by_test true e more = λ i. (n.0, node_is n.1 (f.0.0 e) i) ∷ sym (nodes_apart ns (others n ns e (IsDistinct-head nat_eq n.0 (map (λ (m : ℕ × Node). m.0) ns) d) f.1)) i
        by_test false e more = λ i. (n.0, sym (node_apart n.1 (f.0.1 e)) i) ∷ more i

module _ (t : Table) (v : IsValid t) where
  -- each pair of the table is what is found under its number
  found_under : (ns : List (ℕ × Node)) → IsDistinct nat_eq (map (λ (n : ℕ × Node). n.0) ns) → AllByRecursion (λ (n : ℕ × Node). look ns n.0 ≡ Some n.1) ns
  found_under [] d = tt
  found_under (n ∷ ns) d = (ap (λ (b : Bool). cond b (Some n.1) (look ns n.0)) (self_equal n.0), later ns (IsDistinct-head nat_eq n.0 (map (λ (m : ℕ × Node). m.0) ns) d) (found_under ns (IsDistinct-tail nat_eq n.0 (map (λ (m : ℕ × Node). m.0) ns) d)))
    where
      turned : (j k : ℕ) → nat_eq j k ≡ false → nat_eq k j ≡ false
      turned j k e = grind (arith, nat_tests)

      later : (ms : List (ℕ × Node)) → AllByRecursion (λ j. nat_eq n.0 j ≡ false) (map (λ (m : ℕ × Node). m.0) ms) → AllByRecursion (λ (m : ℕ × Node). look ns m.0 ≡ Some m.1) ms → AllByRecursion (λ (m : ℕ × Node). look (n ∷ ns) m.0 ≡ Some m.1) ms
      later [] h f = tt
      later (m ∷ ms) h f = (ap (λ (b : Bool). cond b (Some n.1) (look ns m.0)) (turned n.0 m.0 h.0) ∙ f.0, later ms h.1 f.1)

  all_map_imply : (P Q : ℕ × Node → Type 0) → ((n : ℕ × Node) → P n → Q n) → (ns : List (ℕ × Node)) → AllByRecursion P ns → AllByRecursion Q ns
  all_map_imply P Q f [] h = tt
  all_map_imply P Q f (n ∷ ns) h = (f n h.0, all_map_imply P Q f ns h.1)

  here : (n : ℕ × Node) → look t.nodes n.0 ≡ Some n.1 → (q : ℕ) → has_number (entries_of_node n.1) q ≡ true → has (look t.nodes n.0) q ≡ true
  here n e q h = ap (λ (o : Option Node). has o q) e ∙ h

  -- the numbers in one node are distinct
  node_distinct : (n : ℕ × Node) → look t.nodes n.0 ≡ Some n.1 → IsDistinct nat_eq (numbers_in n.1)
  node_distinct n e = elim (node_of_number t v n.0) [
    | inl p ↦ let same = some_is _ _ (sym p.3 ∙ e) in subst (λ (m : Node). IsDistinct nat_eq (numbers_in m)) same (own_distinct (places_of t) (all_distinct t v) p.0 p.1)
    | inr n ↦ absurd (nothing _ (sym n.1 ∙ e))
  ]
    where
      some_is : (a b : Node) → Some a ≡ Some b → a ≡ b
      some_is a b e = cc

      nothing : (a : Node) → None ≡ Some a → ⊥
      nothing a e = cc

  module _ (leaf : ℕ → Option ℕ) (index : IsIndex leaf t.nodes) (q : ℕ) (change : Entry → Entry) where
    -- a change in the leaf of the entry is a change of the entry
    pub change_in_leaf : (k : ℕ) → leaf q ≡ Some k → first_node_changed k (node_first_changed q change) t.nodes ≡ nodes_with (at_number q change) t.nodes
    change_in_leaf k e = nodes_is q change k t.nodes (keys_distinct t v) (all_map_imply (λ n. look t.nodes n.0 ≡ Some n.1) (Fits q change k) (λ n f. (λ s. node_distinct n f, λ s. by_test n f s (has_number (entries_of_node n.1) q) refl)) t.nodes (found_under t.nodes (keys_distinct t v)))
      where
        clash : (j k : ℕ) → Some j ≡ Some k → nat_eq j k ≡ false → ⊥
        clash j k e n = let same : j ≡ k = cc in let yes = self_equal k in let no = ap (λ i. nat_eq i k) (sym same) ∙ n in cc

        by_test : (n : ℕ × Node) → look t.nodes n.0 ≡ Some n.1 → nat_eq k n.0 ≡ false → (b : Bool) → has_number (entries_of_node n.1) q ≡ b → b ≡ false
        by_test n f s true h = absurd (clash k n.0 (sym e ∙ (index q n.0).1 (here n f q h)) s)
        by_test n f s false h = refl

    -- an entry that the tree lacks is not changed
    pub change_nowhere : leaf q ≡ None → t.nodes ≡ nodes_with (at_number q change) t.nodes
    change_nowhere e = sym (nodes_apart q change t.nodes (all_map_imply (λ n. look t.nodes n.0 ≡ Some n.1) (λ n. has_number (entries_of_node n.1) q ≡ false) (λ n f. by_test n f (has_number (entries_of_node n.1) q) refl) t.nodes (found_under t.nodes (keys_distinct t v))))
      where
        clash : (k : ℕ) → None ≡ Some k → ⊥
        clash k e = cc

        by_test : (n : ℕ × Node) → look t.nodes n.0 ≡ Some n.1 → (b : Bool) → has_number (entries_of_node n.1) q ≡ b → b ≡ false
        by_test n f true h = absurd (clash n.0 (sym e ∙ (index q n.0).1 (here n f q h)))
        by_test n f false h = refl

-- marks are no part of what a tree stands on
pub changed_keeps : (change : Change) → Keeps (changed change)
changed_keeps (Mark marks) = record { number = λ e. refl; id = λ e. refl; rect = λ e. refl }
changed_keeps (Settle txn) = record { number = λ e. refl; id = λ e. refl; rect = λ e. refl }
changed_keeps (Undo txn) = record { number = λ e. refl; id = λ e. refl; rect = λ e. refl }

pub at_keeps : (q : ℕ) (change : Entry → Entry) → Keeps change → Keeps (at_number q change)
at_keeps q change k = record { number = λ e. number e (nat_eq q e.number); id = λ e. id e (nat_eq q e.number); rect = λ e. rect e (nat_eq q e.number) }
  where
    number : (e : Entry) (b : Bool) → (cond b (change e) e).number ≡ e.number
    number e true = k.number e
    number e false = refl

    id : (e : Entry) (b : Bool) → (cond b (change e) e).id ≡ e.id
    id e true = k.id e
    id e false = refl

    rect : (e : Entry) (b : Bool) → (cond b (change e) e).rect ≡ e.rect
    rect e true = k.rect e
    rect e false = refl
