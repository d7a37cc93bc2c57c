-- The end of a transaction, made on the entries that it marked one after the other, is its end on all entries.
use Rattle.std.proofs.Common.{◌≡◌, ◌≢◌, ℕ, Bool, true, false, cond, List, [], ◌∷◌, map, None, Some, refl, sym, ap, ◌∙◌, subst, inl, inr, true≢false, filter}
use Rattle.std.specs.List.{list_any}
use Rattle.std.specs.List.Sorted.{IsPermutation, IsStrictlyIncreasing}
use Rattle.std.proofs.lemmas.List.Sorted.{list_any-IsPermutation}
use Rattle.sp_node.proofs.Laws.{one_of_number}
use Rattle.sp_node.proofs.Members.{distinct_from_ascending}
use Rattle.sp_model.proofs.Holding.{any-among, among-any}
use Rattle.std.specs.Prelude.{nat_eq}
use Rattle.std.specs.List.{IsDistinct}
use Rattle.std.proofs.lemmas.Map.Keys.{IsDistinct-head, IsDistinct-tail}
use Rattle.sp_node.specs.declared.node.Entry.{Entry}
use Rattle.sp_node.specs.declared.node.Node.{Node}
use Rattle.sp_node.specs.declared.node.Node.TheVariants.{Leaf, Inner}
use Rattle.sp_node.specs.Among.{Among}
use Rattle.sp_node.specs.Change.{at_number, node_with, nodes_with, table_with, Keeps}
use Rattle.sp_node.specs.Look.{look, entries_of_node}
use Rattle.sp_node.specs.Marks.{is_marked, settled, undone}
use Rattle.sp_node.specs.Nested.{node}
use Rattle.sp_node.specs.Table.{Table, IsValid, places_of, entries_of}
use Rattle.sp_node.proofs.Among.{all_among, among_flat_map}
use Rattle.sp_node.proofs.ByNumber.{node_of_number}
use Rattle.sp_node.proofs.Single.{own}
use Rattle.sp_node.proofs.Standing.{own_all, keys_distinct}
use Rattle.sp_protection.proofs.Leaves.{among_map, from_map}
use Rattle.sp_model.specs.declared.session.Session.{Session}
use Rattle.sp_model.specs.State.{Kernel, entries_in, is_active}
use Rattle.sp_model.specs.Unmarked.{IsUntouched, IsDeadUntouched, one_by_one, AreNumbersMarked}
use Rattle.sp_model.proofs.Bare.{Bare}
use Rattle.sp_model.proofs.Sessions.{number-same, number-tell, number-apart, among-kept, of_kept}
use Rattle.sp_model.proofs.Dead.{distinct-out}
use Rattle.sp_model.proofs.Endings.{same_table}
use Rattle.sp_model.proofs.Settling.{undone-keeps, settled-keeps}
use Rattle.sp_model.proofs.Untouched.{untouched, settled-same, undone-same}

module _ (f g : Entry → Entry) where
  entries_alike : (es : List Entry) → ((e : Entry) → Among e es → f e ≡ g e) → map f es ≡ map g es
  entries_alike [] same = refl
  entries_alike (e ∷ es) same = λ i. same e (inl refl) i ∷ entries_alike es (λ x j. same x (inr j)) i

  node_alike : (n : Node) → ((e : Entry) → Among e (entries_of_node n) → f e ≡ g e) → node_with f n ≡ node_with g n
  node_alike (Leaf es) same = ap Leaf (entries_alike es same)
  node_alike (Inner cs) same = refl

  nodes_alike : (ns : List (ℕ × Node)) → ((n : ℕ × Node) → Among n ns → node_with f n.1 ≡ node_with g n.1) → nodes_with f ns ≡ nodes_with g ns
  nodes_alike [] same = refl
  nodes_alike (n ∷ ns) same = λ i. (n.0, same n (inl refl) i) ∷ nodes_alike ns (λ m j. same m (inr j)) i

-- each pair of a table with distinct numbers is found
found_there : (ns : List (ℕ × Node)) → IsDistinct nat_eq (map (λ n. n.0) ns) → (n : ℕ × Node) → Among n ns → look ns n.0 ≡ Some n.1
found_there [] d n i = absurd i
found_there (m ∷ ns) d n (inl e) = ap (λ (b : Bool). cond b (Some m.1) (look ns n.0)) (number-tell n.0 m.0 (ap (λ (x : ℕ × Node). x.0) e)) ∙ ap (λ (x : ℕ × Node). Some x.1) (sym e)
found_there (m ∷ ns) d n (inr i) =
    ap (λ (b : Bool). cond b (Some m.1) (look ns n.0))
    (number-apart n.0 m.0 (λ e. true≢false (sym (number-tell m.0 n.0 (sym e)) ∙ all_among (λ k. nat_eq m.0 k ≡ false) n.0 (map (λ x. x.0) ns) (IsDistinct-head nat_eq m.0 (map (λ x. x.0) ns) d) (among_map (λ (x : ℕ × Node). x.0) n ns i))))
    ∙ found_there ns (IsDistinct-tail nat_eq m.0 (map (λ x. x.0) ns) d) n i

-- two changes that agree on the entries of a valid tree change it alike
pub tree_alike : (f g : Entry → Entry) (t : Table) → IsValid t → ((e : Entry) → Among e (entries_of t) → f e ≡ g e) → table_with f t ≡ table_with g t
tree_alike f g t v same = ap (λ (ns : List (ℕ × Node)). record { shape = t.shape; root = t.root; next = t.next; nodes = ns }) (nodes_alike f g t.nodes each)
  where
    none : (m : Node) → None ≡ Some m → ⊥
    none m e = cc

    some : (m n : Node) → Some m ≡ Some n → m ≡ n
    some m n e = cc

    each : (n : ℕ × Node) → Among n t.nodes → node_with f n.1 ≡ node_with g n.1
    each n i = elim (node_of_number t v n.0) [
      | inl p ↦
          let is : node p.0.level p.0.body ≡ n.1 = some _ _ (sym p.3 ∙ found_there t.nodes (keys_distinct t v) n i) in
          subst (λ (m : Node). node_with f m ≡ node_with g m) is
          (node_alike f g (node p.0.level p.0.body) (λ e j. same e (subst (Among e) (own_all t v) (among_flat_map own e p.0 (places_of t) p.1 j))))
      | inr q ↦ absurd (none _ (sym q.1 ∙ found_there t.nodes (keys_distinct t v) n i))
    ]

-- a change after a change
twice : (f g : Entry → Entry) (es : List Entry) → map g (map f es) ≡ map (λ e. g (f e)) es
twice f g [] = refl
twice f g (e ∷ es) = ap (λ (xs : List Entry). g (f e) ∷ xs) (twice f g es)

node-twice : (f g : Entry → Entry) (n : Node) → node_with g (node_with f n) ≡ node_with (λ e. g (f e)) n
node-twice f g (Leaf es) = ap Leaf (twice f g es)
node-twice f g (Inner cs) = refl

nodes-twice : (f g : Entry → Entry) (ns : List (ℕ × Node)) → nodes_with g (nodes_with f ns) ≡ nodes_with (λ e. g (f e)) ns
nodes-twice f g [] = refl
nodes-twice f g (n ∷ ns) = λ i. (n.0, node-twice f g n.1 i) ∷ nodes-twice f g ns i

tree-twice : (f g : Entry → Entry) (t : Table) → table_with g (table_with f t) ≡ table_with (λ e. g (f e)) t
tree-twice f g t = ap (λ (ns : List (ℕ × Node)). record { shape = t.shape; root = t.root; next = t.next; nodes = ns }) (nodes-twice f g t.nodes)

module _ (change : Entry → Entry) (keeps : Keeps change) where
  -- what becomes of an entry as these numbers are changed
  each : List ℕ → Entry → Entry
  each [] e = e
  each (n ∷ ns) e = each ns (at_number n change e)

  one_by_one-is : (ns : List ℕ) (t : Table) → one_by_one change ns t ≡ table_with (each ns) t
  unfolding each
  one_by_one-is [] t = sym (same_table t)
  one_by_one-is (n ∷ ns) t = one_by_one-is ns (table_with (at_number n change) t) ∙ tree-twice (at_number n change) (each ns) t

  at-other : (n : ℕ) (e : Entry) → n ≢ e.number → at_number n change e ≡ e
  at-other n e other = ap (λ (b : Bool). cond b (change e) e) (number-apart n e.number other)

  at-own : (n : ℕ) (e : Entry) → n ≡ e.number → at_number n change e ≡ change e
  at-own n e is = ap (λ (b : Bool). cond b (change e) e) (number-tell n e.number is)

  each-out : (ns : List ℕ) (e : Entry) → (Among e.number ns → ⊥) → each ns e ≡ e
  unfolding each
  each-out [] e out = refl
  each-out (n ∷ ns) e out = ap (each ns) (at-other n e (λ s. out (inl (sym s)))) ∙ each-out ns e (λ i. out (inr i))

  each-in : (ns : List ℕ) (e : Entry) → IsDistinct nat_eq ns → Among e.number ns → each ns e ≡ change e
  unfolding each
  each-in [] e once i = absurd i
  each-in (n ∷ ns) e once (inl s) =
      ap (each ns) (at-own n e (sym s)) ∙ each-out ns (change e) (λ i. distinct-out n ns once (subst (λ (m : ℕ). Among m ns) (keeps.number e ∙ s) i))
  each-in (n ∷ ns) e once (inr i) =
      ap (each ns) (at-other n e (λ s. distinct-out n ns once (subst (λ (m : ℕ). Among m ns) (sym s) i))) ∙ each-in ns e (IsDistinct-tail nat_eq n ns once) i

-- an end of an active transaction, on its marked entries one after the other
module _ (k : Kernel) (x : Session) (change : Entry → Entry) (keeps : Keeps change) (same : (e : Entry) → IsUntouched x.txn.number e → change e ≡ e) (sound : Bare k) (dead : IsDeadUntouched k) (here : Among x k.sessions) (active : is_active x ≡ true) where
  pub ended_one_by_one : (numbers : List ℕ) → AreNumbersMarked k.tree x.txn.number numbers → one_by_one change numbers k.tree ≡ table_with change k.tree
  ended_one_by_one numbers are = one_by_one-is change keeps numbers k.tree ∙ tree_alike (each change keeps numbers) change k.tree sound.valid (λ e i. go e i (is_marked x.txn.number e) refl)
    where
      go : (e : Entry) → Among e (entries_in k) → (b : Bool) → is_marked x.txn.number e ≡ b → each change keeps numbers e ≡ change e
      go e i true m = each-in change keeps numbers e are.once (are.all e i m)
      go e i false m = each-out change keeps numbers e (λ j. true≢false (sym (are.marked e i j) ∙ m)) ∙ sym (same e (untouched k.sessions (entries_in k) x e dead here active i m))

pub settled_one_by_one : (k : Kernel) (x : Session) (numbers : List ℕ) → Bare k → IsDeadUntouched k → Among x k.sessions → is_active x ≡ true → AreNumbersMarked k.tree x.txn.number numbers → one_by_one (settled x.txn.number) numbers k.tree ≡ table_with (settled x.txn.number) k.tree
settled_one_by_one k x numbers sound dead here active are = ended_one_by_one k x (settled x.txn.number) (settled-keeps x.txn.number) (settled-same x.txn.number) sound dead here active numbers are

pub undone_one_by_one : (k : Kernel) (x : Session) (numbers : List ℕ) → Bare k → IsDeadUntouched k → Among x k.sessions → is_active x ≡ true → AreNumbersMarked k.tree x.txn.number numbers → one_by_one (undone x.txn.number) numbers k.tree ≡ table_with (undone x.txn.number) k.tree
undone_one_by_one k x numbers sound dead here active are = ended_one_by_one k x (undone x.txn.number) (undone-keeps x.txn.number) (undone-same x.txn.number) sound dead here active numbers are

-- the numbers of the marked entries, in ascending order
pub numbers_marked : (t : Table) (txn : ℕ) (numbers : List ℕ) → IsValid t → IsPermutation (map (λ e. e.number) (filter (is_marked txn) (entries_of t))) numbers → IsStrictlyIncreasing numbers → AreNumbersMarked t txn numbers
numbers_marked t txn numbers v permutes rises = record {
  once = distinct_from_ascending numbers rises;
  marked = λ e i j. mark e i (from_map (λ (z : Entry). z.number) e.number (filter (is_marked txn) (entries_of t)) (back e.number j));
  all = λ e i m. there e.number (among_map (λ (z : Entry). z.number) e (filter (is_marked txn) (entries_of t)) (among-kept (is_marked txn) e (entries_of t) i m));
}
  where
    alike : (n : ℕ) → list_any (nat_eq n) (map (λ (e : Entry). e.number) (filter (is_marked txn) (entries_of t))) ≡ list_any (nat_eq n) numbers
    alike n = list_any-IsPermutation (nat_eq n) (map (λ (e : Entry). e.number) (filter (is_marked txn) (entries_of t))) numbers permutes

    found : (n : ℕ) (ns : List ℕ) → list_any (nat_eq n) ns ≡ true → Among n ns
    found n ns h = let a = any-among (nat_eq n) ns h in subst (λ (m : ℕ). Among m ns) (sym (number-same n a.0 a.2)) a.1

    back : (n : ℕ) → Among n numbers → Among n (map (λ (e : Entry). e.number) (filter (is_marked txn) (entries_of t)))
    back n i = found n (map (λ (e : Entry). e.number) (filter (is_marked txn) (entries_of t))) (alike n ∙ among-any (nat_eq n) n numbers i (number-tell n n refl))

    there : (n : ℕ) → Among n (map (λ (e : Entry). e.number) (filter (is_marked txn) (entries_of t))) → Among n numbers
    there n i = found n numbers (sym (alike n) ∙ among-any (nat_eq n) n (map (λ (e : Entry). e.number) (filter (is_marked txn) (entries_of t))) i (number-tell n n refl))

    mark : (e : Entry) → Among e (entries_of t) → (o : Entry) × Among o (filter (is_marked txn) (entries_of t)) × (o.number ≡ e.number) → is_marked txn e ≡ true
    mark e i (o, j, same) = let k = of_kept (is_marked txn) o (entries_of t) j in ap (is_marked txn) (one_of_number t v e o i k.0 (sym same)) ∙ k.1
