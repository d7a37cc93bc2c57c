-- The marks of an operation, given to its entries one after the other, are those that it makes of all entries.
use Rattle.std.proofs.Common.{◌≡◌, ◌≢◌, ℕ, suc, ◌+◌, ◌<◌, Bool, true, false, cond, List, [], ◌∷◌, ◌++◌, map, length, take, get_or, refl, sym, ap, ◌∙◌, subst, inl, inr, true≢false, filter, arith}
use Rattle.std.specs.Prelude.{nat_eq, Contains}
use Rattle.std.specs.List.{IsDistinct}
use Rattle.std.specs.List.Sorted.{IsPermutation}
use Rattle.std.proofs.lemmas.List.{take_more}
use Rattle.std.proofs.lemmas.List.Sorted.{IsPermutation-sym, Contains-permutation}
use Rattle.std.proofs.lemmas.Map.Keys.{IsDistinct-tail}
use Rattle.sp_rect.specs.declared.operation.Op.{Op}
use Rattle.sp_node.specs.declared.marks.Marks.{Marks}
use Rattle.sp_node.specs.declared.node.Entry.{Entry}
use Rattle.sp_node.specs.declared.node.Node.{Node}
use Rattle.sp_node.specs.declared.node.Node.TheVariants.{Leaf, Inner}
use Rattle.sp_node.specs.Among.{Among}
use Rattle.sp_node.specs.Change.{at_number, node_with, nodes_with, table_with}
use Rattle.sp_node.specs.Known.{is_known, IsNoted}
use Rattle.sp_node.specs.Marks.{marked}
use Rattle.sp_node.specs.Table.{Table, IsValid, entries_of}
use Rattle.sp_node.proofs.Laws.{one_of_number}
use Rattle.sp_node.proofs.Members.{distinct_from_ascending}
use Rattle.sp_grow.proofs.After.{among_from_contains}
use Rattle.sp_protection.specs.Effects.{is_changed, marks_by, marked_by}
use Rattle.sp_protection.proofs.Leaves.{among_map, from_map}
use Rattle.sp_ops.specs.Effect.{mark_of, AreMarked}
use Rattle.sp_model.proofs.Sessions.{number-tell, number-apart, among-kept, of_kept}
use Rattle.sp_model.proofs.Dead.{distinct-out}
use Rattle.sp_model.proofs.Endings.{same_table}
use Rattle.sp_model.proofs.OneByOne.{tree_alike}
use Rattle.sp_apply.specs.Noted.{AreNoted}

-- the marks given, the last of the list first
abbrev pub marked_each : List (ℕ × Marks) → Table → Table
marked_each [] t = t
marked_each (m ∷ ms) t = table_with (at_number m.0 (marked m.1)) (marked_each ms t)

pub marked_each-last : (ms : List (ℕ × Marks)) (m : ℕ × Marks) (t : Table) → marked_each (ms ++ m ∷ []) t ≡ marked_each ms (table_with (at_number m.0 (marked m.1)) t)
marked_each-last [] m t = refl
marked_each-last (x ∷ ms) m t = ap (table_with (at_number x.0 (marked x.1))) (marked_each-last ms m t)

-- a change after a change
twice : (f g : Entry → Entry) (es : List Entry) → map g (map f es) ≡ map (λ e. g (f e)) es
twice f g [] = refl
twice f g (e ∷ es) = ap (λ (xs : List Entry). g (f e) ∷ xs) (twice f g es)

node-twice : (f g : Entry → Entry) (n : Node) → node_with g (node_with f n) ≡ node_with (λ e. g (f e)) n
node-twice f g (Leaf es) = ap Leaf (twice f g es)
node-twice f g (Inner cs) = refl

nodes-twice : (f g : Entry → Entry) (ns : List (ℕ × Node)) → nodes_with g (nodes_with f ns) ≡ nodes_with (λ e. g (f e)) ns
nodes-twice f g [] = refl
nodes-twice f g (n ∷ ns) = λ i. (n.0, node-twice f g n.1 i) ∷ nodes-twice f g ns i

tree-twice : (f g : Entry → Entry) (t : Table) → table_with g (table_with f t) ≡ table_with (λ e. g (f e)) t
tree-twice f g t = ap (λ (ns : List (ℕ × Node)). record { shape = t.shape; root = t.root; next = t.next; nodes = ns }) (nodes-twice f g t.nodes)

-- what becomes of an entry
each : List (ℕ × Marks) → Entry → Entry
each [] e = e
each (m ∷ ms) e = at_number m.0 (marked m.1) (each ms e)

marked_each-is : (ms : List (ℕ × Marks)) (t : Table) → marked_each ms t ≡ table_with (each ms) t
unfolding each
marked_each-is [] t = sym (same_table t)
marked_each-is (m ∷ ms) t = ap (table_with (at_number m.0 (marked m.1))) (marked_each-is ms t) ∙ tree-twice (each ms) (at_number m.0 (marked m.1)) t

at-other : (n : ℕ) (m : Marks) (e : Entry) → n ≢ e.number → at_number n (marked m) e ≡ e
at-other n m e other = ap (λ (b : Bool). cond b (marked m e) e) (number-apart n e.number other)

at-own : (n : ℕ) (m : Marks) (e : Entry) → n ≡ e.number → at_number n (marked m) e ≡ marked m e
at-own n m e is = ap (λ (b : Bool). cond b (marked m e) e) (number-tell n e.number is)

-- an entry whose number is not among them stays
each-out : (ms : List (ℕ × Marks)) (e : Entry) → (Among e.number (map (λ m. m.0) ms) → ⊥) → each ms e ≡ e
unfolding each
each-out [] e out = refl
each-out (m ∷ ms) e out = ap (at_number m.0 (marked m.1)) (each-out ms e (λ i. out (inr i))) ∙ at-other m.0 m.1 e (λ s. out (inl (sym s)))

-- one whose number is among them gets its marks
each-in : (ms : List (ℕ × Marks)) (e : Entry) (given : Marks) → IsDistinct nat_eq (map (λ m. m.0) ms) → Among (e.number, given) ms → each ms e ≡ marked given e
unfolding each
each-in [] e given once i = absurd i
each-in (m ∷ ms) e given once (inl s) =
    let named : e.number ≡ m.0 = ap (λ (p : ℕ × Marks). p.0) s in
    ap (at_number m.0 (marked m.1)) (each-out ms e (λ i. distinct-out m.0 (map (λ m. m.0) ms) once (subst (λ (n : ℕ). Among n (map (λ m. m.0) ms)) named i)))
    ∙ at-own m.0 m.1 e (sym named) ∙ ap (λ (p : ℕ × Marks). marked p.1 e) (sym s)
each-in (m ∷ ms) e given once (inr i) =
    ap (at_number m.0 (marked m.1)) (each-in ms e given (IsDistinct-tail nat_eq m.0 (map (λ m. m.0) ms) once) i)
    ∙ at-other m.0 m.1 (marked given e) (λ s. distinct-out m.0 (map (λ m. m.0) ms) once (subst (λ (n : ℕ). Among n (map (λ m. m.0) ms)) (sym s) (among_map (λ (p : ℕ × Marks). p.0) (e.number, given) ms i)))

-- membership in two forms, and in lists with the same members
contains : {X : Type 0} (xs : List X) (x : X) → Among x xs → Contains xs x
contains [] x a = absurd a
contains (y ∷ xs) x (inl e) = (0, omega arith, sym e)
contains (y ∷ xs) x (inr a) = let at = contains xs x a in (suc at.0, omega (arith, at.1), at.2)

moved : {X : Type 0} (xs ys : List X) (x : X) → IsPermutation xs ys → Among x xs → Among x ys
moved xs ys x p a = among_from_contains ys x (Contains-permutation xs ys x p (contains xs x a))

-- the marks of an operation, one entry after the other
pub marks_one_by_one : (t : Table) (txn : ℕ) (op : Op) (ms : List (ℕ × Marks)) → IsValid t → AreMarked (entries_of t) txn op ms → marked_each ms t ≡ table_with (marked_by txn op) t
marks_one_by_one t txn op ms v are = marked_each-is ms t ∙ tree_alike (each ms) (marked_by txn op) t v (λ e i. go e i (is_changed txn op e) refl)
  where
    once : IsDistinct nat_eq (map (λ m. m.0) ms)
    once = distinct_from_ascending (map (λ m. m.0) ms) are.ascending

    changed : List Entry
    changed = filter (is_changed txn op) (entries_of t)

    unlisted : (e : Entry) → Among e (entries_of t) → is_changed txn op e ≡ false → Among e.number (map (λ m. m.0) ms) → ⊥
    unlisted e i off j =
        let m = from_map (λ (p : ℕ × Marks). p.0) e.number ms j in
        let o = from_map (mark_of txn op) m.0 changed (moved ms (map (mark_of txn op) changed) m.0 (IsPermutation-sym (map (mark_of txn op) changed) ms are.exactly) m.1) in
        let k = of_kept (is_changed txn op) o.0 (entries_of t) o.1 in
        let same : o.0 ≡ e = one_of_number t v o.0 e k.0 i (ap (λ (p : ℕ × Marks). p.0) o.2 ∙ m.2) in
        true≢false (sym k.1 ∙ ap (is_changed txn op) same ∙ off)

    go : (e : Entry) → Among e (entries_of t) → (b : Bool) → is_changed txn op e ≡ b → each ms e ≡ marked_by txn op e
    go e i true on =
        each-in ms e (marks_by txn op e.marks) once
        (moved (map (mark_of txn op) changed) ms (mark_of txn op e) are.exactly (among_map (mark_of txn op) e changed (among-kept (is_changed txn op) e (entries_of t) i on)))
        ∙ ap (λ (b : Bool). cond b (marked (marks_by txn op e.marks) e) e) (sym on)
    go e i false off = each-out ms e (unlisted e i off) ∙ ap (λ (b : Bool). cond b (marked (marks_by txn op e.marks) e) e) (sym off)

-- room for marks stays as more is noted
noted-kept : (noted noted' : List (ℕ × ℕ)) (ms : List (ℕ × Marks)) → ((t n : ℕ) → is_known noted t n ≡ true → is_known noted' t n ≡ true) → AreNoted noted ms → AreNoted noted' ms
noted-kept noted noted' [] kept h = tt
noted-kept noted noted' (m ∷ ms) kept h = (λ txn b. kept txn m.0 (h.0 txn b), noted-kept noted noted' ms kept h.1)

noted-push : (noted : List (ℕ × ℕ)) (ms : List (ℕ × Marks)) (m : ℕ × Marks) → AreNoted noted ms → IsNoted noted m.0 m.1 → AreNoted noted (ms ++ m ∷ [])
noted-push noted [] m h k = (k, tt)
noted-push noted (x ∷ ms) m h k = (h.0, noted-push noted ms m h.1 k)

pub noted_more : (noted noted' : List (ℕ × ℕ)) (ms : List (ℕ × Marks)) (i : ℕ) (m : ℕ × Marks) → i < length ms → m ≡ get_or ms i m → ((t n : ℕ) → is_known noted t n ≡ true → is_known noted' t n ≡ true)
    → AreNoted noted (take i ms) → IsNoted noted' m.0 m.1 → AreNoted noted' (take (i + 1) ms)
noted_more noted noted' ms i m within is kept h k =
    subst (AreNoted noted') (ap (λ (x : ℕ × Marks). take i ms ++ x ∷ []) is ∙ sym (take_more ms i m within)) (noted-push noted' (take i ms) m (noted-kept noted noted' (take i ms) kept h) k)

-- the room of all but the last, and of the last
pub noted_last : (noted : List (ℕ × ℕ)) (ms : List (ℕ × Marks)) (m : ℕ × Marks) → AreNoted noted (ms ++ m ∷ []) → AreNoted noted ms × IsNoted noted m.0 m.1
noted_last noted [] m h = (tt, h.0)
noted_last noted (x ∷ ms) m h = let more = noted_last noted ms m h.1 in ((h.0, more.0), more.1)

pub nothing_left : (ms : List (ℕ × Marks)) → length ms ≡ 0 → ms ≡ []
nothing_left [] h = refl
nothing_left (m ∷ ms) h = absurd (omega (arith, h))
