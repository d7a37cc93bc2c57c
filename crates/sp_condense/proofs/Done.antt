-- The plan of a removal.
use Rattle.std.proofs.Common.{◌≡◌, ◌≢◌, ℕ, zero, suc, ◌+◌, ◌^◌, ◌<◌, inl, inr, Bool, true, false, ◌||◌, List, [], ◌∷◌, ◌++◌, length, map, Option, Some, None, is_some, refl, sym, ap, ◌∙◌, subst, arith}
use Rattle.std.specs.Prelude.{nat_eq, cond, MatchOption}
use Rattle.std.specs.List.{AllByRecursion, IsDistinct, flat_map}
use Rattle.std.specs.List.Sorted.{IsPermutation}
use Rattle.std.proofs.lemmas.Bool.Decides.{nat_tests}
use Rattle.std.proofs.lemmas.Cmp.{nat_eq_equiv}
use Rattle.std.proofs.lemmas.List.{append-nil}
use Rattle.std.proofs.lemmas.List.Folds.{list_any-append}
use Rattle.std.proofs.lemmas.List.Sorted.{list_any-IsPermutation}
use Rattle.std.proofs.lemmas.List.Sums.{sum_by-cons}
use Rattle.std.proofs.lemmas.Map.Keys.{IsDistinct-head, IsDistinct-tail, IsDistinct-IsPermutation}
use Rattle.sp_rect.specs.Plane.{IsRectangle, whole}
use Rattle.sp_node.specs.declared.node.Entry.{Entry}
use Rattle.sp_node.specs.declared.node.Child.{Child}
use Rattle.sp_node.specs.declared.node.Node.{Node}
use Rattle.sp_node.specs.declared.node.Node.TheVariants.{Leaf, Inner}
use Rattle.sp_node.specs.declared.plan.Part.{Part}
use Rattle.sp_node.specs.declared.plan.Part.TheVariants.{Now, Gone}
use Rattle.sp_node.specs.declared.plan.Plan.{Plan}
use Rattle.sp_node.specs.Among.{Among}
use Rattle.sp_node.specs.Nested.{Body, Branch, entries, IsRootSize}
use Rattle.sp_node.specs.Look.{look, IsAscending, entries_in}
use Rattle.sp_node.specs.Plan.{number_of, content, with_parts, AreOrdered, Differs, planned, IsMadeOf, SameEntries}
use Rattle.sp_node.specs.Table.{Table, body_at, Stands, IsInner, children_in, level_of, entries_of, IsValid, IsValidAt}
use Rattle.sp_node.proofs.Lists.{all_imply}
use Rattle.sp_node.proofs.Among.{all_among}
use Rattle.sp_node.proofs.Entries.{has_from_among}
use Rattle.sp_node.proofs.Standing.{has_is_any, entry_in_is, entry_in_some}
use Rattle.sp_node.proofs.Adopt.{part_at, look_parts}
use Rattle.sp_node.proofs.Level.{level_is, valid_at}
use Rattle.sp_split.specs.Split.{is_among}
use Rattle.sp_split.proofs.Members.{equal_from, unequal_from, all_none, same_members, permutation_from_sums}
use Rattle.sp_grow.specs.Below.{numbers, branch_at}
use Rattle.sp_grow.specs.Nest.{nest}
use Rattle.sp_grow.specs.Overlay.{Overlay}
use Rattle.sp_grow.proofs.After.{own_look, all_members, among_from_contains, distinct_same, keys, keys_look, keys_distinct, rising_parts}
use Rattle.sp_grow.proofs.Numbers.{numbers_places, all_front, all_back}
use Rattle.sp_grow.proofs.Sums.{sum_map}
use Rattle.sp_condense.specs.declared.orphans.Orphan.{Orphan as Found}
use Rattle.sp_condense.specs.declared.rest.Rest.{Rest}
use Rattle.sp_condense.specs.Removal.{Orphan, Inserts, IsNest, IsRemovedFrom, IsRemoved, KeepsOthers, collapsed}
use Rattle.sp_condense.specs.Taking.{AreFound, IsTaken}
use Rattle.sp_condense.specs.Staging.{IsStage, all_numbers, at_of, Ready, nest_of, Goes, begun, IsEnd, SameMembers, Agrees, IsKeptIf, IsSettled, IsOutcome}
use Rattle.sp_condense.proofs.Start.{own_parts, ready, left_is}

-- one part more
pub settled_more : (nodes : List (ℕ × Node)) (p : Part) (ps old new : List Part) → IsKeptIf nodes p old new → IsSettled nodes ps old → IsSettled nodes (p ∷ ps) new
settled_more nodes p ps old new (inl k) s = inl (k.0, (old, k.1, s))
settled_more nodes p ps old new (inr k) s = inr (k.0, subst (IsSettled nodes ps) (sym k.1) s)

pub joined_lists : (xs ys zs : List Part) → (xs ++ ys) ++ zs ≡ xs ++ (ys ++ zs)
joined_lists [] ys zs = refl
joined_lists (x ∷ xs) ys zs = ap (λ (us : List Part). x ∷ us) (joined_lists xs ys zs)

-- an option that is not there
pub none_of : {X : Type 0} (r : Option X) (A : Type 0) (B : X → Type 0) → MatchOption r A B → ((x : X) → r ≡ Some x → ⊥) → A
none_of None A B m h = m
none_of (Some x) A B m h = absurd (h x refl)

module _ (nodes : List (ℕ × Node)) where
  settled_all : (P : Part → Type 0) (ps qs : List Part) → IsSettled nodes ps qs → AllByRecursion P ps → AllByRecursion P qs
  settled_all P [] qs s h = subst (AllByRecursion P) (sym s) tt
  settled_all P (p ∷ ps) qs (inl k) h = subst (AllByRecursion P) (sym k.1.1) (h.0, settled_all P ps k.1.0 k.1.2 h.1)
  settled_all P (p ∷ ps) qs (inr k) h = settled_all P ps qs k.1 h.1

  settled_differs : (ps qs : List Part) → IsSettled nodes ps qs → AllByRecursion (Differs nodes) qs
  settled_differs [] qs s = subst (AllByRecursion (Differs nodes)) (sym s) tt
  settled_differs (p ∷ ps) qs (inl k) = subst (AllByRecursion (Differs nodes)) (sym k.1.1) (k.0, settled_differs ps k.1.0 k.1.2)
  settled_differs (p ∷ ps) qs (inr k) = settled_differs ps qs k.1

  settled_ordered : (ps qs : List Part) → IsSettled nodes ps qs → AreOrdered ps → AreOrdered qs
  settled_ordered [] qs s a = subst AreOrdered (sym s) tt
  settled_ordered (p ∷ ps) qs (inl k) a = subst AreOrdered (sym k.1.1) (settled_all (λ q. number_of p < number_of q) ps k.1.0 k.1.2 a.0, settled_ordered ps k.1.0 k.1.2 a.1)
  settled_ordered (p ∷ ps) qs (inr k) a = settled_ordered ps qs k.1 a.1

  later : (p : Part) (ps : List Part) (o : Option Node) → AllByRecursion (λ q. number_of p < number_of q) ps → part_at ps (number_of p) o ≡ o
  later p [] o h = refl
  later p (q ∷ ps) o h = ap (λ (b : Bool). cond b (content q) (part_at ps (number_of p) o)) (smaller (number_of p) (number_of q) h.0) ∙ later p ps o h.1
    where
      smaller : (m n : ℕ) → m < n → nat_eq m n ≡ false
      smaller m n lt = grind (arith, nat_tests)

  -- what stands is the same
  pub settled_look : (ps qs : List Part) → AreOrdered ps → IsSettled nodes ps qs → AllByRecursion (λ p. Agrees nodes p → look nodes (number_of p) ≡ content p) ps → (k : ℕ) → part_at qs k (look nodes k) ≡ part_at ps k (look nodes k)
  settled_look [] qs a s h k = ap (λ (rs : List Part). part_at rs k (look nodes k)) s
  settled_look (p ∷ ps) qs a (inl r) h k = ap (λ (rs : List Part). part_at rs k (look nodes k)) r.1.1 ∙ ap (λ (o : Option Node). cond (nat_eq k (number_of p)) (content p) o) (settled_look ps r.1.0 a.1 r.1.2 h.1 k)
  settled_look (p ∷ ps) qs a (inr r) h k = by_test (nat_eq k (number_of p)) refl (settled_look ps qs a.1 r.1 h.1 k)
    where
      by_test : (b : Bool) → nat_eq k (number_of p) ≡ b → part_at qs k (look nodes k) ≡ part_at ps k (look nodes k) → part_at qs k (look nodes k) ≡ cond b (content p) (part_at ps k (look nodes k))
      by_test true e more =
          let same : k ≡ number_of p = equal_from k (number_of p) e in
          more ∙ ap (λ (j : ℕ). part_at ps j (look nodes j)) same ∙ later p ps (look nodes (number_of p)) a.0 ∙ h.0 r.0
      by_test false e more = more

-- the entries of a leaf of a tree
module _ (at : ℕ → Option Node) (P : Entry → Type 0) (k : ℕ) (es : List Entry) (is : at k ≡ Some (Leaf es)) where
  abbrev Comes : ℕ → Child → Type 0
  Comes level c = Stands at level c.node → is_among (numbers level c.node (body_at at level c.node)) k ≡ true → AllByRecursion P (entries level (body_at at level c.node)) → AllByRecursion P es

  in_list : (level : ℕ) (cs : List Child) → ((c : Child) → Comes level c) → AllByRecursion (λ c. Stands at level c.node) cs → is_among (flat_map (λ (b : Branch (Body level)). numbers level b.number b.body) (map (branch_at at level) cs)) k ≡ true → AllByRecursion P (flat_map (λ (b : Branch (Body level)). entries level b.body) (map (branch_at at level) cs)) → AllByRecursion P es
  in_list level [] rec s h all = absurd (never h)
    where
      never : false ≡ true → ⊥
      never e = cc
  in_list level (c ∷ cs) rec s h all = by_test (is_among (numbers level c.node (body_at at level c.node)) k) refl (λ m a. in_list level cs rec s.1 m a)
    where
      parts : (is_among (numbers level c.node (body_at at level c.node)) k || is_among (flat_map (λ (b : Branch (Body level)). numbers level b.number b.body) (map (branch_at at level) cs)) k) ≡ true
      parts = sym (list_any-append (nat_eq k) (numbers level c.node (body_at at level c.node)) (flat_map (λ (b : Branch (Body level)). numbers level b.number b.body) (map (branch_at at level) cs))) ∙ h

      by_test : (b : Bool) → is_among (numbers level c.node (body_at at level c.node)) k ≡ b
          → (is_among (flat_map (λ (b : Branch (Body level)). numbers level b.number b.body) (map (branch_at at level) cs)) k ≡ true → AllByRecursion P (flat_map (λ (b : Branch (Body level)). entries level b.body) (map (branch_at at level) cs)) → AllByRecursion P es) → AllByRecursion P es
      by_test true e more = rec c s.0 e (all_front P (entries level (body_at at level c.node)) (flat_map (λ (b : Branch (Body level)). entries level b.body) (map (branch_at at level) cs)) all)
      by_test false e more = more (sym (ap (λ (b : Bool). b || is_among (flat_map (λ (b : Branch (Body level)). numbers level b.number b.body) (map (branch_at at level) cs)) k) e) ∙ parts) (all_back P (entries level (body_at at level c.node)) (flat_map (λ (b : Branch (Body level)). entries level b.body) (map (branch_at at level) cs)) all)

  pub leaf_entries : (level n : ℕ) → Stands at level n → is_among (numbers level n (body_at at level n)) k ≡ true → AllByRecursion P (entries level (body_at at level n)) → AllByRecursion P es
  leaf_entries zero n s h all = by_test (nat_eq k n) refl h
    where
      by_test : (b : Bool) → nat_eq k n ≡ b → (b || false) ≡ true → AllByRecursion P es
      by_test true e h = subst (AllByRecursion P) (ap (λ (j : ℕ). entries_in (at j)) (sym (equal_from k n e)) ∙ ap entries_in is) all
      by_test false e h = cc
  leaf_entries (suc level) n s h all = by_test (nat_eq k n) refl h (in_list level (children_in (at n)) (λ c. leaf_entries level c.node) s.1)
    where
      by_test : (b : Bool) → nat_eq k n ≡ b → (b || is_among (flat_map (λ (b : Branch (Body level)). numbers level b.number b.body) (map (branch_at at level) (children_in (at n)))) k) ≡ true
          → (is_among (flat_map (λ (b : Branch (Body level)). numbers level b.number b.body) (map (branch_at at level) (children_in (at n)))) k ≡ true → AllByRecursion P (flat_map (λ (b : Branch (Body level)). entries level b.body) (map (branch_at at level) (children_in (at n)))) → AllByRecursion P es) → AllByRecursion P es
      by_test true e h rec = absurd (subst IsInner (ap at (sym (equal_from k n e)) ∙ is) s.0)
      by_test false e h rec = rec h all

-- entries of the same numbers are the same
same_list : (all es fs : List Entry) → IsDistinct nat_eq (map (λ x. x.number) all) → AllByRecursion (λ x. Among x all) es → AllByRecursion (λ x. Among x all) fs → map (λ x. x.number) es ≡ map (λ x. x.number) fs → es ≡ fs
same_list all [] [] d h k e = refl
same_list all [] (f ∷ fs) d h k e = cc
same_list all (x ∷ es) [] d h k e = cc
same_list all (x ∷ es) (f ∷ fs) d h k e =
    let first : x.number ≡ f.number = cc in
    let rest : map (λ (y : Entry). y.number) es ≡ map (λ (y : Entry). y.number) fs = cc in
    let s = distinct_same all x f d h.0 k.0 first in
    let r = same_list all es fs d h.1 k.1 rest in
    λ i. s i ∷ r i

some_is : (a b : Node) → Some a ≡ Some b → a ≡ b
some_is a b e = cc

-- entries by their numbers
numbered : (es : List Entry) (f : Entry) → Among f es → is_among (map (λ x. x.number) es) f.number ≡ true
numbered es f i = sym (has_is_any es f.number) ∙ has_from_among f es i

named : (es : List Entry) (k : ℕ) → is_among (map (λ x. x.number) es) k ≡ true → (f : Entry) × Among f es × (f.number ≡ k)
named es k h =
    let found = entry_in_some es k (has_is_any es k ∙ h) in
    let is = entry_in_is es k found.0 found.1 in
    (found.0, is.0, is.1)

module _ (t : Table) (v : IsValid t) (rising : IsAscending t.nodes) (e : Entry) (ps qs : List Part) (root next level : ℕ) (ordered : AreOrdered ps) (settled : IsSettled t.nodes ps qs) (s : IsStage t e (look (with_parts t.nodes ps)) root next level []) (full : IsRootSize t.shape level (length (body_at (look (with_parts t.nodes ps)) level root))) where
  abbrev at : ℕ → Option Node
  at = look (with_parts t.nodes ps)

  parts_say : AllByRecursion (λ p. at (number_of p) ≡ content p) ps
  parts_say = all_imply (λ p h. look_parts t.nodes ps (number_of p) ∙ h) ps (own_parts ps (look t.nodes) ordered)

  plain : all_numbers at root level [] ≡ numbers level root (body_at at level root)
  plain = append-nil (numbers level root (body_at at level root))

  there : (k : ℕ) (n : Node) → at k ≡ Some n → is_among (numbers level root (body_at at level root)) k ≡ true
  there k n h = sym (ap (λ (ns : List ℕ). is_among ns k) plain) ∙ sym (s.exact k) ∙ ap is_some h

  same_node : (k : ℕ) (m n : Node) → look t.nodes k ≡ Some m → at k ≡ Some n → SameMembers m n → m ≡ n
  same_node k (Leaf es) (Leaf fs) before after same =
      ap Leaf (same_list (entries_of t) es fs v.distinct_entries
      (leaf_entries (look t.nodes) (λ f. Among f (entries_of t)) k es before (level_of t) t.root v.stands (sym (own_look t v rising k) ∙ ap is_some before) (all_members (entries_of t)))
      (leaf_entries at (λ f. Among f (entries_of t)) k fs after level root s.stands (there k (Leaf fs) after) s.each) same)
  same_node k (Leaf es) (Inner ds) before after same = absurd same
  same_node k (Inner cs) (Leaf fs) before after same = absurd same
  same_node k (Inner cs) (Inner ds) before after same = ap Inner same

  agree : (p : Part) → at (number_of p) ≡ content p → Agrees t.nodes p → look t.nodes (number_of p) ≡ content p
  agree (Now k n) h a = a.1 ∙ ap Some (same_node k a.0 n a.1 h a.2)
  agree (Gone k) h a = a

  same_look : (k : ℕ) → look (with_parts t.nodes qs) k ≡ at k
  same_look k = look_parts t.nodes qs k ∙ settled_look t.nodes ps qs ordered settled (all_imply (λ p h. agree p h) ps parts_say) k ∙ sym (look_parts t.nodes ps k)

  abbrev tree : Table
  tree = record { shape = t.shape; root = root; next = next; nodes = with_parts t.nodes qs }

  abbrev then : ℕ → Option Node
  then = look (with_parts t.nodes qs)

  then_is : at ≡ then
  then_is = λ i k. same_look_back k i
    where
      same_look_back : (k : ℕ) → at k ≡ look (with_parts t.nodes qs) k
      same_look_back k = sym (same_look k)

  s' : IsStage t e then root next level []
  s' = subst (λ (f : ℕ → Option Node). IsStage t e f root next level []) then_is s

  full' : IsRootSize t.shape level (length (body_at then level root))
  full' = subst (λ (f : ℕ → Option Node). IsRootSize t.shape level (length (body_at f level root))) then_is full

  abbrev body : Body level
  body = body_at then level root

  abbrev ns : List ℕ
  ns = numbers level root body

  plain' : all_numbers then root level [] ≡ ns
  plain' = append-nil ns

  distinct_ns : IsDistinct nat_eq ns
  distinct_ns = subst (IsDistinct nat_eq) plain' s'.distinct

  moved : IsPermutation (map (λ x. x.number) (entries_of t)) (e.number ∷ map (λ x. x.number) (entries level body))
  moved =
      permutation_from_sums (map (λ (x : Entry). x.number) (entries_of t)) (e.number ∷ map (λ (x : Entry). x.number) (entries level body))
      (λ f. omega (arith, sum_by-cons f e.number (map (λ (x : Entry). x.number) (entries level body)), sum_map f (λ (x : Entry). x.number) (entries_of t), sum_map f (λ (x : Entry). x.number) (entries level body), s'.entry_sums (λ x. f x.number)))

  valid : IsValidAt tree level
  valid =
      let same = sym (numbers_places level root whole body) in
      record {
        shape = v.shape;
        stands = s'.stands;
        whole_table = subst (IsPermutation (keys (with_parts t.nodes qs))) same
            (same_members (keys (with_parts t.nodes qs)) ns (keys_distinct (with_parts t.nodes qs) (rising_parts t.nodes qs rising)) distinct_ns (λ k. keys_look (with_parts t.nodes qs) k ∙ s'.exact k ∙ ap (λ (xs : List ℕ). is_among xs k) plain'));
        distinct = subst (IsDistinct nat_eq) same distinct_ns;
        below_next = subst (AllByRecursion (λ n. n < next)) same (subst (AllByRecursion (λ n. n < next)) plain' s'.low);
        root_size = full';
        sound = s'.sound;
        distinct_entries = IsDistinct-tail nat_eq e.number (map (λ x. x.number) (entries level body)) (IsDistinct-IsPermutation nat_eq nat_eq_equiv.symm (map (λ x. x.number) (entries_of t)) (e.number ∷ map (λ x. x.number) (entries level body)) moved v.distinct_entries);
        in_space = all_imply (λ f a. all_among (λ (x : Entry). IsRectangle x.rect) f (entries_of t) v.in_space a) (entries level body) s'.each;
      }

  pub level_then : level_of tree ≡ level
  level_then = level_is tree level valid

  same_entries : SameEntries (entries_of t) (entries level body)
  same_entries x f has_x has_f same = distinct_same (entries_of t) x f v.distinct_entries (among_from_contains (entries_of t) x has_x) (all_among (λ (g : Entry). Among g (entries_of t)) f (entries level body) s'.each (among_from_contains (entries level body) f has_f)) same

  pub made : IsMadeOf t (record { parts = qs; root = root; next = next })
  made = record {
    valid = valid_at tree level valid;
    next_kept = s.onward;
    no_return = λ k lt h. s'.old k (sym (s'.exact k) ∙ h) lt;
    same_entries = subst (λ (l : ℕ). SameEntries (entries_of t) (entries l (body_at then l root))) (sym level_then) same_entries;
    ordered = settled_ordered t.nodes ps qs settled ordered;
    differs = settled_differs t.nodes ps qs settled;
  }

  pub left : IsPermutation (map (λ x. x.number) (entries_of t)) (e.number ∷ map (λ x. x.number) (entries_of tree))
  left = subst (λ (l : ℕ). IsPermutation (map (λ x. x.number) (entries_of t)) (e.number ∷ map (λ x. x.number) (entries l (body_at then l root)))) (sym level_then) moved

  abbrev rest_numbers : List ℕ
  rest_numbers = map (λ x. x.number) (entries level body)

  apart : IsDistinct nat_eq (e.number ∷ rest_numbers)
  apart = IsDistinct-IsPermutation nat_eq nat_eq_equiv.symm (map (λ x. x.number) (entries_of t)) (e.number ∷ rest_numbers) moved v.distinct_entries

  -- the other entries, and no more, are there
  back : (f : Entry) → Among f (entries level body) → Among f (entries_of t) × (f.number ≢ e.number)
  back f i = (all_among (λ (g : Entry). Among g (entries_of t)) f (entries level body) s'.each i, other)
    where
      other : f.number ≡ e.number → ⊥
      other same = clash (is_among rest_numbers e.number) (ap (is_among rest_numbers) (sym same) ∙ numbered (entries level body) f i) (all_none rest_numbers e.number (IsDistinct-head nat_eq e.number rest_numbers apart))
        where
          clash : (b : Bool) → b ≡ true → b ≡ false → ⊥
          clash b x y = cc

  still : (f : Entry) → Among f (entries_of t) → f.number ≢ e.number → Among f (entries level body)
  still f i other =
      let told = sym (list_any-IsPermutation (nat_eq f.number) (map (λ x. x.number) (entries_of t)) (e.number ∷ rest_numbers) moved) ∙ numbered (entries_of t) f i in
      let later = sym (ap (λ (b : Bool). b || is_among rest_numbers f.number) (unequal_from f.number e.number other)) ∙ told in
      let g = named (entries level body) f.number later in
      let same = distinct_same (entries_of t) g.0 f v.distinct_entries (all_among (λ (x : Entry). Among x (entries_of t)) g.0 (entries level body) s'.each g.1) i g.2 in
      subst (λ (x : Entry). Among x (entries level body)) same g.1

  pub keeps : KeepsOthers t e.number tree
  keeps = record {
    valid = valid_at tree level valid;
    ascending = rising_parts t.nodes qs rising;
    onward = s.onward;
    few = omega (arith, s.few);
    back = subst (λ (l : ℕ). (f : Entry) → Among f (entries l (body_at then l root)) → Among f (entries_of t) × (f.number ≢ e.number)) (sym level_then) back;
    there = subst (λ (l : ℕ). (f : Entry) → Among f (entries_of t) → f.number ≢ e.number → Among f (entries l (body_at then l root))) (sym level_then) still;
  }

  pub body_then : body_at then level root ≡ body_at at level root
  body_then = ap (λ (f : ℕ → Option Node). body_at f level root) (sym then_is)

-- **what a removal's plan is**
pub record IsDone (t : Table) (number : ℕ) (plan : Plan) : Type 0 where
  pub made : IsMadeOf t plan
  pub removed : IsRemoved t number (planned t plan)
  pub keeps : KeepsOthers t number (planned t plan)
  pub left : IsPermutation (map (λ e. e.number) (entries_of t)) (number ∷ map (λ e. e.number) (entries_of (planned t plan)))

-- no orphan is left
pub ended : (e : Entry) (o : Overlay) (n : ℕ) (r : Ready e o [] n) → IsStage o.before e (at_of o) o.plan.root o.plan.next r.level [] × (r.orphans ≡ [])
ended e o n r = by_list r.orphans r.stage r.found
  where
    by_list : (os : List Orphan) → IsStage o.before e (at_of o) o.plan.root o.plan.next r.level os → AreFound (at_of o) r.top [] os → IsStage o.before e (at_of o) o.plan.root o.plan.next r.level [] × (os ≡ [])
    by_list [] s h = (s, refl)
    by_list (x ∷ os) s h = absurd h

plan_is : (plan : Plan) (ps : List Part) (root next : ℕ) → plan.root ≡ root → plan.next ≡ next → plan.parts ≡ ps → record { parts = ps; root = root; next = next } ≡ plan
plan_is plan ps root next a b c = λ i. record { parts = sym c i; root = sym a i; next = sym b i }

module _ (t : Table) (v : IsValid t) (rising : IsAscending t.nodes) (numbers_free : t.next < 2 ^ 63 + 2 ^ 32) (number : ℕ) (rest : Rest) (b : IsTaken t number (level_of t) t.root 0 rest) where
  abbrev pub start : Overlay
  start = begun t rest.parts rest.node

  pub ready_at : (o : Overlay) → o ≡ start → (e : Entry) × Ready e o rest.orphans.items 0
  ready_at o is = (b.entry, subst (λ (p : Overlay). Ready b.entry p rest.orphans.items 0) (sym is) (ready t v rising numbers_free number rest b))

  module _ (o : Overlay) (n : ℕ) (g : Goes b.entry start o rest.orphans.items [] 0 n (ready t v rising numbers_free number rest b)) where
    abbrev pub stage_at : (e : Entry) × (level : ℕ) × IsStage o.before e (at_of o) o.plan.root o.plan.next level []
    stage_at = (b.entry, g.then.level, (ended b.entry o n g.then).0)

    module _ (o' : Overlay) (d : IsEnd b.entry o g.then.level o') (plan : Plan) (out : IsOutcome t.nodes o' plan) where
      before_is : o'.before ≡ t
      before_is = d.same ∙ g.same

      abbrev at_end : ℕ → Option Node
      at_end = look (with_parts t.nodes o'.plan.parts)

      at_is : at_of o' ≡ at_end
      at_is = ap (λ (u : Table). look (with_parts u.nodes o'.plan.parts)) before_is

      stage_end : IsStage t b.entry at_end o'.plan.root o'.plan.next d.low []
      stage_end = subst (λ (u : Table). IsStage u b.entry at_end o'.plan.root o'.plan.next d.low []) g.same (subst (λ (f : ℕ → Option Node). IsStage o.before b.entry f o'.plan.root o'.plan.next d.low []) at_is d.stage)

      full_end : IsRootSize t.shape d.low (length (body_at at_end d.low o'.plan.root))
      full_end = subst (λ (u : Table). IsRootSize u.shape d.low (length (body_at at_end d.low o'.plan.root))) g.same (subst (λ (f : ℕ → Option Node). IsRootSize o.before.shape d.low (length (body_at f d.low o'.plan.root))) at_is d.full)

      abbrev kept : Plan
      kept = record { parts = plan.parts; root = o'.plan.root; next = o'.plan.next }

      made_end : IsMadeOf t kept
      made_end = made t v rising b.entry o'.plan.parts plan.parts o'.plan.root o'.plan.next d.low out.3 out.2 stage_end full_end

      nest_end : nest d.low o'.plan.root o'.plan.next (body_at (look (with_parts t.nodes plan.parts)) d.low o'.plan.root) ≡ collapsed g.then.level o.plan.root o.plan.next (body_at (at_of o) g.then.level o.plan.root)
      nest_end =
          ap (nest d.low o'.plan.root o'.plan.next) (body_then t v rising b.entry o'.plan.parts plan.parts o'.plan.root o'.plan.next d.low out.3 out.2 stage_end full_end ∙ ap (λ (f : ℕ → Option Node). body_at f d.low o'.plan.root) (sym at_is)) ∙ d.is

      inserts_end : Inserts t.shape b.orphans (nest (level_of t) t.root t.next b.left) (nest_of o g.then.level)
      inserts_end = subst (λ (m : Body (level_of t)). Inserts t.shape b.orphans (nest (level_of t) t.root t.next m) (nest_of o g.then.level)) (left_is t v rising numbers_free number rest b)
          (g.onward (nest_of o g.then.level) (subst (λ (os : List Orphan). Inserts t.shape os (nest_of o g.then.level) (nest_of o g.then.level)) (sym (ended b.entry o n g.then).1) refl))

      removed_end : IsRemovedFrom t b.entry (planned t kept)
      removed_end = record {
        rest = b.left;
        orphans = b.orphans;
        removes = b.removes;
        full = nest_of o g.then.level;
        inserts = inserts_end;
        is = subst (IsNest (planned t kept)) nest_end (record { root = refl; next = refl; level = level_then t v rising b.entry o'.plan.parts plan.parts o'.plan.root o'.plan.next d.low out.3 out.2 stage_end full_end; body = refl });
        shape = refl;
      }

      left_end : IsPermutation (map (λ e. e.number) (entries_of t)) (number ∷ map (λ e. e.number) (entries_of (planned t kept)))
      left_end = subst (λ (k : ℕ). IsPermutation (map (λ e. e.number) (entries_of t)) (k ∷ map (λ e. e.number) (entries_of (planned t kept)))) b.named (left t v rising b.entry o'.plan.parts plan.parts o'.plan.root o'.plan.next d.low out.3 out.2 stage_end full_end)

      keeps_end : KeepsOthers t number (planned t kept)
      keeps_end = subst (λ (k : ℕ). KeepsOthers t k (planned t kept)) b.named (keeps t v rising b.entry o'.plan.parts plan.parts o'.plan.root o'.plan.next d.low out.3 out.2 stage_end full_end)

      pub finished : IsDone t number plan
      finished = subst (IsDone t number) (plan_is plan plan.parts o'.plan.root o'.plan.next out.0 out.1 refl) (record { made = made_end; removed = record { entry = b.entry; named = b.named; removed = removed_end }; keeps = keeps_end; left = left_end })

  pub goes_at : (o1 o : Overlay) (fs : List Found) → o1 ≡ start → fs ≡ rest.orphans.items → ((e : Entry) (r : Ready e o1 fs 0) → (n : ℕ) × Goes e o1 o fs [] 0 n r) → (n : ℕ) × Goes b.entry start o rest.orphans.items [] 0 n (ready t v rising numbers_free number rest b)
  goes_at o1 o fs is same h =
      let first = subst (λ (p : Overlay). (e : Entry) (r : Ready e p fs 0) → (n : ℕ) × Goes e p o fs [] 0 n r) is h in
      let second = subst (λ (gs : List Found). (e : Entry) (r : Ready e start gs 0) → (n : ℕ) × Goes e start o gs [] 0 n r) same first in
      second b.entry (ready t v rising numbers_free number rest b)
