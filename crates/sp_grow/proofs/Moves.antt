-- Where entries stand after an insertion.
use Rattle.std.proofs.Common.{◌≡◌, ℕ, suc, ◌*◌, ◌<◌, ◌≤◌, ◌⊎◌, inl, inr, Bool, true, false, ◌||◌, List, [], ◌∷◌, ◌++◌, length, slice_get, Option, Some, refl, sym, ap, ◌∙◌, subst, arith}
use Rattle.std.specs.Prelude.{nat_eq}
use Rattle.std.specs.Option.{option_to_list}
use Rattle.std.proofs.lemmas.List.{length-append, length-map}
use Rattle.std.proofs.lemmas.List.Folds.{list_any-append}
use Rattle.sp_rect.specs.Plane.{Rectangle}
use Rattle.sp_node.specs.declared.node.Entry.{Entry}
use Rattle.sp_node.specs.declared.node.Shape.{Shape}
use Rattle.sp_node.specs.Among.{Among}
use Rattle.sp_node.specs.Nested.{Body, Branch, rects, rect_of}
use Rattle.sp_node.specs.Look.{look}
use Rattle.sp_node.specs.Table.{Table, body_at, level_of, IsShape}
use Rattle.sp_node.proofs.Among.{among_left, among_right}
use Rattle.sp_split.specs.Split.{Splits, is_among}
use Rattle.sp_split.proofs.Members.{all_below, equal_from}
use Rattle.sp_split.proofs.Positions.{split_positions}
use Rattle.sp_split.proofs.Sizes.{sizes}
use Rattle.sp_grow.specs.Members.{pick}
use Rattle.sp_grow.specs.Insertion.{Outcome, one, two, with_outcome, Settles, Grows, here, below}
use Rattle.sp_grow.specs.Grown.{IsGrown, IsRoot}
use Rattle.sp_grow.specs.Moves.{InLeaf, InLeafOf}

-- a member by its position, and among those picked
module _ {X : Type 0} where
  position_of : (x : X) (xs : List X) → Among x xs → (i : ℕ) × (i < length xs) × (slice_get xs i ≡ Some x)
  position_of x [] a = absurd a
  position_of x (y ∷ xs) (inl e) = (0, omega arith, ap (λ (z : X). Some z) (sym e))
  position_of x (y ∷ xs) (inr a) = let p = position_of x xs a in (suc p.0, omega (arith, p.1), p.2)

  pub picked : (x : X) (xs : List X) (is : List ℕ) (i : ℕ) → slice_get xs i ≡ Some x → is_among is i ≡ true → Among x (pick xs is)
  picked x xs [] i at m = cc
  picked x xs (j ∷ is) i at m = by_test (nat_eq i j) refl m (picked x xs is i at)
    where
      here : i ≡ j → Among x (option_to_list (slice_get xs j))
      here e = subst (λ (o : Option X). Among x (option_to_list o)) (sym (ap (slice_get xs) (sym e) ∙ at)) (inl refl)

      by_test : (b : Bool) → nat_eq i j ≡ b → (b || is_among is i) ≡ true → (is_among is i ≡ true → Among x (pick xs is)) → Among x (option_to_list (slice_get xs j) ++ pick xs is)
      by_test true e m more = among_left x (option_to_list (slice_get xs j)) (pick xs is) (here (equal_from i j e))
      by_test false e m more = among_right x (option_to_list (slice_get xs j)) (pick xs is) (more m)

  -- each member goes to one group of a split
  in_group : (min : ℕ) (rs : List Rectangle) (x : X) (xs : List X) (first second : List ℕ) → length rs ≡ length xs → 1 ≤ min → 2 * min ≤ length rs → Splits rs min first second → Among x xs → Among x (pick xs first) ⊎ Among x (pick xs second)
  in_group min rs x xs first second size least enough s a =
      let p = position_of x xs a in
      let q = split_positions rs min first second s in
      let z = sizes rs min least enough first second s in
      let lt : p.0 < length rs = omega (arith, p.1, size) in
      let there = all_below (length rs) (first ++ second) q.distinct q.within (length-append first second ∙ z.2) p.0 lt in
      by_case p.0 p.2 (is_among first p.0) (is_among second p.0) refl refl (sym (list_any-append (nat_eq p.0) first second) ∙ there)
    where
      by_case : (i : ℕ) → slice_get xs i ≡ Some x → (a b : Bool) → is_among first i ≡ a → is_among second i ≡ b → (a || b) ≡ true → Among x (pick xs first) ⊎ Among x (pick xs second)
      by_case i at true b e d m = inl (picked x xs first i at e)
      by_case i at false true e d m = inr (picked x xs second i at d)
      by_case i at false false e d m = cc

  among_parts : (x : X) (xs ys : List X) → Among x (xs ++ ys) → Among x xs ⊎ Among x ys
  among_parts x [] ys a = inr a
  among_parts x (z ∷ xs) ys (inl e) = inl (inl e)
  among_parts x (z ∷ xs) ys (inr a) = elim (among_parts x xs ys a) [ inl h ↦ inl (inr h) | inr h ↦ inr h ]

-- the leaf of this number, in what is left, has the entry
abbrev pub InOutcome : (level : ℕ) → Outcome (Body level) → Entry → ℕ → Type 0
InOutcome level (one a) f leaf = InLeaf level a.number a.body f leaf
InOutcome level (two a b) f leaf = InLeaf level a.number a.body f leaf ⊎ InLeaf level b.number b.body f leaf

module _ (shape : Shape) (v : IsShape shape) where
  grouped : {X : Type 0} (rs : List Rectangle) (x : X) (xs : List X) (first second : List ℕ) → length rs ≡ length xs → shape.max < length xs → Splits rs shape.min first second → Among x xs → Among x (pick xs first) ⊎ Among x (pick xs second)
  grouped rs x xs first second size more s a =
      let least : 2 ≤ shape.min = v.least in
      let half : 2 * shape.min ≤ shape.max = v.half in
      in_group shape.min rs x xs first second size (omega arith) (omega arith) s a

  -- a node above leaves moves no entry from leaf to leaf
  pub settles_above : (level number next : ℕ) (members : Body (suc level)) (outcome : Outcome (Body (suc level))) (next' : ℕ) → Settles shape (suc level) number next members outcome next' → (f : Entry) (leaf : ℕ) → InLeaf (suc level) number members f leaf → InOutcome (suc level) outcome f leaf
  settles_above level number next members (one a) next' s f leaf h = (h.0, subst (Among h.0) (sym s.1.has) h.1, h.2)
  settles_above level number next members (two a b) next' s f leaf h =
      elim (grouped (rects (suc level) members) h.0 members s.0 s.1 (length-map members (rect_of (suc level))) s.2 s.3 h.1) [
        | inl m ↦ inl (h.0, subst (Among h.0) (sym s.4.has) m, h.2)
        | inr m ↦ inr (h.0, subst (Among h.0) (sym s.5.has) m, h.2)
      ]

  -- a leaf that is split gives entries to the new one
  pub settles_leaf : (number next : ℕ) (members : List Entry) (outcome : Outcome (Body 0)) (next' : ℕ) → Settles shape 0 number next members outcome next' → (f : Entry) → Among f members → InOutcome 0 outcome f number ⊎ InOutcome 0 outcome f next
  settles_leaf number next members (one a) next' s f h = inl (sym s.1.named, subst (Among f) (sym s.1.has) h)
  settles_leaf number next members (two a b) next' s f h =
      elim (grouped (rects 0 members) f members s.0 s.1 (length-map members (rect_of 0)) s.2 s.3 h) [
        | inl m ↦ inl (inl (sym s.4.named, subst (Among f) (sym s.4.has) m))
        | inr m ↦ inr (inr (sym s.5.named, subst (Among f) (sym s.5.has) m))
      ]

  -- what is left of the child is in the list
  pub in_with : (level number : ℕ) (front back : List (Branch (Body level))) (below : Outcome (Body level)) (f : Entry) (leaf : ℕ) → InOutcome level below f leaf → InLeaf (suc level) number (with_outcome front below back) f leaf
  in_with level number front back (one a) f leaf h = (a, among_right a front (a ∷ back) (inl refl), h)
  in_with level number front back (two a b) f leaf (inl h) = (a, among_right a front (a ∷ (back ++ b ∷ [])) (inl refl), h)
  in_with level number front back (two a b) f leaf (inr h) = (b, among_right b front (a ∷ (back ++ b ∷ [])) (inr (among_right b back (b ∷ []) (inl refl))), h)

  sibling_with : {B : Type 0} (front back : List (Branch B)) (below : Outcome B) (x : Branch B) → Among x front ⊎ Among x back → Among x (with_outcome front below back)
  sibling_with front back (one a) x (inl h) = among_left x front (a ∷ back) h
  sibling_with front back (one a) x (inr h) = among_right x front (a ∷ back) (inr h)
  sibling_with front back (two a b) x (inl h) = among_left x front (a ∷ (back ++ b ∷ [])) h
  sibling_with front back (two a b) x (inr h) = among_right x front (a ∷ (back ++ b ∷ [])) (inr (among_left x back (b ∷ []) h))

  -- **an old entry stays in its leaf or goes to a new one**
  pub grows_old :
      (e : Entry) (level number next : ℕ) (body : Body level) (outcome : Outcome (Body level)) (next' : ℕ) → Grows shape 0 e level number next body outcome next' → (f : Entry) (leaf : ℕ) → InLeaf level number body f leaf
      → (leaf' : ℕ) × InOutcome level outcome f leaf' × ((leaf' ≡ leaf) ⊎ (next ≤ leaf'))
  grows_old e level number next es outcome next' (here s) f leaf h =
      elim (settles_leaf number next (es ++ e ∷ []) outcome next' s f (among_left f es (e ∷ []) h.1)) [
        | inl m ↦ (number, m, inl (sym h.0))
        | inr m ↦ (next, m, inr (omega arith))
      ]
  grows_old e (suc level) number next branches outcome next' (below front b back under mid is chosen g s) f leaf h = by_place (among_parts h.0 front (b ∷ back) (subst (Among h.0) is h.1)) (λ x. grows_old e level b.number next b.body under mid g f leaf x)
    where
      lift : (leaf' : ℕ) → InLeaf (suc level) number (with_outcome front under back) f leaf' → InOutcome (suc level) outcome f leaf'
      lift leaf' x = settles_above level number mid (with_outcome front under back) outcome next' s f leaf' x

      by_place : Among h.0 front ⊎ Among h.0 (b ∷ back) → (InLeaf level b.number b.body f leaf → (leaf' : ℕ) × InOutcome level under f leaf' × ((leaf' ≡ leaf) ⊎ (next ≤ leaf'))) → (leaf' : ℕ) × InOutcome (suc level) outcome f leaf' × ((leaf' ≡ leaf) ⊎ (next ≤ leaf'))
      by_place (inl m) rec = (leaf, lift leaf (h.0, sibling_with front back under h.0 (inl m), h.2), inl refl)
      by_place (inr (inl same)) rec = let r = rec (subst (λ (c : Branch (Body level)). InLeaf level c.number c.body f leaf) same h.2) in (r.0, lift r.0 (in_with level number front back under f r.0 r.1), r.2)
      by_place (inr (inr m)) rec = (leaf, lift leaf (h.0, sibling_with front back under h.0 (inr m), h.2), inl refl)

-- in the tree after it
module _ (t : Table) (e : Entry) (t' : Table) (g : IsGrown t e t') where
  pub in_tree : (level : ℕ) (outcome : Outcome (Body level)) (next : ℕ) → IsRoot level outcome next t' → (f : Entry) (leaf : ℕ) → InOutcome level outcome f leaf → InLeafOf t' f leaf
  in_tree level (one a) next r f leaf h =
      subst (λ (l : ℕ). InLeaf l t'.root (body_at (look t'.nodes) l t'.root) f leaf) (sym r.2) (subst (λ (b : Body level). InLeaf level t'.root b f leaf) (sym r.3) (subst (λ (n : ℕ). InLeaf level n a.body f leaf) (sym r.0) h))
  in_tree level (two a b) next r f leaf h =
      subst (λ (l : ℕ). InLeaf l t'.root (body_at (look t'.nodes) l t'.root) f leaf) (sym r.2) (subst (λ (bs : Body (suc level)). InLeaf (suc level) t'.root bs f leaf) (sym r.3) (half h))
    where
      half : InLeaf level a.number a.body f leaf ⊎ InLeaf level b.number b.body f leaf → InLeaf (suc level) t'.root (a ∷ b ∷ []) f leaf
      half (inl x) = (a, inl refl, x)
      half (inr x) = (b, inr (inl refl), x)

  -- **After an insertion each old entry stands in its leaf or in a new one.**
  pub old_entry : IsShape t.shape → (f : Entry) (leaf : ℕ) → InLeafOf t f leaf → (leaf' : ℕ) × InLeafOf t' f leaf' × ((leaf' ≡ leaf) ⊎ (t.next ≤ leaf'))
  old_entry v f leaf h =
      let r = grows_old t.shape v e (level_of t) t.root t.next (body_at (look t.nodes) (level_of t) t.root) g.outcome g.next g.grows f leaf h in
      (r.0, in_tree (level_of t) g.outcome g.next g.root f r.0 r.1, r.2)
