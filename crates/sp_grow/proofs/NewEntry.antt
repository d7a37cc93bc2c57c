-- Where the new entry stands: in the leaf that is chosen, or that leaf gives an entry away.
use Rattle.std.proofs.Common.{◌≡◌, ℕ, zero, suc, ◌+◌, ◌*◌, ◌<◌, ◌≤◌, ◌⊎◌, inl, inr, Bool, true, false, ◌||◌, List, [], ◌∷◌, ◌++◌, length, slice_get, Some, refl, sym, ap, ◌∙◌, subst, arith}
use Rattle.std.specs.Prelude.{nat_eq}
use Rattle.std.specs.List.{AllByRecursion, IsDistinct}
use Rattle.std.proofs.lemmas.Int.{ints}
use Rattle.std.proofs.lemmas.List.{length-append, length-map}
use Rattle.std.proofs.lemmas.List.Folds.{list_any-append}
use Rattle.std.proofs.lemmas.Map.Keys.{IsDistinct-head}
use Rattle.sp_rect.specs.Plane.{Rectangle}
use Rattle.sp_node.specs.declared.node.Entry.{Entry}
use Rattle.sp_node.specs.declared.node.Shape.{Shape}
use Rattle.sp_node.specs.Among.{Among}
use Rattle.sp_node.specs.Nested.{Body, Branch, rects, rect_of}
use Rattle.sp_node.specs.Look.{look}
use Rattle.sp_node.specs.Table.{Table, body_at, level_of, IsShape}
use Rattle.sp_node.proofs.Among.{among_right}
use Rattle.sp_node.proofs.Lists.{all_unmap}
use Rattle.sp_node.proofs.Update.{distinct_back}
use Rattle.sp_split.specs.Split.{is_among}
use Rattle.sp_split.proofs.Members.{self_equal, equal_from, or_left, or_true}
use Rattle.std.proofs.lemmas.Bool.{cases_lt}
use Rattle.sp_split.proofs.Positions.{split_positions}
use Rattle.sp_split.proofs.Sizes.{sizes}
use Rattle.sp_grow.specs.Members.{pick}
use Rattle.sp_grow.specs.Chosen.{IsBetter, IsAsGood, Reaches, ReachesOf}
use Rattle.sp_grow.specs.Insertion.{Outcome, one, two, with_outcome, Settles, Grows, here, below}
use Rattle.sp_grow.specs.Grown.{IsGrown}
use Rattle.sp_grow.specs.Moves.{InLeaf, InLeafOf, Leaves}
use Rattle.sp_grow.proofs.Numbers.{all_back}
use Rattle.sp_grow.proofs.Moves.{InOutcome, settles_above, in_with, in_tree, picked}

-- no rectangle is better than one that is as good
not_both : (q a b : Rectangle) → IsBetter q a b → IsAsGood q b a → ⊥
not_both q a b (inl x) (inl y) = omega (arith, ints)
not_both q a b (inl x) (inr y) = let z = y.0 in omega (arith, ints)
not_both q a b (inr x) (inl y) = let z = x.0 in omega (arith, ints)
not_both q a b (inr x) (inr y) = let z = x.1 in let w = y.1 in omega (arith, ints)

-- one child is chosen
module _ {B : Type 0} (q : Rectangle) where
  abbrev rect_in : Branch B → Rectangle
  rect_in b = b.rect

  pub one_choice :
      (front : List (Branch B)) (b : Branch B) (back front' : List (Branch B)) (b' : Branch B) (back' : List (Branch B)) → front ++ b ∷ back ≡ front' ++ b' ∷ back' → AllByRecursion (λ a. IsBetter q b.rect a.rect) front → AllByRecursion (λ a. IsAsGood q b.rect a.rect) back
      → AllByRecursion (λ a. IsBetter q b'.rect a.rect) front' → AllByRecursion (λ a. IsAsGood q b'.rect a.rect) back' → b ≡ b'
  one_choice [] b back [] b' back' e f g f' g' = cc
  one_choice [] b back (x ∷ front') b' back' e f g f' g' =
      let first : b ≡ x = cc in
      let rest : back ≡ front' ++ b' ∷ back' = cc in
      let good = all_back (λ a. IsAsGood q b.rect a.rect) front' (b' ∷ back') (subst (AllByRecursion (λ a. IsAsGood q b.rect a.rect)) rest g) in
      absurd (not_both q b'.rect b.rect (subst (λ (y : Branch B). IsBetter q b'.rect y.rect) (sym first) f'.0) good.0)
  one_choice (x ∷ front) b back [] b' back' e f g f' g' =
      let first : x ≡ b' = cc in
      let rest : front ++ b ∷ back ≡ back' = cc in
      let good = all_back (λ a. IsAsGood q b'.rect a.rect) front (b ∷ back) (subst (AllByRecursion (λ a. IsAsGood q b'.rect a.rect)) (sym rest) g') in
      absurd (not_both q b.rect b'.rect (subst (λ (y : Branch B). IsBetter q b.rect y.rect) first f.0) good.0)
  one_choice (x ∷ front) b back (y ∷ front') b' back' e f g f' g' = one_choice front b back front' b' back' (let r : front ++ b ∷ back ≡ front' ++ b' ∷ back' = cc in r) f.1 g f'.1 g'

-- an old member of the second group
module _ {X : Type 0} where
  at_front : (xs ys : List X) (i : ℕ) → i < length xs → (x : X) × Among x xs × (slice_get (xs ++ ys) i ≡ Some x)
  at_front [] ys i lt = absurd (omega arith)
  at_front (x ∷ xs) ys zero lt = (x, inl refl, refl)
  at_front (x ∷ xs) ys (suc i) lt = let r = at_front xs ys i (omega arith) in (r.0, inr r.1, r.2)

  old_of : (xs : List X) (y : X) (is : List ℕ) (i : ℕ) → is_among is i ≡ true → i < length xs → (x : X) × Among x xs × Among x (pick (xs ++ y ∷ []) is)
  old_of xs y is i m lt = let r = at_front xs (y ∷ []) i lt in (r.0, r.1, picked r.0 (xs ++ y ∷ []) is i r.2 m)

-- two distinct positions, of which one is not the last
low_one : (n : ℕ) (is : List ℕ) → IsDistinct nat_eq is → ((q : ℕ) → is_among is q ≡ true → q < n + 1) → 2 ≤ length is → (i : ℕ) × (is_among is i ≡ true) × (i < n)
low_one n [] d within many = absurd (omega arith)
low_one n (i ∷ []) d within many = absurd (omega arith)
low_one n (i ∷ j ∷ is) d within many = by_test (nat_eq i n) refl
  where
    first : is_among (i ∷ j ∷ is) i ≡ true
    first = or_left (nat_eq i i) (is_among (j ∷ is) i) (self_equal i)

    second : is_among (i ∷ j ∷ is) j ≡ true
    second = ap (λ (b : Bool). nat_eq j i || b) (or_left (nat_eq j j) (is_among is j) (self_equal j)) ∙ or_true (nat_eq j i)

    apart : (a b : ℕ) → nat_eq a b ≡ false → a ≡ b → ⊥
    apart a b e s = let z = ap (nat_eq a) (sym s) ∙ self_equal a in cc

    same : (a b : ℕ) → nat_eq a b ≡ true → a ≡ b
    same a b e = equal_from a b e

    by_test : (b : Bool) → nat_eq i n ≡ b → (k : ℕ) × (is_among (i ∷ j ∷ is) k ≡ true) × (k < n)
    by_test true e =
        let is_n : i ≡ n = same i n e in
        let other = (IsDistinct-head nat_eq i (j ∷ is) d).0 in
        let lt = within j second in
        (j, second, below j is_n other lt)
      where
        below : (j : ℕ) → i ≡ n → nat_eq i j ≡ false → j < n + 1 → j < n
        below j s o lt = by_order (cases_lt j n)
          where
            by_order : (j < n) ⊎ (n ≤ j) → j < n
            by_order (inl x) = x
            by_order (inr x) = let z : i ≡ j = omega arith in absurd (apart i j o z)
    by_test false e = let lt = within i first in (i, first, below lt)
      where
        below : i < n + 1 → i < n
        below lt = by_order (cases_lt i n)
          where
            by_order : (i < n) ⊎ (n ≤ i) → i < n
            by_order (inl x) = x
            by_order (inr x) = let z : i ≡ n = omega arith in absurd (apart i n e z)

module _ (shape : Shape) (v : IsShape shape) where
  -- an old entry of the leaf goes to a new leaf
  abbrev Gives : (level number next : ℕ) → Body level → Outcome (Body level) → ℕ → Type 0
  Gives level number next body outcome leaf = (f : Entry) × InLeaf level number body f leaf × ((leaf' : ℕ) × InOutcome level outcome f leaf' × (next ≤ leaf'))

  new_leaf : (number next : ℕ) (es : List Entry) (e : Entry) (outcome : Outcome (Body 0)) (next' : ℕ) → Settles shape 0 number next (es ++ e ∷ []) outcome next' → InOutcome 0 outcome e number ⊎ Gives 0 number next es outcome number
  new_leaf number next es e (one a) next' s = inl (sym s.1.named, subst (Among e) (sym s.1.has) (among_right e es (e ∷ []) (inl refl)))
  new_leaf number next es e (two a b) next' s =
      let least : 2 ≤ shape.min = v.least in
      let half : 2 * shape.min ≤ shape.max = v.half in
      let size = length-map (es ++ e ∷ []) (rect_of 0) in
      let rs = rects 0 (es ++ e ∷ []) in
      let p = split_positions rs shape.min s.0 s.1 s.3 in
      let z = sizes rs shape.min (omega arith) (omega (arith, size, s.2)) s.0 s.1 s.3 in
      let l = low_one (length es) s.1 (distinct_back s.0 s.1 p.distinct) (λ q m. let lt = p.within q (list_any-append (nat_eq q) s.0 s.1 ∙ ap (λ (c : Bool). is_among s.0 q || c) m ∙ or_true (is_among s.0 q)) in omega (arith, size, length-append es (e ∷ []))) (omega (arith, z.1)) in
      let r = old_of es e s.1 l.0 l.1 l.2 in
      inr (r.0, (refl, r.1), (next, inr (sym s.5.named, subst (Among r.0) (sym s.5.has) r.2), omega arith))

  pub grows_new :
      (e : Entry) (level number next : ℕ) (body : Body level) (outcome : Outcome (Body level)) (next' : ℕ) → Grows shape 0 e level number next body outcome next' → (leaf : ℕ) → Reaches level number body e.rect leaf → InOutcome level outcome e leaf ⊎ Gives level number next body outcome leaf
  grows_new e level number next es outcome next' (here s) leaf r = subst (λ (l : ℕ). InOutcome 0 outcome e l ⊎ Gives 0 number next es outcome l) (sym r) (new_leaf number next es e outcome next' s)
  grows_new e (suc level) number next branches outcome next' (below front b back under mid is chosen g s) leaf r =
      let same : r.1 ≡ b =
      one_choice e.rect r.0 r.1 r.2 front b back (sym r.3 ∙ is) (all_unmap (λ a. IsBetter e.rect r.1.rect a) (rect_of (suc level)) r.0 r.4.0) (all_unmap (λ a. IsAsGood e.rect r.1.rect a) (rect_of (suc level)) r.2 r.4.1)
      (all_unmap (λ a. IsBetter e.rect b.rect a) (rect_of (suc level)) front chosen.0) (all_unmap (λ a. IsAsGood e.rect b.rect a) (rect_of (suc level)) back chosen.1) in
      by_case (grows_new e level b.number next b.body under mid g leaf (subst (λ (c : Branch (Body level)). Reaches level c.number c.body e.rect leaf) same r.5))
    where
      lift : (f : Entry) (leaf' : ℕ) → InOutcome level under f leaf' → InOutcome (suc level) outcome f leaf'
      lift f leaf' x = settles_above shape v level number mid (with_outcome front under back) outcome next' s f leaf' (in_with shape v level number front back under f leaf' x)

      within : Among b branches
      within = subst (Among b) (sym is) (among_right b front (b ∷ back) (inl refl))

      by_case : InOutcome level under e leaf ⊎ Gives level b.number next b.body under leaf → InOutcome (suc level) outcome e leaf ⊎ Gives (suc level) number next branches outcome leaf
      by_case (inl x) = inl (lift e leaf x)
      by_case (inr x) = inr (x.0, (b, within, x.1), (x.2.0, lift x.0 x.2.0 x.2.1, x.2.2))

-- **After an insertion the new entry stands in the chosen leaf, or that leaf gives an entry away.**
pub new_entry : (t : Table) (e : Entry) (t' : Table) (g : IsGrown t e t') → IsShape t.shape → (leaf : ℕ) → ReachesOf t e.rect leaf → InLeafOf t' e leaf ⊎ ((f : Entry) × Leaves t t' f leaf)
new_entry t e t' g v leaf r = by_case (grows_new t.shape v e (level_of t) t.root t.next (body_at (look t.nodes) (level_of t) t.root) g.outcome g.next g.grows leaf r)
  where
    by_case : InOutcome (level_of t) g.outcome e leaf ⊎ Gives t.shape v (level_of t) t.root t.next (body_at (look t.nodes) (level_of t) t.root) g.outcome leaf → InLeafOf t' e leaf ⊎ ((f : Entry) × Leaves t t' f leaf)
    by_case (inl x) = inl (in_tree t e t' g (level_of t) g.outcome g.next g.root e leaf x)
    by_case (inr x) = inr (x.0, record { was = x.1; other = x.2.0; is = in_tree t e t' g (level_of t) g.outcome g.next g.root x.0 x.2.0 x.2.1; new = x.2.2 })
