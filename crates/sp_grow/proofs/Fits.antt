-- An insertion keeps a tree sound.
use Rattle.std.proofs.Common.{◌≡◌, ℕ, zero, suc, ◌+◌, ◌*◌, ◌≤◌, List, [], ◌∷◌, ◌++◌, length, Some, sym, ap, subst, arith}
use Rattle.std.specs.List.{AllByRecursion}
use Rattle.std.proofs.lemmas.List.{length-append, length-map}
use Rattle.sp_rect.specs.Inside.{bound_of}
use Rattle.sp_node.specs.declared.node.Shape.{Shape}
use Rattle.sp_node.specs.Nested.{Member, Body, Branch, rects, rect_of, AreSound}
use Rattle.sp_node.specs.Table.{IsShape}
use Rattle.sp_node.proofs.Lists.{all_append}
use Rattle.sp_grow.specs.Members.{pick}
use Rattle.sp_grow.specs.Insertion.{Outcome, one, two, with_outcome, IsNode, Settles, Grows, here, below}
use Rattle.sp_grow.proofs.Numbers.{all_front, all_back}
use Rattle.sp_grow.proofs.Counting.{all_pick}
use Rattle.sp_grow.proofs.Divides.{grouped}

module _ (shape : Shape) (v : IsShape shape) where
  -- what a child of a sound node is
  abbrev pub IsChild : (level : ℕ) → Branch (Body level) → Type 0
  IsChild level b = (bound_of (rects level b.body) ≡ Some b.rect) × (shape.min ≤ length b.body) × (length b.body ≤ shape.max) × AreSound shape level b.body

  -- what is left of a node whose list had at least so many members
  abbrev pub Fits : (level size : ℕ) → Outcome (Body level) → Type 0
  Fits level size (one a) = (bound_of (rects level a.body) ≡ Some a.rect) × (size ≤ length a.body) × (length a.body ≤ shape.max) × AreSound shape level a.body
  Fits level size (two a b) = IsChild level a × IsChild level b

  less : (level m n : ℕ) (outcome : Outcome (Body level)) → m ≤ n → Fits level n outcome → Fits level m outcome
  less level m n (one a) le f = (f.0, omega (arith, f.1), f.2, f.3)
  less level m n (two a b) le f = f

  abbrev EachChild : (level : ℕ) → Outcome (Body level) → Type 0
  EachChild level (one a) = IsChild level a
  EachChild level (two a b) = IsChild level a × IsChild level b

  each_child : (level size : ℕ) (outcome : Outcome (Body level)) → shape.min ≤ size → Fits level size outcome → EachChild level outcome
  each_child level size (one a) le f = (f.0, omega (arith, f.1), f.2, f.3)
  each_child level size (two a b) le f = f

  sound_group : (level : ℕ) (members : Body level) (is : List ℕ) → AreSound shape level members → AreSound shape level (pick members is)
  sound_group zero members is h = tt
  sound_group (suc level) members is h = all_pick (IsChild level) members is h

  group_child : (level number : ℕ) (b : Branch (Body level)) (members : Body level) → IsNode level b number members → shape.min ≤ length members → length members ≤ shape.max → AreSound shape level members → IsChild level b
  group_child level number b members n low high sound =
      let has : members ≡ b.body = sym n.has in
      (n.bounds, subst (λ (m : Body level). shape.min ≤ length m) has low, subst (λ (m : Body level). length m ≤ shape.max) has high, subst (AreSound shape level) has sound)

  settles_fits : (level number next : ℕ) (members : Body level) (outcome : Outcome (Body level)) (next' : ℕ) → Settles shape level number next members outcome next' → AreSound shape level members → length members ≤ shape.max + 1 → Fits level (length members) outcome
  settles_fits level number next members (one a) next' s sound most =
      let has : members ≡ a.body = sym s.1.has in
      (s.1.bounds, subst (λ (m : Body level). length members ≤ length m) has (omega arith), subst (λ (m : Body level). length m ≤ shape.max) has s.0, subst (AreSound shape level) has sound)
  settles_fits level number next members (two a b) next' s sound most =
      let least : 2 ≤ shape.min = v.least in
      let half : 2 * shape.min ≤ shape.max = v.half in
      let size : length (rects level members) ≡ length members = length-map members (rect_of level) in
      let g = grouped shape.min (rects level members) members s.0 s.1 size (omega arith) (omega (arith, size, s.2)) s.3 in
      (group_child level number a (pick members s.0) s.4 g.low (omega (arith, g.all, g.low', s.2)) (sound_group level members s.0 sound), group_child level next b (pick members s.1) s.5 g.low' (omega (arith, g.all, g.low, s.2)) (sound_group level members s.1 sound))

  with_sound : (level : ℕ) (front back : List (Branch (Body level))) (below : Outcome (Body level)) → AllByRecursion (IsChild level) front → AllByRecursion (IsChild level) back → EachChild level below → AllByRecursion (IsChild level) (with_outcome front below back)
  with_sound level front back (one a) f k h = all_append (IsChild level) front (a ∷ back) f (h, k)
  with_sound level front back (two a b) f k h = all_append (IsChild level) front (a ∷ (back ++ b ∷ [])) f (h.0, all_append (IsChild level) back (b ∷ []) k (h.1, tt))

  pub length_with : {B : Type 0} (front back : List (Branch B)) (c : Branch B) (below : Outcome B) → (length (front ++ c ∷ back) ≤ length (with_outcome front below back)) × (length (with_outcome front below back) ≤ length (front ++ c ∷ back) + 1)
  length_with front back c (one a) = (omega (arith, length-append front (a ∷ back), length-append front (c ∷ back)), omega (arith, length-append front (a ∷ back), length-append front (c ∷ back)))
  length_with front back c (two a b) =
      let e = length-append front (a ∷ (back ++ b ∷ [])) in
      let f = length-append back (b ∷ []) in
      let g = length-append front (c ∷ back) in
      (omega (arith, e, f, g), omega (arith, e, f, g))

  -- what a member of a sound node is
  abbrev pub IsPart : (k : ℕ) → Member k → Type 0
  IsPart zero e = Unit {0}
  IsPart (suc k) b = IsChild k b

  more_sound : (k : ℕ) (x : Member k) (body : Body k) → IsPart k x → AreSound shape k body → AreSound shape k (body ++ x ∷ [])
  more_sound zero x body p h = tt
  more_sound (suc k) x body p h = all_append (IsChild k) body (x ∷ []) h (p, tt)

  pub grows_fits : (k : ℕ) (x : Member k) → IsPart k x → (level number next : ℕ) (body : Body level) (outcome : Outcome (Body level)) (next' : ℕ) → Grows shape k x level number next body outcome next' → AreSound shape level body → length body ≤ shape.max → Fits level (length body) outcome
  grows_fits k x p level number next body outcome next' (here s) sound most =
      let size = length-append body (x ∷ []) in
      less k (length body) (length (body ++ x ∷ [])) outcome (omega (arith, size)) (settles_fits k number next (body ++ x ∷ []) outcome next' s (more_sound k x body p sound) (omega (arith, size)))
  grows_fits k x p (suc level) number next branches outcome next' (below front b back under mid is chosen g s) sound most =
      let split : AllByRecursion (IsChild level) (front ++ b ∷ back) = subst (AllByRecursion (IsChild level)) is sound in
      let rest = all_back (IsChild level) front (b ∷ back) split in
      let each = each_child level (length b.body) under rest.0.1 (grows_fits k x p level b.number next b.body under mid g rest.0.3 rest.0.2) in
      let size : length branches ≡ length (front ++ b ∷ back) = ap (λ (bs : List (Branch (Body level))). length bs) is in
      let count = length_with front back b under in
      less (suc level) (length branches) (length (with_outcome front under back)) outcome (omega (arith, size, count.0))
      (settles_fits (suc level) number mid (with_outcome front under back) outcome next' s (with_sound level front back under (all_front (IsChild level) front (b ∷ back) split) rest.1 each) (omega (arith, size, count.1)))
