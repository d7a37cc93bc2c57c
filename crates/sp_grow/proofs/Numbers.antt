-- The numbers at and below a node: what a table that keeps them keeps of the node.
use Rattle.std.proofs.Common.{◌≡◌, ℕ, zero, suc, Bool, true, ◌||◌, List, [], ◌∷◌, ◌++◌, Option, map, refl, sym, ap, ap₂, ◌∙◌, subst}
use Rattle.std.specs.Prelude.{nat_eq}
use Rattle.std.specs.List.{AllByRecursion, flat_map}
use Rattle.sp_rect.specs.Plane.{Rectangle, whole}
use Rattle.sp_node.specs.declared.node.Child.{Child}
use Rattle.sp_node.specs.declared.node.Node.{Node}
use Rattle.sp_node.specs.Nested.{Body, Branch, Place, places}
use Rattle.sp_node.specs.Table.{body_at, Stands, IsLeaf, IsInner, children_in}
use Rattle.sp_node.proofs.Lists.{map-flat_map, all_unmap, all_imply, all_both}
use Rattle.sp_node.proofs.Frame.{body_same, all_from_flat_map}
use Rattle.sp_split.specs.Split.{is_among}
use Rattle.sp_split.proofs.Members.{self_equal, or_left, or_true}
use Rattle.sp_grow.specs.declared.left.Left.{Left}
use Rattle.sp_grow.specs.declared.left.Left.TheVariants.{One, Two}
use Rattle.sp_grow.specs.Insertion.{Outcome, one, two}
use Rattle.sp_grow.specs.Below.{numbers, branch_at, outcome_at, EachStands}

pub numbers_places : (level number : ℕ) (space : Rectangle) (body : Body level) → map (λ (p : Place). p.number) (places level number space body) ≡ numbers level number body
numbers_places zero number space es = refl
numbers_places (suc level) number space branches =
    ap (λ (ns : List ℕ). number ∷ ns)
    (map-flat_map (λ (p : Place). p.number) (λ (b : Branch (Body level)). places level b.number b.rect b.body) branches ∙ (λ i. flat_map (λ (b : Branch (Body level)). numbers_places level b.number b.rect b.body i) branches))

-- the numbers of what is left
abbrev pub numbers_left : (level : ℕ) → Outcome (Body level) → List ℕ
numbers_left level (one a) = numbers level a.number a.body
numbers_left level (two a b) = numbers level a.number a.body ++ numbers level b.number b.body

pub among_from_all : (P : ℕ → Type 0) (xs : List ℕ) → ((k : ℕ) → is_among xs k ≡ true → P k) → AllByRecursion P xs
among_from_all P [] h = tt
among_from_all P (x ∷ xs) h = (h x (or_left (nat_eq x x) (is_among xs x) (self_equal x)), among_from_all P xs (λ k e. h k (ap (λ (b : Bool). nat_eq k x || b) e ∙ or_true (nat_eq k x))))

module _ {X : Type 0} (P : X → Type 0) where
  pub all_front : (xs ys : List X) → AllByRecursion P (xs ++ ys) → AllByRecursion P xs
  all_front [] ys h = tt
  all_front (x ∷ xs) ys h = (h.0, all_front xs ys h.1)

  pub all_back : (xs ys : List X) → AllByRecursion P (xs ++ ys) → AllByRecursion P ys
  all_back [] ys h = h
  all_back (x ∷ xs) ys h = all_back xs ys h.1

module _ (before after : ℕ → Option Node) where
  -- the same stands under these numbers
  abbrev pub AreKept : List ℕ → Type 0
  AreKept ns = AllByRecursion (λ k. after k ≡ before k) ns

  pub body_kept : (level number : ℕ) → AreKept (numbers level number (body_at before level number)) → body_at after level number ≡ body_at before level number
  body_kept level number h =
      body_same before after level number whole
      (all_unmap (λ k. after k ≡ before k) (λ (p : Place). p.number) (places level number whole (body_at before level number)) (subst AreKept (sym (numbers_places level number whole (body_at before level number))) h))

  pub stands_kept : (level number : ℕ) → AreKept (numbers level number (body_at before level number)) → Stands before level number → Stands after level number
  stands_kept zero number h s = subst IsLeaf (sym h.0) s
  stands_kept (suc level) number h s =
      let cs = children_in (before number) in
      let below = all_unmap (λ (b : Branch (Body level)). AreKept (numbers level b.number b.body)) (branch_at before level) cs (all_from_flat_map (λ k. after k ≡ before k) (λ (b : Branch (Body level)). numbers level b.number b.body) (map (branch_at before level) cs) h.1) in (
        subst IsInner (sym h.0) s.0,
        subst (λ (n : Option Node). AllByRecursion (λ c. Stands after level c.node) (children_in n)) (sym h.0) (all_imply (λ c k. stands_kept level c.node k.0 k.1) cs (all_both _ _ cs below s.1)),
      )

  pub branch_kept : (level : ℕ) (c : Child) → AreKept (numbers level c.node (body_at before level c.node)) → branch_at after level c ≡ branch_at before level c
  branch_kept level c h = ap (λ (b : Body level). record { rect = c.rect; number = c.node; body = b }) (body_kept level c.node h)

  pub outcome_kept : (level : ℕ) (left : Left) → AreKept (numbers_left level (outcome_at before level left)) → outcome_at after level left ≡ outcome_at before level left
  outcome_kept level (One a) h = ap (λ (b : Branch (Body level)). one b) (branch_kept level a h)
  outcome_kept level (Two a b) h =
      ap₂ (λ (x y : Branch (Body level)). two x y) (branch_kept level a (all_front (λ k. after k ≡ before k) (numbers level a.node (body_at before level a.node)) (numbers level b.node (body_at before level b.node)) h))
      (branch_kept level b (all_back (λ k. after k ≡ before k) (numbers level a.node (body_at before level a.node)) (numbers level b.node (body_at before level b.node)) h))

  pub each_kept : (level : ℕ) (left : Left) → AreKept (numbers_left level (outcome_at before level left)) → EachStands before level left → EachStands after level left
  each_kept level (One a) h s = stands_kept level a.node h s
  each_kept level (Two a b) h s = (
    stands_kept level a.node (all_front (λ k. after k ≡ before k) (numbers level a.node (body_at before level a.node)) (numbers level b.node (body_at before level b.node)) h) s.0,
    stands_kept level b.node (all_back (λ k. after k ≡ before k) (numbers level a.node (body_at before level a.node)) (numbers level b.node (body_at before level b.node)) h) s.1,
  )
