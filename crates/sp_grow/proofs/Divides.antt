-- How large the groups of a split node are.
use Rattle.std.proofs.Common.{◌≡◌, ℕ, zero, suc, ◌+◌, ◌*◌, ◌<◌, ◌≤◌, Bool, ◌||◌, true, List, [], ◌∷◌, length, slice_get, refl, ap, ◌∙◌, arith}
use Rattle.std.specs.Prelude.{nat_eq}
use Rattle.std.specs.Option.{option_to_list}
use Rattle.std.proofs.lemmas.List.{length-append, length-map}
use Rattle.std.proofs.lemmas.List.Folds.{list_any-append}
use Rattle.sp_rect.specs.Plane.{Rectangle}
use Rattle.sp_node.specs.declared.node.Entry.{Entry}
use Rattle.sp_node.specs.declared.node.Child.{Child}
use Rattle.sp_node.specs.declared.node.Node.{Node}
use Rattle.sp_node.specs.declared.node.Node.TheVariants.{Leaf, Inner}
use Rattle.sp_node.specs.declared.node.Shape.{Shape}
use Rattle.sp_node.specs.Table.{IsShape}
use Rattle.sp_split.specs.Split.{Splits, is_among}
use Rattle.sp_split.proofs.Sizes.{sizes}
use Rattle.sp_split.proofs.Members.{self_equal, or_left, or_true}
use Rattle.sp_split.proofs.Positions.{split_positions}
use Rattle.sp_grow.specs.Members.{pick, rects_in, pick_node}

module _ {X : Type 0} where
  one_at : (xs : List X) (i : ℕ) → i < length xs → length (option_to_list (slice_get xs i)) ≡ 1
  one_at [] i lt = absurd (omega arith)
  one_at (x ∷ xs) zero lt = refl
  one_at (x ∷ xs) (suc i) lt = one_at xs i (omega arith)

  pub length-pick : (xs : List X) (is : List ℕ) → ((q : ℕ) → is_among is q ≡ true → q < length xs) → length (pick xs is) ≡ length is
  length-pick xs [] h = refl
  length-pick xs (i ∷ is) h =
      let here = one_at xs i (h i (or_left (nat_eq i i) (is_among is i) (self_equal i))) in
      let more = length-pick xs is (λ q e. h q (ap (λ (b : Bool). nat_eq q i || b) e ∙ or_true (nat_eq q i))) in
      omega (arith, length-append (option_to_list (slice_get xs i)) (pick xs is), here, more)

-- the sizes of the two groups
pub record Groups (min : ℕ) {X : Type 0} (xs : List X) (first second : List ℕ) : Type 0 where
  pub low : min ≤ length (pick xs first)
  pub low' : min ≤ length (pick xs second)
  pub all : length (pick xs first) + length (pick xs second) ≡ length xs

pub grouped : {X : Type 0} (min : ℕ) (rs : List Rectangle) (xs : List X) (first second : List ℕ) → length rs ≡ length xs → 1 ≤ min → 2 * min ≤ length rs → Splits rs min first second → Groups min xs first second
grouped min rs xs first second size least enough s =
    let p = split_positions rs min first second s in
    let z = sizes rs min least enough first second s in
    let a = length-pick xs first (λ q e. let lt = p.within q (list_any-append (nat_eq q) first second ∙ or_left (is_among first q) (is_among second q) e) in omega arith) in
    let b = length-pick xs second (λ q e. let lt = p.within q (list_any-append (nat_eq q) first second ∙ ap (λ (c : Bool). is_among first q || c) e ∙ or_true (is_among first q)) in omega arith) in
    record { low = omega (arith, a, z.0); low' = omega (arith, b, z.1); all = omega (arith, a, b, z.2, size) }

-- how many members a node has
abbrev pub size : Node → ℕ
size n = length (rects_in n)

picked_size : (n : Node) (is : List ℕ) → ((q : ℕ) → is_among is q ≡ true → q < size n) → size (pick_node n is) ≡ length is
picked_size (Leaf es) is h = length-map (pick es is) (λ (e : Entry). e.rect) ∙ length-pick es is (λ q m. let lt = h q m in omega (arith, length-map es (λ (e : Entry). e.rect)))
picked_size (Inner cs) is h = length-map (pick cs is) (λ (c : Child). c.rect) ∙ length-pick cs is (λ q m. let lt = h q m in omega (arith, length-map cs (λ (c : Child). c.rect)))

pub record Parted (shape : Shape) (n : Node) (first second : List ℕ) : Type 0 where
  pub low : shape.min ≤ size (pick_node n first)
  pub low' : shape.min ≤ size (pick_node n second)
  pub all : size (pick_node n first) + size (pick_node n second) ≡ size n

pub parted : (shape : Shape) → IsShape shape → (n : Node) (first second : List ℕ) → shape.max < size n → Splits (rects_in n) shape.min first second → Parted shape n first second
parted shape v n first second more s =
    let half : 2 * shape.min ≤ shape.max = v.half in
    let least : 2 ≤ shape.min = v.least in
    let p = split_positions (rects_in n) shape.min first second s in
    let z = sizes (rects_in n) shape.min (omega arith) (omega arith) first second s in
    let a = picked_size n first (λ q e. p.within q (list_any-append (nat_eq q) first second ∙ or_left (is_among first q) (is_among second q) e)) in
    let b = picked_size n second (λ q e. p.within q (list_any-append (nat_eq q) first second ∙ ap (λ (c : Bool). is_among first q || c) e ∙ or_true (is_among first q))) in
    record { low = omega (arith, a, z.0); low' = omega (arith, b, z.1); all = omega (arith, a, b, z.2) }
