-- One turn of the recursion down a tree.
use Rattle.std.proofs.Common.{◌≡◌, ℕ, zero, suc, ◌+◌, ◌-◌, ◌<◌, Bool, true, false, List, [], ◌∷◌, ◌++◌, length, map, take, drop, get_or, Option, Some, refl, sym, ap, ◌∙◌, subst, arith}
use Rattle.std.specs.Prelude.{ltb}
use Rattle.std.specs.List.{drop-map}
use Rattle.std.proofs.lemmas.Bool.Decides.{nat_tests}
use Rattle.std.proofs.lemmas.List.{length-map, take-map, get_or-map}
use Rattle.sp_rect.specs.Plane.{Rectangle, whole}
use Rattle.sp_node.specs.declared.node.Child.{Child as ChildOf}
use Rattle.sp_node.specs.declared.node.Node.{Node}
use Rattle.sp_node.specs.declared.node.Node.TheVariants.{Leaf, Inner}
use Rattle.sp_node.specs.Nested.{Member, rect_of}
use Rattle.sp_node.specs.Look.{look}
use Rattle.sp_node.specs.Table.{Table, Stands, IsLeaf, IsInner, body_at, children_in}
use Rattle.sp_node.proofs.Weight.{weight, weight_inner}
use Rattle.sp_split.specs.Split.{is_among}
use Rattle.sp_split.proofs.Flags.{same_default}
use Rattle.sp_grow.specs.Chosen.{IsChosen}
use Rattle.sp_grow.specs.Members.{rect_of_member, goes_below, node_with, Belongs}
use Rattle.sp_grow.specs.Below.{numbers, numbers_in, IsSpot, IsHome, IsMember, IsPlaced, Aims, IsGrownAt, IsSettled, IsStepped, branch_at, no_child, no_draft}
use Rattle.sp_grow.specs.declared.member.Member.{Member as Item}
use Rattle.sp_grow.specs.declared.member.Member.TheVariants.{Entry, Child}
use Rattle.sp_grow.specs.declared.left.Left.{Left}
use Rattle.sp_grow.specs.declared.left.Draft.{Draft}
use Rattle.sp_grow.specs.declared.left.Step.{Step}
use Rattle.sp_grow.proofs.Descent.{parted, less_than_sum}
use Rattle.sp_grow.proofs.Steps.{grown_above, grown_leaf, grown_child, own_all}
use Rattle.sp_grow.proofs.Spots.{child_spot}

-- a member's rectangle
pub member_rect : (t : Table) (item : Item) (steps level k : ℕ) (x : Member k) → IsMember t item steps level k x → rect_of_member item ≡ rect_of k x
member_rect t (Entry e) steps level zero x m = λ i. rect_of 0 (sym m i)
member_rect t (Entry e) steps level (suc j) x m = absurd m
member_rect t (Child c) steps level zero x m = absurd m
member_rect t (Child c) steps level (suc j) x m = λ i. rect_of (suc j) (sym m.1 i)

-- one step further down
member_below : (t : Table) (item : Item) (steps level k : ℕ) (x : Member k) → goes_below item steps ≡ true → IsMember t item steps (suc level) k x → IsMember t item (steps - 1) level k x
member_below t (Entry e) steps level zero x g m = m
member_below t (Entry e) steps level (suc j) x g m = absurd m
member_below t (Child c) steps level zero x g m = absurd m
member_below t (Child c) steps level (suc j) x g m = let some : 0 < steps = positive steps g in (omega (arith, m.0), m.1, m.2)
  where
    positive : (n : ℕ) → ltb 0 n ≡ true → 0 < n
    positive n e = grind (arith, nat_tests)

-- **the way down ends here**
pub grown_home : (t : Table) (item : Item) (steps number : ℕ) (n : Node) → look t.nodes number ≡ Some n → IsHome n item steps → (a : Aims t item steps number) (left : Left) (after : Draft) → IsSettled t.shape (no_draft t.next) number (node_with n item) left after → IsGrownAt t a.k a.x a.level number left after
grown_home t item steps number n is home a left after s = by_case item n a.level a.k a.x home is a.spot a.inserted.member a.inserted.free s
  where
    never : (m : Node) (o : Option Node) → look t.nodes number ≡ Some m → o ≡ look t.nodes number → o ≡ Some m
    never m o e f = f ∙ e

    none : (n : ℕ) → ltb 0 n ≡ false → n ≡ 0
    none n e = grind (arith, nat_tests)

    at_level : (c : ChildOf) (cs : List ChildOf) (level j : ℕ) (x : Member (suc j)) → look t.nodes number ≡ Some (Inner cs) → level ≡ suc j → x ≡ branch_at (look t.nodes) j c → Stands (look t.nodes) j c.node → IsSpot t level number
        → ((q : ℕ) → is_among (numbers_in (suc j) x) q ≡ true → (is_among (numbers level number (body_at (look t.nodes) level number)) q ≡ false) × (q < t.next)) → IsSettled t.shape (no_draft t.next) number (Inner (cs ++ c ∷ [])) left after → IsGrownAt t (suc j) x level number left after
    at_level c cs level j x is same e stood spot free s =
        subst (λ (l : ℕ). IsGrownAt t (suc j) x l number left after) (sym same)
        (subst (λ (y : Member (suc j)). IsGrownAt t (suc j) y (suc j) number left after) (sym e)
        (grown_child t j c number cs is (subst (λ (l : ℕ). IsSpot t l number) same spot) stood
        (λ q h. subst (λ (l : ℕ). (is_among (numbers l number (body_at (look t.nodes) l number)) q ≡ false) × (q < t.next)) same (free q (subst (λ (y : Member (suc j)). is_among (numbers_in (suc j) y) q ≡ true) (sym e) h)))
        (no_draft t.next) left after refl refl s))

    by_case : (item : Item) (n : Node) (level k : ℕ) (x : Member k) → IsHome n item steps → look t.nodes number ≡ Some n → IsSpot t level number → IsMember t item steps level k x
        → ((q : ℕ) → is_among (numbers_in k x) q ≡ true → (is_among (numbers level number (body_at (look t.nodes) level number)) q ≡ false) × (q < t.next)) → IsSettled t.shape (no_draft t.next) number (node_with n item) left after → IsGrownAt t k x level number left after
    by_case (Entry e) (Leaf es) level zero x home is spot m free s = subst (λ (y : Member 0). IsGrownAt t 0 y level number left after) (sym m) (grown_leaf t e number es (no_draft t.next) left after refl refl is s level spot)
    by_case (Entry e) (Leaf es) level (suc j) x home is spot m free s = absurd m
    by_case (Entry e) (Inner cs) level k x home is spot m free s = cc
    by_case (Child c) (Leaf es) level zero x home is spot m free s = absurd m
    by_case (Child c) (Leaf es) zero (suc j) x home is spot m free s = absurd (omega (arith, m.0))
    by_case (Child c) (Leaf es) (suc level) (suc j) x home is spot m free s = absurd (subst IsInner is spot.stands.0)
    by_case (Child c) (Inner cs) level zero x home is spot m free s = absurd m
    by_case (Child c) (Inner cs) level (suc j) x home is spot m free s = let z : steps ≡ 0 = none steps home in at_level c cs level j x is (omega (arith, m.0)) m.1 m.2 spot free s

-- a member belongs where its way down ends
pub home_belongs : (t : Table) (item : Item) (steps number : ℕ) (n : Node) → look t.nodes number ≡ Some n → IsHome n item steps → Aims t item steps number → Belongs n item
home_belongs t item steps number n is home a = by_case item n a.level a.k a.x home is a.spot a.inserted.member
  where
    by_case : (item : Item) (n : Node) (level k : ℕ) (x : Member k) → IsHome n item steps → look t.nodes number ≡ Some n → IsSpot t level number → IsMember t item steps level k x → Belongs n item
    by_case (Entry e) (Leaf es) level k x home is spot m = tt
    by_case (Entry e) (Inner cs) level k x home is spot m = cc
    by_case (Child c) (Leaf es) level zero x home is spot m = absurd m
    by_case (Child c) (Leaf es) zero (suc j) x home is spot m = absurd (omega (arith, m.0))
    by_case (Child c) (Leaf es) (suc level) (suc j) x home is spot m = absurd (subst IsInner is spot.stands.0)
    by_case (Child c) (Inner cs) level k x home is spot m = tt

module _ (t : Table) (number : ℕ) (cs : List ChildOf) (is : look t.nodes number ≡ Some (Inner cs)) where
  pub has_child : (level : ℕ) → IsSpot t level number → 0 < length cs
  has_child zero spot = absurd (subst IsLeaf is spot.stands)
  has_child (suc level) spot =
      let size : length (map (branch_at (look t.nodes) level) (children_in (look t.nodes number))) ≡ length cs = length-map (children_in (look t.nodes number)) (branch_at (look t.nodes) level) ∙ ap (λ (n : Option Node). length (children_in n)) is in
      let some = spot.some (omega arith) in
      omega arith

  module _ (i : ℕ) (lt : i < length cs) where
    abbrev child : ChildOf
    child = get_or cs i no_child

    is_parted : look t.nodes number ≡ Some (Inner (take i cs ++ child ∷ drop (i + 1) cs))
    is_parted = is ∙ ap (λ (ds : List ChildOf). Some (Inner ds)) (parted cs i no_child lt)

    -- what was chosen, by the parts of the list
    chosen_parts : (q : Rectangle) → IsChosen (take i (map (λ d. d.rect) cs)) (get_or (map (λ d. d.rect) cs) i whole) (drop (i + 1) (map (λ d. d.rect) cs)) q → IsChosen (map (λ d. d.rect) (take i cs)) child.rect (map (λ d. d.rect) (drop (i + 1) cs)) q
    chosen_parts q h =
        subst (λ (f : List Rectangle). IsChosen f child.rect (map (λ d. d.rect) (drop (i + 1) cs)) q) (take-map (λ (d : ChildOf). d.rect) i cs)
        (subst (λ (b : List Rectangle). IsChosen (take i (map (λ d. d.rect) cs)) child.rect b q) (drop-map (λ (d : ChildOf). d.rect) (i + 1) cs)
        (subst (λ (r : Rectangle). IsChosen (take i (map (λ d. d.rect) cs)) r (drop (i + 1) (map (λ d. d.rect) cs)) q) (get_or-map (λ (d : ChildOf). d.rect) cs i no_child whole lt) h))

    module _ (item : Item) (steps : ℕ) (goes : goes_below item steps ≡ true) where
      pub record Down (number' : ℕ) : Type 0 where
        pub aims : Aims t item (steps - 1) number'
        pub less : weight (look t.nodes) t.next number' < weight (look t.nodes) t.next number

      free_below : (level k : ℕ) (x : Member k) (spot : IsSpot t (suc level) number) → IsPlaced t item steps (suc level) number k x → (j : ℕ) → is_among (numbers_in k x) j ≡ true → (is_among (numbers level child.node (body_at (look t.nodes) level child.node)) j ≡ false) × (j < t.next)
      free_below level k x spot inserted j h = let f = inserted.free j h in (off (is_among (numbers level child.node (body_at (look t.nodes) level child.node)) j) (is_among (numbers (suc level) number (body_at (look t.nodes) (suc level) number)) j) refl refl f.0, f.1)
        where
          off : (a b : Bool) → is_among (numbers level child.node (body_at (look t.nodes) level child.node)) j ≡ a → is_among (numbers (suc level) number (body_at (look t.nodes) (suc level) number)) j ≡ b → b ≡ false → is_among (numbers level child.node (body_at (look t.nodes) level child.node)) j ≡ false
          off true b e f out = let yes = own_all t level number (take i cs) child (drop (i + 1) cs) is_parted spot j e in cc
          off false b e f out = e

      abbrev aims_below : (level k : ℕ) (x : Member k) → IsSpot t (suc level) number → IsPlaced t item steps (suc level) number k x → Aims t item (steps - 1) child.node
      aims_below level k x spot inserted = record {
        level = level;
        spot = child_spot t level number (take i cs) child (drop (i + 1) cs) is_parted spot;
        k = k;
        x = x;
        inserted = record { member = member_below t item steps level k x goes inserted.member; free = free_below level k x spot inserted };
      }

      down_from : (level k : ℕ) (x : Member k) → IsSpot t level number → IsPlaced t item steps level number k x → Down child.node
      down_from zero k x spot inserted = absurd (subst IsLeaf is spot.stands)
      down_from (suc level) k x spot inserted =
          let heavy = weight_inner (look t.nodes) level t.next number cs spot.stands spot.low (ap children_in is) in
          record { aims = aims_below level k x spot inserted; less = omega (arith, heavy, less_than_sum (weight (look t.nodes) t.next) cs i no_child lt) }

      pub down : (d : ChildOf) → Aims t item steps number → Down (get_or cs i d).node
      down d a = subst (λ (c : ChildOf). Down c.node) (same_default cs i no_child d lt) (down_from a.level a.k a.x a.spot a.inserted)

      pub grown_inner :
          (d : ChildOf) (below after : Step) → IsChosen (take i (map (λ c. c.rect) cs)) (get_or (map (λ c. c.rect) cs) i whole) (drop (i + 1) (map (λ c. c.rect) cs)) (rect_of_member item) → ((a : Aims t item (steps - 1) (get_or cs i d).node) → IsGrownAt t a.k a.x a.level (get_or cs i d).node below.left below.draft)
          → IsStepped t.shape number (take i cs) child (drop (i + 1) cs) below after → (a : Aims t item steps number) → IsGrownAt t a.k a.x a.level number after.left after.draft
      grown_inner d below after chosen rec stepped a = by_level a.level a.k a.x a.spot a.inserted
        where
          under : (b : Aims t item (steps - 1) child.node) → IsGrownAt t b.k b.x b.level child.node below.left below.draft
          under = subst (λ (c : ChildOf). (b : Aims t item (steps - 1) c.node) → IsGrownAt t b.k b.x b.level c.node below.left below.draft) (same_default cs i d no_child lt) rec

          by_level : (level k : ℕ) (x : Member k) → IsSpot t level number → IsPlaced t item steps level number k x → IsGrownAt t k x level number after.left after.draft
          by_level zero k x spot inserted = absurd (subst IsLeaf is spot.stands)
          by_level (suc level) k x spot inserted =
              grown_above t level number (take i cs) child (drop (i + 1) cs) is_parted spot k x inserted.free below (under (aims_below level k x spot inserted))
              (subst (IsChosen (map (λ d. d.rect) (take i cs)) child.rect (map (λ d. d.rect) (drop (i + 1) cs))) (member_rect t item steps (suc level) k x inserted.member) (chosen_parts (rect_of_member item) chosen)) after stepped
