-- The nodes of a valid tree, from the root down.
use Rattle.std.proofs.Common.{◌≡◌, ℕ, zero, suc, ◌+◌, ◌*◌, ◌^◌, ◌<◌, ◌≤◌, List, [], ◌∷◌, ◌++◌, length, Option, Some, inl, inr, false, subst, arith}
use Rattle.std.specs.Prelude.{nat_eq}
use Rattle.std.specs.List.{AllByRecursion, IsDistinct, flat_map}
use Rattle.std.proofs.lemmas.List.{length-append}
use Rattle.sp_split.proofs.Members.{among_all}
use Rattle.std.proofs.lemmas.Map.Steps.{length-le_from_distinct_below}
use Rattle.std.proofs.lemmas.Map.Keys.{IsDistinct-head, IsDistinct-tail, IsDistinct-cons, IsDistinct-from_apart}
use Rattle.sp_rect.specs.Plane.{whole}
use Rattle.sp_node.specs.declared.node.Child.{Child}
use Rattle.sp_node.specs.declared.node.Node.{Node}
use Rattle.sp_node.specs.declared.node.Node.TheVariants.{Inner}
use Rattle.sp_node.specs.declared.node.Shape.{Shape}
use Rattle.sp_node.specs.Nested.{Body, Branch, Place, AreSound, IsRootSize}
use Rattle.sp_node.specs.Look.{look}
use Rattle.sp_node.specs.Table.{Table, body_at, Stands, children_in, level_of, IsValid, IsShape, places_of}
use Rattle.sp_node.proofs.Lists.{all_unmap}
use Rattle.sp_node.proofs.ByNumber.{node_of_number}
use Rattle.sp_node.specs.Among.{Among}
use Rattle.sp_node.proofs.Among.{all_among}
use Rattle.sp_node.proofs.Update.{distinct_back}
use Rattle.sp_grow.specs.Below.{numbers, IsSpot, branch_at}
use Rattle.sp_grow.proofs.Numbers.{numbers_places, all_front, all_back}
use Rattle.sp_grow.proofs.Fits.{IsChild}
use Rattle.sp_grow.proofs.Steps.{all_own, rest_distinct}

distinct_front : (xs ys : List ℕ) → IsDistinct nat_eq (xs ++ ys) → IsDistinct nat_eq xs
distinct_front [] ys d = IsDistinct-from_apart nat_eq [] (λ i j e lt len. absurd (omega arith))
distinct_front (x ∷ xs) ys d = IsDistinct-cons nat_eq x xs (all_front (λ y. nat_eq x y ≡ false) xs ys (IsDistinct-head nat_eq x (xs ++ ys) d)) (distinct_front xs ys (IsDistinct-tail nat_eq x (xs ++ ys) d))

-- a sound node has more than twice as many nodes below it as levels
many : (shape : Shape) → IsShape shape → (level number : ℕ) (body : Body level) → AreSound shape level body → (0 < level → 2 ≤ length body) → 2 * level + 1 ≤ length (numbers level number body)
many shape v zero number es sound two = omega arith
many shape v (suc level) number branches sound two = by_list branches sound (two (omega arith)) (λ b h. many shape v level b.number b.body h.3 (each b h))
  where
    each : (b : Branch (Body level)) → IsChild shape v level b → (0 < level → 2 ≤ length b.body)
    each b h lt = let least : 2 ≤ shape.min = v.least in omega (arith, h.1)

    some : (level number : ℕ) (body : Body level) → 1 ≤ length (numbers level number body)
    some zero number body = omega arith
    some (suc level) number body = omega arith

    by_list : (bs : List (Branch (Body level))) → AllByRecursion (IsChild shape v level) bs → 2 ≤ length bs → ((b : Branch (Body level)) → IsChild shape v level b → 2 * level + 1 ≤ length (numbers level b.number b.body)) → 2 * suc level + 1 ≤ length (number ∷ flat_map (λ b. numbers level b.number b.body) bs)
    by_list [] h lt more = absurd (omega arith)
    by_list (x ∷ []) h lt more = absurd (omega arith)
    by_list (x ∷ y ∷ bs) h lt more =
        let f : Branch (Body level) → List ℕ = λ b. numbers level b.number b.body in
        let m = more x h.0 in
        omega (arith, m, some level y.number y.body, length-append (f x) (f y ++ flat_map f bs), length-append (f y) (flat_map f bs))

-- the numbers of a tree are below its next
pub level_small : (t : Table) → IsValid t → 2 * level_of t + 1 ≤ t.next
level_small t v =
    let ns = numbers (level_of t) t.root (body_at (look t.nodes) (level_of t) t.root) in
    let same = numbers_places (level_of t) t.root whole (body_at (look t.nodes) (level_of t) t.root) in
    let low = subst (AllByRecursion (λ n. n < t.next)) same v.below_next in
    let distinct = subst (IsDistinct nat_eq) same v.distinct in
    let size : length ns ≤ t.next = length-le_from_distinct_below ns t.next distinct (λ q h. among_all (λ n. n < t.next) ns q low h) in
    omega (arith, size, many t.shape v.shape (level_of t) t.root (body_at (look t.nodes) (level_of t) t.root) v.sound (two (level_of t) v.root_size))
  where
    two : (level : ℕ) → IsRootSize t.shape level (length (body_at (look t.nodes) level t.root)) → 0 < level → 2 ≤ length (body_at (look t.nodes) level t.root)
    two zero s lt = absurd (omega arith)
    two (suc level) s lt = s.0

pub root_spot : (t : Table) → IsValid t → t.next < 2 ^ 63 + 2 ^ 32 → IsSpot t (level_of t) t.root
root_spot t v numbers_left = record {
  shape = v.shape;
  stands = v.stands;
  some = some_of (level_of t) v.root_size;
  most = most_of (level_of t) v.root_size;
  sound = v.sound;
  low = omega (arith, level_small t v);
  distinct = subst (IsDistinct nat_eq) (numbers_places (level_of t) t.root whole (body_at (look t.nodes) (level_of t) t.root)) v.distinct;
  below_next = subst (AllByRecursion (λ n. n < t.next)) (numbers_places (level_of t) t.root whole (body_at (look t.nodes) (level_of t) t.root)) v.below_next;
  fresh = λ k le. elim (node_of_number t v k) [ inl p ↦ absurd (used k p.0 p.1 p.2 le) | inr n ↦ n.1 ];
  room = let l = level_small t v in omega (arith, l, numbers_left);
}
  where
    used : (k : ℕ) (p : Place) → Among p (places_of t) → p.number ≡ k → t.next ≤ k → ⊥
    used k p a e le =
        let all = all_unmap (λ n. n < t.next) (λ (r : Place). r.number) (places_of t) v.below_next in
        let lt : p.number < t.next = all_among (λ (r : Place). r.number < t.next) p (places_of t) all a in
        omega arith

    some_of : (level : ℕ) → IsRootSize t.shape level (length (body_at (look t.nodes) level t.root)) → 0 < level → 0 < length (body_at (look t.nodes) level t.root)
    some_of zero s lt = absurd (omega arith)
    some_of (suc level) s lt = omega (arith, s.0)

    most_of : (level : ℕ) → IsRootSize t.shape level (length (body_at (look t.nodes) level t.root)) → length (body_at (look t.nodes) level t.root) ≤ t.shape.max
    most_of zero s = s
    most_of (suc level) s = s.1

module _ (t : Table) (level number : ℕ) (front : List Child) (c : Child) (back : List Child) (is : look t.nodes number ≡ Some (Inner (front ++ c ∷ back))) (spot : IsSpot t (suc level) number) where
  abbrev under : Child → List ℕ
  under d = numbers level d.node (body_at (look t.nodes) level d.node)

  pub child_spot : IsSpot t level c.node
  child_spot =
      let cs = children_in (look t.nodes number) in
      let each = all_unmap (IsChild t.shape spot.shape level) (branch_at (look t.nodes) level) cs spot.sound in
      let rest = all_back (λ d. IsChild t.shape spot.shape level (branch_at (look t.nodes) level d)) front (c ∷ back) (subst (λ (n : Option Node). AllByRecursion (λ d. IsChild t.shape spot.shape level (branch_at (look t.nodes) level d)) (children_in n)) is each) in
      let stood = all_back (λ d. Stands (look t.nodes) level d.node) front (c ∷ back) (subst (λ (n : Option Node). AllByRecursion (λ d. Stands (look t.nodes) level d.node) (children_in n)) is spot.stands.1) in
      let least : 2 ≤ t.shape.min = spot.shape.least in
      let room : t.next + suc level + 2 < 2 ^ 64 = spot.room in
      record {
        shape = spot.shape;
        stands = stood.0;
        some = λ lt. omega (arith, rest.0.1);
        most = rest.0.2;
        sound = rest.0.3;
        low = omega (arith, spot.low);
        distinct = distinct_front (under c) (flat_map under back) (distinct_back (flat_map under front) (under c ++ flat_map under back) (rest_distinct t level number front c back is spot));
        below_next = all_front (λ n. n < t.next) (under c) (flat_map under back) (all_back (λ n. n < t.next) (flat_map under front) (under c ++ flat_map under back) (all_own t level number front c back is spot).1);
        fresh = spot.fresh;
        room = omega arith;
      }
