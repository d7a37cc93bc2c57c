-- The needs that come from the parts are those of the rules over both whole trees.
use Rattle.std.proofs.Common.{◌≡◌, ℕ, ◌↔◌, List, ◌++◌, map, Option, ◌⊎◌}
use Rattle.std.specs.List.{list_any, flat_map}
use Rattle.std.specs.List.Sorted.{IsStrictlyIncreasing}
use Rattle.std.specs.Option.{option_to_list}
use Rattle.sp_rect.specs.Plane.{Rectangle, Point}
use Rattle.sp_region.specs.Region.{covered}
use Rattle.sp_locks.specs.declared.row.Duration.TheVariants.{Short}
use Rattle.sp_node.specs.declared.plan.Plan.{Plan}
use Rattle.sp_node.specs.Among.{Among}
use Rattle.sp_node.specs.Plan.{planned, IsMadeOf}
use Rattle.sp_node.specs.Table.{Table, IsValid}
use Rattle.sp_granule.specs.Granules.{granules}
use Rattle.sp_protection.specs.Needs.{ShortWant, AreNeedsOf}
use Rattle.sp_needs.specs.Affected.{IsKept, IsLost, IsGiver, AreThose, AreSourcesFor, gains, left_by_part, HasLeftOfAny, need_on}
use Rattle.sp_needs.proofs.Giving.{giver_is}
use Rattle.sp_needs.proofs.Sources.{lost_is, reached_from, reached_to}
use Rattle.sp_needs.proofs.Wanted.{are_needs}

-- what was computed of the numbers at which the trees differ
pub record Computed (t : Table) (plan : Plan) (chosen : Option ℕ) (numbers lost givers reached all : List ℕ) : Type 0 where
  pub sources : List Rectangle
  pub gained : List Rectangle
  pub differ : (n : ℕ) → IsKept (granules t) (granules (planned t plan)) n ⊎ Among n numbers
  pub are_lost : AreThose (IsLost (granules t) (granules (planned t plan))) numbers lost
  pub are_givers : (n : ℕ) → Among n givers ↔ Among n (flat_map (left_by_part t.nodes) plan.parts)
  pub are_sources : AreSourcesFor gained (granules t) ((lost ++ givers) ++ option_to_list chosen) sources
  pub are_gained : (p : Point) → covered gained p ≡ list_any (gains (granules t) (granules (planned t plan)) p) numbers
  pub are_reached : (n : ℕ) → Among n reached ↔ HasLeftOfAny (granules t) sources gained n
  pub are_all : (n : ℕ) → Among n all ↔ Among n ((lost ++ givers) ++ reached)
  pub rising : IsStrictlyIncreasing all

pub needs_are :
    (t : Table) → IsValid t → (plan : Plan) → IsMadeOf t plan → (chosen : Option ℕ) (numbers lost givers reached all : List ℕ) → Computed t plan chosen numbers lost givers reached all → AreNeedsOf (ShortWant (granules t) (granules (planned t plan)) chosen) Short (map (need_on givers) all)
needs_are t v plan made chosen numbers lost givers reached all c =
    let t' : Table = planned t plan in
    let are_lost = lost_is t t' v made.valid numbers c.differ lost c.are_lost in
    let are_givers : (n : ℕ) → Among n givers ↔ IsGiver (granules t) (granules t') n = λ n. (
      λ a. (giver_is t v plan made n).0 ((c.are_givers n).0 a),
      λ a. (c.are_givers n).1 ((giver_is t v plan made n).1 a),
    ) in
    are_needs (granules t) (granules t') chosen lost givers reached all are_lost are_givers
    (λ n a. reached_from t t' v made.valid numbers c.differ chosen lost givers are_lost are_givers c.sources c.gained c.are_sources c.are_gained n ((c.are_reached n).0 a))
    (λ n g a e h. (c.are_reached n).1 (reached_to t t' v made.valid numbers c.differ chosen lost givers are_lost are_givers c.sources c.gained c.are_sources c.are_gained n g a e h))
    c.are_all c.rising
