use Rattle.std.proofs.Common.{List, Bool, subst, ◌↔◌}
use Rattle.std.specs.Prelude.{MatchBool}
use Rattle.sp_rect.specs.Plane.{Rectangle}
use Rattle.sp_node.specs.Among.{Among}
use Rattle.sp_node.specs.Table.{Table}
use Rattle.sp_node.specs.Plan.{planned}
use Rattle.sp_granule.specs.Granules.{granules}
use Rattle.sp_protection.specs.Guarding.{AreSame}
use Rattle.sp_ops.specs.Changes.{IsSearched}
use Rattle.sp_ops.proofs.putting.reshaped.Goals as goal

pub returns : goal.returns
returns c = λ n.
    let t = c.args.tree.now.table in
    let t' = planned t c.args.plan.now in
    let h : Among n c.in_ok-found.found.items ↔ IsSearched t.nodes (granules t') c.args.searches.now n =
    subst (λ (rs : List Rectangle). Among n c.in_ok-found.found.items ↔ IsSearched t.nodes (granules t') rs n) c.as_slice.ensures
    (subst (λ (u : Table). Among n c.in_ok-found.found.items ↔ IsSearched t.nodes (granules u) c.as_slice.result.now n) c.planned-after.ensures (c.in_ok-found.ensures n)) in
    let other : AreSame (granules t) (granules t') → ⊥ =
    subst (λ (b : Bool). MatchBool b (AreSame (granules t) (granules t')) (AreSame (granules t) (granules t') → ⊥)) c.if-branch.false c.in_ok-keeps_granules.ensures in
    (λ a. (other, h.0 a), λ s. h.1 s.1)
