use Rattle.std.proofs.Common.{ℕ, ◌↔◌, List, subst, take_all}
use Rattle.sp_rect.specs.Plane.{Rectangle}
use Rattle.sp_node.specs.Among.{Among}
use Rattle.sp_granule.specs.Granules.{granules}
use Rattle.sp_needs.specs.Affected.{HasLeftOfAny}
use Rattle.sp_needs.proofs.Added.{reached_more}
use Rattle.sp_needs.proofs.reached.reached.Goals as goal

pub loop-rect-preserved : goal.loop-rect-preserved
loop-rect-preserved c =
    reached_more (granules c.args.tree.now.table) c.args.sources.now c.args.rects.now c.loop-rect.rect-index c.rect-item.result c.loop-rect-test.true c.rect-item.is c.loop-rect.found.items c.push_reached.new.found.items c.loop-rect.invariant c.in_ok-push_reached.ensures

pub returns : goal.returns
returns c =
    subst (λ (rs : List Rectangle). (n : ℕ) → Among n c.loop-rect.found.items ↔ HasLeftOfAny (granules c.args.tree.now.table) c.args.sources.now rs n) (take_all c.loop-rect.rect-index c.args.rects.now c.loop-rect-test.false) c.loop-rect.invariant
