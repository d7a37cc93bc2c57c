use Rattle.std.proofs.Common.{◌↔◌, ℕ, List, subst, sym}
use Rattle.std.proofs.lemmas.List.{take_all}
use Rattle.sp_rect.specs.Plane.{Rectangle}
use Rattle.sp_node.specs.Among.{Among}
use Rattle.sp_granule.specs.Granules.{granules}
use Rattle.sp_ops.specs.Changes.{IsSearched}
use Rattle.sp_ops.proofs.Entering.{none_searched, searched_more}
use Rattle.sp_ops.proofs.putting.searched.Goals as goal

pub loop-rect-init : goal.loop-rect-init
loop-rect-init c = λ n. subst (λ (ns : List ℕ). Among n ns ↔ IsSearched c.args.tree.now.table.nodes (granules c.args.after.now) _ n) (sym c.new-found.ensures.items) (none_searched c.args.tree.now.table.nodes (granules c.args.after.now) n)

pub loop-rect-preserved : goal.loop-rect-preserved
loop-rect-preserved c =
    searched_more c.args.tree.now.table.nodes (granules c.args.after.now) c.args.searches.now c.loop-rect.rect-index c.rect-item.result c.loop-rect.found.items c.push_searched.new.found.items c.loop-rect-test.true c.rect-item.is c.loop-rect.invariant c.in_ok-push_searched.ensures

pub returns : goal.returns
returns c = subst (λ (rs : List Rectangle). (n : ℕ) → Among n c.loop-rect.found.items ↔ IsSearched c.args.tree.now.table.nodes (granules c.args.after.now) rs n) (take_all c.loop-rect.rect-index c.args.searches.now c.loop-rect-test.false) c.loop-rect.invariant
