use Rattle.std.proofs.Common.{◌++◌, ℕ, List, is_some, ap, ◌∙◌}
use Rattle.std.specs.List.{filter}
use Rattle.sp_node.specs.Look.{look}
use Rattle.sp_granule.specs.Granules.{granules}
use Rattle.sp_ops.proofs.Entering.{old_added}
use Rattle.sp_ops.proofs.putting.push_searched.Goals as goal

pub returns : goal.returns
returns c =
    old_added c.args.tree.now.table.nodes (granules c.args.after.now) c.args.rect.now c.in_ok-numbers.numbers c.args.found.now.items c.push_old.new.found.items c.in_ok-numbers.ensures.exact
    (c.in_ok-push_old.ensures ∙ ap (λ (ns : List ℕ). c.args.found.now.items ++ filter (λ n. is_some (look c.args.tree.now.table.nodes n)) ns) c.as_slice.ensures)
