use Rattle.std.proofs.Common.{List, ◌++◌, map, ap, ◌∙◌}
use Rattle.sp_locks.specs.declared.needs.Need.{Need}
use Rattle.sp_locks.specs.declared.row.Name.TheVariants.{Granule, Object}
use Rattle.sp_ops.specs.Wanted.{need_on}
use Rattle.sp_ops.proofs.Joining.{needs_joined}
use Rattle.sp_ops.proofs.wants.joined.Goals as goal

pub returns : goal.returns
returns c =
    needs_joined c.args.wants.now c.in_ok-modes.modes c.args.duration c.in_ok-modes.ensures c.push_granules.ensures.ordered c.push_objects.ensures.ordered c.requires c.from_vec.result (c.from_vec.ensures ∙ c.in_ok-push_objects.ensures.added ∙ ap (λ (ns : List Need). ns ++ map (need_on Object c.args.duration) c.in_ok-modes.modes.objects.entries) (c.in_ok-push_granules.ensures.added ∙ ap (λ (ns : List Need). ns ++ map (need_on Granule c.args.duration) c.in_ok-modes.modes.granules.entries) c.new-needs.ensures.items))
