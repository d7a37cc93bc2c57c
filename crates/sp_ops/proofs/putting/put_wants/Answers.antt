use Rattle.std.proofs.Common.{◌≡◌, ℕ, List, ◌++◌, map, sym, ap, ◌∙◌, subst}
use Rattle.std.specs.List.{filter}
use Rattle.sp_locks.specs.declared.mode.Mode.TheVariants.{IX, S}
use Rattle.sp_node.specs.declared.plan.Part.{Part}
use Rattle.sp_node.specs.Plan.{planned, number_of}
use Rattle.sp_granule.specs.Granules.{granules}
use Rattle.sp_protection.specs.Needs.{PutWant}
use Rattle.sp_ops.specs.declared.wants.Want.{Want}
use Rattle.sp_ops.specs.Changes.{is_entered}
use Rattle.sp_ops.specs.Wanted.{AreWants, on_granule}
use Rattle.sp_ops.proofs.Entering.{put_wanted}
use Rattle.sp_ops.proofs.putting.put_wants.Goals as goal

pub returns : goal.returns
returns c =
    let t = c.args.tree.now.table in
    let leaves = c.in_ok-leaves.leaves.items in
    let met = c.in_ok-met.met.items in
    let are : leaves ≡ map number_of (filter (is_entered t.nodes) c.args.plan.now.parts) = c.in_ok-leaves.ensures ∙ ap (λ (ps : List Part). map number_of (filter (is_entered t.nodes) ps)) c.as_slice.ensures in
    let first : c.push_granules.new.wants.items ≡ map (on_granule IX) leaves =
    c.in_ok-push_granules.ensures ∙ ap (λ (ws : List Want). ws ++ map (on_granule IX) c.as_slice-2.result.now) c.new-wants.ensures.items ∙ ap (map (on_granule IX)) c.as_slice-2.ensures.value in
    let second : c.push_granules-2.new.wants.items ≡ map (on_granule IX) leaves ++ map (on_granule S) met =
    c.in_ok-push_granules-2.ensures ∙ ap (λ (ws : List Want). ws ++ map (on_granule S) c.as_slice-3.result.now) first ∙ ap (λ (ns : List ℕ). map (on_granule IX) leaves ++ map (on_granule S) ns) c.as_slice-3.ensures.value in
    subst (AreWants (PutWant (granules t) (granules (planned t c.args.plan.now)) c.args.searches.now)) (sym second) (put_wanted t c.root-valid.ensures.valid c.args.plan.now c.requires c.args.searches.now leaves met are c.in_ok-met.ensures)
