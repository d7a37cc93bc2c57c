use Rattle.std.proofs.Common.{◌≡◌, ℕ, List, ◌++◌, map, sym, ap, ◌∙◌, subst}
use Rattle.sp_locks.specs.declared.mode.Mode.TheVariants.{S, SIX}
use Rattle.sp_node.specs.Table.{entries_of}
use Rattle.sp_granule.specs.Granules.{granules}
use Rattle.sp_protection.specs.Needs.{StayWant}
use Rattle.sp_ops.specs.declared.wants.Want.{Want}
use Rattle.sp_ops.specs.Seen.{entries_at}
use Rattle.sp_ops.specs.Wanted.{AreWants, on_granule, on_leaves, on_object}
use Rattle.sp_ops.proofs.Reasons.{each_area}
use Rattle.sp_ops.proofs.staying.area_wants.Goals as goal

pub returns : goal.returns
returns c = λ txn op marks.
    let t = c.args.tree.now.table in
    let found = c.in_ok-numbers.numbers in
    let numbers = c.in_ok-entries.entries in
    let first : c.push_granules.new.wants.items ≡ map (on_granule S) found =
    c.in_ok-push_granules.ensures ∙ ap (λ (ws : List Want). ws ++ map (on_granule S) c.as_slice.result.now) c.new-wants.ensures.items ∙ ap (map (on_granule S)) c.as_slice.ensures in
    let second : c.push_leaves.new.wants.items ≡ map (on_granule S) found ++ on_leaves t.nodes SIX numbers =
    c.in_ok-push_leaves.ensures ∙ ap (λ (ws : List Want). ws ++ on_leaves t.nodes SIX c.as_slice-2.result.now) first ∙ ap (λ (ns : List ℕ). map (on_granule S) found ++ on_leaves t.nodes SIX ns) c.as_slice-2.ensures in
    let third : c.push_objects.new.wants.items ≡ (map (on_granule S) found ++ on_leaves t.nodes SIX numbers) ++ map on_object (entries_at t.nodes numbers) =
    c.in_ok-push_objects.ensures ∙ ap (λ (ws : List Want). ws ++ map on_object (entries_at t.nodes c.as_slice-3.result.now)) second
    ∙ ap (λ (ns : List ℕ). (map (on_granule S) found ++ on_leaves t.nodes SIX numbers) ++ map on_object (entries_at t.nodes ns)) c.as_slice-3.ensures in
    subst (AreWants (StayWant (granules t) (entries_of t) txn op)) (sym third) (each_area t txn c.root-valid.ensures.valid c.args.rect.now c.x1-in_space.ensures.valid found c.in_ok-numbers.ensures.exact numbers c.in_ok-entries.ensures.found op marks)
