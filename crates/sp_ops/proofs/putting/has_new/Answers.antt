use Rattle.std.proofs.Common.{◌||◌, ◌-◌, take, Bool, sym, ap, ◌∙◌}
use Rattle.std.specs.List.{list_any}
use Rattle.sp_ops.specs.Changes.{is_new}
use Rattle.sp_ops.proofs.Entering.{any_back, or_true, or_none}
use Rattle.sp_ops.proofs.putting.has_new.Goals as goal

pub returns-then-is_new : goal.returns-then-is_new
returns-then-is_new c =
    let p = is_new c.args.tree.now.table.nodes in
    let front = list_any p (take (c.back.i - 1) c.args.entries.now) in
    sym (c.back.invariant ∙ any_back p c.args.entries.now c.back.i c.index-entries-i.result c.back-test.true c.back.auto.i c.index-entries-i.is
    ∙ ap (λ (b : Bool). front || b) (sym c.is_new.ensures ∙ c.if-is_new.true) ∙ or_true front)

pub back-preserved : goal.back-preserved
back-preserved c =
    let p = is_new c.args.tree.now.table.nodes in
    c.back.invariant ∙ any_back p c.args.entries.now c.back.i c.index-entries-i.result c.back-test.true c.back.auto.i c.index-entries-i.is
    ∙ or_none (list_any p (take (c.back.i - 1) c.args.entries.now)) (p c.index-entries-i.result) (sym c.is_new.ensures ∙ c.if-is_new.false)
