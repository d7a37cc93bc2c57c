use Rattle.std.proofs.Common.{◌∙◌, ◌<◌, ◌^◌, ℕ, sym, subst, arith}
use Rattle.sp_node.specs.Table.{entries_of}
use Rattle.sp_model.specs.Stepped.{is_change}
use Rattle.sp_model.proofs.Holding.{among-any}
use Rattle.sp_ending.proofs.Standing.{next-unchanged, all-unchanged}
use Rattle.sp_ending.proofs.changes.any_changed.Goals as goal

pub returns-then-is_changed : goal.returns-then-is_changed
returns-then-is_changed c =
    let next = c.in-Some.ensures in
    sym (among-any (is_change c.args.txn) next.entry (entries_of c.args.tree.now.table) next.among (sym (c.is_changed.ensures next.entry next.among next.named) ∙ c.if-is_changed.true))

pub marked-preserved : goal.marked-preserved
marked-preserved c =
    let next = c.in-Some.ensures in
    let low : c.in-Some.number < 2 ^ 63 = subst (λ (n : ℕ). n < 2 ^ 63) next.named (c.requires next.entry next.among) in
    (next-unchanged c.args.tree.now.table c.args.txn c.marked.start c.in-Some.number next c.marked.invariant.0 (λ e i named. sym (c.is_changed.ensures e i named) ∙ c.if-is_changed.false), omega (arith, low))

pub returns : goal.returns
returns c = sym (all-unchanged c.args.tree.now.table c.args.txn c.marked.start c.in_default.ensures c.marked.invariant.0)
