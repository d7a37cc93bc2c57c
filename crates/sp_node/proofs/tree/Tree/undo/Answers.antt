use Rattle.std.proofs.Common.{sym, subst, refl}
use Rattle.sp_node.specs.Index.{IsClear}
use Rattle.sp_node.specs.Marks.{undone}
use Rattle.sp_node.specs.Plan.{Roomy}
use Rattle.sp_node.proofs.Noting.{clear_with, undone_clear}
use Rattle.sp_node.proofs.tree.Tree.undo.Goals as goal

pub forget_mark-requires : goal.forget_mark-requires
forget_mark-requires c = subst (λ (r : Roomy). IsClear r.table.nodes c.args.txn c.args.entry) (sym c.change.ensures) (clear_with c.args.txn c.args.entry (undone c.args.txn) (λ e. refl) (undone_clear c.args.txn) c.args.self.now.table.nodes)
