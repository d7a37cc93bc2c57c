use Rattle.std.proofs.Common.{sym, subst, refl}
use Rattle.sp_node.specs.Index.{IsClear}
use Rattle.sp_node.specs.Marks.{settled}
use Rattle.sp_node.specs.Plan.{Roomy}
use Rattle.sp_node.proofs.Noting.{clear_with, settled_clear}
use Rattle.sp_node.proofs.tree.Tree.settle.Goals as goal

pub forget_mark-requires : goal.forget_mark-requires
forget_mark-requires c = subst (λ (r : Roomy). IsClear r.table.nodes c.args.txn c.args.entry) (sym c.change.ensures) (clear_with c.args.txn c.args.entry (settled c.args.txn) (λ e. refl) (settled_clear c.args.txn) c.args.self.now.table.nodes)
