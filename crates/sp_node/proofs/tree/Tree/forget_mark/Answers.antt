use Rattle.std.proofs.Common.{sym, subst, rules}
use Rattle.sp_node.specs.Index.{IsClear}
use Rattle.sp_node.specs.Plan.{Roomy}
use Rattle.sp_node.proofs.Noting.{noted_without}
use Rattle.sp_node.proofs.tree.Tree.forget_mark.Goals as goal

pub invariant_of-self : goal.invariant_of-self
invariant_of-self c = record {
  valid = search rules;
  index = search rules;
  known = search rules;
  noted = noted_without c.self.inside.marks c.forget.new.self c.self.inside.nodes.nodes c.args.txn c.args.entry c.forget.ensures (subst (λ (r : Roomy). IsClear r.table.nodes c.args.txn c.args.entry) (sym c.self.view_is) c.requires) c.self.invariant.noted;
}
