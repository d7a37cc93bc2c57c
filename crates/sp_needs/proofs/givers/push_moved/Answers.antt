use Rattle.std.proofs.Common.{◌≡◌, true, List, ◌++◌, sym, ap, ◌∙◌, subst, append-nil}
use Rattle.sp_node.specs.declared.node.Entry.{Entry}
use Rattle.sp_node.specs.Index.{has_number}
use Rattle.sp_needs.proofs.Giving.{none_left}
use Rattle.sp_needs.proofs.givers.push_moved.Goals as goal

pub returns-then-stands_at : goal.returns-then-stands_at
returns-then-stands_at c =
    let e = c.args.entry.now in
    let had = subst (λ (es : List Entry). has_number es e.number ≡ true) c.requires (c.stands_at.ensures c.if-stands_at.true) in
    sym (ap (λ ns. c.args.found.now.items ++ ns) (none_left c.args.tree.now.table c.root-valid.ensures.valid c.args.leaf e had) ∙ append-nil c.args.found.now.items)
