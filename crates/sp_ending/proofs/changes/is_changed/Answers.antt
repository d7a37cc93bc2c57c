use Rattle.std.proofs.Common.{◌∙◌, map, nat_eq, ap, sym, true≢false}
use Rattle.sp_node.specs.declared.node.Entry.{Entry}
use Rattle.sp_node.specs.Table.{entries_of}
use Rattle.sp_node.proofs.Laws.{one_of_number}
use Rattle.sp_protection.proofs.Leaves.{among_map}
use Rattle.sp_model.specs.Stepped.{is_change}
use Rattle.sp_model.proofs.Holding.{among-any}
use Rattle.sp_model.proofs.Sessions.{number-tell}
use Rattle.sp_ending.proofs.changes.is_changed.Goals as goal

pub returns-in-Some : goal.returns-in-Some
returns-in-Some c = λ e i named.
    let is = c.in-Some.ensures.stands in
    c.is_change.ensures ∙ ap (is_change c.args.txn) (one_of_number c.args.tree.now.table c.root-valid.ensures.valid c.in-Some.entry.now e is.among i (is.named ∙ sym named))

pub returns-in-None : goal.returns-in-None
returns-in-None c = λ e i named.
    absurd (true≢false (sym (among-any (nat_eq c.args.number) e.number (map (λ (z : Entry). z.number) (entries_of c.args.tree.now.table)) (among_map (λ (z : Entry). z.number) e (entries_of c.args.tree.now.table) i) (number-tell c.args.number e.number (sym named))) ∙ c.in-None.ensures.stands))
