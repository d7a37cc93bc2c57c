use Rattle.std.proofs.Common.{◌≡◌, List, [], sym, subst, arith}
use Rattle.std.proofs.lemmas.List.{take_all}
use Rattle.sp_rect.specs.declared.record.Record.{Record}
use Rattle.sp_node.specs.Table.{Table, empty_tree}
use Rattle.sp_model.specs.Opening.{IsRebuilt}
use Rattle.sp_opening.proofs.Rebuilt.{ready, one_more}
use Rattle.sp_opening.proofs.rebuilding.rebuild.Goals as goal

pub records-init : goal.records-init
records-init c =
    let is : c.in_ok-tree.tree.table ≡ empty_tree c.args.shape = c.in_ok-tree.ensures in
    subst (λ (t : Table). IsRebuilt c.args.shape [] t) (sym is) IsRebuilt.Empty

pub add-requires-clause-fresh : goal.add-requires-clause-fresh
add-requires-clause-fresh c = (ready c.args.shape c.args.records.now c.records.i c.records.tree.table c.requires.shape c.requires.ordered c.requires.few (omega arith) c.records.invariant).fresh

pub add-requires-clause-numbers : goal.add-requires-clause-numbers
add-requires-clause-numbers c = (ready c.args.shape c.args.records.now c.records.i c.records.tree.table c.requires.shape c.requires.ordered c.requires.few (omega arith) c.records.invariant).numbers

pub records-preserved : goal.records-preserved
records-preserved c = one_more c.args.shape c.args.records.now c.records.i c.index-records-i.result c.records.tree.table c.add.new.tree.table c.records-test.true c.index-records-i.is c.records.invariant c.in_ok-add.ensures

pub returns : goal.returns
returns c = subst (λ (rs : List Record). IsRebuilt c.args.shape rs c.records.tree.table) (take_all c.records.i c.args.records.now c.records-test.false) c.records.invariant
