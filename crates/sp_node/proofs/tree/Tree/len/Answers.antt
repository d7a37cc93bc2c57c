use Rattle.std.proofs.Common.{length, ◌∙◌, ap}
use Rattle.sp_node.specs.Plan.{Roomy}
use Rattle.sp_node.specs.Table.{Table, entries_of}
use Rattle.sp_node.proofs.Counting.{as_many_entries}
use Rattle.sp_node.proofs.tree.Tree.len.Goals as goal

pub returns : goal.returns
returns c =
    let t : Table = record { shape = c.self.inside.shape; root = c.self.inside.root; next = c.self.inside.next; nodes = c.self.inside.nodes.nodes } in
    c.len.ensures.len ∙ as_many_entries t c.self.inside.leaves.entries c.self.invariant.valid c.len.ensures.unique c.self.invariant.index
    ∙ ap (λ (s : Roomy). length (entries_of s.table)) c.self.view_is
