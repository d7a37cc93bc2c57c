use Rattle.sp_node.specs.Known.{IsNoted}
use Rattle.sp_node.specs.Look.{look, entries_in}
use Rattle.sp_node.specs.Table.{Table}
use Rattle.sp_node.proofs.Known.{still_marked}
use Rattle.sp_node.proofs.Standing.{all_entries}
use Rattle.sp_node.proofs.tree.Tree.note_marks.Goals as goal

pub returns-clause-all : goal.returns-clause-all
returns-clause-all c =
    let t : Table = record { shape = c.self.inside.shape; root = c.self.inside.root; next = c.self.inside.next; nodes = c.self.inside.nodes.nodes } in
    all_entries t c.self.invariant.valid (λ e. IsNoted c.note_marks.new.noted e.number e.marks) (λ k. still_marked c.self.inside.marks c.note_marks.new.noted c.note_marks.ensures.kept (entries_in (look t.nodes k)) (c.self.invariant.noted k))
