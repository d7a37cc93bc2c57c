use Rattle.std.proofs.Common.{sym, subst, rules}
use Rattle.sp_node.specs.Index.{AreAllKnown, AreAllNoted}
use Rattle.sp_node.specs.Look.{look, entries_in}
use Rattle.sp_node.proofs.Known.{still_known, still_marked}
use Rattle.sp_node.proofs.tree.Tree.make_room.Goals as goal

pub invariant_of-self-2 : goal.invariant_of-self-2
invariant_of-self-2 c = record {
  valid = search rules;
  index = search rules;
  known = subst (AreAllKnown c.note_ids.new.ids) (sym c.in_ok-reserve.ensures.nodes) (λ k. still_known c.self.inside.ids c.note_ids.new.ids c.note_ids.ensures.kept (entries_in (look c.self.inside.nodes.nodes k)) (c.self.invariant.known k));
  noted = subst (AreAllNoted c.note_marks_in.new.noted) (sym c.in_ok-reserve.ensures.nodes) (λ k. still_marked c.self.inside.marks c.note_marks_in.new.noted c.note_marks_in.ensures.kept (entries_in (look c.self.inside.nodes.nodes k)) (c.self.invariant.noted k));
}
