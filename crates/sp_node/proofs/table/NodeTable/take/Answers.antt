use Rattle.std.proofs.Common.{◌≡◌, ℕ, List, [], ◌∷◌, ◌++◌, length, ◌∙◌, sym, ap, arith}
use Rattle.std.proofs.lemmas.List.{length-append}
use Rattle.sp_node.specs.declared.node.Node.{Node}
use Rattle.sp_node.specs.Plan.{with_part, with_parts}
use Rattle.sp_node.proofs.Adopt.{with_parts_last}
use Rattle.sp_node.proofs.table.NodeTable.take.Goals as goal

pub loop-part-preserved-in-Now : goal.loop-part-preserved-in-Now
loop-part-preserved-in-Now c =
    let is : c.loop-part.parts.items ≡ c.pop.new.self.items ++ c.in-Some.part ∷ [] = c.in-Some.ensures.items in
    record {
      room = omega (arith, ap length is, length-append c.pop.new.self.items (c.in-Some.part ∷ []), c.put.ensures.room, c.loop-part.invariant.room);
      nodes = ap (λ (ns : List (ℕ × Node)). with_parts ns c.pop.new.self.items) (c.put.ensures.nodes ∙ ap (with_part c.loop-part.self.nodes) (sym c.in-Now.is)) ∙ sym (with_parts_last c.loop-part.self.nodes c.pop.new.self.items c.in-Some.part) ∙ ap (with_parts c.loop-part.self.nodes) (sym is) ∙ c.loop-part.invariant.nodes;
    }

pub loop-part-preserved : goal.loop-part-preserved
loop-part-preserved c =
    let is : c.loop-part.parts.items ≡ c.pop.new.self.items ++ c.in-Some.part ∷ [] = c.in-Some.ensures.items in
    record {
      room = omega (arith, ap length is, length-append c.pop.new.self.items (c.in-Some.part ∷ []), c.remove.ensures.room, c.loop-part.invariant.room);
      nodes = ap (λ (ns : List (ℕ × Node)). with_parts ns c.pop.new.self.items) (c.remove.ensures.nodes ∙ ap (with_part c.loop-part.self.nodes) (sym c.in-Gone.is)) ∙ sym (with_parts_last c.loop-part.self.nodes c.pop.new.self.items c.in-Some.part) ∙ ap (with_parts c.loop-part.self.nodes) (sym is) ∙ c.loop-part.invariant.nodes;
    }
