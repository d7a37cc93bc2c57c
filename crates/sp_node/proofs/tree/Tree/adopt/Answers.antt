use Rattle.std.proofs.Common.{ℕ, ◌∙◌, sym, ap, subst, List, None, cond}
use Rattle.std.specs.Prelude.{nat_eq}
use Rattle.std.specs.HashMap.{get}
use Rattle.sp_node.specs.declared.node.Node.{Node}
use Rattle.sp_node.specs.declared.plan.Part.{Part}
use Rattle.sp_node.specs.Plan.{with_parts, planned, Roomy, AreNoted, ArePartsNoted}
use Rattle.sp_node.specs.Index.{IsIndex, AreAllKnown, AreAllNoted}
use Rattle.sp_node.specs.Moving.{arrived, is_leaving}
use Rattle.sp_node.specs.Table.{Table, IsValid}
use Rattle.sp_node.proofs.Adopt.{index_after, known_after, noted_after}
use Rattle.sp_node.proofs.Moving.{arrived_as_noted, leaves_once}
use Rattle.sp_node.proofs.Single.{single_leaf}
use Rattle.sp_node.proofs.tree.Tree.adopt.Goals as goal

pub invariant_of-self : goal.invariant_of-self
invariant_of-self c =
    let before = c.self.inside.nodes.nodes in
    let ps = c.args.plan.parts in
    let t : Table = record { shape = c.self.inside.shape; root = c.args.plan.root; next = c.args.plan.next; nodes = with_parts before ps } in
    let valid : IsValid t = subst (λ (s : Roomy). IsValid (planned s.table c.args.plan)) (sym c.self.view_is) c.requires.made.valid in
    let single = single_leaf t valid in
    let was : Table = record { shape = c.self.inside.shape; root = c.self.inside.root; next = c.self.inside.next; nodes = before } in
    let index = index_after (λ q. get nat_eq c.self.inside.leaves q) (λ q. get nat_eq c.note.new.leaves q) before ps c.requires.made.ordered c.self.invariant.index single
    (λ q. c.note.ensures q ∙ ap (λ (xs : List Part). arrived before xs q (get nat_eq c.forget.new.leaves q)) c.as_slice-2.ensures ∙ ap (arrived before ps q) (c.forget.ensures.gone q ∙ ap (λ (xs : List Part). cond (is_leaving before xs q) None (get nat_eq c.self.inside.leaves q)) c.as_slice.ensures)
    ∙ arrived_as_noted (λ n. get nat_eq c.self.inside.leaves n) before ps c.requires.made.ordered c.self.invariant.index single (leaves_once was c.self.invariant.valid) q) in
    record {
      valid = subst (λ (ns : List (ℕ × Node)). IsValid (record { shape = c.self.inside.shape; root = c.args.plan.root; next = c.args.plan.next; nodes = ns })) (sym c.take.ensures) valid;
      index = subst (IsIndex (λ q. get nat_eq c.note.new.leaves q)) (sym c.take.ensures) index;
      known = subst (AreAllKnown c.forget_ids.new.ids) (sym c.take.ensures) (known_after c.self.inside.ids c.forget_ids.new.ids (λ q. get nat_eq c.note.new.leaves q) before ps c.self.invariant.known (subst (λ (r : Roomy). AreNoted r.known ps) (sym c.self.view_is) c.requires.room.ids) index c.forget_ids.ensures);
      noted = subst (AreAllNoted c.self.inside.marks) (sym c.take.ensures) (noted_after c.self.inside.marks (λ q. get nat_eq c.note.new.leaves q) before ps c.self.invariant.noted (subst (λ (r : Roomy). ArePartsNoted r.noted ps) (sym c.self.view_is) c.requires.room.marks) index);
    }
