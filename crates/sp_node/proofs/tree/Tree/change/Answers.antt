use Rattle.std.proofs.Common.{◌≡◌, ℕ, List, Some, None, sym, ap, subst, ◌∙◌}
use Rattle.std.specs.Prelude.{nat_eq}
use Rattle.std.specs.HashMap.{get, spare}
use Rattle.sp_node.specs.declared.node.Entry.{Entry}
use Rattle.sp_node.specs.declared.node.Node.{Node}
use Rattle.sp_node.specs.Change.{at_number, nodes_with, roomy_with, Keeps}
use Rattle.sp_node.specs.First.{changed, IsChangeNoted}
use Rattle.sp_node.specs.Index.{IsIndex, AreAllKnown, AreAllNoted}
use Rattle.sp_node.specs.Plan.{Roomy}
use Rattle.sp_node.specs.Table.{Table, IsValid}
use Rattle.sp_node.proofs.Changed.{valid_with, index_with, known_with}
use Rattle.sp_node.proofs.Marking.{change_in_leaf, change_nowhere, changed_keeps, at_keeps}
use Rattle.sp_node.proofs.Noting.{noted_with}
use Rattle.sp_node.proofs.tree.Tree.change.Goals as goal

-- the nodes are those with the entry changed
made : (c : goal.After-change) → c.change.new.self.nodes ≡ nodes_with (at_number c.args.entry (changed c.args.change)) c.self.inside.nodes.nodes
made c =
    let t : Table = record { shape = c.self.inside.shape; root = c.self.inside.root; next = c.self.inside.next; nodes = c.self.inside.nodes.nodes } in
    let leaf : get nat_eq c.self.inside.leaves c.args.entry ≡ Some c.in-Some.leaf = sym (sym c.in-Some.is ∙ c.copied.ensures ∙ c.get.ensures.value) in
    c.change.ensures.nodes ∙ change_in_leaf t c.self.invariant.valid (λ q. get nat_eq c.self.inside.leaves q) c.self.invariant.index c.args.entry (changed c.args.change) c.in-Some.leaf leaf

pub invariant_of-self : goal.invariant_of-self
invariant_of-self c =
    let before = c.self.inside.nodes.nodes in
    let t : Table = record { shape = c.self.inside.shape; root = c.self.inside.root; next = c.self.inside.next; nodes = before } in
    let change : Entry → Entry = at_number c.args.entry (changed c.args.change) in
    let keeps : Keeps change = at_keeps c.args.entry (changed c.args.change) (changed_keeps c.args.change) in
    record {
      valid = subst (λ (ns : List (ℕ × Node)). IsValid (record { shape = c.self.inside.shape; root = c.self.inside.root; next = c.self.inside.next; nodes = ns })) (sym (made c)) (valid_with change keeps t c.self.invariant.valid);
      index = subst (IsIndex (λ q. get nat_eq c.self.inside.leaves q)) (sym (made c)) (index_with change keeps (λ q. get nat_eq c.self.inside.leaves q) before c.self.invariant.index);
      known = subst (AreAllKnown c.self.inside.ids) (sym (made c)) (known_with change keeps c.self.inside.ids before c.self.invariant.known);
      noted = subst (AreAllNoted c.self.inside.marks) (sym (made c)) (noted_with c.self.inside.marks c.args.entry c.args.change before (subst (λ (r : Roomy). IsChangeNoted r.noted c.args.entry c.args.change) (sym c.self.view_is) c.requires) c.self.invariant.noted);
    }

pub returns-in-Some : goal.returns-in-Some
returns-in-Some c =
    let room : Roomy → List (ℕ × Node) → ℕ → Roomy = λ r ns n. record { table = record { shape = r.table.shape; root = r.table.root; next = r.table.next; nodes = ns }; node_room = n; entry_room = r.entry_room; known = r.known; noted = r.noted } in
    let r : Roomy = record { table = record { shape = c.self.inside.shape; root = c.self.inside.root; next = c.self.inside.next; nodes = c.self.inside.nodes.nodes }; node_room = c.self.inside.nodes.room; entry_room = spare c.self.inside.leaves; known = c.self.inside.ids; noted = c.self.inside.marks } in
    ap (λ (ns : List (ℕ × Node)). room r ns c.change.new.self.room) (made c) ∙ ap (λ (n : ℕ). room r (nodes_with (at_number c.args.entry (changed c.args.change)) c.self.inside.nodes.nodes) n) c.change.ensures.room
    ∙ ap (roomy_with (at_number c.args.entry (changed c.args.change))) c.self.view_is

pub returns-in_default : goal.returns-in_default
returns-in_default c =
    let t : Table = record { shape = c.self.inside.shape; root = c.self.inside.root; next = c.self.inside.next; nodes = c.self.inside.nodes.nodes } in
    let leaf : get nat_eq c.self.inside.leaves c.args.entry ≡ None = sym (sym c.in_default.is ∙ c.copied.ensures ∙ c.get.ensures.value) in
    let same = change_nowhere t c.self.invariant.valid (λ q. get nat_eq c.self.inside.leaves q) c.self.invariant.index c.args.entry (changed c.args.change) leaf in
    let room : Roomy → List (ℕ × Node) → Roomy = λ r ns. record { table = record { shape = r.table.shape; root = r.table.root; next = r.table.next; nodes = ns }; node_room = r.node_room; entry_room = r.entry_room; known = r.known; noted = r.noted } in
    let is : t ≡ c.args.self.now.table = ap (λ (s : Roomy). s.table) c.self.view_is in
    ap (room c.args.self.now) (subst (λ (u : Table). u.nodes ≡ nodes_with (at_number c.args.entry (changed c.args.change)) u.nodes) is same)
