use Rattle.std.proofs.Common.{ℕ, List, ◌≡◌, ◌++◌, ◌∷◌, [], ap, sym, ◌∙◌, subst, arith}
use Rattle.sp_node.specs.declared.marks.Marks.{Marks}
use Rattle.sp_node.specs.Plan.{Roomy}
use Rattle.sp_apply.specs.Noted.{AreNoted}
use Rattle.sp_apply.proofs.EachMark.{marked_each, marked_each-last, marks_one_by_one, noted_last, nothing_left}
use Rattle.sp_apply.proofs.marking.mark_all.Goals as goal

pub marks-preserved : goal.marks-preserved
marks-preserved c =
    let ms = c.pop.new.self.items in
    let m = c.in-Some.mark in
    let t = c.marks.tree.table in
    let is : c.marks.marks.items ≡ ms ++ m ∷ [] = c.in-Some.ensures.items in
    let room = noted_last c.marks.tree.noted ms m (subst (AreNoted c.marks.tree.noted) is c.marks.invariant.noted) in record {
      table = ap (λ (r : Roomy). marked_each ms r.table) c.mark.ensures ∙ sym (marked_each-last ms m t) ∙ ap (λ (ns : List (ℕ × Marks)). marked_each ns t) (sym is) ∙ c.marks.invariant.table;
      noted = subst (λ (r : Roomy). AreNoted r.noted ms) (sym c.mark.ensures) room.0;
    }

pub mark-requires : goal.mark-requires
mark-requires c = (noted_last c.marks.tree.noted c.pop.new.self.items c.in-Some.mark (subst (AreNoted c.marks.tree.noted) c.in-Some.ensures.items c.marks.invariant.noted)).1

pub returns : goal.returns
returns c txn op are =
    let none = nothing_left c.marks.marks.items (let empty = c.in_default.ensures.cases.0 in omega (arith, empty, c.marks.marks.ok.0)) in
    ap (λ (ms : List (ℕ × Marks)). marked_each ms c.marks.tree.table) (sym none) ∙ c.marks.invariant.table ∙ marks_one_by_one c.args.tree.now.table txn op c.args.marks.items c.root-valid.ensures.valid are
