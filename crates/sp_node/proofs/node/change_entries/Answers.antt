use Rattle.std.proofs.Common.{◌≡◌, false, List, ◌∙◌, sym, ap, subst, slice_set}
use Rattle.sp_node.specs.declared.node.Entry.{Entry}
use Rattle.sp_node.specs.First.{changed, IsPlaceOf}
use Rattle.sp_node.specs.Index.{has_number}
use Rattle.sp_node.proofs.Entries.{first_none, first_set, there}
use Rattle.sp_node.proofs.node.change_entries.Goals as goal

pub returns-in-Some : goal.returns-in-Some
returns-in-Some c =
    let es = c.args.entries.now.items in
    let p = subst (λ (xs : List Entry). IsPlaceOf c.args.number xs c.in-Some.at) c.as_slice.ensures.value c.in-Some.ensures in
    let e = c.change_entry.ensures ∙ ap (changed c.args.change) (there c.args.number (changed c.args.change) es c.in-Some.at p c.index_mut.result.now c.index_mut.ensures.value) in
    ap (slice_set es c.in-Some.at) e ∙ sym (first_set c.args.number (changed c.args.change) es c.in-Some.at p)

pub returns-in_default : goal.returns-in_default
returns-in_default c =
    sym (first_none c.args.number (changed c.args.change) c.args.entries.now.items (subst (λ (xs : List Entry). has_number xs c.args.number ≡ false) c.as_slice.ensures.value c.in_default.ensures))
