use Rattle.std.proofs.Common.{◌≡◌, ◌<◌, ◌+◌, ◌-◌, ◌++◌, ◌^◌, ℕ, Some, length, take, drop, List, get_or, refl, sym, ap, ◌∙◌, subst, arith, rules}
use Rattle.std.proofs.lemmas.List.{take_all, length-drop}
use Rattle.std.proofs.lemmas.Result.{IfOk-weaker}
use Rattle.sp_node.specs.declared.node.Child.{Child}
use Rattle.sp_node.specs.declared.node.Entry.{Entry}
use Rattle.sp_node.specs.declared.node.Shape.{Shape}
use Rattle.sp_node.specs.declared.node.Node.TheVariants.{Leaf, Inner}
use Rattle.sp_node.specs.Index.{has_number}
use Rattle.sp_node.specs.Look.{look}
use Rattle.sp_node.specs.Table.{Table}
use Rattle.sp_grow.specs.Below.{IsSpot, no_child}
use Rattle.sp_condense.specs.declared.rest.Rest.{Rest}
use Rattle.sp_condense.specs.Taking.{IsHere, IsAbove, IsTaken}
use Rattle.sp_condense.specs.Way.{LeadsTo}
use Rattle.sp_condense.proofs.Taken.{taken_leaf, taken_inner}
use Rattle.sp_condense.proofs.Ways.{leaf_has, not_empty, onward}
use Rattle.sp_condense.proofs.rest.+take_below.Goals as goal

pub take_entry-requires : goal.take_entry-requires
take_entry-requires t c =
    let is : look c.args.tree.now.table.nodes c.args.number ≡ Some (Leaf c.in-Some-Leaf.entries) = sym c.in-Some-Leaf.ensures.value ∙ ap Some c.in-Some-Leaf.field-0-is in
    ap (λ (es : List Entry). has_number es c.args.entry) c.as_slice.ensures ∙ leaf_has c.args.tree.now.table c.args.number c.args.path.now c.args.entry c.requires c.in-Some-Leaf.entries is

pub bounds-children-at : goal.bounds-children-at
bounds-children-at t c =
    let is : look c.args.tree.now.table.nodes c.args.number ≡ Some (Inner c.in-Some-Inner.children) = sym c.in-Some-Inner.ensures.value ∙ ap Some c.in-Some-Inner.field-0-is in
    let on = onward c.args.tree.now.table c.args.number c.args.path.now c.args.entry c.in-Some-Inner.children is c.requires in
    let within = on.within 0 in
    omega (arith, within, ap (λ (ds : List Child). length ds) c.as_slice-children.ensures)

pub bounds-children-at-in-Some-Inner : goal.bounds-children-at-in-Some-Inner
bounds-children-at-in-Some-Inner t c =
    let is : look c.args.tree.now.table.nodes c.args.number ≡ Some (Inner c.in-Some-Inner.children) = sym c.in-Some-Inner.ensures.value ∙ ap Some c.in-Some-Inner.field-0-is in
    let on = onward c.args.tree.now.table c.args.number c.args.path.now c.args.entry c.in-Some-Inner.children is c.requires in
    let within = on.within 0 in
    omega (arith, within, ap (λ (ds : List Child). length ds) c.as_slice-children.ensures)

pub offset_bounds-children-at : goal.offset_bounds-children-at
offset_bounds-children-at t c =
    let is : look c.args.tree.now.table.nodes c.args.number ≡ Some (Inner c.in-Some-Inner.children) = sym c.in-Some-Inner.ensures.value ∙ ap Some c.in-Some-Inner.field-0-is in
    let on = onward c.args.tree.now.table c.args.number c.args.path.now c.args.entry c.in-Some-Inner.children is c.requires in
    let within : get_or c.args.path.now 0 0 < length c.as_slice-children.result.now = subst (λ (ds : List Child). get_or c.args.path.now 0 0 < length ds) (sym c.as_slice-children.ensures) (on.within 0) in
    search rules

pub take_below-requires : goal.take_below-requires
take_below-requires t c =
    let is : look c.args.tree.now.table.nodes c.args.number ≡ Some (Inner c.in-Some-Inner.children) = sym c.in-Some-Inner.ensures.value ∙ ap Some c.in-Some-Inner.field-0-is in
    let on = onward c.args.tree.now.table c.args.number c.args.path.now c.args.entry c.in-Some-Inner.children is c.requires in
    let some = on.some in
    let rest = subst (λ (ds : List Child). LeadsTo c.args.tree.now.table (get_or ds (get_or c.args.path.now 0 0) c.index-children-at.result).node (drop 1 c.args.path.now) c.args.entry) (sym c.as_slice-children.ensures) (on.rest 0 c.index-children-at.result) in
    let whole : take (length c.args.path.now - 1) (drop 1 c.args.path.now) ≡ drop 1 c.args.path.now = take_all (length c.args.path.now - 1) (drop 1 c.args.path.now) (omega (arith, length-drop 1 c.args.path.now)) in
    (omega (arith, some, c.decreases), subst (λ (is : List ℕ). LeadsTo c.args.tree.now.table (get_or c.as_slice-children.result.now (get_or c.args.path.now 0 0) c.index-children-at.result).node is c.args.entry) (sym whole) rest)

pub above-requires-clause-within : goal.above-requires-clause-within
above-requires-clause-within t c =
    let is : look c.args.tree.now.table.nodes c.args.number ≡ Some (Inner c.in-Some-Inner.children) = sym c.in-Some-Inner.ensures.value ∙ ap Some c.in-Some-Inner.field-0-is in
    let on = onward c.args.tree.now.table c.args.number c.args.path.now c.args.entry c.in-Some-Inner.children is c.requires in
    let within = on.within 0 in
    omega (arith, within, ap (λ (ds : List Child). length ds) c.as_slice-children.ensures)

pub unreachable-requires : goal.unreachable-requires
unreachable-requires t c = not_empty c.args.tree.now.table c.args.number c.args.path.now c.args.entry c.requires (sym c.in-None.ensures.value)

pub returns-in_ok-items-in-Some-Leaf : goal.returns-in_ok-items-in-Some-Leaf
returns-in_ok-items-in-Some-Leaf t c =
    let is : look c.args.tree.now.table.nodes c.args.number ≡ Some (Leaf c.in-Some-Leaf.entries) = sym c.in-Some-Leaf.ensures.value ∙ ap Some c.in-Some-Leaf.field-0-is in
    let taken = subst (λ (es : List Entry). (i : ℕ) × IsHere es c.args.entry i × (c.in_ok-items-in-Some-Leaf.items ≡ take i es ++ drop (i + 1) es)) c.as_slice.ensures c.in_ok-items-in-Some-Leaf.ensures in
    let rest : Rest = record { node = Leaf c.in_ok-items-in-Some-Leaf.items; parts = c.new.result; orphans = c.new-in-Some-Leaf.result } in
    λ level spot h. taken_leaf c.args.tree.now.table c.args.entry c.args.number c.args.depth c.in-Some-Leaf.entries c.in_ok-items-in-Some-Leaf.items is taken.0 taken.1 taken.2 rest refl c.new.ensures c.new-in-Some-Leaf.ensures.items level spot

pub returns-in_ok-below-in-Some-Inner : goal.returns-in_ok-below-in-Some-Inner
returns-in_ok-below-in-Some-Inner t c =
    let table : Table = c.args.tree.now.table in
    let cs : List Child = c.in-Some-Inner.children in
    let at : ℕ = get_or c.args.path.now 0 0 in
    let below : Rest = c.in_ok-below-in-Some-Inner.below in
    let d : Child = c.index-children-at.result in
    let deep : ℕ = c.saturating_add-deeper.result in
    let same : c.as_slice-children.result.now ≡ c.in-Some-Inner.children = c.as_slice-children.ensures in
    let is : look c.args.tree.now.table.nodes c.args.number ≡ Some (Inner c.in-Some-Inner.children) = sym c.in-Some-Inner.ensures.value ∙ ap Some c.in-Some-Inner.field-0-is in
    let on = onward c.args.tree.now.table c.args.number c.args.path.now c.args.entry c.in-Some-Inner.children is c.requires in
    let deeper : c.args.depth + 1 < 2 ^ 63 → c.saturating_add-deeper.result ≡ c.args.depth + 1 = λ h. omega (arith, c.saturating_add-deeper.ensures, h) in
    let comes = subst (λ (ds : List Child). (level : ℕ) → IsSpot table level (get_or ds at d).node → deep + level < 2 ^ 63 → IsTaken table c.args.entry level (get_or ds at d).node deep below) c.as_slice-children.ensures c.in_ok-below-in-Some-Inner.ensures in
    IfOk-weaker c.above.result (λ (rest : Rest). IsAbove c.shape.result.min c.as_slice-children.result.now at (get_or c.as_slice-children.result.now at no_child) deep below rest) (λ (rest : Rest). (level : ℕ) → IsSpot table level c.args.number → c.args.depth + level < 2 ^ 63 → IsTaken table c.args.entry level c.args.number c.args.depth rest)
    (λ rest a. taken_inner table c.args.entry c.args.number c.args.depth cs is at (on.within 0) deep deeper d below rest comes (subst (λ (h : Shape). IsAbove h.min cs at (get_or cs at no_child) deep below rest) c.shape.ensures.value (subst (λ (ds : List Child). IsAbove c.shape.result.min ds at (get_or ds at no_child) deep below rest) same a)))
    c.above.ensures
