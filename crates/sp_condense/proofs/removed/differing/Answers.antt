use Rattle.std.proofs.Common.{◌≡◌, ◌++◌, ◌∷◌, [], List, length, arith, refl, sym, ap, ◌∙◌, subst}
use Rattle.std.proofs.lemmas.List.{append-nil}
use Rattle.sp_node.specs.declared.plan.Part.{Part}
use Rattle.sp_condense.specs.Staging.{IsSettled}
use Rattle.sp_condense.proofs.Done.{settled_more, joined_lists}
use Rattle.sp_condense.proofs.removed.differing.Goals as goal

empty_of : (xs : List Part) → length xs ≡ 0 → xs ≡ []
empty_of [] e = refl
empty_of (x ∷ xs) e = absurd (omega arith)

pub loop-part-init : goal.loop-part-init
loop-part-init c = ([], sym (append-nil c.args.parts.items), c.new-kept.ensures)

pub loop-part-preserved : goal.loop-part-preserved
loop-part-preserved c =
    let before = c.loop-part.invariant in
    let is : c.loop-part.parts.items ≡ c.pop.new.self.items ++ c.in-Some.part ∷ [] = c.in-Some.ensures.items in (
      c.in-Some.part ∷ before.0,
      before.1 ∙ ap (λ (xs : List Part). xs ++ before.0) is ∙ joined_lists c.pop.new.self.items (c.in-Some.part ∷ []) before.0,
      settled_more c.args.tree.now.table.nodes c.in-Some.part before.0 c.loop-part.kept c.keep_if.new.kept c.in_ok-keep_if.ensures before.2,
    )

pub returns : goal.returns
returns c =
    let before = c.loop-part.invariant in
    let x = c.in_default.ensures in
    let empty : c.loop-part.parts.items ≡ [] = empty_of c.loop-part.parts.items (omega (arith, x.cases.0, c.loop-part.parts.ok)) in
    subst (λ (xs : List Part). IsSettled c.args.tree.now.table.nodes xs c.loop-part.kept) (sym (before.1 ∙ ap (λ (xs : List Part). xs ++ before.0) empty)) before.2
