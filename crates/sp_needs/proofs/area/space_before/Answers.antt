use Rattle.std.proofs.Common.{◌≡◌, ℕ, ◌∙◌, ap, sym}
use Rattle.std.specs.Prelude.{nat_eq}
use Rattle.std.specs.Option.{option_and_then}
use Rattle.sp_granule.specs.Granules.{granules}
use Rattle.sp_needs.specs.Areas.{leaf_space_in, leaf_space_at}
use Rattle.sp_needs.proofs.Granules.{leaf_space_is}
use Rattle.sp_needs.proofs.area.space_before.Goals as goal

pub returns-clause-space : goal.returns-clause-space
returns-clause-space c =
    let t = c.args.tree.now.table in
    let n = c.args.number in
    let node = c.in_ok-node.field-0.now in
    let is : leaf_space_in (nat_eq n c.root.result) node ≡ leaf_space_at (granules t) n =
    ap (λ (k : ℕ). leaf_space_in (nat_eq n k) node) c.root.ensures.value ∙ ap (option_and_then (leaf_space_in (nat_eq n t.root))) c.in_ok-node.ensures.value ∙ sym (leaf_space_is t c.root.ensures.valid n) in
    c.space_of_leaf.ensures ∙ is

pub returns-in_err-node-clause-space : goal.returns-in_err-node-clause-space
returns-in_err-node-clause-space c =
    let t = c.args.tree.now.table in
    let n = c.args.number in
    c.from_residual.ensures ∙ (ap (option_and_then (leaf_space_in (nat_eq n t.root))) c.in_err-node.ensures.value ∙ sym (leaf_space_is t c.root.ensures.valid n))
