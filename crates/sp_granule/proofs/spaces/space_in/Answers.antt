use Rattle.std.proofs.Common.{◌≡◌, ◌∙◌, Option, is_some, ap, sym, arith}
use Rattle.sp_rect.specs.Plane.{Rectangle}
use Rattle.sp_node.specs.declared.node.Node.{Node}
use Rattle.sp_granule.specs.Granules.{granules, space_of}
use Rattle.sp_granule.proofs.Numbered.{root_space, no_space, place_space}
use Rattle.sp_granule.proofs.spaces.space_in.Goals as goal

pub returns-then-node-root-clause-value : goal.returns-then-node-root-clause-value
returns-then-node-root-clause-value c = sym (root_space c.args.overlay.now c.root.ensures.valid) ∙ ap (space_of (granules c.args.overlay.now)) (sym c.root.ensures.value ∙ sym c.if-node-root.true)

pub returns-in_err-node-clause-value : goal.returns-in_err-node-clause-value
returns-in_err-node-clause-value c = c.from_residual.ensures ∙ sym (no_space c.args.overlay.now c.root.ensures.valid c.args.node c.in_err-node.ensures.stands)

pub returns-clause-value : goal.returns-clause-value
returns-clause-value c =
    let apart : ¬ (c.args.node ≡ c.args.overlay.now.root) = λ e. let no : ⊥ = omega (arith, e, c.if-node-root.false, c.root.ensures.value) in no in
    c.bound_of_members.ensures ∙ (place_space c.args.overlay.now c.root.ensures.valid c.args.node c.in_ok-node.field-0.now apart c.in_ok-node.ensures.stands).0

pub returns-clause-some : goal.returns-clause-some
returns-clause-some c =
    let apart : ¬ (c.args.node ≡ c.args.overlay.now.root) = λ e. let no : ⊥ = omega (arith, e, c.if-node-root.false, c.root.ensures.value) in no in
    ap (λ (o : Option Rectangle). is_some o) c.bound_of_members.ensures ∙ (place_space c.args.overlay.now c.root.ensures.valid c.args.node c.in_ok-node.field-0.now apart c.in_ok-node.ensures.stands).1
    ∙ ap (λ (o : Option Node). is_some o) c.in_ok-node.ensures.value
