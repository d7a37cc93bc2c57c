use Rattle.std.proofs.Common.{◌≡◌, Bool, List, Option, Some, sym, ◌∙◌}
use Rattle.sp_rect.specs.Plane.{Rectangle}
use Rattle.sp_ops.specs.declared.areas.Area.{Area}
use Rattle.sp_ops.proofs.ByNumber.{no_area, node_area}
use Rattle.sp_ops.proofs.areas.area_of.Goals as goal

flagged : (a b : Bool) (s : Rectangle) (hs ks : List Rectangle) → a ≡ b → hs ≡ ks → ◌≡◌ {A = Option Area} (Some (record { is_leaf = a; space = s; holes = hs })) (Some (record { is_leaf = b; space = s; holes = ks }))
flagged a b s hs ks e f = cc

pub returns-in_default : goal.returns-in_default
returns-in_default c = sym (no_area c.args.tree.now c.in_default.ensures.valid c.args.number (sym c.in_default.ensures.value))

pub returns : goal.returns
returns c =
    flagged c.is_leaf.result _ c.in-Some-space_in.space c.in_ok-holes.holes _ c.is_leaf.ensures c.in_ok-holes.ensures
    ∙ sym (node_area c.args.tree.now c.in-Some.ensures.valid c.args.number c.in-Some.node.now c.in-Some-space_in.space (sym c.in-Some.ensures.value) (sym c.in-Some-space_in.ensures.value))
