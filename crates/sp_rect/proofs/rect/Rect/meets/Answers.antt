use Rattle.std.proofs.Common.{subst, ◌↔◌, IsTrue, Bool, sym}
use Rattle.sp_rect.specs.Plane.{IsRectangle, Meet}
use Rattle.sp_rect.proofs.Corners.{meets_stored, meets_Meet}
use Rattle.sp_rect.proofs.rect.Rect.meets.Goals as goal

pub returns-clause-value : goal.returns-clause-value
returns-clause-value c = meets_stored _ _ _ _ c.self.invariant c.other.invariant c.self.view_is c.other.view_is

pub returns-clause-points : goal.returns-clause-points
returns-clause-points c =
    let va = subst IsRectangle c.self.view_is c.self.invariant in
    let vb = subst IsRectangle c.other.view_is c.other.invariant in
    let is = meets_stored _ _ _ _ c.self.invariant c.other.invariant c.self.view_is c.other.view_is in
    subst (λ (b : Bool). IsTrue b ↔ Meet c.args.self.now c.args.other.now) (sym is) (meets_Meet _ _ va vb)
