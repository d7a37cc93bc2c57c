use Rattle.std.proofs.Common.{subst, ◌↔◌, IsTrue, Bool, sym}
use Rattle.sp_rect.specs.Plane.{IsRectangle, Encloses}
use Rattle.sp_rect.proofs.Corners.{encloses_stored, encloses_Encloses}
use Rattle.sp_rect.proofs.rect.Rect.encloses.Goals as goal

pub returns-clause-value : goal.returns-clause-value
returns-clause-value c = encloses_stored _ _ _ _ c.self.invariant c.other.invariant c.self.view_is c.other.view_is

pub returns-clause-points : goal.returns-clause-points
returns-clause-points c =
    let vb = subst IsRectangle c.other.view_is c.other.invariant in
    let is = encloses_stored _ _ _ _ c.self.invariant c.other.invariant c.self.view_is c.other.view_is in
    subst (λ (b : Bool). IsTrue b ↔ Encloses c.args.self.now c.args.other.now) (sym is) (encloses_Encloses _ _ vb)
