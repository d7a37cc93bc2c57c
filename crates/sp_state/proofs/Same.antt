-- Rectangles that the test of their corners takes for the same.
use Rattle.std.proofs.Common.{◌≡◌, Bool, true, false, ◌&&◌, ℤ, int_eq, ap, ◌∙◌, arith}
use Rattle.std.proofs.lemmas.Bool.Decides.{Decides-int_eq}
use Rattle.sp_rect.specs.Plane.{Rectangle}

abbrev pub same_corners : Rectangle → Rectangle → Bool
same_corners a b = int_eq a.x1 b.x1 && (int_eq a.y1 b.y1 && (int_eq a.x2 b.x2 && int_eq a.y2 b.y2))

int_same : (x y : ℤ) → int_eq x y ≡ true → x ≡ y
int_same x y e = grind (arith, Decides-int_eq x y)

each : (p q : Bool) → (p && q) ≡ true → (p ≡ true) × (q ≡ true)
each true true e = (e, e)
each true false e = cc
each false q e = cc

pub same_from : (a b : Rectangle) → same_corners a b ≡ true → a ≡ b
same_from a b h =
    let p = each (int_eq a.x1 b.x1) (int_eq a.y1 b.y1 && (int_eq a.x2 b.x2 && int_eq a.y2 b.y2)) h in
    let q = each (int_eq a.y1 b.y1) (int_eq a.x2 b.x2 && int_eq a.y2 b.y2) p.1 in
    let r = each (int_eq a.x2 b.x2) (int_eq a.y2 b.y2) q.1 in
    ap (λ (z : ℤ). record { x1 = z; y1 = a.y1; x2 = a.x2; y2 = a.y2 }) (int_same a.x1 b.x1 p.0)
    ∙ ap (λ (z : ℤ). record { x1 = b.x1; y1 = z; x2 = a.x2; y2 = a.y2 }) (int_same a.y1 b.y1 q.0)
    ∙ ap (λ (z : ℤ). record { x1 = b.x1; y1 = b.y1; x2 = z; y2 = a.y2 }) (int_same a.x2 b.x2 r.0)
    ∙ ap (λ (z : ℤ). record { x1 = b.x1; y1 = b.y1; x2 = b.x2; y2 = z }) (int_same a.y2 b.y2 r.1)
