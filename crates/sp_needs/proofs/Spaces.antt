-- The test that two spaces are the same.
use Rattle.std.proofs.Common.{◌≡◌, ℕ, Bool, true, ◌&&◌, ℤ, int_eq, ◌↔◌, List, Option, Some, sym, ap, ◌∙◌, subst, arith}
use Rattle.std.proofs.lemmas.Bool.Decides.{Decides-int_eq}
use Rattle.sp_rect.specs.Plane.{Rectangle}
use Rattle.sp_region.proofs.Points.{both_pass, each_passes}
use Rattle.sp_granule.specs.Granules.{Granule}
use Rattle.sp_needs.specs.Areas.{leaf_space_at}
use Rattle.sp_needs.specs.Affected.{IsSameLeaf}

abbrev pub same_space : Rectangle → Rectangle → Bool
same_space a b = int_eq a.x1 b.x1 && (int_eq a.y1 b.y1 && (int_eq a.x2 b.x2 && int_eq a.y2 b.y2))

int_same : (x y : ℤ) → int_eq x y ≡ true → x ≡ y
int_same x y e = grind (arith, Decides-int_eq x y)

int_self : (x : ℤ) → int_eq x x ≡ true
int_self x = grind (arith, Decides-int_eq x x)

pub same_from : (a b : Rectangle) → same_space a b ≡ true → a ≡ b
same_from a b h =
    let p = each_passes (int_eq a.x1 b.x1) (int_eq a.y1 b.y1 && (int_eq a.x2 b.x2 && int_eq a.y2 b.y2)) h in
    let q = each_passes (int_eq a.y1 b.y1) (int_eq a.x2 b.x2 && int_eq a.y2 b.y2) p.1 in
    let r = each_passes (int_eq a.x2 b.x2) (int_eq a.y2 b.y2) q.1 in
    ap (λ (z : ℤ). record { x1 = z; y1 = a.y1; x2 = a.x2; y2 = a.y2 }) (int_same a.x1 b.x1 p.0)
    ∙ ap (λ (z : ℤ). record { x1 = b.x1; y1 = z; x2 = a.x2; y2 = a.y2 }) (int_same a.y1 b.y1 q.0)
    ∙ ap (λ (z : ℤ). record { x1 = b.x1; y1 = b.y1; x2 = z; y2 = a.y2 }) (int_same a.x2 b.x2 r.0)
    ∙ ap (λ (z : ℤ). record { x1 = b.x1; y1 = b.y1; x2 = b.x2; y2 = z }) (int_same a.y2 b.y2 r.1)

pub same_self : (a : Rectangle) → same_space a a ≡ true
same_self a = both_pass (int_eq a.x1 a.x1) (int_eq a.y1 a.y1 && (int_eq a.x2 a.x2 && int_eq a.y2 a.y2)) (int_self a.x1)
    (both_pass (int_eq a.y1 a.y1) (int_eq a.x2 a.x2 && int_eq a.y2 a.y2) (int_self a.y1) (both_pass (int_eq a.x2 a.x2) (int_eq a.y2 a.y2) (int_self a.x2) (int_self a.y2)))

-- leaves of these spaces are the same exactly where the test says so
pub same_leaf_is : (gs gs' : List Granule) (n : ℕ) (a b : Rectangle) → leaf_space_at gs n ≡ Some a → leaf_space_at gs' n ≡ Some b → same_space a b ≡ true ↔ IsSameLeaf gs gs' n
same_leaf_is gs gs' n a b e f = (
  λ h. (a, e, f ∙ ap (λ (r : Rectangle). Some r) (sym (same_from a b h))),
  λ h. let left : h.0 ≡ a = one_space (leaf_space_at gs n) h.0 a h.1 e in
      let right : h.0 ≡ b = one_space (leaf_space_at gs' n) h.0 b h.2 f in
      subst (λ (r : Rectangle). same_space a r ≡ true) (sym left ∙ right) (same_self a),
)
  where
    one_space : (o : Option Rectangle) (r s : Rectangle) → o ≡ Some r → o ≡ Some s → r ≡ s
    one_space o r s e f = cc
