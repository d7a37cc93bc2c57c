-- A rectangle that one of the others has whole.
use Rattle.std.proofs.Common.{◌≡◌, ℕ, zero, suc, ◌<◌, Bool, true, false, ◌&&◌, ◌||◌, not, List, [], ◌∷◌, map, length, get_or, refl, sym, ap, ◌∙◌, subst, arith}
use Rattle.std.specs.List.{list_any}
use Rattle.sp_rect.specs.Plane.{Rectangle, Point, holds, Encloses}
use Rattle.sp_region.specs.Region.{covered, is_left, LeavesAny}
use Rattle.sp_region.proofs.Points.{Holds-from_test, test-from_Holds}
use Rattle.sp_node.specs.declared.node.Child.{Child}

covered_at : (cs : List Child) (i : ℕ) (c : Child) (p : Point) → i < length cs → c ≡ get_or cs i c → holds c.rect p ≡ true → covered (map (λ c. c.rect) cs) p ≡ true
covered_at [] i c p l is h = absurd (omega (arith, l))
covered_at (x ∷ xs) zero c p l is h = ap (λ (b : Bool). b || covered (map (λ c. c.rect) xs) p) (ap (λ (y : Child). holds y.rect p) (sym is) ∙ h)
covered_at (x ∷ xs) (suc i) c p l is h = ap (λ (b : Bool). holds x.rect p || b) (covered_at xs i c p (omega (arith, l)) is h) ∙ either_true (holds x.rect p)
  where
    either_true : (b : Bool) → (b || true) ≡ true
    either_true true = refl
    either_true false = refl

-- the others leave nothing of it
pub none_left : (part : Rectangle) (cs : List Child) (i : ℕ) (c : Child) → i < length cs → c ≡ get_or cs i c → Encloses c.rect part → LeavesAny part (map (λ c. c.rect) cs) → ⊥
none_left part cs i c l is encloses left = go (holds part left.0) refl (covered (map (λ c. c.rect) cs) left.0) refl left.1
  where
    go : (a : Bool) → holds part left.0 ≡ a → (b : Bool) → covered (map (λ c. c.rect) cs) left.0 ≡ b → (a && not b) ≡ true → ⊥
    go true h true k e = cc
    go false h b k e = cc
    go true h false k e = clash (sym k ∙ covered_at cs i c left.0 l is (test-from_Holds c.rect left.0 (encloses left.0 (Holds-from_test part left.0 h))))
      where
        clash : false ≡ true → ⊥
        clash e = cc
