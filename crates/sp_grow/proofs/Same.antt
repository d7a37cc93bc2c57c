-- When two children are the same.
use Rattle.std.proofs.Common.{◌≡◌, ℕ, Bool, true, false, ◌&&◌, ℤ, int_eq, IsTrue, refl, sym, ◌∙◌, subst, arith}
use Rattle.std.specs.Prelude.{nat_eq}
use Rattle.std.proofs.lemmas.Bool.Decides.{Decides-int_eq, nat_tests}
use Rattle.sp_node.specs.declared.node.Child.{Child}

abbrev test : Child → Child → Bool
test a c = (int_eq a.rect.x1 c.rect.x1 && (int_eq a.rect.y1 c.rect.y1 && (int_eq a.rect.x2 c.rect.x2 && int_eq a.rect.y2 c.rect.y2))) && nat_eq a.node c.node

both : (a b : Bool) → (a && b) ≡ true → (a ≡ true) × (b ≡ true)
both true b e = (refl, e)
both false b e = cc

join : (a b : Bool) → a ≡ true → b ≡ true → (a && b) ≡ true
join a b e d = cc

int_same : (x y : ℤ) → int_eq x y ≡ true → x ≡ y
int_same x y e = grind (arith, Decides-int_eq x y)

int_self : (x : ℤ) → int_eq x x ≡ true
int_self x = grind (arith, Decides-int_eq x x)

nat_same : (x y : ℕ) → nat_eq x y ≡ true → x ≡ y
nat_same x y e = grind (arith, nat_tests)

nat_self : (x : ℕ) → nat_eq x x ≡ true
nat_self x = grind (arith, nat_tests)

pub same_child : (a c : Child) (b : Bool) → b ≡ test a c → (IsTrue b → a ≡ c) × (a ≡ c → IsTrue b)
same_child a c b e = (λ t. forth (sym e ∙ t), λ s. e ∙ back s)
  where
    forth : test a c ≡ true → a ≡ c
    forth h =
        let all = both (int_eq a.rect.x1 c.rect.x1 && (int_eq a.rect.y1 c.rect.y1 && (int_eq a.rect.x2 c.rect.x2 && int_eq a.rect.y2 c.rect.y2))) (nat_eq a.node c.node) h in
        let r = both (int_eq a.rect.x1 c.rect.x1) (int_eq a.rect.y1 c.rect.y1 && (int_eq a.rect.x2 c.rect.x2 && int_eq a.rect.y2 c.rect.y2)) all.0 in
        let s = both (int_eq a.rect.y1 c.rect.y1) (int_eq a.rect.x2 c.rect.x2 && int_eq a.rect.y2 c.rect.y2) r.1 in
        let t = both (int_eq a.rect.x2 c.rect.x2) (int_eq a.rect.y2 c.rect.y2) s.1 in
        let e1 = int_same a.rect.x1 c.rect.x1 r.0 in
        let e2 = int_same a.rect.y1 c.rect.y1 s.0 in
        let e3 = int_same a.rect.x2 c.rect.x2 t.0 in
        let e4 = int_same a.rect.y2 c.rect.y2 t.1 in
        let e5 = nat_same a.node c.node all.1 in
        λ i. record { rect = record { x1 = e1 i; y1 = e2 i; x2 = e3 i; y2 = e4 i }; node = e5 i }

    self : (a : Child) → test a a ≡ true
    self a = join _ (nat_eq a.node a.node) (join (int_eq a.rect.x1 a.rect.x1) _ (int_self a.rect.x1) (join (int_eq a.rect.y1 a.rect.y1) _ (int_self a.rect.y1) (join (int_eq a.rect.x2 a.rect.x2) (int_eq a.rect.y2 a.rect.y2) (int_self a.rect.x2) (int_self a.rect.y2)))) (nat_self a.node)

    back : a ≡ c → test a c ≡ true
    back s = subst (λ (d : Child). test a d ≡ true) s (self a)
