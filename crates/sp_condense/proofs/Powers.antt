-- A tree has few levels.
use Rattle.std.proofs.Common.{◌≡◌, ℕ, zero, suc, ◌+◌, ◌-◌, ◌*◌, ◌^◌, ◌<◌, ◌≤◌, ◌⊎◌, inl, inr, List, [], ◌∷◌, ◌++◌, length, refl, ◌∙◌, subst, arith}
use Rattle.std.specs.Prelude.{nat_eq}
use Rattle.std.specs.List.{AllByRecursion, IsDistinct, flat_map}
use Rattle.std.proofs.lemmas.Bool.{cases_lt}
use Rattle.std.proofs.lemmas.List.{length-append}
use Rattle.std.proofs.lemmas.Map.Steps.{length-le_from_distinct_below}
use Rattle.sp_node.specs.declared.node.Shape.{Shape}
use Rattle.sp_node.specs.Nested.{Body, Branch, AreSound}
use Rattle.sp_node.specs.Table.{IsShape}
use Rattle.sp_split.proofs.Members.{among_all}
use Rattle.sp_grow.specs.Below.{numbers}
use Rattle.sp_grow.proofs.Fits.{IsChild}

abbrev two_pow : ℕ → ℕ
two_pow zero = 1
two_pow (suc n) = 2 * two_pow n

abbrev plus : ℕ → ℕ → ℕ
plus zero m = m
plus (suc d) m = suc (plus d m)

positive : (n : ℕ) → 1 ≤ two_pow n
positive zero = omega arith
positive (suc n) = omega (arith, positive n)

rises : (m d : ℕ) → two_pow m ≤ two_pow (plus d m)
rises m zero = omega arith
rises m (suc d) = let r = rises m d in omega arith

same_pow : (m n : ℕ) → m ≡ n → two_pow m ≡ two_pow n
same_pow m n e = λ i. two_pow (e i)

plus_is : (d m : ℕ) → plus d m ≡ d + m
plus_is zero m = omega arith
plus_is (suc d) m = let r = plus_is d m in omega arith

-- each level below the root doubles the nodes
many : (shape : Shape) → IsShape shape → (level number : ℕ) (body : Body level) → AreSound shape level body → (0 < level → 2 ≤ length body) → two_pow level ≤ length (numbers level number body)
many shape v zero number es sound two = omega arith
many shape v (suc level) number branches sound two = by_list branches sound (two (omega arith)) (λ b h. many shape v level b.number b.body h.3 (each b h))
  where
    each : (b : Branch (Body level)) → IsChild shape v level b → 0 < level → 2 ≤ length b.body
    each b h lt = let least : 2 ≤ shape.min = v.least in omega (arith, h.1)

    by_list : (bs : List (Branch (Body level))) → AllByRecursion (IsChild shape v level) bs → 2 ≤ length bs → ((b : Branch (Body level)) → IsChild shape v level b → two_pow level ≤ length (numbers level b.number b.body)) → 2 * two_pow level ≤ length (number ∷ flat_map (λ b. numbers level b.number b.body) bs)
    by_list [] h lt more = absurd (omega arith)
    by_list (x ∷ []) h lt more = absurd (omega arith)
    by_list (x ∷ y ∷ bs) h lt more =
        let f : Branch (Body level) → List ℕ = λ b. numbers level b.number b.body in
        omega (arith, more x h.0, more y h.1.0, length-append (f x) (f y ++ flat_map f bs), length-append (f y) (flat_map f bs))

-- with a root of one child, one level more
many_root : (shape : Shape) → IsShape shape → (level number : ℕ) (body : Body level) → AreSound shape level body → (0 < level → 0 < length body) → two_pow level ≤ 2 * length (numbers level number body)
many_root shape v zero number es sound some = omega arith
many_root shape v (suc level) number branches sound some = by_list branches sound (some (omega arith))
  where
    by_list : (bs : List (Branch (Body level))) → AllByRecursion (IsChild shape v level) bs → 0 < length bs → 2 * two_pow level ≤ 2 * length (number ∷ flat_map (λ b. numbers level b.number b.body) bs)
    by_list [] h lt = absurd (omega arith)
    by_list (x ∷ bs) h lt =
        let f : Branch (Body level) → List ℕ = λ b. numbers level b.number b.body in
        let least : 2 ≤ shape.min = v.least in
        omega (arith, many shape v level x.number x.body h.0.3 (λ l. omega (arith, h.0.1)), length-append (f x) (flat_map f bs))

below_pow : (n : ℕ) → 2 * n ≤ two_pow n
below_pow zero = omega arith
below_pow (suc zero) = omega arith
below_pow (suc (suc n)) = let p = positive n in let r = below_pow (suc n) in omega arith

-- **a level is at most the next number, and at most 65**
pub level_low : (shape : Shape) → IsShape shape → (level number : ℕ) (body : Body level) (next : ℕ) → AreSound shape level body → (0 < level → 0 < length body) → IsDistinct nat_eq (numbers level number body) → AllByRecursion (λ n. n < next) (numbers level number body) → next < 2 ^ 64 → (level ≤ next) × (level ≤ 65)
level_low shape v level number body next sound some distinct low small =
    let ns = numbers level number body in
    let size : length ns ≤ next = length-le_from_distinct_below ns next distinct (λ q h. among_all (λ n. n < next) ns q low h) in
    let m = many_root shape v level number body sound some in
    let b = below_pow level in
    (omega arith, by_order (cases_lt 65 level) m size)
  where
    by_order : (65 < level) ⊎ (level ≤ 65) → two_pow level ≤ 2 * length (numbers level number body) → length (numbers level number body) ≤ next → level ≤ 65
    by_order (inl lt) m size =
        let d : level - 66 + 66 ≡ level = omega arith in
        let big : two_pow 66 ≤ two_pow level = subst (λ (n : ℕ). two_pow 66 ≤ two_pow n) (plus_is (level - 66) 66 ∙ d) (rises 66 (level - 66)) in
        let is : two_pow 66 ≡ 73786976294838206464 = refl in
        absurd (omega arith)
    by_order (inr le) m size = le
