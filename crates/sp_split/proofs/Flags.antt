-- Which positions are placed.
use Rattle.std.proofs.Common.{◌≡◌, ℕ, zero, suc, ◌+◌, ◌<◌, Bool, true, false, cond, ◌||◌, List, [], ◌∷◌, ◌++◌, length, get_or, set, refl, ap, ◌∙◌, arith}
use Rattle.std.specs.Prelude.{nat_eq, replicate}
use Rattle.std.specs.List.{sum_by}
use Rattle.std.proofs.lemmas.List.Sums.{sum_by-cons, sum_by-set, fold-append}
use Rattle.std.proofs.lemmas.List.Folds.{list_any-append}
use Rattle.sp_rect.specs.Plane.{Rectangle, bound}
use Rattle.sp_split.specs.Split.{is_among, group_bound, rect_at}

-- how many are not placed
abbrev pub one_if_free : Bool → ℕ
one_if_free b = cond b 0 1

abbrev pub free_count : List Bool → ℕ
free_count flags = sum_by one_if_free flags

pub same_default : {X : Type 0} (xs : List X) (i : ℕ) (d e : X) → i < length xs → get_or xs i d ≡ get_or xs i e
same_default [] i d e lt = absurd (omega arith)
same_default (x ∷ xs) zero d e lt = refl
same_default (x ∷ xs) (suc i) d e lt = same_default xs i d e (omega arith)

pub none_free : (flags : List Bool) → ((k : ℕ) → k < length flags → get_or flags k true ≡ true) → free_count flags ≡ 0
none_free [] h = refl
none_free (b ∷ flags) h =
    let e : b ≡ true = h 0 (omega arith) in
    let one : one_if_free b ≡ 0 = ap one_if_free e in
    omega (arith, sum_by-cons one_if_free b flags, one, none_free flags (λ k lt. h (suc k) (omega arith)))

pub place_one : (flags : List Bool) (p : ℕ) → p < length flags → get_or flags p true ≡ false → free_count (set flags p true) + 1 ≡ free_count flags
place_one flags p lt e =
    let was : one_if_free (get_or flags p true) ≡ 1 = ap one_if_free e in
    omega (arith, sum_by-set one_if_free flags p true true lt, was)

pub all_free : (n : ℕ) → free_count (replicate n false) ≡ n
all_free zero = refl
all_free (suc n) = omega (arith, sum_by-cons one_if_free false (replicate n false), all_free n)

pub bound_more : (rects : List Rectangle) (ps : List ℕ) (p : ℕ) → 0 < length ps → group_bound rects (ps ++ p ∷ []) ≡ bound (group_bound rects ps) (rect_at rects p)
bound_more rects [] p h = absurd (omega arith)
bound_more rects (x ∷ ps) p h = fold-append (λ r i. bound r (rect_at rects i)) (rect_at rects x) ps (p ∷ [])

pub among_more : (ps : List ℕ) (p k : ℕ) → is_among (ps ++ p ∷ []) k ≡ (is_among ps k || nat_eq k p)
among_more ps p k = list_any-append (nat_eq k) ps (p ∷ []) ∙ ap (λ (b : Bool). is_among ps k || b) (last (nat_eq k p))
  where
    last : (b : Bool) → (b || false) ≡ b
    last true = refl
    last false = refl
