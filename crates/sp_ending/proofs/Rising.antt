-- Numbers by ascending order, as one joins them.
use Rattle.std.proofs.Common.{◌≡◌, ℕ, zero, suc, ◌+◌, ◌<◌, ◌≤◌, Bool, true, false, cond, List, [], ◌∷◌, ◌++◌, take, drop, length, get_or, refl, sym, ap, ◌∙◌, arith}
use Rattle.std.specs.Prelude.{nat_le}
use Rattle.std.specs.List.{AllByRecursion, insert}
use Rattle.std.proofs.lemmas.Bool.Decides.{nat_tests}
use Rattle.sp_model.specs.Moves.{with_number, ascending}
use Rattle.sp_ending.specs.Tail.{Rises}

pub at-most : (a b : ℕ) → nat_le a b ≡ true → a ≤ b
at-most a b h = grind (arith, nat_tests)

pub above : (a b : ℕ) → nat_le a b ≡ false → b < a
above a b h = grind (arith, nat_tests)

not-at-most : (a b : ℕ) → b < a → nat_le a b ≡ false
not-at-most a b h = grind (arith, nat_tests)

to-at-most : (a b : ℕ) → a ≤ b → nat_le a b ≡ true
to-at-most a b h = grind (arith, nat_tests)

-- what is at most one of them is at most those behind it
least-all : (n m : ℕ) (ms : List ℕ) → n ≤ m → AllByRecursion (λ k. m ≤ k) ms → AllByRecursion (λ k. n ≤ k) ms
least-all n m [] l h = tt
least-all n m (k ∷ ks) l h = (omega (arith, l, h.0), least-all n m ks l h.1)

inserted-all : (n b : ℕ) (ms : List ℕ) → b ≤ n → AllByRecursion (λ k. b ≤ k) ms → AllByRecursion (λ k. b ≤ k) (with_number n ms)
inserted-all n b [] l h = (l, tt)
inserted-all n b (m ∷ ms) l h = go (nat_le n m) (inserted-all n b ms l h.1)
  where
    go : (c : Bool) → AllByRecursion (λ k. b ≤ k) (with_number n ms) → AllByRecursion (λ k. b ≤ k) (cond c (n ∷ m ∷ ms) (m ∷ with_number n ms))
    go true r = (l, h)
    go false r = (h.0, r)

pub rises-inserted : (n : ℕ) (ms : List ℕ) → Rises ms → Rises (with_number n ms)
rises-inserted n [] h = (tt, tt)
rises-inserted n (m ∷ ms) h = go (nat_le n m) refl (rises-inserted n ms h.1)
  where
    go : (c : Bool) → nat_le n m ≡ c → Rises (with_number n ms) → Rises (cond c (n ∷ m ∷ ms) (m ∷ with_number n ms))
    go true e r = let l = at-most n m e in ((l, least-all n m ms l h.0), h)
    go false e r = let l = above n m e in (inserted-all n m ms (omega (arith, l)) h.0, r)

pub rises-ascending : (ns : List ℕ) → Rises (ascending ns)
rises-ascending [] = tt
rises-ascending (n ∷ ns) = rises-inserted n (ascending ns) (rises-ascending ns)

-- one more at the end
pub length-inserted : (n : ℕ) (ms : List ℕ) → length (with_number n ms) ≡ length ms + 1
length-inserted n [] = refl
length-inserted n (m ∷ ms) = go (nat_le n m) (length-inserted n ms)
  where
    go : (c : Bool) → length (with_number n ms) ≡ length ms + 1 → length (cond c (n ∷ m ∷ ms) (m ∷ with_number n ms)) ≡ suc (length ms) + 1
    go true e = omega arith
    go false e = omega (arith, e)

at_least : (y : ℕ) (ys : List ℕ) (j : ℕ) → AllByRecursion (λ k. y ≤ k) ys → j < length ys → y ≤ get_or ys j 0
at_least y [] j h l = absurd (omega (arith, l))
at_least y (k ∷ ks) zero h l = h.0
at_least y (k ∷ ks) (suc j) h l = at_least y ks j h.1 (omega (arith, l))

-- what all from a place on are at least, all from the place before are
pub all_from : (n : ℕ) (xs : List ℕ) (at j : ℕ) → at ≡ j + 1 → j < length xs → n ≤ get_or xs j 0 → AllByRecursion (λ m. n ≤ m) (drop at xs) → AllByRecursion (λ m. n ≤ m) (drop j xs)
all_from n [] at j e l h r = absurd (omega (arith, l))
all_from n (x ∷ xs) zero j e l h r = absurd (omega (arith, e))
all_from n (x ∷ xs) (suc i) zero e l h r = go i (omega (arith, e)) r
  where
    go : (i : ℕ) → i ≡ 0 → AllByRecursion (λ m. n ≤ m) (drop i xs) → AllByRecursion (λ m. n ≤ m) (x ∷ xs)
    go zero e r = (h, r)
    go (suc i) e r = absurd (omega (arith, e))
all_from n (x ∷ xs) (suc i) (suc j) e l h r = all_from n xs i j (omega (arith, e)) (omega (arith, l)) h r

-- the one in front is smaller, where the one before the place is
smaller : (n y : ℕ) (ys : List ℕ) (i : ℕ) → i ≤ length ys → AllByRecursion (λ k. y ≤ k) ys → ((j : ℕ) → suc i ≡ j + 1 → get_or (y ∷ ys) j 0 < n) → y < n
smaller n y ys zero l h b = b 0 (omega arith)
smaller n y ys (suc j) l h b = let f = at_least y ys j h (omega (arith, l)) in let g = b (suc j) (omega arith) in omega (arith, f, g)

front : (n : ℕ) (xs : List ℕ) (at : ℕ) → at ≤ length xs → Rises xs → AllByRecursion (λ m. n ≤ m) (drop at xs) → ((j : ℕ) → at ≡ j + 1 → get_or xs j 0 < n) → insert xs at n ≡ with_number n xs
front n [] zero l r h b = refl
front n [] (suc i) l r h b = absurd (omega (arith, l))
front n (y ∷ ys) zero l r h b = go (nat_le n y) (to-at-most n y h.0)
  where
    go : (c : Bool) → c ≡ true → n ∷ y ∷ ys ≡ cond c (n ∷ y ∷ ys) (y ∷ with_number n ys)
    go true e = refl
    go false e = cc
front n (y ∷ ys) (suc i) l r h b = go (nat_le n y) (not-at-most n y (smaller n y ys i (omega (arith, l)) r.0 b)) (front n ys i (omega (arith, l)) r.1 h (λ j e. b (suc j) (omega (arith, e))))
  where
    go : (c : Bool) → c ≡ false → insert ys i n ≡ with_number n ys → y ∷ insert ys i n ≡ cond c (n ∷ y ∷ ys) (y ∷ with_number n ys)
    go true e k = cc
    go false e k = ap (λ (zs : List ℕ). y ∷ zs) k

-- the number joins those from a place on behind the smaller ones
pub place-among : (n from : ℕ) (xs : List ℕ) (at : ℕ) → from ≤ at → at ≤ length xs → Rises (drop from xs) → AllByRecursion (λ m. n ≤ m) (drop at xs) → ((j : ℕ) → at ≡ j + 1 → from ≤ j → get_or xs j 0 < n)
    → insert xs at n ≡ take from xs ++ with_number n (drop from xs)
place-among n zero xs at f l r h b = front n xs at l r h (λ j e. b j e (omega arith))
place-among n (suc f) [] at k l r h b = absurd (omega (arith, k, l))
place-among n (suc f) (y ∷ ys) zero k l r h b = absurd (omega (arith, k))
place-among n (suc f) (y ∷ ys) (suc i) k l r h b = ap (λ (zs : List ℕ). y ∷ zs) (place-among n f ys i (omega (arith, k)) (omega (arith, l)) r h (λ j e g. b (suc j) (omega (arith, e)) (omega (arith, g))))

-- in which order two join does not matter
pub inserted-swap : (a b : ℕ) (xs : List ℕ) → with_number a (with_number b xs) ≡ with_number b (with_number a xs)
inserted-swap a b [] = go (nat_le a b) (nat_le b a) refl refl
  where
    go : (l m : Bool) → nat_le a b ≡ l → nat_le b a ≡ m → cond l (a ∷ b ∷ []) (b ∷ a ∷ []) ≡ cond m (b ∷ a ∷ []) (a ∷ b ∷ [])
    go true true e f = let g : a ≡ b = (let x = at-most a b e in let y = at-most b a f in omega (arith, x, y)) in λ i. g i ∷ sym g i ∷ []
    go true false e f = refl
    go false true e f = refl
    go false false e f = absurd (let x = above a b e in let y = above b a f in omega (arith, x, y))
inserted-swap a b (x ∷ xs) = behind a b (nat_le b x) ∙ go (nat_le a x) (nat_le b x) (nat_le a b) (nat_le b a) refl refl refl refl (inserted-swap a b xs) ∙ sym (behind b a (nat_le a x))
  where
    behind : (a b : ℕ) (m : Bool) → with_number a (cond m (b ∷ x ∷ xs) (x ∷ with_number b xs))
        ≡ cond m (cond (nat_le a b) (a ∷ b ∷ x ∷ xs) (b ∷ cond (nat_le a x) (a ∷ x ∷ xs) (x ∷ with_number a xs))) (cond (nat_le a x) (a ∷ x ∷ with_number b xs) (x ∷ with_number a (with_number b xs)))
    behind a b true = refl
    behind a b false = refl

    go : (l m o p : Bool) → nat_le a x ≡ l → nat_le b x ≡ m → nat_le a b ≡ o → nat_le b a ≡ p → with_number a (with_number b xs) ≡ with_number b (with_number a xs)
        → cond m (cond o (a ∷ b ∷ x ∷ xs) (b ∷ cond l (a ∷ x ∷ xs) (x ∷ with_number a xs))) (cond l (a ∷ x ∷ with_number b xs) (x ∷ with_number a (with_number b xs)))
        ≡ cond l (cond p (b ∷ a ∷ x ∷ xs) (a ∷ cond m (b ∷ x ∷ xs) (x ∷ with_number b xs))) (cond m (b ∷ x ∷ with_number a xs) (x ∷ with_number b (with_number a xs)))
    go true true true true e f g h r = let s : a ≡ b = (let y = at-most a b g in let z = at-most b a h in omega (arith, y, z)) in λ i. s i ∷ sym s i ∷ x ∷ xs
    go true true true false e f g h r = refl
    go true true false true e f g h r = refl
    go true true false false e f g h r = absurd (let y = above a b g in let z = above b a h in omega (arith, y, z))
    go true false o true e f g h r = absurd (let y = at-most a x e in let z = above b x f in let w = at-most b a h in omega (arith, y, z, w))
    go true false o false e f g h r = refl
    go false true true p e f g h r = absurd (let y = above a x e in let z = at-most b x f in let w = at-most a b g in omega (arith, y, z, w))
    go false true false p e f g h r = refl
    go false false o p e f g h r = ap (λ (zs : List ℕ). x ∷ zs) r
