-- Lists with the same members in another order.
use Rattle.std.proofs.Common.{◌≡◌, ℕ, zero, suc, ◌+◌, ◌<◌, ◌≤◌, Bool, true, false, cond, List, [], ◌∷◌, map, length, get_or, refl, sym, ap, ◌∙◌, subst, inl, inr, arith}
use Rattle.std.specs.Prelude.{nat_eq}
use Rattle.std.specs.List.{AllByRecursion, Contains, IsDistinct, filter, swap}
use Rattle.std.specs.List.Sorted.{IsPermutation, IsNonDecreasingBy}
use Rattle.std.proofs.Math.ListN.{set, get_or-map}
use Rattle.std.proofs.lemmas.Bool.Decides.{nat_tests}
use Rattle.std.proofs.lemmas.Cmp.{nat_eq_equiv}
use Rattle.std.proofs.lemmas.List.{map-set, length-map}
use Rattle.std.proofs.lemmas.List.Sorted.{IsPermutation-refl, IsPermutation-swap, IsPermutation-trans, IsPermutation-keeps, IsPermutation-map, IsPermutation-sym, Contains-permutation}
use Rattle.std.proofs.lemmas.Map.Keys.{IsDistinct-head, IsDistinct-tail, IsDistinct-cons, IsDistinct-IsPermutation}
use Rattle.sp_rect.specs.declared.record.Record.{Record}
use Rattle.sp_rect.specs.Store.{IsOrderedFrom, IsOrdered}
use Rattle.sp_node.specs.Among.{Among}

self_equal : (k : ℕ) → nat_eq k k ≡ true
self_equal k = grind (arith, nat_tests)

-- membership in two forms
among_at : {X : Type 0} (xs : List X) (k : ℕ) (x : X) → k < length xs → get_or xs k x ≡ x → Among x xs
among_at [] k x lt e = absurd (omega arith)
among_at (y ∷ xs) zero x lt e = inl (sym e)
among_at (y ∷ xs) (suc k) x lt e = inr (among_at xs k x (omega arith) e)

pub among_from_contains : {X : Type 0} (xs : List X) (x : X) → Contains xs x → Among x xs
among_from_contains xs x h = among_at xs h.0 x h.1 h.2

pub contains_from_among : {X : Type 0} (xs : List X) (x : X) → Among x xs → Contains xs x
contains_from_among [] x a = absurd a
contains_from_among (y ∷ xs) x (inl e) = (0, omega arith, sym e)
contains_from_among (y ∷ xs) x (inr a) = let at = contains_from_among xs x a in (suc at.0, omega (arith, at.1), at.2)

pub among_permutation : {X : Type 0} (xs ys : List X) (x : X) → IsPermutation xs ys → Among x xs → Among x ys
among_permutation xs ys x p a = among_from_contains ys x (Contains-permutation xs ys x p (contains_from_among xs x a))

pub among_back : {X : Type 0} (xs ys : List X) (x : X) → IsPermutation xs ys → Among x ys → Among x xs
among_back xs ys x p a = among_permutation ys xs x (IsPermutation-sym xs ys p) a

-- a map and a filter
module _ {X Y : Type 0} (f : X → Y) where
  pub among_map : (xs : List X) (x : X) → Among x xs → Among (f x) (map f xs)
  among_map [] x a = absurd a
  among_map (y ∷ xs) x (inl e) = inl (ap f e)
  among_map (y ∷ xs) x (inr a) = inr (among_map xs x a)

  pub from_map : (xs : List X) (y : Y) → Among y (map f xs) → (x : X) × Among x xs × (y ≡ f x)
  from_map [] y a = absurd a
  from_map (x ∷ xs) y (inl e) = (x, inl refl, e)
  from_map (x ∷ xs) y (inr a) = let more = from_map xs y a in (more.0, inr more.1, more.2)

module _ {X : Type 0} (p : X → Bool) where
  pub among_filter : (xs : List X) (x : X) → Among x xs → p x ≡ true → Among x (filter p xs)
  among_filter [] x a h = absurd a
  among_filter (y ∷ xs) x (inl e) h = by_test (p y) (ap p (sym e) ∙ h)
    where
      by_test : (b : Bool) → b ≡ true → Among x (cond b (y ∷ filter p xs) (filter p xs))
      by_test true k = inl e
      by_test false k = cc
  among_filter (y ∷ xs) x (inr a) h = by_test (p y) (among_filter xs x a h)
    where
      by_test : (b : Bool) → Among x (filter p xs) → Among x (cond b (y ∷ filter p xs) (filter p xs))
      by_test true m = inr m
      by_test false m = m

  pub from_filter : (xs : List X) (x : X) → Among x (filter p xs) → Among x xs × (p x ≡ true)
  from_filter [] x a = absurd a
  from_filter (y ∷ xs) x a = by_test (p y) refl a (from_filter xs x)
    where
      by_test : (b : Bool) → p y ≡ b → Among x (cond b (y ∷ filter p xs) (filter p xs)) → (Among x (filter p xs) → Among x xs × (p x ≡ true)) → Among x (y ∷ xs) × (p x ≡ true)
      by_test true k (inl e) f = (inl e, ap p e ∙ k)
      by_test true k (inr m) f = let more = f m in (inr more.0, more.1)
      by_test false k m f = let more = f m in (inr more.0, more.1)

-- what is a map in another order is a map of the list in another order
module _ {X Y : Type 0} (f : X → Y) where
  swap-map : (zs : List X) (i j : ℕ) → swap (map f zs) i j ≡ map f (swap zs i j)
  swap-map [] i j = refl
  swap-map (d ∷ ys) i j =
      ap (λ (y : Y). set (set (map f (d ∷ ys)) i y) j (get_or (map f (d ∷ ys)) i (f d))) (get_or-map f (d ∷ ys) j d)
      ∙ ap (λ (y : Y). set (set (map f (d ∷ ys)) i (f (get_or (d ∷ ys) j d))) j y) (get_or-map f (d ∷ ys) i d)
      ∙ ap (λ (zs : List Y). set zs j (f (get_or (d ∷ ys) i d))) (sym (map-set f (d ∷ ys) i (get_or (d ∷ ys) j d)))
      ∙ sym (map-set f (set (d ∷ ys) i (get_or (d ∷ ys) j d)) j (get_or (d ∷ ys) i d))

  abbrev IsMapped : List X → List Y → Type 0
  IsMapped xs l = (zs : List X) × IsPermutation xs zs × (l ≡ map f zs)

  pub unmapped : (xs : List X) (ys : List Y) → IsPermutation (map f xs) ys → (zs : List X) × IsPermutation xs zs × (ys ≡ map f zs)
  unmapped xs ys p = IsPermutation-keeps (map f xs) (IsMapped xs) (xs, IsPermutation-refl xs, refl) step ys p
    where
      step : (l : List Y) (i j : ℕ) → i < length l → j < length l → IsMapped xs l → IsMapped xs (swap l i j)
      step l i j li lj m =
          let len : length l ≡ length m.0 = ap length m.2 ∙ length-map m.0 f in
          (swap m.0 i j, IsPermutation-trans xs m.0 (swap m.0 i j) m.1 (IsPermutation-swap m.0 (swap m.0 i j) i j (omega arith) (omega arith) refl), ap (λ (ys : List Y). swap ys i j) m.2 ∙ swap-map m.0 i j)

-- records by ascending id
below_from : (low : ℕ) (rs : List Record) → IsOrderedFrom low rs → (r : Record) → Among r rs → low ≤ r.id
below_from low [] h r a = absurd a
below_from low (x ∷ rs) h r (inl e) = subst (λ (y : Record). low ≤ y.id) (sym e) h.0
below_from low (x ∷ rs) h r (inr a) = let more = below_from (x.id + 1) rs h.1 r a in omega (arith, h.0)

lower : (low m : ℕ) (rs : List Record) → low ≤ m → IsOrderedFrom m rs → IsOrderedFrom low rs
lower low m [] le h = tt
lower low m (r ∷ rs) le h = (omega (arith, h.0), h.1)

each_above : (m : ℕ) (rs : List Record) → ((r : Record) → Among r rs → m < r.id) → AllByRecursion (λ n. nat_eq m n ≡ false) (map (λ r. r.id) rs)
each_above m [] f = tt
each_above m (r ∷ rs) f = (apart m r.id (f r (inl refl)), each_above m rs (λ x a. f x (inr a)))
  where
    apart : (a b : ℕ) → a < b → nat_eq a b ≡ false
    apart a b lt = grind (arith, nat_tests)

none_distinct : IsDistinct nat_eq []
unfolding IsDistinct
none_distinct = tt

pub ids_distinct : (low : ℕ) (rs : List Record) → IsOrderedFrom low rs → IsDistinct nat_eq (map (λ r. r.id) rs)
ids_distinct low [] h = none_distinct
ids_distinct low (r ∷ rs) h = IsDistinct-cons nat_eq r.id (map (λ x. x.id) rs) (each_above r.id rs (λ x a. let more = below_from (r.id + 1) rs h.1 x a in omega (arith, more))) (ids_distinct (r.id + 1) rs h.1)

first_or_rest : (x y : Record) (xs ys : List Record) → IsOrderedFrom (x.id + 1) xs → IsOrderedFrom (y.id + 1) ys → Among x (y ∷ ys) → Among y (x ∷ xs) → x ≡ y
first_or_rest x y xs ys h k (inl e) b = e
first_or_rest x y xs ys h k (inr a) (inl e) = sym e
first_or_rest x y xs ys h k (inr a) (inr b) = let p = below_from (y.id + 1) ys k x a in let q = below_from (x.id + 1) xs h y b in absurd (omega (arith, p, q))

rest_only : (x y r : Record) (xs ys : List Record) → IsOrderedFrom (x.id + 1) xs → x ≡ y → Among r xs → Among r (y ∷ ys) → Among r ys
rest_only x y r xs ys h same a (inl e) = let p = below_from (x.id + 1) xs h r a in let q : r.id ≡ x.id = ap (λ (z : Record). z.id) (e ∙ sym same) in absurd (omega (arith, p, q))
rest_only x y r xs ys h same a (inr b) = b

-- one list has all of the other
pub same_ordered : (low low' : ℕ) (xs ys : List Record) → IsOrderedFrom low xs → IsOrderedFrom low' ys → ((r : Record) → Among r xs → Among r ys) → ((r : Record) → Among r ys → Among r xs) → xs ≡ ys
same_ordered low low' [] [] h k f g = refl
same_ordered low low' [] (y ∷ ys) h k f g = absurd (g y (inl refl))
same_ordered low low' (x ∷ xs) [] h k f g = absurd (f x (inl refl))
same_ordered low low' (x ∷ xs) (y ∷ ys) h k f g =
    let same : x ≡ y = first_or_rest x y xs ys h.1 k.1 (f x (inl refl)) (g y (inl refl)) in
    let rest : xs ≡ ys = same_ordered (x.id + 1) (y.id + 1) xs ys h.1 k.1 (λ r a. rest_only x y r xs ys h.1 same a (f r (inr a))) (λ r a. rest_only y x r ys xs k.1 (sym same) a (g r (inr a))) in
    ap (λ (z : Record). z ∷ xs) same ∙ ap (λ (zs : List Record). y ∷ zs) rest

-- ids that do not fall and are distinct rise
at_front : (r : Record) (rs : List Record) → IsNonDecreasingBy (λ x. x.id) (r ∷ rs) → (x : Record) → Among x rs → r.id ≤ x.id
at_front r rs up x a =
    let at = contains_from_among rs x a in
    let le = up 0 (suc at.0) x (omega arith) (omega (arith, at.1)) in
    subst (λ (y : Record). r.id ≤ y.id) at.2 le

tail_up : (r : Record) (rs : List Record) → IsNonDecreasingBy (λ x. x.id) (r ∷ rs) → IsNonDecreasingBy (λ x. x.id) rs
tail_up r rs up = λ i j d le lt. up (suc i) (suc j) d (omega arith) (omega arith)

apart_from : (m : ℕ) (rs : List Record) → AllByRecursion (λ n. nat_eq m n ≡ false) (map (λ r. r.id) rs) → (x : Record) → Among x rs → nat_eq m x.id ≡ false
apart_from m [] h x a = absurd a
apart_from m (r ∷ rs) h x (inl e) = ap (λ (y : Record). nat_eq m y.id) e ∙ h.0
apart_from m (r ∷ rs) h x (inr a) = apart_from m rs h.1 x a

pub ordered_from : (low : ℕ) (rs : List Record) → ((x : Record) → Among x rs → low ≤ x.id) → IsNonDecreasingBy (λ x. x.id) rs → IsDistinct nat_eq (map (λ x. x.id) rs) → IsOrderedFrom low rs
ordered_from low [] f up d = tt
ordered_from low (r ∷ rs) f up d =
    (f r (inl refl), ordered_from (r.id + 1) rs (λ x a. above r.id x.id (at_front r rs up x a) (apart_from r.id rs (IsDistinct-head nat_eq r.id (map (λ y. y.id) rs) d) x a)) (tail_up r rs up) (IsDistinct-tail nat_eq r.id (map (λ y. y.id) rs) d))
  where
    above : (a b : ℕ) → a ≤ b → nat_eq a b ≡ false → a + 1 ≤ b
    above a b le e = grind (arith, nat_tests)

-- a sorted list with the members of an ordered one is that one
pub sorted_is : (ordered rs : List Record) → IsOrdered ordered → IsPermutation ordered rs → IsNonDecreasingBy (λ x. x.id) rs → rs ≡ ordered
sorted_is ordered rs h p up =
    let distinct = IsDistinct-IsPermutation nat_eq (nat_eq_equiv.symm) (map (λ x. x.id) ordered) (map (λ x. x.id) rs) (IsPermutation-map (λ (x : Record). x.id) ordered rs p) (ids_distinct 0 ordered h) in
    same_ordered 0 0 rs ordered (ordered_from 0 rs (λ x a. omega arith) up distinct) h (λ r a. among_back ordered rs r p a) (λ r a. among_permutation ordered rs r p a)
