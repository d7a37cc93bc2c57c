-- Pairs of ids and entry numbers in a set that is ordered by id and then by number.
use Rattle.std.proofs.Common.{◌≡◌, ℕ, zero, suc, ◌+◌, ◌<◌, ◌^◌, leb, map, length, get_or, Bool, true, false, ◌&&◌, ◌||◌, cond, ◌≤◌, List, [], ◌∷◌, refl, sym, ap, subst, ◌∙◌, arith}
use Rattle.std.specs.Prelude.{nat_eq}
use Rattle.std.specs.List.{list_any, AllByRecursion, filter}
use Rattle.std.specs.List.Sorted.{IsStrictlySortedBy, IsStrictlyIncreasing}
use Rattle.std.specs.declared.ops.Bound.{Bound}
use Rattle.std.specs.BTreeMap.Range.{range_contains}
use Rattle.std.proofs.lemmas.List.{length-map}
use Rattle.std.proofs.lemmas.List.Kept.{IsStrictlySortedBy-filter}
use Rattle.std.proofs.lemmas.Map.Keys.{sorted_head, sorted_from_strictly_increasing, Less-from_sorted, sorted_from_all_adjacent, IsStrictlyIncreasing-from_sorted}
use Rattle.std.proofs.lemmas.Cmp.{nat_cmp_total, nat_eq_equiv}
use Rattle.sp_node.proofs.Lists.{all_imply, all_filter}
use Rattle.sp_node.proofs.Members.{any_filter, ascends_filter}
use Rattle.std.specs.BTreeSet.{insert_key}
use Rattle.std.specs.Set.{remove_key}
use Rattle.std.specs.declared.cmp.Ordering.{Ordering}
use Rattle.std.specs.declared.cmp.Ordering.TheVariants.{Less, Equal, Greater}
use Rattle.std.specs.Ordering.{nat_cmp, ordering_then, is_eq, match_ordering}
use Rattle.std.proofs.lemmas.Bool.Decides.{nat_tests}
use Rattle.sp_node.specs.declared.node.Entry.{Entry}
use Rattle.sp_node.specs.declared.plan.Part.{Part}
use Rattle.sp_node.specs.Look.{entries_in}
use Rattle.sp_node.specs.Plan.{content, AreNoted, ArePartsNoted}
use Rattle.sp_node.specs.Known.{is_known, AreNumbers, AreKnown, AreMarksNoted, numbers_under, HasNoneFrom, IsFirstFrom}

abbrev pub pair_cmp : ℕ × ℕ → ℕ × ℕ → Ordering
pair_cmp x y = ordering_then (nat_cmp x.0 y.0) (nat_cmp x.1 y.1)

pub same_pair : (i n j m : ℕ) → is_eq (ordering_then (nat_cmp i j) (nat_cmp n m)) ≡ (nat_eq i j && nat_eq n m)
same_pair i n j m = grind (arith, nat_tests)

pub known_by : (ps : List (ℕ × ℕ)) (i n : ℕ) → list_any (λ p. is_eq (pair_cmp (i, n) p)) ps ≡ is_known ps i n
known_by [] i n = refl
known_by (p ∷ ps) i n = λ k. same_pair i n p.0 p.1 k || known_by ps i n k

pub self_pair : (i n : ℕ) → (nat_eq i i && nat_eq n n) ≡ true
self_pair i n = grind (arith, nat_tests)

module _ (P : ℕ × ℕ → Type 0) where
  pub all_insert : (ks : List (ℕ × ℕ)) (k : ℕ × ℕ) → AllByRecursion P ks → P k → AllByRecursion P (insert_key pair_cmp ks k)
  all_insert [] k h p = (p, tt)
  all_insert (x ∷ ks) k h p = by_order (pair_cmp k x) (all_insert ks k h.1 p)
    where
      by_order : (o : Ordering) → AllByRecursion P (insert_key pair_cmp ks k) → AllByRecursion P (match_ordering o (k ∷ x ∷ ks) (x ∷ ks) (x ∷ insert_key pair_cmp ks k))
      by_order Less more = (p, h)
      by_order Equal more = h
      by_order Greater more = (h.0, more)

  pub all_remove : (test : ℕ × ℕ → Bool) (ks : List (ℕ × ℕ)) → AllByRecursion P ks → AllByRecursion P (remove_key test ks)
  all_remove test [] h = tt
  all_remove test (x ∷ ks) h = by_test (test x) (all_remove test ks h.1)
    where
      by_test : (b : Bool) → AllByRecursion P (remove_key test ks) → AllByRecursion P (cond b ks (x ∷ remove_key test ks))
      by_test true more = h.1
      by_test false more = (h.0, more)

-- what a range of the set gives
in_range : (id j m : ℕ) → m < 2 ^ 64 → range_contains pair_cmp (Bound.Included (id, 0)) (Bound.Included (id, 18446744073709551615)) (j, m) ≡ nat_eq id j
in_range id j m lt = grind (arith, nat_tests)

pub between : (id : ℕ) (ps : List (ℕ × ℕ)) → AreNumbers ps → filter (range_contains pair_cmp (Bound.Included (id, 0)) (Bound.Included (id, 18446744073709551615))) ps ≡ filter (λ p. nat_eq id p.0) ps
between id [] h = refl
between id (p ∷ ps) h =
    ap (λ (b : Bool). cond b (p ∷ filter (range_contains pair_cmp (Bound.Included (id, 0)) (Bound.Included (id, 18446744073709551615))) ps) (filter (range_contains pair_cmp (Bound.Included (id, 0)) (Bound.Included (id, 18446744073709551615))) ps)) (in_range id p.0 p.1 h.0)
    ∙ ap (λ (qs : List (ℕ × ℕ)). cond (nat_eq id p.0) (p ∷ qs) qs) (between id ps h.1)

second_less : (i j m n : ℕ) → i ≡ j → ordering_then (nat_cmp i j) (nat_cmp m n) ≡ Less → nat_cmp m n ≡ Less
second_less i j m n e h = grind (arith, nat_tests)

equal_from : (i j : ℕ) → nat_eq i j ≡ true → j ≡ i
equal_from i j e = grind (arith, nat_tests)

at_place : (P : ℕ × ℕ → Type 0) (ps : List (ℕ × ℕ)) (k : ℕ) → AllByRecursion P ps → k < length ps → P (get_or ps k (0, 0))
at_place P [] k h lt = absurd (omega arith)
at_place P (p ∷ ps) zero h lt = h.0
at_place P (p ∷ ps) (suc k) h lt = at_place P ps k h.1 (omega arith)

second_at : (ps : List (ℕ × ℕ)) (k : ℕ) → get_or (map (λ p. p.1) ps) k 0 ≡ (get_or ps k (0, 0)).1
second_at [] k = refl
second_at (p ∷ ps) zero = refl
second_at (p ∷ ps) (suc k) = second_at ps k

pub under_ascends : (id : ℕ) (ps : List (ℕ × ℕ)) → IsStrictlySortedBy pair_cmp ps → IsStrictlyIncreasing (numbers_under ps id)
under_ascends id ps s =
    let qs = filter (λ p. nat_eq id p.0) ps in
    let sorted = IsStrictlySortedBy-filter pair_cmp (λ p. nat_eq id p.0) ps s in
    let same = all_imply (λ (p : ℕ × ℕ) h. equal_from id p.0 h.1) qs (all_filter (λ (p : ℕ × ℕ). Unit {0}) (λ (p : ℕ × ℕ). nat_eq id p.0) ps (every ps)) in
    IsStrictlyIncreasing-from_sorted (numbers_under ps id) (sorted_from_all_adjacent nat_cmp_total (numbers_under ps id) 0 (λ k lt.
    let len : length (numbers_under ps id) ≡ length qs = length-map qs (λ (p : ℕ × ℕ). p.1) in
    let p = get_or qs k (0, 0) in
    let q = get_or qs (k + 1) (0, 0) in
    let less = Less-from_sorted pair_cmp qs k (k + 1) (0, 0) sorted (omega arith) (omega (arith, len)) in
    let a : p.0 ≡ id = at_place (λ (x : ℕ × ℕ). x.0 ≡ id) qs k same (omega (arith, len)) in
    let b : q.0 ≡ id = at_place (λ (x : ℕ × ℕ). x.0 ≡ id) qs (k + 1) same (omega (arith, len)) in
    ap (λ (n : ℕ). nat_cmp n (get_or (numbers_under ps id) (k + 1) 0)) (second_at qs k) ∙ ap (λ (n : ℕ). nat_cmp p.1 n) (second_at qs (k + 1)) ∙ second_less p.0 q.0 p.1 q.1 (a ∙ sym b) less))
  where
    every : (ps : List (ℕ × ℕ)) → AllByRecursion (λ (p : ℕ × ℕ). Unit {0}) ps
    every [] = tt
    every (p ∷ ps) = (tt, every ps)

-- the numbers under an id are those that are known
pub under_any : (ps : List (ℕ × ℕ)) (id n : ℕ) → list_any (nat_eq n) (numbers_under ps id) ≡ is_known ps id n
under_any [] id n = refl
under_any (p ∷ ps) id n = by_test (nat_eq id p.0) (under_any ps id n)
  where
    by_test : (b : Bool) → list_any (nat_eq n) (numbers_under ps id) ≡ is_known ps id n → list_any (nat_eq n) (map (λ (q : ℕ × ℕ). q.1) (cond b (p ∷ filter (λ (q : ℕ × ℕ). nat_eq id q.0) ps) (filter (λ (q : ℕ × ℕ). nat_eq id q.0) ps))) ≡ ((b && nat_eq n p.1) || is_known ps id n)
    by_test true e = ap (λ (b : Bool). nat_eq n p.1 || b) e
    by_test false e = e

-- what is known stays known as more is
module _ (before after : List (ℕ × ℕ)) (kept : (i n : ℕ) → is_known before i n ≡ true → is_known after i n ≡ true) where
  pub still_known : (es : List Entry) → AreKnown before es → AreKnown after es
  still_known es h = all_imply (λ e k. kept e.id e.number k) es h

  pub still_noted : (ps : List Part) → AreNoted before ps → AreNoted after ps
  still_noted ps h = all_imply (λ p k. still_known (entries_in (content p)) k) ps h

  pub still_marked : (es : List Entry) → AreMarksNoted before es → AreMarksNoted after es
  still_marked es h = all_imply (λ e k txn m. kept txn e.number (k txn m)) es h

  pub still_parts : (ps : List Part) → ArePartsNoted before ps → ArePartsNoted after ps
  still_parts ps h = all_imply (λ p k. still_marked (entries_in (content p)) k) ps h

-- the numbers from one on in a range of the set
from_start : (key start j m : ℕ) → m < 2 ^ 64 → range_contains pair_cmp (Bound.Included (key, start)) (Bound.Included (key, 18446744073709551615)) (j, m) ≡ (nat_eq key j && leb start m)
from_start key start j m lt = grind (arith, nat_tests)

module _ (key start : ℕ) where
  pub ranged : (ps : List (ℕ × ℕ)) → AreNumbers ps → filter (range_contains pair_cmp (Bound.Included (key, start)) (Bound.Included (key, 18446744073709551615))) ps ≡ filter (λ p. nat_eq key p.0 && leb start p.1) ps
  ranged [] h = refl
  ranged (p ∷ ps) h =
      ap (λ (b : Bool). cond b (p ∷ filter (range_contains pair_cmp (Bound.Included (key, start)) (Bound.Included (key, 18446744073709551615))) ps) (filter (range_contains pair_cmp (Bound.Included (key, start)) (Bound.Included (key, 18446744073709551615))) ps)) (from_start key start p.0 p.1 h.0)
      ∙ ap (λ (qs : List (ℕ × ℕ)). cond (nat_eq key p.0 && leb start p.1) (p ∷ qs) qs) (ranged ps h.1)

  numbers_from : (ps : List (ℕ × ℕ)) → map (λ p. p.1) (filter (λ p. nat_eq key p.0 && leb start p.1) ps) ≡ filter (leb start) (numbers_under ps key)
  numbers_from [] = refl
  numbers_from (p ∷ ps) = by_test (nat_eq key p.0) (leb start p.1) refl (numbers_from ps)
    where
      by_test : (a b : Bool) → leb start p.1 ≡ b → map (λ (q : ℕ × ℕ). q.1) (filter (λ q. nat_eq key q.0 && leb start q.1) ps) ≡ filter (leb start) (numbers_under ps key) → map (λ (q : ℕ × ℕ). q.1) (cond (a && b) (p ∷ filter (λ q. nat_eq key q.0 && leb start q.1) ps) (filter (λ q. nat_eq key q.0 && leb start q.1) ps)) ≡ filter (leb start) (map (λ (q : ℕ × ℕ). q.1) (cond a (p ∷ filter (λ q. nat_eq key q.0) ps) (filter (λ q. nat_eq key q.0) ps)))
      by_test true true e h = ap (λ (ns : List ℕ). p.1 ∷ ns) h ∙ ap (λ (b : Bool). cond b (p.1 ∷ filter (leb start) (numbers_under ps key)) (filter (leb start) (numbers_under ps key))) (sym e)
      by_test true false e h = h ∙ ap (λ (b : Bool). cond b (p.1 ∷ filter (leb start) (numbers_under ps key)) (filter (leb start) (numbers_under ps key))) (sym e)
      by_test false b e h = h

  module _ (ps : List (ℕ × ℕ)) where
    any_from : (n : ℕ) → list_any (nat_eq n) (map (λ p. p.1) (filter (λ p. nat_eq key p.0 && leb start p.1) ps)) ≡ cond (leb start n) (is_known ps key n) false
    any_from n = ap (list_any (nat_eq n)) (numbers_from ps) ∙ any_filter (leb start) (numbers_under ps key) n ∙ ap (λ (b : Bool). cond (leb start n) b false) (under_any ps key n)

    both : (a b : Bool) → cond a b false ≡ true → (a ≡ true) × (b ≡ true)
    both true b h = (refl, h)
    both false b h = cc

    second : (a b : Bool) → a ≡ true → cond a b false ≡ false → b ≡ false
    second true b e h = h
    second false b e h = cc

    at_most : (n : ℕ) → start ≤ n → leb start n ≡ true
    at_most n le = grind (arith, nat_tests)

    from_test : (n : ℕ) → leb start n ≡ true → start ≤ n
    from_test n e = grind (arith, nat_tests)

    self_equal : (n : ℕ) → nat_eq n n ≡ true
    self_equal n = grind (arith, nat_tests)

    pub first_none : filter (λ p. nat_eq key p.0 && leb start p.1) ps ≡ [] → HasNoneFrom ps key start
    first_none e n le = second (leb start n) (is_known ps key n) (at_most n le) (sym (any_from n) ∙ ap (λ (qs : List (ℕ × ℕ)). list_any (nat_eq n) (map (λ p. p.1) qs)) e)

    below_head : (x n : ℕ) (ms : List ℕ) → n < x → AllByRecursion (λ y. nat_cmp x y ≡ Less) ms → list_any (nat_eq n) (x ∷ ms) ≡ false
    below_head x n ms lt h = ap (λ (b : Bool). b || list_any (nat_eq n) ms) (apart x n lt) ∙ rest ms h
      where
        apart : (y n : ℕ) → n < y → nat_eq n y ≡ false
        apart y n lt = grind (arith, nat_tests)

        further : (y : ℕ) → nat_cmp x y ≡ Less → nat_eq n y ≡ false
        further y e = grind (arith, nat_tests)

        rest : (ms : List ℕ) → AllByRecursion (λ y. nat_cmp x y ≡ Less) ms → list_any (nat_eq n) ms ≡ false
        rest [] h = refl
        rest (y ∷ ys) h = ap (λ (b : Bool). b || list_any (nat_eq n) ys) (further y h.0) ∙ rest ys h.1

    pub first_some : (x : ℕ × ℕ) (rest : List (ℕ × ℕ)) → IsStrictlySortedBy pair_cmp ps → filter (λ p. nat_eq key p.0 && leb start p.1) ps ≡ x ∷ rest → IsFirstFrom ps key start x.1
    first_some x rest s e =
        let ms = map (λ (p : ℕ × ℕ). p.1) rest in
        let any : (n : ℕ) → list_any (nat_eq n) (x.1 ∷ ms) ≡ cond (leb start n) (is_known ps key n) false = λ n. ap (λ (qs : List (ℕ × ℕ)). list_any (nat_eq n) (map (λ p. p.1) qs)) (sym e) ∙ any_from n in
        let is : filter (leb start) (numbers_under ps key) ≡ x.1 ∷ ms = sym (numbers_from ps) ∙ ap (λ (qs : List (ℕ × ℕ)). map (λ (p : ℕ × ℕ). p.1) qs) e in
        let ascends : IsStrictlyIncreasing (x.1 ∷ ms) = subst IsStrictlyIncreasing is (ascends_filter (leb start) (numbers_under ps key) (under_ascends key ps s)) in
        let here = both (leb start x.1) (is_known ps key x.1) (sym (any x.1) ∙ ap (λ (b : Bool). b || list_any (nat_eq x.1) ms) (self_equal x.1)) in
        record {
          known = here.1;
          within = from_test x.1 here.0;
          least = λ n le lt. second (leb start n) (is_known ps key n) (at_most n le) (sym (any n) ∙ below_head x.1 n ms lt (sorted_head nat_cmp x.1 ms (sorted_from_strictly_increasing (x.1 ∷ ms) ascends)));
        }

-- a number that is known fits
pub known_fits : (ps : List (ℕ × ℕ)) (key n : ℕ) → AreNumbers ps → is_known ps key n ≡ true → n < 2 ^ 64
known_fits [] key n h k = cc
known_fits (p ∷ ps) key n h k = by_test (nat_eq key p.0) (nat_eq n p.1) refl k (known_fits ps key n h.1)
  where
    same : nat_eq n p.1 ≡ true → n < 2 ^ 64
    same e = let lt : p.1 < 2 ^ 64 = h.0 in let is : n ≡ p.1 = equal_from p.1 n (nat_eq_equiv.symm p.1 n ∙ e) in subst (λ (m : ℕ). m < 2 ^ 64) (sym is) lt

    by_test : (a b : Bool) → nat_eq n p.1 ≡ b → ((a && b) || is_known ps key n) ≡ true → (is_known ps key n ≡ true → n < 2 ^ 64) → n < 2 ^ 64
    by_test true true e k f = same e
    by_test true false e k f = f k
    by_test false b e k f = f k
