-- A transaction sees one record of an id at most exactly where the ids that it sees, sorted, rise.
use Rattle.std.proofs.Common.{◌≡◌, ◌↔◌, ℕ, ◌+◌, ◌≤◌, Bool, true, false, cond, if◌then◌else◌, nat_le, List, [], ◌∷◌, map, refl, sym, ap, ◌∙◌, subst, inl, inr, ◌⊎◌, arith}
use Rattle.std.specs.Prelude.{nat_eq}
use Rattle.std.specs.List.{AllByRecursion, IsDistinct, filter}
use Rattle.std.specs.List.Sorted.{IsPermutation, IsNonDecreasing, IsStrictlyIncreasing}
use Rattle.std.proofs.lemmas.Int.{ints}
use Rattle.std.proofs.lemmas.Bool.Decides.{nat_tests}
use Rattle.std.proofs.lemmas.Cmp.{nat_eq_equiv}
use Rattle.std.proofs.lemmas.List.Sorted.{IsPermutation-trans, IsPermutation-sym, IsPermutation-map}
use Rattle.std.proofs.lemmas.Map.Keys.{IsDistinct-head, IsDistinct-tail, IsDistinct-IsPermutation, IsStrictlyIncreasing-from_distinct}
use Rattle.sp_rect.specs.Plane.{Rectangle, IsRectangle, meets, whole}
use Rattle.sp_rect.specs.Inside.{meets-from_Overlap}
use Rattle.sp_rect.specs.declared.record.Record.{Record}
use Rattle.sp_rect.specs.Store.{Part, Area, touches, within, with_record, IsAscendingFrom, IsOrderedFrom, IsOrdered}
use Rattle.sp_node.specs.declared.node.Entry.{Entry}
use Rattle.sp_node.specs.Among.{Among}
use Rattle.sp_node.specs.Table.{Table, IsValid, entries_of}
use Rattle.sp_node.proofs.Members.{distinct_from_ascending}
use Rattle.sp_txn.specs.Visible.{is_visible, record_for, sorted, view}
use Rattle.sp_protection.specs.Effects.{is_seen_in}
use Rattle.sp_ops.specs.Seen.{numbers_seen, entries_at}
use Rattle.sp_ops.proofs.Arranging.{from_map, from_filter, ids_distinct}
use Rattle.sp_ops.proofs.Leaves.{entry_space}
use Rattle.sp_ops.proofs.Seeing.{seen_entries, within_view}

-- records sorted
from_with : (x r : Record) (rs : List Record) → Among r (with_record x rs) → (r ≡ x) ⊎ Among r rs
from_with x r [] (inl e) = inl e
from_with x r [] (inr a) = absurd a
from_with x r (y ∷ rs) a = by_test (nat_le x.id y.id) a (from_with x r rs)
  where
    by_test : (b : Bool) → Among r (if b then x ∷ y ∷ rs else y ∷ with_record x rs) → (Among r (with_record x rs) → (r ≡ x) ⊎ Among r rs) → (r ≡ x) ⊎ Among r (y ∷ rs)
    by_test true (inl e) f = inl e
    by_test true (inr b) f = inr b
    by_test false (inl e) f = inr (inl e)
    by_test false (inr b) f = elim (f b) [ inl e ↦ inl e | inr m ↦ inr (inr m) ]

from_sorted : (r : Record) (rs : List Record) → Among r (sorted rs) → Among r rs
from_sorted r [] a = a
from_sorted r (x ∷ rs) a = elim (from_with x r (sorted rs) a) [ inl e ↦ inl e | inr b ↦ inr (from_sorted r rs b) ]

with_ascends : (r : Record) (low : ℕ) (rs : List Record) → low ≤ r.id → IsAscendingFrom low rs → IsAscendingFrom low (with_record r rs)
with_ascends r low [] le h = (le, tt)
with_ascends r low (x ∷ xs) le h = go (nat_le r.id x.id) refl (with_ascends r x.id xs)
  where
    go : (b : Bool) → nat_le r.id x.id ≡ b → (x.id ≤ r.id → IsAscendingFrom x.id xs → IsAscendingFrom x.id (with_record r xs)) → IsAscendingFrom low (if b then r ∷ x ∷ xs else x ∷ with_record r xs)
    go true e rest = (le, (grind (arith, nat_tests), h.1))
    go false e rest = (h.0, rest (grind (arith, nat_tests)) h.1)

sorted_ascends : (rs : List Record) → IsAscendingFrom 0 (sorted rs)
sorted_ascends [] = tt
sorted_ascends (r ∷ rs) = with_ascends r 0 (sorted rs) (omega arith) (sorted_ascends rs)

-- ids that do not fall and are distinct rise
strict_rest : (r : Record) (rs : List Record) → IsAscendingFrom r.id rs → AllByRecursion (λ n. nat_eq r.id n ≡ false) (map (λ x. x.id) rs) → IsDistinct nat_eq (map (λ x. x.id) rs) → IsOrderedFrom (r.id + 1) rs
strict_rest r [] h apart d = tt
strict_rest r (x ∷ rs) h apart d = (above r.id x.id h.0 apart.0, strict_rest x rs h.1 (IsDistinct-head nat_eq x.id (map (λ y. y.id) rs) d) (IsDistinct-tail nat_eq x.id (map (λ y. y.id) rs) d))
  where
    above : (a b : ℕ) → a ≤ b → nat_eq a b ≡ false → a + 1 ≤ b
    above a b le e = grind (arith, nat_tests)

strict_from : (rs : List Record) → IsAscendingFrom 0 rs → IsDistinct nat_eq (map (λ r. r.id) rs) → IsOrdered rs
strict_from [] h d = tt
strict_from (r ∷ rs) h d = (h.0, strict_rest r rs h.1 (IsDistinct-head nat_eq r.id (map (λ x. x.id) rs) d) (IsDistinct-tail nat_eq r.id (map (λ x. x.id) rs) d))

-- all of space meets each rectangle
meets_whole : (r : Rectangle) → IsRectangle r → meets r whole ≡ true
meets_whole r v = meets-from_Overlap r whole (record { left = omega (arith, ints); right = omega (arith, ints); lower = omega (arith, ints); upper = omega (arith, ints) })

within_all : (part : Part) (rs : List Record) → ((r : Record) → Among r rs → touches part r ≡ true) → within part rs ≡ rs
within_all part [] f = refl
within_all part (r ∷ rs) f = ap (λ (b : Bool). cond b (r ∷ within part rs) (within part rs)) (f r (inl refl)) ∙ ap (λ (xs : List Record). r ∷ xs) (within_all part rs (λ x a. f x (inr a)))

ids_of : (txn : ℕ) (es : List Entry) → map (λ r. r.id) (map (record_for txn) es) ≡ map (λ e. e.id) es
ids_of txn [] = refl
ids_of txn (e ∷ es) = ap (λ (ns : List ℕ). e.id ∷ ns) (ids_of txn es)

module _ (t : Table) (v : IsValid t) (txn : ℕ) where
  all_of_view : within (Area whole) (view (entries_of t) txn) ≡ view (entries_of t) txn
  all_of_view = within_all (Area whole) (view (entries_of t) txn) (λ r a.
      let e = from_map (record_for txn) (filter (is_visible txn) (entries_of t)) r (from_sorted r (map (record_for txn) (filter (is_visible txn) (entries_of t))) a) in
      let f = from_filter (is_visible txn) (entries_of t) e.0 e.1 in
      ap (λ (x : Record). meets x.rect whole) e.2 ∙ meets_whole e.0.rect (entry_space t v e.0 f.0))

  pub ids_ordered : (numbers ids rising : List ℕ) → IsPermutation (numbers_seen t txn (Area whole)) numbers → ids ≡ map (λ e. e.id) (entries_at t.nodes numbers) → IsPermutation ids rising → IsNonDecreasing rising
      → IsStrictlyIncreasing rising ↔ IsOrdered (view (entries_of t) txn)
  ids_ordered numbers ids rising p is q up = (
    λ s. strict_from seen (sorted_ascends (map (record_for txn) (filter (is_visible txn) (entries_of t)))) (IsDistinct-IsPermutation nat_eq (nat_eq_equiv.symm) rising (map (λ r. r.id) seen) (IsPermutation-sym _ _ both) (distinct_from_ascending rising s)),
    λ h. IsStrictlyIncreasing-from_distinct rising up (IsDistinct-IsPermutation nat_eq (nat_eq_equiv.symm) (map (λ r. r.id) seen) rising both (ids_distinct 0 seen h)),
  )
    where
      seen : List Record
      seen = view (entries_of t) txn

      there : IsPermutation (map (record_for txn) (filter (is_seen_in txn (Area whole)) (entries_of t))) seen
      there = subst (IsPermutation (map (record_for txn) (filter (is_seen_in txn (Area whole)) (entries_of t)))) all_of_view (within_view txn (Area whole) (entries_of t))

      here : IsPermutation (map (record_for txn) (filter (is_seen_in txn (Area whole)) (entries_of t))) (map (record_for txn) (entries_at t.nodes numbers))
      here = IsPermutation-map (record_for txn) (filter (is_seen_in txn (Area whole)) (entries_of t)) (entries_at t.nodes numbers) (seen_entries t v txn (Area whole) numbers p).0

      same : IsPermutation (map (λ r. r.id) seen) ids
      same = subst (IsPermutation (map (λ r. r.id) seen)) (ids_of txn (entries_at t.nodes numbers) ∙ sym is) (IsPermutation-map (λ (r : Record). r.id) seen (map (record_for txn) (entries_at t.nodes numbers)) (IsPermutation-trans seen _ _ (IsPermutation-sym _ _ there) here))

      both : IsPermutation (map (λ r. r.id) seen) rising
      both = IsPermutation-trans _ ids rising same q
