-- Changes make no more records than they may.
use Rattle.std.proofs.Common.{◌≡◌, ℕ, ◌+◌, ◌<◌, ◌≤◌, Bool, true, false, not, ◌&&◌, cond, List, [], ◌∷◌, length, Some, None, refl, sym, subst, arith}
use Rattle.std.specs.Prelude.{nat_le, nat_lt, Result, Ok, Err, IfOk, OnErr}
use Rattle.std.proofs.lemmas.Bool.Decides.{nat_tests}
use Rattle.std.proofs.lemmas.List.{length-map}
use Rattle.std.proofs.lemmas.List.Sums.{length-filter, count_by-le-length}
use Rattle.sp_rect.specs.declared.record.Record.{Record}
use Rattle.sp_rect.specs.Store.{Id, with_record, touches, with_value}
use Rattle.sp_plain.specs.declared.change.Change.{Change}
use Rattle.sp_plain.specs.declared.change.Change.TheVariants.{Put, Drop, Set}
use Rattle.sp_plain.specs.Taking.{most_records, is_there, can_change, left_by, taken}

one_more : (r : Record) (rs : List Record) → length (with_record r rs) ≤ length rs + 1
one_more r [] = omega arith
one_more r (x ∷ xs) = go (nat_le r.id x.id) (one_more r xs)
  where
    go : (b : Bool) → length (with_record r xs) ≤ length xs + 1 → length (cond b (r ∷ x ∷ xs) (x ∷ with_record r xs)) ≤ length (x ∷ xs) + 1
    go true h = omega arith
    go false h = omega arith

left_small : (c : Change) (rs : List Record) → can_change c rs ≡ true → length rs ≤ most_records → length (left_by c rs) ≤ most_records
left_small (Put r) rs can h = let l = one_more r rs in let b = room (is_there r.id rs) (length rs) can in omega (arith, l, b)
  where
    room : (b : Bool) (n : ℕ) → not b && nat_lt n most_records ≡ true → n < most_records
    room b n h = grind (arith, nat_tests)
left_small (Drop id) rs can h = let e = length-filter (λ (r : Record). not (touches (Id id) r)) rs in let l = count_by-le-length (λ (r : Record). not (touches (Id id) r)) rs in omega (arith, e, l)
left_small (Set id value) rs can h = let e = length-map rs (with_value (Id id) value) in omega (arith, e)

pub taken_small : (cs : List Change) (rs rs' : List Record) → taken cs rs ≡ Some rs' → length rs ≤ most_records → length rs' ≤ most_records
taken_small [] rs rs' e h = subst (λ (xs : List Record). length xs ≤ most_records) (one rs rs' e) h
  where
    one : (a b : List Record) → Some a ≡ Some b → a ≡ b
    one a b e = cc
taken_small (c ∷ cs) rs rs' e h = go (can_change c rs) refl e (taken_small cs (left_by c rs) rs')
  where
    none : None ≡ Some rs' → length rs' ≤ most_records
    none e = cc

    go : (b : Bool) → can_change c rs ≡ b → cond b (taken cs (left_by c rs)) None ≡ Some rs' → (taken cs (left_by c rs) ≡ Some rs' → length (left_by c rs) ≤ most_records → length rs' ≤ most_records) → length rs' ≤ most_records
    go true can e rest = rest e (left_small c rs can h)
    go false can e rest = none e

pub take_small : (cs : List Change) (rs rs' : List Record) (made : Bool) → taken cs rs ≡ cond made (Some rs') None → (made ≡ false → rs' ≡ rs) → length rs ≤ most_records → length rs' ≤ most_records
take_small cs rs rs' true e same h = taken_small cs rs rs' e h
take_small cs rs rs' false e same h = subst (λ (xs : List Record). length xs ≤ most_records) (sym (same refl)) h

-- whatever a store answers to changes, it has no more records than it may
pub answer_small : {E : Type 0} (answer : Result Bool E) (cs : List Change) (rs rs' : List Record) → IfOk answer (λ made. taken cs rs ≡ cond made (Some rs') None) → IfOk answer (λ made. made ≡ false → rs' ≡ rs) → OnErr answer (rs' ≡ rs) → length rs ≤ most_records → length rs' ≤ most_records
answer_small (Ok made) cs rs rs' e same err h = take_small cs rs rs' made e same h
answer_small (Err x) cs rs rs' e same err h = subst (λ (xs : List Record). length xs ≤ most_records) (sym err) h
