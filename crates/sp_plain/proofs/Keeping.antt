-- Operations keep records by ascending id.
use Rattle.std.proofs.Common.{◌≡◌, ℕ, ◌+◌, ◌<◌, ◌≤◌, Bool, true, false, eqb, leb, List, [], ◌∷◌, refl, sym, subst, arith, if◌then◌else◌}
use Rattle.std.specs.List.{filter}
use Rattle.std.proofs.lemmas.Bool.{leb-true, leb-false, eqb-false}
use Rattle.sp_rect.specs.Store.{Part, Id, Area, touches, within, with_value, written, with_record, changed, after, IsOrderedFrom, IsOrdered}
use Rattle.sp_rect.specs.declared.record.Record.{Record}
use Rattle.sp_rect.specs.declared.operation.Op.{Op}
use Rattle.sp_rect.specs.declared.operation.Op.TheVariants.{Put, Drop, Set, Get, Find, Fill, Clear}
use Rattle.sp_plain.proofs.Order.{IsOrderedFrom-lower}

filtered_at : (p : Record → Bool) (low : ℕ) (x : Record) (xs : List Record) → low ≤ x.id → IsOrderedFrom (x.id + 1) (filter p xs) → (b : Bool) → p x ≡ b → IsOrderedFrom low (filter p (x ∷ xs))
filtered_at p low x xs h more true e = rw e (h, more)
filtered_at p low x xs h more false e = rw e (IsOrderedFrom-lower low (x.id + 1) (filter p xs) (omega arith) more)

pub ordered_filter : (p : Record → Bool) (low : ℕ) (xs : List Record) → IsOrderedFrom low xs → IsOrderedFrom low (filter p xs)
ordered_filter p low [] o = tt
ordered_filter p low (x ∷ xs) o = filtered_at p low x xs o.0 (ordered_filter p (x.id + 1) xs o.1) (p x) refl

same_id : (part : Part) (v : List ℕ) (x : Record) (b : Bool) → touches part x ≡ b → (with_value part v x).id ≡ x.id
same_id part v x true e = rw e refl
same_id part v x false e = rw e refl

pub ordered_written : (part : Part) (v : List ℕ) (low : ℕ) (xs : List Record) → IsOrderedFrom low xs → IsOrderedFrom low (written part v xs)
ordered_written part v low [] o = tt
ordered_written part v low (x ∷ xs) o =
    subst (λ (n : ℕ). (low ≤ n) × IsOrderedFrom (n + 1) (written part v xs)) (sym (same_id part v x (touches part x) refl)) (o.0, ordered_written part v (x.id + 1) xs o.1)

-- none of the id among the rest, and another in front
pub free_rest : (id : ℕ) (x : Record) (xs : List Record) (b : Bool) → eqb x.id id ≡ b → within (Id id) (x ∷ xs) ≡ [] → (eqb x.id id ≡ false) × (within (Id id) xs ≡ [])
free_rest id x xs true e h = let f : x ∷ within (Id id) xs ≡ [] = rw e at h in cc
free_rest id x xs false e h = (e, rw e at h)

put_at : (r : Record) (low : ℕ) (x : Record) (xs : List Record) → low ≤ r.id → (x.id ≡ r.id → ⊥) → low ≤ x.id → IsOrderedFrom (x.id + 1) xs → (x.id + 1 ≤ r.id → IsOrderedFrom (x.id + 1) (with_record r xs)) → (b : Bool) → leb r.id x.id ≡ b → IsOrderedFrom low (with_record r (x ∷ xs))
put_at r low x xs h ne k o more true e = let n : r.id ≤ x.id = leb-true r.id x.id e in rw e (h, (omega arith, o))
put_at r low x xs h ne k o more false e = let n : x.id < r.id = leb-false r.id x.id e in rw e (k, more (omega arith))

pub ordered_with_record : (r : Record) (low : ℕ) (xs : List Record) → low ≤ r.id → within (Id r.id) xs ≡ [] → IsOrderedFrom low xs → IsOrderedFrom low (with_record r xs)
ordered_with_record r low [] h free o = (h, tt)
ordered_with_record r low (x ∷ xs) h free o =
    let parts = free_rest r.id x xs (eqb x.id r.id) refl free in
    put_at r low x xs h (eqb-false x.id r.id parts.0) o.0 o.1 (λ k. ordered_with_record r (x.id + 1) xs k parts.1 o.1) (leb r.id x.id) refl

put_ordered : (r : Record) (xs found : List Record) → within (Id r.id) xs ≡ found → IsOrdered xs → IsOrdered (changed (Put r) found xs)
put_ordered r xs [] e o = ordered_with_record r 0 xs (omega arith) e o
put_ordered r xs (f ∷ rest) e o = o

-- records by ascending id are so after each operation
pub ordered_after : (op : Op) (xs : List Record) → IsOrdered xs → IsOrdered (after op xs)
ordered_after (Put r) xs o = put_ordered r xs (within (Id r.id) xs) refl o
ordered_after (Drop id) xs o = ordered_filter _ 0 xs o
ordered_after (Set id value) xs o = ordered_written (Id id) value 0 xs o
ordered_after (Get id) xs o = o
ordered_after (Find rect) xs o = o
ordered_after (Fill rect value) xs o = ordered_written (Area rect) value 0 xs o
ordered_after (Clear rect) xs o = ordered_filter _ 0 xs o

pub ordered_either : (b : Bool) (op : Op) (xs : List Record) → IsOrdered xs → IsOrdered (if b then after op xs else xs)
ordered_either true op xs o = ordered_after op xs o
ordered_either false op xs o = o
