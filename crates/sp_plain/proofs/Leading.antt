-- What takes a change back, and lists of such changes.
use Rattle.std.proofs.Common.{◌≡◌, ℕ, ◌+◌, ◌<◌, ◌≤◌, Bool, true, false, not, eqb, leb, List, [], ◌∷◌, ◌++◌, length, reverse, get_or, drop, refl, sym, ◌∙◌, ap, subst, arith, inl, inr, Some, None}
use Rattle.std.proofs.lemmas.Bool.{eq-eqb, eqb-true, le-leb, lt-leb, and_parts, not-true, cases_lt}
use Rattle.std.proofs.lemmas.List.{reverse-append, drop_more}
use Rattle.sp_list.specs.Emptiness.{is_empty}
use Rattle.sp_rect.specs.Store.{Id, within, without, with_record, IsOrderedFrom, IsOrdered}
use Rattle.sp_rect.specs.declared.record.Record.{Record}
use Rattle.sp_plain.specs.Taking.{is_there, can_change, left_by, taken}
use Rattle.sp_plain.specs.Undoing.{CanMake, CanMakeAll, left_by_all, LeadsBack}
use Rattle.sp_plain.specs.declared.change.Change.{Change}
use Rattle.sp_plain.specs.declared.change.Change.TheVariants.{Put, Drop, Set}
use Rattle.sp_plain.proofs.Order.{without_none, within_above}
use Rattle.sp_plain.proofs.Keeping.{free_rest, ordered_with_record, ordered_filter, ordered_written}

-- an id that is not there has no record
none_in : (found : List Record) → not (is_empty found) ≡ false → found ≡ []
none_in [] h = refl
none_in (x ∷ xs) h = cc

pub not_there : (id : ℕ) (xs : List Record) → is_there id xs ≡ false → within (Id id) xs ≡ []
not_there id xs h = none_in (within (Id id) xs) h

-- a record that was put in is taken out
put_out_at : (r x : Record) (xs : List Record) → eqb x.id r.id ≡ false → without (Id r.id) xs ≡ xs → without (Id r.id) (with_record r xs) ≡ xs → (b : Bool) → leb r.id x.id ≡ b → without (Id r.id) (with_record r (x ∷ xs)) ≡ x ∷ xs
put_out_at r x xs ne rest more true e = rw (e, eq-eqb r.id r.id refl, ne) (ap (λ l. x ∷ l) rest)
put_out_at r x xs ne rest more false e = rw (e, ne) (ap (λ l. x ∷ l) more)

pub put_out : (r : Record) (xs : List Record) → within (Id r.id) xs ≡ [] → without (Id r.id) (with_record r xs) ≡ xs
put_out r [] free = rw (eq-eqb r.id r.id refl) refl
put_out r (x ∷ xs) free =
    let parts = free_rest r.id x xs (eqb x.id r.id) refl free in
    put_out_at r x xs parts.0 (without_none (Id r.id) xs parts.1) (put_out r xs parts.1) (leb r.id x.id) refl

-- a record that was taken out is put in
front_at : (low : ℕ) (x : Record) (xs : List Record) → IsOrderedFrom (x.id + 1) xs → with_record x xs ≡ x ∷ xs
front_at low x [] o = refl
front_at low x (y ∷ ys) o = let k : x.id + 1 ≤ y.id = o.0 in rw (le-leb x.id y.id (omega arith)) refl

-- of a list with no record of the id none is of it
emptied_at : (id : ℕ) (x : Record) (xs : List Record) → within (Id id) (without (Id id) xs) ≡ [] → (b : Bool) → eqb x.id id ≡ b → within (Id id) (without (Id id) (x ∷ xs)) ≡ []
emptied_at id x xs more true e = rw e more
emptied_at id x xs more false e = rw (e, e) more

pub emptied : (id : ℕ) (xs : List Record) → within (Id id) (without (Id id) xs) ≡ []
emptied id [] = refl
emptied id (x ∷ xs) = emptied_at id x xs (emptied id xs) (eqb x.id id) refl

pub record PutsBack (id : ℕ) (xs : List Record) (r : Record) : Type 0 where
  pub named : r.id ≡ id
  pub same : with_record r (without (Id id) xs) ≡ xs

put_back_at : (low id : ℕ) (x r : Record) (xs : List Record) → IsOrderedFrom low (x ∷ xs) → (within (Id id) xs ≡ r ∷ [] → PutsBack id xs r) → (b : Bool) → eqb x.id id ≡ b → within (Id id) (x ∷ xs) ≡ r ∷ [] → PutsBack id (x ∷ xs) r
put_back_at low id x r xs o more true e h =
    let f : x ∷ within (Id id) xs ≡ r ∷ [] = rw e at h in
    let is : x ≡ r = cc in
    let none : within (Id id) xs ≡ [] = cc in
    let n : x.id ≡ id = eqb-true x.id id e in
    let front : with_record x xs ≡ x ∷ xs = front_at low x xs o.1 in
    subst (λ (z : Record). PutsBack id (x ∷ xs) z) is (record { named = n; same = rw (e, without_none (Id id) xs none) front })
put_back_at low id x r xs o more false e h =
    let f : within (Id id) xs ≡ r ∷ [] = rw e at h in
    let rest : PutsBack id xs r = more f in
    let beyond : id < x.id + 1 → [] ≡ r ∷ [] = λ lt. sym (within_above (x.id + 1) id xs o.1 lt) ∙ f in
    let above : x.id < id = elim (cases_lt id (x.id + 1)) as (λ _. x.id < id) [ inl lt ↦ (let z : [] ≡ r ∷ [] = beyond lt in cc) | inr ge ↦ omega arith ] in
    let n : r.id ≡ id = rest.named in
    record { named = n; same = rw (e, lt-leb r.id x.id (omega arith)) (ap (λ l. x ∷ l) rest.same) }

pub put_back : (low id : ℕ) (r : Record) (xs : List Record) → IsOrderedFrom low xs → within (Id id) xs ≡ r ∷ [] → PutsBack id xs r
put_back low id r [] o h = cc
put_back low id r (x ∷ xs) o h = put_back_at low id x r xs o (λ f. put_back (x.id + 1) id r xs o.1 f) (eqb x.id id) refl h

-- changes keep the order
pub ordered_made : (room : ℕ) (c : Change) (xs : List Record) → CanMake room c xs → IsOrdered xs → IsOrdered (left_by c xs)
ordered_made room (Put r) xs can o = ordered_with_record r 0 xs (omega arith) can.0 o
ordered_made room (Drop id) xs can o = ordered_filter _ 0 xs o
ordered_made room (Set id value) xs can o = ordered_written (Id id) value 0 xs o

pub ordered_changed : (c : Change) (xs : List Record) → can_change c xs ≡ true → IsOrdered xs → IsOrdered (left_by c xs)
ordered_changed (Put r) xs can o =
    let parts = and_parts _ _ can in
    ordered_with_record r 0 xs (omega arith) (not_there r.id xs (not-true _ parts.0)) o
ordered_changed (Drop id) xs can o = ordered_filter _ 0 xs o
ordered_changed (Set id value) xs can o = ordered_written (Id id) value 0 xs o

-- more room does no harm
can_more : (room more : ℕ) → room ≤ more → (c : Change) (xs : List Record) → CanMake room c xs → CanMake more c xs
can_more room more h (Put r) xs can = let k : length xs < room = can.1 in (can.0, omega arith)
can_more room more h (Drop id) xs can = tt
can_more room more h (Set id value) xs can = tt

can_more_all : (room more : ℕ) → room ≤ more → (cs : List Change) (xs : List Record) → CanMakeAll room cs xs → CanMakeAll more cs xs
can_more_all room more h [] xs can = tt
can_more_all room more h (c ∷ cs) xs can = (can_more room more h c xs can.0, can_more_all room more h cs (left_by c xs) can.1)

pub leads_still : (room more : ℕ) → room ≤ more → (cs : List Change) (xs old : List Record) → LeadsBack room cs xs old → LeadsBack more cs xs old
leads_still room more h cs xs old l = record { can = can_more_all room more h cs xs l.can; back = l.back }

-- one more change to take back
pub leads_on : (room more : ℕ) → room ≤ more → (c : Change) (us : List Change) (now before old : List Record) → LeadsBack more (c ∷ []) now before → LeadsBack room (reverse us) before old → LeadsBack more (reverse (us ++ c ∷ [])) now old
leads_on room more h c us now before old first l =
    let still = leads_still room more h (reverse us) before old l in
    let can : CanMakeAll more (reverse us) (left_by c now) = subst (λ (xs : List Record). CanMakeAll more (reverse us) xs) (sym first.back) still.can in
    let back : left_by_all (reverse us) (left_by c now) ≡ old = ap (λ (xs : List Record). left_by_all (reverse us) xs) first.back ∙ still.back in
    subst (λ (cs : List Change). LeadsBack more cs now old) (sym (reverse-append us (c ∷ []))) (record { can = (first.can.0, can); back = back })

-- one change of a list is made
pub taken_more : (changes : List Change) (i : ℕ) (c : Change) (records next : List Record) → i < length changes → c ≡ get_or changes i c → true ≡ can_change c records → next ≡ left_by c records → taken (drop i changes) records ≡ taken (drop (i + 1) changes) next
taken_more changes i c records next h is can made =
    let first : drop i changes ≡ get_or changes i c ∷ drop (i + 1) changes = drop_more changes i c h in
    let here : drop i changes ≡ c ∷ drop (i + 1) changes = subst (λ (z : Change). drop i changes ≡ z ∷ drop (i + 1) changes) (sym is) first in
    rw (here, ← can, made) refl

-- what changes make is by ascending id
taken_at : (c : Change) (changes : List Change) (records made : List Record) → IsOrdered records → (IsOrdered (left_by c records) → taken changes (left_by c records) ≡ Some made → IsOrdered made) → (b : Bool) → can_change c records ≡ b → taken (c ∷ changes) records ≡ Some made → IsOrdered made
taken_at c changes records made o more true e h = more (ordered_changed c records e o) (rw e at h)
taken_at c changes records made o more false e h = let n : None ≡ Some made = rw e at h in cc

pub ordered_taken : (changes : List Change) (records made : List Record) → IsOrdered records → taken changes records ≡ Some made → IsOrdered made
ordered_taken [] records made o h = let same : records ≡ made = cc in subst IsOrdered same o
ordered_taken (c ∷ changes) records made o h = taken_at c changes records made o (λ k f. ordered_taken changes (left_by c records) made k f) (can_change c records) refl h
