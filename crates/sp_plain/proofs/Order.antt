-- Records by ascending id: where an id stands, and what reads and writes there do.
use Rattle.std.proofs.Common.{◌≡◌, ℕ, ◌+◌, ◌<◌, ◌≤◌, zero, suc, Bool, true, false, eqb, leb, List, [], ◌∷◌, length, get_or, set, refl, sym, ◌∙◌, ap, arith}
use Rattle.std.specs.List.{insert, remove}
use Rattle.std.proofs.lemmas.List.{set-get_or}
use Rattle.std.proofs.lemmas.Bool.{ne_eqb, eq-eqb, leb-true, leb-false, lt-leb, le-leb}
use Rattle.sp_rect.specs.Store.{Part, Id, touches, within, without, with_value, written, with_record, IsOrderedFrom}
use Rattle.sp_rect.specs.declared.record.Record.{Record}
use Rattle.sp_plain.specs.Place.{place, StandsAt}
use Rattle.sp_plain.specs.Taking.{is_there}

-- ids from m on are ids from any lower number on
pub IsOrderedFrom-lower : (low m : ℕ) (xs : List Record) → low ≤ m → IsOrderedFrom m xs → IsOrderedFrom low xs
IsOrderedFrom-lower low m [] h o = tt
IsOrderedFrom-lower low m (x ∷ xs) h o = let k : m ≤ x.id = o.0 in (omega arith, o.1)

-- no id is below the bound
pub at_least : (low : ℕ) (xs : List Record) → IsOrderedFrom low xs → (k : ℕ) (d : Record) → k < length xs → low ≤ (get_or xs k d).id
at_least low [] o k d h = absurd (omega arith)
at_least low (x ∷ xs) o zero d h = o.0
at_least low (x ∷ xs) o (suc k) d h =
    let m : low ≤ x.id = o.0 in
    let n : x.id + 1 ≤ (get_or xs k d).id = at_least (x.id + 1) xs o.1 k d (omega arith) in
    omega arith

-- ids rise
pub rising : (low : ℕ) (xs : List Record) → IsOrderedFrom low xs → (i j : ℕ) (d : Record) → i ≤ j → j < length xs → (get_or xs i d).id ≤ (get_or xs j d).id
rising low [] o i j d h k = absurd (omega arith)
rising low (x ∷ xs) o zero zero d h k = omega arith
rising low (x ∷ xs) o zero (suc j) d h k =
    let n : x.id + 1 ≤ (get_or xs j d).id = at_least (x.id + 1) xs o.1 j d (omega arith) in
    omega arith
rising low (x ∷ xs) o (suc i) zero d h k = absurd (omega arith)
rising low (x ∷ xs) o (suc i) (suc j) d h k = rising (x.id + 1) xs o.1 i j d (omega arith) (omega arith)

-- the place is where lower ids end
pub place_is : (id : ℕ) (xs : List Record) (i : ℕ) → i ≤ length xs → ((k : ℕ) (d : Record) → k < i → (get_or xs k d).id < id) → ((k : ℕ) (d : Record) → i ≤ k → k < length xs → id ≤ (get_or xs k d).id) → i ≡ place id xs
place_is id [] i h below above = omega arith
place_is id (x ∷ xs) zero h below above = rw (le-leb id x.id (above 0 x (omega arith) (omega arith))) refl
place_is id (x ∷ xs) (suc i) h below above =
    rw (lt-leb id x.id (below 0 x (omega arith)))
    (ap suc (place_is id xs i (omega arith) (λ k d l. below (suc k) d (omega arith)) (λ k d l m. above (suc k) d (omega arith) (omega arith))))

-- the id is none of those from a greater number on
pub within_above : (low id : ℕ) (xs : List Record) → IsOrderedFrom low xs → id < low → within (Id id) xs ≡ []
within_above low id [] o h = refl
within_above low id (x ∷ xs) o h =
    let k : low ≤ x.id = o.0 in
    rw (ne_eqb x.id id (λ e. omega arith)) (within_above (x.id + 1) id xs o.1 (omega arith))

pub without_above : (low id : ℕ) (xs : List Record) → IsOrderedFrom low xs → id < low → without (Id id) xs ≡ xs
without_above low id [] o h = refl
without_above low id (x ∷ xs) o h =
    let k : low ≤ x.id = o.0 in
    rw (ne_eqb x.id id (λ e. omega arith)) (ap (λ l. x ∷ l) (without_above (x.id + 1) id xs o.1 (omega arith)))

pub written_above : (low id : ℕ) (v : List ℕ) (xs : List Record) → IsOrderedFrom low xs → id < low → written (Id id) v xs ≡ xs
written_above low id v [] o h = refl
written_above low id v (x ∷ xs) o h =
    let k : low ≤ x.id = o.0 in
    rw (ne_eqb x.id id (λ e. omega arith)) (ap (λ l. x ∷ l) (written_above (x.id + 1) id v xs o.1 (omega arith)))

-- where another record or none stands at the place, none of the id is there
abbrev pub IsFreeAt : ℕ → List Record → ℕ → Type 0
IsFreeAt id xs at = (d : Record) → at < length xs → (get_or xs at d).id ≡ id → ⊥

absent_at : (low id : ℕ) (x : Record) (xs : List Record) → IsOrderedFrom low (x ∷ xs) → IsFreeAt id (x ∷ xs) (place id (x ∷ xs)) → (IsFreeAt id xs (place id xs) → within (Id id) xs ≡ []) → (b : Bool) → leb id x.id ≡ b → within (Id id) (x ∷ xs) ≡ []
absent_at low id x xs o h more true e =
    let n : id ≤ x.id = leb-true id x.id e in
    let ne : x.id ≡ id → ⊥ = rw e at (h x) (omega arith) in
    let lt : id < x.id + 1 = omega arith in
    rw (ne_eqb x.id id ne) (within_above (x.id + 1) id xs o.1 lt)
absent_at low id x xs o h more false e =
    let n : x.id < id = leb-false id x.id e in
    let free : IsFreeAt id xs (place id xs) = λ d l. rw e at (h d) (omega arith) in
    rw (ne_eqb x.id id (λ f. omega arith)) (more free)

pub absent : (low id : ℕ) (xs : List Record) → IsOrderedFrom low xs → IsFreeAt id xs (place id xs) → within (Id id) xs ≡ []
absent low id [] o h = refl
absent low id (x ∷ xs) o h = absent_at low id x xs o h (λ free. absent (x.id + 1) id xs o.1 free) (leb id x.id) refl

-- the one record of an id that stands there
pub stands_within : (low id : ℕ) (xs : List Record) (at : ℕ) → IsOrderedFrom low xs → at < length xs → ((d : Record) → (get_or xs at d).id ≡ id) → (d : Record) → within (Id id) xs ≡ get_or xs at d ∷ []
stands_within low id [] at o h e d = absurd (omega arith)
stands_within low id (x ∷ xs) zero o h e d =
    let f : x.id ≡ id = e x in
    rw (eq-eqb x.id id f) (ap (λ l. x ∷ l) (within_above (x.id + 1) id xs o.1 (omega arith)))
stands_within low id (x ∷ xs) (suc k) o h e d =
    let f : (get_or xs k d).id ≡ id = e d in
    let n : x.id + 1 ≤ (get_or xs k d).id = at_least (x.id + 1) xs o.1 k d (omega arith) in
    rw (ne_eqb x.id id (λ g. omega arith)) (stands_within (x.id + 1) id xs k o.1 (omega arith) e d)

pub stands_without : (low id : ℕ) (xs : List Record) (at : ℕ) → IsOrderedFrom low xs → at < length xs → ((d : Record) → (get_or xs at d).id ≡ id) → without (Id id) xs ≡ remove xs at
stands_without low id [] at o h e = absurd (omega arith)
stands_without low id (x ∷ xs) zero o h e =
    let f : x.id ≡ id = e x in
    rw (eq-eqb x.id id f) (without_above (x.id + 1) id xs o.1 (omega arith))
stands_without low id (x ∷ xs) (suc k) o h e =
    let f : (get_or xs k x).id ≡ id = e x in
    let n : x.id + 1 ≤ (get_or xs k x).id = at_least (x.id + 1) xs o.1 k x (omega arith) in
    rw (ne_eqb x.id id (λ g. omega arith)) (ap (λ l. x ∷ l) (stands_without (x.id + 1) id xs k o.1 (omega arith) e))

-- the record with another value
abbrev pub valued : List ℕ → Record → Record
valued v r = record { id = r.id; rect = r.rect; value = v }

pub stands_written : (low id : ℕ) (v : List ℕ) (xs : List Record) (at : ℕ) → IsOrderedFrom low xs → at < length xs → ((d : Record) → (get_or xs at d).id ≡ id) → (d : Record) → written (Id id) v xs ≡ set xs at (valued v (get_or xs at d))
stands_written low id v [] at o h e d = absurd (omega arith)
stands_written low id v (x ∷ xs) zero o h e d =
    let f : x.id ≡ id = e x in
    rw (eq-eqb x.id id f) (ap (λ l. valued v x ∷ l) (written_above (x.id + 1) id v xs o.1 (omega arith)))
stands_written low id v (x ∷ xs) (suc k) o h e d =
    let f : (get_or xs k d).id ≡ id = e d in
    let n : x.id + 1 ≤ (get_or xs k d).id = at_least (x.id + 1) xs o.1 k d (omega arith) in
    rw (ne_eqb x.id id (λ g. omega arith)) (ap (λ l. x ∷ l) (stands_written (x.id + 1) id v xs k o.1 (omega arith) e d))

-- a record is put in at its place
with_record_at : (r x : Record) (xs : List Record) → with_record r xs ≡ insert xs (place r.id xs) r → (b : Bool) → leb r.id x.id ≡ b → with_record r (x ∷ xs) ≡ insert (x ∷ xs) (place r.id (x ∷ xs)) r
with_record_at r x xs more true e = rw e refl
with_record_at r x xs more false e = rw e (ap (λ l. x ∷ l) more)

pub with_record_is : (r : Record) (xs : List Record) → with_record r xs ≡ insert xs (place r.id xs) r
with_record_is r [] = refl
with_record_is r (x ∷ xs) = with_record_at r x xs (with_record_is r xs) (leb r.id x.id) refl

-- where nothing is in the part, it takes nothing away and writes nothing
none_outside : (part : Part) (x : Record) (xs : List Record) → (within part xs ≡ [] → without part xs ≡ xs) → (b : Bool) → touches part x ≡ b → within part (x ∷ xs) ≡ [] → without part (x ∷ xs) ≡ x ∷ xs
none_outside part x xs more true e h = let f : x ∷ within part xs ≡ [] = rw e at h in cc
none_outside part x xs more false e h = let f : within part xs ≡ [] = rw e at h in rw e (ap (λ l. x ∷ l) (more f))

pub without_none : (part : Part) (xs : List Record) → within part xs ≡ [] → without part xs ≡ xs
without_none part [] h = refl
without_none part (x ∷ xs) h = none_outside part x xs (λ f. without_none part xs f) (touches part x) refl h

none_written : (part : Part) (v : List ℕ) (x : Record) (xs : List Record) → (within part xs ≡ [] → written part v xs ≡ xs) → (b : Bool) → touches part x ≡ b → within part (x ∷ xs) ≡ [] → written part v (x ∷ xs) ≡ x ∷ xs
none_written part v x xs more true e h = let f : x ∷ within part xs ≡ [] = rw e at h in cc
none_written part v x xs more false e h = let f : within part xs ≡ [] = rw e at h in rw e (ap (λ l. x ∷ l) (more f))

pub written_none : (part : Part) (v : List ℕ) (xs : List Record) → within part xs ≡ [] → written part v xs ≡ xs
written_none part v [] h = refl
written_none part v (x ∷ xs) h = none_written part v x xs (λ f. written_none part v xs f) (touches part x) refl h

-- of two values written one after the other, the second stands
twice_at : (id : ℕ) (v w : List ℕ) (x : Record) (b : Bool) → eqb x.id id ≡ b → with_value (Id id) w (with_value (Id id) v x) ≡ with_value (Id id) w x
twice_at id v w x true e = rw (e, e) refl
twice_at id v w x false e = rw (e, e) refl

pub written_twice : (id : ℕ) (v w : List ℕ) (xs : List Record) → written (Id id) w (written (Id id) v xs) ≡ written (Id id) w xs
written_twice id v w [] = refl
written_twice id v w (x ∷ xs) =
    let here : with_value (Id id) w (with_value (Id id) v x) ≡ with_value (Id id) w x = twice_at id v w x (eqb x.id id) refl in
    let rest : written (Id id) w (written (Id id) v xs) ≡ written (Id id) w xs = written_twice id v w xs in
    cc

-- a value is written at a place, and what stood there is written back
module _ (low id at : ℕ) (xs : List Record) (o : IsOrderedFrom low xs) (s : StandsAt id xs at) where
  pub exchanged : (v : List ℕ) (held : Record) → held ≡ get_or xs at held → set xs at (valued v held) ≡ written (Id id) v xs
  exchanged v held e = ap (λ (r : Record). set xs at (valued v r)) e ∙ sym (stands_written low id v xs at o s.within s.named held)

  pub written_back : (v : List ℕ) (held : Record) → held ≡ get_or xs at held → xs ≡ written (Id id) held.value (set xs at (valued v held))
  written_back v held e =
      let same : set xs at held ≡ xs = ap (λ (r : Record). set xs at r) e ∙ set-get_or xs at held in
      let again : set xs at held ≡ written (Id id) held.value xs = exchanged held.value held e in
      let twice : written (Id id) held.value (written (Id id) v xs) ≡ written (Id id) held.value xs = written_twice id v held.value xs in
      let there : set xs at (valued v held) ≡ written (Id id) v xs = exchanged v held e in
      rw there (sym same ∙ (again ∙ sym twice))

-- a record of the id is there
pub there : (low id at : ℕ) (xs : List Record) → IsOrderedFrom low xs → StandsAt id xs at → true ≡ is_there id xs
there low id at [] o s = let h = s.within in absurd (omega arith)
there low id at (x ∷ xs) o s = rw (stands_within low id (x ∷ xs) at o s.within s.named x) refl
