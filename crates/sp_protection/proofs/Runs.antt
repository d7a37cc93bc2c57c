-- Operations on two stores that differ only where the operations do not look.
use Rattle.std.proofs.Common.{◌≡◌, ◌≢◌, ◌⊎◌, ℕ, ◌≤◌, ◌<◌, Bool, true, false, not, List, [], ◌∷◌, map, filter, nat_eq, nat_lt, nat_le, refl, sym, ap, ap₂, ◌∙◌, subst, inl, inr, le_refl, arith}
use Rattle.std.specs.Prelude.{if◌then◌else◌}
use Rattle.std.proofs.lemmas.Bool.Decides.{nat_tests}
use Rattle.sp_rect.specs.declared.record.Record.{Record}
use Rattle.sp_rect.specs.declared.operation.Answered.{Answered}
use Rattle.sp_rect.specs.declared.operation.Op.{Op}
use Rattle.sp_rect.specs.declared.operation.Op.TheVariants.{Put, Drop, Set, Get, Find, Fill, Clear}
use Rattle.sp_rect.specs.Store.{IsAscendingFrom, Part, Id, Area, part_of, touches, within, reply_to, with_record, with_value, written, without, changed, after}
use Rattle.sp_rect.specs.Serial.{records_after}
use Rattle.sp_txn.specs.Visible.{sorted}
use Rattle.sp_protection.specs.Apart.{IsApart, AreApart, SameAt, DifferApart, Undisturbed}

lower : (low low' : ℕ) (rs : List Record) → low ≤ low' → IsAscendingFrom low' rs → IsAscendingFrom low rs
lower low low' [] le h = tt
lower low low' (r ∷ rs) le h = (omega arith, h.1)

filter-ascends : (test : Record → Bool) (low : ℕ) (rs : List Record) → IsAscendingFrom low rs → IsAscendingFrom low (filter test rs)
filter-ascends test low [] h = tt
filter-ascends test low (r ∷ rs) h = go (test r) (filter-ascends test r.id rs h.1)
  where
    go : (b : Bool) → IsAscendingFrom r.id (filter test rs) → IsAscendingFrom low (if b then r ∷ filter test rs else filter test rs)
    go true k = (h.0, k)
    go false k = lower low r.id (filter test rs) h.0 k

insert_front : (r : Record) (low : ℕ) (rs : List Record) → r.id ≤ low → IsAscendingFrom low rs → with_record r rs ≡ r ∷ rs
insert_front r low [] le h = refl
insert_front r low (x ∷ xs) le h = grind (arith, nat_tests)

insert_step : (test : Record → Bool) (r x : Record) (xs : List Record) → filter test (with_record r xs) ≡ (if test r then with_record r (filter test xs) else filter test xs)
    → (r.id ≤ x.id → with_record r (filter test xs) ≡ r ∷ filter test xs) → filter test (with_record r (x ∷ xs)) ≡ (if test r then with_record r (filter test (x ∷ xs)) else filter test (x ∷ xs))
insert_step test r x xs rest front = grind (arith, nat_tests, rest, front)

pub filter-with_record : (test : Record → Bool) (r : Record) (low : ℕ) (rs : List Record) → IsAscendingFrom low rs → filter test (with_record r rs) ≡ (if test r then with_record r (filter test rs) else filter test rs)
filter-with_record test r low [] h = refl
filter-with_record test r low (x ∷ xs) h = insert_step test r x xs (filter-with_record test r x.id xs h.1) (λ le. insert_front r x.id (filter test xs) le (filter-ascends test x.id xs h.1))

filter_comm : (p q : Record → Bool) (rs : List Record) → filter p (filter q rs) ≡ filter q (filter p rs)
filter_comm p q [] = refl
filter_comm p q (r ∷ rs) = grind (arith, filter_comm p q rs)

filter-map : (p : Record → Bool) (f : Record → Record) (rs : List Record) → ((r : Record) → p (f r) ≡ p r) → filter p (map f rs) ≡ map f (filter p rs)
filter-map p f [] same = refl
filter-map p f (r ∷ rs) same = grind (arith, same r, filter-map p f rs same)

touches-with_value : (part part' : Part) (value : List ℕ) (r : Record) → touches part (with_value part' value r) ≡ touches part r
touches-with_value (Id id) part' value r = grind arith
touches-with_value (Area rect) part' value r = grind arith

-- what an operation does to the records of any part, by what it looked at
abbrev pub changed_within : Part → Op → List Record → List Record → List Record
changed_within part (Put r) [] records = if touches part r then with_record r records else records
changed_within part (Put r) (found ∷ rest) records = records
changed_within part (Drop id) found records = without (Id id) records
changed_within part (Set id value) found records = written (Id id) value records
changed_within part (Get id) found records = records
changed_within part (Find rect) found records = records
changed_within part (Fill rect value) found records = written (Area rect) value records
changed_within part (Clear rect) found records = without (Area rect) records

pub within-changed : (part : Part) (op : Op) (found records : List Record) → IsAscendingFrom 0 records → within part (changed op found records) ≡ changed_within part op found (within part records)
within-changed part (Put r) [] records h = filter-with_record (touches part) r 0 records h
within-changed part (Put r) (found ∷ rest) records h = refl
within-changed part (Drop id) found records h = filter_comm (touches part) (λ r. not (touches (Id id) r)) records
within-changed part (Set id value) found records h = filter-map (touches part) (with_value (Id id) value) records (touches-with_value part (Id id) value)
within-changed part (Get id) found records h = refl
within-changed part (Find rect) found records h = refl
within-changed part (Fill rect value) found records h = filter-map (touches part) (with_value (Area rect) value) records (touches-with_value part (Area rect) value)
within-changed part (Clear rect) found records h = filter_comm (touches part) (λ r. not (touches (Area rect) r)) records

with_record-ascends : (r : Record) (low : ℕ) (rs : List Record) → low ≤ r.id → IsAscendingFrom low rs → IsAscendingFrom low (with_record r rs)
with_record-ascends r low [] le h = (le, tt)
with_record-ascends r low (x ∷ xs) le h = go (nat_le r.id x.id) refl (with_record-ascends r x.id xs)
  where
    go : (b : Bool) → nat_le r.id x.id ≡ b → (x.id ≤ r.id → IsAscendingFrom x.id xs → IsAscendingFrom x.id (with_record r xs))
        → IsAscendingFrom low (if b then r ∷ x ∷ xs else x ∷ with_record r xs)
    go true e rest = (le, (grind (arith, nat_tests), h.1))
    go false e rest = (h.0, rest (grind (arith, nat_tests)) h.1)

pub sorted-ascends : (rs : List Record) → IsAscendingFrom 0 (sorted rs)
sorted-ascends [] = tt
sorted-ascends (r ∷ rs) = with_record-ascends r 0 (sorted rs) (omega arith) (sorted-ascends rs)

map-ascends : (f : Record → Record) (low : ℕ) (rs : List Record) → ((r : Record) → (f r).id ≡ r.id) → IsAscendingFrom low rs → IsAscendingFrom low (map f rs)
map-ascends f low [] same h = tt
map-ascends f low (r ∷ rs) same h = (omega (arith, same r), lower (f r).id r.id (map f rs) (omega (arith, same r)) (map-ascends f r.id rs same h.1))

with_value-id : (part : Part) (value : List ℕ) (r : Record) → (with_value part value r).id ≡ r.id
with_value-id part value r = grind arith

pub after-ascends : (op : Op) (records : List Record) → IsAscendingFrom 0 records → IsAscendingFrom 0 (after op records)
after-ascends (Put r) records h = go (within (Id r.id) records) refl
  where
    go : (found : List Record) → within (Id r.id) records ≡ found → IsAscendingFrom 0 (changed (Put r) found records)
    go [] e = with_record-ascends r 0 records (omega arith) h
    go (found ∷ rest) e = h
after-ascends (Drop id) records h = filter-ascends (λ r. not (touches (Id id) r)) 0 records h
after-ascends (Set id value) records h = map-ascends (with_value (Id id) value) 0 records (with_value-id (Id id) value) h
after-ascends (Get id) records h = h
after-ascends (Find rect) records h = h
after-ascends (Fill rect value) records h = map-ascends (with_value (Area rect) value) 0 records (with_value-id (Area rect) value) h
after-ascends (Clear rect) records h = filter-ascends (λ r. not (touches (Area rect) r)) 0 records h

-- two ascending lists with the same record at each id are the same list
none_below : (id low : ℕ) (rs : List Record) → id < low → IsAscendingFrom low rs → within (Id id) rs ≡ []
none_below id low [] lt h = refl
none_below id low (r ∷ rs) lt h = step (nat_eq r.id id) (grind (arith, nat_tests)) (none_below id r.id rs (omega arith) h.1)
  where
    step : (b : Bool) → b ≡ false → within (Id id) rs ≡ [] → (if b then r ∷ within (Id id) rs else within (Id id) rs) ≡ []
    step b e k = grind arith

within-head : (r : Record) (rs : List Record) → within (Id r.id) (r ∷ rs) ≡ r ∷ within (Id r.id) rs
within-head r rs = grind (arith, nat_tests)

-- an id's records in the tail
within-tail : (id : ℕ) (r : Record) (xs ys : List Record) → SameAt id (r ∷ xs) (r ∷ ys) → SameAt id xs ys
within-tail id r xs ys e = go (nat_eq r.id id) e
  where
    go : (b : Bool) → (if b then r ∷ within (Id id) xs else within (Id id) xs) ≡ (if b then r ∷ within (Id id) ys else within (Id id) ys) → SameAt id xs ys
    go true k = cc
    go false k = k

pub same_store : (low : ℕ) (rs rs' : List Record) → IsAscendingFrom low rs → IsAscendingFrom low rs' → ((id : ℕ) → SameAt id rs rs') → rs ≡ rs'
same_store low [] [] h h' same = refl
same_store low [] (r ∷ rs) h h' same = absurd (cc (same r.id, within-head r rs))
same_store low (r ∷ rs) [] h h' same = absurd (cc (same r.id, within-head r rs))
same_store low (r ∷ rs) (r' ∷ rs') h h' same = order (nat_eq r.id r'.id) refl (nat_lt r.id r'.id) refl (same_store r.id rs rs')
  where
    absent : (a b : Record) (xs ys : List Record) → a.id < b.id → IsAscendingFrom b.id ys → SameAt a.id (a ∷ xs) (b ∷ ys) → ⊥
    absent a b xs ys lt k e = cc (e, within-head a xs, none_below a.id b.id (b ∷ ys) lt (le_refl b.id, k))

    heads : (e : r.id ≡ r'.id) → r ≡ r'
    heads e = cc (same r.id, within-head r rs, within-head r' rs', ap (λ n. within (Id n) (r' ∷ rs')) e)

    order : (b : Bool) → nat_eq r.id r'.id ≡ b → (c : Bool) → nat_lt r.id r'.id ≡ c
        → (IsAscendingFrom r.id rs → IsAscendingFrom r.id rs' → ((id : ℕ) → SameAt id rs rs') → rs ≡ rs') → (r ∷ rs) ≡ (r' ∷ rs')
    order true e c f rest =
        let s : r.id ≡ r'.id = grind (arith, nat_tests) in
        let same_head = heads s in
        ap₂ (λ x xs. x ∷ xs) same_head
        (rest h.1 (subst (λ n. IsAscendingFrom n rs') (sym s) h'.1) (λ id. within-tail id r rs rs' (subst (λ (x : Record). SameAt id (r ∷ rs) (x ∷ rs')) (sym same_head) (same id))))
    order false e true f rest = absurd (absent r r' rs rs' (grind (arith, nat_tests)) h'.1 (same r.id))
    order false e false f rest = absurd (absent r' r rs' rs (grind (arith, nat_tests)) h.1 (sym (same r'.id)))

within-ascends : (id : ℕ) (rs : List Record) → IsAscendingFrom id (within (Id id) rs)
within-ascends id [] = tt
within-ascends id (r ∷ rs) = go (nat_eq r.id id) refl (within-ascends id rs)
  where
    go : (b : Bool) → nat_eq r.id id ≡ b → IsAscendingFrom id (within (Id id) rs) → IsAscendingFrom id (if b then r ∷ within (Id id) rs else within (Id id) rs)
    go true e k = let s : id ≡ r.id = grind (arith, nat_tests) in (omega arith, subst (λ n. IsAscendingFrom n (within (Id id) rs)) s k)
    go false e k = k

-- sorting keeps each id's records, in their order
pub within-sorted : (id : ℕ) (rs : List Record) → SameAt id (sorted rs) rs
within-sorted id [] = refl
within-sorted id (r ∷ rs) = filter-with_record (touches (Id id)) r 0 (sorted rs) (sorted-ascends rs) ∙ go (nat_eq r.id id) refl (within-sorted id rs)
  where
    go : (b : Bool) → nat_eq r.id id ≡ b → SameAt id (sorted rs) rs → (if b then with_record r (within (Id id) (sorted rs)) else within (Id id) (sorted rs)) ≡ (if b then r ∷ within (Id id) rs else within (Id id) rs)
    go true e ih = insert_front r id (within (Id id) (sorted rs)) (grind (arith, nat_tests)) (within-ascends id (sorted rs)) ∙ ap (λ xs. r ∷ xs) ih
    go false e ih = ih

-- nothing of an id stands in a part that leaves the id alone
none_within-id : (other id : ℕ) (rs : List Record) → other ≢ id → within (Id other) (within (Id id) rs) ≡ []
none_within-id other id [] differ = refl
none_within-id other id (r ∷ rs) differ = grind (arith, nat_tests, none_within-id other id rs differ)

none_within : (part : Part) (id : ℕ) (rs : List Record) → IsApart part id rs → within part (within (Id id) rs) ≡ []
none_within (Id other) id rs apart = none_within-id other id rs apart
none_within (Area rect) id rs apart = apart

-- a part with no record is left as it is
written-none : (part : Part) (value : List ℕ) (rs : List Record) → within part rs ≡ [] → written part value rs ≡ rs
written-none part value [] none = refl
written-none part value (r ∷ rs) none = step (touches part r) refl (written-none part value rs) none
  where
    step : (b : Bool) → touches part r ≡ b → (within part rs ≡ [] → written part value rs ≡ rs) → (if b then r ∷ within part rs else within part rs) ≡ [] → written part value (r ∷ rs) ≡ r ∷ rs
    step true e rest k = absurd (cc)
    step false e rest k = rw e (ap (λ xs. r ∷ xs) (rest k))

without-none : (part : Part) (rs : List Record) → within part rs ≡ [] → without part rs ≡ rs
without-none part [] none = refl
without-none part (r ∷ rs) none = step (touches part r) refl (without-none part rs) none
  where
    step : (b : Bool) → touches part r ≡ b → (within part rs ≡ [] → without part rs ≡ rs) → (if b then r ∷ within part rs else within part rs) ≡ [] → without part (r ∷ rs) ≡ r ∷ rs
    step true e rest k = absurd (cc)
    step false e rest k = rw e (ap (λ xs. r ∷ xs) (rest k))

pub left_alone : (op : Op) (id : ℕ) (records : List Record) → IsAscendingFrom 0 records → IsApart (part_of op) id records → SameAt id (after op records) records
left_alone op id records h apart = within-changed (Id id) op (within (part_of op) records) records h ∙ go op (within (part_of op) records) (none_within (part_of op) id records apart) apart
  where
    go : (o : Op) (found : List Record) → within (part_of o) (within (Id id) records) ≡ [] → IsApart (part_of o) id records → changed_within (Id id) o found (within (Id id) records) ≡ within (Id id) records
    go (Put r) [] none apart = grind (arith, nat_tests)
    go (Put r) (x ∷ xs) none apart = refl
    go (Drop other) found none apart = without-none (Id other) (within (Id id) records) none
    go (Set other value) found none apart = written-none (Id other) value (within (Id id) records) none
    go (Get other) found none apart = refl
    go (Find rect) found none apart = refl
    go (Fill rect value) found none apart = written-none (Area rect) value (within (Id id) records) none
    go (Clear rect) found none apart = without-none (Area rect) (within (Id id) records) none

-- two stores that differ apart from an operation are alike in the part that it looks at
same_part : (part : Part) (rs rs' : List Record) → IsAscendingFrom 0 rs → IsAscendingFrom 0 rs' → ((id : ℕ) → SameAt id rs rs' ⊎ (IsApart part id rs × IsApart part id rs')) → within part rs ≡ within part rs'
same_part part rs rs' h h' differ =
    same_store 0 (within part rs) (within part rs') (filter-ascends (touches part) 0 rs h) (filter-ascends (touches part) 0 rs' h') (λ id. at id (differ id))
  where
    at : (id : ℕ) → SameAt id rs rs' ⊎ (IsApart part id rs × IsApart part id rs') → SameAt id (within part rs) (within part rs')
    at id (inl e) = filter_comm (touches (Id id)) (touches part) rs ∙ ap (within part) e ∙ filter_comm (touches part) (touches (Id id)) rs'
    at id (inr k) =
        filter_comm (touches (Id id)) (touches part) rs ∙ none_within part id rs k.0 ∙ sym (none_within part id rs' k.1) ∙ filter_comm (touches part) (touches (Id id)) rs'

pub run-ascends : (pairs : List Answered) (rs : List Record) → IsAscendingFrom 0 rs → IsAscendingFrom 0 (records_after rs pairs)
run-ascends [] rs h = h
run-ascends (pair ∷ pairs) rs h = run-ascends pairs (after pair.op rs) (after-ascends pair.op rs h)

pub undisturbed : (pairs : List Answered) (records records' : List Record) → IsAscendingFrom 0 records → IsAscendingFrom 0 records' → DifferApart pairs records records' → Undisturbed pairs records records'
undisturbed [] records records' h h' differ = record { same_replies = (λ t. t, λ t. t); same_changes = λ id e. e; left_alone = λ id apart. refl }
undisturbed (pair ∷ pairs) records records' h h' differ =
    let found : within (part_of pair.op) records ≡ within (part_of pair.op) records' = same_part (part_of pair.op) records records' h h' (λ id. first id (differ id)) in
    let rest = undisturbed pairs (after pair.op records) (after pair.op records') (after-ascends pair.op records h) (after-ascends pair.op records' h') (λ id. later found id (differ id)) in
    record {
      same_replies = (λ t. (t.0 ∙ ap (reply_to pair.op) found, rest.same_replies.0 t.1), λ t. (t.0 ∙ sym (ap (reply_to pair.op) found), rest.same_replies.1 t.1));
      same_changes = λ id e. rest.same_changes id (step found id e);
      left_alone = λ id apart. rest.left_alone id (still records h id apart) ∙ left_alone pair.op id records h (apart pair (inl refl));
    }
  where
    first : (id : ℕ) → SameAt id records records' ⊎ (AreApart (pair ∷ pairs) id records × AreApart (pair ∷ pairs) id records') → SameAt id records records' ⊎ (IsApart (part_of pair.op) id records × IsApart (part_of pair.op) id records')
    first id (inl e) = inl e
    first id (inr k) = inr (k.0 pair (inl refl), k.1 pair (inl refl))

    step : within (part_of pair.op) records ≡ within (part_of pair.op) records' → (id : ℕ) → SameAt id records records' → SameAt id (after pair.op records) (after pair.op records')
    step found id e =
        within-changed (Id id) pair.op (within (part_of pair.op) records) records h
        ∙ ap₂ (changed_within (Id id) pair.op) found e
        ∙ sym (within-changed (Id id) pair.op (within (part_of pair.op) records') records' h')

    apart_moved : (part : Part) (id : ℕ) (rs rs' : List Record) → SameAt id rs rs' → IsApart part id rs' → IsApart part id rs
    apart_moved (Id other) id rs rs' e k = k
    apart_moved (Area rect) id rs rs' e k = ap (within (Area rect)) e ∙ k

    still : (rs : List Record) → IsAscendingFrom 0 rs → (id : ℕ) → AreApart (pair ∷ pairs) id rs → AreApart pairs id (after pair.op rs)
    still rs k id apart o i = apart_moved (part_of o.op) id (after pair.op rs) rs (left_alone pair.op id rs k (apart pair (inl refl))) (apart o (inr i))

    later : within (part_of pair.op) records ≡ within (part_of pair.op) records' → (id : ℕ) → SameAt id records records' ⊎ (AreApart (pair ∷ pairs) id records × AreApart (pair ∷ pairs) id records')
        → SameAt id (after pair.op records) (after pair.op records') ⊎ (AreApart pairs id (after pair.op records) × AreApart pairs id (after pair.op records'))
    later found id (inl e) = inl (step found id e)
    later found id (inr k) = inr (still records h id k.0, still records' h' id k.1)
