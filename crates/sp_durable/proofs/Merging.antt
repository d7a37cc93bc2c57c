-- Changes of records, id by id.
use Rattle.std.proofs.Common.{◌≡◌, ◌≢◌, ℕ, suc, ◌+◌, ◌<◌, ◌≤◌, Bool, true, false, not, cond, nat_eq, nat_le, List, [], ◌∷◌, map, filter, length, Some, refl, sym, ap, ◌∙◌, subst, lt-ltb, arith}
use Rattle.std.specs.List.{sum_by}
use Rattle.std.proofs.lemmas.Bool.Decides.{nat_tests}
use Rattle.std.proofs.lemmas.List.Sums.{sum_by-cons}
use Rattle.sp_list.specs.Emptiness.{is_empty}
use Rattle.sp_rect.specs.declared.record.Record.{Record}
use Rattle.sp_rect.specs.declared.operation.Op.TheVariants.{Put as PutOp, Drop as DropOp, Set as SetOp}
use Rattle.sp_rect.specs.Store.{Id, touches, within, without, written, with_record, changed, IsAscendingFrom}
use Rattle.sp_plain.specs.declared.change.Change.{Change}
use Rattle.sp_plain.specs.declared.change.Change.TheVariants.{Put, Drop, Set}
use Rattle.sp_plain.specs.Taking.{most_records, left_by, taken}
use Rattle.sp_plain.proofs.Order.{valued}
use Rattle.sp_plain.proofs.Leading.{emptied}
use Rattle.sp_txn.specs.Changes.{id_of}
use Rattle.sp_protection.proofs.Runs.{same_store, left_alone, after-ascends, within-changed}
use Rattle.sp_durable.proofs.InOrder.{of_id}

-- changes of one id lead from its records to these
abbrev pub LeadsTo : List Change → List Record → List Record → Type 0
LeadsTo [] records made = records ≡ made
LeadsTo (Put r ∷ cs) records made = (records ≡ []) × LeadsTo cs (r ∷ []) made
LeadsTo (Drop id ∷ cs) records made = (is_empty records ≡ false) × LeadsTo cs [] made
LeadsTo (Set id value ∷ cs) records made = (is_empty records ≡ false) × LeadsTo cs (map (valued value) records) made

abbrev pub added : Change → ℕ
added (Put r) = 1
added (Drop id) = 0
added (Set id value) = 0

-- how many records the changes add
abbrev pub puts : List Change → ℕ
puts cs = sum_by added cs

pub self_equal : (k : ℕ) → nat_eq k k ≡ true
self_equal k = grind (arith, nat_tests)

pub equal_from : (j k : ℕ) → nat_eq j k ≡ true → j ≡ k
equal_from j k e = grind (arith, nat_tests)

pub differ_from : (j k : ℕ) → nat_eq j k ≡ false → j ≢ k
differ_from j k e same = grind (arith, nat_tests)

-- the records after a change, at its id and at the others
within-written : (id : ℕ) (value : List ℕ) (rs : List Record) → within (Id id) (written (Id id) value rs) ≡ map (valued value) (within (Id id) rs)
within-written id value [] = refl
within-written id value (r ∷ rs) = go (nat_eq r.id id) refl (within-written id value rs)
  where
    go : (b : Bool) → nat_eq r.id id ≡ b → within (Id id) (written (Id id) value rs) ≡ map (valued value) (within (Id id) rs) → within (Id id) (written (Id id) value (r ∷ rs)) ≡ map (valued value) (within (Id id) (r ∷ rs))
    go true e ih = rw (e, e) (ap (λ xs. valued value r ∷ xs) ih)
    go false e ih = rw (e, e) ih

pub length-with_record : (r : Record) (rs : List Record) → length (with_record r rs) ≡ suc (length rs)
length-with_record r [] = refl
length-with_record r (x ∷ xs) = go (nat_le r.id x.id) (length-with_record r xs)
  where
    go : (b : Bool) → length (with_record r xs) ≡ suc (length xs) → length (cond b (r ∷ x ∷ xs) (x ∷ with_record r xs)) ≡ suc (suc (length xs))
    go true e = refl
    go false e = ap suc e

length-filtered : (test : Record → Bool) (rs : List Record) → length (filter test rs) ≤ length rs
length-filtered test [] = omega arith
length-filtered test (r ∷ rs) = go (test r) (length-filtered test rs)
  where
    go : (b : Bool) → length (filter test rs) ≤ length rs → length (cond b (r ∷ filter test rs) (filter test rs)) ≤ suc (length rs)
    go true h = omega arith
    go false h = omega arith

length-written : (id : ℕ) (value : List ℕ) (rs : List Record) → length (written (Id id) value rs) ≡ length rs
length-written id value [] = refl
length-written id value (r ∷ rs) = ap suc (length-written id value rs)

-- the first change of a list, at its own id and at another
of_same : (c : Change) (cs : List Change) (rs made : List Record) → LeadsTo (of_id (id_of c) (c ∷ cs)) rs made → LeadsTo (c ∷ of_id (id_of c) cs) rs made
of_same c cs rs made h = rw (self_equal (id_of c)) at h

of_other : (c : Change) (cs : List Change) (j : ℕ) (rs made : List Record) → nat_eq (id_of c) j ≡ false → LeadsTo (of_id j (c ∷ cs)) rs made → LeadsTo (of_id j cs) rs made
of_other c cs j rs made e h = rw e at h

-- what is left to lead, after the first change of a list
left_to_lead : (c : Change) (cs : List Change) (rs made : List Record) → LeadsTo (of_id (id_of c) cs) (within (Id (id_of c)) (left_by c rs)) (within (Id (id_of c)) made)
    → ((j : ℕ) → nat_eq (id_of c) j ≡ false → within (Id j) (left_by c rs) ≡ within (Id j) rs)
    → ((j : ℕ) → LeadsTo (of_id j (c ∷ cs)) (within (Id j) rs) (within (Id j) made))
    → (j : ℕ) → LeadsTo (of_id j cs) (within (Id j) (left_by c rs)) (within (Id j) made)
left_to_lead c cs rs made own others leads j = go (nat_eq (id_of c) j) refl
  where
    go : (e : Bool) → nat_eq (id_of c) j ≡ e → LeadsTo (of_id j cs) (within (Id j) (left_by c rs)) (within (Id j) made)
    go true e = subst (λ (n : ℕ). LeadsTo (of_id n cs) (within (Id n) (left_by c rs)) (within (Id n) made)) (equal_from (id_of c) j e) own
    go false e = subst (λ (xs : List Record). LeadsTo (of_id j cs) xs (within (Id j) made)) (sym (others j e)) (of_other c cs j (within (Id j) rs) (within (Id j) made) e (leads j))

there_in : (rs : List Record) → is_empty rs ≡ false → not (is_empty rs) ≡ true
there_in rs e = ap not e

module _ (made : List Record) (b : IsAscendingFrom 0 made) where
  pub by_ids : (cs : List Change) (rs : List Record) → IsAscendingFrom 0 rs → length rs + puts cs ≤ most_records → ((j : ℕ) → LeadsTo (of_id j cs) (within (Id j) rs) (within (Id j) made)) → taken cs rs ≡ Some made
  by_ids [] rs a room leads = ap Some (same_store 0 rs made a b leads)
  by_ids (Put r ∷ cs) rs a room leads =
      let h = of_same (Put r) cs (within (Id r.id) rs) (within (Id r.id) made) (leads r.id) in
      let more = sum_by-cons added (Put r) cs in
      let lt : length rs < most_records = omega arith in
      let l = length-with_record r rs in
      let still : IsAscendingFrom 0 (with_record r rs) = subst (λ (found : List Record). IsAscendingFrom 0 (changed (PutOp r) found rs)) h.0 (after-ascends (PutOp r) rs a) in
      let own : within (Id r.id) (with_record r rs) ≡ r ∷ [] = within-changed (Id r.id) (PutOp r) [] rs a ∙ rw (self_equal r.id, h.0) refl in
      rw (h.0, lt-ltb (length rs) most_records lt)
      (by_ids cs (with_record r rs) still (omega arith)
      (left_to_lead (Put r) cs rs made (subst (λ (xs : List Record). LeadsTo (of_id r.id cs) xs (within (Id r.id) made)) (sym own) h.1) (λ j e. within-changed (Id j) (PutOp r) [] rs a ∙ rw e refl) leads))
  by_ids (Drop id ∷ cs) rs a room leads =
      let h = of_same (Drop id) cs (within (Id id) rs) (within (Id id) made) (leads id) in
      let more = sum_by-cons added (Drop id) cs in
      let l = length-filtered (λ r. not (touches (Id id) r)) rs in
      rw (there_in (within (Id id) rs) h.0)
      (by_ids cs (without (Id id) rs) (after-ascends (DropOp id) rs a) (omega arith)
      (left_to_lead (Drop id) cs rs made (subst (λ (xs : List Record). LeadsTo (of_id id cs) xs (within (Id id) made)) (sym (emptied id rs)) h.1) (λ j e. left_alone (DropOp id) j rs a (differ_from id j e)) leads))
  by_ids (Set id value ∷ cs) rs a room leads =
      let h = of_same (Set id value) cs (within (Id id) rs) (within (Id id) made) (leads id) in
      let more = sum_by-cons added (Set id value) cs in
      let l = length-written id value rs in
      rw (there_in (within (Id id) rs) h.0)
      (by_ids cs (written (Id id) value rs) (after-ascends (SetOp id value) rs a) (omega arith)
      (left_to_lead (Set id value) cs rs made (subst (λ (xs : List Record). LeadsTo (of_id id cs) xs (within (Id id) made)) (sym (within-written id value rs)) h.1) (λ j e. left_alone (SetOp id value) j rs a (differ_from id j e)) leads))
