-- The entries that a transaction sees, by their numbers, and the records that they stand for.
use Rattle.std.proofs.Common.{◌≡◌, ℕ, ◌+◌, ◌<◌, Bool, true, false, cond, ◌&&◌, ◌||◌, if◌then◌else◌, nat_le, List, [], ◌∷◌, ◌++◌, map, take, length, get_or, Option, Some, refl, sym, ap, ◌∙◌, subst, inl, inr, arith}
use Rattle.std.specs.Prelude.{nat_eq}
use Rattle.std.specs.List.{filter, cons_option, list_any}
use Rattle.std.specs.List.Sorted.{IsPermutation, IsStrictlyIncreasing}
use Rattle.std.proofs.lemmas.Bool.Decides.{nat_tests}
use Rattle.std.proofs.lemmas.List.{take_more, map-append, length-map}
use Rattle.std.proofs.lemmas.List.Elements.{filter_map-append}
use Rattle.std.proofs.lemmas.List.Sorted.{IsPermutation-refl, IsPermutation-trans, IsPermutation-cons, IsPermutation-sym, IsPermutation-middle, IsPermutation-map, length_permutation, list_any-IsPermutation}
use Rattle.sp_rect.specs.declared.record.Record.{Record}
use Rattle.sp_rect.specs.Plane.{Rectangle}
use Rattle.sp_rect.specs.Store.{Part, Id, Area, part_of, touches, within, with_record, IsOrdered}
use Rattle.sp_rect.specs.declared.operation.Op.{Op}
use Rattle.sp_plain.proofs.Keeping.{ordered_filter}
use Rattle.sp_node.specs.declared.marks.Marks.{Marks}
use Rattle.sp_node.specs.declared.node.Entry.{Entry}
use Rattle.sp_node.specs.declared.node.Node.{Node}
use Rattle.sp_node.specs.Among.{Among}
use Rattle.sp_node.specs.Index.{entry_of}
use Rattle.sp_node.specs.Table.{Table, IsValid, entries_of, entries_meeting, entries_with_id}
use Rattle.sp_node.proofs.Lists.{distinct_filter, filter-map}
use Rattle.sp_node.proofs.Members.{permutation_from_members, ascends_filter, distinct_from_ascending, any_filter}
use Rattle.sp_node.proofs.Standing.{entry_of_among}
use Rattle.sp_txn.specs.Visible.{is_visible, record_of, record_for, sorted, view}
use Rattle.sp_protection.specs.Effects.{is_seen_in, is_marking}
use Rattle.sp_ops.specs.Seen.{is_in, numbers_in, numbers_seen, sees, entries_at, AreRecordsAt}
use Rattle.sp_ops.specs.Effect.{mark_of, AreMarked}
use Rattle.sp_ops.proofs.Arranging.{unmapped, from_filter, among_back}

-- the numbers that a search and an index of ids give
module _ (t : Table) where
  same_filter : (p q : Entry → Bool) (es : List Entry) → ((e : Entry) → p e ≡ q e) → filter p es ≡ filter q es
  same_filter p q [] same = refl
  same_filter p q (e ∷ es) same = ap (λ (b : Bool). cond b (e ∷ filter p es) (filter p es)) (same e) ∙ ap (λ (xs : List Entry). cond (q e) (e ∷ xs) xs) (same_filter p q es same)

  pub meeting_is : (rect : Rectangle) → entries_meeting t rect ≡ numbers_in t (Area rect)
  unfolding entries_meeting
  meeting_is rect = refl

  pub with_id_is : (id : ℕ) → entries_with_id t id ≡ numbers_in t (Id id)
  unfolding entries_with_id
  with_id_is id = ap (map (λ (e : Entry). e.number)) (same_filter (λ e. nat_eq id e.id) (is_in (Id id)) (entries_of t) (λ e. flip id e.id))
    where
      flip : (a b : ℕ) → nat_eq a b ≡ nat_eq b a
      flip a b = grind (arith, nat_tests)

-- those of the numbers whose entries are seen
equal_from : (j k : ℕ) → nat_eq j k ≡ true → j ≡ k
equal_from j k e = grind (arith, nat_tests)

module _ (txn : ℕ) (part : Part) where
  pub seen_is : (e : Entry) → is_seen_in txn part e ≡ (is_visible txn e && is_in part e)
  seen_is e = ap (λ (b : Bool). is_visible txn e && b) (same part)
    where
      same : (p : Part) → touches p (record_for txn e) ≡ touches p (record_of e)
      same (Id id) = refl
      same (Area rect) = refl

  module _ (nodes : List (ℕ × Node)) where
    abbrev kept : ℕ → Bool
    kept n = sees txn (entry_of nodes n)

    any_seen : (q : ℕ) (es : List Entry) → ((e : Entry) → Among e es → entry_of nodes e.number ≡ Some e)
        → list_any (nat_eq q) (map (λ e. e.number) (filter (is_seen_in txn part) es)) ≡ cond (kept q) (list_any (nat_eq q) (map (λ e. e.number) (filter (is_in part) es))) false
    any_seen q [] f = none (kept q)
      where
        none : (b : Bool) → false ≡ cond b false false
        none true = refl
        none false = refl
    any_seen q (e ∷ es) f = ap (λ (b : Bool). list_any (nat_eq q) (map (λ (x : Entry). x.number) (cond b (e ∷ seen) seen))) (seen_is e) ∙ by_test (is_in part e) (is_visible txn e) refl (nat_eq q e.number) refl (any_seen q es (λ x a. f x (inr a)))
      where
        seen : List Entry
        seen = filter (is_seen_in txn part) es

        inside : List Entry
        inside = filter (is_in part) es

        here : nat_eq q e.number ≡ true → kept q ≡ is_visible txn e
        here k = ap kept (equal_from q e.number k) ∙ ap (sees txn) (f e (inl refl))

        by_test : (b v : Bool) → is_visible txn e ≡ v → (c : Bool) → nat_eq q e.number ≡ c → list_any (nat_eq q) (map (λ (x : Entry). x.number) seen) ≡ cond (kept q) (list_any (nat_eq q) (map (λ (x : Entry). x.number) inside)) false
            → list_any (nat_eq q) (map (λ (x : Entry). x.number) (cond (v && b) (e ∷ seen) seen)) ≡ cond (kept q) (list_any (nat_eq q) (map (λ (x : Entry). x.number) (cond b (e ∷ inside) inside))) false
        by_test true true vis true k h =
            ap (λ (b : Bool). b || list_any (nat_eq q) (map (λ (x : Entry). x.number) seen)) k
            ∙ ap (λ (b : Bool). cond b true false) (sym vis ∙ sym (here k)) ∙ ap (λ (b : Bool). cond (kept q) (b || list_any (nat_eq q) (map (λ (x : Entry). x.number) inside)) false) (sym k)
        by_test true true vis false k h =
            ap (λ (b : Bool). b || list_any (nat_eq q) (map (λ (x : Entry). x.number) seen)) k ∙ h
            ∙ ap (λ (b : Bool). cond (kept q) (b || list_any (nat_eq q) (map (λ (x : Entry). x.number) inside)) false) (sym k)
        by_test true false vis true k h = h ∙ both (kept q) (here k ∙ vis)
          where
            both : (b : Bool) → b ≡ false → cond b (list_any (nat_eq q) (map (λ (x : Entry). x.number) inside)) false ≡ cond b (nat_eq q e.number || list_any (nat_eq q) (map (λ (x : Entry). x.number) inside)) false
            both true z = cc
            both false z = refl
        by_test true false vis false k h = h ∙ ap (λ (b : Bool). cond (kept q) (b || list_any (nat_eq q) (map (λ (x : Entry). x.number) inside)) false) (sym k)
        by_test false true vis c k h = h
        by_test false false vis c k h = h

module _ (t : Table) (v : IsValid t) (txn : ℕ) (part : Part) where
  pub seen_numbers : (numbers : List ℕ) → IsPermutation (numbers_in t part) numbers → IsStrictlyIncreasing numbers
      → IsPermutation (numbers_seen t txn part) (filter (λ n. sees txn (entry_of t.nodes n)) numbers)
  seen_numbers numbers p up =
      permutation_from_members (numbers_seen t txn part) (filter (λ n. sees txn (entry_of t.nodes n)) numbers)
      (distinct_filter (is_seen_in txn part) (λ e. e.number) (entries_of t) v.distinct_entries)
      (distinct_from_ascending _ (ascends_filter (λ n. sees txn (entry_of t.nodes n)) numbers up))
      (λ q. any_seen txn part t.nodes q (entries_of t) (entry_of_among t v) ∙ ap (λ (b : Bool). cond (sees txn (entry_of t.nodes q)) b false) (list_any-IsPermutation (nat_eq q) (numbers_in t part) numbers p) ∙ sym (any_filter (λ n. sees txn (entry_of t.nodes n)) numbers q))

  found_again : (es : List Entry) → ((e : Entry) → Among e es → Among e (entries_of t)) → entries_at t.nodes (map (λ e. e.number) es) ≡ es
  found_again [] f = refl
  found_again (e ∷ es) f = ap (λ (o : Option Entry). cons_option o (entries_at t.nodes (map (λ (x : Entry). x.number) es))) (entry_of_among t v e (f e (inl refl))) ∙ ap (λ (xs : List Entry). e ∷ xs) (found_again es (λ x a. f x (inr a)))

  -- the entries of the numbers seen are those seen, in the order of the numbers
  pub seen_entries : (numbers : List ℕ) → IsPermutation (numbers_seen t txn part) numbers
      → IsPermutation (filter (is_seen_in txn part) (entries_of t)) (entries_at t.nodes numbers) × (numbers ≡ map (λ e. e.number) (entries_at t.nodes numbers))
  seen_entries numbers p =
      let m = unmapped (λ (e : Entry). e.number) (filter (is_seen_in txn part) (entries_of t)) numbers p in
      let again : entries_at t.nodes (map (λ e. e.number) m.0) ≡ m.0 = found_again m.0 (λ e a. (from_filter (is_seen_in txn part) (entries_of t) e (among_back _ m.0 e m.1 a)).0) in
      let same : entries_at t.nodes numbers ≡ m.0 = ap (entries_at t.nodes) m.2 ∙ again in
      (subst (IsPermutation (filter (is_seen_in txn part) (entries_of t))) (sym same) m.1, m.2 ∙ ap (map (λ (e : Entry). e.number)) (sym same))

-- one more number
pub entries_more : {X : Type 0} (f : Entry → X) (nodes : List (ℕ × Node)) (numbers : List ℕ) (i d : ℕ) (old new : List X) → i < length numbers → old ≡ map f (entries_at nodes (take i numbers))
    → new ≡ old ++ map f (entries_at nodes (get_or numbers i d ∷ [])) → new ≡ map f (entries_at nodes (take (i + 1) numbers))
entries_more f nodes numbers i d old new lt was is =
    is ∙ ap (λ xs. xs ++ map f (entries_at nodes (get_or numbers i d ∷ []))) was
    ∙ sym (map-append f (entries_at nodes (take i numbers)) (entries_at nodes (get_or numbers i d ∷ [])))
    ∙ ap (map f) (sym (filter_map-append (entry_of nodes) (take i numbers) (get_or numbers i d ∷ [])) ∙ ap (entries_at nodes) (sym (take_more numbers i d lt)))

-- what the sorted records have of a part
one_more : (a b : Bool) (r x : Record) (before after : List Record) → IsPermutation (cond a (r ∷ before) before) after
    → IsPermutation (cond a (r ∷ cond b (x ∷ before) before) (cond b (x ∷ before) before)) (cond b (x ∷ after) after)
one_more true true r x before after p = IsPermutation-trans _ (x ∷ r ∷ before) _ (IsPermutation-sym (x ∷ r ∷ before) (r ∷ x ∷ before) (IsPermutation-middle (x ∷ []) r before)) (IsPermutation-cons x (r ∷ before) after p)
one_more true false r x before after p = p
one_more false true r x before after p = IsPermutation-cons x before after p
one_more false false r x before after p = p

within_more : (part : Part) (r : Record) (rs : List Record) → IsPermutation (cond (touches part r) (r ∷ within part rs) (within part rs)) (within part (with_record r rs))
within_more part r [] = IsPermutation-refl _
within_more part r (x ∷ rs) = by_test (nat_le r.id x.id) (within_more part r rs)
  where
    by_test : (b : Bool) → IsPermutation (cond (touches part r) (r ∷ within part rs) (within part rs)) (within part (with_record r rs))
        → IsPermutation (cond (touches part r) (r ∷ within part (x ∷ rs)) (within part (x ∷ rs))) (within part (if b then r ∷ x ∷ rs else x ∷ with_record r rs))
    by_test true ih = IsPermutation-refl _
    by_test false ih = one_more (touches part r) (touches part x) r x (within part rs) (within part (with_record r rs)) ih

pub within_sorted : (part : Part) (rs : List Record) → IsPermutation (within part rs) (within part (sorted rs))
within_sorted part [] = IsPermutation-refl []
within_sorted part (r ∷ rs) = IsPermutation-trans _ _ _ (by_test (touches part r) (within_sorted part rs)) (within_more part r (sorted rs))
  where
    by_test : (b : Bool) → IsPermutation (within part rs) (within part (sorted rs)) → IsPermutation (cond b (r ∷ within part rs) (within part rs)) (cond b (r ∷ within part (sorted rs)) (within part (sorted rs)))
    by_test true p = IsPermutation-cons r _ _ p
    by_test false p = p

filter-filter : (p q : Entry → Bool) (es : List Entry) → filter p (filter q es) ≡ filter (λ e. q e && p e) es
filter-filter p q [] = refl
filter-filter p q (e ∷ es) = by_test (q e) (p e) refl (filter-filter p q es)
  where
    by_test : (b c : Bool) → p e ≡ c → filter p (filter q es) ≡ filter (λ (x : Entry). q x && p x) es → filter p (cond b (e ∷ filter q es) (filter q es)) ≡ cond (b && c) (e ∷ filter (λ (x : Entry). q x && p x) es) (filter (λ (x : Entry). q x && p x) es)
    by_test true true k h = ap (λ (b : Bool). cond b (e ∷ filter p (filter q es)) (filter p (filter q es))) k ∙ ap (λ (xs : List Entry). e ∷ xs) h
    by_test true false k h = ap (λ (b : Bool). cond b (e ∷ filter p (filter q es)) (filter p (filter q es))) k ∙ h
    by_test false c k h = h

-- what the transaction's view has of a part are the records of the entries that it sees there
pub within_view : (txn : ℕ) (part : Part) (es : List Entry) → IsPermutation (map (record_for txn) (filter (is_seen_in txn part) es)) (within part (view es txn))
within_view txn part es =
    subst (λ (rs : List Record). IsPermutation rs (within part (view es txn)))
    (filter-map (touches part) (record_for txn) (filter (is_visible txn) es) ∙ ap (map (record_for txn)) (filter-filter (λ e. touches part (record_for txn e)) (is_visible txn) es))
    (within_sorted part (map (record_for txn) (filter (is_visible txn) es)))

-- the records of the numbers seen are what the view has of the part
pub records_of_part : (t : Table) → IsValid t → (txn : ℕ) (part : Part) (numbers : List ℕ) → IsPermutation (numbers_seen t txn part) numbers → IsOrdered (view (entries_of t) txn) → AreRecordsAt t.nodes txn numbers (within part (view (entries_of t) txn))
records_of_part t v txn part numbers p h =
    let seen = filter (is_seen_in txn part) (entries_of t) in
    let found = within part (view (entries_of t) txn) in
    let at = seen_entries t v txn part numbers p in
    let here = within_view txn part (entries_of t) in
    record {
      ordered = ordered_filter (touches part) 0 (view (entries_of t) txn) h;
      same = IsPermutation-trans (map (record_for txn) (entries_at t.nodes numbers)) (map (record_for txn) seen) found (IsPermutation-sym _ _ (IsPermutation-map (record_for txn) seen (entries_at t.nodes numbers) at.0)) here;
      as_many =
          length_permutation (map (record_for txn) seen) found here ∙ length-map seen (record_for txn)
          ∙ sym (length-map seen (λ e. e.number)) ∙ sym (length_permutation (numbers_seen t txn part) numbers p);
    }

-- the marks that the operation gives the entries of the numbers seen, if it marks any
none_passes : (es : List Entry) → filter (λ _. false) es ≡ []
none_passes [] = refl
none_passes (e ∷ es) = none_passes es

numbers_marked : (txn : ℕ) (op : Op) (es : List Entry) → map (λ m. m.0) (map (mark_of txn op) es) ≡ map (λ e. e.number) es
numbers_marked txn op [] = refl
numbers_marked txn op (e ∷ es) = ap (λ (ns : List ℕ). e.number ∷ ns) (numbers_marked txn op es)

pub marks_of_part : (t : Table) → IsValid t → (txn : ℕ) (op : Op) (numbers : List ℕ) → IsPermutation (numbers_seen t txn (part_of op)) numbers → IsStrictlyIncreasing numbers
    → (marks : List (ℕ × Marks)) → marks ≡ (if is_marking op then map (mark_of txn op) (entries_at t.nodes numbers) else []) → AreMarked (entries_of t) txn op marks
marks_of_part t v txn op numbers p up marks is =
    subst (AreMarked (entries_of t) txn op) (sym is) (record { exactly = exact (is_marking op); ascending = rises (is_marking op) })
  where
    at : IsPermutation (filter (is_seen_in txn (part_of op)) (entries_of t)) (entries_at t.nodes numbers) × (numbers ≡ map (λ e. e.number) (entries_at t.nodes numbers))
    at = seen_entries t v txn (part_of op) numbers p

    exact : (b : Bool) → IsPermutation (map (mark_of txn op) (filter (λ e. b && is_seen_in txn (part_of op) e) (entries_of t))) (if b then map (mark_of txn op) (entries_at t.nodes numbers) else [])
    exact true = IsPermutation-map (mark_of txn op) (filter (is_seen_in txn (part_of op)) (entries_of t)) (entries_at t.nodes numbers) at.0
    exact false = subst (λ (es : List Entry). IsPermutation (map (mark_of txn op) es) []) (sym (none_passes (entries_of t))) (IsPermutation-refl [])

    rises : (b : Bool) → IsStrictlyIncreasing (map (λ m. m.0) (if b then map (mark_of txn op) (entries_at t.nodes numbers) else []))
    rises true = subst IsStrictlyIncreasing (at.1 ∙ sym (numbers_marked txn op (entries_at t.nodes numbers))) up
    rises false = λ k lt. absurd (omega arith)
