-- The stores do not depend on the order of the entries.
use Rattle.std.proofs.Common.{◌≡◌, ◌⊎◌, ℕ, suc, ◌+◌, ◌≤◌, ◌<◌, Bool, true, false, ◌&&◌, List, [], ◌∷◌, map, filter, length, nat_eq, refl, sym, ap, ◌∙◌, subst, inl, inr, true≢false, arith}
use Rattle.std.specs.Prelude.{if◌then◌else◌}
use Rattle.std.proofs.lemmas.Bool.Decides.{nat_tests}
use Rattle.std.specs.List.{IsDistinct, AllByRecursion}
use Rattle.sp_rect.specs.declared.record.Record.{Record}
use Rattle.sp_rect.specs.declared.operation.Answered.{Answered}
use Rattle.sp_rect.specs.Store.{IsAscendingFrom, IsOrderedFrom, IsOrdered, Id, within, after}
use Rattle.sp_rect.specs.Serial.{records_after}
use Rattle.sp_plain.proofs.Keeping.{ordered_after}
use Rattle.sp_node.specs.declared.node.Entry.{Entry}
use Rattle.sp_node.specs.Among.{Among}
use Rattle.sp_node.proofs.Among.{all_among}
use Rattle.sp_txn.specs.Visible.{sorted}
use Rattle.sp_protection.specs.Apart.{SameAt, HasOneEach}
use Rattle.sp_protection.specs.Replays.{OneEach, SameMembers}
use Rattle.sp_protection.proofs.Choice.{same, tells}
use Rattle.sp_protection.proofs.Leaves.{among_map}
use Rattle.sp_protection.proofs.Runs.{sorted-ascends, within-sorted, same_store}

-- the entries of an id that pass a test
abbrev pub of_id : (Entry → Bool) → ℕ → Entry → Bool
of_id test id e = test e && nat_eq e.id id

pub within-shown : (test : Entry → Bool) (r : Entry → Record) (id : ℕ) (es : List Entry) → ((e : Entry) → (r e).id ≡ e.id) → within (Id id) (map r (filter test es)) ≡ map r (filter (of_id test id) es)
within-shown test r id [] ids = refl
within-shown test r id (e ∷ es) ids = go (test e) refl (within-shown test r id es ids)
  where
    inner : (b : Bool) → nat_eq e.id id ≡ b → within (Id id) (map r (filter test es)) ≡ map r (filter (of_id test id) es)
        → (if b then r e ∷ within (Id id) (map r (filter test es)) else within (Id id) (map r (filter test es))) ≡ map r (if b then e ∷ filter (of_id test id) es else filter (of_id test id) es)
    inner true k ih = ap (λ rs. r e ∷ rs) ih
    inner false k ih = ih

    go : (b : Bool) → test e ≡ b → within (Id id) (map r (filter test es)) ≡ map r (filter (of_id test id) es) → within (Id id) (map r (filter test (e ∷ es))) ≡ map r (filter (of_id test id) (e ∷ es))
    go true k ih = rw k (ap (λ n. if nat_eq n id then r e ∷ within (Id id) (map r (filter test es)) else within (Id id) (map r (filter test es))) (ids e) ∙ inner (nat_eq e.id id) refl ih)
    go false k ih = rw k ih

-- none or one of the list passes
abbrev NoneOrOne : (Entry → Bool) → List Entry → Type 0
NoneOrOne test es = ((filter test es ≡ []) × ((e : Entry) → Among e es → test e ≡ false)) ⊎ ((e : Entry) × (filter test es ≡ e ∷ []) × Among e es × (test e ≡ true))

filter_nothing : (test : Entry → Bool) (es : List Entry) → ((e : Entry) → Among e es → test e ≡ false) → filter test es ≡ []
filter_nothing test [] none = refl
filter_nothing test (e ∷ es) none = rw (none e (inl refl)) (filter_nothing test es (λ x i. none x (inr i)))

pub first_distinct : (n : ℕ) (ns : List ℕ) → IsDistinct nat_eq (n ∷ ns) → AllByRecursion (λ y. nat_eq n y ≡ false) ns × IsDistinct nat_eq ns
unfolding IsDistinct
first_distinct n ns d = d

none_or_one : (test : Entry → Bool) (es : List Entry) → IsDistinct nat_eq (map (λ e. e.number) es) → ((e e' : Entry) → Among e es → Among e' es → test e ≡ true → test e' ≡ true → e ≡ e') → NoneOrOne test es
none_or_one test [] distinct one = inl (refl, λ e i. absurd i)
none_or_one test (e ∷ es) distinct one = go (test e) refl (none_or_one test es (first_distinct e.number (map (λ e. e.number) es) distinct).1 (λ x y i j. one x y (inr i) (inr j)))
  where
    not_true : (b : Bool) → (b ≡ true → ⊥) → b ≡ false
    not_true b h = grind arith

    rest : test e ≡ true → (x : Entry) → Among x es → test x ≡ false
    rest k x i =
        not_true (test x) (λ l.
        true≢false
        (sym (tells e.number x.number (sym (ap (λ (z : Entry). z.number) (one x e (inr i) (inl refl) l k))))
        ∙ all_among (λ y. nat_eq e.number y ≡ false) x.number (map (λ e. e.number) es) (first_distinct e.number (map (λ e. e.number) es) distinct).0 (among_map (λ e. e.number) x es i)))

    go : (b : Bool) → test e ≡ b → NoneOrOne test es → NoneOrOne test (e ∷ es)
    go true k others = inr (e, rw k (ap (λ xs. e ∷ xs) (filter_nothing test es (rest k))), inl refl, k)
    go false k (inl h) = inl (rw k h.0, λ x i. each x i)
      where
        each : (x : Entry) → Among x (e ∷ es) → test x ≡ false
        each x (inl s) = subst (λ (z : Entry). test z ≡ false) (sym s) k
        each x (inr i) = h.1 x i
    go false k (inr h) = inr (h.0, rw k h.1, inr h.2, h.3)

pub rearranged : (test : Entry → Bool) (r : Entry → Record) (es es' : List Entry) → ((e : Entry) → (r e).id ≡ e.id) → SameMembers test es es' → OneEach test es → sorted (map r (filter test es)) ≡ sorted (map r (filter test es'))
rearranged test r es es' ids members one = same_store 0 (sorted (map r (filter test es))) (sorted (map r (filter test es'))) (sorted-ascends (map r (filter test es))) (sorted-ascends (map r (filter test es'))) at
  where
    parts : (a b : Bool) → (a && b) ≡ true → (a ≡ true) × (b ≡ true)
    parts a b h = grind arith

    passes : (id : ℕ) (e : Entry) → of_id test id e ≡ true → test e ≡ true
    passes id e k = (parts (test e) (nat_eq e.id id) k).0

    equal : (id : ℕ) (e e' : Entry) → Among e es → Among e' es → of_id test id e ≡ true → of_id test id e' ≡ true → e ≡ e'
    equal id e e' i j k l =
        let p = parts (test e) (nat_eq e.id id) k in
        let q = parts (test e') (nat_eq e'.id id) l in
        one e e' i j p.0 q.0 (same _ _ p.1 ∙ sym (same _ _ q.1))

    chosen : (id : ℕ) → NoneOrOne (of_id test id) es → NoneOrOne (of_id test id) es' → filter (of_id test id) es ≡ filter (of_id test id) es'
    chosen id (inl h) (inl k) = h.0 ∙ sym k.0
    chosen id (inl h) (inr k) = absurd (true≢false (sym k.3 ∙ h.1 k.0 (members.back k.0 k.2 (passes id k.0 k.3))))
    chosen id (inr h) (inl k) = absurd (true≢false (sym h.3 ∙ k.1 h.0 (members.there h.0 h.2 (passes id h.0 h.3))))
    chosen id (inr h) (inr k) = h.1 ∙ ap (λ (x : Entry). x ∷ []) (equal id h.0 k.0 h.2 (members.back k.0 k.2 (passes id k.0 k.3)) h.3 k.3) ∙ sym k.1

    at : (id : ℕ) → SameAt id (sorted (map r (filter test es))) (sorted (map r (filter test es')))
    at id =
        within-sorted id (map r (filter test es)) ∙ within-shown test r id es ids
        ∙ ap (map r) (chosen id (none_or_one (of_id test id) es members.distinct (equal id)) (none_or_one (of_id test id) es' members.distinct_others (λ e e' i j k l. equal id e e' (members.back e i (passes id e k)) (members.back e' j (passes id e' l)) k l)))
        ∙ sym (within-shown test r id es' ids) ∙ sym (within-sorted id (map r (filter test es')))

-- two members of a list of one are the same
of_one : (e e' : Entry) (es : List Entry) → Among e es → Among e' es → length es ≤ 1 → e ≡ e'
of_one e e' [] i j l = absurd i
of_one e e' (x ∷ []) (inl h) (inl k) l = h ∙ sym k
of_one e e' (x ∷ []) (inr h) j l = absurd h
of_one e e' (x ∷ []) (inl h) (inr k) l = absurd k
of_one e e' (x ∷ y ∷ es) i j l = absurd (omega arith)

pub in-filtered : (test : Entry → Bool) (e : Entry) (es : List Entry) → Among e es → test e ≡ true → Among e (filter test es)
in-filtered test e [] i k = absurd i
in-filtered test e (x ∷ es) (inl h) k = rw (subst (λ (z : Entry). test z ≡ true) h k) (inl h)
in-filtered test e (x ∷ es) (inr i) k = go (test x) (in-filtered test e es i k)
  where
    go : (b : Bool) → Among e (filter test es) → Among e (if b then x ∷ filter test es else filter test es)
    go true h = inr h
    go false h = h

length-map : (r : Entry → Record) (es : List Entry) → length (map r es) ≡ length es
length-map r [] = refl
length-map r (e ∷ es) = ap suc (length-map r es)

-- a store with one record of an id at most shows one entry of it at most
pub one_each : (test : Entry → Bool) (r : Entry → Record) (es : List Entry) → ((e : Entry) → (r e).id ≡ e.id) → HasOneEach (sorted (map r (filter test es))) → OneEach test es
one_each test r es ids one e e' i j k l alike =
    of_one e e' (filter (of_id test e.id) es) (in-filtered (of_id test e.id) e es i (passes e refl k)) (in-filtered (of_id test e.id) e' es j (passes e' (sym alike) l))
    (subst (λ n. n ≤ 1) (ap length (within-sorted e.id (map r (filter test es)) ∙ within-shown test r e.id es ids) ∙ length-map r (filter (of_id test e.id) es)) (one e.id))
  where
    passes : (x : Entry) → x.id ≡ e.id → test x ≡ true → of_id test e.id x ≡ true
    passes x h m = rw (m, tells _ _ h)

-- ids in strict order are in order, and each is that of one record
ordered_ascends : (low low' : ℕ) (rs : List Record) → low ≤ low' → IsOrderedFrom low' rs → IsAscendingFrom low rs
ordered_ascends low low' [] le h = tt
ordered_ascends low low' (r ∷ rs) le h = let k = h.0 in (omega arith, ordered_ascends r.id (r.id + 1) rs (omega arith) h.1)

none_of : (id low : ℕ) (rs : List Record) → id < low → IsOrderedFrom low rs → within (Id id) rs ≡ []
none_of id low [] lt h = refl
none_of id low (r ∷ rs) lt h = let k = h.0 in step (nat_eq r.id id) (grind (arith, nat_tests, k)) (none_of id (r.id + 1) rs (omega arith) h.1)
  where
    step : (b : Bool) → b ≡ false → within (Id id) rs ≡ [] → (if b then r ∷ within (Id id) rs else within (Id id) rs) ≡ []
    step b e k = grind arith

one_of : (id low : ℕ) (rs : List Record) → IsOrderedFrom low rs → length (within (Id id) rs) ≤ 1
one_of id low [] h = omega arith
one_of id low (r ∷ rs) h = step (nat_eq r.id id) refl (one_of id (r.id + 1) rs h.1)
  where
    step : (b : Bool) → nat_eq r.id id ≡ b → length (within (Id id) rs) ≤ 1 → length (if b then r ∷ within (Id id) rs else within (Id id) rs) ≤ 1
    step true e k = let s : r.id ≡ id = same _ _ e in rw (none_of id (r.id + 1) rs (omega arith) h.1) (omega arith)
    step false e k = k

pub ordered_parts : (rs : List Record) → IsOrdered rs → IsAscendingFrom 0 rs × HasOneEach rs
ordered_parts rs h = (ordered_ascends 0 0 rs (omega arith) h, λ id. one_of id 0 rs h)

fewer_of : (id : ℕ) (r : Record) (rs : List Record) → length (within (Id id) (r ∷ rs)) ≤ 1 → length (within (Id id) rs) ≤ 1
fewer_of id r rs = step (nat_eq r.id id)
  where
    step : (b : Bool) → length (if b then r ∷ within (Id id) rs else within (Id id) rs) ≤ 1 → length (within (Id id) rs) ≤ 1
    step true h = omega arith
    step false h = h

ordered_from : (low : ℕ) (rs : List Record) → IsAscendingFrom low rs → HasOneEach rs → IsOrderedFrom low rs
ordered_from low [] h one = tt
ordered_from low (r ∷ []) h one = (h.0, tt)
ordered_from low (r ∷ x ∷ xs) h one = (h.0, ordered_from (r.id + 1) (x ∷ xs) (above h.1.0, h.1.1) (λ id. fewer_of id r (x ∷ xs) (one id)))
  where
    twice : x.id ≡ r.id → ⊥
    twice e = two (one r.id) (tells r.id r.id refl) (tells x.id r.id e)
      where
        two : length (within (Id r.id) (r ∷ x ∷ xs)) ≤ 1 → nat_eq r.id r.id ≡ true → nat_eq x.id r.id ≡ true → ⊥
        two h k l = absurd (omega (arith, rw (k, l) at h))

    above : r.id ≤ x.id → r.id + 1 ≤ x.id
    above le = apart (nat_eq x.id r.id) refl
      where
        apart : (b : Bool) → nat_eq x.id r.id ≡ b → r.id + 1 ≤ x.id
        apart true e = absurd (twice (same _ _ e))
        apart false e = grind (arith, nat_tests)

pub parts_ordered : (rs : List Record) → IsAscendingFrom 0 rs → HasOneEach rs → IsOrdered rs
parts_ordered rs = ordered_from 0 rs

pub run_ordered : (pairs : List Answered) (rs : List Record) → IsOrdered rs → IsOrdered (records_after rs pairs)
run_ordered [] rs h = h
run_ordered (pair ∷ pairs) rs h = run_ordered pairs (after pair.op rs) (ordered_after pair.op rs h)
