-- A plan's parts: what stands under the numbers after them, and which leaf has an entry.
use Rattle.std.proofs.Common.{◌≡◌, ℕ, zero, suc, ◌<◌, ◌≤◌, Bool, true, false, cond, ◌||◌, List, [], ◌∷◌, ◌++◌, length, take, drop, Option, Some, None, refl, sym, ap, ◌∙◌, subst, arith, inl, inr, ◌⊎◌, get_or}
use Rattle.std.specs.Prelude.{nat_eq, ltb, IsSome}
use Rattle.sp_node.specs.declared.node.Entry.{Entry}
use Rattle.sp_node.proofs.Lists.{all_imply}
use Rattle.std.specs.List.{AllByRecursion}
use Rattle.std.proofs.lemmas.Bool.Decides.{nat_tests}
use Rattle.sp_node.specs.declared.node.Node.{Node}
use Rattle.sp_node.specs.declared.plan.Part.{Part}
use Rattle.sp_node.specs.declared.plan.Part.TheVariants.{Now, Gone}
use Rattle.sp_node.specs.Look.{look, entries_in}
use Rattle.sp_node.specs.Among.{Among}
use Rattle.sp_node.specs.Known.{is_known, IsNoted}
use Rattle.sp_node.specs.Index.{has_number, is_held, noted, IsIndex, AreAllKnown, AreAllNoted}
use Rattle.sp_node.specs.Plan.{number_of, content, with_part, with_parts, AreNoted, ArePartsNoted, AreOrdered, entry_count, put_part}
use Rattle.sp_node.proofs.Entries.{has_from_among}
use Rattle.sp_node.proofs.Pairs.{look_put, look_take}

-- the last part first
pub with_parts_last : (nodes : List (ℕ × Node)) (ps : List Part) (p : Part) → with_parts nodes (ps ++ p ∷ []) ≡ with_parts (with_part nodes p) ps
with_parts_last nodes [] p = refl
with_parts_last nodes (x ∷ ps) p = ap (λ (ns : List (ℕ × Node)). with_part ns x) (with_parts_last nodes ps p)

pub fewer_entries : (ps : List Part) (i : ℕ) → entry_count (drop i ps) ≤ entry_count ps
fewer_entries [] zero = omega arith
fewer_entries [] (suc i) = omega arith
fewer_entries (p ∷ ps) zero = omega arith
fewer_entries (p ∷ ps) (suc i) = omega (arith, fewer_entries ps i)

-- what the parts leave under a number that had this before
abbrev pub part_at : List Part → ℕ → Option Node → Option Node
part_at [] k before = before
part_at (p ∷ ps) k before = cond (nat_eq k (number_of p)) (content p) (part_at ps k before)

abbrev pub listed : List Part → ℕ → Bool
listed [] k = false
listed (p ∷ ps) k = nat_eq k (number_of p) || listed ps k

look_part : (nodes : List (ℕ × Node)) (p : Part) (k : ℕ) → look (with_part nodes p) k ≡ cond (nat_eq k (number_of p)) (content p) (look nodes k)
look_part nodes (Now j n) k = look_put j n nodes k
look_part nodes (Gone j) k = look_take j nodes k

pub look_parts : (nodes : List (ℕ × Node)) (ps : List Part) (k : ℕ) → look (with_parts nodes ps) k ≡ part_at ps k (look nodes k)
look_parts nodes [] k = refl
look_parts nodes (p ∷ ps) k = look_part (with_parts nodes ps) p k ∙ ap (λ (o : Option Node). cond (nat_eq k (number_of p)) (content p) o) (look_parts nodes ps k)

pub unlisted : (ps : List Part) (k : ℕ) (before : Option Node) → listed ps k ≡ false → part_at ps k before ≡ before
unlisted [] k before h = refl
unlisted (p ∷ ps) k before h = by_test (nat_eq k (number_of p)) h (unlisted ps k before)
  where
    by_test : (b : Bool) → (b || listed ps k) ≡ false → (listed ps k ≡ false → part_at ps k before ≡ before) → cond b (content p) (part_at ps k before) ≡ before
    by_test true h f = cc
    by_test false h f = f h

abbrev pub has : Option Node → ℕ → Bool
has o q = has_number (entries_in o) q

-- a later part has a larger number
later : (p : Part) (ps : List Part) (k : ℕ) → AllByRecursion (λ r. number_of p < number_of r) ps → listed ps k ≡ true → nat_eq k (number_of p) ≡ false
later p [] k h l = cc
later p (r ∷ ps) k h l = by_test (nat_eq k (number_of r)) refl l (later p ps k h.1)
  where
    by_test : (b : Bool) → nat_eq k (number_of r) ≡ b → (b || listed ps k) ≡ true → (listed ps k ≡ true → nat_eq k (number_of p) ≡ false) → nat_eq k (number_of p) ≡ false
    by_test true e l f = larger k (number_of p) (number_of r) e h.0
      where
        larger : (k a b : ℕ) → nat_eq k b ≡ true → a < b → nat_eq k a ≡ false
        larger k a b e lt = grind (arith, nat_tests)
    by_test false e l f = f l

self_equal : (k : ℕ) → nat_eq k k ≡ true
self_equal k = grind (arith, nat_tests)

equal_from : (j k : ℕ) → nat_eq j k ≡ true → j ≡ k
equal_from j k e = grind (arith, nat_tests)

-- one of the parts has the entry, and it is known that its leaf has it; or none has it
pub record Noted (ps : List Part) (q : ℕ) (before : Option ℕ) (k : ℕ) : Type 0 where
  pub is : noted ps q before ≡ Some k
  pub among : listed ps k ≡ true
  pub there : (o : Option Node) → has (part_at ps k o) q ≡ true

pub record Passed (ps : List Part) (q : ℕ) (before : Option ℕ) : Type 0 where
  pub is : noted ps q before ≡ before
  pub none : (k : ℕ) (o : Option Node) → listed ps k ≡ true → has (part_at ps k o) q ≡ false

pub noted_case : (ps : List Part) → AreOrdered ps → (q : ℕ) (before : Option ℕ) → ((k : ℕ) × Noted ps q before k) ⊎ Passed ps q before
noted_case [] a q before = inr (record { is = refl; none = λ k o l. absurd (no l) })
  where
    no : false ≡ true → ⊥
    no e = cc
noted_case (p ∷ ps) a q before = by_test (has (content p) q) refl (noted_case ps a.1 q before)
  where
    at_own : (o : Option Node) → part_at (p ∷ ps) (number_of p) o ≡ content p
    at_own o = ap (λ (b : Bool). cond b (content p) (part_at ps (number_of p) o)) (self_equal (number_of p))

    at_other : (k : ℕ) (o : Option Node) → nat_eq k (number_of p) ≡ false → part_at (p ∷ ps) k o ≡ part_at ps k o
    at_other k o e = ap (λ (b : Bool). cond b (content p) (part_at ps k o)) e

    none_of : (k : ℕ) (o : Option Node) (b : Bool) → nat_eq k (number_of p) ≡ b → has (content p) q ≡ false → (b || listed ps k) ≡ true → (listed ps k ≡ true → has (part_at ps k o) q ≡ false) → has (cond b (content p) (part_at ps k o)) q ≡ false
    none_of k o true e n l f = n
    none_of k o false e n l f = f l

    by_test : (b : Bool) → has (content p) q ≡ b → (((k : ℕ) × Noted ps q before k) ⊎ Passed ps q before) → ((k : ℕ) × Noted (p ∷ ps) q before k) ⊎ Passed (p ∷ ps) q before
    by_test true e h = inl (
      number_of p,
      record {
        is = ap (λ (b : Bool). cond b (Some (number_of p)) (noted ps q before)) e;
        among = ap (λ (b : Bool). b || listed ps (number_of p)) (self_equal (number_of p));
        there = λ o. ap (λ (n : Option Node). has n q) (at_own o) ∙ e;
      },
    )
    by_test false e (inl h) = let other = later p ps h.0 a.0 h.1.among in inl (
      h.0,
      record {
        is = ap (λ (b : Bool). cond b (Some (number_of p)) (noted ps q before)) e ∙ h.1.is;
        among = ap (λ (b : Bool). b || listed ps h.0) other ∙ h.1.among;
        there = λ o. ap (λ (n : Option Node). has n q) (at_other h.0 o other) ∙ h.1.there o;
      },
    )
    by_test false e (inr h) = inr (record {
      is = ap (λ (b : Bool). cond b (Some (number_of p)) (noted ps q before)) e ∙ h.is;
      none = λ k o l. none_of k o (nat_eq k (number_of p)) refl e l (h.none k o);
    })

module _ (nodes : List (ℕ × Node)) where
  pub held_case : (ps : List Part) (q : ℕ) → ((k : ℕ) × (listed ps k ≡ true) × (has (look nodes k) q ≡ true)) ⊎ ((k : ℕ) → listed ps k ≡ true → has (look nodes k) q ≡ false)
  held_case [] q = inr (λ k l. absurd (no l))
    where
      no : false ≡ true → ⊥
      no e = cc
  held_case (p ∷ ps) q = by_test (has (look nodes (number_of p)) q) refl (held_case ps q)
    where
      either : (k : ℕ) (b : Bool) → nat_eq k (number_of p) ≡ b → (b || listed ps k) ≡ true → has (look nodes (number_of p)) q ≡ false → (listed ps k ≡ true → has (look nodes k) q ≡ false) → has (look nodes k) q ≡ false
      either k true e l n f = ap (λ (j : ℕ). has (look nodes j) q) (equal_from k (number_of p) e) ∙ n
      either k false e l n f = f l

      or_true : (b c : Bool) → c ≡ true → (b || c) ≡ true
      or_true true c e = refl
      or_true false c e = e

      by_test : (b : Bool) → has (look nodes (number_of p)) q ≡ b → (((k : ℕ) × (listed ps k ≡ true) × (has (look nodes k) q ≡ true)) ⊎ ((k : ℕ) → listed ps k ≡ true → has (look nodes k) q ≡ false)) → ((k : ℕ) × (listed (p ∷ ps) k ≡ true) × (has (look nodes k) q ≡ true)) ⊎ ((k : ℕ) → listed (p ∷ ps) k ≡ true → has (look nodes k) q ≡ false)
      by_test true e h = inl (number_of p, ap (λ (b : Bool). b || listed ps (number_of p)) (self_equal (number_of p)), e)
      by_test false e (inl h) = inl (h.0, or_true (nat_eq h.0 (number_of p)) (listed ps h.0) h.1, h.2)
      by_test false e (inr h) = inr (λ k l. either k (nat_eq k (number_of p)) refl l e (h k))

  pub held_is : (ps : List Part) (q k : ℕ) → listed ps k ≡ true → has (look nodes k) q ≡ true → is_held nodes ps q ≡ true
  held_is [] q k l h = cc
  held_is (p ∷ ps) q k l h = by_test (nat_eq k (number_of p)) refl l (held_is ps q k)
    where
      or_true : (b c : Bool) → c ≡ true → (b || c) ≡ true
      or_true true c e = refl
      or_true false c e = e

      by_test : (b : Bool) → nat_eq k (number_of p) ≡ b → (b || listed ps k) ≡ true → (listed ps k ≡ true → has (look nodes k) q ≡ true → is_held nodes ps q ≡ true) → (has (look nodes (number_of p)) q || is_held nodes ps q) ≡ true
      by_test true e l f = ap (λ (j : ℕ). has (look nodes j) q || is_held nodes ps q) (sym (equal_from k (number_of p) e)) ∙ ap (λ (b : Bool). b || is_held nodes ps q) h
      by_test false e l f = or_true (has (look nodes (number_of p)) q) (is_held nodes ps q) (f l h)

  pub held_not : (ps : List Part) (q : ℕ) → ((k : ℕ) → listed ps k ≡ true → has (look nodes k) q ≡ false) → is_held nodes ps q ≡ false
  held_not [] q h = refl
  held_not (p ∷ ps) q h =
      ap (λ (b : Bool). b || is_held nodes ps q) (h (number_of p) (ap (λ (b : Bool). b || listed ps (number_of p)) (self_equal (number_of p))))
      ∙ held_not ps q (λ k l. h k (or_true (nat_eq k (number_of p)) (listed ps k) l))
    where
      or_true : (b c : Bool) → c ≡ true → (b || c) ≡ true
      or_true true c e = refl
      or_true false c e = e

-- no entry stands in two leaves
abbrev pub IsSingle : List (ℕ × Node) → Type 0
IsSingle nodes = (q j k : ℕ) → has (look nodes j) q ≡ true → has (look nodes k) q ≡ true → j ≡ k

module _ (leaf leaf' : ℕ → Option ℕ) (nodes : List (ℕ × Node)) (ps : List Part) (ordered : AreOrdered ps) (index : IsIndex leaf nodes) (single : IsSingle (with_parts nodes ps)) where
  module _ (q : ℕ) (after : leaf' q ≡ noted ps q (cond (is_held nodes ps q) None (leaf q))) where
    abbrev mid : Option ℕ
    mid = cond (is_held nodes ps q) None (leaf q)

    there_after : (k : ℕ) → ((o : Option Node) → has (part_at ps k o) q ≡ true) → has (look (with_parts nodes ps) k) q ≡ true
    there_after k h = ap (λ (o : Option Node). has o q) (look_parts nodes ps k) ∙ h (look nodes k)

    same_before : (k : ℕ) → listed ps k ≡ false → look (with_parts nodes ps) k ≡ look nodes k
    same_before k l = look_parts nodes ps k ∙ unlisted ps k (look nodes k) l

    kept : (k : ℕ) (b : Bool) → is_held nodes ps q ≡ b → cond b None (leaf q) ≡ Some k → (is_held nodes ps q ≡ false) × (leaf q ≡ Some k)
    kept k true e h = cc
    kept k false e h = (e, h)

    still : (k : ℕ) (b : Bool) → listed ps k ≡ b → is_held nodes ps q ≡ false → leaf q ≡ Some k → has (look (with_parts nodes ps) k) q ≡ true
    still k true e n h = let yes = held_is nodes ps q k e ((index q k).0 h) in cc
    still k false e n h = ap (λ (o : Option Node). has o q) (same_before k e) ∙ (index q k).0 h

    forth : (k : ℕ) → leaf' q ≡ Some k → has (look (with_parts nodes ps) k) q ≡ true
    forth k h = elim (noted_case ps ordered q mid) [
      | inl n ↦ let same : n.0 ≡ k = some_is n.0 k (sym n.1.is ∙ sym after ∙ h) in subst (λ (j : ℕ). has (look (with_parts nodes ps) j) q ≡ true) same (there_after n.0 n.1.there)
      | inr n ↦ let m = kept k (is_held nodes ps q) refl (sym n.is ∙ sym after ∙ h) in still k (listed ps k) refl m.0 m.1
    ]
      where
        some_is : (a b : ℕ) → Some a ≡ Some b → a ≡ b
        some_is a b e = cc

    was : (k : ℕ) → listed ps k ≡ false → has (look nodes k) q ≡ true → ((j : ℕ) × (listed ps j ≡ true) × (has (look nodes j) q ≡ true)) ⊎ ((j : ℕ) → listed ps j ≡ true → has (look nodes j) q ≡ false) → mid ≡ Some k
    was k l h (inl j) =
        let a : leaf q ≡ Some j.0 = (index q j.0).1 j.2 in
        let b : leaf q ≡ Some k = (index q k).1 h in
        let same : j.0 ≡ k = cc in
        let yes : listed ps k ≡ true = subst (λ (i : ℕ). listed ps i ≡ true) same j.1 in
        cc
    was k l h (inr n) = ap (λ (b : Bool). cond b None (leaf q)) (held_not nodes ps q n) ∙ (index q k).1 h

    back_passed : (k : ℕ) (b : Bool) → listed ps k ≡ b → Passed ps q mid → has (look (with_parts nodes ps) k) q ≡ true → leaf' q ≡ Some k
    back_passed k true e n h = let no = ap (λ (o : Option Node). has o q) (look_parts nodes ps k) ∙ n.none k (look nodes k) e in cc
    back_passed k false e n h = after ∙ n.is ∙ was k e (ap (λ (o : Option Node). has o q) (sym (same_before k e)) ∙ h) (held_case nodes ps q)

    back : (k : ℕ) → has (look (with_parts nodes ps) k) q ≡ true → leaf' q ≡ Some k
    back k h = elim (noted_case ps ordered q mid) [
      | inl n ↦ let same : n.0 ≡ k = single q n.0 k (there_after n.0 n.1.there) h in after ∙ n.1.is ∙ ap (λ (j : ℕ). Some j) same
      | inr n ↦ back_passed k (listed ps k) refl n h
    ]

  pub index_after : ((q : ℕ) → leaf' q ≡ noted ps q (cond (is_held nodes ps q) None (leaf q))) → IsIndex leaf' (with_parts nodes ps)
  index_after after q k = (forth q (after q) k, back q (after q) k)

abbrev pub number_in : List Part → ℕ → ℕ
number_in ps j = number_of (get_or ps j (Gone 0))

pub put_here : (ps : List Part) (p : Part) (i : ℕ) → i ≤ length ps → ((j : ℕ) → j < i → number_in ps j < number_of p) → (i < length ps → number_of p ≤ number_in ps i) → put_part ps p ≡ take i ps ++ p ∷ drop i ps
put_here [] p zero le below above = refl
put_here [] p (suc i) le below above = absurd (omega arith)
put_here (x ∷ ps) p zero le below above = let h : number_of p ≤ number_of x = above (omega arith) in grind (arith, nat_tests)
put_here (x ∷ ps) p (suc i) le below above =
    let h : number_of x < number_of p = below 0 (omega arith) in
    let more = put_here ps p i (omega arith) (λ j lt. below (suc j) (omega arith)) (λ lt. above (omega arith)) in
    grind (arith, nat_tests)

-- a part that is put in among others with other numbers
pub part_at_put : (ps : List Part) (p : Part) (k : ℕ) (before : Option Node) → listed ps (number_of p) ≡ false → part_at (put_part ps p) k before ≡ cond (nat_eq k (number_of p)) (content p) (part_at ps k before)
part_at_put [] p k before l = refl
part_at_put (x ∷ ps) p k before l = by_test (ltb (number_of x) (number_of p)) (part_at_put ps p k before (unlisted_tail (nat_eq (number_of p) (number_of x)) (listed ps (number_of p)) l))
  where
    unlisted_tail : (a b : Bool) → (a || b) ≡ false → b ≡ false
    unlisted_tail true b e = cc
    unlisted_tail false b e = e

    apart : (k n m : ℕ) → nat_eq n m ≡ false → nat_eq k n ≡ true → nat_eq k m ≡ false
    apart k n m e f = grind (arith, nat_tests)

    unlisted_head : (a b : Bool) → (a || b) ≡ false → a ≡ false
    unlisted_head true b e = e
    unlisted_head false b e = refl

    swap : (a b : Bool) (u v w : Option Node) → (b ≡ true → a ≡ false) → cond a u (cond b v w) ≡ cond b v (cond a u w)
    swap true true u v w h = let c = h refl in cc
    swap true false u v w h = refl
    swap false true u v w h = refl
    swap false false u v w h = refl

    by_test : (b : Bool) → part_at (put_part ps p) k before ≡ cond (nat_eq k (number_of p)) (content p) (part_at ps k before) → part_at (cond b (x ∷ put_part ps p) (p ∷ x ∷ ps)) k before ≡ cond (nat_eq k (number_of p)) (content p) (cond (nat_eq k (number_of x)) (content x) (part_at ps k before))
    by_test true more = ap (λ (o : Option Node). cond (nat_eq k (number_of x)) (content x) o) more
        ∙ swap (nat_eq k (number_of x)) (nat_eq k (number_of p)) (content x) (content p) (part_at ps k before) (apart k (number_of p) (number_of x) (unlisted_head (nat_eq (number_of p) (number_of x)) (listed ps (number_of p)) l))
    by_test false more = refl

above_put : (n : ℕ) (ps : List Part) (p : Part) → AllByRecursion (λ r. n < number_of r) ps → n < number_of p → AllByRecursion (λ r. n < number_of r) (put_part ps p)
above_put n [] p h lt = (lt, tt)
above_put n (x ∷ ps) p h lt = by_test (ltb (number_of x) (number_of p)) (above_put n ps p h.1 lt)
  where
    by_test : (b : Bool) → AllByRecursion (λ r. n < number_of r) (put_part ps p) → AllByRecursion (λ r. n < number_of r) (cond b (x ∷ put_part ps p) (p ∷ x ∷ ps))
    by_test true more = (h.0, more)
    by_test false more = (lt, h)

pub ordered_put : (ps : List Part) (p : Part) → AreOrdered ps → listed ps (number_of p) ≡ false → AreOrdered (put_part ps p)
ordered_put [] p a l = (tt, tt)
ordered_put (x ∷ ps) p a l = by_test (ltb (number_of x) (number_of p)) refl (ordered_put ps p a.1 (unlisted_tail (nat_eq (number_of p) (number_of x)) (listed ps (number_of p)) l))
  where
    unlisted_tail : (a b : Bool) → (a || b) ≡ false → b ≡ false
    unlisted_tail true b e = cc
    unlisted_tail false b e = e

    unlisted_head : (a b : Bool) → (a || b) ≡ false → a ≡ false
    unlisted_head true b e = e
    unlisted_head false b e = refl

    below : (m n : ℕ) → ltb m n ≡ true → m < n
    below m n e = grind (arith, nat_tests)

    above : (m n : ℕ) → ltb m n ≡ false → nat_eq n m ≡ false → n < m
    above m n e f = grind (arith, nat_tests)

    by_test : (b : Bool) → ltb (number_of x) (number_of p) ≡ b → AreOrdered (put_part ps p) → AreOrdered (cond b (x ∷ put_part ps p) (p ∷ x ∷ ps))
    by_test true e more = (above_put (number_of x) ps p a.0 (below (number_of x) (number_of p) e), more)
    by_test false e more =
        let lt = above (number_of x) (number_of p) e (unlisted_head (nat_eq (number_of p) (number_of x)) (listed ps (number_of p)) l) in
        ((lt, all_imply {P = λ r. number_of x < number_of r} {Q = λ r. number_of p < number_of r} (λ r h. omega (arith, lt, h)) ps a.0), a)

-- what holds of each entry of the tree and of each of the parts holds of each entry after
module _ (P Q : Entry → Type 0) (leaf' : ℕ → Option ℕ) (nodes : List (ℕ × Node)) (ps : List Part) where
  all_part : (qs : List Part) (k : ℕ) (o : Option Node) → AllByRecursion (λ p. AllByRecursion P (entries_in (content p))) qs → AllByRecursion P (entries_in o) → AllByRecursion P (entries_in (part_at qs k o))
  all_part [] k o n h = h
  all_part (p ∷ qs) k o n h = by_test (nat_eq k (number_of p)) (all_part qs k o n.1 h)
    where
      by_test : (b : Bool) → AllByRecursion P (entries_in (part_at qs k o)) → AllByRecursion P (entries_in (cond b (content p) (part_at qs k o)))
      by_test true more = n.0
      by_test false more = more

  each_kept : (es : List Entry) → ((e : Entry) → Among e es → P e → Q e) → AllByRecursion P es → AllByRecursion Q es
  each_kept [] f h = tt
  each_kept (e ∷ es) f h = (f e (inl refl) h.0, each_kept es (λ x a. f x (inr a)) h.1)

  pub all_after : ((k : ℕ) → AllByRecursion P (entries_in (look nodes k))) → AllByRecursion (λ p. AllByRecursion P (entries_in (content p))) ps → IsIndex leaf' (with_parts nodes ps) → ((e : Entry) → IsSome (leaf' e.number) → P e → Q e) → (k : ℕ) → AllByRecursion Q (entries_in (look (with_parts nodes ps) k))
  all_after before parts index kept k =
      let es = entries_in (look (with_parts nodes ps) k) in
      each_kept es (λ e a. kept e (some (leaf' e.number) k ((index e.number k).1 (has_from_among e es a))))
      (subst (λ (o : Option Node). AllByRecursion P (entries_in o)) (sym (look_parts nodes ps k)) (all_part ps k (look nodes k) parts (before k)))
    where
      some : (o : Option ℕ) (k : ℕ) → o ≡ Some k → IsSome o
      some None k e = cc
      some (Some j) k e = refl

-- the entries after a change are known, where those that still have a leaf are kept
pub known_after : (known known' : List (ℕ × ℕ)) (leaf' : ℕ → Option ℕ) (nodes : List (ℕ × Node)) (ps : List Part) → AreAllKnown known nodes → AreNoted known ps → IsIndex leaf' (with_parts nodes ps) → ((i n : ℕ) → IsSome (leaf' n) → is_known known' i n ≡ is_known known i n) → AreAllKnown known' (with_parts nodes ps)
known_after known known' leaf' nodes ps before parts index kept = all_after (λ e. is_known known e.id e.number ≡ true) (λ e. is_known known' e.id e.number ≡ true) leaf' nodes ps before parts index (λ e s h. kept e.id e.number s ∙ h)

-- their marks are noted
pub noted_after : (noted : List (ℕ × ℕ)) (leaf' : ℕ → Option ℕ) (nodes : List (ℕ × Node)) (ps : List Part) → AreAllNoted noted nodes → ArePartsNoted noted ps → IsIndex leaf' (with_parts nodes ps) → AreAllNoted noted (with_parts nodes ps)
noted_after noted leaf' nodes ps before parts index = all_after (λ e. IsNoted noted e.number e.marks) (λ e. IsNoted noted e.number e.marks) leaf' nodes ps before parts index (λ e s h. h)
