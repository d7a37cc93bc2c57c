-- Parts by ascending numbers: what a binary search finds, and what they leave under a number.
use Rattle.std.proofs.Common.{◌≡◌, ℕ, zero, suc, ◌<◌, ◌≤◌, ◌≢◌, Bool, true, false, cond, List, [], ◌∷◌, length, get_or, Option, Some, None, Result, Ok, Err, refl, sym, ap, ◌∙◌, subst, arith, inl, inr}
use Rattle.std.specs.Prelude.{nat_eq}
use Rattle.std.specs.List.{AllByRecursion}
use Rattle.std.specs.List.Sorted.{IsSearchInRange, IsBinarySearchResult, IsNonDecreasingBy}
use Rattle.std.specs.Ordering.{nat_cmp, ordering_index}
use Rattle.std.proofs.lemmas.Bool.{cases_lt}
use Rattle.std.proofs.lemmas.Bool.Decides.{nat_tests}
use Rattle.std.proofs.lemmas.Cmp.{ranked}
use Rattle.std.proofs.lemmas.List.Sorted.{IsNonDecreasingBy-from_default}
use Rattle.sp_node.specs.declared.node.Node.{Node}
use Rattle.sp_node.specs.declared.plan.Part.{Part}
use Rattle.sp_node.specs.declared.plan.Part.TheVariants.{Gone}
use Rattle.sp_node.specs.Index.{part_named}
use Rattle.sp_node.specs.Look.{look}
use Rattle.sp_node.specs.Plan.{number_of, content, with_parts, AreOrdered}
use Rattle.sp_node.proofs.Adopt.{part_at, look_parts, number_in}

abbrev pub Rises : List Part → Type 0
Rises ps = (i j : ℕ) → i < j → j < length ps → number_in ps i < number_in ps j

all_at : (P : Part → Type 0) (ps : List Part) (j : ℕ) → AllByRecursion P ps → j < length ps → P (get_or ps j (Gone 0))
all_at P [] j h lt = absurd (omega arith)
all_at P (x ∷ ps) zero h lt = h.0
all_at P (x ∷ ps) (suc j) h lt = all_at P ps j h.1 (omega arith)

pub rises : (ps : List Part) → AreOrdered ps → Rises ps
rises [] a i j lt len = absurd (omega arith)
rises (x ∷ ps) a zero zero lt len = absurd (omega arith)
rises (x ∷ ps) a zero (suc j) lt len = all_at (λ m. number_of x < number_of m) ps j a.0 (omega arith)
rises (x ∷ ps) a (suc i) zero lt len = absurd (omega arith)
rises (x ∷ ps) a (suc i) (suc j) lt len = rises ps a.1 i j (omega arith) (omega arith)

-- no part before place i has the number
abbrev NoneBefore : List Part → ℕ → ℕ → Type 0
NoneBefore ps k i = (j : ℕ) → j < i → number_in ps j ≢ k

tail_none : (x : Part) (ps : List Part) (k i : ℕ) → NoneBefore (x ∷ ps) k (suc i) → NoneBefore ps k i
tail_none x ps k i none j lt = none (suc j) (omega arith)

other : (n k : ℕ) → n ≢ k → nat_eq k n ≡ false
other n k h = grind (arith, nat_tests)

same : (n k : ℕ) → n ≡ k → nat_eq k n ≡ true
same n k h = grind (arith, nat_tests)

absent : (ps : List Part) (k : ℕ) → NoneBefore ps k (length ps) → part_named ps k ≡ None
absent [] k none = refl
absent (x ∷ ps) k none = ap (λ (b : Bool). cond b (Some x) (part_named ps k)) (other (number_of x) k (none 0 (omega arith))) ∙ absent ps k (tail_none x ps k _ none)

present : (ps : List Part) (k i : ℕ) → i < length ps → number_in ps i ≡ k → NoneBefore ps k i → part_named ps k ≡ Some (get_or ps i (Gone 0))
present [] k i lt is none = absurd (omega arith)
present (x ∷ ps) k zero lt is none = ap (λ (b : Bool). cond b (Some x) (part_named ps k)) (same (number_of x) k is)
present (x ∷ ps) k (suc i) lt is none = ap (λ (b : Bool). cond b (Some x) (part_named ps k)) (other (number_of x) k (none 0 (omega arith))) ∙ present ps k i (omega arith) is (tail_none x ps k i none)

module _ (ps : List Part) (rise : Rises ps) (k : ℕ) where
  comparisons_rise : IsNonDecreasingBy (λ p. ordering_index (nat_cmp (number_of p) k)) ps
  comparisons_rise = IsNonDecreasingBy-from_default (λ p. ordering_index (nat_cmp (number_of p) k)) ps (Gone 0) (λ i j le in_range.
      let keys_rise : number_in ps i ≤ number_in ps j = grind (arith, rise i j, λ (s : i ≡ j). ap (number_in ps) s) in
      ranks (number_in ps i) (number_in ps j) keys_rise)
    where
      ranks : (a b : ℕ) → a ≤ b → ordering_index (nat_cmp a k) ≤ ordering_index (nat_cmp b k)
      ranks a b le = grind (arith, nat_tests)

  -- what a search's answer means
  abbrev pub answer : Result ℕ ℕ → Option Part
  answer (Ok i) = Some (get_or ps i (Gone 0))
  answer (Err i) = None

  pub searched : (r : Result ℕ ℕ) → IsSearchInRange r (length ps) → IsBinarySearchResult (λ p. nat_cmp (number_of p) k) ps r → part_named ps k ≡ answer r
  searched (Ok i) in_range equal =
      let is : number_in ps i ≡ k = ranked _ k _ (sym (equal (Gone 0))) in
      present ps k i in_range is (λ j lt e. omega (arith, rise j i lt in_range, is, e))
  searched (Err i) in_range parted = absent ps k none
    where
      before : (j : ℕ) → j < i → number_in ps j < k
      before j lt = ranked _ k _ (sym ((parted comparisons_rise).0 j (Gone 0) (omega arith) lt))

      after : (j : ℕ) → i ≤ j → j < length ps → k < number_in ps j
      after j le lt = ranked _ k _ (sym ((parted comparisons_rise).1 j (Gone 0) le lt))

      none : NoneBefore ps k (length ps)
      none j lt e = elim (cases_lt j i) [ inl b ↦ omega (arith, before j b, e) | inr le ↦ omega (arith, after j le lt, e) ]

  pub found : (i : ℕ) (r : Result ℕ ℕ) → r ≡ Ok i → IsSearchInRange r (length ps) → IsBinarySearchResult (λ p. nat_cmp (number_of p) k) ps r → (i < length ps) × (part_named ps k ≡ Some (get_or ps i (Gone 0)))
  found i r e in_range s = (subst (λ (x : Result ℕ ℕ). IsSearchInRange x (length ps)) e in_range, searched r in_range s ∙ ap answer e)

  pub missing : (i : ℕ) (r : Result ℕ ℕ) → r ≡ Err i → IsSearchInRange r (length ps) → IsBinarySearchResult (λ p. nat_cmp (number_of p) k) ps r → part_named ps k ≡ None
  missing i r e in_range s = searched r in_range s ∙ ap answer e

-- within the list the default does not count
pub read_there : (ps : List Part) (i : ℕ) (p q : Part) → i < length ps → get_or ps i p ≡ get_or ps i q
read_there [] i p q lt = absurd (omega arith)
read_there (x ∷ ps) zero p q lt = refl
read_there (x ∷ ps) (suc i) p q lt = read_there ps i p q (omega arith)

-- what the part that was found leaves under its number, and else what was there before
abbrev pub said : Option Part → Option Node → Option Node
said None before = before
said (Some p) before = content p

part_says : (ps : List Part) (k : ℕ) (before : Option Node) → part_at ps k before ≡ said (part_named ps k) before
part_says [] k before = refl
part_says (p ∷ ps) k before = by_test (nat_eq k (number_of p)) (part_says ps k before)
  where
    by_test : (b : Bool) → part_at ps k before ≡ said (part_named ps k) before → cond b (content p) (part_at ps k before) ≡ said (cond b (Some p) (part_named ps k)) before
    by_test true h = refl
    by_test false h = h

pub look_named : (nodes : List (ℕ × Node)) (ps : List Part) (k : ℕ) → look (with_parts nodes ps) k ≡ said (part_named ps k) (look nodes k)
look_named nodes ps k = look_parts nodes ps k ∙ part_says ps k (look nodes k)
