-- Parts that are put among others in place of those of the same numbers.
use Rattle.std.proofs.Common.{◌≡◌, ℕ, zero, suc, ◌<◌, ◌≤◌, Bool, true, false, cond, List, [], ◌∷◌, ◌++◌, length, take, drop, Option, Some, None, refl, sym, ap, ◌∙◌, arith}
use Rattle.std.proofs.Math.ListN.{set}
use Rattle.std.specs.Prelude.{nat_eq, ltb, if◌then◌else◌}
use Rattle.std.specs.List.{AllByRecursion}
use Rattle.std.proofs.lemmas.Bool.Decides.{nat_tests}
use Rattle.sp_node.specs.declared.node.Node.{Node}
use Rattle.sp_node.specs.declared.plan.Part.{Part}
use Rattle.sp_node.specs.Look.{look}
use Rattle.sp_node.specs.Plan.{number_of, content, with_parts, AreOrdered}
use Rattle.sp_node.proofs.Lists.{all_imply}
use Rattle.sp_node.proofs.Adopt.{part_at, look_parts}
use Rattle.sp_grow.specs.Overlay.{part_of, number_in, IsAt, renewed, all_renewed}

-- what the first part of a number leaves there
abbrev pub left_by : Option Part → Option Node → Option Node
left_by None o = o
left_by (Some p) o = content p

pub part_leaves : (ps : List Part) (k : ℕ) (o : Option Node) → part_at ps k o ≡ left_by (part_of ps k) o
part_leaves [] k o = refl
part_leaves (p ∷ ps) k o = by_test (nat_eq k (number_of p)) (part_leaves ps k o)
  where
    by_test : (b : Bool) → part_at ps k o ≡ left_by (part_of ps k) o → cond b (content p) (part_at ps k o) ≡ left_by (cond b (Some p) (part_of ps k)) o
    by_test true e = refl
    by_test false e = e

pub look_left : (nodes : List (ℕ × Node)) (ps : List Part) (k : ℕ) → look (with_parts nodes ps) k ≡ left_by (part_of ps k) (look nodes k)
look_left nodes ps k = look_parts nodes ps k ∙ part_leaves ps k (look nodes k)

-- by the place
tail_below : (x : Part) (ps : List Part) (k i : ℕ) → ((j : ℕ) → j < suc i → number_in (x ∷ ps) j < k) → (j : ℕ) → j < i → number_in ps j < k
tail_below x ps k i below j lt = below (suc j) (omega arith)

pub renewed_at : (ps : List Part) (p : Part) (i : ℕ) → IsAt ps i (number_of p) → ((j : ℕ) → j < i → number_in ps j < number_of p) → renewed ps p ≡ set ps i p
renewed_at [] p i at below = absurd (omega (arith, at.0))
renewed_at (x ∷ ps) p zero at below = let e : number_of x ≡ number_of p = at.1 in grind (arith, nat_tests)
renewed_at (x ∷ ps) p (suc i) at below =
    let h : number_of x < number_of p = below 0 (omega arith) in
    let more = renewed_at ps p i (omega (arith, at.0), at.1) (tail_below x ps (number_of p) i below) in
    grind (arith, nat_tests)

pub renewed_between : (ps : List Part) (p : Part) (i : ℕ) → i ≤ length ps → ((j : ℕ) → j < i → number_in ps j < number_of p) → (i < length ps → number_of p ≤ number_in ps i) → ¬ (IsAt ps i (number_of p)) → renewed ps p ≡ take i ps ++ p ∷ drop i ps
renewed_between [] p zero le below above not_at = refl
renewed_between [] p (suc i) le below above not_at = absurd (omega arith)
renewed_between (x ∷ ps) p zero le below above not_at =
    let h : number_of p ≤ number_of x = above (omega arith) in
    let d : ¬ (number_of x ≡ number_of p) = λ e. not_at (omega arith, e) in
    grind (arith, nat_tests)
renewed_between (x ∷ ps) p (suc i) le below above not_at =
    let h : number_of x < number_of p = below 0 (omega arith) in
    let more = renewed_between ps p i (omega arith) (tail_below x ps (number_of p) i below) (λ lt. above (omega arith)) (λ at. not_at (omega (arith, at.0), at.1)) in
    grind (arith, nat_tests)

-- the numbers still rise
above_renewed : (n : ℕ) (ps : List Part) (p : Part) → AllByRecursion (λ r. n < number_of r) ps → n < number_of p → AllByRecursion (λ r. n < number_of r) (renewed ps p)
above_renewed n [] p h lt = (lt, tt)
above_renewed n (x ∷ ps) p h lt = by_test (ltb (number_of x) (number_of p)) (nat_eq (number_of p) (number_of x)) (above_renewed n ps p h.1 lt)
  where
    by_test : (b c : Bool) → AllByRecursion (λ r. n < number_of r) (renewed ps p) → AllByRecursion (λ r. n < number_of r) (cond b (x ∷ renewed ps p) (p ∷ cond c ps (x ∷ ps)))
    by_test true c more = (h.0, more)
    by_test false true more = (lt, h.1)
    by_test false false more = (lt, h)

pub ordered_renewed : (ps : List Part) (p : Part) → AreOrdered ps → AreOrdered (renewed ps p)
ordered_renewed [] p a = (tt, tt)
ordered_renewed (x ∷ ps) p a = by_test (ltb (number_of x) (number_of p)) (nat_eq (number_of p) (number_of x)) refl refl (ordered_renewed ps p a.1)
  where
    below : (m n : ℕ) → ltb m n ≡ true → m < n
    below m n e = grind (arith, nat_tests)

    above : (m n : ℕ) → ltb m n ≡ false → nat_eq n m ≡ false → n < m
    above m n e f = grind (arith, nat_tests)

    same : (m n : ℕ) → nat_eq n m ≡ true → n ≡ m
    same m n e = grind (arith, nat_tests)

    by_test : (b c : Bool) → ltb (number_of x) (number_of p) ≡ b → nat_eq (number_of p) (number_of x) ≡ c → AreOrdered (renewed ps p) → AreOrdered (cond b (x ∷ renewed ps p) (p ∷ cond c ps (x ∷ ps)))
    by_test true c e f more = (above_renewed (number_of x) ps p a.0 (below (number_of x) (number_of p) e), more)
    by_test false true e f more = let s = same (number_of x) (number_of p) f in (all_imply {P = λ r. number_of x < number_of r} {Q = λ r. number_of p < number_of r} (λ r h. omega (arith, s, h)) ps a.0, a.1)
    by_test false false e f more = let lt = above (number_of x) (number_of p) e f in ((lt, all_imply {P = λ r. number_of x < number_of r} {Q = λ r. number_of p < number_of r} (λ r h. omega (arith, lt, h)) ps a.0), a)

-- what stands then
pub part_at_renewed : (ps : List Part) (p : Part) (k : ℕ) (o : Option Node) → part_at (renewed ps p) k o ≡ cond (nat_eq k (number_of p)) (content p) (part_at ps k o)
part_at_renewed [] p k o = refl
part_at_renewed (x ∷ ps) p k o = by_test (ltb (number_of x) (number_of p)) (nat_eq (number_of p) (number_of x)) refl refl (part_at_renewed ps p k o)
  where
    apart : (k n m : ℕ) → ltb m n ≡ true → nat_eq k n ≡ true → nat_eq k m ≡ false
    apart k n m e f = grind (arith, nat_tests)

    other : (k n m : ℕ) → nat_eq n m ≡ true → nat_eq k m ≡ nat_eq k n
    other k n m e = let s : n ≡ m = same n m e in ap (nat_eq k) (sym s)
      where
        same : (a b : ℕ) → nat_eq a b ≡ true → a ≡ b
        same a b e = grind (arith, nat_tests)

    swap : (a b : Bool) (u v w : Option Node) → (b ≡ true → a ≡ false) → cond a u (cond b v w) ≡ cond b v (cond a u w)
    swap true true u v w h = let c = h refl in cc
    swap true false u v w h = refl
    swap false true u v w h = refl
    swap false false u v w h = refl

    twice : (b : Bool) (u v w : Option Node) → cond b u w ≡ cond b u (cond b v w)
    twice true u v w = refl
    twice false u v w = refl

    by_test : (b c : Bool) → ltb (number_of x) (number_of p) ≡ b → nat_eq (number_of p) (number_of x) ≡ c → part_at (renewed ps p) k o ≡ cond (nat_eq k (number_of p)) (content p) (part_at ps k o) → part_at (cond b (x ∷ renewed ps p) (p ∷ cond c ps (x ∷ ps))) k o ≡ cond (nat_eq k (number_of p)) (content p) (cond (nat_eq k (number_of x)) (content x) (part_at ps k o))
    by_test true c e f more = ap (λ (m : Option Node). cond (nat_eq k (number_of x)) (content x) m) more ∙ swap (nat_eq k (number_of x)) (nat_eq k (number_of p)) (content x) (content p) (part_at ps k o) (apart k (number_of p) (number_of x) e)
    by_test false true e f more = twice (nat_eq k (number_of p)) (content p) (content x) (part_at ps k o) ∙ ap (λ (b : Bool). cond (nat_eq k (number_of p)) (content p) (cond b (content x) (part_at ps k o))) (sym (other k (number_of p) (number_of x) f))
    by_test false false e f more = refl

pub part_at_all : (xs ps : List Part) (k : ℕ) (o : Option Node) → part_at (all_renewed xs ps) k o ≡ part_at ps k (part_at xs k o)
part_at_all xs [] k o = refl
part_at_all xs (p ∷ ps) k o = part_at_renewed (all_renewed xs ps) p k o ∙ ap (λ (m : Option Node). cond (nat_eq k (number_of p)) (content p) m) (part_at_all xs ps k o)

-- the last part first
pub all_renewed_last : (xs ps : List Part) (p : Part) → all_renewed xs (ps ++ p ∷ []) ≡ all_renewed (renewed xs p) ps
all_renewed_last xs [] p = refl
all_renewed_last xs (q ∷ ps) p = ap (λ (ys : List Part). renewed ys q) (all_renewed_last xs ps p)

pub node_over : (nodes : List (ℕ × Node)) (ps : List Part) (k : ℕ) (r : Option Part) → r ≡ part_of ps k → look (with_parts nodes ps) k ≡ left_by r (look nodes k)
node_over nodes ps k r e = look_left nodes ps k ∙ ap (λ (p : Option Part). left_by p (look nodes k)) (sym e)

pub ordered_after : (b : Bool) (ps : List Part) (p : Part) → AreOrdered ps → AreOrdered (if b then renewed ps p else ps)
ordered_after true ps p a = ordered_renewed ps p a
ordered_after false ps p a = a
