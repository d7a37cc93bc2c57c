-- Parts that are put among others.
use Rattle.std.proofs.Common.{◌≡◌, ℕ, ◌+◌, Bool, true, false, cond, ◌||◌, List, [], ◌∷◌, length, Option, Some, refl, sym, ap, ◌∙◌, subst, arith}
use Rattle.std.specs.Prelude.{nat_eq, ltb}
use Rattle.std.specs.List.{AllByRecursion}
use Rattle.sp_node.specs.declared.node.Node.{Node}
use Rattle.sp_node.specs.declared.plan.Part.{Part}
use Rattle.sp_node.specs.declared.plan.Part.TheVariants.{Now}
use Rattle.sp_node.specs.Look.{look}
use Rattle.sp_node.specs.Plan.{number_of, with_parts, put_part}
use Rattle.sp_node.proofs.Adopt.{look_parts, part_at_put, listed, unlisted}
use Rattle.sp_split.proofs.Members.{equal_from, unequal_from, self_equal}

-- what stands under a number after one more part
pub look_put : (nodes : List (ℕ × Node)) (ps : List Part) (k : ℕ) (n : Node) (q : ℕ) → listed ps k ≡ false → look (with_parts nodes (put_part ps (Now k n))) q ≡ cond (nat_eq q k) (Some n) (look (with_parts nodes ps) q)
look_put nodes ps k n q l =
    look_parts nodes (put_part ps (Now k n)) q ∙ part_at_put ps (Now k n) q (look nodes q) l ∙ ap (λ (o : Option Node). cond (nat_eq q k) (Some n) o) (sym (look_parts nodes ps q))

pub look_own : (nodes : List (ℕ × Node)) (ps : List Part) (k : ℕ) (n : Node) → listed ps k ≡ false → look (with_parts nodes (put_part ps (Now k n))) k ≡ Some n
look_own nodes ps k n l = look_put nodes ps k n k l ∙ ap (λ (b : Bool). cond b (Some n) (look (with_parts nodes ps) k)) (self_equal k)

pub look_other : (nodes : List (ℕ × Node)) (ps : List Part) (k : ℕ) (n : Node) (q : ℕ) → listed ps k ≡ false → (q ≡ k → ⊥) → look (with_parts nodes (put_part ps (Now k n))) q ≡ look (with_parts nodes ps) q
look_other nodes ps k n q l other = look_put nodes ps k n q l ∙ ap (λ (b : Bool). cond b (Some n) (look (with_parts nodes ps) q)) (unequal_from q k other)

pub look_unlisted : (nodes : List (ℕ × Node)) (ps : List Part) (q : ℕ) → listed ps q ≡ false → look (with_parts nodes ps) q ≡ look nodes q
look_unlisted nodes ps q l = look_parts nodes ps q ∙ unlisted ps q (look nodes q) l

pub length_put : (ps : List Part) (p : Part) → length (put_part ps p) ≡ length ps + 1
length_put [] p = refl
length_put (x ∷ ps) p = by_test (ltb (number_of x) (number_of p)) (length_put ps p)
  where
    by_test : (b : Bool) → length (put_part ps p) ≡ length ps + 1 → length (cond b (x ∷ put_part ps p) (p ∷ x ∷ ps)) ≡ length (x ∷ ps) + 1
    by_test true e = omega arith
    by_test false e = omega arith

pub all_put : (P : Part → Type 0) (ps : List Part) (p : Part) → AllByRecursion P ps → P p → AllByRecursion P (put_part ps p)
all_put P [] p h here = (here, tt)
all_put P (x ∷ ps) p h here = by_test (ltb (number_of x) (number_of p)) (all_put P ps p h.1 here)
  where
    by_test : (b : Bool) → AllByRecursion P (put_part ps p) → AllByRecursion P (cond b (x ∷ put_part ps p) (p ∷ x ∷ ps))
    by_test true more = (h.0, more)
    by_test false more = (here, h)

-- no part has a number of which that is not true which is true of all parts
pub off_parts : (P : ℕ → Type 0) (ps : List Part) (k : ℕ) → AllByRecursion (λ p. P (number_of p)) ps → (P k → ⊥) → listed ps k ≡ false
off_parts P [] k h never = refl
off_parts P (p ∷ ps) k h never = by_test (nat_eq k (number_of p)) refl (off_parts P ps k h.1 never)
  where
    by_test : (b : Bool) → nat_eq k (number_of p) ≡ b → listed ps k ≡ false → (b || listed ps k) ≡ false
    by_test true e more = absurd (never (subst P (sym (equal_from k (number_of p) e)) h.0))
    by_test false e more = more

pub put_listed : (ps : List Part) (p : Part) (k : ℕ) → listed ps k ≡ false → nat_eq k (number_of p) ≡ false → listed (put_part ps p) k ≡ false
put_listed [] p k l e = ap (λ (b : Bool). b || false) e
put_listed (x ∷ ps) p k l e = by_test (ltb (number_of x) (number_of p)) (put_listed ps p k (tail (nat_eq k (number_of x)) (listed ps k) l) e)
  where
    head : (a b : Bool) → (a || b) ≡ false → a ≡ false
    head true b h = h
    head false b h = refl

    tail : (a b : Bool) → (a || b) ≡ false → b ≡ false
    tail true b h = cc
    tail false b h = h

    by_test : (b : Bool) → listed (put_part ps p) k ≡ false → listed (cond b (x ∷ put_part ps p) (p ∷ x ∷ ps)) k ≡ false
    by_test true more = ap (λ (b : Bool). b || listed (put_part ps p) k) (head (nat_eq k (number_of x)) (listed ps k) l) ∙ more
    by_test false more = ap (λ (b : Bool). b || (nat_eq k (number_of x) || listed ps k)) e ∙ l
