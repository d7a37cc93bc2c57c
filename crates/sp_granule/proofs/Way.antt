-- The way down a tree by first children that hold a point.
use Rattle.std.proofs.Common.{◌≡◌, ℕ, zero, suc, ◌+◌, ◌<◌, ◌≤◌, Bool, true, false, cond, List, [], ◌∷◌, Option, Some, None, map, refl, sym, ap, ◌∙◌, subst, arith}
use Rattle.std.specs.List.{AllByRecursion, sum_by}
use Rattle.std.proofs.lemmas.List.Sums.{sum_by-cons}
use Rattle.sp_rect.specs.Plane.{Point, holds}
use Rattle.sp_node.specs.declared.node.Child.{Child}
use Rattle.sp_node.specs.declared.node.Node.{Node}
use Rattle.sp_node.specs.declared.node.Node.TheVariants.{Leaf, Inner}
use Rattle.sp_node.specs.Nested.{Body, Branch}
use Rattle.sp_node.specs.Look.{look}
use Rattle.sp_node.specs.Table.{Table, body_at, Stands, IsLeaf, IsInner, children_in, level_of, IsValid}
use Rattle.sp_granule.specs.Descent.{granule_under, granule_of, first_of, first_child_at}
use Rattle.sp_node.proofs.Weight.{weight, weight_inner}
use Rattle.sp_node.proofs.Lists.{all_imply}

-- the way from the root has come to this number
pub record Leads (t : Table) (x : Point) (number : ℕ) : Type 0 where
  pub level : ℕ
  pub stands : Stands (look t.nodes) level number
  pub low : level ≤ level_of t
  pub same : granule_under x level number (body_at (look t.nodes) level number) ≡ granule_of t x

module _ (t : Table) (x : Point) where
  pub leads_start : IsValid t → Leads t x t.root
  unfolding granule_of
  leads_start v = record { level = level_of t; stands = v.stands; low = omega arith; same = refl }

  branch : (level : ℕ) → Child → Branch (Body level)
  branch level c = record { rect = c.rect; number = c.node; body = body_at (look t.nodes) level c.node }

  -- where the first child that holds the point leads
  abbrev goes : (ℕ → ℕ) → ℕ → Option ℕ → ℕ
  goes f number None = number
  goes f number (Some n) = f n

  below : (level number : ℕ) (cs : List Child) → first_of x number (λ b. granule_under x level b.number b.body) (map (λ c. record { rect = c.rect; number = c.node; body = body_at (look t.nodes) level c.node }) cs) ≡ goes (λ n. granule_under x level n (body_at (look t.nodes) level n)) number (first_child_at x cs)
  below level number [] = refl
  below level number (c ∷ cs) = ap (cond (holds c.rect x) (granule_under x level c.node (body_at (look t.nodes) level c.node))) (below level number cs) ∙ pick (holds c.rect x)
    where
      pick : (b : Bool) → cond b (granule_under x level c.node (body_at (look t.nodes) level c.node)) (goes (λ n. granule_under x level n (body_at (look t.nodes) level n)) number (first_child_at x cs)) ≡ goes (λ n. granule_under x level n (body_at (look t.nodes) level n)) number (cond b (Some c.node) (first_child_at x cs))
      pick true = refl
      pick false = refl

  -- a child that is found is one of the children
  module _ (P : ℕ → Type 0) where
    chosen : (cs : List Child) (n : ℕ) → AllByRecursion (λ c. P c.node) cs → first_child_at x cs ≡ Some n → P n
    chosen [] n h e = cc
    chosen (c ∷ cs) n h e = by_test (holds c.rect x) (chosen cs n h.1) e
      where
        by_test : (b : Bool) → (first_child_at x cs ≡ Some n → P n) → cond b (Some c.node) (first_child_at x cs) ≡ Some n → P n
        by_test true later k = subst P (let s : c.node ≡ n = cc in s) h.0
        by_test false later k = later k

  module _ (f : Child → ℕ) where
    below_sum : (cs : List Child) → AllByRecursion (λ c. f c ≤ sum_by f cs) cs
    below_sum [] = tt
    below_sum (c ∷ cs) = (omega (arith, sum_by-cons f c cs), all_imply (λ d h. omega (arith, sum_by-cons f c cs)) cs (below_sum cs))

  pub record Turn (number child : ℕ) : Type 0 where
    pub leads : Leads t x child
    pub less : weight (look t.nodes) (level_of t) child < weight (look t.nodes) (level_of t) number

  -- one step down
  pub turn : (number child : ℕ) (cs : List Child) → Leads t x number → look t.nodes number ≡ Some (Inner cs) → first_child_at x cs ≡ Some child → Turn number child
  turn number child cs l is first = by_level l.level l.stands l.low l.same
    where
      by_level : (level : ℕ) → Stands (look t.nodes) level number → level ≤ level_of t → granule_under x level number (body_at (look t.nodes) level number) ≡ granule_of t x → Turn number child
      by_level zero stands low same = absurd (subst IsLeaf is stands)
      by_level (suc level) stands low same =
          let here : children_in (look t.nodes number) ≡ cs = ap children_in is in
          let each : AllByRecursion (λ c. Stands (look t.nodes) level c.node) cs = subst (λ (ds : List Child). AllByRecursion (λ c. Stands (look t.nodes) level c.node) ds) here stands.1 in
          let w : ℕ → ℕ = weight (look t.nodes) (level_of t) in
          let heavy : w number ≡ 1 + sum_by (λ c. w c.node) cs = weight_inner (look t.nodes) level (level_of t) number cs stands low here in
          let goes_on : granule_under x (suc level) number (body_at (look t.nodes) (suc level) number) ≡ granule_under x level child (body_at (look t.nodes) level child) =
          below level number (children_in (look t.nodes number)) ∙ ap (λ (ds : List Child). goes (λ n. granule_under x level n (body_at (look t.nodes) level n)) number (first_child_at x ds)) here ∙ step level (first_child_at x cs) first in
          record {
            leads = record { level = level; stands = chosen (Stands (look t.nodes) level) cs child each first; low = omega arith; same = sym goes_on ∙ same };
            less = chosen (λ n. w n < w number) cs child (all_imply (λ c h. omega (arith, heavy, h)) cs (below_sum (λ c. w c.node) cs)) first;
          }
        where
          step : (level : ℕ) (o : Option ℕ) → o ≡ Some child → goes (λ n. granule_under x level n (body_at (look t.nodes) level n)) number o ≡ granule_under x level child (body_at (look t.nodes) level child)
          step level o e = ap (goes (λ n. granule_under x level n (body_at (look t.nodes) level n)) number) e

  -- no child holds the point
  pub stays : (number : ℕ) (cs : List Child) → Leads t x number → look t.nodes number ≡ Some (Inner cs) → first_child_at x cs ≡ None → number ≡ granule_of t x
  stays number cs l is first = by_level l.level l.stands l.same
    where
      by_level : (level : ℕ) → Stands (look t.nodes) level number → granule_under x level number (body_at (look t.nodes) level number) ≡ granule_of t x → number ≡ granule_of t x
      by_level zero stands same = absurd (subst IsLeaf is stands)
      by_level (suc level) stands same =
          sym (below level number (children_in (look t.nodes number)) ∙ ap (λ (ds : List Child). goes (λ n. granule_under x level n (body_at (look t.nodes) level n)) number (first_child_at x ds)) (ap children_in is) ∙ ap (goes (λ n. granule_under x level n (body_at (look t.nodes) level n)) number) first)
          ∙ same

  -- the node is no inner node
  pub ends : (number : ℕ) → Leads t x number → ((cs : List Child) → look t.nodes number ≡ Some (Inner cs) → ⊥) → number ≡ granule_of t x
  ends number l not_inner = by_level l.level l.stands l.same
    where
      no_inner : (o : Option Node) → look t.nodes number ≡ o → IsInner o → ⊥
      no_inner None e h = h
      no_inner (Some (Leaf es)) e h = h
      no_inner (Some (Inner cs)) e h = not_inner cs e

      by_level : (level : ℕ) → Stands (look t.nodes) level number → granule_under x level number (body_at (look t.nodes) level number) ≡ granule_of t x → number ≡ granule_of t x
      by_level zero stands same = same
      by_level (suc level) stands same = absurd (no_inner (look t.nodes number) refl stands.0)
