-- The way down to the leaf that an insertion goes to.
use Rattle.std.proofs.Common.{◌≡◌, ℕ, zero, suc, ◌+◌, ◌<◌, ◌≤◌, List, [], ◌∷◌, ◌++◌, Option, Some, None, map, take, drop, get_or, length, refl, sym, ap, ◌∙◌, subst, arith}
use Rattle.std.specs.List.{AllByRecursion, sum_by}
use Rattle.std.proofs.lemmas.List.{map-append, take-map, get_or-map}
use Rattle.std.specs.List.{drop-map}
use Rattle.sp_node.proofs.Level.{HasChildren, root_children}
use Rattle.std.proofs.lemmas.List.Sums.{sum_by-cons}
use Rattle.sp_rect.specs.Plane.{Rectangle, whole}
use Rattle.sp_node.specs.declared.node.Child.{Child}
use Rattle.sp_node.specs.declared.node.Node.{Node}
use Rattle.sp_node.specs.declared.node.Node.TheVariants.{Leaf, Inner}
use Rattle.sp_node.specs.Nested.{Body, Branch, rects}
use Rattle.sp_node.specs.Look.{look}
use Rattle.sp_node.specs.Table.{Table, body_at, Stands, IsLeaf, IsInner, children_in, level_of, IsValid}
use Rattle.sp_node.proofs.Weight.{weight, weight_inner}
use Rattle.sp_grow.specs.Chosen.{IsChosen, Reaches, ReachesOf}

-- a list at one of its places
parted_suc : (cs : List Child) (i : ℕ) (c : Child) → i < length cs → cs ≡ take i cs ++ get_or cs i c ∷ drop (suc i) cs
parted_suc [] i c lt = absurd (omega arith)
parted_suc (x ∷ cs) zero c lt = refl
parted_suc (x ∷ cs) (suc i) c lt = ap (λ (ds : List Child). x ∷ ds) (parted_suc cs i c (omega arith))

pub parted : (cs : List Child) (i : ℕ) (c : Child) → i < length cs → cs ≡ take i cs ++ get_or cs i c ∷ drop (i + 1) cs
parted cs i c lt = let e : suc i ≡ i + 1 = omega arith in parted_suc cs i c lt ∙ ap (λ (n : ℕ). take i cs ++ get_or cs i c ∷ drop n cs) e

module _ (P : Child → Type 0) where
  pub one_of : (cs : List Child) (i : ℕ) (c : Child) → AllByRecursion P cs → i < length cs → P (get_or cs i c)
  one_of [] i c h lt = absurd (omega arith)
  one_of (x ∷ cs) zero c h lt = h.0
  one_of (x ∷ cs) (suc i) c h lt = one_of cs i c h.1 (omega arith)

pub less_than_sum : (w : ℕ → ℕ) (cs : List Child) (i : ℕ) (c : Child) → i < length cs → w (get_or cs i c).node ≤ sum_by (λ d. w d.node) cs
less_than_sum w [] i c lt = absurd (omega arith)
less_than_sum w (x ∷ cs) zero c lt = omega (arith, sum_by-cons (λ d. w d.node) x cs)
less_than_sum w (x ∷ cs) (suc i) c lt = omega (arith, sum_by-cons (λ d. w d.node) x cs, less_than_sum w cs i c (omega arith))

module _ (t : Table) (q : Rectangle) where
  -- what is reached from here is reached from the root
  pub record Leads (number : ℕ) : Type 0 where
    pub level : ℕ
    pub stands : Stands (look t.nodes) level number
    pub full : HasChildren (look t.nodes) level number
    pub low : level ≤ level_of t
    pub onwards : (leaf : ℕ) → Reaches level number (body_at (look t.nodes) level number) q leaf → ReachesOf t q leaf

  pub leads_start : IsValid t → Leads t.root
  leads_start v = record { level = level_of t; stands = v.stands; full = root_children t (level_of t) v; low = omega arith; onwards = λ leaf r. r }

  abbrev pub branch : (level : ℕ) → Child → Branch (Body level)
  branch level c = record { rect = c.rect; number = c.node; body = body_at (look t.nodes) level c.node }

  abbrev pub branches : (level : ℕ) → List Child → List (Branch (Body level))
  branches level cs = map (branch level) cs

  rects_of : (level : ℕ) (cs : List Child) → rects (suc level) (branches level cs) ≡ map (λ c. c.rect) cs
  rects_of level [] = refl
  rects_of level (c ∷ cs) = ap (λ (rs : List Rectangle). c.rect ∷ rs) (rects_of level cs)

  pub record Turn (number child : ℕ) : Type 0 where
    pub leads : Leads child
    pub less : weight (look t.nodes) (level_of t) child < weight (look t.nodes) (level_of t) number

  pub turn :
      (number : ℕ) (cs : List Child) (i : ℕ) (c : Child) → Leads number → look t.nodes number ≡ Some (Inner cs) → i < length cs → IsChosen (take i (map (λ d. d.rect) cs)) (get_or (map (λ d. d.rect) cs) i whole) (drop (i + 1) (map (λ d. d.rect) cs)) q → Turn number (get_or cs i c).node
  turn number cs i c l is lt chosen = by_level l.level l.stands l.full l.low l.onwards
    where
      here : children_in (look t.nodes number) ≡ cs
      here = ap children_in is

      split : (level : ℕ) → body_at (look t.nodes) (suc level) number ≡ branches level (take i cs) ++ branch level (get_or cs i c) ∷ branches level (drop (i + 1) cs)
      split level = ap (branches level) (here ∙ parted cs i c lt) ∙ map-append (branch level) (take i cs) (get_or cs i c ∷ drop (i + 1) cs)

      front : (level : ℕ) → take i (map (λ d. d.rect) cs) ≡ rects (suc level) (branches level (take i cs))
      front level = take-map (λ (d : Child). d.rect) i cs ∙ sym (rects_of level (take i cs))

      back : (level : ℕ) → drop (i + 1) (map (λ d. d.rect) cs) ≡ rects (suc level) (branches level (drop (i + 1) cs))
      back level = drop-map (λ (d : Child). d.rect) (i + 1) cs ∙ sym (rects_of level (drop (i + 1) cs))

      own : get_or (map (λ d. d.rect) cs) i whole ≡ (get_or cs i c).rect
      own = get_or-map (λ (d : Child). d.rect) cs i c whole lt

      pick : (level : ℕ) → IsChosen (rects (suc level) (branches level (take i cs))) (get_or cs i c).rect (rects (suc level) (branches level (drop (i + 1) cs))) q
      pick level =
          subst (λ (f : List Rectangle). IsChosen f (get_or cs i c).rect (rects (suc level) (branches level (drop (i + 1) cs))) q) (front level)
          (subst (λ (b : List Rectangle). IsChosen (take i (map (λ d. d.rect) cs)) (get_or cs i c).rect b q) (back level)
          (subst (λ (r : Rectangle). IsChosen (take i (map (λ d. d.rect) cs)) r (drop (i + 1) (map (λ d. d.rect) cs)) q) own chosen))

      by_level : (level : ℕ) → Stands (look t.nodes) level number → HasChildren (look t.nodes) level number → level ≤ level_of t → ((leaf : ℕ) → Reaches level number (body_at (look t.nodes) level number) q leaf → ReachesOf t q leaf) → Turn number (get_or cs i c).node
      by_level zero stands full low onwards = absurd (subst IsLeaf is stands)
      by_level (suc level) stands full low onwards =
          let each : AllByRecursion (λ d. Stands (look t.nodes) level d.node) cs = subst (λ (ds : List Child). AllByRecursion (λ d. Stands (look t.nodes) level d.node) ds) here stands.1 in
          let heavy : weight (look t.nodes) (level_of t) number ≡ 1 + sum_by (λ d. weight (look t.nodes) (level_of t) d.node) cs = weight_inner (look t.nodes) level (level_of t) number cs stands low here in
          record {
            leads = record {
              level = level;
              stands = one_of (λ d. Stands (look t.nodes) level d.node) cs i c each lt;
              full = one_of (λ d. HasChildren (look t.nodes) level d.node) cs i c (subst (λ (ds : List Child). AllByRecursion (λ d. HasChildren (look t.nodes) level d.node) ds) here full.1) lt;
              low = omega arith;
              onwards = λ leaf r. onwards leaf (branches level (take i cs), branch level (get_or cs i c), branches level (drop (i + 1) cs), split level, pick level, r);
            };
            less = omega (arith, heavy, less_than_sum (weight (look t.nodes) (level_of t)) cs i c lt);
          }

  -- an inner node on the way has a child
  pub has_child : (number : ℕ) (cs : List Child) → Leads number → look t.nodes number ≡ Some (Inner cs) → 0 < length cs
  has_child number cs l is = by_level l.level l.stands l.full
    where
      by_level : (level : ℕ) → Stands (look t.nodes) level number → HasChildren (look t.nodes) level number → 0 < length cs
      by_level zero stands full = absurd (subst IsLeaf is stands)
      by_level (suc level) stands full = let e = ap (λ (n : Option Node). length (children_in n)) is in omega (arith, e, full.0)

  -- the node is no inner node
  pub ends : (number : ℕ) → Leads number → ((cs : List Child) → look t.nodes number ≡ Some (Inner cs) → ⊥) → ReachesOf t q number
  ends number l not_inner = by_level l.level l.stands l.onwards
    where
      no_inner : (o : Option Node) → look t.nodes number ≡ o → IsInner o → ⊥
      no_inner None e h = h
      no_inner (Some (Leaf es)) e h = h
      no_inner (Some (Inner cs)) e h = not_inner cs e

      by_level : (level : ℕ) → Stands (look t.nodes) level number → ((leaf : ℕ) → Reaches level number (body_at (look t.nodes) level number) q leaf → ReachesOf t q leaf) → ReachesOf t q number
      by_level zero stands onwards = onwards number refl
      by_level (suc level) stands onwards = absurd (no_inner (look t.nodes number) refl stands.0)
