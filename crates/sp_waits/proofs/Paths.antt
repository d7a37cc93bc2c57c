-- The way that is found is a shortest one, and of those the least.
use Rattle.std.proofs.Common.{◌≡◌, ◌≢◌, ◌⊎◌, ℕ, ◌<◌, ◌≤◌, zero, suc, Bool, true, false, ◌||◌, if◌then◌else◌, nat_eq, nat_lt, List, [], ◌∷◌, ◌++◌, length, map, Option, None, Some, refl, sym, ap, ◌∙◌, subst, inl, inr, true≢false, arith}
use Rattle.std.specs.Prelude.{unwrap_or}
use Rattle.std.specs.List.{list_any}
use Rattle.std.proofs.lemmas.Bool.Decides.{nat_tests}
use Rattle.sp_locks.specs.declared.row.Row.{Row}
use Rattle.sp_locks.proofs.Members.{numbers-same, numbers-tell}
use Rattle.sp_waits.specs.declared.graph.Node.{Node}
use Rattle.sp_waits.specs.declared.levels.Step.{Step}
use Rattle.sp_waits.specs.declared.edge.Edge.{Edge}
use Rattle.sp_waits.specs.Edges.{member, waits_of, Chain, Link, Then}
use Rattle.sp_waits.specs.Cycles.{Leads, IsLoop, starts, NoGreater, IsLeastCycle}
use Rattle.sp_waits.specs.Levels.{edges_of, is_at, leads_to, lesser, least, next_at, path_of, Goes, AreLevels}
use Rattle.sp_waits.specs.Ways.{IsWay, AreEdges}
use Rattle.sp_waits.proofs.Levelling.{or-cases, or-left, or-right, below-or, le-or, one-leads}

-- where a way ends
abbrev pub end_of : ℕ → List ℕ → ℕ
end_of u [] = u
end_of u (v ∷ vs) = end_of v vs

-- the least that passes a test
pub record IsLeast (test : ℕ → Bool) (xs : List ℕ) (v : ℕ) : Type 0 where
  pub among : member v xs ≡ true
  pub passes : test v ≡ true
  pub first : (w : ℕ) → member w xs ≡ true → test w ≡ true → v ≤ w

lesser-le : (x y : ℕ) → (lesser x (Some y) ≤ x) × (lesser x (Some y) ≤ y)
lesser-le x y = go (nat_lt y x) refl
  where
    yes : (x y : ℕ) → nat_lt y x ≡ true → y ≤ x
    yes x y e = grind (arith, nat_tests)

    no_less : (x y : ℕ) → nat_lt y x ≡ false → x ≤ y
    no_less x y e = grind (arith, nat_tests)

    go : (b : Bool) → nat_lt y x ≡ b → ((if b then y else x) ≤ x) × ((if b then y else x) ≤ y)
    go true e = (yes x y e, omega arith)
    go false e = (omega arith, no_less x y e)

lesser-one : (x y : ℕ) → (lesser x (Some y) ≡ x) ⊎ (lesser x (Some y) ≡ y)
lesser-one x y = go (nat_lt y x)
  where
    go : (b : Bool) → ((if b then y else x) ≡ x) ⊎ ((if b then y else x) ≡ y)
    go true = inr refl
    go false = inl refl

-- it is found, unless none passes
pub least-is : (test : ℕ → Bool) (xs : List ℕ) → ((v : ℕ) × (least test xs ≡ Some v) × IsLeast test xs v) ⊎ ((least test xs ≡ None) × (list_any test xs ≡ false))
least-is test [] = inr (refl, refl)
least-is test (x ∷ xs) = go (test x) refl (least-is test xs)
  where
    one : test x ≡ true → ((v : ℕ) × (least test xs ≡ Some v) × IsLeast test xs v) ⊎ ((least test xs ≡ None) × (list_any test xs ≡ false)) → (v : ℕ) × (Some (lesser x (least test xs)) ≡ Some v) × IsLeast test (x ∷ xs) v
    one t (inl (v, e, l)) =
        (lesser x (Some v), ap (λ (o : Option ℕ). Some (lesser x o)) e, record { among = among (lesser-one x v); passes = passes (lesser-one x v); first = first })
      where
        among : (lesser x (Some v) ≡ x) ⊎ (lesser x (Some v) ≡ v) → (nat_eq (lesser x (Some v)) x || member (lesser x (Some v)) xs) ≡ true
        among (inl e) = or-left (nat_eq (lesser x (Some v)) x) (member (lesser x (Some v)) xs) (numbers-tell (lesser x (Some v)) x e)
        among (inr e) = or-right (nat_eq (lesser x (Some v)) x) (member (lesser x (Some v)) xs) (ap (λ (w : ℕ). member w xs) e ∙ l.among)

        passes : (lesser x (Some v) ≡ x) ⊎ (lesser x (Some v) ≡ v) → test (lesser x (Some v)) ≡ true
        passes (inl e) = ap test e ∙ t
        passes (inr e) = ap test e ∙ l.passes

        first : (w : ℕ) → (nat_eq w x || member w xs) ≡ true → test w ≡ true → lesser x (Some v) ≤ w
        first w m p = by (or-cases (nat_eq w x) (member w xs) m)
          where
            by : (nat_eq w x ≡ true) ⊎ (member w xs ≡ true) → lesser x (Some v) ≤ w
            by (inl e) = let k = numbers-same w x e in let h = (lesser-le x v).0 in omega arith
            by (inr k) = let g = l.first w k p in let h = (lesser-le x v).1 in omega arith
    one t (inr (e, none)) =
        (x, ap (λ (o : Option ℕ). Some (lesser x o)) e, record { among = or-left (nat_eq x x) (member x xs) (numbers-tell x x refl); passes = t; first = first })
      where
        first : (w : ℕ) → (nat_eq w x || member w xs) ≡ true → test w ≡ true → x ≤ w
        first w m p = by (or-cases (nat_eq w x) (member w xs) m)
          where
            by : (nat_eq w x ≡ true) ⊎ (member w xs ≡ true) → x ≤ w
            by (inl e) = let k = numbers-same w x e in omega arith
            by (inr k) = absurd (true≢false (sym (found xs k) ∙ none))
              where
                found : (ys : List ℕ) → member w ys ≡ true → list_any test ys ≡ true
                found [] k = absurd (true≢false (sym k))
                found (y ∷ ys) k = at (or-cases (nat_eq w y) (member w ys) k) (found ys)
                  where
                    at : (nat_eq w y ≡ true) ⊎ (member w ys ≡ true) → (member w ys ≡ true → list_any test ys ≡ true) → (test y || list_any test ys) ≡ true
                    at (inl e) rest = or-left (test y) (list_any test ys) (ap test (sym (numbers-same w y e)) ∙ p)
                    at (inr j) rest = or-right (test y) (list_any test ys) (rest j)

    more : test x ≡ false → ((v : ℕ) × (least test xs ≡ Some v) × IsLeast test xs v) ⊎ ((least test xs ≡ None) × (list_any test xs ≡ false)) → ((v : ℕ) × (least test xs ≡ Some v) × IsLeast test (x ∷ xs) v) ⊎ ((least test xs ≡ None) × (list_any test xs ≡ false))
    more f (inl (v, e, l)) = inl (v, e, record { among = or-right (nat_eq v x) (member v xs) l.among; passes = l.passes; first = first })
      where
        first : (w : ℕ) → (nat_eq w x || member w xs) ≡ true → test w ≡ true → v ≤ w
        first w m p = by (or-cases (nat_eq w x) (member w xs) m)
          where
            by : (nat_eq w x ≡ true) ⊎ (member w xs ≡ true) → v ≤ w
            by (inl e) = absurd (true≢false (sym p ∙ ap test (numbers-same w x e) ∙ f))
            by (inr k) = l.first w k p
    more f (inr none) = inr none

    go : (b : Bool) → test x ≡ b → ((v : ℕ) × (least test xs ≡ Some v) × IsLeast test xs v) ⊎ ((least test xs ≡ None) × (list_any test xs ≡ false))
        → ((v : ℕ) × ((if b then Some (lesser x (least test xs)) else least test xs) ≡ Some v) × IsLeast test (x ∷ xs) v) ⊎ (((if b then Some (lesser x (least test xs)) else least test xs) ≡ None) × ((b || list_any test xs) ≡ false))
    go true t rest = inl (one t rest)
    go false f rest = more f rest

module _ (graph : List Node) (s k : ℕ) (R : List Step) (are : AreLevels graph s k R) where
  -- the session waits for one that is reached in so many steps, and for none that is nearer
  abbrev pub Near : ℕ → ℕ → Type 0
  Near d u = (leads_to d R (edges_of graph u) ≡ true) × ((v e : ℕ) → e < d → member v (edges_of graph u) ≡ true → is_at v e R ≡ true → ⊥)

  next-least : (d u : ℕ) → Near d u → IsLeast (λ v. is_at v d R) (edges_of graph u) (next_at graph R d u)
  next-least d u near = go (least-is (λ v. is_at v d R) (edges_of graph u))
    where
      go : ((v : ℕ) × (least (λ v. is_at v d R) (edges_of graph u) ≡ Some v) × IsLeast (λ v. is_at v d R) (edges_of graph u) v) ⊎ ((least (λ v. is_at v d R) (edges_of graph u) ≡ None) × (list_any (λ v. is_at v d R) (edges_of graph u) ≡ false))
          → IsLeast (λ v. is_at v d R) (edges_of graph u) (next_at graph R d u)
      go (inl (v, e, l)) = subst (IsLeast (λ w. is_at w d R) (edges_of graph u)) (sym (ap (λ (o : Option ℕ). unwrap_or o u) e)) l
      go (inr (e, none)) = absurd (true≢false (sym near.0 ∙ none))

  -- one that is reached waits for one that is one step nearer, and for none nearer than that
  near-at : (d u : ℕ) → is_at u (suc d) R ≡ true → Near d u
  near-at d u at =
      let g = are.sound u (suc d) at in
      let l = are.within u (suc d) at in
      let c = are.complete g.0 d (omega arith) g.2 in
      let h = are.nearest g.0 c.0 d c.1 g.2 in
      (one-leads d R (edges_of graph u) g.0 g.1 (go g.0 g.1 c.0 c.1 (below-or c.0 d h)), none)
    where
      none : (v e : ℕ) → e < d → member v (edges_of graph u) ≡ true → is_at v e R ≡ true → ⊥
      none v e l m h = let n = are.nearest u (suc d) (suc e) at (v, m, are.sound v e h) in omega arith

      go : (w : ℕ) → member w (edges_of graph u) ≡ true → (e : ℕ) → is_at w e R ≡ true → (e ≡ d) ⊎ (e < d) → is_at w d R ≡ true
      go w m e h (inl same) = subst (λ (n : ℕ). is_at w n R ≡ true) same h
      go w m e h (inr less) = absurd (none w e less m h)

  -- the way from there
  pub way-from : (d u : ℕ) → Near d u → IsWay (edges_of graph) u (path_of graph R (suc d) u) × (end_of u (path_of graph R (suc d) u) ≡ s) × (length (path_of graph R (suc d) u) ≡ suc d)
  way-from zero u near = let l = next-least 0 u near in ((l.among, tt), are.sound (next_at graph R 0 u) 0 l.passes, refl)
  way-from (suc d) u near =
      let l = next-least (suc d) u near in
      let r = way-from d (next_at graph R (suc d) u) (near-at d (next_at graph R (suc d) u) l.passes) in
      ((l.among, r.0), r.1, ap suc r.2)

  -- a way to the session goes so many edges
  way-goes : (u : ℕ) (ws : List ℕ) → IsWay (edges_of graph) u ws → end_of u ws ≡ s → Goes (edges_of graph) s (length ws) u
  way-goes u [] way e = e
  way-goes u (w ∷ ws) way e = (w, way.0, way-goes w ws way.1 e)

  -- no other way of that length is less
  compare : (d u : ℕ) → Near d u → (w : ℕ) (ws : List ℕ) → IsWay (edges_of graph) u (w ∷ ws) → end_of w ws ≡ s → length ws ≡ d → (next_at graph R d u ≡ w → NoGreater (path_of graph R d (next_at graph R d u)) ws) → NoGreater (path_of graph R (suc d) u) (w ∷ ws)
  compare d u near w ws way e n rest = first (below-or (next_at graph R d u) w (l.first w way.0 at))
    where
      l : IsLeast (λ v. is_at v d R) (edges_of graph u) (next_at graph R d u)
      l = next-least d u near

      g : Goes (edges_of graph) s d w
      g = subst (λ (m : ℕ). Goes (edges_of graph) s m w) n (way-goes w ws way.1 e)

      bound : d ≤ k
      bound = are.within (next_at graph R d u) d l.passes

      at : is_at w d R ≡ true
      at = let c = are.complete w d bound g in go c.0 c.1 (below-or c.0 d (are.nearest w c.0 d c.1 g))
        where
          go : (f : ℕ) → is_at w f R ≡ true → (f ≡ d) ⊎ (f < d) → is_at w d R ≡ true
          go f h (inl same) = subst (λ (m : ℕ). is_at w m R ≡ true) same h
          go f h (inr less) = absurd (near.1 w f less way.0 h)

      first : (next_at graph R d u ≡ w) ⊎ (next_at graph R d u < w) → NoGreater (next_at graph R d u ∷ path_of graph R d (next_at graph R d u)) (w ∷ ws)
      first (inr less) = inl less
      first (inl same) = inr (same, rest same)

  least-from : (d u : ℕ) → Near d u → (ws : List ℕ) → IsWay (edges_of graph) u ws → end_of u ws ≡ s → length ws ≡ suc d → NoGreater (path_of graph R (suc d) u) ws
  least-from d u near [] way e n = absurd (omega arith)
  least-from zero u near (w ∷ ws) way e n = compare 0 u near w ws way e (omega arith) (λ same. tt)
  least-from (suc d) u near (w ∷ ws) way e n =
      compare (suc d) u near w ws way e (omega arith)
      (λ same. least-from d (next_at graph R (suc d) u) (near-at d (next_at graph R (suc d) u) (next-least (suc d) u near).passes) ws (subst (λ (v : ℕ). IsWay (edges_of graph) v ws) (sym same) way.1) (ap (λ (v : ℕ). end_of v ws) same ∙ e) (omega arith))

  -- from the session itself
  pub near-start : leads_to k R (edges_of graph s) ≡ true → Near k s
  near-start h = (h, are.unclosed)

  no-shorter : (ws : List ℕ) → ws ≢ [] → IsWay (edges_of graph) s ws → end_of s ws ≡ s → suc k ≤ length ws
  no-shorter [] some way e = absurd (some refl)
  no-shorter (w ∷ ws) some way e = go (le-or k (length ws))
    where
      go : (k ≤ length ws) ⊎ (length ws < k) → suc k ≤ suc (length ws)
      go (inl h) = omega arith
      go (inr h) =
          let g = way-goes w ws way.1 e in
          let c = are.complete w (length ws) (omega arith) g in
          let n = are.nearest w c.0 (length ws) c.1 g in
          absurd (are.unclosed w c.0 (omega arith) way.0 c.1)

-- the sessions where edges end
abbrev pub ends : List Edge → List ℕ
ends es = map (λ e. e.to) es

pub leads-way : (rows : List Row) (u w : ℕ) (es : List Edge) → Leads rows u es w → IsWay (waits_of rows) u (ends es) × (end_of u (ends es) ≡ w)
leads-way rows u w [] h = (tt, h)
leads-way rows u w (e ∷ es) h = let r = leads-way rows e.to w es h.2 in ((subst (λ (v : ℕ). member e.to (waits_of rows v) ≡ true) h.0 h.1.waits, r.0), r.1)

starts-ends : (rows : List Row) (u w : ℕ) (es : List Edge) → Leads rows u es w → starts es ++ w ∷ [] ≡ u ∷ ends es
starts-ends rows u w [] h = ap (λ (v : ℕ). v ∷ []) (sym h)
starts-ends rows u w (e ∷ es) h = ap (λ (vs : List ℕ). e.from ∷ vs) (starts-ends rows e.to w es h.2) ∙ ap (λ (v : ℕ). v ∷ e.to ∷ ends es) h.0

no_greater-front : (xs ys : List ℕ) (w : ℕ) → length xs ≡ length ys → NoGreater (xs ++ w ∷ []) (ys ++ w ∷ []) → NoGreater xs ys
no_greater-front [] ys w n h = tt
no_greater-front (x ∷ xs) [] w n h = absurd (omega arith)
no_greater-front (x ∷ xs) (y ∷ ys) w n (inl less) = inl less
no_greater-front (x ∷ xs) (y ∷ ys) w n (inr h) = inr (h.0, no_greater-front xs ys w (omega arith) h.1)

length-map : {A B : Type 0} (f : A → B) (xs : List A) → length (map f xs) ≡ length xs
length-map f [] = refl
length-map {A} f (x ∷ xs) = ap suc (length-map f xs)

pub edges-lead : (rows : List Row) (u : ℕ) (vs : List ℕ) (es : List Edge) → AreEdges rows u vs es → Leads rows u es (end_of u vs) × (ends es ≡ vs)
edges-lead rows u [] [] h = (refl, refl)
edges-lead rows u [] (e ∷ es) h = absurd h
edges-lead rows u (v ∷ vs) [] h = absurd h
edges-lead rows u (v ∷ vs) (e ∷ es) h =
    let r = edges-lead rows v vs es h.3 in
    ((h.0, h.2, subst (λ (w : ℕ). Leads rows w es (end_of v vs)) (sym h.1) r.0), (let a : e.to ≡ v = h.1 in let b : ends es ≡ vs = r.1 in cc))

some-ends : (es : List Edge) → es ≢ [] → ends es ≢ []
some-ends [] some h = some refl
some-ends (e ∷ es) some h = let k : e.to ∷ ends es ≡ [] = h in cc

-- the cycle that is told
pub told-cycle : (graph : List Node) (s k : ℕ) (R : List Step) (rows : List Row) (es : List Edge) → AreLevels graph s k R → leads_to k R (edges_of graph s) ≡ true → edges_of graph ≡ waits_of rows
    → AreEdges rows s (path_of graph R (suc k) s) es → IsLeastCycle rows s es
told-cycle graph s k R rows es are shut same told = record { leads = (some, leads); shortest = shortest; least = lesser_cycle }
  where
    near : Near graph s k R are k s
    near = near-start graph s k R are shut

    way : IsWay (edges_of graph) s (path_of graph R (suc k) s) × (end_of s (path_of graph R (suc k) s) ≡ s) × (length (path_of graph R (suc k) s) ≡ suc k)
    way = way-from graph s k R are k s near

    along : Leads rows s es (end_of s (path_of graph R (suc k) s)) × (ends es ≡ path_of graph R (suc k) s)
    along = edges-lead rows s (path_of graph R (suc k) s) es told

    leads : Leads rows s es s
    leads = subst (λ (w : ℕ). Leads rows s es w) way.1 along.0

    long : length es ≡ suc k
    long = sym (length-map (λ (e : Edge). e.to) es) ∙ ap length along.1 ∙ way.2

    some : es ≢ []
    some e = let n = ap length e in omega (arith, long)

    back : (fs : List Edge) → Leads rows s fs s → IsWay (edges_of graph) s (ends fs) × (end_of s (ends fs) ≡ s)
    back fs h = let w = leads-way rows s s fs h in (subst (λ (f : ℕ → List ℕ). IsWay f s (ends fs)) (sym same) w.0, w.1)

    shortest : (fs : List Edge) → IsLoop rows s fs → length es ≤ length fs
    shortest fs h =
        let b = back fs h.1 in
        let n = no-shorter graph s k R are (ends fs) (some-ends fs h.0) b.0 b.1 in
        omega (arith, long, length-map (λ (e : Edge). e.to) fs)

    lesser_cycle : (fs : List Edge) → IsLoop rows s fs → length fs ≡ length es → NoGreater (starts es) (starts fs)
    lesser_cycle fs h n =
        let b = back fs h.1 in
        let l = least-from graph s k R are k s near (ends fs) b.0 b.1 (length-map (λ (e : Edge). e.to) fs ∙ n ∙ long) in
        let m : NoGreater (s ∷ ends es) (s ∷ ends fs) = inr (refl, subst (λ (vs : List ℕ). NoGreater vs (ends fs)) (sym along.1) l) in
        no_greater-front (starts es) (starts fs) s (length-map (λ (e : Edge). e.from) es ∙ sym n ∙ sym (length-map (λ (e : Edge). e.from) fs))
        (subst (λ (vs : List ℕ). NoGreater vs (starts fs ++ s ∷ [])) (sym (starts-ends rows s s es leads)) (subst (λ (vs : List ℕ). NoGreater (s ∷ ends es) vs) (sym (starts-ends rows s s fs h.1)) m))

-- a chain goes so many edges
pub chain-goes : (edges : ℕ → List ℕ) (u w : ℕ) → Chain edges u w → (n : ℕ) × (v : ℕ) × (member v (edges u) ≡ true) × Goes edges w n v
chain-goes edges u w (Link h) = (0, w, h, refl)
chain-goes edges u w (Then v h c) = let r = chain-goes edges v w c in (suc r.0, v, h, (r.1, r.2, r.3))
