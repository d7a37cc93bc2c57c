-- The turns of the search for granules, from the root to the end.
use Rattle.std.proofs.Common.{◌≡◌, ℕ, zero, suc, ◌+◌, ◌<◌, ◌≤◌, Bool, true, false, ◌&&◌, ◌||◌, ◌↔◌, List, [], ◌∷◌, ◌++◌, reverse, Option, Some, None, refl, sym, ap, ◌∙◌, subst, inl, inr, ◌⊎◌, arith}
use Rattle.std.specs.Prelude.{nat_eq}
use Rattle.std.specs.List.{flat_map, filter, sum_by, list_any, IsDistinct}
use Rattle.std.specs.List.Sorted.{IsPermutation, IsSorted, IsStrictlyIncreasing}
use Rattle.std.specs.Ordering.{nat_cmp}
use Rattle.std.proofs.lemmas.Int.{ints}
use Rattle.std.proofs.lemmas.Bool.Decides.{nat_tests}
use Rattle.std.proofs.lemmas.Cmp.{nat_eq_equiv}
use Rattle.std.proofs.lemmas.List.{append-nil, reverse-append}
use Rattle.std.proofs.lemmas.List.Sums.{sum_by-append, sum_by-cons, sum_by_push}
use Rattle.std.proofs.lemmas.List.Sorted.{IsPermutation-reverse, sum_by-IsPermutation, list_any-IsPermutation, IsNonDecreasingBy-from_sort}
use Rattle.std.proofs.lemmas.Map.Keys.{IsDistinct-IsPermutation, IsStrictlyIncreasing-from_distinct}
use Rattle.sp_rect.specs.Plane.{Rectangle, IsRectangle, Point, holds, meets, whole}
use Rattle.sp_rect.specs.Inside.{whole_meets}
use Rattle.sp_region.proofs.Points.{Holds-from_test, test-from_Holds, same_tests, both_pass, each_passes}
use Rattle.sp_node.specs.Among.{Among}
use Rattle.sp_node.specs.declared.node.Child.{Child}
use Rattle.sp_node.specs.declared.node.Node.{Node}
use Rattle.sp_node.specs.declared.node.Node.TheVariants.{Leaf, Inner}
use Rattle.sp_node.specs.Look.{look}
use Rattle.sp_node.specs.Table.{Table, level_of, Stands, IsLeaf, children_in, IsValid, nodes_meeting, places_of}
use Rattle.sp_node.proofs.Weight.{weight, weight_positive, weight_inner}
use Rattle.sp_node.proofs.Lists.{distinct_filter, sum_filter}
use Rattle.sp_node.proofs.Descent.{Spot, IsReady, seen_at}
use Rattle.sp_granule.specs.declared.meeting.Waiting.{Waiting}
use Rattle.sp_granule.specs.Granules.{granules, IsMeeting}
use Rattle.sp_granule.specs.Visit.{AreParts, IsVisited}
use Rattle.sp_granule.proofs.Walk.{Walks, IsWaiting, AreWaiting, AnyBelow, looked, turn_yes, turn_no}
use Rattle.sp_granule.proofs.Opening.{open_leaf, open_inner, opens_something}

module _ (t : Table) (q : Rectangle) where
  -- the root waits
  in_whole : IsRectangle q → (p : Point) → holds q p ≡ (holds whole p && holds q p)
  in_whole v p =
      same_tests (holds q p) (holds whole p && holds q p)
      (λ h. let k = Holds-from_test q p h in both_pass (holds whole p) (holds q p) (test-from_Holds whole p (record { from_left = omega (arith, ints); to_right = omega (arith, ints); from_below = omega (arith, ints); to_above = omega (arith, ints) })) h)
      (λ h. (each_passes (holds whole p) (holds q p) h).1)

  pub walks_start : (pending : List Waiting) (found : List ℕ) (w : Waiting) → IsValid t → IsRectangle q → w.node ≡ t.root → w.part ≡ q → pending ≡ w ∷ [] → found ≡ [] → Walks t q pending found
  unfolding granules nodes_meeting
  walks_start pending found w v r en ep e f =
      subst (λ (ws : List Waiting). Walks t q ws found) (sym e)
      (subst (λ (ns : List ℕ). Walks t q (w ∷ []) ns) (sym f) (record {
        spots = record { number = t.root; space = whole; level = level_of t } ∷ [];
        pairs = [];
        waiting = (
          record {
            named = en;
            valid = subst IsRectangle (sym ep) r;
            points = λ p. ap (λ (x : Rectangle). holds x p) ep ∙ in_whole r p;
            ready = record { stands = v.stands; sound = v.sound; meets_q = whole_meets q r; low = omega arith };
          },
          tt,
        );
        all_seen = append-nil _;
        found_is = refl;
        sound = λ n a. absurd a;
        below = λ n h. elim h [ inl k ↦ k | inr k ↦ absurd k ];
        complete = λ n m. inr (inl m);
      }))

  -- what waits weighs as much as there is to look at
  abbrev pub left : List Waiting → ℕ
  left ws = sum_by (λ w. weight (look t.nodes) (level_of t) w.node) ws

  parts_weigh : (cs : List Child) (ws : List Waiting) → AreParts q cs ws → sum_by (λ w. weight (look t.nodes) (level_of t) w.node) ws ≡ sum_by (λ c. weight (look t.nodes) (level_of t) c.node) cs
  parts_weigh [] [] h = refl
  parts_weigh [] (w ∷ ws) h = absurd h
  parts_weigh (c ∷ cs) [] h = absurd h
  parts_weigh (c ∷ cs) (w ∷ ws) h =
      sum_by-cons (λ x. weight (look t.nodes) (level_of t) x.node) w ws ∙ ap (λ (m : ℕ). m + sum_by (λ x. weight (look t.nodes) (level_of t) x.node) ws) (ap (weight (look t.nodes) (level_of t)) h.0.named)
      ∙ ap (λ (m : ℕ). weight (look t.nodes) (level_of t) c.node + m) (parts_weigh cs ws h.1) ∙ sym (sum_by-cons (λ x. weight (look t.nodes) (level_of t) x.node) c cs)

  less_leaf : (rest : List Waiting) (w : Waiting) → left rest < left (rest ++ w ∷ [])
  less_leaf rest w = omega (arith, sum_by_push (λ x. weight (look t.nodes) (level_of t) x.node) rest w, weight_positive (look t.nodes) (level_of t) w.node)

  less_inner : (rest : List Waiting) (w : Waiting) (cs : List Child) (parts : List Waiting) → AreParts q (filter (λ c. meets c.rect q) cs) parts → weight (look t.nodes) (level_of t) w.node ≡ 1 + sum_by (λ c. weight (look t.nodes) (level_of t) c.node) cs → left (rest ++ reverse parts) < left (rest ++ w ∷ [])
  less_inner rest w cs parts h heavy =
      omega (
        arith,
        heavy,
        sum_by_push (λ x. weight (look t.nodes) (level_of t) x.node) rest w,
        sum_by-append (λ x. weight (look t.nodes) (level_of t) x.node) rest (reverse parts),
        sum_by-IsPermutation (λ x. weight (look t.nodes) (level_of t) x.node) _ _ (IsPermutation-reverse parts),
        parts_weigh _ _ h,
        sum_filter (λ c. meets c.rect q) (λ c. weight (look t.nodes) (level_of t) c.node) cs,
      )

  heavy_inner : (s : Spot) → IsReady t q s → (cs : List Child) → look t.nodes s.number ≡ Some (Inner cs) → weight (look t.nodes) (level_of t) s.number ≡ 1 + sum_by (λ c. weight (look t.nodes) (level_of t) c.node) cs
  heavy_inner s r cs is = by_level s.level r.stands r.low
    where
      by_level : (level : ℕ) → Stands (look t.nodes) level s.number → level ≤ level_of t → weight (look t.nodes) (level_of t) s.number ≡ 1 + sum_by (λ c. weight (look t.nodes) (level_of t) c.node) cs
      by_level zero h low = absurd (subst IsLeaf is h)
      by_level (suc level) h low = weight_inner (look t.nodes) level (level_of t) s.number cs h low (ap children_in is)

  pub record Turned (before pending : List Waiting) (found : List ℕ) : Type 0 where
    pub walks : Walks t q pending found
    pub less : left pending < left before

  -- the last of those that wait is looked at
  module _ (rest : List Waiting) (w : Waiting) (found found' : List ℕ) (pending' : List Waiting) (walk : Walks t q (rest ++ w ∷ []) found) where
    at_spot : (s : Spot) (ss : List Spot) → walk.spots ≡ s ∷ ss → IsWaiting t q w s → AreWaiting t q (reverse rest) ss → (o : Option Node) → look t.nodes w.node ≡ o → IsVisited o q w found found' rest pending' → Turned (rest ++ w ∷ []) pending' found'
    at_spot s ss es h later None is v = absurd (opens_something t q w s h (ap (look t.nodes) (sym h.named) ∙ is))
    at_spot s ss es h later (Some (Leaf entries)) is v =
        let opens = open_leaf t q w s h entries (ap (look t.nodes) (sym h.named) ∙ is) in
        let gone : rest ++ reverse [] ≡ pending' = append-nil rest ∙ sym v.1 in
        record {
          walks = subst (λ (ws : List Waiting). Walks t q ws found') gone
              (turn_yes t q rest w s ss (Unit {0}) [] [] opens tt found found' walk.pairs later
              (subst (λ (xs : List Spot). looked t q walk.pairs ++ flat_map (seen_at t q) xs ≡ nodes_meeting t q) es walk.all_seen) walk.found_is walk.sound
              (λ n k. walk.below n (subst (λ (xs : List Spot). AnyBelow t q xs n) (sym es) k))
              (λ n m. subst (λ (xs : List Spot). Among n found ⊎ AnyBelow t q xs n) es (walk.complete n m))
              (v.0 ∙ ap (λ (k : ℕ). found ++ k ∷ []) h.named) tt);
          less = subst (λ (ws : List Waiting). left ws < left (rest ++ w ∷ [])) (sym v.1) (less_leaf rest w);
        }
    at_spot s ss es h later (Some (Inner cs)) is v =
        let o = open_inner t q w s h cs (ap (look t.nodes) (sym h.named) ∙ is) in
        let parts = v.1.parts in
        let waits = o.waiting parts v.1.are_parts in
        let heavy = ap (weight (look t.nodes) (level_of t)) h.named ∙ heavy_inner s h.ready cs (ap (look t.nodes) (sym h.named) ∙ is) in
        let seen = subst (λ (xs : List Spot). looked t q walk.pairs ++ flat_map (seen_at t q) xs ≡ nodes_meeting t q) es walk.all_seen in
        let walked : Walks t q (rest ++ reverse parts) found' = elim v.0 [
          | inl j ↦ turn_yes t q rest w s ss _ o.inside parts o.opens waits found found' walk.pairs later seen walk.found_is walk.sound (λ n k. walk.below n (subst (λ (xs : List Spot). AnyBelow t q xs n) (sym es) k)) (λ n m. subst (λ (xs : List Spot). Among n found ⊎ AnyBelow t q xs n) es (walk.complete n m)) (j.0 ∙ ap (λ (k : ℕ). found ++ k ∷ []) h.named) j.1
          | inr j ↦ turn_no t q rest w s ss _ o.inside parts o.opens waits found found' walk.pairs later seen walk.found_is walk.sound (λ n k. walk.below n (subst (λ (xs : List Spot). AnyBelow t q xs n) (sym es) k)) (λ n m. subst (λ (xs : List Spot). Among n found ⊎ AnyBelow t q xs n) es (walk.complete n m)) j.0 j.1
        ] in
        record {
          walks = subst (λ (ws : List Waiting). Walks t q ws found') (sym v.1.added) walked;
          less = subst (λ (ws : List Waiting). left ws < left (rest ++ w ∷ [])) (sym v.1.added) (less_inner rest w cs parts v.1.are_parts heavy);
        }

    turned : IsVisited (look t.nodes w.node) q w found found' rest pending' → Turned (rest ++ w ∷ []) pending' found'
    turned v = by_spots walk.spots refl (subst (λ (ws : List Waiting). AreWaiting t q ws walk.spots) (reverse-append rest (w ∷ [])) walk.waiting)
      where
        by_spots : (xs : List Spot) → walk.spots ≡ xs → AreWaiting t q (w ∷ reverse rest) xs → Turned (rest ++ w ∷ []) pending' found'
        by_spots [] es h = absurd h
        by_spots (s ∷ ss) es h = at_spot s ss es h.0 h.1 (look t.nodes w.node) refl v

  pub turn : (before rest pending' : List Waiting) (w : Waiting) (found found' : List ℕ) → Walks t q before found → before ≡ rest ++ w ∷ [] → IsVisited (look t.nodes w.node) q w found found' rest pending' → Turned before pending' found'
  turn before rest pending' w found found' walk e v = subst (λ (ws : List Waiting). Turned ws pending' found') (sym e) (turned rest w found found' pending' (subst (λ (ws : List Waiting). Walks t q ws found) e walk) v)

  -- nothing waits any more
  nothing_left : (found : List ℕ) → Walks t q [] found → (n : ℕ) → Among n found ⊎ AnyBelow t q [] n → Among n found
  nothing_left found walk n (inl a) = a
  nothing_left found walk n (inr b) = absurd b

  no_spots : (ss : List Spot) → AreWaiting t q (reverse []) ss → ss ≡ []
  no_spots [] h = refl
  no_spots (s ∷ ss) h = absurd h

  found_exact : (found : List ℕ) → Walks t q [] found → (n : ℕ) → Among n found ↔ IsMeeting (granules t) q n
  found_exact found walk n =
      let none = no_spots walk.spots walk.waiting in
      (walk.sound n, λ m. nothing_left found walk n (subst (λ (xs : List Spot). Among n found ⊎ AnyBelow t q xs n) none (walk.complete n m)))

  found_distinct : (found : List ℕ) → IsValid t → Walks t q [] found → IsDistinct nat_eq found
  unfolding nodes_meeting
  found_distinct found v walk =
      let none = no_spots walk.spots walk.waiting in
      let all : looked t q walk.pairs ≡ nodes_meeting t q = sym (append-nil (looked t q walk.pairs)) ∙ subst (λ (xs : List Spot). looked t q walk.pairs ++ flat_map (seen_at t q) xs ≡ nodes_meeting t q) none walk.all_seen in
      let distinct : IsDistinct nat_eq (looked t q walk.pairs) = subst (IsDistinct nat_eq) (sym all) (distinct_filter (λ p. meets p.space q) (λ p. p.number) (places_of t) v.distinct) in
      subst (IsDistinct nat_eq) (sym walk.found_is) (distinct_filter (λ p. p.1) (λ p. p.0) walk.pairs distinct)

self_equal : (k : ℕ) → nat_eq k k ≡ true
self_equal k = grind (arith, nat_tests)

equal_from : (j k : ℕ) → nat_eq j k ≡ true → j ≡ k
equal_from j k e = grind (arith, nat_tests)

-- one of a list of numbers, as a test
any_from_among : (n : ℕ) (xs : List ℕ) → Among n xs → list_any (nat_eq n) xs ≡ true
any_from_among n [] a = absurd a
any_from_among n (x ∷ xs) (inl e) = ap (λ (b : Bool). b || list_any (nat_eq n) xs) (ap (nat_eq n) (sym e) ∙ self_equal n)
any_from_among n (x ∷ xs) (inr a) = either (nat_eq n x) (any_from_among n xs a)
  where
    either : (b : Bool) → list_any (nat_eq n) xs ≡ true → (b || list_any (nat_eq n) xs) ≡ true
    either true h = refl
    either false h = h

among_from_any : (n : ℕ) (xs : List ℕ) → list_any (nat_eq n) xs ≡ true → Among n xs
among_from_any n [] h = cc
among_from_any n (x ∷ xs) h = by_test (nat_eq n x) refl h (among_from_any n xs)
  where
    by_test : (b : Bool) → nat_eq n x ≡ b → (b || list_any (nat_eq n) xs) ≡ true → (list_any (nat_eq n) xs ≡ true → Among n xs) → (n ≡ x) ⊎ Among n xs
    by_test true e h f = inl (equal_from n x e)
    by_test false e h f = inr (f h)

among_permuted : (xs ys : List ℕ) → IsPermutation xs ys → (n : ℕ) → Among n xs ↔ Among n ys
among_permuted xs ys p n =
    let e = list_any-IsPermutation (nat_eq n) xs ys p in
    (λ a. among_from_any n ys (sym e ∙ any_from_among n xs a), λ a. among_from_any n xs (e ∙ any_from_among n ys a))

-- the end of the search
pub finished_exact : (t : Table) (q : Rectangle) (pending : List Waiting) (found sorted : List ℕ) → Walks t q pending found → pending ≡ [] → IsPermutation found sorted → (n : ℕ) → Among n sorted ↔ IsMeeting (granules t) q n
finished_exact t q pending found sorted walk none p n =
    let e = found_exact t q found (subst (λ (ws : List Waiting). Walks t q ws found) none walk) n in
    let f = among_permuted found sorted p n in
    (λ a. e.0 (f.1 a), λ m. f.0 (e.1 m))

pub finished_ascends : (t : Table) (q : Rectangle) (pending : List Waiting) (found sorted : List ℕ) → IsValid t → Walks t q pending found → pending ≡ [] → IsPermutation found sorted → IsSorted nat_cmp sorted → IsStrictlyIncreasing sorted
finished_ascends t q pending found sorted v walk none p s =
    IsStrictlyIncreasing-from_distinct sorted (IsNonDecreasingBy-from_sort (λ n. n) sorted s)
    (IsDistinct-IsPermutation nat_eq nat_eq_equiv.symm found sorted p (found_distinct t q found v (subst (λ (ws : List Waiting). Walks t q ws found) none walk)))
