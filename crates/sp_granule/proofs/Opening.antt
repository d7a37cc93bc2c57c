-- What one node opens to the search: its own granule, and the children that the rectangle meets.
use Rattle.std.proofs.Common.{◌≡◌, ℕ, zero, suc, ◌≤◌, Bool, true, false, cond, ◌&&◌, not, IsTrue, List, [], ◌∷◌, ◌++◌, map, Some, None, refl, sym, ap, ◌∙◌, subst, inl, inr, ◌⊎◌, arith}
use Rattle.std.specs.List.{AllByRecursion, flat_map, filter}
use Rattle.std.proofs.lemmas.Int.{ints}
use Rattle.std.proofs.lemmas.List.{map-append}
use Rattle.std.proofs.lemmas.List.Folds.{flat_map-map}
use Rattle.sp_rect.specs.Plane.{Rectangle, IsRectangle, Point, point, holds, meets}
use Rattle.sp_rect.specs.Inside.{bound_of, inside_bound_of, meets-from_Overlap}
use Rattle.sp_region.specs.Region.{covered, is_left, LeavesAny}
use Rattle.sp_region.proofs.Points.{Holds-from_test, both_pass, each_passes, corner}
use Rattle.sp_node.specs.Among.{Among}
use Rattle.sp_node.specs.declared.node.Entry.{Entry}
use Rattle.sp_node.specs.declared.node.Child.{Child}
use Rattle.sp_node.specs.declared.node.Node.TheVariants.{Leaf, Inner}
use Rattle.sp_node.specs.Look.{look}
use Rattle.sp_node.specs.Nested.{Body, Branch, Place, places, rects, AreSound}
use Rattle.sp_node.specs.Table.{Table, body_at, level_of, Stands, IsLeaf, IsInner, children_in}
use Rattle.sp_node.proofs.Among.{among_left, among_right, among_split}
use Rattle.sp_node.proofs.Lists.{filter-map, all_filter, all_imply, all_both, all_map, all_unmap}
use Rattle.sp_node.proofs.Descent.{Spot, IsReady, seen, seen_at, seen_inner, quiet}
use Rattle.sp_granule.specs.declared.meeting.Waiting.{Waiting}
use Rattle.sp_granule.specs.Granules.{Granule, granule, granule_of_node, in_granule, IsMeeting}
use Rattle.sp_granule.specs.Visit.{AreParts}
use Rattle.sp_granule.proofs.Covering.{granules_under, granules_below}
use Rattle.sp_granule.proofs.Numbered.{space_kept}
use Rattle.sp_granule.proofs.Walk.{AnyBelow, IsWaiting, AreWaiting, Opens}

-- two rectangles with a common point meet
common_meets : (a b : Rectangle) (p : Point) → IsTrue (holds a p) → IsTrue (holds b p) → meets a b ≡ true
common_meets a b p h k =
    let x = Holds-from_test a p h in
    let y = Holds-from_test b p k in
    meets-from_Overlap a b (record { left = omega (arith, ints); right = omega (arith, ints); lower = omega (arith, ints); upper = omega (arith, ints) })

-- a granule with a point of q has a space that meets q
module _ (q : Rectangle) where
  seen_among : (ps : List Place) (g : Granule) (p : Point) → Among g (map granule ps) → IsTrue (holds q p) → IsTrue (holds g.space p) → map (λ (r : Place). r.number) (filter (λ r. meets r.space q) ps) ≡ [] → ⊥
  seen_among [] g p a h k e = a
  seen_among (r ∷ ps) g p a h k e = by_test (meets r.space q) refl a e (λ b f. seen_among ps g p b h k f)
    where
      here : g ≡ granule r → meets r.space q ≡ true
      here s = common_meets r.space q p (subst (λ (x : Rectangle). IsTrue (holds x p)) (ap (λ (x : Granule). x.space) s ∙ space_kept r) k) h

      by_test : (b : Bool) → meets r.space q ≡ b → (g ≡ granule r) ⊎ Among g (map granule ps) → map (λ (r : Place). r.number) (cond b (r ∷ filter (λ r. meets r.space q) ps) (filter (λ r. meets r.space q) ps)) ≡ [] → (Among g (map granule ps) → map (λ (r : Place). r.number) (filter (λ r. meets r.space q) ps) ≡ [] → ⊥) → ⊥
      by_test true m c e f = cc
      by_test false m (inl s) e f = let y = here s in cc
      by_test false m (inr b) e f = f b e

module _ (t : Table) (q : Rectangle) where
  -- the spot of a child, and its branch
  abbrev spot_of : ℕ → Child → Spot
  spot_of level c = record { number = c.node; space = c.rect; level = level }

  abbrev branch_of : (level : ℕ) → Child → Branch (Body level)
  branch_of level c = record { rect = c.rect; number = c.node; body = body_at (look t.nodes) level c.node }

  abbrev IsSound : ℕ → Child → Type 0
  IsSound level c = (bound_of (rects level (body_at (look t.nodes) level c.node)) ≡ Some c.rect) × AreSound t.shape level (body_at (look t.nodes) level c.node)

  module _ (level : ℕ) where
    split : (c : Child) (cs : List Child) → granules_below level (map (branch_of level) (c ∷ cs)) ≡ granules_under level c.node c.rect (body_at (look t.nodes) level c.node) ++ granules_below level (map (branch_of level) cs)
    split c cs = map-append granule (places level c.node c.rect (body_at (look t.nodes) level c.node)) (flat_map (λ (b : Branch (Body level)). places level b.number b.rect b.body) (map (branch_of level) cs))

    -- a granule of the children's with a point of q stands at or below a child that meets q
    to_children : (cs : List Child) → AllByRecursion (IsSound level) cs → (g : Granule) (p : Point) → Among g (granules_below level (map (branch_of level) cs)) → IsTrue (holds q p) → IsTrue (in_granule g p) → AnyBelow t q (map (spot_of level) (filter (λ c. meets c.rect q) cs)) g.number
    to_children [] sound g p a hq hin = a
    to_children (c ∷ cs) sound g p a hq hin = by_test (meets c.rect q) refl (among_split g (granules_under level c.node c.rect (body_at (look t.nodes) level c.node)) (granules_below level (map (branch_of level) cs)) (subst (Among g) (split c cs) a)) (to_children cs sound.1 g p)
      where
        by_test :
            (b : Bool) → meets c.rect q ≡ b → Among g (granules_under level c.node c.rect (body_at (look t.nodes) level c.node)) ⊎ Among g (granules_below level (map (branch_of level) cs))
            → (Among g (granules_below level (map (branch_of level) cs)) → IsTrue (holds q p) → IsTrue (in_granule g p) → AnyBelow t q (map (spot_of level) (filter (λ c. meets c.rect q) cs)) g.number)
            → AnyBelow t q (map (spot_of level) (cond b (c ∷ filter (λ c. meets c.rect q) cs) (filter (λ c. meets c.rect q) cs))) g.number
        by_test true e (inl k) f = inl (p, hq, (g, k, refl, hin))
        by_test true e (inr k) f = inr (f k hq hin)
        by_test false e (inr k) f = f k hq hin
        by_test false e (inl k) f =
            let none = (quiet t.shape q level c.node c.rect (body_at (look t.nodes) level c.node) (inside_bound_of (rects level (body_at (look t.nodes) level c.node)) c.rect sound.0.0) sound.0.1 e).0 in
            absurd (seen_among q (places level c.node c.rect (body_at (look t.nodes) level c.node)) g p k hq (each_passes (holds g.space p) (not (covered g.holes p)) hin).0 none)

    from_children : (cs : List Child) (n : ℕ) → AnyBelow t q (map (spot_of level) (filter (λ c. meets c.rect q) cs)) n → IsMeeting (granules_below level (map (branch_of level) cs)) q n
    from_children [] n h = absurd h
    from_children (c ∷ cs) n h = by_test (meets c.rect q) h (from_children cs n)
      where
        last : IsMeeting (granules_below level (map (branch_of level) cs)) q n → IsMeeting (granules_below level (map (branch_of level) (c ∷ cs))) q n
        last m = (m.0, m.1, (m.2.0, subst (Among m.2.0) (sym (split c cs)) (among_right m.2.0 (granules_under level c.node c.rect (body_at (look t.nodes) level c.node)) (granules_below level (map (branch_of level) cs)) m.2.1), m.2.2, m.2.3))

        by_test : (b : Bool) → AnyBelow t q (map (spot_of level) (cond b (c ∷ filter (λ c. meets c.rect q) cs) (filter (λ c. meets c.rect q) cs))) n → (AnyBelow t q (map (spot_of level) (filter (λ c. meets c.rect q) cs)) n → IsMeeting (granules_below level (map (branch_of level) cs)) q n) → IsMeeting (granules_below level (map (branch_of level) (c ∷ cs))) q n
        by_test true (inl m) f = (m.0, m.1, (m.2.0, subst (Among m.2.0) (sym (split c cs)) (among_left m.2.0 (granules_under level c.node c.rect (body_at (look t.nodes) level c.node)) (granules_below level (map (branch_of level) cs)) m.2.1), m.2.2, m.2.3))
        by_test true (inr k) f = last (f k)
        by_test false k f = last (f k)

  -- a leaf opens its own granule alone
  open_leaf_at : (level number : ℕ) (space : Rectangle) (es : List Entry) (part : Rectangle) → look t.nodes number ≡ Some (Leaf es) → Stands (look t.nodes) level number → meets space q ≡ true → IsRectangle part → ((p : Point) → holds part p ≡ (holds space p && holds q p)) → Opens t q (record { number = number; space = space; level = level }) (Unit {0}) []
  open_leaf_at (suc level) number space es part is stands m v f = absurd (subst IsInner is stands.0)
  open_leaf_at zero number space es part is stands m v f = record {
    splits = splits;
    own = λ u. own;
    from_inside = λ n h. absurd h;
    sees = ap (λ (b : Bool). map (λ (p : Place). p.number) (cond b (record { number = number; space = space; level = 0; body = body_at (look t.nodes) 0 number } ∷ []) [])) m;
  }
    where
      splits : (n : ℕ) → IsMeeting (granules_under 0 number space (body_at (look t.nodes) 0 number)) q n → ((n ≡ number) × Unit {0}) ⊎ ⊥
      splits n m = elim m.2.1 [
        | inl e ↦ inl (sym m.2.2 ∙ ap (λ (g : Granule). g.number) e, tt)
        | inr b ↦ absurd b
      ]

      own : IsMeeting (granules_under 0 number space (body_at (look t.nodes) 0 number)) q number
      own =
          let p : Point = point part.x1 part.y1 in
          let h = each_passes (holds space p) (holds q p) (sym (f p) ∙ corner part v) in
          (p, h.1, (granule_of_node 0 number space (body_at (look t.nodes) 0 number), inl refl, refl, both_pass (holds space p) true h.0 refl))

  rects_same : (level : ℕ) (cs : List Child) → map (λ b. b.rect) (map (branch_of level) cs) ≡ map (λ c. c.rect) cs
  rects_same level [] = refl
  rects_same level (c ∷ cs) = ap (λ rs. c.rect ∷ rs) (rects_same level cs)

  -- what an inner node opens
  pub record OpensInner (s : Spot) (cs : List Child) (part : Rectangle) : Type 0 where
    pub inside : List Spot
    pub opens : Opens t q s (LeavesAny part (map (λ c. c.rect) cs)) inside
    pub waiting : (parts : List Waiting) → AreParts q (filter (λ c. meets c.rect q) cs) parts → AreWaiting t q parts inside

  parts_wait : (level : ℕ) (cs : List Child) (parts : List Waiting) → AreParts q cs parts → AllByRecursion (IsReady t q) (map (spot_of level) cs) → AreWaiting t q parts (map (spot_of level) cs)
  parts_wait level [] [] h r = tt
  parts_wait level [] (w ∷ ws) h r = h
  parts_wait level (c ∷ cs) [] h r = h
  parts_wait level (c ∷ cs) (w ∷ ws) h r = (record { named = h.0.named; valid = h.0.valid; points = h.0.points; ready = r.0 }, parts_wait level cs ws h.1 r.1)

  -- the points of the part that the children leave are those of q in the granule
  module _ (space part : Rectangle) (holes : List Rectangle) (f : (p : Point) → holds part p ≡ (holds space p && holds q p)) where
    left_in_part : (p : Point) → IsTrue (holds q p) → IsTrue (is_left space holes p) → IsTrue (is_left part holes p)
    left_in_part p hq h = let e = each_passes (holds space p) (not (covered holes p)) h in both_pass (holds part p) (not (covered holes p)) (f p ∙ both_pass (holds space p) (holds q p) e.0 hq) e.1

    left_of_space : (p : Point) → IsTrue (is_left part holes p) → IsTrue (holds q p) × IsTrue (is_left space holes p)
    left_of_space p h =
        let e = each_passes (holds part p) (not (covered holes p)) h in
        let k = each_passes (holds space p) (holds q p) (sym (f p) ∙ e.0) in
        (k.1, both_pass (holds space p) (not (covered holes p)) k.0 e.1)

  -- the children of an inner node that stands under the number
  module _ (level number : ℕ) (space part : Rectangle) (stands : Stands (look t.nodes) (suc level) number) (sound : AreSound t.shape (suc level) (body_at (look t.nodes) (suc level) number)) (low : suc level ≤ level_of t) (m : meets space q ≡ true) (f : (p : Point) → holds part p ≡ (holds space p && holds q p)) where
    abbrev cs : List Child
    cs = children_in (look t.nodes number)

    abbrev met : List Child
    met = filter (λ c. meets c.rect q) (children_in (look t.nodes number))

    each_sound : AllByRecursion (IsSound level) cs
    each_sound = all_imply {Q = IsSound level} (λ c h. (h.0, h.3)) cs (all_unmap _ (branch_of level) cs sound)

    ready : AllByRecursion (IsReady t q) (map (spot_of level) met)
    ready =
        all_map (IsReady t q) (spot_of level) met
        (all_imply {Q = λ c. IsReady t q (spot_of level c)} (λ c h. record { stands = h.0.0; sound = h.0.1.3; meets_q = h.1; low = omega (arith, low) }) met (all_filter _ (λ c. meets c.rect q) cs (all_both _ _ cs stands.1 (all_unmap _ (branch_of level) cs sound))))

    splits : (n : ℕ) → IsMeeting (granules_under (suc level) number space (body_at (look t.nodes) (suc level) number)) q n → ((n ≡ number) × LeavesAny part (map (λ c. c.rect) cs)) ⊎ AnyBelow t q (map (spot_of level) met) n
    splits n m = elim m.2.1 [
      | inl e ↦
          let own_left : IsTrue (is_left space (map (λ (c : Child). c.rect) cs) m.0) = subst (λ (rs : List Rectangle). IsTrue (is_left space rs m.0)) (rects_same level cs) (subst (λ (g : Granule). IsTrue (in_granule g m.0)) e m.2.3) in
          inl (sym m.2.2 ∙ ap (λ (g : Granule). g.number) e, (m.0, left_in_part space part (map (λ c. c.rect) cs) f m.0 m.1 own_left))
      | inr a ↦ inr (subst (AnyBelow t q (map (spot_of level) met)) m.2.2 (to_children level cs each_sound m.2.0 m.0 a m.1 m.2.3))
    ]

    own : LeavesAny part (map (λ c. c.rect) cs) → IsMeeting (granules_under (suc level) number space (body_at (look t.nodes) (suc level) number)) q number
    own h =
        let k = left_of_space space part (map (λ c. c.rect) cs) f h.0 h.1 in
        (h.0, k.0, (granule_of_node (suc level) number space (body_at (look t.nodes) (suc level) number), inl refl, refl, subst (λ (rs : List Rectangle). IsTrue (is_left space rs h.0)) (sym (rects_same level cs)) k.1))

    from_inside : (n : ℕ) → AnyBelow t q (map (spot_of level) met) n → IsMeeting (granules_under (suc level) number space (body_at (look t.nodes) (suc level) number)) q n
    from_inside n h = let k = from_children level cs n h in (k.0, k.1, (k.2.0, inr k.2.1, k.2.2, k.2.3))

    sees : seen q (suc level) number space (map (branch_of level) cs) ≡ number ∷ flat_map (seen_at t q) (map (spot_of level) met)
    sees =
        seen_inner t.shape q level (map (branch_of level) cs) sound number space m
        ∙ ap (λ (bs : List (Branch (Body level))). number ∷ flat_map (λ b. seen q level b.number b.rect b.body) bs) (filter-map (λ b. meets b.rect q) (branch_of level) cs)
        ∙ ap (λ (ns : List ℕ). number ∷ ns) (flat_map-map (λ (b : Branch (Body level)). seen q level b.number b.rect b.body) (branch_of level) met ∙ sym (flat_map-map (seen_at t q) (spot_of level) met))

    open_at : OpensInner (record { number = number; space = space; level = suc level }) cs part
    open_at = record {
      inside = map (spot_of level) met;
      opens = record { splits = splits; own = own; from_inside = from_inside; sees = sees };
      waiting = λ parts h. parts_wait level met parts h ready;
    }

  -- for what waits at a spot
  module _ (w : Waiting) (s : Spot) (h : IsWaiting t q w s) where
    pub open_leaf : (es : List Entry) → look t.nodes s.number ≡ Some (Leaf es) → Opens t q s (Unit {0}) []
    open_leaf es is = open_leaf_at s.level s.number s.space es w.part is h.ready.stands h.ready.meets_q h.valid h.points

    pub open_inner : (ds : List Child) → look t.nodes s.number ≡ Some (Inner ds) → OpensInner s ds w.part
    open_inner ds is = subst (λ (ds : List Child). OpensInner s ds w.part) (ap children_in is) (by_level s.level h.ready.stands h.ready.sound h.ready.low)
      where
        by_level : (level : ℕ) → Stands (look t.nodes) level s.number → AreSound t.shape level (body_at (look t.nodes) level s.number) → level ≤ level_of t → OpensInner (record { number = s.number; space = s.space; level = level }) (children_in (look t.nodes s.number)) w.part
        by_level zero stands sound low = absurd (subst IsLeaf is stands)
        by_level (suc level) stands sound low = open_at level s.number s.space w.part stands sound low h.ready.meets_q h.points

    pub opens_something : look t.nodes s.number ≡ None → ⊥
    opens_something is = by_level s.level h.ready.stands
      where
        by_level : (level : ℕ) → Stands (look t.nodes) level s.number → ⊥
        by_level zero stands = subst IsLeaf is stands
        by_level (suc level) stands = subst IsInner is stands.0
