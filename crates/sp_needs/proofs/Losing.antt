-- What areas say of the granules that lose points or are gone, and of those that a rectangle reaches.
use Rattle.std.proofs.Common.{◌≡◌, ℕ, Bool, true, false, not, ◌↔◌, IsTrue, List, Option, Some, None, refl, sym, ap, ◌∙◌, subst, inl, inr, ◌⊎◌}
use Rattle.std.specs.Option.{option_map}
use Rattle.sp_rect.specs.Plane.{Rectangle, holds}
use Rattle.sp_region.specs.Region.{is_left, covered, Exceeds, Overlap}
use Rattle.sp_region.proofs.Points.{both_pass, each_passes}
use Rattle.sp_node.specs.Among.{Among}
use Rattle.sp_node.specs.Table.{Table, IsValid}
use Rattle.sp_granule.specs.Granules.{Granule, granules, numbered, in_granule, IsMeeting}
use Rattle.sp_needs.specs.declared.area.Area.{Area}
use Rattle.sp_needs.specs.Areas.{area_of, area_at}
use Rattle.sp_needs.specs.Affected.{IsLost, HasLeftOf, AreAdded}
use Rattle.sp_needs.proofs.Granules.{found_among, found_by_number}

pub not_true : (b : Bool) → not b ≡ true → b ≡ false
not_true true e = cc
not_true false e = refl

pub true_not : (b : Bool) → b ≡ false → not b ≡ true
true_not true e = cc
true_not false e = refl

-- the granule of an area
pub area_some : (gs : List Granule) (n : ℕ) (a : Area) → area_at gs n ≡ Some a → (g : Granule) × (numbered gs n ≡ Some g) × (a ≡ area_of g)
area_some gs n a e = by_case (numbered gs n) e
  where
    by_case : (o : Option Granule) → option_map area_of o ≡ Some a → (g : Granule) × (o ≡ Some g) × (a ≡ area_of g)
    by_case None h = cc
    by_case (Some g) h = let same : area_of g ≡ a = cc in (g, refl, sym same)

pub area_none : (gs : List Granule) (n : ℕ) → area_at gs n ≡ None → numbered gs n ≡ None
area_none gs n e = by_case (numbered gs n) e
  where
    by_case : (o : Option Granule) → option_map area_of o ≡ None → o ≡ None
    by_case None h = refl
    by_case (Some g) h = cc

apart : (o : Option Granule) (g : Granule) → o ≡ None → o ≡ Some g → ⊥
apart o g e f = cc

same_some : (o : Option Granule) (g h : Granule) → o ≡ Some g → o ≡ Some h → g ≡ h
same_some o g h e f = cc

module _ (t : Table) (v : IsValid t) where
  -- a granule of this number is the one that is found
  pub by_number : (n : ℕ) (g : Granule) → Among g (granules t) → g.number ≡ n → numbered (granules t) n ≡ Some g
  by_number n g a e = ap (numbered (granules t)) (sym e) ∙ found_by_number t v g a

  -- a rectangle reaches none where there is no granule
  pub none_reached : (sources : List Rectangle) (rect : Rectangle) (n : ℕ) → area_at (granules t) n ≡ None → HasLeftOf (granules t) sources rect n → ⊥
  none_reached sources rect n e h = let g = h.2 in apart (numbered (granules t) n) g.0 (area_none (granules t) n e) (by_number n g.0 g.1 g.2)

  -- and else where the areas overlap
  pub reached_is : (sources : List Rectangle) (rect : Rectangle) (n : ℕ) (a : Area) → area_at (granules t) n ≡ Some a → Overlap rect sources a.space a.holes ↔ HasLeftOf (granules t) sources rect n
  reached_is sources rect n a e =
      let s = area_some (granules t) n a e in
      let f = found_among (granules t) n s.0 s.1 in
      subst (λ (a : Area). Overlap rect sources a.space a.holes ↔ HasLeftOf (granules t) sources rect n) (sym s.2) (
        λ o. let k = each_passes (is_left rect sources o.0) (in_granule s.0 o.0) o.1 in (o.0, k.0, (s.0, f.0, f.1, k.1)),
        λ h. let g = h.2 in
            let same : g.0 ≡ s.0 = same_some (numbered (granules t) n) g.0 s.0 (by_number n g.0 g.1 g.2) s.1 in
            (h.0, both_pass (is_left rect sources h.0) (in_granule s.0 h.0) h.1 (subst (λ (x : Granule). IsTrue (in_granule x h.0)) same g.3)),
      )

-- of what meets the rectangle, all that it reaches
pub added_all : (gs : List Granule) (sources : List Rectangle) (rect : Rectangle) (met old new : List ℕ) → ((n : ℕ) → Among n met ↔ IsMeeting gs rect n) → AreAdded (HasLeftOf gs sources rect) met old new → (n : ℕ) → Among n new ↔ (Among n old ⊎ HasLeftOf gs sources rect n)
added_all gs sources rect met old new exact h n = (
  λ a. elim ((h n).0 a) [ inl b ↦ inl b | inr b ↦ inr b.1 ],
  λ a. (h n).1 (elim a [
    | inl b ↦ inl b
    | inr b ↦ inr ((exact n).1 (b.0, (each_passes (holds rect b.0) (not (covered sources b.0)) b.1).0, b.2), b)
  ]),
)

module _ (t t' : Table) (v : IsValid t) (v' : IsValid t') where
  pub none_lost : (n : ℕ) → area_at (granules t) n ≡ None → IsLost (granules t) (granules t') n → ⊥
  none_lost n e h = apart (numbered (granules t) n) h.granule (area_none (granules t) n e) (by_number t v n h.granule h.among h.named)

  pub gone_lost : (n : ℕ) (a : Area) → area_at (granules t) n ≡ Some a → area_at (granules t') n ≡ None → IsLost (granules t) (granules t') n
  gone_lost n a e f =
      let s = area_some (granules t) n a e in
      let k = found_among (granules t) n s.0 s.1 in
      record {
        granule = s.0;
        among = k.0;
        named = k.1;
        is = inr (λ after b same. apart (numbered (granules t') n) after (area_none (granules t') n f) (by_number t' v' n after b (same ∙ k.1)));
      }

  -- where both trees have it, the area of the first exceeds that of the second
  pub exceeds_is : (n : ℕ) (a b : Area) → area_at (granules t) n ≡ Some a → area_at (granules t') n ≡ Some b → Exceeds a.space a.holes b.space b.holes ↔ IsLost (granules t) (granules t') n
  exceeds_is n a b e f =
      let s = area_some (granules t) n a e in
      let r = area_some (granules t') n b f in
      let k = found_among (granules t) n s.0 s.1 in
      let l = found_among (granules t') n r.0 r.1 in
      subst (λ (a : Area). Exceeds a.space a.holes b.space b.holes ↔ IsLost (granules t) (granules t') n) (sym s.2)
      (subst (λ (b : Area). Exceeds s.0.space s.0.holes b.space b.holes ↔ IsLost (granules t) (granules t') n) (sym r.2) (
        λ x. let m = each_passes (in_granule s.0 x.0) (not (in_granule r.0 x.0)) x.1 in
            record { granule = s.0; among = k.0; named = k.1; is = inl (record { after = r.0; among = l.0; same = l.1 ∙ sym k.1; point = x.0; had = m.0; lost = not_true (in_granule r.0 x.0) m.1 }) },
        λ h. let same : h.granule ≡ s.0 = same_some (numbered (granules t) n) h.granule s.0 (by_number t v n h.granule h.among h.named) s.1 in
            elim h.is [
              | inl x ↦
                  let there : x.after ≡ r.0 = same_some (numbered (granules t') n) x.after r.0 (by_number t' v' n x.after x.among (x.same ∙ h.named)) r.1 in
                  (x.point, both_pass (in_granule s.0 x.point) (not (in_granule r.0 x.point)) (subst (λ (y : Granule). in_granule y x.point ≡ true) same x.had) (true_not (in_granule r.0 x.point) (subst (λ (y : Granule). in_granule y x.point ≡ false) there x.lost)))
              | inr x ↦ absurd (x r.0 l.0 (l.1 ∙ sym h.named))
            ],
      ))
