-- What is lost, gained and reached, from what was computed of it.
use Rattle.std.proofs.Common.{◌≡◌, ℕ, Bool, true, false, ◌&&◌, not, ◌↔◌, List, ◌++◌, Option, Some, None, refl, sym, ap, ◌∙◌, subst, inl, inr, ◌⊎◌}
use Rattle.std.specs.List.{list_any}
use Rattle.std.specs.Option.{option_to_list, option_map}
use Rattle.sp_rect.specs.Plane.{Rectangle, Point, holds}
use Rattle.sp_region.specs.Region.{covered, is_left}
use Rattle.sp_region.proofs.Points.{both_pass, each_passes}
use Rattle.sp_node.specs.Among.{Among}
use Rattle.sp_node.specs.Table.{Table, IsValid}
use Rattle.sp_node.proofs.Among.{among_left, among_right, among_split}
use Rattle.sp_granule.specs.Granules.{Granule, granules, numbered, in_granule}
use Rattle.sp_protection.specs.Reshape.{Loses, IsGone, Gives, IsGained, IsSource, IsReached}
use Rattle.sp_needs.specs.declared.area.Area.{Area}
use Rattle.sp_needs.specs.Areas.{area_of, area_at}
use Rattle.sp_needs.specs.Affected.{IsKept, IsLost, IsGiver, AreThose, is_leaf_with, leaf_has, gains, AreSourcesFor, HasLeftOfAny}
use Rattle.sp_needs.proofs.Membership.{any_from, some_passes, clash}
use Rattle.sp_needs.proofs.Granules.{found_among, leaf_has_is, space_has}
use Rattle.sp_needs.proofs.Losing.{area_some, by_number, not_true, true_not}

-- a leaf with the point
pub leaf_found : (gs : List Granule) (p : Point) (n : ℕ) → leaf_has gs p n ≡ true → (g : Granule) × (numbered gs n ≡ Some g) × (g.is_leaf ≡ true) × (in_granule g p ≡ true)
leaf_found gs p n h = by_case (numbered gs n) h
  where
    by_case : (o : Option Granule) → is_leaf_with p o ≡ true → (g : Granule) × (o ≡ Some g) × (g.is_leaf ≡ true) × (in_granule g p ≡ true)
    by_case None h = cc
    by_case (Some g) h = let k = each_passes g.is_leaf (in_granule g p) h in (g, refl, k.0, k.1)

one_some : (o : Option Granule) (g h : Granule) → o ≡ Some g → o ≡ Some h → g ≡ h
one_some o g h e f = cc

in_list : (o : Option ℕ) (n : ℕ) → Among n (option_to_list o) → o ≡ Some n
in_list None n a = absurd a
in_list (Some k) n (inl e) = ap (λ (j : ℕ). Some j) (sym e)
in_list (Some k) n (inr b) = absurd b

to_list : (o : Option ℕ) (n : ℕ) → o ≡ Some n → Among n (option_to_list o)
to_list None n e = cc
to_list (Some k) n e = let same : k ≡ n = cc in inl (sym same)

module _ (t : Table) (v : IsValid t) where
  -- a leaf has its points by its number
  pub leaf_at : (p : Point) (g : Granule) (n : ℕ) → Among g (granules t) → g.is_leaf ≡ true → g.number ≡ n → leaf_has (granules t) p n ≡ in_granule g p
  leaf_at p g n a l e = ap (is_leaf_with p) (by_number t v n g a e) ∙ ap (λ (b : Bool). b && in_granule g p) l

module _ (t t' : Table) (v : IsValid t) (v' : IsValid t') (numbers : List ℕ) (differ : (n : ℕ) → IsKept (granules t) (granules t') n ⊎ Among n numbers) where
  abbrev gs : List Granule
  gs = granules t

  abbrev gs' : List Granule
  gs' = granules t'

  -- what is lost differs
  kept_not_lost : (n : ℕ) → IsLost gs gs' n → IsKept gs gs' n → ⊥
  kept_not_lost n h e =
      let there : area_at gs' n ≡ Some (area_of h.granule) = e.0 ∙ ap (option_map area_of) (by_number t v n h.granule h.among h.named) in
      let s = area_some gs' n (area_of h.granule) there in
      elim h.is [
        | inl x ↦
            let same : x.after ≡ s.0 = one_some (numbered gs' n) x.after s.0 (by_number t' v' n x.after x.among (x.same ∙ h.named)) s.1 in
            let has : in_granule s.0 x.point ≡ true = ap (λ (a : Area). is_left a.space a.holes x.point) (sym s.2) ∙ x.had in
            clash (in_granule s.0 x.point) has (subst (λ (g : Granule). in_granule g x.point ≡ false) same x.lost)
        | inr x ↦ let f = found_among gs' n s.0 s.1 in x s.0 f.0 (f.1 ∙ sym h.named)
      ]

  pub lost_is : (lost : List ℕ) → AreThose (IsLost gs gs') numbers lost → (n : ℕ) → Among n lost ↔ IsLost gs gs' n
  lost_is lost h n = (
    λ a. ((h n).0 a).1,
    λ l. (h n).1 (elim (differ n) [ inl e ↦ absurd (kept_not_lost n l e) | inr a ↦ a ], l),
  )

  -- what leaves gain
  abbrev AnyGains : Point → Type 0
  AnyGains p = (after : Granule) × Among after gs' × (after.is_leaf ≡ true) × IsGained gs after p

  pub gained_is : (p : Point) → (list_any (gains gs gs' p) numbers ≡ true) ↔ AnyGains p
  gained_is p = (forth, back)
    where
      forth : list_any (gains gs gs' p) numbers ≡ true → AnyGains p
      forth h =
          let s = some_passes (gains gs gs' p) numbers h in
          let k = each_passes (leaf_has gs' p s.0) (not (leaf_has gs p s.0)) s.2 in
          let f = leaf_found gs' p s.0 k.0 in
          let a = found_among gs' s.0 f.0 f.1 in
          (f.0, a.0, f.2, (f.3, λ g b l e. sym (leaf_at t v p g s.0 b l (e ∙ a.1)) ∙ not_true (leaf_has gs p s.0) k.1))

      back : AnyGains p → list_any (gains gs gs' p) numbers ≡ true
      back h = by_kind (differ n)
        where
          n : ℕ
          n = h.0.number

          has_now : leaf_has gs' p n ≡ true
          has_now = leaf_at t' v' p h.0 n h.1 h.2 refl ∙ h.3.0

          had_not : (b : Bool) → leaf_has gs p n ≡ b → leaf_has gs p n ≡ false
          had_not false e = e
          had_not true e =
              let f = leaf_found gs p n e in
              let a = found_among gs n f.0 f.1 in
              absurd (clash (in_granule f.0 p) f.3 (h.3.1 f.0 a.0 f.2 a.1))

          by_kind : (IsKept gs gs' n ⊎ Among n numbers) → list_any (gains gs gs' p) numbers ≡ true
          by_kind (inl e) = absurd (clash (leaf_has gs p n) (leaf_has_is t v p n ∙ ap (space_has p) (sym e.1) ∙ sym (leaf_has_is t' v' p n) ∙ has_now) (had_not (leaf_has gs p n) refl))
          by_kind (inr a) = any_from (gains gs gs' p) numbers n a (both_pass (leaf_has gs' p n) (not (leaf_has gs p n)) has_now (true_not (leaf_has gs p n) (had_not (leaf_has gs p n) refl)))

  module _ (chosen : Option ℕ) (lost givers : List ℕ) (are_lost : (n : ℕ) → Among n lost ↔ IsLost gs gs' n) (are_givers : (n : ℕ) → Among n givers ↔ IsGiver gs gs' n) where
    abbrev locked : List ℕ
    locked = (lost ++ givers) ++ option_to_list chosen

    -- the point lies in a leaf that is locked anyway
    abbrev InSource : Point → Type 0
    InSource p = (l : Granule) × Among l gs × (in_granule l p ≡ true) × IsSource gs' chosen l

    pub source_is : (p : Point) → (list_any (leaf_has gs p) locked ≡ true) ↔ InSource p
    source_is p = (forth, back)
      where
        forth : list_any (leaf_has gs p) locked ≡ true → InSource p
        forth h =
            let s = some_passes (leaf_has gs p) locked h in
            let f = leaf_found gs p s.0 s.2 in
            let a = found_among gs s.0 f.0 f.1 in (
              f.0,
              a.0,
              f.3,
              (
                f.2,
                elim (among_split s.0 (lost ++ givers) (option_to_list chosen) s.1) [
                  | inl b ↦ elim (among_split s.0 lost givers b) [
                    | inl c ↦
                        let l = (are_lost s.0).0 c in
                        let same : l.granule ≡ f.0 = one_some (numbered gs s.0) l.granule f.0 (by_number t v s.0 l.granule l.among l.named) f.1 in
                        elim l.is [
                          | inl x ↦ inl (subst (Loses gs') same x)
                          | inr x ↦ inr (inl (subst (IsGone gs') same x))
                        ]
                    | inr c ↦
                        let l = (are_givers s.0).0 c in
                        let same : l.granule ≡ f.0 = one_some (numbered gs s.0) l.granule f.0 (by_number t v s.0 l.granule l.among l.named) f.1 in
                        inr (inr (inl (subst (Gives gs') same l.is)))
                  ]
                  | inr b ↦ inr (inr (inr (in_list chosen s.0 b ∙ ap (λ (k : ℕ). Some k) (sym a.1))))
                ],
              ),
            )

        back : InSource p → list_any (leaf_has gs p) locked ≡ true
        back h = any_from (leaf_has gs p) locked h.0.number (among h.3.1) (leaf_at t v p h.0 h.0.number h.1 h.3.0 refl ∙ h.2)
          where
            n : ℕ
            n = h.0.number

            among : (Loses gs' h.0 ⊎ (IsGone gs' h.0 ⊎ (Gives gs' h.0 ⊎ (chosen ≡ Some h.0.number)))) → Among n locked
            among (inl x) = among_left n (lost ++ givers) (option_to_list chosen) (among_left n lost givers ((are_lost n).1 (record { granule = h.0; among = h.1; named = refl; is = inl x })))
            among (inr (inl x)) = among_left n (lost ++ givers) (option_to_list chosen) (among_left n lost givers ((are_lost n).1 (record { granule = h.0; among = h.1; named = refl; is = inr x })))
            among (inr (inr (inl x))) = among_left n (lost ++ givers) (option_to_list chosen) (among_right n lost givers ((are_givers n).1 (record { granule = h.0; among = h.1; named = refl; is_leaf = h.3.0; is = x })))
            among (inr (inr (inr e))) = among_right n (lost ++ givers) (option_to_list chosen) (to_list chosen n e)

    -- what is reached
    module _ (sources gains_of : List Rectangle) (are_sources : AreSourcesFor gains_of gs locked sources) (are_gains : (p : Point) → covered gains_of p ≡ list_any (gains gs gs' p) numbers) where
      pub reached_from : (n : ℕ) → HasLeftOfAny gs sources gains_of n → (g : Granule) × Among g gs × (g.number ≡ n) × IsReached gs gs' chosen g
      reached_from n h =
          let p = h.2.0 in
          let k = each_passes (holds h.0 p) (not (covered sources p)) h.2.1 in
          let g = h.2.2 in
          let gain = (gained_is p).0 (sym (are_gains p) ∙ any_from (λ (r : Rectangle). holds r p) gains_of h.0 h.1 k.0) in (
            g.0,
            g.1,
            g.2,
            record {
              after = gain.0;
              among = gain.1;
              is_leaf = gain.2;
              point = p;
              gained = gain.3;
              had = g.3;
              no_source = λ l a b s. clash (covered sources p) (are_sources h.0 h.1 p ∙ (source_is p).1 (l, a, b, s)) (not_true (covered sources p) k.1);
            },
          )

      pub reached_to : (n : ℕ) (g : Granule) → Among g gs → g.number ≡ n → IsReached gs gs' chosen g → HasLeftOfAny gs sources gains_of n
      reached_to n g a e h =
          let p = h.point in
          let s = some_passes (λ (r : Rectangle). holds r p) gains_of (are_gains p ∙ (gained_is p).1 (h.after, h.among, h.is_leaf, h.gained)) in
          (s.0, s.1, (p, both_pass (holds s.0 p) (not (covered sources p)) s.2 (true_not (covered sources p) (free s.0 s.1 (covered sources p) refl)), (g, a, e, h.had)))
        where
          free : (gain : Rectangle) → Among gain gains_of → (b : Bool) → covered sources h.point ≡ b → covered sources h.point ≡ false
          free gain among false f = f
          free gain among true f = let l = (source_is h.point).0 (sym (are_sources gain among h.point) ∙ f) in absurd (h.no_source l.0 l.1 l.2 l.3)
