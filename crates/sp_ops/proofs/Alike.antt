-- Granules that a change leaves as they are.
use Rattle.std.proofs.Common.{◌≡◌, ◌≢◌, ℕ, ◌+◌, ◌<◌, Bool, true, false, not, ◌↔◌, IsTrue, List, [], ◌∷◌, length, take, get_or, Option, Some, None, refl, sym, ap, ◌∙◌, subst, inl, inr, ◌⊎◌}
use Rattle.std.specs.Prelude.{is_none, MatchBool}
use Rattle.std.specs.Bool.{beq}
use Rattle.std.proofs.lemmas.List.{take_more}
use Rattle.sp_rect.specs.Plane.{Point}
use Rattle.sp_region.specs.Region.{is_left, Exceeds}
use Rattle.sp_region.proofs.Points.{both_pass, each_passes}
use Rattle.sp_node.specs.declared.node.Node.{Node}
use Rattle.sp_node.specs.Among.{Among}
use Rattle.sp_node.specs.Look.{look}
use Rattle.sp_node.specs.Table.{Table, IsValid}
use Rattle.sp_node.proofs.Among.{among_split}
use Rattle.sp_granule.specs.Granules.{Granule, granules, numbered}
use Rattle.sp_protection.specs.Guarding.{IsSame, AreSame}
use Rattle.sp_ops.specs.declared.areas.Area.{Area}
use Rattle.sp_ops.specs.Changes.{area_of, area_at, AreAlike, IsKept}
use Rattle.sp_ops.proofs.ByNumber.{found_among, found_by_number, granule_at, area_some, area_none, numbered_none}

not_true : (b : Bool) → not b ≡ true → b ≡ false
not_true true e = cc
not_true false e = refl

true_not : (b : Bool) → b ≡ false → not b ≡ true
true_not true e = cc
true_not false e = refl

clash : (b : Bool) → b ≡ true → b ≡ false → ⊥
clash b e f = cc

no : false ≡ true → ⊥
no e = cc

pub same_flag : (a b : Bool) → not (beq a b) ≡ false → a ≡ b
same_flag true true e = refl
same_flag true false e = cc
same_flag false true e = cc
same_flag false false e = refl

pub not_passed : (b : Bool) → b ≡ false → IsTrue b → ⊥
not_passed b e f = cc

module _ (a b : Area) where
  -- of different kinds
  pub other_kind : a.is_leaf ≢ b.is_leaf → IsTrue false ↔ AreAlike a b
  other_kind apart = (λ e. absurd (no e), λ h. absurd (apart h.is_leaf))

  -- one has a point that the other lacks
  pub has_more : Exceeds a.space a.holes b.space b.holes → IsTrue false ↔ AreAlike a b
  has_more x = (
    λ e. absurd (no e),
    λ h.
        let k = each_passes (is_left a.space a.holes x.0) (not (is_left b.space b.holes x.0)) x.1 in
        absurd (clash (is_left b.space b.holes x.0) (sym (h.points x.0) ∙ k.0) (not_true _ k.1)),
  )

  same_points : (Exceeds a.space a.holes b.space b.holes → ⊥) → (Exceeds b.space b.holes a.space a.holes → ⊥) → (p : Point) → is_left a.space a.holes p ≡ is_left b.space b.holes p
  same_points f g p = by_tests (is_left a.space a.holes p) refl (is_left b.space b.holes p) refl
    where
      by_tests : (c : Bool) → is_left a.space a.holes p ≡ c → (d : Bool) → is_left b.space b.holes p ≡ d → c ≡ d
      by_tests true k true l = refl
      by_tests false k false l = refl
      by_tests true k false l = absurd (f (p, both_pass (is_left a.space a.holes p) (not (is_left b.space b.holes p)) k (true_not _ l)))
      by_tests false k true l = absurd (g (p, both_pass (is_left b.space b.holes p) (not (is_left a.space a.holes p)) l (true_not _ k)))

  -- one has no point that the other lacks, and maybe the other
  pub has_no_more : a.is_leaf ≡ b.is_leaf → (Exceeds a.space a.holes b.space b.holes → ⊥) → (back : Bool) → IsTrue back ↔ Exceeds b.space b.holes a.space a.holes → IsTrue (not back) ↔ AreAlike a b
  has_no_more kind f true h = (
    λ e. absurd (no e),
    λ k.
        let x = h.0 refl in
        let m = each_passes (is_left b.space b.holes x.0) (not (is_left a.space a.holes x.0)) x.1 in
        absurd (clash (is_left a.space a.holes x.0) (k.points x.0 ∙ m.0) (not_true _ m.1)),
  )
  has_no_more kind f false h = (λ e. record { is_leaf = kind; points = same_points f (λ x. no (h.1 x)) }, λ k. refl)

apart : (o : Option Granule) (g : Granule) → o ≡ None → o ≡ Some g → ⊥
apart o g e f = cc

same_some : (o : Option Granule) (g h : Granule) → o ≡ Some g → o ≡ Some h → g ≡ h
same_some o g h e f = cc

no_node : (o : Option Node) (m : Node) → o ≡ Some m → o ≡ None → ⊥
no_node o m e f = cc

module _ (t t' : Table) (v : IsValid t) (v' : IsValid t') where
  by_number : (u : Table) → IsValid u → (n : ℕ) (g : Granule) → Among g (granules u) → g.number ≡ n → numbered (granules u) n ≡ Some g
  by_number u w n g a e = ap (numbered (granules u)) (sym e) ∙ found_by_number u w g a

  -- a granule that neither has
  pub neither_has : (n : ℕ) → area_at (granules t) n ≡ None → (o : Option Node) → look t'.nodes n ≡ o → IsTrue (is_none o) ↔ IsKept (granules t) (granules t') n
  neither_has n e None f = (
    λ h. record {
      there = λ g a k. absurd (apart (numbered (granules t) n) g (area_none (granules t) n e) (by_number t v n g a k));
      back = λ g a k. absurd (none_there g (by_number t' v' n g a k));
    },
    λ h. refl,
  )
    where
      none_there : (g : Granule) → numbered (granules t') n ≡ Some g → ⊥
      none_there g h = apart (numbered (granules t') n) g (numbered_none t' v' n f) h
  neither_has n e (Some m) f = (
    λ h. absurd (no h),
    λ h.
        let at = granule_at t' v' n m f in
        let g = found_among (granules t') n _ at.1 in
        let s = h.back _ g.0 g.1 in
        absurd (apart (numbered (granules t) n) s.0 (area_none (granules t) n e) (by_number t v n s.0 s.1 (s.2.number ∙ g.1))),
  )

  -- a granule that only the first has
  pub first_has : (n : ℕ) (a : Area) → area_at (granules t) n ≡ Some a → area_at (granules t') n ≡ None → IsTrue false ↔ IsKept (granules t) (granules t') n
  first_has n a e f = (
    λ h. absurd (no h),
    λ h.
        let s = area_some (granules t) n a e in
        let g = found_among (granules t) n s.0 s.1 in
        let k = h.there s.0 g.0 g.1 in
        absurd (apart (numbered (granules t') n) k.0 (area_none (granules t') n f) (by_number t' v' n k.0 k.1 (k.2.number ∙ g.1))),
  )

  -- a granule that both have
  pub both_have : (n : ℕ) (a b : Area) → area_at (granules t) n ≡ Some a → area_at (granules t') n ≡ Some b → AreAlike a b ↔ IsKept (granules t) (granules t') n
  both_have n a b e f =
      let s = area_some (granules t) n a e in
      let r = area_some (granules t') n b f in
      let k = found_among (granules t) n s.0 s.1 in
      let l = found_among (granules t') n r.0 r.1 in
      subst (λ (a : Area). AreAlike a b ↔ IsKept (granules t) (granules t') n) (sym s.2)
      (subst (λ (b : Area). AreAlike (area_of s.0) b ↔ IsKept (granules t) (granules t') n) (sym r.2) (
        λ h. record {
          there = λ g m q.
              let same : s.0 ≡ g = same_some (numbered (granules t) n) s.0 g s.1 (by_number t v n g m q) in
              subst (λ (x : Granule). (same : Granule) × Among same (granules t') × IsSame x same) same (r.0, l.0, record { number = l.1 ∙ sym k.1; is_leaf = sym h.is_leaf; points = λ p. sym (h.points p) });
          back = λ g m q.
              let same : r.0 ≡ g = same_some (numbered (granules t') n) r.0 g r.1 (by_number t' v' n g m q) in
              subst (λ (x : Granule). (same : Granule) × Among same (granules t) × IsSame x same) same (s.0, k.0, record { number = k.1 ∙ sym l.1; is_leaf = h.is_leaf; points = h.points });
        },
        λ h.
            let m = h.there s.0 k.0 k.1 in
            let same : m.0 ≡ r.0 = same_some (numbered (granules t') n) m.0 r.0 (by_number t' v' n m.0 m.1 (m.2.number ∙ k.1)) r.1 in
            let is : IsSame s.0 r.0 = subst (IsSame s.0) same m.2 in
            record { is_leaf = sym is.is_leaf; points = λ p. sym (is.points p) },
      ))

  module _ (numbers : List ℕ) (differ : (n : ℕ) → (numbered (granules t') n ≡ numbered (granules t) n) ⊎ Among n numbers) where
    -- all are the same where each that may differ is kept
    pub all_same : ((n : ℕ) → Among n numbers → IsKept (granules t) (granules t') n) → AreSame (granules t) (granules t')
    all_same kept = (
      λ g a. elim (differ g.number) [
        | inl e ↦ (g, (found_among (granules t') g.number g (e ∙ found_by_number t v g a)).0, record { number = refl; is_leaf = refl; points = λ p. refl })
        | inr m ↦ (kept g.number m).there g a refl
      ],
      λ g a. elim (differ g.number) [
        | inl e ↦ (g, (found_among (granules t) g.number g (sym e ∙ found_by_number t' v' g a)).0, record { number = refl; is_leaf = refl; points = λ p. refl })
        | inr m ↦ (kept g.number m).back g a refl
      ],
    )

-- where all are the same, each is kept
pub each_kept : (gs gs' : List Granule) (n : ℕ) → AreSame gs gs' → IsKept gs gs' n
each_kept gs gs' n same = record { there = λ g a e. same.0 g a; back = λ g a e. same.1 g a }

-- one more of the numbers
pub kept_more : (P : ℕ → Type 0) (numbers : List ℕ) (i d : ℕ) → i < length numbers → ((n : ℕ) → Among n (take i numbers) → P n) → P (get_or numbers i d) → (n : ℕ) → Among n (take (i + 1) numbers) → P n
kept_more P numbers i d lt old new n a = elim (among_split n (take i numbers) (get_or numbers i d ∷ []) (subst (Among n) (take_more numbers i d lt) a)) [
  | inl b ↦ old n b
  | inr (inl e) ↦ subst P (sym e) new
  | inr (inr b) ↦ absurd b
]

-- a flag that tells whether the granules are kept
module _ (t t' : Table) (v : IsValid t) (v' : IsValid t') (numbers : List ℕ) (differ : (n : ℕ) → (numbered (granules t') n ≡ numbered (granules t) n) ⊎ Among n numbers) where
  pub keeps_all : (keeps : Bool) → (keeps ≡ true → (n : ℕ) → Among n numbers → IsKept (granules t) (granules t') n) → (keeps ≡ false → (n : ℕ) × (IsKept (granules t) (granules t') n → ⊥))
      → MatchBool keeps (AreSame (granules t) (granules t')) (AreSame (granules t) (granules t') → ⊥)
  keeps_all true all one = all_same t t' v v' numbers differ (all refl)
  keeps_all false all one = λ same. let n = one refl in n.1 (each_kept (granules t) (granules t') n.0 same)
