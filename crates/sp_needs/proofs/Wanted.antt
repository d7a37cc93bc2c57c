-- The needs of the rules, one a granule, in order.
use Rattle.std.proofs.Common.{◌≡◌, ℕ, suc, ◌<◌, Bool, true, false, cond, ◌↔◌, List, [], ◌∷◌, ◌++◌, get_or, map, Option, refl, sym, ap, subst, inl, inr, arith}
use Rattle.std.specs.Prelude.{nat_eq}
use Rattle.std.specs.List.{list_any, AllPairs}
use Rattle.std.specs.List.Sorted.{IsStrictlyIncreasing}
use Rattle.std.proofs.lemmas.List.Kept.{AllPairs-from_increasing}
use Rattle.sp_locks.specs.declared.mode.Mode.{Mode}
use Rattle.sp_locks.specs.declared.mode.Mode.TheVariants.{IX, SIX}
use Rattle.sp_locks.specs.declared.row.Name.{Name}
use Rattle.sp_locks.specs.declared.row.Name.TheVariants.{Granule as OnGranule}
use Rattle.sp_locks.specs.declared.row.Duration.TheVariants.{Short}
use Rattle.sp_locks.specs.declared.needs.Need.{Need}
use Rattle.sp_locks.specs.Modes.{covers}
use Rattle.sp_node.specs.Among.{Among}
use Rattle.sp_node.proofs.Among.{among_left, among_right, among_split}
use Rattle.sp_granule.specs.Granules.{Granule}
use Rattle.sp_protection.specs.Reshape.{IsReached}
use Rattle.sp_protection.specs.Needs.{ShortWant, IsJoined, AreNeedsOf, AreInOrder, Precedes}
use Rattle.sp_protection.specs.Needs.ShortWant.{LosesPoint, Goes, Reached, GivesAway}
use Rattle.sp_needs.specs.Affected.{IsLost, IsGiver, need_on}
use Rattle.sp_needs.proofs.Membership.{any_among, among_any, contains_from_among, clash}

antisymmetric : (a b : Mode) → covers a b ≡ true → covers b a ≡ true → a ≡ b
antisymmetric a b e f = grind arith

on_granule : (m n : ℕ) → ◌≡◌ {A = Name} (OnGranule m) (OnGranule n) → m ≡ n
on_granule m n e = cc

covers_ix : (b : Bool) → covers (cond b SIX IX) IX ≡ true
covers_ix true = refl
covers_ix false = refl

from_map : (f : ℕ → Need) (xs : List ℕ) (x : Need) → Among x (map f xs) → (n : ℕ) × Among n xs × (x ≡ f n)
from_map f [] x a = absurd a
from_map f (y ∷ ys) x (inl e) = (y, inl refl, e)
from_map f (y ∷ ys) x (inr a) = let more = from_map f ys x a in (more.0, inr more.1, more.2)

to_map : (f : ℕ → Need) (xs : List ℕ) (n : ℕ) → Among n xs → Among (f n) (map f xs)
to_map f [] n a = absurd a
to_map f (y ∷ ys) n (inl e) = inl (ap f e)
to_map f (y ∷ ys) n (inr a) = inr (to_map f ys n a)

ordered : (givers xs : List ℕ) → AllPairs (λ x y. x < y) xs → AreInOrder (map (need_on givers) xs)
ordered givers [] h = tt
ordered givers (x ∷ xs) h = (
  λ b a. let m = from_map (need_on givers) xs b a in
      let at = contains_from_among xs m.0 m.1 in
      let less : x < get_or xs at.0 m.0 = h 0 (suc at.0) m.0 (omega arith) (omega (arith, at.1)) in
      precedes b m.0 m.2 (subst (λ (k : ℕ). x < k) at.2 less),
  ordered givers xs (λ i j d lt within. h (suc i) (suc j) d (omega arith) (omega arith)),
)
  where
    precedes : (b : Need) (n : ℕ) → b ≡ need_on givers n → x < n → Precedes (need_on givers x) b
    precedes b n e lt = subst (Precedes (need_on givers x)) (sym e) lt

module _ (gs gs' : List Granule) (chosen : Option ℕ) (lost givers reached all : List ℕ)
    (are_lost : (n : ℕ) → Among n lost ↔ IsLost gs gs' n) (are_givers : (n : ℕ) → Among n givers ↔ IsGiver gs gs' n)
    (from_reached : (n : ℕ) → Among n reached → (g : Granule) × Among g gs × (g.number ≡ n) × IsReached gs gs' chosen g)
    (to_reached : (n : ℕ) (g : Granule) → Among g gs → g.number ≡ n → IsReached gs gs' chosen g → Among n reached)
    (are_all : (n : ℕ) → Among n all ↔ Among n ((lost ++ givers) ++ reached)) (rising : IsStrictlyIncreasing all) where
  abbrev Want : Name → Mode → Type 0
  Want = ShortWant gs gs' chosen

  abbrev mode_at : ℕ → Mode
  mode_at n = cond (list_any (nat_eq n) givers) SIX IX

  -- what is wanted on a number that is needed
  wanted : (n : ℕ) → Among n all → Want (OnGranule n) (mode_at n)
  wanted n a = by_test (list_any (nat_eq n) givers) refl
    where
      by_test : (b : Bool) → list_any (nat_eq n) givers ≡ b → Want (OnGranule n) (cond b SIX IX)
      by_test true e =
          let g = (are_givers n).0 (any_among n givers e) in
          subst (λ (k : ℕ). Want (OnGranule k) SIX) g.named (GivesAway g.granule g.among g.is_leaf g.is)
      by_test false e = elim (among_split n (lost ++ givers) reached ((are_all n).0 a)) [
        | inl b ↦ elim (among_split n lost givers b) [
          | inl c ↦
              let l = (are_lost n).0 c in
              elim l.is [
                | inl x ↦ subst (λ (k : ℕ). Want (OnGranule k) IX) l.named (LosesPoint l.granule l.among x)
                | inr x ↦ subst (λ (k : ℕ). Want (OnGranule k) IX) l.named (Goes l.granule l.among x)
              ]
          | inr c ↦ absurd (clash (list_any (nat_eq n) givers) (among_any n givers c) e)
        ]
        | inr b ↦ let r = from_reached n b in subst (λ (k : ℕ). Want (OnGranule k) IX) r.2 (Reached r.0 r.1 r.3)
      ]

  -- what is wanted is needed, in a mode that covers it
  record Met (name : Name) (mode : Mode) : Type 0 where
    pub number : ℕ
    pub on : name ≡ OnGranule number
    pub among : Among number all
    pub covered : covers (mode_at number) mode ≡ true

  from_lost : (n : ℕ) → IsLost gs gs' n → Among n all
  from_lost n l = (are_all n).1 (among_left n (lost ++ givers) reached (among_left n lost givers ((are_lost n).1 l)))

  met : (name : Name) (mode : Mode) → Want name mode → Met name mode
  met name mode (LosesPoint g a x) = record { number = g.number; on = refl; among = from_lost g.number (record { granule = g; among = a; named = refl; is = inl x }); covered = covers_ix (list_any (nat_eq g.number) givers) }
  met name mode (Goes g a x) = record { number = g.number; on = refl; among = from_lost g.number (record { granule = g; among = a; named = refl; is = inr x }); covered = covers_ix (list_any (nat_eq g.number) givers) }
  met name mode (Reached g a x) = record { number = g.number; on = refl; among = (are_all g.number).1 (among_right g.number (lost ++ givers) reached (to_reached g.number g a refl x)); covered = covers_ix (list_any (nat_eq g.number) givers) }
  met name mode (GivesAway g a l x) =
      let b = (are_givers g.number).1 (record { granule = g; among = a; named = refl; is_leaf = l; is = x }) in
      record {
        number = g.number;
        on = refl;
        among = (are_all g.number).1 (among_left g.number (lost ++ givers) reached (among_right g.number lost givers b));
        covered = ap (λ (c : Bool). covers (cond c SIX IX) SIX) (among_any g.number givers b);
      }

  enough : (n : ℕ) (m : Mode) → Want (OnGranule n) m → covers (mode_at n) m ≡ true
  enough n m w = let h = met (OnGranule n) m w in subst (λ (k : ℕ). covers (mode_at k) m ≡ true) (sym (on_granule n h.number h.on)) h.covered

  joined_at : (n : ℕ) → Among n all → IsJoined Want (OnGranule n) (mode_at n)
  joined_at n a = record { some = (mode_at n, wanted n a); enough = enough n; least = λ m f. f (mode_at n) (wanted n a) }

  pub are_needs : AreNeedsOf Want Short (map (need_on givers) all)
  are_needs = record {
    joined = λ need a. let m = from_map (need_on givers) all need a in
        subst (λ (x : Need). IsJoined Want x.name x.mode × (x.duration ≡ Short)) (sym m.2) (joined_at m.0 m.1, refl);
    all = λ name mode j. let h = met name j.some.0 j.some.1 in
        let here : IsJoined Want (OnGranule h.number) mode = subst (λ (x : Name). IsJoined Want x mode) h.on j in
        (need_on givers h.number, to_map (need_on givers) all h.number h.among, sym h.on, antisymmetric (mode_at h.number) mode (here.least (mode_at h.number) (enough h.number)) (here.enough (mode_at h.number) (wanted h.number h.among)));
    in_order = ordered givers all (AllPairs-from_increasing all rising);
  }
