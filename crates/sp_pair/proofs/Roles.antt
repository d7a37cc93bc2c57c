-- Two files by their roles, while the other one is written anew.
use Rattle.std.proofs.Common.{◌≡◌, ◌⊎◌, inl, inr, ◌<◌, ◌≤◌, ◌^◌, ℕ, Bool, true, false, not, if◌then◌else◌, List, refl, sym, ◌∙◌, ap, subst, arith}
use Rattle.sp_journal.specs.declared.kind.Kind.{Kind}
use Rattle.sp_journal.specs.declared.kind.Kind.TheVariants.{Foreign as IsForeign, Settled}
use Rattle.sp_journal.specs.declared.types.Recovered.{Recovered}
use Rattle.sp_journal.specs.Kinds.{IsKind}
use Rattle.sp_journal.specs.Recovery.{Outcome, Foreign, Damaged, Holds, Recovers}
use Rattle.sp_journal.proofs.Kinding.{one_kind}
use Rattle.sp_journal.proofs.Outcomes.{one_outcome}
use Rattle.sp_pair.specs.Compacting.{first_of, second_of, RecoversRoles, HoldAsBefore}
use Rattle.sp_pair.specs.Pairs.{IsUnsettled, IsNoNewer, IsOlder, IsChosen, first, second, neither, RecoversPair, foreign, current}
use Rattle.sp_pair.proofs.Choices.{older, no_newer}
use Rattle.sp_pair.proofs.Kinding.{IsQuiet, generation_fits}

-- one of the two is chosen
pub one_chosen : (main alt : List ℕ) (a b : Bool) (v g w h : ℕ) → IsChosen main alt a v g → IsChosen main alt b w h → a ≡ b
one_chosen main alt a b v g w h (first v' g' other is also newer) (first w' h' other' is' also' newer') = refl
one_chosen main alt a b v g w h (first v' g' other is also newer) (second w' h' other' is' also' less) =
    let one : h ≤ g = subst (λ (k : Kind). IsNoNewer k g) (one_kind alt other (Settled w h) also is') newer in
    let two : g < h = subst (λ (k : Kind). IsOlder k h) (one_kind main other' (Settled v g) also' is) less in
    absurd (omega arith)
one_chosen main alt a b v g w h (first v' g' other is also newer) (neither one other' is' also' none none') = absurd (subst IsUnsettled (one_kind main one (Settled v g) is' is) none)
one_chosen main alt a b v g w h (second v' g' other is also less) (first w' h' other' is' also' newer) =
    let one : g ≤ h = subst (λ (k : Kind). IsNoNewer k h) (one_kind alt other' (Settled v g) also' is) newer in
    let two : h < g = subst (λ (k : Kind). IsOlder k g) (one_kind main other (Settled w h) also is') less in
    absurd (omega arith)
one_chosen main alt a b v g w h (second v' g' other is also less) (second w' h' other' is' also' less') = refl
one_chosen main alt a b v g w h (second v' g' other is also less) (neither one other' is' also' none none') = absurd (subst IsUnsettled (one_kind alt other' (Settled v g) also' is) none')
one_chosen main alt a b v g w h (neither one other is also none none') (first w' h' other' is' also' newer) = absurd (subst IsUnsettled (one_kind main one (Settled w h) is is') none)
one_chosen main alt a b v g w h (neither one other is also none none') (second w' h' other' is' also' less) = absurd (subst IsUnsettled (one_kind alt other (Settled w h) also is') none')
one_chosen main alt a b v g w h (neither one other is also none none') (neither one' other' is' also' none'' none''') = refl

-- what the two are recovered to is what the chosen one is
from_pair : (main alt : List ℕ) (b : Bool) (v g : ℕ) (outcome : Outcome) → (outcome ≡ Foreign → ⊥) → IsChosen main alt b v g → RecoversPair main alt outcome → Recovers (if b then alt else main) outcome
from_pair main alt b v g outcome home chosen (foreign which) = absurd (home refl)
from_pair main alt b v g outcome home chosen (current b' w h o chosen' is) = subst (λ (x : Bool). Recovers (if x then alt else main) outcome) (one_chosen main alt b' b w h v g chosen' chosen) is

-- where one is chosen neither is foreign
no_newer_home : (kind : Kind) (g : ℕ) → IsNoNewer kind g → kind ≡ IsForeign → ⊥
no_newer_home kind g is e = subst (λ (k : Kind). IsNoNewer k g) e is

older_home : (kind : Kind) (g : ℕ) → IsOlder kind g → kind ≡ IsForeign → ⊥
older_home kind g is e = subst (λ (k : Kind). IsOlder k g) e is

unsettled_home : (kind : Kind) → IsUnsettled kind → kind ≡ IsForeign → ⊥
unsettled_home kind is e = subst (λ (k : Kind). IsUnsettled k) e is

settled_home : (file : List ℕ) (v g : ℕ) → IsKind file (Settled v g) → IsKind file IsForeign → ⊥
settled_home file v g is alien = let same : Settled v g ≡ IsForeign = one_kind file (Settled v g) IsForeign is alien in cc

no_foreign : (main alt : List ℕ) (b : Bool) (v g : ℕ) → IsChosen main alt b v g → IsKind main IsForeign ⊎ IsKind alt IsForeign → ⊥
no_foreign main alt b v g (first v' g' other is also newer) which = elim which [
  | inl alien ↦ settled_home main v g is alien
  | inr alien ↦ no_newer_home other g newer (one_kind alt other IsForeign also alien)
]
no_foreign main alt b v g (second v' g' other is also less) which = elim which [
  | inl alien ↦ older_home other g less (one_kind main other IsForeign also alien)
  | inr alien ↦ settled_home alt v g is alien
]
no_foreign main alt b v g (neither one other is also none none') which = elim which [
  | inl alien ↦ unsettled_home one none (one_kind main one IsForeign is alien)
  | inr alien ↦ unsettled_home other none' (one_kind alt other IsForeign also alien)
]

-- the law
pub one_pair : (main alt : List ℕ) (a b : Outcome) → RecoversPair main alt a → RecoversPair main alt b → a ≡ b
one_pair main alt a b (foreign which) (foreign other) = refl
one_pair main alt a b (foreign which) (current y w h o chosen is) = absurd (no_foreign main alt y w h chosen which)
one_pair main alt a b (current x v g o chosen is) (foreign which) = absurd (no_foreign main alt x v g chosen which)
one_pair main alt a b (current x v g o chosen is) (current y w h p chosen' is') =
    one_outcome (if y then alt else main) a b (subst (λ (z : Bool). Recovers (if z then alt else main) a) (one_chosen main alt x y v g w h chosen chosen') is) is'

the_current : (b : Bool) (c o : List ℕ) → (if b then second_of b c o else first_of b c o) ≡ c
the_current true c o = refl
the_current false c o = refl

the_other : (b : Bool) (c o : List ℕ) → (if not b then second_of b c o else first_of b c o) ≡ o
the_other true c o = refl
the_other false c o = refl

module _ (b : Bool) (v g : ℕ) (c o : List ℕ) (chosen : IsChosen (first_of b c o) (second_of b c o) b v g) where
  pub from_roles : (outcome : Outcome) → (outcome ≡ Foreign → ⊥) → RecoversRoles b c o outcome → Recovers c outcome
  from_roles outcome home is = subst (λ (f : List ℕ). Recovers f outcome) (the_current b c o) (from_pair (first_of b c o) (second_of b c o) b v g outcome home chosen is)

  pub to_roles : (outcome : Outcome) → Recovers c outcome → RecoversRoles b c o outcome
  to_roles outcome is = current b v g outcome chosen (subst (λ (f : List ℕ). Recovers f outcome) (sym (the_current b c o)) is)

not_foreign : (found : Recovered) → Holds found ≡ Foreign → ⊥
not_foreign found e = cc

not_either : (at : ℕ) → Damaged at ≡ Foreign → ⊥
not_either at e = cc

-- the same file is chosen beside another one
pub still : (b : Bool) (v g : ℕ) (c o file : List ℕ) → IsChosen (first_of b c o) (second_of b c o) b v g → IsChosen (first_of b c file) (second_of b c file) b v g → HoldAsBefore b c o c file
still b v g c o file chosen chosen' = record {
  records = λ found held. (found, to_roles b v g c file chosen' (Holds found) (from_roles b v g c o chosen (Holds found) (not_foreign found) held), refl);
  damage = λ at held. to_roles b v g c file chosen' (Damaged at) (from_roles b v g c o chosen (Damaged at) (not_either at) held);
}

-- the other file is chosen, and has the records
pub renewed : (b : Bool) (v g w h : ℕ) (c o file : List ℕ) (found after : Recovered) → IsChosen (first_of b c o) (second_of b c o) b v g → IsChosen (first_of b c file) (second_of b c file) (not b) w h
    → Recovers c (Holds found) → Recovers file (Holds after) → after.records ≡ found.records → HoldAsBefore b c o c file
renewed b v g w h c o file found after chosen chosen' is also same = record {
  records = λ held_before held.
      let one : Holds found ≡ Holds held_before = one_outcome c (Holds found) (Holds held_before) is (from_roles b v g c o chosen (Holds held_before) (not_foreign held_before) held) in
      let one_found : found ≡ held_before = cc in
      (after, current (not b) w h (Holds after) chosen' (subst (λ (f : List ℕ). Recovers f (Holds after)) (sym (the_other b c file)) also), same ∙ ap (λ (r : Recovered). r.records) one_found);
  damage = λ at held. let one : Holds found ≡ Damaged at = one_outcome c (Holds found) (Damaged at) is (from_roles b v g c o chosen (Damaged at) (not_either at) held) in cc;
}

-- a file that is quiet beside the chosen one
abbrev Quiets : List ℕ → List ℕ → Type 0
Quiets was file = (kind : Kind) → IsKind was kind → (kind ≡ IsForeign → ⊥) → IsQuiet kind file

stays_at : (main alt file : List ℕ) (b : Bool) (v g : ℕ) → IsChosen main alt b v g → Quiets (if b then main else alt) file → IsChosen (if b then file else main) (if b then alt else file) b v g
stays_at main alt file b v g (first v' g' other is also newer) quiets =
    let quiet = quiets other also (no_newer_home other g newer) in
    first v g quiet.kind is quiet.is (elim quiet.which [ inl none ↦ no_newer quiet.kind g none | inr same ↦ subst (λ (k : Kind). IsNoNewer k g) (sym same) newer ])
stays_at main alt file b v g (second v' g' other is also less) quiets =
    let quiet = quiets other also (older_home other g less) in
    second v g quiet.kind is quiet.is (elim quiet.which [ inl none ↦ older quiet.kind g none | inr same ↦ subst (λ (k : Kind). IsOlder k g) (sym same) less ])
stays_at main alt file b v g (neither one other is also none none') quiets =
    let quiet = quiets other also (unsettled_home other none') in
    neither one quiet.kind is quiet.is none (elim quiet.which [ inl so ↦ so | inr same ↦ subst IsUnsettled (sym same) none' ])

pub stays : (b : Bool) (v g : ℕ) (c o file : List ℕ) → IsChosen (first_of b c o) (second_of b c o) b v g → Quiets o file → IsChosen (first_of b c file) (second_of b c file) b v g
stays true v g c o file chosen quiets = stays_at o c file true v g chosen quiets
stays false v g c o file chosen quiets = stays_at c o file false v g chosen quiets

-- a file of a greater generation
turns_at : (main alt file : List ℕ) (b : Bool) (v own next : ℕ) → IsChosen main alt b v own → own < next → IsKind file (Settled 2 next) → IsChosen (if b then file else main) (if b then alt else file) (not b) 2 next
turns_at main alt file b v own next (first v' g' other is also newer) less kind = second 2 next (Settled v own) kind is less
turns_at main alt file b v own next (second v' g' other is also older_main) less kind = let le : own ≤ next = omega arith in first 2 next (Settled v own) kind is le
turns_at main alt file b v own next (neither one other is also none none') less kind = second 2 next one kind is (older one next none)

pub turns : (b : Bool) (v own next : ℕ) (c o file : List ℕ) → IsChosen (first_of b c o) (second_of b c o) b v own → own < next → IsKind file (Settled 2 next) → IsChosen (first_of b c file) (second_of b c file) (not b) 2 next
turns true v own next c o file chosen less kind = turns_at o c file true v own next chosen less kind
turns false v own next c o file chosen less kind = turns_at c o file false v own next chosen less kind

-- the same by the roles that the two have then
pub turned : (b : Bool) (g : ℕ) (c file : List ℕ) → IsChosen (first_of b c file) (second_of b c file) (not b) 2 g → IsChosen (first_of (not b) file c) (second_of (not b) file c) (not b) 2 g
turned true g c file is = is
turned false g c file is = is

-- the chosen one is no foreign file, and its generation fits
pub at_home : (b : Bool) (v g : ℕ) (c o : List ℕ) → IsChosen (first_of b c o) (second_of b c o) b v g → IsKind c IsForeign → ⊥
at_home true v g c o chosen alien = no_foreign o c true v g chosen (inr alien)
at_home false v g c o chosen alien = no_foreign c o false v g chosen (inl alien)

pub own_fits : (main alt : List ℕ) (b : Bool) (v g : ℕ) → IsChosen main alt b v g → g < 2 ^ 63
own_fits main alt b v g (first v' g' other is also newer) = generation_fits main v g is
own_fits main alt b v g (second v' g' other is also less) = generation_fits alt v g is
own_fits main alt b v g (neither one other is also none none') = omega arith
