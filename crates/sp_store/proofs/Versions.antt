-- The file that a kernel is started over is of version 2.
use Rattle.std.proofs.Common.{◌≡◌, ◌≢◌, ◌⊎◌, inl, inr, ◌+◌, ◌<◌, ◌≤◌, ◌^◌, ℕ, Bool, true, false, List, refl, ◌∙◌, subst, arith}
use Rattle.sp_journal.specs.declared.kind.Kind.{Kind}
use Rattle.sp_journal.specs.declared.kind.Kind.TheVariants.{Settled}
use Rattle.sp_journal.specs.Kinds.{IsKind, settled, HasVersion}
use Rattle.sp_journal.specs.Opening.{BeginsAs, as_settled, as_new}
use Rattle.sp_journal.specs.Recovery.{IsHeader}
use Rattle.sp_journal.proofs.Kinding.{one_kind}
use Rattle.sp_pair.specs.Compacting.{next_generation, first_of, second_of, IsCompacted}
use Rattle.sp_pair.specs.Pairs.{IsUnsettled, IsChosen, first, second, neither}
use Rattle.sp_pair.proofs.Renewing.{compacted_kind}
use Rattle.sp_store.specs.Opening.{IsRenewed}

-- what the current file is
abbrev IsOne : List ℕ → ℕ → ℕ → Type 0
IsOne c v g = IsKind c (Settled v g) ⊎ ((kind : Kind) × IsKind c kind × IsUnsettled kind × (v ≡ 0))

current_one : (b : Bool) (c o : List ℕ) (v g : ℕ) → IsChosen (first_of b c o) (second_of b c o) b v g → IsOne c v g
current_one true c o v g (second v' g' other is also less) = inl is
current_one false c o v g (first v' g' other is also newer) = inl is
current_one false c o v g (neither one other is also none none') = inr (one, is, none, refl)

settled_header : (file : List ℕ) (v g : ℕ) → IsKind file (Settled v g) → IsHeader v g
settled_header file v g (settled v' g' gate tail long is open_gate stands) = is

-- a valid header that is not of version 1 without a generation is of version 2
second_version : (v g : ℕ) → IsHeader v g → (v ≡ 1 → g ≡ 0 → ⊥) → v ≡ 2
second_version v g (inl old) not_old = absurd (not_old old.0 old.1)
second_version v g (inr is) not_old = is.0

not_first : (c : List ℕ) (v g : ℕ) → IsOne c v g → (v ≡ 1 → g ≡ 0 → ⊥) → v ≢ 1
not_first c v g (inl is) not_old e = let two : v ≡ 2 = second_version v g (settled_header c v g is) not_old in omega arith
not_first c v g (inr none) not_old e = let zero_is : v ≡ 0 = none.3 in omega arith

-- a file that was chosen, and is not of version 1 without a generation
pub chosen_renewed : (b : Bool) (v g : ℕ) (c o : List ℕ) → IsChosen (first_of b c o) (second_of b c o) b v g → (v ≡ 1 → g ≡ 0 → ⊥) → IsRenewed b c o
chosen_renewed b v g c o chosen not_old = (v, g, chosen, not_first c v g (current_one b c o v g chosen) not_old)

settled_version : (v g w h : ℕ) → Settled v g ≡ Settled w h → v ≡ w
settled_version v g w h e = cc

low_next : (g : ℕ) → 2 ≤ next_generation g
low_next g = omega arith

high_next : (g : ℕ) → g + 1 < 2 ^ 63 → next_generation g < 2 ^ 63
high_next g early = omega (arith, early)

-- a file that was written anew
pub renewed_version : (b b' : Bool) (v w g count : ℕ) (c o now other : List ℕ) → IsCompacted b g count c o now → g + 1 < 2 ^ 63 → IsChosen (first_of b' now other) (second_of b' now other) b' v w → IsRenewed b' now other
renewed_version b b' v w g count c o now other is early chosen = (v, w, chosen, not_one (current_one b' now other v w chosen))
  where
    kind : IsKind now (Settled 2 (next_generation g))
    kind = compacted_kind (next_generation g) is.found.records now (low_next g) (high_next g early) is.file

    not_one : IsOne now v w → v ≢ 1
    not_one (inl also) e = let same : v ≡ 2 = settled_version v w 2 (next_generation g) (one_kind now (Settled v w) (Settled 2 (next_generation g)) also kind) in omega arith
    not_one (inr none) e = let zero_is : v ≡ 0 = none.3 in omega arith

-- what begins as a current file that is not of version 1
pub begins_renewed : (b : Bool) (c o file : List ℕ) → IsRenewed b c o → BeginsAs c file → HasVersion 2 file
begins_renewed b c o file renewed (as_new needs has) = (1, inr (refl, omega arith, omega arith), has)
begins_renewed b c o file renewed (as_settled v g is has) = of_one (current_one b c o renewed.0 renewed.1 renewed.2)
  where
    of_one : IsOne c renewed.0 renewed.1 → HasVersion 2 file
    of_one (inl also) =
        let same : renewed.0 ≡ v = settled_version renewed.0 renewed.1 v g (one_kind c (Settled renewed.0 renewed.1) (Settled v g) also is) in
        let header : IsHeader v g = settled_header c v g is in
        let two : v ≡ 2 = second_version v g header (λ e none. renewed.3 (same ∙ e)) in
        subst (λ (n : ℕ). HasVersion n file) two (g, header, has)
    of_one (inr none) = absurd (subst IsUnsettled (one_kind c none.0 (Settled v g) none.1 is) none.2)
