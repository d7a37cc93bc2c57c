-- What refusals say of two files.
use Rattle.std.proofs.Common.{◌≡◌, ◌⊎◌, inl, inr, ℕ, Result, Ok, Err, IfOk, IfErr, if◌then◌else◌, List, sym, subst}
use Rattle.sp_journal.specs.declared.kind.Kind.{Kind}
use Rattle.sp_journal.specs.declared.kind.Kind.TheVariants.{Foreign as IsForeign}
use Rattle.sp_journal.specs.declared.types.JournalError.{JournalError}
use Rattle.sp_journal.specs.declared.types.JournalError.TheVariants.{Foreign as SaysForeign, Damaged as SaysDamaged, Worn, Fault, Memory}
use Rattle.sp_journal.specs.Kinds.{IsKind}
use Rattle.sp_journal.specs.declared.types.Recovered.{Recovered}
use Rattle.sp_journal.specs.Recovery.{Foreign, Damaged, Holds, Recovers}
use Rattle.sp_pair.specs.declared.choice.Choice.{Choice}
use Rattle.sp_pair.specs.Pairs.{IsChosen, RecoversPair, foreign, current, RefusedAs, RefusedPair, RefusedKinds}

foreign_pair : (main alt : List ℕ) (one other : Kind) → IsKind main one → IsKind alt other → (one ≡ IsForeign) ⊎ (other ≡ IsForeign) → RefusedKinds SaysForeign main alt
foreign_pair main alt one other is also which = elim which [
  | inl so ↦ foreign (inl (subst (λ k. IsKind main k) so is))
  | inr so ↦ foreign (inr (subst (λ k. IsKind alt k) so also))
]

pub refused_by : (main alt : List ℕ) (one other : Kind) (r : Result Choice JournalError) → IsKind main one → IsKind alt other → IfErr r (λ e. (e ≡ SaysForeign) × ((one ≡ IsForeign) ⊎ (other ≡ IsForeign)))
    → IfErr r (λ e. RefusedKinds e main alt)
refused_by main alt one other (Ok c) is also why = tt
refused_by main alt one other (Err e) is also why = subst (λ x. RefusedKinds x main alt) (sym why.0) (foreign_pair main alt one other is also why.1)

-- what is read of the current file, as what the two hold
pub held_by : (main alt was also : List ℕ) (c : Choice) (r : Result Recovered JournalError) → was ≡ main → also ≡ alt → IsChosen main alt c.is_alt c.version c.generation → IfOk r (λ found. Recovers (if c.is_alt then also else was) (Holds found))
    → IfOk r (λ found. RecoversPair main alt (Holds found))
held_by main alt was also c (Ok found) same too chosen is = current c.is_alt c.version c.generation (Holds found) chosen (subst (λ w. Recovers (if c.is_alt then alt else w) (Holds found)) same (subst (λ a. Recovers (if c.is_alt then a else was) (Holds found)) too is))
held_by main alt was also c (Err e) same too chosen is = tt

refused_current : (main alt : List ℕ) (c : Choice) (e : JournalError) → IsChosen main alt c.is_alt c.version c.generation → RefusedAs e (if c.is_alt then alt else main) → RefusedPair e main alt
refused_current main alt c SaysForeign chosen is = current c.is_alt c.version c.generation Foreign chosen is
refused_current main alt c (SaysDamaged at) chosen is = current c.is_alt c.version c.generation (Damaged at) chosen is
refused_current main alt c Worn chosen is = is
refused_current main alt c Fault chosen is = tt
refused_current main alt c Memory chosen is = tt

pub refused_with : (main alt was also : List ℕ) (c : Choice) (r : Result Recovered JournalError) → was ≡ main → also ≡ alt → IsChosen main alt c.is_alt c.version c.generation → IfErr r (λ e. RefusedAs e (if c.is_alt then also else was))
    → IfErr r (λ e. RefusedPair e main alt)
refused_with main alt was also c (Ok found) same too chosen is = tt
refused_with main alt was also c (Err e) same too chosen is = refused_current main alt c e chosen (subst (λ w. RefusedAs e (if c.is_alt then alt else w)) same (subst (λ a. RefusedAs e (if c.is_alt then a else was)) too is))
