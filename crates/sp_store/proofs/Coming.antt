-- What two files hold comes from what they held before they were written anew.
use Rattle.std.proofs.Common.{◌≡◌, ◌+◌, ◌<◌, ◌≤◌, ◌^◌, max, ℕ, Bool, not, List, inl, inr, refl, sym, ◌∙◌, ap, arith, subst}
use Rattle.sp_journal.specs.declared.types.Recovered.{Recovered}
use Rattle.sp_journal.specs.Recovery.{Outcome, Foreign, Damaged, Holds, Recovers}
use Rattle.sp_pair.specs.Compacting.{next_generation, first_of, second_of, RecoversRoles, IsCompacted}
use Rattle.sp_pair.specs.Pairs.{IsChosen, RecoversPair}
use Rattle.sp_pair.proofs.Roles.{one_pair, to_roles}
use Rattle.sp_pair.proofs.Renewing.{compacted_holds}
use Rattle.sp_journal.specs.declared.types.JournalError.{JournalError}
use Rattle.sp_kernel.specs.Starting.{RefusedOver}
use Rattle.sp_kernel.specs.declared.kernel.StartError.{StartError}
use Rattle.sp_kernel.specs.declared.kernel.StartError.TheVariants.{Foreign as SaysForeign, Damaged as SaysDamaged, DiskFault, Memory}
use Rattle.sp_pair.specs.Pairs.{RefusedPair}
use Rattle.sp_store.specs.Files.{told_as}
use Rattle.sp_store.specs.Opening.{ComeFrom, RolesComeFrom}

pub come_same : (main alt : List ℕ) → ComeFrom main alt main alt
come_same main alt = record {
  records = λ after held. (after, held, refl);
  damage = λ at held. held;
  foreign = λ held. held;
}

same_records : (a b : Recovered) → Holds a ≡ Holds b → a.records ≡ b.records
same_records a b e = cc

not_damaged : (a : Recovered) (at : ℕ) → Holds a ≡ Damaged at → ⊥
not_damaged a at e = cc

not_foreign : (a : Recovered) → Holds a ≡ Foreign → ⊥
not_foreign a e = cc

low_next : (g : ℕ) → 2 ≤ next_generation g
low_next g = omega arith

high_next : (g : ℕ) → g + 1 < 2 ^ 63 → next_generation g < 2 ^ 63
high_next g early = omega (arith, early)

pub come_renewed : (b : Bool) (v w g count : ℕ) (c o reads : List ℕ) → IsCompacted b g count c o reads → g + 1 < 2 ^ 63 → IsChosen (first_of (not b) reads c) (second_of (not b) reads c) (not b) v w
    → RolesComeFrom b c o (not b) reads c
come_renewed b v w g count c o reads is early chosen =
    let whole : Recovered = record { records = is.found.records; batches = 0; commits = 0 } in
    let held : RecoversRoles (not b) reads c (Holds whole) = to_roles (not b) v w reads c chosen (Holds whole) (compacted_holds (next_generation g) is.found.records reads (low_next g) (high_next g early) is.file is.valid) in
    let one : (outcome : Outcome) → RecoversRoles (not b) reads c outcome → Holds whole ≡ outcome = λ outcome other. one_pair (first_of (not b) reads c) (second_of (not b) reads c) (Holds whole) outcome held other in
    record {
      records = λ after held'. (is.found, is.held, same_records whole after (one (Holds after) held'));
      damage = λ at held'. absurd (not_damaged whole at (one (Damaged at) held'));
      foreign = λ held'. absurd (not_foreign whole (one Foreign held'));
    }

-- the same, where it is only known to be so
pub come_turned : (b b' : Bool) (v w g count : ℕ) (c o reads also : List ℕ) → IsCompacted b g count c o reads → g + 1 < 2 ^ 63 → b' ≡ not b → also ≡ c → IsChosen (first_of b' reads also) (second_of b' reads also) b' v w
    → RolesComeFrom b c o b' reads also
come_turned b b' v w g count c o reads also is early turned same chosen =
    subst (λ (x : Bool). IsChosen (first_of x reads also) (second_of x reads also) x v w → RolesComeFrom b c o x reads also) (sym turned)
    (subst (λ (f : List ℕ). IsChosen (first_of (not b) reads f) (second_of (not b) reads f) (not b) v w → RolesComeFrom b c o (not b) reads f) (sym same) (come_renewed b v w g count c o reads is early)) chosen

-- why a kernel was not started over the current file, said of the two
pub refused_over : (b : Bool) (v g : ℕ) (c o reads : List ℕ) → IsChosen (first_of b c o) (second_of b c o) b v g → (error : StartError) (told : JournalError) → told ≡ told_as error → RefusedOver error c reads
    → RefusedPair told (first_of b c o) (second_of b c o)
refused_over b v g c o reads chosen SaysForeign told e says = subst (λ (x : JournalError). RefusedPair x (first_of b c o) (second_of b c o)) (sym e) (to_roles b v g c o chosen Foreign says.0)
refused_over b v g c o reads chosen (SaysDamaged at) told e says = subst (λ (x : JournalError). RefusedPair x (first_of b c o) (second_of b c o)) (sym e) (to_roles b v g c o chosen (Damaged at) says.0)
refused_over b v g c o reads chosen DiskFault told e says = subst (λ (x : JournalError). RefusedPair x (first_of b c o) (second_of b c o)) (sym e) tt
refused_over b v g c o reads chosen Memory told e says = subst (λ (x : JournalError). RefusedPair x (first_of b c o) (second_of b c o)) (sym e) tt
