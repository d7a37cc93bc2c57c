-- The file that a run has changed, by the roles of the two.
use Rattle.std.proofs.Common.{◌≡◌, ◌⊎◌, inl, inr, ℕ, Bool, true, false, sym, subst}
use Rattle.sp_disk.specs.Faults.{Rose}
use Rattle.sp_store.specs.Files.{main_of, alt_of}

-- a fault of the current file is one of the two by their names
pub faulted : {D : Type 0} (faults : D → ℕ) (is_alt : Bool) (old new other main alt : D) → main ≡ main_of is_alt new other → alt ≡ alt_of is_alt new other → Rose (faults old) (faults new)
    → Rose (faults (main_of is_alt old other)) (faults main) ⊎ Rose (faults (alt_of is_alt old other)) (faults alt)
faulted {D} faults false old new other main alt m a h = inl (subst (λ (d : D). Rose (faults old) (faults d)) (sym m) h)
faulted {D} faults true old new other main alt m a h = inr (subst (λ (d : D). Rose (faults old) (faults d)) (sym a) h)
