-- What a shelf in memory holds, by the place of a name.
use Rattle.std.proofs.Common.{◌≡◌, ◌≢◌, ℕ, zero, suc, ◌<◌, Bool, true, false, if◌then◌else◌, List, [], ◌∷◌, length, get_or, refl, sym, ◌∙◌, ap, arith}
use Rattle.std.specs.List.{remove}
use Rattle.std.specs.String.{string_bytes}
use lib.Pointwise.{bytes_decides}
use Rattle.sp_disk.specs.History.{reads_of}
use Rattle.sp_disk.specs.Shelves.{Named, is_named, held}

module _ (shown : List Named) (name : List ℕ) where
  first_of_name : (disks : List Named) (at : ℕ) (found : Named) → at < length disks → ((d : Named) → is_named name (get_or disks at d) ≡ true)
      → ((k : ℕ) (d : Named) → k < at → is_named name (get_or disks k d) ≡ false) → found ≡ get_or disks at found → reads_of found.1.log ≡ held disks name
  first_of_name [] at found lt named first is = absurd (omega arith)
  first_of_name (x ∷ xs) zero found lt named first is = rw (named x) (ap (λ (d : Named). reads_of d.1.log) is)
  first_of_name (x ∷ xs) (suc at) found lt named first is =
      rw (first zero x (omega arith)) (first_of_name xs at found (omega arith) named (λ k d below. first (suc k) d (omega arith)) is)

  pub held_first : (disks : List Named) (at : ℕ) (found : Named) → shown ≡ disks → at < length shown → ((d : Named) → is_named name (get_or shown at d) ≡ true)
      → ((k : ℕ) (d : Named) → k < at → is_named name (get_or shown k d) ≡ false) → found ≡ get_or disks at found → reads_of found.1.log ≡ held disks name
  held_first disks at found show lt named first is = first_of_name shown at found lt named first (is ∙ ap (λ l. get_or l at found) (sym show)) ∙ ap (λ l. held l name) show

  other_name : (other : List ℕ) (d : Named) → other ≢ name → is_named name d ≡ true → is_named other d ≡ false
  other_name other d apart named = not_true (is_named other d) (λ is. apart (sym ((bytes_decides (string_bytes d.0) other).0 is) ∙ (bytes_decides (string_bytes d.0) name).0 named))
    where
      not_true : (b : Bool) → (b ≡ true → ⊥) → b ≡ false
      not_true true no_way = absurd (no_way refl)
      not_true false no_way = refl

  others : (disks : List Named) (at : ℕ) (other : List ℕ) → at < length disks → ((d : Named) → is_named name (get_or disks at d) ≡ true) → other ≢ name → held (remove disks at) other ≡ held disks other
  others [] at other lt named apart = absurd (omega arith)
  others (x ∷ xs) zero other lt named apart = rw (other_name other x apart (named x)) refl
  others (x ∷ xs) (suc at) other lt named apart = ap (λ (rest : List ℕ). if is_named other x then reads_of x.1.log else rest) (others xs at other (omega arith) named apart)

  pub held_others : (disks later : List Named) (at : ℕ) (other : List ℕ) → shown ≡ disks → later ≡ remove disks at → at < length shown
      → ((d : Named) → is_named name (get_or shown at d) ≡ true) → other ≢ name → held later other ≡ held disks other
  held_others disks later at other show removed lt named apart =
      ap (λ l. held l other) (removed ∙ ap (λ l. remove l at) (sym show)) ∙ others shown at other lt named apart ∙ ap (λ l. held l other) show

  none : (disks : List Named) → ((k : ℕ) (d : Named) → k < length disks → is_named name (get_or disks k d) ≡ false) → held disks name ≡ []
  none [] absent = refl
  none (x ∷ xs) absent = rw (absent zero x (omega arith)) (none xs (λ k d lt. absent (suc k) d (omega arith)))

  pub held_none : (disks : List Named) → shown ≡ disks → ((k : ℕ) (d : Named) → k < length shown → is_named name (get_or shown k d) ≡ false) → [] ≡ held disks name
  held_none disks show absent = sym (none shown absent) ∙ ap (λ l. held l name) show
