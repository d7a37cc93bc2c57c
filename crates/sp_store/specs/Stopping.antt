-- What a stop leaves of two files while a kernel is started over the current one.
use Rattle.std.specs.Prelude.{◌≡◌, ◌≤◌, ◌+◌, ℕ, Bool, false, not, IsTrue, List}
use Rattle.sp_journal.specs.Looking.{OnlyReads}
use Rattle.sp_pair.specs.Compacting.{first_of, second_of, IsAtRest, HoldAsBefore, Keeps}
use Rattle.sp_store.specs.Files.{current_of}

-- two files hold the records that two others held, or are damaged as those were, by the names of the files
abbrev pub HoldSame : List ℕ → List ℕ → List ℕ → List ℕ → Type 0
HoldSame main alt main' alt' = HoldAsBefore false main alt main' alt'

-- From the first call of each file on, or from the moment after it, whichever file a stop leaves of the current one and whichever of the other, the two hold what the two files held; and of the other it leaves what a read gives.
pub record SinceOpened {D : Type 0} (reads : D → List ℕ) (moment : D → ℕ) (images : D → ℕ → List ℕ → Type 0) (main alt : D) (is_alt : Bool) (current other : D) : Type 0 where
  pub first : ℕ
  pub soon : first ≤ moment (current_of is_alt main alt) + 1
  pub other_first : ℕ
  pub other_soon : other_first ≤ moment (current_of (not is_alt) main alt) + 1
  pub each : (k j : ℕ) (file file' : List ℕ) → first ≤ k → k ≤ moment current → other_first ≤ j → j ≤ moment other → images current k file → images other j file'
      → HoldSame (reads main) (reads alt) (first_of is_alt file file') (second_of is_alt file file')
  pub other_only : (j : ℕ) (file : List ℕ) → other_first ≤ j → j ≤ moment other → images other j file → file ≡ reads other

-- The same, where these moments have come.
pub record SinceChosen {D : Type 0} (reads : D → List ℕ) (moment : D → ℕ) (images : D → ℕ → List ℕ → Type 0) (main alt : D) (is_alt : Bool) (current other : D) : Type 0 where
  pub since : SinceOpened reads moment images main alt is_alt current other
  pub low : since.first ≤ moment current
  pub other_low : since.other_first ≤ moment other

-- The other file was written anew and is current, while that one was only read.
pub record IsTurned {D : Type 0} (tells : D → Bool) (reads : D → List ℕ) (moment : D → ℕ) (images : D → ℕ → List ℕ → Type 0) (is_alt : Bool) (generation : ℕ) (current other : D) (is_alt' : Bool) (current' other' : D) : Type 0 where
  pub turned : is_alt' ≡ not is_alt
  pub looks : IsTrue (tells current) → OnlyReads (moment current) (moment other') (reads current) (reads other') (images current) (images other')
  pub keeps : IsTrue (tells current) → IsTrue (tells other) → IsAtRest is_alt generation (reads current) (reads other) (images current (moment current)) (images other (moment other))
      → Keeps is_alt (reads current) (reads other) (moment current) (moment other') (moment other) (moment current') (images current) (images other') (images other) (images current')
