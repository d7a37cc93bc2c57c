-- What a stop leaves of two files together.
use Rattle.std.specs.Prelude.{◌≡◌, ◌⊎◌, ◌≤◌, ℕ, Bool, List}
use Rattle.sp_rect.specs.Serial.{after_all}
use Rattle.sp_journal.specs.declared.types.Recovered.{Recovered}
use Rattle.sp_journal.specs.Recovery.{Holds}
use Rattle.sp_pair.specs.Compacting.{first_of, second_of}
use Rattle.sp_pair.specs.Pairs.{RecoversPair}
use Rattle.sp_model.specs.State.{Kernel}
use Rattle.sp_model.specs.Moves.{placed_all}
use Rattle.sp_desk.specs.Course.{Leads}
use Rattle.sp_store.specs.Stopping.{SinceOpened}

-- the two files are recovered to what the commits of the kernel leave, one after the other
pub record PairHoldsCommits (k : Kernel) (main alt : List ℕ) : Type 0 where
  pub found : Recovered
  pub recovers : RecoversPair main alt (Holds found)
  pub same : found.records ≡ after_all k.base k.commits

-- they hold the commits that have their places, or those and the whole batch in flight
abbrev pub PairHoldsOrMore : Kernel → List ℕ → List ℕ → Type 0
PairHoldsOrMore k main alt = PairHoldsCommits k main alt ⊎ PairHoldsCommits (placed_all k) main alt

-- they hold what a kernel on the way has committed, without or with its whole batch in flight
pub record PairIsLeftBetween (k n : Kernel) (main alt : List ℕ) : Type 0 where
  pub between : Kernel
  pub before : Leads k between
  pub behind : Leads between n
  pub holds : PairHoldsOrMore between main alt

-- From the first call of each of two files that held these bytes, or the moment after it, whichever file a stop left of the current one and whichever of the other, the two hold what the kernel had that was started; since it was started, what a kernel on the way has; and now all commits of the last one.
pub record PairIsKept {D : Type 0} (reads : D → List ℕ) (moment : D → ℕ) (images : D → ℕ → List ℕ → Type 0) (k n : Kernel) (main alt : List ℕ) (is_alt : Bool) (first current other : D) : Type 0 where
  pub was_main : D
  pub was_alt : D
  pub main_held : reads was_main ≡ main
  pub alt_held : reads was_alt ≡ alt
  pub since : SinceOpened reads moment images was_main was_alt is_alt first other
  pub opening : (i j : ℕ) (file file' : List ℕ) → since.first ≤ i → i ≤ moment first → since.other_first ≤ j → j ≤ moment other → images current i file → images other j file' → PairHoldsCommits k (first_of is_alt file file') (second_of is_alt file file')
  pub running : (i j : ℕ) (file file' : List ℕ) → moment first ≤ i → i ≤ moment current → since.other_first ≤ j → j ≤ moment other → images current i file → images other j file' → PairIsLeftBetween k n (first_of is_alt file file') (second_of is_alt file file')
  pub now : (j : ℕ) (file file' : List ℕ) → since.other_first ≤ j → j ≤ moment other → images current (moment current) file → images other j file' → PairHoldsOrMore n (first_of is_alt file file') (second_of is_alt file file')
