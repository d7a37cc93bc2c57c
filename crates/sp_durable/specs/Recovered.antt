-- What the commits of a kernel leave, as a file is recovered to it.
use Rattle.std.specs.Prelude.{◌≡◌, ◌⊎◌, ℕ, List}
use Rattle.sp_rect.specs.Serial.{after_all}
use Rattle.sp_journal.specs.declared.types.Recovered.{Recovered}
use Rattle.sp_journal.specs.declared.work.Phase.{Phase}
use Rattle.sp_journal.specs.declared.work.Phase.TheVariants.{Ready, Written, Settled, Opened, Broken}
use Rattle.sp_journal.specs.Recovery.{Recovers, Holds}
use Rattle.sp_model.specs.State.{Kernel}
use Rattle.sp_model.specs.Moves.{placed_all}

-- the file is recovered to what the commits of the kernel leave, one after the other
pub record HoldsCommits (k : Kernel) (file : List ℕ) : Type 0 where
  pub found : Recovered
  pub recovers : Recovers file (Holds found)
  pub same : found.records ≡ after_all k.base k.commits

-- it holds the commits that have their places, or those and the whole batch in flight
abbrev pub HoldsOrMore : Kernel → List ℕ → Type 0
HoldsOrMore k file = HoldsCommits k file ⊎ HoldsCommits (placed_all k) file

-- what a stop between two calls leaves, in each phase: the batch counts only where its gate may be open
abbrev pub IsLeft : Phase → Kernel → List ℕ → Type 0
IsLeft Ready k file = HoldsCommits k file
IsLeft Written k file = HoldsCommits k file
IsLeft Settled k file = HoldsCommits k file
IsLeft Opened k file = HoldsOrMore k file
IsLeft Broken k file = HoldsOrMore k file

-- what a stop in the call that follows leaves
abbrev pub IsLeftInCall : Phase → Kernel → List ℕ → Type 0
IsLeftInCall Ready k file = HoldsCommits k file
IsLeftInCall Written k file = HoldsCommits k file
IsLeftInCall Settled k file = HoldsOrMore k file
IsLeftInCall Opened k file = HoldsOrMore k file
IsLeftInCall Broken k file = HoldsOrMore k file
