-- What two files hold while a kernel is started and runs over the current one.
use Rattle.std.proofs.Common.{◌≡◌, inl, inr, ◌≤◌, ℕ, Bool, List, [], sym, ap, ◌∙◌, arith}
use Rattle.sp_disk.specs.Moments.{LeavesOnly}
use Rattle.sp_rect.specs.declared.commit.Commit.{Commit}
use Rattle.sp_rect.specs.declared.record.Record.{Record}
use Rattle.sp_rect.specs.Serial.{after_all}
use Rattle.sp_node.specs.declared.node.Shape.{Shape}
use Rattle.sp_journal.specs.declared.types.Recovered.{Recovered}
use Rattle.sp_journal.specs.Kinds.{KeepsOneOf}
use Rattle.sp_journal.specs.Recovery.{Outcome, Recovers, Holds}
use Rattle.sp_pair.specs.Compacting.{first_of, second_of}
use Rattle.sp_pair.specs.Pairs.{RecoversPair}
use Rattle.sp_model.specs.State.{Kernel}
use Rattle.sp_model.specs.Opening.{IsOpened}
use Rattle.sp_durable.specs.Recovered.{HoldsOrMore}
use Rattle.sp_store.specs.Keeping.{IsBeside}
use Rattle.sp_store.specs.Stopping.{HoldSame}
use Rattle.sp_store.proofs.Keeping.{run_recovers}
use Rattle.sp_runs.specs.declared.language.Language.{Language}
use Rattle.sp_runs.specs.declared.language.Language.TheVariants.{Commands, Events}
use Rattle.sp_runs.specs.Scripts.{IsLeftIn}
use Rattle.sp_runs.specs.Holding.{PairHoldsCommits, PairHoldsOrMore, PairIsLeftBetween}

-- two files that are recovered to what the one is
abbrev RecoversLike : List ℕ → List ℕ → List ℕ → Type 0
RecoversLike file main alt = (outcome : Outcome) → Recovers file outcome → RecoversPair main alt outcome

pair_holds : (k : Kernel) (file main alt : List ℕ) → RecoversLike file main alt → HoldsOrMore k file → PairHoldsOrMore k main alt
pair_holds k file main alt like (inl h) = inl (record { found = h.found; recovers = like (Holds h.found) h.recovers; same = h.same })
pair_holds k file main alt like (inr h) = inr (record { found = h.found; recovers = like (Holds h.found) h.recovers; same = h.same })

pair_left : (language : Language) (k n : Kernel) (file main alt : List ℕ) → RecoversLike file main alt → IsLeftIn language k n file → PairIsLeftBetween k n main alt
pair_left Commands k n file main alt like h = record { between = h.between; before = h.before; behind = h.behind; holds = pair_holds h.between file main alt like h.holds }
pair_left Events k n file main alt like h = record {
  between = h.kernel;
  before = record { steps = h.before.0; history = h.before.1 };
  behind = record { steps = h.after.0; history = h.after.1 };
  holds = pair_holds h.kernel file main alt like h.holds;
}

-- the other file is known by what a read of it gives alone
beside_reads : (b : Bool) (other : List ℕ) (leaves leaves' : List ℕ → Type 0) → IsBeside b other leaves leaves' → IsBeside b other leaves (λ file. file ≡ other)
beside_reads b other leaves leaves' h = record { current = h.current; version = h.version; generation = h.generation; chosen = h.chosen; kept = h.kept; other_only = λ file is. is }

module _ (b : Bool) (other : List ℕ) (before now : ℕ) (old new : ℕ → List ℕ → Type 0) (leaves' : List ℕ → Type 0) (beside : IsBeside b other (old before) leaves') (kinds : LeavesOnly before now old new (KeepsOneOf (old before))) where
  like_current : (i : ℕ) (file file' : List ℕ) → before ≤ i → i ≤ now → new i file → file' ≡ other → RecoversLike file (first_of b file file') (second_of b file file')
  like_current i file file' low high left same = λ outcome is.
      run_recovers b other before now old new (λ (f : List ℕ). f ≡ other) i file file' outcome (beside_reads b other (old before) leaves' beside) kinds low high left same is

  -- while the kernel runs
  pub since_pair : (language : Language) (k n : Kernel) → LeavesOnly before now old new (IsLeftIn language k n) → (i : ℕ) (file file' : List ℕ) → before ≤ i → i ≤ now → new i file → file' ≡ other
      → PairIsLeftBetween k n (first_of b file file') (second_of b file file')
  since_pair language k n since i file file' low high left same = pair_left language k n file (first_of b file file') (second_of b file file') (like_current i file file' low high left same) (since.each i file low high left)

  -- when it has run
  pub now_pair : (n : Kernel) (file file' : List ℕ) → before ≤ now → new now file → file' ≡ other → HoldsOrMore n file → PairHoldsOrMore n (first_of b file file') (second_of b file file')
  now_pair n file file' later left same h = pair_holds n file (first_of b file file') (second_of b file file') (like_current now file file' later (omega arith) left same) h

base_alone : (k : Kernel) (records : List Record) → k.base ≡ records → k.commits ≡ [] → after_all k.base k.commits ≡ records
base_alone k records based none = ap (λ (l : List Commit). after_all k.base l) none ∙ based

-- while it is started
pub opening_pair : (shape : Shape) (found : Recovered) (k : Kernel) (main alt main' alt' : List ℕ) → RecoversPair main alt (Holds found) → IsOpened shape found.records k → HoldSame main alt main' alt' → PairHoldsCommits k main' alt'
opening_pair shape found k main alt main' alt' recovered opened same =
    let after = same.records found recovered in
    record { found = after.0; recovers = after.1; same = after.2 ∙ sym (base_alone k found.records opened.base opened.commits) }
