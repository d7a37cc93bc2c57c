-- How far the reading of a file's entries has come.
use Rattle.std.specs.Prelude.{◌≡◌, ◌≢◌, ℕ, List, ◌∷◌, ◌++◌, length, drop}
use Rattle.sp_journal.specs.declared.chain.Chain.{Chain}
use Rattle.sp_journal.specs.declared.turn.Turn.{Turn}
use Rattle.sp_journal.specs.declared.turn.Turn.TheVariants.{Closed, Damaged, Entered}
use Rattle.sp_journal.specs.declared.types.Recovered.{Recovered}
use Rattle.sp_journal.specs.Recovery.{Base, IsBase, HasEntry, head}

-- what was found so far
abbrev pub found_in : Chain → Recovered
found_in chain = record { records = chain.store; batches = chain.batches; commits = chain.commits }

-- The entries of the base were read, and the gate behind them comes next.
pub record Reached (file : List ℕ) (chain : Chain) (base : Base) : Type 0 where
  pub is : IsBase base
  pub generation : base.generation ≡ chain.generation
  pub at : chain.at ≡ length (head base)
  pub found : base.found ≡ found_in chain
  pub stands : file ≡ head base ++ drop chain.at file

-- All entries were read: the gate behind those of the base is closed.
pub record Ended (file : List ℕ) (chain : Chain) (base : Base) : Type 0 where
  pub is : IsBase base
  pub generation : base.generation ≡ chain.generation
  pub at : chain.at ≡ length (head base)
  pub found : base.found ≡ found_in chain
  pub gate : ℕ
  pub tail : List ℕ
  pub shut : gate ≢ 1
  pub stands : file ≡ head base ++ gate ∷ tail

-- The gate behind the entries of the base is open, and there is no entry behind it.
pub record Broken (file : List ℕ) (chain : Chain) (base : Base) : Type 0 where
  pub is : IsBase base
  pub at : chain.at ≡ length (head base)
  pub rest : List ℕ
  pub none : HasEntry base.generation base.front base.found rest → ⊥
  pub stands : file ≡ head base ++ 1 ∷ rest

-- what stands at the gate behind the entries of the base
abbrev pub Turned : Turn → List ℕ → Chain → Base → Type 0
Turned Closed file chain base = Ended file chain base
Turned Damaged file chain base = Broken file chain base
Turned Entered file chain base = (next : Base) × (next.version ≡ base.version) × Reached file chain next

-- what stands at the end of the entries of the file
abbrev pub Stopped : Turn → List ℕ → Chain → ℕ → Type 0
Stopped Closed file chain version = (base : Base) × (base.version ≡ version) × Ended file chain base
Stopped Damaged file chain version = (base : Base) × (base.version ≡ version) × Broken file chain base
Stopped Entered file chain version = ⊥
