-- What a file is recovered to.
use Rattle.std.specs.Prelude.{◌≡◌, ◌≢◌, ◌⊎◌, ◌<◌, ◌≤◌, ◌+◌, ◌^◌, ℕ, suc, List, [], ◌∷◌, ◌++◌, length, Some}
use Rattle.std.specs.List.{flat_map}
use Rattle.sp_rect.specs.declared.record.Record.{Record}
use Rattle.sp_plain.specs.declared.change.Change.{Change}
use Rattle.sp_plain.specs.Taking.{taken}
use Rattle.sp_journal.specs.declared.types.Recovered.{Recovered}
use Rattle.sp_journal.specs.Format.{header_bytes, entry_bytes, body_bytes, batch_bytes, checkpoint_bytes, IsBatch, IsCheckpoint}

-- no records, batches or commits
abbrev pub nothing : Recovered
nothing = record { records = []; batches = 0; commits = 0 }

-- the changes of all commits, in order
abbrev pub all_changes : List (List Change) → List Change
all_changes commits = flat_map (λ c. c) commits

-- with one batch more, of so many commits, which leaves these records
abbrev pub with_batch : List Record → ℕ → Recovered → Recovered
with_batch records commits found = record { records = records; batches = suc found.batches; commits = found.commits + commits }

-- version 1 without a generation, or version 2 with one
abbrev pub IsHeader : ℕ → ℕ → Type 0
IsHeader version generation = ((version ≡ 1) × (generation ≡ 0)) ⊎ ((version ≡ 2) × (1 ≤ generation) × (generation < 2 ^ 63))

-- An entry of this payload may stand behind these entries and can be applied, and leads to this. The first
-- entry of a file of generation 2 or more is a checkpoint, and every other entry is a batch.
pub data Enters (generation : ℕ) (front : List ℕ) (found : Recovered) : List ℕ → Recovered → Type 0 where
  batch : (commits : List (List Change)) (records : List Record) → (2 ≤ generation → 1 ≤ length front) → IsBatch commits → taken (all_changes commits) found.records ≡ Some records
      → Enters generation front found (batch_bytes commits) (with_batch records (length commits) found)
  checkpoint : (records : List Record) → 2 ≤ generation → front ≡ [] → IsCheckpoint records → Enters generation front found (checkpoint_bytes records) (record { records = records; batches = 0; commits = 0 })

-- Whole entries, one after the other from the first gate on, and what they lead to.
pub data Leads (generation : ℕ) : List ℕ → Recovered → Type 0 where
  start : Leads generation [] nothing
  more : (front payload : List ℕ) (found after : Recovered) → Leads generation front found → Enters generation front found payload after → Leads generation (front ++ entry_bytes payload) after

-- Behind an open gate after these entries stands a whole entry, with its next gate, that may stand there
-- and can be applied.
pub record HasEntry (generation : ℕ) (front : List ℕ) (found : Recovered) (rest : List ℕ) : Type 0 where
  pub payload : List ℕ
  pub next : List ℕ
  pub after : Recovered
  pub enters : Enters generation front found payload after
  pub gate : 1 ≤ length next
  pub is : rest ≡ body_bytes payload ++ next

-- A header and whole entries, and what these lead to.
pub record Base : Type 0 where
  pub version : ℕ
  pub generation : ℕ
  pub front : List ℕ
  pub found : Recovered

pub record IsBase (base : Base) : Type 0 where
  pub header : IsHeader base.version base.generation
  pub leads : Leads base.generation base.front base.found

-- the bytes up to the gate behind them
abbrev pub head : Base → List ℕ
head base = header_bytes base.version base.generation ++ base.front

pub data Outcome : Type 0 where
  Foreign : Outcome
  Damaged : ℕ → Outcome
  Holds : Recovered → Outcome

-- What the file is recovered to. At most 17 bytes hold nothing: they are an unfinished creation, or a file
-- without an entry. More bytes without a header are foreign. Else the entries count up to the first gate
-- that is closed, whatever stands behind it; where that is the first gate of a file of generation 2 or more,
-- its writing is unfinished, and it holds nothing. A gate that is open with no entry behind it is damage, and
-- is named by its offset.
pub data Recovers (file : List ℕ) : Outcome → Type 0 where
  empty : length file ≤ 17 → Recovers file (Holds nothing)
  foreign : 17 < length file → ((version generation : ℕ) (rest : List ℕ) → IsHeader version generation → file ≢ header_bytes version generation ++ rest) → Recovers file Foreign
  closed : (base : Base) (gate : ℕ) (tail : List ℕ) → 17 < length file → IsBase base → gate ≢ 1 → file ≡ head base ++ gate ∷ tail → Recovers file (Holds base.found)
  damaged : (base : Base) (rest : List ℕ) → 17 < length file → IsBase base → (HasEntry base.generation base.front base.found rest → ⊥) → file ≡ head base ++ 1 ∷ rest
      → Recovers file (Damaged (length (head base)))

-- The file that a journal begins with: version 2, generation 1, and a closed gate.
abbrev pub new_file : List ℕ
new_file = header_bytes 2 1 ++ 0 ∷ []

-- The file is made anew at opening: it is empty but for a creation that was not finished, or the writing of
-- its first entry, a checkpoint, was not finished.
pub data NeedsMaking (file : List ℕ) : Type 0 where
  short : length file ≤ 17 → NeedsMaking file
  unfinished : (generation gate : ℕ) (tail : List ℕ) → 2 ≤ generation → generation < 2 ^ 63 → gate ≢ 1 → file ≡ header_bytes 2 generation ++ gate ∷ tail → NeedsMaking file

-- the file holds nothing
abbrev pub HoldsNothing : List ℕ → Type 0
HoldsNothing file = Recovers file (Holds nothing)
