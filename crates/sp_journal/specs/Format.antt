-- The bytes of a journal file. All numbers are big endian.
use Rattle.std.specs.Prelude.{ℕ, ℤ, ◌+◌, ◌<◌, ◌≤◌, ◌^◌, slice_index_or, List, [], ◌∷◌, ◌++◌, length, IsTrue}
use Rattle.std.specs.List.{flat_map}
use Rattle.std.specs.Int.{w32, cast_unsigned}
use Rattle.byteorder.specs.Endian.{big_bytes}
use Rattle.sp_rect.specs.Plane.{Rectangle, IsRectangle}
use Rattle.sp_rect.specs.Value.{is_value}
use Rattle.sp_rect.specs.declared.record.Record.{Record}
use Rattle.sp_plain.specs.Taking.{most_records}
use Rattle.sp_plain.specs.declared.change.Change.{Change}
use Rattle.sp_plain.specs.declared.change.Change.TheVariants.{Put, Drop, Set}

-- a number in 4 bytes, and in 8
unfoldable pub u32_bytes : ℕ → List ℕ
u32_bytes n = big_bytes 4 n

unfoldable pub u64_bytes : ℕ → List ℕ
u64_bytes n = big_bytes 8 n

-- a coordinate, in two's complement
unfoldable pub coordinate_bytes : ℤ → List ℕ
coordinate_bytes z = u32_bytes (cast_unsigned w32 z)

unfoldable pub rect_bytes : Rectangle → List ℕ
rect_bytes r = coordinate_bytes r.x1 ++ coordinate_bytes r.y1 ++ coordinate_bytes r.x2 ++ coordinate_bytes r.y2

-- a value behind its length
unfoldable pub value_bytes : List ℕ → List ℕ
value_bytes v = length v ∷ v

-- a change behind the byte that says which it is
unfoldable pub put_bytes : Record → List ℕ
put_bytes r = 1 ∷ (u64_bytes r.id ++ rect_bytes r.rect ++ value_bytes r.value)

unfoldable pub drop_bytes : ℕ → List ℕ
drop_bytes id = 2 ∷ u64_bytes id

unfoldable pub set_bytes : ℕ → List ℕ → List ℕ
set_bytes id value = 3 ∷ (u64_bytes id ++ value_bytes value)

abbrev pub change_bytes : Change → List ℕ
change_bytes (Put r) = put_bytes r
change_bytes (Drop id) = drop_bytes id
change_bytes (Set id value) = set_bytes id value

-- the changes of a commit behind their number
unfoldable pub commit_bytes : List Change → List ℕ
commit_bytes changes = u32_bytes (length changes) ++ flat_map change_bytes changes

-- a batch: its commits behind their number
unfoldable pub batch_bytes : List (List Change) → List ℕ
batch_bytes commits = u32_bytes (length commits) ++ flat_map commit_bytes commits

-- a checkpoint: a zero, and its records behind their number
unfoldable pub checkpoint_bytes : List Record → List ℕ
checkpoint_bytes records = u32_bytes 0 ++ u32_bytes (length records) ++ flat_map put_bytes records

-- what stands behind the gate of an entry, up to the next gate
unfoldable pub body_bytes : List ℕ → List ℕ
body_bytes payload = u32_bytes (length payload) ++ payload

-- The first 16 bytes: `SPJL`, the version, and the generation, which is 0 in version 1.
unfoldable pub header_bytes : ℕ → ℕ → List ℕ
header_bytes version generation = (83 ∷ 80 ∷ 74 ∷ 76 ∷ []) ++ u32_bytes version ++ u64_bytes generation

-- the numbers, rectangle and value of a change are ones of a journal
pub record IsPut (r : Record) : Type 0 where
  pub id : r.id < 2 ^ 64
  pub rect : IsRectangle r.rect
  pub value : IsTrue (is_value r.value)

abbrev pub IsChange : Change → Type 0
IsChange (Put r) = IsPut r
IsChange (Drop id) = id < 2 ^ 64
IsChange (Set id value) = (id < 2 ^ 64) × IsTrue (is_value value)

abbrev pub AllChanges : List Change → Type 0
AllChanges [] = Unit {0}
AllChanges (change ∷ changes) = IsChange change × AllChanges changes

-- a commit has at least one change, and a batch at least one commit
pub record IsCommit (changes : List Change) : Type 0 where
  pub some : 1 ≤ length changes
  pub count : length changes < 2 ^ 32
  pub each : AllChanges changes

abbrev pub AllCommits : List (List Change) → Type 0
AllCommits [] = Unit {0}
AllCommits (commit ∷ commits) = IsCommit commit × AllCommits commits

pub record IsBatch (commits : List (List Change)) : Type 0 where
  pub some : 1 ≤ length commits
  pub count : length commits < 2 ^ 32
  pub each : AllCommits commits
  pub size : length (batch_bytes commits) < 2 ^ 32

-- an entry that is open
abbrev pub entry_bytes : List ℕ → List ℕ
entry_bytes payload = 1 ∷ body_bytes payload

-- the batch of these commits as it is written behind a gate, with its own closed gate
abbrev pub framed : List (List Change) → List ℕ
framed commits = body_bytes (batch_bytes commits) ++ 0 ∷ []

-- the records of a checkpoint, by strictly ascending id
pub record IsCheckpoint (records : List Record) : Type 0 where
  pub count : length records ≤ most_records
  pub each : (k : ℕ) (d : Record) → k < length records → IsPut (slice_index_or records k d)
  pub ascending : (k : ℕ) (d : Record) → k + 1 < length records → (slice_index_or records k d).id < (slice_index_or records (k + 1) d).id
