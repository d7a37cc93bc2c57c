-- A disk in memory, as the bytes that it had first and the calls that were made on it since.
use Rattle.std.specs.Prelude.{◌≡◌, ◌⊎◌, ℕ, suc, Bool, true, false, if◌then◌else◌, List, [], ◌∷◌, ◌++◌, length, take}
use Rattle.sp_disk.specs.declared.history.DiskCall.{DiskCall}
use Rattle.sp_disk.specs.declared.history.DiskCall.TheVariants.{Look, Write, Cut, Sync}
use Rattle.sp_disk.specs.Files.{put, Torn, Shortened}

pub record History : Type 0 where
  pub start : List ℕ
  pub calls : List DiskCall

-- The history with one call more.
abbrev pub add : History → DiskCall → History
add h call = record { start = h.start; calls = h.calls ++ call ∷ [] }

-- What a read gives after the call, of a file that it gave before. A call that failed leaves it.
abbrev pub done : DiskCall → List ℕ → List ℕ
done (Look made) file = file
done (Write at bytes made) file = if made then put file at bytes else file
done (Cut len made) file = if made then take len file else file
done (Sync made) file = file

-- What a read gives after these calls.
abbrev pub reads_after : List ℕ → List DiskCall → List ℕ
reads_after file [] = file
reads_after file (call ∷ calls) = reads_after (done call file) calls

abbrev pub reads_of : History → List ℕ
reads_of h = reads_after h.start h.calls

-- The files that a stop may leave after the call: what it did to one of those before it. A call that
-- failed counts as made, and only a sync that did not fail settles what a read gives.
abbrev pub may_tear : DiskCall → List ℕ → (List ℕ → Type 0) → List ℕ → Type 0
may_tear (Look made) reads before file = before file
may_tear (Write at bytes made) reads before file = (was : List ℕ) × before was × Torn at (length bytes) was file
may_tear (Cut len made) reads before file = (was : List ℕ) × before was × Shortened len was file
may_tear (Sync true) reads before file = file ≡ reads
may_tear (Sync false) reads before file = before file

-- Of those, the files in which each write is whole, missing or cut after its first byte, and each cut is
-- done or not.
abbrev pub is_sampled : DiskCall → List ℕ → (List ℕ → Type 0) → List ℕ → Type 0
is_sampled (Look made) reads before file = before file
is_sampled (Write at bytes made) reads before file =
    (was : List ℕ) × before was × ((file ≡ was) ⊎ ((file ≡ put was at (take 1 bytes)) ⊎ (file ≡ put was at bytes)))
is_sampled (Cut len made) reads before file = (was : List ℕ) × before was × ((file ≡ was) ⊎ (file ≡ take len was))
is_sampled (Sync true) reads before file = file ≡ reads
is_sampled (Sync false) reads before file = before file

-- The files after these calls, by what one call may leave.
abbrev pub left : (DiskCall → List ℕ → (List ℕ → Type 0) → List ℕ → Type 0) → List ℕ → (List ℕ → Type 0) → List DiskCall → List ℕ → Type 0
left step reads before [] file = before file
left step reads before (call ∷ calls) file = left step (done call reads) (step call reads before) calls file

-- The files that a stop after that many calls might have left.
abbrev pub images_of : History → ℕ → List ℕ → Type 0
images_of h moment file = left may_tear h.start (λ f. f ≡ h.start) (take moment h.calls) file

-- The samples of them.
abbrev pub samples_of : History → ℕ → List ℕ → Type 0
samples_of h moment file = left is_sampled h.start (λ f. f ≡ h.start) (take moment h.calls) file

-- Whether the call did not fail.
abbrev pub is_made : DiskCall → Bool
is_made (Look made) = made
is_made (Write at bytes made) = made
is_made (Cut len made) = made
is_made (Sync made) = made

-- How many of the calls have failed.
abbrev pub failures : List DiskCall → ℕ
failures [] = 0
failures (call ∷ calls) = if is_made call then failures calls else suc (failures calls)
