-- A disk in memory as it reads is one of the files that a stop may leave.
use Rattle.std.specs.Prelude.{◌≡◌, ℕ, ◌+◌, min, max, true, false, List, [], ◌∷◌, ◌++◌, length, take, drop}
use Rattle.std.proofs.Common.{refl, sym, ◌∙◌, ap, subst, arith, length-append}
use Rattle.std.proofs.Math.ListN.{replicate}
use Rattle.std.proofs.lemmas.List.{take_all, take_min, take-take, drop_at, take-append-le, length-take, length-take-le, length-drop, length-replicate}
use Rattle.sp_disk.specs.declared.history.DiskCall.{DiskCall}
use Rattle.sp_disk.specs.declared.history.DiskCall.TheVariants.{Look, Write, Cut, Sync}
use Rattle.sp_disk.specs.Files.{put, Torn, Shortened}
use Rattle.sp_disk.specs.History.{History, done, reads_after, reads_of, may_tear, left, images_of}

-- the part of the file before the range, with its gap
pub length-front : (file : List ℕ) (at : ℕ) → length (take at (file ++ replicate at 0)) ≡ at
length-front file at = length-take-le at _ (omega (arith, length-append file (replicate at 0), length-replicate {A = ℕ} at 0))

pub length-put : (file : List ℕ) (at : ℕ) (bytes : List ℕ) → length (put file at bytes) ≡ max (length file) (at + length bytes)
length-put file at bytes =
    omega (arith, length-append (take at (file ++ replicate at 0) ++ bytes) (drop (at + length bytes) file), length-append (take at (file ++ replicate at 0)) bytes, length-front file at, length-drop (at + length bytes) file)

pub before_put : (file : List ℕ) (at : ℕ) (bytes : List ℕ) → take (min at (length file)) (put file at bytes) ≡ take at file
before_put file at bytes =
    take-append-le _ _ _ (omega (arith, length-append (take at (file ++ replicate at 0)) bytes, length-front file at))
    ∙ take-append-le _ _ _ (omega (arith, length-front file at))
    ∙ take-take (min at (length file)) at _ (omega arith)
    ∙ take-append-le _ _ _ (omega arith)
    ∙ take_min at file

pub behind_put : (file : List ℕ) (at : ℕ) (bytes : List ℕ) → drop (at + length bytes) (put file at bytes) ≡ drop (at + length bytes) file
behind_put file at bytes = drop_at (take at (file ++ replicate at 0) ++ bytes) (drop (at + length bytes) file) (at + length bytes) (omega (arith, length-append (take at (file ++ replicate at 0)) bytes, length-front file at))

-- a whole write is one of those that a stop may leave
pub torn_put : (file : List ℕ) (at : ℕ) (bytes : List ℕ) → Torn at (length bytes) file (put file at bytes)
torn_put file at bytes = record {
  before = before_put file at bytes;
  behind = behind_put file at bytes;
  no_shorter = omega (arith, length-put file at bytes);
  no_longer = omega (arith, length-put file at bytes);
}

-- and so is one that is missing
pub torn_same : (file : List ℕ) (at n : ℕ) → Torn at n file file
torn_same file at n = record { before = take_min at file; behind = refl; no_shorter = omega arith; no_longer = omega arith }

pub shortened_take : (file : List ℕ) (len : ℕ) → Shortened len file (take len file)
shortened_take file len = record { front = sym (ap (λ n. take n file) (length-take len file) ∙ take_min len file); no_shorter = omega (arith, length-take len file) }

pub shortened_same : (file : List ℕ) (len : ℕ) → Shortened len file file
shortened_same file len = record { front = sym (take_all (length file) file (omega arith)); no_shorter = omega arith }

one_call : (call : DiskCall) (reads : List ℕ) (before : List ℕ → Type 0) → before reads → may_tear call reads before (done call reads)
one_call (Look made) reads before is = is
one_call (Write at bytes true) reads before is = (reads, is, torn_put reads at bytes)
one_call (Write at bytes false) reads before is = (reads, is, torn_same reads at (length bytes))
one_call (Cut len true) reads before is = (reads, is, shortened_take reads len)
one_call (Cut len false) reads before is = (reads, is, shortened_same reads len)
one_call (Sync true) reads before is = refl
one_call (Sync false) reads before is = is

pub reads_left : (reads : List ℕ) (before : List ℕ → Type 0) (calls : List DiskCall) → before reads → left may_tear reads before calls (reads_after reads calls)
reads_left reads before [] is = is
reads_left reads before (call ∷ calls) is = reads_left (done call reads) (may_tear call reads before) calls (one_call call reads before is)

pub reads_now : (h : History) → images_of h (length h.calls) (reads_of h)
reads_now h =
    subst (λ calls. left may_tear h.start (λ f. f ≡ h.start) calls (reads_of h)) (sym (take_all (length h.calls) h.calls (omega arith))) (reads_left h.start (λ f. f ≡ h.start) h.calls refl)
