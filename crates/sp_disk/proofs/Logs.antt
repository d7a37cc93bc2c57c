-- One call more in the log of a file in memory, and a write into a vector.
use Rattle.std.proofs.Common.{◌≡◌, ◌≤◌, ℕ, zero, suc, ◌+◌, ◌-◌, Bool, true, false, List, [], ◌∷◌, ◌++◌, length, take, drop, refl, sym, ◌∙◌, ap, arith, length-append, length-take, length-drop, append_assoc}
use Rattle.std.proofs.Math.ListN.{replicate}
use Rattle.std.proofs.lemmas.List.{take-replicate, take_at, append-nil, drop-drop, drop_all, length-replicate}
use borrow.Rule.Slice.PartMut.{put_mid, same_len_mid, mid_of, post_of}
use Rattle.sp_disk.specs.declared.history.DiskCall.{DiskCall}
use Rattle.sp_disk.specs.declared.history.DiskCall.TheVariants.{Write, Cut}
use Rattle.sp_disk.specs.Files.{put}
use Rattle.sp_disk.specs.History.{done, reads_after}

pub reads_push : (file : List ℕ) (calls : List DiskCall) (call : DiskCall) → reads_after file (calls ++ call ∷ []) ≡ done call (reads_after file calls)
reads_push file [] call = refl
reads_push file (first ∷ calls) call = reads_push (done first file) calls call

-- the bytes that a log keeps, after one call
pub logged : (start bytes new : List ℕ) (calls later : List DiskCall) (call : DiskCall) → bytes ≡ reads_after start calls → later ≡ calls ++ call ∷ [] → new ≡ done call bytes → new ≡ reads_after start later
logged start bytes new calls later call is push now =
    now ∙ ap (λ file. done call file) is ∙ sym (reads_push start calls call) ∙ ap (λ l. reads_after start l) (sym push)

pub write_done : (file new kept bytes : List ℕ) (at : ℕ) (made : Bool) → made ≡ true → kept ≡ bytes → new ≡ put file at bytes → new ≡ done (Write at kept made) file
write_done file new kept bytes at made is same now = rw (is, same) now

pub write_not_done : (file kept : List ℕ) (at : ℕ) (made : Bool) → made ≡ false → file ≡ done (Write at kept made) file
write_not_done file kept at made is = rw is refl

pub cut_done : (file new : List ℕ) (len : ℕ) (made : Bool) → made ≡ true → new ≡ take len file → new ≡ done (Cut len made) file
cut_done file new len made is now = rw is now

pub cut_not_done : (file : List ℕ) (len : ℕ) (made : Bool) → made ≡ false → file ≡ done (Cut len made) file
cut_not_done file len made is = rw is refl

-- the front of a file that is filled up far enough
padded : (file : List ℕ) (at m n : ℕ) → at ≤ length file + m → at ≤ length file + n → take at (file ++ replicate m 0) ≡ take at (file ++ replicate n 0)
padded [] at m n first second = take-replicate at m 0 (omega arith) ∙ sym (take-replicate at n 0 (omega arith))
padded (x ∷ file) zero m n first second = refl
padded (x ∷ file) (suc at) m n first second = ap (λ (l : List ℕ). x ∷ l) (padded file at m n (omega arith) (omega arith))

-- and its end
rest : (file : List ℕ) (at n : ℕ) → n ≡ at - length file → drop at (file ++ replicate n 0) ≡ drop at file
rest [] at n is = drop_all at (replicate n 0) (omega (arith, length-replicate {A = ℕ} n 0)) ∙ sym (drop_all at [] (omega arith))
rest (x ∷ file) zero n is = let none : n ≡ 0 = omega arith in ap (λ (k : ℕ). (x ∷ file) ++ replicate k 0) none ∙ append-nil (x ∷ file)
rest (x ∷ file) (suc at) n is = rest file at n (omega arith)

pub overwritten : (file bytes copied old grown : List ℕ) (at len : ℕ) → copied ≡ bytes → grown ≡ file ++ replicate (at + length bytes - length file) 0 → old ≡ grown → len ≡ length grown
    → take len (put_mid at (at + length bytes - at) grown copied ++ drop (length (put_mid at (at + length bytes - at) grown copied)) old) ≡ put file at bytes
overwritten file bytes copied old grown at len copy is was long =
    let end : ℕ = at + length bytes in
    let more : ℕ = end - length file in
    let size : length bytes ≡ end - at = omega arith in
    let long_grown : length grown ≡ length file + more = ap length is ∙ length-append file (replicate more 0) ∙ ap (λ (n : ℕ). length file + n) (length-replicate more 0) in
    let part : List ℕ = put_mid at (end - at) grown bytes in
    let middle : length bytes ≡ length (mid_of at (end - at) grown) = omega (arith, size, long_grown, length-take (end - at) (drop at grown), length-drop at grown) in
    let same : length part ≡ length grown = same_len_mid at (end - at) grown bytes middle in
    let front : take at grown ≡ take at (file ++ replicate at 0) = ap (λ (l : List ℕ). take at l) is ∙ padded file at more at (omega arith) (omega arith) in
    let sum : at + (end - at) ≡ end = omega arith in
    let behind : post_of at (end - at) grown ≡ drop end file = drop-drop (end - at) at grown ∙ ap (λ (n : ℕ). drop n grown) sum ∙ ap (λ (l : List ℕ). drop end l) is ∙ rest file end more refl in
    let whole : take len (part ++ drop (length part) old) ≡ part = take_at part (drop (length part) old) len (omega (arith, same, long)) in
    ap (λ (l : List ℕ). take len (put_mid at (end - at) grown l ++ drop (length (put_mid at (end - at) grown l)) old)) copy
    ∙ whole
    ∙ ap (λ (l : List ℕ). l ++ (bytes ++ post_of at (end - at) grown)) front
    ∙ ap (λ (l : List ℕ). take at (file ++ replicate at 0) ++ (bytes ++ l)) behind
    ∙ sym (append_assoc (take at (file ++ replicate at 0)) bytes (drop end file))
