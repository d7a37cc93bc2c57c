-- What a stop leaves while a file is written anew.
use Rattle.std.proofs.Common.{◌≡◌, ◌≢◌, inl, inr, ◌+◌, ◌<◌, ◌≤◌, ◌^◌, ℕ, List, [], ◌∷◌, ◌++◌, length, drop, sym, ◌∙◌, ap, subst, arith, append_assoc, length-append}
use Rattle.std.proofs.lemmas.List.{take_at, drop_all, append-nil}
use Rattle.std.proofs.Math.ListN.{replicate}
use Rattle.std.proofs.lemmas.Bool.{cases_eq}
use Rattle.sp_disk.specs.Files.{put, Torn}
use Rattle.sp_disk.specs.Laws.{torn_same}
use Rattle.sp_disk.specs.Moments.{Passes, LeavesOnly}
use Rattle.sp_journal.specs.Format.{header_bytes}
use Rattle.sp_journal.specs.Recovery.{NeedsMaking, unfinished}
use Rattle.sp_journal.proofs.Crashes.{length-header, torn_behind, torn_gate, put_gate}
use Rattle.sp_journal.proofs.Making.{chained}
use Rattle.sp_journal.proofs.Opened.{leaves_weaker}
use Rattle.sp_journal.proofs.Passing.{one_call}
use Rattle.sp_pair.specs.Compacting.{begun, IsFilled}

-- a write over what is settled
pub torn_only : (before now : ℕ) (old new : ℕ → List ℕ → Type 0) (reads : List ℕ) (at n : ℕ) → Passes before now old new → ((file : List ℕ) → old before file → file ≡ reads)
    → ((file : List ℕ) → new now file → (was : List ℕ) × old before was × Torn at n was file) → LeavesOnly before now old new (Torn at n reads)
torn_only before now old new reads at n passes only torn =
    one_call before now old new (Torn at n reads) passes (λ file left. subst (λ (f : List ℕ). Torn at n reads f) (sym (only file left)) (torn_same reads at n))
    (λ file left. let t = torn file left in subst (λ (was : List ℕ). Torn at n was file) (only t.0 t.1) t.2)

-- and a sync, whatever it answers
pub and_sync : (before mid now : ℕ) (old between new : ℕ → List ℕ → Type 0) (P : List ℕ → Type 0) → LeavesOnly before mid old between P → Passes mid now between new
    → ((file : List ℕ) → new now file → between mid file) → LeavesOnly before now old new P
and_sync before mid now old between new P only passes at_most =
    let here : (file : List ℕ) → between mid file → P file = λ file left. only.each mid file only.later (omega arith) left in
    chained before mid now old between new P only (one_call mid now between new P passes here (λ file left. here file (at_most file left)))

zero≢1 : let zero_gate : ℕ = 0 in zero_gate ≢ 1
zero≢1 e = omega arith

-- the body behind the closed gate
pub body_unfilled : (generation n : ℕ) (was file : List ℕ) → 2 ≤ generation → generation < 2 ^ 63 → was ≡ begun generation → Torn 17 n was file → NeedsMaking file
body_unfilled generation n was file low high is torn =
    let front : List ℕ = header_bytes 2 generation in
    let place : 17 ≡ length front + 1 = omega (arith, length-header 2 generation) in
    let got = torn_behind front 0 [] n was file is (subst (λ (at : ℕ). Torn at n was file) place torn) in
    unfinished generation 0 got.0 low high zero≢1 got.1

-- the gate, over the body
pub gate_filled : (generation : ℕ) (body was file : List ℕ) → 2 ≤ generation → generation < 2 ^ 63 → was ≡ header_bytes 2 generation ++ 0 ∷ body → Torn 16 1 was file → IsFilled (header_bytes 2 generation ++ 1 ∷ body) file
gate_filled generation body was file low high is torn =
    let front : List ℕ = header_bytes 2 generation in
    let place : 16 ≡ length front = omega (arith, length-header 2 generation) in
    let got = torn_gate front 0 body was file is (subst (λ (at : ℕ). Torn at 1 was file) place torn) in
    elim (cases_eq got.0 1) [
      | inl one ↦ inr (got.1 ∙ ap (λ (g : ℕ). front ++ g ∷ body) one)
      | inr shut ↦ inl (unfinished generation got.0 body low high shut got.1)
    ]

-- a write at the end
pub put_end : (file bytes was : List ℕ) (at : ℕ) → was ≡ file → length file ≡ at → put was at bytes ≡ file ++ bytes
put_end file bytes was at is long =
    ap (λ (l : List ℕ). put l at bytes) is
    ∙ ap (λ (l : List ℕ). l ++ bytes ++ drop (at + length bytes) file) (take_at file (replicate at 0) at long)
    ∙ ap (λ (l : List ℕ). file ++ bytes ++ l) (drop_all (at + length bytes) file (omega (arith, long)))
    ∙ append-nil (file ++ bytes)

pub body_written : (generation : ℕ) (body was reads : List ℕ) → was ≡ begun generation → reads ≡ put was 17 body → reads ≡ header_bytes 2 generation ++ 0 ∷ body
body_written generation body was reads is written =
    let front : List ℕ = header_bytes 2 generation in
    written ∙ put_end (begun generation) body was 17 is (omega (arith, length-append front (0 ∷ []), length-header 2 generation)) ∙ append_assoc front (0 ∷ []) body

pub gate_written : (generation : ℕ) (body was reads : List ℕ) → was ≡ header_bytes 2 generation ++ 0 ∷ body → reads ≡ put was 16 (1 ∷ []) → reads ≡ header_bytes 2 generation ++ 1 ∷ body
gate_written generation body was reads is written =
    let front : List ℕ = header_bytes 2 generation in
    let place : 16 ≡ length front = omega (arith, length-header 2 generation) in
    written ∙ ap (λ (at : ℕ). put was at (1 ∷ [])) place ∙ put_gate front 0 1 body was is

-- the two writes, one after the other
pub body_only : (before mid : ℕ) (old between : ℕ → List ℕ → Type 0) (generation n : ℕ) (was whole : List ℕ) → 2 ≤ generation → generation < 2 ^ 63 → was ≡ begun generation
    → LeavesOnly before mid old between (Torn 17 n was) → LeavesOnly before mid old between (IsFilled whole)
body_only before mid old between generation n was whole low high is only = leaves_weaker before mid old between (Torn 17 n was) (IsFilled whole) (λ file torn. inl (body_unfilled generation n was file low high is torn)) only

pub gate_only : (before mid now : ℕ) (old between new : ℕ → List ℕ → Type 0) (generation : ℕ) (body was reads : List ℕ) → 2 ≤ generation → generation < 2 ^ 63 → was ≡ begun generation → reads ≡ put was 17 body
    → LeavesOnly before mid old between (Torn 17 (length body) was) → LeavesOnly mid now between new (Torn 16 1 reads) → LeavesOnly before now old new (IsFilled (header_bytes 2 generation ++ 1 ∷ body))
gate_only before mid now old between new generation body was reads low high is written one two =
    let whole : List ℕ = header_bytes 2 generation ++ 1 ∷ body in
    chained before mid now old between new (IsFilled whole) (body_only before mid old between generation (length body) was whole low high is one)
    (leaves_weaker mid now between new (Torn 16 1 reads) (IsFilled whole) (λ file torn. gate_filled generation body reads file low high (body_written generation body was reads is written) torn) two)
