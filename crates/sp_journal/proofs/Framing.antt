-- Batches in the form in which they are written, one commit longer and without commits.
use Rattle.std.proofs.Common.{◌≡◌, ◌+◌, ◌-◌, ◌≤◌, ℕ, List, [], ◌∷◌, ◌++◌, length, take, drop, refl, sym, ◌∙◌, ap, arith, append_assoc, length-append, length-take, length-drop}
use Rattle.std.specs.List.{flat_map}
use Rattle.std.proofs.Common.{set}
use Rattle.std.proofs.lemmas.List.{take_at, drop_at, set_at, append-nil}
use Rattle.sp_plain.specs.declared.change.Change.{Change}
use Rattle.sp_journal.specs.Format.{u32_bytes, body_bytes, batch_bytes, commit_bytes, framed}
use Rattle.sp_journal.proofs.Chunks.{length-u32}

pub flat_push : (q : List (List Change)) (c : List Change) → flat_map commit_bytes (q ++ c ∷ []) ≡ flat_map commit_bytes q ++ commit_bytes c
flat_push [] c = append-nil (commit_bytes c)
flat_push (x ∷ q) c = ap (λ (l : List ℕ). commit_bytes x ++ l) (flat_push q c) ∙ sym (append_assoc (commit_bytes x) (flat_map commit_bytes q) (commit_bytes c))

pub added : (q : List (List Change)) (c : List Change) (old commit longer shown new items : List ℕ) (size count len : ℕ) → old ≡ framed q → commit ≡ commit_bytes c ++ 0 ∷ [] → count ≡ length q + 1
    → longer ≡ take (length old - 1) old ++ commit → shown ≡ longer → size ≡ length longer - 5 → new ≡ (u32_bytes size ++ u32_bytes count) ++ drop 8 shown → len ≡ length longer
    → take len (new ++ drop (length new) items) ≡ framed (q ++ c ∷ [])
unfolding body_bytes batch_bytes
added q c old commit longer shown new items size count len old_is commit_is count_is longer_is shown_is size_is new_is len_is =
    let F : List ℕ = flat_map commit_bytes q in
    let P : List ℕ = u32_bytes (length (u32_bytes (length q) ++ F)) in
    let K : List ℕ = u32_bytes (length q) in
    let B : List ℕ = P ++ (K ++ F) in
    let C : List ℕ = commit_bytes c in
    let size_old : length old ≡ length B + 1 = ap length old_is ∙ length-append B (0 ∷ []) in
    let front : take (length old - 1) old ≡ B = ap (λ (l : List ℕ). take (length old - 1) l) old_is ∙ take_at B (0 ∷ []) (length old - 1) (omega (arith, size_old)) in
    let all : longer ≡ (P ++ K) ++ (F ++ (C ++ 0 ∷ [])) = longer_is ∙ ap (λ (l : List ℕ). l ++ commit) front ∙ ap (λ (l : List ℕ). B ++ l) commit_is ∙ simp append_assoc in
    let eight : length (P ++ K) ≡ 8 = length-append P K ∙ omega (arith, length-u32 (length (K ++ F)), length-u32 (length q)) in
    let rest : drop 8 shown ≡ F ++ (C ++ 0 ∷ []) = ap (λ (l : List ℕ). drop 8 l) (shown_is ∙ all) ∙ drop_at (P ++ K) (F ++ (C ++ 0 ∷ [])) 8 eight in
    let B' : List ℕ = u32_bytes (length (q ++ c ∷ [])) ++ flat_map commit_bytes (q ++ c ∷ []) in
    let long : length longer ≡ 8 + (length F + (length C + 1)) = ap length all ∙ length-append (P ++ K) (F ++ (C ++ 0 ∷ [])) ∙ omega (arith, eight, length-append F (C ++ 0 ∷ []), length-append C (0 ∷ [])) in
    let payload : length B' ≡ 4 + (length F + length C) = length-append (u32_bytes (length (q ++ c ∷ []))) (flat_map commit_bytes (q ++ c ∷ [])) ∙ omega (arith, length-u32 (length (q ++ c ∷ [])), ap length (flat_push q c), length-append F C) in
    let sized : size ≡ length B' = omega (arith, size_is, long, payload) in
    let counted : count ≡ length (q ++ c ∷ []) = omega (arith, count_is, length-append q (c ∷ [])) in
    let whole : new ≡ (u32_bytes (length B') ++ u32_bytes (length (q ++ c ∷ []))) ++ (F ++ (C ++ 0 ∷ [])) = new_is ∙ ap (λ (l : List ℕ). (u32_bytes size ++ u32_bytes count) ++ l) rest ∙ rw (sized, counted) refl in
    let new_long : length new ≡ len = ap length whole ∙ omega (arith, length-append (u32_bytes (length B') ++ u32_bytes (length (q ++ c ∷ []))) (F ++ (C ++ 0 ∷ [])), length-append (u32_bytes (length B')) (u32_bytes (length (q ++ c ∷ []))), length-u32 (length B'), length-u32 (length (q ++ c ∷ [])), length-append F (C ++ 0 ∷ []), length-append C (0 ∷ []), len_is, long) in
    take_at new (drop (length new) items) len new_long ∙ whole ∙ rw flat_push (simp append_assoc)

one_more : (xs : List ℕ) → length xs ≡ 1 → (x : ℕ) × (xs ≡ x ∷ [])
one_more [] is = absurd (omega (arith, is))
one_more (x ∷ []) is = (x, refl)
one_more (x ∷ y ∷ xs) is = absurd (omega (arith, is))

pub cleared : (old cut shown new items : List ℕ) (len : ℕ) → 9 ≤ length old → cut ≡ take 9 old → shown ≡ cut → new ≡ (u32_bytes 4 ++ u32_bytes 0) ++ drop 8 shown → len ≡ length cut
    → set (take len (new ++ drop (length new) items)) 8 0 ≡ framed []
unfolding body_bytes batch_bytes
cleared old cut shown new items len long cut_is shown_is new_is len_is =
    let nine : length shown ≡ 9 = omega (arith, ap length shown_is, ap length cut_is, length-take 9 old, long) in
    let last = one_more (drop 8 shown) (omega (arith, length-drop 8 shown, nine)) in
    let eight : length (u32_bytes 4 ++ u32_bytes 0) ≡ 8 = length-append (u32_bytes 4) (u32_bytes 0) ∙ omega (arith, length-u32 4, length-u32 0) in
    let whole : new ≡ (u32_bytes 4 ++ u32_bytes 0) ++ last.0 ∷ [] = new_is ∙ ap (λ (l : List ℕ). (u32_bytes 4 ++ u32_bytes 0) ++ l) last.1 in
    let size : length new ≡ len = ap length whole ∙ length-append (u32_bytes 4 ++ u32_bytes 0) (last.0 ∷ []) ∙ omega (arith, eight, nine, ap length shown_is, len_is) in
    let none : length (u32_bytes 0 ++ []) ≡ 4 = ap length (append-nil (u32_bytes 0)) ∙ length-u32 0 in
    ap (λ (l : List ℕ). set l 8 0) (take_at new (drop (length new) items) len size ∙ whole) ∙ set_at (u32_bytes 4 ++ u32_bytes 0) last.0 [] 0 8 eight
    ∙ rw (none, append-nil) (simp append_assoc)
