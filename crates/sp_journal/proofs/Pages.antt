-- Checkpoints as bytes.
use Rattle.std.proofs.Common.{◌≡◌, ◌⊎◌, inl, inr, ◌+◌, ◌<◌, ◌≤◌, ℕ, List, [], ◌∷◌, ◌++◌, length, take, drop, get_or, sym, ◌∙◌, ap, subst, arith, append_assoc}
use Rattle.std.specs.List.{flat_map}
use Rattle.std.proofs.lemmas.List.{take_more, take_all, drop_more, append-nil, get_or_default}
use Rattle.sp_rect.specs.declared.record.Record.{Record}
use Rattle.sp_rect.specs.Plane.{whole}
use Rattle.sp_journal.specs.Format.{u32_bytes, u64_bytes, rect_bytes, value_bytes, put_bytes, checkpoint_bytes, IsPut}

flat_put : (rs : List Record) (r : Record) → flat_map put_bytes (rs ++ r ∷ []) ≡ flat_map put_bytes rs ++ put_bytes r
flat_put [] r = append-nil (put_bytes r)
flat_put (x ∷ rs) r = ap (λ (l : List ℕ). put_bytes x ++ l) (flat_put rs r) ∙ sym (append_assoc (put_bytes x) (flat_map put_bytes rs) (put_bytes r))

pub record_more : (rs : List Record) (i : ℕ) (r : Record) (count out later : List ℕ) → i < length rs → r ≡ get_or rs i r
    → out ≡ count ++ flat_map put_bytes (take i rs) → later ≡ out ++ put_bytes r → later ≡ count ++ flat_map put_bytes (take (i + 1) rs)
record_more rs i r count out later lt at is now =
    let more = take_more rs i r lt ∙ ap (λ d. take i rs ++ d ∷ []) (sym at) in
    now ∙ ap (λ (l : List ℕ). l ++ put_bytes r) is ∙ append_assoc count (flat_map put_bytes (take i rs)) (put_bytes r)
    ∙ ap (λ (l : List ℕ). count ++ l) (sym (flat_put (take i rs) r) ∙ ap (λ l. flat_map put_bytes l) (sym more))

pub valid_more : (rs : List Record) (i : ℕ) (r : Record) → i < length rs → r ≡ get_or rs i r → ((k : ℕ) (d : Record) → k < i → IsPut (get_or rs k d)) → IsPut r
    → (k : ℕ) (d : Record) → k < i + 1 → IsPut (get_or rs k d)
valid_more rs i r lt at before is k d low = elim (which k low) [
  | inl less ↦ before k d less
  | inr same ↦ subst (λ n. IsPut (get_or rs n d)) (sym same) (subst IsPut (at ∙ get_or_default rs i r d lt) is)
]
  where
    which : (k : ℕ) → k < i + 1 → (k < i) ⊎ (k ≡ i)
    which k low = grind arith

pub valid_same : (rs shown : List Record) (n : ℕ) → shown ≡ rs → length shown ≤ n → ((k : ℕ) (d : Record) → k < n → IsPut (get_or shown k d)) → (k : ℕ) (d : Record) → k < length rs → IsPut (get_or rs k d)
valid_same rs shown n show past valid k d low = subst (λ l. IsPut (get_or l k d)) show (valid k d (omega (arith, ap length show)))

pub checkpoint_whole : (rs shown : List Record) (n : ℕ) (out : List ℕ) → shown ≡ rs → length shown ≤ n → out ≡ (u32_bytes 0 ++ u32_bytes (length rs)) ++ flat_map put_bytes (take n shown) → out ≡ checkpoint_bytes rs
unfolding checkpoint_bytes
checkpoint_whole rs shown n out show past is = is ∙ ap (λ l. (u32_bytes 0 ++ u32_bytes (length rs)) ++ flat_map put_bytes l) (take_all n shown past ∙ show)

-- one record more of a checkpoint
pub next_record : (rs : List Record) (i : ℕ) (rest : List ℕ) (zero_record : Record) → ((k : ℕ) (d : Record) → k < length rs → IsPut (get_or rs k d)) → i < length rs
    → (r : Record) × IsPut r × (flat_map put_bytes (drop i rs) ++ rest ≡ put_bytes r ++ (flat_map put_bytes (drop (i + 1) rs) ++ rest)) × (take (i + 1) rs ≡ take i rs ++ r ∷ [])
next_record rs i rest d all lt =
    let r : Record = get_or rs i d in (
      r,
      all i d lt,
      ap (λ l. flat_map put_bytes l ++ rest) (drop_more rs i d lt) ∙ append_assoc (put_bytes r) (flat_map put_bytes (drop (i + 1) rs)) rest,
      take_more rs i d lt,
    )

pub put_parts : (r : Record) (rest all : List ℕ) → all ≡ put_bytes r ++ rest → all ≡ 1 ∷ (u64_bytes r.id ++ (rect_bytes r.rect ++ (value_bytes r.value ++ rest)))
unfolding put_bytes
put_parts r rest all is = is ∙ simp append_assoc

pub checkpoint_parts : (rs : List Record) (all : List ℕ) → all ≡ checkpoint_bytes rs → all ≡ u32_bytes 0 ++ (u32_bytes (length rs) ++ (flat_map put_bytes rs ++ []))
unfolding checkpoint_bytes
checkpoint_parts rs all is = is ∙ append_assoc (u32_bytes 0) (u32_bytes (length rs)) (flat_map put_bytes rs) ∙ ap (λ (l : List ℕ). u32_bytes 0 ++ (u32_bytes (length rs) ++ l)) (sym (append-nil (flat_map put_bytes rs)))

-- some record
abbrev pub origin : Record
origin = record { id = 0; rect = whole; value = [] }

pub next_of : (rs : List Record) (i : ℕ) (rest : List ℕ) → ((k : ℕ) (d : Record) → k < length rs → IsPut (get_or rs k d)) → i < length rs
    → (r : Record) × IsPut r × (flat_map put_bytes (drop i rs) ++ rest ≡ put_bytes r ++ (flat_map put_bytes (drop (i + 1) rs) ++ rest)) × (take (i + 1) rs ≡ take i rs ++ r ∷ [])
next_of rs i rest all lt = next_record rs i rest origin all lt
