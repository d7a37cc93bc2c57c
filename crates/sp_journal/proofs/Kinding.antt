-- A file is of one kind, and keeps it while entries are written.
use Rattle.std.proofs.Common.{◌≡◌, ◌⊎◌, inl, inr, ◌<◌, ◌≤◌, ◌^◌, ℕ, List, [], ◌∷◌, ◌++◌, length, refl, sym, ◌∙◌, ap, subst, arith, append_assoc, length-append}
use Rattle.std.proofs.lemmas.List.{append-nil}
use Rattle.sp_disk.specs.Moments.{Passes, LeavesOnly}
use Rattle.sp_journal.specs.declared.kind.Kind.{Kind}
use Rattle.sp_journal.specs.declared.kind.Kind.TheVariants.{Unfinished, Settled}
use Rattle.sp_journal.specs.Format.{header_bytes, entry_bytes, body_bytes}
use Rattle.sp_journal.specs.Kinds.{IsKind, empty, foreign, unfinished, settled, IsFresh, unmade, first, KeepsKind, HasVersion, KeepsHeader, KeepsOneOf}
use Rattle.sp_journal.specs.Opening.{KeptOrMade}
use Rattle.sp_journal.specs.Recovery.{Base, IsBase, IsHeader, Leads, start, more, head, NeedsMaking, short, unfinished as needs_unfinished}
use Rattle.sp_journal.specs.declared.types.Recovered.{Recovered}
use Rattle.sp_journal.proofs.Crashes.{length-header, length-head}
use Rattle.sp_journal.proofs.Passing.{one_call, no_call}
use Rattle.sp_journal.proofs.Prefixes.{header_same, same_front}

le_or_lt : (a b : ℕ) → (a ≤ b) ⊎ (b < a)
le_or_lt a b = grind arith

-- a header of version 2
later_header : (generation : ℕ) → 2 ≤ generation → generation < 2 ^ 63 → IsHeader 2 generation
later_header generation low high = inr (refl, omega arith, high)

-- two headers and gates of one file
same_settled : (v g w h a b : ℕ) (s t file : List ℕ) → IsHeader v g → IsHeader w h → file ≡ header_bytes v g ++ a ∷ s → file ≡ header_bytes w h ++ b ∷ t → (v ≡ w) × (g ≡ h) × (a ≡ b)
same_settled v g w h a b s t file is also one two =
    let same = header_same v g w h (a ∷ s) (b ∷ t) is also (sym one ∙ two) in
    let rest : a ∷ s ≡ b ∷ t = same.rest in
    (same.version, same.generation, (cc))

pub one_kind : (file : List ℕ) (a b : Kind) → IsKind file a → IsKind file b → a ≡ b
one_kind file a b (empty few) (empty less) = refl
one_kind file a b (empty few) (foreign long none) = absurd (omega arith)
one_kind file a b (empty few) (unfinished g gate tail long low high shut stands) = absurd (omega arith)
one_kind file a b (empty few) (settled v g gate tail long is open_gate stands) = absurd (omega arith)
one_kind file a b (foreign long none) (empty few) = absurd (omega arith)
one_kind file a b (foreign long none) (foreign longer never) = refl
one_kind file a b (foreign long none) (unfinished g gate tail longer low high shut stands) = absurd (none 2 g (gate ∷ tail) (later_header g low high) stands)
one_kind file a b (foreign long none) (settled v g gate tail longer is open_gate stands) = absurd (none v g (gate ∷ tail) is stands)
one_kind file a b (unfinished g gate tail long low high shut stands) (empty few) = absurd (omega arith)
one_kind file a b (unfinished g gate tail long low high shut stands) (foreign longer none) = absurd (none 2 g (gate ∷ tail) (later_header g low high) stands)
one_kind file a b (unfinished g gate tail long low high shut stands) (unfinished h gate' tail' longer low' high' shut' stands') = refl
one_kind file a b (unfinished g gate tail long low high shut stands) (settled w h gate' tail' longer is open_gate stands') =
    let same = same_settled 2 g w h gate gate' tail tail' file (later_header g low high) is stands stands' in
    absurd (shut (same.2 ∙ open_gate (omega (arith, low, same.1))))
one_kind file a b (settled v g gate tail long is open_gate stands) (empty few) = absurd (omega arith)
one_kind file a b (settled v g gate tail long is open_gate stands) (foreign longer none) = absurd (none v g (gate ∷ tail) is stands)
one_kind file a b (settled v g gate tail long is open_gate stands) (unfinished h gate' tail' longer low high shut stands') =
    let same = same_settled v g 2 h gate gate' tail tail' file is (later_header h low high) stands stands' in
    absurd (shut (sym same.2 ∙ open_gate (omega (arith, low, same.1))))
one_kind file a b (settled v g gate tail long is open_gate stands) (settled w h gate' tail' longer also open_gate' stands') =
    let same = same_settled v g w h gate gate' tail tail' file is also stands stands' in
    ap (λ (n : ℕ). Settled n g) same.0 ∙ ap (λ (n : ℕ). Settled w n) same.1

none_or_some : (l : List ℕ) → (l ≡ []) ⊎ (1 ≤ length l)
none_or_some [] = inl refl
none_or_some (x ∷ l) = inr (omega arith)

-- entries begin with an open gate
leads_open : (generation : ℕ) (front : List ℕ) (found : Recovered) → Leads generation front found → 1 ≤ length front → (rest : List ℕ) × (front ≡ 1 ∷ rest)
leads_open generation front found start some = absurd (omega (arith, some))
leads_open generation front found (more before payload was after leads enters) some = elim (none_or_some before) [
  | inl none ↦ (body_bytes payload, ap (λ (l : List ℕ). l ++ entry_bytes payload) none)
  | inr there ↦ let inner = leads_open generation before was leads there in (inner.0 ++ entry_bytes payload, ap (λ (l : List ℕ). l ++ entry_bytes payload) inner.1)
]

settled_long : (file : List ℕ) (version generation : ℕ) → IsKind file (Settled version generation) → 17 < length file
settled_long file version generation (settled v g gate tail long is open_gate stands) = long

-- what begins with the header and the entries of a base is settled by that header
base_kind : (base : Base) (gate : ℕ) (rest file : List ℕ) → IsBase base → (2 ≤ base.generation → 1 ≤ length base.front) → 17 < length file → file ≡ head base ++ gate ∷ rest → IsKind file (Settled base.version base.generation)
base_kind base gate rest file is begun long stands =
    let header : List ℕ = header_bytes base.version base.generation in
    elim (none_or_some base.front) [
      | inl none ↦
          let bare : head base ≡ header = ap (λ (l : List ℕ). header ++ l) none ∙ append-nil header in
          settled base.version base.generation gate rest long is.header (λ low. absurd (omega (arith, begun low, ap length none))) (stands ∙ ap (λ (l : List ℕ). l ++ gate ∷ rest) bare)
      | inr some ↦
          let first_gate = leads_open base.generation base.front base.found is.leads some in
          settled base.version base.generation 1 (first_gate.0 ++ gate ∷ rest) long is.header (λ low. refl)
          (stands ∙ append_assoc header base.front (gate ∷ rest) ∙ ap (λ (l : List ℕ). header ++ (l ++ gate ∷ rest)) first_gate.1)
    ]

-- a settled file is not to be made anew
made_already : (file : List ℕ) (version generation : ℕ) → NeedsMaking file → IsKind file (Settled version generation) → ⊥
made_already file version generation (short few) is = let long = settled_long file version generation is in omega (arith, few, long)
made_already file version generation (needs_unfinished g gate tail low high shut stands) is =
    let same : Unfinished ≡ Settled version generation = one_kind file Unfinished (Settled version generation) (unfinished g gate tail (settled_long file version generation is) low high shut stands) is in cc

fresh_low : (file : List ℕ) (version generation : ℕ) → IsKind file (Settled version generation) → IsFresh file → generation ≤ 1
fresh_low file version generation is (unmade needs) = absurd (made_already file version generation needs is)
fresh_low file version generation is (first v g also low) =
    let same : Settled version generation ≡ Settled v g = one_kind file (Settled version generation) (Settled v g) is also in
    let equal : generation ≡ g = cc in omega (arith, equal, low)

-- the base of a fresh file
low_base : (base : Base) (gate : ℕ) (rest file : List ℕ) → IsBase base → (2 ≤ base.generation → 1 ≤ length base.front) → file ≡ head base ++ gate ∷ rest → IsFresh file → base.generation ≤ 1
low_base base gate rest file is begun stands fresh = elim (le_or_lt (length file) 17) [
  | inl few ↦ elim (le_or_lt base.generation 1) [
    | inl low ↦ low
    | inr high ↦ absurd (omega (arith, few, begun high, ap length stands, length-append (head base) (gate ∷ rest), length-head base))
  ]
  | inr long ↦ fresh_low file base.version base.generation (base_kind base gate rest file is begun long stands) fresh
]

-- what is written behind the header and the entries of a base
pub keeps_behind : (base : Base) (gate gate' : ℕ) (rest rest' was file : List ℕ) → IsBase base → (2 ≤ base.generation → 1 ≤ length base.front) → was ≡ head base ++ gate ∷ rest → file ≡ head base ++ gate' ∷ rest' → length was ≤ length file → KeepsKind was file
keeps_behind base gate gate' rest rest' was file is begun stands stands' longer = record {
  settled = λ version generation kind.
      let long = settled_long was version generation kind in
      let same : Settled version generation ≡ Settled base.version base.generation = one_kind was (Settled version generation) (Settled base.version base.generation) kind (base_kind base gate rest was is begun long stands) in
      subst (λ k. IsKind file k) (sym same) (base_kind base gate' rest' file is begun (omega (arith, long, longer)) stands');
  fresh = λ fresh. elim (le_or_lt (length file) 17) [
    | inl few ↦ unmade (short few)
    | inr long ↦ first base.version base.generation (base_kind base gate' rest' file is begun long stands') (low_base base gate rest was is begun stands fresh)
  ];
}

-- and keeps its header
pub header_behind : (base : Base) (gate gate' : ℕ) (rest rest' was file : List ℕ) → was ≡ head base ++ gate ∷ rest → file ≡ head base ++ gate' ∷ rest' → KeepsHeader was file
header_behind base gate gate' rest rest' was file stands stands' version generation has =
    let H : List ℕ = header_bytes base.version base.generation in
    let G : List ℕ = header_bytes version generation in
    let same : H ≡ G = (same_front H G (base.front ++ gate ∷ rest) has.0 (length-header base.version base.generation ∙ sym (length-header version generation)) (sym (append_assoc H base.front (gate ∷ rest)) ∙ sym stands ∙ has.1)).piece in
    (base.front ++ gate' ∷ rest', stands' ∙ append_assoc H base.front (gate' ∷ rest') ∙ ap (λ (l : List ℕ). l ++ (base.front ++ gate' ∷ rest')) same)

-- a file that is to be made anew stays so
pub unmade_keeps : (was file : List ℕ) → NeedsMaking was → NeedsMaking file → KeepsKind was file
unmade_keeps was file needs still = record { settled = λ version generation is. absurd (made_already was version generation needs is); fresh = λ fresh. unmade still }

pub keeps_itself : (file : List ℕ) → KeepsKind file file
keeps_itself file = record { settled = λ version generation is. is; fresh = λ fresh. fresh }

pub keeps_same : (was file : List ℕ) → file ≡ was → KeepsKind was file
keeps_same was file same = subst (λ (f : List ℕ). KeepsKind was f) (sym same) (keeps_itself was)

pub keeps_on : (was mid file : List ℕ) → KeepsKind was mid → KeepsKind mid file → KeepsKind was file
keeps_on was mid file one two = record { settled = λ version generation is. two.settled version generation (one.settled version generation is); fresh = λ fresh. two.fresh (one.fresh fresh) }

-- a file that was made anew where that was due
pub keeps_made : (was reads : List ℕ) → KeptOrMade was reads → KeepsKind was reads
keeps_made was reads which = elim which [
  | inl kept ↦ keeps_same was reads kept.3
  | inr made ↦ unmade_keeps was reads made.0 (short (omega (arith, ap length made.1, length-append (header_bytes 2 1) (0 ∷ []), length-header 2 1)))
]

pub one_itself : (leaves : List ℕ → Type 0) (file : List ℕ) → leaves file → KeepsOneOf leaves file
one_itself leaves file left = record { was = file; left = left; keeps = keeps_itself file; header = λ version generation has. has }

-- one call of the disk, of which a stop leaves files of these kinds
pub call_keeps : (before now : ℕ) (old new : ℕ → List ℕ → Type 0) → Passes before now old new → ((file : List ℕ) → new now file → KeepsOneOf (old before) file) → LeavesOnly before now old new (KeepsOneOf (old before))
call_keeps before now old new passes last = one_call before now old new (KeepsOneOf (old before)) passes (one_itself (old before)) last

-- a sync
pub sync_keeps : (before now : ℕ) (old new : ℕ → List ℕ → Type 0) → Passes before now old new → ((file : List ℕ) → new now file → old before file) → LeavesOnly before now old new (KeepsOneOf (old before))
sync_keeps before now old new passes at_most = call_keeps before now old new passes (λ file left. one_itself (old before) file (at_most file left))

-- no call
pub still_keeps : (now : ℕ) (images : ℕ → List ℕ → Type 0) → LeavesOnly now now images images (KeepsOneOf (images now))
still_keeps now images = no_call now images (KeepsOneOf (images now)) (one_itself (images now))

-- two runs of calls, one after the other
pub runs_keep : (a b c : ℕ) (old mid new : ℕ → List ℕ → Type 0) → LeavesOnly a b old mid (KeepsOneOf (old a)) → LeavesOnly b c mid new (KeepsOneOf (mid b)) → LeavesOnly a c old new (KeepsOneOf (old a))
runs_keep a b c old mid new one two = record {
  later = omega (arith, one.later, two.later);
  each = λ k file low high left. elim (le_or_lt k b) [
    | inl below ↦ one.each k file low below ((two.past k file below).0 left)
    | inr above ↦
        let behind = two.each k file (omega (arith, above)) high left in
        let first_run = one.each b behind.was one.later (omega arith) behind.left in
        record {
          was = first_run.was;
          left = first_run.left;
          keeps = keeps_on first_run.was behind.was file first_run.keeps behind.keeps;
          header = λ version generation has. behind.header version generation (first_run.header version generation has);
        }
  ];
  past = λ k file low.
      let down = two.past k file (omega (arith, low, one.later)) in let up = one.past k file low in
      (λ x. up.0 (down.0 x), λ x. down.1 (up.1 x));
}

-- a run over a file of which a stop left what a read gave
pub only_keeps : (before now : ℕ) (old new : ℕ → List ℕ → Type 0) (reads : List ℕ) → ((file : List ℕ) → old before file → file ≡ reads) → LeavesOnly before now old new (KeepsOneOf (old before)) → LeavesOnly before now old new (KeepsKind reads)
only_keeps before now old new reads only run = record {
  later = run.later;
  each = λ k file low high left. let one = run.each k file low high left in subst (λ (w : List ℕ). KeepsKind w file) (only one.was one.left) one.keeps;
  past = run.past;
}

-- a run over a file of that version leaves it one
pub run_keeps_version : (version before now : ℕ) (old new : ℕ → List ℕ → Type 0) → LeavesOnly before now old new (KeepsOneOf (old before)) → ((file : List ℕ) → old before file → HasVersion version file) → (file : List ℕ) → new now file → HasVersion version file
run_keeps_version version before now old new run has file left =
    let one = run.each now file run.later (omega arith) left in
    let was = has one.was one.left in
    (was.0, was.1, one.header version was.0 was.2)
