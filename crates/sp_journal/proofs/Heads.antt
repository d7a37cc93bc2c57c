-- What stands at the front of a file, and of an entry.
use Rattle.std.proofs.Common.{◌≡◌, ◌≢◌, ◌⊎◌, inl, inr, ◌+◌, ◌*◌, ◌/◌, ◌%◌, ◌^◌, ◌<◌, ◌≤◌, ℕ, suc, add-one, List, [], ◌∷◌, ◌++◌, length, take, drop, get_or, refl, sym, ◌∙◌, ap, subst, arith, append_assoc, length-append, take-append-drop}
use Rattle.std.proofs.lemmas.List.{take_all, take_at, drop_at, take-take, drop_more, get_or-take}
use Rattle.byteorder.specs.Endian.{big_number}
use Rattle.byteorder.specs.Numbers.{big_number-reads_back}
use Rattle.sp_journal.specs.declared.kind.Kind.TheVariants.{Foreign, Unfinished, Settled}
use Rattle.sp_journal.specs.Format.{u32_bytes, u64_bytes, header_bytes}
use Rattle.sp_journal.specs.Kinds.{IsKind, foreign, unfinished, settled}
use Rattle.sp_journal.specs.Recovery.{IsHeader}
use Rattle.sp_journal.proofs.Chunks.{length-u32}
use Rattle.sp_journal.proofs.Crashes.{length-header}

digit : (n a r : ℕ) → a < 256 → n ≡ a * 16777216 + r → r < 16777216 → n / 16777216 % 256 ≡ a
digit n a r small is less = omega arith

third : (n a b r : ℕ) → a < 256 → b < 256 → n ≡ a * 16777216 + (b * 65536 + r) → r < 65536 → n / 65536 % 256 ≡ b
third n a b r small other is less = omega arith

second : (n a b c r : ℕ) → a < 256 → b < 256 → c < 256 → n ≡ a * 16777216 + (b * 65536 + (c * 256 + r)) → r < 256 → n / 256 % 256 ≡ c
second n a b c r small other last is less = omega arith

first : (n a b c d : ℕ) → n ≡ a * 16777216 + (b * 65536 + (c * 256 + d)) → d < 256 → n % 256 ≡ d
first n a b c d is less = omega arith

-- four bytes are those of the number that they are read as
pub u32_inverse : (a b c d n : ℕ) → a < 256 → b < 256 → c < 256 → d < 256 → n ≡ big_number 4 (a ∷ b ∷ c ∷ d ∷ []) → u32_bytes n ≡ a ∷ b ∷ c ∷ d ∷ []
unfolding u32_bytes
u32_inverse a b c d n a' b' c' d' is =
    let whole : n ≡ a * 16777216 + (b * 65536 + (c * 256 + d)) = omega (arith, is) in
    let e3 : n / 16777216 % 256 ≡ a = digit n a (b * 65536 + (c * 256 + d)) a' whole (omega arith) in
    let e2 : n / 65536 % 256 ≡ b = third n a b (c * 256 + d) a' b' whole (omega arith) in
    let e1 : n / 256 % 256 ≡ c = second n a b c d a' b' c' whole d' in
    let e0 : n % 256 ≡ d = first n a b c d whole d' in
    rw (e3, e2, e1, e0) refl

four_of : (xs : List ℕ) → length xs ≡ 4 → ((k : ℕ) → k < 4 → get_or xs k 0 < 256) → (n : ℕ) → n ≡ big_number 4 xs → u32_bytes n ≡ xs
four_of [] four small n is = absurd (omega arith)
four_of (a ∷ []) four small n is = absurd (omega arith)
four_of (a ∷ b ∷ []) four small n is = absurd (omega arith)
four_of (a ∷ b ∷ c ∷ []) four small n is = absurd (omega arith)
four_of (a ∷ b ∷ c ∷ d ∷ []) four small n is = u32_inverse a b c d n (small 0 (omega arith)) (small 1 (omega arith)) (small 2 (omega arith)) (small 3 (omega arith)) is
four_of (a ∷ b ∷ c ∷ d ∷ e ∷ xs) four small n is = absurd (omega arith)

behind_head : (rest : List ℕ) (gate k : ℕ) → get_or (gate ∷ rest) (k + 1) 0 < 256 → get_or rest k 0 < 256
behind_head rest gate k lt = let same : k + 1 ≡ suc k = add-one k in subst (λ (n : ℕ). get_or (gate ∷ rest) n 0 < 256) same lt

pub size_of : (bytes rest : List ℕ) (gate n : ℕ) → length bytes ≡ 5 → ((k : ℕ) → get_or bytes k 0 < 256) → bytes ≡ gate ∷ rest → n ≡ big_number 4 (take 4 (drop 1 bytes)) → rest ≡ u32_bytes n
size_of bytes rest gate n five small is read =
    let behind : drop 1 bytes ≡ rest = ap (λ (l : List ℕ). drop 1 l) is in
    let four : length rest ≡ 4 = omega (arith, ap length is) in
    let shown : take 4 (drop 1 bytes) ≡ rest = ap (λ (l : List ℕ). take 4 l) behind ∙ take_all 4 rest (omega arith) in
    sym (four_of rest four (λ k lt. behind_head rest gate k (subst (λ (l : List ℕ). get_or l (k + 1) 0 < 256) is (small (k + 1)))) n (read ∙ ap (λ (l : List ℕ). big_number 4 l) shown))

-- the version of a header of that generation
second_version : (version generation : ℕ) → IsHeader version generation → 2 ≤ generation → (version ≡ 2) × (generation < 2 ^ 63)
second_version version generation is low = elim is [
  | inl first ↦ absurd (omega (arith, first.1))
  | inr second ↦ (second.0, second.2)
]

pub is_unfinished : (version generation gate : ℕ) (tail file : List ℕ) → 17 < length file → IsHeader version generation → 2 ≤ generation → gate ≢ 1 → file ≡ header_bytes version generation ++ gate ∷ tail → IsKind file Unfinished
is_unfinished version generation gate tail file long is low shut stands =
    let second = second_version version generation is low in
    unfinished generation gate tail long low second.1 shut (stands ∙ ap (λ (v : ℕ). header_bytes v generation ++ gate ∷ tail) second.0)

pub is_settled : (version generation gate : ℕ) (tail file : List ℕ) → 17 < length file → IsHeader version generation → (generation < 2) ⊎ (gate ≡ 1) → file ≡ header_bytes version generation ++ gate ∷ tail → IsKind file (Settled version generation)
is_settled version generation gate tail file long is which stands = settled version generation gate tail long is (λ low. elim which [ inl less ↦ absurd (omega arith) | inr open_gate ↦ open_gate ]) stands

-- the header and what stands behind it
whole_front : (version generation : ℕ) (front : List ℕ) → take 16 front ≡ header_bytes version generation → front ≡ (83 ∷ 80 ∷ 74 ∷ 76 ∷ []) ++ (u32_bytes version ++ (u64_bytes generation ++ drop 16 front))
unfolding header_bytes
whole_front version generation front is = sym (take-append-drop 16 front) ∙ ap (λ (l : List ℕ). l ++ drop 16 front) is ∙ simp append_assoc

-- the numbers of a header are told by its bytes
pub same_version : (version generation n : ℕ) (front shown : List ℕ) → version < 2 ^ 32 → take 16 front ≡ header_bytes version generation → shown ≡ drop 4 front → n ≡ big_number 4 shown → n ≡ version
unfolding u32_bytes
same_version version generation n front shown small is show read =
    read ∙ ap (λ (l : List ℕ). big_number 4 l) (show ∙ ap (λ (l : List ℕ). drop 4 l) (whole_front version generation front is)) ∙ big_number-reads_back 4 version (u64_bytes generation ++ drop 16 front) small

pub same_generation : (version generation n : ℕ) (front shown : List ℕ) → generation < 2 ^ 64 → take 16 front ≡ header_bytes version generation → shown ≡ drop 8 front → n ≡ big_number 8 shown → n ≡ generation
unfolding u64_bytes
same_generation version generation n front shown small is show read =
    let eight : length ((83 ∷ 80 ∷ 74 ∷ 76 ∷ []) ++ u32_bytes version) ≡ 8 = omega (arith, length-append (83 ∷ 80 ∷ 74 ∷ 76 ∷ []) (u32_bytes version), length-u32 version) in
    let behind : drop 8 front ≡ u64_bytes generation ++ drop 16 front =
    ap (λ (l : List ℕ). drop 8 l) (whole_front version generation front is ∙ sym (append_assoc (83 ∷ 80 ∷ 74 ∷ 76 ∷ []) (u32_bytes version) (u64_bytes generation ++ drop 16 front)))
    ∙ drop_at ((83 ∷ 80 ∷ 74 ∷ 76 ∷ []) ++ u32_bytes version) (u64_bytes generation ++ drop 16 front) 8 eight in
    read ∙ ap (λ (l : List ℕ). big_number 8 l) (show ∙ behind) ∙ big_number-reads_back 8 generation (drop 16 front) small

-- the numbers of a header are small
pub small_numbers : (version generation : ℕ) → IsHeader version generation → (version < 2 ^ 32) × (generation < 2 ^ 64)
small_numbers version generation is = elim is [
  | inl first ↦ (omega (arith, first.0), omega (arith, first.1))
  | inr second ↦ (omega (arith, second.0), omega (arith, second.2))
]

-- the numbers that are read, where there is a header
pub read_numbers : (version generation v g : ℕ) (front four eight : List ℕ) → IsHeader version generation → take 16 front ≡ header_bytes version generation
    → four ≡ drop 4 front → v ≡ big_number 4 four → eight ≡ drop 8 front → g ≡ big_number 8 eight → (v ≡ version) × (g ≡ generation)
read_numbers version generation v g front four eight is stands show_four read_four show_eight read_eight =
    let small = small_numbers version generation is in
    (same_version version generation v front four small.0 stands show_four read_four, same_generation version generation g front eight small.1 stands show_eight read_eight)

-- a file that begins with 17 bytes
pub behind_front : (file front : List ℕ) → 17 < length file → front ≡ take 17 file → file ≡ take 16 front ++ get_or front 16 0 ∷ drop 17 file
behind_front file front long is =
    let shorter : take 16 front ≡ take 16 file = ap (λ (l : List ℕ). take 16 l) is ∙ take-take 16 17 file (omega arith) in
    let same : get_or front 16 0 ≡ get_or file 16 0 = ap (λ (l : List ℕ). get_or l 16 0) is ∙ get_or-take 17 file 16 0 (omega arith) in
    sym (take-append-drop 16 file) ∙ ap (λ (l : List ℕ). l ++ drop 16 file) (sym shorter) ∙ ap (λ (l : List ℕ). take 16 front ++ l) (drop_more file 16 0 (omega arith) ∙ ap (λ (g : ℕ). g ∷ drop 17 file) (sym same))

-- a file that begins with no header
pub is_foreign : (file front : List ℕ) → 17 < length file → front ≡ take 17 file → ((version generation : ℕ) → IsHeader version generation → take 16 front ≢ header_bytes version generation) → IsKind file Foreign
is_foreign file front long is none = foreign long (λ version generation rest header stands.
    none version generation header (ap (λ (l : List ℕ). take 16 l) is ∙ take-take 16 17 file (omega arith) ∙ ap (λ (l : List ℕ). take 16 l) stands ∙ take_at (header_bytes version generation) rest 16 (length-header version generation)))

pub same_header : (v g version generation : ℕ) → v ≡ version → g ≡ generation → header_bytes version generation ≡ header_bytes v g
same_header v g version generation ev eg = rw (ev, eg) refl

pub header_here : (v g version generation : ℕ) → v ≡ version → g ≡ generation → IsHeader version generation → IsHeader v g
header_here v g version generation ev eg is = subst (λ (n : ℕ). IsHeader v n) (sym eg) (subst (λ (n : ℕ). IsHeader n generation) (sym ev) is)
