-- What stands at the front of bytes that were written.
use Rattle.std.proofs.Common.{◌≡◌, ◌+◌, ◌-◌, ◌^◌, ◌<◌, ◌≤◌, ℕ, zero, suc, ℤ, pos, negsuc, ◌≤ℤ◌, Result, Ok, Err, true, false, w32, w64, to_z, of_z, List, [], ◌∷◌, ◌++◌, length, take, drop, get_or, refl, sym, ◌∙◌, ap, arith, append_assoc, length-append}
use Rattle.std.proofs.lemmas.List.{take_rest, drop_at, take_more, drop_more, append-nil}
use Rattle.std.specs.List.{flat_map}
use Rattle.std.proofs.lemmas.Int.{ints, to_z-of_z}
use Rattle.std.specs.Int.{cast_signed, cast_unsigned}
use mir.Val.{SFits}
use Rattle.sp_rect.specs.Plane.{Rectangle, IsRectangle, is_rectangle, is_interval, made_rectangle, lowest, highest}
use Rattle.std.specs.Prelude.{int_le, Some, None, ◌≢◌}
use Rattle.sp_rect.specs.declared.record.Record.{Record}
use Rattle.sp_plain.specs.declared.change.Change.{Change}
use Rattle.sp_plain.specs.declared.change.Change.TheVariants.{Put, Drop, Set}
use Rattle.sp_rect.specs.Value.{is_value}
use Rattle.byteorder.specs.Endian.{big_number}
use Rattle.byteorder.specs.Numbers.{big_number-reads_back}
use Rattle.sp_journal.specs.Format.{u32_bytes, u64_bytes, coordinate_bytes, rect_bytes, value_bytes, put_bytes, drop_bytes, set_bytes, change_bytes, commit_bytes, batch_bytes, IsChange, AllChanges, IsCommit, AllCommits}
use Rattle.sp_journal.proofs.Chunks.{length-u32, length-u64}

pub u32_long : (x : ℕ) (all shown rest : List ℕ) → shown ≡ all → all ≡ u32_bytes x ++ rest → 4 ≤ length shown
u32_long x all shown rest show is = omega (arith, ap length show, ap length is, length-append (u32_bytes x) rest, length-u32 x)

pub u64_long : (x : ℕ) (all shown rest : List ℕ) → shown ≡ all → all ≡ u64_bytes x ++ rest → 8 ≤ length shown
u64_long x all shown rest show is = omega (arith, ap length show, ap length is, length-append (u64_bytes x) rest, length-u64 x)

pub u32_reads : (x n : ℕ) (all shown rest : List ℕ) → x < 2 ^ 32 → shown ≡ all → all ≡ u32_bytes x ++ rest → n ≡ big_number 4 shown → n ≡ x
unfolding u32_bytes
u32_reads x n all shown rest small show is read = read ∙ ap (λ (l : List ℕ). big_number 4 l) (show ∙ is) ∙ big_number-reads_back 4 x rest small

pub u64_reads : (x n : ℕ) (all shown rest : List ℕ) → x < 2 ^ 64 → shown ≡ all → all ≡ u64_bytes x ++ rest → n ≡ big_number 8 shown → n ≡ x
unfolding u64_bytes
u64_reads x n all shown rest small show is read = read ∙ ap (λ (l : List ℕ). big_number 8 l) (show ∙ is) ∙ big_number-reads_back 8 x rest small

pub u32_rest : (x : ℕ) (all shown rest : List ℕ) → shown ≡ all → all ≡ u32_bytes x ++ rest → take (length shown - 4) (drop 4 shown) ≡ rest
u32_rest x all shown rest show is = take_rest shown 4 ∙ ap (λ (l : List ℕ). drop 4 l) (show ∙ is) ∙ drop_at (u32_bytes x) rest 4 (length-u32 x)

pub u64_rest : (x : ℕ) (all shown rest : List ℕ) → shown ≡ all → all ≡ u64_bytes x ++ rest → take (length shown - 8) (drop 8 shown) ≡ rest
u64_rest x all shown rest show is = take_rest shown 8 ∙ ap (λ (l : List ℕ). drop 8 l) (show ∙ is) ∙ drop_at (u64_bytes x) rest 8 (length-u64 x)

pub no_err : {T E : Type 0} (x : T) (e : E) (r : Result T E) (P : Type 0) → r ≡ Ok x → r ≡ Err e → P
no_err x e r P is_ok is_err = cc

fits : (z : ℤ) → lowest ≤ℤ z → z ≤ℤ highest → SFits w32 z
fits (pos n) low high = record { sfits = omega (arith, ints) }
fits (negsuc n) low high = record { sfits = omega (arith, ints) }

pub word_fits : (z : ℤ) → lowest ≤ℤ z → z ≤ℤ highest → cast_unsigned w32 z < 2 ^ 32
word_fits (pos n) low high = omega (arith, ints)
word_fits (negsuc n) low high = omega (arith, ints)

pub word_is : (z : ℤ) → lowest ≤ℤ z → z ≤ℤ highest → cast_signed w32 (cast_unsigned w32 z) ≡ z
word_is z low high = to_z-of_z w32 z (fits z low high)

pub ok_same : {T E : Type 0} (x y : T) (r : Result T E) → r ≡ Ok x → r ≡ Ok y → x ≡ y
ok_same x y r is_x is_y = cc

abbrev ok_of : (E : Type 0) → ℤ → Result ℤ E
ok_of E z = Ok z

fits_wide : (z : ℤ) → lowest ≤ℤ z → z ≤ℤ highest → SFits w64 z
fits_wide (pos n) low high = record { sfits = omega (arith, ints) }
fits_wide (negsuc n) low high = record { sfits = omega (arith, ints) }

pub coordinate_is : (E : Type 0) (z : ℤ) (bits : ℕ) (s f : ℤ) → lowest ≤ℤ z → z ≤ℤ highest → bits ≡ cast_unsigned w32 z → s ≡ to_z w32 bits → f ≡ to_z w32 (of_z w32 s)
    → ok_of E (to_z w64 (of_z w64 f)) ≡ ok_of E z
coordinate_is E z bits s f low high bits_is s_is f_is =
    let s_same : s ≡ z = s_is ∙ ap (λ n. to_z w32 n) bits_is ∙ word_is z low high in
    let f_same : f ≡ z = f_is ∙ ap (λ y. to_z w32 (of_z w32 y)) s_same ∙ word_is z low high in
    ap (λ y. ok_of E y) (ap (λ y. to_z w64 (of_z w64 y)) f_same ∙ to_z-of_z w64 z (fits_wide z low high))

pub bad_value : (v bytes : List ℕ) (P : Type 0) → is_value v ≡ true → bytes ≡ v → is_value bytes ≡ false → P
bad_value v bytes P good same bad = let no_way : true ≡ false = sym (ap is_value same ∙ good) ∙ bad in cc

pub rect_parts : (r : Rectangle) (rest all : List ℕ) → all ≡ rect_bytes r ++ rest → all ≡ coordinate_bytes r.x1 ++ (coordinate_bytes r.y1 ++ (coordinate_bytes r.x2 ++ (coordinate_bytes r.y2 ++ rest)))
unfolding rect_bytes
rect_parts r rest all is = is ∙ simp append_assoc

low_left : (r : Rectangle) → IsRectangle r → (lowest ≤ℤ r.x1) × (r.x1 ≤ℤ highest) × (lowest ≤ℤ r.y1) × (r.y1 ≤ℤ highest)
low_left r is = (is.left, omega (arith, ints, is.across, is.right), is.lower, omega (arith, ints, is.along, is.upper))

high_right : (r : Rectangle) → IsRectangle r → (lowest ≤ℤ r.x2) × (r.x2 ≤ℤ highest) × (lowest ≤ℤ r.y2) × (r.y2 ≤ℤ highest)
high_right r is = (omega (arith, ints, is.left, is.across), is.right, omega (arith, ints, is.lower, is.along), is.upper)

pub corner_spans : (r : Rectangle) → IsRectangle r
    → ((lowest ≤ℤ r.x1) × (r.x1 ≤ℤ highest) × (lowest ≤ℤ r.y1) × (r.y1 ≤ℤ highest)) × ((lowest ≤ℤ r.x2) × (r.x2 ≤ℤ highest) × (lowest ≤ℤ r.y2) × (r.y2 ≤ℤ highest))
corner_spans r is = (low_left r is, high_right r is)

test_from_le : (a b : ℤ) → a ≤ℤ b → int_le a b ≡ true
test_from_le a b h = grind (arith, ints)

is_rectangle_true : (r : Rectangle) → IsRectangle r → is_rectangle r ≡ true
unfolding is_interval
is_rectangle_true r is =
    rw (test_from_le lowest r.x1 is.left, test_from_le r.x1 r.x2 is.across, test_from_le r.x2 highest is.right, test_from_le lowest r.y1 is.lower, test_from_le r.y1 r.y2 is.along, test_from_le r.y2 highest is.upper) refl

made_same : (a b c d : ℤ) (r : Rectangle) → IsRectangle r → a ≡ r.x1 → b ≡ r.y1 → c ≡ r.x2 → d ≡ r.y2 → made_rectangle a b c d ≡ Some r
made_same a b c d r is ea eb ec ed = let yes = is_rectangle_true r is in rw (ea, eb, ec, ed) (rw yes refl)

-- a coordinate as it is passed on
abbrev wide : ℤ → ℤ
wide z = to_z w64 (of_z w64 z)

wide_same : (z c : ℤ) → lowest ≤ℤ c → c ≤ℤ highest → z ≡ c → wide z ≡ c
wide_same z c low high is = ap wide is ∙ to_z-of_z w64 c (fits_wide c low high)

pub rect_made : (a b c d : ℤ) (r got : Rectangle) → IsRectangle r → a ≡ r.x1 → b ≡ r.y1 → c ≡ r.x2 → d ≡ r.y2 → Some got ≡ made_rectangle (wide a) (wide b) (wide c) (wide d) → got ≡ r
rect_made a b c d r got is ea eb ec ed made =
    let spans = corner_spans r is in
    let same = made ∙ made_same (wide a) (wide b) (wide c) (wide d) r is (wide_same a r.x1 spans.0.0 spans.0.1 ea) (wide_same b r.y1 spans.0.2 spans.0.3 eb) (wide_same c r.x2 spans.1.0 spans.1.1 ec) (wide_same d r.y2 spans.1.2 spans.1.3 ed) in cc

pub rect_refused : (a b c d : ℤ) (r : Rectangle) (P : Type 0) → IsRectangle r → a ≡ r.x1 → b ≡ r.y1 → c ≡ r.x2 → d ≡ r.y2 → None ≡ made_rectangle (wide a) (wide b) (wide c) (wide d) → P
rect_refused a b c d r P is ea eb ec ed made =
    let spans = corner_spans r is in
    let same = made ∙ made_same (wide a) (wide b) (wide c) (wide d) r is (wide_same a r.x1 spans.0.0 spans.0.1 ea) (wide_same b r.y1 spans.0.2 spans.0.3 eb) (wide_same c r.x2 spans.1.0 spans.1.1 ec) (wide_same d r.y2 spans.1.2 spans.1.3 ed) in cc

-- the byte in front of a change, and what stands behind it
abbrev pub tag : Change → ℕ
tag (Put r) = 1
tag (Drop id) = 2
tag (Set id value) = 3

abbrev pub behind_tag : Change → List ℕ → List ℕ
behind_tag (Put r) rest = u64_bytes r.id ++ (rect_bytes r.rect ++ (value_bytes r.value ++ rest))
behind_tag (Drop id) rest = u64_bytes id ++ rest
behind_tag (Set id value) rest = u64_bytes id ++ (value_bytes value ++ rest)

pub tagged : (c : Change) (rest all : List ℕ) → all ≡ change_bytes c ++ rest → all ≡ tag c ∷ behind_tag c rest
unfolding put_bytes drop_bytes set_bytes
tagged (Put r) rest all is = is ∙ simp append_assoc
tagged (Drop id) rest all is = is
tagged (Set id value) rest all is = is ∙ simp append_assoc

-- a change behind each byte
pub is_put : (c : Change) → tag c ≡ 1 → (r : Record) × (c ≡ Put r)
is_put (Put r) is = (r, refl)
is_put (Drop id) is = absurd (omega (arith, is))
is_put (Set id value) is = absurd (omega (arith, is))

pub is_drop : (c : Change) → tag c ≡ 2 → (id : ℕ) × (c ≡ Drop id)
is_drop (Put r) is = absurd (omega (arith, is))
is_drop (Drop id) is = (id, refl)
is_drop (Set id value) is = absurd (omega (arith, is))

pub is_set : (c : Change) → tag c ≡ 3 → (id : ℕ) × (value : List ℕ) × (c ≡ Set id value)
is_set (Put r) is = absurd (omega (arith, is))
is_set (Drop id) is = absurd (omega (arith, is))
is_set (Set id value) is = (id, value, refl)

pub no_other : (c : Change) (n : ℕ) (P : Type 0) → tag c ≡ n → n ≢ 1 → n ≢ 2 → n ≢ 3 → P
no_other (Put r) n P is a b c = absurd (a (sym is))
no_other (Drop id) n P is a b c = absurd (b (sym is))
no_other (Set id value) n P is a b c = absurd (c (sym is))

-- one change more of a list
all_at : (cs : List Change) (i : ℕ) (d : Change) → AllChanges cs → i < length cs → IsChange (get_or cs i d)
all_at [] i d all lt = absurd (omega arith)
all_at (c ∷ cs) zero d all lt = all.0
all_at (c ∷ cs) (suc i) d all lt = all_at cs i d all.1 (omega arith)

pub next_change : (cs : List Change) (i : ℕ) (rest : List ℕ) → AllChanges cs → i < length cs
    → (c : Change) × IsChange c × (flat_map change_bytes (drop i cs) ++ rest ≡ change_bytes c ++ (flat_map change_bytes (drop (i + 1) cs) ++ rest)) × (take (i + 1) cs ≡ take i cs ++ c ∷ [])
next_change cs i rest all lt =
    let d : Change = get_or cs i (Drop 0) in (
      d,
      all_at cs i (Drop 0) all lt,
      ap (λ l. flat_map change_bytes l ++ rest) (drop_more cs i (Drop 0) lt) ∙ append_assoc (change_bytes d) (flat_map change_bytes (drop (i + 1) cs)) rest,
      take_more cs i (Drop 0) lt,
    )

-- one commit more of a batch
pub commit_at : (cs : List (List Change)) (i : ℕ) (d : List Change) → AllCommits cs → i < length cs → IsCommit (get_or cs i d)
commit_at [] i d all lt = absurd (omega arith)
commit_at (c ∷ cs) zero d all lt = all.0
commit_at (c ∷ cs) (suc i) d all lt = commit_at cs i d all.1 (omega arith)

pub next_commit : (cs : List (List Change)) (i : ℕ) (rest : List ℕ) → AllCommits cs → i < length cs
    → (c : List Change) × IsCommit c × (flat_map commit_bytes (drop i cs) ++ rest ≡ commit_bytes c ++ (flat_map commit_bytes (drop (i + 1) cs) ++ rest)) × (take (i + 1) cs ≡ take i cs ++ c ∷ [])
next_commit cs i rest all lt =
    let d : List Change = get_or cs i [] in (
      d,
      commit_at cs i [] all lt,
      ap (λ l. flat_map commit_bytes l ++ rest) (drop_more cs i [] lt) ∙ append_assoc (commit_bytes d) (flat_map commit_bytes (drop (i + 1) cs)) rest,
      take_more cs i [] lt,
    )

pub commit_parts : (cs : List Change) (rest all : List ℕ) → all ≡ commit_bytes cs ++ rest → all ≡ u32_bytes (length cs) ++ (flat_map change_bytes cs ++ rest)
unfolding commit_bytes
commit_parts cs rest all is = is ∙ append_assoc (u32_bytes (length cs)) (flat_map change_bytes cs) rest

pub batch_parts : (q : List (List Change)) (all : List ℕ) → all ≡ batch_bytes q → all ≡ u32_bytes (length q) ++ (flat_map commit_bytes q ++ [])
unfolding batch_bytes
batch_parts q all is = is ∙ ap (λ (l : List ℕ). u32_bytes (length q) ++ l) (sym (append-nil (flat_map commit_bytes q)))
