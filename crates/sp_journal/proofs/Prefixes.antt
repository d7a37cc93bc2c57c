-- Bytes that were written tell what they were written from.
use Rattle.std.proofs.Common.{◌≡◌, ◌+◌, ◌^◌, ◌<◌, ◌≤ℤ◌, ℕ, ℤ, add-one, w32, List, [], ◌∷◌, ◌++◌, length, take, drop, get_or, refl, sym, ◌∙◌, ap, subst, arith, append_assoc}
use Rattle.std.proofs.lemmas.List.{take_at, drop_at}
use Rattle.std.specs.List.{flat_map}
use Rattle.std.specs.Int.{cast_signed, cast_unsigned}
use Rattle.byteorder.specs.Endian.{big_number}
use Rattle.byteorder.specs.Numbers.{big_number-reads_back}
use Rattle.sp_rect.specs.Plane.{Rectangle, IsRectangle, lowest, highest}
use Rattle.sp_rect.specs.declared.record.Record.{Record}
use Rattle.sp_plain.specs.declared.change.Change.{Change}
use Rattle.sp_plain.specs.declared.change.Change.TheVariants.{Put, Drop, Set}
use Rattle.sp_journal.specs.Format.{u32_bytes, u64_bytes, coordinate_bytes, rect_bytes, value_bytes, put_bytes, change_bytes, commit_bytes, batch_bytes, checkpoint_bytes, header_bytes, IsPut, IsChange, AllChanges, IsCommit, AllCommits, IsBatch, IsCheckpoint}
use Rattle.sp_journal.specs.Recovery.{IsHeader}
use Rattle.sp_journal.proofs.Chunks.{length-u32, length-u64}
use Rattle.sp_journal.proofs.Heads.{small_numbers}
use Rattle.sp_journal.proofs.Pages.{put_parts, checkpoint_parts}
use Rattle.sp_journal.proofs.Readers.{word_fits, word_is, rect_parts, corner_spans, tagged, tag, behind_tag, commit_parts, batch_parts}

-- what two pieces of bytes in front of others are
pub record Same {T : Type 0} (x y : T) (r s : List ℕ) : Type 0 where
  pub piece : x ≡ y
  pub rest : r ≡ s

pub same_front : (a b r s : List ℕ) → length a ≡ length b → a ++ r ≡ b ++ s → Same a b r s
same_front a b r s same is = record {
  piece = sym (take_at a r (length a) refl) ∙ ap (λ (l : List ℕ). take (length a) l) is ∙ take_at b s (length a) (sym same);
  rest = sym (drop_at a r (length a) refl) ∙ ap (λ (l : List ℕ). drop (length a) l) is ∙ drop_at b s (length a) (sym same);
}

pub u32_same : (x y : ℕ) (r s : List ℕ) → x < 2 ^ 32 → y < 2 ^ 32 → u32_bytes x ++ r ≡ u32_bytes y ++ s → Same x y r s
unfolding u32_bytes
u32_same x y r s few less is = record {
  piece = sym (big_number-reads_back 4 x r few) ∙ ap (λ (l : List ℕ). big_number 4 l) is ∙ big_number-reads_back 4 y s less;
  rest = (same_front (u32_bytes x) (u32_bytes y) r s (length-u32 x ∙ sym (length-u32 y)) is).rest;
}

pub u64_same : (x y : ℕ) (r s : List ℕ) → x < 2 ^ 64 → y < 2 ^ 64 → u64_bytes x ++ r ≡ u64_bytes y ++ s → Same x y r s
unfolding u64_bytes
u64_same x y r s few less is = record {
  piece = sym (big_number-reads_back 8 x r few) ∙ ap (λ (l : List ℕ). big_number 8 l) is ∙ big_number-reads_back 8 y s less;
  rest = (same_front (u64_bytes x) (u64_bytes y) r s (length-u64 x ∙ sym (length-u64 y)) is).rest;
}

-- a coordinate of space
abbrev InSpace : ℤ → Type 0
InSpace z = (lowest ≤ℤ z) × (z ≤ℤ highest)

coordinate_same : (z w : ℤ) (r s : List ℕ) → InSpace z → InSpace w → coordinate_bytes z ++ r ≡ coordinate_bytes w ++ s → Same z w r s
unfolding coordinate_bytes
coordinate_same z w r s inside within is =
    let words = u32_same (cast_unsigned w32 z) (cast_unsigned w32 w) r s (word_fits z inside.0 inside.1) (word_fits w within.0 within.1) is in
    record { piece = sym (word_is z inside.0 inside.1) ∙ ap (λ (n : ℕ). cast_signed w32 n) words.piece ∙ word_is w within.0 within.1; rest = words.rest }

same_rectangle : (a b : Rectangle) → a.x1 ≡ b.x1 → a.y1 ≡ b.y1 → a.x2 ≡ b.x2 → a.y2 ≡ b.y2 → a ≡ b
same_rectangle a b e f g h = λ i. record { x1 = e i; y1 = f i; x2 = g i; y2 = h i }

rect_same : (a b : Rectangle) (r s : List ℕ) → IsRectangle a → IsRectangle b → rect_bytes a ++ r ≡ rect_bytes b ++ s → Same a b r s
rect_same a b r s is also same =
    let p = corner_spans a is in
    let q = corner_spans b also in
    let all = sym (rect_parts a r (rect_bytes a ++ r) refl) ∙ same ∙ rect_parts b s (rect_bytes b ++ s) refl in
    let one = coordinate_same a.x1 b.x1 _ _ (p.0.0, p.0.1) (q.0.0, q.0.1) all in
    let two = coordinate_same a.y1 b.y1 _ _ (p.0.2, p.0.3) (q.0.2, q.0.3) one.rest in
    let three = coordinate_same a.x2 b.x2 _ _ (p.1.0, p.1.1) (q.1.0, q.1.1) two.rest in
    let four = coordinate_same a.y2 b.y2 r s (p.1.2, p.1.3) (q.1.2, q.1.3) three.rest in
    record { piece = same_rectangle a b one.piece two.piece three.piece four.piece; rest = four.rest }

value_same : (v w r s : List ℕ) → value_bytes v ++ r ≡ value_bytes w ++ s → Same v w r s
unfolding value_bytes
value_same v w r s is =
    let all : length v ∷ (v ++ r) ≡ length w ∷ (w ++ s) = is in
    let size : length v ≡ length w = cc in
    let tails : v ++ r ≡ w ++ s = cc in
    same_front v w r s size tails

same_record : (a b : Record) → a.id ≡ b.id → a.rect ≡ b.rect → a.value ≡ b.value → a ≡ b
same_record a b e f g = λ i. record { id = e i; rect = f i; value = g i }

-- what stands behind the byte that says put
behind_same : (a b : Record) (r s : List ℕ) → IsPut a → IsPut b → u64_bytes a.id ++ (rect_bytes a.rect ++ (value_bytes a.value ++ r)) ≡ u64_bytes b.id ++ (rect_bytes b.rect ++ (value_bytes b.value ++ s)) → Same a b r s
behind_same a b r s is also same =
    let one = u64_same a.id b.id (rect_bytes a.rect ++ (value_bytes a.value ++ r)) (rect_bytes b.rect ++ (value_bytes b.value ++ s)) is.id also.id same in
    let two = rect_same a.rect b.rect (value_bytes a.value ++ r) (value_bytes b.value ++ s) is.rect also.rect one.rest in
    let three = value_same a.value b.value r s two.rest in
    record { piece = same_record a b one.piece two.piece three.piece; rest = three.rest }

pub put_same : (a b : Record) (r s : List ℕ) → IsPut a → IsPut b → put_bytes a ++ r ≡ put_bytes b ++ s → Same a b r s
put_same a b r s is also same =
    let all = sym (put_parts a r (put_bytes a ++ r) refl) ∙ same ∙ put_parts b s (put_bytes b ++ s) refl in
    let tails : u64_bytes a.id ++ (rect_bytes a.rect ++ (value_bytes a.value ++ r)) ≡ u64_bytes b.id ++ (rect_bytes b.rect ++ (value_bytes b.value ++ s)) = cc in
    behind_same a b r s is also tails

parts_same : (c d : Change) (r s : List ℕ) → IsChange c → IsChange d → tag c ≡ tag d → behind_tag c r ≡ behind_tag d s → Same c d r s
parts_same (Put a) (Put b) r s is also tags tails = let same = behind_same a b r s is also tails in record { piece = ap Put same.piece; rest = same.rest }
parts_same (Put a) (Drop e) r s is also tags tails = absurd (omega (arith, tags))
parts_same (Put a) (Set e w) r s is also tags tails = absurd (omega (arith, tags))
parts_same (Drop i) (Put b) r s is also tags tails = absurd (omega (arith, tags))
parts_same (Drop i) (Drop e) r s is also tags tails = let same = u64_same i e r s is also tails in record { piece = ap Drop same.piece; rest = same.rest }
parts_same (Drop i) (Set e w) r s is also tags tails = absurd (omega (arith, tags))
parts_same (Set i v) (Put b) r s is also tags tails = absurd (omega (arith, tags))
parts_same (Set i v) (Drop e) r s is also tags tails = absurd (omega (arith, tags))
parts_same (Set i v) (Set e w) r s is also tags tails =
    let one = u64_same i e (value_bytes v ++ r) (value_bytes w ++ s) is.0 also.0 tails in
    let two = value_same v w r s one.rest in
    let piece : Set i v ≡ Set e w = let ids = one.piece in let values = two.piece in cc in
    record { piece = piece; rest = two.rest }

change_same : (c d : Change) (r s : List ℕ) → IsChange c → IsChange d → change_bytes c ++ r ≡ change_bytes d ++ s → Same c d r s
change_same c d r s is also same =
    let all = sym (tagged c r (change_bytes c ++ r) refl) ∙ same ∙ tagged d s (change_bytes d ++ s) refl in
    let tags : tag c ≡ tag d = cc in
    let tails : behind_tag c r ≡ behind_tag d s = cc in
    parts_same c d r s is also tags tails

changes_same : (cs ds : List Change) (r s : List ℕ) → AllChanges cs → AllChanges ds → length cs ≡ length ds → flat_map change_bytes cs ++ r ≡ flat_map change_bytes ds ++ s → Same cs ds r s
changes_same [] [] r s is also size same = record { piece = refl; rest = same }
changes_same [] (d ∷ ds) r s is also size same = absurd (omega (arith, size))
changes_same (c ∷ cs) [] r s is also size same = absurd (omega (arith, size))
changes_same (c ∷ cs) (d ∷ ds) r s is also size same =
    let one = change_same c d (flat_map change_bytes cs ++ r) (flat_map change_bytes ds ++ s) is.0 also.0
    (sym (append_assoc (change_bytes c) (flat_map change_bytes cs) r) ∙ same ∙ append_assoc (change_bytes d) (flat_map change_bytes ds) s) in
    let more = changes_same cs ds r s is.1 also.1 (omega (arith, size)) one.rest in
    let piece : c ∷ cs ≡ d ∷ ds = let first = one.piece in let rest = more.piece in cc in
    record { piece = piece; rest = more.rest }

commit_same : (cs ds : List Change) (r s : List ℕ) → IsCommit cs → IsCommit ds → commit_bytes cs ++ r ≡ commit_bytes ds ++ s → Same cs ds r s
commit_same cs ds r s is also same =
    let all = sym (commit_parts cs r (commit_bytes cs ++ r) refl) ∙ same ∙ commit_parts ds s (commit_bytes ds ++ s) refl in
    let size = u32_same (length cs) (length ds) (flat_map change_bytes cs ++ r) (flat_map change_bytes ds ++ s) is.count also.count all in
    changes_same cs ds r s is.each also.each size.piece size.rest

commits_same : (cs ds : List (List Change)) (r s : List ℕ) → AllCommits cs → AllCommits ds → length cs ≡ length ds → flat_map commit_bytes cs ++ r ≡ flat_map commit_bytes ds ++ s → Same cs ds r s
commits_same [] [] r s is also size same = record { piece = refl; rest = same }
commits_same [] (d ∷ ds) r s is also size same = absurd (omega (arith, size))
commits_same (c ∷ cs) [] r s is also size same = absurd (omega (arith, size))
commits_same (c ∷ cs) (d ∷ ds) r s is also size same =
    let one = commit_same c d (flat_map commit_bytes cs ++ r) (flat_map commit_bytes ds ++ s) is.0 also.0
    (sym (append_assoc (commit_bytes c) (flat_map commit_bytes cs) r) ∙ same ∙ append_assoc (commit_bytes d) (flat_map commit_bytes ds) s) in
    let more = commits_same cs ds r s is.1 also.1 (omega (arith, size)) one.rest in
    let piece : c ∷ cs ≡ d ∷ ds = let first = one.piece in let rest = more.piece in cc in
    record { piece = piece; rest = more.rest }

pub batch_same : (cs ds : List (List Change)) → IsBatch cs → IsBatch ds → batch_bytes cs ≡ batch_bytes ds → cs ≡ ds
batch_same cs ds is also same =
    let all = sym (batch_parts cs (batch_bytes cs) refl) ∙ same ∙ batch_parts ds (batch_bytes ds) refl in
    let size = u32_same (length cs) (length ds) (flat_map commit_bytes cs ++ []) (flat_map commit_bytes ds ++ []) is.count also.count all in
    (commits_same cs ds [] [] is.each also.each size.piece size.rest).piece

-- each record of the list is one of a put
abbrev EachPut : List Record → Type 0
EachPut rs = (k : ℕ) (d : Record) → k < length rs → IsPut (get_or rs k d)

later_puts : (r : Record) (rs : List Record) → EachPut (r ∷ rs) → EachPut rs
later_puts r rs each k d lt =
    let at : IsPut (get_or (r ∷ rs) (k + 1) d) = each (k + 1) d (omega arith) in
    let same : get_or (r ∷ rs) (k + 1) d ≡ get_or rs k d = ap (λ (n : ℕ). get_or (r ∷ rs) n d) (add-one k) in
    subst IsPut same at

puts_same : (rs os : List Record) (r s : List ℕ) → EachPut rs → EachPut os → length rs ≡ length os → flat_map put_bytes rs ++ r ≡ flat_map put_bytes os ++ s → Same rs os r s
puts_same [] [] r s is also size same = record { piece = refl; rest = same }
puts_same [] (b ∷ os) r s is also size same = absurd (omega (arith, size))
puts_same (a ∷ rs) [] r s is also size same = absurd (omega (arith, size))
puts_same (a ∷ rs) (b ∷ os) r s is also size same =
    let one = put_same a b (flat_map put_bytes rs ++ r) (flat_map put_bytes os ++ s) (is 0 a (omega arith)) (also 0 b (omega arith))
    (sym (append_assoc (put_bytes a) (flat_map put_bytes rs) r) ∙ same ∙ append_assoc (put_bytes b) (flat_map put_bytes os) s) in
    let more = puts_same rs os r s (later_puts a rs is) (later_puts b os also) (omega (arith, size)) one.rest in
    let piece : a ∷ rs ≡ b ∷ os = let first = one.piece in let rest = more.piece in cc in
    record { piece = piece; rest = more.rest }

pub checkpoint_same : (rs os : List Record) → IsCheckpoint rs → IsCheckpoint os → checkpoint_bytes rs ≡ checkpoint_bytes os → rs ≡ os
checkpoint_same rs os is also same =
    let few = is.count in let less = also.count in
    let all = sym (checkpoint_parts rs (checkpoint_bytes rs) refl) ∙ same ∙ checkpoint_parts os (checkpoint_bytes os) refl in
    let none = u32_same 0 0 (u32_bytes (length rs) ++ (flat_map put_bytes rs ++ [])) (u32_bytes (length os) ++ (flat_map put_bytes os ++ [])) (omega arith) (omega arith) all in
    let size = u32_same (length rs) (length os) (flat_map put_bytes rs ++ []) (flat_map put_bytes os ++ []) (omega arith) (omega arith) none.rest in
    (puts_same rs os [] [] is.each also.each size.piece size.rest).piece

header_parts : (version generation : ℕ) (rest : List ℕ) → header_bytes version generation ++ rest ≡ (83 ∷ 80 ∷ 74 ∷ 76 ∷ []) ++ (u32_bytes version ++ (u64_bytes generation ++ rest))
unfolding header_bytes
header_parts version generation rest = simp append_assoc

-- the numbers of the header of a file
pub record SameHeader (v g w h : ℕ) (r s : List ℕ) : Type 0 where
  pub version : v ≡ w
  pub generation : g ≡ h
  pub rest : r ≡ s

pub header_same : (v g w h : ℕ) (r s : List ℕ) → IsHeader v g → IsHeader w h → header_bytes v g ++ r ≡ header_bytes w h ++ s → SameHeader v g w h r s
header_same v g w h r s is also same =
    let small = small_numbers v g is in let few = small_numbers w h also in
    let all = sym (header_parts v g r) ∙ same ∙ header_parts w h s in
    let magic = same_front (83 ∷ 80 ∷ 74 ∷ 76 ∷ []) (83 ∷ 80 ∷ 74 ∷ 76 ∷ []) (u32_bytes v ++ (u64_bytes g ++ r)) (u32_bytes w ++ (u64_bytes h ++ s)) refl all in
    let one = u32_same v w (u64_bytes g ++ r) (u64_bytes h ++ s) small.0 few.0 magic.rest in
    let two = u64_same g h r s small.1 few.1 one.rest in
    record { version = one.piece; generation = two.piece; rest = two.rest }
