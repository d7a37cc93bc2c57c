-- Lines that are taken from a source one by one are those of its bytes.
use Rattle.std.proofs.Common.{rules, ◌≡◌, ℕ, ◌+◌, ◌<◌, Bool, true, false, not, cond, List, [], ◌∷◌, ◌++◌, length, Option, refl, sym, ap, ◌∙◌, subst, append_assoc, length-append, arith, ◌^◌}
use Rattle.std.specs.Str.Lines.{strip_carriage_return}
use Rattle.std.specs.Io.KnownBytes.{Keeps, Consumes, IsAtEnd}
use Rattle.sp_io.proofs.Known.{Consumes-none, Consumes-more, Consumes-kept}
use Rattle.sp_text.specs.Lines.{is_blank}
use Rattle.sp_lines.specs.declared.reader.Next.{Next}
use Rattle.sp_lines.specs.declared.reader.Next.TheVariants.{Last, End}
use Rattle.sp_lines.specs.declared.fault.Fault.{Fault}
use Rattle.sp_lines.specs.Cutting.{cut_after, cut_whole, answered}
use Rattle.sp_lines.specs.Hearing.{GoesThrough, GoesSoFar, StopsWithin}
use Rattle.sp_lines.specs.Pending.{Pending}
use Rattle.sp_lines.specs.Taking.{line_of, CutsOff, CutsTo, HasTaken, ComesTo}
use Rattle.sp_lines.proofs.CutLines.{cut_pieces_rest, answered_pieces, answered_on, answered_whole}

append-nil : {A : Type 0} (x : List A) → x ++ [] ≡ x
append-nil x = search rules

pub cuts_none : (bytes rest : List ℕ) → CutsOff bytes bytes rest [] rest
cuts_none bytes rest = record { bytes = []; parts = refl; ended = refl; left = refl }

pub cuts_line : (found : Bool) (old new rest after : List ℕ) → found ≡ true → CutsTo found old new rest after → CutsOff old new rest (strip_carriage_return after ∷ []) []
cuts_line found old new rest after e h = subst (λ x. CutsTo x old new rest after) e h

pub cuts_rest : (found : Bool) (old new rest after : List ℕ) → found ≡ false → CutsTo found old new rest after → CutsOff old new rest [] after × (new ≡ [])
cuts_rest found old new rest after e h = subst (λ x. CutsTo x old new rest after) e h

-- a line that an LF ended
pub line_by_newline : (ended : Bool) (line : List ℕ) → ended ≡ false → line_of ended line ≡ strip_carriage_return line
line_by_newline ended line e = ap (λ b. cond b line (strip_carriage_return line)) e

-- some bytes more
pub cuts_more : (old mid new rest front after : List ℕ) (lines more : List (List ℕ)) → CutsOff old mid rest lines front → CutsOff mid new front more after
    → CutsOff old new rest (lines ++ more) after
cuts_more old mid new rest front after lines more p q = record {
  bytes = p.bytes ++ q.bytes;
  parts = p.parts ∙ ap (λ x. p.bytes ++ x) q.parts ∙ sym (append_assoc p.bytes q.bytes new);
  ended = answered_pieces rest p.bytes q.bytes front p.left ∙ ap (λ x. x ++ answered (cut_after front q.bytes).lines) p.ended ∙ ap (λ x. lines ++ x) q.ended;
  left = q.left ∙ ap (λ r. (cut_after r q.bytes).rest) p.left ∙ sym (cut_pieces_rest rest p.bytes q.bytes);
}

module _ (start left : Option (List ℕ)) where
  -- what is cut goes over from what is pending
  pub taken_cut : (p q : Pending) (rest after : List ℕ) (lines more : List (List ℕ)) → HasTaken start left p rest lines
      → CutsOff p.bytes q.bytes rest more after → q.room ≡ p.room → HasTaken start left q after (lines ++ more)
  taken_cut p q rest after lines more h c e =
      let parts : h.cut ++ p.bytes ≡ (h.cut ++ c.bytes) ++ q.bytes = ap (λ x. h.cut ++ x) c.parts ∙ sym (append_assoc h.cut c.bytes q.bytes) in
      record {
        cut = h.cut ++ c.bytes;
        read = subst (Consumes start left) parts h.read;
        count = omega (arith, h.count, e, ap length parts);
        ended = answered_pieces [] h.cut c.bytes rest h.kept ∙ ap (λ x. x ++ answered (cut_after rest c.bytes).lines) h.ended ∙ ap (λ x. lines ++ x) c.ended;
        kept = c.left ∙ ap (λ r. (cut_after r c.bytes).rest) h.kept ∙ sym (cut_pieces_rest [] h.cut c.bytes);
      }

  pub taken_on : (p q : Pending) (rest after : List ℕ) (lines : List (List ℕ)) → HasTaken start left p rest lines
      → CutsOff p.bytes q.bytes rest [] after → q.room ≡ p.room → HasTaken start left q after lines
  taken_on p q rest after lines h c e = subst (HasTaken start left q after) (append-nil lines) (taken_cut p q rest after lines [] h c e)

  -- the bytes of one more read are pending
  pub taken_fill : (now : Option (List ℕ)) (p q : Pending) (rest : List ℕ) (lines : List (List ℕ)) → HasTaken start left p rest lines → p.bytes ≡ []
      → Consumes left now q.bytes → length q.bytes + q.room ≡ p.room → HasTaken start now q rest lines
  taken_fill now p q rest lines h e r n =
      let all : h.cut ++ p.bytes ≡ h.cut = ap (λ x. h.cut ++ x) e ∙ append-nil h.cut in
      record {
        cut = h.cut;
        read = Consumes-more start left now h.cut q.bytes (subst (Consumes start left) all h.read) r;
        count = omega (arith, h.count, n, ap length all, length-append h.cut q.bytes);
        ended = h.ended;
        kept = h.kept;
      }

  pub so_far : (now : Option (List ℕ)) (p : Pending) (rest : List ℕ) (lines : List (List ℕ)) → HasTaken start left p rest lines → p.bytes ≡ [] → Keeps left now
      → (g : GoesSoFar (λ ended l. l ≡ lines) start now) × (length g.bytes + p.room ≡ 2 ^ 32)
  so_far now p rest lines h e k =
      let all : h.cut ++ p.bytes ≡ h.cut = ap (λ x. h.cut ++ x) e ∙ append-nil h.cut in (
        record { bytes = h.cut; read = Consumes-kept start left now h.cut (subst (Consumes start left) all h.read) k; went = h.ended },
        omega (arith, h.count, ap length all),
      )

  -- the last line is blank
  pub comes_end : (now : Option (List ℕ)) (p : Pending) (rest : List ℕ) (lines : List (List ℕ)) → HasTaken start left p rest lines → p.bytes ≡ []
      → Keeps left now → IsAtEnd now → 0 < p.room → is_blank rest ≡ true → GoesThrough (λ ended l. l ≡ lines) start now
  comes_end now p rest lines h e k end room blank =
      let all : h.cut ++ p.bytes ≡ h.cut = ap (λ x. h.cut ++ x) e ∙ append-nil h.cut in
      record {
        bytes = h.cut;
        read = Consumes-kept start left now h.cut (subst (Consumes start left) all h.read) k;
        end = end;
        short = omega (arith, h.count, ap length all, room);
        went = answered_whole h.cut rest h.kept ∙ ap (λ x. x ++ answered (rest ∷ [])) h.ended ∙ ap (λ b. lines ++ cond (not b) (rest ∷ []) []) blank ∙ append-nil lines;
      }

  -- the last line is not
  pub comes_last : (now : Option (List ℕ)) (p : Pending) (rest : List ℕ) (lines : List (List ℕ)) → HasTaken start left p rest lines → p.bytes ≡ []
      → Keeps left now → IsAtEnd now → 0 < p.room → is_blank rest ≡ false → GoesThrough (λ ended l. l ≡ lines ++ rest ∷ []) start now
  comes_last now p rest lines h e k end room blank =
      let all : h.cut ++ p.bytes ≡ h.cut = ap (λ x. h.cut ++ x) e ∙ append-nil h.cut in
      record {
        bytes = h.cut;
        read = Consumes-kept start left now h.cut (subst (Consumes start left) all h.read) k;
        end = end;
        short = omega (arith, h.count, ap length all, room);
        went = answered_whole h.cut rest h.kept ∙ ap (λ x. x ++ answered (rest ∷ [])) h.ended ∙ ap (λ b. lines ++ cond (not b) (rest ∷ []) []) blank;
      }

  pub comes_ended : (now : Option (List ℕ)) (p q : Pending) (rest line : List ℕ) (ended : Bool) (lines : List (List ℕ)) (next : Next) → HasTaken start left p rest lines
      → p.bytes ≡ [] → Keeps left now → IsAtEnd now → 0 < p.room → next ≡ cond (is_blank rest) End Last → line ≡ rest → ended ≡ true
      → ComesTo next start now q (line_of ended line) lines
  comes_ended now p q rest line ended lines next h e k end room told same over = by_test (is_blank rest) refl
    where
      whole : line_of ended line ≡ rest
      whole = ap (λ b. cond b line (strip_carriage_return line)) over ∙ same

      by_test : (t : Bool) → is_blank rest ≡ t → ComesTo next start now q (line_of ended line) lines
      by_test true f = subst (λ x. ComesTo x start now q (line_of ended line) lines) (sym (told ∙ ap (λ b. cond b End Last) f))
          (comes_end now p rest lines h e k end room f)
      by_test false f = subst (λ x. ComesTo x start now q (line_of ended line) lines) (sym (told ∙ ap (λ b. cond b End Last) f))
          (subst (λ (x : List ℕ). GoesThrough (λ ended l. l ≡ lines ++ x ∷ []) start now) (sym whole) (comes_last now p rest lines h e k end room f))

  -- further lines follow those that were taken
  pub further : (p : Pending) (rest : List ℕ) (lines : List (List ℕ)) (h : HasTaken start left p rest lines)
      → (others : List (List ℕ)) × (answered (cut_whole (h.cut ++ p.bytes)) ≡ lines ++ others)
  further p rest lines h =
      let bytes = h.cut ++ p.bytes in
      let more = answered (cut_after rest p.bytes).lines in
      let end = answered ((cut_after [] bytes).rest ∷ []) in (
        more ++ end,
        answered_on bytes
            ∙ ap (λ x. x ++ end) (answered_pieces [] h.cut p.bytes rest h.kept ∙ ap (λ x. x ++ more) h.ended)
            ∙ append_assoc lines more end,
      )

  pub comes_fault : (fault : Fault) (p : Pending) (rest : List ℕ) (lines : List (List ℕ)) → HasTaken start left p rest lines
      → StopsWithin (λ fault l. (others : List (List ℕ)) × (l ≡ lines ++ others)) fault start left
  comes_fault fault p rest lines h = record { bytes = h.cut ++ p.bytes; read = h.read; stopped = further p rest lines h }

-- before the first line
pub taken_none : (start : Option (List ℕ)) (p : Pending) → p.bytes ≡ [] → p.room ≡ 2 ^ 32 → HasTaken start start p [] []
taken_none start p e n = record {
  cut = [];
  read = subst (Consumes start start) (sym e) (Consumes-none start);
  count = omega (arith, n, ap length e);
  ended = refl;
  kept = refl;
}
