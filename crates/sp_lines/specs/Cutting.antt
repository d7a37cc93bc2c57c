-- Bytes that are cut into lines as they come.
use Rattle.std.specs.Prelude.{◌≡◌, ◌≢◌, ℕ, not, ◌==◌, List, [], ◌∷◌, ◌++◌, All, filter, fold, nat_lt, length, slice_index_or, if◌then◌else◌}
use Rattle.std.specs.Str.Lines.{strip_carriage_return}
use Rattle.sp_text.specs.Lines.{is_blank}

-- the lines that have ended, and what is kept of the one that has not
pub record Cut : Type 0 where
  pub lines : List (List ℕ)
  pub rest : List ℕ

-- of a line 514 bytes are kept
unfoldable pub kept_more : List ℕ → ℕ → List ℕ
kept_more rest b = if nat_lt (length rest) 514 then rest ++ b ∷ [] else rest

-- one more byte
unfoldable pub cut_more : Cut → ℕ → Cut
cut_more c b = if b == 10
    then record { lines = c.lines ++ strip_carriage_return c.rest ∷ []; rest = [] }
    else record { lines = c.lines; rest = kept_more c.rest b }

-- the bytes after a front of a line
abbrev pub cut_after : List ℕ → List ℕ → Cut
cut_after rest bytes = fold cut_more (record { lines = []; rest = rest }) bytes

-- all lines of these bytes, the last one too
abbrev pub cut_whole : List ℕ → List (List ℕ)
cut_whole bytes = (cut_after [] bytes).lines ++ (cut_after [] bytes).rest ∷ []

-- the lines that have an answer
abbrev pub answered : List (List ℕ) → List (List ℕ)
answered lines = filter (λ line. not (is_blank line)) lines

-- these first bytes have no LF, and the byte behind them, if there is one, is an LF
pub record IsBeforeNewline (front bytes : List ℕ) : Type 0 where
  pub behind : List ℕ
  pub parts : bytes ≡ front ++ behind
  pub plain : All (λ (b : ℕ). b ≢ 10) front
  pub stops : slice_index_or behind 0 10 ≡ 10
