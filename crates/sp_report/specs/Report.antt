-- The texts that tell of a journal.
use Rattle.std.specs.Prelude.{ℕ, List, [], ◌∷◌, ◌++◌, length, map, codes, decimal}
use Rattle.std.specs.List.{flat_map}
use Rattle.sp_text.specs.Texts.{spaced, record_words, line_text}
use Rattle.sp_journal.specs.declared.types.Recovered.{Recovered}

-- `found N`, and then a line for each record
abbrev pub dump_text : Recovered → List ℕ
dump_text found = flat_map (line_text []) ((codes "found " ++ decimal (length found.records)) ∷ map record_words found.records)

-- `whole B C R`
unfoldable pub check_text : Recovered → List ℕ
check_text found =
    codes "whole" ++ spaced (decimal found.batches) ++ spaced (decimal found.commits) ++ spaced (decimal (length found.records)) ++ codes "\n"

-- `compacted G R`
unfoldable pub compact_text : ℕ → ℕ → List ℕ
compact_text generation records = codes "compacted" ++ spaced (decimal generation) ++ spaced (decimal records) ++ codes "\n"
