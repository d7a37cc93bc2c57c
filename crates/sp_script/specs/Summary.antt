-- The summary of playing a script.
use Rattle.std.specs.Prelude.{ℕ, List, ◌++◌, codes, decimal}
use Rattle.sp_script.specs.declared.summary.Summary.{Summary}

-- a word, a space, the number and LF
unfoldable pub counted : List ℕ → ℕ → List ℕ
counted word number = word ++ codes " " ++ decimal number ++ codes "\n"

unfoldable pub summary_text : Summary → List ℕ
summary_text s =
    counted (codes "lines") s.lines ++ counted (codes "commits") s.commits ++ counted (codes "waits") s.waits
    ++ counted (codes "deadlocks") s.deadlocks ++ counted (codes "refused") s.refused ++ counted (codes "records") s.records
