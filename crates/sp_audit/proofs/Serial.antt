-- One more serial commit.
use Rattle.std.proofs.Common.{◌≡◌, ℕ, ◌+◌, ◌<◌, List, [], ◌∷◌, ◌++◌, length, arith}
use Rattle.sp_rect.specs.Serial.{records_after, RepliesAsPlain, after_all, SerialFrom, Serial}
use Rattle.sp_rect.specs.declared.record.Record.{Record}
use Rattle.sp_rect.specs.declared.commit.Commit.{Commit}

SerialFrom-push : (n : ℕ) (records : List Record) (cs : List Commit) (c : Commit) → SerialFrom n records cs → c.place ≡ n + length cs + 1 → c.seen < c.place → RepliesAsPlain (after_all records cs) c.ops → SerialFrom n records (cs ++ c ∷ [])
SerialFrom-push n records [] c s p q r = (omega arith, q, r, tt)
SerialFrom-push n records (d ∷ ds) c s p q r = (s.0, s.1, s.2, SerialFrom-push (n + 1) (records_after records d.ops) ds c s.3 (omega arith) q r)

-- the next commit, if it saw earlier places only and was told what the records after the others tell
pub Serial-push : (base : List Record) (cs : List Commit) (c : Commit) → Serial base cs → c.place ≡ length cs + 1 → c.seen < c.place → RepliesAsPlain (after_all base cs) c.ops → Serial base (cs ++ c ∷ [])
Serial-push base cs c s p q r = SerialFrom-push 0 base cs c s (omega arith) q r
