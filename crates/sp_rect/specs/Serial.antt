-- Committed transactions, and that they are those of a plain store which runs them one at a time.
use Rattle.std.specs.Prelude.{◌≡◌, ℕ, ◌+◌, ◌<◌, List, [], ◌∷◌}
use Rattle.sp_rect.specs.Store.{replied, after}
use Rattle.sp_rect.specs.declared.record.Record.{Record}
use Rattle.sp_rect.specs.declared.operation.Answered.{Answered}
use Rattle.sp_rect.specs.declared.commit.Commit.{Commit}

-- the records after the operations of these pairs, one after the other
abbrev pub records_after : List Record → List Answered → List Record
records_after records [] = records
records_after records (p ∷ pairs) = records_after (after p.op records) pairs

-- each reply is that of the plain store
abbrev pub RepliesAsPlain : List Record → List Answered → Type 0
RepliesAsPlain records [] = Unit {0}
RepliesAsPlain records (p ∷ pairs) = (p.reply ≡ replied p.op records) × RepliesAsPlain (after p.op records) pairs

-- the records after these commits, one after the other
abbrev pub after_all : List Record → List Commit → List Record
after_all records [] = records
after_all records (c ∷ commits) = after_all (records_after records c.ops) commits

-- the commits that follow the first n are in order of place, saw only earlier places, and were told what
-- a plain store tells them
abbrev pub SerialFrom : ℕ → List Record → List Commit → Type 0
SerialFrom n records [] = Unit {0}
SerialFrom n records (c ∷ commits) = (c.place ≡ n + 1) × (c.seen < c.place) × RepliesAsPlain records c.ops
    × SerialFrom (n + 1) (records_after records c.ops) commits

-- the commits, run one at a time in order of place from the base, give exactly their replies
abbrev pub Serial : List Record → List Commit → Type 0
Serial base commits = SerialFrom 0 base commits
