-- The answers to a whole script of commands, and those of a plain store to a script of one session.
use Rattle.std.specs.Prelude.{◌≡◌, ℕ, ◌+◌, ◌<◌, Bool, true, false, List, [], ◌∷◌, ◌++◌, filter, length}
use Rattle.sp_rect.specs.declared.record.Record.{Record}
use Rattle.sp_rect.specs.declared.operation.Answered.{Answered}
use Rattle.sp_rect.specs.declared.commit.Commit.{Commit}
use Rattle.sp_rect.specs.Store.{replied}
use Rattle.sp_rect.specs.Serial.{records_after, after_all}
use Rattle.sp_node.specs.Among.{Among}
use Rattle.sp_event.specs.declared.answer.Answer.{Answer}
use Rattle.sp_event.specs.declared.answer.Answer.TheVariants.{Began, Reply, Committed as IsCommitted, RolledBack, Refused, Full}
use Rattle.sp_event.specs.declared.answer.Why.TheVariants.{InTxn, NoTxn}
use Rattle.sp_text.specs.Transcripts.{ledger, of_session, committed}
use Rattle.sp_text.specs.declared.types.Command.{Command}
use Rattle.sp_text.specs.declared.types.Command.TheVariants.{Begin, Do, Commit as CommitIt, Rollback}
use Rattle.sp_text.specs.declared.types.Item.{Item}
use Rattle.sp_text.specs.declared.types.Item.TheVariants.{Bad, Told, Stepped}
use Rattle.sp_conduct.specs.Standing.{Standing, standing}
use Rattle.sp_conduct.specs.Fitting.{Scene, CommandFits, LateFits}

-- a transaction began
abbrev pub is_begun : Item → Bool
is_begun (Told s command (Began txn seen) late) = true
is_begun item = false

abbrev pub begun : List Item → ℕ
begun items = length (filter is_begun items)

-- the operations of an open transaction, with their replies
abbrev pub pairs_of : List Commit → List Answered
pairs_of [] = []
pairs_of (c ∷ rest) = c.ops

-- what the transaction of a session sees: the records at the start, after the transactions that are committed, and then after its own operations
abbrev pub seen_by : List Record → List Item → ℕ → List Record
seen_by base items s = records_after (after_all base (committed items)) (pairs_of (of_session s (ledger items).pending))

-- what the line meets that comes behind these items
abbrev pub scene : List Record → List Item → Scene
scene base items = record { at = standing items; seen = seen_by base items; next = begun items + 1; committed = length (committed items) }

-- an item fits what was told before it
abbrev pub Fits : List Record → List Item → Item → Type 0
Fits base before (Bad session bad) = Unit {0}
Fits base before (Told s command answer false) = CommandFits (scene base before) s command answer
Fits base before (Told s command answer true) = LateFits (scene base before) s command answer
Fits base before (Stepped event answer late) = ⊥

-- every item fits those before it
abbrev pub IsConducted : List Record → List Item → Type 0
IsConducted base items = (before : List Item) (item : Item) (behind : List Item) → items ≡ before ++ item ∷ behind → Fits base before item

-- no session below this number has a transaction left
abbrev pub IsClosed : List Item → ℕ → Type 0
IsClosed items sessions = (s : ℕ) → s < sessions → standing items s ≡ Standing.Out

-- every answer is told to this session
abbrev pub IsOf : ℕ → Item → Type 0
IsOf s (Told t command answer late) = t ≡ s
IsOf s item = Unit {0}

abbrev pub AreOf : ℕ → List Item → Type 0
AreOf s items = (item : Item) → Among item items → IsOf s item

-- what a plain store answers to a command of its only session, by whether that has a transaction, the records that it sees, the number of the next transaction, and how many are committed
abbrev pub plain_answer : Standing → List Record → ℕ → ℕ → Command → Answer
plain_answer Standing.Out seen next committed Begin = Began next committed
plain_answer Standing.Out seen next committed command = Refused NoTxn
plain_answer was seen next committed Begin = Refused InTxn
plain_answer was seen next committed (Do op) = Reply (replied op seen)
plain_answer was seen next committed CommitIt = IsCommitted (committed + 1)
plain_answer was seen next committed Rollback = RolledBack

-- the answer is that one, or a limit is reached
abbrev pub PlainOrFull : Scene → ℕ → Command → Answer → Type 0
PlainOrFull sc s command (Full kind) = Unit {0}
PlainOrFull sc s command answer = answer ≡ plain_answer (sc.at s) (sc.seen s) sc.next sc.committed command

-- an item is what a plain store answers, which answers at once; only at the end of the input comes a rollback late
abbrev pub AsPlain : List Record → List Item → Item → Type 0
AsPlain base before (Bad session bad) = Unit {0}
AsPlain base before (Told s Rollback answer true) = answer ≡ RolledBack
AsPlain base before (Told s command answer true) = ⊥
AsPlain base before (Told s command answer false) = PlainOrFull (scene base before) s command answer
AsPlain base before (Stepped event answer late) = ⊥

abbrev pub IsAsPlain : List Record → List Item → Type 0
IsAsPlain base items = (before : List Item) (item : Item) (behind : List Item) → items ≡ before ++ item ∷ behind → AsPlain base before item
