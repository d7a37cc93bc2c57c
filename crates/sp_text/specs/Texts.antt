-- The texts of answers, as one table: what stands on the lines of each.
use Rattle.std.specs.Prelude.{ℕ, List, [], ◌∷◌, ◌++◌, length, map, Option, Some, None, codes, decimal, if◌then◌else◌}
use Rattle.std.specs.Fmt.{signed_decimal}
use Rattle.std.specs.List.{flat_map}
use Rattle.sp_rect.specs.Plane.{Rectangle}
use Rattle.sp_rect.specs.declared.record.Record.{Record}
use Rattle.sp_rect.specs.declared.operation.Reply.{Reply}
use Rattle.sp_rect.specs.declared.operation.Reply.TheVariants.{Done, Exists, Absent, Rec, Found, Count}
use Rattle.sp_locks.specs.declared.mode.Mode.{Mode}
use Rattle.sp_locks.specs.declared.row.Name.{Name}
use Rattle.sp_locks.specs.declared.row.Name.TheVariants.{Granule}
use Rattle.sp_waits.specs.declared.edge.Edge.{Edge}
use Rattle.sp_event.specs.declared.event.Event.{Event}
use Rattle.sp_event.specs.declared.event.Event.TheVariants.{Begin, Start, Name as AskName, Plan, Ask, Apply, Commit, Flush, Rollback, Clean}
use Rattle.sp_event.specs.declared.answer.Why.{Why}
use Rattle.sp_event.specs.declared.answer.Why.TheVariants.{InTxn, NoTxn, Busy, Phase}
use Rattle.sp_event.specs.declared.answer.Kind.{Kind}
use Rattle.sp_event.specs.declared.answer.Kind.TheVariants.{Transactions, Commits, Operations, History, Replies, Entries, Numbers}
use Rattle.sp_event.specs.declared.answer.Answer.{Answer}
use Rattle.sp_event.specs.declared.answer.Answer.TheVariants.{Began, Started, Granted, Planned, Reply as Replied, Committed, Queued, RolledBack, Waits, Deadlock, Still, LatchBusy, Refused, Full, Wrote, Durable, Nothing, Removed, Later, Stopped, DiskFault, Memory}
use Rattle.sp_text.specs.Names.{session_word, mode_word, name_words}
use Rattle.sp_text.specs.declared.form.Form.{Form}
use Rattle.sp_text.specs.declared.form.Form.TheVariants.{Session}
use Rattle.sp_text.specs.declared.form.Lead.{Lead}
use Rattle.sp_text.specs.declared.form.Lead.TheVariants.{Named, Nobody, Kernel}
use Rattle.sp_text.specs.declared.types.Bad.{Bad as Reason}
use Rattle.sp_text.specs.declared.types.Bad.TheVariants.{Long, Session as SessionWord, Command as CommandWord, Words, Number, Rect, Value}
use Rattle.sp_text.specs.declared.types.Item.{Item}
use Rattle.sp_text.specs.declared.types.Item.TheVariants.{Bad, Told, Stepped}

-- a space and a word
unfoldable pub spaced : List ℕ → List ℕ
spaced word = codes " " ++ word

unfoldable pub corner_words : Rectangle → List ℕ
corner_words r = spaced (signed_decimal r.x1) ++ spaced (signed_decimal r.y1) ++ spaced (signed_decimal r.x2) ++ spaced (signed_decimal r.y2)

-- `rec ID X1 Y1 X2 Y2 VALUE`
unfoldable pub record_words : Record → List ℕ
record_words r = codes "rec" ++ spaced (decimal r.id) ++ corner_words r.rect ++ spaced r.value

-- `edge FROM TO NAME WANTED held HAS`, or with `waiting` in place of `held`
unfoldable pub edge_words : Form → Edge → List ℕ
edge_words form e =
    codes "edge" ++ spaced (session_word form e.from) ++ spaced (session_word form e.to) ++ spaced (name_words e.name)
    ++ spaced (mode_word e.wanted) ++ (spaced (if e.waiting then codes "waiting" else codes "held") ++ spaced (mode_word e.has))

-- `waits NAME MODE` and then the blockers
unfoldable pub wait_words : Form → Name → Mode → List ℕ → List ℕ
wait_words form name mode blockers =
    codes "waits" ++ spaced (name_words name) ++ spaced (mode_word mode) ++ flat_map (λ s. spaced (session_word form s)) blockers

-- a holder, and the mode that it holds
unfoldable pub holder_words : Form → ℕ → Mode → List ℕ
holder_words form holder mode = spaced (session_word form holder) ++ spaced (mode_word mode)

-- `later granule NUMBER HOLDER MODE`
unfoldable pub later_words : Form → ℕ → ℕ → Mode → List ℕ
later_words form granule holder mode = codes "later" ++ spaced (name_words (Granule granule)) ++ holder_words form holder mode

unfoldable pub durable_words : ℕ → ℕ → List ℕ
durable_words first count = codes "durable" ++ spaced (decimal first) ++ spaced (decimal count)

abbrev pub why_words : Why → List ℕ
why_words InTxn = codes "refused intxn"
why_words NoTxn = codes "refused notxn"
why_words Busy = codes "refused busy"
why_words Phase = codes "refused phase"

abbrev pub kind_words : Kind → List ℕ
kind_words Transactions = codes "full transactions"
kind_words Commits = codes "full commits"
kind_words Operations = codes "full operations"
kind_words History = codes "full history"
kind_words Replies = codes "full replies"
kind_words Entries = codes "full entries"
kind_words Numbers = codes "full numbers"

-- what stands on the lines of a reply
abbrev pub reply_words : Reply → List (List ℕ)
reply_words Done = codes "done" ∷ []
reply_words Exists = codes "exists" ∷ []
reply_words Absent = codes "absent" ∷ []
reply_words (Rec r) = record_words r ∷ []
reply_words (Found records) = (codes "found " ++ decimal (length records)) ∷ map record_words records
reply_words (Count n) = (codes "count " ++ decimal n) ∷ []

-- what stands on the lines of an answer; a fault has none, since it ends the run
abbrev pub answer_words : Form → Answer → List (List ℕ)
answer_words form (Began txn seen) = (codes "began " ++ decimal seen) ∷ []
answer_words form Started = codes "started" ∷ []
answer_words form Granted = codes "granted" ∷ []
answer_words form (Planned n) = (codes "planned " ++ decimal n) ∷ []
answer_words form (Replied reply) = reply_words reply
answer_words form (Committed place) = (codes "committed " ++ decimal place) ∷ []
answer_words form Queued = codes "queued" ∷ []
answer_words form RolledBack = codes "rolledback" ∷ []
answer_words form (Waits name mode blockers) = wait_words form name mode blockers ∷ []
answer_words form (Deadlock cycle) = (codes "deadlock " ++ decimal (length cycle)) ∷ map (edge_words form) cycle
answer_words form (Still name) = (codes "still " ++ name_words name) ∷ []
answer_words form (LatchBusy holder) = (codes "latch " ++ session_word form holder) ∷ []
answer_words form (Refused why) = why_words why ∷ []
answer_words form (Full kind) = kind_words kind ∷ []
answer_words form Wrote = codes "wrote" ∷ []
answer_words form (Durable first count) = durable_words first count ∷ []
answer_words form Nothing = codes "nothing" ∷ []
answer_words form (Removed entry) = (codes "removed " ++ decimal entry) ∷ []
answer_words form (Later granule holder mode) = later_words form granule holder mode ∷ []
answer_words form (Stopped offset) = []
answer_words form DiskFault = []
answer_words form Memory = []

-- the session of a bad line, where it can be read
abbrev pub lead_of_session : Option ℕ → Lead
lead_of_session (Some session) = Named session
lead_of_session None = Nobody

abbrev pub bad_words : Reason → List ℕ
bad_words Long = codes "bad long"
bad_words SessionWord = codes "bad session"
bad_words CommandWord = codes "bad command"
bad_words Words = codes "bad words"
bad_words Number = codes "bad number"
bad_words Rect = codes "bad rect"
bad_words Value = codes "bad value"

-- whose line it is: a session's, that of a line which names none, or that of an event of no session
abbrev pub lead_of_event : Event → Lead
lead_of_event (Begin s) = Named s
lead_of_event (Start s op) = Named s
lead_of_event (AskName s) = Named s
lead_of_event (Plan s) = Named s
lead_of_event (Ask s) = Named s
lead_of_event (Apply s) = Named s
lead_of_event (Commit s) = Named s
lead_of_event (Rollback s) = Named s
lead_of_event Flush = Kernel
lead_of_event Clean = Kernel

-- what a line begins with; over a link that is nothing
unfoldable pub lead_words : Form → Lead → List ℕ
lead_words Session lead = []
lead_words form (Named session) = session_word form session ++ codes " "
lead_words form Nobody = codes "? "
lead_words form Kernel = codes "- "

-- a line: what it begins with, the words and LF
unfoldable pub line_text : List ℕ → List ℕ → List ℕ
line_text lead words = lead ++ words ++ codes "\n"

unfoldable pub item_text : Form → Item → List ℕ
item_text form (Bad session bad) = line_text (lead_words form (lead_of_session session)) (bad_words bad)
item_text form (Told session command answer late) = flat_map (line_text (lead_words form (Named session))) (answer_words form answer)
item_text form (Stepped event answer late) = flat_map (line_text (lead_words form (lead_of_event event))) (answer_words form answer)

-- the lines of all items
abbrev pub render : Form → List Item → List ℕ
render form items = flat_map (item_text form) items
