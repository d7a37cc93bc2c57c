-- What a transcript says of the input, and of the transactions that were committed.
use Rattle.std.specs.Prelude.{ℕ, true, false, not, ◌==◌, List, [], ◌∷◌, ◌++◌, map, filter, fold, Option, Some, None, Result, Ok, Err, if◌then◌else◌}
use Rattle.sp_rect.specs.declared.operation.Op.{Op}
use Rattle.sp_rect.specs.declared.operation.Reply.{Reply}
use Rattle.sp_rect.specs.declared.operation.Answered.{Answered}
use Rattle.sp_rect.specs.declared.commit.Commit.{Commit}
use Rattle.sp_event.specs.declared.event.Event.{Event}
use Rattle.sp_event.specs.declared.event.Event.TheVariants.{Begin, Start, Name, Ask, Apply, Commit as CommitEvent, Rollback}
use Rattle.sp_event.specs.declared.answer.Answer.{Answer}
use Rattle.sp_event.specs.declared.answer.Answer.TheVariants.{Began, Started, Reply as Replied, Committed, RolledBack, Deadlock}
use Rattle.sp_text.specs.Grammar.{Wrong, wrong}
use Rattle.sp_text.specs.declared.form.Form.{Form}
use Rattle.sp_text.specs.declared.form.Form.TheVariants.{Session as OneSession}
use Rattle.sp_text.specs.declared.types.Command.{Command}
use Rattle.sp_text.specs.declared.types.Command.TheVariants.{Begin as BeginIt, Do, Commit as CommitIt, Rollback as RollbackIt}
use Rattle.sp_text.specs.declared.types.Said.{Said}
use Rattle.sp_text.specs.declared.types.Said.TheVariants.{Do as Tells, Step}
use Rattle.sp_text.specs.declared.types.Item.{Item}
use Rattle.sp_text.specs.declared.types.Item.TheVariants.{Bad, Told, Stepped}

-- a line names its session, but over a link
abbrev pub named_in : Form → ℕ → Option ℕ
named_in OneSession session = None
named_in form session = Some session

-- what an item says that its line said; a late item has no line
abbrev pub heard_line : Form → Item → List (Result Said Wrong)
heard_line form (Bad session bad) = Err (wrong session bad) ∷ []
heard_line form (Told session command answer true) = []
heard_line form (Told session command answer false) = Ok (Tells (named_in form session) command) ∷ []
heard_line form (Stepped event answer true) = []
heard_line form (Stepped event answer false) = Ok (Step event) ∷ []

abbrev pub heard : Form → List Item → List (Result Said Wrong)
heard form [] = []
heard form (item ∷ items) = heard_line form item ++ heard form items

-- an operation that a session was told is started
pub record StartedBy : Type 0 where
  pub session : ℕ
  pub op : Op

-- the transactions that are open, those that were committed, and the operations that were started, the last one first
pub record Ledger : Type 0 where
  pub pending : List Commit
  pub done : List Commit
  pub started : List StartedBy

unfoldable pub of_others : ℕ → List Commit → List Commit
of_others session pending = filter (λ c. not (c.session == session)) pending

unfoldable pub of_session : ℕ → List Commit → List Commit
of_session session pending = filter (λ c. c.session == session) pending

-- the operation and its reply go to the end of the session's open transaction
abbrev pub with_pair : Answered → Commit → Commit
with_pair pair c = record c { ops = c.ops ++ pair ∷ [] }

abbrev pub with_place : ℕ → Commit → Commit
with_place place c = record c { place = place }

-- the operation was replied to in the session's open transaction
abbrev pub replied_in : Ledger → ℕ → Op → Reply → Ledger
replied_in l s op reply = record l { pending = map (with_pair (record { op = op; reply = reply })) (of_session s l.pending) ++ of_others s l.pending }

-- what an answer to a command does to the transactions
abbrev pub noted : Ledger → ℕ → Command → Answer → Ledger
noted l s _ (Began txn seen) = record l { pending = record { session = s; txn = txn; seen = seen; place = 0; ops = [] } ∷ of_others s l.pending }
noted l s (Do op) (Replied reply) = replied_in l s op reply
noted l s _ (Committed place) = record l { pending = of_others s l.pending; done = l.done ++ map (with_place place) (of_session s l.pending) }
noted l s _ RolledBack = record l { pending = of_others s l.pending }
noted l s _ (Deadlock cycle) = record l { pending = of_others s l.pending }
noted l s _ _ = l

-- the operation that the session started last, if any
abbrev pub last_started : ℕ → List StartedBy → Option Op
last_started session [] = None
last_started session (x ∷ rest) = if x.session == session then Some x.op else last_started session rest

abbrev pub applied : Ledger → ℕ → Option Op → Reply → Ledger
applied l s None reply = l
applied l s (Some op) reply = replied_in l s op reply

-- what an answer to an event does: a reply to Apply is to the operation that its session started last
abbrev pub stepped_to : Ledger → Event → Answer → Ledger
stepped_to l (Begin s) answer = noted l s BeginIt answer
stepped_to l (Start s op) Started = record l { started = record { session = s; op = op } ∷ l.started }
stepped_to l (Apply s) (Replied reply) = applied l s (last_started s l.started) reply
stepped_to l (Name s) (Deadlock cycle) = record l { pending = of_others s l.pending }
stepped_to l (Ask s) (Deadlock cycle) = record l { pending = of_others s l.pending }
stepped_to l (CommitEvent s) answer = noted l s CommitIt answer
stepped_to l (Rollback s) answer = noted l s RollbackIt answer
stepped_to l _ _ = l

abbrev pub note : Ledger → Item → Ledger
note l (Bad session bad) = l
note l (Told session command answer late) = noted l session command answer
note l (Stepped event answer late) = stepped_to l event answer

abbrev pub ledger : List Item → Ledger
ledger items = fold note (record { pending = []; done = []; started = [] }) items

-- the transactions that were committed, in the order in which their places were told
abbrev pub committed : List Item → List Commit
committed items = (ledger items).done
