-- Answers by which nothing is told of a transaction.
use Rattle.std.proofs.Common.{◌≡◌, ℕ, Bool, true, false, cond, List, [], ◌∷◌, Option, None, Some, nat_le, nat_eq, length, ◌+◌, refl, subst}
use Rattle.std.specs.Prelude.{◌&&◌, not}
use Rattle.sp_rect.specs.declared.operation.Op.{Op}
use Rattle.sp_locks.specs.declared.row.Row.{Row}
use Rattle.sp_locks.specs.declared.row.Name.{Name}
use Rattle.sp_locks.specs.Rows.{waiting_in}
use Rattle.sp_event.specs.declared.event.Event.{Event}
use Rattle.sp_event.specs.declared.event.Event.TheVariants.{Begin, Start, Name as AskName, Plan, Ask, Apply, Commit as AskCommit, Flush, Rollback, Clean}
use Rattle.sp_event.specs.declared.answer.Answer.{Answer}
use Rattle.sp_event.specs.declared.answer.Answer.TheVariants.{Stopped, Refused, Full, Still, LatchBusy, Memory, DiskFault}
use Rattle.sp_event.specs.declared.answer.Why.{Why}
use Rattle.sp_event.specs.declared.answer.Kind.{Kind}
use Rattle.sp_event.specs.declared.answer.Kind.TheVariants.{Transactions, Commits, Operations, History, Numbers}
use Rattle.sp_text.specs.declared.types.Command.TheVariants.{Do}
use Rattle.sp_text.specs.Transcripts.{Ledger, noted, stepped_to}
use Rattle.sp_model.specs.declared.session.Session.{Session}
use Rattle.sp_model.specs.State.{Kernel}
use Rattle.sp_model.specs.Refusals.{first_of, answer_if, found_for, stops, is_placed, refusal, refused, full, still, still_for, latched, first_unused, most_transactions, most_endings, most_operations, most_history, open_transactions, kept_operations, open_operations, first_holder, holds_latch, shares, turned_away}
use Rattle.sp_told.specs.Telling.{owed}

-- an answer that changes nothing that was told
pub data IsQuiet : Answer → Type 0 where
  Stops : (offset : ℕ) → IsQuiet (Stopped offset)
  Refuses : (why : Why) → IsQuiet (Refused why)
  IsFull : (kind : Kind) → IsQuiet (Full kind)
  WaitsStill : (name : Name) → IsQuiet (Still name)
  IsLatched : (holder : ℕ) → IsQuiet (LatchBusy holder)
  Lacks : IsQuiet Memory
  Faults : IsQuiet DiskFault

pub stepped_quiet : (l : Ledger) (event : Event) (answer : Answer) → IsQuiet answer → stepped_to l event answer ≡ l
stepped_quiet l (Begin s) _ (IsQuiet.Stops offset) = refl
stepped_quiet l (Begin s) _ (IsQuiet.Refuses why) = refl
stepped_quiet l (Begin s) _ (IsQuiet.IsFull kind) = refl
stepped_quiet l (Begin s) _ (IsQuiet.WaitsStill name) = refl
stepped_quiet l (Begin s) _ (IsQuiet.IsLatched holder) = refl
stepped_quiet l (Begin s) _ IsQuiet.Lacks = refl
stepped_quiet l (Begin s) _ IsQuiet.Faults = refl
stepped_quiet l (Start s op) _ (IsQuiet.Stops offset) = refl
stepped_quiet l (Start s op) _ (IsQuiet.Refuses why) = refl
stepped_quiet l (Start s op) _ (IsQuiet.IsFull kind) = refl
stepped_quiet l (Start s op) _ (IsQuiet.WaitsStill name) = refl
stepped_quiet l (Start s op) _ (IsQuiet.IsLatched holder) = refl
stepped_quiet l (Start s op) _ IsQuiet.Lacks = refl
stepped_quiet l (Start s op) _ IsQuiet.Faults = refl
stepped_quiet l (AskName s) _ (IsQuiet.Stops offset) = refl
stepped_quiet l (AskName s) _ (IsQuiet.Refuses why) = refl
stepped_quiet l (AskName s) _ (IsQuiet.IsFull kind) = refl
stepped_quiet l (AskName s) _ (IsQuiet.WaitsStill name) = refl
stepped_quiet l (AskName s) _ (IsQuiet.IsLatched holder) = refl
stepped_quiet l (AskName s) _ IsQuiet.Lacks = refl
stepped_quiet l (AskName s) _ IsQuiet.Faults = refl
stepped_quiet l (Plan s) answer quiet = refl
stepped_quiet l (Ask s) _ (IsQuiet.Stops offset) = refl
stepped_quiet l (Ask s) _ (IsQuiet.Refuses why) = refl
stepped_quiet l (Ask s) _ (IsQuiet.IsFull kind) = refl
stepped_quiet l (Ask s) _ (IsQuiet.WaitsStill name) = refl
stepped_quiet l (Ask s) _ (IsQuiet.IsLatched holder) = refl
stepped_quiet l (Ask s) _ IsQuiet.Lacks = refl
stepped_quiet l (Ask s) _ IsQuiet.Faults = refl
stepped_quiet l (Apply s) _ (IsQuiet.Stops offset) = refl
stepped_quiet l (Apply s) _ (IsQuiet.Refuses why) = refl
stepped_quiet l (Apply s) _ (IsQuiet.IsFull kind) = refl
stepped_quiet l (Apply s) _ (IsQuiet.WaitsStill name) = refl
stepped_quiet l (Apply s) _ (IsQuiet.IsLatched holder) = refl
stepped_quiet l (Apply s) _ IsQuiet.Lacks = refl
stepped_quiet l (Apply s) _ IsQuiet.Faults = refl
stepped_quiet l (AskCommit s) _ (IsQuiet.Stops offset) = refl
stepped_quiet l (AskCommit s) _ (IsQuiet.Refuses why) = refl
stepped_quiet l (AskCommit s) _ (IsQuiet.IsFull kind) = refl
stepped_quiet l (AskCommit s) _ (IsQuiet.WaitsStill name) = refl
stepped_quiet l (AskCommit s) _ (IsQuiet.IsLatched holder) = refl
stepped_quiet l (AskCommit s) _ IsQuiet.Lacks = refl
stepped_quiet l (AskCommit s) _ IsQuiet.Faults = refl
stepped_quiet l (Rollback s) _ (IsQuiet.Stops offset) = refl
stepped_quiet l (Rollback s) _ (IsQuiet.Refuses why) = refl
stepped_quiet l (Rollback s) _ (IsQuiet.IsFull kind) = refl
stepped_quiet l (Rollback s) _ (IsQuiet.WaitsStill name) = refl
stepped_quiet l (Rollback s) _ (IsQuiet.IsLatched holder) = refl
stepped_quiet l (Rollback s) _ IsQuiet.Lacks = refl
stepped_quiet l (Rollback s) _ IsQuiet.Faults = refl
stepped_quiet l Flush answer quiet = refl
stepped_quiet l Clean answer quiet = refl

pub noted_quiet : (l : Ledger) (s : ℕ) (op : Op) (answer : Answer) → IsQuiet answer → noted l s (Do op) answer ≡ l
noted_quiet l s op _ (IsQuiet.Stops offset) = refl
noted_quiet l s op _ (IsQuiet.Refuses why) = refl
noted_quiet l s op _ (IsQuiet.IsFull kind) = refl
noted_quiet l s op _ (IsQuiet.WaitsStill name) = refl
noted_quiet l s op _ (IsQuiet.IsLatched holder) = refl
noted_quiet l s op _ IsQuiet.Lacks = refl
noted_quiet l s op _ IsQuiet.Faults = refl

pub owed_quiet : (k : Kernel) (answer : Answer) → IsQuiet answer → owed k answer ≡ []
owed_quiet k _ (IsQuiet.Stops offset) = refl
owed_quiet k _ (IsQuiet.Refuses why) = refl
owed_quiet k _ (IsQuiet.IsFull kind) = refl
owed_quiet k _ (IsQuiet.WaitsStill name) = refl
owed_quiet k _ (IsQuiet.IsLatched holder) = refl
owed_quiet k _ IsQuiet.Lacks = refl
owed_quiet k _ IsQuiet.Faults = refl

-- the answer, if there is one, is such
abbrev IsQuietIfAny : Option Answer → Type 0
IsQuietIfAny None = Unit {0}
IsQuietIfAny (Some answer) = IsQuiet answer

quiet_first : (o : Option Answer) (rest : List (Option Answer)) → IsQuietIfAny o → IsQuietIfAny (first_of rest) → IsQuietIfAny (first_of (o ∷ rest))
quiet_first None rest q r = r
quiet_first (Some answer) rest q r = q

quiet_if : (b : Bool) (answer : Answer) → IsQuiet answer → IsQuietIfAny (answer_if b answer)
quiet_if true answer q = q
quiet_if false answer q = tt

quiet_stops : (o : Option ℕ) (event : Event) (x : Option Session) → IsQuietIfAny (stops o event x)
quiet_stops None event x = tt
quiet_stops (Some offset) (AskCommit s) x = quiet_if (not (is_placed x)) (Stopped offset) (IsQuiet.Stops offset)
quiet_stops (Some offset) (Begin s) x = IsQuiet.Stops offset
quiet_stops (Some offset) (Start s op) x = IsQuiet.Stops offset
quiet_stops (Some offset) (AskName s) x = IsQuiet.Stops offset
quiet_stops (Some offset) (Plan s) x = IsQuiet.Stops offset
quiet_stops (Some offset) (Ask s) x = IsQuiet.Stops offset
quiet_stops (Some offset) (Apply s) x = IsQuiet.Stops offset
quiet_stops (Some offset) (Rollback s) x = IsQuiet.Stops offset
quiet_stops (Some offset) Flush x = IsQuiet.Stops offset
quiet_stops (Some offset) Clean x = IsQuiet.Stops offset

quiet_refused : (o : Option Why) → IsQuietIfAny (refused o)
quiet_refused None = tt
quiet_refused (Some why) = IsQuiet.Refuses why

quiet_still_for : (o : Option Row) → IsQuietIfAny (still_for o)
quiet_still_for None = tt
quiet_still_for (Some row) = IsQuiet.WaitsStill row.name

quiet_still : (event : Event) (rows : List Row) → IsQuietIfAny (still event rows)
quiet_still (AskName s) rows = quiet_still_for (waiting_in s rows)
quiet_still (Plan s) rows = quiet_still_for (waiting_in s rows)
quiet_still (Begin s) rows = tt
quiet_still (Start s op) rows = tt
quiet_still (Ask s) rows = tt
quiet_still (Apply s) rows = tt
quiet_still (AskCommit s) rows = tt
quiet_still (Rollback s) rows = tt
quiet_still Flush rows = tt
quiet_still Clean rows = tt

quiet_three : (a b c : Bool) (x y z : Kind) → IsQuietIfAny (first_of (answer_if a (Full x) ∷ answer_if b (Full y) ∷ answer_if c (Full z) ∷ []))
quiet_three true b c x y z = IsQuiet.IsFull x
quiet_three false true c x y z = IsQuiet.IsFull y
quiet_three false false true x y z = IsQuiet.IsFull z
quiet_three false false false x y z = tt

quiet_two : (a b : Bool) (x y : Kind) → IsQuietIfAny (first_of (answer_if a (Full x) ∷ answer_if b (Full y) ∷ []))
quiet_two true b x y = IsQuiet.IsFull x
quiet_two false true x y = IsQuiet.IsFull y
quiet_two false false x y = tt

quiet_full : (event : Event) (x : Option Session) (k : Kernel) → IsQuietIfAny (full event x k)
quiet_full (Begin s) x k = quiet_three (nat_le first_unused k.next_txn) (nat_le most_transactions (open_transactions k.sessions)) (nat_le most_endings (length k.commits + length k.ended + open_transactions k.sessions)) Numbers Transactions Commits
quiet_full (Start s op) (Some x) k = quiet_two (nat_le most_operations (length x.txn.ops)) (nat_le most_history (kept_operations k.commits + open_operations k.sessions)) Operations History
quiet_full (Start s op) None k = tt
quiet_full (AskName s) x k = tt
quiet_full (Plan s) x k = tt
quiet_full (Ask s) x k = tt
quiet_full (Apply s) x k = tt
quiet_full (AskCommit s) x k = tt
quiet_full (Rollback s) x k = tt
quiet_full Flush x k = tt
quiet_full Clean x k = tt

quiet_holder : (shared : Bool) (others : Session → Bool) (xs : List Session) → IsQuietIfAny (first_holder shared others xs)
quiet_holder shared others [] = tt
quiet_holder shared others (x ∷ xs) = go (others x && holds_latch shared x.stage) (quiet_holder shared others xs)
  where
    go : (b : Bool) → IsQuietIfAny (first_holder shared others xs) → IsQuietIfAny (cond b (Some (LatchBusy x.txn.session)) (first_holder shared others xs))
    go true rest = IsQuiet.IsLatched x.txn.session
    go false rest = rest

quiet_latched : (event : Event) (x : Option Session) (xs : List Session) → IsQuietIfAny (latched event x xs)
quiet_latched (Plan s) (Some x) xs = quiet_holder (shares x.stage) (λ y. not (nat_eq y.txn.session s)) xs
quiet_latched (Plan s) None xs = tt
quiet_latched Clean x xs = quiet_holder false (λ y. true) xs
quiet_latched (Begin s) x xs = tt
quiet_latched (Start s op) x xs = tt
quiet_latched (AskName s) x xs = tt
quiet_latched (Ask s) x xs = tt
quiet_latched (Apply s) x xs = tt
quiet_latched (AskCommit s) x xs = tt
quiet_latched (Rollback s) x xs = tt
quiet_latched Flush x xs = tt

-- an event that is turned away is so answered
pub turned_quiet : (k : Kernel) (event : Event) (answer : Answer) → turned_away k event ≡ Some answer → IsQuiet answer
turned_quiet k event answer away =
    let x : Option Session = found_for event k.sessions in
    subst IsQuietIfAny away
    (quiet_first (stops k.stopped event x) _ (quiet_stops k.stopped event x)
    (quiet_first (refused (refusal event x)) _ (quiet_refused (refusal event x))
    (quiet_first (full event x k) _ (quiet_full event x k)
    (quiet_first (still event k.locks) _ (quiet_still event k.locks)
    (quiet_first (latched event x k.sessions) _ (quiet_latched event x k.sessions) tt)))))
