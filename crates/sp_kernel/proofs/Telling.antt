-- Of what an event is answered: only a flush tells a fault of the disk, want of memory is told apart, and only a commit tells that one is queued.
use Rattle.std.proofs.Common.{◌≡◌, ◌≢◌, ℕ, ◌+◌, Bool, true, false, ◌&&◌, not, cond, nat_eq, nat_le, List, [], ◌∷◌, length, Option, None, Some, refl, sym, ap, ◌∙◌}
use Rattle.sp_locks.specs.declared.mode.Mode.{Mode}
use Rattle.sp_locks.specs.declared.row.Name.{Name as OnName}
use Rattle.sp_locks.specs.declared.row.Duration.{Duration}
use Rattle.sp_locks.specs.declared.row.Row.{Row}
use Rattle.sp_locks.specs.Rows.{waiting_in}
use Rattle.sp_event.specs.declared.event.Event.{Event}
use Rattle.sp_event.specs.declared.event.Event.TheVariants.{Begin, Start, Name, Plan, Ask, Apply, Commit as AskCommit, Flush, Rollback, Clean}
use Rattle.sp_event.specs.declared.answer.Answer.{Answer}
use Rattle.sp_event.specs.declared.answer.Answer.TheVariants.{Queued as IsQueued, DiskFault, Memory, Stopped, LatchBusy, Full}
use Rattle.sp_event.specs.declared.answer.Kind.{Kind}
use Rattle.sp_event.specs.declared.answer.Kind.TheVariants.{Transactions, Commits, Operations, History, Numbers}
use Rattle.sp_event.specs.declared.answer.Why.{Why}
use Rattle.sp_model.specs.declared.session.Session.{Session}
use Rattle.sp_model.specs.declared.session.Stage.{Stage}
use Rattle.sp_model.specs.State.{Kernel}
use Rattle.sp_model.specs.Refusals.{first_of, answer_if, found_for, is_placed, stops, refusal, refused, full, still, still_for, latched, first_holder, holds_latch, shares, kept_operations, open_operations, open_transactions, most_transactions, most_endings, most_operations, most_history, first_unused, turned_away}
use Rattle.sp_model.specs.Moves.{Requests}
use Rattle.sp_model.specs.Removal.{IsTakenOut}
use Rattle.sp_model.specs.Stepped.{Does}
use Rattle.sp_kernel.specs.Answers.{NeedsNoDisk}

-- the answers that tell neither a fault of the disk nor want of memory
abbrev ours : Answer → Bool
ours DiskFault = false
ours Memory = false
ours _ = true

module _ (k : Kernel) (x : Session) (name : OnName) (mode : Mode) (duration : Duration) (granted waits : Stage) where
  requests_ours : (answer : Answer) (after : Kernel) → Requests k x name mode duration granted waits answer after → ours answer ≡ true
  requests_ours _ _ (Requests.IsGranted free) = refl
  requests_ours _ _ (Requests.HasToWait some told) = refl
  requests_ours _ _ (Requests.ClosesCycle cycle some told) = refl

  requests_unqueued : (answer : Answer) (after : Kernel) → Requests k x name mode duration granted waits answer after → answer ≢ IsQueued
  requests_unqueued _ _ (Requests.IsGranted free) e = cc
  requests_unqueued _ _ (Requests.HasToWait some told) e = cc
  requests_unqueued _ _ (Requests.ClosesCycle cycle some told) e = cc

-- those of an event that is done are so
done_ours : (k : Kernel) (event : Event) (answer : Answer) (after : Kernel) → Does IsTakenOut k event answer after → ours answer ≡ true
done_ours k _ _ _ (Does.Begins s) = refl
done_ours k _ _ _ (Does.Starts s x op at in_space) = refl
done_ours k _ _ _ (Does.NamesNothing s x op at started none) = refl
done_ours k _ _ _ (Does.Names s x op name mode answer after at started object asked) = requests_ours k x name mode _ _ _ answer after asked
done_ours k _ _ _ (Does.HasWaited s x op at waited) = refl
done_ours k _ _ _ (Does.Plans s x op commit short at stage needs) = refl
done_ours k _ _ _ (Does.Asks s x op need left answer after at planned asked) = requests_ours k x _ _ _ _ _ answer after asked
done_ours k _ _ _ (Does.FullOfEntries s x op at planned adds passes) = refl
done_ours k _ _ _ (Does.FullOfNumbers s x r after chosen at planned adds few inserts passes) = refl
done_ours k _ _ _ (Does.FullOfReplies s x op at planned passes) = refl
done_ours k _ _ _ (Does.Applies s x op at planned adds few) = refl
done_ours k _ _ _ (Does.Inserts_entry s x r after chosen gifts at planned adds few inserts numbers are) = refl
done_ours k _ _ _ (Does.Commits s x at idle none) = refl
done_ours k _ _ _ (Does.JoinsQueue s x at idle some) = refl
done_ours k _ _ _ (Does.StaysQueued s x at queued) = refl
done_ours k _ _ _ (Does.TellsPlace s x at placed) = refl
done_ours k _ _ _ (Does.RollsBack s x at) = refl
done_ours k _ _ _ (Does.FlushesNothing flight queue) = refl
done_ours k _ _ _ (Does.TakesOff flight queue) = refl
done_ours k _ _ _ (Does.Writes flight calls) = refl
done_ours k _ _ _ (Does.IsDurable flight calls) = refl
done_ours k _ _ _ (Does.CleansNothing none) = refl
done_ours k _ _ _ (Does.CleanIsFull n rest after dead removed unused passes) = refl
done_ours k _ _ _ (Does.Cleans n rest after short removes free) = refl
done_ours k _ _ _ (Does.PutsOff n rest after short granule holder mode removes put) = refl

-- and only a commit that its transaction is queued
pub done_unqueued : (k : Kernel) (event : Event) (answer : Answer) (after : Kernel) → NeedsNoDisk event → Does IsTakenOut k event answer after → answer ≢ IsQueued
done_unqueued k _ _ _ apart (Does.Begins s) e = cc
done_unqueued k _ _ _ apart (Does.Starts s x op at in_space) e = cc
done_unqueued k _ _ _ apart (Does.NamesNothing s x op at started none) e = cc
done_unqueued k _ _ _ apart (Does.Names s x op name mode answer after at started object asked) e = requests_unqueued k x name mode _ _ _ answer after asked e
done_unqueued k _ _ _ apart (Does.HasWaited s x op at waited) e = cc
done_unqueued k _ _ _ apart (Does.Plans s x op commit short at stage needs) e = cc
done_unqueued k _ _ _ apart (Does.Asks s x op need left answer after at planned asked) e = requests_unqueued k x _ _ _ _ _ answer after asked e
done_unqueued k _ _ _ apart (Does.FullOfEntries s x op at planned adds passes) e = cc
done_unqueued k _ _ _ apart (Does.FullOfNumbers s x r after chosen at planned adds few inserts passes) e = cc
done_unqueued k _ _ _ apart (Does.FullOfReplies s x op at planned passes) e = cc
done_unqueued k _ _ _ apart (Does.Applies s x op at planned adds few) e = cc
done_unqueued k _ _ _ apart (Does.Inserts_entry s x r after chosen gifts at planned adds few inserts numbers are) e = cc
done_unqueued k _ _ _ apart (Does.Commits s x at idle none) e = absurd apart
done_unqueued k _ _ _ apart (Does.JoinsQueue s x at idle some) e = absurd apart
done_unqueued k _ _ _ apart (Does.StaysQueued s x at queued) e = absurd apart
done_unqueued k _ _ _ apart (Does.TellsPlace s x at placed) e = absurd apart
done_unqueued k _ _ _ apart (Does.RollsBack s x at) e = cc
done_unqueued k _ _ _ apart (Does.FlushesNothing flight queue) e = absurd apart
done_unqueued k _ _ _ apart (Does.TakesOff flight queue) e = absurd apart
done_unqueued k _ _ _ apart (Does.Writes flight calls) e = absurd apart
done_unqueued k _ _ _ apart (Does.IsDurable flight calls) e = absurd apart
done_unqueued k _ _ _ apart (Does.CleansNothing none) e = cc
done_unqueued k _ _ _ apart (Does.CleanIsFull n rest after dead removed unused passes) e = cc
done_unqueued k _ _ _ apart (Does.Cleans n rest after short removes free) e = cc
done_unqueued k _ _ _ apart (Does.PutsOff n rest after short granule holder mode removes put) e = cc

abbrev told_ours : Option Answer → Bool
told_ours None = true
told_ours (Some a) = ours a

first_ours : (a : Option Answer) (rest : List (Option Answer)) → told_ours a ≡ true → told_ours (first_of rest) ≡ true → told_ours (first_of (a ∷ rest)) ≡ true
first_ours None rest here there = there
first_ours (Some a) rest here there = here

if_ours : (b : Bool) (a : Answer) → ours a ≡ true → told_ours (answer_if b a) ≡ true
if_ours false a own = refl
if_ours true a own = own

stops_ours : (o : Option ℕ) (event : Event) (x : Option Session) → told_ours (stops o event x) ≡ true
stops_ours None event x = refl
stops_ours (Some offset) (Begin s) x = refl
stops_ours (Some offset) (Start s op) x = refl
stops_ours (Some offset) (Name s) x = refl
stops_ours (Some offset) (Plan s) x = refl
stops_ours (Some offset) (Ask s) x = refl
stops_ours (Some offset) (Apply s) x = refl
stops_ours (Some offset) (AskCommit s) x = if_ours (not (is_placed x)) (Stopped offset) refl
stops_ours (Some offset) (Rollback s) x = refl
stops_ours (Some offset) Flush x = refl
stops_ours (Some offset) Clean x = refl

refused_ours : (o : Option Why) → told_ours (refused o) ≡ true
refused_ours None = refl
refused_ours (Some why) = refl

full_ours : (event : Event) (x : Option Session) (k : Kernel) → told_ours (full event x k) ≡ true
full_ours (Begin s) x k =
    first_ours (answer_if (nat_le first_unused k.next_txn) (Full Numbers)) _ (if_ours (nat_le first_unused k.next_txn) (Full Numbers) refl)
    (first_ours (answer_if (nat_le most_transactions (open_transactions k.sessions)) (Full Transactions)) _ (if_ours (nat_le most_transactions (open_transactions k.sessions)) (Full Transactions) refl)
    (first_ours (answer_if (nat_le most_endings (length k.commits + length k.ended + open_transactions k.sessions)) (Full Commits)) [] (if_ours (nat_le most_endings (length k.commits + length k.ended + open_transactions k.sessions)) (Full Commits) refl) refl))
full_ours (Start s op) (Some x) k =
    first_ours (answer_if (nat_le most_operations (length x.txn.ops)) (Full Operations)) _ (if_ours (nat_le most_operations (length x.txn.ops)) (Full Operations) refl)
    (first_ours (answer_if (nat_le most_history (kept_operations k.commits + open_operations k.sessions)) (Full History)) [] (if_ours (nat_le most_history (kept_operations k.commits + open_operations k.sessions)) (Full History) refl) refl)
full_ours (Start s op) None k = refl
full_ours (Name s) x k = refl
full_ours (Plan s) x k = refl
full_ours (Ask s) x k = refl
full_ours (Apply s) x k = refl
full_ours (AskCommit s) x k = refl
full_ours (Rollback s) x k = refl
full_ours Flush x k = refl
full_ours Clean x k = refl

row_ours : (o : Option Row) → told_ours (still_for o) ≡ true
row_ours None = refl
row_ours (Some row) = refl

still_ours : (event : Event) (rows : List Row) → told_ours (still event rows) ≡ true
still_ours (Begin s) rows = refl
still_ours (Start s op) rows = refl
still_ours (Name s) rows = row_ours (waiting_in s rows)
still_ours (Plan s) rows = row_ours (waiting_in s rows)
still_ours (Ask s) rows = refl
still_ours (Apply s) rows = refl
still_ours (AskCommit s) rows = refl
still_ours (Rollback s) rows = refl
still_ours Flush rows = refl
still_ours Clean rows = refl

holder_ours : (shared : Bool) (others : Session → Bool) (xs : List Session) → told_ours (first_holder shared others xs) ≡ true
holder_ours shared others [] = refl
holder_ours shared others (x ∷ xs) = go (others x && holds_latch shared x.stage) (holder_ours shared others xs)
  where
    go : (b : Bool) → told_ours (first_holder shared others xs) ≡ true → told_ours (cond b (Some (LatchBusy x.txn.session)) (first_holder shared others xs)) ≡ true
    go true rest = refl
    go false rest = rest

latched_ours : (event : Event) (x : Option Session) (xs : List Session) → told_ours (latched event x xs) ≡ true
latched_ours (Plan s) (Some x) xs = holder_ours (shares x.stage) (λ y. not (nat_eq y.txn.session s)) xs
latched_ours (Plan s) None xs = refl
latched_ours Clean x xs = holder_ours false (λ y. true) xs
latched_ours (Begin s) x xs = refl
latched_ours (Start s op) x xs = refl
latched_ours (Name s) x xs = refl
latched_ours (Ask s) x xs = refl
latched_ours (Apply s) x xs = refl
latched_ours (AskCommit s) x xs = refl
latched_ours (Rollback s) x xs = refl
latched_ours Flush x xs = refl

-- nor of one that is turned away
turned_ours : (k : Kernel) (event : Event) → told_ours (turned_away k event) ≡ true
turned_ours k event =
    let x = found_for event k.sessions in
    first_ours (stops k.stopped event x) _ (stops_ours k.stopped event x)
    (first_ours (refused (refusal event x)) _ (refused_ours (refusal event x))
    (first_ours (full event x k) _ (full_ours event x k)
    (first_ours (still event k.locks) _ (still_ours event k.locks)
    (first_ours (latched event x k.sessions) [] (latched_ours event x k.sessions) refl))))

not_ours : (a b : Answer) → ours a ≡ true → ours b ≡ false → a ≢ b
not_ours a b own other e = cc

-- so neither tells a fault of the disk
pub done_faultless : (k : Kernel) (event : Event) (answer : Answer) (after : Kernel) → Does IsTakenOut k event answer after → answer ≢ DiskFault
done_faultless k event answer after done = not_ours answer DiskFault (done_ours k event answer after done) refl

pub turned_faultless : (k : Kernel) (event : Event) → turned_away k event ≢ Some DiskFault
turned_faultless k event e = not_ours DiskFault DiskFault (sym (ap told_ours e) ∙ turned_ours k event) refl refl

-- and neither wants memory
pub done_provided : (k : Kernel) (event : Event) (answer : Answer) (after : Kernel) → Does IsTakenOut k event answer after → answer ≢ Memory
done_provided k event answer after done = not_ours answer Memory (done_ours k event answer after done) refl

pub turned_provided : (k : Kernel) (event : Event) → turned_away k event ≢ Some Memory
turned_provided k event e = not_ours Memory Memory (sym (ap told_ours e) ∙ turned_ours k event) refl refl
