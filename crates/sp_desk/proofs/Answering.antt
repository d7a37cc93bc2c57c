-- What an answer tells of the kernel: which answers leave it as it is, and when it is stopped.
use Rattle.std.proofs.Common.{◌≡◌, ◌≢◌, ◌⊎◌, ℕ, ◌+◌, Bool, true, false, ◌&&◌, not, cond, nat_eq, nat_le, List, [], ◌∷◌, length, Option, None, Some, refl, sym, ap, ◌∙◌, subst, inl, inr}
use Rattle.sp_locks.specs.declared.mode.Mode.{Mode}
use Rattle.sp_locks.specs.declared.row.Name.{Name as OnName}
use Rattle.sp_locks.specs.declared.row.Duration.{Duration}
use Rattle.sp_locks.specs.declared.row.Row.{Row}
use Rattle.sp_locks.specs.Rows.{waiting_in}
use Rattle.sp_event.specs.declared.event.Event.{Event}
use Rattle.sp_event.specs.declared.event.Event.TheVariants.{Begin, Start, Name, Plan, Ask, Apply, Commit as AskCommit, Flush, Rollback, Clean}
use Rattle.sp_event.specs.declared.answer.Answer.{Answer}
use Rattle.sp_event.specs.declared.answer.Answer.TheVariants.{DiskFault, Stopped, LatchBusy, Full, Refused, Still, Memory}
use Rattle.sp_event.specs.declared.answer.Kind.TheVariants.{Transactions, Commits, Operations, History, Numbers}
use Rattle.sp_event.specs.declared.answer.Why.{Why}
use Rattle.sp_model.specs.declared.session.Session.{Session}
use Rattle.sp_model.specs.declared.session.Stage.{Stage}
use Rattle.sp_model.specs.State.{Kernel, session_at}
use Rattle.sp_model.specs.Refusals.{first_of, answer_if, found_for, stops, refusal, refused, full, still, still_for, latched, first_holder, holds_latch, shares, kept_operations, open_operations, open_transactions, most_transactions, most_endings, most_operations, most_history, first_unused, turned_away}
use Rattle.sp_model.specs.Moves.{Requests, placed_each, placed_found}
use Rattle.sp_model.specs.Removal.{IsTakenOut}
use Rattle.sp_model.specs.Stepped.{Stepped, Does}
use Rattle.sp_kernel.specs.Answers.{Answers}
use Rattle.sp_kernel.proofs.Telling.{turned_faultless}
use Rattle.sp_desk.specs.Cleaning.{fault_in}
use Rattle.sp_desk.specs.Course.{StopsAt}

-- an answer that an event gives which is not turned away
abbrev pub acts : Answer → Bool
acts (Stopped offset) = false
acts DiskFault = false
acts Memory = false
acts (Still name) = false
acts (LatchBusy holder) = false
acts (Refused why) = false
acts answer = true

module _ (k : Kernel) (x : Session) (name : OnName) (mode : Mode) (duration : Duration) (granted waits : Stage) where
  requests_act : (answer : Answer) (after : Kernel) → Requests k x name mode duration granted waits answer after → acts answer ≡ true
  requests_act _ _ (Requests.IsGranted free) = refl
  requests_act _ _ (Requests.HasToWait some told) = refl
  requests_act _ _ (Requests.ClosesCycle cycle some told) = refl

  requests_stop : (answer : Answer) (after : Kernel) → Requests k x name mode duration granted waits answer after → after.stopped ≡ k.stopped
  requests_stop _ _ (Requests.IsGranted free) = refl
  requests_stop _ _ (Requests.HasToWait some told) = refl
  requests_stop _ _ (Requests.ClosesCycle cycle some told) = refl

pub done_acts : (k : Kernel) (event : Event) (answer : Answer) (after : Kernel) → Does IsTakenOut k event answer after → acts answer ≡ true
done_acts k _ _ _ (Does.Begins s) = refl
done_acts k _ _ _ (Does.Starts s x op at in_space) = refl
done_acts k _ _ _ (Does.NamesNothing s x op at started none) = refl
done_acts k _ _ _ (Does.Names s x op name mode answer after at started object asked) = requests_act k x name mode _ _ _ answer after asked
done_acts k _ _ _ (Does.HasWaited s x op at waited) = refl
done_acts k _ _ _ (Does.Plans s x op commit short at stage needs) = refl
done_acts k _ _ _ (Does.Asks s x op need left answer after at planned asked) = requests_act k x _ _ _ _ _ answer after asked
done_acts k _ _ _ (Does.FullOfEntries s x op at planned adds passes) = refl
done_acts k _ _ _ (Does.FullOfNumbers s x r after chosen at planned adds few inserts passes) = refl
done_acts k _ _ _ (Does.FullOfReplies s x op at planned passes) = refl
done_acts k _ _ _ (Does.Applies s x op at planned adds few) = refl
done_acts k _ _ _ (Does.Inserts_entry s x r after chosen gifts at planned adds few inserts numbers are) = refl
done_acts k _ _ _ (Does.Commits s x at idle none) = refl
done_acts k _ _ _ (Does.JoinsQueue s x at idle some) = refl
done_acts k _ _ _ (Does.StaysQueued s x at queued) = refl
done_acts k _ _ _ (Does.TellsPlace s x at placed) = refl
done_acts k _ _ _ (Does.RollsBack s x at) = refl
done_acts k _ _ _ (Does.FlushesNothing flight queue) = refl
done_acts k _ _ _ (Does.TakesOff flight queue) = refl
done_acts k _ _ _ (Does.Writes flight calls) = refl
done_acts k _ _ _ (Does.IsDurable flight calls) = refl
done_acts k _ _ _ (Does.CleansNothing none) = refl
done_acts k _ _ _ (Does.CleanIsFull n rest after dead removed unused passes) = refl
done_acts k _ _ _ (Does.Cleans n rest after short removes free) = refl
done_acts k _ _ _ (Does.PutsOff n rest after short granule holder mode removes put) = refl

placed_stop : (s : ℕ) (o : Option Session) (k : Kernel) → (placed_found o k).stopped ≡ k.stopped
placed_stop s None k = refl
placed_stop s (Some x) k = refl

flight_stop : (batch : List ℕ) (k : Kernel) → (placed_each batch k).stopped ≡ k.stopped
flight_stop [] k = refl
flight_stop (s ∷ batch) k = flight_stop batch (placed_found (session_at s k.sessions) k) ∙ placed_stop s (session_at s k.sessions) k

-- it stops no kernel
pub done_stop : (k : Kernel) (event : Event) (answer : Answer) (after : Kernel) → Does IsTakenOut k event answer after → after.stopped ≡ k.stopped
done_stop k _ _ _ (Does.Begins s) = refl
done_stop k _ _ _ (Does.Starts s x op at in_space) = refl
done_stop k _ _ _ (Does.NamesNothing s x op at started none) = refl
done_stop k _ _ _ (Does.Names s x op name mode answer after at started object asked) = requests_stop k x name mode _ _ _ answer after asked
done_stop k _ _ _ (Does.HasWaited s x op at waited) = refl
done_stop k _ _ _ (Does.Plans s x op commit short at stage needs) = refl
done_stop k _ _ _ (Does.Asks s x op need left answer after at planned asked) = requests_stop k x _ _ _ _ _ answer after asked
done_stop k _ _ _ (Does.FullOfEntries s x op at planned adds passes) = refl
done_stop k _ _ _ (Does.FullOfNumbers s x r after chosen at planned adds few inserts passes) = refl
done_stop k _ _ _ (Does.FullOfReplies s x op at planned passes) = refl
done_stop k _ _ _ (Does.Applies s x op at planned adds few) = refl
done_stop k _ _ _ (Does.Inserts_entry s x r after chosen gifts at planned adds few inserts numbers are) = refl
done_stop k _ _ _ (Does.Commits s x at idle none) = refl
done_stop k _ _ _ (Does.JoinsQueue s x at idle some) = refl
done_stop k _ _ _ (Does.StaysQueued s x at queued) = refl
done_stop k _ _ _ (Does.TellsPlace s x at placed) = refl
done_stop k _ _ _ (Does.RollsBack s x at) = refl
done_stop k _ _ _ (Does.FlushesNothing flight queue) = refl
done_stop k _ _ _ (Does.TakesOff flight queue) = refl
done_stop k _ _ _ (Does.Writes flight calls) = refl
done_stop k _ _ _ (Does.IsDurable flight calls) = flight_stop k.flight k
done_stop k _ _ _ (Does.CleansNothing none) = refl
done_stop k _ _ _ (Does.CleanIsFull n rest after dead removed unused passes) = refl
done_stop k _ _ _ (Does.Cleans n rest after short removes free) = refl
done_stop k _ _ _ (Does.PutsOff n rest after short granule holder mode removes put) = refl

-- no answer, or one that is not of a kernel that was stopped
abbrev unstopped : Answer → Bool
unstopped (Stopped offset) = false
unstopped answer = true

abbrev Plain : Option Answer → Type 0
Plain None = Unit {0}
Plain (Some answer) = unstopped answer ≡ true

plain_first : (a : Option Answer) (rest : List (Option Answer)) → Plain a → Plain (first_of rest) → Plain (first_of (a ∷ rest))
plain_first None rest here there = there
plain_first (Some a) rest here there = here

plain_if : (b : Bool) (a : Answer) → unstopped a ≡ true → Plain (answer_if b a)
plain_if false a h = tt
plain_if true a h = h

plain_refused : (o : Option Why) → Plain (refused o)
plain_refused None = tt
plain_refused (Some why) = refl

plain_full : (event : Event) (x : Option Session) (k : Kernel) → Plain (full event x k)
plain_full (Begin s) x k =
    plain_first (answer_if (nat_le first_unused k.next_txn) (Full Numbers)) _ (plain_if (nat_le first_unused k.next_txn) (Full Numbers) refl)
    (plain_first (answer_if (nat_le most_transactions (open_transactions k.sessions)) (Full Transactions)) _ (plain_if (nat_le most_transactions (open_transactions k.sessions)) (Full Transactions) refl)
    (plain_first (answer_if (nat_le most_endings (length k.commits + length k.ended + open_transactions k.sessions)) (Full Commits)) [] (plain_if (nat_le most_endings (length k.commits + length k.ended + open_transactions k.sessions)) (Full Commits) refl) tt))
plain_full (Start s op) (Some x) k =
    plain_first (answer_if (nat_le most_operations (length x.txn.ops)) (Full Operations)) _ (plain_if (nat_le most_operations (length x.txn.ops)) (Full Operations) refl)
    (plain_first (answer_if (nat_le most_history (kept_operations k.commits + open_operations k.sessions)) (Full History)) [] (plain_if (nat_le most_history (kept_operations k.commits + open_operations k.sessions)) (Full History) refl) tt)
plain_full (Start s op) None k = tt
plain_full (Name s) x k = tt
plain_full (Plan s) x k = tt
plain_full (Ask s) x k = tt
plain_full (Apply s) x k = tt
plain_full (AskCommit s) x k = tt
plain_full (Rollback s) x k = tt
plain_full Flush x k = tt
plain_full Clean x k = tt

plain_row : (o : Option Row) → Plain (still_for o)
plain_row None = tt
plain_row (Some row) = refl

plain_still : (event : Event) (rows : List Row) → Plain (still event rows)
plain_still (Begin s) rows = tt
plain_still (Start s op) rows = tt
plain_still (Name s) rows = plain_row (waiting_in s rows)
plain_still (Plan s) rows = plain_row (waiting_in s rows)
plain_still (Ask s) rows = tt
plain_still (Apply s) rows = tt
plain_still (AskCommit s) rows = tt
plain_still (Rollback s) rows = tt
plain_still Flush rows = tt
plain_still Clean rows = tt

plain_holder : (shared : Bool) (others : Session → Bool) (xs : List Session) → Plain (first_holder shared others xs)
plain_holder shared others [] = tt
plain_holder shared others (x ∷ xs) = go (others x && holds_latch shared x.stage) (plain_holder shared others xs)
  where
    go : (b : Bool) → Plain (first_holder shared others xs) → Plain (cond b (Some (LatchBusy x.txn.session)) (first_holder shared others xs))
    go true rest = refl
    go false rest = rest

plain_latched : (event : Event) (x : Option Session) (xs : List Session) → Plain (latched event x xs)
plain_latched (Plan s) (Some x) xs = plain_holder (shares x.stage) (λ y. not (nat_eq y.txn.session s)) xs
plain_latched (Plan s) None xs = tt
plain_latched Clean x xs = plain_holder false (λ y. true) xs
plain_latched (Begin s) x xs = tt
plain_latched (Start s op) x xs = tt
plain_latched (Name s) x xs = tt
plain_latched (Ask s) x xs = tt
plain_latched (Apply s) x xs = tt
plain_latched (AskCommit s) x xs = tt
plain_latched (Rollback s) x xs = tt
plain_latched Flush x xs = tt

-- a kernel that is not stopped turns nothing away for that
plain_turned : (k : Kernel) (event : Event) → k.stopped ≡ None → Plain (turned_away k event)
plain_turned k event open_ =
    let x = found_for event k.sessions in
    plain_first (stops k.stopped event x) _ (subst (λ (o : Option ℕ). Plain (stops o event x)) (sym open_) tt)
    (plain_first (refused (refusal event x)) _ (plain_refused (refusal event x))
    (plain_first (full event x k) _ (plain_full event x k)
    (plain_first (still event k.locks) _ (plain_still event k.locks)
    (plain_first (latched event x k.sessions) [] (plain_latched event x k.sessions) tt))))

turned_stopped : (k : Kernel) (event : Event) (offset : ℕ) → turned_away k event ≡ Some (Stopped offset) → k.stopped ≢ None
turned_stopped k event offset e open_ = not_plain (subst (λ (o : Option Answer). Plain o) e (plain_turned k event open_))
  where
    not_plain : false ≡ true → ⊥
    not_plain h = cc

no_fault : (k : Kernel) (event : Event) → turned_away k event ≢ Some DiskFault
no_fault k event e = turned_faultless k event e

not_so : false ≡ true → ⊥
not_so h = cc

-- an answer that no event gives but one that is turned away
pub turned_by : (k : Kernel) (event : Event) (answer : Answer) (after : Kernel) → Answers k event answer after
    → acts answer ≡ false → fault_in answer ≡ None → (turned_away k event ≡ Some answer) × (after ≡ k)
turned_by k event _ _ (Answers.IsStepped answer after (Stepped.IsTurnedAway _ turned)) quiet free = (turned, refl)
turned_by k event _ _ (Answers.IsStepped answer after (Stepped.IsDone _ _ goes does)) quiet free = absurd (not_so (sym quiet ∙ done_acts k event answer after does))
turned_by k event _ _ Answers.WantsMemory quiet free = absurd (some free)
  where
    some : fault_in Memory ≡ None → ⊥
    some h = cc
turned_by k event _ _ (Answers.Fails offset flush goes batch) quiet free = absurd (some free)
  where
    some : fault_in DiskFault ≡ None → ⊥
    some h = cc

-- a kernel is stopped by a fault of the disk alone
pub answer_stops : (k : Kernel) (event : Event) (answer : Answer) (after : Kernel) → Answers k event answer after → k.stopped ≡ None → (after.stopped ≡ None) ⊎ (answer ≡ DiskFault)
answer_stops k event _ _ (Answers.IsStepped answer after (Stepped.IsTurnedAway _ turned)) open_ = inl open_
answer_stops k event _ _ (Answers.IsStepped answer after (Stepped.IsDone _ _ goes does)) open_ = inl (done_stop k event answer after does ∙ open_)
answer_stops k event _ _ Answers.WantsMemory open_ = inl open_
answer_stops k event _ _ (Answers.Fails offset flush goes batch) open_ = inr refl

fault_stops : (answer : Answer) (k : Kernel) → (answer ≢ DiskFault) → ((offset : ℕ) → answer ≡ Stopped offset → k.stopped ≢ None) → StopsAt (fault_in answer) k
fault_stops (Answer.Began txn seen) k a b = tt
fault_stops Answer.Started k a b = tt
fault_stops Answer.Granted k a b = tt
fault_stops (Answer.Planned count) k a b = tt
fault_stops (Answer.Reply reply) k a b = tt
fault_stops (Answer.Committed place) k a b = tt
fault_stops Answer.Queued k a b = tt
fault_stops Answer.RolledBack k a b = tt
fault_stops (Answer.Waits name mode sessions) k a b = tt
fault_stops (Answer.Deadlock cycle) k a b = tt
fault_stops (Answer.Still name) k a b = tt
fault_stops (Answer.LatchBusy holder) k a b = tt
fault_stops (Answer.Refused why) k a b = tt
fault_stops (Answer.Full kind) k a b = tt
fault_stops Answer.Wrote k a b = tt
fault_stops (Answer.Durable first count) k a b = tt
fault_stops Answer.Nothing k a b = tt
fault_stops (Answer.Removed entry) k a b = tt
fault_stops (Answer.Later granule holder mode) k a b = tt
fault_stops (Answer.Stopped offset) k a b = b offset refl
fault_stops Answer.DiskFault k a b = absurd (a refl)
fault_stops Answer.Memory k a b = tt

acting : (answer : Answer) → acts answer ≡ true → (answer ≢ DiskFault) × ((offset : ℕ) → answer ≢ Stopped offset)
acting answer h = (λ e. not_so (sym (ap acts e) ∙ h), λ offset e. not_so (sym (ap acts e) ∙ h))

-- after a fault of the disk the kernel is stopped
pub answer_fault : (k : Kernel) (event : Event) (answer : Answer) (after : Kernel) → Answers k event answer after → StopsAt (fault_in answer) after
answer_fault k event _ _ (Answers.IsStepped answer after (Stepped.IsTurnedAway _ turned)) =
    fault_stops answer k (λ e. no_fault k event (turned ∙ ap (λ (a : Answer). Some a) e)) (λ offset e. turned_stopped k event offset (turned ∙ ap (λ (a : Answer). Some a) e))
answer_fault k event _ _ (Answers.IsStepped answer after (Stepped.IsDone _ _ goes does)) =
    let a = acting answer (done_acts k event answer after does) in
    fault_stops answer after a.0 (λ offset e. absurd (a.1 offset e))
answer_fault k event _ _ Answers.WantsMemory = tt
answer_fault k event _ _ (Answers.Fails offset flush goes batch) = λ h. none_some offset h
  where
    none_some : (offset : ℕ) → Some offset ≡ None → ⊥
    none_some offset h = cc
