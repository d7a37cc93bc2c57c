-- The number of the next transaction, and the records at opening, after an event.
use Rattle.std.proofs.Common.{◌≡◌, ℕ, List, [], ◌∷◌, ◌++◌, Option, None, Some, refl, ◌∙◌}
use Rattle.sp_locks.specs.declared.mode.Mode.{Mode}
use Rattle.sp_locks.specs.declared.row.Name.{Name}
use Rattle.sp_locks.specs.declared.row.Duration.{Duration}
use Rattle.sp_event.specs.declared.event.Event.{Event}
use Rattle.sp_event.specs.declared.answer.Answer.{Answer}
use Rattle.sp_model.specs.declared.session.Session.{Session}
use Rattle.sp_model.specs.declared.session.Stage.{Stage}
use Rattle.sp_model.specs.State.{Kernel, session_at}
use Rattle.sp_model.specs.Moves.{Requests, placed_found, placed_each}
use Rattle.sp_model.specs.Removal.{IsTakenOut}
use Rattle.sp_model.specs.Stepped.{Stepped, Does}
use Rattle.sp_kernel.specs.Answers.{Answers, Histories}
use Rattle.sp_kernel.proofs.Going.{history_base}
use Rattle.sp_told.proofs.Quiet.{IsQuiet, turned_quiet}
use Rattle.sp_conduct.proofs.Resting.{next_begun}

request_next : (k : Kernel) (x : Session) (name : Name) (mode : Mode) (duration : Duration) (granted waits : Stage) (answer : Answer) (n : Kernel) → Requests k x name mode duration granted waits answer n → n.next_txn ≡ next_begun answer k.next_txn
request_next k x name mode duration granted waits _ _ (Requests.IsGranted free) = refl
request_next k x name mode duration granted waits _ _ (Requests.HasToWait stuck open_end) = refl
request_next k x name mode duration granted waits _ _ (Requests.ClosesCycle cycle stuck closes) = refl

found_next : (o : Option Session) (k : Kernel) → (placed_found o k).next_txn ≡ k.next_txn
found_next None k = refl
found_next (Some x) k = refl

each_next : (batch : List ℕ) (k : Kernel) → (placed_each batch k).next_txn ≡ k.next_txn
each_next [] k = refl
each_next (s ∷ rest) k = each_next rest (placed_found (session_at s k.sessions) k) ∙ found_next (session_at s k.sessions) k

does_next : (k : Kernel) (event : Event) (answer : Answer) (n : Kernel) → Does IsTakenOut k event answer n → n.next_txn ≡ next_begun answer k.next_txn
does_next k _ _ _ (Does.Begins s) = refl
does_next k _ _ _ (Does.Starts s x op at inside) = refl
does_next k _ _ _ (Does.NamesNothing s x op at stage none) = refl
does_next k _ _ _ (Does.Names s x op name mode answer after at stage asked requests) = request_next k x name mode _ _ _ answer after requests
does_next k _ _ _ (Does.HasWaited s x op at stage) = refl
does_next k _ _ _ (Does.Plans s x op commit short at stage needs) = refl
does_next k _ _ _ (Does.Asks s x op need left answer after at stage requests) = request_next k x need.name need.mode need.duration _ _ answer after requests
does_next k _ _ _ (Does.FullOfEntries s x op at stage adding full) = refl
does_next k _ _ _ (Does.FullOfNumbers s x r after chosen at stage adding room inserts full) = refl
does_next k _ _ _ (Does.FullOfReplies s x op at stage full) = refl
does_next k _ _ _ (Does.Applies s x op at stage adding room) = refl
does_next k _ _ _ (Does.Inserts_entry s x r after chosen gifts at stage adding room inserts numbers given) = refl
does_next k _ _ _ (Does.Commits s x at stage none) = refl
does_next k _ _ _ (Does.JoinsQueue s x at stage some) = refl
does_next k _ _ _ (Does.StaysQueued s x at stage) = refl
does_next k _ _ _ (Does.TellsPlace s x at stage) = refl
does_next k _ _ _ (Does.RollsBack s x at) = refl
does_next k _ _ _ (Does.FlushesNothing none empty) = refl
does_next k _ _ _ (Does.TakesOff none some) = refl
does_next k _ _ _ (Does.Writes some few) = refl
does_next k _ _ _ (Does.IsDurable some all) = each_next k.flight k
does_next k _ _ _ (Does.CleansNothing none) = refl
does_next k _ _ _ (Does.CleanIsFull number rest after first removed full more) = refl
does_next k _ _ _ (Does.Cleans number rest after short removes unopposed) = refl
does_next k _ _ _ (Does.PutsOff number rest after short granule holder mode removes off) = refl

quiet_next : (answer : Answer) (next : ℕ) → IsQuiet answer → next ≡ next_begun answer next
quiet_next _ next (IsQuiet.Stops offset) = refl
quiet_next _ next (IsQuiet.Refuses why) = refl
quiet_next _ next (IsQuiet.IsFull kind) = refl
quiet_next _ next (IsQuiet.WaitsStill name) = refl
quiet_next _ next (IsQuiet.IsLatched holder) = refl
quiet_next _ next IsQuiet.Lacks = refl
quiet_next _ next IsQuiet.Faults = refl

pub next_kept : (k : Kernel) (event : Event) (answer : Answer) (n : Kernel) → Answers k event answer n → n.next_txn ≡ next_begun answer k.next_txn
next_kept k event _ _ (Answers.IsStepped _ _ (Stepped.IsTurnedAway answer away)) = quiet_next answer k.next_txn (turned_quiet k event answer away)
next_kept k event _ _ (Answers.IsStepped _ _ (Stepped.IsDone answer n free does)) = does_next k event answer n does
next_kept k event _ _ Answers.WantsMemory = refl
next_kept k event _ _ (Answers.Fails offset flush free some) = refl

pub base_kept : (k : Kernel) (event : Event) (answer : Answer) (n : Kernel) → Answers k event answer n → n.base ≡ k.base
base_kept k event answer n h = history_base k ([] ++ record { event = event; answer = answer } ∷ []) n (Histories.Goes k [] (record { event = event; answer = answer }) Histories.Stays h)
