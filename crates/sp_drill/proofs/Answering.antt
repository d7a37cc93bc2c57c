-- Which answers end a run or leave places to tell, and what they leave.
use Rattle.std.proofs.Common.{rules, arith, ◌≡◌, ◌≢◌, ◌⊎◌, inl, inr, ◌+◌, ◌-◌, ◌≤◌, ℕ, Bool, true, false, ◌&&◌, not, cond, nat_eq, nat_le, List, [], ◌∷◌, ◌++◌, length, map, drop, Option, Some, None, refl, sym, ap, ◌∙◌, subst, append_assoc, length-append, true≢false}
use Rattle.std.proofs.Math.Seq.{drop-append_seam}
use Rattle.sp_rect.specs.declared.commit.Commit.{Commit as Transaction}
use Rattle.sp_locks.specs.declared.mode.Mode.{Mode}
use Rattle.sp_locks.specs.declared.row.Name.{Name as OnName}
use Rattle.sp_locks.specs.declared.row.Duration.{Duration}
use Rattle.sp_locks.specs.declared.row.Row.{Row}
use Rattle.sp_locks.specs.Rows.{waiting_in}
use Rattle.sp_node.specs.Among.{Among}
use Rattle.sp_event.specs.declared.event.Event.{Event}
use Rattle.sp_event.specs.declared.event.Event.TheVariants.{Begin, Start, Name, Plan, Ask, Apply, Commit, Flush, Rollback, Clean}
use Rattle.sp_event.specs.declared.answer.Answer.{Answer}
use Rattle.sp_event.specs.declared.answer.Answer.TheVariants.{Began, Started, Granted, Planned, Reply, Committed, Queued, RolledBack, Waits, Deadlock, Still, LatchBusy, Refused, Full, Wrote, Durable, Nothing, Removed, Later, Stopped, DiskFault, Memory}
use Rattle.sp_event.specs.declared.answer.Kind.TheVariants.{Transactions, Commits, Operations, History, Numbers}
use Rattle.sp_event.specs.declared.answer.Why.{Why}
use Rattle.sp_model.specs.declared.session.Session.{Session}
use Rattle.sp_model.specs.declared.session.Stage.{Stage}
use Rattle.sp_model.specs.State.{Kernel, entries_in, session_at}
use Rattle.sp_model.specs.Refusals.{first_of, answer_if, found_for, is_placed, stops, refusal, refused, full, still, still_for, latched, first_holder, holds_latch, shares, kept_operations, open_operations, open_transactions, most_transactions, most_endings, most_operations, most_history, first_unused, turned_away}
use Rattle.sp_model.specs.Moves.{Requests, placed_commit, placed_found, placed_each, placed_all}
use Rattle.sp_model.specs.Removal.{IsTakenOut}
use Rattle.sp_model.specs.Soundness.{Sound, DeadListed}
use Rattle.sp_model.specs.Stepped.{Does, Stepped}
use Rattle.sp_model.proofs.Bare.{Bare, bare}
use Rattle.sp_model.proofs.Dead.{StayDead}
use Rattle.sp_model.proofs.Flushing.{as_if, place_next, batch-sound}
use Rattle.sp_model.proofs.Sessions.{found-among, none-among}
use Rattle.sp_kernel.specs.Answers.{Answers}
use Rattle.sp_kernel.proofs.Telling.{done_faultless, turned_faultless}
use Rattle.sp_drill.specs.Hearing.{placed_from}

pub is_fault : (answer : Answer) → (answer ≡ DiskFault) ⊎ (answer ≢ DiskFault)
is_fault DiskFault = inl refl
is_fault (Durable first count) = inr (λ e. cc)
is_fault (Began txn seen) = inr (λ e. cc)
is_fault Started = inr (λ e. cc)
is_fault Granted = inr (λ e. cc)
is_fault (Planned n) = inr (λ e. cc)
is_fault (Reply r) = inr (λ e. cc)
is_fault (Committed p) = inr (λ e. cc)
is_fault Queued = inr (λ e. cc)
is_fault RolledBack = inr (λ e. cc)
is_fault (Waits name mode ss) = inr (λ e. cc)
is_fault (Deadlock c) = inr (λ e. cc)
is_fault (Still name) = inr (λ e. cc)
is_fault (LatchBusy s) = inr (λ e. cc)
is_fault (Refused why) = inr (λ e. cc)
is_fault (Full kind) = inr (λ e. cc)
is_fault Wrote = inr (λ e. cc)
is_fault Nothing = inr (λ e. cc)
is_fault (Removed e) = inr (λ f. cc)
is_fault (Later g s m) = inr (λ e. cc)
is_fault (Stopped o) = inr (λ e. cc)
is_fault Memory = inr (λ e. cc)

-- only a flush is answered by a fault of the disk
stepped_faultless : (k : Kernel) (event : Event) (answer : Answer) (n : Kernel) → Stepped IsTakenOut k event answer n → answer ≢ DiskFault
stepped_faultless k event _ _ (Stepped.IsTurnedAway answer turned) e = turned_faultless k event (turned ∙ ap (λ (a : Answer). Some a) e)
stepped_faultless k event _ _ (Stepped.IsDone answer after goes done) e = done_faultless k event answer after done e

memory_apart : Memory ≡ DiskFault → ⊥
memory_apart e = cc

flush_fails : (k : Kernel) (event : Event) (answer : Answer) (n : Kernel) → Answers k event answer n → answer ≡ DiskFault → event ≡ Flush
flush_fails k event _ _ (Answers.IsStepped answer after stepped) e = absurd (stepped_faultless k event answer after stepped e)
flush_fails k event _ _ Answers.WantsMemory e = absurd (memory_apart e)
flush_fails k event _ _ (Answers.Fails offset flush free some) e = flush

pub only_flush_fails : (k : Kernel) (event : Event) (n : Kernel) → Answers k event DiskFault n → event ≡ Flush
only_flush_fails k event n h = flush_fails k event DiskFault n h refl

commit_apart : (s : ℕ) → Commit s ≡ Flush → ⊥
commit_apart s e = cc

pub commit_faultless : (k : Kernel) (s : ℕ) (answer : Answer) (n : Kernel) → Answers k (Commit s) answer n → answer ≢ DiskFault
commit_faultless k s answer n h e = commit_apart s (flush_fails k (Commit s) answer n h e)

-- what is answered by a batch that is on the disk leaves its commits placed
abbrev LeavesPlaced : Kernel → Answer → Kernel → Type 0
LeavesPlaced k (Durable first count) n = (first ≡ length k.commits + 1) × (n ≡ placed_all k)
LeavesPlaced k answer n = Unit {0}

module _ (k : Kernel) (x : Session) (name : OnName) (mode : Mode) (duration : Duration) (granted waits : Stage) where
  requests_placed : (answer : Answer) (after : Kernel) → Requests k x name mode duration granted waits answer after → LeavesPlaced k answer after
  requests_placed _ _ (Requests.IsGranted free) = tt
  requests_placed _ _ (Requests.HasToWait some told) = tt
  requests_placed _ _ (Requests.ClosesCycle cycle some told) = tt

done_placed : (k : Kernel) (event : Event) (answer : Answer) (after : Kernel) → Does IsTakenOut k event answer after → LeavesPlaced k answer after
done_placed k _ _ _ (Does.Begins s) = tt
done_placed k _ _ _ (Does.Starts s x op at in_space) = tt
done_placed k _ _ _ (Does.NamesNothing s x op at started none) = tt
done_placed k _ _ _ (Does.Names s x op name mode answer after at started object asked) = requests_placed k x name mode _ _ _ answer after asked
done_placed k _ _ _ (Does.HasWaited s x op at waited) = tt
done_placed k _ _ _ (Does.Plans s x op commit short at stage needs) = tt
done_placed k _ _ _ (Does.Asks s x op need left answer after at planned asked) = requests_placed k x _ _ _ _ _ answer after asked
done_placed k _ _ _ (Does.FullOfEntries s x op at planned adds passes) = tt
done_placed k _ _ _ (Does.FullOfNumbers s x r after chosen at planned adds few inserts passes) = tt
done_placed k _ _ _ (Does.FullOfReplies s x op at planned passes) = tt
done_placed k _ _ _ (Does.Applies s x op at planned adds few) = tt
done_placed k _ _ _ (Does.Inserts_entry s x r after chosen gifts at planned adds few inserts numbers are) = tt
done_placed k _ _ _ (Does.Commits s x at idle none) = tt
done_placed k _ _ _ (Does.JoinsQueue s x at idle some) = tt
done_placed k _ _ _ (Does.StaysQueued s x at queued) = tt
done_placed k _ _ _ (Does.TellsPlace s x at placed) = tt
done_placed k _ _ _ (Does.RollsBack s x at) = tt
done_placed k _ _ _ (Does.FlushesNothing flight queue) = tt
done_placed k _ _ _ (Does.TakesOff flight queue) = tt
done_placed k _ _ _ (Does.Writes flight calls) = tt
done_placed k _ _ _ (Does.IsDurable flight calls) = (refl, refl)
done_placed k _ _ _ (Does.CleansNothing none) = tt
done_placed k _ _ _ (Does.CleanIsFull n rest after dead removed unused passes) = tt
done_placed k _ _ _ (Does.Cleans n rest after short removes free) = tt
done_placed k _ _ _ (Does.PutsOff n rest after short granule holder mode removes put) = tt

-- an event that is turned away is not answered so
abbrev is_apart : Answer → Bool
is_apart (Durable first count) = false
is_apart answer = true

abbrev told_apart : Option Answer → Bool
told_apart None = true
told_apart (Some a) = is_apart a

first_apart : (a : Option Answer) (rest : List (Option Answer)) → told_apart a ≡ true → told_apart (first_of rest) ≡ true → told_apart (first_of (a ∷ rest)) ≡ true
first_apart None rest here there = there
first_apart (Some a) rest here there = here

if_apart : (b : Bool) (a : Answer) → is_apart a ≡ true → told_apart (answer_if b a) ≡ true
if_apart false a own = refl
if_apart true a own = own

stops_apart : (o : Option ℕ) (event : Event) (x : Option Session) → told_apart (stops o event x) ≡ true
stops_apart None event x = refl
stops_apart (Some offset) (Begin s) x = refl
stops_apart (Some offset) (Start s op) x = refl
stops_apart (Some offset) (Name s) x = refl
stops_apart (Some offset) (Plan s) x = refl
stops_apart (Some offset) (Ask s) x = refl
stops_apart (Some offset) (Apply s) x = refl
stops_apart (Some offset) (Commit s) x = if_apart (not (is_placed x)) (Stopped offset) refl
stops_apart (Some offset) (Rollback s) x = refl
stops_apart (Some offset) Flush x = refl
stops_apart (Some offset) Clean x = refl

refused_apart : (o : Option Why) → told_apart (refused o) ≡ true
refused_apart None = refl
refused_apart (Some why) = refl

full_apart : (event : Event) (x : Option Session) (k : Kernel) → told_apart (full event x k) ≡ true
full_apart (Begin s) x k =
    first_apart (answer_if (nat_le first_unused k.next_txn) (Full Numbers)) _ (if_apart (nat_le first_unused k.next_txn) (Full Numbers) refl)
    (first_apart (answer_if (nat_le most_transactions (open_transactions k.sessions)) (Full Transactions)) _ (if_apart (nat_le most_transactions (open_transactions k.sessions)) (Full Transactions) refl)
    (first_apart (answer_if (nat_le most_endings (length k.commits + length k.ended + open_transactions k.sessions)) (Full Commits)) [] (if_apart (nat_le most_endings (length k.commits + length k.ended + open_transactions k.sessions)) (Full Commits) refl) refl))
full_apart (Start s op) (Some x) k =
    first_apart (answer_if (nat_le most_operations (length x.txn.ops)) (Full Operations)) _ (if_apart (nat_le most_operations (length x.txn.ops)) (Full Operations) refl)
    (first_apart (answer_if (nat_le most_history (kept_operations k.commits + open_operations k.sessions)) (Full History)) [] (if_apart (nat_le most_history (kept_operations k.commits + open_operations k.sessions)) (Full History) refl) refl)
full_apart (Start s op) None k = refl
full_apart (Name s) x k = refl
full_apart (Plan s) x k = refl
full_apart (Ask s) x k = refl
full_apart (Apply s) x k = refl
full_apart (Commit s) x k = refl
full_apart (Rollback s) x k = refl
full_apart Flush x k = refl
full_apart Clean x k = refl

row_apart : (o : Option Row) → told_apart (still_for o) ≡ true
row_apart None = refl
row_apart (Some row) = refl

still_apart : (event : Event) (rows : List Row) → told_apart (still event rows) ≡ true
still_apart (Begin s) rows = refl
still_apart (Start s op) rows = refl
still_apart (Name s) rows = row_apart (waiting_in s rows)
still_apart (Plan s) rows = row_apart (waiting_in s rows)
still_apart (Ask s) rows = refl
still_apart (Apply s) rows = refl
still_apart (Commit s) rows = refl
still_apart (Rollback s) rows = refl
still_apart Flush rows = refl
still_apart Clean rows = refl

holder_apart : (shared : Bool) (others : Session → Bool) (xs : List Session) → told_apart (first_holder shared others xs) ≡ true
holder_apart shared others [] = refl
holder_apart shared others (x ∷ xs) = go (others x && holds_latch shared x.stage) (holder_apart shared others xs)
  where
    go : (b : Bool) → told_apart (first_holder shared others xs) ≡ true → told_apart (cond b (Some (LatchBusy x.txn.session)) (first_holder shared others xs)) ≡ true
    go true rest = refl
    go false rest = rest

latched_apart : (event : Event) (x : Option Session) (xs : List Session) → told_apart (latched event x xs) ≡ true
latched_apart (Plan s) (Some x) xs = holder_apart (shares x.stage) (λ y. not (nat_eq y.txn.session s)) xs
latched_apart (Plan s) None xs = refl
latched_apart Clean x xs = holder_apart false (λ y. true) xs
latched_apart (Begin s) x xs = refl
latched_apart (Start s op) x xs = refl
latched_apart (Name s) x xs = refl
latched_apart (Ask s) x xs = refl
latched_apart (Apply s) x xs = refl
latched_apart (Commit s) x xs = refl
latched_apart (Rollback s) x xs = refl
latched_apart Flush x xs = refl

turned_apart : (k : Kernel) (event : Event) → told_apart (turned_away k event) ≡ true
turned_apart k event =
    let x = found_for event k.sessions in
    first_apart (stops k.stopped event x) _ (stops_apart k.stopped event x)
    (first_apart (refused (refusal event x)) _ (refused_apart (refusal event x))
    (first_apart (full event x k) _ (full_apart event x k)
    (first_apart (still event k.locks) _ (still_apart event k.locks)
    (first_apart (latched event x k.sessions) [] (latched_apart event x k.sessions) refl))))

apart_placed : (k : Kernel) (answer : Answer) → is_apart answer ≡ true → LeavesPlaced k answer k
apart_placed k (Durable first count) h = absurd (true≢false (sym h))
apart_placed k (Began txn seen) h = tt
apart_placed k Started h = tt
apart_placed k Granted h = tt
apart_placed k (Planned n) h = tt
apart_placed k (Reply r) h = tt
apart_placed k (Committed p) h = tt
apart_placed k Queued h = tt
apart_placed k RolledBack h = tt
apart_placed k (Waits name mode ss) h = tt
apart_placed k (Deadlock c) h = tt
apart_placed k (Still name) h = tt
apart_placed k (LatchBusy s) h = tt
apart_placed k (Refused why) h = tt
apart_placed k (Full kind) h = tt
apart_placed k Wrote h = tt
apart_placed k Nothing h = tt
apart_placed k (Removed e) h = tt
apart_placed k (Later g s m) h = tt
apart_placed k (Stopped o) h = tt
apart_placed k DiskFault h = tt
apart_placed k Memory h = tt

stepped_placed : (k : Kernel) (event : Event) (answer : Answer) (n : Kernel) → Stepped IsTakenOut k event answer n → LeavesPlaced k answer n
stepped_placed k event _ _ (Stepped.IsTurnedAway answer turned) = apart_placed k answer (sym (ap told_apart turned) ∙ turned_apart k event)
stepped_placed k event _ _ (Stepped.IsDone answer after goes done) = done_placed k event answer after done

answers_placed : (k : Kernel) (event : Event) (answer : Answer) (n : Kernel) → Answers k event answer n → LeavesPlaced k answer n
answers_placed k event _ _ (Answers.IsStepped answer after stepped) = stepped_placed k event answer after stepped
answers_placed k event _ _ Answers.WantsMemory = tt
answers_placed k event _ _ (Answers.Fails offset flush free some) = tt

-- The commits of a batch, once each has its place.
record AreCommits (before : List Transaction) (batch : List ℕ) (after : List Transaction) : Type 0 where
  commits : List Transaction
  are : after ≡ before ++ commits
  sessions : map (λ c. c.session) commits ≡ batch

append-nil : {A : Type 0} (x : List A) → x ++ [] ≡ x
append-nil x = search rules

next_commits : (k : Kernel) (s : ℕ) (rest : List ℕ) (o : Option Session) → session_at s k.sessions ≡ o → (x : Session) → Among x k.sessions → x.txn.session ≡ s
    → AreCommits (placed_found o k).commits rest (placed_each rest (placed_found o k)).commits → AreCommits k.commits (s ∷ rest) (placed_each rest (placed_found o k)).commits
next_commits k s rest None e x among is h = absurd (none-among s k.sessions x e among is)
next_commits k s rest (Some y) e x among is h = record {
  commits = placed_commit y k ∷ h.commits;
  are = h.are ∙ append_assoc k.commits (placed_commit y k ∷ []) h.commits;
  sessions = ap (λ (n : ℕ). n ∷ map (λ c. c.session) h.commits) (found-among s k.sessions y e).1 ∙ ap (λ (l : List ℕ). s ∷ l) h.sessions;
}

placed_commits : (k0 k : Kernel) (batch : List ℕ) → DeadListed k0.dead (entries_in k0) → StayDead (entries_in k0) (entries_in k) → Bare (as_if k0 batch k) → AreCommits k.commits batch (placed_each batch k).commits
placed_commits k0 k [] listed stay sound = record { commits = []; are = sym (append-nil k.commits); sessions = refl }
placed_commits k0 k (s ∷ rest) listed stay sound =
    let first = sound.queued.back s (inl refl) in
    let p = place_next k0 k s rest listed stay sound in
    next_commits k s rest (session_at s k.sessions) refl first.0 first.1 first.2 (placed_commits k0 (placed_found (session_at s k.sessions) k) rest listed p.1 p.0)

-- what a durable answer leaves: the sessions of the commits from its first place on are those of the batch that was in flight
pub record Placed (k : Kernel) (first : ℕ) (n : Kernel) : Type 0 where
  pub place : 1 ≤ first
  pub within : first - 1 ≤ length n.commits
  pub batch : placed_from first n ≡ k.flight

from_length : (first : ℕ) (k n : Kernel) (c : AreCommits k.commits k.flight n.commits) → first ≡ length k.commits + 1 → Placed k first n
from_length first k n c e =
    let at : first - 1 ≡ length k.commits = omega (arith, e) in
    let size = length-append k.commits c.commits in
    let total = ap length c.are in
    record {
      place = omega (arith, e);
      within = omega (arith, e, size, total);
      batch = ap (λ (i : ℕ). map (λ (x : Transaction). x.session) (drop i n.commits)) at
          ∙ ap (λ (l : List Transaction). map (λ (x : Transaction). x.session) (drop (length k.commits) l)) c.are
          ∙ ap (λ (l : List Transaction). map (λ (x : Transaction). x.session) l) (drop-append_seam k.commits c.commits) ∙ c.sessions;
    }

pub durable_places : (k : Kernel) (event : Event) (first count : ℕ) (n : Kernel) → Sound k → Answers k event (Durable first count) n → Placed k first n
durable_places k event first count n sound h =
    let d = answers_placed k event (Durable first count) n h in
    let c = placed_commits k k k.flight sound.dead (λ m i. i) (batch-sound k (bare k sound)) in
    from_length first k n (subst (λ (m : Kernel). AreCommits k.commits k.flight m.commits) (sym d.1) c) d.0
