-- What an event of a session leaves of the others: each keeps its transaction, and none waits for anything new.
use Rattle.std.proofs.Common.{◌≡◌, ◌≢◌, ◌⊎◌, ℕ, true, List, [], ◌∷◌, ◌++◌, Option, None, Some, length, refl, sym, ap, ◌∙◌, subst, inl, inr}
use Rattle.sp_rect.specs.declared.operation.Op.{Op}
use Rattle.sp_rect.specs.declared.operation.Op.TheVariants.{Put}
use Rattle.sp_locks.specs.declared.mode.Mode.{Mode}
use Rattle.sp_locks.specs.declared.row.Name.{Name}
use Rattle.sp_locks.specs.declared.row.Duration.{Duration}
use Rattle.sp_locks.specs.declared.row.Duration.TheVariants.{Commit as ToTheEnd}
use Rattle.sp_locks.specs.declared.row.Scope.TheVariants.{ShortLocks, AllRows}
use Rattle.sp_locks.specs.declared.row.Row.{Row}
use Rattle.sp_locks.specs.Table.{row_of, released, given}
use Rattle.sp_node.specs.Among.{Among}
use Rattle.sp_event.specs.declared.event.Event.{Event}
use Rattle.sp_event.specs.declared.event.Event.TheVariants.{Flush}
use Rattle.sp_event.specs.declared.answer.Answer.{Answer}
use Rattle.sp_model.specs.declared.session.Session.{Session}
use Rattle.sp_model.specs.declared.session.Stage.{Stage}
use Rattle.sp_model.specs.declared.session.Stage.TheVariants.{Idle, Started, NameWait, Named, NeedWait, Planned, Queued}
use Rattle.sp_model.specs.State.{Kernel, session_at, at_stage, sessions_without, with_change, staged}
use Rattle.sp_model.specs.Refusals.{session_of, turned_away}
use Rattle.sp_model.specs.Moves.{Requests, lengthened, at_place, placed_found, placed_each}
use Rattle.sp_model.specs.Plans.{left_to_ask}
use Rattle.sp_model.specs.Removal.{IsTakenOut}
use Rattle.sp_model.specs.Stepped.{Stepped, Does, IsAt, reply_of}
use Rattle.sp_model.proofs.Sessions.{number-apart}
use Rattle.sp_model.proofs.Turned.{may_begin}
use Rattle.sp_kernel.specs.Answers.{Answers}
use Rattle.sp_told.proofs.Changes.{SessionsAnew, at_once, session_goes, session_changes, session_comes}
use Rattle.sp_told.proofs.Commits.{own_number}
use Rattle.sp_desk.specs.declared.stalled.Stalled.{Stalled as Waiter}
use Rattle.sp_desk.proofs.Each.{Each}
use Rattle.sp_conduct.specs.Standing.{Standing}
use Rattle.sp_conduct.proofs.Resting.{StandsSo, OthersRest, WaitsAt, AreWaiting, KeepsOthers}
pub use Rattle.sp_conduct.proofs.Counts.{next_kept, base_kept}
use Rattle.sp_conduct.proofs.Rows.{released_waits, granted_waits, asked_waits, given_waits}

pub kept_none : (s : ℕ) (k : Kernel) → KeepsOthers s k k
kept_none s k = record { sessions = λ v apart. refl; rows = λ r i w apart. i }

pub kept_more : (s : ℕ) (k m n : Kernel) → KeepsOthers s k m → KeepsOthers s m n → KeepsOthers s k n
kept_more s k m n a b = record { sessions = λ v apart. b.sessions v apart ∙ a.sessions v apart; rows = λ r i w apart. a.rows r (b.rows r i w apart) w apart }

-- one session changes, comes or goes, and rows that wait are of it or waited before
kept : (s : ℕ) (k n : Kernel) (o : Option Session) → SessionsAnew s k.sessions n.sessions o → ((r : Row) → Among r n.locks → r.waiting ≡ true → r.session ≢ s → Among r k.locks) → KeepsOthers s k n
kept s k n o turn rows = record { sessions = λ v apart. turn.others v (number-apart v s apart); rows = rows }

module _ (k : Kernel) (s : ℕ) (x : Session) (at : IsAt k s x) where
  own : x.txn.session ≡ s
  own = own_number k s x at

  staged_anew : (m : ℕ) (stage : Stage) → m ≡ s → SessionsAnew s k.sessions (staged m stage k.sessions) (Some (at_stage stage x))
  staged_anew m stage is = session_changes s m (at_stage stage) k.sessions x is (λ y. refl) at

  goes_anew : SessionsAnew s k.sessions (sessions_without x.txn.session k.sessions) None
  goes_anew = session_goes s x.txn.session k.sessions own

  replied_anew : (op : Op) → SessionsAnew s k.sessions (staged x.txn.session Idle (with_change x.txn.session (lengthened op (reply_of k x op)) k.sessions)) (Some (at_stage Idle (lengthened op (reply_of k x op) x)))
  replied_anew op =
      let change = lengthened op (reply_of k x op) in
      at_once s k.sessions (with_change x.txn.session change k.sessions) (staged x.txn.session Idle (with_change x.txn.session change k.sessions)) (Some (change x)) (Some (at_stage Idle (change x))) first
      (session_changes s x.txn.session (at_stage Idle) (with_change x.txn.session change k.sessions) (change x) own (λ y. refl) first.own)
    where
      first : SessionsAnew s k.sessions (with_change x.txn.session (lengthened op (reply_of k x op)) k.sessions) (Some (lengthened op (reply_of k x op) x))
      first = session_changes s x.txn.session (lengthened op (reply_of k x op)) k.sessions x own (λ y. refl) at

  -- to another stage, with the rows as they are
  staged_kept : (m : ℕ) (stage : Stage) (n : Kernel) → m ≡ s → n.sessions ≡ staged m stage k.sessions → n.locks ≡ k.locks → KeepsOthers s k n
  staged_kept m stage n is sessions locks =
      kept s k n (Some (at_stage stage x)) (subst (λ (xs : List Session). SessionsAnew s k.sessions xs (Some (at_stage stage x))) (sym sessions) (staged_anew m stage is)) (λ r i w apart. subst (Among r) locks i)

  finished_kept : (n : Kernel) → n.sessions ≡ staged x.txn.session Idle k.sessions → n.locks ≡ released ShortLocks x.txn.session k.locks → KeepsOthers s k n
  finished_kept n sessions locks =
      kept s k n (Some (at_stage Idle x)) (subst (λ (xs : List Session). SessionsAnew s k.sessions xs (Some (at_stage Idle x))) (sym sessions) (staged_anew x.txn.session Idle own))
      (λ r i w apart. released_waits ShortLocks x.txn.session k.locks r (subst (Among r) locks i) w)

  -- its transaction ends
  ended_kept : (n : Kernel) → n.sessions ≡ sessions_without x.txn.session k.sessions → n.locks ≡ released AllRows x.txn.session k.locks → KeepsOthers s k n
  ended_kept n sessions locks =
      kept s k n None (subst (λ (xs : List Session). SessionsAnew s k.sessions xs None) (sym sessions) goes_anew)
      (λ r i w apart. released_waits AllRows x.txn.session k.locks r (subst (Among r) locks i) w)

  -- its operation is done, and no row waits by that
  applied_kept : (op : Op) (n : Kernel) → n.sessions ≡ staged x.txn.session Idle (with_change x.txn.session (lengthened op (reply_of k x op)) k.sessions) → ((r : Row) → Among r n.locks → r.waiting ≡ true → Among r k.locks) → KeepsOthers s k n
  applied_kept op n sessions rows =
      let y = at_stage Idle (lengthened op (reply_of k x op) x) in
      kept s k n (Some y) (subst (λ (xs : List Session). SessionsAnew s k.sessions xs (Some y)) (sym sessions) (replied_anew op)) (λ r i w apart. rows r i w)

  requests_kept : (name : Name) (mode : Mode) (duration : Duration) (granted waits : Stage) (answer : Answer) (n : Kernel) → Requests k x name mode duration granted waits answer n → KeepsOthers s k n
  requests_kept name mode duration granted waits _ _ (Requests.IsGranted free) =
      kept s k _ (Some (at_stage granted x)) (staged_anew x.txn.session granted own) (λ r i w apart. granted_waits x.txn.session name mode duration k.locks r i w)
  requests_kept name mode duration granted waits _ _ (Requests.HasToWait stuck open_end) =
      kept s k _ (Some (at_stage waits x)) (staged_anew x.txn.session waits own)
      (λ r i w apart. old r w apart (asked_waits x.txn.session name mode duration (released ShortLocks x.txn.session k.locks) r i w))
    where
      old : (r : Row) → r.waiting ≡ true → r.session ≢ s → (r ≡ row_of x.txn.session name mode duration true) ⊎ Among r (released ShortLocks x.txn.session k.locks) → Among r k.locks
      old r w apart (inl is) = absurd (apart (ap (λ (q : Row). q.session) is ∙ own))
      old r w apart (inr i) = released_waits ShortLocks x.txn.session k.locks r i w
  requests_kept name mode duration granted waits _ _ (Requests.ClosesCycle cycle stuck closes) =
      kept s k _ None goes_anew
      (λ r i w apart. released_waits ShortLocks x.txn.session k.locks r (released_waits AllRows x.txn.session (released ShortLocks x.txn.session k.locks) r i w) w)

-- the session that the event names
one : (t s : ℕ) → Some t ≡ Some s → t ≡ s
one t s h = cc

nobody : (s : ℕ) → None ≡ Some s → ⊥
nobody s h = cc

named : (k n : Kernel) (t : ℕ) → KeepsOthers t k n → (s : ℕ) → Some t ≡ Some s → KeepsOthers s k n
named k n t h s is = subst (λ (u : ℕ). KeepsOthers u k n) (one t s is) h

does_kept : (k : Kernel) (event : Event) (answer : Answer) (n : Kernel) → turned_away k event ≡ None → Does IsTakenOut k event answer n → (s : ℕ) → session_of event ≡ Some s → KeepsOthers s k n
does_kept k _ _ _ free (Does.Begins t) = named k _ t (kept t k _ _ (session_comes (record { txn = record { number = k.next_txn; session = t; seen = length k.commits; ops = []; searches = [] }; stage = Idle }) k.sessions (may_begin k t free).out) (λ r i w apart. i))
does_kept k _ _ _ free (Does.Starts t x op at inside) = named k _ t (staged_kept k t x at t (Started op) _ refl refl refl)
does_kept k _ _ _ free (Does.NamesNothing t x op at stage none) = named k _ t (staged_kept k t x at t (Named op) _ refl refl refl)
does_kept k _ _ _ free (Does.Names t x op name mode answer after at stage asked requests) = named k _ t (requests_kept k t x at name mode ToTheEnd (Named op) (NameWait op) answer after requests)
does_kept k _ _ _ free (Does.HasWaited t x op at stage) = named k _ t (staged_kept k t x at t (Named op) _ refl refl refl)
does_kept k _ _ _ free (Does.Plans t x op commit short at stage needs) = named k _ t (staged_kept k t x at t (Planned op (left_to_ask k.locks t commit short)) _ refl refl refl)
does_kept k _ _ _ free (Does.Asks t x op need left answer after at stage requests) = named k _ t (requests_kept k t x at need.name need.mode need.duration (Planned op left) (NeedWait op) answer after requests)
does_kept k _ _ _ free (Does.FullOfEntries t x op at stage adding full) = named k _ t (finished_kept k t x at _ refl refl)
does_kept k _ _ _ free (Does.FullOfNumbers t x r after chosen at stage adding room inserts full) = named k _ t (finished_kept k t x at _ refl refl)
does_kept k _ _ _ free (Does.FullOfReplies t x op at stage full) = named k _ t (finished_kept k t x at _ refl refl)
does_kept k _ _ _ free (Does.Applies t x op at stage adding room) = named k _ t (applied_kept k t x at op _ refl (λ r i w. released_waits ShortLocks x.txn.session k.locks r i w))
does_kept k _ _ _ free (Does.Inserts_entry t x r after chosen gifts at stage adding room inserts numbers gives) =
    named k _ t (applied_kept k t x at (Put r) _ refl (λ q i w. given_waits x.txn.session gifts k.locks q (released_waits ShortLocks x.txn.session (k.locks ++ given x.txn.session gifts) q i w) w))
does_kept k _ _ _ free (Does.Commits t x at stage none) = named k _ t (ended_kept k t x at _ refl refl)
does_kept k _ _ _ free (Does.JoinsQueue t x at stage some) = named k _ t (staged_kept k t x at t Queued _ refl refl refl)
does_kept k _ _ _ free (Does.StaysQueued t x at stage) = named k _ t (kept_none t k)
does_kept k _ _ _ free (Does.TellsPlace t x at stage) = named k _ t (kept t k _ None (session_goes t t k.sessions refl) (λ r i w apart. i))
does_kept k _ _ _ free (Does.RollsBack t x at) = named k _ t (ended_kept k t x at _ refl refl)
does_kept k _ _ _ free (Does.FlushesNothing none empty) = λ s is. absurd (nobody s is)
does_kept k _ _ _ free (Does.TakesOff none some) = λ s is. absurd (nobody s is)
does_kept k _ _ _ free (Does.Writes some few) = λ s is. absurd (nobody s is)
does_kept k _ _ _ free (Does.IsDurable some all) = λ s is. absurd (nobody s is)
does_kept k _ _ _ free (Does.CleansNothing none) = λ s is. absurd (nobody s is)
does_kept k _ _ _ free (Does.CleanIsFull number rest after first removed full more) = λ s is. absurd (nobody s is)
does_kept k _ _ _ free (Does.Cleans number rest after short removes unopposed) = λ s is. absurd (nobody s is)
does_kept k _ _ _ free (Does.PutsOff number rest after short granule holder mode removes off) = λ s is. absurd (nobody s is)

pub others_kept : (k : Kernel) (s : ℕ) (event : Event) (answer : Answer) (n : Kernel) → session_of event ≡ Some s → Answers k event answer n → KeepsOthers s k n
others_kept k s event _ _ is (Answers.IsStepped _ _ (Stepped.IsTurnedAway answer away)) = kept_none s k
others_kept k s event _ _ is (Answers.IsStepped _ _ (Stepped.IsDone answer n free does)) = does_kept k event answer n free does s is
others_kept k s event _ _ is Answers.WantsMemory = kept_none s k
others_kept k s event _ _ is (Answers.Fails offset flush free some) = absurd (nobody s (ap session_of (sym flush) ∙ is))

-- where the batch is of the session alone, its place frees others at most
found_kept : (k : Kernel) (s : ℕ) (o : Option Session) → session_at s k.sessions ≡ o → KeepsOthers s k (placed_found o k)
found_kept k s None at = kept_none s k
found_kept k s (Some x) at =
    kept s k _ (Some (at_place x)) (session_changes s x.txn.session at_place k.sessions x (own k s x at) (λ y. refl) at) (λ r i w apart. released_waits AllRows x.txn.session k.locks r i w)

all_of_one : (s : ℕ) (xs ys : List ℕ) → xs ≢ [] → xs ++ ys ≡ s ∷ [] → xs ≡ s ∷ []
all_of_one s [] ys some h = absurd (some refl)
all_of_one s (x ∷ []) ys some h = let e : x ≡ s = cc in ap (λ (n : ℕ). n ∷ []) e
all_of_one s (x ∷ y ∷ xs) ys some h = absurd (differ h)
  where
    differ : x ∷ y ∷ (xs ++ ys) ≡ s ∷ [] → ⊥
    differ h = cc

flush_does : (k : Kernel) (s : ℕ) (answer : Answer) (n : Kernel) → k.flight ++ k.queue ≡ s ∷ [] → Does IsTakenOut k Flush answer n → KeepsOthers s k n
flush_does k s _ _ alone (Does.FlushesNothing none empty) = kept_none s k
flush_does k s _ _ alone (Does.TakesOff none some) = record { sessions = λ v apart. refl; rows = λ r i w apart. i }
flush_does k s _ _ alone (Does.Writes some few) = record { sessions = λ v apart. refl; rows = λ r i w apart. i }
flush_does k s _ _ alone (Does.IsDurable some all) = record { sessions = h.sessions; rows = h.rows }
  where
    h : KeepsOthers s k (placed_each k.flight k)
    h = subst (λ (batch : List ℕ). KeepsOthers s k (placed_each batch k)) (sym (all_of_one s k.flight k.queue some alone)) (found_kept k s (session_at s k.sessions) refl)

pub flush_kept : (k : Kernel) (s : ℕ) (answer : Answer) (n : Kernel) → k.flight ++ k.queue ≡ s ∷ [] → Answers k Flush answer n → KeepsOthers s k n
flush_kept k s _ _ alone (Answers.IsStepped _ _ (Stepped.IsTurnedAway answer away)) = kept_none s k
flush_kept k s _ _ alone (Answers.IsStepped _ _ (Stepped.IsDone answer n free does)) = flush_does k s answer n alone does
flush_kept k s _ _ alone Answers.WantsMemory = kept_none s k
flush_kept k s _ _ alone (Answers.Fails offset flush free some) = record { sessions = λ v apart. refl; rows = λ r i w apart. i }

-- so the others stand as before
pub stands_on : (k n : Kernel) (v : ℕ) (was : Standing) → session_at v n.sessions ≡ session_at v k.sessions → ((r : Row) → Among r n.locks → r.waiting ≡ true → r.session ≡ v → Among r k.locks) → StandsSo k v was → StandsSo n v was
stands_on k n v Standing.Out same rows h = same ∙ h
stands_on k n v Standing.Open same rows h = (h.0, same ∙ h.1, h.2)
stands_on k n v (Standing.Stalled op name mode) same rows h = record { session = h.session; at = same ∙ h.at; stage = h.stage; row = λ r i of_v w. h.row r (rows r i w of_v) of_v w }

pub kept_rest : (s : ℕ) (k n : Kernel) (at : ℕ → Standing) → KeepsOthers s k n → OthersRest s k at → OthersRest s n at
kept_rest s k n at keeps rest v apart = stands_on k n v (at v) (keeps.sessions v apart) (λ r i w of_v. keeps.rows r i w (λ e. apart (sym of_v ∙ e))) (rest v apart)

each_kept : (s : ℕ) (k n : Kernel) (w : List Waiter) → KeepsOthers s k n → ((x : Waiter) → Among x w → x.session ≢ s) → Each (WaitsAt k) w → Each (WaitsAt n) w
each_kept s k n [] keeps apart a = tt
each_kept s k n (x ∷ w) keeps apart a = ((a.0.0, keeps.sessions x.session (apart x (inl refl)) ∙ a.0.1, a.0.2), each_kept s k n w keeps (λ y i. apart y (inr i)) a.1)

pub kept_waiting : (s : ℕ) (k n : Kernel) (w : List Waiter) → KeepsOthers s k n → ((x : Waiter) → Among x w → x.session ≢ s) → AreWaiting k w → AreWaiting n w
kept_waiting s k n w keeps apart waiting = record { each = each_kept s k n w keeps apart waiting.each; once = waiting.once }
