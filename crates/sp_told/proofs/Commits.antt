-- What each event of one session leaves of the agreement on commits.
use Rattle.std.proofs.Common.{◌≡◌, ℕ, ◌+◌, true, not, cond, List, [], ◌∷◌, ◌++◌, map, length, Option, None, Some, refl, sym, ap, ◌∙◌, subst, inl, inr, true≢false}
use Rattle.sp_rect.specs.declared.operation.Op.{Op}
use Rattle.sp_rect.specs.declared.operation.Op.TheVariants.{Put}
use Rattle.sp_rect.specs.declared.operation.Reply.{Reply}
use Rattle.sp_rect.specs.declared.commit.Commit.{Commit}
use Rattle.sp_locks.specs.declared.mode.Mode.{Mode}
use Rattle.sp_locks.specs.declared.row.Name.{Name}
use Rattle.sp_locks.specs.declared.row.Duration.{Duration}
use Rattle.sp_locks.specs.declared.row.Duration.TheVariants.{Commit as ToTheEnd}
use Rattle.sp_waits.specs.declared.edge.Edge.{Edge}
use Rattle.sp_node.specs.Table.{Table}
use Rattle.sp_event.specs.declared.event.Event.TheVariants.{Begin, Start, Name as AskName, Plan, Ask, Apply, Commit as AskCommit, Rollback, Clean}
use Rattle.sp_event.specs.declared.answer.Answer.{Answer}
use Rattle.sp_event.specs.declared.answer.Answer.TheVariants.{Granted, Waits, Deadlock, Full, Reply as IsReply}
use Rattle.sp_event.specs.declared.answer.Kind.{Kind}
use Rattle.sp_text.specs.Transcripts.{Ledger, of_session, of_others, with_pair, with_place, replied_in, stepped_to}
use Rattle.sp_model.specs.declared.session.Session.{Session}
use Rattle.sp_model.specs.declared.session.Stage.{Stage}
use Rattle.sp_model.specs.declared.session.Stage.TheVariants.{Idle, Started, NameWait, Named, NeedWait, Planned, Queued, Placed}
use Rattle.sp_model.specs.State.{Kernel, is_active, is_active_stage, session_at, at_stage, sessions_without, with_change, staged}
use Rattle.sp_model.specs.Refusals.{is_placed, refusal, turned_away}
use Rattle.sp_model.specs.Moves.{Requests, begun, lengthened}
use Rattle.sp_model.specs.Plans.{left_to_ask}
use Rattle.sp_model.specs.Stepped.{Does, IsAt, reply_of}
use Rattle.sp_model.proofs.Sessions.{found-among}
use Rattle.sp_model.proofs.Turned.{is_let, may_begin, may_start}
use Rattle.sp_model.proofs.Ends.{rollback-active}
use Rattle.sp_told.specs.Telling.{without_place, operation_of, TellsCommits}
use Rattle.sp_told.proofs.Pending.{pends_same, pends_dropped, pends_opened, pends_replied}
use Rattle.sp_told.proofs.Changes.{SessionsAnew, at_once, session_goes, session_changes, session_comes}
use Rattle.sp_told.proofs.Steps.{as_before, pends_one, free_at, step_tells, commit_tells}

-- the number of a session is its own
pub own_number : (k : Kernel) (s : ℕ) (x : Session) → IsAt k s x → x.txn.session ≡ s
own_number k s x at = (found-among s k.sessions x at).1

pub active_at : (x : Session) (stage : Stage) → x.stage ≡ stage → is_active_stage stage ≡ true → is_active x ≡ true
active_at x stage is a = ap is_active_stage is ∙ a

-- to another stage of an open transaction
pub staged_tells : (before : List Commit) (l : Ledger) (k k' : Kernel) (owed : List ℕ) (s m : ℕ) (x : Session) (stage : Stage) → TellsCommits before l k owed → IsAt k s x → is_active x ≡ true → is_active_stage stage ≡ true → m ≡ s
    → k'.sessions ≡ staged m stage k.sessions → k'.commits ≡ k.commits → TellsCommits before l k' owed
staged_tells before l k k' owed s m x stage t at a b is sessions commits =
    step_tells before l l k k' owed s (Some (at_stage stage x)) (of_session s l.pending) t (free_at k s x at a) (ap not b)
    (subst (λ (xs : List Session). SessionsAnew s k.sessions xs (Some (at_stage stage x))) (sym sessions) (session_changes s m (at_stage stage) k.sessions x is (λ y. refl) at))
    (pends_same s l.pending) (pends_one before l k owed s x t at a ∙ sym (ap (λ c. cond c (without_place x ∷ []) []) b)) commits refl

-- an open transaction goes, and was told so
pub gone_tells : (before : List Commit) (l : Ledger) (k k' : Kernel) (owed : List ℕ) (s m : ℕ) (x : Session) → TellsCommits before l k owed → IsAt k s x → is_active x ≡ true → m ≡ s
    → k'.sessions ≡ sessions_without m k.sessions → k'.commits ≡ k.commits → TellsCommits before (record l { pending = of_others s l.pending }) k' owed
gone_tells before l k k' owed s m x t at a is sessions commits =
    step_tells before l (record l { pending = of_others s l.pending }) k k' owed s None [] t (free_at k s x at a) refl
    (subst (λ (xs : List Session). SessionsAnew s k.sessions xs None) (sym sessions) (session_goes s m k.sessions is))
    (pends_dropped s l.pending) refl commits refl

-- an operation with its reply joins an open transaction, and was told so
pub replied_tells : (before : List Commit) (l : Ledger) (k k' : Kernel) (owed : List ℕ) (s m : ℕ) (x : Session) (op : Op) (reply : Reply) → TellsCommits before l k owed → IsAt k s x → is_active x ≡ true → m ≡ s
    → k'.sessions ≡ staged m Idle (with_change m (lengthened op reply) k.sessions) → k'.commits ≡ k.commits → TellsCommits before (replied_in l s op reply) k' owed
replied_tells before l k k' owed s m x op reply t at a is sessions commits =
    step_tells before l (replied_in l s op reply) k k' owed s (Some (at_stage Idle (lengthened op reply x))) (map (with_pair (record { op = op; reply = reply })) (of_session s l.pending)) t (free_at k s x at a) refl
    (subst (λ (xs : List Session). SessionsAnew s k.sessions xs (Some (at_stage Idle (lengthened op reply x)))) (sym sessions)
    (at_once s k.sessions (with_change m (lengthened op reply) k.sessions) (staged m Idle (with_change m (lengthened op reply) k.sessions)) (Some (lengthened op reply x)) (Some (at_stage Idle (lengthened op reply x))) first
    (session_changes s m (at_stage Idle) (with_change m (lengthened op reply) k.sessions) (lengthened op reply x) is (λ y. refl) first.own)))
    (pends_replied s l.pending (record { op = op; reply = reply })) (ap (map (with_pair (record { op = op; reply = reply }))) (pends_one before l k owed s x t at a)) commits refl
  where
    first : SessionsAnew s k.sessions (with_change m (lengthened op reply) k.sessions) (Some (lengthened op reply x))
    first = session_changes s m (lengthened op reply) k.sessions x is (λ y. refl) at

-- a transaction is open
pub begun_tells : (before : List Commit) (l : Ledger) (k : Kernel) (owed : List ℕ) (s : ℕ) → TellsCommits before l k owed → session_at s k.sessions ≡ None
    → TellsCommits before (record l { pending = record { session = s; txn = k.next_txn; seen = length k.commits; place = 0; ops = [] } ∷ of_others s l.pending }) (begun s k) owed
begun_tells before l k owed s t out =
    let x : Session = record { txn = record { number = k.next_txn; session = s; seen = length k.commits; ops = []; searches = [] }; stage = Idle } in
    step_tells before l (record l { pending = without_place x ∷ of_others s l.pending }) k (begun s k) owed s (Some x) (without_place x ∷ []) t (ap is_placed out) refl
    (session_comes x k.sessions out) (pends_opened s l.pending (without_place x) refl) refl refl refl

-- what is told by the answers to a request
pub record SaysRequest (l : Ledger) (s : ℕ) (told : Answer → Ledger) : Type 0 where
  pub granted : told Granted ≡ l
  pub waits : (name : Name) (mode : Mode) (blockers : List ℕ) → told (Waits name mode blockers) ≡ l
  pub deadlock : (cycle : List Edge) → told (Deadlock cycle) ≡ record l { pending = of_others s l.pending }

module _ (before : List Commit) (l : Ledger) (k : Kernel) (owed : List ℕ) (t : TellsCommits before l k owed) where
  told_with : (l' m : Ledger) (k' : Kernel) → l' ≡ m → TellsCommits before m k' owed → TellsCommits before l' k' owed
  told_with l' m k' same h = subst (λ (n : Ledger). TellsCommits before n k' owed) (sym same) h

  told_as : (l' : Ledger) (k' : Kernel) → l' ≡ l → TellsCommits before l k' owed → TellsCommits before l' k' owed
  told_as l' k' same h = told_with l' l k' same h

  restaged : (s : ℕ) (x : Session) (from to : Stage) (k' : Kernel) → IsAt k s x → x.stage ≡ from → is_active_stage from ≡ true → is_active_stage to ≡ true → k'.sessions ≡ staged s to k.sessions → k'.commits ≡ k.commits → TellsCommits before l k' owed
  restaged s x from to k' at is a b sessions commits = staged_tells before l k k' owed s s x to t at (active_at x from is a) b refl sessions commits

  finished-tells : (s : ℕ) (x : Session) (op : Op) (k' : Kernel) → IsAt k s x → x.stage ≡ Planned op [] → k'.sessions ≡ staged x.txn.session Idle k.sessions → k'.commits ≡ k.commits → TellsCommits before l k' owed
  finished-tells s x op k' at is sessions commits = staged_tells before l k k' owed s x.txn.session x Idle t at (active_at x (Planned op []) is refl) refl (own_number k s x at) sessions commits

  requests_tell : (s : ℕ) (told : Answer → Ledger) → SaysRequest l s told → (x : Session) (from : Stage) (name : Name) (mode : Mode) (duration : Duration) (granted waits : Stage) (answer : Answer) (after : Kernel) → IsAt k s x → x.stage ≡ from → is_active_stage from ≡ true
      → is_active_stage granted ≡ true → is_active_stage waits ≡ true → Requests k x name mode duration granted waits answer after → TellsCommits before (told answer) after owed
  requests_tell s told says x from name mode duration granted waits _ _ at is a b c (Requests.IsGranted free) =
      told_as (told Granted) _ says.granted (staged_tells before l k _ owed s x.txn.session x granted t at (active_at x from is a) b (own_number k s x at) refl refl)
  requests_tell s told says x from name mode duration granted waits _ _ at is a b c (Requests.HasToWait some cycle) =
      told_as _ _ (says.waits name mode _) (staged_tells before l k _ owed s x.txn.session x waits t at (active_at x from is a) c (own_number k s x at) refl refl)
  requests_tell s told says x from name mode duration granted waits _ _ at is a b c (Requests.ClosesCycle cycle some closes) =
      told_with _ _ _ (says.deadlock cycle) (gone_tells before l k _ owed s x.txn.session x t at (active_at x from is a) (own_number k s x at) refl refl)

  pub begin_tells : (IsRemoved : Table → ℕ → Table → Type 0) (s : ℕ) (answer : Answer) (after : Kernel) → turned_away k (Begin s) ≡ None → Does IsRemoved k (Begin s) answer after → TellsCommits before (stepped_to l (Begin s) answer) after owed
  begin_tells IsRemoved s _ _ free (Does.Begins _) = begun_tells before l k owed s t (may_begin k s free).out

  pub start_tells : (IsRemoved : Table → ℕ → Table → Type 0) (s : ℕ) (op : Op) (answer : Answer) (after : Kernel) → turned_away k (Start s op) ≡ None → Does IsRemoved k (Start s op) answer after → TellsCommits before l after owed
  start_tells IsRemoved s op _ _ free (Does.Starts _ x _ at in_space) = restaged s x Idle (Started op) _ at (may_start k s op x at free).idle refl refl refl refl

  pub name_tells : (IsRemoved : Table → ℕ → Table → Type 0) (s : ℕ) (told : Answer → Ledger) → SaysRequest l s told → (answer : Answer) (after : Kernel) → Does IsRemoved k (AskName s) answer after → TellsCommits before (told answer) after owed
  name_tells IsRemoved s told says _ _ (Does.NamesNothing _ x op at is none) = told_as _ _ says.granted (restaged s x (Started op) (Named op) _ at is refl refl refl refl)
  name_tells IsRemoved s told says _ _ (Does.Names _ x op name mode answer after at is asked asks) = requests_tell s told says x (Started op) name mode ToTheEnd (Named op) (NameWait op) answer after at is refl refl refl asks
  name_tells IsRemoved s told says _ _ (Does.HasWaited _ x op at is) = told_as _ _ says.granted (restaged s x (NameWait op) (Named op) _ at is refl refl refl refl)

  pub plan_tells : (IsRemoved : Table → ℕ → Table → Type 0) (s : ℕ) (answer : Answer) (after : Kernel) → Does IsRemoved k (Plan s) answer after → TellsCommits before l after owed
  plan_tells IsRemoved s _ _ (Does.Plans _ x op commit short at (inl is) needs) = restaged s x (Named op) (Planned op (left_to_ask k.locks s commit short)) _ at is refl refl refl refl
  plan_tells IsRemoved s _ _ (Does.Plans _ x op commit short at (inr is) needs) = restaged s x (NeedWait op) (Planned op (left_to_ask k.locks s commit short)) _ at is refl refl refl refl

  pub ask_tells : (IsRemoved : Table → ℕ → Table → Type 0) (s : ℕ) (told : Answer → Ledger) → SaysRequest l s told → (answer : Answer) (after : Kernel) → Does IsRemoved k (Ask s) answer after → TellsCommits before (told answer) after owed
  ask_tells IsRemoved s told says _ _ (Does.Asks _ x op need left answer after at is asks) = requests_tell s told says x (Planned op (need ∷ left)) need.name need.mode need.duration (Planned op left) (NeedWait op) answer after at is refl refl refl asks

  pub apply_tells : (IsRemoved : Table → ℕ → Table → Type 0) (s : ℕ) (told : Answer → Ledger) → ((kind : Kind) → told (Full kind) ≡ l) → ((x : Session) (op : Op) (reply : Reply) → IsAt k s x → operation_of x.stage ≡ Some op → told (IsReply reply) ≡ replied_in l s op reply)
      → (answer : Answer) (after : Kernel) → Does IsRemoved k (Apply s) answer after → TellsCommits before (told answer) after owed
  apply_tells IsRemoved s told full reply _ _ (Does.FullOfEntries _ x op at is adds passes) = told_as _ _ (full _) (finished-tells s x op _ at is refl refl)
  apply_tells IsRemoved s told full reply _ _ (Does.FullOfNumbers _ x r tree chosen at is adds few inserts passes) = told_as _ _ (full _) (finished-tells s x (Put r) _ at is refl refl)
  apply_tells IsRemoved s told full reply _ _ (Does.FullOfReplies _ x op at is passes) = told_as _ _ (full _) (finished-tells s x op _ at is refl refl)
  apply_tells IsRemoved s told full reply _ _ (Does.Applies _ x op at is plain few) =
      told_with _ _ _ (reply x op (reply_of k x op) at (ap operation_of is))
      (replied_tells before l k _ owed s x.txn.session x op (reply_of k x op) t at (active_at x (Planned op []) is refl) (own_number k s x at) refl refl)
  apply_tells IsRemoved s told full reply _ _ (Does.Inserts_entry _ x r tree chosen gifts at is adds few inserts numbers given) =
      told_with _ _ _ (reply x (Put r) (reply_of k x (Put r)) at (ap operation_of is))
      (replied_tells before l k _ owed s x.txn.session x (Put r) (reply_of k x (Put r)) t at (active_at x (Planned (Put r) []) is refl) (own_number k s x at) refl refl)

  pub rollback_tells : (IsRemoved : Table → ℕ → Table → Type 0) (s : ℕ) (answer : Answer) (after : Kernel) → turned_away k (Rollback s) ≡ None → Does IsRemoved k (Rollback s) answer after → TellsCommits before (stepped_to l (Rollback s) answer) after owed
  rollback_tells IsRemoved s _ _ free (Does.RollsBack _ x at) =
      gone_tells before l k _ owed s x.txn.session x t at (rollback-active x.stage (subst (λ (o : Option Session). refusal (Rollback s) o ≡ None) at (is_let k (Rollback s) free).refusal)).0 (own_number k s x at) refl refl

  pub clean_tells : (IsRemoved : Table → ℕ → Table → Type 0) (answer : Answer) (after : Kernel) → Does IsRemoved k Clean answer after → TellsCommits before l after owed
  clean_tells IsRemoved _ _ (Does.CleansNothing none) = t
  clean_tells IsRemoved _ _ (Does.CleanIsFull n rest tree first removed full more) = t
  clean_tells IsRemoved _ _ (Does.Cleans n rest tree short may unopposed) = as_before before l k _ owed refl refl t
  clean_tells IsRemoved _ _ (Does.PutsOff n rest tree short granule holder mode may off) = as_before before l k _ owed refl refl t

-- a session is not placed, where no place is to be told
not-placed : (before : List Commit) (l : Ledger) (k : Kernel) (s : ℕ) (x : Session) → TellsCommits before l k [] → IsAt k s x → x.stage ≡ Placed → ⊥
not-placed before l k s x t at is = true≢false (sym (ap (λ (stage : Stage). not (is_active_stage stage)) is) ∙ sym (ap is_placed at) ∙ t.placed s)

-- a commit, where no place is to be told
pub ask_commit_tells : (IsRemoved : Table → ℕ → Table → Type 0) (before : List Commit) (l : Ledger) (k : Kernel) (s : ℕ) (answer : Answer) (after : Kernel) → TellsCommits before l k [] → Does IsRemoved k (AskCommit s) answer after → TellsCommits before (stepped_to l (AskCommit s) answer) after []
ask_commit_tells IsRemoved before l k s _ _ t (Does.Commits _ x at is none) =
    commit_tells before l (record l { pending = of_others s l.pending; done = l.done ++ map (with_place (length k.commits + 1)) (of_session s l.pending) }) k _ s x t at (active_at x Idle is refl)
    (session_goes s x.txn.session k.sessions (own_number k s x at)) (pends_dropped s l.pending) refl refl
ask_commit_tells IsRemoved before l k s _ _ t (Does.JoinsQueue _ x at is some) = staged_tells before l k _ [] s s x Queued t at (active_at x Idle is refl) refl refl refl refl
ask_commit_tells IsRemoved before l k s _ _ t (Does.StaysQueued _ x at is) = t
ask_commit_tells IsRemoved before l k s _ _ t (Does.TellsPlace _ x at is) = absurd (not-placed before l k s x t at is)
