-- What each event leaves of the agreement on operations that were started.
use Rattle.std.proofs.Common.{◌≡◌, ◌≢◌, ℕ, List, [], ◌∷◌, Option, None, Some, refl, sym, ap, ◌∙◌, subst, inl, inr}
use Rattle.sp_rect.specs.declared.operation.Op.{Op}
use Rattle.sp_rect.specs.declared.operation.Op.TheVariants.{Put}
use Rattle.sp_locks.specs.declared.mode.Mode.{Mode}
use Rattle.sp_locks.specs.declared.row.Name.{Name}
use Rattle.sp_locks.specs.declared.row.Duration.{Duration}
use Rattle.sp_locks.specs.declared.row.Duration.TheVariants.{Commit as ToTheEnd}
use Rattle.sp_node.specs.Table.{Table}
use Rattle.sp_event.specs.declared.event.Event.{Event}
use Rattle.sp_event.specs.declared.event.Event.TheVariants.{Name as AskName, Ask, Apply, Flush}
use Rattle.sp_event.specs.declared.answer.Answer.{Answer}
use Rattle.sp_event.specs.declared.answer.Answer.TheVariants.{Granted, Reply as IsReply}
use Rattle.sp_text.specs.Transcripts.{Ledger, last_started, applied, stepped_to}
use Rattle.sp_model.specs.declared.session.Session.{Session}
use Rattle.sp_model.specs.declared.session.Stage.{Stage}
use Rattle.sp_model.specs.declared.session.Stage.TheVariants.{Idle, Started, NameWait, Named, NeedWait, Planned, Queued}
use Rattle.sp_model.specs.State.{Kernel, at_stage, with_change, staged}
use Rattle.sp_model.specs.Refusals.{turned_away}
use Rattle.sp_model.specs.Moves.{Requests, lengthened}
use Rattle.sp_model.specs.Plans.{left_to_ask}
use Rattle.sp_model.specs.Stepped.{Does, IsAt, reply_of}
use Rattle.sp_model.proofs.Turned.{may_begin}
use Rattle.sp_told.specs.Telling.{operation_of, TellsStarted}
use Rattle.sp_told.proofs.Changes.{SessionsAnew, at_once, session_goes, session_changes, session_comes}
use Rattle.sp_told.proofs.Commits.{own_number, SaysRequest}
use Rattle.sp_told.proofs.Starting.{started_same, started_idle, started_gone, started_goes_on, started_anew}

module _ (l : Ledger) (k : Kernel) (t : TellsStarted l k) where
  goes_on : (l' : Ledger) (k' : Kernel) (s m : ℕ) (x : Session) (from to : Stage) → IsAt k s x → x.stage ≡ from → m ≡ s → operation_of to ≡ operation_of from → k'.sessions ≡ staged m to k.sessions → l'.started ≡ l.started → TellsStarted l' k'
  goes_on l' k' s m x from to at is own same sessions started =
      started_goes_on l l' k k' s x (at_stage to x) t at
      (subst (λ (xs : List Session). SessionsAnew s k.sessions xs (Some (at_stage to x))) (sym sessions) (session_changes s m (at_stage to) k.sessions x own (λ y. refl) at))
      (same ∙ sym (ap operation_of is)) started

  to_idle : (l' : Ledger) (k' : Kernel) (s m : ℕ) (x : Session) (to : Stage) → IsAt k s x → m ≡ s → operation_of to ≡ None → k'.sessions ≡ staged m to k.sessions → l'.started ≡ l.started → TellsStarted l' k'
  to_idle l' k' s m x to at own idle sessions started =
      started_idle l l' k k' s (at_stage to x) t
      (subst (λ (xs : List Session). SessionsAnew s k.sessions xs (Some (at_stage to x))) (sym sessions) (session_changes s m (at_stage to) k.sessions x own (λ y. refl) at))
      idle started

  gone : (l' : Ledger) (k' : Kernel) (s : ℕ) (x : Session) → IsAt k s x → SessionsAnew s k.sessions k'.sessions None → l'.started ≡ l.started → TellsStarted l' k'
  gone l' k' s x at turn started = started_gone l l' k k' s t turn started

  requests_started : (s : ℕ) (told : Answer → Ledger) → SaysRequest l s told → (x : Session) (from : Stage) (name : Name) (mode : Mode) (duration : Duration) (granted waits : Stage) (answer : Answer) (after : Kernel) → IsAt k s x → x.stage ≡ from
      → operation_of granted ≡ operation_of from → operation_of waits ≡ operation_of from → Requests k x name mode duration granted waits answer after → TellsStarted (told answer) after
  requests_started s told says x from name mode duration granted waits _ _ at is b c (Requests.IsGranted free) =
      goes_on (told Granted) _ s x.txn.session x from granted at is (own_number k s x at) b refl (ap (λ (m : Ledger). m.started) says.granted)
  requests_started s told says x from name mode duration granted waits _ _ at is b c (Requests.HasToWait some cycle) =
      goes_on _ _ s x.txn.session x from waits at is (own_number k s x at) c refl (ap (λ (m : Ledger). m.started) (says.waits name mode _))
  requests_started s told says x from name mode duration granted waits _ _ at is b c (Requests.ClosesCycle cycle some closes) =
      gone _ _ s x at (session_goes s x.txn.session k.sessions (own_number k s x at)) (ap (λ (m : Ledger). m.started) (says.deadlock cycle))

  applies : (s : ℕ) (x : Session) (op : Op) (k' : Kernel) → IsAt k s x → x.stage ≡ Planned op [] → k'.sessions ≡ staged x.txn.session Idle (with_change x.txn.session (lengthened op (reply_of k x op)) k.sessions)
      → TellsStarted (stepped_to l (Apply s) (IsReply (reply_of k x op))) k'
  applies s x op k' at is sessions =
      started_idle l (stepped_to l (Apply s) (IsReply (reply_of k x op))) k k' s (at_stage Idle (lengthened op (reply_of k x op) x)) t
      (subst (λ (xs : List Session). SessionsAnew s k.sessions xs (Some (at_stage Idle (lengthened op (reply_of k x op) x)))) (sym sessions)
      (at_once s k.sessions (with_change x.txn.session (lengthened op (reply_of k x op)) k.sessions) (staged x.txn.session Idle (with_change x.txn.session (lengthened op (reply_of k x op)) k.sessions)) (Some (lengthened op (reply_of k x op) x)) (Some (at_stage Idle (lengthened op (reply_of k x op) x))) first
      (session_changes s x.txn.session (at_stage Idle) (with_change x.txn.session (lengthened op (reply_of k x op)) k.sessions) (lengthened op (reply_of k x op) x) (own_number k s x at) (λ y. refl) first.own)))
      refl (same (last_started s l.started))
    where
      first : SessionsAnew s k.sessions (with_change x.txn.session (lengthened op (reply_of k x op)) k.sessions) (Some (lengthened op (reply_of k x op) x))
      first = session_changes s x.txn.session (lengthened op (reply_of k x op)) k.sessions x (own_number k s x at) (λ y. refl) at

      same : (o : Option Op) → (applied l s o (reply_of k x op)).started ≡ l.started
      same None = refl
      same (Some other) = refl

  pub says_name : (s : ℕ) → SaysRequest l s (stepped_to l (AskName s))
  says_name s = record { granted = refl; waits = λ name mode blockers. refl; deadlock = λ cycle. refl }

  pub says_ask : (s : ℕ) → SaysRequest l s (stepped_to l (Ask s))
  says_ask s = record { granted = refl; waits = λ name mode blockers. refl; deadlock = λ cycle. refl }

  -- every event but a flush
  pub does_started : (IsRemoved : Table → ℕ → Table → Type 0) (event : Event) (answer : Answer) (after : Kernel) → turned_away k event ≡ None → event ≢ Flush → Does IsRemoved k event answer after → TellsStarted (stepped_to l event answer) after
  does_started IsRemoved _ _ _ free other (Does.Begins s) = started_idle l _ k _ s _ t (session_comes _ k.sessions (may_begin k s free).out) refl refl
  does_started IsRemoved _ _ _ free other (Does.Starts s x op at in_space) = started_anew l _ k _ s (at_stage (Started op) x) op t (session_changes s s (at_stage (Started op)) k.sessions x refl (λ y. refl) at) refl refl
  does_started IsRemoved _ _ _ free other (Does.NamesNothing s x op at is none) = goes_on _ _ s s x (Started op) (Named op) at is refl refl refl refl
  does_started IsRemoved _ _ _ free other (Does.Names s x op name mode answer after at is asked asks) = requests_started s (stepped_to l (AskName s)) (says_name s) x (Started op) name mode ToTheEnd (Named op) (NameWait op) answer after at is refl refl asks
  does_started IsRemoved _ _ _ free other (Does.HasWaited s x op at is) = goes_on _ _ s s x (NameWait op) (Named op) at is refl refl refl refl
  does_started IsRemoved _ _ _ free other (Does.Plans s x op commit short at (inl is) needs) = goes_on _ _ s s x (Named op) (Planned op (left_to_ask k.locks s commit short)) at is refl refl refl refl
  does_started IsRemoved _ _ _ free other (Does.Plans s x op commit short at (inr is) needs) = goes_on _ _ s s x (NeedWait op) (Planned op (left_to_ask k.locks s commit short)) at is refl refl refl refl
  does_started IsRemoved _ _ _ free other (Does.Asks s x op need left answer after at is asks) = requests_started s (stepped_to l (Ask s)) (says_ask s) x (Planned op (need ∷ left)) need.name need.mode need.duration (Planned op left) (NeedWait op) answer after at is refl refl asks
  does_started IsRemoved _ _ _ free other (Does.FullOfEntries s x op at is adds passes) = to_idle _ _ s x.txn.session x Idle at (own_number k s x at) refl refl refl
  does_started IsRemoved _ _ _ free other (Does.FullOfNumbers s x r tree chosen at is adds few inserts passes) = to_idle _ _ s x.txn.session x Idle at (own_number k s x at) refl refl refl
  does_started IsRemoved _ _ _ free other (Does.FullOfReplies s x op at is passes) = to_idle _ _ s x.txn.session x Idle at (own_number k s x at) refl refl refl
  does_started IsRemoved _ _ _ free other (Does.Applies s x op at is plain few) = applies s x op _ at is refl
  does_started IsRemoved _ _ _ free other (Does.Inserts_entry s x r tree chosen gifts at is adds few inserts numbers given) = applies s x (Put r) _ at is refl
  does_started IsRemoved _ _ _ free other (Does.Commits s x at is none) = gone _ _ s x at (session_goes s x.txn.session k.sessions (own_number k s x at)) refl
  does_started IsRemoved _ _ _ free other (Does.JoinsQueue s x at is some) = to_idle _ _ s s x Queued at refl refl refl refl
  does_started IsRemoved _ _ _ free other (Does.StaysQueued s x at is) = t
  does_started IsRemoved _ _ _ free other (Does.TellsPlace s x at is) = gone _ _ s x at (session_goes s s k.sessions refl) refl
  does_started IsRemoved _ _ _ free other (Does.RollsBack s x at) = gone _ _ s x at (session_goes s x.txn.session k.sessions (own_number k s x at)) refl
  does_started IsRemoved _ _ _ free other (Does.FlushesNothing none empty) = absurd (other refl)
  does_started IsRemoved _ _ _ free other (Does.TakesOff none some) = absurd (other refl)
  does_started IsRemoved _ _ _ free other (Does.Writes some few) = absurd (other refl)
  does_started IsRemoved _ _ _ free other (Does.IsDurable some all) = absurd (other refl)
  does_started IsRemoved _ _ _ free other (Does.CleansNothing none) = t
  does_started IsRemoved _ _ _ free other (Does.CleanIsFull n rest tree first removed full more) = t
  does_started IsRemoved _ _ _ free other (Does.Cleans n rest tree short may unopposed) = started_same l _ k _ refl refl t
  does_started IsRemoved _ _ _ free other (Does.PutsOff n rest tree short granule holder mode may off) = started_same l _ k _ refl refl t
