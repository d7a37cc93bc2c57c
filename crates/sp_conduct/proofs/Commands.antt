-- The answers to the commands but operations, and what is done behind them: how they fit, and how the sessions stand then.
use Rattle.std.proofs.Common.{◌≡◌, ◌≢◌, ◌⊎◌, ℕ, List, [], ◌++◌, None, Some, length, refl, sym, ap, ◌∙◌, subst, inl, inr}
use Rattle.sp_node.specs.Among.{Among}
use Rattle.sp_event.specs.declared.event.Event.TheVariants.{Begin as BeginEvent, Commit as CommitEvent, Flush, Rollback as RollbackEvent, Clean}
use Rattle.sp_event.specs.declared.answer.Answer.{Answer}
use Rattle.sp_event.specs.declared.answer.Answer.TheVariants.{Queued, RolledBack, Refused}
use Rattle.sp_event.specs.declared.answer.Why.{Why}
use Rattle.sp_event.specs.declared.answer.Why.TheVariants.{InTxn, NoTxn, Busy}
use Rattle.sp_text.specs.declared.types.Command.TheVariants.{Begin, Commit, Rollback}
use Rattle.sp_model.specs.declared.session.Session.{Session}
use Rattle.sp_model.specs.declared.session.Stage.TheVariants.{Idle}
use Rattle.sp_model.specs.State.{Kernel, session_at}
use Rattle.sp_model.specs.Moves.{begun}
use Rattle.sp_model.specs.Refusals.{refusal}
use Rattle.sp_model.specs.Soundness.{Sound}
use Rattle.sp_model.specs.Stepped.{Stepped, Does, IsAt}
use Rattle.sp_kernel.specs.Answers.{Answers}
use Rattle.sp_kernel.proofs.Going.{answer_keeps}
use Rattle.sp_told.proofs.Changes.{session_goes, session_comes}
use Rattle.sp_told.proofs.Commits.{own_number}
use Rattle.sp_desk.specs.declared.stalled.Stalled.{Stalled as Waiter}
use Rattle.sp_desk.specs.Committing.{Queues, Commits}
use Rattle.sp_desk.specs.Cleaning.{fault_in, Cleans}
use Rattle.sp_desk.specs.Waiting.{freed_by}
use Rattle.sp_desk.specs.Playing.{IsOver}
use Rattle.sp_desk.proofs.Each.{each_along}
use Rattle.sp_conduct.specs.Standing.{Standing, standing_with, stands_after}
use Rattle.sp_conduct.specs.Fitting.{FitsAt, BeginFits, CommandFits}
use Rattle.sp_conduct.proofs.Resting.{StandsSo, Rests, OthersRest, WaitsAt, AreWaiting, scene_in, next_begun, Leaves, KeepsOthers}
use Rattle.sp_conduct.proofs.Others.{next_kept, base_kept, others_kept, kept_rest, kept_waiting, stands_on}
use Rattle.sp_conduct.proofs.Turning.{memory_faults, refused_answer, AtRest, IsIdle, stalled_rest, rollback_out, commit_out, begin_full, begin_in, commit_stalled, rollback_goes}
use Rattle.sp_conduct.proofs.Standings.{rest_with, refused_rest, waits_apart, idle_unstaged, freed_waiting}
use Rattle.sp_conduct.proofs.Placing.{IsTold, commits_told}

begin_flush : (s : ℕ) → BeginEvent s ≡ Flush → ⊥
begin_flush s h = cc

rollback_flush : (s : ℕ) → RollbackEvent s ≡ Flush → ⊥
rollback_flush s h = cc

commit_flush : (s : ℕ) → CommitEvent s ≡ Flush → ⊥
commit_flush s h = cc

clean_flush : Clean ≡ Flush → ⊥
clean_flush h = cc

vacant : (k : Kernel) (s : ℕ) (x : Session) → session_at s k.sessions ≡ None → IsAt k s x → ⊥
vacant k s x out at = differ (sym out ∙ at)
  where
    differ : None ≡ Some x → ⊥
    differ h = cc

module _ (k : Kernel) (at : ℕ → Standing) (rests : Rests k at) (s : ℕ) where
  others : OthersRest s k at
  others v apart = rests v

  -- the session has no transaction then, and of the others nothing changed
  gone : (n : Kernel) → KeepsOthers s k n → session_at s n.sessions ≡ None → Rests n (standing_with s Standing.Out at)
  gone n keeps out = rest_with s n at Standing.Out (kept_rest s k n at keeps others) out

  -- a rollback
  abbrev Rolled : Answer → Kernel → Type 0
  Rolled answer n = (answer ≡ RolledBack) × (session_at s n.sessions ≡ None)

  rolled : (x : Session) → IsAt k s x → AtRest x.stage → (answer : Answer) (n : Kernel) → fault_in answer ≡ None → Answers k (RollbackEvent s) answer n → Rolled answer n
  rolled x here rest _ _ free (Answers.IsStepped _ _ (Stepped.IsTurnedAway answer away)) = absurd (rollback_goes k s x here rest answer free away)
  rolled x here rest _ _ free (Answers.IsStepped _ _ (Stepped.IsDone _ _ goes (Does.RollsBack _ y found))) = (refl, (session_goes s y.txn.session k.sessions (own_number k s y found)).own)
  rolled x here rest _ _ free Answers.WantsMemory = absurd (memory_faults free)
  rolled x here rest _ _ free (Answers.Fails offset flush goes some) = absurd (rollback_flush s flush)

  -- refused where there is nothing to roll back; the transaction is over then
  abbrev RollbackGoes : Standing → Answer → Kernel → Type 0
  RollbackGoes was answer n = FitsAt was (scene_in k at) s Rollback answer × Rests n (standing_with s (stands_after Rollback answer was) at) × (((answer ≡ Refused NoTxn) × (n ≡ k)) ⊎ (answer ≡ RolledBack))

  rollback_rolled : (was : Standing) (answer : Answer) (n : Kernel) → KeepsOthers s k n → Rolled answer n → Rests n (standing_with s (stands_after Rollback answer was) at)
  rollback_rolled was answer n keeps r = subst (λ (a : Answer). Rests n (standing_with s (stands_after Rollback a was) at)) (sym r.0) (gone n keeps r.1)

  rollback_by : (answer : Answer) (n : Kernel) → fault_in answer ≡ None → Answers k (RollbackEvent s) answer n → (was : Standing) → StandsSo k s was → RollbackGoes was answer n
  rollback_by answer n free h Standing.Out stands =
      let r = refused_answer k (RollbackEvent s) NoTxn answer n (rollback_flush s) (rollback_out k s stands) free h in
      (r.0, refused_rest k n at s Rollback answer NoTxn Standing.Out others stands r.0 r.1, inl r)
  rollback_by answer n free h Standing.Open stands =
      let r = rolled stands.0 stands.1 (IsIdle stands.2) answer n free h in
      (r.0, rollback_rolled Standing.Open answer n (others_kept k s (RollbackEvent s) answer n refl h) r, inr r.0)
  rollback_by answer n free h (Standing.Stalled op name mode) stands =
      let r = rolled stands.session stands.at (stalled_rest k s op name mode stands) answer n free h in
      (r.0, rollback_rolled (Standing.Stalled op name mode) answer n (others_kept k s (RollbackEvent s) answer n refl h) r, inr r.0)

  rollback_leaves : (answer : Answer) (n : Kernel) → Answers k (RollbackEvent s) answer n → Rests n (standing_with s (stands_after Rollback answer (at s)) at) → Leaves k n at s Rollback answer
  rollback_leaves answer n h stands = record { rests = stands; next = next_kept k (RollbackEvent s) answer n h; base = base_kept k (RollbackEvent s) answer n h }

  -- a commit of a session that is refused queues nothing
  module _ (why : Why) (is : refusal (CommitEvent s) (session_at s k.sessions) ≡ Some why) where
    never_queued : (m : Kernel) → Queues s k m → m ≡ k
    never_queued _ Queues.Stays = refl
    never_queued _ (Queues.Goes {m} q queued n h stores) =
        absurd (differ (refused_answer k (CommitEvent s) why Queued queued (commit_flush s) is refl (subst (λ (z : Kernel). Answers z (CommitEvent s) Queued queued) (never_queued m q) h)).0)
      where
        differ : Queued ≡ Refused why → ⊥
        differ e = cc

    commits_refused : (answer : Answer) (n : Kernel) → fault_in answer ≡ None → Commits s k answer n → (answer ≡ Refused why) × (n ≡ k)
    commits_refused answer n free c = refused_answer k (CommitEvent s) why answer n (commit_flush s) is free (subst (λ (z : Kernel). Answers z (CommitEvent s) answer n) (never_queued c.before c.queues) c.answered)

pub closing_fits : (k n : Kernel) (at : ℕ → Standing) → Sound k → Rests k at → (s : ℕ) → Answers k (RollbackEvent s) RolledBack n → (at s ≢ Standing.Out) × Leaves k n at s Rollback RolledBack
closing_fits k n at sound rests s h = (
  (λ e. differ (refused_answer k (RollbackEvent s) NoTxn RolledBack n (rollback_flush s) (rollback_out k s (subst (StandsSo k s) e (rests s))) refl h).0),
  rollback_leaves k at rests s RolledBack n h (rollback_by k at rests s RolledBack n refl h (at s) (rests s)).1,
)
  where
    differ : RolledBack ≡ Refused NoTxn → ⊥
    differ e = cc

pub over_is_out : (k : Kernel) (at : ℕ → Standing) → Rests k at → (s : ℕ) → IsOver k s → at s ≡ Standing.Out
over_is_out k at rests s over = go (at s) refl (rests s)
  where
    go : (was : Standing) → at s ≡ was → StandsSo k s was → at s ≡ Standing.Out
    go Standing.Out e stands = e
    go Standing.Open e stands = absurd (rollback_goes k s stands.0 stands.1 (IsIdle stands.2) (Refused over.why) refl over.refused)
    go (Standing.Stalled op name mode) e stands = absurd (rollback_goes k s stands.session stands.at (stalled_rest k s op name mode stands) (Refused over.why) refl over.refused)

-- what a try of a dead entry leaves
record CleansSo (k n : Kernel) : Type 0 where
  sessions : n.sessions ≡ k.sessions
  locks : n.locks ≡ k.locks
  next : n.next_txn ≡ k.next_txn
  base : n.base ≡ k.base

clean_same : (k : Kernel) (answer : Answer) (n : Kernel) → Answers k Clean answer n → CleansSo k n
clean_same k _ _ (Answers.IsStepped _ _ (Stepped.IsTurnedAway answer away)) = record { sessions = refl; locks = refl; next = refl; base = refl }
clean_same k _ _ (Answers.IsStepped _ _ (Stepped.IsDone _ _ free (Does.CleansNothing none))) = record { sessions = refl; locks = refl; next = refl; base = refl }
clean_same k _ _ (Answers.IsStepped _ _ (Stepped.IsDone _ _ free (Does.CleanIsFull number rest after dead removed unused passes))) = record { sessions = refl; locks = refl; next = refl; base = refl }
clean_same k _ _ (Answers.IsStepped _ _ (Stepped.IsDone _ _ free (Does.Cleans number rest after short removes unopposed))) = record { sessions = refl; locks = refl; next = refl; base = refl }
clean_same k _ _ (Answers.IsStepped _ _ (Stepped.IsDone _ _ free (Does.PutsOff number rest after short granule holder mode removes put))) = record { sessions = refl; locks = refl; next = refl; base = refl }
clean_same k _ _ Answers.WantsMemory = record { sessions = refl; locks = refl; next = refl; base = refl }
clean_same k _ _ (Answers.Fails offset flush free some) = record { sessions = refl; locks = refl; next = refl; base = refl }

cleans_sound : (k : Kernel) → Sound k → (count : ℕ) (n : Kernel) → Cleans k count n → Sound n
cleans_sound k sound _ _ Cleans.Stays = sound
cleans_sound k sound _ _ (Cleans.Goes {count} {m} c answer n h free) = answer_keeps m Clean answer n (cleans_sound k sound count m c) h

module _ (k : Kernel) (sound : Sound k) (at : ℕ → Standing) (rests : Rests k at) (w : List Waiter) (waiting : AreWaiting k w) where
  -- a begin of a session that has no transaction
  begin_out : (s : ℕ) (answer : Answer) (n : Kernel) → fault_in answer ≡ None → KeepsOthers s k n → session_at s k.sessions ≡ None → Answers k (BeginEvent s) answer n
      → BeginFits (scene_in k at) answer × Rests n (standing_with s (stands_after Begin answer Standing.Out) at) × AreWaiting n w
  begin_out s _ _ free keeps out (Answers.IsStepped _ _ (Stepped.IsTurnedAway answer away)) =
      let f = begin_full k s out answer free away in
      (inr f, subst (λ (a : Answer). Rests k (standing_with s (stands_after Begin a Standing.Out) at)) (sym f.1) (rest_with s k at Standing.Out (others k at rests s) out), waiting)
  begin_out s _ _ free keeps out (Answers.IsStepped _ _ (Stepped.IsDone _ _ goes (Does.Begins _))) =
      let x : Session = record { txn = record { number = k.next_txn; session = s; seen = length k.commits; ops = []; searches = [] }; stage = Idle } in (
        inl refl,
        rest_with s (begun s k) at Standing.Open (kept_rest s k (begun s k) at keeps (others k at rests s)) (x, (session_comes x k.sessions out).own, refl),
        kept_waiting s k (begun s k) w keeps (waits_apart k w waiting.each s (λ y here op point staged. vacant k s y out here)) waiting,
      )
  begin_out s _ _ free keeps out Answers.WantsMemory = absurd (memory_faults free)
  begin_out s _ _ free keeps out (Answers.Fails offset flush goes some) = absurd (begin_flush s flush)

  begin_taken : (s : ℕ) (x : Session) → IsAt k s x → AtRest x.stage → (was : Standing) → StandsSo k s was → (answer : Answer) (n : Kernel) → fault_in answer ≡ None → Answers k (BeginEvent s) answer n
      → (answer ≡ Refused InTxn) × Rests n (standing_with s (stands_after Begin answer was) at) × AreWaiting n w
  begin_taken s x here rest was stands answer n free h =
      let r = refused_answer k (BeginEvent s) InTxn answer n (begin_flush s) (begin_in k s x here rest) free h in
      (r.0, refused_rest k n at s Begin answer InTxn was (others k at rests s) stands r.0 r.1, subst (λ (z : Kernel). AreWaiting z w) (sym r.1) waiting)

  begin_by : (s : ℕ) (answer : Answer) (n : Kernel) → fault_in answer ≡ None → Answers k (BeginEvent s) answer n → (was : Standing) → StandsSo k s was
      → FitsAt was (scene_in k at) s Begin answer × Rests n (standing_with s (stands_after Begin answer was) at) × AreWaiting n w
  begin_by s answer n free h Standing.Out stands = begin_out s answer n free (others_kept k s (BeginEvent s) answer n refl h) stands h
  begin_by s answer n free h Standing.Open stands = begin_taken s stands.0 stands.1 (IsIdle stands.2) Standing.Open stands answer n free h
  begin_by s answer n free h (Standing.Stalled op name mode) stands = begin_taken s stands.session stands.at (stalled_rest k s op name mode stands) (Standing.Stalled op name mode) stands answer n free h

  pub begin_fits : (s : ℕ) (answer : Answer) (n : Kernel) → fault_in answer ≡ None → Answers k (BeginEvent s) answer n → CommandFits (scene_in k at) s Begin answer × Leaves k n at s Begin answer × AreWaiting n w
  begin_fits s answer n free h =
      let b = begin_by s answer n free h (at s) (rests s) in
      (b.0, record { rests = b.1; next = next_kept k (BeginEvent s) answer n h; base = base_kept k (BeginEvent s) answer n h }, b.2)

  freed : (s : ℕ) (answer : Answer) (n : Kernel) → KeepsOthers s k n → ((answer ≡ Refused NoTxn) × (n ≡ k)) ⊎ (answer ≡ RolledBack) → AreWaiting n (freed_by s answer w)
  freed s answer n keeps (inl r) = subst (λ (a : Answer). AreWaiting n (freed_by s a w)) (sym r.0) (subst (λ (z : Kernel). AreWaiting z w) (sym r.1) waiting)
  freed s answer n keeps (inr r) = subst (λ (a : Answer). AreWaiting n (freed_by s a w)) (sym r) (freed_waiting s k n w keeps waiting)

  pub rollback_fits : (s : ℕ) (answer : Answer) (n : Kernel) → fault_in answer ≡ None → Answers k (RollbackEvent s) answer n → CommandFits (scene_in k at) s Rollback answer × Leaves k n at s Rollback answer × AreWaiting n (freed_by s answer w)
  rollback_fits s answer n free h =
      let b = rollback_by k at rests s answer n free h (at s) (rests s) in
      (b.0, rollback_leaves k at rests s answer n h b.1, freed s answer n (others_kept k s (RollbackEvent s) answer n refl h) b.2)

  -- a commit by how the session stands
  abbrev CommitGoes : ℕ → Answer → Kernel → Standing → Type 0
  CommitGoes s answer n was = FitsAt was (scene_in k at) s Commit answer × Rests n (standing_with s (stands_after Commit answer was) at) × (n.next_txn ≡ next_begun answer k.next_txn) × (n.base ≡ k.base) × AreWaiting n w

  commit_refused : (s : ℕ) (why : Why) (was : Standing) → StandsSo k s was → (answer : Answer) (n : Kernel) → (answer ≡ Refused why) × (n ≡ k)
      → (answer ≡ Refused why) × Rests n (standing_with s (stands_after Commit answer was) at) × (n.next_txn ≡ next_begun answer k.next_txn) × (n.base ≡ k.base) × AreWaiting n w
  commit_refused s why was stands answer n r = (
    r.0,
    refused_rest k n at s Commit answer why was (others k at rests s) stands r.0 r.1,
    ap (λ (z : Kernel). z.next_txn) r.1 ∙ sym (ap (λ (a : Answer). next_begun a k.next_txn) r.0),
    ap (λ (z : Kernel). z.base) r.1,
    subst (λ (z : Kernel). AreWaiting z w) (sym r.1) waiting,
  )

  commit_told : (s : ℕ) (x : Session) → IsAt k s x → x.stage ≡ Idle → (answer : Answer) (n : Kernel) → IsTold s k answer n → CommitGoes s answer n Standing.Open
  commit_told s x here idle answer n told = (
    told.told,
    subst (λ (a : Answer). Rests n (standing_with s (stands_after Commit a Standing.Open) at)) (sym told.told) (gone k at rests s n told.others told.out),
    told.next ∙ sym (ap (λ (a : Answer). next_begun a k.next_txn) told.told),
    told.base,
    kept_waiting s k n w told.others (waits_apart k w waiting.each s (λ y found op point staged. idle_unstaged y.stage op point (ap (λ (z : Session). z.stage) (same y (sym found ∙ here)) ∙ idle) staged)) waiting,
  )
    where
      same : (y : Session) → Some y ≡ Some x → y ≡ x
      same y e = cc

  commit_by : (s : ℕ) (answer : Answer) (n : Kernel) → fault_in answer ≡ None → k.flight ++ k.queue ≡ [] → Commits s k answer n → (was : Standing) → StandsSo k s was → CommitGoes s answer n was
  commit_by s answer n free alone c Standing.Out stands = commit_refused s NoTxn Standing.Out stands answer n (commits_refused k at rests s NoTxn (commit_out k s stands) answer n free c)
  commit_by s answer n free alone c Standing.Open stands = commit_told s stands.0 stands.1 stands.2 answer n (commits_told s k stands.0 stands.1 stands.2 answer n alone free c)
  commit_by s answer n free alone c (Standing.Stalled op name mode) stands =
      commit_refused s Busy (Standing.Stalled op name mode) stands answer n (commits_refused k at rests s Busy (commit_stalled k s stands.session stands.at op stands.stage) answer n free c)

  pub commit_fits : (s : ℕ) (answer : Answer) (n : Kernel) → fault_in answer ≡ None → k.flight ++ k.queue ≡ [] → Commits s k answer n → CommandFits (scene_in k at) s Commit answer × Leaves k n at s Commit answer × AreWaiting n w
  commit_fits s answer n free alone c = let b = commit_by s answer n free alone c (at s) (rests s) in (b.0, record { rests = b.1; next = b.2; base = b.3 }, b.4)

  -- dead entries are tried
  pub clean_rests : (answer : Answer) (n : Kernel) → Answers k Clean answer n → Rests n at × AreWaiting n w × (n.next_txn ≡ k.next_txn) × (n.base ≡ k.base)
  clean_rests answer n h =
      let same = clean_same k answer n h in (
        (λ v. stands_on k n v (at v) (ap (session_at v) same.sessions) (λ r i waits of_v. subst (Among r) same.locks i) (rests v)),
        record {
          each = each_along (WaitsAt k) (WaitsAt n) (λ x a. (a.0, ap (session_at x.session) same.sessions ∙ a.1, a.2)) w waiting.each;
          once = waiting.once;
        },
        same.next,
        same.base,
      )

pub cleans_rest : (k : Kernel) → Sound k → (at : ℕ → Standing) → Rests k at → (w : List Waiter) → AreWaiting k w → (count : ℕ) (n : Kernel) → Cleans k count n → Rests n at × AreWaiting n w × (n.next_txn ≡ k.next_txn) × (n.base ≡ k.base)
cleans_rest k sound at rests w waiting _ _ Cleans.Stays = (rests, waiting, refl, refl)
cleans_rest k sound at rests w waiting _ _ (Cleans.Goes {count} {m} c answer n h free) =
    let a = cleans_rest k sound at rests w waiting count m c in
    let b = clean_rests m (cleans_sound k sound count m c) at a.0 w a.1 answer n h in
    (b.0, b.1, b.2 ∙ a.2, b.3 ∙ a.3)
