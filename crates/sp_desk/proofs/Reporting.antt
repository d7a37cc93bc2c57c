-- What events leave of the agreement between what was told of transactions and what the kernel keeps.
use Rattle.std.proofs.Common.{◌≡◌, ◌≢◌, ◌⊎◌, ℕ, List, [], ◌∷◌, Option, None, Some, refl, sym, ap, ◌∙◌, subst, inl, inr}
use Rattle.sp_rect.specs.declared.operation.Op.{Op}
use Rattle.sp_rect.specs.declared.operation.Reply.{Reply}
use Rattle.sp_rect.specs.declared.commit.Commit.{Commit}
use Rattle.sp_event.specs.declared.event.Event.{Event}
use Rattle.sp_event.specs.declared.event.Event.TheVariants.{Begin, Start, Name, Plan, Ask, Apply, Commit as AskCommit, Flush, Rollback, Clean}
use Rattle.sp_event.specs.declared.answer.Answer.{Answer}
use Rattle.sp_event.specs.declared.answer.Answer.TheVariants.{Began, Reply as Replied, Committed, Queued, RolledBack, Deadlock, Wrote, Durable, Memory}
use Rattle.sp_lines.specs.declared.fault.Fault.{Fault}
use Rattle.sp_text.specs.declared.types.Command.TheVariants.{Begin as BeginIt, Commit as CommitIt, Rollback as RollbackIt}
use Rattle.sp_text.specs.Transcripts.{Ledger, last_started, applied, noted, stepped_to}
use Rattle.sp_model.specs.State.{Kernel}
use Rattle.sp_model.specs.Soundness.{Sound}
use Rattle.sp_model.specs.Stepped.{Stepped}
use Rattle.sp_kernel.specs.Answers.{Answers}
use Rattle.sp_kernel.proofs.Going.{answer_keeps}
use Rattle.sp_told.specs.Telling.{owed, TellsCommits, TellsStarted}
use Rattle.sp_told.proofs.Agreeing.{answers_commits, answers_started, late_commits}
use Rattle.sp_told.proofs.Owing.{none_owed}
use Rattle.sp_told.proofs.Quiet.{owed_quiet, turned_quiet}
use Rattle.sp_told.proofs.Starting.{started_same}
use Rattle.sp_model.specs.Removal.{IsTakenOut}
use Rattle.sp_desk.specs.Cleaning.{fault_in}
use Rattle.sp_desk.specs.Committing.{Writes, Stores, Queues, Commits}
use Rattle.sp_desk.proofs.Batches.{batch, answers_batch, commit_joins, write_keeps, durable_one}

begin_same : (l : Ledger) (s : ℕ) (answer : Answer) → (noted l s BeginIt answer).started ≡ l.started
begin_same l s (Began txn seen) = refl
begin_same l s (Committed place) = refl
begin_same l s RolledBack = refl
begin_same l s (Deadlock cycle) = refl
begin_same l s answer = refl

commit_same : (l : Ledger) (s : ℕ) (answer : Answer) → (noted l s CommitIt answer).started ≡ l.started
commit_same l s (Began txn seen) = refl
commit_same l s (Committed place) = refl
commit_same l s RolledBack = refl
commit_same l s (Deadlock cycle) = refl
commit_same l s answer = refl

rollback_same : (l : Ledger) (s : ℕ) (answer : Answer) → (noted l s RollbackIt answer).started ≡ l.started
rollback_same l s (Began txn seen) = refl
rollback_same l s (Committed place) = refl
rollback_same l s RolledBack = refl
rollback_same l s (Deadlock cycle) = refl
rollback_same l s answer = refl

applied_same : (l : Ledger) (s : ℕ) (o : Option Op) (reply : Reply) → (applied l s o reply).started ≡ l.started
applied_same l s None reply = refl
applied_same l s (Some op) reply = refl

-- only a start tells of an operation
stepped_same : (l : Ledger) (event : Event) (answer : Answer) → ((s : ℕ) (op : Op) → event ≡ Start s op → ⊥) → (stepped_to l event answer).started ≡ l.started
stepped_same l (Begin s) answer other = begin_same l s answer
stepped_same l (Start s op) answer other = absurd (other s op refl)
stepped_same l (Name s) (Deadlock cycle) other = refl
stepped_same l (Name s) answer other = refl
stepped_same l (Plan s) answer other = refl
stepped_same l (Ask s) (Deadlock cycle) other = refl
stepped_same l (Ask s) answer other = refl
stepped_same l (Apply s) (Replied reply) other = applied_same l s (last_started s l.started) reply
stepped_same l (Apply s) answer other = refl
stepped_same l (AskCommit s) answer other = commit_same l s answer
stepped_same l (Rollback s) answer other = rollback_same l s answer
stepped_same l Flush answer other = refl
stepped_same l Clean answer other = refl

-- after any event but a flush no place is to be told
owed_none : (m : Kernel) (event : Event) (answer : Answer) (n : Kernel) → event ≢ Flush → Answers m event answer n → owed m answer ≡ []
owed_none m event _ _ other (Answers.IsStepped _ _ (Stepped.IsTurnedAway answer away)) = owed_quiet m answer (turned_quiet m event answer away)
owed_none m event _ _ other (Answers.IsStepped _ _ (Stepped.IsDone answer n free does)) = none_owed IsTakenOut m event answer n other does
owed_none m event _ _ other Answers.WantsMemory = refl
owed_none m event _ _ other (Answers.Fails offset flush free some) = refl

-- a sound kernel, whose commits were told but for those of these sessions, and of whose operations under way it is known which they are
pub record Agrees (before : List Commit) (l known : Ledger) (m : Kernel) (owing : List ℕ) : Type 0 where
  pub sound : Sound m
  pub commits : TellsCommits before l m owing
  pub started : TellsStarted known m

module _ (before : List Commit) (l known : Ledger) where
  pub started_on : (m : Kernel) (event : Event) (answer : Answer) (n : Kernel) → ((s : ℕ) (op : Op) → event ≡ Start s op → ⊥) → Sound m → TellsStarted known m → Answers m event answer n → TellsStarted known n
  started_on m event answer n other sound t h =
      started_same (stepped_to known event answer) known n n refl (sym (stepped_same known event answer other)) (answers_started known m t event answer n sound h)

  -- an event that is none of an operation, and no flush
  pub other_told : (m : Kernel) (event : Event) (answer : Answer) (n : Kernel) → event ≢ Flush → ((s : ℕ) (op : Op) → event ≡ Start s op → ⊥) → ((s : ℕ) → event ≡ Apply s → ⊥)
      → Agrees before l known m [] → Answers m event answer n → Agrees before (stepped_to l event answer) known n []
  other_told m event answer n flush start apply a h = record {
    sound = answer_keeps m event answer n a.sound h;
    commits = subst (TellsCommits before (stepped_to l event answer) n) (owed_none m event answer n flush h)
        (answers_commits before l m a.commits event answer n a.sound (λ s x op is at under. absurd (apply s is)) h);
    started = started_on m event answer n start a.sound a.started h;
  }

  no_start : (s : ℕ) (op : Op) → Flush ≡ Start s op → ⊥
  no_start s op h = cc

  no_apply : (s : ℕ) → Flush ≡ Apply s → ⊥
  no_apply s h = cc

  flush_told : (m : Kernel) (answer : Answer) (n : Kernel) → Agrees before l known m [] → Answers m Flush answer n → Agrees before l known n (owed m answer)
  flush_told m answer n a h = record {
    sound = answer_keeps m Flush answer n a.sound h;
    commits = answers_commits before l m a.commits Flush answer n a.sound (λ s x op is at under. absurd (no_apply s is)) h;
    started = started_on m Flush answer n no_start a.sound a.started h;
  }

  -- the commit of a session, where nobody else's waits
  module _ (s : ℕ) where
    writes_told : (k m : Kernel) → Writes k m → Agrees before l known k [] → (batch k ≡ []) ⊎ (batch k ≡ s ∷ []) → Agrees before l known m [] × ((batch m ≡ []) ⊎ (batch m ≡ s ∷ []))
    writes_told k _ Writes.Stays a few = (a, few)
    writes_told k _ (Writes.Goes {m} w n h) a few =
        let p = writes_told k m w a few in
        (flush_told m Wrote n p.0 h, subst (λ (b : List ℕ). (b ≡ []) ⊎ (b ≡ s ∷ [])) (sym (write_keeps m Wrote n refl h)) p.1)

    stores_told : (k n : Kernel) → Stores k n → Agrees before l known k [] → (batch k ≡ []) ⊎ (batch k ≡ s ∷ []) → Agrees before l known n (s ∷ []) × (batch n ≡ [])
    stores_told k n stores a few =
        let p = writes_told k stores.before stores.writes a few in
        let d = durable_one stores.before s p.1 (Durable stores.first stores.count) n stores.first stores.count refl stores.durable in
        (subst (Agrees before l known n) d.0 (flush_told stores.before (Durable stores.first stores.count) n p.0 stores.durable), d.1)

    commit_not_flush : AskCommit s ≡ Flush → ⊥
    commit_not_flush h = cc

    commit_no_start : (t : ℕ) (op : Op) → AskCommit s ≡ Start t op → ⊥
    commit_no_start t op h = cc

    commit_no_apply : (t : ℕ) → AskCommit s ≡ Apply t → ⊥
    commit_no_apply t h = cc

    commit_told : (m : Kernel) (answer : Answer) (n : Kernel) → answer ≢ Memory → Agrees before l known m [] ⊎ Agrees before l known m (s ∷ []) → Answers m (AskCommit s) answer n → Agrees before (noted l s CommitIt answer) known n []
    commit_told m answer n some (inl a) h = other_told m (AskCommit s) answer n commit_not_flush commit_no_start commit_no_apply a h
    commit_told m answer n some (inr a) h = record {
      sound = answer_keeps m (AskCommit s) answer n a.sound h;
      commits = late_commits before l m s [] answer n a.commits some h;
      started = started_on m (AskCommit s) answer n commit_no_start a.sound a.started h;
    }

    queued_some : Queued ≡ Memory → ⊥
    queued_some h = cc

    queues_told : (k n : Kernel) → Queues s k n → Agrees before l known k [] → batch k ≡ [] → (Agrees before l known n [] ⊎ Agrees before l known n (s ∷ [])) × (batch n ≡ [])
    queues_told k _ Queues.Stays a alone = (inl a, alone)
    queues_told k _ (Queues.Goes {m} q queued n h stores) a alone =
        let w = queues_told k m q a alone in
        let p = stores_told queued n stores (commit_told m Queued queued queued_some w.0 h) (commit_joins m s Queued queued w.1 h) in
        (inr p.0, p.1)

    free_some : (answer : Answer) → fault_in answer ≡ None → answer ≡ Memory → ⊥
    free_some answer free e = differ (sym (ap fault_in e) ∙ free)
      where
        differ : Some Fault.Memory ≡ None → ⊥
        differ h = cc

    pub commits_told : (k : Kernel) (answer : Answer) (n : Kernel) → Commits s k answer n → fault_in answer ≡ None → Agrees before l known k [] → batch k ≡ [] → Agrees before (noted l s CommitIt answer) known n [] × (batch n ≡ [])
    commits_told k answer n c free a alone =
        let w = queues_told k c.before c.queues a alone in
        (commit_told c.before answer n (free_some answer free) w.0 c.answered, answers_batch c.before (AskCommit s) answer n commit_not_flush (λ t is queued. c.over queued) c.answered ∙ w.1)
