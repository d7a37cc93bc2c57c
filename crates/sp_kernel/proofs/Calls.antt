-- What a call of the disk tells of the batch, and what the kernel makes of it agrees with the journal.
use Rattle.std.proofs.Common.{◌≡◌, ℕ, zero, suc, ◌+◌, ◌<◌, ◌≤◌, cond, List, [], ◌∷◌, ◌++◌, length, Option, None, refl, sym, ap, ◌∙◌, subst, arith}
use Rattle.sp_list.specs.Emptiness.{is_empty}
use Rattle.sp_event.specs.declared.event.Event.TheVariants.{Flush}
use Rattle.sp_event.specs.declared.answer.Answer.TheVariants.{Nothing as TellsNothing, Wrote as TellsWrote, Durable as TellsDurable, DiskFault as TellsFault}
use Rattle.sp_event.specs.declared.answer.Answer.{Answer}
use Rattle.sp_model.specs.Refusals.{turned_away}
use Rattle.sp_kernel.specs.Answers.{Answers, stopped_at}
use Rattle.sp_journal.specs.declared.work.Phase.{Phase}
use Rattle.sp_journal.specs.declared.work.Phase.TheVariants.{Ready, Written, Settled, Opened, Broken}
use Rattle.sp_journal.specs.declared.work.Work.{Work}
use Rattle.sp_journal.specs.declared.types.Call.{Call}
use Rattle.sp_journal.specs.declared.types.Call.TheVariants.{Nothing, Wrote, Durable, Fault, Memory}
use Rattle.sp_journal.specs.Standing.{Answered, IsEarly, queued_after, flying_after, turned, Ledger}
use Rattle.sp_model.specs.State.{Kernel}
use Rattle.sp_model.specs.Moves.{taken_off, placed_all}
use Rattle.sp_model.specs.Removal.{IsTakenOut}
use Rattle.sp_model.specs.Stepped.{Does, Stepped}
use Rattle.sp_model.specs.Soundness.{Sound}
use Rattle.sp_model.proofs.Bare.{bare}
use Rattle.sp_durable.specs.Standing.{phase_after, phase_of, Counted, Matches}
use Rattle.sp_durable.proofs.Calling.{flush_leaves, fault_leaves}
use Rattle.sp_durable.proofs.Counting.{flush_counts, fault_counts}
use Rattle.sp_kernel.specs.Following.{MayTell, with_call, followed}

empty-length : {A : Type 0} (xs : List A) → length xs ≡ 0 → xs ≡ []
empty-length [] e = refl
empty-length (x ∷ xs) e = absurd (omega arith)

ready_calls : (calls : ℕ) → phase_after calls ≡ Ready → calls ≡ 0
ready_calls zero e = refl
ready_calls (suc zero) e = cc
ready_calls (suc (suc zero)) e = cc
ready_calls (suc (suc (suc n))) e = cc

early_calls : (calls : ℕ) → IsEarly (phase_after calls) → calls < 3
early_calls zero e = omega arith
early_calls (suc zero) e = omega arith
early_calls (suc (suc zero)) e = omega arith
early_calls (suc (suc (suc n))) e = absurd e

last_call : (calls : ℕ) → calls < 4 → phase_after calls ≡ Opened → calls ≡ 3
last_call zero few e = cc
last_call (suc zero) few e = cc
last_call (suc (suc zero)) few e = cc
last_call (suc (suc (suc n))) few e = omega arith

some-empty : {A : Type 0} (x : A) (xs : List A) → x ∷ xs ≡ [] → ⊥
some-empty x xs e = cc

joined-empty : {A : Type 0} (xs ys : List A) → xs ++ ys ≡ [] → (xs ≡ []) × (ys ≡ [])
joined-empty [] ys e = (refl, e)
joined-empty (x ∷ xs) ys e = absurd (some-empty x (xs ++ ys) e)

turned_same : (phase : Phase) (ledger : Ledger) → turned phase Nothing ledger ≡ ledger
turned_same Ready ledger = refl
turned_same Written ledger = refl
turned_same Settled ledger = refl
turned_same Opened ledger = refl
turned_same Broken ledger = refl

turned_lacking : (phase : Phase) (ledger : Ledger) → turned phase Memory ledger ≡ ledger
turned_lacking Ready ledger = refl
turned_lacking Written ledger = refl
turned_lacking Settled ledger = refl
turned_lacking Opened ledger = refl
turned_lacking Broken ledger = refl

turned_any : (phase : Phase) (m n : ℕ) (ledger : Ledger) → turned phase (Durable m) ledger ≡ turned phase (Durable n) ledger
turned_any Ready m n ledger = refl
turned_any Written m n ledger = refl
turned_any Settled m n ledger = refl
turned_any Opened m n ledger = refl
turned_any Broken m n ledger = refl

queued_any : (phase : Phase) (m n q : ℕ) → queued_after phase (Durable m) q ≡ queued_after phase (Durable n) q
queued_any Ready m n q = refl
queued_any Written m n q = refl
queued_any Settled m n q = refl
queued_any Opened m n q = refl
queued_any Broken m n q = refl

-- a call that was made is the first or a further one
pub wrote_does : (k : Kernel) → MayTell k Wrote → Does IsTakenOut k Flush TellsWrote (followed Wrote k)
wrote_does k may = go k.flight refl
  where
    go : (f : List ℕ) → k.flight ≡ f → Does IsTakenOut k Flush TellsWrote (cond (is_empty k.flight) (taken_off k) (with_call k))
    go [] e = subst (λ (f : List ℕ). Does IsTakenOut k Flush TellsWrote (cond (is_empty f) (taken_off k) (with_call k))) (sym e) (Does.TakesOff e (may.0 e))
    go (x ∷ xs) e = subst (λ (f : List ℕ). Does IsTakenOut k Flush TellsWrote (cond (is_empty f) (taken_off k) (with_call k))) (sym e) (Does.Writes (λ h. some-empty x xs (sym e ∙ h)) may.1)

-- the answers to the calls
module _ (k : Kernel) (goes : turned_away k Flush ≡ None) where
  steps : (answer : Answer) (after : Kernel) → Does IsTakenOut k Flush answer after → Answers k Flush answer after
  steps answer after does = Answers.IsStepped answer after (Stepped.IsDone answer after goes does)

  pub nothing_answers : MayTell k Nothing → Answers k Flush TellsNothing k
  nothing_answers may = steps TellsNothing k (Does.FlushesNothing may.0 may.1)

  pub wrote_answers : (after : Kernel) → MayTell k Wrote → after ≡ followed Wrote k → Answers k Flush TellsWrote after
  wrote_answers after may e = subst (Answers k Flush TellsWrote) (sym e) (steps TellsWrote (followed Wrote k) (wrote_does k may))

  pub durable_answers : (count : ℕ) (answer : Answer) (after : Kernel) → MayTell k (Durable count) → answer ≡ TellsDurable (length k.commits + 1) (length k.flight) → after ≡ placed_all k → Answers k Flush answer after
  durable_answers count answer after may told e =
      subst (Answers k Flush answer) (sym e) (subst (λ (a : Answer). Answers k Flush a (placed_all k)) (sym told) (steps (TellsDurable (length k.commits + 1) (length k.flight)) (placed_all k) (Does.IsDurable may.0 may.1)))

  pub fault_answers : (offset : ℕ) → MayTell k (Fault offset) → Answers k Flush TellsFault (stopped_at offset k)
  fault_answers offset may = Answers.Fails offset refl goes may

module _ (k : Kernel) (work work' : Work) (sound : Sound k) (counted : Counted k work) (goes : k.stopped ≡ None) where
  phase-now : work.phase ≡ phase_after k.calls
  phase-now = counted.phase ∙ ap (λ (o : Option ℕ). phase_of o k.calls) goes

  ready-now : k.flight ≡ [] → work.phase ≡ Ready
  ready-now none = phase-now ∙ ap phase_after (sound.queued.none none)

  -- the answer of a call is one that may be
  pub may_tell : (call : Call) → Answered work.phase call work work' → (work.phase ≡ Ready → work.commits ≡ 0 → call ≡ Nothing) → MayTell k call
  may_tell Nothing a idle = (none k.flight refl, empty-length k.queue (sym counted.commits ∙ a.1))
    where
      calls : k.calls ≡ 0
      calls = ready_calls k.calls (sym phase-now ∙ a.0)

      none : (f : List ℕ) → k.flight ≡ f → k.flight ≡ []
      none [] e = e
      none (x ∷ xs) e = let b = sound.queued.begun (λ h. some-empty x xs (sym e ∙ h)) in absurd (omega (arith, b, calls))
  may_tell Wrote a idle = (λ none empty. other (idle (ready-now none) (counted.commits ∙ ap length empty)), early_calls k.calls (subst IsEarly phase-now a.0))
    where
      other : Wrote ≡ Nothing → ⊥
      other e = cc
  may_tell (Durable n) a idle = (λ none. let z = sound.queued.none none in absurd (omega (arith, z, three)), three)
    where
      three : k.calls ≡ 3
      three = last_call k.calls sound.queued.calls_few (sym phase-now ∙ a.0)
  may_tell (Fault offset) a idle = λ e. let j = joined-empty k.flight k.queue e in other (idle (ready-now j.0) (counted.commits ∙ ap length j.1))
    where
      other : Fault offset ≡ Nothing → ⊥
      other e = cc
  may_tell Memory a idle = tt

  -- after the first call of a batch nothing takes off
  between : (calls : ℕ) → 1 ≤ calls → calls < 3 → flying_after (phase_after calls) Wrote work.flying work.commits ≡ work.flying
  between zero low few = absurd (omega arith)
  between (suc zero) low few = refl
  between (suc (suc zero)) low few = refl
  between (suc (suc (suc n))) low few = absurd (omega arith)

  wrote_flying : MayTell k Wrote → work'.flying ≡ flying_after work.phase Wrote work.flying work.commits → work'.flying ≡ length (followed Wrote k).flight
  wrote_flying may flying = go k.flight refl
    where
      go : (f : List ℕ) → k.flight ≡ f → work'.flying ≡ length (cond (is_empty k.flight) (taken_off k) (with_call k)).flight
      go [] e = flying ∙ ap (λ p. flying_after p Wrote work.flying work.commits) (ready-now e) ∙ counted.commits
          ∙ sym (ap (λ (f : List ℕ). length (cond (is_empty f) (taken_off k) (with_call k)).flight) e)
      go (x ∷ xs) e = flying ∙ ap (λ p. flying_after p Wrote work.flying work.commits) phase-now ∙ between k.calls (sound.queued.begun (λ h. some-empty x xs (sym e ∙ h))) may.1 ∙ counted.flying
          ∙ sym (ap (λ (f : List ℕ). length (cond (is_empty f) (taken_off k) (with_call k)).flight) e)

  -- the counts follow the call
  pub counted_after : (call : Call) → Answered work.phase call work work' → MayTell k call → work'.changes ≡ queued_after work.phase call work.changes → work'.commits ≡ queued_after work.phase call work.commits
      → work'.flying ≡ flying_after work.phase call work.flying work.commits → Counted (followed call k) work'
  counted_after Nothing a may changes commits flying = subst (Counted k) (sym a.2) counted
  counted_after Wrote a may changes commits flying = flush_counts IsTakenOut k TellsWrote (followed Wrote k) work work' (bare k sound) goes (wrote_does k may) counted a changes commits (wrote_flying may flying)
  counted_after (Durable n) a may changes commits flying =
      flush_counts IsTakenOut k (TellsDurable (length k.commits + 1) (length k.flight)) (placed_all k) work work' (bare k sound) goes (Does.IsDurable may.0 may.1) counted (a.0, sym counted.flying, a.2)
      (changes ∙ queued_any work.phase n (length k.flight) work.changes) (commits ∙ queued_any work.phase n (length k.flight) work.commits)
      (flying ∙ ap (λ p. flying_after p (Durable n) work.flying work.commits) a.0)
  counted_after (Fault offset) a may changes commits flying = fault_counts k offset work work' counted a
  counted_after Memory a may changes commits flying = subst (Counted k) (sym a) counted

  -- and so does what the disk holds
  pub matches_after : (call : Call) (ledger : Ledger) → MayTell k call → Matches k ledger → Matches (followed call k) (turned work.phase call ledger)
  matches_after Nothing ledger may same = subst (Matches k) (sym (turned_same work.phase ledger)) same
  matches_after Wrote ledger may same =
      subst (λ (p : Phase). Matches (followed Wrote k) (turned p Wrote ledger)) (sym counted.phase)
      (flush_leaves IsTakenOut k TellsWrote (followed Wrote k) ledger (bare k sound) goes (wrote_does k may) same)
  matches_after (Durable n) ledger may same =
      subst (λ (p : Phase). Matches (placed_all k) (turned p (Durable n) ledger)) (sym counted.phase)
      (subst (Matches (placed_all k)) (turned_any (phase_of k.stopped k.calls) (length k.flight) n ledger)
      (flush_leaves IsTakenOut k (TellsDurable (length k.commits + 1) (length k.flight)) (placed_all k) ledger (bare k sound) goes (Does.IsDurable may.0 may.1) same))
  matches_after (Fault offset) ledger may same =
      subst (λ (p : Phase). Matches (followed (Fault offset) k) (turned p (Fault offset) ledger)) (sym counted.phase) (fault_leaves k offset ledger same)
  matches_after Memory ledger may same = subst (Matches k) (sym (turned_lacking work.phase ledger)) same
