-- What an operation, event by event, leaves of what was told of transactions.
use Rattle.std.proofs.Common.{◌≡◌, ◌≢◌, ℕ, zero, suc, Bool, true, false, cond, nat_eq, List, [], ◌∷◌, None, Some, refl, sym, ap, ◌∙◌, subst, arith}
use Rattle.std.proofs.lemmas.Bool.Decides.{nat_tests}
use Rattle.sp_rect.specs.declared.operation.Op.{Op}
use Rattle.sp_rect.specs.declared.commit.Commit.{Commit}
use Rattle.sp_event.specs.declared.event.Event.TheVariants.{Start, Apply, Commit as AskCommit, Flush}
use Rattle.sp_event.specs.declared.answer.Answer.{Answer}
use Rattle.sp_event.specs.declared.answer.Answer.TheVariants.{Started as IsStarted, Granted, Planned as IsPlanned, Memory, DiskFault}
use Rattle.sp_text.specs.declared.types.Command.TheVariants.{Do}
use Rattle.sp_text.specs.Transcripts.{Ledger, last_started, noted, stepped_to}
use Rattle.sp_model.specs.declared.session.Session.{Session}
use Rattle.sp_model.specs.declared.session.Stage.TheVariants.{Idle}
use Rattle.sp_model.specs.State.{Kernel}
use Rattle.sp_model.specs.Stepped.{Stepped, Does, IsAt}
use Rattle.sp_model.proofs.Sessions.{number-same}
use Rattle.sp_model.proofs.Turned.{may_start}
use Rattle.sp_kernel.specs.Answers.{Answers}
use Rattle.sp_kernel.proofs.Going.{answer_keeps}
use Rattle.sp_told.specs.Telling.{IsOf, DoesNoOther, TellsStarted}
use Rattle.sp_told.proofs.Agreeing.{answers_commits, answers_started, operation_commits}
use Rattle.sp_told.proofs.Quiet.{IsQuiet, noted_quiet, turned_quiet}
use Rattle.sp_desk.specs.declared.point.Point.{Point}
use Rattle.sp_desk.specs.declared.point.Point.TheVariants.{Object, Plan, Locks}
use Rattle.sp_desk.specs.Points.{event_at, next_after}
use Rattle.sp_desk.specs.Working.{Reaches, Proceeds}
use Rattle.sp_desk.proofs.Batches.{batch, answers_batch}
use Rattle.sp_desk.proofs.Reporting.{Agrees, started_on}

one_op : (a b : Op) → Some a ≡ Some b → a ≡ b
one_op a b h = cc

never : (next : Point) → None ≡ Some next → ⊥
never next h = cc

-- an answer by which an operation goes on tells nothing
goes_same : (l : Ledger) (s : ℕ) (op : Op) (point : Point) (answer : Answer) (next : Point) → next_after point answer ≡ Some next → noted l s (Do op) answer ≡ l
goes_same l s op Object Granted next e = refl
goes_same l s op Plan (IsPlanned count) next e = refl
goes_same l s op (Locks (suc left)) Granted next e = refl
goes_same l s op point answer next e = absurd (never next e)

module _ (s : ℕ) where
  is_of : (op : Op) (point : Point) → IsOf s op (event_at s point)
  is_of op Object = refl
  is_of op Plan = refl
  is_of op (Locks zero) = refl
  is_of op (Locks (suc left)) = refl

  not_flush : (point : Point) → event_at s point ≡ Flush → ⊥
  not_flush Object h = cc
  not_flush Plan h = cc
  not_flush (Locks zero) h = cc
  not_flush (Locks (suc left)) h = cc

  not_start : (point : Point) (t : ℕ) (op : Op) → event_at s point ≡ Start t op → ⊥
  not_start Object t op h = cc
  not_start Plan t op h = cc
  not_start (Locks zero) t op h = cc
  not_start (Locks (suc left)) t op h = cc

  not_commit : (point : Point) (t : ℕ) → event_at s point ≡ AskCommit t → ⊥
  not_commit Object t h = cc
  not_commit Plan t h = cc
  not_commit (Locks zero) t h = cc
  not_commit (Locks (suc left)) t h = cc

-- an operation under way, which is known
module _ (before : List Commit) (l known : Ledger) (s : ℕ) (op : Op) (mine : last_started s known.started ≡ Some op) where
  no_other : (m : Kernel) → TellsStarted known m → DoesNoOther m s op
  no_other m t x other at under = one_op other op (sym (t.last s x other at under) ∙ mine)

  point_told : (point : Point) (m : Kernel) (answer : Answer) (n : Kernel) → Agrees before l known m [] → Answers m (event_at s point) answer n → Agrees before (noted l s (Do op) answer) known n [] × (batch n ≡ batch m)
  point_told point m answer n a h = (
    record {
      sound = answer_keeps m (event_at s point) answer n a.sound h;
      commits = operation_commits before l m [] a.commits op s (event_at s point) answer n (is_of s op point) (no_other m a.started) h;
      started = started_on before l known m (event_at s point) answer n (not_start s point) a.sound a.started h;
    },
    answers_batch m (event_at s point) answer n (not_flush s point) (λ t is queued. not_commit s point t is) h,
  )

  reaches_told : (from : Point) (k : Kernel) (point : Point) (n : Kernel) → Reaches s from k point n → Agrees before l known k [] → batch k ≡ [] → Agrees before l known n [] × (batch n ≡ [])
  reaches_told from k _ _ Reaches.Stays a alone = (a, alone)
  reaches_told from k _ _ (Reaches.Goes {point} {m} r answer next n h e) a alone =
      let p = reaches_told from k point m r a alone in
      let q = point_told point m answer n p.0 h in
      (subst (λ (x : Ledger). Agrees before x known n []) (goes_same l s op point answer next e) q.0, q.1 ∙ p.1)

  -- it goes on to its answer, which is told
  pub proceeds_told : (from : Point) (k : Kernel) (answer : Answer) (at : Point) (n : Kernel) → Proceeds s from k answer at n → Agrees before l known k [] → batch k ≡ [] → Agrees before (noted l s (Do op) answer) known n [] × (batch n ≡ [])
  proceeds_told from k answer at n c a alone =
      let p = reaches_told from k at c.before c.reaches a alone in
      let q = point_told at c.before answer n p.0 c.answered in
      (q.0, q.1 ∙ p.1)

abbrev is_started : Answer → Bool
is_started IsStarted = true
is_started answer = false

quiet_unstarted : (answer : Answer) → IsQuiet answer → is_started answer ≡ false
quiet_unstarted _ (IsQuiet.Stops offset) = refl
quiet_unstarted _ (IsQuiet.Refuses why) = refl
quiet_unstarted _ (IsQuiet.IsFull kind) = refl
quiet_unstarted _ (IsQuiet.WaitsStill name) = refl
quiet_unstarted _ (IsQuiet.IsLatched holder) = refl
quiet_unstarted _ IsQuiet.Lacks = refl
quiet_unstarted _ IsQuiet.Faults = refl

not_started : (answer : Answer) → is_started answer ≡ false → answer ≡ IsStarted → ⊥
not_started answer e h = differ (sym (ap is_started h) ∙ e)
  where
    differ : true ≡ false → ⊥
    differ f = cc

module _ (m : Kernel) (s : ℕ) (op : Op) where
  start_not_flush : Start s op ≡ Flush → ⊥
  start_not_flush h = cc

  start_not_commit : (t : ℕ) → Start s op ≡ AskCommit t → ⊥
  start_not_commit t h = cc

  start_not_apply : (t : ℕ) → Start s op ≡ Apply t → ⊥
  start_not_apply t h = cc

  pub refused_quiet : (answer : Answer) (n : Kernel) → answer ≢ IsStarted → Answers m (Start s op) answer n → IsQuiet answer × (n ≡ m)
  refused_quiet _ _ other (Answers.IsStepped _ _ (Stepped.IsTurnedAway answer away)) = (turned_quiet m (Start s op) answer away, refl)
  refused_quiet _ _ other (Answers.IsStepped _ _ (Stepped.IsDone _ _ free (Does.Starts _ x _ at in_space))) = absurd (other refl)
  refused_quiet _ _ other Answers.WantsMemory = (IsQuiet.Lacks, refl)
  refused_quiet _ _ other (Answers.Fails offset flush free some) = absurd (start_not_flush flush)

  -- a start that is refused
  pub refused_told : (before : List Commit) (l known : Ledger) (answer : Answer) (n : Kernel) → answer ≢ IsStarted → Answers m (Start s op) answer n → Agrees before l known m [] → batch m ≡ [] → Agrees before (noted l s (Do op) answer) known n [] × (batch n ≡ [])
  refused_told before l known answer n other h a alone =
      let q = refused_quiet answer n other h in (
        subst (λ (k : Kernel). Agrees before (noted l s (Do op) answer) known k []) (sym q.1) (subst (λ (x : Ledger). Agrees before x known m []) (sym (noted_quiet l s op answer q.0)) a),
        ap batch q.1 ∙ alone,
      )

  -- the session that starts an operation was idle
  pub starts_idle : (answer : Answer) (n : Kernel) → answer ≡ IsStarted → Answers m (Start s op) answer n → (x : Session) × IsAt m s x × (x.stage ≡ Idle)
  starts_idle _ _ is (Answers.IsStepped _ _ (Stepped.IsTurnedAway answer away)) = absurd (not_started answer (quiet_unstarted answer (turned_quiet m (Start s op) answer away)) is)
  starts_idle _ _ is (Answers.IsStepped _ _ (Stepped.IsDone _ _ free (Does.Starts _ x _ at in_space))) = (x, at, (may_start m s op x at free).idle)
  starts_idle _ _ is Answers.WantsMemory = absurd (not_started Memory refl is)
  starts_idle _ _ is (Answers.Fails offset flush free some) = absurd (not_started DiskFault refl is)

  -- an operation is started, and known from then on
  pub started_told : (before : List Commit) (l known : Ledger) (n : Kernel) → Answers m (Start s op) IsStarted n → Agrees before l known m [] → batch m ≡ [] → Agrees before l (stepped_to known (Start s op) IsStarted) n [] × (batch n ≡ [])
  started_told before l known n h a alone =
      let t = answers_commits before l m a.commits (Start s op) IsStarted n a.sound (λ t x other is at under. absurd (start_not_apply t is)) h in (
        record {
          sound = answer_keeps m (Start s op) IsStarted n a.sound h;
          commits = record { late = t.late; sessions = t.sessions; once = t.once; placed = t.placed; commits = t.commits; pending = t.pending };
          started = answers_started known m a.started (Start s op) IsStarted n a.sound h;
        },
        answers_batch m (Start s op) IsStarted n start_not_flush (λ t is queued. start_not_commit t is) h ∙ alone,
      )

pub started_own : (known : Ledger) (s : ℕ) (op : Op) → last_started s (record { session = s; op = op } ∷ known.started) ≡ Some op
started_own known s op = rw (self s) refl
  where
    self : (n : ℕ) → nat_eq n n ≡ true
    self n = grind (arith, nat_tests)

pub started_other : (known : Ledger) (s t : ℕ) (op : Op) → (s ≡ t → ⊥) → last_started t (record { session = s; op = op } ∷ known.started) ≡ last_started t known.started
started_other known s t op apart = by_test (nat_eq s t) refl
  where
    by_test : (b : Bool) → nat_eq s t ≡ b → last_started t (record { session = s; op = op } ∷ known.started) ≡ last_started t known.started
    by_test true e = absurd (apart (number-same s t e))
    by_test false e = ap (λ (c : Bool). cond c (Some op) (last_started t known.started)) e
