-- What a script has told of transactions is what the kernel that it leads to keeps.
use Rattle.std.proofs.Common.{◌≡◌, ℕ, zero, suc, true, false, List, [], ◌∷◌, ◌++◌, Option, None, Some, refl, sym, ap, ◌∙◌, subst}
use Rattle.std.proofs.lemmas.List.Sums.{fold-append}
use Rattle.std.specs.List.{remove}
use Rattle.sp_rect.specs.declared.operation.Op.{Op}
use Rattle.sp_rect.specs.declared.commit.Commit.{Commit}
use Rattle.sp_event.specs.declared.event.Event.{Event}
use Rattle.sp_event.specs.declared.event.Event.TheVariants.{Begin, Start, Name, Plan as AskPlan, Ask, Apply, Commit as AskCommit, Flush, Rollback, Clean}
use Rattle.sp_event.specs.declared.answer.Answer.{Answer}
use Rattle.sp_event.specs.declared.answer.Answer.TheVariants.{Started as IsStarted, Waits, RolledBack}
use Rattle.sp_text.specs.declared.types.Command.{Command}
use Rattle.sp_text.specs.declared.types.Command.TheVariants.{Do, Rollback as RollbackIt}
use Rattle.sp_text.specs.declared.types.Item.{Item}
use Rattle.sp_text.specs.declared.types.Item.TheVariants.{Bad, Told}
use Rattle.sp_text.specs.declared.types.End.{End}
use Rattle.sp_text.specs.declared.types.End.TheVariants.{Input, Usage, ReadFault, WriteFault, DiskFault, Foreign, Damaged, Memory as OutOfMemory, Long}
use Rattle.sp_text.specs.Transcripts.{Ledger, last_started, ledger, note, noted, stepped_to}
use Rattle.sp_model.specs.declared.session.Session.{Session}
use Rattle.sp_model.specs.declared.session.Stage.{Stage}
use Rattle.sp_model.specs.declared.session.Stage.TheVariants.{Idle}
use Rattle.sp_model.specs.State.{Kernel, session_at}
use Rattle.sp_model.specs.Refusals.{first_of, stops, refusal, refused, name_refused, plan_refused, ask_refused, apply_refused, full, still, latched}
use Rattle.sp_model.specs.Soundness.{Sound}
use Rattle.sp_model.specs.Stepped.{Stepped, Does as StepDoes}
use Rattle.sp_kernel.specs.Answers.{Answers}
use Rattle.sp_told.proofs.Agreeing.{nothing_told, all_told}
use Rattle.sp_told.proofs.Quiet.{IsQuiet}
use Rattle.sp_desk.specs.declared.point.Point.{Point}
use Rattle.sp_desk.specs.declared.point.Point.TheVariants.{Object, Plan, Locks}
use Rattle.sp_desk.specs.declared.stalled.Stalled.{Stalled}
use Rattle.sp_desk.specs.Points.{event_at}
use Rattle.sp_desk.specs.Working.{Operates}
use Rattle.sp_desk.specs.Cleaning.{fault_in, Cleans}
use Rattle.sp_desk.specs.Waiting.{says_still, still_waits, AllWait, stalled_by, freed_by}
use Rattle.sp_desk.specs.Playing.{Turn, Plays, Does}
use Rattle.sp_desk.specs.Script.{PlaysUpTo, PlaysTo}
use Rattle.sp_desk.specs.Telling.{TellsAll, ToldBy}
use Rattle.sp_desk.proofs.Batches.{batch, answers_batch, none_batch}
use Rattle.sp_desk.proofs.Each.{Each, each_append, each_remove, each_filter, each_at, each_by}
use Rattle.sp_desk.proofs.Reporting.{Agrees, other_told, commits_told}
use Rattle.sp_desk.proofs.Handling.{proceeds_told, refused_told, refused_quiet, starts_idle, started_told, started_own, started_other}

-- the session has no transaction that is idle
abbrev pub IsBusy : List Session → ℕ → Type 0
IsBusy xs t = (y : Session) → session_at t xs ≡ Some y → y.stage ≡ Idle → ⊥

-- an idle session waits nowhere
idle_point : (t : ℕ) (point : Point) (o : Option ℕ) (y : Session) (rest : List (Option Answer)) → y.stage ≡ Idle → says_still (first_of (stops o (event_at t point) (Some y) ∷ refused (refusal (event_at t point) (Some y)) ∷ rest)) ≡ false
idle_point t Object None y rest e = ap (λ (stage : Stage). says_still (first_of (refused (name_refused stage) ∷ rest))) e
idle_point t Object (Some offset) y rest e = refl
idle_point t Plan None y rest e = ap (λ (stage : Stage). says_still (first_of (refused (plan_refused stage) ∷ rest))) e
idle_point t Plan (Some offset) y rest e = refl
idle_point t (Locks zero) None y rest e = ap (λ (stage : Stage). says_still (first_of (refused (apply_refused stage) ∷ rest))) e
idle_point t (Locks zero) (Some offset) y rest e = refl
idle_point t (Locks (suc left)) None y rest e = ap (λ (stage : Stage). says_still (first_of (refused (ask_refused stage) ∷ rest))) e
idle_point t (Locks (suc left)) (Some offset) y rest e = refl

-- the answer to an event that is turned away, by the session
abbrev away : Kernel → Event → Option Session → Option Answer
away m event o = first_of (stops m.stopped event o ∷ refused (refusal event o) ∷ full event o m ∷ still event m.locks ∷ latched event o m.sessions ∷ [])

idle_awake : (m : Kernel) (t : ℕ) (point : Point) (y : Session) → session_at t m.sessions ≡ Some y → y.stage ≡ Idle → still_waits m t point ≡ false
idle_awake m t Object y at e = ap (λ (o : Option Session). says_still (away m (Name t) o)) at ∙ idle_point t Object m.stopped y _ e
idle_awake m t Plan y at e = ap (λ (o : Option Session). says_still (away m (AskPlan t) o)) at ∙ idle_point t Plan m.stopped y _ e
idle_awake m t (Locks zero) y at e = ap (λ (o : Option Session). says_still (away m (Apply t) o)) at ∙ idle_point t (Locks zero) m.stopped y _ e
idle_awake m t (Locks (suc left)) y at e = ap (λ (o : Option Session). says_still (away m (Ask t) o)) at ∙ idle_point t (Locks (suc left)) m.stopped y _ e

busy_all : (m : Kernel) (w : List Stalled) → AllWait m w → Each (λ x. IsBusy m.sessions x.session) w
busy_all m w wait = each_by (λ x. IsBusy m.sessions x.session) w (λ i x found y at idle. differ (sym (wait i x found) ∙ idle_awake m x.session x.point y at idle))
  where
    differ : true ≡ false → ⊥
    differ h = cc

pub clean_sessions : (m : Kernel) (answer : Answer) (n : Kernel) → Answers m Clean answer n → n.sessions ≡ m.sessions
clean_sessions m _ _ (Answers.IsStepped _ _ (Stepped.IsTurnedAway answer turned)) = refl
clean_sessions m _ _ (Answers.IsStepped _ _ (Stepped.IsDone _ _ free (StepDoes.CleansNothing none))) = refl
clean_sessions m _ _ (Answers.IsStepped _ _ (Stepped.IsDone _ _ free (StepDoes.CleanIsFull number rest after dead removed unused passes))) = refl
clean_sessions m _ _ (Answers.IsStepped _ _ (Stepped.IsDone _ _ free (StepDoes.Cleans number rest after short removes unopposed))) = refl
clean_sessions m _ _ (Answers.IsStepped _ _ (Stepped.IsDone _ _ free (StepDoes.PutsOff number rest after short granule holder mode removes put))) = refl
clean_sessions m _ _ Answers.WantsMemory = refl
clean_sessions m _ _ (Answers.Fails offset flush free some) = refl

-- which events these are
clean_flush : Clean ≡ Flush → ⊥
clean_flush h = cc

clean_start : (s : ℕ) (op : Op) → Clean ≡ Start s op → ⊥
clean_start s op h = cc

clean_apply : (s : ℕ) → Clean ≡ Apply s → ⊥
clean_apply s h = cc

clean_commit : (s : ℕ) → Clean ≡ AskCommit s → ⊥
clean_commit s h = cc

begin_flush : (s : ℕ) → Begin s ≡ Flush → ⊥
begin_flush s h = cc

begin_start : (s t : ℕ) (op : Op) → Begin s ≡ Start t op → ⊥
begin_start s t op h = cc

begin_apply : (s t : ℕ) → Begin s ≡ Apply t → ⊥
begin_apply s t h = cc

begin_commit : (s t : ℕ) → Begin s ≡ AskCommit t → ⊥
begin_commit s t h = cc

rollback_flush : (s : ℕ) → Rollback s ≡ Flush → ⊥
rollback_flush s h = cc

rollback_start : (s t : ℕ) (op : Op) → Rollback s ≡ Start t op → ⊥
rollback_start s t op h = cc

rollback_apply : (s t : ℕ) → Rollback s ≡ Apply t → ⊥
rollback_apply s t h = cc

rollback_commit : (s t : ℕ) → Rollback s ≡ AskCommit t → ⊥
rollback_commit s t h = cc

cleans_told : (before : List Commit) (l known : Ledger) (k : Kernel) (count : ℕ) (n : Kernel) → Cleans k count n → Agrees before l known k [] → batch k ≡ [] → Agrees before l known n [] × (batch n ≡ []) × (n.sessions ≡ k.sessions)
cleans_told before l known k _ _ Cleans.Stays a alone = (a, alone, refl)
cleans_told before l known k _ _ (Cleans.Goes {count} {m} c answer n h free) a alone =
    let p = cleans_told before l known k count m c a alone in (
      other_told before l known m Clean answer n clean_flush clean_start clean_apply p.0 h,
      answers_batch m Clean answer n clean_flush (λ t is queued. clean_commit t is) h ∙ p.1,
      clean_sessions m answer n h ∙ p.2,
    )

-- the operation that waits is the one that its session started last
abbrev pub IsKnown : Ledger → Stalled → Type 0
IsKnown known x = last_started x.session known.started ≡ Some x.op

-- After some items: what was told agrees with the kernel, no commit waits for its place, and the operations that wait are known. Where a line is to be heard, their sessions are not idle.
pub record Stands (before : List Commit) (l : Ledger) (m : Kernel) (w : List Stalled) (turn : Turn) : Type 0 where
  pub known : Ledger
  pub agrees : Agrees before l known m []
  pub alone : batch m ≡ []
  pub each : Each (IsKnown known) w
  pub busy : turn ≡ Turn.Hearing → Each (λ x. IsBusy m.sessions x.session) w

not_hearing : Turn.GoingOn ≡ Turn.Hearing → ⊥
not_hearing h = cc

not_open : Turn.Closing ≡ Turn.Hearing → ⊥
not_open h = cc

stalled_known : (known : Ledger) (s : ℕ) (op : Op) (answer : Answer) (at : Point) → last_started s known.started ≡ Some op → Each (IsKnown known) (stalled_by s op answer at)
stalled_known known s op (Waits name mode sessions) at mine = (mine, tt)
stalled_known known s op answer at mine = tt

stalled_quiet : (P : Stalled → Type 0) (s : ℕ) (op : Op) (answer : Answer) (at : Point) → IsQuiet answer → Each P (stalled_by s op answer at)
stalled_quiet P s op _ at (IsQuiet.Stops offset) = tt
stalled_quiet P s op _ at (IsQuiet.Refuses why) = tt
stalled_quiet P s op _ at (IsQuiet.IsFull kind) = tt
stalled_quiet P s op _ at (IsQuiet.WaitsStill name) = tt
stalled_quiet P s op _ at (IsQuiet.IsLatched holder) = tt
stalled_quiet P s op _ at IsQuiet.Lacks = tt
stalled_quiet P s op _ at IsQuiet.Faults = tt

freed_each : (P : Stalled → Type 0) (s : ℕ) (answer : Answer) (w : List Stalled) → Each P w → Each P (freed_by s answer w)
freed_each P s RolledBack w a = each_filter P _ w a
freed_each P s answer w a = a

-- a session that starts an operation is none of those that wait
known_on : (known : Ledger) (m : Kernel) (s : ℕ) (op : Op) (n : Kernel) → Answers m (Start s op) IsStarted n → (w : List Stalled) → Each (IsKnown known) w → Each (λ x. IsBusy m.sessions x.session) w → Each (IsKnown (stepped_to known (Start s op) IsStarted)) w
known_on known m s op n h [] a b = tt
known_on known m s op n h (x ∷ w) a b =
    let y = starts_idle m s op IsStarted n refl h in
    (started_other known s x.session op (λ e. b.0 y.0 (subst (λ (t : ℕ). session_at t m.sessions ≡ Some y.0) e y.1) y.2) ∙ a.0, known_on known m s op n h w a.1 b.1)

module _ (before : List Commit) (l : Ledger) (m : Kernel) (w : List Stalled) (stands : Stands before l m w Turn.Hearing) (s : ℕ) where
  operates_told : (op : Op) (answer : Answer) (at : Point) (n : Kernel) → Operates s op m answer at n → Stands before (noted l s (Do op) answer) n (w ++ stalled_by s op answer at) Turn.GoingOn
  operates_told op _ _ _ (Operates.IsRefused answer at n h other) =
      let p = refused_told m s op before l stands.known answer n other h stands.agrees stands.alone in
      let q = refused_quiet m s op answer n other h in
      record {
        known = stands.known;
        agrees = p.0;
        alone = p.1;
        each = each_append (IsKnown stands.known) w (stalled_by s op answer at) stands.each (stalled_quiet (IsKnown stands.known) s op answer at q.0);
        busy = λ e. absurd (not_hearing e);
      }
  operates_told op _ _ _ (Operates.IsStarted started answer at n h proceeds) =
      let known = stepped_to stands.known (Start s op) IsStarted in
      let a = started_told m s op before l stands.known started h stands.agrees stands.alone in
      let mine = started_own stands.known s op in
      let p = proceeds_told before l known s op mine Object started answer at n proceeds a.0 a.1 in
      record {
        known = known;
        agrees = p.0;
        alone = p.1;
        each = each_append (IsKnown known) w (stalled_by s op answer at) (known_on stands.known m s op started h w stands.each (stands.busy refl)) (stalled_known known s op answer at mine);
        busy = λ e. absurd (not_hearing e);
      }

  does_told : (command : Command) (answer : Answer) (n : Kernel) (v : List Stalled) → Does s m w command answer n v → fault_in answer ≡ None → Stands before (noted l s command answer) n v Turn.GoingOn
  does_told _ _ _ _ (Does.Begins answer n h) free = record {
    known = stands.known;
    agrees = other_told before l stands.known m (Begin s) answer n (begin_flush s) (begin_start s) (begin_apply s) stands.agrees h;
    alone = answers_batch m (Begin s) answer n (begin_flush s) (λ t is queued. begin_commit s t is) h ∙ stands.alone;
    each = stands.each;
    busy = λ e. absurd (not_hearing e);
  }
  does_told _ _ _ _ (Does.Operating op answer n v d) free = subst (λ (x : List Stalled). Stands before (noted l s (Do op) answer) n x Turn.GoingOn) (sym d.stalled) (operates_told op answer d.at n d.operates)
  does_told _ _ _ _ (Does.Committing answer n c) free =
      let p = commits_told before l stands.known s m answer n c free stands.agrees stands.alone in
      record { known = stands.known; agrees = p.0; alone = p.1; each = stands.each; busy = λ e. absurd (not_hearing e) }
  does_told _ _ _ _ (Does.RollsBack answer n h) free = record {
    known = stands.known;
    agrees = other_told before l stands.known m (Rollback s) answer n (rollback_flush s) (rollback_start s) (rollback_apply s) stands.agrees h;
    alone = answers_batch m (Rollback s) answer n (rollback_flush s) (λ t is queued. rollback_commit s t is) h ∙ stands.alone;
    each = freed_each (IsKnown stands.known) s answer w stands.each;
    busy = λ e. absurd (not_hearing e);
  }

pub one_more : (items : List Item) (item : Item) → ledger (items ++ item ∷ []) ≡ note (ledger items) item
one_more items item = fold-append note (record { pending = []; done = []; started = [] }) items (item ∷ [])

-- item by item
pub plays_stand : (k : Kernel) → Sound k → k.sessions ≡ [] → (items : List Item) (m : Kernel) (w : List Stalled) (turn : Turn) → Plays k [] Turn.Hearing items m w turn → Stands k.commits (ledger items) m w turn
plays_stand k sound none _ _ _ _ Plays.Stays =
    let t = nothing_told k none in
    record {
      known = record { pending = []; done = []; started = [] };
      agrees = record { sound = sound; commits = t.commits; started = t.started };
      alone = none_batch k sound none;
      each = tt;
      busy = λ e. tt;
    }
plays_stand k sound none _ _ _ _ (Plays.HearsBad {items} {m} {w} p session bad) =
    subst (λ (l : Ledger). Stands k.commits l m w Turn.Hearing) (sym (one_more items (Bad session bad))) (plays_stand k sound none items m w Turn.Hearing p)
plays_stand k sound none _ _ _ _ (Plays.Hears {items} {m} {w} p s command answer n v does free) =
    subst (λ (l : Ledger). Stands k.commits l n v Turn.GoingOn) (sym (one_more items (Told s command answer false)))
    (does_told k.commits (ledger items) m w (plays_stand k sound none items m w Turn.Hearing p) s command answer n v does free)
plays_stand k sound none _ _ _ _ (Plays.GoesOn {items} {m} {w} p place x answer at n wakes free) =
    let h = plays_stand k sound none items m w Turn.GoingOn p in
    let mine = each_at (IsKnown h.known) w place x wakes.found h.each in
    let q = proceeds_told k.commits (ledger items) h.known x.session x.op mine x.point m answer at n wakes.proceeds h.agrees h.alone in
    subst (λ (l : Ledger). Stands k.commits l n (remove w place ++ stalled_by x.session x.op answer at) Turn.GoingOn) (sym (one_more items (Told x.session (Do x.op) answer true)))
    (record {
      known = h.known;
      agrees = q.0;
      alone = q.1;
      each = each_append (IsKnown h.known) (remove w place) (stalled_by x.session x.op answer at) (each_remove (IsKnown h.known) w place h.each) (stalled_known h.known x.session x.op answer at mine);
      busy = λ e. absurd (not_hearing e);
    })
plays_stand k sound none _ _ _ _ (Plays.Rests {items} {m} {w} p wait n cleans) =
    let h = plays_stand k sound none items m w Turn.GoingOn p in
    let c = cleans_told k.commits (ledger items) h.known m _ n cleans h.agrees h.alone in
    record {
      known = h.known;
      agrees = c.0;
      alone = c.1;
      each = h.each;
      busy = λ e. subst (λ (xs : List Session). Each (λ x. IsBusy xs x.session) w) (sym c.2) (busy_all m w wait);
    }
plays_stand k sound none _ _ _ _ (Plays.Ends {items} {m} {w} p) =
    let h = plays_stand k sound none items m w Turn.Hearing p in
    record { known = h.known; agrees = h.agrees; alone = h.alone; each = h.each; busy = λ e. absurd (not_open e) }
plays_stand k sound none _ _ _ _ (Plays.Closes {items} {m} {w} p s n over answers) =
    let h = plays_stand k sound none items m w Turn.Closing p in
    subst (λ (l : Ledger). Stands k.commits l n w Turn.Closing) (sym (one_more items (Told s RollbackIt RolledBack true)))
    (record {
      known = h.known;
      agrees = other_told k.commits (ledger items) h.known m (Rollback s) RolledBack n (rollback_flush s) (rollback_start s) (rollback_apply s) h.agrees answers;
      alone = answers_batch m (Rollback s) RolledBack n (rollback_flush s) (λ t is queued. rollback_commit s t is) answers ∙ h.alone;
      each = h.each;
      busy = λ e. absurd (not_open e);
    })

module _ (k : Kernel) (sound : Sound k) (none : k.sessions ≡ []) (items : List Item) (n : Kernel) where
  tells_all : (turn : Turn) (m : Kernel) → PlaysUpTo turn k items m → TellsAll k.commits items m
  tells_all turn m p = all_told k.commits (ledger items) m (plays_stand k sound none items m p.waiting turn p.plays).agrees.commits

  -- by every end
  pub told_by : (end : End) → PlaysTo end k items n → ToldBy end k.commits items n
  told_by Input p = tells_all Turn.Closing n p
  told_by ReadFault p = tells_all Turn.Hearing n p
  told_by Long p = tells_all Turn.Hearing n p
  told_by WriteFault p = tells_all p.0 n p.1
  told_by DiskFault p = (p.reached, tells_all p.turn p.reached p.plays, p.behind)
  told_by OutOfMemory p = (p.reached, tells_all p.turn p.reached p.plays, p.behind)
  told_by Usage p = absurd p
  told_by Foreign p = absurd p
  told_by (Damaged offset) p = absurd p
