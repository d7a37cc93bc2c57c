-- An operation of a session, and one that goes on after it waited: how its answer fits, and how it leaves the sessions and those that wait.
use Rattle.std.proofs.Common.{◌≡◌, ◌≢◌, ◌⊎◌, ℕ, zero, suc, ◌+◌, Bool, true, false, cond, List, [], ◌∷◌, ◌++◌, length, nat_eq, nat_le, Option, None, Some, refl, sym, ap, ap₂, ◌∙◌, subst, inl, inr, append-nil}
use Rattle.std.specs.List.{remove}
use Rattle.sp_rect.specs.declared.operation.Op.{Op}
use Rattle.sp_node.specs.Among.{Among}
use Rattle.sp_event.specs.declared.event.Event.TheVariants.{Start}
use Rattle.sp_event.specs.declared.answer.Answer.{Answer}
use Rattle.sp_event.specs.declared.answer.Answer.TheVariants.{Started as IsStarted, Refused, Full}
use Rattle.sp_event.specs.declared.answer.Kind.{Kind}
use Rattle.sp_event.specs.declared.answer.Kind.TheVariants.{Operations, History}
use Rattle.sp_event.specs.declared.answer.Why.{Why}
use Rattle.sp_event.specs.declared.answer.Why.TheVariants.{NoTxn, Busy}
use Rattle.sp_text.specs.declared.types.Command.TheVariants.{Do}
use Rattle.sp_model.specs.declared.session.Session.{Session}
use Rattle.sp_model.specs.declared.session.Stage.{Stage}
use Rattle.sp_model.specs.declared.session.Stage.TheVariants.{Idle, NameWait, NeedWait}
use Rattle.sp_model.specs.State.{Kernel, session_at}
use Rattle.sp_model.specs.Refusals.{session_of, first_of, answer_if, stops, refusal, start_refused, refused, full, kept_operations, open_operations, most_operations, most_history}
use Rattle.sp_model.specs.Removal.{IsTakenOut}
use Rattle.sp_model.specs.Stepped.{Stepped, Does, IsAt}
use Rattle.sp_model.specs.Soundness.{Sound}
use Rattle.sp_model.proofs.Sessions.{number-same, number-differ, number-apart}
use Rattle.sp_model.proofs.Turned.{is_let}
use Rattle.sp_kernel.specs.Answers.{Answers}
use Rattle.sp_told.specs.Telling.{operation_of}
use Rattle.sp_desk.specs.declared.point.Point.{Point}
use Rattle.sp_desk.specs.declared.point.Point.TheVariants.{Object, Plan, Locks}
use Rattle.sp_desk.specs.declared.stalled.Stalled.{Stalled as Waiter}
use Rattle.sp_desk.specs.Points.{event_at}
use Rattle.sp_desk.specs.Working.{Proceeds, Operates}
use Rattle.sp_desk.specs.Cleaning.{fault_in}
use Rattle.sp_desk.specs.Waiting.{stalled_by, Wakes}
use Rattle.sp_desk.proofs.Each.{each_at}
use Rattle.sp_conduct.specs.Standing.{Standing, standing_with, stands_after}
use Rattle.sp_conduct.specs.Fitting.{Scene, FitsAt, CommandFits, GoesOn}
use Rattle.sp_conduct.proofs.Resting.{StandsSo, Rests, OthersRest, StagedAt, WaitsAt, AreWaiting, seen_in, scene_in, next_begun, Leaves, KeepsOthers}
use Rattle.sp_conduct.proofs.Others.{others_kept, kept_none, kept_more, kept_rest, kept_waiting, next_kept, base_kept}
use Rattle.sp_conduct.proofs.Asking.{one, never, stop_fault, stage_operation, staged_fits, woken_calm}
use Rattle.sp_conduct.proofs.Waiters.{each_among, removed_other, removed_waiting, joined_waiting}
use Rattle.sp_conduct.proofs.Walking.{Walks, since_none, walks_on, start_walks}
use Rattle.sp_conduct.proofs.Halting.{Halts, halts}

-- a whole operation: how it halts, and what it leaves
record Goes (sc : Scene) (s : ℕ) (op : Op) (k n : Kernel) (answer : Answer) (point : Point) : Type 0 where
  halts : Halts sc s op n answer point
  keeps : KeepsOthers s k n
  next : n.next_txn ≡ next_begun answer k.next_txn
  base : n.base ≡ k.base

names_own : (s : ℕ) (point : Point) → session_of (event_at s point) ≡ Some s
names_own s Object = refl
names_own s Plan = refl
names_own s (Locks zero) = refl
names_own s (Locks (suc left)) = refl

-- it goes on from where its walk began to its answer
proceeds_so : (sc : Scene) (s : ℕ) (op : Op) (k : Kernel) (from : Point) (m : Kernel) → Walks s op k from m → OthersRest s k sc.at → sc.seen s ≡ seen_in k s
    → (answer : Answer) (point : Point) (n : Kernel) → Proceeds s from m answer point n → fault_in answer ≡ None → Goes sc s op k n answer point
proceeds_so sc s op k from m begin rest seen answer point n p free = record {
  halts = halts sc s op k p.before (kept_rest s k p.before sc.at walk.since.keeps rest) (seen ∙ sym walk.since.seen) point walk answer n p.answered p.over free;
  keeps = kept_more s k p.before n walk.since.keeps (others_kept p.before s (event_at s point) answer n (names_own s point) p.answered);
  next = next_kept p.before (event_at s point) answer n p.answered ∙ ap (next_begun answer) walk.since.next;
  base = base_kept p.before (event_at s point) answer n p.answered ∙ walk.since.base;
}
  where
    walk : Walks s op k point p.before
    walk = walks_on s op k from m point p.before p.reaches begin

-- the session stands as the answer says, and the others as before
stand_so : (k n : Kernel) (at : ℕ → Standing) (s : ℕ) (now : Standing) → Rests k at → KeepsOthers s k n → StandsSo n s now → Rests n (standing_with s now at)
stand_so k n at s now rests keeps own v = go (nat_eq s v) refl
  where
    go : (b : Bool) → nat_eq s v ≡ b → StandsSo n v (cond b now (at v))
    go true e = subst (λ (t : ℕ). StandsSo n t now) (number-same s v e) own
    go false e = kept_rest s k n at keeps (λ u apart. rests u) v (λ f. number-differ s v e (sym f))

left_so : (sc : Scene) (k n : Kernel) (at : ℕ → Standing) (s : ℕ) (op : Op) (answer : Answer) (point : Point) → Rests k at → Goes sc s op k n answer point → Leaves k n at s (Do op) answer
left_so sc k n at s op answer point rests g = record { rests = stand_so k n at s (stands_after (Do op) answer (at s)) rests g.keeps (g.halts.own (at s)); next = g.next; base = g.base }

joined_so : (sc : Scene) (k n : Kernel) (w : List Waiter) (s : ℕ) (op : Op) (answer : Answer) (point : Point) → AreWaiting k w → ((x : Waiter) → Among x w → x.session ≢ s) → Goes sc s op k n answer point → AreWaiting n (w ++ stalled_by s op answer point)
joined_so sc k n w s op answer point waiting apart g = joined_waiting n w s op answer point (kept_waiting s k n w g.keeps apart waiting) apart g.halts.waits

same_answer : (a b : Answer) → Some a ≡ Some b → b ≡ a
same_answer a b h = cc

-- why a start is refused
start_refused_so : (k : Kernel) (s : ℕ) (op : Op) (o : Option Session) (why : Why) → session_at s k.sessions ≡ o → refusal (Start s op) o ≡ Some why
    → (answer : Answer) (n : Kernel) → Answers k (Start s op) answer n → fault_in answer ≡ None → (answer ≡ Refused why) × (n ≡ k)
start_refused_so k s op o why here is _ _ (Answers.IsStepped _ _ (Stepped.IsTurnedAway answer away)) free = (go k.stopped refl, refl)
  where
    said : refused (refusal (Start s op) (session_at s k.sessions)) ≡ Some (Refused why)
    said = ap (λ (p : Option Session). refused (refusal (Start s op) p)) here ∙ ap refused is

    go : (p : Option ℕ) → k.stopped ≡ p → answer ≡ Refused why
    go None e = same_answer (Refused why) answer (sym (ap₂ (λ (p : Option ℕ) (a : Option Answer). first_of (stops p (Start s op) (session_at s k.sessions) ∷ a ∷ full (Start s op) (session_at s k.sessions) k ∷ None ∷ None ∷ [])) e said) ∙ away)
    go (Some offset) e = absurd (stop_fault offset answer (sym (ap (λ (p : Option ℕ). first_of (stops p (Start s op) (session_at s k.sessions) ∷ refused (refusal (Start s op) (session_at s k.sessions)) ∷ full (Start s op) (session_at s k.sessions) k ∷ None ∷ None ∷ [])) e) ∙ away) free)
start_refused_so k s op o why here is _ _ (Answers.IsStepped _ _ (Stepped.IsDone answer n let_go does)) free = absurd (never_let (sym (ap (refusal (Start s op)) here ∙ is) ∙ (is_let k (Start s op) let_go).refusal))
  where
    never_let : Some why ≡ None → ⊥
    never_let h = cc
start_refused_so k s op o why here is _ _ Answers.WantsMemory free = absurd (cc)
start_refused_so k s op o why here is _ _ (Answers.Fails offset flush let_go some) free = absurd (cc)

full_one : (b c : Bool) (answer : Answer) → first_of (first_of (answer_if b (Full Operations) ∷ answer_if c (Full History) ∷ []) ∷ None ∷ None ∷ []) ≡ Some answer → (kind : Kind) × (answer ≡ Full kind)
full_one true c answer h = (Operations, same_answer (Full Operations) answer h)
full_one false true answer h = (History, same_answer (Full History) answer h)
full_one false false answer h = absurd (none h)
  where
    none : None ≡ Some answer → ⊥
    none h = cc

-- an idle session starts an operation but where a limit is reached
idle_starts : (k : Kernel) (s : ℕ) (op : Op) (y : Session) → IsAt k s y → y.stage ≡ Idle → (answer : Answer) (n : Kernel) → Answers k (Start s op) answer n → answer ≢ IsStarted → fault_in answer ≡ None
    → (kind : Kind) × (answer ≡ Full kind) × (n ≡ k)
idle_starts k s op y here idle _ _ (Answers.IsStepped _ _ (Stepped.IsTurnedAway answer away)) other free = go k.stopped refl
  where
    free_to : refused (refusal (Start s op) (session_at s k.sessions)) ≡ None
    free_to = ap (λ (p : Option Session). refused (refusal (Start s op) p)) here ∙ ap (λ (stage : Stage). refused (start_refused stage)) idle

    go : (p : Option ℕ) → k.stopped ≡ p → (kind : Kind) × (answer ≡ Full kind) × (k ≡ k)
    go None e =
        let f = full_one (nat_le most_operations (length y.txn.ops)) (nat_le most_history (kept_operations k.commits + open_operations k.sessions)) answer
        (sym (ap₂ (λ (p : Option ℕ) (a : Option Answer). first_of (stops p (Start s op) (session_at s k.sessions) ∷ a ∷ full (Start s op) (session_at s k.sessions) k ∷ None ∷ None ∷ [])) e free_to
        ∙ ap (λ (p : Option Session). first_of (full (Start s op) p k ∷ None ∷ None ∷ [])) here) ∙ away) in
        (f.0, f.1, refl)
    go (Some offset) e = absurd (stop_fault offset answer (sym (ap (λ (p : Option ℕ). first_of (stops p (Start s op) (session_at s k.sessions) ∷ refused (refusal (Start s op) (session_at s k.sessions)) ∷ full (Start s op) (session_at s k.sessions) k ∷ None ∷ None ∷ [])) e) ∙ away) free)
idle_starts k s op y here idle _ _ (Answers.IsStepped _ _ (Stepped.IsDone answer n let_go does)) other free = absurd (starts answer n does other)
  where
    starts : (answer : Answer) (n : Kernel) → Does IsTakenOut k (Start s op) answer n → answer ≢ IsStarted → ⊥
    starts _ _ (Does.Starts _ x _ at in_space) other = other refl
idle_starts k s op y here idle _ _ Answers.WantsMemory other free = absurd (cc)
idle_starts k s op y here idle _ _ (Answers.Fails offset flush let_go some) other free = absurd (cc)

-- a session with an operation that waits is not idle, and can't start another
waits_busy : (stage : Stage) (op : Op) (point : Point) → StagedAt stage op point → stage ≡ Idle → ⊥
waits_busy stage op point staged idle = none (sym (ap operation_of idle) ∙ stage_operation stage op point (staged_fits stage op point staged))
  where
    none : operation_of Idle ≡ Some op → ⊥
    none h = cc

stalled_refused : (stage : Stage) (op : Op) → (stage ≡ NameWait op) ⊎ (stage ≡ NeedWait op) → start_refused stage ≡ Some Busy
stalled_refused stage op (inl is) = ap start_refused is
stalled_refused stage op (inr is) = ap start_refused is

stalled_operation : (stage : Stage) (op : Op) → (stage ≡ NameWait op) ⊎ (stage ≡ NeedWait op) → operation_of stage ≡ Some op
stalled_operation stage op (inl is) = ap operation_of is
stalled_operation stage op (inr is) = ap operation_of is

same_op : (a b : Op) → Some a ≡ Some b → a ≡ b
same_op a b h = cc

module _ (k : Kernel) (sound : Sound k) (at : ℕ → Standing) (rests : Rests k at) (w : List Waiter) (waiting : AreWaiting k w) where
  -- what is to be shown of the answer to an operation
  abbrev Fitting : ℕ → Op → Point → Answer → Kernel → Type 0
  Fitting s op p answer n = CommandFits (scene_in k at) s (Do op) answer × Leaves k n at s (Do op) answer × AreWaiting n (w ++ stalled_by s op answer p)

  -- an answer that changes nothing
  unchanged : (s : ℕ) (op : Op) (p : Point) (answer : Answer) → CommandFits (scene_in k at) s (Do op) answer → StandsSo k s (stands_after (Do op) answer (at s)) → k.next_txn ≡ next_begun answer k.next_txn → [] ≡ stalled_by s op answer p
      → (told : Answer) (n : Kernel) → told ≡ answer → n ≡ k → Fitting s op p told n
  unchanged s op p answer fits own next none told n is same =
      subst (λ (a : Answer). Fitting s op p a n) (sym is)
      (subst (Fitting s op p answer) (sym same)
      (fits, record { rests = stand_so k k at s (stands_after (Do op) answer (at s)) rests (kept_none s k) own; next = next; base = refl }, subst (λ (v : List Waiter). AreWaiting k (w ++ v)) none (subst (AreWaiting k) (sym (append-nil w)) waiting)))

  -- where the session is idle it is none of those that wait
  idle_apart : (s : ℕ) (y : Session) → IsAt k s y → y.stage ≡ Idle → (x : Waiter) → Among x w → x.session ≢ s
  idle_apart s y here idle x i same =
      let h = each_among (WaitsAt k) w x waiting.each i in
      waits_busy h.0.stage x.op x.point h.2 (ap (λ (z : Session). z.stage) (one h.0 y (sym h.1 ∙ ap (λ (t : ℕ). session_at t k.sessions) same ∙ here)) ∙ idle)

  -- an operation that can't be started
  refused_fits : (s : ℕ) (op : Op) (p : Point) (answer : Answer) (n : Kernel) → Answers k (Start s op) answer n → answer ≢ IsStarted → fault_in answer ≡ None → (standing : Standing) → at s ≡ standing → StandsSo k s standing → Fitting s op p answer n
  refused_fits s op p answer n h other free Standing.Out is none =
      let r = start_refused_so k s op None NoTxn none refl answer n h free in
      unchanged s op p (Refused NoTxn) (subst (λ (st : Standing). FitsAt st (scene_in k at) s (Do op) (Refused NoTxn)) (sym is) refl) (rests s) refl refl answer n r.0 r.1
  refused_fits s op p answer n h other free Standing.Open is idle =
      let r = idle_starts k s op idle.0 idle.1 idle.2 answer n h other free in
      unchanged s op p (Full r.0) (subst (λ (st : Standing). FitsAt st (scene_in k at) s (Do op) (Full r.0)) (sym is) tt) idle refl refl answer n r.1 r.2
  refused_fits s op p answer n h other free (Standing.Stalled on name mode) is stalled =
      let r = start_refused_so k s op (Some stalled.session) Busy stalled.at (stalled_refused stalled.session.stage on stalled.stage) answer n h free in
      unchanged s op p (Refused Busy) (subst (λ (st : Standing). FitsAt st (scene_in k at) s (Do op) (Refused Busy)) (sym is) refl) (rests s) refl refl answer n r.0 r.1

  -- one that is started
  started_fits : (s : ℕ) (op : Op) (p : Point) (answer : Answer) (started n : Kernel) → Answers k (Start s op) IsStarted started → Proceeds s Object started answer p n → fault_in answer ≡ None → (standing : Standing) → at s ≡ standing → StandsSo k s standing → Fitting s op p answer n
  started_fits s op p answer started n h proceeds free Standing.Out is none = absurd (differ (start_refused_so k s op None NoTxn none refl IsStarted started h refl).0)
    where
      differ : IsStarted ≡ Refused NoTxn → ⊥
      differ e = cc
  started_fits s op p answer started n h proceeds free Standing.Open is idle =
      let g = proceeds_so (scene_in k at) s op k Object started (start_walks s op k (since_none s k idle.0 sound idle.1) started IsStarted refl h) (λ v apart. rests v) refl answer p n proceeds free in (
        subst (λ (st : Standing). FitsAt st (scene_in k at) s (Do op) answer) (sym is) g.halts.fits,
        left_so (scene_in k at) k n at s op answer p rests g,
        joined_so (scene_in k at) k n w s op answer p waiting (idle_apart s idle.0 idle.1 idle.2) g,
      )
  started_fits s op p answer started n h proceeds free (Standing.Stalled on name mode) is stalled =
      absurd (differ (start_refused_so k s op (Some stalled.session) Busy stalled.at (stalled_refused stalled.session.stage on stalled.stage) IsStarted started h refl).0)
    where
      differ : IsStarted ≡ Refused Busy → ⊥
      differ e = cc

  -- what an operation meets that goes on
  abbrev scene_on : ℕ → Scene
  scene_on s = record (scene_in k at) { at = standing_with s Standing.Open at }

  pub operation_fits : (s : ℕ) (op : Op) (answer : Answer) (p : Point) (n : Kernel) → Operates s op k answer p n → fault_in answer ≡ None
      → CommandFits (scene_in k at) s (Do op) answer × Leaves k n at s (Do op) answer × AreWaiting n (w ++ stalled_by s op answer p)
  operation_fits s op _ _ _ (Operates.IsRefused answer p n h other) free = refused_fits s op p answer n h other free (at s) refl (rests s)
  operation_fits s op _ _ _ (Operates.IsStarted started answer p n h proceeds) free = started_fits s op p answer started n h proceeds free (at s) refl (rests s)

  pub waking_fits : (place : ℕ) (x : Waiter) (answer : Answer) (p : Point) (n : Kernel) → Wakes k w place x answer p n → fault_in answer ≡ None
      → GoesOn (scene_in k at) x.session x.op answer × Leaves k n at x.session (Do x.op) answer × AreWaiting n (remove w place ++ stalled_by x.session x.op answer p)
  waking_fits place x answer p n wakes free = (
    on (at x.session) refl (rests x.session),
    left_so (scene_on x.session) k n at x.session x.op answer p rests goes,
    joined_so (scene_on x.session) k n (remove w place) x.session x.op answer p (removed_waiting k w place waiting) (removed_other w place x wakes.found waiting.once) goes,
  )
    where
      waits : WaitsAt k x
      waits = each_at (WaitsAt k) w place x wakes.found waiting.each

      others : OthersRest x.session k (standing_with x.session Standing.Open at)
      others v apart = subst (λ (b : Bool). StandsSo k v (cond b Standing.Open (at v))) (sym (number-apart x.session v (λ e. apart (sym e)))) (rests v)

      goes : Goes (scene_on x.session) x.session x.op k n answer p
      goes = proceeds_so (scene_on x.session) x.session x.op k x.point k
          (record { since = since_none x.session k waits.0 sound waits.1; stage = staged_fits waits.0.stage x.op x.point waits.2; calm = woken_calm k x.session x.op waits.0 x.point waits.1 waits.2 wakes.awake })
          others refl answer p n wakes.proceeds free

      on : (standing : Standing) → at x.session ≡ standing → StandsSo k x.session standing → GoesOn (scene_in k at) x.session x.op answer
      on Standing.Out is none = absurd (never waits.0 (sym none ∙ waits.1))
      on Standing.Open is idle = absurd (waits_busy waits.0.stage x.op x.point waits.2 (ap (λ (z : Session). z.stage) (one waits.0 idle.0 (sym waits.1 ∙ idle.1)) ∙ idle.2))
      on (Standing.Stalled op name mode) is h = record { name = name; mode = mode; stalled = is ∙ ap (λ (o : Op). Standing.Stalled o name mode) same; fits = goes.halts.fits }
        where
          same : op ≡ x.op
          same = same_op op x.op
              (sym (stalled_operation h.session.stage op h.stage) ∙ ap (λ (z : Session). operation_of z.stage) (one h.session waits.0 (sym h.at ∙ waits.1))
              ∙ stage_operation waits.0.stage x.op x.point (staged_fits waits.0.stage x.op x.point waits.2))
