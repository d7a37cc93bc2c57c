-- The answers by which an operation goes no further fit what was told, and leave its session as they say.
use Rattle.std.proofs.Common.{◌≡◌, ◌≢◌, ◌⊎◌, ℕ, zero, suc, true, List, [], ◌∷◌, Option, None, Some, refl, sym, ap, ap₂, ◌∙◌, subst, inl, inr, true≢false}
use Rattle.sp_rect.specs.declared.record.Record.{Record}
use Rattle.sp_rect.specs.declared.operation.Op.{Op}
use Rattle.sp_rect.specs.declared.operation.Op.TheVariants.{Put}
use Rattle.sp_rect.specs.Store.{replied}
use Rattle.sp_rect.specs.Serial.{records_after, after_all}
use Rattle.sp_locks.specs.declared.mode.Mode.{Mode}
use Rattle.sp_locks.specs.declared.row.Name.{Name}
use Rattle.sp_locks.specs.declared.row.Row.{Row}
use Rattle.sp_locks.specs.declared.row.Duration.{Duration}
use Rattle.sp_locks.specs.declared.row.Duration.TheVariants.{Commit as ToTheEnd}
use Rattle.sp_locks.specs.declared.row.Scope.TheVariants.{ShortLocks}
use Rattle.sp_locks.specs.Rows.{waiting_in}
use Rattle.sp_locks.specs.Table.{blockers, row_of, with_row_on, released}
use Rattle.sp_waits.specs.declared.edge.Edge.{Edge}
use Rattle.sp_waits.specs.Cycles.{IsToldCycle}
use Rattle.sp_node.specs.Among.{Among}
use Rattle.sp_event.specs.declared.event.Event.TheVariants.{Name as AskName, Plan as AskPlan, Ask, Apply}
use Rattle.sp_event.specs.declared.answer.Answer.{Answer}
use Rattle.sp_event.specs.declared.answer.Answer.TheVariants.{Granted}
use Rattle.sp_text.specs.declared.types.Command.TheVariants.{Do}
use Rattle.sp_model.specs.declared.session.Session.{Session}
use Rattle.sp_model.specs.declared.session.Stage.{Stage}
use Rattle.sp_model.specs.declared.session.Stage.TheVariants.{Idle, NameWait, Named, NeedWait, Planned}
use Rattle.sp_model.specs.State.{Kernel, is_active_stage, session_at, at_stage, with_change, staged}
use Rattle.sp_model.specs.Refusals.{turned_away}
use Rattle.sp_model.specs.Moves.{Requests, lengthened, finished, marked, inserted}
use Rattle.sp_model.specs.Removal.{IsTakenOut}
use Rattle.sp_model.specs.Stepped.{Stepped, Does, IsAt, reply_of}
use Rattle.sp_model.specs.Soundness.{MayHave, Sound}
use Rattle.sp_model.proofs.Sessions.{found-among, among-found}
use Rattle.sp_model.proofs.Holding.{in-among, among-in}
use Rattle.sp_model.proofs.Released.{of_released}
use Rattle.sp_model.proofs.Awake.{of_awake}
use Rattle.sp_model.proofs.Turned.{name-awake}
use Rattle.sp_kernel.specs.Answers.{Answers}
use Rattle.sp_told.specs.Telling.{operation_of}
use Rattle.sp_told.proofs.Changes.{session_goes, session_changes}
use Rattle.sp_told.proofs.Commits.{own_number}
use Rattle.sp_desk.specs.declared.point.Point.{Point}
use Rattle.sp_desk.specs.declared.point.Point.TheVariants.{Object, Plan, Locks}
use Rattle.sp_desk.specs.Points.{event_at, next_after, resumed}
use Rattle.sp_desk.specs.Cleaning.{fault_in}
use Rattle.sp_desk.specs.Waiting.{stalled_by}
use Rattle.sp_desk.proofs.Each.{Each}
use Rattle.sp_conduct.specs.Standing.{Standing, stands_after}
use Rattle.sp_conduct.specs.Fitting.{Scene, IsCircle, WasTold, OperationFits}
use Rattle.sp_conduct.proofs.Resting.{StandsSo, OthersRest, StagedAt, WaitsAt, pairs_at, seen_in}
use Rattle.sp_conduct.proofs.Rows.{released_waits, asked_waits}
use Rattle.sp_conduct.proofs.Circles.{blocker_row, circle_of}
use Rattle.sp_conduct.proofs.Asking.{one, never, stage_awake, not_away}
use Rattle.sp_conduct.proofs.Walking.{Walks, own_op}

-- the answer fits, and afterwards the session stands so, and waits where that is the answer
pub record Halts (sc : Scene) (s : ℕ) (op : Op) (n : Kernel) (answer : Answer) (point : Point) : Type 0 where
  pub fits : OperationFits sc s op answer
  pub own : (was : Standing) → StandsSo n s (stands_after (Do op) answer was)
  pub waits : Each (WaitsAt n) (stalled_by s op answer point)

staged_either : (stage : Stage) (op : Op) (point : Point) → StagedAt stage op point → (stage ≡ NameWait op) ⊎ (stage ≡ NeedWait op)
staged_either stage op Object is = inl is
staged_either stage op Plan is = inr is
staged_either stage op (Locks left) none = absurd none

no_next : (next : Point) → Some next ≡ None → ⊥
no_next next h = cc

module _ (sc : Scene) (s : ℕ) (m : Kernel) (sound : Sound m) (rest : OthersRest s m sc.at) where
  -- the session of a row has a transaction
  owner_found : (row : Row) (i : Among row m.locks) (v : ℕ) → row.session ≡ v → IsAt m v (sound.rows row i).owner
  owner_found row i v e =
      let o = sound.rows row i in
      subst (λ (t : ℕ). session_at t m.sessions ≡ Some o.owner) (o.is_owner ∙ e) (among-found m.sessions sound.sessions.ascending o.owner o.among)

  not_out : (row : Row) → Among row m.locks → (v : ℕ) → row.session ≡ v → v ≢ s → sc.at v ≢ Standing.Out
  not_out row i v e apart out = never (sound.rows row i).owner (sym (subst (StandsSo m v) out (rest v apart)) ∙ owner_found row i v e)

  in_the_way : (name : Name) (mode : Mode) (v : ℕ) → Among v (blockers s name mode (released ShortLocks s m.locks)) → (v ≢ s) × (sc.at v ≢ Standing.Out)
  in_the_way name mode v i =
      let b = blocker_row s name mode (released ShortLocks s m.locks) v i in
      let c = of_released ShortLocks s m.locks b.1 (among-in b.1 (released ShortLocks s m.locks) b.2) in
      (b.0, not_out c.0.row (in-among c.0.row m.locks c.0.stands) v (c.0.session ∙ b.3) b.0)

  -- whose row waits was told so
  was_told : (e : Edge) (row : Row) → Among row m.locks → e.from ≢ s → row.session ≡ e.from → row.waiting ≡ true → row.name ≡ e.name → row.mode ≡ e.wanted → WasTold sc.at e
  was_told e row i apart by waits on asked = go (sc.at e.from) refl (rest e.from apart)
    where
      found : IsAt m e.from (sound.rows row i).owner
      found = owner_found row i e.from by

      go : (standing : Standing) → sc.at e.from ≡ standing → StandsSo m e.from standing → WasTold sc.at e
      go Standing.Out is none = absurd (never (sound.rows row i).owner (sym none ∙ found))
      go Standing.Open is idle =
          let may : MayHave Idle row = subst (λ (stage : Stage). MayHave stage row) idle.2 (subst (λ (z : Session). MayHave z.stage row) (one (sound.rows row i).owner idle.0 (sym found ∙ idle.1)) (sound.rows row i).may) in
          absurd (true≢false (sym waits ∙ may.0))
      go (Standing.Stalled other name mode) is h =
          let r = h.row row i by waits in
          (other, is ∙ ap₂ (λ (n : Name) (w : Mode). Standing.Stalled other n w) (sym r.0 ∙ on) (sym r.1 ∙ asked))

  circles : (name : Name) (mode : Mode) (cycle : List Edge) → IsToldCycle (released ShortLocks s m.locks) s name mode (Some cycle) → IsCircle sc.at s cycle
  circles name mode [] told = absurd (told.leads.0 refl)
  circles name mode (first ∷ others) told =
      let c = circle_of (released ShortLocks s m.locks) s name mode first others told in (
        c.0,
        c.1,
        λ e i. let d = c.2 e i in (d.0, was_told e d.1 (released_waits ShortLocks s m.locks d.1 d.2 d.4) d.0 d.3 d.4 d.5 d.6),
      )

  -- the only row of the session that waits is the new one
  only_row : (name : Name) (mode : Mode) (duration : Duration) → waiting_in s m.locks ≡ None → (r : Row) → Among r (with_row_on (row_of s name mode duration true) (released ShortLocks s m.locks)) → r.session ≡ s → r.waiting ≡ true → (r.name ≡ name) × (r.mode ≡ mode)
  only_row name mode duration calm r i by waits = go (asked_waits s name mode duration (released ShortLocks s m.locks) r i waits)
    where
      go : (r ≡ row_of s name mode duration true) ⊎ Among r (released ShortLocks s m.locks) → (r.name ≡ name) × (r.mode ≡ mode)
      go (inl is) = (ap (λ (q : Row). q.name) is, ap (λ (q : Row). q.mode) is)
      go (inr j) = absurd (true≢false (sym waits ∙ of_awake s m.locks calm r (released_waits ShortLocks s m.locks r j waits) by))

-- a request that is not granted
request_own : (sc : Scene) (op : Op) (m : Kernel) (x : Session) → Sound m → (name : Name) (mode : Mode) (duration : Duration) (granted waits : Stage) (point : Point) → StagedAt waits op (resumed point)
    → (answer : Answer) (n : Kernel) → Requests m x name mode duration granted waits answer n → answer ≢ Granted → OthersRest x.txn.session m sc.at → IsAt m x.txn.session x → waiting_in x.txn.session m.locks ≡ None → Halts sc x.txn.session op n answer point
request_own sc op m x sound name mode duration granted waits point is _ _ (Requests.IsGranted free) other rest at calm = absurd (other refl)
request_own sc op m x sound name mode duration granted waits point is _ _ (Requests.HasToWait stuck open_end) other rest at calm = record {
  fits = (stuck, λ v i. in_the_way sc x.txn.session m sound rest name mode v i);
  own = λ was. record { session = at_stage waits x; at = here; stage = staged_either waits op (resumed point) is; row = only_row sc x.txn.session m sound rest name mode duration calm };
  waits = ((at_stage waits x, here, is), tt);
}
  where
    here : session_at x.txn.session (staged x.txn.session waits m.sessions) ≡ Some (at_stage waits x)
    here = (session_changes x.txn.session x.txn.session (at_stage waits) m.sessions x refl (λ y. refl) at).own
request_own sc op m x sound name mode duration granted waits point is _ _ (Requests.ClosesCycle cycle stuck closes) other rest at calm = record {
  fits = circles sc x.txn.session m sound rest name mode cycle closes;
  own = λ was. (session_goes x.txn.session x.txn.session m.sessions refl).own;
  waits = tt;
}

request_halts : (sc : Scene) (s : ℕ) (op : Op) (m : Kernel) (x : Session) → Sound m → (name : Name) (mode : Mode) (duration : Duration) (granted waits : Stage) (point : Point) → StagedAt waits op (resumed point)
    → (answer : Answer) (n : Kernel) → Requests m x name mode duration granted waits answer n → answer ≢ Granted → OthersRest s m sc.at → IsAt m s x → waiting_in s m.locks ≡ None → Halts sc s op n answer point
request_halts sc s op m x sound name mode duration granted waits point is answer n requests other rest at calm =
    subst (λ (t : ℕ). OthersRest t m sc.at → IsAt m t x → waiting_in t m.locks ≡ None → Halts sc t op n answer point) (own_number m s x at) (request_own sc op m x sound name mode duration granted waits point is answer n requests other) rest at calm

-- a reply is that of a plain store over what the transaction sees
seen_reply : (m : Kernel) (s : ℕ) (x : Session) (op : Op) → Sound m → IsAt m s x → is_active_stage x.stage ≡ true → reply_of m x op ≡ replied op (seen_in m s)
seen_reply m s x op sound at active =
    sym (ap (replied op)
    (ap (λ (o : Option Session). records_after (after_all m.base m.commits) (pairs_at o)) at
    ∙ ap (λ (records : List Record). records_after records x.txn.ops) (sym sound.current)
    ∙ (sound.replays x (found-among s m.sessions x at).0 active).same_view))

-- the session is idle again
module _ (s : ℕ) (m : Kernel) (x : Session) (at : IsAt m s x) where
  idle_then : (n : Kernel) → n.sessions ≡ staged x.txn.session Idle m.sessions → StandsSo n s Standing.Open
  idle_then n sessions = (at_stage Idle x, ap (session_at s) sessions ∙ (session_changes s x.txn.session (at_stage Idle) m.sessions x (own_number m s x at) (λ y. refl) at).own, refl)

  replied_then : (op : Op) (n : Kernel) → n.sessions ≡ staged x.txn.session Idle (with_change x.txn.session (lengthened op (reply_of m x op)) m.sessions) → StandsSo n s Standing.Open
  replied_then op n sessions =
      let change = lengthened op (reply_of m x op) in
      let first = session_changes s x.txn.session change m.sessions x (own_number m s x at) (λ y. refl) at in
      (at_stage Idle (change x), ap (session_at s) sessions ∙ (session_changes s x.txn.session (at_stage Idle) (with_change x.txn.session change m.sessions) (change x) (own_number m s x at) (λ y. refl) first.own).own, refl)

module _ (sc : Scene) (s : ℕ) (op : Op) (k m : Kernel) (rest : OthersRest s m sc.at) (seen : sc.seen s ≡ seen_in m s) where
  reply_fits : Sound m → (x : Session) (other : Op) → IsAt m s x → other ≡ op → x.stage ≡ Planned other [] → reply_of m x other ≡ replied op (sc.seen s)
  reply_fits sound x other at same is = seen_reply m s x other sound at (ap is_active_stage is) ∙ ap₂ (λ (o : Op) (records : List Record). replied o records) same (sym seen)

  apply_halts : Walks s op k (Locks zero) m → (answer : Answer) (n : Kernel) → Does IsTakenOut m (Apply s) answer n → Halts sc s op n answer (Locks zero)
  apply_halts walk _ _ (Does.FullOfEntries _ x other at is adds passes) = record { fits = tt; own = λ was. idle_then s m x at (finished x m) refl; waits = tt }
  apply_halts walk _ _ (Does.FullOfNumbers _ x r after chosen at is adds few inserts passes) = record { fits = tt; own = λ was. idle_then s m x at (finished x m) refl; waits = tt }
  apply_halts walk _ _ (Does.FullOfReplies _ x other at is passes) = record { fits = tt; own = λ was. idle_then s m x at (finished x m) refl; waits = tt }
  apply_halts walk _ _ (Does.Applies _ x other at is adds few) =
      let same = own_op s op k (Locks zero) m walk x other at (ap operation_of is) in
      record { fits = reply_fits walk.since.sound x other at same is; own = λ was. replied_then s m x at other (marked x other m) refl; waits = tt }
  apply_halts walk _ _ (Does.Inserts_entry _ x r after chosen gifts at is adds few inserts numbers given) =
      let same = own_op s op k (Locks zero) m walk x (Put r) at (ap operation_of is) in
      record { fits = reply_fits walk.since.sound x (Put r) at same is; own = λ was. replied_then s m x at (Put r) (inserted x (Put r) after gifts m) refl; waits = tt }

  name_halts : Walks s op k Object m → (answer : Answer) (n : Kernel) → turned_away m (AskName s) ≡ None → Does IsTakenOut m (AskName s) answer n → next_after Object answer ≡ None → Halts sc s op n answer Object
  name_halts walk _ _ free (Does.NamesNothing _ x other at is none) over = absurd (no_next Plan over)
  name_halts walk _ _ free (Does.Names _ x other name mode answer n at is asked requests) over =
      request_halts sc s op m x walk.since.sound name mode ToTheEnd (Named other) (NameWait other) Object (ap NameWait (own_op s op k Object m walk x other at (ap operation_of is))) answer n requests
      (λ e. no_next Plan (sym (ap (next_after Object) e) ∙ over)) rest at (name-awake m s free)
  name_halts walk _ _ free (Does.HasWaited _ x other at is) over = absurd (no_next Plan over)

  plan_halts : (answer : Answer) (n : Kernel) → Does IsTakenOut m (AskPlan s) answer n → next_after Plan answer ≡ None → Halts sc s op n answer Plan
  plan_halts _ _ (Does.Plans _ x other commit short at is needs) over = absurd (no_next _ over)

  ask_halts : (left : ℕ) → Walks s op k (Locks (suc left)) m → (answer : Answer) (n : Kernel) → Does IsTakenOut m (Ask s) answer n → next_after (Locks (suc left)) answer ≡ None → Halts sc s op n answer (Locks (suc left))
  ask_halts left walk _ _ (Does.Asks _ x other need needs answer n at is requests) over =
      request_halts sc s op m x walk.since.sound need.name need.mode need.duration (Planned other needs) (NeedWait other) (Locks (suc left)) (ap NeedWait (own_op s op k (Locks (suc left)) m walk x other at (ap operation_of is))) answer n requests
      (λ e. no_next (Locks left) (sym (ap (next_after (Locks (suc left))) e) ∙ over)) rest at
      (stage_awake m s x walk.since.sound at (λ row may. subst (λ (stage : Stage). MayHave stage row) is may))

  done_halts : (point : Point) → Walks s op k point m → (answer : Answer) (n : Kernel) → turned_away m (event_at s point) ≡ None → Does IsTakenOut m (event_at s point) answer n → next_after point answer ≡ None → Halts sc s op n answer point
  done_halts Object walk answer n free does over = name_halts walk answer n free does over
  done_halts Plan walk answer n free does over = plan_halts answer n does over
  done_halts (Locks zero) walk answer n free does over = apply_halts walk answer n does
  done_halts (Locks (suc left)) walk answer n free does over = ask_halts left walk answer n does over

  -- the first answer by which it goes no further
  pub halts : (point : Point) → Walks s op k point m → (answer : Answer) (n : Kernel) → Answers m (event_at s point) answer n → next_after point answer ≡ None → fault_in answer ≡ None → Halts sc s op n answer point
  halts point walk _ _ (Answers.IsStepped _ _ (Stepped.IsTurnedAway answer away)) over free =
      absurd (not_away s op m sc.at walk.since.sound rest walk.since.session walk.since.at walk.calm point walk.stage answer away free)
  halts point walk _ _ (Answers.IsStepped _ _ (Stepped.IsDone answer n let_go does)) over free = done_halts point walk answer n let_go does over
  halts point walk _ _ Answers.WantsMemory over free = absurd (cc)
  halts point walk _ _ (Answers.Fails offset flush let_go some) over free = absurd (cc)
