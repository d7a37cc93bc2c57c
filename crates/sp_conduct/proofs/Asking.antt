-- The events of an operation under way are not turned away, but by a stop: where its session is at the stage for the event and waits for nothing, and the other sessions rest.
use Rattle.std.proofs.Common.{◌≡◌, ◌≢◌, ◌⊎◌, ℕ, zero, suc, Bool, true, false, not, ◌&&◌, cond, List, [], ◌∷◌, length, nat_eq, Option, None, Some, refl, sym, ap, ◌∙◌, subst, inl, inr, arith}
use Rattle.sp_rect.specs.declared.operation.Op.{Op}
use Rattle.sp_locks.specs.declared.row.Row.{Row}
use Rattle.sp_locks.specs.declared.needs.Need.{Need}
use Rattle.sp_locks.specs.Rows.{waiting_in}
use Rattle.sp_node.specs.Among.{Among}
use Rattle.sp_event.specs.declared.event.Event.{Event}
use Rattle.sp_event.specs.declared.event.Event.TheVariants.{Name as AskName, Plan as AskPlan, Ask, Apply}
use Rattle.sp_event.specs.declared.answer.Answer.{Answer}
use Rattle.sp_event.specs.declared.answer.Answer.TheVariants.{Stopped, LatchBusy}
use Rattle.sp_model.specs.declared.session.Session.{Session}
use Rattle.sp_model.specs.declared.session.Stage.{Stage}
use Rattle.sp_model.specs.declared.session.Stage.TheVariants.{Idle, Started, NameWait, Named, NeedWait, Planned}
use Rattle.sp_model.specs.State.{Kernel, session_at}
use Rattle.sp_model.specs.Stepped.{IsAt}
use Rattle.sp_model.specs.Soundness.{MayHave, Sound}
use Rattle.sp_model.specs.Refusals.{first_of, found_for, stops, refusal, refused, name_refused, plan_refused, ask_refused, apply_refused, full, still, still_for, latched, first_holder, holds_latch, shares, turned_away}
use Rattle.sp_model.proofs.Sessions.{found-among, among-found, number-differ}
use Rattle.sp_model.proofs.Awake.{may-have, awake}
use Rattle.sp_model.proofs.Turned.{IsLet}
use Rattle.sp_told.specs.Telling.{operation_of}
use Rattle.sp_desk.specs.declared.point.Point.{Point}
use Rattle.sp_desk.specs.declared.point.Point.TheVariants.{Object, Plan, Locks}
use Rattle.sp_desk.specs.Points.{event_at}
use Rattle.sp_desk.specs.Cleaning.{fault_in}
use Rattle.sp_desk.specs.Waiting.{says_still, still_waits}
use Rattle.sp_conduct.specs.Standing.{Standing}
use Rattle.sp_conduct.proofs.Resting.{StandsSo, OthersRest, StagedAt}

-- the stage of an operation that asks next what stands at the point
abbrev pub StageFits : Stage → Op → Point → Type 0
StageFits stage op Object = (stage ≡ Started op) ⊎ (stage ≡ NameWait op)
StageFits stage op Plan = (stage ≡ Named op) ⊎ (stage ≡ NeedWait op)
StageFits stage op (Locks left) = (needs : List Need) × (stage ≡ Planned op needs) × (length needs ≡ left)

pub stage_operation : (stage : Stage) (op : Op) (point : Point) → StageFits stage op point → operation_of stage ≡ Some op
stage_operation stage op Object (inl is) = ap operation_of is
stage_operation stage op Object (inr is) = ap operation_of is
stage_operation stage op Plan (inl is) = ap operation_of is
stage_operation stage op Plan (inr is) = ap operation_of is
stage_operation stage op (Locks left) fits = ap operation_of fits.1

-- an operation that waits is at the stage for the point where it goes on
pub staged_fits : (stage : Stage) (op : Op) (point : Point) → StagedAt stage op point → StageFits stage op point
staged_fits stage op Object is = inr is
staged_fits stage op Plan is = inr is
staged_fits stage op (Locks left) none = absurd none

pub one : (x y : Session) → Some x ≡ Some y → x ≡ y
one x y h = cc

pub never : (x : Session) → None ≡ Some x → ⊥
never x h = cc

-- unless the kernel is stopped, no row of the session waits
abbrev pub IsCalm : Kernel → ℕ → Type 0
IsCalm m s = m.stopped ≡ None → waiting_in s m.locks ≡ None

-- a session at a stage that has no waiting row waits for nothing
pub stage_awake : (m : Kernel) (s : ℕ) (x : Session) → Sound m → IsAt m s x → ((row : Row) → MayHave x.stage row → row.waiting ≡ false) → waiting_in s m.locks ≡ None
stage_awake m s x sound at none = awake s m.locks (λ row i e. none row (may-have m.sessions m.locks sound.sessions.ascending sound.rows x f.0 row i (e ∙ sym f.1)))
  where
    f : Among x m.sessions × (x.txn.session ≡ s)
    f = found-among s m.sessions x at

-- a session other than s that has a transaction is idle, or its operation waits or has waited
pub rest_stage : (s : ℕ) (m : Kernel) (at : ℕ → Standing) → Sound m → OthersRest s m at → (P : Stage → Type 0) → P Idle → ((op : Op) → P (NameWait op)) → ((op : Op) → P (NeedWait op)) → (y : Session) → Among y m.sessions → y.txn.session ≢ s → P y.stage
rest_stage s m at sound rest P idle name need y i apart = go (at y.txn.session) (rest y.txn.session apart)
  where
    found : IsAt m y.txn.session y
    found = among-found m.sessions sound.sessions.ascending y i

    on : (x : Session) → IsAt m y.txn.session x → P x.stage → P y.stage
    on x here h = subst (λ (z : Session). P z.stage) (one x y (sym here ∙ found)) h

    waits : (op : Op) (stage : Stage) → (stage ≡ NameWait op) ⊎ (stage ≡ NeedWait op) → P stage
    waits op stage (inl is) = subst P (sym is) (name op)
    waits op stage (inr is) = subst P (sym is) (need op)

    go : (standing : Standing) → StandsSo m y.txn.session standing → P y.stage
    go Standing.Out none = absurd (never y (sym none ∙ found))
    go Standing.Open own = on own.0 own.1 (subst P (sym own.2) idle)
    go (Standing.Stalled op on_name mode) h = on h.session h.at (waits op h.session.stage h.stage)

-- nobody of these holds the latch
free_all : (shared : Bool) (others : Session → Bool) (xs : List Session) → ((y : Session) → Among y xs → others y ≡ true → holds_latch shared y.stage ≡ false) → first_holder shared others xs ≡ None
free_all shared others [] h = refl
free_all shared others (x ∷ xs) h = go (others x) refl (free_all shared others xs (λ y i o. h y (inr i) o))
  where
    go : (b : Bool) → others x ≡ b → first_holder shared others xs ≡ None → cond (b && holds_latch shared x.stage) (Some (LatchBusy x.txn.session)) (first_holder shared others xs) ≡ None
    go true e rest = ap (λ (c : Bool). cond c (Some (LatchBusy x.txn.session)) (first_holder shared others xs)) (h x (inl refl) e) ∙ rest
    go false e rest = rest

module _ (s : ℕ) (op : Op) (m : Kernel) (at : ℕ → Standing) (sound : Sound m) (rest : OthersRest s m at) (y : Session) (here : IsAt m s y) (calm : IsCalm m s) where
  latch_free : latched (AskPlan s) (session_at s m.sessions) m.sessions ≡ None
  latch_free =
      ap (λ (o : Option Session). latched (AskPlan s) o m.sessions) here
      ∙ free_all (shares y.stage) (λ x. not (nat_eq x.txn.session s)) m.sessions
      (λ x i o. rest_stage s m at sound rest (λ (stage : Stage). holds_latch (shares y.stage) stage ≡ false) refl (λ other. refl) (λ other. refl) x i (number-differ x.txn.session s (apart (nat_eq x.txn.session s) o)))
    where
      apart : (b : Bool) → not b ≡ true → b ≡ false
      apart b h = grind arith

  let_by : (point : Point) → StageFits y.stage op point → m.stopped ≡ None → IsLet m (event_at s point)
  let_by Object fits goes = record { refusal = ap (refusal (AskName s)) here ∙ by fits; full = refl; still = ap still_for (calm goes); latched = refl }
    where
      by : (y.stage ≡ Started op) ⊎ (y.stage ≡ NameWait op) → name_refused y.stage ≡ None
      by (inl is) = ap name_refused is
      by (inr is) = ap name_refused is
  let_by Plan fits goes = record { refusal = ap (refusal (AskPlan s)) here ∙ by fits; full = refl; still = ap still_for (calm goes); latched = latch_free }
    where
      by : (y.stage ≡ Named op) ⊎ (y.stage ≡ NeedWait op) → plan_refused y.stage ≡ None
      by (inl is) = ap plan_refused is
      by (inr is) = ap plan_refused is
  let_by (Locks zero) fits goes = record { refusal = ap (refusal (Apply s)) here ∙ ap apply_refused fits.1 ∙ by fits.0 fits.2; full = refl; still = refl; latched = refl }
    where
      by : (needs : List Need) → length needs ≡ 0 → apply_refused (Planned op needs) ≡ None
      by [] e = refl
      by (need ∷ needs) e = absurd (omega arith)
  let_by (Locks (suc left)) fits goes = record { refusal = ap (refusal (Ask s)) here ∙ ap ask_refused fits.1 ∙ by fits.0 fits.2; full = refl; still = refl; latched = refl }
    where
      by : (needs : List Need) → length needs ≡ suc left → ask_refused (Planned op needs) ≡ None
      by [] e = absurd (omega arith)
      by (need ∷ needs) e = refl

none_first : (a b c d e : Option Answer) → a ≡ None → b ≡ None → c ≡ None → d ≡ None → e ≡ None → first_of (a ∷ b ∷ c ∷ d ∷ e ∷ []) ≡ None
none_first a b c d e ea eb ec ed ee = rw (ea, eb, ec, ed, ee) refl

fourth_first : (a b c d e : Option Answer) (answer : Answer) → a ≡ None → b ≡ None → c ≡ None → d ≡ Some answer → first_of (a ∷ b ∷ c ∷ d ∷ e ∷ []) ≡ Some answer
fourth_first a b c d e answer ea eb ec ed = rw (ea, eb, ec, ed) refl

-- a stop is a fault
pub stop_fault : (offset : ℕ) (answer : Answer) → Some (Stopped offset) ≡ Some answer → fault_in answer ≡ None → ⊥
stop_fault offset answer e free = fault (ap fault_in (is e) ∙ free)
  where
    is : Some (Stopped offset) ≡ Some answer → Stopped offset ≡ answer
    is h = cc

    fault : fault_in (Stopped offset) ≡ None → ⊥
    fault h = cc

only_stops : (m : Kernel) (event : Event) → ((offset : ℕ) → stops (Some offset) event (found_for event m.sessions) ≡ Some (Stopped offset)) → (m.stopped ≡ None → IsLet m event)
    → (answer : Answer) → turned_away m event ≡ Some answer → fault_in answer ≡ None → ⊥
only_stops m event halts lets answer away free = go m.stopped refl
  where
    none : None ≡ Some answer → ⊥
    none h = cc

    go : (o : Option ℕ) → m.stopped ≡ o → ⊥
    go None e =
        let x = found_for event m.sessions in
        let l = lets e in
        none (sym (none_first (stops m.stopped event x) (refused (refusal event x)) (full event x m) (still event m.locks) (latched event x m.sessions) (ap (λ (p : Option ℕ). stops p event x) e) (ap refused l.refusal) l.full l.still l.latched) ∙ away)
    go (Some offset) e =
        let x = found_for event m.sessions in
        stop_fault offset answer
        (sym (ap (λ (p : Option Answer). first_of (p ∷ refused (refusal event x) ∷ full event x m ∷ still event m.locks ∷ latched event x m.sessions ∷ [])) (ap (λ (p : Option ℕ). stops p event x) e ∙ halts offset)) ∙ away) free

stops_at : (s : ℕ) (point : Point) (x : Option Session) (offset : ℕ) → stops (Some offset) (event_at s point) x ≡ Some (Stopped offset)
stops_at s Object x offset = refl
stops_at s Plan x offset = refl
stops_at s (Locks zero) x offset = refl
stops_at s (Locks (suc left)) x offset = refl

pub not_away : (s : ℕ) (op : Op) (m : Kernel) (at : ℕ → Standing) → Sound m → OthersRest s m at → (y : Session) → IsAt m s y → IsCalm m s → (point : Point) → StageFits y.stage op point
    → (answer : Answer) → turned_away m (event_at s point) ≡ Some answer → fault_in answer ≡ None → ⊥
not_away s op m at sound rest y here calm point fits = only_stops m (event_at s point) (stops_at s point (found_for (event_at s point) m.sessions)) (let_by s op m at sound rest y here calm point fits)

-- a session whose operation no longer waits is calm
pub woken_calm : (k : Kernel) (s : ℕ) (op : Op) (y : Session) (point : Point) → IsAt k s y → StagedAt y.stage op point → still_waits k s point ≡ false → IsCalm k s
woken_calm k s op y Object here is woken goes = go (waiting_in s k.locks) refl
  where
    differ : true ≡ false → ⊥
    differ h = cc

    go : (o : Option Row) → waiting_in s k.locks ≡ o → o ≡ None
    go None e = refl
    go (Some row) e =
        absurd (differ (sym (ap says_still (fourth_first (stops k.stopped (AskName s) (session_at s k.sessions)) (refused (refusal (AskName s) (session_at s k.sessions))) None (still (AskName s) k.locks) None _
        (ap (λ (p : Option ℕ). stops p (AskName s) (session_at s k.sessions)) goes) (ap refused (ap (refusal (AskName s)) here ∙ ap name_refused is)) refl (ap still_for e))) ∙ woken))
woken_calm k s op y Plan here is woken goes = go (waiting_in s k.locks) refl
  where
    differ : true ≡ false → ⊥
    differ h = cc

    go : (o : Option Row) → waiting_in s k.locks ≡ o → o ≡ None
    go None e = refl
    go (Some row) e =
        absurd (differ (sym (ap says_still (fourth_first (stops k.stopped (AskPlan s) (session_at s k.sessions)) (refused (refusal (AskPlan s) (session_at s k.sessions))) None (still (AskPlan s) k.locks) (latched (AskPlan s) (session_at s k.sessions) k.sessions) _
        (ap (λ (p : Option ℕ). stops p (AskPlan s) (session_at s k.sessions)) goes) (ap refused (ap (refusal (AskPlan s)) here ∙ ap plan_refused is)) refl (ap still_for e))) ∙ woken))
woken_calm k s op y (Locks left) here none woken goes = absurd none
