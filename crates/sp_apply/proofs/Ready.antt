-- What is known of an operation that may be applied.
use Rattle.std.proofs.Common.{◌≡◌, ℕ, zero, suc, ◌<◌, Bool, true, false, true≢false, List, length, get_or, [], ◌∷◌, None, Some, Option, refl, sym, ap, ◌∙◌, subst, arith}
use Rattle.std.specs.Prelude.{slice_get}
use Rattle.std.specs.Option.{IsSome}
use Rattle.sp_rect.specs.declared.operation.Op.{Op}
use Rattle.sp_rect.specs.declared.operation.Op.TheVariants.{Put, Drop, Set, Get, Find, Fill, Clear}
use Rattle.sp_rect.specs.declared.operation.Reply.{Reply}
use Rattle.sp_rect.specs.declared.record.Record.{Record}
use Rattle.sp_rect.specs.Store.{IsOrdered, replied}
use Rattle.sp_locks.specs.declared.needs.Need.{Need}
use Rattle.sp_node.specs.declared.marks.Marks.{Marks}
use Rattle.sp_node.specs.Among.{Among}
use Rattle.sp_txn.specs.Visible.{live, view}
use Rattle.sp_protection.proofs.Rearranging.{run_ordered}
use Rattle.sp_event.specs.declared.event.Event.TheVariants.{Apply}
use Rattle.sp_model.specs.declared.session.Session.{Session}
use Rattle.sp_model.specs.declared.session.Stage.{Stage}
use Rattle.sp_model.specs.declared.session.Stage.TheVariants.{Idle, Started, NameWait, Named, NeedWait, Planned, Queued, Placed}
use Rattle.sp_model.specs.State.{Kernel, entries_in, is_active, is_active_stage, session_at}
use Rattle.sp_model.specs.Refusals.{apply_refused, refusal, turned_away}
use Rattle.sp_model.specs.Plans.{adds, is_adding}
use Rattle.sp_model.specs.Stepped.{reply_of}
use Rattle.sp_model.specs.Soundness.{Sound}
use Rattle.sp_model.proofs.Endings.{run_all}
use Rattle.sp_model.proofs.Sessions.{found-among}
use Rattle.sp_model.proofs.Staging.{told}
use Rattle.sp_model.proofs.Turned.{is_let}
use Rattle.sp_ops.specs.Effect.{AreMarked}
use Rattle.sp_state.specs.Stages.{op_of}
use Rattle.sp_state.proofs.Standing.{got_at}
use Rattle.sp_apply.specs.Acting.{IsReady, IsEffect}

-- the session has a planned operation with nothing left to ask
pub record MayApply (k : Kernel) (s : ℕ) : Type 0 where
  pub session : Session
  pub op : Op
  pub found : session_at s k.sessions ≡ Some session
  pub planned : session.stage ≡ Planned op []

none : {A : Type 0} {P : Type 0} (a : A) → Some a ≡ None → P
none a e = cc

planned_stage : (stage : Stage) → apply_refused stage ≡ None → (op : Op) × (stage ≡ Planned op [])
planned_stage Idle e = none _ e
planned_stage (Started op) e = none _ e
planned_stage (NameWait op) e = none _ e
planned_stage (Named op) e = none _ e
planned_stage (NeedWait op) e = none _ e
planned_stage (Planned op []) e = (op, refl)
planned_stage (Planned op (need ∷ left)) e = none _ e
planned_stage Queued e = none _ e
planned_stage Placed e = none _ e

pub may_apply : (k : Kernel) (s : ℕ) → turned_away k (Apply s) ≡ None → MayApply k s
may_apply k s goes = go (session_at s k.sessions) refl (is_let k (Apply s) goes).refusal
  where
    go : (o : Option Session) → session_at s k.sessions ≡ o → refusal (Apply s) o ≡ None → MayApply k s
    go None e h = none _ h
    go (Some x) e h = let p = planned_stage x.stage h in record { session = x; op = p.0; found = e; planned = p.1 }

pub active_planned : (x : Session) (op : Op) (left : List Need) → x.stage ≡ Planned op left → is_active x ≡ true
active_planned x op left at = told (λ (stage : Stage). is_active_stage stage ≡ true) x at refl

-- what an active transaction sees has distinct ids
pub sees_ordered : (k : Kernel) (x : Session) → Sound k → Among x k.sessions → is_active x ≡ true → IsOrdered (view (entries_in k) x.txn.number)
sees_ordered k x sound here active =
    let r = sound.replays x here active in
    subst IsOrdered r.same_view (run_ordered x.txn.ops (live (entries_in k)) (subst IsOrdered (sym sound.current) (run_all k.base k.commits sound.base)))

-- who stands at a place stands within the list
pub stands_within : (xs : List Session) (i : ℕ) (x : Session) → slice_get xs i ≡ Some x → i < length xs
stands_within [] i x e = cc
stands_within (y ∷ ys) zero x e = omega arith
stands_within (y ∷ ys) (suc i) x e = let l = stands_within ys i x e in omega (arith, l)

-- the session that stands at the place
pub record IsHere (k : Kernel) (s at : ℕ) (y : Session) : Type 0 where
  pub session : Session
  pub op : Op
  pub ready : IsReady k s at session op
  pub same : y ≡ session

pub seat_is : (xs : List Session) (at : ℕ) (x y : Session) → y ≡ get_or xs at y → slice_get xs at ≡ Some x → y ≡ x
seat_is xs at x y is stands = one y x (sym (got_at xs at y (stands_within xs at x stands) is) ∙ stands)
  where
    one : (a b : Session) → Some a ≡ Some b → a ≡ b
    one a b e = cc

pub is_here : (k : Kernel) (s at : ℕ) (ys : List Session) (y : Session) → turned_away k (Apply s) ≡ None → ys ≡ k.sessions → session_at s ys ≡ slice_get ys at → y ≡ get_or k.sessions at y → IsHere k s at y
is_here k s at ys y goes all stands is =
    let m = may_apply k s goes in
    let here : session_at s k.sessions ≡ slice_get k.sessions at = subst (λ (zs : List Session). session_at s zs ≡ slice_get zs at) all stands in
    let there : slice_get k.sessions at ≡ Some m.session = sym here ∙ m.found in
    record { session = m.session; op = m.op; ready = record { found = m.found; stands = there; planned = m.planned }; same = seat_is k.sessions at m.session y is there }

pub op_here : (x y : Session) (op : Op) → y ≡ x → x.stage ≡ Planned op [] → op_of y.stage ≡ Some op
op_here x y op same planned = ap (λ (z : Session). op_of z.stage) same ∙ ap op_of planned

pub has_op : (stage : Stage) (op : Op) → op_of stage ≡ Some op → IsSome (op_of stage)
has_op stage op e = subst (λ (o : Option Op). IsSome o) (sym e) refl

pub ordered_here : (k : Kernel) (s at : ℕ) (y : Session) → Sound k → IsHere k s at y → IsOrdered (view (entries_in k) y.txn.number)
ordered_here k s at y sound h =
    subst (λ (z : Session). IsOrdered (view (entries_in k) z.txn.number)) (sym h.same)
    (sees_ordered k h.session sound (found-among s k.sessions h.session h.ready.found).0 (active_planned h.session h.op [] h.ready.planned))

-- the reply, and whether the operation adds an entry
module _ (k : Kernel) (s at : ℕ) (y : Session) (h : IsHere k s at y) (reply : Reply) (replies : (op : Op) → op_of y.stage ≡ Some op → reply ≡ replied op (view (entries_in k) y.txn.number)) where
  pub reply_here : reply ≡ reply_of k h.session h.op
  reply_here = replies h.op (op_here h.session y h.op h.same h.ready.planned) ∙ ap (λ (z : Session). reply_of k z h.op) h.same

  pub adding_here : (b : Bool) → ((op : Op) (records : List Record) → op_of y.stage ≡ Some op → reply ≡ replied op records → b ≡ adds op records) → b ≡ is_adding k h.session h.op
  adding_here b test = test h.op (view (entries_in k) h.session.txn.number) (op_here h.session y h.op h.same h.ready.planned) reply_here

  pub put_here : (b : Bool) → b ≡ true → ((op : Op) (records : List Record) → op_of y.stage ≡ Some op → reply ≡ replied op records → b ≡ adds op records)
      → (x : Session) × (r : Record) × IsReady k s at x (Put r) × (is_adding k x (Put r) ≡ true)
  put_here b on test = go h.op h.ready (sym (adding_here b test) ∙ on)
    where
      go : (op : Op) → IsReady k s at h.session op → is_adding k h.session op ≡ true → (x : Session) × (r : Record) × IsReady k s at x (Put r) × (is_adding k x (Put r) ≡ true)
      go (Put r) ready e = (h.session, r, ready, e)
      go (Drop id) ready e = absurd (true≢false (sym e))
      go (Set id value) ready e = absurd (true≢false (sym e))
      go (Get id) ready e = absurd (true≢false (sym e))
      go (Find rect) ready e = absurd (true≢false (sym e))
      go (Fill rect value) ready e = absurd (true≢false (sym e))
      go (Clear rect) ready e = absurd (true≢false (sym e))

  pub stay_here : (b : Bool) (marks : List (ℕ × Marks)) → b ≡ false → ((op : Op) (records : List Record) → op_of y.stage ≡ Some op → reply ≡ replied op records → b ≡ adds op records)
      → ((op : Op) → op_of y.stage ≡ Some op → AreMarked (entries_in k) y.txn.number op marks)
      → (x : Session) × (op : Op) × IsReady k s at x op × IsEffect k x op (record { reply = reply; marks = marks }) × (is_adding k x op ≡ false)
  stay_here b marks off test are = (h.session, h.op, h.ready, record { reply = reply_here; marks = subst (λ (z : Session). AreMarked (entries_in k) z.txn.number h.op marks) h.same (are h.op (op_here h.session y h.op h.same h.ready.planned)) }, sym (adding_here b test) ∙ off)
