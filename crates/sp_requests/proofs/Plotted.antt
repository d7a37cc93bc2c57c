-- A plan of an operation: what a sound kernel gives it, and what it does.
use Rattle.std.proofs.Common.{◌≡◌, ◌≢◌, ◌⊎◌, ℕ, ◌<◌, true, List, length, Option, Some, None, refl, sym, ap, ◌∙◌, subst, inl, inr, arith}
use Rattle.std.specs.Prelude.{MatchOption, slice_set}
use Rattle.sp_rect.specs.declared.operation.Op.{Op}
use Rattle.sp_rect.specs.Store.{IsOrdered}
use Rattle.sp_locks.specs.declared.needs.Need.{Need}
use Rattle.sp_node.specs.declared.node.Entry.{Entry}
use Rattle.sp_node.specs.Among.{Among}
use Rattle.sp_node.specs.Index.{leaf_with}
use Rattle.sp_node.specs.Standing.{HasNoEntry, IsLeafOf}
use Rattle.sp_node.specs.Table.{Table, IsValid, entries_of, places_of}
use Rattle.sp_node.proofs.Among.{among_flat_map}
use Rattle.sp_node.proofs.Single.{own}
use Rattle.sp_node.proofs.Standing.{own_all, leaf_stands}
use Rattle.sp_txn.specs.Visible.{live, view}
use Rattle.sp_protection.proofs.Rearranging.{run_ordered}
use Rattle.sp_event.specs.declared.event.Event.TheVariants.{Plan}
use Rattle.sp_event.specs.declared.answer.Answer.TheVariants.{Planned as IsPlanned}
use Rattle.sp_event.specs.declared.answer.Why.{Why}
use Rattle.sp_model.specs.declared.session.Session.{Session}
use Rattle.sp_model.specs.declared.session.Stage.{Stage}
use Rattle.sp_model.specs.declared.session.Stage.TheVariants.{Idle, Started, NameWait, Named, NeedWait, Planned, Queued, Placed}
use Rattle.sp_model.specs.State.{Kernel, entries_in, is_active, is_active_stage, at_stage, staged}
use Rattle.sp_model.specs.Refusals.{turned_away, refusal, plan_refused}
use Rattle.sp_model.specs.Plans.{left_to_ask}
use Rattle.sp_model.specs.Removal.{IsTakenOut}
use Rattle.sp_model.specs.Stepped.{Does, Plans}
use Rattle.sp_model.specs.Soundness.{Sound}
use Rattle.sp_model.proofs.Endings.{run_all}
use Rattle.sp_model.proofs.Turned.{is_let}
use Rattle.sp_state.specs.Stages.{op_of, planned}
use Rattle.sp_requests.specs.Wanted.{IsLeft}
use Rattle.sp_requests.proofs.Seating.{StandsAt, staged-set}
use Rattle.sp_requests.proofs.Asked.{KeepsCounts}

-- what an active transaction sees has distinct ids
pub sees-ordered : (k : Kernel) (x : Session) → Sound k → Among x k.sessions → is_active x ≡ true → IsOrdered (view (entries_in k) x.txn.number)
sees-ordered k x sound here active = subst IsOrdered (sound.replays x here active).same_view (run_ordered x.txn.ops (live (entries_in k)) (subst IsOrdered (sym sound.current) (run_all k.base k.commits sound.base)))

-- a number that no entry has is in no leaf
unheld : (t : Table) (q : ℕ) → IsValid t → ((e : Entry) → Among e (entries_of t) → e.number ≢ q) → leaf_with t.nodes q ≡ None
unheld t q valid none = go (leaf_with t.nodes q) (leaf_stands t valid q)
  where
    go : (o : Option ℕ) → MatchOption o (HasNoEntry t q) (IsLeafOf t q) → o ≡ None
    go None h = refl
    go (Some leaf) h = absurd (none h.entry (subst (Among h.entry) (own_all t valid) (among_flat_map own h.entry h.place (places_of t) h.among h.has)) h.is)

-- the next entry number is in no leaf
pub next-unheld : (k : Kernel) → Sound k → leaf_with k.tree.nodes k.next_entry ≡ None
next-unheld k sound = unheld k.tree k.next_entry sound.valid (λ e i. differ e.number k.next_entry (sound.entry_numbers e i))
  where
    differ : (m n : ℕ) → m < n → m ≡ n → ⊥
    differ m n l e = omega arith

-- the stages at which an operation may be planned
some-why : (why : Why) → Some why ≡ None → ⊥
some-why why e = cc

pub plan-let : (k : Kernel) (s at : ℕ) (x : Session) → StandsAt s k.sessions at x → turned_away k (Plan s) ≡ None → plan_refused x.stage ≡ None
plan-let k s at x stands goes = subst (λ (o : Option Session). refusal (Plan s) o ≡ None) stands.found (is_let k (Plan s) goes).refusal

pub may-plan : (stage : Stage) → plan_refused stage ≡ None → is_active_stage stage ≡ true
may-plan (Named op) e = refl
may-plan (NeedWait op) e = refl
may-plan Placed e = absurd (some-why _ e)
may-plan Idle e = refl
may-plan (Started op) e = refl
may-plan (NameWait op) e = refl
may-plan (Planned op left) e = refl
may-plan Queued e = refl

pub has-operation : (stage : Stage) → plan_refused stage ≡ None → op_of stage ≢ None
has-operation (Named op) e = some op
  where
    some : (op : Op) → Some op ≡ None → ⊥
    some op e = cc
has-operation (NeedWait op) e = some op
  where
    some : (op : Op) → Some op ≡ None → ⊥
    some op e = cc
has-operation Idle e = absurd (some-why _ e)
has-operation (Started op) e = absurd (some-why _ e)
has-operation (NameWait op) e = absurd (some-why _ e)
has-operation (Planned op left) e = absurd (some-why _ e)
has-operation Queued e = absurd (some-why _ e)
has-operation Placed e = absurd (some-why _ e)

-- it has its object, or has waited for a need, and is planned then
record IsReady (stage : Stage) (op : Op) (left : List Need) : Type 0 where
  ready : (stage ≡ Named op) ⊎ (stage ≡ NeedWait op)
  then : planned left stage ≡ Planned op left

is_ready : (stage : Stage) (op : Op) (left : List Need) → plan_refused stage ≡ None → op_of stage ≡ Some op → IsReady stage op left
is_ready (Named o) op left h e = record { ready = inl (ap Named (one o op e)); then = ap (λ p. Planned p left) (one o op e) }
  where
    one : (o p : Op) → Some o ≡ Some p → o ≡ p
    one o p e = cc
is_ready (NeedWait o) op left h e = record { ready = inr (ap NeedWait (one o op e)); then = ap (λ p. Planned p left) (one o op e) }
  where
    one : (o p : Op) → Some o ≡ Some p → o ≡ p
    one o p e = cc
is_ready Idle op left h e = absurd (some-why _ h)
is_ready (Started o) op left h e = absurd (some-why _ h)
is_ready (NameWait o) op left h e = absurd (some-why _ h)
is_ready (Planned o l) op left h e = absurd (some-why _ h)
is_ready Queued op left h e = absurd (some-why _ h)
is_ready Placed op left h e = absurd (some-why _ h)

pub planned-keeps : (left : List Need) → KeepsCounts (planned left)
planned-keeps left Idle = (refl, refl)
planned-keeps left (Started op) = (refl, refl)
planned-keeps left (NameWait op) = (refl, refl)
planned-keeps left (Named op) = (refl, refl)
planned-keeps left (NeedWait op) = (refl, refl)
planned-keeps left (Planned op rest) = (refl, refl)
planned-keeps left Queued = (refl, refl)
planned-keeps left Placed = (refl, refl)

pub plans-done : (k : Kernel) (s at : ℕ) (x y : Session) (left : List Need) (count : ℕ) → Sound k → turned_away k (Plan s) ≡ None → StandsAt s k.sessions at x → IsLeft k x left → count ≡ length left
    → y ≡ at_stage (planned left x.stage) x → Does IsTakenOut k (Plan s) (IsPlanned count) (record k { sessions = slice_set k.sessions at y })
plans-done k s at x y left count sound goes stands l counted e =
    let those : left ≡ left_to_ask k.locks s l.commit l.short = l.is ∙ ap (λ n. left_to_ask k.locks n l.commit l.short) stands.is in
    let r = is_ready x.stage l.op left (plan-let k s at x stands goes) l.under_way in
    let sessions : slice_set k.sessions at y ≡ staged s (Planned l.op left) k.sessions =
    staged-set s k.sessions at x y (planned left x.stage) sound.sessions.ascending stands e ∙ ap (λ n. staged n (planned left x.stage) k.sessions) stands.is ∙ ap (λ stage. staged s stage k.sessions) r.then in
    subst (λ n. Does IsTakenOut k (Plan s) (IsPlanned n) (record k { sessions = slice_set k.sessions at y })) (sym counted)
    (subst (λ xs. Does IsTakenOut k (Plan s) (IsPlanned (length left)) (record k { sessions = xs })) (sym sessions)
    (subst (λ (ns : List Need). Does IsTakenOut k (Plan s) (IsPlanned (length ns)) (record k { sessions = staged s (Planned l.op ns) k.sessions })) (sym those)
    (Plans s x l.op l.commit l.short stands.found r.ready l.needs)))
