-- How sessions stand and operations wait where one session changes, or none does.
use Rattle.std.proofs.Common.{◌≡◌, ◌≢◌, ℕ, Bool, true, false, not, cond, List, [], ◌∷◌, map, filter, nat_eq, refl, sym, ap, ◌∙◌, subst, inl, inr}
use Rattle.std.specs.List.{IsDistinct, AllByRecursion}
use Rattle.std.proofs.lemmas.Map.Keys.{IsDistinct-head, IsDistinct-tail, IsDistinct-cons}
use Rattle.sp_rect.specs.declared.operation.Op.{Op}
use Rattle.sp_node.specs.Among.{Among}
use Rattle.sp_event.specs.declared.answer.Answer.{Answer}
use Rattle.sp_event.specs.declared.answer.Answer.TheVariants.{Refused}
use Rattle.sp_event.specs.declared.answer.Why.{Why}
use Rattle.sp_text.specs.declared.types.Command.{Command}
use Rattle.sp_text.specs.declared.types.Command.TheVariants.{Begin, Do, Commit, Rollback}
use Rattle.sp_model.specs.declared.session.Session.{Session}
use Rattle.sp_model.specs.declared.session.Stage.{Stage}
use Rattle.sp_model.specs.declared.session.Stage.TheVariants.{Idle, NameWait, NeedWait}
use Rattle.sp_model.specs.State.{Kernel}
use Rattle.sp_model.specs.Stepped.{IsAt}
use Rattle.sp_model.proofs.Sessions.{number-same, number-differ, not-true, of_kept}
use Rattle.sp_desk.specs.declared.point.Point.{Point}
use Rattle.sp_desk.specs.declared.point.Point.TheVariants.{Object, Plan, Locks}
use Rattle.sp_desk.specs.declared.stalled.Stalled.{Stalled as Waiter}
use Rattle.sp_desk.proofs.Each.{Each, each_filter}
use Rattle.sp_conduct.specs.Standing.{Standing, standing_with, stands_after}
use Rattle.sp_conduct.proofs.Resting.{StandsSo, Rests, OthersRest, StagedAt, WaitsAt, AreWaiting, KeepsOthers}
use Rattle.sp_conduct.proofs.Others.{kept_waiting}

-- one session stands otherwise
pub rest_with : (s : ℕ) (n : Kernel) (at : ℕ → Standing) (now : Standing) → OthersRest s n at → StandsSo n s now → Rests n (standing_with s now at)
rest_with s n at now others mine v = go (nat_eq s v) refl
  where
    go : (b : Bool) → nat_eq s v ≡ b → StandsSo n v (cond b now (at v))
    go true e = subst (λ (u : ℕ). StandsSo n u now) (number-same s v e) mine
    go false e = others v (λ is. number-differ s v e (sym is))

-- or as it did, where it was refused
refused_same : (command : Command) (why : Why) (was : Standing) → stands_after command (Refused why) was ≡ was
refused_same Begin why was = refl
refused_same (Do op) why was = refl
refused_same Commit why was = refl
refused_same Rollback why was = refl

pub refused_rest : (k n : Kernel) (at : ℕ → Standing) (s : ℕ) (command : Command) (answer : Answer) (why : Why) (was : Standing) → OthersRest s k at → StandsSo k s was → answer ≡ Refused why → n ≡ k → Rests n (standing_with s (stands_after command answer was) at)
refused_rest k n at s command answer why was others mine is same =
    subst (λ (z : Kernel). Rests z (standing_with s (stands_after command answer was) at)) (sym same)
    (rest_with s k at (stands_after command answer was) others (subst (StandsSo k s) (sym (ap (λ (a : Answer). stands_after command a was) is ∙ refused_same command why was)) mine))

-- a session whose stage is none of a wait has no operation that waits
pub waits_apart : (k : Kernel) (w : List Waiter) → Each (WaitsAt k) w → (s : ℕ) → ((y : Session) → IsAt k s y → (op : Op) (point : Point) → StagedAt y.stage op point → ⊥) → (x : Waiter) → Among x w → x.session ≢ s
waits_apart k [] a s none x i = absurd i
waits_apart k (y ∷ w) a s none x (inl e) = λ same. none a.0.0 (subst (λ (n : ℕ). IsAt k n a.0.0) (ap (λ (z : Waiter). z.session) (sym e) ∙ same) a.0.1) y.op y.point a.0.2
waits_apart k (y ∷ w) a s none x (inr i) = waits_apart k w a.1 s none x i

pub idle_unstaged : (stage : Stage) (op : Op) (point : Point) → stage ≡ Idle → StagedAt stage op point → ⊥
idle_unstaged stage op Object e h = differ (sym e ∙ h)
  where
    differ : Idle ≡ NameWait op → ⊥
    differ f = cc
idle_unstaged stage op Plan e h = differ (sym e ∙ h)
  where
    differ : Idle ≡ NeedWait op → ⊥
    differ f = cc
idle_unstaged stage op (Locks left) e h = h

-- some of those that wait
module _ (keep : Waiter → Bool) where
  all_filter : (m : ℕ) (w : List Waiter) → AllByRecursion (λ n. nat_eq m n ≡ false) (map (λ x. x.session) w) → AllByRecursion (λ n. nat_eq m n ≡ false) (map (λ x. x.session) (filter keep w))
  all_filter m [] a = tt
  all_filter m (x ∷ w) a = go (keep x) (all_filter m w a.1)
    where
      go : (b : Bool) → AllByRecursion (λ n. nat_eq m n ≡ false) (map (λ x. x.session) (filter keep w)) → AllByRecursion (λ n. nat_eq m n ≡ false) (map (λ x. x.session) (cond b (x ∷ filter keep w) (filter keep w)))
      go true rest = (a.0, rest)
      go false rest = rest

  distinct_filter : (w : List Waiter) → IsDistinct nat_eq (map (λ x. x.session) w) → IsDistinct nat_eq (map (λ x. x.session) (filter keep w))
  distinct_filter [] d = d
  distinct_filter (x ∷ w) d = go (keep x) (distinct_filter w (IsDistinct-tail nat_eq x.session (map (λ x. x.session) w) d))
    where
      go : (b : Bool) → IsDistinct nat_eq (map (λ x. x.session) (filter keep w)) → IsDistinct nat_eq (map (λ x. x.session) (cond b (x ∷ filter keep w) (filter keep w)))
      go true rest = IsDistinct-cons nat_eq x.session (map (λ x. x.session) (filter keep w)) (all_filter x.session w (IsDistinct-head nat_eq x.session (map (λ x. x.session) w) d)) rest
      go false rest = rest

  pub filter_waiting : (k : Kernel) (w : List Waiter) → AreWaiting k w → AreWaiting k (filter keep w)
  filter_waiting k w waiting = record { each = each_filter (WaitsAt k) keep w waiting.each; once = distinct_filter w waiting.once }

-- those of the others wait on
pub freed_waiting : (s : ℕ) (k n : Kernel) (w : List Waiter) → KeepsOthers s k n → AreWaiting k w → AreWaiting n (filter (λ x. not (nat_eq x.session s)) w)
freed_waiting s k n w keeps waiting =
    kept_waiting s k n (filter (λ x. not (nat_eq x.session s)) w) keeps
    (λ x i. number-differ x.session s (not-true (nat_eq x.session s) (of_kept (λ y. not (nat_eq y.session s)) x w i).1)) (filter_waiting (λ x. not (nat_eq x.session s)) k w waiting)
