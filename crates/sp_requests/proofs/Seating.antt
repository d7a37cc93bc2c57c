-- A session that changes its stage in its place, and what a state fits then.
use Rattle.std.proofs.Common.{◌≡◌, ℕ, ◌+◌, ◌<◌, ◌≤◌, true, List, length, filter, Some, sym, ap, ◌∙◌, subst, get_or, arith}
use Rattle.std.specs.Prelude.{slice_get, slice_set}
use Rattle.std.specs.List.{sum_by}
use Rattle.sp_node.specs.Among.{Among}
use Rattle.sp_node.specs.Table.{entries_of}
use Rattle.std.specs.VecDeque.{deque_capacity}
use Rattle.sp_model.specs.declared.session.Session.{Session}
use Rattle.sp_model.specs.declared.session.Stage.{Stage}
use Rattle.sp_model.specs.State.{is_active, is_active_stage, at_stage, staged, session_at}
use Rattle.sp_model.specs.Refusals.{under_way, open_operations, open_transactions, kept_operations}
use Rattle.sp_model.specs.Stepped.{records_told}
use Rattle.sp_model.specs.Soundness.{AreAscending}
use Rattle.sp_model.proofs.Sessions.{found-among}
use Rattle.sp_model.proofs.Limits.{staged-sum, staged-open}
use Rattle.sp_state.proofs.Standing.{with_change-set, got_at}
use Rattle.sp_state.specs.declared.state.State.{State}
use Rattle.sp_state.specs.Held.{Fits}
use Rattle.sp_state.specs.Sketches.{IsSketchOf}

-- the session stands at the place, and it is the one of the number
pub record StandsAt (s : ℕ) (xs : List Session) (at : ℕ) (x : Session) : Type 0 where
  pub found : session_at s xs ≡ Some x
  pub among : Among x xs
  pub is : x.txn.session ≡ s
  pub got : slice_get xs at ≡ Some x

pub stands_at : (s : ℕ) (xs seats : List Session) (at : ℕ) (x : Session) → seats ≡ xs → at < length seats → session_at s seats ≡ slice_get seats at → x ≡ get_or xs at x → StandsAt s xs at x
stands_at s xs seats at x e within there value =
    let bound = subst (λ ys. at < length ys) e within in
    let found : session_at s xs ≡ slice_get xs at = subst (λ ys. session_at s ys ≡ slice_get ys at) e there in
    let got = got_at xs at x bound value in
    let here = found-among s xs x (found ∙ got) in
    record { found = found ∙ got; among = here.0; is = here.1; got = got }

-- what stands at a place is one
pub one-standing : (s : ℕ) (xs : List Session) (at : ℕ) (x y : Session) → StandsAt s xs at x → StandsAt s xs at y → x ≡ y
one-standing s xs at x y a b = one (sym a.got ∙ b.got)
  where
    one : Some x ≡ Some y → x ≡ y
    one e = cc

-- the list, that session at another stage
pub staged-set : (s : ℕ) (xs : List Session) (at : ℕ) (x y : Session) (stage : Stage) → AreAscending xs → StandsAt s xs at x → y ≡ at_stage stage x → slice_set xs at y ≡ staged x.txn.session stage xs
staged-set s xs at x y stage ascending stands e = ap (slice_set xs at) e ∙ with_change-set xs at x (at_stage stage) ascending stands.got

-- the records in the replies that open transactions keep
abbrev pub told_in : State → ℕ
told_in c = sum_by (λ (y : Session). records_told y.txn.ops) (filter is_active c.seats.items)

-- a state whose session is at another stage, and whose count of operations follows it
pub staged-fits : (a b : State) (x : Session) (stage : Stage) → AreAscending a.seats.items → Among x a.seats.items → is_active x ≡ true → is_active_stage stage ≡ true
    → b.seats.items ≡ staged x.txn.session stage a.seats.items → b.operations + under_way x.stage ≡ a.operations + under_way stage
    → b.records ≡ a.records → b.audit ≡ a.audit → b.tree ≡ a.tree → b.dead ≡ a.dead → IsSketchOf b.tree.table b.sketch → Fits a → Fits b
staged-fits a b x stage ascending here active active' seats count records audit tree dead sketch fits = record {
  operations = operations b.operations a.operations (under_way x.stage) (under_way stage) (length x.txn.ops) (kept_operations a.audit.commits) (kept_operations b.audit.commits) (open_operations a.seats.items) (open_operations b.seats.items)
      count fits.operations (ap (λ h. kept_operations h.commits) audit) (ap (λ n. n + (length x.txn.ops + under_way x.stage)) (ap open_operations seats) ∙ staged-sum (λ (y : Session). length y.txn.ops + under_way y.stage) x stage a.seats.items ascending here active active');
  records = records ∙ fits.records ∙ ap (λ n. sum_by (λ c. records_told c.ops) a.audit.commits + n) (sym told) ∙ ap (λ h. sum_by (λ c. records_told c.ops) h.commits + told_in b) (sym audit);
  endings = subst (λ h. open_transactions b.seats.items ≤ h.spare) (sym audit) (subst (λ n. n ≤ a.audit.spare) (sym (ap open_transactions seats ∙ staged-open x stage a.seats.items ascending here active active')) fits.endings);
  graves = subst (λ t. length (entries_of t.table) ≤ deque_capacity b.dead) (sym tree) (subst (λ d. length (entries_of a.tree.table) ≤ deque_capacity d) (sym dead) fits.graves);
  sketch = sketch;
}
  where
    told : told_in b ≡ told_in a
    told = ap (λ xs. sum_by (λ (y : Session). records_told y.txn.ops) (filter is_active xs)) seats ∙ equal _ _ (records_told x.txn.ops) (staged-sum (λ (y : Session). records_told y.txn.ops) x stage a.seats.items ascending here active active')
      where
        equal : (m n c : ℕ) → m + c ≡ n + c → m ≡ n
        equal m n c e = omega arith

    operations : (nb na u v ops ka kb oa ob : ℕ) → nb + u ≡ na + v → na ≡ ka + oa → kb ≡ ka → ob + (ops + u) ≡ oa + (ops + v) → nb ≡ kb + ob
    operations nb na u v ops ka kb oa ob e f g h = omega arith
