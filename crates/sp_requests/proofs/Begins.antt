-- A begin does what it is to do, and its state fits.
use Rattle.std.proofs.Common.{◌≡◌, ℕ, ◌+◌, ◌≤◌, Bool, true, false, cond, List, [], ◌∷◌, filter, length, sym, ap, ◌∙◌, subst, arith}
use Rattle.std.specs.List.{sum_by}
use Rattle.std.specs.VecDeque.{deque_capacity}
use Rattle.sp_rect.specs.declared.record.Record.{Record}
use Rattle.sp_rect.specs.declared.commit.Commit.{Commit}
use Rattle.sp_audit.specs.declared.ended.Ended.{Ended}
use Rattle.sp_node.specs.Table.{entries_of}
use Rattle.sp_event.specs.declared.event.Event.TheVariants.{Begin}
use Rattle.sp_event.specs.declared.answer.Answer.TheVariants.{Began}
use Rattle.sp_model.specs.declared.session.Session.{Session}
use Rattle.sp_model.specs.State.{Kernel, is_active, with_session}
use Rattle.sp_model.specs.Refusals.{under_way, open_operations, open_transactions, kept_operations}
use Rattle.sp_model.specs.Removal.{IsTakenOut}
use Rattle.sp_model.specs.Stepped.{Does, Begins, records_told}
use Rattle.sp_model.proofs.Counting.{length-sum, with-sum}
use Rattle.sp_state.specs.Stages.{opened}
use Rattle.sp_state.specs.declared.state.State.{State}
use Rattle.sp_state.specs.Held.{Fits}
use Rattle.sp_state.specs.Sketches.{IsSketchOf}

pub begins-done : (k : Kernel) (s : ℕ) (taken : List Commit) (x : Session) (xs : List Session) (base : List Record) (commits : List Commit) (ended : List Ended)
    → taken ≡ k.commits → x ≡ opened k.next_txn s (length taken) → xs ≡ with_session x k.sessions → base ≡ k.base → commits ≡ k.commits → ended ≡ k.ended
    → Does IsTakenOut k (Begin s) (Began k.next_txn (length taken)) (record k { next_txn = k.next_txn + 1; sessions = xs; base = base; commits = commits; ended = ended })
begins-done k s taken x xs base commits ended t e f b c d =
    subst (λ (cs : List Commit). Does IsTakenOut k (Begin s) (Began k.next_txn (length cs)) (record k { next_txn = k.next_txn + 1; sessions = xs; base = base; commits = commits; ended = ended })) (sym t)
    (subst (λ (ys : List Session). Does IsTakenOut k (Begin s) (Began k.next_txn (length k.commits)) (record k { next_txn = k.next_txn + 1; sessions = ys; base = base; commits = commits; ended = ended })) (sym sessions)
    (subst (λ (rs : List Record). Does IsTakenOut k (Begin s) (Began k.next_txn (length k.commits)) (record k { next_txn = k.next_txn + 1; sessions = with_session (opened k.next_txn s (length k.commits)) k.sessions; base = rs; commits = commits; ended = ended })) (sym b)
    (subst (λ (cs : List Commit). Does IsTakenOut k (Begin s) (Began k.next_txn (length k.commits)) (record k { next_txn = k.next_txn + 1; sessions = with_session (opened k.next_txn s (length k.commits)) k.sessions; commits = cs; ended = ended })) (sym c)
    (subst (λ (es : List Ended). Does IsTakenOut k (Begin s) (Began k.next_txn (length k.commits)) (record k { next_txn = k.next_txn + 1; sessions = with_session (opened k.next_txn s (length k.commits)) k.sessions; ended = es })) (sym d)
    (Begins s)))))
  where
    sessions : xs ≡ with_session (opened k.next_txn s (length k.commits)) k.sessions
    sessions = f ∙ ap (λ (y : Session). with_session y k.sessions) (e ∙ ap (λ (cs : List Commit). opened k.next_txn s (length cs)) t)

pub few-open : (xs : List Session) → open_transactions xs ≤ length xs
few-open [] = omega arith
few-open (x ∷ xs) = go (is_active x) (few-open xs)
  where
    go : (b : Bool) → open_transactions xs ≤ length xs → length (cond b (x ∷ filter is_active xs) (filter is_active xs)) ≤ length (x ∷ xs)
    go true h = omega arith
    go false h = omega arith

-- a new transaction has no operation and one end
pub begins-fit : (a b : State) (x : Session) (s seen count : ℕ) → x ≡ opened a.next_txn s seen → b.seats.items ≡ with_session x a.seats.items → b.audit.commits ≡ a.audit.commits
    → count ≡ length a.seats.items → count + 1 ≤ b.audit.spare → b.operations ≡ a.operations → b.records ≡ a.records → b.tree ≡ a.tree → b.dead ≡ a.dead → IsSketchOf b.tree.table b.sketch → Fits a → Fits b
begins-fit a b x s seen count e seats commits counted room operations records tree dead sketch fits = record {
  operations = added b.operations a.operations (kept_operations b.audit.commits) (kept_operations a.audit.commits) (open_operations b.seats.items) (open_operations a.seats.items) operations fits.operations (ap kept_operations commits) (summed (λ (y : Session). length y.txn.ops + under_way y.stage));
  records = added b.records a.records (sum_by (λ c. records_told c.ops) b.audit.commits) (sum_by (λ c. records_told c.ops) a.audit.commits) _ _ records fits.records (ap (λ cs. sum_by (λ c. records_told c.ops) cs) commits) (summed (λ (y : Session). records_told y.txn.ops));
  endings = endings (open_transactions b.seats.items) (open_transactions a.seats.items) (length a.seats.items) count b.audit.spare opened_one (few-open a.seats.items) counted room;
  graves = subst (λ t. length (entries_of t.table) ≤ deque_capacity b.dead) (sym tree) (subst (λ d. length (entries_of a.tree.table) ≤ deque_capacity d) (sym dead) fits.graves);
  sketch = sketch;
}
  where
    sessions : b.seats.items ≡ with_session (opened a.next_txn s seen) a.seats.items
    sessions = seats ∙ ap (λ (y : Session). with_session y a.seats.items) e

    summed : (f : Session → ℕ) → sum_by f (filter is_active b.seats.items) ≡ f (opened a.next_txn s seen) + sum_by f (filter is_active a.seats.items)
    summed f = ap (λ xs. sum_by f (filter is_active xs)) sessions ∙ with-sum f (opened a.next_txn s seen) a.seats.items

    added : (nb na kb ka ob oa : ℕ) → nb ≡ na → na ≡ ka + oa → kb ≡ ka → ob ≡ 0 + oa → nb ≡ kb + ob
    added nb na kb ka ob oa e f g h = omega arith

    opened_one : open_transactions b.seats.items ≡ 1 + open_transactions a.seats.items
    opened_one = length-sum (filter is_active b.seats.items) ∙ summed (λ (y : Session). 1) ∙ ap (λ n. 1 + n) (sym (length-sum (filter is_active a.seats.items)))

    endings : (ob oa l n room : ℕ) → ob ≡ 1 + oa → oa ≤ l → n ≡ l → n + 1 ≤ room → ob ≤ room
    endings ob oa l n room e h c k = omega arith
