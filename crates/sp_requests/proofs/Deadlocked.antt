-- A deadlock undoes its transaction, and the audit keeps it.
use Rattle.std.proofs.Common.{◌≡◌, ℕ, ◌+◌, ◌<◌, ◌≤◌, List, [], ◌∷◌, ◌++◌, length, filter, Some, sym, ap, ◌∙◌, subst, get_or, arith}
use Rattle.std.specs.Prelude.{slice_get}
use Rattle.std.specs.List.{sum_by}
use Rattle.std.specs.VecDeque.{deque_capacity}
use Rattle.sp_node.specs.Table.{entries_of}
use Rattle.sp_rect.specs.declared.record.Record.{Record}
use Rattle.sp_rect.specs.declared.commit.Commit.{Commit}
use Rattle.sp_locks.specs.declared.row.Row.{Row}
use Rattle.sp_locks.specs.declared.row.Scope.TheVariants.{ShortLocks}
use Rattle.sp_locks.specs.Table.{released}
use Rattle.sp_waits.specs.declared.edge.Edge.{Edge}
use Rattle.sp_audit.specs.declared.ended.Ended.{Ended}
use Rattle.sp_model.specs.declared.session.Session.{Session}
use Rattle.sp_model.specs.State.{Kernel, is_active}
use Rattle.sp_model.specs.Refusals.{open_transactions, open_operations, kept_operations}
use Rattle.sp_model.specs.Moves.{rolled_back, let_short_go, with_ended}
use Rattle.sp_model.specs.Stepped.{records_told}
use Rattle.sp_state.proofs.Standing.{got_at}
use Rattle.sp_state.specs.declared.state.State.{State}
use Rattle.sp_state.specs.Held.{Fits}
use Rattle.sp_state.specs.Sketches.{IsSketchOf}
use Rattle.sp_requests.proofs.Begins.{few-open}
use Rattle.sp_requests.proofs.Seating.{told_in}

-- the ended transaction takes no more than the room that is made for it
pub end-fits : (a b : State) (count room : ℕ) → b.seats ≡ a.seats → b.operations ≡ a.operations → b.records ≡ a.records → b.tree ≡ a.tree → b.dead ≡ a.dead → b.audit.commits ≡ a.audit.commits
    → count ≡ length a.seats.items → count + 1 ≤ room → room ≤ b.audit.spare + 1 → IsSketchOf b.tree.table b.sketch → Fits a → Fits b
end-fits a b count room seats operations records tree dead commits counted made left sketch fits = record {
  operations = operations ∙ fits.operations ∙ ap (λ (cs : List Commit). kept_operations cs + open_operations a.seats.items) (sym commits) ∙ ap (λ v. kept_operations b.audit.commits + open_operations v.items) (sym seats);
  records = records ∙ fits.records ∙ ap (λ (cs : List Commit). sum_by (λ c. records_told c.ops) cs + told_in a) (sym commits) ∙ ap (λ v. sum_by (λ c. records_told c.ops) b.audit.commits + sum_by (λ (y : Session). records_told y.txn.ops) (filter is_active v.items)) (sym seats);
  endings = subst (λ v. open_transactions v.items ≤ b.audit.spare) (sym seats) (enough (open_transactions a.seats.items) (length a.seats.items) count room b.audit.spare (few-open a.seats.items) counted made left);
  graves = subst (λ t. length (entries_of t.table) ≤ deque_capacity b.dead) (sym tree) (subst (λ d. length (entries_of a.tree.table) ≤ deque_capacity d) (sym dead) fits.graves);
  sketch = sketch;
}
  where
    enough : (active l n room spare : ℕ) → active ≤ l → n ≡ l → n + 1 ≤ room → room ≤ spare + 1 → active ≤ spare
    enough active l n room spare f c m h = omega arith

-- the session in its place is the one
pub one-there : (xs : List Session) (at : ℕ) (x y : Session) → at < length xs → x ≡ get_or xs at x → slice_get xs at ≡ Some y → x ≡ y
one-there xs at x y bound value got = one (sym (got_at xs at x bound value) ∙ got)
  where
    one : Some x ≡ Some y → x ≡ y
    one e = cc

-- the end is noted, and the short locks go, before the transaction is undone
pub end-done : (k after : Kernel) (x seat : Session) (txn s : ℕ) (told cycle : List Edge) (base : List Record) (commits : List Commit) (ended : List Ended) (rows : List Row)
    → seat ≡ x → txn ≡ seat.txn.number → s ≡ seat.txn.session → told ≡ cycle → base ≡ k.base → commits ≡ k.commits → ended ≡ k.ended ++ record { txn = txn; cycle = told } ∷ [] → rows ≡ released ShortLocks s k.locks
    → after ≡ rolled_back x (record k { base = base; commits = commits; ended = ended; locks = rows })
    → after ≡ with_ended x.txn.number cycle (rolled_back x (let_short_go x.txn.session k))
end-done k after x seat txn s told cycle base commits ended rows is t n c b cs es rs e =
    e
    ∙ ap (λ (v : List Record). rolled_back x (record k { base = v; commits = commits; ended = ended; locks = rows })) b
    ∙ ap (λ (v : List Commit). rolled_back x (record k { commits = v; ended = ended; locks = rows })) cs
    ∙ ap (λ (v : List Ended). rolled_back x (record k { ended = v; locks = rows })) (es ∙ ap (λ m. k.ended ++ record { txn = m; cycle = told } ∷ []) (t ∙ ap (λ (y : Session). y.txn.number) is) ∙ ap (λ (v : List Edge). k.ended ++ record { txn = x.txn.number; cycle = v } ∷ []) c)
    ∙ ap (λ (v : List Row). rolled_back x (record k { ended = k.ended ++ record { txn = x.txn.number; cycle = cycle } ∷ []; locks = v })) (rs ∙ ap (λ m. released ShortLocks m k.locks) (n ∙ ap (λ (y : Session). y.txn.session) is))
