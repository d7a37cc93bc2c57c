-- A state in which nothing has happened.
use Rattle.std.proofs.Common.{◌≡◌, ℕ, ◌+◌, ◌≤◌, List, [], length, sym, ap₂, ◌∙◌, subst, arith}
use Rattle.std.specs.VecDeque.{deque_capacity}
use Rattle.sp_rect.specs.declared.commit.Commit.{Commit}
use Rattle.sp_node.specs.Table.{entries_of}
use Rattle.sp_model.specs.declared.session.Session.{Session}
use Rattle.sp_model.specs.Refusals.{open_transactions, open_operations, kept_operations}
use Rattle.sp_model.specs.Stepped.{kept_records}
use Rattle.sp_state.specs.Held.{kernel_of, Fits}
use Rattle.sp_state.specs.declared.state.State.{State}
use Rattle.sp_state.specs.Sketches.{IsSketchOf}

-- what is counted of no sessions and no commits
pub first_fits : (s : State) → s.seats.items ≡ [] → s.audit.commits ≡ [] → s.operations ≡ 0 → s.records ≡ 0 → length (entries_of s.tree.table) ≤ deque_capacity s.dead → IsSketchOf s.tree.table s.sketch → Fits s
first_fits s seats commits operations records graves sketch = record {
  operations = operations ∙ sym (ap₂ (λ (cs : List Commit) (xs : List Session). kept_operations cs + open_operations xs) commits seats);
  records = records ∙ sym (ap₂ (λ (cs : List Commit) (xs : List Session). kept_records (record (kernel_of s) { commits = cs; sessions = xs })) commits seats);
  endings = subst (λ (xs : List Session). open_transactions xs ≤ s.audit.spare) (sym seats) (least s.audit.spare);
  graves = graves;
  sketch = sketch;
}
  where
    least : (n : ℕ) → 0 ≤ n
    least n = omega arith
