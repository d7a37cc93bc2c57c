-- A transaction that takes its place.
use Rattle.std.proofs.Common.{◌≡◌, ℕ, ◌+◌, List, [], ◌∷◌, ◌++◌, length, Some, ap, ◌∙◌}
use Rattle.sp_rect.specs.declared.record.Record.{Record}
use Rattle.sp_rect.specs.declared.commit.Commit.{Commit}
use Rattle.sp_locks.specs.declared.row.Row.{Row}
use Rattle.sp_locks.specs.declared.row.Scope.TheVariants.{AllRows}
use Rattle.sp_locks.specs.Table.{released}
use Rattle.sp_node.specs.Change.{table_with}
use Rattle.sp_node.specs.Marks.{settled}
use Rattle.sp_node.specs.Table.{Table, entries_of}
use Rattle.sp_node.specs.declared.node.Entry.{Entry}
use Rattle.sp_node.proofs.Changed.{entries_of_with}
use Rattle.sp_audit.specs.declared.ended.Ended.{Ended}
use Rattle.sp_model.specs.declared.session.Session.{Session}
use Rattle.sp_model.specs.State.{Kernel, entries_in, sessions_without, with_change}
use Rattle.sp_model.specs.Moves.{newly_dead, committed, placed_commit, placed_found, at_place}
use Rattle.sp_model.proofs.Settling.{settled-keeps}
use Rattle.sp_state.specs.Stages.{commit_of}

-- the commit is that of the next place
pub commit-is : (k : Kernel) (x : Session) (c : Commit) (place : ℕ) → c ≡ commit_of x place → place ≡ length k.commits + 1 → c ≡ placed_commit x k
commit-is k x c place is next = is ∙ ap (commit_of x) next

-- the kernel in which a transaction without changes took its place
pub committed-is : (k : Kernel) (x : Session) (tree : Table) (dead : List ℕ) (locks : List Row) (sessions : List Session) (base : List Record) (commits : List Commit) (ended : List Ended)
    → tree ≡ table_with (settled x.txn.number) k.tree → dead ≡ k.dead ++ newly_dead (entries_in k) (entries_of tree) → locks ≡ released AllRows x.txn.session k.locks → sessions ≡ sessions_without x.txn.session k.sessions
    → base ≡ k.base → commits ≡ k.commits ++ placed_commit x k ∷ [] → ended ≡ k.ended
    → record k { tree = tree; dead = dead; locks = locks; sessions = sessions; base = base; commits = commits; ended = ended } ≡ committed x k
committed-is k x tree dead locks sessions base commits ended is died freed left same added stays = λ i. record k {
  tree = is i;
  dead = (died ∙ ap (λ (es : List Entry). k.dead ++ newly_dead (entries_in k) es) (ap entries_of is ∙ entries_of_with (settled x.txn.number) (settled-keeps x.txn.number) k.tree)) i;
  locks = freed i;
  sessions = left i;
  base = same i;
  commits = added i;
  ended = stays i;
}

-- the kernel in which one of a batch did
pub placed-is : (k : Kernel) (x : Session) (tree : Table) (dead : List ℕ) (locks : List Row) (sessions : List Session) (base : List Record) (commits : List Commit) (ended : List Ended)
    → tree ≡ table_with (settled x.txn.number) k.tree → locks ≡ released AllRows x.txn.session k.locks → sessions ≡ with_change x.txn.session at_place k.sessions
    → base ≡ k.base → commits ≡ k.commits ++ placed_commit x k ∷ [] → ended ≡ k.ended
    → record k { tree = tree; dead = dead; locks = locks; sessions = sessions; base = base; commits = commits; ended = ended } ≡ record (placed_found (Some x) k) { dead = dead }
placed-is k x tree dead locks sessions base commits ended is freed left same added stays = λ i. record k {
  tree = is i;
  dead = dead;
  locks = freed i;
  sessions = left i;
  base = same i;
  commits = added i;
  ended = stays i;
}
