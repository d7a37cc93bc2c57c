-- The counters and rooms, as sessions come to other stages, or go with nothing that is counted.
use Rattle.std.proofs.Common.{◌≡◌, ℕ, ◌+◌, ◌≤◌, Bool, true, false, cond, List, [], ◌∷◌, ◌++◌, filter, length, ap, ◌∙◌, subst, arith}
use Rattle.std.specs.List.{sum_by}
use Rattle.std.proofs.lemmas.List.Sums.{sum_by_push}
use Rattle.std.specs.VecDeque.{deque_capacity}
use Rattle.sp_rect.specs.declared.commit.Commit.{Commit}
use Rattle.sp_node.specs.Among.{Among}
use Rattle.sp_node.specs.Table.{entries_of}
use Rattle.sp_model.specs.declared.session.Session.{Session}
use Rattle.sp_model.specs.State.{is_active, sessions_without, with_change}
use Rattle.sp_model.specs.Moves.{at_place}
use Rattle.sp_model.specs.Refusals.{under_way, open_transactions, kept_operations}
use Rattle.sp_model.specs.Stepped.{records_told}
use Rattle.sp_model.specs.Soundness.{AreAscending}
use Rattle.sp_model.proofs.Counting.{without-sum, change-sum, length-sum, share}
use Rattle.sp_state.specs.declared.state.State.{State}
use Rattle.sp_state.specs.Held.{Fits}
use Rattle.sp_state.specs.Sketches.{IsSketchOf}

-- the sums by which the sessions are counted
abbrev pub counted-operations : Session → ℕ
counted-operations x = length x.txn.ops + under_way x.stage

abbrev pub counted-records : Session → ℕ
counted-records x = records_told x.txn.ops

abbrev pub counted-one : Session → ℕ
counted-one x = 1

abbrev pub sum-of : (Session → ℕ) → List Session → ℕ
sum-of f xs = sum_by f (filter is_active xs)

open-sum : (xs : List Session) → open_transactions xs ≡ sum-of counted-one xs
open-sum xs = length-sum (filter is_active xs)

-- the sums after, and what the audit took, make up the counters
pub fits-by : (s s' : State) → Fits s
    → s'.operations + (kept_operations s.audit.commits + sum-of counted-operations s.seats.items) ≡ s.operations + (kept_operations s'.audit.commits + sum-of counted-operations s'.seats.items)
    → s'.records + (sum_by (λ c. records_told c.ops) s.audit.commits + sum-of counted-records s.seats.items) ≡ s.records + (sum_by (λ c. records_told c.ops) s'.audit.commits + sum-of counted-records s'.seats.items)
    → sum-of counted-one s'.seats.items + s.audit.spare ≤ sum-of counted-one s.seats.items + s'.audit.spare
    → length (entries_of s'.tree.table) ≤ deque_capacity s'.dead → IsSketchOf s'.tree.table s'.sketch → Fits s'
fits-by s s' fits ops told ended room sketch = record {
  operations = let a = fits.operations in omega (arith, a, ops);
  records = let a = fits.records in omega (arith, a, told);
  endings = let a = fits.endings in let b = open-sum s.seats.items in let d = open-sum s'.seats.items in omega (arith, a, b, d, ended);
  graves = room;
  sketch = sketch;
}

module _ (s : State) (x : Session) (fits : Fits s) (ascending : AreAscending s.seats.items) (here : Among x s.seats.items) where
  -- a session changes, and nothing that is counted does
  pub fits-changed : (change : Session → Session) (s' : State)
      → share counted-operations (change x) ≡ share counted-operations x → share counted-records (change x) ≡ share counted-records x → share counted-one (change x) ≡ share counted-one x
      → s'.seats.items ≡ with_change x.txn.session change s.seats.items → s'.audit ≡ s.audit → s'.operations ≡ s.operations → s'.records ≡ s.records → s'.tree ≡ s.tree → s'.dead ≡ s.dead → IsSketchOf s'.tree.table s'.sketch → Fits s'
  fits-changed change s' ops told one seats audit operations records tree dead sketch =
      fits-by s s' fits
      (rw (seats, audit, operations) (let a = change-sum counted-operations change s.seats.items ascending x here in omega (arith, a, ops)))
      (rw (seats, audit, records) (let a = change-sum counted-records change s.seats.items ascending x here in omega (arith, a, told)))
      (rw (seats, audit) (let a = change-sum counted-one change s.seats.items ascending x here in omega (arith, a, one)))
      (rw (tree, dead) fits.graves)
      sketch

  -- a session goes that has its place
  pub fits-told : (s' : State) → is_active x ≡ false → s'.seats.items ≡ sessions_without x.txn.session s.seats.items → s'.audit ≡ s.audit → s'.operations ≡ s.operations → s'.records ≡ s.records → s'.tree ≡ s.tree → s'.dead ≡ s.dead → IsSketchOf s'.tree.table s'.sketch → Fits s'
  fits-told s' placed seats audit operations records tree dead sketch =
      fits-by s s' fits
      (rw (seats, audit, operations) (let a = goes counted-operations in omega (arith, a)))
      (rw (seats, audit, records) (let a = goes counted-records in omega (arith, a)))
      (rw (seats, audit) (let a = goes counted-one in omega (arith, a)))
      (rw (tree, dead) fits.graves)
      sketch
    where
      goes : (f : Session → ℕ) → sum-of f (sessions_without x.txn.session s.seats.items) ≡ sum-of f s.seats.items
      goes f = let a = without-sum f s.seats.items ascending x here in let b : share f x ≡ 0 = ap (λ (b : Bool). cond b (f x) 0) placed in omega (arith, a, b)

-- what an active session is counted as goes with it
pub goes-without : (xs : List Session) (x : Session) → AreAscending xs → Among x xs → is_active x ≡ true → (f : Session → ℕ) → sum-of f (sessions_without x.txn.session xs) + f x ≡ sum-of f xs
goes-without xs x ascending here active f = subst (λ (b : Bool). sum-of f (sessions_without x.txn.session xs) + cond b (f x) 0 ≡ sum-of f xs) active (without-sum f xs ascending x here)

-- and as it takes its place
pub goes-placed : (xs : List Session) (x : Session) → AreAscending xs → Among x xs → is_active x ≡ true → (f : Session → ℕ) → sum-of f (with_change x.txn.session at_place xs) + f x ≡ sum-of f xs
goes-placed xs x ascending here active f =
    let a : sum-of f (with_change x.txn.session at_place xs) + f x ≡ sum-of f xs + 0 = subst (λ (b : Bool). sum-of f (with_change x.txn.session at_place xs) + cond b (f x) 0 ≡ sum-of f xs + 0) active (change-sum f at_place xs ascending x here) in
    omega (arith, a)

-- an active session leaves its room to its commit
pub room-left : (s : State) (x : Session) → Fits s → AreAscending s.seats.items → Among x s.seats.items → is_active x ≡ true → 1 ≤ s.audit.spare
room-left s x fits ascending here active = let a = fits.endings in let b = open-sum s.seats.items in let d = goes-without s.seats.items x ascending here active counted-one in omega (arith, a, b, d)

-- what was counted of an active session is counted of its commit
pub fits-committed : (s s' : State) (x : Session) (c : Commit) → Fits s → under_way x.stage ≡ 0 → ((f : Session → ℕ) → sum-of f s'.seats.items + f x ≡ sum-of f s.seats.items)
    → s'.audit.commits ≡ s.audit.commits ++ c ∷ [] → c.ops ≡ x.txn.ops → s.audit.spare ≤ s'.audit.spare + 1 → s'.operations ≡ s.operations → s'.records ≡ s.records → length (entries_of s'.tree.table) ≤ deque_capacity s'.dead → IsSketchOf s'.tree.table s'.sketch → Fits s'
fits-committed s s' x c fits quiet gone commits same spare operations records room sketch =
    fits-by s s' fits
    (let a = gone counted-operations in let b = ap kept_operations commits ∙ sum_by_push (λ (d : Commit). length d.ops) s.audit.commits c in let e = ap length same in omega (arith, a, b, e, quiet, operations))
    (let a = gone counted-records in let b = ap (sum_by (λ (d : Commit). records_told d.ops)) commits ∙ sum_by_push (λ (d : Commit). records_told d.ops) s.audit.commits c in let e = ap records_told same in omega (arith, a, b, e, records))
    (let a = gone counted-one in omega (arith, a, spare))
    room
    sketch
