-- Which rows wait after a change of the lock table: only those that waited before, but for the row of a new wait.
use Rattle.std.proofs.Common.{◌≡◌, ◌⊎◌, ℕ, Bool, true, false, List, [], ◌∷◌, ◌++◌, refl, sym, ap, ◌∙◌, subst, inl, inr, true≢false}
use Rattle.sp_locks.specs.declared.mode.Mode.{Mode}
use Rattle.sp_locks.specs.declared.row.Name.{Name}
use Rattle.sp_locks.specs.declared.row.Duration.{Duration}
use Rattle.sp_locks.specs.declared.row.Scope.{Scope}
use Rattle.sp_locks.specs.declared.row.Row.{Row}
use Rattle.sp_locks.specs.declared.needs.Need.{Need}
use Rattle.sp_locks.specs.Rows.{same_name, with_lock}
use Rattle.sp_locks.specs.Table.{rows_on, row_of, with_row_on, released, given}
use Rattle.sp_locks.specs.Soundness.{In}
use Rattle.sp_locks.proofs.Names.{same_is}
use Rattle.sp_locks.proofs.Members.{in-split}
use Rattle.sp_locks.proofs.Once.{waits-same, waiters-with_lock}
use Rattle.sp_locks.proofs.OnNames.{with_row-on, with_row-off}
use Rattle.sp_locks.proofs.Keeping.{in-name, in-table, released-waits}
use Rattle.sp_waits.proofs.Waiting.{on-waiting}
use Rattle.sp_node.specs.Among.{Among}
use Rattle.sp_node.proofs.Among.{among_split}
use Rattle.sp_model.proofs.Holding.{in-among, among-in}

pub released_waits : (scope : Scope) (s : ℕ) (rows : List Row) (r : Row) → Among r (released scope s rows) → r.waiting ≡ true → Among r rows
released_waits scope s rows r i w = in-among r rows (released-waits scope s rows r (among-in r (released scope s rows) i) w)

-- a lock that is raised or added waits for nothing
pub granted_waits : (s : ℕ) (name : Name) (mode : Mode) (duration : Duration) (rows : List Row) (r : Row) → Among r (with_row_on (row_of s name mode duration false) rows) → r.waiting ≡ true → Among r rows
granted_waits s name mode duration rows r i w = in-among r rows (go (same_name r.name name) refl (in-name r (with_row_on lock rows) (among-in r (with_row_on lock rows) i)))
  where
    lock : Row
    lock = row_of s name mode duration false

    on : List Row
    on = rows_on name rows

    go : (b : Bool) → same_name r.name name ≡ b → In r (rows_on r.name (with_row_on lock rows)) → In r rows
    go true e j =
        let k : In r (with_lock lock on) = subst (In r) (with_row-on lock rows) (subst (λ (n : Name). In r (rows_on n (with_row_on lock rows))) (same_is r.name name e) j) in
        (in-table name r rows (waits-same (with_lock lock on) on r (waiters-with_lock lock on refl) k w)).0
    go false e j = (in-table r.name r rows (subst (In r) (with_row-off r.name lock rows e) j)).0

-- the row of a wait comes behind those on its name
pub asked_waits : (s : ℕ) (name : Name) (mode : Mode) (duration : Duration) (rows : List Row) (r : Row) → Among r (with_row_on (row_of s name mode duration true) rows) → r.waiting ≡ true → (r ≡ row_of s name mode duration true) ⊎ Among r rows
asked_waits s name mode duration rows r i w = go (same_name r.name name) refl (in-name r (with_row_on ask rows) (among-in r (with_row_on ask rows) i))
  where
    ask : Row
    ask = row_of s name mode duration true

    old : (n : Name) → In r (rows_on n rows) → (r ≡ ask) ⊎ Among r rows
    old n j = inr (in-among r rows (in-table n r rows j).0)

    last : In r (rows_on name rows) ⊎ In r (ask ∷ []) → (r ≡ ask) ⊎ Among r rows
    last (inl j) = old name j
    last (inr (inl e)) = inl (sym e)
    last (inr (inr none)) = absurd none

    go : (b : Bool) → same_name r.name name ≡ b → In r (rows_on r.name (with_row_on ask rows)) → (r ≡ ask) ⊎ Among r rows
    go true e j = last (in-split r (rows_on name rows) (ask ∷ []) (subst (In r) (on-waiting ask rows refl) (subst (λ (n : Name). In r (rows_on n (with_row_on ask rows))) (same_is r.name name e) j)))
    go false e j = old r.name (subst (In r) (with_row-off r.name ask rows e) j)

none_given : (s : ℕ) (needs : List Need) (r : Row) → Among r (given s needs) → r.waiting ≡ true → ⊥
none_given s [] r i w = absurd i
none_given s (need ∷ needs) r (inl e) w = true≢false (sym w ∙ ap (λ (q : Row). q.waiting) e)
none_given s (need ∷ needs) r (inr i) w = none_given s needs r i w

-- gifts are locks
pub given_waits : (s : ℕ) (needs : List Need) (rows : List Row) (r : Row) → Among r (rows ++ given s needs) → r.waiting ≡ true → Among r rows
given_waits s needs rows r i w = go (among_split r rows (given s needs) i)
  where
    go : Among r rows ⊎ Among r (given s needs) → Among r rows
    go (inl j) = j
    go (inr j) = absurd (none_given s needs r j w)
