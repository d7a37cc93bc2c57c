use Rattle.std.proofs.Common.{◌≡◌, drop, slice_get}
use Rattle.sp_locks.specs.Slots.{rows_of}
use Rattle.sp_locks.proofs.slots.Slots.row.Given as goal

abbrev pub invariant-loop-k : goal.invariant-loop-k
invariant-loop-k l = slice_get (rows_of (λ v. v.items) l.self-inside.slots.items) l.i ≡ slice_get (rows_of (λ v. v.items) (drop l.k l.self-inside.slots.items)) l.left
