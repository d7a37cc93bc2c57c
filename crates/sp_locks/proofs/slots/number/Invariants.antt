use Rattle.std.specs.Map.{lookup}
use Rattle.sp_locks.specs.declared.row.Name.{Name}
use Rattle.sp_locks.specs.Rows.{same_name}
use Rattle.sp_locks.proofs.Numbering.{Settled}
use Rattle.sp_locks.proofs.slots.number.Given as goal

abbrev pub invariant-loop-i : goal.invariant-loop-i
invariant-loop-i l = (n : Name) → Settled (λ v. v.items) n (lookup (same_name n) l.places.entries) l.i l.slots
