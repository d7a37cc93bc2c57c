use Rattle.std.proofs.Common.{◌≡◌, take}
use Rattle.sp_locks.specs.declared.row.Name.{Name}
use Rattle.sp_ops.specs.Wanted.{joined_on, noted}
use Rattle.sp_ops.proofs.wants.note_all.Given as goal

abbrev pub invariant-loop-want : goal.invariant-loop-want
invariant-loop-want l = (name : Name) → noted l.modes name ≡ joined_on name (take l.want-index l.wants)
