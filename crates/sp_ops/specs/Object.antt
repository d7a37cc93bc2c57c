-- The lock that an operation asks before it is planned.
use Rattle.std.specs.Prelude.{Option, Some, None}
use Rattle.sp_rect.specs.declared.operation.Op.{Op}
use Rattle.sp_rect.specs.declared.operation.Op.TheVariants.{Put, Drop, Set, Get, Find, Fill, Clear}
use Rattle.sp_locks.specs.declared.mode.Mode.{Mode}
use Rattle.sp_locks.specs.declared.mode.Mode.TheVariants.{S, X}
use Rattle.sp_locks.specs.declared.row.Name.{Name}
use Rattle.sp_locks.specs.declared.row.Name.TheVariants.{Object}

-- X on the object of the id that it may change, S on that of the id that it reads
abbrev pub object_lock : Op → Option (Name × Mode)
object_lock (Put r) = Some (Object r.id, X)
object_lock (Drop id) = Some (Object id, X)
object_lock (Set id value) = Some (Object id, X)
object_lock (Get id) = Some (Object id, S)
object_lock (Find rect) = None
object_lock (Fill rect value) = None
object_lock (Clear rect) = None
