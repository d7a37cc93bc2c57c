-- The locks that an operation asks for, and the one that it asks for next.
use Rattle.std.specs.Prelude.{◌≡◌, List, Option, Some, None, slice_get}
use Rattle.sp_rect.specs.declared.operation.Op.{Op}
use Rattle.sp_locks.specs.declared.mode.Mode.{Mode}
use Rattle.sp_locks.specs.declared.row.Name.{Name}
use Rattle.sp_locks.specs.declared.row.Duration.TheVariants.{Commit}
use Rattle.sp_locks.specs.declared.needs.Need.{Need}
use Rattle.sp_model.specs.declared.session.Stage.{Stage}
use Rattle.sp_model.specs.declared.session.Stage.TheVariants.{Started, Planned}
use Rattle.sp_model.specs.declared.session.Session.{Session}
use Rattle.sp_model.specs.State.{Kernel}
use Rattle.sp_model.specs.Plans.{object_of, HasNeeds, left_to_ask}
use Rattle.sp_state.specs.Stages.{op_of}

-- a lock on an object is held to the end
abbrev pub to_the_end : Option (Name × Mode) → Option Need
to_the_end None = None
to_the_end (Some lock) = Some (record { name = lock.0; mode = lock.1; duration = Commit })

-- the lock on the object of an operation that is started
abbrev pub object_need : Stage → Option Need
object_need (Started op) = to_the_end (object_of op)
object_need stage = None

-- the first of the needs that are left to a planned operation
abbrev pub next_need : Stage → Option Need
next_need (Planned op left) = slice_get left 0
next_need stage = None

-- these of the needs of the session's operation are left to ask
pub record IsLeft (k : Kernel) (x : Session) (left : List Need) : Type 0 where
  pub op : Op
  pub under_way : op_of x.stage ≡ Some op
  pub commit : List Need
  pub short : List Need
  pub needs : HasNeeds k x op commit short
  pub is : left ≡ left_to_ask k.locks x.txn.session commit short
