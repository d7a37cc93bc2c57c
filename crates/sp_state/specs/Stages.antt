-- The ways of an operation from stage to stage, and of a session from its first to its last.
use Rattle.std.specs.Prelude.{ℕ, List, [], ◌++◌, ◌∷◌, drop, Option, Some, None}
use Rattle.sp_rect.specs.Plane.{Rectangle}
use Rattle.sp_rect.specs.declared.commit.Commit.{Commit}
use Rattle.sp_rect.specs.declared.operation.Op.{Op}
use Rattle.sp_rect.specs.declared.operation.Op.TheVariants.{Put, Drop, Set, Get, Find, Fill, Clear}
use Rattle.sp_rect.specs.declared.operation.Reply.{Reply}
use Rattle.sp_locks.specs.declared.needs.Need.{Need}
use Rattle.sp_model.specs.declared.session.Session.{Session}
use Rattle.sp_model.specs.declared.session.Stage.{Stage}
use Rattle.sp_model.specs.declared.session.Stage.TheVariants.{Idle, Started, NameWait, Named, NeedWait, Planned, Queued, Placed}
use Rattle.sp_model.specs.State.{at_stage}
use Rattle.sp_model.specs.Moves.{lengthened}

-- a session whose transaction has begun
abbrev pub opened : ℕ → ℕ → ℕ → Session
opened number session seen = record { txn = record { number = number; session = session; seen = seen; ops = []; searches = [] }; stage = Idle }

-- the operation under way
abbrev pub op_of : Stage → Option Op
op_of (Started op) = Some op
op_of (NameWait op) = Some op
op_of (Named op) = Some op
op_of (NeedWait op) = Some op
op_of (Planned op left) = Some op
op_of stage = None

-- an operation that is started or waits for its object has the lock on it
abbrev pub named : Stage → Stage
named (Started op) = Named op
named (NameWait op) = Named op
named stage = stage

-- an operation that is started waits for its object
abbrev pub awaiting_name : Stage → Stage
awaiting_name (Started op) = NameWait op
awaiting_name stage = stage

-- an operation that has its object is planned
abbrev pub planned : List Need → Stage → Stage
planned left (Named op) = Planned op left
planned left (NeedWait op) = Planned op left
planned left stage = stage

-- the first need of a planned operation is met
abbrev pub asked : Stage → Stage
asked (Planned op left) = Planned op (drop 1 left)
asked stage = stage

-- a planned operation waits for one of its needs
abbrev pub awaiting_need : Stage → Stage
awaiting_need (Planned op left) = NeedWait op
awaiting_need stage = stage

-- the rectangle that an operation looks at
abbrev pub area : Op → Option Rectangle
area (Find rect) = Some rect
area (Fill rect value) = Some rect
area (Clear rect) = Some rect
area op = None

abbrev pub planned_area : Stage → Option Rectangle
planned_area (Planned op left) = area op
planned_area stage = None

-- a planned operation is done, and joins those of the transaction with its reply
abbrev pub kept_at : Stage → Reply → Session → Session
kept_at (Planned op left) reply x = at_stage Idle (lengthened op reply x)
kept_at stage reply x = x

abbrev pub kept : Reply → Session → Session
kept reply x = kept_at x.stage reply x

-- the commit of the session's transaction at a place
abbrev pub commit_of : Session → ℕ → Commit
commit_of x place = record { session = x.txn.session; txn = x.txn.number; seen = x.txn.seen; place = place; ops = x.txn.ops }
