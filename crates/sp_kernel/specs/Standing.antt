-- Where a session that may commit stands.
use Rattle.std.specs.Prelude.{◌≡◌, ◌≢◌}
use Rattle.sp_model.specs.declared.session.Stage.{Stage}
use Rattle.sp_model.specs.declared.session.Stage.TheVariants.{Queued, Placed}
use Rattle.sp_kernel.specs.declared.committing.Standing.{Standing}
use Rattle.sp_kernel.specs.declared.committing.Standing.TheVariants.{Idle as IsIdle, Queued as IsQueued, Placed as IsPlaced}

-- it waits in the queue, or it has its place, or neither
abbrev pub StandsSo : Standing → Stage → Type 0
StandsSo IsIdle stage = (stage ≢ Queued) × (stage ≢ Placed)
StandsSo IsQueued stage = stage ≡ Queued
StandsSo IsPlaced stage = stage ≡ Placed
