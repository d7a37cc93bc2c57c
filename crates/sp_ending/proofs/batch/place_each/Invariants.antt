use Rattle.std.proofs.Common.{◌≡◌, drop}
use Rattle.sp_model.specs.State.{Kernel}
use Rattle.sp_state.specs.Held.{kernel_of, Fits}
use Rattle.sp_ending.specs.Ends.{Placing}
use Rattle.sp_ending.proofs.batch.place_each.Given as goal

abbrev pub invariant-batch : goal.invariant-batch
invariant-batch l =
    ((before : Kernel) → Placing before l.initial.state.flight.items l.from (kernel_of l.initial.state) → Placing before (drop l.i l.initial.state.flight.items) l.from (kernel_of l.state))
    × (l.state.flight.items ≡ l.initial.state.flight.items) × Fits l.state
