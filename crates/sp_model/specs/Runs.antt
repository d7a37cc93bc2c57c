-- Lists of events.
use Rattle.std.specs.Prelude.{ℕ, List, [], ◌∷◌, ◌++◌}
use Rattle.sp_node.specs.Table.{Table}
use Rattle.sp_event.specs.declared.step.Step.{Step}
use Rattle.sp_model.specs.State.{Kernel}
use Rattle.sp_model.specs.Stepped.{Stepped}

-- these steps, one after the other, lead from one kernel to another
pub data Runs (IsRemoved : Table → ℕ → Table → Type 0) : Kernel → List Step → Kernel → Type 0 where
  Stays : {k : Kernel} → Runs IsRemoved k [] k
  Goes : {k last : Kernel} (between : Kernel) (steps : List Step) (step : Step) → Runs IsRemoved k steps between → Stepped IsRemoved between step.event step.answer last → Runs IsRemoved k (steps ++ step ∷ []) last
