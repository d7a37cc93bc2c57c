-- The insertion that was planned last.
use Rattle.std.specs.Prelude.{Option, Some, None}
use Rattle.sp_node.specs.Plan.{IsMadeOf, planned}
use Rattle.sp_node.specs.Table.{Table}
use Rattle.sp_model.specs.Plans.{IsInserted}
use Rattle.sp_state.specs.declared.sketch.Sketch.{Sketch}

-- its plan is one of this tree, and inserts its entry
pub record IsSketched (t : Table) (sketch : Sketch) : Type 0 where
  pub made : IsMadeOf t sketch.plan
  pub inserted : IsInserted t sketch.entry (planned t sketch.plan)

-- the same, where there is one
abbrev pub IsSketchOf : Table → Option Sketch → Type 0
IsSketchOf t None = Unit {0}
IsSketchOf t (Some sketch) = IsSketched t sketch
