use Rattle.std.proofs.Common.{take}
use Rattle.sp_model.specs.Opening.{IsRebuilt}
use Rattle.sp_opening.proofs.rebuilding.rebuild.Given as goal

abbrev pub invariant-records : goal.invariant-records
invariant-records l = IsRebuilt l.fn.shape (take l.i l.records) l.tree.table
