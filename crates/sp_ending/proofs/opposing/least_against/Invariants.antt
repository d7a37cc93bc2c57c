use Rattle.std.proofs.Common.{take}
use Rattle.sp_ending.specs.Opposing.{IsLeast}
use Rattle.sp_ending.proofs.opposing.least_against.Given as goal

abbrev pub invariant-rows : goal.invariant-rows
invariant-rows l = IsLeast l.mode (take l.row-index l.rows) l.least
