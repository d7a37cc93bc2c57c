use Rattle.std.proofs.Common.{List, take, subst, sym}
use Rattle.std.proofs.lemmas.List.{take_more}
use Rattle.sp_locks.specs.declared.row.Row.{Row}
use Rattle.sp_ending.specs.Opposing.{IsLeast}
use Rattle.sp_ending.proofs.opposing.least_against.Goals as goal

pub rows-preserved : goal.rows-preserved
rows-preserved c =
    let i = c.rows.row-index in
    subst (λ (xs : List Row). IsLeast c.args.mode xs c.lesser-least.result) (sym (take_more c.args.rows.now i _ c.rows-test.true)) (c.lesser-least.ensures (take i c.args.rows.now) c.rows.invariant)
