use Rattle.std.proofs.Common.{[], ◌∷◌}
use Rattle.sp_lines.proofs.Results.{ok_along, err_along}
use Rattle.sp_desk.proofs.Going.{went_end, halted_end}
use Rattle.sp_desk.proofs.desk.Desk.hear_last.Goals as goal

pub returns-clause-goes : goal.returns-clause-goes
returns-clause-goes g c =
    ok_along _ _ _ (λ k. went_end g.D.Disk.tells g.D.Disk.takes_memory g.D.Disk.faults g.D.Disk.moment g.D.Disk.images (c.args.line.now ∷ []) _ _ _ _ _ _ c.in_ok-hear_line.ensures.goes k) c.hear_end.ensures.goes

pub returns-clause-stops : goal.returns-clause-stops
returns-clause-stops g c =
    err_along _ _ _ (λ f k. halted_end g.D.Disk.tells g.D.Disk.takes_memory g.D.Disk.faults g.D.Disk.moment g.D.Disk.images f (c.args.line.now ∷ []) _ _ _ _ _ _ c.in_ok-hear_line.ensures.goes k) c.hear_end.ensures.stops
