use Rattle.sp_desk.proofs.Ending.{went_closed, halted_closing}
use Rattle.sp_desk.proofs.Telling.{ok_both, err_both}
use Rattle.sp_desk.proofs.desk.Desk.hear_end.Goals as goal

pub returns-clause-goes : goal.returns-clause-goes
returns-clause-goes g c =
    ok_both _ _ _ _ (λ passes over. went_closed g.D.Disk.tells g.D.Disk.takes_memory g.D.Disk.faults g.D.Disk.moment g.D.Disk.images _ _ _ _ c.close_all.ensures.course passes over) c.close_all.ensures.passes c.close_all.ensures.over

pub returns-clause-stops : goal.returns-clause-stops
returns-clause-stops g c =
    err_both _ _ _ _ (λ fault breaks stopped. halted_closing g.D.Disk.tells g.D.Disk.takes_memory g.D.Disk.faults g.D.Disk.moment g.D.Disk.images _ _ _ _ c.close_all.ensures.course fault breaks stopped) c.close_all.ensures.breaks c.close_all.ensures.stops
