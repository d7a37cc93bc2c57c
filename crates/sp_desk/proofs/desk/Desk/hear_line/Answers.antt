use Rattle.std.proofs.Common.{rules, [], ◌∷◌, false}
use Rattle.sp_lines.proofs.Results.{err_along}
use Rattle.sp_desk.proofs.BadLines.{bad_answers, bad_halts, went_still, halted_still}
use Rattle.sp_desk.proofs.Joining.{course_none}
use Rattle.sp_desk.proofs.Laws.{halts_none, halts_more}
use Rattle.sp_desk.proofs.Telling.{ok_both}
use Rattle.sp_desk.proofs.desk.Desk.hear_line.Goals as goal

pub returns-in-Err-Bad-clause-goes : goal.returns-in-Err-Bad-clause-goes
returns-in-Err-Bad-clause-goes g c =
    ok_both _ _ _ _ (λ kept wrote. went_still g.D.Disk.tells g.D.Disk.takes_memory g.D.Disk.faults g.D.Disk.moment g.D.Disk.images c.args.kernel.now (c.args.line.now ∷ []) _ _ false
    (bad_answers c.args.line.now c.in-Err-Bad.session c.in-Err-Bad.bad _ _ _ _ _ _ c.args.self.now.scribe.form c.requires (search rules) kept wrote)) c.keep.ensures.items c.keep.ensures.written

pub returns-in-Err-Bad-clause-stops : goal.returns-in-Err-Bad-clause-stops
returns-in-Err-Bad-clause-stops g c =
    err_along _ _ _ (λ f k. halted_still g.D.Disk.tells g.D.Disk.takes_memory g.D.Disk.faults g.D.Disk.moment g.D.Disk.images c.args.kernel.now (c.args.line.now ∷ []) _ _ f
    (bad_halts c.args.line.now c.in-Err-Bad.session c.in-Err-Bad.bad _ _ _ _ _ _ c.args.self.now.scribe.form c.requires (search rules) f k)) c.keep.ensures.stops

pub returns-in-Err-Memory-clause-stops : goal.returns-in-Err-Memory-clause-stops
returns-in-Err-Memory-clause-stops g c = record { stops = halts_more _ [] (c.args.line.now ∷ []) _ _ (halts_none _); course = course_none _ _ _ _ _ _ }
