use Rattle.std.proofs.Common.{◌∙◌, refl, rules, ap, List, [], ◌∷◌, ◌++◌}
use Rattle.sp_audit.specs.declared.ended.Ended.{Ended}
use Rattle.sp_state.specs.Held.{kernel_of}
use Rattle.sp_requests.proofs.Deadlocked.{end-fits, end-done, one-there}
use Rattle.sp_requests.proofs.deadlocks.end_by_deadlock.Goals as goal

pub roll_back-requires-clause-fits : goal.roll_back-requires-clause-fits
roll_back-requires-clause-fits c =
    end-fits c.args.state.now _ c.len.result c.reserve.new.self.spare refl refl refl refl refl (c.end.ensures.commits ∙ c.reserve.ensures.commits) (search rules) c.in_ok-reserve.ensures.room c.end.ensures.room c.requires.fits.sketch c.requires.fits

pub returns-clause-done : goal.returns-clause-done
returns-clause-done c = λ x got.
    end-done (kernel_of c.args.state.now) (kernel_of c.roll_back.new.state) x c.index-seat.result.now c.number-txn.result c.session-session.result c.from_vec-told.result c.args.cycle c.end.new.self.base c.end.new.self.commits c.end.new.self.ended c.release_short.new.self
    (one-there c.args.state.now.seats.items c.args.at c.index-seat.result.now x c.requires.bound c.index-seat.ensures got) c.number-txn.ensures c.session-session.ensures (c.from_vec-told.ensures ∙ c.in_ok-from_slice.ensures.items ∙ c.as_slice.ensures)
    (c.end.ensures.base ∙ c.reserve.ensures.base) (c.end.ensures.commits ∙ c.reserve.ensures.commits) (c.end.ensures.ended ∙ ap (λ (es : List Ended). es ++ record { txn = c.number-txn.result; cycle = c.from_vec-told.result } ∷ []) c.reserve.ensures.ended) c.release_short.ensures.rows (c.roll_back.ensures.done x got)
