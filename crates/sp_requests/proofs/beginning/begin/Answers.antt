use Rattle.std.proofs.Common.{refl, length, rules}
use Rattle.sp_state.specs.Held.{kernel_of}
use Rattle.sp_requests.proofs.Begins.{begins-done, begins-fit}
use Rattle.sp_requests.proofs.beginning.begin.Goals as goal

pub returns-clause-done : goal.returns-clause-done
returns-clause-done c =
    begins-done (kernel_of c.args.state.now) c.args.session c.commits.result.now c.new.result c.admit.new.seats.items c.reserve.new.self.base c.reserve.new.self.commits c.reserve.new.self.ended c.commits.ensures.commits c.new.ensures c.in_ok-admit.ensures
    c.reserve.ensures.base c.reserve.ensures.commits c.reserve.ensures.ended

pub returns-clause-fits : goal.returns-clause-fits
returns-clause-fits c =
    begins-fit c.args.state.now _ c.new.result c.args.session (length c.commits.result.now) c.len.result c.new.ensures c.in_ok-admit.ensures c.reserve.ensures.commits (search rules) c.in_ok-reserve.ensures.room refl refl refl refl c.requires.fits.sketch c.requires.fits
