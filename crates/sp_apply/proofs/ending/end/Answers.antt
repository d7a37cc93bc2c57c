use Rattle.std.proofs.Common.{refl}
use Rattle.sp_state.specs.Held.{kernel_of}
use Rattle.sp_apply.proofs.Overs.{over_is, some_open, rested_fits}
use Rattle.sp_apply.proofs.ending.end.Goals as goal

pub overflow_sub-state : goal.overflow_sub-state
overflow_sub-state c = some_open c.args.state.now c.args.session c.args.at c.requires.ready.0 c.requires.ready.1 c.requires.sound c.requires.fits c.requires.ready.2

pub returns-clause-over : goal.returns-clause-over
returns-clause-over c x op ready =
    over_is (kernel_of c.args.state.now) c.args.session c.args.at x op ready c.rest.new.seats.items c.release_short.new.self (c.rest.ensures x ready.stands) c.release_short.ensures.rows

pub returns-clause-fits : goal.returns-clause-fits
returns-clause-fits c =
    rested_fits c.args.state.now c.args.session c.args.at c.requires.ready.0 c.requires.ready.1 c.requires.sound c.requires.fits c.requires.ready.2 _ (c.rest.ensures c.requires.ready.0 c.requires.ready.2.stands) refl refl refl refl refl c.requires.fits.sketch
