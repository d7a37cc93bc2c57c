use Rattle.std.proofs.Common.{refl}
use Rattle.sp_state.specs.Held.{kernel_of}
use Rattle.sp_requests.proofs.Seating.{stands_at}
use Rattle.sp_requests.proofs.Starts.{starts-done, starts-fit}
use Rattle.sp_requests.proofs.starting.start.Goals as goal

pub returns-clause-done : goal.returns-clause-done
returns-clause-done c =
    starts-done (kernel_of c.args.state.now) c.args.session c.args.op c.place_in-at.result c.index_mut-seat.result.now c.start.new.self c.requires.sound c.looks_in_space.ensures
    (stands_at c.args.session c.args.state.now.seats.items c.as_slice.result.now c.place_in-at.result c.index_mut-seat.result.now c.as_slice.ensures.value c.place_in-at.ensures.bound c.place_in-at.ensures.found c.index_mut-seat.ensures.value) c.in_ok-start.ensures.ok

pub returns-clause-fits : goal.returns-clause-fits
returns-clause-fits c =
    starts-fit c.args.state.now _ c.args.session c.args.op c.place_in-at.result c.index_mut-seat.result.now c.start.new.self c.requires.sound c.requires.goes
    (stands_at c.args.session c.args.state.now.seats.items c.as_slice.result.now c.place_in-at.result c.index_mut-seat.result.now c.as_slice.ensures.value c.place_in-at.ensures.bound c.place_in-at.ensures.found c.index_mut-seat.ensures.value) c.in_ok-start.ensures.ok refl refl refl refl refl refl c.requires.fits.sketch c.requires.fits
