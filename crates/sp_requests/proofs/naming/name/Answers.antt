use Rattle.std.proofs.Common.{◌∙◌, refl, sym, ap, subst}
use Rattle.sp_event.specs.declared.event.Event.TheVariants.{Name}
use Rattle.sp_model.specs.Soundness.{Sound}
use Rattle.sp_state.specs.Held.{kernel_of}
use Rattle.sp_state.specs.Stages.{named, awaiting_name}
use Rattle.sp_requests.specs.Wanted.{object_need}
use Rattle.sp_requests.proofs.Seating.{stands_at}
use Rattle.sp_requests.proofs.Asked.{with_seat, named-keeps, awaiting_name-keeps, moved-fits, may-name, names-nothing, names-granted, names-waits, closes-same, names-closes, ends-done, ends-same}
use Rattle.sp_requests.proofs.naming.name.Goals as goal

pub returns-in_default-clause-done : goal.returns-in_default-clause-done
returns-in_default-clause-done c =
    names-nothing (kernel_of c.args.state.now) c.args.session c.place_in-at.result c.index_mut-seat.result.now c.name.new.self c.requires.sound c.requires.goes (stands_at c.args.session c.args.state.now.seats.items c.as_slice.result.now c.place_in-at.result c.index_mut-seat.result.now c.as_slice.ensures.value c.place_in-at.ensures.bound c.place_in-at.ensures.found c.index_mut-seat.ensures.value) (sym (c.object_need.ensures ∙ ap object_need c.stage.ensures) ∙ c.in_default.is) c.name.ensures

pub returns-in_default-clause-fits : goal.returns-in_default-clause-fits
returns-in_default-clause-fits c =
    moved-fits named named-keeps c.args.state.now _ c.args.session c.place_in-at.result c.index_mut-seat.result.now c.name.new.self c.requires.sound (stands_at c.args.session c.args.state.now.seats.items c.as_slice.result.now c.place_in-at.result c.index_mut-seat.result.now c.as_slice.ensures.value c.place_in-at.ensures.bound c.place_in-at.ensures.found c.index_mut-seat.ensures.value) (may-name (kernel_of c.args.state.now) c.args.session c.place_in-at.result c.index_mut-seat.result.now (stands_at c.args.session c.args.state.now.seats.items c.as_slice.result.now c.place_in-at.result c.index_mut-seat.result.now c.as_slice.ensures.value c.place_in-at.ensures.bound c.place_in-at.ensures.found c.index_mut-seat.ensures.value) c.requires.goes) c.name.ensures refl refl refl refl refl refl c.requires.fits.sketch c.requires.fits

pub end_by_deadlock-requires-clause-sound : goal.end_by_deadlock-requires-clause-sound
end_by_deadlock-requires-clause-sound c =
    subst Sound (sym (closes-same (kernel_of c.args.state.now) c.args.session c.place_in-at.result c.index_mut-seat.result.now c.index_mut-seat.result.now c.in-Some.need c.in_ok-request.field-0 c.request.new.table c.requires.sound (stands_at c.args.session c.args.state.now.seats.items c.as_slice.result.now c.place_in-at.result c.index_mut-seat.result.now c.as_slice.ensures.value c.place_in-at.ensures.bound c.place_in-at.ensures.found c.index_mut-seat.ensures.value) c.in_ok-request.ensures.comes c.in-Closes.cycle c.in-Closes.is c.index_mut-seat.ensures.value)) c.requires.sound

pub returns-in-Granted-clause-done : goal.returns-in-Granted-clause-done
returns-in-Granted-clause-done c =
    names-granted (kernel_of c.args.state.now) c.args.session c.place_in-at.result c.index_mut-seat.result.now c.name-in-Granted.new.self c.in-Some.need c.in_ok-request.field-0 c.request.new.table c.requires.sound (stands_at c.args.session c.args.state.now.seats.items c.as_slice.result.now c.place_in-at.result c.index_mut-seat.result.now c.as_slice.ensures.value c.place_in-at.ensures.bound c.place_in-at.ensures.found c.index_mut-seat.ensures.value) c.in_ok-request.ensures.comes (sym (c.object_need.ensures ∙ ap object_need c.stage.ensures) ∙ c.in-Some.is) c.name-in-Granted.ensures c.in-Granted.is

pub returns-in-Granted-clause-fits : goal.returns-in-Granted-clause-fits
returns-in-Granted-clause-fits c =
    moved-fits named named-keeps c.args.state.now _ c.args.session c.place_in-at.result c.index_mut-seat.result.now c.name-in-Granted.new.self c.requires.sound (stands_at c.args.session c.args.state.now.seats.items c.as_slice.result.now c.place_in-at.result c.index_mut-seat.result.now c.as_slice.ensures.value c.place_in-at.ensures.bound c.place_in-at.ensures.found c.index_mut-seat.ensures.value) (may-name (kernel_of c.args.state.now) c.args.session c.place_in-at.result c.index_mut-seat.result.now (stands_at c.args.session c.args.state.now.seats.items c.as_slice.result.now c.place_in-at.result c.index_mut-seat.result.now c.as_slice.ensures.value c.place_in-at.ensures.bound c.place_in-at.ensures.found c.index_mut-seat.ensures.value) c.requires.goes) c.name-in-Granted.ensures refl refl refl refl refl refl c.requires.fits.sketch c.requires.fits

pub returns-in-Waits-clause-done : goal.returns-in-Waits-clause-done
returns-in-Waits-clause-done c =
    names-waits (kernel_of c.args.state.now) c.args.session c.place_in-at.result c.index_mut-seat.result.now c.await_name.new.self c.in-Some.need c.in_ok-request.field-0 c.request.new.table c.requires.sound (stands_at c.args.session c.args.state.now.seats.items c.as_slice.result.now c.place_in-at.result c.index_mut-seat.result.now c.as_slice.ensures.value c.place_in-at.ensures.bound c.place_in-at.ensures.found c.index_mut-seat.ensures.value) c.in_ok-request.ensures.comes c.in-Waits.blockers (sym (c.object_need.ensures ∙ ap object_need c.stage.ensures) ∙ c.in-Some.is) c.await_name.ensures c.in-Waits.is

pub returns-in-Waits-clause-fits : goal.returns-in-Waits-clause-fits
returns-in-Waits-clause-fits c =
    moved-fits awaiting_name awaiting_name-keeps c.args.state.now _ c.args.session c.place_in-at.result c.index_mut-seat.result.now c.await_name.new.self c.requires.sound (stands_at c.args.session c.args.state.now.seats.items c.as_slice.result.now c.place_in-at.result c.index_mut-seat.result.now c.as_slice.ensures.value c.place_in-at.ensures.bound c.place_in-at.ensures.found c.index_mut-seat.ensures.value) (may-name (kernel_of c.args.state.now) c.args.session c.place_in-at.result c.index_mut-seat.result.now (stands_at c.args.session c.args.state.now.seats.items c.as_slice.result.now c.place_in-at.result c.index_mut-seat.result.now c.as_slice.ensures.value c.place_in-at.ensures.bound c.place_in-at.ensures.found c.index_mut-seat.ensures.value) c.requires.goes) c.await_name.ensures refl refl refl refl refl refl c.requires.fits.sketch c.requires.fits

pub returns-in-Closes-clause-done : goal.returns-in-Closes-clause-done
returns-in-Closes-clause-done c =
    ends-done (kernel_of c.args.state.now) (with_seat (kernel_of c.args.state.now) c.place_in-at.result c.index_mut-seat.result.now c.request.new.table) (kernel_of c.end_by_deadlock.new.state) (Name c.args.session) c.place_in-at.result c.index_mut-seat.result.now c.in-Closes.cycle c.end_by_deadlock.result (closes-same (kernel_of c.args.state.now) c.args.session c.place_in-at.result c.index_mut-seat.result.now c.index_mut-seat.result.now c.in-Some.need c.in_ok-request.field-0 c.request.new.table c.requires.sound (stands_at c.args.session c.args.state.now.seats.items c.as_slice.result.now c.place_in-at.result c.index_mut-seat.result.now c.as_slice.ensures.value c.place_in-at.ensures.bound c.place_in-at.ensures.found c.index_mut-seat.ensures.value) c.in_ok-request.ensures.comes c.in-Closes.cycle c.in-Closes.is c.index_mut-seat.ensures.value) (stands_at c.args.session c.args.state.now.seats.items c.as_slice.result.now c.place_in-at.result c.index_mut-seat.result.now c.as_slice.ensures.value c.place_in-at.ensures.bound c.place_in-at.ensures.found c.index_mut-seat.ensures.value).got c.end_by_deadlock.ensures.answer c.end_by_deadlock.ensures.done (names-closes (kernel_of c.args.state.now) c.args.session c.place_in-at.result c.index_mut-seat.result.now c.index_mut-seat.result.now c.in-Some.need c.in_ok-request.field-0 c.request.new.table c.requires.sound (stands_at c.args.session c.args.state.now.seats.items c.as_slice.result.now c.place_in-at.result c.index_mut-seat.result.now c.as_slice.ensures.value c.place_in-at.ensures.bound c.place_in-at.ensures.found c.index_mut-seat.ensures.value) c.in_ok-request.ensures.comes c.in-Closes.cycle c.in-Closes.is (sym (c.object_need.ensures ∙ ap object_need c.stage.ensures) ∙ c.in-Some.is))

pub returns-in-Closes-clause-same : goal.returns-in-Closes-clause-same
returns-in-Closes-clause-same c =
    ends-same (kernel_of c.args.state.now) (with_seat (kernel_of c.args.state.now) c.place_in-at.result c.index_mut-seat.result.now c.request.new.table) (kernel_of c.end_by_deadlock.new.state) c.end_by_deadlock.result (closes-same (kernel_of c.args.state.now) c.args.session c.place_in-at.result c.index_mut-seat.result.now c.index_mut-seat.result.now c.in-Some.need c.in_ok-request.field-0 c.request.new.table c.requires.sound (stands_at c.args.session c.args.state.now.seats.items c.as_slice.result.now c.place_in-at.result c.index_mut-seat.result.now c.as_slice.ensures.value c.place_in-at.ensures.bound c.place_in-at.ensures.found c.index_mut-seat.ensures.value) c.in_ok-request.ensures.comes c.in-Closes.cycle c.in-Closes.is c.index_mut-seat.ensures.value) c.end_by_deadlock.ensures.same
