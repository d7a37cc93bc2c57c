use Rattle.std.proofs.Common.{◌∙◌, refl, sym, ap, subst}
use Rattle.sp_event.specs.declared.event.Event.TheVariants.{Ask}
use Rattle.sp_model.specs.Soundness.{Sound}
use Rattle.sp_state.specs.Held.{kernel_of}
use Rattle.sp_state.specs.Stages.{asked, awaiting_need}
use Rattle.sp_requests.specs.Wanted.{next_need}
use Rattle.sp_requests.proofs.Seating.{stands_at}
use Rattle.sp_requests.proofs.Asked.{with_seat, asked-keeps, awaiting_need-keeps, moved-fits, may-ask, ask-awake, asks-granted, asks-waits, closes-same, asks-closes, ends-done, ends-same}
use Rattle.sp_requests.proofs.asking.ask.Goals as goal

pub request-requires : goal.request-requires
request-requires c =
    record { awake = ask-awake (kernel_of c.args.state.now) c.args.session c.place_in-at.result c.index_mut-seat.result.now c.in-Some.need c.requires.sound (stands_at c.args.session c.args.state.now.seats.items c.as_slice.result.now c.place_in-at.result c.index_mut-seat.result.now c.as_slice.ensures.value c.place_in-at.ensures.bound c.place_in-at.ensures.found c.index_mut-seat.ensures.value) (sym (c.next_need.ensures ∙ ap next_need c.stage.ensures) ∙ c.in-Some.is) }

pub end_by_deadlock-requires-clause-sound : goal.end_by_deadlock-requires-clause-sound
end_by_deadlock-requires-clause-sound c =
    subst Sound (sym (closes-same (kernel_of c.args.state.now) c.args.session c.place_in-at.result c.index_mut-seat.result.now c.index_mut-seat.result.now c.in-Some.need c.in_ok-request.field-0 c.request.new.table c.requires.sound (stands_at c.args.session c.args.state.now.seats.items c.as_slice.result.now c.place_in-at.result c.index_mut-seat.result.now c.as_slice.ensures.value c.place_in-at.ensures.bound c.place_in-at.ensures.found c.index_mut-seat.ensures.value) c.in_ok-request.ensures.comes c.in-Closes.cycle c.in-Closes.is c.index_mut-seat.ensures.value)) c.requires.sound

pub returns-in-Granted-clause-done : goal.returns-in-Granted-clause-done
returns-in-Granted-clause-done c =
    asks-granted (kernel_of c.args.state.now) c.args.session c.place_in-at.result c.index_mut-seat.result.now c.pass_need.new.self c.in-Some.need c.in_ok-request.field-0 c.request.new.table c.requires.sound (stands_at c.args.session c.args.state.now.seats.items c.as_slice.result.now c.place_in-at.result c.index_mut-seat.result.now c.as_slice.ensures.value c.place_in-at.ensures.bound c.place_in-at.ensures.found c.index_mut-seat.ensures.value) c.in_ok-request.ensures.comes (sym (c.next_need.ensures ∙ ap next_need c.stage.ensures) ∙ c.in-Some.is) c.pass_need.ensures c.in-Granted.is

pub returns-in-Granted-clause-fits : goal.returns-in-Granted-clause-fits
returns-in-Granted-clause-fits c =
    moved-fits asked asked-keeps c.args.state.now _ c.args.session c.place_in-at.result c.index_mut-seat.result.now c.pass_need.new.self c.requires.sound (stands_at c.args.session c.args.state.now.seats.items c.as_slice.result.now c.place_in-at.result c.index_mut-seat.result.now c.as_slice.ensures.value c.place_in-at.ensures.bound c.place_in-at.ensures.found c.index_mut-seat.ensures.value) (may-ask c.index_mut-seat.result.now c.in-Some.need (sym (c.next_need.ensures ∙ ap next_need c.stage.ensures) ∙ c.in-Some.is)) c.pass_need.ensures refl refl refl refl refl refl c.requires.fits.sketch c.requires.fits

pub returns-in-Waits-clause-done : goal.returns-in-Waits-clause-done
returns-in-Waits-clause-done c =
    asks-waits (kernel_of c.args.state.now) c.args.session c.place_in-at.result c.index_mut-seat.result.now c.await_need.new.self c.in-Some.need c.in_ok-request.field-0 c.request.new.table c.requires.sound (stands_at c.args.session c.args.state.now.seats.items c.as_slice.result.now c.place_in-at.result c.index_mut-seat.result.now c.as_slice.ensures.value c.place_in-at.ensures.bound c.place_in-at.ensures.found c.index_mut-seat.ensures.value) c.in_ok-request.ensures.comes c.in-Waits.blockers (sym (c.next_need.ensures ∙ ap next_need c.stage.ensures) ∙ c.in-Some.is) c.await_need.ensures c.in-Waits.is

pub returns-in-Waits-clause-fits : goal.returns-in-Waits-clause-fits
returns-in-Waits-clause-fits c =
    moved-fits awaiting_need awaiting_need-keeps c.args.state.now _ c.args.session c.place_in-at.result c.index_mut-seat.result.now c.await_need.new.self c.requires.sound (stands_at c.args.session c.args.state.now.seats.items c.as_slice.result.now c.place_in-at.result c.index_mut-seat.result.now c.as_slice.ensures.value c.place_in-at.ensures.bound c.place_in-at.ensures.found c.index_mut-seat.ensures.value) (may-ask c.index_mut-seat.result.now c.in-Some.need (sym (c.next_need.ensures ∙ ap next_need c.stage.ensures) ∙ c.in-Some.is)) c.await_need.ensures refl refl refl refl refl refl c.requires.fits.sketch c.requires.fits

pub returns-in-Closes-clause-done : goal.returns-in-Closes-clause-done
returns-in-Closes-clause-done c =
    ends-done (kernel_of c.args.state.now) (with_seat (kernel_of c.args.state.now) c.place_in-at.result c.index_mut-seat.result.now c.request.new.table) (kernel_of c.end_by_deadlock.new.state) (Ask c.args.session) c.place_in-at.result c.index_mut-seat.result.now c.in-Closes.cycle c.end_by_deadlock.result (closes-same (kernel_of c.args.state.now) c.args.session c.place_in-at.result c.index_mut-seat.result.now c.index_mut-seat.result.now c.in-Some.need c.in_ok-request.field-0 c.request.new.table c.requires.sound (stands_at c.args.session c.args.state.now.seats.items c.as_slice.result.now c.place_in-at.result c.index_mut-seat.result.now c.as_slice.ensures.value c.place_in-at.ensures.bound c.place_in-at.ensures.found c.index_mut-seat.ensures.value) c.in_ok-request.ensures.comes c.in-Closes.cycle c.in-Closes.is c.index_mut-seat.ensures.value) (stands_at c.args.session c.args.state.now.seats.items c.as_slice.result.now c.place_in-at.result c.index_mut-seat.result.now c.as_slice.ensures.value c.place_in-at.ensures.bound c.place_in-at.ensures.found c.index_mut-seat.ensures.value).got c.end_by_deadlock.ensures.answer c.end_by_deadlock.ensures.done (asks-closes (kernel_of c.args.state.now) c.args.session c.place_in-at.result c.index_mut-seat.result.now c.index_mut-seat.result.now c.in-Some.need c.in_ok-request.field-0 c.request.new.table c.requires.sound (stands_at c.args.session c.args.state.now.seats.items c.as_slice.result.now c.place_in-at.result c.index_mut-seat.result.now c.as_slice.ensures.value c.place_in-at.ensures.bound c.place_in-at.ensures.found c.index_mut-seat.ensures.value) c.in_ok-request.ensures.comes c.in-Closes.cycle c.in-Closes.is (sym (c.next_need.ensures ∙ ap next_need c.stage.ensures) ∙ c.in-Some.is))

pub returns-in-Closes-clause-same : goal.returns-in-Closes-clause-same
returns-in-Closes-clause-same c =
    ends-same (kernel_of c.args.state.now) (with_seat (kernel_of c.args.state.now) c.place_in-at.result c.index_mut-seat.result.now c.request.new.table) (kernel_of c.end_by_deadlock.new.state) c.end_by_deadlock.result (closes-same (kernel_of c.args.state.now) c.args.session c.place_in-at.result c.index_mut-seat.result.now c.index_mut-seat.result.now c.in-Some.need c.in_ok-request.field-0 c.request.new.table c.requires.sound (stands_at c.args.session c.args.state.now.seats.items c.as_slice.result.now c.place_in-at.result c.index_mut-seat.result.now c.as_slice.ensures.value c.place_in-at.ensures.bound c.place_in-at.ensures.found c.index_mut-seat.ensures.value) c.in_ok-request.ensures.comes c.in-Closes.cycle c.in-Closes.is c.index_mut-seat.ensures.value) c.end_by_deadlock.ensures.same
