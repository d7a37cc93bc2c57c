use Rattle.std.proofs.Common.{refl, subst}
use Rattle.sp_model.specs.declared.session.Session.{Session}
use Rattle.sp_state.specs.Held.{kernel_of}
use Rattle.sp_state.specs.Stages.{planned}
use Rattle.sp_requests.specs.Wanted.{IsLeft}
use Rattle.sp_requests.proofs.Seating.{stands_at, one-standing}
use Rattle.sp_requests.proofs.Asked.{moved-fits}
use Rattle.sp_requests.proofs.Plotted.{plan-let, may-plan, has-operation, planned-keeps, plans-done}
use Rattle.sp_requests.proofs.planning.plan.Goals as goal

pub left_of-requires-clause-among : goal.left_of-requires-clause-among
left_of-requires-clause-among c = (stands_at c.args.session c.args.state.now.seats.items c.as_slice.result.now c.place_in-at.result c.index.result.now c.as_slice.ensures.value c.place_in-at.ensures.bound c.place_in-at.ensures.found c.index.ensures).among

pub left_of-requires-clause-active : goal.left_of-requires-clause-active
left_of-requires-clause-active c = may-plan c.index.result.now.stage (plan-let (kernel_of c.args.state.now) c.args.session c.place_in-at.result c.index.result.now (stands_at c.args.session c.args.state.now.seats.items c.as_slice.result.now c.place_in-at.result c.index.result.now c.as_slice.ensures.value c.place_in-at.ensures.bound c.place_in-at.ensures.found c.index.ensures) c.requires.goes)

pub left_of-requires-clause-under_way : goal.left_of-requires-clause-under_way
left_of-requires-clause-under_way c = has-operation c.index.result.now.stage (plan-let (kernel_of c.args.state.now) c.args.session c.place_in-at.result c.index.result.now (stands_at c.args.session c.args.state.now.seats.items c.as_slice.result.now c.place_in-at.result c.index.result.now c.as_slice.ensures.value c.place_in-at.ensures.bound c.place_in-at.ensures.found c.index.ensures) c.requires.goes)

pub returns-clause-done : goal.returns-clause-done
returns-clause-done c =
    plans-done (kernel_of c.args.state.now) c.args.session c.place_in-at.result c.index_mut-seat.result.now c.plan.new.self c.in_ok-left.left.needs c.len-count.result c.requires.sound c.requires.goes (stands_at c.args.session c.args.state.now.seats.items c.as_slice.result.now c.place_in-at.result c.index_mut-seat.result.now c.as_slice.ensures.value c.place_in-at.ensures.bound c.place_in-at.ensures.found c.index_mut-seat.ensures.value)
    (subst (λ (x : Session). IsLeft (kernel_of c.args.state.now) x c.in_ok-left.left.needs) (one-standing c.args.session c.args.state.now.seats.items c.place_in-at.result c.index.result.now c.index_mut-seat.result.now (stands_at c.args.session c.args.state.now.seats.items c.as_slice.result.now c.place_in-at.result c.index.result.now c.as_slice.ensures.value c.place_in-at.ensures.bound c.place_in-at.ensures.found c.index.ensures) (stands_at c.args.session c.args.state.now.seats.items c.as_slice.result.now c.place_in-at.result c.index_mut-seat.result.now c.as_slice.ensures.value c.place_in-at.ensures.bound c.place_in-at.ensures.found c.index_mut-seat.ensures.value)) c.in_ok-left.ensures.left) c.len-count.ensures.len c.plan.ensures

pub returns-clause-fits : goal.returns-clause-fits
returns-clause-fits c =
    moved-fits (planned c.in_ok-left.left.needs) (planned-keeps c.in_ok-left.left.needs) c.args.state.now _ c.args.session c.place_in-at.result c.index_mut-seat.result.now c.plan.new.self c.requires.sound (stands_at c.args.session c.args.state.now.seats.items c.as_slice.result.now c.place_in-at.result c.index_mut-seat.result.now c.as_slice.ensures.value c.place_in-at.ensures.bound c.place_in-at.ensures.found c.index_mut-seat.ensures.value)
    (may-plan c.index_mut-seat.result.now.stage (plan-let (kernel_of c.args.state.now) c.args.session c.place_in-at.result c.index_mut-seat.result.now (stands_at c.args.session c.args.state.now.seats.items c.as_slice.result.now c.place_in-at.result c.index_mut-seat.result.now c.as_slice.ensures.value c.place_in-at.ensures.bound c.place_in-at.ensures.found c.index_mut-seat.ensures.value) c.requires.goes)) c.plan.ensures refl refl refl refl refl refl c.in_ok-left.ensures.sketch c.requires.fits
