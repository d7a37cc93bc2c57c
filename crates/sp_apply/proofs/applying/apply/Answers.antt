use Rattle.sp_state.specs.Held.{kernel_of}
use Rattle.sp_apply.proofs.Ready.{is_here, ordered_here, has_op, op_here, put_here, stay_here}
use Rattle.sp_apply.proofs.applying.apply.Goals as goal

pub effect_of-requires-clause-ordered : goal.effect_of-requires-clause-ordered
effect_of-requires-clause-ordered c =
    let k = kernel_of c.args.state.now in
    let y = c.index-seat.result.now in
    let h = is_here k c.args.session c.place-at.result c.as_slice.result.now y c.requires.goes c.as_slice.ensures.value c.place-at.ensures.stands c.index-seat.ensures in
    ordered_here k c.args.session c.place-at.result y c.requires.sound h

pub adds-requires : goal.adds-requires
adds-requires c =
    let k = kernel_of c.args.state.now in
    let y = c.index-seat.result.now in
    let h = is_here k c.args.session c.place-at.result c.as_slice.result.now y c.requires.goes c.as_slice.ensures.value c.place-at.ensures.stands c.index-seat.ensures in
    has_op y.stage h.op (op_here h.session y h.op h.same h.ready.planned)

pub put-requires-clause-ready : goal.put-requires-clause-ready
put-requires-clause-ready c =
    let k = kernel_of c.args.state.now in
    let y = c.index-seat.result.now in
    let h = is_here k c.args.session c.place-at.result c.as_slice.result.now y c.requires.goes c.as_slice.ensures.value c.place-at.ensures.stands c.index-seat.ensures in
    put_here k c.args.session c.place-at.result y h c.in_ok-effect.effect.reply c.in_ok-effect.ensures.reply c.adds.result c.if-adds.true c.adds.ensures

pub stay-requires-clause-ready : goal.stay-requires-clause-ready
stay-requires-clause-ready c =
    let k = kernel_of c.args.state.now in
    let y = c.index-seat.result.now in
    let h = is_here k c.args.session c.place-at.result c.as_slice.result.now y c.requires.goes c.as_slice.ensures.value c.place-at.ensures.stands c.index-seat.ensures in
    stay_here k c.args.session c.place-at.result y h c.in_ok-effect.effect.reply c.in_ok-effect.ensures.reply c.adds.result c.in_ok-effect.effect.marks c.if-adds.false c.adds.ensures c.in_ok-effect.ensures.marks
