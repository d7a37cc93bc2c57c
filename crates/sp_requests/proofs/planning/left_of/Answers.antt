use Rattle.sp_state.specs.Held.{kernel_of}
use Rattle.sp_requests.proofs.Plotted.{sees-ordered, next-unheld}
use Rattle.sp_requests.proofs.planning.left_of.Goals as goal

pub needs-requires-clause-ordered : goal.needs-requires-clause-ordered
needs-requires-clause-ordered c = sees-ordered (kernel_of c.args.state.now) c.args.seat.now c.requires.sound c.requires.among c.requires.active

pub needs-requires-clause-fresh : goal.needs-requires-clause-fresh
needs-requires-clause-fresh c = next-unheld (kernel_of c.args.state.now) c.requires.sound
