use Rattle.sp_state.specs.Held.{kernel_of}
use Rattle.sp_requests.proofs.Needed.{stays-needs}
use Rattle.sp_requests.proofs.needing.stay_needs.Goals as goal

pub returns-clause-needs : goal.returns-clause-needs
returns-clause-needs c = stays-needs (kernel_of c.args.state.now) c.args.seat.now c.args.op.now c.number.result c.searches.result.now c.in_ok-commit.commit c.new.result c.number.ensures c.requires c.in_ok-commit.ensures c.new.ensures
