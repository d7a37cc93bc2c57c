use Rattle.sp_waits.proofs.Relating.{edge-waits, waits-edge}
use Rattle.sp_waits.proofs.laws.edges_go_to_holders_and_earlier_waiters.Goals as goal

pub returns : goal.returns
returns c rows session other sound = (edge-waits rows session other sound, waits-edge rows session other sound)
