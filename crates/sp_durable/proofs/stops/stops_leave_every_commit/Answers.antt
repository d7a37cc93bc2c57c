use Rattle.sp_model.proofs.Bare.{bare}
use Rattle.sp_durable.proofs.Leaving.{left_between, left_in_call}
use Rattle.sp_durable.proofs.stops.stops_leave_every_commit.Goals as goal

pub returns : goal.returns
returns g c = record {
  between = λ disk work ledger k file stands same sound left. left_between k ledger (bare k sound) same _ _ work stands file left;
  in_call = λ phase ledger k file same sound may. left_in_call k ledger (bare k sound) same phase file may;
}
