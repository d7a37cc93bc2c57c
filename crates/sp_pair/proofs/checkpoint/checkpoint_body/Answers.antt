use Rattle.std.proofs.Common.{arith}
use Rattle.sp_pair.proofs.Renewing.{valid_checkpoint}
use Rattle.sp_pair.proofs.checkpoint.checkpoint_body.Goals as goal

pub returns-clause-valid : goal.returns-clause-valid
returns-clause-valid c = λ ordered. valid_checkpoint c.args.records.now (omega (arith, c.len.ensures)) c.in_ok-payload.ensures.valid ordered
