use Rattle.sp_model.proofs.Bare.{bare}
use Rattle.sp_durable.proofs.Owners.{changes_settle}
use Rattle.sp_durable.proofs.settling.changes_leave_what_commits.Goals as goal

pub returns : goal.returns
returns c = λ k x cs sound. changes_settle k (bare k sound) x cs
