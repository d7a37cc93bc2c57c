use Rattle.std.proofs.Common.{ap}
use Rattle.std.specs.Option.{option_copied}
use Rattle.sp_ops.proofs.needing.commit_needs.Goals as goal

pub put_needs-requires : goal.put_needs-requires
put_needs-requires c = c.requires c.in-Some.plan.now (ap option_copied c.in-Some.is)
