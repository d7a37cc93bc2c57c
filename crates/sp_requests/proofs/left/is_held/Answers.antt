use Rattle.std.proofs.Common.{◌∙◌, ap}
use Rattle.sp_requests.proofs.Needed.{any_on, held-on}
use Rattle.sp_requests.proofs.left.is_held.Goals as goal

pub returns : goal.returns
returns c = c.any_enough.ensures ∙ ap (any_on c.args.session c.args.need.now) c.on.ensures.rows ∙ held-on c.args.session c.args.need.now c.args.locks.now
