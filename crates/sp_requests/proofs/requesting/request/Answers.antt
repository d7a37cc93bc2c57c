use Rattle.sp_requests.proofs.Shorts.{comes-open}
use Rattle.sp_requests.proofs.requesting.request.Goals as goal

pub returns-then-branch-clause-comes : goal.returns-then-branch-clause-comes
returns-then-branch-clause-comes c =
    comes-open c.args.session c.args.need.now c.args.table.now c.grant.new.self c.in_ok-grant.field-0 c.in_ok-grant.ensures.was_sound c.in_ok-grant.ensures.answer c.in_ok-grant.ensures.rows c.if-branch.true
