use Rattle.sp_requests.proofs.Shorts.{comes-held}
use Rattle.sp_requests.proofs.requesting.hold.Goals as goal

pub returns-clause-comes : goal.returns-clause-comes
returns-clause-comes c = comes-held c.args.session c.args.need.now c.args.table.now c.ask.new.self c.requires.sound c.requires.free c.in_ok-ask.ensures.rows
