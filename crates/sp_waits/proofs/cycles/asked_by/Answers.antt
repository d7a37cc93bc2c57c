use Rattle.std.proofs.Common.{rules}
use Rattle.sp_waits.proofs.Edging.{asks-own, asks-other, asks-none}
use Rattle.sp_waits.proofs.cycles.asked_by.Goals as goal

pub returns-then-session-request : goal.returns-then-session-request
returns-then-session-request c row e = asks-own c.args.table.now c.args.request.now.session c.args.session c.args.request.now.name c.args.request.now.mode row c.requires.sound c.requires.awake c.if-session-request.true e

pub returns-in-Some : goal.returns-in-Some
returns-in-Some c row e =
    asks-other c.args.table.now c.args.request.now.session c.args.session c.args.request.now.name c.args.request.now.mode row c.in-Some.row c.requires.sound c.requires.awake c.if-session-request.false (search rules) e

pub returns-in-None : goal.returns-in-None
returns-in-None c row e =
    absurd (asks-none c.args.table.now c.args.request.now.session c.args.session c.args.request.now.name c.args.request.now.mode row c.requires.sound c.requires.awake c.if-session-request.false (search rules) e)
