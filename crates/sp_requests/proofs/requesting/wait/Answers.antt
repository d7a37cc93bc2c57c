use Rattle.sp_requests.proofs.Shorts.{bare-awake, comes-closed, comes-waiting}
use Rattle.sp_requests.proofs.requesting.wait.Goals as goal

pub cycle-requires : goal.cycle-requires
cycle-requires c = record { awake = bare-awake c.args.session c.args.table.now c.in_ok-bare.bare c.requires.awake c.in_ok-bare.ensures }

pub returns-in-Some-clause-comes : goal.returns-in-Some-clause-comes
returns-in-Some-clause-comes c =
    comes-closed c.args.session c.args.need.now c.args.table.now c.in_ok-bare.bare c.in_ok-cycle.field-0 c.in-Some.cycle c.in_ok-bare.ensures c.requires.blocked c.in_ok-cycle.ensures c.in-Some.is

pub ask-requires : goal.ask-requires
ask-requires c = record { awake = bare-awake c.args.session c.args.table.now c.in_ok-bare.bare c.requires.awake c.in_ok-bare.ensures }

pub returns-in_ok-ask-in-None-clause-comes : goal.returns-in_ok-ask-in-None-clause-comes
returns-in_ok-ask-in-None-clause-comes c =
    comes-waiting c.args.session c.args.need.now c.args.table.now c.in_ok-bare.bare c.ask.new.self c.in_ok-cycle.field-0 c.args.blockers c.in_ok-bare.ensures c.requires.blocked c.in_ok-cycle.ensures c.in-None.is c.requires.those c.in_ok-ask-in-None.ensures.rows
