use Rattle.sp_pair.proofs.Choices.{second_newer, first_newer, first_alone}
use Rattle.sp_pair.proofs.choice.beside.Goals as goal

pub returns-then-own-generation-clause-chosen : goal.returns-then-own-generation-clause-chosen
returns-then-own-generation-clause-chosen c = λ m a is also. second_newer c.args.version c.args.generation c.in-Settled.other c.in-Settled.own c.args.alt m a is also c.in-Settled.is c.if-own-generation.true

pub returns-else-own-generation-clause-chosen : goal.returns-else-own-generation-clause-chosen
returns-else-own-generation-clause-chosen c = λ m a is also. first_newer c.args.version c.args.generation c.in-Settled.other c.in-Settled.own c.args.alt m a is also c.in-Settled.is c.if-own-generation.false

pub returns-in-Empty-clause-chosen : goal.returns-in-Empty-clause-chosen
returns-in-Empty-clause-chosen c = λ m a is also. first_alone c.args.version c.args.generation c.args.alt m a is also c.in-Empty.is
