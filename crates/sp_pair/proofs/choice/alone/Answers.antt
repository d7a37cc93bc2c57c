use Rattle.sp_pair.proofs.Choices.{second_alone, none_settled}
use Rattle.sp_pair.proofs.choice.alone.Goals as goal

pub returns-in-Settled-clause-chosen : goal.returns-in-Settled-clause-chosen
returns-in-Settled-clause-chosen c = λ one m a is none also. second_alone one c.args.alt c.in-Settled.version c.in-Settled.generation m a is none also c.in-Settled.is

pub returns-in-Empty-clause-chosen : goal.returns-in-Empty-clause-chosen
returns-in-Empty-clause-chosen c = λ one m a is none also. none_settled one c.args.alt m a is none also c.in-Empty.is
