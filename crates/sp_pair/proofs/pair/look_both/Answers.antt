use Rattle.sp_pair.proofs.Refusals.{refused_by}
use Rattle.sp_pair.proofs.pair.look_both.Goals as goal

pub returns-clause-refused : goal.returns-clause-refused
returns-clause-refused g c = λ told also. refused_by (g.D.Disk.reads c.args.main.now) (g.D.Disk.reads c.args.alt.now) c.in_ok-one.one c.in_ok-other.other c.choice_of.result (c.in_ok-one.ensures.kind told) (c.in_ok-other.ensures.kind also) c.choice_of.ensures.refused
