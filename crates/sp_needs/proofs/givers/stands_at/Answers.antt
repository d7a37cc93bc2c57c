use Rattle.sp_needs.proofs.Giving.{got_has}
use Rattle.sp_needs.proofs.givers.stands_at.Goals as goal

pub returns-in-Some : goal.returns-in-Some
returns-in-Some c = got_has c.args.entries.now c.args.at c.args.number c.in-Some.entry.now c.in-Some.ensures.lookup.3.0 c.in-Some.ensures.lookup.1
