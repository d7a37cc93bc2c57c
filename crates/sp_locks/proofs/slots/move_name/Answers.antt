use Rattle.std.proofs.Common.{rules}
use Rattle.sp_locks.proofs.Numbering.{move-after}
use Rattle.sp_locks.proofs.slots.move_name.Goals as goal

pub returns-in-Some : goal.returns-in-Some
returns-in-Some c n = move-after c.args.name n c.args.at c.in-Some.place.now c.args.places.now.entries (c.get_mut.follows.lender c.args.at).entries c.in-Some.ensures.value (((c.get_mut.follows.holds c.args.at).3 (search rules)).0 n)
