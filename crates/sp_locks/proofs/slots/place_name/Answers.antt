use Rattle.std.proofs.Common.{Some}
use Rattle.sp_locks.proofs.Numbering.{place-after}
use Rattle.sp_locks.proofs.slots.place_name.Goals as goal

pub returns-clause-placed : goal.returns-clause-placed
returns-clause-placed c n = place-after c.args.name n (Some c.args.at) c.args.places.now.entries c.insert.new.self.entries (c.in_ok-insert.ensures.updates.0 n)
