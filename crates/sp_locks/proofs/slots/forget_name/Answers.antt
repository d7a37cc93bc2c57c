use Rattle.std.proofs.Common.{None}
use Rattle.sp_locks.proofs.Numbering.{place-after}
use Rattle.sp_locks.proofs.slots.forget_name.Goals as goal

pub returns : goal.returns
returns c n = place-after c.args.name n None c.args.places.now.entries c.swap_remove.new.self.entries (c.swap_remove.ensures.updates.0 n)
