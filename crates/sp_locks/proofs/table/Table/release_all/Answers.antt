use Rattle.sp_locks.specs.declared.row.Scope.TheVariants.{AllRows}
use Rattle.sp_locks.proofs.Keeping.{released-left}
use Rattle.sp_locks.proofs.table.Table.release_all.Goals as goal

pub invariant_of-self : goal.invariant_of-self
invariant_of-self c = released-left AllRows c.args.session c.self.inside.waits.entries c.end_waits.new.waits.entries c.self.inside.rows c.release_all.new.self c.self.invariant.0 c.self.invariant.1 c.release_all.ensures c.end_waits.ensures

pub returns-clause-sound : goal.returns-clause-sound
returns-clause-sound c = (released-left AllRows c.args.session c.self.inside.waits.entries c.end_waits.new.waits.entries c.self.inside.rows c.release_all.new.self c.self.invariant.0 c.self.invariant.1 c.release_all.ensures c.end_waits.ensures).0
