use Rattle.std.proofs.Common.{refl}
use Rattle.sp_journal.specs.Chaining.{found_in}
use Rattle.sp_journal.proofs.chain.Chain.add.Goals as goal

pub returns-clause-entered : goal.returns-clause-entered
returns-clause-entered c = λ front kind. c.in_ok-count.ensures.made c.args.self.now.generation front (found_in c.args.self.now) refl kind
