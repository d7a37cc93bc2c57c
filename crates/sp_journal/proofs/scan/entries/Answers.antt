use Rattle.std.proofs.Common.{◌≡◌, subst, arith}
use Rattle.sp_journal.specs.Recovery.{Recovers, Damaged}
use Rattle.sp_journal.proofs.Scans.{bare, reached_first, damaged_by}
use Rattle.sp_journal.proofs.scan.entries.Goals as goal

pub returns-in-Closed-clause-ended : goal.returns-in-Closed-clause-ended
returns-in-Closed-clause-ended g c = λ version told size is stands.
    rw c.in-Closed.is at (c.in_ok-walk.ensures.stopped (bare version c.args.generation) told size
    (reached_first version c.args.generation (g.D.Disk.reads c.args.disk.now) c.new-chain.result c.new-chain.ensures.at c.new-chain.ensures.generation c.new-chain.ensures.found is stands))

pub returns-in_default-clause-damaged : goal.returns-in_default-clause-damaged
returns-in_default-clause-damaged g c = λ version at told size is stands damaged.
    let named : c.walk.new.chain.at ≡ at = cc in
    subst (λ n. Recovers (g.D.Disk.reads c.args.disk.now) (Damaged n)) named (damaged_by c.in_ok-walk.field-0 (g.D.Disk.reads c.args.disk.now) c.walk.new.chain version (omega (arith, size, c.requires.long)) c.in_default.not-Closed
    (c.in_ok-walk.ensures.stopped (bare version c.args.generation) told size
    (reached_first version c.args.generation (g.D.Disk.reads c.args.disk.now) c.new-chain.result c.new-chain.ensures.at c.new-chain.ensures.generation c.new-chain.ensures.found is stands)))
