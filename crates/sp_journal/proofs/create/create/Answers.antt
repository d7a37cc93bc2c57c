use Rattle.std.proofs.Common.{◌≡◌, sym, subst, true}
use Rattle.sp_journal.specs.Recovery.{NeedsMaking}
use Rattle.sp_journal.proofs.Making.{chained}
use Rattle.sp_journal.proofs.create.create.Goals as goal

pub returns-in_err-begin-clause-crash : goal.returns-in_err-begin-clause-crash
returns-in_err-begin-clause-crash g c = λ told needs only.
    chained (g.D.Disk.moment c.args.disk.now) (g.D.Disk.moment c.empty.new.disk) (g.D.Disk.moment c.begin.new.disk) (g.D.Disk.images c.args.disk.now) (g.D.Disk.images c.empty.new.disk) (g.D.Disk.images c.begin.new.disk) NeedsMaking (c.empty.ensures.crash told needs only)
    (c.begin.ensures.crash (subst (λ b. b ≡ true) (sym c.empty.ensures.tells) told) (c.in_ok-empty.ensures.settled told).1)

pub returns-clause-crash : goal.returns-clause-crash
returns-clause-crash g c = λ told needs only.
    chained (g.D.Disk.moment c.args.disk.now) (g.D.Disk.moment c.empty.new.disk) (g.D.Disk.moment c.begin.new.disk) (g.D.Disk.images c.args.disk.now) (g.D.Disk.images c.empty.new.disk) (g.D.Disk.images c.begin.new.disk) NeedsMaking (c.empty.ensures.crash told needs only)
    (c.begin.ensures.crash (subst (λ b. b ≡ true) (sym c.empty.ensures.tells) told) (c.in_ok-empty.ensures.settled told).1)

pub returns-clause-settled : goal.returns-clause-settled
returns-clause-settled g c = λ told. c.in_ok-begin.ensures.settled (subst (λ b. b ≡ true) (sym c.empty.ensures.tells) told) (c.in_ok-empty.ensures.settled told).0
