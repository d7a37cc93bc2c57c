use Rattle.std.proofs.Common.{sym, subst}
use Rattle.sp_disk.specs.Moments.{LeavesOnly}
use Rattle.sp_journal.specs.Standing.{MayLeave, IsBefore}
use Rattle.sp_journal.proofs.Passing.{no_call}
use Rattle.sp_journal.proofs.Turning.{ready_leaves}
use Rattle.sp_journal.proofs.Kinding.{still_keeps}
use Rattle.sp_journal.proofs.journal.step.Goals as goal

pub returns-in-Ready-clause-crash : goal.returns-in-Ready-clause-crash
returns-in-Ready-clause-crash g c = λ ledger told stands.
    subst (λ p. LeavesOnly (g.D.Disk.moment c.args.disk.now) (g.D.Disk.moment c.args.disk.now) (g.D.Disk.images c.args.disk.now) (g.D.Disk.images c.args.disk.now) (MayLeave p ledger)) (sym c.in-Ready.is)
    (no_call (g.D.Disk.moment c.args.disk.now) (g.D.Disk.images c.args.disk.now) (IsBefore ledger) (ready_leaves (g.D.Disk.reads c.args.disk.now) (g.D.Disk.images c.args.disk.now (g.D.Disk.moment c.args.disk.now)) c.args.work.now ledger stands c.in-Ready.is))

pub returns-in-Ready-2-clause-crash : goal.returns-in-Ready-2-clause-crash
returns-in-Ready-2-clause-crash g c = λ ledger told stands.
    subst (λ p. LeavesOnly (g.D.Disk.moment c.args.disk.now) (g.D.Disk.moment c.write_body.new.disk) (g.D.Disk.images c.args.disk.now) (g.D.Disk.images c.write_body.new.disk) (MayLeave p ledger)) (sym c.in-Ready-2.is)
    (c.write_body.ensures.crash ledger told stands)

pub returns-in-Written-clause-crash : goal.returns-in-Written-clause-crash
returns-in-Written-clause-crash g c = λ ledger told stands.
    subst (λ p. LeavesOnly (g.D.Disk.moment c.args.disk.now) (g.D.Disk.moment c.settle_body.new.disk) (g.D.Disk.images c.args.disk.now) (g.D.Disk.images c.settle_body.new.disk) (MayLeave p ledger)) (sym c.in-Written.is)
    (c.settle_body.ensures.crash ledger told stands)

pub returns-in-Settled-clause-crash : goal.returns-in-Settled-clause-crash
returns-in-Settled-clause-crash g c = λ ledger told stands.
    subst (λ p. LeavesOnly (g.D.Disk.moment c.args.disk.now) (g.D.Disk.moment c.open_gate.new.disk) (g.D.Disk.images c.args.disk.now) (g.D.Disk.images c.open_gate.new.disk) (MayLeave p ledger)) (sym c.in-Settled.is)
    (c.open_gate.ensures.crash ledger told stands)

pub returns-in-Opened-clause-crash : goal.returns-in-Opened-clause-crash
returns-in-Opened-clause-crash g c = λ ledger told stands.
    subst (λ p. LeavesOnly (g.D.Disk.moment c.args.disk.now) (g.D.Disk.moment c.settle_gate.new.disk) (g.D.Disk.images c.args.disk.now) (g.D.Disk.images c.settle_gate.new.disk) (MayLeave p ledger)) (sym c.in-Opened.is)
    (c.settle_gate.ensures.crash ledger told stands)

pub returns-in-Ready-clause-kinds : goal.returns-in-Ready-clause-kinds
returns-in-Ready-clause-kinds g c = λ ledger told stands. still_keeps (g.D.Disk.moment c.args.disk.now) (g.D.Disk.images c.args.disk.now)

pub returns-in-Broken-clause-kinds : goal.returns-in-Broken-clause-kinds
returns-in-Broken-clause-kinds g c = λ ledger told stands. still_keeps (g.D.Disk.moment c.args.disk.now) (g.D.Disk.images c.args.disk.now)
