use Rattle.std.proofs.Common.{inl}
use Rattle.sp_journal.specs.Standing.{IsBefore}
use Rattle.sp_journal.proofs.Passing.{one_call}
use Rattle.sp_journal.proofs.Turning.{written_leaves, body_settled, broken}
use Rattle.sp_journal.proofs.Kinding.{sync_keeps}
use Rattle.sp_journal.proofs.journal.settle_body.Goals as goal

pub returns-in-Ok-clause-crash : goal.returns-in-Ok-clause-crash
returns-in-Ok-clause-crash g c = λ ledger told stands.
    one_call (g.D.Disk.moment c.args.disk.now) (g.D.Disk.moment c.sync.new.self) (g.D.Disk.images c.args.disk.now) (g.D.Disk.images c.sync.new.self) (IsBefore ledger) c.sync.ensures.time (written_leaves (g.D.Disk.reads c.args.disk.now) (g.D.Disk.images c.args.disk.now (g.D.Disk.moment c.args.disk.now)) c.args.work.now ledger stands c.requires)
    (λ file left. written_leaves (g.D.Disk.reads c.args.disk.now) (g.D.Disk.images c.args.disk.now (g.D.Disk.moment c.args.disk.now)) c.args.work.now ledger stands c.requires file (c.sync.ensures.at_most told file left))

pub returns-in-Err-Fault-clause-crash : goal.returns-in-Err-Fault-clause-crash
returns-in-Err-Fault-clause-crash g c = λ ledger told stands.
    one_call (g.D.Disk.moment c.args.disk.now) (g.D.Disk.moment c.sync.new.self) (g.D.Disk.images c.args.disk.now) (g.D.Disk.images c.sync.new.self) (IsBefore ledger) c.sync.ensures.time (written_leaves (g.D.Disk.reads c.args.disk.now) (g.D.Disk.images c.args.disk.now (g.D.Disk.moment c.args.disk.now)) c.args.work.now ledger stands c.requires)
    (λ file left. written_leaves (g.D.Disk.reads c.args.disk.now) (g.D.Disk.images c.args.disk.now (g.D.Disk.moment c.args.disk.now)) c.args.work.now ledger stands c.requires file (c.sync.ensures.at_most told file left))

pub returns-in-Err-Memory-clause-crash : goal.returns-in-Err-Memory-clause-crash
returns-in-Err-Memory-clause-crash g c = λ ledger told stands.
    one_call (g.D.Disk.moment c.args.disk.now) (g.D.Disk.moment c.sync.new.self) (g.D.Disk.images c.args.disk.now) (g.D.Disk.images c.sync.new.self) (IsBefore ledger) c.sync.ensures.time (written_leaves (g.D.Disk.reads c.args.disk.now) (g.D.Disk.images c.args.disk.now (g.D.Disk.moment c.args.disk.now)) c.args.work.now ledger stands c.requires)
    (λ file left. written_leaves (g.D.Disk.reads c.args.disk.now) (g.D.Disk.images c.args.disk.now (g.D.Disk.moment c.args.disk.now)) c.args.work.now ledger stands c.requires file (c.sync.ensures.at_most told file left))

pub returns-in-Ok-clause-stands : goal.returns-in-Ok-clause-stands
returns-in-Ok-clause-stands g c = λ ledger told stands.
    body_settled (g.D.Disk.reads c.args.disk.now) (g.D.Disk.images c.args.disk.now (g.D.Disk.moment c.args.disk.now)) c.args.work.now ledger stands c.advance.new.self (g.D.Disk.reads c.sync.new.self) (g.D.Disk.images c.sync.new.self (g.D.Disk.moment c.sync.new.self)) c.requires (c.sync.ensures.bytes told) (c.in-Ok.ensures.settled told) c.advance.ensures.same c.advance.ensures.phase

pub returns-in-Err-Fault-clause-stands : goal.returns-in-Err-Fault-clause-stands
returns-in-Err-Fault-clause-stands g c = λ ledger told stands.
    broken (g.D.Disk.reads c.args.disk.now) (g.D.Disk.images c.args.disk.now (g.D.Disk.moment c.args.disk.now)) c.args.work.now ledger stands c.advance-in-Err-Fault.new.self (g.D.Disk.reads c.sync.new.self) (g.D.Disk.images c.sync.new.self (g.D.Disk.moment c.sync.new.self)) c.advance-in-Err-Fault.ensures.same c.advance-in-Err-Fault.ensures.phase
    (λ file left. inl (written_leaves (g.D.Disk.reads c.args.disk.now) (g.D.Disk.images c.args.disk.now (g.D.Disk.moment c.args.disk.now)) c.args.work.now ledger stands c.requires file (c.sync.ensures.at_most told file left)))

pub returns-in-Ok-clause-kinds : goal.returns-in-Ok-clause-kinds
returns-in-Ok-clause-kinds g c = λ ledger told stands. sync_keeps (g.D.Disk.moment c.args.disk.now) (g.D.Disk.moment c.sync.new.self) (g.D.Disk.images c.args.disk.now) (g.D.Disk.images c.sync.new.self) c.sync.ensures.time (c.sync.ensures.at_most told)

pub returns-in-Err-Fault-clause-kinds : goal.returns-in-Err-Fault-clause-kinds
returns-in-Err-Fault-clause-kinds g c = λ ledger told stands. sync_keeps (g.D.Disk.moment c.args.disk.now) (g.D.Disk.moment c.sync.new.self) (g.D.Disk.images c.args.disk.now) (g.D.Disk.images c.sync.new.self) c.sync.ensures.time (c.sync.ensures.at_most told)

pub returns-in-Err-Memory-clause-kinds : goal.returns-in-Err-Memory-clause-kinds
returns-in-Err-Memory-clause-kinds g c = λ ledger told stands. sync_keeps (g.D.Disk.moment c.args.disk.now) (g.D.Disk.moment c.sync.new.self) (g.D.Disk.images c.args.disk.now) (g.D.Disk.images c.sync.new.self) c.sync.ensures.time (c.sync.ensures.at_most told)
