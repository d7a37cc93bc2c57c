use Rattle.std.proofs.Common.{inl}
use Rattle.sp_journal.specs.Standing.{IsBeforeOrAfter}
use Rattle.sp_journal.proofs.Passing.{one_call}
use Rattle.sp_journal.proofs.Turning.{gate_keeps, settled_leaves, gate_leaves, gate_opened, broken}
use Rattle.sp_journal.proofs.Kinding.{call_keeps}
use Rattle.sp_journal.proofs.journal.open_gate.Goals as goal

pub returns-in-Ok-clause-crash : goal.returns-in-Ok-clause-crash
returns-in-Ok-clause-crash g c = λ ledger told stands.
    one_call (g.D.Disk.moment c.args.disk.now) (g.D.Disk.moment c.write_at.new.self) (g.D.Disk.images c.args.disk.now) (g.D.Disk.images c.write_at.new.self) (IsBeforeOrAfter ledger) c.write_at.ensures.time (λ file left. inl (settled_leaves (g.D.Disk.reads c.args.disk.now) (g.D.Disk.images c.args.disk.now (g.D.Disk.moment c.args.disk.now)) c.args.work.now ledger stands c.requires file left))
    (gate_leaves (g.D.Disk.reads c.args.disk.now) (g.D.Disk.images c.args.disk.now (g.D.Disk.moment c.args.disk.now)) c.args.work.now ledger stands c.requires (g.D.Disk.images c.write_at.new.self (g.D.Disk.moment c.write_at.new.self)) (c.write_at.ensures.at_most told))

pub returns-in-Err-Fault-clause-crash : goal.returns-in-Err-Fault-clause-crash
returns-in-Err-Fault-clause-crash g c = λ ledger told stands.
    one_call (g.D.Disk.moment c.args.disk.now) (g.D.Disk.moment c.write_at.new.self) (g.D.Disk.images c.args.disk.now) (g.D.Disk.images c.write_at.new.self) (IsBeforeOrAfter ledger) c.write_at.ensures.time (λ file left. inl (settled_leaves (g.D.Disk.reads c.args.disk.now) (g.D.Disk.images c.args.disk.now (g.D.Disk.moment c.args.disk.now)) c.args.work.now ledger stands c.requires file left))
    (gate_leaves (g.D.Disk.reads c.args.disk.now) (g.D.Disk.images c.args.disk.now (g.D.Disk.moment c.args.disk.now)) c.args.work.now ledger stands c.requires (g.D.Disk.images c.write_at.new.self (g.D.Disk.moment c.write_at.new.self)) (c.write_at.ensures.at_most told))

pub returns-in-Err-Memory-clause-crash : goal.returns-in-Err-Memory-clause-crash
returns-in-Err-Memory-clause-crash g c = λ ledger told stands.
    one_call (g.D.Disk.moment c.args.disk.now) (g.D.Disk.moment c.write_at.new.self) (g.D.Disk.images c.args.disk.now) (g.D.Disk.images c.write_at.new.self) (IsBeforeOrAfter ledger) c.write_at.ensures.time (λ file left. inl (settled_leaves (g.D.Disk.reads c.args.disk.now) (g.D.Disk.images c.args.disk.now (g.D.Disk.moment c.args.disk.now)) c.args.work.now ledger stands c.requires file left))
    (gate_leaves (g.D.Disk.reads c.args.disk.now) (g.D.Disk.images c.args.disk.now (g.D.Disk.moment c.args.disk.now)) c.args.work.now ledger stands c.requires (g.D.Disk.images c.write_at.new.self (g.D.Disk.moment c.write_at.new.self)) (c.write_at.ensures.at_most told))

pub returns-in-Ok-clause-stands : goal.returns-in-Ok-clause-stands
returns-in-Ok-clause-stands g c = λ ledger told stands.
    gate_opened (g.D.Disk.reads c.args.disk.now) (g.D.Disk.images c.args.disk.now (g.D.Disk.moment c.args.disk.now)) c.args.work.now ledger stands c.advance.new.self (g.D.Disk.reads c.write_at.new.self) (g.D.Disk.images c.write_at.new.self (g.D.Disk.moment c.write_at.new.self)) c.requires (c.in-Ok.ensures.written told) (c.write_at.ensures.at_most told) c.advance.ensures.same c.advance.ensures.phase

pub returns-in-Err-Fault-clause-stands : goal.returns-in-Err-Fault-clause-stands
returns-in-Err-Fault-clause-stands g c = λ ledger told stands.
    broken (g.D.Disk.reads c.args.disk.now) (g.D.Disk.images c.args.disk.now (g.D.Disk.moment c.args.disk.now)) c.args.work.now ledger stands c.advance-in-Err-Fault.new.self (g.D.Disk.reads c.write_at.new.self) (g.D.Disk.images c.write_at.new.self (g.D.Disk.moment c.write_at.new.self)) c.advance-in-Err-Fault.ensures.same c.advance-in-Err-Fault.ensures.phase
    (gate_leaves (g.D.Disk.reads c.args.disk.now) (g.D.Disk.images c.args.disk.now (g.D.Disk.moment c.args.disk.now)) c.args.work.now ledger stands c.requires (g.D.Disk.images c.write_at.new.self (g.D.Disk.moment c.write_at.new.self)) (c.write_at.ensures.at_most told))

pub returns-in-Ok-clause-kinds : goal.returns-in-Ok-clause-kinds
returns-in-Ok-clause-kinds g c = λ ledger told stands.
    call_keeps (g.D.Disk.moment c.args.disk.now) (g.D.Disk.moment c.write_at.new.self) (g.D.Disk.images c.args.disk.now) (g.D.Disk.images c.write_at.new.self) c.write_at.ensures.time
    (λ file left. let t = c.write_at.ensures.at_most told file left in gate_keeps (g.D.Disk.reads c.args.disk.now) (g.D.Disk.images c.args.disk.now (g.D.Disk.moment c.args.disk.now)) c.args.work.now ledger stands c.requires t.0 file t.1 t.2)

pub returns-in-Err-Fault-clause-kinds : goal.returns-in-Err-Fault-clause-kinds
returns-in-Err-Fault-clause-kinds g c = λ ledger told stands.
    call_keeps (g.D.Disk.moment c.args.disk.now) (g.D.Disk.moment c.write_at.new.self) (g.D.Disk.images c.args.disk.now) (g.D.Disk.images c.write_at.new.self) c.write_at.ensures.time
    (λ file left. let t = c.write_at.ensures.at_most told file left in gate_keeps (g.D.Disk.reads c.args.disk.now) (g.D.Disk.images c.args.disk.now (g.D.Disk.moment c.args.disk.now)) c.args.work.now ledger stands c.requires t.0 file t.1 t.2)

pub returns-in-Err-Memory-clause-kinds : goal.returns-in-Err-Memory-clause-kinds
returns-in-Err-Memory-clause-kinds g c = λ ledger told stands.
    call_keeps (g.D.Disk.moment c.args.disk.now) (g.D.Disk.moment c.write_at.new.self) (g.D.Disk.images c.args.disk.now) (g.D.Disk.images c.write_at.new.self) c.write_at.ensures.time
    (λ file left. let t = c.write_at.ensures.at_most told file left in gate_keeps (g.D.Disk.reads c.args.disk.now) (g.D.Disk.images c.args.disk.now (g.D.Disk.moment c.args.disk.now)) c.args.work.now ledger stands c.requires t.0 file t.1 t.2)
