use Rattle.std.proofs.Common.{inl, length, ap, ◌∙◌, subst, ◌+◌, ℕ, List}
use Rattle.sp_disk.specs.Files.{put, Torn}
use Rattle.sp_journal.specs.Standing.{IsBefore}
use Rattle.sp_journal.proofs.Passing.{one_call}
use Rattle.sp_journal.proofs.Turning.{body_keeps, ready_leaves, body_before, body_written, broken}
use Rattle.sp_journal.proofs.Kinding.{call_keeps}
use Rattle.sp_journal.proofs.journal.write_body.Goals as goal

pub returns-in-Ok-clause-crash : goal.returns-in-Ok-clause-crash
returns-in-Ok-clause-crash g c = λ ledger told stands.
    one_call (g.D.Disk.moment c.args.disk.now) (g.D.Disk.moment c.write_at.new.self) (g.D.Disk.images c.args.disk.now) (g.D.Disk.images c.write_at.new.self) (IsBefore ledger) c.write_at.ensures.time (ready_leaves (g.D.Disk.reads c.args.disk.now) (g.D.Disk.images c.args.disk.now (g.D.Disk.moment c.args.disk.now)) c.args.work.now ledger stands c.requires.phase)
    (body_before (g.D.Disk.reads c.args.disk.now) (g.D.Disk.images c.args.disk.now (g.D.Disk.moment c.args.disk.now)) c.args.work.now ledger stands c.requires.phase (length c.args.work.now.queued.items) (g.D.Disk.images c.write_at.new.self (g.D.Disk.moment c.write_at.new.self)) (λ file left. let t = c.write_at.ensures.at_most told file left in (t.0, t.1, subst (λ (n : ℕ). Torn (c.args.work.now.end + 1) n t.0 file) (ap length c.as_slice.ensures.value) t.2)))

pub returns-in-Err-Fault-clause-crash : goal.returns-in-Err-Fault-clause-crash
returns-in-Err-Fault-clause-crash g c = λ ledger told stands.
    one_call (g.D.Disk.moment c.args.disk.now) (g.D.Disk.moment c.write_at.new.self) (g.D.Disk.images c.args.disk.now) (g.D.Disk.images c.write_at.new.self) (IsBefore ledger) c.write_at.ensures.time (ready_leaves (g.D.Disk.reads c.args.disk.now) (g.D.Disk.images c.args.disk.now (g.D.Disk.moment c.args.disk.now)) c.args.work.now ledger stands c.requires.phase)
    (body_before (g.D.Disk.reads c.args.disk.now) (g.D.Disk.images c.args.disk.now (g.D.Disk.moment c.args.disk.now)) c.args.work.now ledger stands c.requires.phase (length c.args.work.now.queued.items) (g.D.Disk.images c.write_at.new.self (g.D.Disk.moment c.write_at.new.self)) (λ file left. let t = c.write_at.ensures.at_most told file left in (t.0, t.1, subst (λ (n : ℕ). Torn (c.args.work.now.end + 1) n t.0 file) (ap length c.as_slice.ensures.value) t.2)))

pub returns-in-Err-Memory-clause-crash : goal.returns-in-Err-Memory-clause-crash
returns-in-Err-Memory-clause-crash g c = λ ledger told stands.
    one_call (g.D.Disk.moment c.args.disk.now) (g.D.Disk.moment c.write_at.new.self) (g.D.Disk.images c.args.disk.now) (g.D.Disk.images c.write_at.new.self) (IsBefore ledger) c.write_at.ensures.time (ready_leaves (g.D.Disk.reads c.args.disk.now) (g.D.Disk.images c.args.disk.now (g.D.Disk.moment c.args.disk.now)) c.args.work.now ledger stands c.requires.phase)
    (body_before (g.D.Disk.reads c.args.disk.now) (g.D.Disk.images c.args.disk.now (g.D.Disk.moment c.args.disk.now)) c.args.work.now ledger stands c.requires.phase (length c.args.work.now.queued.items) (g.D.Disk.images c.write_at.new.self (g.D.Disk.moment c.write_at.new.self)) (λ file left. let t = c.write_at.ensures.at_most told file left in (t.0, t.1, subst (λ (n : ℕ). Torn (c.args.work.now.end + 1) n t.0 file) (ap length c.as_slice.ensures.value) t.2)))

pub returns-in-Ok-clause-stands : goal.returns-in-Ok-clause-stands
returns-in-Ok-clause-stands g c = λ ledger told stands.
    body_written (g.D.Disk.reads c.args.disk.now) (g.D.Disk.images c.args.disk.now (g.D.Disk.moment c.args.disk.now)) c.args.work.now ledger stands c.take_off.new.self (g.D.Disk.reads c.write_at.new.self) (g.D.Disk.images c.write_at.new.self (g.D.Disk.moment c.write_at.new.self)) c.requires.phase c.requires.some
    (c.in-Ok.ensures.written told ∙ ap (λ (l : List ℕ). put (g.D.Disk.reads c.args.disk.now) (c.args.work.now.end + 1) l) c.as_slice.ensures.value) (λ file left. let t = c.write_at.ensures.at_most told file left in (t.0, t.1, subst (λ (n : ℕ). Torn (c.args.work.now.end + 1) n t.0 file) (ap length c.as_slice.ensures.value) t.2))
    c.take_off.ensures.flight.0 c.take_off.ensures.flight.1 c.take_off.ensures.queued.0 c.take_off.ensures.queued.1 c.take_off.ensures.place.0 c.take_off.ensures.place.1 c.take_off.ensures.place.2

pub returns-in-Err-Fault-clause-stands : goal.returns-in-Err-Fault-clause-stands
returns-in-Err-Fault-clause-stands g c = λ ledger told stands.
    broken (g.D.Disk.reads c.args.disk.now) (g.D.Disk.images c.args.disk.now (g.D.Disk.moment c.args.disk.now)) c.args.work.now ledger stands c.advance.new.self (g.D.Disk.reads c.write_at.new.self) (g.D.Disk.images c.write_at.new.self (g.D.Disk.moment c.write_at.new.self)) c.advance.ensures.same c.advance.ensures.phase
    (λ file left. inl (body_before (g.D.Disk.reads c.args.disk.now) (g.D.Disk.images c.args.disk.now (g.D.Disk.moment c.args.disk.now)) c.args.work.now ledger stands c.requires.phase (length c.args.work.now.queued.items) (g.D.Disk.images c.write_at.new.self (g.D.Disk.moment c.write_at.new.self)) (λ file left. let t = c.write_at.ensures.at_most told file left in (t.0, t.1, subst (λ (n : ℕ). Torn (c.args.work.now.end + 1) n t.0 file) (ap length c.as_slice.ensures.value) t.2)) file left))

pub returns-in-Ok-clause-kinds : goal.returns-in-Ok-clause-kinds
returns-in-Ok-clause-kinds g c = λ ledger told stands.
    call_keeps (g.D.Disk.moment c.args.disk.now) (g.D.Disk.moment c.write_at.new.self) (g.D.Disk.images c.args.disk.now) (g.D.Disk.images c.write_at.new.self) c.write_at.ensures.time
    (λ file left. let t = c.write_at.ensures.at_most told file left in body_keeps (g.D.Disk.reads c.args.disk.now) (g.D.Disk.images c.args.disk.now (g.D.Disk.moment c.args.disk.now)) c.args.work.now ledger stands c.requires.phase (length c.args.work.now.queued.items) t.0 file t.1 (subst (λ (n : ℕ). Torn (c.args.work.now.end + 1) n t.0 file) (ap length c.as_slice.ensures.value) t.2))

pub returns-in-Err-Fault-clause-kinds : goal.returns-in-Err-Fault-clause-kinds
returns-in-Err-Fault-clause-kinds g c = λ ledger told stands.
    call_keeps (g.D.Disk.moment c.args.disk.now) (g.D.Disk.moment c.write_at.new.self) (g.D.Disk.images c.args.disk.now) (g.D.Disk.images c.write_at.new.self) c.write_at.ensures.time
    (λ file left. let t = c.write_at.ensures.at_most told file left in body_keeps (g.D.Disk.reads c.args.disk.now) (g.D.Disk.images c.args.disk.now (g.D.Disk.moment c.args.disk.now)) c.args.work.now ledger stands c.requires.phase (length c.args.work.now.queued.items) t.0 file t.1 (subst (λ (n : ℕ). Torn (c.args.work.now.end + 1) n t.0 file) (ap length c.as_slice.ensures.value) t.2))

pub returns-in-Err-Memory-clause-kinds : goal.returns-in-Err-Memory-clause-kinds
returns-in-Err-Memory-clause-kinds g c = λ ledger told stands.
    call_keeps (g.D.Disk.moment c.args.disk.now) (g.D.Disk.moment c.write_at.new.self) (g.D.Disk.images c.args.disk.now) (g.D.Disk.images c.write_at.new.self) c.write_at.ensures.time
    (λ file left. let t = c.write_at.ensures.at_most told file left in body_keeps (g.D.Disk.reads c.args.disk.now) (g.D.Disk.images c.args.disk.now (g.D.Disk.moment c.args.disk.now)) c.args.work.now ledger stands c.requires.phase (length c.args.work.now.queued.items) t.0 file t.1 (subst (λ (n : ℕ). Torn (c.args.work.now.end + 1) n t.0 file) (ap length c.as_slice.ensures.value) t.2))
