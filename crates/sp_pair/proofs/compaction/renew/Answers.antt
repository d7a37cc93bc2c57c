use Rattle.std.proofs.Common.{subst, ap, Err, ◌∙◌, ℕ}
use Rattle.sp_rect.specs.Store.{IsOrdered}
use Rattle.sp_journal.proofs.Ordering.{held_ordered}
use Rattle.sp_pair.specs.Compacting.{compacted, RefusedRoles}
use Rattle.sp_pair.proofs.Resting.{err_as, refused_here, compacted_here, rests_here, renew_keeps}
use Rattle.sp_pair.proofs.compaction.renew.Goals as goal

pub returns-in_err-records-clause-refused : goal.returns-in_err-records-clause-refused
returns-in_err-records-clause-refused g c = λ b told also rest.
    let e = c.in_err-records.field-0.0 in
    let said = c.in_err-records.ensures in
    err_as c.from_residual.result e (λ x. RefusedRoles x b c.args.generation (g.D.Disk.reads c.args.current.now) (g.D.Disk.reads c.args.other.now)) c.from_residual.ensures.1
    (refused_here b c.args.generation (g.D.Disk.reads c.args.current.now) (g.D.Disk.reads c.args.other.now) (g.D.Disk.images c.args.current.now (g.D.Disk.moment c.args.current.now)) (g.D.Disk.images c.args.other.now (g.D.Disk.moment c.args.other.now)) rest e
    (λ at home is. said.damaged at told home (ap Err is)) (λ is. said.foreign (ap Err is)) (λ is. said.worn (ap Err is)) (λ is. said.read told (ap Err is)))

pub returns-in_err-rewrite-clause-crash : goal.returns-in_err-rewrite-clause-crash
returns-in_err-rewrite-clause-crash g c = λ b told also rest.
    renew_keeps b c.args.generation c.next.result (g.D.Disk.reads c.args.current.now) (g.D.Disk.reads c.read.new.disk) (g.D.Disk.reads c.args.other.now) (g.D.Disk.moment c.args.current.now) (g.D.Disk.moment c.read.new.disk) (g.D.Disk.moment c.args.other.now) (g.D.Disk.moment c.rewrite.new.disk)
    (g.D.Disk.images c.args.current.now) (g.D.Disk.images c.read.new.disk) (g.D.Disk.images c.args.other.now) (g.D.Disk.images c.rewrite.new.disk) c.in_ok-records.records rest c.in_ok-records.ensures.early c.next.ensures (c.in_ok-records.ensures.records told) (c.read.ensures.looks told)
    (λ low high ordered. c.rewrite.ensures.crash also low high ordered rest.other_only)

pub returns-clause-crash : goal.returns-clause-crash
returns-clause-crash g c = λ b told also rest.
    renew_keeps b c.args.generation c.next.result (g.D.Disk.reads c.args.current.now) (g.D.Disk.reads c.read.new.disk) (g.D.Disk.reads c.args.other.now) (g.D.Disk.moment c.args.current.now) (g.D.Disk.moment c.read.new.disk) (g.D.Disk.moment c.args.other.now) (g.D.Disk.moment c.rewrite.new.disk)
    (g.D.Disk.images c.args.current.now) (g.D.Disk.images c.read.new.disk) (g.D.Disk.images c.args.other.now) (g.D.Disk.images c.rewrite.new.disk) c.in_ok-records.records rest c.in_ok-records.ensures.early c.next.ensures (c.in_ok-records.ensures.records told) (c.read.ensures.looks told)
    (λ low high ordered. c.rewrite.ensures.crash also low high ordered rest.other_only)

pub returns-clause-compacted : goal.returns-clause-compacted
returns-clause-compacted g c = λ b told also rest.
    let records = c.in_ok-records.records in
    let held = c.in_ok-records.ensures.records told in
    let current = g.D.Disk.reads c.args.current.now in
    let ordered : IsOrdered records = subst IsOrdered held.2 (held_ordered current held.0 held.1) in
    compacted_here b c.args.generation current (g.D.Disk.reads c.args.other.now) (g.D.Disk.images c.args.current.now (g.D.Disk.moment c.args.current.now)) (g.D.Disk.images c.args.other.now (g.D.Disk.moment c.args.other.now)) rest c.len.result (g.D.Disk.reads c.rewrite.new.disk) records held.0 held.1 held.2
    (c.in_ok-rewrite.ensures.valid ordered) c.len.ensures.len ((c.in_ok-rewrite.ensures.whole also).0 ∙ ap (λ (n : ℕ). compacted n records) c.next.ensures)

pub returns-clause-rests : goal.returns-clause-rests
returns-clause-rests g c = λ b told also rest.
    let records = c.in_ok-records.records in
    let whole = c.in_ok-rewrite.ensures.whole also in
    let looks = c.read.ensures.looks told in
    rests_here b c.args.generation (g.D.Disk.reads c.args.current.now) (g.D.Disk.reads c.args.other.now) (g.D.Disk.images c.args.current.now (g.D.Disk.moment c.args.current.now)) (g.D.Disk.images c.args.other.now (g.D.Disk.moment c.args.other.now)) rest records (g.D.Disk.reads c.rewrite.new.disk)
    (g.D.Disk.reads c.read.new.disk) (g.D.Disk.images c.rewrite.new.disk (g.D.Disk.moment c.rewrite.new.disk)) (g.D.Disk.images c.read.new.disk (g.D.Disk.moment c.read.new.disk)) c.in_ok-records.ensures.early (whole.0 ∙ ap (λ (n : ℕ). compacted n records) c.next.ensures) whole.1 looks.bytes
    (λ file left. (looks.same file).0 left)
