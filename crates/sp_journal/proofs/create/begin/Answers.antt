use Rattle.std.proofs.Common.{◌≡◌, sym, subst, ◌∙◌, arith, true}
use Rattle.sp_disk.specs.Files.{Torn}
use Rattle.sp_journal.specs.Recovery.{NeedsMaking}
use Rattle.sp_journal.proofs.Passing.{one_call}
use Rattle.sp_journal.proofs.Making.{chained, empty_needs, torn_new, new_bytes}
use Rattle.sp_journal.proofs.create.begin.Goals as goal

pub returns-in_err-write_at-clause-crash : goal.returns-in_err-write_at-clause-crash
returns-in_err-write_at-clause-crash g c = λ told only.
    one_call (g.D.Disk.moment c.args.disk.now) (g.D.Disk.moment c.write_at.new.self) (g.D.Disk.images c.args.disk.now) (g.D.Disk.images c.write_at.new.self) NeedsMaking c.write_at.ensures.time
    (λ file left. empty_needs file (only file left))
    (λ file left. let t = c.write_at.ensures.at_most told file left in torn_new file 17 (omega arith) (subst (λ was. Torn 0 17 was file) (only t.0 t.1) t.2))

pub returns-in_err-sync-clause-crash : goal.returns-in_err-sync-clause-crash
returns-in_err-sync-clause-crash g c = λ told only.
    chained (g.D.Disk.moment c.args.disk.now) (g.D.Disk.moment c.write_at.new.self) (g.D.Disk.moment c.sync.new.self) (g.D.Disk.images c.args.disk.now) (g.D.Disk.images c.write_at.new.self) (g.D.Disk.images c.sync.new.self) NeedsMaking
    (one_call (g.D.Disk.moment c.args.disk.now) (g.D.Disk.moment c.write_at.new.self) (g.D.Disk.images c.args.disk.now) (g.D.Disk.images c.write_at.new.self) NeedsMaking c.write_at.ensures.time
    (λ file left. empty_needs file (only file left))
    (λ file left. let t = c.write_at.ensures.at_most told file left in torn_new file 17 (omega arith) (subst (λ was. Torn 0 17 was file) (only t.0 t.1) t.2)))
    (one_call (g.D.Disk.moment c.write_at.new.self) (g.D.Disk.moment c.sync.new.self) (g.D.Disk.images c.write_at.new.self) (g.D.Disk.images c.sync.new.self) NeedsMaking c.sync.ensures.time
    (λ file left. let t = c.write_at.ensures.at_most told file left in torn_new file 17 (omega arith) (subst (λ was. Torn 0 17 was file) (only t.0 t.1) t.2))
    (λ file left. let t = c.write_at.ensures.at_most told file (c.sync.ensures.at_most (subst (λ b. b ≡ true) (sym c.write_at.ensures.tells) told) file left) in torn_new file 17 (omega arith) (subst (λ was. Torn 0 17 was file) (only t.0 t.1) t.2)))

pub returns-clause-crash : goal.returns-clause-crash
returns-clause-crash g c = λ told only.
    chained (g.D.Disk.moment c.args.disk.now) (g.D.Disk.moment c.write_at.new.self) (g.D.Disk.moment c.sync.new.self) (g.D.Disk.images c.args.disk.now) (g.D.Disk.images c.write_at.new.self) (g.D.Disk.images c.sync.new.self) NeedsMaking
    (one_call (g.D.Disk.moment c.args.disk.now) (g.D.Disk.moment c.write_at.new.self) (g.D.Disk.images c.args.disk.now) (g.D.Disk.images c.write_at.new.self) NeedsMaking c.write_at.ensures.time
    (λ file left. empty_needs file (only file left))
    (λ file left. let t = c.write_at.ensures.at_most told file left in torn_new file 17 (omega arith) (subst (λ was. Torn 0 17 was file) (only t.0 t.1) t.2)))
    (one_call (g.D.Disk.moment c.write_at.new.self) (g.D.Disk.moment c.sync.new.self) (g.D.Disk.images c.write_at.new.self) (g.D.Disk.images c.sync.new.self) NeedsMaking c.sync.ensures.time
    (λ file left. let t = c.write_at.ensures.at_most told file left in torn_new file 17 (omega arith) (subst (λ was. Torn 0 17 was file) (only t.0 t.1) t.2))
    (λ file left. let t = c.write_at.ensures.at_most told file (c.sync.ensures.at_most (subst (λ b. b ≡ true) (sym c.write_at.ensures.tells) told) file left) in torn_new file 17 (omega arith) (subst (λ was. Torn 0 17 was file) (only t.0 t.1) t.2)))

pub returns-clause-settled : goal.returns-clause-settled
returns-clause-settled g c = λ told none.
    let told' = subst (λ b. b ≡ true) (sym c.write_at.ensures.tells) told in
    let written = c.in_ok-write_at.ensures.written told ∙ new_bytes (g.D.Disk.reads c.args.disk.now) none in
    (c.sync.ensures.bytes told' ∙ written, λ file left. c.in_ok-sync.ensures.settled told' file left ∙ written)
