use Rattle.std.proofs.Common.{◌≡◌, sym, subst, true}
use Rattle.sp_journal.specs.Recovery.{NeedsMaking}
use Rattle.sp_journal.proofs.Passing.{one_call}
use Rattle.sp_journal.proofs.Making.{chained, cut_needs}
use Rattle.sp_journal.proofs.create.empty.Goals as goal

pub returns-in_err-cut-clause-crash : goal.returns-in_err-cut-clause-crash
returns-in_err-cut-clause-crash g c = λ told needs only.
    one_call (g.D.Disk.moment c.args.disk.now) (g.D.Disk.moment c.cut.new.self) (g.D.Disk.images c.args.disk.now) (g.D.Disk.images c.cut.new.self) NeedsMaking c.cut.ensures.time
    (λ file left. subst NeedsMaking (sym (only file left)) (needs))
    (λ file left. let t = c.cut.ensures.at_most told file left in cut_needs t.0 file (subst NeedsMaking (sym (only t.0 t.1)) needs) t.2)

pub returns-in_err-sync-clause-crash : goal.returns-in_err-sync-clause-crash
returns-in_err-sync-clause-crash g c = λ told needs only.
    chained (g.D.Disk.moment c.args.disk.now) (g.D.Disk.moment c.cut.new.self) (g.D.Disk.moment c.sync.new.self) (g.D.Disk.images c.args.disk.now) (g.D.Disk.images c.cut.new.self) (g.D.Disk.images c.sync.new.self) NeedsMaking
    (one_call (g.D.Disk.moment c.args.disk.now) (g.D.Disk.moment c.cut.new.self) (g.D.Disk.images c.args.disk.now) (g.D.Disk.images c.cut.new.self) NeedsMaking c.cut.ensures.time
    (λ file left. subst NeedsMaking (sym (only file left)) (needs))
    (λ file left. let t = c.cut.ensures.at_most told file left in cut_needs t.0 file (subst NeedsMaking (sym (only t.0 t.1)) needs) t.2))
    (one_call (g.D.Disk.moment c.cut.new.self) (g.D.Disk.moment c.sync.new.self) (g.D.Disk.images c.cut.new.self) (g.D.Disk.images c.sync.new.self) NeedsMaking c.sync.ensures.time
    (λ file left. let t = c.cut.ensures.at_most told file left in cut_needs t.0 file (subst NeedsMaking (sym (only t.0 t.1)) needs) t.2)
    (λ file left. let t = c.cut.ensures.at_most told file (c.sync.ensures.at_most (subst (λ b. b ≡ true) (sym c.cut.ensures.tells) told) file left) in cut_needs t.0 file (subst NeedsMaking (sym (only t.0 t.1)) needs) t.2))

pub returns-clause-crash : goal.returns-clause-crash
returns-clause-crash g c = λ told needs only.
    chained (g.D.Disk.moment c.args.disk.now) (g.D.Disk.moment c.cut.new.self) (g.D.Disk.moment c.sync.new.self) (g.D.Disk.images c.args.disk.now) (g.D.Disk.images c.cut.new.self) (g.D.Disk.images c.sync.new.self) NeedsMaking
    (one_call (g.D.Disk.moment c.args.disk.now) (g.D.Disk.moment c.cut.new.self) (g.D.Disk.images c.args.disk.now) (g.D.Disk.images c.cut.new.self) NeedsMaking c.cut.ensures.time
    (λ file left. subst NeedsMaking (sym (only file left)) (needs))
    (λ file left. let t = c.cut.ensures.at_most told file left in cut_needs t.0 file (subst NeedsMaking (sym (only t.0 t.1)) needs) t.2))
    (one_call (g.D.Disk.moment c.cut.new.self) (g.D.Disk.moment c.sync.new.self) (g.D.Disk.images c.cut.new.self) (g.D.Disk.images c.sync.new.self) NeedsMaking c.sync.ensures.time
    (λ file left. let t = c.cut.ensures.at_most told file left in cut_needs t.0 file (subst NeedsMaking (sym (only t.0 t.1)) needs) t.2)
    (λ file left. let t = c.cut.ensures.at_most told file (c.sync.ensures.at_most (subst (λ b. b ≡ true) (sym c.cut.ensures.tells) told) file left) in cut_needs t.0 file (subst NeedsMaking (sym (only t.0 t.1)) needs) t.2))
