use Rattle.std.proofs.Common.{◌≡◌, true, sym, subst, ◌∙◌}
use Rattle.sp_journal.specs.Kinds.{KeepsKind}
use Rattle.sp_disk.specs.Moments.{LeavesOnly}
use Rattle.sp_journal.proofs.Opened.{opens_synced, opens_after}
use Rattle.sp_journal.proofs.attach.open.Goals as goal

pub returns-clause-crash : goal.returns-clause-crash
returns-clause-crash g c = λ told.
    let told' = subst (λ b. b ≡ true) (sym c.sync.ensures.tells) told in
    let same = c.sync.ensures.bytes told in
    opens_synced (g.D.Disk.moment c.args.disk.now) (g.D.Disk.moment c.sync.new.self) (g.D.Disk.moment c.start.new.disk) (g.D.Disk.reads c.args.disk.now) (g.D.Disk.reads c.sync.new.self)
    (g.D.Disk.images c.args.disk.now) (g.D.Disk.images c.sync.new.self) (g.D.Disk.images c.start.new.disk) same c.sync.ensures.time
    (c.start.ensures.crash told' (λ file left. c.in_ok-sync.ensures.settled told file left ∙ sym same))

pub returns-clause-kinds : goal.returns-clause-kinds
returns-clause-kinds g c = λ told.
    let told' = subst (λ b. b ≡ true) (sym c.sync.ensures.tells) told in
    let same = c.sync.ensures.bytes told in
    opens_after (g.D.Disk.moment c.args.disk.now) (g.D.Disk.moment c.sync.new.self) (g.D.Disk.moment c.start.new.disk) (g.D.Disk.images c.args.disk.now) (g.D.Disk.images c.sync.new.self) (g.D.Disk.images c.start.new.disk) (KeepsKind (g.D.Disk.reads c.args.disk.now)) c.sync.ensures.time
    (subst (λ w. LeavesOnly (g.D.Disk.moment c.sync.new.self) (g.D.Disk.moment c.start.new.disk) (g.D.Disk.images c.sync.new.self) (g.D.Disk.images c.start.new.disk) (KeepsKind w)) same
    (c.start.ensures.kinds told' (λ file left. c.in_ok-sync.ensures.settled told file left ∙ sym same)))
