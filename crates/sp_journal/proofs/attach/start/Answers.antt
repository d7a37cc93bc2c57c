use Rattle.std.proofs.Common.{◌≡◌, true, sym, subst, ◌∙◌}
use Rattle.sp_journal.specs.Kinds.{IsKind}
use Rattle.sp_journal.specs.Opening.{IsReady}
use Rattle.sp_journal.specs.Scanning.{Held}
use Rattle.sp_journal.proofs.Opened.{scan_recovers, attached_idle, looked_keeps, prepared_keeps}
use Rattle.sp_journal.proofs.attach.start.Goals as goal

pub returns-clause-attached : goal.returns-clause-attached
returns-clause-attached g c = λ told only.
    let was = g.D.Disk.reads c.args.disk.now in
    let mid = g.D.Disk.reads c.scan_file.new.disk in
    let looks = c.scan_file.ensures.looks told in
    let told' = subst (λ b. b ≡ true) (sym c.scan_file.ensures.tells) told in
    let scan = c.in_ok-kind.ensures.scan told in
    let field = c.in_ok-kind.field-0 in
    let kind : IsKind mid field.kind = subst (λ f. IsKind f field.kind) (sym looks.bytes) scan.kind in
    let held : Held field.kind mid field.end field.found = subst (λ f. Held field.kind f field.end field.found) (sym looks.bytes) scan.held in
    let ready = c.in_ok-prepare.ensures.ready field.end field.found told' kind held (λ file left. only file ((looks.same file).0 left) ∙ sym looks.bytes) in
    let reads = g.D.Disk.reads c.prepare.new.disk in
    let leaves = g.D.Disk.images c.prepare.new.disk (g.D.Disk.moment c.prepare.new.disk) in
    attached_idle was reads leaves field.end field.found (subst (λ w. IsReady w reads leaves field.end field.found) looks.bytes ready) c.in_ok-work.work
    (scan_recovers was field.kind field.end field.found scan.kind scan.held) c.in_ok-work.ensures.end c.in_ok-work.ensures.phase c.in_ok-work.ensures.flight c.in_ok-work.ensures.queued

pub returns-in_err-kind-clause-kinds : goal.returns-in_err-kind-clause-kinds
returns-in_err-kind-clause-kinds g c = λ told only.
    looked_keeps (g.D.Disk.moment c.args.disk.now) (g.D.Disk.moment c.scan_file.new.disk) (g.D.Disk.reads c.args.disk.now) (g.D.Disk.reads c.scan_file.new.disk) (g.D.Disk.images c.args.disk.now) (g.D.Disk.images c.scan_file.new.disk) (c.scan_file.ensures.looks told) only

pub returns-in_err-work-clause-kinds : goal.returns-in_err-work-clause-kinds
returns-in_err-work-clause-kinds g c = λ told only.
    looked_keeps (g.D.Disk.moment c.args.disk.now) (g.D.Disk.moment c.scan_file.new.disk) (g.D.Disk.reads c.args.disk.now) (g.D.Disk.reads c.scan_file.new.disk) (g.D.Disk.images c.args.disk.now) (g.D.Disk.images c.scan_file.new.disk) (c.scan_file.ensures.looks told) only

pub returns-in_err-prepare-clause-kinds : goal.returns-in_err-prepare-clause-kinds
returns-in_err-prepare-clause-kinds g c = λ told only.
    let looks = c.scan_file.ensures.looks told in
    let scan = c.in_ok-kind.ensures.scan told in
    prepared_keeps (g.D.Disk.moment c.args.disk.now) (g.D.Disk.moment c.scan_file.new.disk) (g.D.Disk.moment c.prepare.new.disk) (g.D.Disk.reads c.args.disk.now) (g.D.Disk.reads c.scan_file.new.disk) (g.D.Disk.images c.args.disk.now) (g.D.Disk.images c.scan_file.new.disk) (g.D.Disk.images c.prepare.new.disk) looks only
    (c.prepare.ensures.kinds (subst (λ b. b ≡ true) (sym c.scan_file.ensures.tells) told) (subst (λ f. IsKind f c.in_ok-kind.field-0.kind) (sym looks.bytes) scan.kind) (λ file left. only file ((looks.same file).0 left) ∙ sym looks.bytes))

pub returns-clause-kinds : goal.returns-clause-kinds
returns-clause-kinds g c = λ told only.
    let looks = c.scan_file.ensures.looks told in
    let scan = c.in_ok-kind.ensures.scan told in
    prepared_keeps (g.D.Disk.moment c.args.disk.now) (g.D.Disk.moment c.scan_file.new.disk) (g.D.Disk.moment c.prepare.new.disk) (g.D.Disk.reads c.args.disk.now) (g.D.Disk.reads c.scan_file.new.disk) (g.D.Disk.images c.args.disk.now) (g.D.Disk.images c.scan_file.new.disk) (g.D.Disk.images c.prepare.new.disk) looks only
    (c.prepare.ensures.kinds (subst (λ b. b ≡ true) (sym c.scan_file.ensures.tells) told) (subst (λ f. IsKind f c.in_ok-kind.field-0.kind) (sym looks.bytes) scan.kind) (λ file left. only file ((looks.same file).0 left) ∙ sym looks.bytes))
