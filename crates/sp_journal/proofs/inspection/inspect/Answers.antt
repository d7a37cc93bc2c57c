use Rattle.sp_journal.proofs.Opened.{scan_recovers}
use Rattle.sp_journal.proofs.inspection.inspect.Goals as goal

pub returns-clause-recovered : goal.returns-clause-recovered
returns-clause-recovered g c = λ told.
    let scan = c.in_ok-found.ensures.scan told in
    scan_recovers (g.D.Disk.reads c.args.disk.now) c.in_ok-found.field-0.kind c.in_ok-found.field-0.end c.in_ok-found.field-0.found scan.kind scan.held
