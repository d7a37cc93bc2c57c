use Rattle.sp_journal.proofs.Opened.{scan_recovers}
use Rattle.sp_pair.proofs.compaction.load.Goals as goal

pub returns-in-Ok-clause-recovered : goal.returns-in-Ok-clause-recovered
returns-in-Ok-clause-recovered g c = λ told.
    let scan = c.in-Ok.ensures.scan told in
    scan_recovers (g.D.Disk.reads c.args.disk.now) c.in-Ok.field-0.kind c.in-Ok.field-0.end c.in-Ok.field-0.found scan.kind scan.held
