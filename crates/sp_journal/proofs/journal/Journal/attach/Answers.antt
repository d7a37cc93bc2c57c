use Rattle.sp_journal.proofs.Opened.{attached_keeps, attached_begins}
use Rattle.sp_journal.proofs.journal.Journal.attach.Goals as goal

pub returns-in-Ok-clause-kept : goal.returns-in-Ok-clause-kept
returns-in-Ok-clause-kept g c = λ told.
    attached_keeps (g.D.Disk.reads c.args.disk) (g.D.Disk.reads c.open.new.disk) (g.D.Disk.images c.open.new.disk (g.D.Disk.moment c.open.new.disk)) c.in-Ok.work c.in-Ok.found (c.in-Ok.ensures.attached told) c.in-Ok.ensures.fresh.0

pub returns-in-Ok-clause-begins : goal.returns-in-Ok-clause-begins
returns-in-Ok-clause-begins g c = λ told.
    attached_begins (g.D.Disk.reads c.args.disk) (g.D.Disk.reads c.open.new.disk) (g.D.Disk.images c.open.new.disk (g.D.Disk.moment c.open.new.disk)) c.in-Ok.work c.in-Ok.found (c.in-Ok.ensures.attached told) c.in-Ok.ensures.fresh.0
