use Rattle.sp_report.specs.Report.{dump_text}
use Rattle.sp_files.specs.Fetching.{alt_name}
use Rattle.sp_files.proofs.Reports.{reports}
use Rattle.sp_files.proofs.commands.dump.Goals as goal

pub returns-clause-reports : goal.returns-clause-reports
returns-clause-reports g c = λ told.
    let main = c.in-Ok.ensures.main told in
    let alt = c.in-Ok.ensures.alt told in
    let shelf = c.args.shelf.now in
    reports dump_text (g.H.Shelf.holds shelf c.args.name.now) (g.H.Shelf.holds shelf (alt_name c.args.name.now)) (g.H.Disk.Disk.reads c.in-Ok.pair.main) (g.H.Disk.Disk.reads c.in-Ok.pair.alt) _ _
    (g.K.Sink.write_faults c.args.sink.now) (g.K.Sink.write_faults c.tell-end.new.sink) c.dumped-answer.result c.tell-end.result main.1 alt.1
    (c.dumped-answer.ensures.text main.0 alt.0) (c.dumped-answer.ensures.refused main.0 alt.0) c.tell-end.ensures.told
