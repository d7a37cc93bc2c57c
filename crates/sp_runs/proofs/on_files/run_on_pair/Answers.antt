use Rattle.sp_runs.specs.Scripts.{form_of}
use Rattle.sp_runs.specs.Writing.{audit_line}
use Rattle.sp_runs.proofs.Telling.{from_told}
use Rattle.sp_runs.proofs.Unstarted.{reads_none, writes_alone, unopened}
use Rattle.sp_runs.proofs.on_files.run_on_pair.Goals as goal

pub returns-in-Ok-clause-told : goal.returns-in-Ok-clause-told
returns-in-Ok-clause-told g c =
    let ran = c.run_store.result.0 in
    let opened = c.in-Ok.ensures.opened in
    from_told c.args.language c.args.shape opened.0 ran.transcript.end ran.transcript.items ran.audit (c.run_store.ensures.runs c.args.shape opened.0 opened.1)

pub returns-in-Err-clause-read : goal.returns-in-Err-clause-read
returns-in-Err-clause-read g c =
    let ran = c.unstarted.result in
    reads_none (form_of c.args.language) (g.S.Source.left c.args.source.now) ran.transcript.end c.end_unopened.result ran.transcript.items c.unstarted.ensures.end (unopened c.in-Err.error c.end_unopened.result c.end_unopened.ensures) c.unstarted.ensures.none.silent

pub returns-in-Err-clause-written : goal.returns-in-Err-clause-written
returns-in-Err-clause-written g c =
    let ran = c.unstarted.result in
    writes_alone (g.K.Sink.taken c.args.sink.now) (g.K.Sink.taken c.unstarted.new.sink) (g.K.Sink.write_faults c.args.sink.now) (g.K.Sink.write_faults c.unstarted.new.sink) (form_of c.args.language) (audit_line c.args.audited ran.audit)
    ran.transcript.end c.end_unopened.result ran.transcript.items c.unstarted.ensures.end (unopened c.in-Err.error c.end_unopened.result c.end_unopened.ensures) c.unstarted.ensures.none.silent c.unstarted.ensures.written
