use Rattle.std.proofs.Common.{ap, ◌∙◌}
use Rattle.sp_runs.specs.Scripts.{form_of}
use Rattle.sp_runs.specs.Writing.{audit_line}
use Rattle.sp_runs.proofs.Unstarted.{reads_none, writes_alone, unfetched}
use Rattle.sp_runs.proofs.on_files.run_on_files.Goals as goal

pub returns-in-Err-clause-read : goal.returns-in-Err-clause-read
returns-in-Err-clause-read g c =
    let ran = c.with_disks-in-Err.result in
    let is = c.with_disks-in-Err.ensures.transcript in
    reads_none (form_of c.args.language) (g.S.Source.left c.args.source.now) ran.transcript.end c.end_unfetched.result ran.transcript.items (ap (λ t. t.end) is ∙ c.unstarted.ensures.end)
    (unfetched c.in-Err.fault c.end_unfetched.result c.end_unfetched.ensures) (ap (λ t. t.items) is ∙ c.unstarted.ensures.none.silent)

pub returns-in-Err-clause-written : goal.returns-in-Err-clause-written
returns-in-Err-clause-written g c =
    let ran = c.with_disks-in-Err.result in
    let is = c.with_disks-in-Err.ensures.transcript in
    writes_alone (g.K.Sink.taken c.args.sink.now) (g.K.Sink.taken c.unstarted.new.sink) (g.K.Sink.write_faults c.args.sink.now) (g.K.Sink.write_faults c.unstarted.new.sink) (form_of c.args.language) (audit_line c.args.audited ran.audit)
    ran.transcript.end c.end_unfetched.result ran.transcript.items (ap (λ t. t.end) is ∙ c.unstarted.ensures.end)
    (unfetched c.in-Err.fault c.end_unfetched.result c.end_unfetched.ensures) (ap (λ t. t.items) is ∙ c.unstarted.ensures.none.silent) c.unstarted.ensures.written
