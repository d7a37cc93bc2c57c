use Rattle.std.proofs.Common.{inl, inr, refl}
use Rattle.sp_text.specs.declared.types.End.TheVariants.{Memory as WantsMemory}
use Rattle.sp_command.specs.declared.task.Task.TheVariants.{Play, Dump, Check, Compact, Make, Stress}
use Rattle.sp_conduct.proofs.Alone.{as_plain}
use Rattle.sp_script.specs.Script.{script_text}
use Rattle.sp_report.specs.Report.{check_text, dump_text}
use Rattle.sp_files.specs.declared.ending.FileEnd.TheVariants.{Memory}
use Rattle.sp_runs.specs.declared.language.Language.TheVariants.{Commands}
use Rattle.sp_runs.specs.Scripts.{form_of}
use Rattle.sp_runs.proofs.Unstarted.{reads_none}
use Rattle.spatial.proofs.Asked.{said, says_it, on_files, names_journal}
use Rattle.spatial.specs.Commands.{script_task}
use Rattle.spatial.proofs.Completeness.{ends_well, started, started_where, started_in_memory, started_on_files, reports_well, compacts_well, stresses_well, makes_well, whichever}
use Rattle.spatial.proofs.Conduct.{run_fits, run_closed}
use Rattle.spatial.proofs.Silence.{if_none, hears_none}
use Rattle.spatial.proofs.offline.offline.Goals as goal

pub returns-in-Ok-Some-clause-usage : goal.returns-in-Ok-Some-clause-usage
returns-in-Ok-Some-clause-usage g c = λ not.
    (λ one. absurd (c.perform.ensures.served one), λ none. absurd (none c.in-Ok-Some.task (says_it c.args.words.now c.in-Ok-Some.field-0 c.in-Ok-Some.task c.in-Ok-Some.ensures.says c.in-Ok-Some.field-0-is c.in-Ok-Some.task refl)))

pub returns-in-Ok-Some-clause-stress_runs : goal.returns-in-Ok-Some-clause-stress_runs
returns-in-Ok-Some-clause-stress_runs g c = λ seed count shape says.
    c.perform.ensures.stress_runs seed count shape (said c.args.words.now c.in-Ok-Some.field-0 c.in-Ok-Some.task c.in-Ok-Some.ensures.says c.in-Ok-Some.field-0-is (Stress seed count shape) says)

pub returns-in-Ok-Some-clause-fits : goal.returns-in-Ok-Some-clause-fits
returns-in-Ok-Some-clause-fits g c = λ run says.
    let asks = said c.args.words.now c.in-Ok-Some.field-0 c.in-Ok-Some.task c.in-Ok-Some.ensures.says c.in-Ok-Some.field-0-is (Play run) says in
    let done = c.perform.result in
    run_fits run.shape done.transcript.end done.transcript.items done.audit (c.perform.ensures.ran Commands run asks)

pub returns-in-Ok-Some-clause-closed : goal.returns-in-Ok-Some-clause-closed
returns-in-Ok-Some-clause-closed g c = λ run says ends.
    let asks = said c.args.words.now c.in-Ok-Some.field-0 c.in-Ok-Some.task c.in-Ok-Some.ensures.says c.in-Ok-Some.field-0-is (Play run) says in
    let done = c.perform.result in
    run_closed run.shape done.transcript.end done.transcript.items done.audit (c.perform.ensures.ran Commands run asks) ends

pub returns-in-Ok-Some-clause-alone : goal.returns-in-Ok-Some-clause-alone
returns-in-Ok-Some-clause-alone g c = λ run s says mine.
    let asks = said c.args.words.now c.in-Ok-Some.field-0 c.in-Ok-Some.task c.in-Ok-Some.ensures.says c.in-Ok-Some.field-0-is (Play run) says in
    let done = c.perform.result in
    as_plain done.audit.base s done.transcript.items (run_fits run.shape done.transcript.end done.transcript.items done.audit (c.perform.ensures.ran Commands run asks)) mine

pub returns-in-Ok-Some-clause-complete : goal.returns-in-Ok-Some-clause-complete
returns-in-Ok-Some-clause-complete g c = λ language run says short accepted no_read no_write no_disk.
    let asks = said c.args.words.now c.in-Ok-Some.field-0 c.in-Ok-Some.task c.in-Ok-Some.ensures.says c.in-Ok-Some.field-0-is (script_task language run) says in
    let p = c.perform.ensures in
    let done = c.perform.result in
    ends_well (form_of language) (g.S.Source.left c.args.source.now) (g.S.Source.left c.perform.new.source) done.transcript.items short _ _ _ no_read no_write no_disk done.status done.transcript.end (p.status language run asks)
    (started done.transcript.end run.journal (g.H.Shelf.tells c.args.shelf.now) (g.H.Shelf.holds c.args.shelf.now) accepted
    (λ none. started_in_memory language run.shape done.transcript.end done.transcript.items done.audit (p.in_memory language run asks none))
    (λ name found is told holds. started_where done.status done.transcript.end done.disks _ (p.status language run asks) (p.over_files language run asks name is told)
    (λ q h. started_on_files language run.shape _ _ found done.transcript.end done.transcript.items done.audit q.main q.alt holds h)
    (p.unfetched name (inr (inr (inr (language, run, asks, is)))))))
    (p.read language run asks) p.read_fault p.write_fault p.disk_fault

pub returns-in-Ok-Some-clause-complete_reports : goal.returns-in-Ok-Some-clause-complete_reports
returns-in-Ok-Some-clause-complete_reports g c = λ name says accepted no_write no_disk.
    let is = said c.args.words.now c.in-Ok-Some.field-0 c.in-Ok-Some.task c.in-Ok-Some.ensures.says c.in-Ok-Some.field-0-is in
    let p = c.perform.ensures in
    whichever
    (λ dumps. reports_well dump_text _ _ accepted.1 accepted.2 _ accepted.0 _ _ _ _ no_write _ no_disk c.perform.result.status p.disk_fault (p.dump name (is (Dump name) dumps)))
    (λ checks. reports_well check_text _ _ accepted.1 accepted.2 _ accepted.0 _ _ _ _ no_write _ no_disk c.perform.result.status p.disk_fault (p.check name (is (Check name) checks)))
    says

pub returns-in-Ok-Some-clause-complete_compact : goal.returns-in-Ok-Some-clause-complete_compact
returns-in-Ok-Some-clause-complete_compact g c = λ name says accepted unworn no_write no_disk.
    let is = said c.args.words.now c.in-Ok-Some.field-0 c.in-Ok-Some.task c.in-Ok-Some.ensures.says c.in-Ok-Some.field-0-is (Compact name) says in
    let p = c.perform.ensures in
    compacts_well _ _ accepted.1 accepted.2 unworn _ accepted.0 _ _ _ _ no_write _ no_disk _ _ c.perform.result.disks c.perform.result.status p.disk_fault (p.unfetched name (inr (inr (inl is)))) (p.compact name is)

pub returns-in-Ok-Some-clause-complete_stress : goal.returns-in-Ok-Some-clause-complete_stress
returns-in-Ok-Some-clause-complete_stress g c = λ seed count shape says no_write.
    let is = said c.args.words.now c.in-Ok-Some.field-0 c.in-Ok-Some.task c.in-Ok-Some.ensures.says c.in-Ok-Some.field-0-is (Stress seed count shape) says in
    let p = c.perform.ensures in
    stresses_well c.perform.result.status c.perform.result.transcript.end _ no_write p.write_fault (p.stress_status seed count shape is) (p.stress_ends seed count shape is)

pub returns-in-Ok-Some-clause-complete_make : goal.returns-in-Ok-Some-clause-complete_make
returns-in-Ok-Some-clause-complete_make g c = λ seed count says no_write.
    makes_well c.perform.result.status seed count _ _ _ _ no_write (c.perform.ensures.make seed count (said c.args.words.now c.in-Ok-Some.field-0 c.in-Ok-Some.task c.in-Ok-Some.ensures.says c.in-Ok-Some.field-0-is (Make seed count) says))

pub returns-in-Ok-Some-clause-asked : goal.returns-in-Ok-Some-clause-asked
returns-in-Ok-Some-clause-asked g c = λ name on.
    c.perform.ensures.asked name (on_files c.args.words.now c.in-Ok-Some.field-0 c.in-Ok-Some.task c.in-Ok-Some.ensures.says c.in-Ok-Some.field-0-is name on)

pub returns-in-Ok-Some-clause-unfetched : goal.returns-in-Ok-Some-clause-unfetched
returns-in-Ok-Some-clause-unfetched g c = λ name on.
    c.perform.ensures.unfetched name (on_files c.args.words.now c.in-Ok-Some.field-0 c.in-Ok-Some.task c.in-Ok-Some.ensures.says c.in-Ok-Some.field-0-is name on)

pub returns-in-Ok-Some-clause-unasked : goal.returns-in-Ok-Some-clause-unasked
returns-in-Ok-Some-clause-unasked g c = λ none.
    c.perform.ensures.unasked (λ name on. none name (names_journal c.args.words.now c.in-Ok-Some.field-0 c.in-Ok-Some.task c.in-Ok-Some.ensures.says c.in-Ok-Some.field-0-is name on))

pub returns-in-Err-clause-read : goal.returns-in-Err-clause-read
returns-in-Err-clause-read g c = λ language run says.
    reads_none (form_of language) (g.S.Source.left c.args.source.now) c.refuse-in-Err.result.transcript.end WantsMemory c.refuse-in-Err.result.transcript.items c.refuse-in-Err.ensures.end tt c.refuse-in-Err.ensures.none.silent

pub returns-in-Err-clause-stress_heard : goal.returns-in-Err-clause-stress_heard
returns-in-Err-clause-stress_heard g c = λ seed count shape says.
    hears_none (script_text seed count) c.refuse-in-Err.result.transcript.end c.refuse-in-Err.result.transcript.items c.refuse-in-Err.ensures.end c.refuse-in-Err.ensures.none.silent

pub returns-in-Err-clause-dump : goal.returns-in-Err-clause-dump
returns-in-Err-clause-dump g c = λ name said. (Memory, c.refuse-in-Err.ensures.status, λ told. tt, c.refuse-in-Err.ensures.written)

pub returns-in-Err-clause-check : goal.returns-in-Err-clause-check
returns-in-Err-clause-check g c = λ name said. (Memory, c.refuse-in-Err.ensures.status, λ told. tt, c.refuse-in-Err.ensures.written)

pub returns-in-Err-clause-compact : goal.returns-in-Err-clause-compact
returns-in-Err-clause-compact g c = λ name said. (Memory, c.refuse-in-Err.ensures.status, λ told. if_none c.refuse-in-Err.result.disks _ c.refuse-in-Err.ensures.disks, c.refuse-in-Err.ensures.written)

pub returns-in-Err-clause-fits : goal.returns-in-Err-clause-fits
returns-in-Err-clause-fits g c = λ run says. run_fits run.shape c.refuse-in-Err.result.transcript.end c.refuse-in-Err.result.transcript.items c.refuse-in-Err.result.audit (inr c.refuse-in-Err.ensures.none)

pub returns-in-Err-clause-closed : goal.returns-in-Err-clause-closed
returns-in-Err-clause-closed g c = λ run says ends. run_closed run.shape c.refuse-in-Err.result.transcript.end c.refuse-in-Err.result.transcript.items c.refuse-in-Err.result.audit (inr c.refuse-in-Err.ensures.none) ends

pub returns-in-Err-clause-alone : goal.returns-in-Err-clause-alone
returns-in-Err-clause-alone g c = λ run s says mine.
    as_plain c.refuse-in-Err.result.audit.base s c.refuse-in-Err.result.transcript.items (run_fits run.shape c.refuse-in-Err.result.transcript.end c.refuse-in-Err.result.transcript.items c.refuse-in-Err.result.audit (inr c.refuse-in-Err.ensures.none)) mine

pub returns-in-Err-clause-complete : goal.returns-in-Err-clause-complete
returns-in-Err-clause-complete g c = λ language run says short accepted no_read no_write no_disk. inr c.refuse-in-Err.ensures.status

pub returns-in-Err-clause-complete_reports : goal.returns-in-Err-clause-complete_reports
returns-in-Err-clause-complete_reports g c = λ name says accepted no_write no_disk. inr c.refuse-in-Err.ensures.status

pub returns-in-Err-clause-complete_compact : goal.returns-in-Err-clause-complete_compact
returns-in-Err-clause-complete_compact g c = λ name says accepted unworn no_write no_disk. inr c.refuse-in-Err.ensures.status

pub returns-in-Err-clause-complete_stress : goal.returns-in-Err-clause-complete_stress
returns-in-Err-clause-complete_stress g c = λ seed count shape says no_write. inr c.refuse-in-Err.ensures.status

pub returns-in-Err-clause-complete_make : goal.returns-in-Err-clause-complete_make
returns-in-Err-clause-complete_make g c = λ seed count says no_write. inr c.refuse-in-Err.ensures.status
