use Rattle.std.proofs.Common.{List, sym, subst, refl}
use Rattle.sp_text.specs.declared.form.Form.TheVariants.{Play}
use Rattle.sp_text.specs.declared.types.Item.{Item}
use Rattle.sp_text.specs.Texts.{render}
use Rattle.sp_lines.specs.Reading.{ReadsTo, WritesTo}
use Rattle.sp_desk.specs.Hearing.{place}
use Rattle.sp_desk.specs.Script.{PlaysTo}
use Rattle.sp_desk.specs.Telling.{ToldBy}
use Rattle.sp_desk.proofs.Accounting.{told_by}
use Rattle.sp_lines.proofs.Reading.{ends_run}
use Rattle.sp_desk.proofs.Leaving.{keeps_sound, keeps_base, leaves_all}
use Rattle.sp_desk.proofs.Running.{run_reads, run_writes, run_plays, run_course, run_closed, run_fails}
use Rattle.sp_desk.proofs.script.play.Goals as goal

pub returns-clause-read : goal.returns-clause-read
returns-clause-read g c =
    subst (λ (is : List Item). ReadsTo Play c.run-end.result (g.S.Source.left c.args.source.now) (g.S.Source.left c.run-end.new.source) is) (sym c.into_items.ensures)
    (run_reads g.D.Disk.tells g.D.Disk.takes_memory g.D.Disk.faults g.D.Disk.moment g.D.Disk.images (place c.new-desk.result.scribe.items c.new-desk.result.stalled.items c.args.kernel.now.kernel (g.K.Sink.taken c.args.sink.now)) (place c.run-end.new.desk.scribe.items c.run-end.new.desk.stalled.items c.run-end.new.kernel.kernel (g.K.Sink.taken c.run-end.new.sink)) c.args.kernel.now c.run-end.new.kernel c.new-desk.ensures.items c.run-end.result (g.S.Source.left c.args.source.now) (g.S.Source.left c.run-end.new.source) c.run-end.ensures.runs)

pub returns-clause-written : goal.returns-clause-written
returns-clause-written g c =
    subst (λ (is : List Item). WritesTo c.run-end.result (g.K.Sink.taken c.args.sink.now) (g.K.Sink.taken c.run-end.new.sink) (render Play is)) (sym c.into_items.ensures)
    (run_writes g.D.Disk.tells g.D.Disk.takes_memory g.D.Disk.faults g.D.Disk.moment g.D.Disk.images (place c.new-desk.result.scribe.items c.new-desk.result.stalled.items c.args.kernel.now.kernel (g.K.Sink.taken c.args.sink.now)) (place c.run-end.new.desk.scribe.items c.run-end.new.desk.stalled.items c.run-end.new.kernel.kernel (g.K.Sink.taken c.run-end.new.sink)) c.args.kernel.now c.run-end.new.kernel c.new-desk.ensures.items c.run-end.result (g.S.Source.left c.args.source.now) (g.S.Source.left c.run-end.new.source) c.run-end.ensures.runs)

pub returns-clause-answers : goal.returns-clause-answers
returns-clause-answers g c =
    subst (λ (is : List Item). PlaysTo c.run-end.result c.args.kernel.now.kernel is c.run-end.new.kernel.kernel) (sym c.into_items.ensures)
    (run_plays g.D.Disk.tells g.D.Disk.takes_memory g.D.Disk.faults g.D.Disk.moment g.D.Disk.images (place c.new-desk.result.scribe.items c.new-desk.result.stalled.items c.args.kernel.now.kernel (g.K.Sink.taken c.args.sink.now)) (place c.run-end.new.desk.scribe.items c.run-end.new.desk.stalled.items c.run-end.new.kernel.kernel (g.K.Sink.taken c.run-end.new.sink)) c.args.kernel.now c.run-end.new.kernel c.new-desk.ensures.items c.new-desk.ensures.stalled c.run-end.result (g.S.Source.left c.args.source.now) (g.S.Source.left c.run-end.new.source) c.run-end.ensures.runs)

pub returns-clause-told : goal.returns-clause-told
returns-clause-told g c =
    λ none.
    subst (λ (is : List Item). ToldBy c.run-end.result c.args.kernel.now.kernel.commits is c.run-end.new.kernel.kernel) (sym c.into_items.ensures)
    (told_by c.args.kernel.now.kernel c.audit-sound.ensures.sound none c.run-end.new.desk.scribe.items c.run-end.new.kernel.kernel c.run-end.result
    (run_plays g.D.Disk.tells g.D.Disk.takes_memory g.D.Disk.faults g.D.Disk.moment g.D.Disk.images (place c.new-desk.result.scribe.items c.new-desk.result.stalled.items c.args.kernel.now.kernel (g.K.Sink.taken c.args.sink.now)) (place c.run-end.new.desk.scribe.items c.run-end.new.desk.stalled.items c.run-end.new.kernel.kernel (g.K.Sink.taken c.run-end.new.sink)) c.args.kernel.now c.run-end.new.kernel c.new-desk.ensures.items c.new-desk.ensures.stalled c.run-end.result (g.S.Source.left c.args.source.now) (g.S.Source.left c.run-end.new.source) c.run-end.ensures.runs))

pub returns-clause-closed : goal.returns-clause-closed
returns-clause-closed g c =
    run_closed g.D.Disk.tells g.D.Disk.takes_memory g.D.Disk.faults g.D.Disk.moment g.D.Disk.images (place c.new-desk.result.scribe.items c.new-desk.result.stalled.items c.args.kernel.now.kernel (g.K.Sink.taken c.args.sink.now)) (place c.run-end.new.desk.scribe.items c.run-end.new.desk.stalled.items c.run-end.new.kernel.kernel (g.K.Sink.taken c.run-end.new.sink)) c.args.kernel.now c.run-end.new.kernel c.new-desk.ensures.items c.run-end.result (g.S.Source.left c.args.source.now) (g.S.Source.left c.run-end.new.source) c.run-end.ensures.runs

pub returns-clause-crash : goal.returns-clause-crash
returns-clause-crash g c =
    λ t. leaves_all g.D.Disk.tells g.D.Disk.takes_memory g.D.Disk.faults g.D.Disk.moment g.D.Disk.images c.args.kernel.now c.run-end.new.kernel (c.audit-sound.ensures.left t) (run_course g.D.Disk.tells g.D.Disk.takes_memory g.D.Disk.faults g.D.Disk.moment g.D.Disk.images (place c.new-desk.result.scribe.items c.new-desk.result.stalled.items c.args.kernel.now.kernel (g.K.Sink.taken c.args.sink.now)) (place c.run-end.new.desk.scribe.items c.run-end.new.desk.stalled.items c.run-end.new.kernel.kernel (g.K.Sink.taken c.run-end.new.sink)) c.args.kernel.now c.run-end.new.kernel c.new-desk.ensures.items c.run-end.result (g.S.Source.left c.args.source.now) (g.S.Source.left c.run-end.new.source) c.run-end.ensures.runs) t

pub returns-clause-serial : goal.returns-clause-serial
returns-clause-serial g c =
    (keeps_sound c.args.kernel.now.kernel c.run-end.new.kernel.kernel (run_course g.D.Disk.tells g.D.Disk.takes_memory g.D.Disk.faults g.D.Disk.moment g.D.Disk.images (place c.new-desk.result.scribe.items c.new-desk.result.stalled.items c.args.kernel.now.kernel (g.K.Sink.taken c.args.sink.now)) (place c.run-end.new.desk.scribe.items c.run-end.new.desk.stalled.items c.run-end.new.kernel.kernel (g.K.Sink.taken c.run-end.new.sink)) c.args.kernel.now c.run-end.new.kernel c.new-desk.ensures.items c.run-end.result (g.S.Source.left c.args.source.now) (g.S.Source.left c.run-end.new.source) c.run-end.ensures.runs).leads c.audit-sound.ensures.sound).serial

pub returns-clause-base : goal.returns-clause-base
returns-clause-base g c =
    keeps_base c.args.kernel.now.kernel c.run-end.new.kernel.kernel (run_course g.D.Disk.tells g.D.Disk.takes_memory g.D.Disk.faults g.D.Disk.moment g.D.Disk.images (place c.new-desk.result.scribe.items c.new-desk.result.stalled.items c.args.kernel.now.kernel (g.K.Sink.taken c.args.sink.now)) (place c.run-end.new.desk.scribe.items c.run-end.new.desk.stalled.items c.run-end.new.kernel.kernel (g.K.Sink.taken c.run-end.new.sink)) c.args.kernel.now c.run-end.new.kernel c.new-desk.ensures.items c.run-end.result (g.S.Source.left c.args.source.now) (g.S.Source.left c.run-end.new.source) c.run-end.ensures.runs).leads

pub returns-clause-disk_fault : goal.returns-clause-disk_fault
returns-clause-disk_fault g c =
    λ free. run_fails g.D.Disk.tells g.D.Disk.takes_memory g.D.Disk.faults g.D.Disk.moment g.D.Disk.images (place c.new-desk.result.scribe.items c.new-desk.result.stalled.items c.args.kernel.now.kernel (g.K.Sink.taken c.args.sink.now)) (place c.run-end.new.desk.scribe.items c.run-end.new.desk.stalled.items c.run-end.new.kernel.kernel (g.K.Sink.taken c.run-end.new.sink)) c.args.kernel.now c.run-end.new.kernel c.new-desk.ensures.items c.run-end.result (g.S.Source.left c.args.source.now) (g.S.Source.left c.run-end.new.source) refl free c.run-end.ensures.runs

pub returns-clause-disk_later : goal.returns-clause-disk_later
returns-clause-disk_later g c =
    (run_course g.D.Disk.tells g.D.Disk.takes_memory g.D.Disk.faults g.D.Disk.moment g.D.Disk.images (place c.new-desk.result.scribe.items c.new-desk.result.stalled.items c.args.kernel.now.kernel (g.K.Sink.taken c.args.sink.now)) (place c.run-end.new.desk.scribe.items c.run-end.new.desk.stalled.items c.run-end.new.kernel.kernel (g.K.Sink.taken c.run-end.new.sink)) c.args.kernel.now c.run-end.new.kernel c.new-desk.ensures.items c.run-end.result (g.S.Source.left c.args.source.now) (g.S.Source.left c.run-end.new.source) c.run-end.ensures.runs).later

pub returns-clause-tells : goal.returns-clause-tells
returns-clause-tells g c =
    (run_course g.D.Disk.tells g.D.Disk.takes_memory g.D.Disk.faults g.D.Disk.moment g.D.Disk.images (place c.new-desk.result.scribe.items c.new-desk.result.stalled.items c.args.kernel.now.kernel (g.K.Sink.taken c.args.sink.now)) (place c.run-end.new.desk.scribe.items c.run-end.new.desk.stalled.items c.run-end.new.kernel.kernel (g.K.Sink.taken c.run-end.new.sink)) c.args.kernel.now c.run-end.new.kernel c.new-desk.ensures.items c.run-end.result (g.S.Source.left c.args.source.now) (g.S.Source.left c.run-end.new.source) c.run-end.ensures.runs).same_tells

pub returns-clause-takes : goal.returns-clause-takes
returns-clause-takes g c =
    (run_course g.D.Disk.tells g.D.Disk.takes_memory g.D.Disk.faults g.D.Disk.moment g.D.Disk.images (place c.new-desk.result.scribe.items c.new-desk.result.stalled.items c.args.kernel.now.kernel (g.K.Sink.taken c.args.sink.now)) (place c.run-end.new.desk.scribe.items c.run-end.new.desk.stalled.items c.run-end.new.kernel.kernel (g.K.Sink.taken c.run-end.new.sink)) c.args.kernel.now c.run-end.new.kernel c.new-desk.ensures.items c.run-end.result (g.S.Source.left c.args.source.now) (g.S.Source.left c.run-end.new.source) c.run-end.ensures.runs).same_takes

pub returns-clause-ends : goal.returns-clause-ends
returns-clause-ends g c =
    ends_run _ _ c.run-end.result (g.S.Source.left c.args.source.now) (g.S.Source.left c.run-end.new.source) c.run-end.ensures.runs

pub returns-clause-kinds : goal.returns-clause-kinds
returns-clause-kinds g c = (run_course g.D.Disk.tells g.D.Disk.takes_memory g.D.Disk.faults g.D.Disk.moment g.D.Disk.images (place c.new-desk.result.scribe.items c.new-desk.result.stalled.items c.args.kernel.now.kernel (g.K.Sink.taken c.args.sink.now)) (place c.run-end.new.desk.scribe.items c.run-end.new.desk.stalled.items c.run-end.new.kernel.kernel (g.K.Sink.taken c.run-end.new.sink)) c.args.kernel.now c.run-end.new.kernel c.new-desk.ensures.items c.run-end.result (g.S.Source.left c.args.source.now) (g.S.Source.left c.run-end.new.source) c.run-end.ensures.runs).kinds
