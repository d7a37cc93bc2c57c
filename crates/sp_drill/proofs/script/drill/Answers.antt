use Rattle.std.proofs.Common.{List, sym, subst}
use Rattle.sp_text.specs.declared.form.Form.TheVariants.{Drill}
use Rattle.sp_text.specs.declared.types.Item.{Item}
use Rattle.sp_text.specs.Texts.{render}
use Rattle.sp_lines.specs.Reading.{ReadsTo, WritesTo}
use Rattle.sp_drill.specs.Drilling.{DrillsTo}
use Rattle.sp_drill.proofs.Leading.{keeps_base, leaves_all}
use Rattle.sp_drill.proofs.Running.{run_reads, run_writes, run_leads, run_drills, run_fails}
use Rattle.sp_drill.specs.Telling.{ToldBy}
use Rattle.sp_drill.proofs.Told.{told_by}
use Rattle.sp_drill.proofs.script.drill.Goals as goal

pub returns-clause-read : goal.returns-clause-read
returns-clause-read g c =
    subst (λ (is : List Item). ReadsTo Drill c.run-end.result (g.S.Source.left c.args.source.now) (g.S.Source.left c.run-end.new.source) is) (sym c.into_items.ensures)
    (run_reads g.D.Disk.tells g.D.Disk.takes_memory g.D.Disk.faults g.D.Disk.moment g.D.Disk.images c.new-driller.result.scribe c.args.kernel.now (g.K.Sink.taken c.args.sink.now) c.run-end.new.driller.scribe c.run-end.new.kernel (g.K.Sink.taken c.run-end.new.sink) c.new-driller.ensures.items (g.S.Source.left c.args.source.now) (g.S.Source.left c.run-end.new.source) c.run-end.result c.run-end.ensures.runs)

pub returns-clause-written : goal.returns-clause-written
returns-clause-written g c =
    subst (λ (is : List Item). WritesTo c.run-end.result (g.K.Sink.taken c.args.sink.now) (g.K.Sink.taken c.run-end.new.sink) (render Drill is)) (sym c.into_items.ensures)
    (run_writes g.D.Disk.tells g.D.Disk.takes_memory g.D.Disk.faults g.D.Disk.moment g.D.Disk.images c.new-driller.result.scribe c.args.kernel.now (g.K.Sink.taken c.args.sink.now) c.run-end.new.driller.scribe c.run-end.new.kernel (g.K.Sink.taken c.run-end.new.sink) c.new-driller.ensures.items (g.S.Source.left c.args.source.now) (g.S.Source.left c.run-end.new.source) c.run-end.result c.run-end.ensures.runs)

pub returns-clause-answers : goal.returns-clause-answers
returns-clause-answers g c =
    subst (λ (is : List Item). DrillsTo c.run-end.result c.args.kernel.now.kernel is c.run-end.new.kernel.kernel) (sym c.into_items.ensures)
    (run_drills g.D.Disk.tells g.D.Disk.takes_memory g.D.Disk.faults g.D.Disk.moment g.D.Disk.images c.new-driller.result.scribe c.args.kernel.now (g.K.Sink.taken c.args.sink.now) c.run-end.new.driller.scribe c.run-end.new.kernel (g.K.Sink.taken c.run-end.new.sink) c.new-driller.ensures.items (g.S.Source.left c.args.source.now) (g.S.Source.left c.run-end.new.source) c.run-end.result c.run-end.ensures.runs)

pub returns-clause-crash : goal.returns-clause-crash
returns-clause-crash g c = λ t. leaves_all g.D.Disk.tells g.D.Disk.takes_memory g.D.Disk.faults g.D.Disk.moment g.D.Disk.images c.args.kernel.now c.run-end.new.kernel (c.audit-sound.ensures.left t) (run_leads g.D.Disk.tells g.D.Disk.takes_memory g.D.Disk.faults g.D.Disk.moment g.D.Disk.images c.new-driller.result.scribe c.args.kernel.now (g.K.Sink.taken c.args.sink.now) c.run-end.new.driller.scribe c.run-end.new.kernel (g.K.Sink.taken c.run-end.new.sink) c.new-driller.ensures.items (g.S.Source.left c.args.source.now) (g.S.Source.left c.run-end.new.source) c.run-end.result c.run-end.ensures.runs) t

pub returns-clause-serial : goal.returns-clause-serial
returns-clause-serial g c = c.run-end.ensures.ready.sound.serial

pub returns-clause-base : goal.returns-clause-base
returns-clause-base g c = keeps_base c.args.kernel.now.kernel c.run-end.new.kernel.kernel (run_leads g.D.Disk.tells g.D.Disk.takes_memory g.D.Disk.faults g.D.Disk.moment g.D.Disk.images c.new-driller.result.scribe c.args.kernel.now (g.K.Sink.taken c.args.sink.now) c.run-end.new.driller.scribe c.run-end.new.kernel (g.K.Sink.taken c.run-end.new.sink) c.new-driller.ensures.items (g.S.Source.left c.args.source.now) (g.S.Source.left c.run-end.new.source) c.run-end.result c.run-end.ensures.runs).goes

pub returns-clause-disk_fault : goal.returns-clause-disk_fault
returns-clause-disk_fault g c = run_fails g.D.Disk.tells g.D.Disk.takes_memory g.D.Disk.faults g.D.Disk.moment g.D.Disk.images c.new-driller.result.scribe c.args.kernel.now (g.K.Sink.taken c.args.sink.now) c.run-end.new.driller.scribe c.run-end.new.kernel (g.K.Sink.taken c.run-end.new.sink) c.new-driller.ensures.items (g.S.Source.left c.args.source.now) (g.S.Source.left c.run-end.new.source) c.run-end.result c.run-end.ensures.runs

pub returns-clause-disk_later : goal.returns-clause-disk_later
returns-clause-disk_later g c = (run_leads g.D.Disk.tells g.D.Disk.takes_memory g.D.Disk.faults g.D.Disk.moment g.D.Disk.images c.new-driller.result.scribe c.args.kernel.now (g.K.Sink.taken c.args.sink.now) c.run-end.new.driller.scribe c.run-end.new.kernel (g.K.Sink.taken c.run-end.new.sink) c.new-driller.ensures.items (g.S.Source.left c.args.source.now) (g.S.Source.left c.run-end.new.source) c.run-end.result c.run-end.ensures.runs).later

pub returns-clause-tells : goal.returns-clause-tells
returns-clause-tells g c = (run_leads g.D.Disk.tells g.D.Disk.takes_memory g.D.Disk.faults g.D.Disk.moment g.D.Disk.images c.new-driller.result.scribe c.args.kernel.now (g.K.Sink.taken c.args.sink.now) c.run-end.new.driller.scribe c.run-end.new.kernel (g.K.Sink.taken c.run-end.new.sink) c.new-driller.ensures.items (g.S.Source.left c.args.source.now) (g.S.Source.left c.run-end.new.source) c.run-end.result c.run-end.ensures.runs).same_tells

pub returns-clause-takes : goal.returns-clause-takes
returns-clause-takes g c = (run_leads g.D.Disk.tells g.D.Disk.takes_memory g.D.Disk.faults g.D.Disk.moment g.D.Disk.images c.new-driller.result.scribe c.args.kernel.now (g.K.Sink.taken c.args.sink.now) c.run-end.new.driller.scribe c.run-end.new.kernel (g.K.Sink.taken c.run-end.new.sink) c.new-driller.ensures.items (g.S.Source.left c.args.source.now) (g.S.Source.left c.run-end.new.source) c.run-end.result c.run-end.ensures.runs).same_takes

pub returns-clause-told : goal.returns-clause-told
returns-clause-told g c = λ none.
    subst (λ (is : List Item). ToldBy c.run-end.result c.args.kernel.now.kernel.commits is c.run-end.new.kernel.kernel) (sym c.into_items.ensures)
    (told_by c.run-end.result c.args.kernel.now.kernel c.run-end.new.kernel.kernel _ c.audit-sound.ensures.sound none (run_drills g.D.Disk.tells g.D.Disk.takes_memory g.D.Disk.faults g.D.Disk.moment g.D.Disk.images c.new-driller.result.scribe c.args.kernel.now (g.K.Sink.taken c.args.sink.now) c.run-end.new.driller.scribe c.run-end.new.kernel (g.K.Sink.taken c.run-end.new.sink) c.new-driller.ensures.items (g.S.Source.left c.args.source.now) (g.S.Source.left c.run-end.new.source) c.run-end.result c.run-end.ensures.runs))

pub returns-clause-kinds : goal.returns-clause-kinds
returns-clause-kinds g c = (run_leads g.D.Disk.tells g.D.Disk.takes_memory g.D.Disk.faults g.D.Disk.moment g.D.Disk.images c.new-driller.result.scribe c.args.kernel.now (g.K.Sink.taken c.args.sink.now) c.run-end.new.driller.scribe c.run-end.new.kernel (g.K.Sink.taken c.run-end.new.sink) c.new-driller.ensures.items (g.S.Source.left c.args.source.now) (g.S.Source.left c.run-end.new.source) c.run-end.result c.run-end.ensures.runs).kinds
