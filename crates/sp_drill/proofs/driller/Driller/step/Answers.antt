use Rattle.sp_lines.proofs.Results.{err_along}
use Rattle.sp_lines.specs.declared.fault.Fault.{Fault}
use Rattle.sp_text.specs.declared.form.Form.TheVariants.{Drill}
use Rattle.sp_text.specs.declared.types.Item.TheVariants.{Stepped}
use Rattle.sp_lines.specs.Keeping.{KeptAt}
use Rattle.sp_drill.specs.Hearing.{DoesUntil}
use Rattle.sp_drill.proofs.Leading.{keeps_sound}
use Rattle.sp_drill.proofs.Stepping.{until_kept, until_lacks, does_kept, rose_at_end}
use Rattle.sp_drill.proofs.driller.Driller.step.Goals as goal

pub returns-in-Ok-clause-ready : goal.returns-in-Ok-clause-ready
returns-in-Ok-clause-ready g c = record {
  form = c.keep.ensures.form;
  sound = keeps_sound c.args.kernel.now.kernel c.answer_to.new.kernel.kernel c.answer_to.ensures.leads.goes c.requires.sound;
}

pub returns-in-Err-clause-ready : goal.returns-in-Err-clause-ready
returns-in-Err-clause-ready g c = record {
  form = c.requires.form;
  sound = keeps_sound c.args.kernel.now.kernel c.answer_to.new.kernel.kernel c.answer_to.ensures.leads.goes c.requires.sound;
}

pub returns-in-Ok-clause-does : goal.returns-in-Ok-clause-does
returns-in-Ok-clause-does g c = does_kept c.keep.result c.args.event c.in-Ok.event c.args.late _ _ _ _ _ _ c.in-Ok.answer c.in-Ok.ensures.same c.in-Ok.ensures.answers c.keep.ensures.due c.keep.ensures.kept c.keep.ensures.written

pub returns-in-Ok-clause-until : goal.returns-in-Ok-clause-until
returns-in-Ok-clause-until g c =
    let old = g.K.Sink.taken c.args.sink.now in
    let new = g.K.Sink.taken c.keep.new.sink in
    let P : Fault → Type 0 = λ fault. KeptAt fault Drill c.args.self.now.scribe.items c.keep.new.self.scribe.items (Stepped c.in-Ok.event c.in-Ok.answer c.args.late) old new in
    let Q : Fault → Type 0 = λ fault. DoesUntil fault c.args.event c.args.late c.args.kernel.now.kernel c.args.self.now.scribe old c.answer_to.new.kernel.kernel c.keep.new.self.scribe new in
    err_along c.keep.result P Q (λ fault kept. until_kept fault c.args.event c.in-Ok.event c.args.late c.args.kernel.now.kernel c.answer_to.new.kernel.kernel c.args.self.now.scribe c.keep.new.self.scribe old new c.in-Ok.answer c.in-Ok.ensures.same c.in-Ok.ensures.some c.in-Ok.ensures.answers kept) c.keep.ensures.stops

pub returns-in-Ok-clause-cause : goal.returns-in-Ok-clause-cause
returns-in-Ok-clause-cause g c = rose_at_end c.keep.result c.in-Ok.answer _ c.keep.ensures.due c.in-Ok.ensures.cause

pub returns-in-Err-clause-until : goal.returns-in-Err-clause-until
returns-in-Err-clause-until g c = until_lacks c.in-Err.fault c.args.event c.args.late c.args.kernel.now.kernel c.answer_to.new.kernel.kernel c.args.self.now.scribe (g.K.Sink.taken c.args.sink.now) c.in-Err.ensures.fault c.in-Err.ensures.lacks
