use Rattle.std.proofs.Common.{◌≢◌, sym, subst}
use Rattle.sp_event.specs.declared.event.Event.{Event}
use Rattle.sp_event.specs.declared.event.Event.TheVariants.{Flush}
use Rattle.sp_event.specs.declared.answer.Answer.TheVariants.{Memory}
use Rattle.sp_model.specs.State.{Kernel}
use Rattle.sp_model.specs.Stepped.{Stepped}
use Rattle.sp_state.specs.Held.{kernel_of}
use Rattle.sp_kernel.specs.Answers.{Answers, NeedsNoDisk}
use Rattle.sp_kernel.proofs.Telling.{done_faultless, done_provided, done_unqueued}
use Rattle.sp_kernel.proofs.Queueing.{others_counted, others_agree}
use Rattle.sp_kernel.proofs.proceeding.proceed_apart.Goals as goal

no_flush : (event : Event) → NeedsNoDisk event → event ≢ Flush
no_flush event apart e = subst (λ (v : Event). NeedsNoDisk v) e apart

pub returns-in-Ok-clause-answers : goal.returns-in-Ok-clause-answers
returns-in-Ok-clause-answers g c = Answers.IsStepped c.in-Ok.answer (kernel_of c.act.new.state) (Stepped.IsDone c.in-Ok.answer (kernel_of c.act.new.state) c.requires.goes c.in-Ok.ensures.done)

pub returns-in-Ok-clause-counted : goal.returns-in-Ok-clause-counted
returns-in-Ok-clause-counted g c =
    others_counted (kernel_of c.args.state.now) c.args.event c.in-Ok.answer (kernel_of c.act.new.state) c.requires.sound c.requires.goes (no_flush c.args.event c.requires.apart)
    (done_unqueued (kernel_of c.args.state.now) c.args.event c.in-Ok.answer (kernel_of c.act.new.state) c.requires.apart c.in-Ok.ensures.done) c.in-Ok.ensures.done c.args.journal.now.work c.requires.counted

pub returns-in-Ok-clause-agrees : goal.returns-in-Ok-clause-agrees
returns-in-Ok-clause-agrees g c = λ tells held.
    others_agree (kernel_of c.args.state.now) c.args.event c.in-Ok.answer (kernel_of c.act.new.state) c.requires.sound c.requires.goes (no_flush c.args.event c.requires.apart)
    (done_unqueued (kernel_of c.args.state.now) c.args.event c.in-Ok.answer (kernel_of c.act.new.state) c.requires.apart c.in-Ok.ensures.done) c.in-Ok.ensures.done c.args.journal.now.work _ _ held

pub returns-in-Ok-clause-no_fault : goal.returns-in-Ok-clause-no_fault
returns-in-Ok-clause-no_fault g c = done_faultless (kernel_of c.args.state.now) c.args.event c.in-Ok.answer (kernel_of c.act.new.state) c.in-Ok.ensures.done

pub returns-in-Err-clause-answers : goal.returns-in-Err-clause-answers
returns-in-Err-clause-answers g c = subst (λ (after : Kernel). Answers (kernel_of c.args.state.now) c.args.event Memory after) (sym c.in-Err.ensures.same) Answers.WantsMemory

pub returns-in-Ok-clause-memory : goal.returns-in-Ok-clause-memory
returns-in-Ok-clause-memory g c = λ e. absurd (done_provided (kernel_of c.args.state.now) c.args.event c.in-Ok.answer (kernel_of c.act.new.state) c.in-Ok.ensures.done e)
