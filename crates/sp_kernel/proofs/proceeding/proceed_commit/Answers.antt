use Rattle.std.proofs.Common.{sym, subst}
use Rattle.sp_event.specs.declared.event.Event.TheVariants.{Commit}
use Rattle.sp_event.specs.declared.answer.Answer.TheVariants.{Memory}
use Rattle.sp_model.specs.State.{Kernel}
use Rattle.sp_model.specs.Stepped.{Stepped}
use Rattle.sp_state.specs.Held.{kernel_of}
use Rattle.sp_kernel.specs.Answers.{Answers}
use Rattle.sp_kernel.proofs.Telling.{done_faultless, done_provided}
use Rattle.sp_kernel.proofs.proceeding.proceed_commit.Goals as goal

pub returns-in-Ok-clause-answers : goal.returns-in-Ok-clause-answers
returns-in-Ok-clause-answers g c = Answers.IsStepped c.in-Ok.answer (kernel_of c.commit.new.state) (Stepped.IsDone c.in-Ok.answer (kernel_of c.commit.new.state) c.requires.goes c.in-Ok.ensures.done)

pub returns-in-Ok-clause-no_fault : goal.returns-in-Ok-clause-no_fault
returns-in-Ok-clause-no_fault g c = done_faultless (kernel_of c.args.state.now) (Commit c.args.session) c.in-Ok.answer (kernel_of c.commit.new.state) c.in-Ok.ensures.done

pub returns-in-Err-clause-answers : goal.returns-in-Err-clause-answers
returns-in-Err-clause-answers g c = subst (λ (after : Kernel). Answers (kernel_of c.args.state.now) (Commit c.args.session) Memory after) (sym c.in-Err.ensures.same) Answers.WantsMemory

pub returns-in-Ok-clause-memory : goal.returns-in-Ok-clause-memory
returns-in-Ok-clause-memory g c = λ e. absurd (done_provided (kernel_of c.args.state.now) (Commit c.args.session) c.in-Ok.answer (kernel_of c.commit.new.state) c.in-Ok.ensures.done e)
