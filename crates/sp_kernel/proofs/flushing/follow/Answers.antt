use Rattle.std.proofs.Common.{subst}
use Rattle.sp_state.specs.Held.{kernel_of}
use Rattle.sp_kernel.specs.Answers.{Answers}
use Rattle.sp_kernel.specs.Following.{MayTell}
use Rattle.sp_kernel.proofs.Calls.{nothing_answers, wrote_answers, durable_answers, fault_answers}
use Rattle.sp_kernel.proofs.flushing.follow.Goals as goal

pub returns-in-Nothing-clause-answers : goal.returns-in-Nothing-clause-answers
returns-in-Nothing-clause-answers c = nothing_answers (kernel_of c.args.state.now) c.requires.goes (subst (MayTell (kernel_of c.args.state.now)) c.in-Nothing.is c.requires.may)

pub returns-in-Wrote-clause-answers : goal.returns-in-Wrote-clause-answers
returns-in-Wrote-clause-answers c = wrote_answers (kernel_of c.args.state.now) c.requires.goes (kernel_of c.advance.new.state) (subst (MayTell (kernel_of c.args.state.now)) c.in-Wrote.is c.requires.may) c.advance.ensures.done

pub returns-in-Durable-clause-answers : goal.returns-in-Durable-clause-answers
returns-in-Durable-clause-answers c = durable_answers (kernel_of c.args.state.now) c.requires.goes c.in-Durable.field-0 c.place_all.result (kernel_of c.place_all.new.state) (subst (MayTell (kernel_of c.args.state.now)) c.in-Durable.is c.requires.may) c.place_all.ensures.answer c.place_all.ensures.done

pub returns-in-Fault-clause-answers : goal.returns-in-Fault-clause-answers
returns-in-Fault-clause-answers c = fault_answers (kernel_of c.args.state.now) c.requires.goes c.in-Fault.offset (subst (MayTell (kernel_of c.args.state.now)) c.in-Fault.is c.requires.may)

pub returns-in-Memory-clause-answers : goal.returns-in-Memory-clause-answers
returns-in-Memory-clause-answers c = Answers.WantsMemory
