use Rattle.std.proofs.Common.{◌≡◌, ◌∙◌, sym, inl, inr, OnErr, Result, Ok, Err}
use Rattle.sp_model.specs.declared.session.Stage.{Stage}
use Rattle.sp_model.specs.declared.session.Stage.TheVariants.{Queued, Placed}
use Rattle.sp_model.specs.Stepped.{Does}
use Rattle.sp_state.specs.Held.{kernel_of}
use Rattle.sp_state.proofs.Standing.{got_at}
use Rattle.sp_kernel.proofs.Queueing.{plain_counted, plain_agrees, commit_idle}
use Rattle.sp_kernel.proofs.committing.commit_at.Goals as goal

-- a session that has its place does not wait in the queue
apart : (stage : Stage) → stage ≡ Placed → stage ≡ Queued → ⊥
apart stage e q = cc

pub returns-in-Placed-clause-counted : goal.returns-in-Placed-clause-counted
returns-in-Placed-clause-counted g c =
    plain_counted (kernel_of c.args.state.now) c.args.session c.index.result.now c.tell_place.result (kernel_of c.tell_place.new.state) c.requires.sound c.requires.goes (c.requires.found ∙ got_at c.args.state.now.seats.items c.args.at c.index.result.now c.requires.bound c.index.ensures) (inl c.in-Placed.ensures) (apart c.index.result.now.stage c.in-Placed.ensures) c.tell_place.ensures.done
    c.args.journal.now.work c.requires.counted

pub returns-in-Placed-clause-agrees : goal.returns-in-Placed-clause-agrees
returns-in-Placed-clause-agrees g c = λ tells held.
    plain_agrees (kernel_of c.args.state.now) c.args.session c.index.result.now c.tell_place.result (kernel_of c.tell_place.new.state) c.requires.sound c.requires.goes (c.requires.found ∙ got_at c.args.state.now.seats.items c.args.at c.index.result.now c.requires.bound c.index.ensures) (inl c.in-Placed.ensures) (apart c.index.result.now.stage c.in-Placed.ensures) c.tell_place.ensures.done
    c.args.journal.now.work _ _ held

pub returns-in-Queued-clause-done : goal.returns-in-Queued-clause-done
returns-in-Queued-clause-done g c = Does.StaysQueued c.args.session c.index.result.now (c.requires.found ∙ got_at c.args.state.now.seats.items c.args.at c.index.result.now c.requires.bound c.index.ensures) c.in-Queued.ensures

pub returns-else-has_changes-clause-counted : goal.returns-else-has_changes-clause-counted
returns-else-has_changes-clause-counted g c =
    let at = got_at c.args.state.now.seats.items c.args.at c.index.result.now c.requires.bound c.index.ensures in
    plain_counted (kernel_of c.args.state.now) c.args.session c.index.result.now c.commit_unchanged.result (kernel_of c.commit_unchanged.new.state) c.requires.sound c.requires.goes (c.requires.found ∙ at) (inr (sym (c.has_changes.ensures c.index.result.now at) ∙ c.if-has_changes.false)) c.in-Idle.ensures.0 c.commit_unchanged.ensures.done
    c.args.journal.now.work c.requires.counted

pub returns-else-has_changes-clause-agrees : goal.returns-else-has_changes-clause-agrees
returns-else-has_changes-clause-agrees g c = λ tells held.
    let at = got_at c.args.state.now.seats.items c.args.at c.index.result.now c.requires.bound c.index.ensures in
    plain_agrees (kernel_of c.args.state.now) c.args.session c.index.result.now c.commit_unchanged.result (kernel_of c.commit_unchanged.new.state) c.requires.sound c.requires.goes (c.requires.found ∙ at) (inr (sym (c.has_changes.ensures c.index.result.now at) ∙ c.if-has_changes.false)) c.in-Idle.ensures.0 c.commit_unchanged.ensures.done
    c.args.journal.now.work _ _ held

-- what holds anyway holds at an error
at_err : {T E P : Type 0} (r : Result T E) → P → OnErr r P
at_err (Ok x) p = tt
at_err (Err e) p = p

pub returns-then-has_changes-clause-sure : goal.returns-then-has_changes-clause-sure
returns-then-has_changes-clause-sure g c =
    let at = got_at c.args.state.now.seats.items c.args.at c.index.result.now c.requires.bound c.index.ensures in
    let here = c.requires.found ∙ at in
    at_err c.queue_commit.result (c.index.result.now, here, commit_idle (kernel_of c.args.state.now) c.args.session c.index.result.now c.requires.goes here c.in-Idle.ensures.0 c.in-Idle.ensures.1, sym (c.has_changes.ensures c.index.result.now at) ∙ c.if-has_changes.true)
