use Rattle.std.proofs.Common.{◌≡◌, ◌∙◌, subst, arith, List, ℕ}
use Rattle.std.specs.Prelude.{Result, IfOk}
use Rattle.sp_event.specs.declared.event.Event.TheVariants.{Commit as AskCommit}
use Rattle.sp_event.specs.declared.answer.Answer.{Answer}
use Rattle.sp_model.specs.Removal.{IsTakenOut}
use Rattle.sp_model.specs.Stepped.{Does}
use Rattle.sp_model.specs.State.{Kernel, entries_in}
use Rattle.sp_model.proofs.Bare.{bare}
use Rattle.sp_model.proofs.Sessions.{found-among}
use Rattle.sp_state.specs.Held.{kernel_of}
use Rattle.sp_state.proofs.Standing.{got_at}
use Rattle.sp_durable.proofs.Counting.{some_changes, room_left}
use Rattle.sp_kernel.proofs.Queueing.{changes_are, joined_counted, joined_agrees}
use Rattle.sp_kernel.proofs.committing.queue_commit.Goals as goal

pub queue-requires-clause-some : goal.queue-requires-clause-some
queue-requires-clause-some g c = λ κs within.
    let k = kernel_of c.args.state.now in
    let x = c.index.result.now in
    let stands = got_at c.args.state.now.seats.items c.args.at x c.requires.bound c.index.ensures in
    some_changes k x c.in_ok-changes.changes (c.requires.changed x stands) (changes_are (entries_in k) c.number.result x.txn.number c.in_ok-changes.changes c.number.ensures c.in_ok-changes.ensures.exact c.in_ok-changes.ensures.ordered)

pub queue-requires-clause-few : goal.queue-requires-clause-few
queue-requires-clause-few g c = λ κs within.
    let k = kernel_of c.args.state.now in
    let x = c.index.result.now in
    let stands = got_at c.args.state.now.seats.items c.args.at x c.requires.bound c.index.ensures in
    let here = found-among c.args.session k.sessions x (c.requires.found ∙ stands) in
    room_left k x (bare k c.requires.sound) here.0 (c.requires.idle x stands) c.in_ok-changes.changes c.args.journal.now.work
    (changes_are (entries_in k) c.number.result x.txn.number c.in_ok-changes.changes c.number.ensures c.in_ok-changes.ensures.exact c.in_ok-changes.ensures.ordered) c.requires.counted

-- the room that is made in the queue changes nothing
same_room : {E : Type 0} (result : Result Answer E) (k after : Kernel) (s : ℕ) (queue : List ℕ) → queue ≡ k.queue → IfOk result (λ answer. Does IsTakenOut (record k { queue = queue }) (AskCommit s) answer after) → IfOk result (λ answer. Does IsTakenOut k (AskCommit s) answer after)
same_room result k after s queue e done = subst (λ (q : List ℕ). IfOk result (λ answer. Does IsTakenOut (record k { queue = q }) (AskCommit s) answer after)) e done

pub returns-clause-counted : goal.returns-clause-counted
returns-clause-counted g c =
    let k = kernel_of c.args.state.now in
    let x = c.index.result.now in
    let stands = got_at c.args.state.now.seats.items c.args.at x c.requires.bound c.index.ensures in
    let are = changes_are (entries_in k) c.number.result x.txn.number c.in_ok-changes.changes c.number.ensures c.in_ok-changes.ensures.exact c.in_ok-changes.ensures.ordered in
    joined_counted c.join_queue.result k c.args.session x c.in_ok-changes.changes (kernel_of c.join_queue.new.state) c.args.journal.now.work c.queue.new.self.work c.requires.sound (c.requires.found ∙ stands) (c.requires.idle x stands) are
    (c.join_queue.ensures.sure (let h = c.in_ok-reserve.ensures.ok in omega (arith, h))) (same_room c.join_queue.result k (kernel_of c.join_queue.new.state) c.args.session c.reserve.new.self.items c.in_ok-reserve.ensures.items c.join_queue.ensures.done) c.join_queue.ensures.queued
    c.requires.counted c.queue.ensures.place.1 c.queue.ensures.place.0 c.queue.ensures.place.2 c.in_ok-queue.ensures.commits c.in_ok-queue.ensures.changes

pub returns-clause-agrees : goal.returns-clause-agrees
returns-clause-agrees g c = λ tells held.
    let k = kernel_of c.args.state.now in
    let x = c.index.result.now in
    let stands = got_at c.args.state.now.seats.items c.args.at x c.requires.bound c.index.ensures in
    let are = changes_are (entries_in k) c.number.result x.txn.number c.in_ok-changes.changes c.number.ensures c.in_ok-changes.ensures.exact c.in_ok-changes.ensures.ordered in
    rw c.queue.ensures.disk
    (joined_agrees c.join_queue.result k c.args.session x c.in_ok-changes.changes (kernel_of c.join_queue.new.state) c.args.journal.now.work c.queue.new.self.work _ _ c.requires.sound (c.requires.found ∙ stands) (c.requires.idle x stands) are
    (c.join_queue.ensures.sure (let h = c.in_ok-reserve.ensures.ok in omega (arith, h))) (same_room c.join_queue.result k (kernel_of c.join_queue.new.state) c.args.session c.reserve.new.self.items c.in_ok-reserve.ensures.items c.join_queue.ensures.done) c.join_queue.ensures.queued
    (rw c.queue.ensures.disk at c.in_ok-queue.ensures.stands) held)
