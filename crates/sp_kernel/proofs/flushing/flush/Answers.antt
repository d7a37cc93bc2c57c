use Rattle.std.proofs.Common.{sym, subst}
use Rattle.sp_journal.specs.Standing.{turned, MayLeave}
use Rattle.sp_journal.proofs.Opened.{leaves_weaker}
use Rattle.sp_model.specs.State.{Kernel}
use Rattle.sp_model.proofs.Bare.{bare}
use Rattle.sp_state.specs.Held.{kernel_of}
use Rattle.sp_durable.specs.Standing.{Counted, Matches}
use Rattle.sp_durable.specs.Recovered.{IsLeftInCall}
use Rattle.sp_durable.proofs.Calling.{unstopped}
use Rattle.sp_durable.proofs.Leaving.{left_in_call}
use Rattle.sp_kernel.proofs.Calls.{may_tell, counted_after, matches_after}
use Rattle.sp_kernel.proofs.flushing.flush.Goals as goal

pub follow-requires-clause-may : goal.follow-requires-clause-may
follow-requires-clause-may g c =
    let k = kernel_of c.args.state.now in
    may_tell k c.args.journal.now.work c.next_call-call.new.self.work c.requires.sound c.requires.counted (unstopped k c.requires.goes) c.next_call-call.result c.next_call-call.ensures.answer c.next_call-call.ensures.nothing

pub returns-clause-counted : goal.returns-clause-counted
returns-clause-counted g c =
    let k = kernel_of c.args.state.now in
    let goes = unstopped k c.requires.goes in
    let may = may_tell k c.args.journal.now.work c.next_call-call.new.self.work c.requires.sound c.requires.counted goes c.next_call-call.result c.next_call-call.ensures.answer c.next_call-call.ensures.nothing in
    subst (λ (k' : Kernel). Counted k' c.next_call-call.new.self.work) (sym c.follow.ensures.done)
    (counted_after k c.args.journal.now.work c.next_call-call.new.self.work c.requires.sound c.requires.counted goes c.next_call-call.result c.next_call-call.ensures.answer may c.next_call-call.ensures.changes c.next_call-call.ensures.commits c.next_call-call.ensures.flying)

pub returns-clause-agrees : goal.returns-clause-agrees
returns-clause-agrees g c = λ tells held.
    let k = kernel_of c.args.state.now in
    let goes = unstopped k c.requires.goes in
    let may = may_tell k c.args.journal.now.work c.next_call-call.new.self.work c.requires.sound c.requires.counted goes c.next_call-call.result c.next_call-call.ensures.answer c.next_call-call.ensures.nothing in
    let ledger = turned c.args.journal.now.work.phase c.next_call-call.result held.ledger in
    record {
      ledger = ledger;
      stands = c.next_call-call.ensures.stands held.ledger tells held.stands;
      matches = subst (λ (k' : Kernel). Matches k' ledger) (sym c.follow.ensures.done)
          (matches_after k c.args.journal.now.work c.next_call-call.new.self.work c.requires.sound c.requires.counted goes c.next_call-call.result held.ledger may held.matches);
    }

pub returns-clause-crash : goal.returns-clause-crash
returns-clause-crash g c = λ tells held.
    let k = kernel_of c.args.state.now in
    leaves_weaker _ _ _ _ (MayLeave c.args.journal.now.work.phase held.ledger) (IsLeftInCall c.args.journal.now.work.phase k)
    (λ file may. left_in_call k held.ledger (bare k c.requires.sound) held.matches c.args.journal.now.work.phase file may)
    (c.next_call-call.ensures.crash held.ledger tells held.stands)

pub returns-clause-kinds : goal.returns-clause-kinds
returns-clause-kinds g c = λ tells held. c.next_call-call.ensures.kinds held.ledger tells held.stands
