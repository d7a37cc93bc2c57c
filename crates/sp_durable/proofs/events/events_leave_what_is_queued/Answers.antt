use Rattle.std.proofs.Common.{refl}
use Rattle.sp_event.specs.declared.answer.Answer.TheVariants.{Queued as IsQueued}
use Rattle.sp_model.specs.Removal.{IsTakenOut}
use Rattle.sp_model.proofs.Bare.{bare}
use Rattle.sp_model.proofs.Stepping.{does_keeps}
use Rattle.sp_durable.proofs.Calling.{waits_leave, joins_leave, flush_leaves, fault_leaves, unstopped}
use Rattle.sp_durable.proofs.Passing.{does_leave, matches_still}
use Rattle.sp_durable.proofs.events.events_leave_what_is_queued.Goals as goal

pub returns : goal.returns
returns c = record {
  others = λ k event answer after ledger sound free flush queued does same.
      let sound' = bare after (does_keeps IsTakenOut (λ t number t' valid ascending few taken. taken.keeps) k event answer after sound free does) in
      matches_still k after ledger (bare k sound) sound' (does_leave k (bare k sound) IsTakenOut (λ t number t' valid ascending few taken. taken.keeps) event answer after does free flush queued sound') same;
  waits = λ k s x answer after ledger at queued does same. waits_leave IsTakenOut k s x answer after ledger at queued does same;
  joins = λ k s x changes after ledger sound at idle are does same. joins_leave IsTakenOut k s x changes IsQueued after ledger (bare k sound) at idle are does refl same;
  flush = λ k answer after ledger sound free does same. flush_leaves IsTakenOut k answer after ledger (bare k sound) (unstopped k free) does same;
  fault = fault_leaves;
}
