use Rattle.std.proofs.Common.{refl}
use Rattle.sp_event.specs.declared.answer.Answer.TheVariants.{Queued as IsQueued}
use Rattle.sp_model.specs.Removal.{IsTakenOut}
use Rattle.sp_model.proofs.Bare.{bare}
use Rattle.sp_model.proofs.Stepping.{does_keeps}
use Rattle.sp_durable.proofs.Calling.{unstopped}
use Rattle.sp_durable.proofs.Counting.{others_queued, waits_queued, joins_queued, flush_queued, placed_queued}
use Rattle.sp_durable.proofs.Passing.{does_leave}
use Rattle.sp_durable.proofs.counts.events_leave_changes_queued.Goals as goal

pub returns : goal.returns
returns c = record {
  others = λ k event answer after sound free flush queued does.
      let sound' = bare after (does_keeps IsTakenOut (λ t number t' valid ascending few taken. taken.keeps) k event answer after sound free does) in
      others_queued k after (bare k sound) sound' (does_leave k (bare k sound) IsTakenOut (λ t number t' valid ascending few taken. taken.keeps) event answer after does free flush queued sound');
  waits = λ k s x answer after at queued does. waits_queued IsTakenOut k s x answer after at queued does;
  joins = λ k s x after sound at idle does. joins_queued IsTakenOut k s x IsQueued after (bare k sound) at idle does refl;
  flush = λ k answer after sound free does. flush_queued IsTakenOut k answer after (bare k sound) (unstopped k free) does;
  durable = λ k sound. placed_queued k (bare k sound);
}
