use Rattle.std.proofs.Common.{refl}
use Rattle.sp_event.specs.declared.answer.Answer.TheVariants.{Queued as IsQueued}
use Rattle.sp_model.specs.Removal.{IsTakenOut}
use Rattle.sp_model.proofs.Bare.{bare}
use Rattle.sp_model.proofs.Stepping.{does_keeps}
use Rattle.sp_durable.proofs.Calling.{unstopped}
use Rattle.sp_durable.proofs.Counting.{others_count, waits_count, joins_count, flush_counts, fault_counts}
use Rattle.sp_durable.proofs.Passing.{does_leave}
use Rattle.sp_durable.proofs.counts.events_leave_counts.Goals as goal

pub returns : goal.returns
returns c = record {
  others = λ k event answer after work sound free flush queued does counted.
      let sound' = bare after (does_keeps IsTakenOut (λ t number t' valid ascending few taken. taken.keeps) k event answer after sound free does) in
      others_count k after work (bare k sound) sound' (does_leave k (bare k sound) IsTakenOut (λ t number t' valid ascending few taken. taken.keeps) event answer after does free flush queued sound') counted;
  waits = λ k s x answer after work at queued does counted. waits_count IsTakenOut k s x answer after work at queued does counted;
  joins = λ k s x changes after old new sound at idle are does counted phase end flying commits made. joins_count IsTakenOut k s x changes IsQueued after old new (bare k sound) at idle are does refl counted phase end flying commits made;
  flush = λ k answer after old new sound free does counted answered changes commits flying. flush_counts IsTakenOut k answer after old new (bare k sound) (unstopped k free) does counted answered changes commits flying;
  fault = fault_counts;
}
