use Rattle.sp_model.proofs.Bare.{bare}
use Rattle.sp_durable.proofs.Batches.{flight_applies, queue_applies, one_more_applies}
use Rattle.sp_durable.proofs.queues.queued_changes_apply.Goals as goal

pub returns : goal.returns
returns c = record {
  all = λ k flight queued sound. queue_applies k flight queued (bare k sound);
  one_more = λ k x changes flight queued sound here idle are held waiting. one_more_applies k x changes (bare k sound) here idle are flight queued held waiting;
  batch = λ k flight sound. flight_applies k flight (bare k sound);
}
