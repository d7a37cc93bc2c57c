use Rattle.sp_model.specs.State.{entries_in}
use Rattle.sp_model.proofs.Bare.{bare}
use Rattle.sp_durable.proofs.Counting.{few_at, some_changes, few_changes, room_left}
use Rattle.sp_durable.proofs.counts.queued_changes_are_few.Goals as goal

pub returns : goal.returns
returns c = record {
  entries = λ k numbers sound once. few_at k (bare k sound) numbers once (entries_in k) (λ e i. i);
  few = λ k x sound here idle. few_changes k x (bare k sound) here idle;
  some = some_changes;
  room = λ k x changes work sound here idle are counted. room_left k x (bare k sound) here idle changes work are counted;
}
