use Rattle.sp_told.proofs.Agreeing.{nothing_told, answers_tell, late_tell, late_memory, all_told}
use Rattle.sp_told.proofs.laws.events_tell_what_is_kept.Goals as goal

pub returns : goal.returns
returns c = record {
  begins = nothing_told;
  event = answers_tell;
  late = late_tell;
  memory = λ before l k s rest after t answers. late_memory before l k s rest after t.commits answers;
  ends = λ before l k t. all_told before l k t.commits;
}
