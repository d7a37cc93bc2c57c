use Rattle.sp_told.proofs.Agreeing.{answers_commits, operation_commits, late_commits, all_told}
use Rattle.sp_told.proofs.laws.commands_tell_what_is_kept.Goals as goal

pub returns : goal.returns
returns c = record {
  operation = λ before l k owing s op event answer after t is same answers. operation_commits before l k owing t op s event answer after is same answers;
  other = λ before l k event answer after sound t not answers. answers_commits before l k t event answer after sound (λ s x op is at under. absurd (not s is)) answers;
  late = late_commits;
  ends = all_told;
}
