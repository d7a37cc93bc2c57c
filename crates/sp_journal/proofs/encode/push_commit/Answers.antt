use Rattle.std.proofs.Common.{arith}
use Rattle.std.proofs.lemmas.Grind.{common_steps}
use Rattle.sp_journal.proofs.Bounds.{all_more}
use Rattle.sp_journal.proofs.encode.push_commit.Goals as goal

pub loop-change-preserved : goal.loop-change-preserved
loop-change-preserved c = record {
  bytes = grind (arith, common_steps);
  valid = all_more c.as_slice-change-items.result.now c.loop-change.change-index _ (omega arith) c.change-item.is c.loop-change.invariant.valid c.in_ok-push_change.ensures.valid;
}
