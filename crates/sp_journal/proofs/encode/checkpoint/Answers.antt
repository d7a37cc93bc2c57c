use Rattle.std.proofs.Common.{arith}
use Rattle.sp_journal.proofs.Pages.{record_more, checkpoint_whole, valid_more, valid_same}
use Rattle.sp_journal.proofs.encode.checkpoint.Goals as goal

pub loop-member-preserved : goal.loop-member-preserved
loop-member-preserved c = record {
  bytes = record_more c.as_slice-member-items.result.now c.loop-member.member-index c.member-item.result _ _ _ (omega arith) c.member-item.is c.loop-member.invariant.bytes c.in_ok-push_put.ensures.bytes;
  valid = valid_more c.as_slice-member-items.result.now c.loop-member.member-index c.member-item.result (omega arith) c.member-item.is c.loop-member.invariant.valid c.in_ok-push_put.ensures.valid;
}

pub returns-clause-bytes : goal.returns-clause-bytes
returns-clause-bytes c = checkpoint_whole c.args.records.now c.as_slice-member-items.result.now c.loop-member.member-index _ c.as_slice-member-items.ensures (omega arith) c.loop-member.invariant.bytes

pub returns-clause-valid : goal.returns-clause-valid
returns-clause-valid c = valid_same c.args.records.now c.as_slice-member-items.result.now c.loop-member.member-index c.as_slice-member-items.ensures (omega arith) c.loop-member.invariant.valid
