use Rattle.sp_ops.proofs.Alike.{has_no_more, not_passed, same_flag}
use Rattle.sp_ops.proofs.areas.are_alike.Goals as goal

pub returns : goal.returns
returns c = has_no_more c.args.a.now c.args.b.now (same_flag c.args.a.now.is_leaf c.args.b.now.is_leaf c.if-a-b.false) (λ x. not_passed c.in_ok-exceeds.field-0 c.if-branch.false (c.in_ok-exceeds.ensures.1 x)) c.in_ok-back.back c.in_ok-back.ensures
