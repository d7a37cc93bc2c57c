use Rattle.std.proofs.Common.{◌≡◌, ◌++◌, take}
use Rattle.sp_condense.proofs.rest.extend.Given as goal

abbrev pub invariant-loop-member : goal.invariant-loop-member
invariant-loop-member g l = l.items ≡ l.fn.items ++ take l.member-index l.more
