use Rattle.std.proofs.Common.{◌≡◌, take}
use Rattle.sp_list.proofs.sequence.copy_members.Given as goal

abbrev pub invariant-loop-member : goal.invariant-loop-member
invariant-loop-member g l = l.copied.items ≡ take l.member-index l.members
