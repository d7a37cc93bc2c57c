use Rattle.std.proofs.Common.{◌≡◌, take}
use Rattle.sp_grow.proofs.members.with_room.Given as goal

abbrev pub invariant-loop-member : goal.invariant-loop-member
invariant-loop-member g l = l.copied.items ≡ take l.member-index l.members
