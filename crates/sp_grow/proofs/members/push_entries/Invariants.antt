use Rattle.std.proofs.Common.{◌≡◌, ◌++◌, take, map}
use Rattle.sp_grow.proofs.members.push_entries.Given as goal

abbrev pub invariant-loop-entry : goal.invariant-loop-entry
invariant-loop-entry l = l.rects.items ≡ l.fn.rects.items ++ map (λ m. m.rect) (take l.entry-index l.entries)
