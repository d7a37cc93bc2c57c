use Rattle.std.proofs.Common.{◌≡◌, take, map}
use Rattle.sp_condense.proofs.same.same_entries.Given as goal

abbrev pub invariant-loop-i : goal.invariant-loop-i
invariant-loop-i l = map (λ e. e.number) (take l.i l.a) ≡ map (λ e. e.number) (take l.i l.b)
