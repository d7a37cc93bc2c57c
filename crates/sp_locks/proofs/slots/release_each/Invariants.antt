use Rattle.std.proofs.Common.{◌≡◌, ◌++◌, List, drop}
use Rattle.sp_locks.specs.declared.row.Name.{Name}
use Rattle.sp_locks.specs.Slots.{AreSlots, ArePlaces, made}
use Rattle.sp_locks.proofs.slots.release_each.Given as goal

abbrev pub invariant-loop-i : goal.invariant-loop-i
invariant-loop-i l = AreSlots (λ v. v.items) l.slots.items × ArePlaces (λ v. v.items) l.places.entries l.slots.items
    × ((rest : List Name) → made (λ v. v.items) l.scope l.session (drop l.i l.names ++ rest) l.slots.items ≡ made (λ v. v.items) l.scope l.session (l.names ++ rest) l.fn.slots.items)
