use Rattle.std.proofs.Common.{◌≡◌, ◌≢◌, ◌<◌, ℕ, Some, slice_get}
use Rattle.sp_node.specs.declared.node.Entry.{Entry}
use Rattle.sp_condense.proofs.rest.place_of.Given as goal

abbrev pub invariant-entries : goal.invariant-entries
invariant-entries l = (j : ℕ) (e : Entry) → j < l.i → slice_get l.entries j ≡ Some e → e.number ≢ l.number
