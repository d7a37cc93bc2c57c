use Rattle.std.proofs.Common.{◌≡◌, ◌<◌, ℕ, false, get_or}
use Rattle.sp_disk.specs.Shelves.{Named, is_named}
use Rattle.sp_disk.proofs.memory_shelf.find.Given as goal

abbrev pub invariant-loop-at : goal.invariant-loop-at
invariant-loop-at l = (k : ℕ) (d : Named) → k < l.at → is_named l.name (get_or l.disks k d) ≡ false
