use Rattle.std.proofs.Common.{◌≡◌, take}
use Rattle.std.specs.List.{list_any}
use Rattle.sp_ops.specs.Changes.{is_new}
use Rattle.sp_ops.proofs.putting.has_new.Given as goal

abbrev pub invariant-back : goal.invariant-back
invariant-back l = list_any (is_new l.tree.table.nodes) l.entries ≡ list_any (is_new l.tree.table.nodes) (take l.i l.entries)
