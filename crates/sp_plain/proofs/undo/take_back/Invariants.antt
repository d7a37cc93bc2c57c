use Rattle.std.proofs.Common.{◌≡◌, reverse}
use Rattle.std.specs.Vec.{vec_capacity}
use Rattle.sp_rect.specs.Store.{IsOrdered}
use Rattle.sp_plain.specs.Undoing.{CanMakeAll, left_by_all}
use Rattle.sp_plain.proofs.undo.take_back.Given as goal

abbrev pub invariant-loop-change : goal.invariant-loop-change
invariant-loop-change l = IsOrdered l.records.items × CanMakeAll (vec_capacity l.records) (reverse l.undo.items) l.records.items
    × (left_by_all (reverse l.undo.items) l.records.items ≡ left_by_all (reverse l.fn.undo.items) l.fn.records.items)

abbrev pub decreases-loop-change : goal.decreases-loop-change
decreases-loop-change l = goal.left-loop-change l
