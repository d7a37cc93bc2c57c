use Rattle.std.proofs.Common.{◌≡◌, ◌≤◌, reverse, drop}
use Rattle.std.specs.Vec.{vec_len, vec_capacity}
use Rattle.sp_rect.specs.Store.{IsOrdered}
use Rattle.sp_plain.specs.Taking.{taken}
use Rattle.sp_plain.specs.Undoing.{LeadsBack}
use Rattle.sp_plain.proofs.undo.make_each.Given as goal

abbrev pub invariant-loop-change : goal.invariant-loop-change
invariant-loop-change l = IsOrdered l.records.items × (vec_len l.undo ≤ l.change-index) × (vec_capacity l.undo ≡ vec_capacity l.fn.undo)
    × LeadsBack (vec_capacity l.records) (reverse l.undo.items) l.records.items l.fn.records.items
    × (taken l.changes l.fn.records.items ≡ taken (drop l.change-index l.changes) l.records.items)
