use Rattle.std.proofs.Common.{◌≡◌, ℕ, List, ◌++◌, take, drop, length}
use Rattle.std.specs.Prelude.{replicate}
use Rattle.sp_rect.specs.Store.{Area, within, written}
use Rattle.sp_plain.proofs.keep.hand_out.Given as goal

abbrev pub invariant-loop-record : goal.invariant-loop-record
invariant-loop-record l =
    (v : List ℕ) → l.fn.values.items ≡ replicate (length (within (Area l.rect) l.fn.records.items)) v
    → (l.record-items ≡ written (Area l.rect) v (take l.record-index l.fn.records.items) ++ drop l.record-index l.fn.records.items)
    × (l.values.items ≡ replicate (length (within (Area l.rect) (drop l.record-index l.fn.records.items))) v)
