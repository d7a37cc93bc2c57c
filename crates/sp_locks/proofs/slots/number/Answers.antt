use Rattle.std.proofs.Common.{◌+◌, ap, ◌∙◌, sym, subst}
use Rattle.std.specs.Prelude.{slice_get}
use Rattle.std.specs.Map.{lookup}
use Rattle.sp_locks.specs.Rows.{same_name}
use Rattle.sp_locks.proofs.Numbering.{Settled, settled-empty, settled-next}
use Rattle.sp_locks.proofs.slots.number.Goals as goal
use Rattle.sp_locks.proofs.slots.number.Goals.{in-Some, in_default}

pub loop-i-preserved : goal.loop-i-preserved
loop-i-preserved c n = elim c.match-first.branch [
  | in-Some w ↦ subst (λ places. Settled (λ v. v.items) n (lookup (same_name n) places.entries) (c.loop-i.i + 1) c.args.slots.now) (sym w.places-is)
      (settled-next (λ v. v.items) c.loop-i.places.entries w.move_name.new.places.entries c.args.slots.now c.loop-i.i c.index-slots-i.result w.in-Some.row.now c.requires.slots c.loop-i-test.true
      (w.in-Some.ensures.value ∙ ap (λ xs. slice_get xs 0) (c.deref.ensures.value ∙ ap (λ v. v.items) c.index-slots-i.is)) w.move_name.ensures c.loop-i.invariant n)
  | in_default w ↦ subst (λ places. Settled (λ v. v.items) n (lookup (same_name n) places.entries) (c.loop-i.i + 1) c.args.slots.now) (sym w.places-is)
      (settled-empty (λ v. v.items) c.loop-i.places.entries c.args.slots.now c.loop-i.i c.index-slots-i.result c.loop-i-test.true
      (w.in_default.ensures.value ∙ ap (λ xs. slice_get xs 0) (c.deref.ensures.value ∙ ap (λ v. v.items) c.index-slots-i.is)) c.loop-i.invariant n)
]
