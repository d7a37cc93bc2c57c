use Rattle.std.proofs.Common.{◌≡◌, ◌<◌, ◌≤◌, ◌-◌, ◌+◌, drop, length, slice_get, Some, ◌∙◌, sym, ap, arith}
use Rattle.std.proofs.lemmas.Option.{slice_get-get_or}
use Rattle.sp_locks.specs.Slots.{rows_of}
use Rattle.sp_locks.proofs.Groups.{get-first, get-later}
use Rattle.sp_locks.proofs.Standing.{drop-slots}
use Rattle.sp_locks.proofs.slots.Slots.row.Goals as goal

pub returns-then-left-len : goal.returns-then-left-len
returns-then-left-len c =
    let xs = c.index-rows.result.now.items in
    let h : c.loop-k.left < length xs = omega arith in
    sym (ap (λ ys. slice_get ys c.args.i) (sym c.self.view_is) ∙ c.loop-k.invariant ∙ ap (λ ys. slice_get ys c.loop-k.left) (drop-slots (λ v. v.items) c.self.inside.slots.items c.loop-k.k c.index-rows.result.now (omega arith) c.index-rows.ensures)
    ∙ get-first xs _ c.loop-k.left h ∙ slice_get-get_or xs c.loop-k.left c.index.result.now h ∙ ap Some (sym c.index.ensures))

pub loop-k-preserved : goal.loop-k-preserved
loop-k-preserved c =
    let xs = c.index-rows.result.now.items in
    let h : length xs ≤ c.loop-k.left = omega arith in
    c.loop-k.invariant ∙ ap (λ ys. slice_get ys c.loop-k.left) (drop-slots (λ v. v.items) c.self.inside.slots.items c.loop-k.k c.index-rows.result.now (omega arith) c.index-rows.ensures)
    ∙ get-later xs _ c.loop-k.left h ∙ (let e : c.loop-k.left - length xs ≡ c.loop-k.left - c.len-left.result = omega arith in ap (λ k. slice_get (rows_of (λ v. v.items) (drop (c.loop-k.k + 1) c.self.inside.slots.items)) k) e)
