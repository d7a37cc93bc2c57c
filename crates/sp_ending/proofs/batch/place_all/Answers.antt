use Rattle.std.proofs.Common.{◌∙◌, List, ℕ, ap}
use Rattle.sp_state.specs.Held.{kernel_of}
use Rattle.sp_ending.proofs.Batches.{placing-begins, placing-ends}
use Rattle.sp_ending.proofs.batch.place_all.Goals as goal

pub place_each-requires-clause-placing : goal.place_each-requires-clause-placing
place_each-requires-clause-placing c =
    let s = c.args.state.now in
    (kernel_of s, placing-begins (kernel_of s) c.len-from.result c.requires.sound (c.len-from.ensures ∙ s.dead.ok.0))

pub returns-clause-done : goal.returns-clause-done
returns-clause-done c =
    let s = c.args.state.now in
    let e = c.len-from.ensures ∙ s.dead.ok.0 in
    ap (λ (ns : List ℕ). record (kernel_of c.place_each.new.state) { flight = ns; calls = 0 }) c.clear.ensures.items
    ∙ placing-ends (kernel_of s) (kernel_of c.place_each.new.state) c.len-from.result e (c.place_each.ensures.placed (kernel_of s) (placing-begins (kernel_of s) c.len-from.result c.requires.sound e))
