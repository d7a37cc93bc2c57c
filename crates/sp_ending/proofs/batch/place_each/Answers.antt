use Rattle.std.proofs.Common.{◌∙◌, ◌+◌, ℕ, List, ◌∷◌, drop, ap, subst, arith}
use Rattle.sp_model.specs.State.{Kernel, entries_in}
use Rattle.sp_state.specs.Held.{kernel_of}
use Rattle.sp_ending.specs.Ends.{Placing}
use Rattle.sp_ending.proofs.Batches.{may_place, next-placed, next-is}
use Rattle.sp_ending.proofs.batch.place_each.Goals as goal

pub place_one-requires-clause-may : goal.place_one-requires-clause-may
place_one-requires-clause-may c =
    let flight = c.args.state.now.flight in
    let n = c.index-session.result.now in
    let i = c.batch.i in
    let is = next-is flight.items c.batch.state.flight.items i n c.batch.invariant.1 (omega (arith, c.batch-test.true, c.len-i-end.ensures, flight.ok.0)) c.index-session.ensures in
    let given = c.requires.placing in
    may_place given.0 n (drop (i + 1) flight.items) c.args.from (kernel_of c.batch.state) (subst (λ (ns : List ℕ). Placing given.0 ns c.args.from (kernel_of c.batch.state)) is (c.batch.invariant.0 given.0 given.1))

pub batch-preserved : goal.batch-preserved
batch-preserved c =
    let flight = c.args.state.now.flight in
    let n = c.index-session.result.now in
    let i = c.batch.i in
    let k = kernel_of c.batch.state in
    let is = next-is flight.items c.batch.state.flight.items i n c.batch.invariant.1 (omega (arith, c.batch-test.true, c.len-i-end.ensures, flight.ok.0)) c.index-session.ensures in
    let given = c.requires.placing in
    let placing : (before : Kernel) → Placing before flight.items c.args.from (kernel_of c.args.state.now) → Placing before (n ∷ drop (i + 1) flight.items) c.args.from k = (λ before p. subst (λ (ns : List ℕ). Placing before ns c.args.from k) is (c.batch.invariant.0 before p)) in
    let may = may_place given.0 n (drop (i + 1) flight.items) c.args.from k (placing given.0 given.1) in
    let placed = c.place_one.ensures.placed may.session may.stands in (
      λ before p. let q = placing before p in next-placed before n (drop (i + 1) flight.items) c.args.from k q may.session may.stands (kernel_of c.place_one.new.state) placed (c.place_one.ensures.tail (entries_in before) q.tail) c.place_one.ensures.front,
      ap (λ (j : Kernel). j.flight) placed ∙ c.batch.invariant.1,
      c.place_one.ensures.fits,
    )
