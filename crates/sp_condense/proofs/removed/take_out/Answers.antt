use Rattle.std.proofs.Common.{◌<◌, ◌+◌, ◌^◌, ℕ, sym, subst, arith}
use Rattle.std.proofs.lemmas.Result.{IfOk-weaker}
use Rattle.sp_node.specs.Table.{Table, level_of}
use Rattle.sp_grow.specs.Below.{IsSpot}
use Rattle.sp_grow.proofs.Spots.{root_spot, level_small}
use Rattle.sp_condense.specs.declared.rest.Rest.{Rest}
use Rattle.sp_condense.specs.Taking.{IsTaken}
use Rattle.sp_condense.proofs.removed.take_out.Goals as goal

pub returns : goal.returns
returns c =
    let t : Table = c.args.tree.now.table in
    let v = c.next-valid.ensures.valid in
    let spot = subst (IsSpot t (level_of t)) (sym c.root.ensures.value) (root_spot t v c.requires.numbers) in
    let small = level_small t v in
    let low : 0 + level_of c.args.tree.now.table < 2 ^ 63 = let n = c.requires.numbers in omega (arith, small, n) in
    IfOk-weaker c.take_below.result (λ (rest : Rest). (level : ℕ) → IsSpot t level c.root.result → 0 + level < 2 ^ 63 → IsTaken t c.args.entry level c.root.result 0 rest) (λ (rest : Rest). IsTaken t c.args.entry (level_of t) t.root 0 rest)
    (λ rest h. subst (λ (n : ℕ). IsTaken t c.args.entry (level_of t) n 0 rest) c.root.ensures.value (h (level_of t) spot low)) c.take_below.ensures
