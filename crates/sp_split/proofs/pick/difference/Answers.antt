use Rattle.std.proofs.Common.{arith}
use Rattle.std.proofs.lemmas.Int.{ints, clamps}
use Rattle.sp_split.proofs.pick.difference.Goals as goal

pub returns : goal.returns
returns c =
    let e = c.max.ensures.value in
    let a = c.growth-a.ensures in
    let b = c.growth-b.ensures in
    omega (arith, ints, clamps, c.max.ensures.value, a.value, a.low, a.high, b.value, b.low, b.high)
