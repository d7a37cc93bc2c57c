use Rattle.std.proofs.Common.{◌≡◌, ℕ, ◌+◌, ◌<◌, ◌≤◌, ◌-◌, List, length, get_or, subst, arith}
use Rattle.std.proofs.lemmas.List.{get_or_read}
use Rattle.sp_ending.proofs.Rising.{place-among}
use Rattle.sp_ending.proofs.dead.place_among.Goals as goal

-- the one before the place
before : (xs : List ℕ) (at j r n : ℕ) → at ≡ j + 1 → at ≤ length xs → r ≡ get_or xs (at - 1) r → r < n → get_or xs j 0 < n
before xs at j r n e l read less =
    let k : at - 1 ≡ j = omega (arith, e) in
    let h = get_or_read xs (at - 1) r (omega (arith, e, l)) read 0 in
    subst (λ (m : ℕ). get_or xs m 0 < n) k (subst (λ (m : ℕ). m < n) h less)

pub returns-then-index-number-clause-place : goal.returns-then-index-number-clause-place
returns-then-index-number-clause-place c =
    let items = c.args.dead.now.items in
    place-among c.args.number c.args.from items c.back.at c.back.invariant.low c.back.invariant.high c.requires.rises c.back.invariant.least
    (λ j e g. before items c.back.at j c.index.result.now c.args.number e c.back.invariant.high c.index.ensures c.if-index-number.true)

pub returns-clause-place : goal.returns-clause-place
returns-clause-place c =
    place-among c.args.number c.args.from c.args.dead.now.items c.back.at c.back.invariant.low c.back.invariant.high c.requires.rises c.back.invariant.least
    (λ j e g. absurd (omega (arith, e, g, c.back-test.false)))
