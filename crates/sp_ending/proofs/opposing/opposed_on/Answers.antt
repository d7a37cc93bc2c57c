use Rattle.std.proofs.Common.{◌∙◌, sym}
use Rattle.sp_ending.proofs.Opposition.{nobody, somebody, opposed-is, holds-nothing}
use Rattle.sp_ending.proofs.opposing.opposed_on.Goals as goal

pub returns-in_default : goal.returns-in_default
returns-in_default c = nobody c.args.locks.now c.on.result.now c.args.need.now c.on.ensures.rows c.in_default.ensures

pub returns-in_default-held : goal.returns-in_default-held
returns-in_default-held c = λ s h.
    absurd (holds-nothing c.args.locks.now c.args.need.now c.in-Some.holder (somebody c.args.locks.now c.on.result.now c.args.need.now c.in-Some.holder c.on.ensures.rows c.in-Some.ensures) (sym c.held.ensures ∙ c.in_default-held.is))

pub returns-in-Granule : goal.returns-in-Granule
returns-in-Granule c = opposed-is c.args.locks.now c.on.result.now c.args.need.now _ c.on.ensures.rows c.in-Some.ensures c.in-Granule.is (sym c.held.ensures ∙ c.in-Some-held.is)
