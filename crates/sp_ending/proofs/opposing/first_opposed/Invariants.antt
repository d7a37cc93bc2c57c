use Rattle.std.proofs.Common.{take}
use Rattle.sp_model.specs.Stepped.{AreUnopposed}
use Rattle.sp_ending.proofs.opposing.first_opposed.Given as goal

abbrev pub invariant-needs : goal.invariant-needs
invariant-needs l = AreUnopposed l.locks (take l.need-index l.needs)
