use Rattle.std.proofs.Common.{◌≡◌, ◌∙◌, ap, sym, nat_eq}
use Rattle.sp_list.specs.Emptiness.{is_empty}
use Rattle.sp_model.proofs.Remaining.{none-left}
use Rattle.sp_model.proofs.needs_left.NeedsLeft.is_empty.Goals as goal

pub returns : goal.returns
returns c = rw (c.len.ensures.len, ← c.self.view_is) (none-left c.self.inside.asked c.self.inside.needs c.self.invariant)
