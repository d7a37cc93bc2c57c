use Rattle.std.proofs.Common.{◌≡◌, ◌∙◌, sym, ◌<◌, length, List, ℕ, Some}
use Rattle.std.specs.Prelude.{slice_get}
use Rattle.sp_state.proofs.Standing.{without-remove, got_at}
use Rattle.sp_state.proofs.seats.dismiss.Goals as goal

pub returns-clause-others : goal.returns-clause-others
returns-clause-others c = c.remove.ensures.items ∙ without-remove c.args.seats.now.items c.args.at c.remove.result c.requires.ascending (got_at c.args.seats.now.items c.args.at c.remove.result c.requires.bound c.remove.ensures.value)
