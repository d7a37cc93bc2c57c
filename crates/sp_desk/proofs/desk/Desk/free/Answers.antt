use Rattle.std.proofs.Common.{rules}
use Rattle.std.proofs.lemmas.Fn.{filter_same}
use Rattle.sp_desk.proofs.desk.Desk.free.Goals as goal

pub returns-clause-stalled : goal.returns-clause-stalled
returns-clause-stalled c = filter_same _ _ _ (λ x b f k. search rules) _ _ c.retain.ensures.filtered
