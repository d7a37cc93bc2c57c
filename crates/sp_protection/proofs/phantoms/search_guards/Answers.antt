use Rattle.sp_protection.proofs.phantoms.search_guards.Goals as goal
use Rattle.sp_protection.proofs.Leaves.{search_guards as lemma}

pub returns : goal.returns
returns c = lemma
