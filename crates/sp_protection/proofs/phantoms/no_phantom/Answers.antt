use Rattle.sp_protection.proofs.phantoms.no_phantom.Goals as goal
use Rattle.sp_protection.proofs.Leaves.{no_phantom as lemma}

pub returns : goal.returns
returns c = lemma
