use Rattle.sp_protection.proofs.insertion.insertion_keeps_all.Goals as goal
use Rattle.sp_protection.proofs.Insertions.{insertion_keeps_all as lemma}

pub returns : goal.returns
returns c = lemma
