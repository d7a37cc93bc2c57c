use Rattle.sp_protection.proofs.replays.undisturbed.Goals as goal
use Rattle.sp_protection.proofs.Runs.{undisturbed as lemma}

pub returns : goal.returns
returns c = lemma
