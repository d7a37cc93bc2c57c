use Rattle.sp_protection.proofs.removal.removals_keep_all.Goals as goal
use Rattle.sp_protection.proofs.Removals.{removal_guarded, removal_owned, removal_keeps_marks}

pub returns-clause-guarded : goal.returns-clause-guarded
returns-clause-guarded c = removal_guarded

pub returns-clause-owned : goal.returns-clause-owned
returns-clause-owned c = removal_owned

pub returns-clause-marks : goal.returns-clause-marks
returns-clause-marks c = removal_keeps_marks
