use Rattle.sp_model.specs.Removal.{KeepsOthers}
use Rattle.sp_model.proofs.Bare.{bare}
use Rattle.sp_model.proofs.OneByOne.{settled_one_by_one, undone_one_by_one}
use Rattle.sp_model.proofs.Stepping.{does_keeps}
use Rattle.sp_model.proofs.ending.ends_change_marked_entries.Goals as goal

pub returns-clause-untouched : goal.returns-clause-untouched
returns-clause-untouched c = λ k event answer after sound free does. (does_keeps KeepsOthers (λ t number t' valid ascending few keeps. keeps) k event answer after sound free does).untouched

pub returns-clause-commit : goal.returns-clause-commit
returns-clause-commit c = λ k x numbers sound. settled_one_by_one k x numbers (bare k sound) sound.untouched

pub returns-clause-rollback : goal.returns-clause-rollback
returns-clause-rollback c = λ k x numbers sound. undone_one_by_one k x numbers (bare k sound) sound.untouched
