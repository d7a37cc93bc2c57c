use Rattle.std.proofs.Common.{sym, subst}
use Rattle.sp_script.specs.Script.{script_text}
use Rattle.sp_stress.specs.Stressing.{EndsPlaying}
use Rattle.sp_stress.proofs.ScriptLength.{script_fits}
use Rattle.sp_stress.proofs.Outcomes.{unplayed_script, script_is}
use Rattle.sp_stress.proofs.stressing.play_script.Goals as goal

pub play_text-requires-clause-short : goal.play_text-requires-clause-short
play_text-requires-clause-short c = script_fits c.args.seed c.args.count c.in-Ok.text c.requires.count c.in-Ok.ensures

pub returns-in-Ok-clause-plays : goal.returns-in-Ok-clause-plays
returns-in-Ok-clause-plays c = script_is _ _ _ _ _ _ c.in-Ok.ensures c.play_text.ensures.plays

pub returns-in-Err-clause-ends : goal.returns-in-Err-clause-ends
returns-in-Err-clause-ends c = subst EndsPlaying (sym c.unplayed.ensures.end) tt

pub returns-in-Err-clause-plays : goal.returns-in-Err-clause-plays
returns-in-Err-clause-plays c =
    unplayed_script c.args.shape (script_text c.args.seed c.args.count) _ _ _ c.unplayed.ensures.end c.unplayed.ensures.none c.unplayed.ensures.serial
