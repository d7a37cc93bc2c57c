use Rattle.sp_script.specs.Script.{script_text}
use Rattle.sp_stress.proofs.Outcomes.{run_base, cut_script}
use Rattle.sp_stress.proofs.stressing.stress.Goals as goal

pub tell-end-requires-clause-base : goal.tell-end-requires-clause-base
tell-end-requires-clause-base g c = run_base _ _ _ _ c.play_script-transcript.ensures.plays.runs

pub returns-clause-heard : goal.returns-clause-heard
returns-clause-heard g c = (cut_script c.args.shape (script_text c.args.seed c.args.count) _ c.tell-end.result _ _ c.tell-end.ensures.short c.play_script-transcript.ensures.plays).heard_as

pub returns-clause-runs : goal.returns-clause-runs
returns-clause-runs g c = (cut_script c.args.shape (script_text c.args.seed c.args.count) _ c.tell-end.result _ _ c.tell-end.ensures.short c.play_script-transcript.ensures.plays).runs

pub returns-clause-told : goal.returns-clause-told
returns-clause-told g c = (cut_script c.args.shape (script_text c.args.seed c.args.count) _ c.tell-end.result _ _ c.tell-end.ensures.short c.play_script-transcript.ensures.plays).told

pub returns-clause-serial : goal.returns-clause-serial
returns-clause-serial g c = c.play_script-transcript.ensures.plays.serial
