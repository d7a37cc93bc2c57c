use Rattle.std.proofs.Common.{inl, inr}
use Rattle.sp_runs.specs.declared.language.Language.TheVariants.{Commands, Events}
use Rattle.spatial.proofs.Asked.{for_play, for_drill, play_unkept, drill_unkept}
use Rattle.spatial.proofs.offline.perform.Goals as goal

pub returns-in-Play-clause-over_files : goal.returns-in-Play-clause-over_files
returns-in-Play-clause-over_files g c = for_play _ c.args.task.now c.in-Play.run' c.in-Play.is c.run_script.ensures.over_files

pub returns-in-Play-clause-unread : goal.returns-in-Play-clause-unread
returns-in-Play-clause-unread g c = λ none. absurd (none Commands c.in-Play.run' c.in-Play.is)

pub returns-in-Play-clause-unasked : goal.returns-in-Play-clause-unasked
returns-in-Play-clause-unasked g c = λ none. c.run_script.ensures.unasked (play_unkept c.args.task.now c.in-Play.run' c.in-Play.is none)

pub returns-in-Drill-clause-over_files : goal.returns-in-Drill-clause-over_files
returns-in-Drill-clause-over_files g c = for_drill _ c.args.task.now c.in-Drill.run' c.in-Drill.is c.run_script-in-Drill.ensures.over_files

pub returns-in-Drill-clause-unread : goal.returns-in-Drill-clause-unread
returns-in-Drill-clause-unread g c = λ none. absurd (none Events c.in-Drill.run' c.in-Drill.is)

pub returns-in-Drill-clause-unasked : goal.returns-in-Drill-clause-unasked
returns-in-Drill-clause-unasked g c = λ none. c.run_script-in-Drill.ensures.unasked (drill_unkept c.args.task.now c.in-Drill.run' c.in-Drill.is none)

pub returns-in-Dump-clause-unasked : goal.returns-in-Dump-clause-unasked
returns-in-Dump-clause-unasked g c = λ none. absurd (none c.in-Dump.journal (inl c.in-Dump.is))

pub returns-in-Check-clause-unasked : goal.returns-in-Check-clause-unasked
returns-in-Check-clause-unasked g c = λ none. absurd (none c.in-Check.journal (inr (inl c.in-Check.is)))

pub returns-in-Compact-clause-unasked : goal.returns-in-Compact-clause-unasked
returns-in-Compact-clause-unasked g c = λ none. absurd (none c.in-Compact.journal (inr (inr (inl c.in-Compact.is))))
