use Rattle.sp_pair.proofs.compaction.compact.Goals as goal

pub returns-in-Ok-clause-crash : goal.returns-in-Ok-clause-crash
returns-in-Ok-clause-crash g c = λ told also rest. c.renew.ensures.crash c.args.chosen.is_alt told also rest

pub returns-in-Err-clause-crash : goal.returns-in-Err-clause-crash
returns-in-Err-clause-crash g c = λ told also rest. c.renew.ensures.crash c.args.chosen.is_alt told also rest
