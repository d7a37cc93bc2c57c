use Rattle.std.proofs.Common.{inl, refl}
use Rattle.sp_stress.proofs.Outcomes.{short_behind, lacks_memory, lacks_ends, lacks_written, lacks_write}
use Rattle.sp_stress.proofs.stressing.tell.Goals as goal

pub returns-in-Input-clause-short : goal.returns-in-Input-clause-short
returns-in-Input-clause-short g c = short_behind _ _ c.in-Input.is c.tell_summary.ensures.ends

pub returns-in_default-clause-ends : goal.returns-in_default-clause-ends
returns-in_default-clause-ends g c = lacks_ends c.args.end (lacks_memory c.args.end c.requires.ends c.in_default.not-Input)

pub returns-in_default-clause-written : goal.returns-in_default-clause-written
returns-in_default-clause-written g c = lacks_written c.args.end _ _ _ _ _ (lacks_memory c.args.end c.requires.ends c.in_default.not-Input) c.write_last.ensures.written

pub returns-in_default-clause-write_fault : goal.returns-in_default-clause-write_fault
returns-in_default-clause-write_fault g c = lacks_write c.args.end _ (lacks_memory c.args.end c.requires.ends c.in_default.not-Input)
