use Rattle.sp_drill.proofs.Joining.{leads_none}
use Rattle.sp_drill.proofs.Leading.{leads_step}
use Rattle.sp_drill.proofs.event.answer_to.Goals as goal

pub returns-in-Err-clause-leads : goal.returns-in-Err-clause-leads
returns-in-Err-clause-leads g c = leads_none g.D.Disk.tells g.D.Disk.takes_memory g.D.Disk.faults g.D.Disk.moment g.D.Disk.images c.args.kernel.now

pub returns-in-Memory-clause-leads : goal.returns-in-Memory-clause-leads
returns-in-Memory-clause-leads g c = let e = c.step.ensures in
    leads_step g.D.Disk.tells g.D.Disk.takes_memory g.D.Disk.faults g.D.Disk.moment g.D.Disk.images c.args.kernel.now c.step.new.self _ c.step.result c.args.kernel.now.work.phase e.answers e.crash e.kinds e.later e.tells e.takes

pub returns-in_default-clause-leads : goal.returns-in_default-clause-leads
returns-in_default-clause-leads g c = let e = c.step.ensures in
    leads_step g.D.Disk.tells g.D.Disk.takes_memory g.D.Disk.faults g.D.Disk.moment g.D.Disk.images c.args.kernel.now c.step.new.self _ c.step.result c.args.kernel.now.work.phase e.answers e.crash e.kinds e.later e.tells e.takes
