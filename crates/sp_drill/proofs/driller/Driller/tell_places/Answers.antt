use Rattle.std.proofs.Common.{[]}
use Rattle.sp_drill.proofs.Joining.{stops_none}
use Rattle.sp_drill.proofs.driller.Driller.tell_places.Goals as goal

pub returns-in-Err-clause-stops : goal.returns-in-Err-clause-stops
returns-in-Err-clause-stops g c = stops_none g.D.Disk.tells g.D.Disk.takes_memory g.D.Disk.faults g.D.Disk.moment g.D.Disk.images [] _ c.args.self.now.scribe c.args.kernel.now (g.K.Sink.taken c.args.sink.now)
