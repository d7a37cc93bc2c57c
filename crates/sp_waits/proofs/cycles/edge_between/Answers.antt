use Rattle.sp_waits.proofs.Edging.{edge-is}
use Rattle.sp_waits.proofs.cycles.edge_between.Goals as goal

pub returns-clause-edge : goal.returns-clause-edge
returns-clause-edge c =
    edge-is c.args.table.now c.args.request.now.session c.args.request.now.name c.args.request.now.mode c.requires.sound c.requires.awake c.args.from c.args.to c.requires.waits c.asked_by-asked.result.name c.asked_by-asked.result.mode c.blocking-has.result
    c.asked_by-asked.ensures c.blocking-has.ensures
