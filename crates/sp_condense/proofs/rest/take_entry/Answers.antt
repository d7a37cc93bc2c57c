use Rattle.sp_condense.proofs.Ways.{not_none}
use Rattle.sp_condense.proofs.rest.take_entry.Goals as goal

pub unreachable-requires : goal.unreachable-requires
unreachable-requires c = not_none c.args.entries.now c.args.entry c.requires c.in-None.ensures
