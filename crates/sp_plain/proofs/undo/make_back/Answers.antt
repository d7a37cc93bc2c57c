use Rattle.sp_plain.specs.declared.change.Change.TheVariants.{Put, Drop, Set}
use Rattle.sp_plain.proofs.Leading.{ordered_made}
use Rattle.sp_plain.proofs.undo.make_back.Goals as goal

pub returns-in-Put-clause-ordered : goal.returns-in-Put-clause-ordered
returns-in-Put-clause-ordered c = rw c.put_back.ensures.after (ordered_made _ (Put c.in-Put.member) c.args.records.now.items (rw c.in-Put.is at c.requires.can) c.requires.ordered)

pub returns-in-Drop-clause-ordered : goal.returns-in-Drop-clause-ordered
returns-in-Drop-clause-ordered c = rw c.remove-member.ensures.after (ordered_made 0 (Drop c.in-Drop.id) c.args.records.now.items tt c.requires.ordered)

pub returns-in-Set-clause-ordered : goal.returns-in-Set-clause-ordered
returns-in-Set-clause-ordered c = rw c.set_back.ensures.after (ordered_made 0 (Set c.in-Set.id c.in-Set.value) c.args.records.now.items tt c.requires.ordered)
