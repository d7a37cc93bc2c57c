use Rattle.sp_plain.proofs.Order.{exchanged, written_back}
use Rattle.sp_plain.proofs.keep.exchange.Goals as goal

pub returns-clause-after : goal.returns-clause-after
returns-clause-after c = λ id at.
    rw c.replace.ensures.after (exchanged 0 id c.args.at c.args.records.now.items c.requires.ordered at c.args.value c.index_mut-held.result.now c.index_mut-held.ensures.value)

pub returns-clause-back : goal.returns-clause-back
returns-clause-back c = λ id at.
    rw c.replace.ensures.value (written_back 0 id c.args.at c.args.records.now.items c.requires.ordered at c.replace.new.dest c.index_mut-held.result.now c.index_mut-held.ensures.value)
