use Rattle.std.proofs.Common.{◌≡◌}
use Rattle.sp_plain.proofs.Order.{stands_within}
use Rattle.sp_plain.proofs.keep.get.Goals as goal

pub returns-in_ok-copy-in-Ok-clause-some : goal.returns-in_ok-copy-in-Ok-clause-some
returns-in_ok-copy-in-Ok-clause-some c =
    let s = c.in-Ok.ensures.found in
    let there = stands_within 0 c.args.id c.args.records.now c.in-Ok.at c.requires s.within s.named c.index-records-at.result in
    let same : c.in_ok-copy-in-Ok.field-0 ≡ c.index-records-at.result = c.in_ok-copy-in-Ok.ensures in
    cc (there, same, c.index-records-at.is)
