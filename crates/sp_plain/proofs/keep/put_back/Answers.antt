use Rattle.std.proofs.Common.{◌≡◌, List, subst}
use Rattle.std.specs.List.{insert}
use Rattle.sp_rect.specs.Store.{with_record}
use Rattle.sp_rect.specs.declared.record.Record.{Record}
use Rattle.sp_plain.specs.Place.{place}
use Rattle.sp_plain.proofs.Order.{with_record_is}
use Rattle.sp_plain.proofs.keep.put_back.Goals as goal

pub returns-clause-after : goal.returns-clause-after
returns-clause-after c =
    let put : c.insert.new.self.items ≡ insert c.args.records.now.items c.place_of-at.result c.args.member = c.in-Ok.ensures.items in
    let stands : c.place_of-at.result ≡ place c.args.member.id c.args.records.now.items = subst (λ (xs : List Record). c.place_of-at.result ≡ place c.args.member.id xs) c.deref.ensures.value c.place_of-at.ensures.place in
    let is : with_record c.args.member c.args.records.now.items ≡ insert c.args.records.now.items (place c.args.member.id c.args.records.now.items) c.args.member = with_record_is c.args.member c.args.records.now.items in
    cc
