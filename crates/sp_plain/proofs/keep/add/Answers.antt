use Rattle.std.proofs.Common.{◌≡◌, List, subst, refl}
use Rattle.std.specs.List.{insert}
use Rattle.sp_rect.specs.Store.{with_record}
use Rattle.sp_rect.specs.declared.record.Record.{Record}
use Rattle.sp_plain.specs.Place.{StandsAt, place}
use Rattle.sp_plain.proofs.Order.{stands_within, with_record_is}
use Rattle.sp_plain.proofs.keep.add.Goals as goal

pub returns-in-Ok-clause-added : goal.returns-in-Ok-clause-added
returns-in-Ok-clause-added c =
    let s = subst (λ (xs : List Record). StandsAt c.args.member.now.id xs c.in-Ok.field-0) c.deref.ensures.value c.in-Ok.ensures.found in
    rw (stands_within 0 c.args.member.now.id c.args.records.now.items c.in-Ok.field-0 c.requires s.within s.named c.args.member.now) refl

pub returns-in_ok-insert-in-Err-clause-after : goal.returns-in_ok-insert-in-Err-clause-after
returns-in_ok-insert-in-Err-clause-after c =
    let put : c.insert.new.self.items ≡ insert c.args.records.now.items c.in-Err.at c.in_ok-copied-in-Err.copied = c.in_ok-insert-in-Err.ensures.items in
    let same : c.in_ok-copied-in-Err.copied ≡ c.args.member.now = c.in_ok-copied-in-Err.ensures in
    let stands : c.in-Err.at ≡ place c.args.member.now.id c.args.records.now.items = subst (λ (xs : List Record). c.in-Err.at ≡ place c.args.member.now.id xs) c.deref.ensures.value c.in-Err.ensures.place in
    let is : with_record c.args.member.now c.args.records.now.items ≡ insert c.args.records.now.items (place c.args.member.now.id c.args.records.now.items) c.args.member.now = with_record_is c.args.member.now c.args.records.now.items in
    cc
