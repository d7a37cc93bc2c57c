use Rattle.std.proofs.Common.{◌≡◌, List, [], sym, ◌∙◌, subst}
use Rattle.sp_rect.specs.Store.{Id, within}
use Rattle.sp_rect.specs.declared.record.Record.{Record}
use Rattle.sp_plain.specs.Place.{StandsAt}
use Rattle.sp_plain.proofs.Order.{stands_within, stands_without, without_none}
use Rattle.sp_plain.proofs.keep.remove.Goals as goal

pub returns-in-Ok-clause-some : goal.returns-in-Ok-clause-some
returns-in-Ok-clause-some c =
    let s = subst (λ (xs : List Record). StandsAt c.args.id xs c.in-Ok.at) c.deref.ensures.value c.in-Ok.ensures.found in
    let there = stands_within 0 c.args.id c.args.records.now.items c.in-Ok.at c.requires s.within s.named c.remove.result in
    cc (there, c.remove.ensures.value)

pub returns-in-Ok-clause-after : goal.returns-in-Ok-clause-after
returns-in-Ok-clause-after c =
    let s = subst (λ (xs : List Record). StandsAt c.args.id xs c.in-Ok.at) c.deref.ensures.value c.in-Ok.ensures.found in
    c.remove.ensures.items ∙ sym (stands_without 0 c.args.id c.args.records.now.items c.in-Ok.at c.requires s.within s.named)

pub returns-in-Err-clause-after : goal.returns-in-Err-clause-after
returns-in-Err-clause-after c =
    sym (without_none (Id c.args.id) c.args.records.now.items (subst (λ (xs : List Record). within (Id c.args.id) xs ≡ []) c.deref.ensures.value c.in-Err.ensures.free))
