use Rattle.std.proofs.Common.{◌≡◌, List, [], subst, sym}
use Rattle.sp_rect.specs.Store.{Id, within}
use Rattle.sp_rect.specs.declared.record.Record.{Record}
use Rattle.sp_plain.specs.Place.{StandsAt}
use Rattle.sp_plain.proofs.Order.{there, written_none}
use Rattle.sp_plain.proofs.keep.set.Goals as goal

pub returns-in_ok-copied-in-Ok-clause-there : goal.returns-in_ok-copied-in-Ok-clause-there
returns-in_ok-copied-in-Ok-clause-there c =
    let s = subst (λ (xs : List Record). StandsAt c.args.id xs c.in-Ok.at) c.deref.ensures.value c.in-Ok.ensures.found in
    there 0 c.args.id c.in-Ok.at c.args.records.now.items c.requires s

pub returns-in-Err-clause-after : goal.returns-in-Err-clause-after
returns-in-Err-clause-after c =
    sym (written_none (Id c.args.id) c.args.value.now c.args.records.now.items (subst (λ (xs : List Record). within (Id c.args.id) xs ≡ []) c.deref.ensures.value c.in-Err.ensures.free))
