use Rattle.std.proofs.Common.{◌≡◌, List, [], subst, sym}
use Rattle.sp_rect.specs.Store.{Id, within}
use Rattle.sp_rect.specs.declared.record.Record.{Record}
use Rattle.sp_plain.proofs.Order.{written_none}
use Rattle.sp_plain.proofs.keep.set_back.Goals as goal

pub returns-in_default-clause-after : goal.returns-in_default-clause-after
returns-in_default-clause-after c =
    sym (written_none (Id c.args.id) c.args.value c.args.records.now.items (subst (λ (xs : List Record). within (Id c.args.id) xs ≡ []) c.deref.ensures.value c.in_default.ensures.free))
