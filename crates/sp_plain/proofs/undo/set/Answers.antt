use Rattle.std.proofs.Common.{◌≡◌, false, sym, ◌∙◌}
use Rattle.sp_rect.specs.Store.{Id}
use Rattle.sp_plain.specs.Taking.{is_there}
use Rattle.sp_plain.proofs.Order.{written_none}
use Rattle.sp_plain.proofs.Leading.{not_there}
use Rattle.sp_plain.proofs.undo.set.Goals as goal

pub returns-in-None-clause-after : goal.returns-in-None-clause-after
returns-in-None-clause-after c =
    let none : false ≡ is_there c.args.id c.args.records.now.items = rw c.in-None.is at c.in_ok-had.ensures.there in
    c.in_ok-had.ensures.after ∙ written_none (Id c.args.id) c.args.value.now c.args.records.now.items (not_there c.args.id c.args.records.now.items (sym none))
