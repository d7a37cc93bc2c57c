use Rattle.std.proofs.Common.{◌≡◌, sym, ◌∙◌}
use Rattle.std.proofs.lemmas.Bool.{not-true}
use Rattle.sp_rect.specs.Store.{with_record}
use Rattle.sp_plain.proofs.Leading.{not_there, put_out}
use Rattle.sp_plain.proofs.undo.put.Goals as goal

pub returns-then-branch-clause-back : goal.returns-then-branch-clause-back
returns-then-branch-clause-back c =
    let free = not_there c.args.member.now.id c.args.records.now.items (not-true _ (sym c.in_ok-add.ensures.added ∙ c.if-branch.true)) in
    let after : c.add.new.records.items ≡ with_record c.args.member.now c.args.records.now.items = rw c.if-branch.true at c.in_ok-add.ensures.after in
    record { can = (tt, tt); back = rw after (put_out c.args.member.now c.args.records.now.items free) }
