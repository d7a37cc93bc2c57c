use Rattle.std.proofs.Common.{◌≡◌, get_or, if◌then◌else◌, true, is_ok, ◌∙◌, ap, rules}
use Rattle.sp_locks.specs.Table.{AreFreeInTurn, lock_for, with_row_on}
use Rattle.sp_locks.proofs.Giving.{some_need, free-take, given-step}
use Rattle.sp_locks.proofs.by_name.RowsByName.give.Goals as goal

pub loop-i-preserved : goal.loop-i-preserved
loop-i-preserved c =
    let ns = c.args.needs.now in
    let free : AreFreeInTurn c.args.session c.args.self.now ns = c.requires in
    let ok : is_ok c.add.result ≡ true = search rules in
    given-step c.args.session c.args.self.now c.loop-i.self c.add.new.self ns c.loop-i.i free c.loop-i-test.true c.loop-i.invariant
    (c.add.ensures ∙ ap (λ b. if b then with_row_on (lock_for c.args.session (get_or ns c.loop-i.i some_need)) c.loop-i.self else c.loop-i.self) ok)

pub returns-in-Err-clause-err : goal.returns-in-Err-clause-err
returns-in-Err-clause-err c =
    let ns = c.args.needs.now in
    let free : AreFreeInTurn c.args.session c.args.self.now ns = c.requires in
    c.take_back.ensures c.args.self.now (free-take c.args.session c.args.self.now ns c.loop-i.i free) (c.in-Err.ensures ∙ c.loop-i.invariant)
