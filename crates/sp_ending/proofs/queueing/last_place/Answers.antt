use Rattle.std.proofs.Common.{◌∙◌, cond, Bool, ap, sym}
use Rattle.std.specs.Prelude.{◌-◌}
use Rattle.std.proofs.Common.{take}
use Rattle.sp_model.specs.Stepped.{last_place}
use Rattle.sp_model.proofs.Sessions.{number-tell, number-apart}
use Rattle.sp_ending.proofs.Standing.{last_place-back}
use Rattle.sp_ending.proofs.queueing.last_place.Goals as goal

pub returns-then-commit-session : goal.returns-then-commit-session
returns-then-commit-session c =
    let d = c.index-commits-i.result in
    sym (c.back.invariant ∙ last_place-back c.args.session c.args.commits.now c.back.i d c.back-test.true c.back.auto.i c.index-commits-i.is
    ∙ ap (λ (b : Bool). cond b d.place (last_place c.args.session (take (c.back.i - 1) c.args.commits.now) 0)) (number-tell d.session c.args.session c.if-commit-session.true))

pub back-preserved : goal.back-preserved
back-preserved c =
    let d = c.index-commits-i.result in
    c.back.invariant ∙ last_place-back c.args.session c.args.commits.now c.back.i d c.back-test.true c.back.auto.i c.index-commits-i.is
    ∙ ap (λ (b : Bool). cond b d.place (last_place c.args.session (take (c.back.i - 1) c.args.commits.now) 0)) (number-apart d.session c.args.session c.if-commit-session.false)
