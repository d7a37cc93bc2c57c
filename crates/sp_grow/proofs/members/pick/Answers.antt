use Rattle.std.proofs.Common.{◌∙◌, ap, ◌++◌, ◌∷◌, [], refl}
use Rattle.sp_grow.proofs.Picked.{took, passed}
use Rattle.sp_grow.proofs.members.pick.Goals as goal
use Rattle.sp_grow.proofs.members.pick.Goals.{in-Some+in_ok-copy+in_ok-push, in_default}

pub loop-position-preserved : goal.loop-position-preserved
loop-position-preserved g c =
    elim c.match-get.branch [
      | in-Some+in_ok-copy+in_ok-push w ↦ let e = w.in-Some.ensures.lookup in
          took c.args.members.now c.args.positions.now c.args.positions.now refl c.loop-position.position-index c.loop-position-test.true c.loop-position.picked.items c.match-get.picked.items c.loop-position.invariant w.in-Some.member.now (ap (λ v. v.items) w.picked-is ∙ w.in_ok-push.ensures.items ∙ ap (λ (y : g.row.T.Denot). c.loop-position.picked.items ++ y ∷ []) w.in_ok-copy.ensures) e.3.0 e.1
      | in_default w ↦ let e = w.in_default.ensures.lookup in
          passed c.args.members.now c.args.positions.now c.args.positions.now refl c.loop-position.position-index c.loop-position-test.true c.loop-position.picked.items c.match-get.picked.items c.loop-position.invariant (ap (λ v. v.items) w.picked-is) e.3
    ]
