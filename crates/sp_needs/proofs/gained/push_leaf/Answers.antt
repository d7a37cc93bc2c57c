use Rattle.std.proofs.Common.{sym}
use Rattle.sp_needs.proofs.Gaining.{leaf_more, leaf_none}
use Rattle.sp_needs.proofs.Outcome.{pushed_ok}
use Rattle.sp_needs.proofs.gained.push_leaf.Goals as goal

pub returns-in-Some : goal.returns-in-Some
returns-in-Some c =
    pushed_ok c.push.result c.args.rects.now c.push.new.self c.in-Some.space c.push.ensures
    (λ is p. leaf_more c.args.tree.now.table c.space_before.ensures.valid p c.args.number c.in-Some.space c.args.rects.now c.push.new.self (sym c.in-Some.ensures.space) is)

pub returns-in-None : goal.returns-in-None
returns-in-None c p = leaf_none c.args.tree.now.table c.space_before.ensures.valid p c.args.number c.args.rects.now (sym c.in-None.ensures.space)
