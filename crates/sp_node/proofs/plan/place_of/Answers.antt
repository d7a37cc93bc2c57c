use Rattle.std.proofs.Common.{◌≡◌, length, arith, ap, ◌∙◌}
use Rattle.std.proofs.lemmas.List.{get_or_read}
use Rattle.sp_node.specs.declared.plan.Part.TheVariants.{Gone}
use Rattle.sp_node.specs.Plan.{number_of}
use Rattle.sp_node.proofs.Adopt.{put_here, number_in}
use Rattle.sp_node.proofs.plan.place_of.Goals as goal

pub returns-then-number-clause-parts : goal.returns-then-number-clause-parts
returns-then-number-clause-parts c =
    let at = ap number_of (get_or_read c.args.parts.now c.loop-i.i c.index-parts-i.result c.loop-i-test.true c.index-parts-i.is (Gone 0)) in
    let number : c.number.result ≡ number_in c.args.parts.now c.loop-i.i = c.number.ensures ∙ at in
    λ part same. put_here c.args.parts.now part c.loop-i.i (omega arith) (λ j lt. omega (arith, same, c.loop-i.invariant j lt)) (λ lt. omega (arith, same, number))

pub returns-clause-parts : goal.returns-clause-parts
returns-clause-parts c = λ part same. put_here c.args.parts.now part (length c.args.parts.now) (omega arith) (λ j lt. omega (arith, same, c.loop-i.invariant j (omega arith))) (λ lt. absurd (omega arith))
