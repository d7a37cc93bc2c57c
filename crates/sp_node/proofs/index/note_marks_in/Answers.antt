use Rattle.std.proofs.Common.{◌≡◌, ◌+◌, ◌-◌, ◌∷◌, drop, sym, ap, subst, ◌∙◌, arith}
use Rattle.std.proofs.lemmas.List.{drop_more}
use Rattle.sp_node.specs.declared.plan.Part.{Part}
use Rattle.sp_node.specs.Known.{AreMarksNoted}
use Rattle.sp_node.specs.Plan.{ArePartsNoted}
use Rattle.sp_node.proofs.Known.{still_parts}
use Rattle.sp_node.proofs.index.note_marks_in.Goals as goal

pub back-preserved : goal.back-preserved
back-preserved c =
    let ps = c.args.parts.now in
    let i = c.back.i - 1 in
    let p = c.index-parts-i.result in
    let back : c.back.i ≡ i + 1 = omega arith in
    let split : drop i ps ≡ p ∷ drop c.back.i ps = drop_more ps i p (omega arith) ∙ ap (λ (x : Part). x ∷ drop (i + 1) ps) (sym c.index-parts-i.is) ∙ ap (λ n. p ∷ drop n ps) (sym back) in
    let more = still_parts c.back.noted c.note_marks_of.new.noted c.in_ok-note_marks_of.ensures.kept (drop c.back.i ps) c.back.invariant.noted in
    record {
      noted = subst (ArePartsNoted c.note_marks_of.new.noted) (sym split) (subst (AreMarksNoted c.note_marks_of.new.noted) c.entries.ensures c.in_ok-note_marks_of.ensures.noted, more);
      kept = λ j n h. c.in_ok-note_marks_of.ensures.kept j n (c.back.invariant.kept j n h);
    }
