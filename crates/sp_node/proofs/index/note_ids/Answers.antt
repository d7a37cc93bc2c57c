use Rattle.std.proofs.Common.{◌≡◌, ◌+◌, ◌-◌, ℕ, true, ◌∷◌, drop, sym, ap, subst, ◌∙◌, arith}
use Rattle.std.proofs.lemmas.List.{drop_more, take_rest}
use Rattle.sp_node.specs.declared.plan.Part.{Part}
use Rattle.sp_node.specs.Known.{is_known, AreKnown}
use Rattle.sp_node.specs.Moving.{unmoved}
use Rattle.sp_node.specs.Plan.{AreNoted}
use Rattle.sp_node.proofs.Known.{still_known, still_noted}
use Rattle.sp_node.proofs.Moving.{known_front}
use Rattle.sp_node.proofs.index.note_ids.Goals as goal

pub back-preserved : goal.back-preserved
back-preserved c =
    let ps = c.args.parts.now in
    let i = c.back.i - 1 in
    let p = c.index-parts-i.result in
    let back : c.back.i ≡ i + 1 = omega arith in
    let split : drop i ps ≡ p ∷ drop c.back.i ps = drop_more ps i p (omega arith) ∙ ap (λ (x : Part). x ∷ drop (i + 1) ps) (sym c.index-parts-i.is) ∙ ap (λ n. p ∷ drop n ps) (sym back) in
    let more = still_noted c.back.ids c.note_ids_of.new.ids c.in_ok-note_ids_of.ensures.kept (drop c.back.i ps) c.back.invariant.noted in
    let stay = c.unmoved-stay.result in
    let before = c.entries.result.now in
    let after = c.entries-after.result.now in
    let new = c.note_ids_of.new.ids in
    let kept = λ (j n : ℕ) (h : is_known c.args.ids.now j n ≡ true). c.in_ok-note_ids_of.ensures.kept j n (c.back.invariant.kept j n h) in
    let stood : AreKnown c.args.ids.now before = subst (AreKnown c.args.ids.now) (sym c.entries.ensures) (c.requires c.number.result) in
    let rest : AreKnown new (drop (unmoved before after) after) = subst (λ (n : ℕ). AreKnown new (drop n after)) c.unmoved-stay.ensures.count (subst (AreKnown new) (take_rest after stay) c.in_ok-note_ids_of.ensures.noted) in
    let all : AreKnown new after = known_front new before after (still_known c.args.ids.now new kept before stood) rest in
    record {
      noted = subst (AreNoted new) (sym split) (subst (AreKnown new) c.entries-after.ensures all, more);
      kept = kept;
    }
