use Rattle.std.proofs.Common.{◌≡◌, ◌+◌, ◌-◌, ◌∷◌, drop, sym, ap, subst, ◌∙◌, arith}
use Rattle.std.proofs.lemmas.List.{drop_more}
use Rattle.sp_node.specs.declared.node.Entry.{Entry}
use Rattle.sp_node.specs.Known.{AreMarksNoted}
use Rattle.sp_node.proofs.Known.{still_marked}
use Rattle.sp_node.proofs.index.note_marks_of.Goals as goal

pub back-preserved : goal.back-preserved
back-preserved c =
    let es = c.args.entries.now in
    let i = c.back.i - 1 in
    let e = c.index-entries-i.result in
    let back : c.back.i ≡ i + 1 = omega arith in
    let split : drop i es ≡ e ∷ drop c.back.i es = drop_more es i e (omega arith) ∙ ap (λ (x : Entry). x ∷ drop (i + 1) es) (sym c.index-entries-i.is) ∙ ap (λ n. e ∷ drop n es) (sym back) in
    let more = still_marked c.back.noted c.note_marks.new.noted c.in_ok-note_marks.ensures.kept (drop c.back.i es) c.back.invariant.noted in
    record {
      noted = subst (AreMarksNoted c.note_marks.new.noted) (sym split) (c.in_ok-note_marks.ensures.noted, more);
      kept = λ j n h. c.in_ok-note_marks.ensures.kept j n (c.back.invariant.kept j n h);
    }
