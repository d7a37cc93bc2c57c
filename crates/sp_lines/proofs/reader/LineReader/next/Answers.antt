use Rattle.std.proofs.Common.{rules, inr, ◌++◌, ◌∷◌, [], ℕ, List, sym, ◌∙◌, subst, arith}
use Rattle.sp_io.proofs.Known.{Appends-kept}
use Rattle.sp_lines.specs.Taking.{HasTaken}
use Rattle.sp_lines.specs.declared.fault.Fault.TheVariants.{Write, Memory}
use Rattle.sp_lines.proofs.Taking.{cuts_line, cuts_rest, line_by_newline, taken_cut, taken_on, taken_fill, so_far, comes_ended, comes_fault}
use Rattle.sp_lines.proofs.reader.LineReader.next.Goals as goal

pub returns-in-Ok-true-clause-comes : goal.returns-in-Ok-true-clause-comes
returns-in-Ok-true-clause-comes g c = λ start lines h.
    let P : List ℕ → Type 0 = λ x. HasTaken start (g.S.Source.left c.loop-sink.source) c.cut.new.self.chunk [] (lines ++ x ∷ []) in
    let cuts = cuts_line _ _ _ _ _ c.in-Ok-true.field-0-test c.in-Ok-true.ensures.cut in
    subst P (sym (line_by_newline _ _ (c.in-Ok-true.ensures.ended ∙ c.loop-sink.invariant.ended)))
    (taken_cut _ _ _ _ _ _ _ _ (c.loop-sink.invariant.taken start lines h) cuts c.in-Ok-true.ensures.room)

pub returns-in-Err-clause-comes : goal.returns-in-Err-clause-comes
returns-in-Err-clause-comes g c = λ start lines h. comes_fault _ _ Memory _ _ _ (c.loop-sink.invariant.taken start lines h)

pub loop-sink-preserved : goal.loop-sink-preserved
loop-sink-preserved g c =
    let cuts = cuts_rest _ _ _ _ _ c.in-Ok-false.field-0-test c.in-Ok-false.ensures.cut in
    record {
      taken = λ start lines h.
          taken_fill _ _ _ _ _ _ _ (taken_on _ _ _ _ _ _ _ (c.loop-sink.invariant.taken start lines h) cuts.0 c.in-Ok-false.ensures.room)
          cuts.1 c.in-Bytes.ensures.filled.0 c.in-Bytes.ensures.filled.2;
      ended = c.in-Ok-false.ensures.ended ∙ c.loop-sink.invariant.ended;
      fewer = omega (arith, c.in-Bytes.ensures.filled.2, c.in-Ok-false.ensures.room, c.loop-sink.invariant.fewer);
      later = omega (arith, c.loop-sink.invariant.later, c.in-Bytes.ensures.later);
      flushed = Appends-kept _ _ _ _ c.loop-sink.invariant.flushed c.flush.ensures.kept;
      asked = inr (search rules);
      counts = omega (arith, c.loop-sink.invariant.counts, c.flush.ensures.later);
    }

pub returns-in-End-clause-comes : goal.returns-in-End-clause-comes
returns-in-End-clause-comes g c = λ start lines h.
    let cuts = cuts_rest _ _ _ _ _ c.in-Ok-false.field-0-test c.in-Ok-false.ensures.cut in
    let filled = c.in-End.ensures.filled in
    comes_ended _ _ _ _ _ _ _ _ _ _ (taken_on _ _ _ _ _ _ _ (c.loop-sink.invariant.taken start lines h) cuts.0 c.in-Ok-false.ensures.room)
    cuts.1 filled.0 filled.1 filled.3 c.last.ensures.last c.last.ensures.line c.last.ensures.ended

pub returns-in-Failed-clause-comes : goal.returns-in-Failed-clause-comes
returns-in-Failed-clause-comes g c = λ start lines h.
    let cuts = cuts_rest _ _ _ _ _ c.in-Ok-false.field-0-test c.in-Ok-false.ensures.cut in
    let filled = c.in-Failed.ensures.filled in
    let s = so_far _ _ _ _ _ _ (taken_on _ _ _ _ _ _ _ (c.loop-sink.invariant.taken start lines h) cuts.0 c.in-Ok-false.ensures.room) cuts.1 filled.0 in
    (s.0, omega (arith, s.1, filled.2))

pub returns-in-Full-clause-comes : goal.returns-in-Full-clause-comes
returns-in-Full-clause-comes g c = λ start lines h.
    let cuts = cuts_rest _ _ _ _ _ c.in-Ok-false.field-0-test c.in-Ok-false.ensures.cut in
    let filled = c.in-Full.ensures.filled in
    let s = so_far _ _ _ _ _ _ (taken_on _ _ _ _ _ _ _ (c.loop-sink.invariant.taken start lines h) cuts.0 c.in-Ok-false.ensures.room) cuts.1 filled.0 in
    (s.0, omega (arith, s.1, filled.2))

pub returns-then-is_err-clause-comes : goal.returns-then-is_err-clause-comes
returns-then-is_err-clause-comes g c = λ start lines h.
    let cuts = cuts_rest _ _ _ _ _ c.in-Ok-false.field-0-test c.in-Ok-false.ensures.cut in
    comes_fault _ _ Write _ _ _ (taken_on _ _ _ _ _ _ _ (c.loop-sink.invariant.taken start lines h) cuts.0 c.in-Ok-false.ensures.room)
