use Rattle.std.proofs.Common.{◌∷◌, [], cond, ◌∙◌, sym, ap, subst, List, ℕ}
use Rattle.std.specs.Str.Lines.{strip_carriage_return}
use Rattle.sp_lines.specs.Taking.{CutsOff}
use Rattle.sp_lines.proofs.Taking.{cuts_more}
use Rattle.sp_lines.proofs.Fronts.{cuts_turn}
use Rattle.sp_lines.proofs.reader.LineReader.cut.Goals as goal

pub returns-in-Some-clause-cut : goal.returns-in-Some-clause-cut
returns-in-Some-clause-cut c =
    cuts_turn _ _ _ _ _ _ _ _ _ _ c.loop-self.invariant.cut c.in_ok-keep_front.ensures.cut c.in_ok-keep_front.ensures.stops c.in-Some.ensures.some
    (c.end_line.ensures.lines ∙ ap (λ t. cond t (strip_carriage_return c.end_line.new.line ∷ []) []) c.if-end_line.true)
    (c.end_line.ensures.rest ∙ ap (λ t. cond t [] c.end_line.new.line) c.if-end_line.true)

pub loop-self-preserved : goal.loop-self-preserved
loop-self-preserved c = record {
  cut = cuts_turn _ _ _ _ _ _ _ _ _ _ c.loop-self.invariant.cut c.in_ok-keep_front.ensures.cut c.in_ok-keep_front.ensures.stops c.in-Some.ensures.some
      (c.end_line.ensures.lines ∙ ap (λ t. cond t (strip_carriage_return c.end_line.new.line ∷ []) []) c.if-end_line.false)
      (c.end_line.ensures.rest ∙ ap (λ t. cond t [] c.end_line.new.line) c.if-end_line.false);
  room = c.next_byte.ensures.room ∙ c.keep_front.ensures.room ∙ c.loop-self.invariant.room;
  ended = c.keep_front.ensures.ended ∙ c.loop-self.invariant.ended;
}

pub returns-in-None-clause-cut : goal.returns-in-None-clause-cut
returns-in-None-clause-cut c =
    let none = c.next_byte.ensures.none c.in-None.is in (
      subst (λ (x : List ℕ). CutsOff c.args.self.now.chunk.bytes x c.args.self.now.line [] c.keep_front.new.self.line) (none.0 ∙ sym none.1)
          (cuts_more _ _ _ _ _ _ _ _ c.loop-self.invariant.cut c.in_ok-keep_front.ensures.cut),
      none.1,
    )
