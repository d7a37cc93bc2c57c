use Rattle.std.proofs.Common.{◌≡◌, ◌&&◌, ℕ, List, leb, sym, subst, ◌∙◌}
use Rattle.std.specs.Prelude.{nat_eq}
use Rattle.std.specs.List.{filter}
use Rattle.std.specs.declared.ops.Bound.{Bound}
use Rattle.std.specs.BTreeMap.Range.{range_contains}
use Rattle.sp_node.specs.Known.{AreNumbers, HasNoneFrom, IsFirstFrom}
use Rattle.sp_node.proofs.Known.{pair_cmp, ranged, first_none, first_some}
use Rattle.sp_node.proofs.pair_index.PairIndex.first_from.Goals as goal

-- what lies in the range
within : (key start : ℕ) (keys result : List (ℕ × ℕ)) (lo hi : ℕ × ℕ) → AreNumbers keys → result ≡ filter (range_contains pair_cmp (Bound.Included lo) (Bound.Included hi)) keys → lo ≡ (key, start) → hi ≡ (key, 18446744073709551615) → result ≡ filter (λ p. nat_eq key p.0 && leb start p.1) keys
within key start keys result lo hi fits is first last = is ∙ (λ i. filter (range_contains pair_cmp (Bound.Included (first i)) (Bound.Included (last i))) keys) ∙ ranged key start keys fits

pub returns-in-Some-clause-first : goal.returns-in-Some-clause-first
returns-in-Some-clause-first c =
    let is = within c.args.key c.args.start c.self.inside.pairs.keys c.range.result _ _ c.self.invariant (c.range.ensures.between c.new.ensures.exhausted) c.new.ensures.start c.new.ensures.end in
    subst (λ (ps : List (ℕ × ℕ)). IsFirstFrom ps c.args.key c.args.start c.in-Some.field-0.now.1) c.self.view_is (first_some c.args.key c.args.start c.self.inside.pairs.keys c.in-Some.field-0.now c.next.new.self c.range.ensures.ordered (sym is ∙ c.in-Some.ensures.steps))

pub returns-in-None-clause-first : goal.returns-in-None-clause-first
returns-in-None-clause-first c =
    let is = within c.args.key c.args.start c.self.inside.pairs.keys c.range.result _ _ c.self.invariant (c.range.ensures.between c.new.ensures.exhausted) c.new.ensures.start c.new.ensures.end in
    subst (λ (ps : List (ℕ × ℕ)). HasNoneFrom ps c.args.key c.args.start) c.self.view_is (first_none c.args.key c.args.start c.self.inside.pairs.keys (sym is ∙ c.in-None.ensures.steps.0))
