use Rattle.std.proofs.Common.{◌≡◌, ◌++◌, ℕ, List, map, sym, ap, subst, ◌∙◌}
use Rattle.std.specs.List.{filter}
use Rattle.std.specs.List.Sorted.{IsStrictlyIncreasing}
use Rattle.std.specs.declared.ops.Bound.{Bound}
use Rattle.std.specs.BTreeMap.Range.{range_contains}
use Rattle.std.specs.Range.{range_inclusive_start, range_inclusive_end}
use Rattle.std.proofs.lemmas.List.{append-nil}
use Rattle.sp_node.specs.Known.{numbers_under}
use Rattle.sp_node.proofs.Known.{pair_cmp, between, under_ascends}
use Rattle.sp_node.proofs.pair_index.PairIndex.under.Goals as goal

found : (c : goal.In-None) → c.loop-number.found.items ≡ numbers_under c.self.inside.pairs.keys c.args.key
found c =
    let keys = c.self.inside.pairs.keys in
    let ranged = c.into_iter-number-iterator.ensures.into_iter_gives ∙ c.range-number-items.ensures.between c.new.ensures.exhausted in
    let between_bounds : ℕ × ℕ → ℕ × ℕ → List (ℕ × ℕ) = λ lo hi. filter (range_contains pair_cmp (Bound.Included lo) (Bound.Included hi)) keys in
    let bounds : between_bounds (range_inclusive_start c.new.result) (range_inclusive_end c.new.result) ≡ between_bounds (c.args.key, 0) (c.args.key, 18446744073709551615) = λ i. between_bounds (c.new.ensures.start i) (c.new.ensures.end i) in
    sym (append-nil c.loop-number.found.items) ∙ ap (λ (ps : List (ℕ × ℕ)). c.loop-number.found.items ++ map (λ (p : ℕ × ℕ). p.1) ps) (sym c.in-None.ensures.steps.0) ∙ c.loop-number.invariant
    ∙ ap (λ (ps : List (ℕ × ℕ)). map (λ (p : ℕ × ℕ). p.1) ps) (ranged ∙ bounds ∙ between c.args.key keys c.self.invariant)

pub returns-clause-found : goal.returns-clause-found
returns-clause-found c = found c ∙ ap (λ (ps : List (ℕ × ℕ)). numbers_under ps c.args.key) c.self.view_is

pub returns-clause-ascending : goal.returns-clause-ascending
returns-clause-ascending c = subst IsStrictlyIncreasing (sym (found c)) (under_ascends c.args.key c.self.inside.pairs.keys c.range-number-items.ensures.ordered)
