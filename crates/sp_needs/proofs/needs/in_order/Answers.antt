use Rattle.std.proofs.Common.{ℕ, ◌↔◌, List, sym, subst}
use Rattle.std.specs.Prelude.{nat_eq}
use Rattle.std.specs.List.Sorted.{IsStrictlyIncreasing}
use Rattle.std.proofs.lemmas.List.Filters.{dedup_is}
use Rattle.std.proofs.lemmas.Map.Keys.{IsStrictlyIncreasing-dedup}
use Rattle.sp_node.specs.Among.{Among}
use Rattle.sp_needs.proofs.Membership.{same_members}
use Rattle.sp_needs.proofs.needs.in_order.Goals as goal

pub returns-clause-same : goal.returns-clause-same
returns-clause-same c n =
    subst (λ (xs : List ℕ). Among n xs ↔ Among n c.args.numbers.items) (sym (dedup_is nat_eq c.sort.new.self.items c.dedup.new.self.items c.dedup.ensures.filtered))
    (same_members c.args.numbers.items c.sort.new.self.items n c.in_ok-sort.ensures.permutation)

pub returns-clause-rising : goal.returns-clause-rising
returns-clause-rising c =
    subst IsStrictlyIncreasing (sym (dedup_is nat_eq c.sort.new.self.items c.dedup.new.self.items c.dedup.ensures.filtered))
    (IsStrictlyIncreasing-dedup c.sort.new.self.items c.in_ok-sort.ensures.sorted)
