use Rattle.std.proofs.Common.{subst, sym, rules}
use Rattle.std.specs.List.Sorted.{IsPermutation}
use Rattle.std.proofs.lemmas.List.Sorted.{IsNonDecreasingBy-from_sort_by_key, IsPermutation-trans, IsPermutation-sym}
use Rattle.sp_rect.specs.declared.record.Record.{Record}
use Rattle.sp_ops.proofs.Arranging.{sorted_is}
use Rattle.sp_ops.proofs.replies.records_by_id.Goals as goal

pub returns : goal.returns
returns c = λ found at.
    let q : IsPermutation found c.in_ok-records.records.items = subst (IsPermutation found) (sym c.in_ok-records.ensures) (IsPermutation-sym _ found at.same) in
    sorted_is found c.sort_by_key.new.self.items at.ordered (IsPermutation-trans found c.in_ok-records.records.items c.sort_by_key.new.self.items q c.in_ok-sort_by_key.ensures.permutation)
    (IsNonDecreasingBy-from_sort_by_key (λ (r : Record). r.id) _ c.in_ok-sort_by_key.ensures.sorted (λ a r q k. search rules))
