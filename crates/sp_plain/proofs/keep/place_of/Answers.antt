use Rattle.std.proofs.Common.{ltb, ltb-true, ltb-false, arith, rules}
use Rattle.std.proofs.lemmas.List.Sorted.{IsPartitionPoint-from_clause, IsPartitionedBy-ltb}
use Rattle.sp_rect.specs.declared.record.Record.{Record}
use Rattle.sp_plain.proofs.Order.{rising, place_is}
use Rattle.sp_plain.proofs.keep.place_of.Goals as goal

pub returns-clause-place : goal.returns-clause-place
returns-clause-place c =
    let parted = IsPartitionedBy-ltb (λ (r : Record). r.id) _ c.args.id (rising 0 c.args.records.now c.requires) in
    let point = IsPartitionPoint-from_clause (λ (r : Record). ltb r.id c.args.id) _ _ c.partition_point.ensures.partitioned parted (λ a r q k. search rules) in
    place_is c.args.id _ _ c.partition_point.ensures.bound (λ k d h. ltb-true _ _ (point.0 k d (omega arith) h)) (λ k d h l. ltb-false _ _ (point.1 k d h l))
