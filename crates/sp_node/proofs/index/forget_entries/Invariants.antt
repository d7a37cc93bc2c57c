use Rattle.std.proofs.Common.{◌≡◌, ◌≤◌, ℕ, drop, cond, None}
use Rattle.std.specs.Prelude.{nat_eq}
use Rattle.std.specs.HashMap.{get, spare}
use Rattle.sp_node.specs.Index.{has_number}
use Rattle.sp_node.proofs.index.forget_entries.Given as goal

abbrev pub invariant-back : goal.invariant-back
invariant-back l = record {
  gone : (q : ℕ) → get nat_eq l.leaves q ≡ cond (has_number (drop l.i l.entries) q) None (get nat_eq l.fn.leaves q);
  room : spare l.fn.leaves ≤ spare l.leaves;
}
