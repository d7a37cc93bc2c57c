use Rattle.std.proofs.Common.{◌≡◌, ◌≤◌, ℕ, drop, cond, None}
use Rattle.std.specs.Prelude.{nat_eq}
use Rattle.std.specs.HashMap.{get, spare}
use Rattle.sp_node.specs.Moving.{is_leaving}
use Rattle.sp_node.proofs.index.forget.Given as goal

abbrev pub invariant-back : goal.invariant-back
invariant-back l = record {
  gone : (q : ℕ) → get nat_eq l.leaves q ≡ cond (is_leaving l.nodes.nodes (drop l.i l.parts) q) None (get nat_eq l.fn.leaves q);
  room : spare l.fn.leaves ≤ spare l.leaves;
}
