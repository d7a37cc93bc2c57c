use Rattle.std.proofs.Common.{◌≡◌, ◌+◌, ◌≤◌, ℕ, drop}
use Rattle.std.specs.Prelude.{nat_eq}
use Rattle.std.specs.HashMap.{get, spare}
use Rattle.sp_node.specs.Moving.{arrived}
use Rattle.sp_node.specs.Plan.{entry_count}
use Rattle.sp_node.proofs.index.note.Given as goal

abbrev pub invariant-back : goal.invariant-back
invariant-back l = record {
  noted : (q : ℕ) → get nat_eq l.leaves q ≡ arrived l.nodes.nodes (drop l.i l.parts) q (get nat_eq l.fn.leaves q);
  room : spare l.fn.leaves ≤ spare l.leaves + entry_count (drop l.i l.parts);
}
