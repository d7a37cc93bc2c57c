-- A plan of an insertion leaves what an insertion leaves.
use Rattle.std.proofs.Common.{suc, List, [], ◌∷◌, sym, inl, inr, arith}
use Rattle.std.specs.Prelude.{Contains}
use Rattle.sp_node.specs.declared.node.Entry.{Entry}
use Rattle.sp_node.specs.declared.plan.Plan.{Plan}
use Rattle.sp_node.specs.Among.{Among}
use Rattle.sp_node.specs.Look.{IsAscending}
use Rattle.sp_node.specs.Plan.{IsMadeOf, planned}
use Rattle.sp_node.specs.Table.{Table, entries_of}
use Rattle.sp_grow.specs.Grown.{IsGrown}
use Rattle.sp_grow.proofs.After.{rising_parts}
use Rattle.sp_model.specs.Plans.{IsInserted}

contains : {X : Type 0} (xs : List X) (x : X) → Among x xs → Contains xs x
contains [] x a = absurd a
contains (y ∷ xs) x (inl e) = (0, omega arith, sym e)
contains (y ∷ xs) x (inr a) = let at = contains xs x a in (suc at.0, omega (arith, at.1), at.2)

pub plan_inserts : (t : Table) (e : Entry) (plan : Plan) → IsAscending t.nodes → IsMadeOf t plan → IsGrown t e (planned t plan) → IsInserted t e (planned t plan)
plan_inserts t e plan rising made grown = record {
  grown = grown;
  valid = made.valid;
  ascending = rising_parts t.nodes plan.parts rising;
  same = λ f g i j n. made.same_entries f g (contains (entries_of t) f i) (contains (entries_of (planned t plan)) g j) n;
}
