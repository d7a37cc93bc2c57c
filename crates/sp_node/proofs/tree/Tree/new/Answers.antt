use Rattle.std.proofs.Common.{◌≡◌, ℕ, ◌∙◌, sym, subst, List, [], ◌∷◌}
use Rattle.sp_node.specs.declared.node.Node.{Node}
use Rattle.sp_node.specs.declared.node.Node.TheVariants.{Leaf}
use Rattle.sp_node.specs.Table.{IsValid}
use Rattle.std.proofs.Common.{ap}
use Rattle.std.proofs.Common.{IsTrue, Bool, true, false, cond, Some, None}
use Rattle.std.specs.Prelude.{nat_eq}
use Rattle.std.specs.HashMap.{get}
use Rattle.std.specs.Map.{lookup}
use Rattle.sp_node.specs.declared.node.Entry.{Entry}
use Rattle.sp_node.specs.Look.{put_node, look, entries_in}
use Rattle.sp_node.specs.Known.{AreKnown, AreMarksNoted}
use Rattle.sp_node.specs.Index.{IsIndex, AreAllKnown, AreAllNoted, has_number}
use Rattle.sp_node.proofs.Empty.{empty_valid}
use Rattle.sp_node.proofs.tree.Tree.new.Goals as goal

nothing : (q k : ℕ) → IsTrue (has_number (entries_in (look ((1, Leaf []) ∷ []) k)) q) → ⊥
nothing q k h = by_test (nat_eq k 1) h
  where
    by_test : (b : Bool) → has_number (entries_in (cond b (Some (Leaf [])) None)) q ≡ true → ⊥
    by_test true h = cc
    by_test false h = cc

unknown : (known : List (ℕ × ℕ)) (k : ℕ) → AreKnown known (entries_in (look ((1, Leaf []) ∷ []) k))
unknown known k = by_test (nat_eq k 1)
  where
    by_test : (b : Bool) → AreKnown known (entries_in (cond b (Some (Leaf [])) None))
    by_test true = tt
    by_test false = tt

unmarked : (noted : List (ℕ × ℕ)) (k : ℕ) → AreMarksNoted noted (entries_in (look ((1, Leaf []) ∷ []) k))
unmarked noted k = by_test (nat_eq k 1)
  where
    by_test : (b : Bool) → AreMarksNoted noted (entries_in (cond b (Some (Leaf [])) None))
    by_test true = tt
    by_test false = tt

pub invariant_of-result : goal.invariant_of-result
invariant_of-result c =
    let one : c.put.new.self.nodes ≡ (1, Leaf []) ∷ [] = c.put.ensures.nodes ∙ ap (λ (ns : List (ℕ × Node)). put_node ns 1 (Leaf c.new.result)) (c.in_ok-reserve.ensures.nodes ∙ c.new-nodes.ensures) ∙ ap (λ (es : List Entry). (1, Leaf es) ∷ []) c.new.ensures in
    record {
      valid = subst (λ (ns : List (ℕ × Node)). IsValid (record { shape = c.args.shape; root = 1; next = 2; nodes = ns })) (sym one) (empty_valid c.args.shape c.requires);
      index = subst (IsIndex (λ q. get nat_eq c.new-2.result q)) (sym one) (λ q k. let none : get nat_eq c.new-2.result q ≡ None = ap (λ (es : List (ℕ × ℕ)). lookup (nat_eq q) es) c.new-2.ensures.empty in (λ e. cc, λ h. absurd (nothing q k h)));
      known = subst (AreAllKnown c.new-3.result) (sym one) (unknown c.new-3.result);
      noted = subst (AreAllNoted c.new-4.result) (sym one) (unmarked c.new-4.result);
    }
