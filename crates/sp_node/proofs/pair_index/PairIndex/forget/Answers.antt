use Rattle.std.proofs.Common.{◌≡◌, ℕ, false, Bool, cond, List, sym, ap, subst, ◌<◌, ◌^◌, ◌∙◌, arith, ◌&&◌}
use Rattle.std.specs.List.{list_any}
use Rattle.std.specs.Ordering.{is_eq}
use Rattle.std.specs.Prelude.{nat_eq}
use Rattle.std.proofs.lemmas.Bool.Decides.{nat_tests}
use Rattle.sp_node.specs.Known.{is_known, AreNumbers}
use Rattle.sp_node.proofs.Known.{pair_cmp, known_by, same_pair, all_remove}
use Rattle.sp_node.proofs.pair_index.PairIndex.forget.Goals as goal

turned : (i n j m : ℕ) → (nat_eq i j && nat_eq n m) ≡ (nat_eq j i && nat_eq m n)
turned i n j m = grind (arith, nat_tests)

pub returns : goal.returns
returns c = λ i n.
    sym (known_by c.remove.new.self.keys i n) ∙ c.remove.ensures.updates.0 (i, n)
    ∙ ap (λ (b : Bool). cond b false (list_any (λ p. is_eq (pair_cmp (i, n) p)) c.self.inside.pairs.keys)) (same_pair c.args.key c.args.number i n ∙ turned c.args.key c.args.number i n)
    ∙ ap (λ (b : Bool). cond (nat_eq i c.args.key && nat_eq n c.args.number) false b) (known_by c.self.inside.pairs.keys i n ∙ ap (λ (ps : List (ℕ × ℕ)). is_known ps i n) c.self.view_is)

pub invariant_of-self : goal.invariant_of-self
invariant_of-self c = subst AreNumbers (sym c.remove.ensures.keys) (all_remove (λ p. p.1 < 2 ^ 64) _ c.self.inside.pairs.keys c.self.invariant)
