use Rattle.std.proofs.Common.{◌≡◌, ℕ, true, false, Bool, refl, cond, List, sym, ap, subst, arith, ◌<◌, ◌^◌, ◌∙◌}
use Rattle.std.specs.List.{list_any}
use Rattle.std.specs.Ordering.{is_eq}
use Rattle.sp_node.specs.Known.{is_known, AreNumbers}
use Rattle.sp_node.proofs.Known.{pair_cmp, known_by, same_pair, self_pair, all_insert}
use Rattle.sp_node.proofs.pair_index.PairIndex.note.Goals as goal

pub returns-clause-noted : goal.returns-clause-noted
returns-clause-noted c = sym (known_by c.insert.new.self.keys c.args.key c.args.number) ∙ c.in_ok-insert.ensures.updates.0 (c.args.key, c.args.number) ∙ ap (λ (b : Bool). cond b true (list_any (λ p. is_eq (pair_cmp (c.args.key, c.args.number) p)) c.self.inside.pairs.keys)) (same_pair c.args.key c.args.number c.args.key c.args.number ∙ self_pair c.args.key c.args.number)

or_true : (b c : Bool) → c ≡ true → cond b true c ≡ true
or_true true c e = refl
or_true false c e = e

pub returns-clause-kept : goal.returns-clause-kept
returns-clause-kept c = λ i n h. sym (known_by c.insert.new.self.keys i n) ∙ c.in_ok-insert.ensures.updates.0 (i, n) ∙ or_true _ _ (known_by c.self.inside.pairs.keys i n ∙ ap (λ (ps : List (ℕ × ℕ)). is_known ps i n) c.self.view_is ∙ h)

pub invariant_of-self-2 : goal.invariant_of-self-2
invariant_of-self-2 c = subst AreNumbers (sym c.in_ok-insert.ensures.keys) (all_insert (λ p. p.1 < 2 ^ 64) c.self.inside.pairs.keys (c.args.key, c.args.number) c.self.invariant (omega (arith, c.ranges.number)))
