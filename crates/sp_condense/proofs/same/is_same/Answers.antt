use Rattle.std.proofs.Common.{◌≡◌, Bool, true, false, IsTrue, refl}
use Rattle.std.specs.Bool.{MatchBool}
use Rattle.sp_node.specs.declared.node.Child.{Child}
use Rattle.sp_grow.proofs.Same.{same_child}
use Rattle.sp_condense.proofs.same.is_same.Goals as goal

matched : (b : Bool) (a c : Child) → (IsTrue b → a ≡ c) × (a ≡ c → IsTrue b) → MatchBool b (a ≡ c) (¬ (a ≡ c))
matched true a c f = f.0 refl
matched false a c f = λ e. let never = f.1 e in cc

pub returns : goal.returns
returns c = matched c.eq.result c.args.a.now c.args.b.now (same_child c.args.a.now c.args.b.now c.eq.result c.eq.ensures)
