use Rattle.std.proofs.Common.{◌≡◌, ◌≢◌, ◌∙◌, ap, sym, subst, arith, ℕ, ◌+◌, ◌<◌, ◌≤◌, List, [], drop, length}
use Rattle.sp_locks.specs.declared.needs.Need.{Need}
use Rattle.sp_model.proofs.Remaining.{some-left, drop-next}
use Rattle.sp_model.proofs.needs_left.NeedsLeft.advance.Goals as goal

-- one more is asked, of those that are there
further : (asked : ℕ) (needs left : List Need) → drop asked needs ≡ left → left ≢ [] → asked < length needs
further asked needs left e some = some-left asked needs (λ none. some (sym e ∙ none))

pub overflow_add-self : goal.overflow_add-self
overflow_add-self c = let h = further c.self.inside.asked c.self.inside.needs c.args.self.now c.self.view_is c.requires in omega (arith, h)

pub invariant_of-self : goal.invariant_of-self
invariant_of-self c = let h = further c.self.inside.asked c.self.inside.needs c.args.self.now c.self.view_is c.requires in omega (arith, h)

pub returns : goal.returns
returns c = drop-next c.self.inside.asked c.self.inside.needs ∙ ap (drop 1) c.self.view_is
