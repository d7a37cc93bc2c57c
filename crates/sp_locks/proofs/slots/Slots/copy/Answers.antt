use Rattle.std.proofs.Common.{◌∙◌, rules}
use Rattle.sp_locks.proofs.Copying.{zip-same, zip-entries}
use Rattle.sp_locks.proofs.Standing.{cloned-rows, cloned-slots, cloned-places}
use Rattle.sp_locks.proofs.slots.Slots.copy.Goals as goal

pub invariant_of-result : goal.invariant_of-result
invariant_of-result c = (
  cloned-slots (λ v. v.items) _ (λ v w h. zip-same _ (λ x y k. search rules) v.items w.items h.0) c.self.inside.slots.items c.in_ok-clone.field-0.items c.in_ok-clone.ensures.cases.0 c.self.invariant.0,
  cloned-places (λ v. v.items) _ (λ v w h. zip-same _ (λ x y k. search rules) v.items w.items h.0) c.self.inside.slots.items c.in_ok-clone.field-0.items c.self.inside.places.entries c.in_ok-clone-2.field-0.entries c.in_ok-clone.ensures.cases.0
      (zip-entries _ _ (λ a b h. search rules) (λ a b h. search rules) c.self.inside.places.entries c.in_ok-clone-2.field-0.entries c.in_ok-clone-2.ensures.cases) c.self.invariant.1,
)

pub returns : goal.returns
returns c = cloned-rows (λ v. v.items) _ (λ v w h. zip-same _ (λ x y k. search rules) v.items w.items h.0) c.self.inside.slots.items c.in_ok-clone.field-0.items c.in_ok-clone.ensures.cases.0 ∙ c.self.view_is
