use Rattle.std.proofs.Common.{[], append-nil, sym, ap, ◌∙◌, arith}
use Rattle.sp_locks.specs.Table.{rows_on, replaced}
use Rattle.sp_locks.proofs.Giving.{replaced-free}
use Rattle.sp_locks.proofs.Standing.{at-below, place-at, place-none, set-forgotten, cleared-rows, cleared-slots}
use Rattle.sp_locks.proofs.Numbering.{lookup-same}
use Rattle.sp_locks.proofs.slots.Slots.clear.Goals as goal

pub index_mut-requires : goal.index_mut-requires
index_mut-requires c =
    let h = at-below (λ v. v.items) c.args.name c.in-Some.at.now c.self.inside.slots.items
    (place-at (λ v. v.items) c.args.name c.in-Some.at.now c.self.inside.slots.items c.self.inside.places.entries c.self.invariant.1 (sym (lookup-same c.args.name c.self.inside.places.entries) ∙ sym c.in-Some.ensures.value)) in omega (arith, h)

pub invariant_of-self : goal.invariant_of-self
invariant_of-self c = (
  cleared-slots (λ v. v.items) c.args.name c.in-Some.at.now c.self.inside.slots.items c.clear.new.self c.self.invariant.0
      (place-at (λ v. v.items) c.args.name c.in-Some.at.now c.self.inside.slots.items c.self.inside.places.entries c.self.invariant.1 (sym (lookup-same c.args.name c.self.inside.places.entries) ∙ sym c.in-Some.ensures.value)) c.clear.ensures.items,
  set-forgotten (λ v. v.items) c.args.name c.in-Some.at.now c.self.inside.slots.items c.clear.new.self c.self.inside.places.entries c.forget_name.new.places.entries c.self.invariant.0
      (sym (lookup-same c.args.name c.self.inside.places.entries) ∙ sym c.in-Some.ensures.value) c.self.invariant.1 c.clear.ensures.items c.forget_name.ensures,
)

pub returns-in-Some : goal.returns-in-Some
returns-in-Some c =
    cleared-rows (λ v. v.items) c.args.name c.in-Some.at.now c.self.inside.slots.items c.clear.new.self c.self.invariant.0
    (place-at (λ v. v.items) c.args.name c.in-Some.at.now c.self.inside.slots.items c.self.inside.places.entries c.self.invariant.1 (sym (lookup-same c.args.name c.self.inside.places.entries) ∙ sym c.in-Some.ensures.value)) c.clear.ensures.items
    ∙ ap (replaced c.args.name []) c.self.view_is

pub returns-in_default : goal.returns-in_default
returns-in_default c =
    sym (replaced-free c.args.name [] c.args.self.now (ap (rows_on c.args.name) (sym c.self.view_is)
    ∙ place-none (λ v. v.items) c.args.name c.self.inside.slots.items c.self.inside.places.entries c.self.invariant.1 (sym (lookup-same c.args.name c.self.inside.places.entries) ∙ sym c.in_default.ensures.value))
    ∙ append-nil c.args.self.now)
