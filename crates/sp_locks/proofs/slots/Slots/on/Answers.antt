use Rattle.std.proofs.Common.{sym, ap, ◌∙◌, arith}
use Rattle.sp_locks.specs.Table.{rows_on}
use Rattle.sp_locks.proofs.Standing.{at-below, at-rows, place-at, place-none}
use Rattle.sp_locks.proofs.Numbering.{lookup-same}
use Rattle.sp_locks.proofs.slots.Slots.on.Goals as goal

pub index-requires : goal.index-requires
index-requires c =
    let h = at-below (λ v. v.items) c.args.name c.in-Some.at.now c.self.inside.slots.items
    (place-at (λ v. v.items) c.args.name c.in-Some.at.now c.self.inside.slots.items c.self.inside.places.entries c.self.invariant.1 (sym (lookup-same c.args.name c.self.inside.places.entries) ∙ sym c.in-Some.ensures.value)) in omega (arith, h)

pub returns-in-Some : goal.returns-in-Some
returns-in-Some c =
    c.as_slice.ensures.value ∙ ap (λ v. v.items) c.index.ensures
    ∙ sym (at-rows (λ v. v.items) c.args.name c.in-Some.at.now c.self.inside.slots.items c.index.result.now c.self.invariant.0
    (place-at (λ v. v.items) c.args.name c.in-Some.at.now c.self.inside.slots.items c.self.inside.places.entries c.self.invariant.1 (sym (lookup-same c.args.name c.self.inside.places.entries) ∙ sym c.in-Some.ensures.value)))
    ∙ ap (rows_on c.args.name) c.self.view_is

pub returns-in-None : goal.returns-in-None
returns-in-None c =
    sym (place-none (λ v. v.items) c.args.name c.self.inside.slots.items c.self.inside.places.entries c.self.invariant.1 (sym (lookup-same c.args.name c.self.inside.places.entries) ∙ sym c.in-None.ensures.value)) ∙ ap (rows_on c.args.name) c.self.view_is
