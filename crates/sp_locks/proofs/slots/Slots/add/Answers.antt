use Rattle.std.proofs.Common.{◌≡◌, List, true, false, subst, is_ok, if◌then◌else◌, sym, ap, ◌∙◌, arith}
use Rattle.std.specs.Prelude.{OnOk}
use Rattle.std.specs.List.{list_any}
use Rattle.sp_locks.specs.declared.row.Row.{Row}
use Rattle.sp_locks.specs.Table.{rows_on, with_row_on}
use Rattle.sp_locks.specs.Rows.{is_row_of, with_row}
use Rattle.sp_locks.specs.Lists.{is_row_listed}
use Rattle.sp_locks.proofs.Standing.{at-below, there, place-at, place-none, added-slots, added-places, added-slot-rows}
use Rattle.sp_locks.proofs.Numbering.{lookup-same}
use Rattle.sp_locks.proofs.slots.Slots.add.Goals as goal

pub index_mut-requires : goal.index_mut-requires
index_mut-requires c =
    let h = at-below (λ v. v.items) c.args.row.name c.in-Some.at.now c.self.inside.slots.items
    (place-at (λ v. v.items) c.args.row.name c.in-Some.at.now c.self.inside.slots.items c.self.inside.places.entries c.self.invariant.1 (sym (lookup-same c.args.row.name c.self.inside.places.entries) ∙ sym c.in-Some.ensures.value)) in omega (arith, h)

pub invariant_of-self : goal.invariant_of-self
invariant_of-self c = (
  added-slots (λ v. v.items) c.args.row (is_ok c.add_listed.result) c.in-Some.at.now c.self.inside.slots.items c.add_listed.new.rows c.index_mut.result.now c.self.inside.places.entries c.self.invariant.0 c.self.invariant.1
      (sym (lookup-same c.args.row.name c.self.inside.places.entries) ∙ sym c.in-Some.ensures.value) (c.add_listed.ensures.rows ∙ ap (λ v. if is_ok c.add_listed.result then with_row c.args.row v.items else v.items) c.index_mut.ensures.value),
  added-places (λ v. v.items) c.args.row (is_ok c.add_listed.result) c.in-Some.at.now c.self.inside.slots.items c.add_listed.new.rows c.index_mut.result.now c.self.inside.places.entries c.self.invariant.0 c.self.invariant.1
      (sym (lookup-same c.args.row.name c.self.inside.places.entries) ∙ sym c.in-Some.ensures.value) (c.add_listed.ensures.rows ∙ ap (λ v. if is_ok c.add_listed.result then with_row c.args.row v.items else v.items) c.index_mut.ensures.value),
)

pub returns-in-Some-clause-rows : goal.returns-in-Some-clause-rows
returns-in-Some-clause-rows c =
    added-slot-rows (λ v. v.items) c.args.row (is_ok c.add_listed.result) c.in-Some.at.now c.self.inside.slots.items c.add_listed.new.rows c.index_mut.result.now c.self.inside.places.entries c.self.invariant.0 c.self.invariant.1
    (sym (lookup-same c.args.row.name c.self.inside.places.entries) ∙ sym c.in-Some.ensures.value) (c.add_listed.ensures.rows ∙ ap (λ v. if is_ok c.add_listed.result then with_row c.args.row v.items else v.items) c.index_mut.ensures.value)
    ∙ ap (λ ys. if is_ok c.add_listed.result then with_row_on c.args.row ys else ys) c.self.view_is

pub add_name-requires : goal.add_name-requires
add_name-requires c =
    ap (rows_on c.args.row.name) (sym c.self.view_is) ∙ place-none (λ v. v.items) c.args.row.name c.self.inside.slots.items c.self.inside.places.entries c.self.invariant.1 (sym (lookup-same c.args.row.name c.self.inside.places.entries) ∙ sym c.in-None.ensures.value)

pub returns-in-Some-clause-listed : goal.returns-in-Some-clause-listed
returns-in-Some-clause-listed c =
    subst (λ (rows : List Row). OnOk c.add_listed.result (list_any (is_row_of c.args.row.session c.args.row.duration) rows ≡ false → is_row_listed (λ v. v.items) c.add_listed.new.commits.entries c.add_listed.new.shorts.entries c.args.row ≡ true)) (sym (there (λ v. v.items) c.args.row.name c.in-Some.at.now c.self.inside.slots.items c.index_mut.result.now c.self.inside.places.entries c.args.self.now c.self.invariant.0 c.self.invariant.1
    (sym (lookup-same c.args.row.name c.self.inside.places.entries) ∙ sym c.in-Some.ensures.value) c.index_mut.ensures.value c.self.view_is)) c.add_listed.ensures.listed
