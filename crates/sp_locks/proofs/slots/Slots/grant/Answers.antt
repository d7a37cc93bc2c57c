use Rattle.std.proofs.Common.{◌≡◌, List, true, false, subst, if◌then◌else◌, sym, ap, ◌∙◌, arith}
use Rattle.std.specs.Prelude.{IfOk}
use Rattle.std.specs.List.{list_any}
use Rattle.sp_locks.specs.declared.row.Row.{Row}
use Rattle.sp_locks.specs.Answers.{is_yes}
use Rattle.sp_locks.specs.Table.{rows_on, with_row_on}
use Rattle.sp_locks.specs.Rows.{is_row_of, is_open, with_row}
use Rattle.sp_locks.specs.Lists.{is_row_listed}
use Rattle.sp_locks.proofs.Standing.{at-below, there, place-at, place-none, added-slots, added-places, added-slot-rows}
use Rattle.sp_locks.proofs.Numbering.{lookup-same}
use Rattle.sp_locks.proofs.slots.Slots.grant.Goals as goal

pub index_mut-requires : goal.index_mut-requires
index_mut-requires c =
    let h = at-below (λ v. v.items) c.args.lock.name c.in-Some.at.now c.self.inside.slots.items
    (place-at (λ v. v.items) c.args.lock.name c.in-Some.at.now c.self.inside.slots.items c.self.inside.places.entries c.self.invariant.1 (sym (lookup-same c.args.lock.name c.self.inside.places.entries) ∙ sym c.in-Some.ensures.value)) in omega (arith, h)

pub invariant_of-self : goal.invariant_of-self
invariant_of-self c = (
  added-slots (λ v. v.items) c.args.lock (is_yes c.grant_listed.result) c.in-Some.at.now c.self.inside.slots.items c.grant_listed.new.rows c.index_mut.result.now c.self.inside.places.entries c.self.invariant.0 c.self.invariant.1
      (sym (lookup-same c.args.lock.name c.self.inside.places.entries) ∙ sym c.in-Some.ensures.value) (c.grant_listed.ensures.rows ∙ ap (λ v. if is_yes c.grant_listed.result then with_row c.args.lock v.items else v.items) c.index_mut.ensures.value),
  added-places (λ v. v.items) c.args.lock (is_yes c.grant_listed.result) c.in-Some.at.now c.self.inside.slots.items c.grant_listed.new.rows c.index_mut.result.now c.self.inside.places.entries c.self.invariant.0 c.self.invariant.1
      (sym (lookup-same c.args.lock.name c.self.inside.places.entries) ∙ sym c.in-Some.ensures.value) (c.grant_listed.ensures.rows ∙ ap (λ v. if is_yes c.grant_listed.result then with_row c.args.lock v.items else v.items) c.index_mut.ensures.value),
)

pub returns-in-Some-clause-rows : goal.returns-in-Some-clause-rows
returns-in-Some-clause-rows c =
    added-slot-rows (λ v. v.items) c.args.lock (is_yes c.grant_listed.result) c.in-Some.at.now c.self.inside.slots.items c.grant_listed.new.rows c.index_mut.result.now c.self.inside.places.entries c.self.invariant.0 c.self.invariant.1
    (sym (lookup-same c.args.lock.name c.self.inside.places.entries) ∙ sym c.in-Some.ensures.value) (c.grant_listed.ensures.rows ∙ ap (λ v. if is_yes c.grant_listed.result then with_row c.args.lock v.items else v.items) c.index_mut.ensures.value)
    ∙ ap (λ ys. if is_yes c.grant_listed.result then with_row_on c.args.lock ys else ys) c.self.view_is

pub add_name-requires : goal.add_name-requires
add_name-requires c =
    ap (rows_on c.args.lock.name) (sym c.self.view_is) ∙ place-none (λ v. v.items) c.args.lock.name c.self.inside.slots.items c.self.inside.places.entries c.self.invariant.1 (sym (lookup-same c.args.lock.name c.self.inside.places.entries) ∙ sym c.in-None.ensures.value)

pub returns-in-Some-clause-listed : goal.returns-in-Some-clause-listed
returns-in-Some-clause-listed c =
    subst (λ (rows : List Row). is_yes c.grant_listed.result ≡ true → list_any (is_row_of c.args.lock.session c.args.lock.duration) rows ≡ false → is_row_listed (λ v. v.items) c.grant_listed.new.commits.entries c.grant_listed.new.shorts.entries c.args.lock ≡ true) (sym (there (λ v. v.items) c.args.lock.name c.in-Some.at.now c.self.inside.slots.items c.index_mut.result.now c.self.inside.places.entries c.args.self.now c.self.invariant.0 c.self.invariant.1
    (sym (lookup-same c.args.lock.name c.self.inside.places.entries) ∙ sym c.in-Some.ensures.value) c.index_mut.ensures.value c.self.view_is)) c.grant_listed.ensures.listed

pub returns-in-Some-clause-answer : goal.returns-in-Some-clause-answer
returns-in-Some-clause-answer c =
    subst (λ (rows : List Row). IfOk c.grant_listed.result (λ granted. granted ≡ is_open c.args.lock.session c.args.lock.mode rows)) (sym (there (λ v. v.items) c.args.lock.name c.in-Some.at.now c.self.inside.slots.items c.index_mut.result.now c.self.inside.places.entries c.args.self.now c.self.invariant.0 c.self.invariant.1
    (sym (lookup-same c.args.lock.name c.self.inside.places.entries) ∙ sym c.in-Some.ensures.value) c.index_mut.ensures.value c.self.view_is)) c.grant_listed.ensures.answer

pub returns-in_ok-add_name-in-None-clause-answer : goal.returns-in_ok-add_name-in-None-clause-answer
returns-in_ok-add_name-in-None-clause-answer c =
    ap (is_open c.args.lock.session c.args.lock.mode) (sym (ap (rows_on c.args.lock.name) (sym c.self.view_is)
    ∙ place-none (λ v. v.items) c.args.lock.name c.self.inside.slots.items c.self.inside.places.entries c.self.invariant.1 (sym (lookup-same c.args.lock.name c.self.inside.places.entries) ∙ sym c.in-None.ensures.value)))
