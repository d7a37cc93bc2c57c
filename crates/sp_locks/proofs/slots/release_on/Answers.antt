use Rattle.std.proofs.Common.{◌≡◌, ◌≢◌, [], length, rules, sym, ap, ◌∙◌, arith}
use Rattle.std.proofs.lemmas.List.{nil_from_length}
use Rattle.sp_locks.specs.Rows.{released_in}
use Rattle.sp_locks.proofs.Standing.{at-below, place-at, place-none, made-off, set-forgotten, release-slots, release-kept, release-rows}
use Rattle.sp_locks.proofs.Numbering.{lookup-same}
use Rattle.sp_locks.proofs.slots.release_on.Goals as goal

pub returns-in-None-clause-rows : goal.returns-in-None-clause-rows
returns-in-None-clause-rows c rest =
    made-off (λ v. v.items) c.args.scope c.args.session c.args.name rest c.args.slots.now.items
    (place-none (λ v. v.items) c.args.name c.args.slots.now.items c.args.places.now.entries c.requires.places (sym (lookup-same c.args.name c.args.places.now.entries) ∙ sym c.in-None.ensures.value))

pub index_mut-rows-requires : goal.index_mut-rows-requires
index_mut-rows-requires c =
    let h = at-below (λ v. v.items) c.args.name c.in-Some.at.now c.args.slots.now.items
    (place-at (λ v. v.items) c.args.name c.in-Some.at.now c.args.slots.now.items c.args.places.now.entries c.requires.places (sym (lookup-same c.args.name c.args.places.now.entries) ∙ sym c.in-Some.ensures.value)) in omega (arith, h)

pub returns-then-is_empty-clause-slots : goal.returns-then-is_empty-clause-slots
returns-then-is_empty-clause-slots c =
    release-slots (λ v. v.items) c.args.scope c.args.session c.args.name c.in-Some.at.now c.args.slots.now.items c.release.new.rows c.index_mut-rows.result.now c.args.places.now.entries c.requires.slots c.requires.places
    (sym (lookup-same c.args.name c.args.places.now.entries) ∙ sym c.in-Some.ensures.value) (c.release.ensures ∙ ap (λ v. released_in c.args.scope c.args.session v.items) c.index_mut-rows.ensures.value)

pub returns-then-is_empty-clause-places : goal.returns-then-is_empty-clause-places
returns-then-is_empty-clause-places c =
    let len : length c.release.new.rows.items ≡ 0 = search rules in
    let none : c.release.new.rows.items ≡ [] = nil_from_length c.release.new.rows.items len in
    set-forgotten (λ v. v.items) c.args.name c.in-Some.at.now c.args.slots.now.items c.release.new.rows c.args.places.now.entries c.forget_name.new.places.entries c.requires.slots
    (sym (lookup-same c.args.name c.args.places.now.entries) ∙ sym c.in-Some.ensures.value) c.requires.places none c.forget_name.ensures

pub returns-then-is_empty-clause-rows : goal.returns-then-is_empty-clause-rows
returns-then-is_empty-clause-rows c rest =
    release-rows (λ v. v.items) c.args.scope c.args.session c.args.name c.in-Some.at.now c.args.slots.now.items c.release.new.rows c.index_mut-rows.result.now c.args.places.now.entries c.requires.slots c.requires.places
    (sym (lookup-same c.args.name c.args.places.now.entries) ∙ sym c.in-Some.ensures.value) (c.release.ensures ∙ ap (λ v. released_in c.args.scope c.args.session v.items) c.index_mut-rows.ensures.value) rest

pub returns-else-is_empty-clause-slots : goal.returns-else-is_empty-clause-slots
returns-else-is_empty-clause-slots c =
    release-slots (λ v. v.items) c.args.scope c.args.session c.args.name c.in-Some.at.now c.args.slots.now.items c.release.new.rows c.index_mut-rows.result.now c.args.places.now.entries c.requires.slots c.requires.places
    (sym (lookup-same c.args.name c.args.places.now.entries) ∙ sym c.in-Some.ensures.value) (c.release.ensures ∙ ap (λ v. released_in c.args.scope c.args.session v.items) c.index_mut-rows.ensures.value)

pub returns-else-is_empty-clause-places : goal.returns-else-is_empty-clause-places
returns-else-is_empty-clause-places c =
    let some : c.release.new.rows.items ≢ [] = search rules in
    release-kept (λ v. v.items) c.args.scope c.args.session c.args.name c.in-Some.at.now c.args.slots.now.items c.release.new.rows c.index_mut-rows.result.now c.args.places.now.entries c.requires.slots c.requires.places
    (sym (lookup-same c.args.name c.args.places.now.entries) ∙ sym c.in-Some.ensures.value) (c.release.ensures ∙ ap (λ v. released_in c.args.scope c.args.session v.items) c.index_mut-rows.ensures.value) some

pub returns-else-is_empty-clause-rows : goal.returns-else-is_empty-clause-rows
returns-else-is_empty-clause-rows c rest =
    release-rows (λ v. v.items) c.args.scope c.args.session c.args.name c.in-Some.at.now c.args.slots.now.items c.release.new.rows c.index_mut-rows.result.now c.args.places.now.entries c.requires.slots c.requires.places
    (sym (lookup-same c.args.name c.args.places.now.entries) ∙ sym c.in-Some.ensures.value) (c.release.ensures ∙ ap (λ v. released_in c.args.scope c.args.session v.items) c.index_mut-rows.ensures.value) rest
