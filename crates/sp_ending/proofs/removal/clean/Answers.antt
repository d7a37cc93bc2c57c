use Rattle.std.proofs.Common.{◌∙◌, ◌≤◌, List, None, drop, length, ap, sym, subst, refl, inl, true≢false, arith}
use Rattle.sp_locks.specs.declared.needs.Need.{Need}
use Rattle.sp_node.specs.Among.{Among}
use Rattle.sp_node.specs.Plan.{planned}
use Rattle.sp_node.specs.Table.{Table, entries_of}
use Rattle.sp_granule.specs.Granules.{granules}
use Rattle.sp_model.specs.Stepped.{Does, AreUnopposed, IsPutOff}
use Rattle.sp_state.specs.Held.{kernel_of}
use Rattle.sp_ending.specs.Opposing.{IsGranule}
use Rattle.sp_ending.proofs.Removed.{leaf-there, need-granule, fewer-entries, fits-cleaned, taken_out, clean-full, clean-later, clean-done}
use Rattle.sp_ending.proofs.removal.clean.Goals as goal

pub returns-in_default-clause-done : goal.returns-in_default-clause-done
returns-in_default-clause-done c = Does.CleansNothing c.in_default.ensures

pub remove-requires-clause-there : goal.remove-requires-clause-there
remove-requires-clause-there c =
    let s = c.args.state.now in
    leaf-there s.tree.table s.dead.items c.in-Some.number c.requires.sound.valid c.requires.sound.dead (subst (Among c.in-Some.number) (sym c.in-Some.ensures) (inl refl))

pub returns-then-passes_numbers-clause-done : goal.returns-then-passes_numbers-clause-done
returns-then-passes_numbers-clause-done c =
    let s = c.args.state.now in
    let t' = planned s.tree.table c.in_ok-plan.plan in
    let out = taken_out s.tree.table c.in-Some.number t' c.in_ok-plan.ensures.removed c.in_ok-plan.ensures.keeps in
    let past = c.passes_numbers.ensures.0 c.if-passes_numbers.true in
    clean-full (kernel_of s) c.in-Some.number (drop 1 s.dead.items) t' c.in-Some.ensures out past.0 past.1

pub first_opposed-requires : goal.first_opposed-requires
first_opposed-requires c =
    let s = c.args.state.now in
    subst (λ (ns : List Need). (need : Need) → Among need ns → IsGranule need.name) (sym c.as_slice.ensures)
    (need-granule (granules s.tree.table) (granules (planned s.tree.table c.in_ok-plan.plan)) None c.in_ok-needs.needs c.in_ok-needs.ensures)

pub returns-in-Some-first_opposed-clause-done : goal.returns-in-Some-first_opposed-clause-done
returns-in-Some-first_opposed-clause-done c =
    let s = c.args.state.now in
    let t' = planned s.tree.table c.in_ok-plan.plan in
    let out = taken_out s.tree.table c.in-Some.number t' c.in_ok-plan.ensures.removed c.in_ok-plan.ensures.keeps in
    let found = c.in-Some-first_opposed.found in
    clean-later (kernel_of s) c.in-Some.number (drop 1 s.dead.items) t' c.in-Some.ensures out c.in_ok-needs.needs c.in_ok-needs.ensures
    (λ high more. true≢false (sym (c.passes_numbers.ensures.1 (high, more)) ∙ c.if-passes_numbers.false))
    c.put_off.new.dead.items found.granule found.holder found.mode
    (subst (λ (ns : List Need). IsPutOff s.locks ns found.granule found.holder found.mode) c.as_slice.ensures c.in-Some-first_opposed.ensures)
    (c.put_off.ensures.items c.in-Some.number (drop 1 s.dead.items) c.in-Some.ensures)

pub returns-clause-done : goal.returns-clause-done
returns-clause-done c =
    let s = c.args.state.now in
    let t' = planned s.tree.table c.in_ok-plan.plan in
    let out = taken_out s.tree.table c.in-Some.number t' c.in_ok-plan.ensures.removed c.in_ok-plan.ensures.keeps in
    clean-done (kernel_of s) c.in-Some.number (drop 1 s.dead.items) t' c.in-Some.ensures out c.in_ok-needs.needs c.in_ok-needs.ensures
    (λ high more. true≢false (sym (c.passes_numbers.ensures.1 (high, more)) ∙ c.if-passes_numbers.false))
    c.adopt.new.self.table c.pop_front-first.new.self.items
    (subst (λ (ns : List Need). AreUnopposed s.locks ns) c.as_slice.ensures c.in_default-first_opposed.ensures)
    (c.adopt.ensures ∙ ap (λ (t : Table). planned t c.in_ok-plan.plan) c.make_room.ensures.table)
    c.pop_front-first.ensures.rest

pub returns-clause-fits : goal.returns-clause-fits
returns-clause-fits c =
    let s = c.args.state.now in
    let t' = planned s.tree.table c.in_ok-plan.plan in
    let is = c.adopt.ensures ∙ ap (λ (t : Table). planned t c.in_ok-plan.plan) c.make_room.ensures.table in
    let few = fewer-entries s.tree.table t' c.in-Some.number c.in_ok-plan.ensures.left in
    fits-cleaned s _ c.requires.fits refl refl refl refl
    (subst (λ (t : Table). length (entries_of t) ≤ length (entries_of s.tree.table)) (sym is) few)
    (let e = c.pop_front-first.ensures.capacity in omega (arith, e))
    tt
