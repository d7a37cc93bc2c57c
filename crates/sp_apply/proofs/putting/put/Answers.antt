use Rattle.std.proofs.Common.{◌≤◌, ◌<◌, ◌⊎◌, ℕ, ap, ◌∙◌, subst, arith}
use Rattle.sp_rect.specs.declared.operation.Op.TheVariants.{Put}
use Rattle.sp_node.specs.declared.node.Entry.{Entry}
use Rattle.sp_node.specs.Index.{leaf_with}
use Rattle.sp_node.specs.Plan.{planned}
use Rattle.sp_protection.specs.Effects.{fresh}
use Rattle.sp_model.specs.declared.session.Session.{Session}
use Rattle.sp_model.specs.Plans.{IsInserted}
use Rattle.sp_model.specs.Refusals.{first_unused}
use Rattle.sp_state.specs.Held.{kernel_of}
use Rattle.sp_apply.proofs.Overs.{full_of_entries}
use Rattle.sp_apply.proofs.Puts.{next_free, full_of_numbers}
use Rattle.sp_apply.proofs.Ready.{stands_within, seat_is, op_here}
use Rattle.sp_apply.proofs.putting.put.Goals as goal

pub returns-then-len-ge-MOST_ENTRIES-clause-done : goal.returns-then-len-ge-MOST_ENTRIES-clause-done
returns-then-len-ge-MOST_ENTRIES-clause-done c =
    let k = kernel_of c.args.state.now in
    let x = c.requires.ready.0 in
    let op = Put c.requires.ready.1 in
    let ready = c.requires.ready.2 in
    let all = c.len.ensures in
    full_of_entries k c.args.session c.args.at x op ready (kernel_of c.end.new.state) c.requires.ready.3 (let most = c.if-len-ge-MOST_ENTRIES.true in omega (arith, most, all)) (c.end.ensures.over x op ready)

pub index-requires : goal.index-requires
index-requires c =
    let within = stands_within c.args.state.now.seats.items c.args.at c.requires.ready.0 c.requires.ready.2.stands in
    omega (arith, within, c.args.state.now.seats.ok.0)

pub fresh_entry-requires : goal.fresh_entry-requires
fresh_entry-requires c =
    let x = c.requires.ready.0 in
    let r = c.requires.ready.1 in
    let ready = c.requires.ready.2 in
    (r, op_here x c.index.result.now (Put r) (seat_is c.args.state.now.seats.items c.args.at x c.index.result.now c.index.ensures ready.stands) ready.planned)

pub plan_of-requires-clause-fresh : goal.plan_of-requires-clause-fresh
plan_of-requires-clause-fresh c =
    let k = kernel_of c.args.state.now in
    let x = c.requires.ready.0 in
    let r = c.requires.ready.1 in
    let ready = c.requires.ready.2 in
    let same = seat_is k.sessions c.args.at x c.index.result.now c.index.ensures ready.stands in
    let is = c.in_ok-entry.ensures r (op_here x c.index.result.now (Put r) same ready.planned) in
    ap (λ (e : Entry). leaf_with k.tree.nodes e.number) is ∙ next_free k c.requires.sound

pub returns-then-passes_numbers-clause-done : goal.returns-then-passes_numbers-clause-done
returns-then-passes_numbers-clause-done c =
    let k = kernel_of c.args.state.now in
    let x = c.requires.ready.0 in
    let r = c.requires.ready.1 in
    let ready = c.requires.ready.2 in
    let same = seat_is k.sessions c.args.at x c.index.result.now c.index.ensures ready.stands in
    let is = c.in_ok-entry.ensures r (op_here x c.index.result.now (Put r) same ready.planned) ∙ ap (λ (z : Session). fresh z.txn.number k.next_entry r) same in
    let plan = c.in_ok-plan.plan in
    let after = planned k.tree plan in
    let all = c.len.ensures in
    let few = c.if-len-ge-MOST_ENTRIES.false in
    full_of_numbers k c.args.session c.args.at x r after (kernel_of c.end-then-passes_numbers.new.state) ready c.requires.ready.3 (λ most. absurd (omega (arith, most, few, all)))
    (subst (λ (e : Entry). IsInserted k.tree e after) is c.in_ok-plan.ensures.inserted)
    (subst (λ (n : ℕ). (first_unused ≤ k.next_entry) ⊎ ((first_unused ≤ n) × (n < plan.next))) c.next.ensures.value c.if-passes_numbers.ensures)
    (c.end-then-passes_numbers.ensures.over x (Put r) ready)

pub insert-requires-clause-going : goal.insert-requires-clause-going
insert-requires-clause-going c =
    let k = kernel_of c.args.state.now in
    let x = c.requires.ready.0 in
    let r = c.requires.ready.1 in
    let ready = c.requires.ready.2 in
    let same = seat_is k.sessions c.args.at x c.index.result.now c.index.ensures ready.stands in
    let is = c.in_ok-entry.ensures r (op_here x c.index.result.now (Put r) same ready.planned) ∙ ap (λ (z : Session). fresh z.txn.number k.next_entry r) same in
    let plan = c.in_ok-plan.plan in
    let after = planned k.tree plan in
    let all = c.len.ensures in
    let few = c.if-len-ge-MOST_ENTRIES.false in (
      x,
      r,
      ready,
      record {
        adding = c.requires.ready.3;
        entries = λ most. absurd (omega (arith, most, few, all));
        made = c.in_ok-plan.ensures.made;
        inserted = subst (λ (e : Entry). IsInserted k.tree e after) is c.in_ok-plan.ensures.inserted;
        numbers = subst (λ (n : ℕ). (first_unused ≤ k.next_entry) ⊎ ((first_unused ≤ n) × (n < plan.next)) → ⊥) c.next.ensures.value c.if-passes_numbers.ensures;
      },
    )
