use Rattle.std.proofs.Common.{◌↔◌, ℕ, List, refl, sym, subst, ap, ◌∙◌, ◌++◌, ◌∷◌, [], arith}
use Rattle.std.specs.List.Sorted.{IsStrictlyIncreasing}
use Rattle.std.proofs.lemmas.List.{nil_from_length}
use Rattle.sp_node.specs.Among.{Among}
use Rattle.sp_granule.specs.declared.meeting.Waiting.{Waiting}
use Rattle.sp_granule.specs.Granules.{granules, IsMeeting}
use Rattle.sp_granule.proofs.Turn.{walks_start, turn, finished_exact, finished_ascends}
use Rattle.sp_granule.proofs.meeting.granules_meeting_in.Goals as goal

pub looking-init : goal.looking-init
looking-init c =
    walks_start c.args.overlay.now c.args.rect.now c.push.new.self.items c.new-found.result.items (record { node = c.root.result; part = c.args.rect.now }) c.root.ensures.valid c.x1-left.ensures.valid c.root.ensures.value refl
    (c.in_ok-push.ensures.items ∙ ap (λ (ws : List Waiting). ws ++ (record { node = c.root.result; part = c.args.rect.now }) ∷ []) c.new-pending.ensures.items) c.new-found.ensures.items

pub looking-smaller : goal.looking-smaller
looking-smaller c =
    (turn c.args.overlay.now c.args.rect.now c.looking.pending.items c.pop.new.self.items c.visit.new.pending.items c.in-Some.waiting c.looking.found.items c.visit.new.found.items c.looking.invariant c.in-Some.ensures.items c.in_ok-visit.ensures).less

pub looking-preserved : goal.looking-preserved
looking-preserved c =
    (turn c.args.overlay.now c.args.rect.now c.looking.pending.items c.pop.new.self.items c.visit.new.pending.items c.in-Some.waiting c.looking.found.items c.visit.new.found.items c.looking.invariant c.in-Some.ensures.items c.in_ok-visit.ensures).walks

pub returns-clause-exact : goal.returns-clause-exact
returns-clause-exact c =
    subst (λ (xs : List ℕ). (n : ℕ) → Among n xs ↔ IsMeeting (granules c.args.overlay.now) c.args.rect.now n) (sym c.from_vec.ensures)
    (finished_exact c.args.overlay.now c.args.rect.now c.looking.pending.items c.looking.found.items c.sort.new.self.items c.looking.invariant (nil_from_length c.looking.pending.items (omega (arith, c.looking.pending.ok.0, c.in_default.ensures.cases.0))) c.in_ok-sort.ensures.permutation)

pub returns-clause-ascending : goal.returns-clause-ascending
returns-clause-ascending c =
    subst IsStrictlyIncreasing (sym c.from_vec.ensures)
    (finished_ascends c.args.overlay.now c.args.rect.now c.looking.pending.items c.looking.found.items c.sort.new.self.items c.root.ensures.valid c.looking.invariant (nil_from_length c.looking.pending.items (omega (arith, c.looking.pending.ok.0, c.in_default.ensures.cases.0))) c.in_ok-sort.ensures.permutation c.in_ok-sort.ensures.sorted)
