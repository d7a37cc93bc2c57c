use Rattle.std.proofs.Common.{◌≡◌, ◌<◌, ◌≤◌, ◌+◌, ◌∷◌, [], ℕ, suc, zero, List, length, drop, get_or, drop-cons, refl, sym, ap, ◌∙◌, subst, arith}
use Rattle.sp_condense.specs.declared.orphans.Orphan.{Orphan as Found}
use Rattle.sp_condense.specs.Staging.{Ready, Goes}
use Rattle.sp_condense.proofs.Stages.{goes_along, goes_nowhere}
use Rattle.sp_condense.proofs.orphans.insert_all.Goals as goal

at_item : (fs : List Found) (i : ℕ) (f : Found) → i < length fs → f ≡ get_or fs i f → drop i fs ≡ f ∷ drop (i + 1) fs
at_item fs i f lt is = let s : suc i ≡ i + 1 = omega arith in drop-cons fs i f lt ∙ ap (λ (n : ℕ). get_or fs i f ∷ drop n fs) s ∙ ap (λ (g : Found). g ∷ drop (i + 1) fs) (sym is)

all_dropped : (fs : List Found) (i : ℕ) → length fs ≤ i → drop i fs ≡ []
all_dropped [] zero le = refl
all_dropped [] (suc i) le = refl
all_dropped (f ∷ fs) zero le = absurd (omega arith)
all_dropped (f ∷ fs) (suc i) le = all_dropped fs i (omega arith)

pub loop-orphan-init : goal.loop-orphan-init
loop-orphan-init c = λ e r. goes_nowhere e c.args.tree.now c.args.orphans.now 0 r

pub insert_one-requires : goal.insert_one-requires
insert_one-requires c =
    let fs : List Found = c.args.orphans.now in
    let i : ℕ = c.loop-orphan.orphan-index in
    let g = c.loop-orphan.invariant c.requires.0 c.requires.1 in
    let is : drop c.loop-orphan.orphan-index c.args.orphans.now ≡ c.orphan-item.result ∷ drop (c.loop-orphan.orphan-index + 1) c.args.orphans.now = at_item fs i c.orphan-item.result c.loop-orphan-test.true c.orphan-item.is in
    (c.requires.0, drop (i + 1) fs, subst (λ (gs : List Found). Ready c.requires.0 c.loop-orphan.tree gs c.loop-orphan.raised) is g.then)

pub loop-orphan-preserved : goal.loop-orphan-preserved
loop-orphan-preserved c =
    let fs : List Found = c.args.orphans.now in
    let i : ℕ = c.loop-orphan.orphan-index in
    let is : drop c.loop-orphan.orphan-index c.args.orphans.now ≡ c.orphan-item.result ∷ drop (c.loop-orphan.orphan-index + 1) c.args.orphans.now = at_item fs i c.orphan-item.result c.loop-orphan-test.true c.orphan-item.is in
    λ e r.
    let g = subst (λ (gs : List Found). Goes e c.args.tree.now c.loop-orphan.tree fs gs 0 c.loop-orphan.raised r) is (c.loop-orphan.invariant e r) in
    goes_along e c.args.tree.now c.loop-orphan.tree c.insert_one.new.tree fs (c.orphan-item.result ∷ drop (i + 1) fs) (drop (i + 1) fs) 0 c.loop-orphan.raised c.in_ok-raised.raised r g (c.in_ok-raised.ensures e (drop (i + 1) fs) g.then)

pub returns : goal.returns
returns c = λ e r. (c.loop-orphan.raised, subst (λ (gs : List Found). Goes e c.args.tree.now c.loop-orphan.tree c.args.orphans.now gs 0 c.loop-orphan.raised r) (all_dropped c.args.orphans.now c.loop-orphan.orphan-index c.loop-orphan-test.false) (c.loop-orphan.invariant e r))
