use Rattle.std.proofs.Common.{◌≡◌, ℕ, ℤ, List, FitsSigned, to_z, of_z, ◌<◌, length, arith, true, false, ap, ◌∙◌, get_or, rules}
use mir.Syntax.{w128}
use Rattle.std.proofs.lemmas.Int.{to_z-of_z}
use Rattle.std.proofs.lemmas.List.{get_or_read}
use Rattle.sp_rect.specs.Plane.{Rectangle, growth, whole}
use Rattle.sp_split.specs.Split.{apart, preference}
use Rattle.sp_split.proofs.Flags.{same_default}
use Rattle.sp_split.proofs.Next.{best_start, best_passed, best_kept, best_new}
use Rattle.sp_split.proofs.Wide.{compared, yes, no}
use Rattle.sp_split.proofs.pick.pick_next.Goals as goal
use Rattle.sp_split.proofs.pick.pick_next.Goals.{then-not-placed-i+then-difference-most, then-not-placed-i+else-difference-most, else-not-placed-i}

-- the difference that was read at a position is the preference there
read : (rects : List Rectangle) (a b : Rectangle) (i : ℕ) (r : Rectangle) (d : ℤ) → FitsSigned w128 d → i < length rects → r ≡ get_or rects i r → d ≡ apart (growth a r) (growth b r) → to_z w128 (of_z w128 d) ≡ preference rects a b i
read rects a b i r d f lt is e =
    let of : Rectangle → ℤ = λ r. apart (growth a r) (growth b r) in
    to_z-of_z w128 d f ∙ e ∙ ap of (get_or_read rects i r lt is whole)

pub loop-i-init : goal.loop-i-init
loop-i-init c = (
  best_start c.args.rects.now c.args.first.now c.args.second.now c.args.placed.now c.args.lowest c.requires.within c.requires.free c.requires.before,
  read c.args.rects.now c.args.first.now c.args.second.now c.args.lowest c.index-rects-lowest.result c.difference-most.result (search rules) c.requires.within c.index-rects-lowest.is c.difference-most.ensures,
)

pub loop-i-preserved : goal.loop-i-preserved
loop-i-preserved c =
    let within : c.loop-i.i < length c.args.placed.now = omega (arith, c.requires.same) in
    let inside : c.loop-i.i < length c.args.rects.now = omega arith in
    let same = same_default c.args.placed.now c.loop-i.i true false within in
    let xs = c.args.rects.now in
    let a = c.args.first.now in
    let b = c.args.second.now in
    let h = c.loop-i.invariant in
    elim c.if-not-placed-i.branch [
      | then-not-placed-i+then-difference-most w ↦
          let d = read xs a b c.loop-i.i w.index-rects-i.result w.difference-difference.result (search rules) inside w.index-rects-i.is w.difference-difference.ensures in
          rw w.best-is (best_new xs a b c.args.placed.now c.loop-i.i c.loop-i.best h.0 inside (same ∙ w.if-not-placed-i.true) (yes _ _ _ w.if-difference-most.true (compared _ _ _ _ h.1 d)), w.most-is ∙ d)
      | then-not-placed-i+else-difference-most w ↦
          let d = read xs a b c.loop-i.i w.index-rects-i.result w.difference-difference.result (search rules) inside w.index-rects-i.is w.difference-difference.ensures in
          rw w.best-is (best_kept xs a b c.args.placed.now c.loop-i.i c.loop-i.best h.0 (no _ _ _ w.if-difference-most.false (compared _ _ _ _ h.1 d)), w.most-is ∙ h.1)
      | else-not-placed-i w ↦ rw w.best-is (best_passed xs a b c.args.placed.now c.loop-i.i c.loop-i.best h.0 (same ∙ w.if-not-placed-i.false), w.most-is ∙ h.1)
    ]
