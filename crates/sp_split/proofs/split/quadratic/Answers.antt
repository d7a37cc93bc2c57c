use Rattle.std.proofs.Common.{get_or, List, Bool, true, sym, subst, ap, ◌∙◌}
use Rattle.std.specs.List.Sorted.{IsPermutation, IsStrictlyIncreasing}
use Rattle.sp_split.specs.Split.{Goes}
use Rattle.sp_split.proofs.Forming.{place_first, place_second, all_placed, distinct, start, ascends}
use Rattle.sp_split.proofs.split.quadratic.Goals as goal
use Rattle.sp_split.proofs.split.quadratic.Goals.{then-choice+in_ok-add, else-choice+in_ok-add-2}

pub place-init : goal.place-init
place-init c = start c.args.rects.now c.args.min c.seeds-i.result.0 c.seeds-i.result.1 c.seeds-i.ensures _ _ _ _ _ c.in_ok-first.ensures.members c.in_ok-second.ensures.members c.in_ok-first.ensures.bound c.in_ok-second.ensures.bound (c.in_ok-placed.ensures.items_if_clones_equal (λ y e. e))

pub place-preserved : goal.place-preserved
place-preserved c =
    let rects = c.args.rects.now in
    let first = c.place.first.members.items in
    let second = c.place.second.members.items in
    let p = c.in-Some.choice.position in
    let e = c.in-Some.ensures in
    let flag = ap (λ (fs : List Bool). get_or fs p true) (sym c.deref.ensures.value) ∙ e.1 in
    elim c.if-choice.branch [
      | then-choice+in_ok-add w ↦
          rw (w.first-is, w.second-is, w.in_ok-add.ensures.members, w.in_ok-add.ensures.bound)
          (place_first rects c.args.min first second c.place.first.bound c.place.second.bound c.place.placed.items c.place.remaining c.place.invariant p e.0 flag (subst (Goes rects c.args.min first second p) w.if-choice.true e.2))
      | else-choice+in_ok-add-2 w ↦
          rw (w.first-is, w.second-is, w.in_ok-add-2.ensures.members, w.in_ok-add-2.ensures.bound)
          (place_second rects c.args.min first second c.place.first.bound c.place.second.bound c.place.placed.items c.place.remaining c.place.invariant p e.0 flag (subst (Goes rects c.args.min first second p) w.if-choice.false e.2))
    ]

pub returns : goal.returns
returns c =
    let rects = c.args.rects.now in
    let first = c.place.first.members.items in
    let second = c.place.second.members.items in
    let d = distinct rects c.args.min first second c.place.invariant.formed in
    record {
      in_order = first;
      in_order' = second;
      formed = c.place.invariant.formed;
      all = all_placed rects c.args.min first second c.place.first.bound c.place.second.bound c.place.placed.items c.place.remaining c.place.invariant (λ k lt. ap (λ (fs : List Bool). get_or fs k true) (sym c.deref.ensures.value) ∙ c.in_default.ensures k lt);
      same = subst (IsPermutation first) (sym c.from_vec.ensures) c.sort.ensures.permutation;
      same' = subst (IsPermutation second) (sym c.from_vec-2.ensures) c.sort-2.ensures.permutation;
      ascending = subst IsStrictlyIncreasing (sym c.from_vec.ensures) (ascends first c.sort.new.self.items d.0 c.sort.ensures.permutation c.in_ok-sort.ensures.sorted);
      ascending' = subst IsStrictlyIncreasing (sym c.from_vec-2.ensures) (ascends second c.sort-2.new.self.items d.1 c.sort-2.ensures.permutation c.in_ok-sort-2.ensures.sorted);
    }
