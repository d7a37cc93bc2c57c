use Rattle.std.proofs.Common.{◌≡◌, ℕ, ◌↔◌, List, ◌++◌, map, ◌∙◌, sym, ap, subst}
use Rattle.std.specs.List.{list_any, flat_map}
use Rattle.std.specs.Option.{option_to_list}
use Rattle.sp_rect.specs.Plane.{Rectangle}
use Rattle.sp_locks.specs.declared.needs.Need.{Need}
use Rattle.sp_locks.specs.declared.row.Duration.TheVariants.{Short}
use Rattle.sp_node.specs.declared.plan.Part.{Part}
use Rattle.sp_node.specs.Among.{Among}
use Rattle.sp_node.specs.Plan.{planned}
use Rattle.sp_granule.specs.Granules.{granules}
use Rattle.sp_protection.specs.Needs.{ShortWant, AreNeedsOf}
use Rattle.sp_needs.specs.Affected.{IsLost, AreThose, leaf_has, gains, left_by_part, HasLeftOfAny, need_on}
use Rattle.sp_needs.proofs.Outcome.{if_ok}
use Rattle.sp_needs.proofs.Whole.{Computed, needs_are}
use Rattle.sp_needs.proofs.needs.short_needs.Goals as goal

pub returns : goal.returns
returns c =
    let t = c.args.tree.now.table in
    let plan = c.args.plan.now in
    let gs = granules t in
    let gs' = granules (planned t plan) in
    let numbers = c.in_ok-numbers.numbers.items in
    let lost = c.in_ok-lost.lost.items in
    let givers = c.in_ok-givers-2.givers.items in
    let reached = c.in_ok-reached.reached.items in
    let all = c.in_ok-all.all.items in
    let parting : c.in_ok-parting.parting.items ≡ lost ++ givers =
    c.in_ok-parting.ensures ∙ ap (λ (xs : List ℕ). xs ++ c.deref-3.result.now) c.deref-2.ensures.value ∙ ap (λ (xs : List ℕ). lost ++ xs) c.deref-3.ensures.value in
    let locked : c.deref-5.result.now ≡ lost ++ givers = c.deref-5.ensures.value ∙ parting in
    let union : c.in_ok-joined.field-0.items ≡ (lost ++ givers) ++ reached =
    c.in_ok-joined.ensures ∙ ap (λ (xs : List ℕ). xs ++ c.deref-7.result.now) (c.deref-6.ensures.value ∙ parting) ∙ ap (λ (xs : List ℕ). (lost ++ givers) ++ xs) c.deref-7.ensures.value in
    let gave : c.in_ok-givers.field-0.items ≡ flat_map (left_by_part t.nodes) plan.parts = c.in_ok-givers.ensures ∙ ap (λ (ps : List Part). flat_map (left_by_part t.nodes) ps) c.as_slice.ensures in
    let computed : Computed t plan c.args.chosen numbers lost givers reached all = record {
      sources = c.in_ok-sources.sources;
      gained = c.in_ok-gains.gains;
      differ = c.in_ok-numbers.ensures.differ;
      are_lost = subst (λ (ns : List ℕ). AreThose (IsLost gs gs') ns lost) c.deref.ensures.value c.in_ok-lost.ensures;
      are_givers = λ n. subst (λ (xs : List ℕ). Among n givers ↔ Among n xs) gave (c.in_ok-givers-2.ensures.same n);
      are_sources = λ gain among p. c.in_ok-sources.ensures gain (subst (Among gain) (sym c.as_slice-2.ensures) among) p ∙ ap (λ (xs : List ℕ). list_any (leaf_has gs p) (xs ++ option_to_list c.args.chosen)) locked;
      are_gained = λ p. c.in_ok-gains.ensures p ∙ ap (list_any (gains gs gs' p)) c.deref-4.ensures.value;
      are_reached = λ n. subst (λ (rs : List Rectangle). Among n reached ↔ HasLeftOfAny gs c.in_ok-sources.sources rs n) c.as_slice-3.ensures (c.in_ok-reached.ensures n);
      are_all = λ n. subst (λ (xs : List ℕ). Among n all ↔ Among n xs) union (c.in_ok-all.ensures.same n);
      rising = c.in_ok-all.ensures.rising;
    } in
    if_ok {P = λ (needs : List Need). needs ≡ map (need_on c.deref-8.result.now) c.deref-9.result.now} {Q = AreNeedsOf (ShortWant gs gs' c.args.chosen) Short} c.needs_on.result
    (λ needs e. subst (AreNeedsOf (ShortWant gs gs' c.args.chosen) Short) (sym (e ∙ ap (λ (xs : List ℕ). map (need_on xs) c.deref-9.result.now) c.deref-8.ensures.value ∙ ap (λ (xs : List ℕ). map (need_on givers) xs) c.deref-9.ensures.value))
    (needs_are t c.differing.ensures.valid plan c.requires c.args.chosen numbers lost givers reached all computed))
    c.needs_on.ensures
