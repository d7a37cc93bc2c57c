-- The children that a rectangle meets, each with its part, from the last one to the first.
use Rattle.std.proofs.Common.{◌≡◌, ℕ, ◌+◌, ◌-◌, ◌<◌, ◌≤◌, Bool, true, cond, List, [], ◌∷◌, ◌++◌, reverse, drop, length, get_or, sym, ap, subst, ◌∙◌, arith}
use Rattle.std.specs.List.{filter}
use Rattle.std.proofs.lemmas.List.{drop_more, reverse-append, append_assoc}
use Rattle.sp_rect.specs.Plane.{Rectangle, meets}
use Rattle.sp_node.specs.declared.node.Child.{Child}
use Rattle.sp_granule.specs.declared.meeting.Waiting.{Waiting}
use Rattle.sp_granule.specs.Visit.{IsPart, AreParts, AreAdded}

module _ (q : Rectangle) (children : List Child) (i : ℕ) (c : Child) (positive : 0 < i) (within : i ≤ length children) (is : c ≡ get_or children (i - 1) c) where
  one_more : drop (i - 1) children ≡ c ∷ drop i children
  one_more =
      let back : i - 1 + 1 ≡ i = omega arith in
      drop_more children (i - 1) c (omega arith) ∙ ap (λ (d : Child). d ∷ drop (i - 1 + 1) children) (sym is) ∙ ap (λ (n : ℕ). c ∷ drop n children) back

  met : meets c.rect q ≡ true → filter (λ x. meets x.rect q) (drop (i - 1) children) ≡ c ∷ filter (λ x. meets x.rect q) (drop i children)
  met m = ap (λ (cs : List Child). filter (λ x. meets x.rect q) cs) one_more ∙ ap (λ (b : Bool). cond b (c ∷ filter (λ x. meets x.rect q) (drop i children)) (filter (λ x. meets x.rect q) (drop i children))) m

  pub push_part : (old now new : List Waiting) (w : Waiting) → AreAdded q (drop i children) old now → IsPart q c w → meets c.rect q ≡ true → new ≡ now ++ w ∷ [] → AreAdded q (drop (i - 1) children) old new
  push_part old now new w a part m e = record {
    parts = w ∷ a.parts;
    added = e ∙ ap (λ (xs : List Waiting). xs ++ w ∷ []) a.added ∙ append_assoc old (reverse a.parts) (w ∷ []) ∙ ap (λ (xs : List Waiting). old ++ xs) (sym (reverse-append (w ∷ []) a.parts));
    are_parts = subst (λ (cs : List Child). AreParts q cs (w ∷ a.parts)) (sym (met m)) (part, a.are_parts);
  }
