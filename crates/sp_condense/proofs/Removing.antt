-- What a removal makes of a sound node, and of the entries.
use Rattle.std.proofs.Common.{◌≡◌, ℕ, zero, suc, ◌+◌, ◌*◌, ◌<◌, ◌≤◌, ◌⊎◌, inl, inr, List, [], ◌∷◌, ◌++◌, length, Some, refl, sym, ap, ◌∙◌, subst, arith}
use Rattle.std.specs.List.{AllByRecursion, sum_by}
use Rattle.std.proofs.lemmas.List.{append-nil, length-append, length-map}
use Rattle.std.proofs.lemmas.Grind.{flat_map-append}
use Rattle.std.proofs.lemmas.List.Sums.{sum_by-append, sum_by-cons}
use Rattle.sp_rect.specs.Inside.{bound_of}
use Rattle.sp_node.specs.declared.node.Entry.{Entry}
use Rattle.sp_node.specs.declared.node.Shape.{Shape}
use Rattle.sp_node.specs.Nested.{Member, Body, Branch, rects, entries, AreSound}
use Rattle.sp_node.proofs.Lists.{all_append, all_map}
use Rattle.sp_node.proofs.Frame.{all_from_flat_map, all_flat_map}
use Rattle.sp_grow.specs.Insertion.{IsNode}
use Rattle.sp_grow.specs.Reached.{IsPart}
use Rattle.sp_grow.proofs.Numbers.{all_front, all_back}
use Rattle.sp_condense.specs.Removal.{Orphan, orphan, orphans_of, Removes}
use Rattle.sp_condense.specs.Staging.{orphan_entries}

module _ (shape : Shape) where
  -- what a removal leaves is sound, and at most one member less
  pub record Leaves (level : ℕ) (body left : Body level) (orphans : List Orphan) : Type 0 where
    pub sound : AreSound shape level left
    pub parts : AllByRecursion (λ o. IsPart shape o.level o.member) orphans
    pub less : length left ≤ length body
    pub one : length body ≤ length left + 1

  each_part : (level : ℕ) (left : Body level) → AreSound shape level left → AllByRecursion (λ o. IsPart shape o.level o.member) (orphans_of level left)
  each_part zero [] h = tt
  each_part zero (e ∷ es) h = (tt, each_part zero es tt)
  each_part (suc level) branches h = all_map (λ o. IsPart shape o.level o.member) (orphan (suc level)) branches h

  pub removes_sound : (level : ℕ) (body : Body level) (e : Entry) (left : Body level) (orphans : List Orphan) → Removes shape level body e left orphans → AreSound shape level body → Leaves level body left orphans
  removes_sound zero es e left orphans r sound =
      let whole = ap (λ (xs : List Entry). length xs) r.2 in
      let rest = ap (λ (xs : List Entry). length xs) r.3 in
      record {
        sound = tt;
        parts = subst (AllByRecursion (λ o. IsPart shape o.level o.member)) (sym r.4) tt;
        less = omega (arith, whole, rest, length-append r.0 (e ∷ r.1), length-append r.0 r.1);
        one = omega (arith, whole, rest, length-append r.0 (e ∷ r.1), length-append r.0 r.1);
      }
  removes_sound (suc level) branches e left orphans r sound = by_case (removes_sound level r.1.body e r.3 r.4 r.6 lasts.0.3) r.7
    where
      IsBranch : Branch (Body level) → Type 0
      IsBranch b = (bound_of (rects level b.body) ≡ Some b.rect) × (shape.min ≤ length b.body) × (length b.body ≤ shape.max) × AreSound shape level b.body

      split : AllByRecursion IsBranch (r.0 ++ r.1 ∷ r.2)
      split = subst (AllByRecursion IsBranch) r.5 sound

      fronts : AllByRecursion IsBranch r.0
      fronts = all_front IsBranch r.0 (r.1 ∷ r.2) split

      lasts : AllByRecursion IsBranch (r.1 ∷ r.2)
      lasts = all_back IsBranch r.0 (r.1 ∷ r.2) split

      size : length branches ≡ length r.0 + suc (length r.2)
      size = ap (λ (xs : List (Branch (Body level))). length xs) r.5 ∙ length-append r.0 (r.1 ∷ r.2)

      by_case : Leaves level r.1.body r.3 r.4 → ((shape.min ≤ length r.3) × ((c : Branch (Body level)) × IsNode level c r.1.number r.3 × (left ≡ r.0 ++ c ∷ r.2)) × (orphans ≡ r.4)) ⊎ ((length r.3 < shape.min) × (left ≡ r.0 ++ r.2) × (orphans ≡ orphans_of level r.3 ++ r.4)) → Leaves (suc level) branches left orphans
      by_case below (inl k) =
          let c = k.1.0 in
          let has : r.3 ≡ c.body = sym k.1.1.has in
          let one_branch : IsBranch c = (k.1.1.bounds, subst (λ (b : Body level). shape.min ≤ length b) has k.0, subst (λ (b : Body level). length b ≤ shape.max) has (omega (arith, below.less, lasts.0.2)), subst (AreSound shape level) has below.sound) in
          let rest = ap (λ (xs : List (Branch (Body level))). length xs) k.1.2 in
          record {
            sound = subst (AllByRecursion IsBranch) (sym k.1.2) (all_append IsBranch r.0 (c ∷ r.2) fronts (one_branch, lasts.1));
            parts = subst (AllByRecursion (λ o. IsPart shape o.level o.member)) (sym k.2) below.parts;
            less = omega (arith, size, rest, length-append r.0 (c ∷ r.2));
            one = omega (arith, size, rest, length-append r.0 (c ∷ r.2));
          }
      by_case below (inr k) =
          let rest = ap (λ (xs : List (Branch (Body level))). length xs) k.1 in
          record {
            sound = subst (AllByRecursion IsBranch) (sym k.1) (all_append IsBranch r.0 r.2 fronts lasts.1);
            parts = subst (AllByRecursion (λ o. IsPart shape o.level o.member)) (sym k.2) (all_append (λ o. IsPart shape o.level o.member) (orphans_of level r.3) r.4 (each_part level r.3 below.sound) below.parts);
            less = omega (arith, size, rest, length-append r.0 r.2);
            one = omega (arith, size, rest, length-append r.0 r.2);
          }

  -- there are few orphans
  pub removes_few : shape.min ≤ 32 → (level : ℕ) (body : Body level) (e : Entry) (left : Body level) (orphans : List Orphan) → Removes shape level body e left orphans → length orphans ≤ 32 * level
  removes_few least zero es e left orphans r = let n = ap (λ (xs : List Orphan). length xs) r.4 in omega arith
  removes_few least (suc level) branches e left orphans r = by_case r.7 (removes_few least level r.1.body e r.3 r.4 r.6)
    where
      by_case : ((shape.min ≤ length r.3) × ((c : Branch (Body level)) × IsNode level c r.1.number r.3 × (left ≡ r.0 ++ c ∷ r.2)) × (orphans ≡ r.4)) ⊎ ((length r.3 < shape.min) × (left ≡ r.0 ++ r.2) × (orphans ≡ orphans_of level r.3 ++ r.4)) → length r.4 ≤ 32 * level → length orphans ≤ 32 * suc level
      by_case (inl k) n = let m = ap (λ (xs : List Orphan). length xs) k.2 in omega arith
      by_case (inr k) n = let m = ap (λ (xs : List Orphan). length xs) k.2 in omega (arith, m, n, k.0, length-append (orphans_of level r.3) r.4, length-map r.3 (orphan level))

-- a member more
module _ (w : Entry → ℕ) where
  entries_cons : (level : ℕ) (x : Member level) (xs : Body level) → sum_by w (entries level (x ∷ xs)) ≡ sum_by w (entries level (x ∷ [])) + sum_by w (entries level xs)
  entries_cons zero x xs = omega (arith, sum_by-cons w x xs, sum_by-cons w x [])
  entries_cons (suc level) x xs = omega (arith, sum_by-append w (entries level x.body) (entries (suc level) xs), ap (sum_by w) (append-nil (entries level x.body)))

  entries_append : (level : ℕ) (xs ys : Body level) → sum_by w (entries level (xs ++ ys)) ≡ sum_by w (entries level xs) + sum_by w (entries level ys)
  entries_append zero xs ys = sum_by-append w xs ys
  entries_append (suc level) xs ys = ap (sum_by w) (flat_map-append (λ (b : Branch (Body level)). entries level b.body) xs ys) ∙ sum_by-append w (entries (suc level) xs) (entries (suc level) ys)

  orphans_sum : (level : ℕ) (left : Body level) → sum_by w (orphan_entries (orphans_of level left)) ≡ sum_by w (entries level left)
  orphans_sum level [] = none level
    where
      none : (l : ℕ) → 0 ≡ sum_by w (entries l [])
      none zero = refl
      none (suc l) = refl
  orphans_sum level (x ∷ xs) = omega (arith, sum_by-append w (entries level (x ∷ [])) (orphan_entries (orphans_of level xs)), orphans_sum level xs, entries_cons level x xs)

  pub removes_entries : (shape : Shape) (level : ℕ) (body : Body level) (e : Entry) (left : Body level) (orphans : List Orphan) → Removes shape level body e left orphans → sum_by w (entries level left) + sum_by w (orphan_entries orphans) + w e ≡ sum_by w (entries level body)
  removes_entries shape zero es e left orphans r =
      omega (arith, ap (sum_by w) r.2, ap (sum_by w) r.3, ap (λ (os : List Orphan). sum_by w (orphan_entries os)) r.4, sum_by-append w r.0 (e ∷ r.1), sum_by-cons w e r.1, sum_by-append w r.0 r.1)
  removes_entries shape (suc level) branches e left orphans r = by_case r.7 (removes_entries shape level r.1.body e r.3 r.4 r.6)
    where
      total : List (Branch (Body level)) → ℕ
      total xs = sum_by w (entries (suc level) xs)

      one_is : (b : Branch (Body level)) → total (b ∷ []) ≡ sum_by w (entries level b.body)
      one_is b = ap (sum_by w) (append-nil (entries level b.body))

      by_case : ((shape.min ≤ length r.3) × ((c : Branch (Body level)) × IsNode level c r.1.number r.3 × (left ≡ r.0 ++ c ∷ r.2)) × (orphans ≡ r.4)) ⊎ ((length r.3 < shape.min) × (left ≡ r.0 ++ r.2) × (orphans ≡ orphans_of level r.3 ++ r.4))
          → sum_by w (entries level r.3) + sum_by w (orphan_entries r.4) + w e ≡ sum_by w (entries level r.1.body) → total left + sum_by w (orphan_entries orphans) + w e ≡ total branches
      by_case (inl k) below =
          let c = k.1.0 in
          omega (
            arith,
            below,
            ap total r.5,
            ap total k.1.2,
            entries_append (suc level) r.0 (r.1 ∷ r.2),
            entries_append (suc level) r.0 (c ∷ r.2),
            entries_cons (suc level) r.1 r.2,
            entries_cons (suc level) c r.2,
            one_is r.1,
            one_is c,
            ap (λ (b : Body level). sum_by w (entries level b)) k.1.1.has,
            ap (λ (os : List Orphan). sum_by w (orphan_entries os)) k.2,
          )
      by_case (inr k) below =
          omega (
            arith,
            below,
            ap total r.5,
            ap total k.1,
            entries_append (suc level) r.0 (r.1 ∷ r.2),
            entries_append (suc level) r.0 r.2,
            entries_cons (suc level) r.1 r.2,
            one_is r.1,
            ap (λ (os : List Orphan). sum_by w (orphan_entries os)) k.2,
            ap (sum_by w) (flat_map-append (λ (o : Orphan). entries o.level (o.member ∷ [])) (orphans_of level r.3) r.4),
            sum_by-append w (orphan_entries (orphans_of level r.3)) (orphan_entries r.4),
            orphans_sum level r.3,
          )

-- what holds of each entry still does
module _ (P : Entry → Type 0) where
  abbrev Under : (level : ℕ) → Body level → Type 0
  Under level body = AllByRecursion P (entries level body)

  abbrev UnderOrphans : List Orphan → Type 0
  UnderOrphans os = AllByRecursion P (orphan_entries os)

  under_append : (level : ℕ) (xs ys : Body level) → Under level xs → Under level ys → Under level (xs ++ ys)
  under_append zero xs ys h k = all_append P xs ys h k
  under_append (suc level) xs ys h k =
      let f : Branch (Body level) → List Entry = λ b. entries level b.body in
      all_flat_map P f (xs ++ ys) (all_append (λ b. Under level b.body) xs ys (all_from_flat_map P f xs h) (all_from_flat_map P f ys k))

  under_orphans : (level : ℕ) (left : Body level) → Under level left → UnderOrphans (orphans_of level left)
  under_orphans zero [] h = tt
  under_orphans zero (e ∷ es) h = (h.0, under_orphans zero es h.1)
  under_orphans (suc level) [] h = tt
  under_orphans (suc level) (b ∷ bs) h =
      all_append P (entries level b.body ++ []) (orphan_entries (orphans_of (suc level) bs)) (all_append P (entries level b.body) [] (all_front P (entries level b.body) (entries (suc level) bs) h) tt) (under_orphans (suc level) bs (all_back P (entries level b.body) (entries (suc level) bs) h))

  pub removes_each : (shape : Shape) (level : ℕ) (body : Body level) (e : Entry) (left : Body level) (orphans : List Orphan) → Removes shape level body e left orphans → Under level body → Under level left × UnderOrphans orphans
  removes_each shape zero es e left orphans r h =
      let split = subst (AllByRecursion P) r.2 h in
      (subst (AllByRecursion P) (sym r.3) (all_append P r.0 r.1 (all_front P r.0 (e ∷ r.1) split) (all_back P r.0 (e ∷ r.1) split).1), subst UnderOrphans (sym r.4) tt)
  removes_each shape (suc level) branches e left orphans r h = by_case r.7 (removes_each shape level r.1.body e r.3 r.4 r.6 lasts.0)
    where
      Each : Branch (Body level) → Type 0
      Each b = Under level b.body

      split : AllByRecursion Each (r.0 ++ r.1 ∷ r.2)
      split = subst (AllByRecursion Each) r.5 (all_from_flat_map P (λ (b : Branch (Body level)). entries level b.body) branches h)

      fronts : AllByRecursion Each r.0
      fronts = all_front Each r.0 (r.1 ∷ r.2) split

      lasts : AllByRecursion Each (r.1 ∷ r.2)
      lasts = all_back Each r.0 (r.1 ∷ r.2) split

      joined : (xs : List (Branch (Body level))) → AllByRecursion Each xs → Under (suc level) xs
      joined xs k = all_flat_map P (λ (b : Branch (Body level)). entries level b.body) xs k

      by_case : ((shape.min ≤ length r.3) × ((c : Branch (Body level)) × IsNode level c r.1.number r.3 × (left ≡ r.0 ++ c ∷ r.2)) × (orphans ≡ r.4)) ⊎ ((length r.3 < shape.min) × (left ≡ r.0 ++ r.2) × (orphans ≡ orphans_of level r.3 ++ r.4))
          → Under level r.3 × UnderOrphans r.4 → Under (suc level) left × UnderOrphans orphans
      by_case (inl k) below =
          let c = k.1.0 in
          (subst (Under (suc level)) (sym k.1.2) (joined (r.0 ++ c ∷ r.2) (all_append Each r.0 (c ∷ r.2) fronts (subst (Under level) (sym k.1.1.has) below.0, lasts.1))), subst UnderOrphans (sym k.2) below.1)
      by_case (inr k) below = (
        subst (Under (suc level)) (sym k.1) (joined (r.0 ++ r.2) (all_append Each r.0 r.2 fronts lasts.1)),
        subst UnderOrphans (sym k.2) (subst (AllByRecursion P) (sym (flat_map-append (λ (o : Orphan). entries o.level (o.member ∷ [])) (orphans_of level r.3) r.4)) (all_append P (orphan_entries (orphans_of level r.3)) (orphan_entries r.4) (under_orphans level r.3 below.0) below.1)),
      )
