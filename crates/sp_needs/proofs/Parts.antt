-- What stands under a number after a change, and which numbers the change leaves alone.
use Rattle.std.proofs.Common.{◌≡◌, ℕ, ◌+◌, ◌<◌, Bool, true, false, cond, ◌||◌, List, [], ◌∷◌, ◌++◌, length, take, get_or, Option, Some, None, map, refl, sym, ap, ◌∙◌, subst, inl, inr, ◌⊎◌}
use Rattle.std.specs.Prelude.{nat_eq}
use Rattle.std.specs.Option.{option_map, option_and_then}
use Rattle.std.proofs.lemmas.List.{map-append}
use Rattle.sp_node.specs.declared.node.Node.{Node}
use Rattle.sp_node.specs.declared.plan.Part.{Part}
use Rattle.sp_node.specs.declared.plan.Plan.{Plan}
use Rattle.sp_node.specs.Among.{Among}
use Rattle.sp_node.specs.Look.{look}
use Rattle.sp_node.specs.Plan.{number_of, content, with_parts, planned, IsMadeOf}
use Rattle.sp_node.specs.Table.{Table, IsValid}
use Rattle.sp_node.proofs.Adopt.{part_at, listed, look_parts, unlisted}
use Rattle.sp_node.proofs.Among.{among_left, among_right, among_split}
use Rattle.sp_granule.specs.Granules.{Granule, granules, numbered}
use Rattle.sp_needs.specs.Areas.{first_part, area_of, leaf_space}
use Rattle.sp_needs.specs.Affected.{IsKept, AreKeptBut}
use Rattle.sp_needs.proofs.Membership.{equal_from, one_more}
use Rattle.sp_needs.proofs.Granules.{node_granule, numbered_is}

-- what the part leaves, and else what stood there
abbrev pub left_under : Option Part → Option Node → Option Node
left_under None before = before
left_under (Some p) before = content p

first_is : (ps : List Part) (k : ℕ) (before : Option Node) → part_at ps k before ≡ left_under (first_part k ps) before
first_is [] k before = refl
first_is (p ∷ ps) k before = by_test (nat_eq k (number_of p)) (first_is ps k before)
  where
    by_test : (b : Bool) → part_at ps k before ≡ left_under (first_part k ps) before → cond b (content p) (part_at ps k before) ≡ left_under (cond b (Some p) (first_part k ps)) before
    by_test true e = refl
    by_test false e = e

pub look_after : (nodes : List (ℕ × Node)) (ps : List Part) (k : ℕ) → look (with_parts nodes ps) k ≡ left_under (first_part k ps) (look nodes k)
look_after nodes ps k = look_parts nodes ps k ∙ first_is ps k (look nodes k)

listed_among : (ps : List Part) (n : ℕ) → listed ps n ≡ true → Among n (map number_of ps)
listed_among [] n l = cc
listed_among (p ∷ ps) n l = by_test (nat_eq n (number_of p)) refl l (listed_among ps n)
  where
    by_test : (b : Bool) → nat_eq n (number_of p) ≡ b → (b || listed ps n) ≡ true → (listed ps n ≡ true → Among n (map number_of ps)) → Among n (number_of p ∷ map number_of ps)
    by_test true e l f = inl (equal_from n (number_of p) e)
    by_test false e l f = inr (f l)

module _ (t : Table) (v : IsValid t) (plan : Plan) (made : IsMadeOf t plan) where
  abbrev IsSame : ℕ → Type 0
  IsSame n = IsKept (granules t) (granules (planned t plan)) n

  same_area : (n : ℕ) → look (with_parts t.nodes plan.parts) n ≡ look t.nodes n → nat_eq n plan.root ≡ nat_eq n t.root → IsSame n
  same_area n l r = (ap (option_map area_of) same, ap (option_and_then leaf_space) same)
    where
      same : numbered (granules (planned t plan)) n ≡ numbered (granules t) n
      same =
          numbered_is (planned t plan) made.valid n
          ∙ ap (λ (b : Bool). option_and_then (node_granule n b) (look (with_parts t.nodes plan.parts) n)) r
          ∙ ap (option_and_then (node_granule n (nat_eq n t.root))) l
          ∙ sym (numbered_is t v n)

  -- a number that no part names has its node still
  pub unlisted_kept : (n : ℕ) → listed plan.parts n ≡ false → look (with_parts t.nodes plan.parts) n ≡ look t.nodes n
  unlisted_kept n l = look_parts t.nodes plan.parts n ∙ unlisted plan.parts n (look t.nodes n) l

  module _ (reshaped : List ℕ) (kept : AreKeptBut (granules t) (granules (planned t plan)) (map number_of plan.parts) reshaped) where
    -- where the root stays, the areas of the parts alone differ
    pub one_root : plan.root ≡ t.root → (ns : List ℕ) → ns ≡ reshaped → (n : ℕ) → IsSame n ⊎ Among n ns
    one_root r ns e n = by_test (listed plan.parts n) refl
      where
        by_test : (b : Bool) → listed plan.parts n ≡ b → IsSame n ⊎ Among n ns
        by_test true l = elim (kept n (listed_among plan.parts n l)) [ inl k ↦ inl k | inr a ↦ inr (subst (Among n) (sym e) a) ]
        by_test false l = inl (same_area n (unlisted_kept n l) (ap (nat_eq n) r))

    -- else those of both roots too
    pub two_roots : (ns : List ℕ) → ns ≡ (reshaped ++ t.root ∷ []) ++ plan.root ∷ [] → (n : ℕ) → IsSame n ⊎ Among n ns
    two_roots ns e n = by_test (listed plan.parts n) refl (nat_eq n t.root) refl (nat_eq n plan.root) refl
      where
        front : List ℕ
        front = reshaped ++ t.root ∷ []

        by_test : (b : Bool) → listed plan.parts n ≡ b → (c : Bool) → nat_eq n t.root ≡ c → (d : Bool) → nat_eq n plan.root ≡ d → IsSame n ⊎ Among n ns
        by_test true l c r d s = elim (kept n (listed_among plan.parts n l)) [
          | inl k ↦ inl k
          | inr a ↦ inr (subst (Among n) (sym e) (among_left n front (plan.root ∷ []) (among_left n reshaped (t.root ∷ []) a)))
        ]
        by_test false l true r d s = inr (subst (Among n) (sym e) (among_left n front (plan.root ∷ []) (among_right n reshaped (t.root ∷ []) (inl (equal_from n t.root r)))))
        by_test false l false r true s = inr (subst (Among n) (sym e) (among_right n front (plan.root ∷ []) (inl (equal_from n plan.root s))))
        by_test false l false r false s = inl (same_area n (unlisted_kept n l) (s ∙ sym r))

-- the step of the loop over the parts: the part's number is one of the others, or it is kept
module _ (gs gs' : List Granule) (ps : List Part) (i : ℕ) (p : Part) (within : i < length ps) (is : p ≡ get_or ps i p) (numbers : List ℕ) (kept : AreKeptBut gs gs' (map number_of (take i ps)) numbers) where
  front_or_this : (n : ℕ) → Among n (map number_of (take (i + 1) ps)) → Among n (map number_of (take i ps)) ⊎ (n ≡ number_of p)
  front_or_this n a = elim (among_split n (map number_of (take i ps)) (number_of p ∷ []) (subst (Among n) (ap (map number_of) (one_more ps i p within is) ∙ map-append number_of (take i ps) (p ∷ [])) a)) [
    | inl b ↦ inl b
    | inr (inl e) ↦ inr e
    | inr (inr b) ↦ absurd b
  ]

  pub kept_one : IsKept gs gs' (number_of p) → AreKeptBut gs gs' (map number_of (take (i + 1) ps)) numbers
  kept_one k n a = elim (front_or_this n a) [ inl b ↦ kept n b | inr e ↦ inl (subst (IsKept gs gs') (sym e) k) ]

  pub named_one : (new : List ℕ) → new ≡ numbers ++ number_of p ∷ [] → AreKeptBut gs gs' (map number_of (take (i + 1) ps)) new
  named_one new is_new n a = elim (front_or_this n a) [
    | inl b ↦ elim (kept n b) [ inl k ↦ inl k | inr c ↦ inr (subst (Among n) (sym is_new) (among_left n numbers (number_of p ∷ []) c)) ]
    | inr e ↦ inr (subst (Among n) (sym is_new) (among_right n numbers (number_of p ∷ []) (inl e)))
  ]
