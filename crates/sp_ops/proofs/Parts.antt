-- What stands under a number after a change, and which numbers the change leaves alone.
use Rattle.std.proofs.Common.{◌≡◌, ℕ, Bool, true, false, cond, ◌||◌, List, [], ◌∷◌, ◌++◌, Option, Some, None, map, refl, sym, ap, ◌∙◌, subst, inl, inr, ◌⊎◌}
use Rattle.std.specs.Prelude.{nat_eq}
use Rattle.std.specs.Option.{option_and_then}
use Rattle.sp_node.specs.declared.node.Node.{Node}
use Rattle.sp_node.specs.declared.plan.Part.{Part}
use Rattle.sp_node.specs.declared.plan.Plan.{Plan}
use Rattle.sp_node.specs.Among.{Among}
use Rattle.sp_node.specs.Look.{look}
use Rattle.sp_node.specs.Plan.{number_of, content, with_parts, planned, IsMadeOf}
use Rattle.sp_node.specs.Table.{Table, IsValid}
use Rattle.sp_node.proofs.Adopt.{part_at, listed, look_parts, unlisted}
use Rattle.sp_node.proofs.Among.{among_left, among_right}
use Rattle.sp_granule.specs.Granules.{granules, numbered}
use Rattle.sp_node.specs.Index.{part_named}
use Rattle.sp_ops.proofs.ByNumber.{equal_from, node_granule, numbered_is}

-- what the part leaves, and else what stood there
abbrev pub left_under : Option Part → Option Node → Option Node
left_under None before = before
left_under (Some p) before = content p

first_is : (ps : List Part) (k : ℕ) (before : Option Node) → part_at ps k before ≡ left_under (part_named ps k) before
first_is [] k before = refl
first_is (p ∷ ps) k before = by_test (nat_eq k (number_of p)) (first_is ps k before)
  where
    by_test : (b : Bool) → part_at ps k before ≡ left_under (part_named ps k) before → cond b (content p) (part_at ps k before) ≡ left_under (cond b (Some p) (part_named ps k)) before
    by_test true e = refl
    by_test false e = e

pub look_after : (nodes : List (ℕ × Node)) (ps : List Part) (k : ℕ) → look (with_parts nodes ps) k ≡ left_under (part_named ps k) (look nodes k)
look_after nodes ps k = look_parts nodes ps k ∙ first_is ps k (look nodes k)

listed_among : (ps : List Part) (n : ℕ) → listed ps n ≡ true → Among n (map number_of ps)
listed_among [] n l = cc
listed_among (p ∷ ps) n l = by_test (nat_eq n (number_of p)) refl l (listed_among ps n)
  where
    by_test : (b : Bool) → nat_eq n (number_of p) ≡ b → (b || listed ps n) ≡ true → (listed ps n ≡ true → Among n (map number_of ps)) → Among n (number_of p ∷ map number_of ps)
    by_test true e l f = inl (equal_from n (number_of p) e)
    by_test false e l f = inr (f l)

module _ (t : Table) (v : IsValid t) (plan : Plan) (made : IsMadeOf t plan) where
  abbrev IsKept : ℕ → Type 0
  IsKept n = numbered (granules (planned t plan)) n ≡ numbered (granules t) n

  same_numbered : (n : ℕ) → look (with_parts t.nodes plan.parts) n ≡ look t.nodes n → nat_eq n plan.root ≡ nat_eq n t.root → IsKept n
  same_numbered n l r =
      numbered_is (planned t plan) made.valid n
      ∙ ap (λ (b : Bool). option_and_then (node_granule n b) (look (with_parts t.nodes plan.parts) n)) r
      ∙ ap (option_and_then (node_granule n (nat_eq n t.root))) l
      ∙ sym (numbered_is t v n)

  -- a number that no part names has its node still
  pub unlisted_kept : (n : ℕ) → listed plan.parts n ≡ false → look (with_parts t.nodes plan.parts) n ≡ look t.nodes n
  unlisted_kept n l = look_parts t.nodes plan.parts n ∙ unlisted plan.parts n (look t.nodes n) l

  -- where the root stays, the granules of the parts alone differ
  pub one_root : plan.root ≡ t.root → (ns : List ℕ) → ns ≡ map number_of plan.parts → (n : ℕ) → IsKept n ⊎ Among n ns
  one_root r ns e n = by_test (listed plan.parts n) refl
    where
      by_test : (b : Bool) → listed plan.parts n ≡ b → IsKept n ⊎ Among n ns
      by_test true l = inr (subst (Among n) (sym e) (listed_among plan.parts n l))
      by_test false l = inl (same_numbered n (unlisted_kept n l) (ap (nat_eq n) r))

  -- else those of both roots too
  pub two_roots : (ns : List ℕ) → ns ≡ (map number_of plan.parts ++ t.root ∷ []) ++ plan.root ∷ [] → (n : ℕ) → IsKept n ⊎ Among n ns
  two_roots ns e n = by_test (listed plan.parts n) refl (nat_eq n t.root) refl (nat_eq n plan.root) refl
    where
      front : List ℕ
      front = map number_of plan.parts ++ t.root ∷ []

      by_test : (b : Bool) → listed plan.parts n ≡ b → (c : Bool) → nat_eq n t.root ≡ c → (d : Bool) → nat_eq n plan.root ≡ d → IsKept n ⊎ Among n ns
      by_test true l c r d s = inr (subst (Among n) (sym e) (among_left n front (plan.root ∷ []) (among_left n (map number_of plan.parts) (t.root ∷ []) (listed_among plan.parts n l))))
      by_test false l true r d s = inr (subst (Among n) (sym e) (among_left n front (plan.root ∷ []) (among_right n (map number_of plan.parts) (t.root ∷ []) (inl (equal_from n t.root r)))))
      by_test false l false r true s = inr (subst (Among n) (sym e) (among_right n front (plan.root ∷ []) (inl (equal_from n plan.root s))))
      by_test false l false r false s = inl (same_numbered n (unlisted_kept n l) (s ∙ sym r))
