-- The node of a number: what the table has under it is what the nested tree has there, and no other number has one.
use Rattle.std.proofs.Common.{◌≡◌, ℕ, Bool, true, false, cond, ◌||◌, List, [], ◌∷◌, Some, None, map, refl, sym, ap, ◌∙◌, arith, inl, inr, ◌⊎◌}
use Rattle.std.specs.Prelude.{nat_eq}
use Rattle.std.specs.List.{list_any}
use Rattle.std.proofs.lemmas.List.Sorted.{list_any-IsPermutation}
use Rattle.std.proofs.lemmas.Bool.Decides.{nat_tests}
use Rattle.sp_rect.specs.Plane.{whole}
use Rattle.sp_node.specs.declared.node.Node.{Node}
use Rattle.sp_node.specs.Nested.{Place, node}
use Rattle.sp_node.specs.Look.{look}
use Rattle.sp_node.specs.Table.{Table, level_of, IsValid, places_of, numbers_at}
use Rattle.sp_node.proofs.Frame.{places_stand}
use Rattle.sp_node.proofs.Among.{Among, all_among}

module _ (k : ℕ) where
  equal : (n : ℕ) → nat_eq k n ≡ true → n ≡ k
  equal n e = grind (arith, nat_tests)

  place_of : (ps : List Place) → ((p : Place) × Among p ps × (p.number ≡ k)) ⊎ (list_any (nat_eq k) (map (λ p. p.number) ps) ≡ false)
  place_of [] = inr refl
  place_of (p ∷ ps) = by_test (nat_eq k p.number) refl (place_of ps)
    where
      by_test : (b : Bool) → nat_eq k p.number ≡ b → ((r : Place) × Among r ps × (r.number ≡ k)) ⊎ (list_any (nat_eq k) (map (λ r. r.number) ps) ≡ false) → ((r : Place) × Among r (p ∷ ps) × (r.number ≡ k)) ⊎ ((b || list_any (nat_eq k) (map (λ r. r.number) ps)) ≡ false)
      by_test true e h = inl (p, inl refl, equal p.number e)
      by_test false e (inl r) = inl (r.0, inr r.1, r.2)
      by_test false e (inr n) = inr n

  look_none : (nodes : List (ℕ × Node)) → list_any (nat_eq k) (map (λ n. n.0) nodes) ≡ false → look nodes k ≡ None
  look_none [] h = refl
  look_none (n ∷ ns) h = by_test (nat_eq k n.0) h (look_none ns)
    where
      by_test : (b : Bool) → (b || list_any (nat_eq k) (map (λ m. m.0) ns)) ≡ false → (list_any (nat_eq k) (map (λ m. m.0) ns) ≡ false → look ns k ≡ None) → cond b (Some n.1) (look ns k) ≡ None
      by_test true h f = cc
      by_test false h f = f h

pub node_of_number :
    (t : Table) → IsValid t → (k : ℕ) → ((p : Place) × Among p (places_of t) × (p.number ≡ k) × (look t.nodes k ≡ Some (node p.level p.body))) ⊎ ((list_any (nat_eq k) (numbers_at t (level_of t)) ≡ false) × (look t.nodes k ≡ None))
node_of_number t v k = elim (place_of k (places_of t)) [
  | inl p ↦
      inl (p.0, p.1, p.2, ap (look t.nodes) (sym p.2) ∙ all_among (λ (r : Place). look t.nodes r.number ≡ Some (node r.level r.body)) p.0 (places_of t) (places_stand (look t.nodes) (level_of t) t.root whole v.stands) p.1)
  | inr n ↦ inr (n, look_none k t.nodes (list_any-IsPermutation (nat_eq k) (map (λ (x : ℕ × Node). x.0) t.nodes) (numbers_at t (level_of t)) v.whole_table ∙ n))
]
