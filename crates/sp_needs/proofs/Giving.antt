-- Out of which leaves entries move.
use Rattle.std.proofs.Common.{◌≡◌, ℕ, zero, suc, ◌<◌, Bool, true, false, cond, ◌||◌, ◌↔◌, List, [], ◌∷◌, length, get_or, Option, Some, None, map, refl, sym, ap, ◌∙◌, subst, inl, inr, arith}
use Rattle.std.specs.Prelude.{nat_eq, MatchOption}
use Rattle.std.specs.List.{flat_map}
use Rattle.std.proofs.lemmas.Bool.Decides.{nat_tests}
use Rattle.sp_node.specs.declared.node.Entry.{Entry}
use Rattle.sp_node.specs.declared.node.Node.{Node}
use Rattle.sp_node.specs.declared.node.Node.TheVariants.{Leaf, Inner}
use Rattle.sp_node.specs.declared.plan.Part.{Part}
use Rattle.sp_node.specs.declared.plan.Plan.{Plan}
use Rattle.sp_node.specs.Among.{Among}
use Rattle.sp_node.specs.Look.{look, entries_in, entries_of_node}
use Rattle.sp_node.specs.Nested.{node}
use Rattle.sp_node.specs.Index.{leaf_with, has_number}
use Rattle.sp_node.specs.Plan.{number_of, content, with_parts, planned, IsMadeOf, AreOrdered}
use Rattle.sp_node.specs.Table.{Table, IsValid, places_of, entries_of}
use Rattle.sp_node.specs.Standing.{HasNoEntry, HasNoNode, IsNodeOf, IsLeafOf}
use Rattle.sp_node.proofs.Adopt.{has, part_at, listed, look_parts}
use Rattle.sp_node.proofs.Among.{all_among, among_flat_map, from_flat_map}
use Rattle.sp_node.proofs.Entries.{has_from_among}
use Rattle.sp_node.proofs.Single.{own, first_leaf, single_leaf}
use Rattle.sp_node.proofs.Standing.{own_all, keys_distinct, place_stands, node_stands, leaf_stands}
use Rattle.sp_granule.specs.Granules.{Granule, Standing, standing, granules}
use Rattle.sp_needs.specs.Areas.{is_leaf_node}
use Rattle.sp_needs.specs.Affected.{IsGiver, left_by, left_by_part, other_leaf}
use Rattle.sp_needs.proofs.Membership.{self_equal, equal_from, apart_from, contains_from_among, clash}
use Rattle.sp_needs.proofs.Granules.{granule_as, granule_at, found_among, node_of_granule}
use Rattle.sp_needs.proofs.Parts.{unlisted_kept}

apart_less : (a b : ℕ) → a < b → nat_eq b a ≡ false
apart_less a b lt = grind (arith, nat_tests)

apart_test : (a b : ℕ) → (b ≡ a → ⊥) → nat_eq a b ≡ false
apart_test a b other = grind (arith, nat_tests)

-- of ordered parts, the one of a number is what stands under it
part_is : (ps : List Part) (p : Part) (o : Option Node) → AreOrdered ps → Among p ps → part_at ps (number_of p) o ≡ content p
part_is [] p o a h = absurd h
part_is (x ∷ ps) p o a (inl e) = ap (λ (b : Bool). cond b (content x) (part_at ps (number_of p) o)) (ap (λ (y : Part). nat_eq (number_of p) (number_of y)) (sym e) ∙ self_equal (number_of p)) ∙ ap content (sym e)
part_is (x ∷ ps) p o a (inr h) =
    ap (λ (b : Bool). cond b (content x) (part_at ps (number_of p) o)) (apart_less (number_of x) (number_of p) (all_among (λ (q : Part). number_of x < number_of q) p ps a.0 h)) ∙ part_is ps p o a.1 h

listed_part : (ps : List Part) (k : ℕ) → listed ps k ≡ true → (p : Part) × Among p ps × (number_of p ≡ k)
listed_part [] k l = cc
listed_part (x ∷ ps) k l = by_test (nat_eq k (number_of x)) refl l (listed_part ps k)
  where
    by_test : (b : Bool) → nat_eq k (number_of x) ≡ b → (b || listed ps k) ≡ true → (listed ps k ≡ true → (p : Part) × Among p ps × (number_of p ≡ k)) → (p : Part) × Among p (x ∷ ps) × (number_of p ≡ k)
    by_test true e l f = (x, inl refl, sym (equal_from k (number_of x) e))
    by_test false e l f = let more = f l in (more.0, inr more.1, more.2)

from_map : (es : List Entry) (s : Standing) → Among s (map standing es) → (e : Entry) × Among e es × (s ≡ standing e)
from_map [] s a = absurd a
from_map (x ∷ es) s (inl e) = (x, inl refl, e)
from_map (x ∷ es) s (inr a) = let more = from_map es s a in (more.0, inr more.1, more.2)

to_map : (es : List Entry) (e : Entry) → Among e es → Among (standing e) (map standing es)
to_map [] e a = absurd a
to_map (x ∷ es) e (inl s) = inl (ap standing s)
to_map (x ∷ es) e (inr a) = inr (to_map es e a)

-- a node with an entry is a leaf
leaf_with_entry : (m : Node) (e : Entry) → Among e (entries_of_node m) → is_leaf_node m ≡ true
leaf_with_entry (Leaf es) e a = refl
leaf_with_entry (Inner cs) e a = absurd a

node_with_entry : (o : Option Node) (e : Entry) → Among e (entries_in o) → (m : Node) × (o ≡ Some m) × Among e (entries_of_node m)
node_with_entry None e a = absurd a
node_with_entry (Some m) e a = (m, refl, a)

-- what stands at a place is among the entries
pub got_has : (es : List Entry) (at q : ℕ) (e : Entry) → at < length es → e ≡ get_or es at e → nat_eq e.number q ≡ true → has_number es q ≡ true
got_has [] at q e l g h = absurd (omega (arith, l))
got_has (x ∷ xs) zero q e l g h = ap (λ (b : Bool). b || has_number xs q) (ap (λ (n : ℕ). nat_eq q n) (sym (ap (λ (y : Entry). y.number) g) ∙ equal_from e.number q h) ∙ self_equal q)
got_has (x ∷ xs) (suc at) q e l g h = ap (λ (b : Bool). nat_eq q x.number || b) (got_has xs at q e (omega (arith, l)) g h) ∙ either_true (nat_eq q x.number)
  where
    either_true : (b : Bool) → (b || true) ≡ true
    either_true true = refl
    either_true false = refl

module _ (t : Table) (v : IsValid t) where
  -- an entry of a granule, in its node
  record Stands (g : Granule) (s : Standing) : Type 0 where
    pub node : Node
    pub stands : look t.nodes g.number ≡ Some node
    pub entry : Entry
    pub among : Among entry (entries_of_node node)
    pub is : s ≡ standing entry

  stands_in : (g : Granule) (s : Standing) → Among g (granules t) → Among s g.entries → Stands g s
  stands_in g s a b =
      let h = node_of_granule t v g a in
      let e = from_map (entries_of_node h.node) s (subst (λ (x : Granule). Among s x.entries) h.is b) in
      record { node = h.node; stands = h.stands; entry = e.0; among = e.1; is = e.2 }

  -- and back
  record Leafed (k : ℕ) (e : Entry) : Type 0 where
    pub granule : Granule
    pub among : Among granule (granules t)
    pub named : granule.number ≡ k
    pub is_leaf : granule.is_leaf ≡ true
    pub entry : Among (standing e) granule.entries

  leafed : (k : ℕ) (m : Node) (e : Entry) → look t.nodes k ≡ Some m → Among e (entries_of_node m) → Leafed k e
  leafed k m e l a =
      let at = granule_at t v k m l in
      let f = found_among (granules t) k (granule_as k at.0 m) at.1 in
      record { granule = granule_as k at.0 m; among = f.0; named = f.1; is_leaf = leaf_with_entry m e a; entry = to_map (entries_of_node m) e a }

  entry_among : (k : ℕ) (m : Node) (e : Entry) → look t.nodes k ≡ Some m → Among e (entries_of_node m) → Among e (entries_of t)
  entry_among k m e l a =
      let h : IsNodeOf t k m = subst (λ (o : Option Node). MatchOption o (HasNoNode t k) (IsNodeOf t k)) l (node_stands t v k) in
      subst (Among e) (own_all t v) (among_flat_map own e h.place (places_of t) h.among (subst (λ (x : Node). Among e (entries_of_node x)) h.is a))

  has_at : (k : ℕ) (m : Node) (e : Entry) → look t.nodes k ≡ Some m → Among e (entries_of_node m) → has (look t.nodes k) e.number ≡ true
  has_at k m e l a = ap (λ (o : Option Node). has o e.number) l ∙ has_from_among e (entries_of_node m) a

  -- the leaf that is found for an entry is the one in which it stands
  leaf_is : (k : ℕ) (q : ℕ) → has (look t.nodes k) q ≡ true → leaf_with t.nodes q ≡ Some k
  leaf_is k q h = elim (first_leaf q t.nodes (keys_distinct t v)) [
    | inl f ↦ f.1 ∙ ap (λ (j : ℕ). Some j) (single_leaf t v q f.0 k f.2 h)
    | inr f ↦ absurd (clash (has (look t.nodes k) q) h (f.1 k))
  ]

  -- an entry that stood in the leaf leaves none for it
  pub none_left : (leaf : ℕ) (e : Entry) → has (look t.nodes leaf) e.number ≡ true → left_by t.nodes leaf e ≡ []
  none_left leaf e h = ap (other_leaf leaf) (leaf_is leaf e.number h) ∙ ap (λ (b : Bool). cond b [] (leaf ∷ [])) (self_equal leaf)

  -- where it was found
  record WasIn (k q : ℕ) : Type 0 where
    pub node : Node
    pub stands : look t.nodes k ≡ Some node
    pub entry : Entry
    pub among : Among entry (entries_of_node node)
    pub named : entry.number ≡ q

  was_in : (k q : ℕ) → leaf_with t.nodes q ≡ Some k → WasIn k q
  was_in k q e =
      let h : IsLeafOf t q k = subst (λ (o : Option ℕ). MatchOption o (HasNoEntry t q) (IsLeafOf t q)) e (leaf_stands t v q) in
      record { node = node h.place.level h.place.body; stands = ap (look t.nodes) (sym h.named) ∙ place_stands t v h.place h.among; entry = h.entry; among = h.has; named = h.is }

other_is : (leaf n : ℕ) (o : Option ℕ) → Among n (other_leaf leaf o) → (o ≡ Some n) × (nat_eq n leaf ≡ false)
other_is leaf n None a = absurd a
other_is leaf n (Some old) a = by_test (nat_eq old leaf) refl a
  where
    by_test : (b : Bool) → nat_eq old leaf ≡ b → Among n (cond b [] (old ∷ [])) → (Some old ≡ Some n) × (nat_eq n leaf ≡ false)
    by_test true e a = absurd a
    by_test false e (inl s) = (ap (λ (k : ℕ). Some k) (sym s), ap (λ (k : ℕ). nat_eq k leaf) s ∙ e)
    by_test false e (inr b) = absurd b

module _ (t : Table) (v : IsValid t) (plan : Plan) (made : IsMadeOf t plan) where
  abbrev t' : Table
  t' = planned t plan

  look_part : (p : Part) → Among p plan.parts → look (with_parts t.nodes plan.parts) (number_of p) ≡ content p
  look_part p a = look_parts t.nodes plan.parts (number_of p) ∙ part_is plan.parts p (look t.nodes (number_of p)) made.ordered a

  left_is_giver : (n : ℕ) → Among n (flat_map (left_by_part t.nodes) plan.parts) → IsGiver (granules t) (granules t') n
  left_is_giver n a =
      let p = from_flat_map (left_by_part t.nodes) n plan.parts a in
      let e = from_flat_map (left_by t.nodes (number_of p.0)) n (entries_in (content p.0)) p.2 in
      let o = other_is (number_of p.0) n (leaf_with t.nodes e.0.number) e.2 in
      let was = was_in t v n e.0.number o.0 in
      let now = node_with_entry (content p.0) e.0 e.1 in
      let there = look_part p.0 p.1 ∙ now.1 in
      let same : was.entry ≡ e.0 =
      made.same_entries was.entry e.0 (contains_from_among (entries_of t) was.entry (entry_among t v n was.node was.entry was.stands was.among)) (contains_from_among (entries_of t') e.0 (entry_among t' made.valid (number_of p.0) now.0 e.0 there now.2)) was.named in
      let before = leafed t v n was.node was.entry was.stands was.among in
      let after = leafed t' made.valid (number_of p.0) now.0 e.0 there now.2 in
      record {
        granule = before.granule;
        among = before.among;
        named = before.named;
        is_leaf = before.is_leaf;
        is = record {
          entry = standing e.0;
          stood = subst (λ (x : Entry). Among (standing x) before.granule.entries) same before.entry;
          after = after.granule;
          among = after.among;
          is_leaf = after.is_leaf;
          stands = after.entry;
          other = λ s. apart_from n (number_of p.0) o.1 (sym before.named ∙ sym s ∙ after.named);
        };
      }

  giver_is_left : (n : ℕ) → IsGiver (granules t) (granules t') n → Among n (flat_map (left_by_part t.nodes) plan.parts)
  giver_is_left n h = by_test (listed plan.parts k) refl
    where
      k : ℕ
      k = h.is.after.number

      before : Stands t v h.granule h.is.entry
      before = stands_in t v h.granule h.is.entry h.among h.is.stood

      after : Stands t' made.valid h.is.after h.is.entry
      after = stands_in t' made.valid h.is.after h.is.entry h.is.among h.is.stands

      same : before.entry.number ≡ after.entry.number
      same = ap (λ (s : Standing). s.number) (sym before.is ∙ after.is)

      had : has (look t.nodes n) after.entry.number ≡ true
      had = ap (λ (j : ℕ). has (look t.nodes j) after.entry.number) (sym h.named) ∙ ap (has (look t.nodes h.granule.number)) (sym same) ∙ has_at t v h.granule.number before.node before.entry before.stands before.among

      by_test : (b : Bool) → listed plan.parts k ≡ b → Among n (flat_map (left_by_part t.nodes) plan.parts)
      by_test false l =
          let still : has (look t.nodes k) after.entry.number ≡ true = ap (λ (o : Option Node). has o after.entry.number) (sym (unlisted_kept t v plan made k l)) ∙ has_at t' made.valid k after.node after.entry after.stands after.among in
          absurd (h.is.other (sym (h.named ∙ single_leaf t v after.entry.number n k had still)))
      by_test true l =
          let p = listed_part plan.parts k l in
          let there : content p.0 ≡ Some after.node = sym (look_part p.0 p.1) ∙ ap (look (with_parts t.nodes plan.parts)) p.2 ∙ after.stands in
          let left : Among n (left_by t.nodes (number_of p.0) after.entry) =
          subst (λ (o : Option ℕ). Among n (other_leaf (number_of p.0) o)) (sym (leaf_is t v n after.entry.number had))
          (subst (λ (b : Bool). Among n (cond b [] (n ∷ []))) (sym (apart_test n (number_of p.0) (λ s. h.is.other (sym p.2 ∙ s ∙ sym h.named)))) (inl refl)) in
          among_flat_map (left_by_part t.nodes) n p.0 plan.parts p.1
          (among_flat_map (left_by t.nodes (number_of p.0)) n after.entry (entries_in (content p.0)) (subst (λ (o : Option Node). Among after.entry (entries_in o)) (sym there) after.among) left)

  pub giver_is : (n : ℕ) → Among n (flat_map (left_by_part t.nodes) plan.parts) ↔ IsGiver (granules t) (granules t') n
  giver_is n = (left_is_giver n, giver_is_left n)
