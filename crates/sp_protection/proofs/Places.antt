-- Where entries stand: each in one leaf, and a plan that is made of a tree leaves them as they are.
use Rattle.std.proofs.Common.{◌≡◌, ℕ, zero, suc, ◌<◌, false, List, [], ◌∷◌, ◌++◌, map, nat_eq, sym, ap, ◌∙◌, subst, inl, inr, true≢false, arith}
use Rattle.std.specs.List.{IsDistinct, Contains, flat_map}
use Rattle.std.proofs.lemmas.List.{map-append}
use Rattle.sp_rect.specs.Plane.{Rectangle}
use Rattle.sp_node.specs.declared.node.Entry.{Entry}
use Rattle.sp_node.specs.declared.plan.Plan.{Plan}
use Rattle.sp_node.specs.Among.{Among}
use Rattle.sp_node.specs.Look.{entries_of_node}
use Rattle.sp_node.specs.Nested.{Body, Place, node}
use Rattle.sp_node.specs.Plan.{planned, IsMadeOf}
use Rattle.sp_node.specs.Table.{Table, IsValid, places_of, entries_of}
use Rattle.sp_node.proofs.Among.{all_among, among_flat_map}
use Rattle.sp_node.proofs.Laws.{one_of_number}
use Rattle.sp_node.proofs.Single.{own}
use Rattle.sp_node.proofs.Standing.{own_all, all_distinct}
use Rattle.sp_node.proofs.Update.{distinct_back}
use Rattle.sp_granule.specs.Granules.{Granule, Standing, standing, granule, granule_of_node, granules}
use Rattle.sp_granule.proofs.Numbered.{number_kept}
use Rattle.sp_protection.specs.Reshape.{SameStandings}
use Rattle.sp_protection.proofs.Choice.{tells}
use Rattle.sp_protection.proofs.Leaves.{among_map, from_map, standing_entry}
use Rattle.sp_protection.proofs.Rearranging.{first_distinct}

numbers_apart : (xs ys : List ℕ) → IsDistinct nat_eq (xs ++ ys) → (n m : ℕ) → Among n xs → Among m ys → n ≡ m → ⊥
numbers_apart [] ys d n m a b e = a
numbers_apart (x ∷ xs) ys d n m (inl s) b e = true≢false (sym (tells x m (sym s ∙ e)) ∙ all_among (λ y. nat_eq x y ≡ false) m (xs ++ ys) (first_distinct x (xs ++ ys) d).0 (there xs))
  where
    there : (zs : List ℕ) → Among m (zs ++ ys)
    there [] = b
    there (z ∷ zs) = inr (there zs)
numbers_apart (x ∷ xs) ys d n m (inr a) b e = numbers_apart xs ys (first_distinct x (xs ++ ys) d).1 n m a b e

-- two places with an entry of one number are one
one_place : (ps : List Place) → IsDistinct nat_eq (map (λ e. e.number) (flat_map own ps)) → (p q : Place) → Among p ps → Among q ps → (e f : Entry) → Among e (own p) → Among f (own q) → e.number ≡ f.number → p ≡ q
one_place [] d p q a b e f i j same = absurd a
one_place (r ∷ ps) d p q a b e f i j same = go a b (λ rest h k. one_place ps rest p q h k e f i j same)
  where
    split : IsDistinct nat_eq (map (λ (x : Entry). x.number) (own r) ++ map (λ (x : Entry). x.number) (flat_map own ps))
    split = subst (IsDistinct nat_eq) (map-append (λ (x : Entry). x.number) (own r) (flat_map own ps)) d

    -- one in front, and one behind
    apart : (s t : Place) (x y : Entry) → s ≡ r → Among t ps → Among x (own s) → Among y (own t) → x.number ≡ y.number → ⊥
    apart s t x y h k l m n =
        numbers_apart (map (λ (z : Entry). z.number) (own r)) (map (λ (z : Entry). z.number) (flat_map own ps)) split x.number y.number
        (among_map (λ (z : Entry). z.number) x (own r) (subst (λ (w : Place). Among x (own w)) h l))
        (among_map (λ (z : Entry). z.number) y (flat_map own ps) (among_flat_map own y t ps k m)) n

    go : Among p (r ∷ ps) → Among q (r ∷ ps) → (IsDistinct nat_eq (map (λ (x : Entry). x.number) (flat_map own ps)) → Among p ps → Among q ps → p ≡ q) → p ≡ q
    go (inl h) (inl k) rest = h ∙ sym k
    go (inl h) (inr k) rest = absurd (apart p q e f h k i j same)
    go (inr h) (inl k) rest = absurd (apart q p f e k h j i (sym same))
    go (inr h) (inr k) rest = rest (distinct_back (map (λ (x : Entry). x.number) (own r)) (map (λ (x : Entry). x.number) (flat_map own ps)) split) h k

-- what stands in a granule is an entry of its node
own_standing : (level number : ℕ) (space : Rectangle) (body : Body level) (x : Standing) → Among x (granule_of_node level number space body).entries → (f : Entry) × Among f (entries_of_node (node level body)) × (standing f ≡ x)
own_standing zero number space body x a = from_map standing x body a
own_standing (suc level) number space body x a = absurd a

record Placed (t : Table) (g : Granule) (x : Standing) : Type 0 where
  place : Place
  among : Among place (places_of t)
  is : granule place ≡ g
  entry : Entry
  has : Among entry (own place)
  same : standing entry ≡ x

placed : (t : Table) (g : Granule) (x : Standing) → Among g (granules t) → Among x g.entries → Placed t g x
unfolding granules
placed t g x i a =
    let p = from_map granule g (places_of t) i in
    let f = own_standing p.0.level p.0.number p.0.space p.0.body x (subst (λ (h : Granule). Among x h.entries) (sym p.2) a) in
    record { place = p.0; among = p.1; is = p.2; entry = f.0; has = f.1; same = f.2 }

pub one_leaf : (t : Table) (g h : Granule) (x y : Standing) → IsValid t → Among g (granules t) → Among x g.entries → Among h (granules t) → Among y h.entries → x.number ≡ y.number → (g ≡ h) × (x ≡ y)
one_leaf t g h x y valid i a j b same =
    let p = placed t g x i a in
    let q = placed t h y j b in
    let number : p.entry.number ≡ q.entry.number = ap (λ (z : Standing). z.number) p.same ∙ same ∙ sym (ap (λ (z : Standing). z.number) q.same) in (
      sym p.is ∙ ap granule (one_place (places_of t) (all_distinct t valid) p.place q.place p.among q.among p.entry q.entry p.has q.has number) ∙ q.is,
      sym p.same ∙ ap standing (one_of_number t valid p.entry q.entry (entry_there p.entry p.place p.among p.has) (entry_there q.entry q.place q.among q.has) number) ∙ q.same,
    )
  where
    entry_there : (f : Entry) (r : Place) → Among r (places_of t) → Among f (own r) → Among f (entries_of t)
    entry_there f r k l = subst (Among f) (own_all t valid) (among_flat_map own f r (places_of t) k l)

contains : {A : Type 0} (x : A) (xs : List A) → Among x xs → Contains xs x
contains x [] i = absurd i
contains x (y ∷ ys) (inl e) = (zero, omega arith, sym e)
contains x (y ∷ ys) (inr i) = let r = contains x ys i in (suc r.0, omega arith, r.2)

pub plan_keeps_standings : (t : Table) (plan : Plan) → IsMadeOf t plan → SameStandings (granules t) (granules (planned t plan))
plan_keeps_standings t plan made g after x y i a j b same =
    let e = standing_entry t g x i a in
    let f = standing_entry (planned t plan) after y j b in
    let number : e.0.number ≡ f.0.number = ap (λ (z : Standing). z.number) e.2 ∙ sym same ∙ sym (ap (λ (z : Standing). z.number) f.2) in
    sym f.2 ∙ ap standing (sym (made.same_entries e.0 f.0 (contains e.0 (entries_of t) e.1) (contains f.0 (entries_of (planned t plan)) f.1) number)) ∙ e.2

-- the numbers of granules are used
pub granule_below_next : (t : Table) (g : Granule) → IsValid t → Among g (granules t) → g.number < t.next
unfolding granules
granule_below_next t g valid i =
    let p = from_map granule g (places_of t) i in
    subst (λ n. n < t.next) (sym (number_kept p.0) ∙ ap (λ (h : Granule). h.number) p.2) (all_among (λ n. n < t.next) p.0.number (map (λ (q : Place). q.number) (places_of t)) valid.below_next (among_map (λ (q : Place). q.number) p.0 (places_of t) p.1))
