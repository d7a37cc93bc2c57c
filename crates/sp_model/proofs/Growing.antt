-- An insertion: it leaves one list of granules, the entries with the new one, and few new numbers.
use Rattle.std.proofs.Common.{◌≡◌, ◌≢◌, ◌⊎◌, ℕ, zero, suc, ◌+◌, ◌*◌, ◌<◌, ◌≤◌, Bool, true, false, cond, nat_eq, List, [], ◌∷◌, ◌++◌, map, length, Some, refl, sym, ap, ◌∙◌, subst, inl, inr, arith}
use Rattle.std.specs.List.{flat_map, sum_by, AllByRecursion}
use Rattle.std.proofs.lemmas.Int.{ints}
use Rattle.std.proofs.lemmas.List.{append-nil, length-append, length-map}
use Rattle.std.proofs.lemmas.List.Sums.{sum_by-append, sum_by-cons}
use Rattle.sp_rect.specs.Plane.{Rectangle, whole}
use Rattle.sp_rect.specs.Inside.{bound_of}
use Rattle.sp_node.specs.declared.node.Entry.{Entry}
use Rattle.sp_node.specs.declared.node.Shape.{Shape}
use Rattle.sp_node.specs.Among.{Among}
use Rattle.sp_node.specs.Look.{look}
use Rattle.sp_node.specs.Nested.{Body, Branch, Place, places, entries, rects, rect_of, AreSound, IsRootSize}
use Rattle.sp_node.specs.Table.{Table, IsShape, IsValid, body_at, level_of, places_of, entries_of}
use Rattle.sp_node.proofs.Among.{among_split}
use Rattle.sp_node.proofs.Lists.{all_unmap}
use Rattle.sp_split.proofs.Unique.{one_split}
use Rattle.sp_grow.specs.Below.{numbers}
use Rattle.sp_grow.specs.Chosen.{IsBetter, IsAsGood}
use Rattle.sp_grow.specs.Insertion.{Outcome, one, two, with_outcome, IsNode, Settles, Grows, here, below}
use Rattle.sp_grow.specs.Members.{pick}
use Rattle.sp_grow.specs.Grown.{IsGrown, IsRoot}
use Rattle.sp_grow.proofs.Numbers.{numbers_places, numbers_left, all_back}
use Rattle.sp_grow.specs.Reached.{new_numbers}
use Rattle.sp_grow.proofs.Counting.{Counted, entries_left, grows_numbers, grows_entries}
use Rattle.sp_granule.specs.Granules.{Granule, granule, granules}
use Rattle.sp_protection.specs.Reshape.{HasNumber}
use Rattle.sp_protection.proofs.Leaves.{among_map, from_map}
use Rattle.sp_protection.specs.Replays.{SameMembers}
use Rattle.sp_model.specs.Plans.{IsInserted}
use Rattle.sp_model.proofs.Sessions.{number-same, number-tell}
use Rattle.sp_model.proofs.Counting.{length-sum}
use Rattle.sp_model.proofs.Dead.{distinct-cons}
use Rattle.sp_model.proofs.Entering.{grown_only}

-- What a sum over a list tells of its members.
module _ {X : Type 0} (w : X → ℕ) where
  pub sum_some : (xs : List X) → 1 ≤ sum_by w xs → (x : X) × Among x xs × (1 ≤ w x)
  sum_some [] h = absurd (omega arith)
  sum_some (x ∷ xs) h = go (w x) refl (sum_some xs)
    where
      go : (n : ℕ) → w x ≡ n → (1 ≤ sum_by w xs → (y : X) × Among y xs × (1 ≤ w y)) → (y : X) × Among y (x ∷ xs) × (1 ≤ w y)
      go zero e rest = let r = rest (let c = sum_by-cons w x xs in omega (arith, c, h, e)) in (r.0, inr r.1, r.2)
      go (suc n) e rest = (x, inl refl, omega (arith, e))

  pub sum_has : (x : X) (xs : List X) → Among x xs → 1 ≤ w x → 1 ≤ sum_by w xs
  sum_has x [] i h = absurd i
  sum_has x (y ∷ ys) (inl e) h = let c = sum_by-cons w y ys in let k : 1 ≤ w y = subst (λ (z : X). 1 ≤ w z) e h in omega (arith, c, k)
  sum_has x (y ∷ ys) (inr i) h = let c = sum_by-cons w y ys in let r = sum_has x ys i h in omega (arith, c, r)

-- whether a number is this one, as a count
abbrev is_it : ℕ → ℕ → ℕ
is_it m n = cond (nat_eq n m) 1 0

it_is : (m n : ℕ) → 1 ≤ is_it m n → n ≡ m
it_is m n h = go (nat_eq n m) refl h
  where
    go : (b : Bool) → nat_eq n m ≡ b → 1 ≤ cond b 1 0 → n ≡ m
    go true e k = number-same n m e
    go false e k = absurd (omega arith)

it_counts : (n : ℕ) → 1 ≤ is_it n n
it_counts n = subst (λ (b : Bool). 1 ≤ cond b 1 0) (sym (number-tell n n refl)) (omega arith)

-- There is one outcome.
not_both : (q a b : Rectangle) → IsBetter q a b → IsAsGood q b a → ⊥
not_both q a b (inl x) (inl y) = omega (arith, ints)
not_both q a b (inl x) (inr y) = let z = y.0 in omega (arith, ints)
not_both q a b (inr x) (inl y) = let z = x.0 in omega (arith, ints)
not_both q a b (inr x) (inr y) = let z = x.1 in let w = y.1 in omega (arith, ints)

module _ {B : Type 0} (q : Rectangle) where
  abbrev Better : Branch B → Branch B → Type 0
  Better b a = IsBetter q b.rect a.rect

  abbrev Good : Branch B → Branch B → Type 0
  Good b a = IsAsGood q b.rect a.rect

  one_way : (front : List (Branch B)) (b : Branch B) (back front' : List (Branch B)) (b' : Branch B) (back' : List (Branch B)) → front ++ b ∷ back ≡ front' ++ b' ∷ back'
      → AllByRecursion (Better b) front → AllByRecursion (Good b) back → AllByRecursion (Better b') front' → AllByRecursion (Good b') back' → (front ≡ front') × (b ≡ b') × (back ≡ back')
  one_way [] b back [] b' back' e f g f' g' = (refl, cc, cc)
  one_way [] b back (x ∷ front') b' back' e f g f' g' =
      let first : b ≡ x = cc in
      let rest : back ≡ front' ++ b' ∷ back' = cc in
      let good = all_back (Good b) front' (b' ∷ back') (subst (AllByRecursion (Good b)) rest g) in
      absurd (not_both q b'.rect b.rect (subst (λ (y : Branch B). IsBetter q b'.rect y.rect) (sym first) f'.0) good.0)
  one_way (x ∷ front) b back [] b' back' e f g f' g' =
      let first : x ≡ b' = cc in
      let rest : front ++ b ∷ back ≡ back' = cc in
      let good = all_back (Good b') front (b ∷ back) (subst (AllByRecursion (Good b')) (sym rest) g') in
      absurd (not_both q b.rect b'.rect (subst (λ (y : Branch B). IsBetter q b.rect y.rect) first f.0) good.0)
  one_way (x ∷ front) b back (y ∷ front') b' back' e f g f' g' =
      let first : x ≡ y = cc in
      let r = one_way front b back front' b' back' (let r : front ++ b ∷ back ≡ front' ++ b' ∷ back' = cc in r) f.1 g f'.1 g' in
      (ap (λ (z : Branch B). z ∷ front) first ∙ ap (λ (zs : List (Branch B)). y ∷ zs) r.0, r.1, r.2)

same_branch : {B : Type 0} (a b : Branch B) → a.rect ≡ b.rect → a.number ≡ b.number → a.body ≡ b.body → a ≡ b
same_branch a b r n m = λ i. record { rect = r i; number = n i; body = m i }

same_node : (level : ℕ) (a b : Branch (Body level)) (number : ℕ) (members : Body level) → IsNode level a number members → IsNode level b number members → a ≡ b
same_node level a b number members h k =
    let m : a.body ≡ b.body = h.has ∙ sym k.has in
    same_branch a b (some (sym h.bounds ∙ ap (λ (z : Body level). bound_of (rects level z)) m ∙ k.bounds)) (h.named ∙ sym k.named) m
  where
    some : {p r : Rectangle} → Some p ≡ Some r → p ≡ r
    some e = cc

module _ (shape : Shape) (v : IsShape shape) where
  one_settles : (level number next : ℕ) (members : Body level) (o : Outcome (Body level)) (n : ℕ) (o' : Outcome (Body level)) (n' : ℕ) → Settles shape level number next members o n → Settles shape level number next members o' n' → (o ≡ o') × (n ≡ n')
  one_settles level number next members (one a) n (one b) n' h k = (ap one (same_node level a b number members h.1 k.1), h.2 ∙ sym k.2)
  one_settles level number next members (one a) n (two b c) n' h k = absurd (apart (length members) shape.max h.0 k.2)
    where
      apart : (m max : ℕ) → m ≤ max → max < m → ⊥
      apart m max a b = omega arith
  one_settles level number next members (two a b) n (one c) n' h k = absurd (apart (length members) shape.max k.0 h.2)
    where
      apart : (m max : ℕ) → m ≤ max → max < m → ⊥
      apart m max a b = omega arith
  one_settles level number next members (two a b) n (two c d) n' h k =
      let s = one_split (rects level members) shape.min (enough (length (rects level members)) (length members) shape.min shape.max (length-map members (rect_of level)) v.half h.2) h.0 h.1 k.0 k.1 h.3 k.3 in
      let x : a ≡ c = same_node level a c number (pick members h.0) h.4 (subst (λ (is : List ℕ). IsNode level c number (pick members is)) (sym s.0) k.4) in
      let y : b ≡ d = same_node level b d next (pick members h.1) h.5 (subst (λ (is : List ℕ). IsNode level d next (pick members is)) (sym s.1) k.5) in
      (ap (λ (z : Branch (Body level)). two z b) x ∙ ap (λ (z : Branch (Body level)). two c z) y, h.6 ∙ sym k.6)
    where
      enough : (n m min max : ℕ) → n ≡ m → 2 * min ≤ max → max < m → 2 * min ≤ n
      enough n m min max e a b = omega arith

  one_grows : (e : Entry) (level number next : ℕ) (body : Body level) (o : Outcome (Body level)) (n : ℕ) (o' : Outcome (Body level)) (n' : ℕ) → Grows shape 0 e level number next body o n → Grows shape 0 e level number next body o' n' → (o ≡ o') × (n ≡ n')
  one_grows e level number next es o n o' n' (here g) (here h) = one_settles zero number next (es ++ e ∷ []) o n o' n' g h
  one_grows e (suc level) number next branches o n o' n' (below front b back under mid split chosen grows settles) (below front' b' back' under' mid' split' chosen' grows' settles') =
      let c = one_way e.rect front b back front' b' back' (sym split ∙ split')
      (all_unmap (λ a. IsBetter e.rect b.rect a) (rect_of (suc level)) front chosen.0) (all_unmap (λ a. IsAsGood e.rect b.rect a) (rect_of (suc level)) back chosen.1)
      (all_unmap (λ a. IsBetter e.rect b'.rect a) (rect_of (suc level)) front' chosen'.0) (all_unmap (λ a. IsAsGood e.rect b'.rect a) (rect_of (suc level)) back' chosen'.1) in
      let lower = one_grows e level b.number next b.body under mid under' mid' grows (subst (λ (x : Branch (Body level)). Grows shape 0 e level x.number next x.body under' mid') (sym c.1) grows') in
      one_settles (suc level) number mid (with_outcome front under back) o n o' n' settles
      (subst (λ (m : ℕ). Settles shape (suc level) number m (with_outcome front under back) o' n') (sym lower.1)
      (subst (λ (f : List (Branch (Body level))). Settles shape (suc level) number mid' (with_outcome f under back) o' n') (sym c.0)
      (subst (λ (u : Outcome (Body level)). Settles shape (suc level) number mid' (with_outcome front' u back) o' n') (sym lower.0)
      (subst (λ (x : List (Branch (Body level))). Settles shape (suc level) number mid' (with_outcome front' under' x) o' n') (sym c.2) settles'))))

-- the nodes that an outcome makes a tree of
abbrev places_left : (level : ℕ) → Outcome (Body level) → ℕ → List Place
places_left level (one a) next = places level a.number whole a.body
places_left level (two a b) next = places (suc level) next whole (a ∷ b ∷ [])

root_places : (level : ℕ) (o : Outcome (Body level)) (next : ℕ) (t : Table) → IsRoot level o next t → places_of t ≡ places_left level o next
root_places level (one a) next t h =
    ap (λ (l : ℕ). places l t.root whole (body_at (look t.nodes) l t.root)) h.2
    ∙ ap (λ (b : Body level). places level t.root whole b) h.3 ∙ ap (λ (n : ℕ). places level n whole a.body) h.0
root_places level (two a b) next t h =
    ap (λ (l : ℕ). places l t.root whole (body_at (look t.nodes) l t.root)) h.2
    ∙ ap (λ (m : Body (suc level)). places (suc level) t.root whole m) h.3 ∙ ap (λ (n : ℕ). places (suc level) n whole (a ∷ b ∷ [])) h.0

-- all trees after an insertion have the same granules
pub grown_granules : (t : Table) (e : Entry) (t' t'' : Table) → IsShape t.shape → IsGrown t e t' → IsGrown t e t'' → granules t' ≡ granules t''
unfolding granules
grown_granules t e t' t'' v g h =
    let s = one_grows t.shape v e (level_of t) t.root t.next (body_at (look t.nodes) (level_of t) t.root) g.outcome g.next h.outcome h.next g.grows h.grows in
    ap (map granule)
    (root_places (level_of t) g.outcome g.next t' g.root
    ∙ ap (λ (o : Outcome (Body (level_of t))). places_left (level_of t) o g.next) s.0
    ∙ ap (λ (n : ℕ). places_left (level_of t) h.outcome n) s.1
    ∙ sym (root_places (level_of t) h.outcome h.next t'' h.root))

-- The entries are those before it with the new one, as sums.
root_sum : (w : Entry → ℕ) (level : ℕ) (o : Outcome (Body level)) (next : ℕ) (t : Table) → IsRoot level o next t → sum_by w (entries_of t) ≡ sum_by w (entries_left level o)
root_sum w level (one a) next t h = ap (λ (l : ℕ). sum_by w (entries l (body_at (look t.nodes) l t.root))) h.2 ∙ ap (λ (b : Body level). sum_by w (entries level b)) h.3
root_sum w level (two a b) next t h =
    let x : sum_by w (entries_of t) ≡ sum_by w (entries level a.body ++ (entries level b.body ++ [])) = ap (λ (l : ℕ). sum_by w (entries l (body_at (look t.nodes) l t.root))) h.2 ∙ ap (λ (m : Body (suc level)). sum_by w (entries (suc level) m)) h.3 in
    omega (arith, x, sum_by-append w (entries level a.body) (entries level b.body ++ []), sum_by-append w (entries level b.body) [], sum_by-append w (entries level a.body) (entries level b.body))

pub grown_sum : (t : Table) (e : Entry) (t' : Table) → IsShape t.shape → IsGrown t e t' → (w : Entry → ℕ) → sum_by w (entries_of t') ≡ sum_by w (entries_of t) + w e
grown_sum t e t' v g w =
    let left = root_sum w (level_of t) g.outcome g.next t' g.root in
    let more = grows_entries t.shape v w 0 e (level_of t) t.root t.next (body_at (look t.nodes) (level_of t) t.root) g.outcome g.next g.grows in
    omega (arith, left, more, sum_by-cons w e [])

-- an entry of the number of each that stood there, and of the new one, stands in the tree
pub grown_has : (t : Table) (e : Entry) (t' : Table) → IsShape t.shape → IsGrown t e t' → (f : Entry) → (f ≡ e) ⊎ Among f (entries_of t) → (g : Entry) × Among g (entries_of t') × (g.number ≡ f.number)
grown_has t e t' v g f how = let r = sum_some (λ (z : Entry). is_it f.number z.number) (entries_of t') (enough how) in (r.0, r.1, it_is f.number r.0.number r.2)
  where
    all : sum_by (λ (z : Entry). is_it f.number z.number) (entries_of t') ≡ sum_by (λ (z : Entry). is_it f.number z.number) (entries_of t) + is_it f.number e.number
    all = grown_sum t e t' v g (λ (z : Entry). is_it f.number z.number)

    enough : (f ≡ e) ⊎ Among f (entries_of t) → 1 ≤ sum_by (λ (z : Entry). is_it f.number z.number) (entries_of t')
    enough (inl s) = let k : 1 ≤ is_it f.number e.number = subst (λ (z : Entry). 1 ≤ is_it f.number z.number) s (it_counts f.number) in let a = all in omega (arith, a, k)
    enough (inr i) = let k = sum_has (λ (z : Entry). is_it f.number z.number) f (entries_of t) i (it_counts f.number) in let a = all in omega (arith, a, k)

-- The numbers of nodes.
among_new : (next c n : ℕ) → Among n (new_numbers next c) → next ≤ n
among_new next zero n i = absurd i
among_new next (suc c) n i = go (among_split n (new_numbers next c) ((next + c) ∷ []) i) (among_new next c n)
  where
    go : Among n (new_numbers next c) ⊎ Among n ((next + c) ∷ []) → (Among n (new_numbers next c) → next ≤ n) → next ≤ n
    go (inl j) rest = rest j
    go (inr (inl e)) rest = subst (λ (m : ℕ). next ≤ m) (sym e) (omega arith)
    go (inr (inr none)) rest = absurd none

-- a node of the tree that is left is the new root, or one of the outcome
among_left_numbers : (level : ℕ) (o : Outcome (Body level)) (next n : ℕ) → Among n (map (λ (p : Place). p.number) (places_left level o next)) → (n ≡ next) ⊎ Among n (numbers_left level o)
among_left_numbers level (one a) next n i = inr (subst (Among n) (numbers_places level a.number whole a.body) i)
among_left_numbers level (two a b) next n i = go (subst (Among n) (numbers_places (suc level) next whole (a ∷ b ∷ [])) i)
  where
    go : Among n (next ∷ (numbers level a.number a.body ++ (numbers level b.number b.body ++ []))) → (n ≡ next) ⊎ Among n (numbers level a.number a.body ++ numbers level b.number b.body)
    go (inl e) = inl e
    go (inr j) = inr (subst (λ (ns : List ℕ). Among n (numbers level a.number a.body ++ ns)) (append-nil (numbers level b.number b.body)) j)

pub grown_numbers : (t : Table) (e : Entry) (t' : Table) → IsShape t.shape → IsGrown t e t' → (g : Granule) → Among g (granules t') → HasNumber (granules t) g.number ⊎ (t.next ≤ g.number)
unfolding granules
grown_numbers t e t' v g h i =
    let p = from_map granule h (places_of t') i in
    go p.0 (ap (λ (z : Granule). z.number) (sym p.2)) (among_left_numbers (level_of t) g.outcome g.next p.0.number (subst (λ (ps : List Place). Among p.0.number (map (λ (z : Place). z.number) ps)) (root_places (level_of t) g.outcome g.next t' g.root) (among_map (λ (z : Place). z.number) p.0 (places_of t') p.1)))
  where
    counted : Counted t.next g.next (numbers (level_of t) t.root (body_at (look t.nodes) (level_of t) t.root)) (numbers_left (level_of t) g.outcome)
    counted = subst (λ (ns : List ℕ). Counted t.next g.next ns (numbers_left (level_of t) g.outcome)) (append-nil (numbers (level_of t) t.root (body_at (look t.nodes) (level_of t) t.root))) (grows_numbers t.shape v 0 e (level_of t) t.root t.next (body_at (look t.nodes) (level_of t) t.root) g.outcome g.next g.grows)

    named : (p : Place) → (granule p).number ≡ p.number
    named p = at p.level p.body
      where
        at : (level : ℕ) (body : Body level) → (granule (record { number = p.number; space = p.space; level = level; body = body })).number ≡ p.number
        at zero body = refl
        at (suc level) body = refl

    old : (n : ℕ) → Among n (numbers (level_of t) t.root (body_at (look t.nodes) (level_of t) t.root)) → HasNumber (map granule (places_of t)) n
    old n j =
        let q = from_map (λ (z : Place). z.number) n (places_of t) (subst (Among n) (sym (numbers_places (level_of t) t.root whole (body_at (look t.nodes) (level_of t) t.root))) j) in
        (granule q.0, among_map granule q.0 (places_of t) q.1, named q.0 ∙ q.2)

    go : (p : Place) → h.number ≡ (granule p).number → (p.number ≡ g.next) ⊎ Among p.number (numbers_left (level_of t) g.outcome) → HasNumber (map granule (places_of t)) h.number ⊎ (t.next ≤ h.number)
    go p is (inl root) = let a = is ∙ named p ∙ root in let b = counted.is in inr (omega (arith, a, b))
    go p is (inr j) = by (sum_has (is_it p.number) p.number (numbers_left (level_of t) g.outcome) j (it_counts p.number))
      where
        at : h.number ≡ p.number
        at = is ∙ named p

        by : 1 ≤ sum_by (is_it p.number) (numbers_left (level_of t) g.outcome) → HasNumber (map granule (places_of t)) h.number ⊎ (t.next ≤ h.number)
        by some = split (sum_by (is_it p.number) (numbers (level_of t) t.root (body_at (look t.nodes) (level_of t) t.root))) refl
          where
            split : (n : ℕ) → sum_by (is_it p.number) (numbers (level_of t) t.root (body_at (look t.nodes) (level_of t) t.root)) ≡ n → HasNumber (map granule (places_of t)) h.number ⊎ (t.next ≤ h.number)
            split zero z =
                let s = counted.sums (is_it p.number) in
                let r = sum_some (is_it p.number) (new_numbers t.next counted.count) (omega (arith, s, z, some)) in
                inr (subst (λ (n : ℕ). t.next ≤ n) (it_is p.number r.0 r.2 ∙ sym at) (among_new t.next counted.count r.0 r.1))
            split (suc n) z =
                let r = sum_some (is_it p.number) (numbers (level_of t) t.root (body_at (look t.nodes) (level_of t) t.root)) (omega (arith, z)) in
                inl (subst (HasNumber (map granule (places_of t))) (it_is p.number r.0 r.2 ∙ sym at) (old r.0 r.1))

-- few numbers are new: one a level and one for the root
grows_next : (shape : Shape) (e : Entry) (level number next : ℕ) (body : Body level) (o : Outcome (Body level)) (n : ℕ) → Grows shape 0 e level number next body o n → (next ≤ n) × (n ≤ next + level + 1)
grows_next shape e level number next es (one a) n (here g) = let h = g.2 in (omega (arith, h), omega (arith, h))
grows_next shape e level number next es (two a b) n (here g) = let h = g.6 in (omega (arith, h), omega (arith, h))
grows_next shape e (suc level) number next branches (one a) n (below front b back under mid split chosen grows settles) =
    let r = grows_next shape e level b.number next b.body under mid grows in
    let c = r.0 in let d = r.1 in let h = settles.2 in
    (omega (arith, c, d, h), omega (arith, c, d, h))
grows_next shape e (suc level) number next branches (two a z) n (below front b back under mid split chosen grows settles) =
    let r = grows_next shape e level b.number next b.body under mid grows in
    let c = r.0 in let d = r.1 in let h = settles.6 in
    (omega (arith, c, d, h), omega (arith, c, d, h))

root_next : (level : ℕ) (o : Outcome (Body level)) (next : ℕ) (t : Table) → IsRoot level o next t → (next ≤ t.next) × (t.next ≤ next + 1)
root_next level (one a) next t h = let e = h.1 in (omega (arith, e), omega (arith, e))
root_next level (two a b) next t h = let e = h.1 in (omega (arith, e), omega (arith, e))

pub grown_next : (t : Table) (e : Entry) (t' : Table) → IsGrown t e t' → (t.next ≤ t'.next) × (t'.next ≤ t.next + level_of t + 2)
grown_next t e t' g =
    let a = grows_next t.shape e (level_of t) t.root t.next (body_at (look t.nodes) (level_of t) t.root) g.outcome g.next g.grows in
    let b = root_next (level_of t) g.outcome g.next t' g.root in
    let c = a.0 in let d = a.1 in let x = b.0 in let y = b.1 in
    (omega (arith, c, x), omega (arith, d, y))

-- a tree has more entries than levels
many_entries : (shape : Shape) → 2 ≤ shape.min → (level : ℕ) (body : Body level) → AreSound shape level body → 2 ≤ length body → level + 2 ≤ length (entries level body)
many_entries shape least zero es sound many = omega (arith, many)
many_entries shape least (suc level) [] sound many = absurd (none many)
  where
    none : 2 ≤ 0 → ⊥
    none h = omega arith
many_entries shape least (suc level) (b ∷ []) sound many = absurd (few many)
  where
    few : 2 ≤ 1 → ⊥
    few h = omega arith
many_entries shape least (suc level) (b ∷ c ∷ rest) sound many =
    let x = many_entries shape least level b.body sound.0.3 (reach shape.min (length b.body) least sound.0.1) in
    let y = many_entries shape least level c.body sound.1.0.3 (reach shape.min (length c.body) least sound.1.0.1) in
    let l = length-append (entries level b.body) (entries level c.body ++ flat_map (λ (z : Branch (Body level)). entries level z.body) rest) in
    let m = length-append (entries level c.body) (flat_map (λ (z : Branch (Body level)). entries level z.body) rest) in
    more level (length (entries level b.body)) (length (entries level c.body)) (length (flat_map (λ (z : Branch (Body level)). entries level z.body) rest)) (length (entries level c.body ++ flat_map (λ (z : Branch (Body level)). entries level z.body) rest)) _ x y m l
  where
    reach : (min n : ℕ) → 2 ≤ min → min ≤ n → 2 ≤ n
    reach min n a b = omega arith

    more : (level a b c d n : ℕ) → level + 2 ≤ a → level + 2 ≤ b → d ≡ b + c → n ≡ a + d → suc level + 2 ≤ n
    more level a b c d n x y e f = omega arith

pub few_levels : (t : Table) → IsValid t → level_of t ≤ length (entries_of t)
few_levels t valid = go (level_of t) (body_at (look t.nodes) (level_of t) t.root) valid.sound valid.root_size
  where
    go : (level : ℕ) (body : Body level) → AreSound t.shape level body → IsRootSize t.shape level (length body) → level ≤ length (entries level body)
    go zero body sound size = omega arith
    go (suc level) body sound size = let m = many_entries t.shape valid.shape.least (suc level) body sound size.0 in omega (arith, m)

-- What stands in a tree after the insertion of an entry whose number it does not have.
module _ (t : Table) (e : Entry) (t' : Table) (valid : IsValid t) (inserted : IsInserted t e t') (unused : (f : Entry) → Among f (entries_of t) → f.number ≢ e.number) where
  pub entered_only : (f : Entry) → Among f (entries_of t') → (f ≡ e) ⊎ Among f (entries_of t)
  entered_only = grown_only t e t' inserted.grown

  pub entered_new : Among e (entries_of t')
  entered_new = let g = grown_has t e t' valid.shape inserted.grown e (inl refl) in go g.0 g.1 g.2 (entered_only g.0 g.1)
    where
      go : (g : Entry) → Among g (entries_of t') → g.number ≡ e.number → (g ≡ e) ⊎ Among g (entries_of t) → Among e (entries_of t')
      go g i n (inl same) = subst (λ (z : Entry). Among z (entries_of t')) same i
      go g i n (inr old) = absurd (unused g old n)

  pub entered_old : (f : Entry) → Among f (entries_of t) → Among f (entries_of t')
  entered_old f i = let g = grown_has t e t' valid.shape inserted.grown f (inr i) in subst (λ (z : Entry). Among z (entries_of t')) (sym (inserted.same f g.0 i g.1 (sym g.2))) g.1

  pub entered_members : (test : Entry → Bool) → SameMembers test (e ∷ entries_of t) (entries_of t')
  entered_members test = record {
    distinct = distinct-cons e.number (map (λ f. f.number) (entries_of t)) (λ i. let f = from_map (λ (z : Entry). z.number) e.number (entries_of t) i in unused f.0 f.1 f.2) valid.distinct_entries;
    distinct_others = inserted.valid.distinct_entries;
    there = λ f i h. there f i;
    back = λ f i h. back f (entered_only f i);
  }
    where
      there : (f : Entry) → Among f (e ∷ entries_of t) → Among f (entries_of t')
      there f (inl same) = subst (λ (z : Entry). Among z (entries_of t')) (sym same) entered_new
      there f (inr i) = entered_old f i

      back : (f : Entry) → (f ≡ e) ⊎ Among f (entries_of t) → Among f (e ∷ entries_of t)
      back f (inl same) = inl same
      back f (inr i) = inr i

  pub entered_length : length (entries_of t') ≡ length (entries_of t) + 1
  entered_length = let a = length-sum (entries_of t') in let b = length-sum (entries_of t) in let c = grown_sum t e t' valid.shape inserted.grown (λ z. 1) in omega (arith, a, b, c)
