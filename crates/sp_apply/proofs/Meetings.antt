-- The granule of a node, and what it meets.
use Rattle.std.proofs.Common.{◌≡◌, ℕ, zero, suc, ◌+◌, ◌<◌, ◌↔◌, ◌⊎◌, Bool, true, false, true≢false, not, ◌&&◌, List, [], ◌∷◌, ◌++◌, map, length, take, get_or, Some, Ok, Err, refl, sym, ap, ◌∙◌, subst, inl, inr, arith}
use Rattle.std.specs.Prelude.{nat_eq, IsTrue, IfOk, Result}
use Rattle.std.specs.Option.{option_map}
use Rattle.std.proofs.lemmas.List.{take_more}
use Rattle.sp_rect.specs.Plane.{Rectangle, holds}
use Rattle.sp_region.specs.Region.{is_left, Overlap}
use Rattle.sp_node.specs.declared.node.Node.{Node}
use Rattle.sp_node.specs.Among.{Among}
use Rattle.sp_node.specs.Nested.{Body, Branch, Place, node}
use Rattle.sp_node.specs.Standing.{IsNodeOf, HasNoNode}
use Rattle.sp_node.specs.Table.{Table, places_of, IsValid}
use Rattle.sp_node.proofs.Among.{among_split}
use Rattle.sp_granule.specs.Granules.{Granule, granule, granule_of_node, granules, numbered, space_of, IsMeeting}
use Rattle.sp_granule.proofs.Numbered.{number_kept, numbered_among}
use Rattle.sp_ops.specs.Changes.{holes_in}
use Rattle.sp_protection.proofs.Leaves.{among_map, from_map}
use Rattle.sp_model.proofs.Holding.{among-any}
use Rattle.sp_model.proofs.Sessions.{number-tell}

some_same : {A : Type 0} (x y : A) → Some x ≡ Some y → x ≡ y
some_same x y e = cc

-- places of a table are its granules
pub granule_in : (t : Table) (p : Place) → Among p (places_of t) → Among (granule p) (granules t)
unfolding granules
granule_in t p i = among_map granule p (places_of t) i

pub place_of : (t : Table) (g : Granule) → Among g (granules t) → (p : Place) × Among p (places_of t) × (granule p ≡ g)
unfolding granules
place_of t g i = from_map granule g (places_of t) i

numbered_at : (t : Table) → IsValid t → (p : Place) → Among p (places_of t) → numbered (granules t) p.number ≡ Some (granule p)
unfolding granules
numbered_at t v p i = numbered_among (places_of t) p v.distinct i

-- the granules of one number are one
one_granule : (t : Table) → IsValid t → (p : Place) (g : Granule) → Among p (places_of t) → Among g (granules t) → g.number ≡ p.number → g ≡ granule p
one_granule t v p g i j e =
    let q = place_of t g j in
    let same : q.0.number ≡ p.number = sym (number_kept q.0) ∙ ap (λ (h : Granule). h.number) q.2 ∙ e in
    sym q.2 ∙ some_same (granule q.0) (granule p) (sym (numbered_at t v q.0 q.1) ∙ ap (numbered (granules t)) same ∙ numbered_at t v p i)

-- the holes of a granule are those that its node leaves
holes_are : (level n : ℕ) (s : Rectangle) (body : Body level) → (granule_of_node level n s body).holes ≡ holes_in (node level body)
holes_are zero n s body = refl
holes_are (suc level) n s branches = same branches
  where
    same : (bs : List (Branch (Body level))) → map (λ b. b.rect) bs ≡ holes_in (node (suc level) bs)
    same [] = refl
    same (b ∷ bs) = ap (λ (rs : List Rectangle). b.rect ∷ rs) (same bs)

both : (a b : Bool) → (a && (b && not false)) ≡ true → (a ≡ true) × (b ≡ true)
both true true h = (refl, refl)
both true false h = absurd (true≢false (sym h))
both false b h = absurd (true≢false (sym h))

joined : (a b : Bool) → a ≡ true → b ≡ true → (a && (b && not false)) ≡ true
joined true true h k = refl
joined true false h k = absurd (true≢false (sym k))
joined false b h k = absurd (true≢false (sym h))

-- the area of a node's granule and a rectangle have a point in common
pub meets_is : (t : Table) (n : ℕ) (m : Node) (space rect : Rectangle) (holes none : List Rectangle) → IsValid t → IsNodeOf t n m → Some space ≡ space_of (granules t) n → holes ≡ holes_in m → none ≡ []
    → Overlap space holes rect none ↔ IsMeeting (granules t) rect n
meets_is t n m space rect holes none v at spaces are nothing = (
  λ o. let h = both (is_left space holes o.0) (holds rect o.0) (subst (λ (rs : List Rectangle). IsTrue (is_left space holes o.0 && is_left rect rs o.0)) nothing o.1) in
      (o.0, h.1, (granule p, granule_in t p at.among, number_kept p ∙ at.named, subst (λ (s : Rectangle). is_left s (granule p).holes o.0 ≡ true) space_is (subst (λ (rs : List Rectangle). is_left space rs o.0 ≡ true) holes_is h.0))),
  λ o.
      let g = one_granule t v p o.2.0 at.among o.2.1 (o.2.2 ∙ sym at.named) in
      let inside : is_left (granule p).space (granule p).holes o.0 ≡ true = subst (λ (x : Granule). is_left x.space x.holes o.0 ≡ true) g o.2.3 in
      let left : is_left space holes o.0 ≡ true = subst (λ (rs : List Rectangle). is_left space rs o.0 ≡ true) (sym holes_is) (subst (λ (s : Rectangle). is_left s (granule p).holes o.0 ≡ true) (sym space_is) inside) in
      (o.0, subst (λ (rs : List Rectangle). IsTrue (is_left space holes o.0 && is_left rect rs o.0)) (sym nothing) (joined (is_left space holes o.0) (holds rect o.0) left o.1)),
)
  where
    p : Place
    p = at.place

    space_is : space ≡ (granule p).space
    space_is = some_same space (granule p).space (spaces ∙ ap (space_of (granules t)) (sym at.named) ∙ ap (option_map (λ (g : Granule). g.space)) (numbered_at t v p at.among))

    holes_is : holes ≡ (granule p).holes
    holes_is = are ∙ ap holes_in at.is ∙ sym (holes_are p.level p.number p.space p.body)

-- a number without a node meets nothing
pub meets_none : (t : Table) (n : ℕ) (rect : Rectangle) → HasNoNode t n → IsMeeting (granules t) rect n → ⊥
meets_none t n rect none o =
    let q = place_of t o.2.0 o.2.1 in
    let named : n ≡ q.0.number = sym (sym (number_kept q.0) ∙ ap (λ (h : Granule). h.number) q.2 ∙ o.2.2) in
    true≢false (sym (among-any (nat_eq n) q.0.number (map (λ p. p.number) (places_of t)) (among_map (λ (p : Place). p.number) q.0 (places_of t) q.1) (number-tell n q.0.number named)) ∙ none)

-- one more of a list
pub among_item : {X : Type 0} (xs : List X) (i : ℕ) (x : X) → i < length xs → x ≡ get_or xs i x → Among x xs
among_item [] i x l e = absurd (omega (arith, l))
among_item (y ∷ ys) zero x l e = inl e
among_item (y ∷ ys) (suc i) x l e = inr (among_item ys i x (omega (arith, l)) e)

pub among_more : {X : Type 0} (xs : List X) (i : ℕ) (x z : X) → i < length xs → x ≡ get_or xs i x → Among z (take (i + 1) xs) → Among z (take i xs) ⊎ (z ≡ x)
among_more {X} xs i x z l e a = go (among_split z (take i xs) (get_or xs i x ∷ []) (subst (λ (ys : List X). Among z ys) (take_more xs i x l) a))
  where
    go : Among z (take i xs) ⊎ Among z (get_or xs i x ∷ []) → Among z (take i xs) ⊎ (z ≡ x)
    go (inl b) = inl b
    go (inr (inl s)) = inr (s ∙ sym e)
    go (inr (inr n)) = absurd n

pub more_among : {X : Type 0} (xs : List X) (i : ℕ) (x z : X) → i < length xs → x ≡ get_or xs i x → Among z (take i xs) ⊎ (z ≡ x) → Among z (take (i + 1) xs)
more_among {X} xs i x z l e h = subst (λ (ys : List X). Among z ys) (sym (take_more xs i x l)) (go h)
  where
    left : (ys zs : List X) → Among z ys → Among z (ys ++ zs)
    left [] zs a = absurd a
    left (y ∷ ys) zs (inl s) = inl s
    left (y ∷ ys) zs (inr a) = inr (left ys zs a)

    right : (ys zs : List X) → Among z zs → Among z (ys ++ zs)
    right [] zs a = a
    right (y ∷ ys) zs a = inr (right ys zs a)

    go : Among z (take i xs) ⊎ (z ≡ x) → Among z (take i xs ++ get_or xs i x ∷ [])
    go (inl a) = left (take i xs) (get_or xs i x ∷ []) a
    go (inr s) = right (take i xs) (get_or xs i x ∷ []) (inl (s ∙ e))

pub by_overlap : {E : Type 0} (r : Result Bool E) (P Q : Type 0) → P ↔ Q → IfOk r (λ b. IsTrue b ↔ P) → IfOk r (λ b. IsTrue b ↔ Q)
by_overlap (Ok b) P Q h k = (λ e. h.0 (k.0 e), λ q. k.1 (h.1 q))
by_overlap (Err e) P Q h k = tt

pub none_more : (t : Table) (n : ℕ) (rects : List Rectangle) (i : ℕ) (rect : Rectangle) → i < length rects → rect ≡ get_or rects i rect → ((r : Rectangle) → Among r (take i rects) → IsMeeting (granules t) r n → ⊥)
    → (b : Bool) → b ≡ false → (IsMeeting (granules t) rect n → IsTrue b) → (r : Rectangle) → Among r (take (i + 1) rects) → IsMeeting (granules t) r n → ⊥
none_more t n rects i rect within is so_far b off told r a m = go (among_more rects i rect r within is a)
  where
    go : Among r (take i rects) ⊎ (r ≡ rect) → ⊥
    go (inl j) = so_far r j m
    go (inr e) = true≢false (sym (told (subst (λ (q : Rectangle). IsMeeting (granules t) q n) e m)) ∙ off)

pub if_ok : {A E : Type 0} (r : Result A E) (P Q : A → Type 0) → ((a : A) → P a → Q a) → IfOk r P → IfOk r Q
if_ok (Ok a) P Q f h = f a h
if_ok (Err e) P Q f h = tt
