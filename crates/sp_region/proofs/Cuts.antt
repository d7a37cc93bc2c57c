-- What a cut adds: at most four strips, which have each point that is left once.
use Rattle.std.proofs.Common.{◌≡◌, ℕ, ◌+◌, ◌≤◌, Bool, true, false, ◌&&◌, ◌||◌, not, ℤ, ◌≤ℤ◌, ◌<ℤ◌, List, [], ◌∷◌, ◌++◌, length, map, Option, Some, None, refl, sym, ap, ◌∙◌, arith, append_assoc, zero-add}
use Rattle.std.proofs.lemmas.List.{append-nil}
use Rattle.std.specs.List.{count_by}
use Rattle.std.specs.Int.Signed.{le_z}
use Rattle.std.proofs.lemmas.Int.{ints}
use Rattle.std.proofs.lemmas.List.Sums.{sum_by-cons}
use Rattle.sp_rect.specs.Plane.{Rectangle, Point, holds, IsRectangle}
use Rattle.sp_region.specs.declared.pieces.Piece.{Piece}
use Rattle.sp_region.specs.Region.{held_by}
use Rattle.sp_region.specs.Cut.{left_of, right_of, beneath, above, one, piece, pieces_of, IsCut}
use Rattle.sp_region.proofs.Strips.{beyond}

-- the four sides of a rectangle have each point out of it once: h of the rectangle that is cut, a and b of the
-- left and the right end, c and d of the lower and the upper one
sides : (h a b c d : Bool) → (a || b) ≡ true → (c || d) ≡ true → one (h && not a) + (one (h && not b) + (one (h && (a && b && not c)) + one (h && (a && b && not d)))) ≡ one (h && not (a && b && c && d))
sides false a b c d e f = refl
sides true true true true true e f = refl
sides true true true true false e f = refl
sides true true true false true e f = refl
sides true true true false false e f = cc
sides true true false c d e f = refl
sides true false true c d e f = refl
sides true false false c d e f = cc

not_out : (x y : ℤ) → x ≤ℤ y → (z : ℤ) → (s t : Bool) → le_z x z ≡ s → le_z z y ≡ t → (s || t) ≡ true
not_out x y h z true t p q = refl
not_out x y h z false true p q = refl
not_out x y h z false false p q =
    let low : z <ℤ x = beyond x z (ap not p) in
    let high : y <ℤ z = beyond z y (ap not q) in
    absurd (omega (arith, ints))

-- a list with a strip in front, if there is one
front : Option Rectangle → List Rectangle → List Rectangle
front None xs = xs
front (Some r) xs = r ∷ xs

module _ (p : Point) where
  times : List Rectangle → ℕ
  times xs = count_by (λ s. holds s p) xs

  count_front : (a : Option Rectangle) (xs : List Rectangle) → count_by (λ s. holds s p) (front a xs) ≡ one (held_by a p) + count_by (λ s. holds s p) xs
  unfolding front
  count_front None xs = sym (zero-add (count_by (λ s. holds s p) xs))
  count_front (Some r) xs = sum_by-cons (λ s. one (holds s p)) r xs

length_front : (a : Option Rectangle) (xs : List Rectangle) → length (front a xs) ≤ length xs + 1
unfolding front
length_front None xs = omega arith
length_front (Some r) xs = omega arith

map_front : (n : ℕ) (a : Option Rectangle) (xs : List Rectangle) → map (λ s. piece s n) (front a xs) ≡ pieces_of a n ++ map (λ s. piece s n) xs
unfolding front
map_front n None xs = refl
map_front n (Some r) xs = refl

module _ (r o : Rectangle) (w : IsRectangle o) (a b c d : Option Rectangle) (n : ℕ) where
  strips : List Rectangle
  strips = front a (front b (front c (front d [])))

  points :
      (p : Point) → held_by a p ≡ (holds r p && left_of o p) → held_by b p ≡ (holds r p && right_of o p) → held_by c p ≡ (holds r p && beneath o p) → held_by d p ≡ (holds r p && above o p)
      → count_by (λ s. holds s p) strips ≡ one (holds r p && not (holds o p))
  unfolding strips
  points p ea eb ec ed =
      let n1 = count_front p a (front b (front c (front d []))) in
      let n2 = count_front p b (front c (front d [])) in
      let n3 = count_front p c (front d []) in
      let n4 = count_front p d [] in
      let e1 : one (held_by a p) ≡ one (holds r p && left_of o p) = ap one ea in
      let e2 : one (held_by b p) ≡ one (holds r p && right_of o p) = ap one eb in
      let e3 : one (held_by c p) ≡ one (holds r p && beneath o p) = ap one ec in
      let e4 : one (held_by d p) ≡ one (holds r p && above o p) = ap one ed in
      let s = sides (holds r p) (le_z o.x1 p.x) (le_z p.x o.x2) (le_z o.y1 p.y) (le_z p.y o.y2) (not_out o.x1 o.x2 w.across p.x _ _ refl refl) (not_out o.y1 o.y2 w.along p.y _ _ refl refl) in
      let none : count_by (λ s. holds s p) [] ≡ 0 = refl in
      let all : count_by (λ s. holds s p) (front a (front b (front c (front d [])))) ≡ one (holds r p && left_of o p) + (one (holds r p && right_of o p) + (one (holds r p && beneath o p) + one (holds r p && above o p))) = omega arith in
      all ∙ s

  added : (old new1 new2 new3 new4 : List Piece) → new1 ≡ old ++ pieces_of a n → new2 ≡ new1 ++ pieces_of b n → new3 ≡ new2 ++ pieces_of c n → new4 ≡ new3 ++ pieces_of d n → new4 ≡ old ++ map (λ s. piece s n) strips
  unfolding strips
  added old new1 new2 new3 new4 e1 e2 e3 e4 =
      e4 ∙ ap (λ xs. xs ++ pieces_of d n) (e3 ∙ ap (λ xs. xs ++ pieces_of c n) (e2 ∙ ap (λ xs. xs ++ pieces_of b n) e1))
      ∙ simp append_assoc
      (ap (λ xs. old ++ (pieces_of a n ++ (pieces_of b n ++ (pieces_of c n ++ xs)))) (sym (map_front n d [] ∙ append_nil))
      ∙ ap (λ xs. old ++ (pieces_of a n ++ (pieces_of b n ++ xs))) (sym (map_front n c (front d [])))
      ∙ ap (λ xs. old ++ (pieces_of a n ++ xs)) (sym (map_front n b (front c (front d []))))
      ∙ ap (λ xs. old ++ xs) (sym (map_front n a (front b (front c (front d []))))))
    where
      append_nil : pieces_of d n ++ [] ≡ pieces_of d n
      append_nil = simp append-nil

  pub cut_of :
      (old new1 new2 new3 new4 : List Piece)
      → ((p : Point) → held_by a p ≡ (holds r p && left_of o p)) → ((p : Point) → held_by b p ≡ (holds r p && right_of o p)) → ((p : Point) → held_by c p ≡ (holds r p && beneath o p)) → ((p : Point) → held_by d p ≡ (holds r p && above o p))
      → new1 ≡ old ++ pieces_of a n → new2 ≡ new1 ++ pieces_of b n → new3 ≡ new2 ++ pieces_of c n → new4 ≡ new3 ++ pieces_of d n → IsCut r o n old new4
  unfolding strips
  cut_of old new1 new2 new3 new4 fa fb fc fd e1 e2 e3 e4 = record {
    strips = strips;
    added = added old new1 new2 new3 new4 e1 e2 e3 e4;
    few = (let l1 = length_front a (front b (front c (front d []))) in
        let l2 = length_front b (front c (front d [])) in
        let l3 = length_front c (front d []) in
        let l4 = length_front d [] in omega arith);
    points = λ p. points p (fa p) (fb p) (fc p) (fd p);
  }
