-- Granules by their numbers, and the spaces of nodes below the root.
use Rattle.std.proofs.Common.{◌≡◌, ℕ, zero, suc, Bool, true, false, cond, ◌||◌, List, [], ◌∷◌, Option, Some, None, is_some, map, refl, sym, ap, ◌∙◌, inl, inr, arith}
use Rattle.std.specs.Prelude.{nat_eq}
use Rattle.std.specs.List.{AllByRecursion, IsDistinct, flat_map, list_any}
use Rattle.std.specs.Option.{option_map}
use Rattle.std.proofs.lemmas.Bool.Decides.{nat_tests}
use Rattle.std.proofs.lemmas.Cmp.{nat_eq_equiv}
use Rattle.std.proofs.lemmas.Map.Keys.{IsDistinct-head, IsDistinct-tail}
use Rattle.sp_rect.specs.Plane.{Rectangle, whole}
use Rattle.sp_rect.specs.Inside.{bound_of}
use Rattle.sp_node.specs.declared.node.Node.{Node}
use Rattle.sp_node.specs.declared.node.Shape.{Shape}
use Rattle.sp_node.specs.Among.{Among}
use Rattle.sp_node.specs.Look.{look}
use Rattle.sp_node.specs.Nested.{Body, Branch, Place, places, node, rects, rect_of, AreSound}
use Rattle.sp_node.specs.Table.{Table, places_of, body_at, level_of, IsValid}
use Rattle.sp_node.specs.Standing.{IsNodeOf, HasNoNode}
use Rattle.sp_node.proofs.Among.{all_among}
use Rattle.sp_node.proofs.Lists.{all_imply, all_append}
use Rattle.sp_granule.specs.Granules.{Granule, granule, granule_of_node, granules, numbered, space_of, member_rects}

self_equal : (k : ℕ) → nat_eq k k ≡ true
self_equal k = grind (arith, nat_tests)

equal_from : (j k : ℕ) → nat_eq j k ≡ true → j ≡ k
equal_from j k e = grind (arith, nat_tests)

granule-number : (level n : ℕ) (space : Rectangle) (body : Body level) → (granule_of_node level n space body).number ≡ n
granule-number zero n space body = refl
granule-number (suc level) n space body = refl

granule-space : (level n : ℕ) (space : Rectangle) (body : Body level) → (granule_of_node level n space body).space ≡ space
granule-space zero n space body = refl
granule-space (suc level) n space body = refl

pub number_kept : (p : Place) → (granule p).number ≡ p.number
number_kept p = granule-number p.level p.number p.space p.body

pub space_kept : (p : Place) → (granule p).space ≡ p.space
space_kept p = granule-space p.level p.number p.space p.body

-- no granule has a number that no place has
pub unnumbered : (ps : List Place) (n : ℕ) → list_any (nat_eq n) (map (λ p. p.number) ps) ≡ false → numbered (map granule ps) n ≡ None
unnumbered [] n h = refl
unnumbered (p ∷ ps) n h = by_test (nat_eq n p.number) refl h (unnumbered ps n)
  where
    by_test : (b : Bool) → nat_eq n p.number ≡ b → (b || list_any (nat_eq n) (map (λ (p : Place). p.number) ps)) ≡ false → (list_any (nat_eq n) (map (λ (p : Place). p.number) ps) ≡ false → numbered (map granule ps) n ≡ None) → numbered (map granule (p ∷ ps)) n ≡ None
    by_test true e h f = cc
    by_test false e h f = ap (λ (b : Bool). cond b (Some (granule p)) (numbered (map granule ps) n)) (ap (nat_eq n) (number_kept p) ∙ e) ∙ f h

-- the granule of a place is found by its number
pub numbered_among : (ps : List Place) (p : Place) → IsDistinct nat_eq (map (λ p. p.number) ps) → Among p ps → numbered (map granule ps) p.number ≡ Some (granule p)
numbered_among [] p d a = absurd a
numbered_among (r ∷ ps) p d (inl e) =
    ap (λ (b : Bool). cond b (Some (granule r)) (numbered (map granule ps) p.number)) (ap (nat_eq p.number) (number_kept r) ∙ ap (λ (x : Place). nat_eq p.number x.number) (sym e) ∙ self_equal p.number)
    ∙ ap (λ (x : Place). Some (granule x)) (sym e)
numbered_among (r ∷ ps) p d (inr a) =
    ap (λ (b : Bool). cond b (Some (granule r)) (numbered (map granule ps) p.number)) (ap (nat_eq p.number) (number_kept r) ∙ nat_eq_equiv.symm p.number r.number ∙ apart ps (IsDistinct-head nat_eq r.number (map (λ (x : Place). x.number) ps) d) a)
    ∙ numbered_among ps p (IsDistinct-tail nat_eq r.number (map (λ (x : Place). x.number) ps) d) a
  where
    apart : (ps : List Place) → AllByRecursion (λ n. nat_eq r.number n ≡ false) (map (λ (x : Place). x.number) ps) → Among p ps → nat_eq r.number p.number ≡ false
    apart [] h a = absurd a
    apart (x ∷ xs) h (inl s) = ap (λ (z : Place). nat_eq r.number z.number) s ∙ h.0
    apart (x ∷ xs) h (inr a) = apart xs h.1 a

-- the space is the bound of what is in the node
abbrev pub IsTight : Place → Type 0
IsTight p = bound_of (rects p.level p.body) ≡ Some p.space

all_flat_map : {X Y : Type 0} (P : Y → Type 0) (f : X → List Y) (xs : List X) → AllByRecursion (λ x. AllByRecursion P (f x)) xs → AllByRecursion P (flat_map f xs)
all_flat_map P f [] h = tt
all_flat_map P f (x ∷ xs) h = all_append P (f x) (flat_map f xs) h.0 (all_flat_map P f xs h.1)

module _ (shape : Shape) where
  pub tight : (level number : ℕ) (space : Rectangle) (body : Body level) → bound_of (rects level body) ≡ Some space → AreSound shape level body → AllByRecursion IsTight (places level number space body)
  tight zero number space body e sound = (e, tt)
  tight (suc level) number space branches e sound = (e, all_flat_map IsTight (λ b. places level b.number b.rect b.body) branches (all_imply {Q = λ b. AllByRecursion IsTight (places level b.number b.rect b.body)} (λ b h. tight level b.number b.rect b.body h.0 h.3) branches sound))

  pub tight_below : (level : ℕ) (branches : List (Branch (Body level))) → AreSound shape (suc level) branches → AllByRecursion IsTight (flat_map (λ b. places level b.number b.rect b.body) branches)
  tight_below level branches sound = all_flat_map IsTight (λ b. places level b.number b.rect b.body) branches (all_imply {Q = λ b. AllByRecursion IsTight (places level b.number b.rect b.body)} (λ b h. tight level b.number b.rect b.body h.0 h.3) branches sound)

rects_of_node : (level : ℕ) (body : Body level) → member_rects (node level body) ≡ rects level body
rects_of_node zero body = refl
rects_of_node (suc level) branches = same branches
  where
    same : (bs : List (Branch (Body level))) → member_rects (node (suc level) bs) ≡ map (rect_of (suc level)) bs
    same [] = refl
    same (b ∷ bs) = ap (λ rs. b.rect ∷ rs) (same bs)

module _ (t : Table) (v : IsValid t) where
  pub root_space : space_of (granules t) t.root ≡ Some whole
  unfolding granules
  root_space = first (level_of t) (body_at (look t.nodes) (level_of t) t.root)
    where
      first : (level : ℕ) (body : Body level) → space_of (map granule (places level t.root whole body)) t.root ≡ Some whole
      first zero body = ap (λ (b : Bool). option_map (λ (g : Granule). g.space) (cond b (Some (granule_of_node 0 t.root whole body)) None)) (self_equal t.root)
      first (suc level) body =
          ap (λ (b : Bool). option_map (λ (g : Granule). g.space) (cond b (Some (granule_of_node (suc level) t.root whole body)) (numbered (map granule (flat_map (λ b. places level b.number b.rect b.body) body)) t.root))) (self_equal t.root)

  pub no_space : (n : ℕ) → HasNoNode t n → space_of (granules t) n ≡ None
  unfolding granules
  no_space n h = ap (option_map (λ (g : Granule). g.space)) (unnumbered (places_of t) n h)

  below_root : (n : ℕ) (p : Place) → ¬ (n ≡ t.root) → p.number ≡ n → Among p (places_of t) → IsTight p
  below_root n p apart e a = split (level_of t) (body_at (look t.nodes) (level_of t) t.root) v.sound a
    where
      split : (level : ℕ) (body : Body level) → AreSound t.shape level body → Among p (places level t.root whole body) → IsTight p
      split zero body sound (inl s) = absurd (apart (sym e ∙ ap (λ (x : Place). x.number) s))
      split zero body sound (inr b) = absurd b
      split (suc level) body sound (inl s) = absurd (apart (sym e ∙ ap (λ (x : Place). x.number) s))
      split (suc level) body sound (inr b) = all_among IsTight p (flat_map (λ b. places level b.number b.rect b.body) body) (tight_below t.shape level body sound) b

  pub place_space : (n : ℕ) (m : Node) → ¬ (n ≡ t.root) → IsNodeOf t n m → (bound_of (member_rects m) ≡ space_of (granules t) n) × (is_some (bound_of (member_rects m)) ≡ true)
  unfolding granules
  place_space n m apart h =
      let p = h.place in
      let bound : bound_of (member_rects m) ≡ Some p.space = ap (λ (x : Node). bound_of (member_rects x)) h.is ∙ ap bound_of (rects_of_node p.level p.body) ∙ below_root n p apart h.named h.among in
      let found : numbered (granules t) n ≡ Some (granule p) = ap (numbered (map granule (places_of t))) (sym h.named) ∙ numbered_among (places_of t) p v.distinct h.among in
      (bound ∙ ap (λ (s : Rectangle). Some s) (sym (space_kept p)) ∙ ap (option_map (λ (g : Granule). g.space)) (sym found), ap (λ (o : Option Rectangle). is_some o) bound)
