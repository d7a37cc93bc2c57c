-- Laws of valid trees: a node's space encloses what stands in it, and entries have distinct numbers.
use Rattle.std.proofs.Common.{◌≡◌, ℕ, zero, suc, List, [], ◌∷◌, fold, Some, arith, sym, ap, subst, ◌∙◌}
use Rattle.std.specs.List.{AllByRecursion}
use Rattle.std.proofs.lemmas.Int.{ints, clamps}
use Rattle.sp_rect.specs.Plane.{Rectangle, IsRectangle, Encloses, bound, whole}
use Rattle.sp_rect.specs.Inside.{Inside, bound_of, inside_bound_of}
use Rattle.sp_node.specs.declared.node.Entry.{Entry}
use Rattle.sp_node.specs.declared.node.Shape.{Shape}
use Rattle.sp_node.specs.Among.{Among}
use Rattle.sp_node.specs.Index.{entry_of}
use Rattle.sp_node.specs.Look.{look, entries_of_node}
use Rattle.sp_node.specs.Nested.{Body, Place, places, rects, node, entries, AreSound}
use Rattle.sp_node.specs.Table.{Table, level_of, IsValid, places_of, entries_of, body_at}
use Rattle.sp_node.proofs.Among.{all_among}
use Rattle.sp_node.proofs.Frame.{all_flat_map, all_from_flat_map}
use Rattle.sp_node.proofs.Lists.{all_imply, all_map, all_unmap, all_both}
use Rattle.sp_node.proofs.Single.{own}
use Rattle.sp_node.proofs.Standing.{entry_of_among}

inside_bound : (a b s : Rectangle) → Inside a s → Inside b s → Inside (bound a b) s
inside_bound a b s h k = record { left = omega (arith, ints, clamps); right = omega (arith, ints, clamps); lower = omega (arith, ints, clamps); upper = omega (arith, ints, clamps) }

fold_inside : (a s : Rectangle) (rs : List Rectangle) → Inside a s → AllByRecursion (λ r. Inside r s) rs → Inside (fold bound a rs) s
fold_inside a s [] h k = h
fold_inside a s (r ∷ rs) h k = fold_inside (bound a r) s rs (inside_bound a r s h k.0) k.1

some_is : (a b : Rectangle) → Some a ≡ Some b → a ≡ b
some_is a b e = cc

-- the bound of what lies inside a rectangle lies inside it
pub bound_inside : (rs : List Rectangle) (b s : Rectangle) → bound_of rs ≡ Some b → AllByRecursion (λ r. Inside r s) rs → Inside b s
bound_inside [] b s e h = cc
bound_inside (r ∷ rs) b s e h = subst (λ (x : Rectangle). Inside x s) (some_is _ _ e) (fold_inside r s rs h.0 h.1)

module _ (shape : Shape) where
  -- the rectangles of a node lie inside what its entries lie inside
  pub rects_inside : (s : Rectangle) (level : ℕ) (body : Body level) → AreSound shape level body → AllByRecursion (λ e. Inside e.rect s) (entries level body) → AllByRecursion (λ r. Inside r s) (rects level body)
  rects_inside s zero es sound h = all_map (λ r. Inside r s) (λ e. e.rect) es h
  rects_inside s (suc level) bs sound h =
      all_map (λ r. Inside r s) (λ b. b.rect) bs (all_imply (λ b k. bound_inside (rects level b.body) b.rect s k.0.0 (rects_inside s level b.body k.0.3 k.1)) bs (all_both _ _ bs sound (all_from_flat_map (λ (e : Entry). Inside e.rect s) (λ b. entries level b.body) bs h)))

  -- each place encloses its entries
  pub places_enclose : (level number : ℕ) (space : Rectangle) (body : Body level) → AreSound shape level body → AllByRecursion (λ r. Inside r space) (rects level body) → AllByRecursion (λ p. AllByRecursion (λ e. Inside e.rect p.space) (own p)) (places level number space body)
  places_enclose zero number space es sound h = (all_unmap (λ r. Inside r space) (λ e. e.rect) es h, tt)
  places_enclose (suc level) number space bs sound h = (tt, all_flat_map _ (λ b. places level b.number b.rect b.body) bs (all_imply (λ b k. places_enclose level b.number b.rect b.body k.3 (inside_bound_of (rects level b.body) b.rect k.0)) bs sound))

in_whole : (r : Rectangle) → IsRectangle r → Inside r whole
in_whole r v = record { left = omega (arith, ints); right = omega (arith, ints); lower = omega (arith, ints); upper = omega (arith, ints) }

pub encloses_from_inside : (r s : Rectangle) → Inside r s → Encloses s r
encloses_from_inside r s i p h = record { from_left = omega (arith, ints); to_right = omega (arith, ints); from_below = omega (arith, ints); to_above = omega (arith, ints) }

module _ (t : Table) (v : IsValid t) where
  -- a leaf's space encloses its entries
  pub leaf_encloses : (p : Place) → Among p (places_of t) → (e : Entry) → Among e (entries_of_node (node p.level p.body)) → Inside e.rect p.space
  leaf_encloses p a e b =
      let body = body_at (look t.nodes) (level_of t) t.root in
      let inside = rects_inside t.shape whole (level_of t) body v.sound (all_imply (λ x k. in_whole x.rect k) (entries (level_of t) body) v.in_space) in
      let each = places_enclose t.shape (level_of t) t.root whole body v.sound inside in
      all_among (λ (x : Entry). Inside x.rect p.space) e (own p) (all_among (λ (q : Place). AllByRecursion (λ (x : Entry). Inside x.rect q.space) (own q)) p (places_of t) each a) b

  -- each point of an entry is one of its leaf's space
  pub leaf_has_points : (p : Place) → Among p (places_of t) → (e : Entry) → Among e (entries_of_node (node p.level p.body)) → Encloses p.space e.rect
  leaf_has_points p a e b = encloses_from_inside e.rect p.space (leaf_encloses p a e b)

  -- entries have distinct numbers: what two of them share is what one has
  pub one_of_number : (e f : Entry) → Among e (entries_of t) → Among f (entries_of t) → e.number ≡ f.number → e ≡ f
  one_of_number e f a b n = some_entry e f (sym (entry_of_among t v e a) ∙ ap (entry_of t.nodes) n ∙ entry_of_among t v f b)
    where
      some_entry : (e f : Entry) → Some e ≡ Some f → e ≡ f
      some_entry e f k = cc
