-- An insertion brings the new entry, and no other.
use Rattle.std.proofs.Common.{◌≡◌, ◌⊎◌, ℕ, zero, suc, List, [], ◌∷◌, ◌++◌, refl, sym, subst, inl, inr}
use Rattle.std.specs.Prelude.{slice_get}
use Rattle.std.specs.Option.{option_to_list}
use Rattle.sp_node.specs.declared.node.Entry.{Entry}
use Rattle.sp_node.specs.declared.node.Shape.{Shape}
use Rattle.sp_node.specs.Among.{Among}
use Rattle.sp_node.specs.Look.{look}
use Rattle.sp_node.specs.Nested.{Body, Branch, entries}
use Rattle.sp_node.specs.Table.{Table, body_at, level_of, entries_of}
use Rattle.sp_node.proofs.Among.{among_left, among_right, among_split, among_flat_map, from_flat_map}
use Rattle.sp_grow.specs.Insertion.{Outcome, one, two, with_outcome, Settles, Grows, here, below}
use Rattle.sp_grow.specs.Members.{pick}
use Rattle.sp_grow.specs.Grown.{IsGrown, IsRoot}

module _ {A : Type 0} (x : A) where
  at_place : (xs : List A) (i : ℕ) → Among x (option_to_list (slice_get xs i)) → Among x xs
  at_place [] i h = absurd h
  at_place (y ∷ ys) zero (inl e) = inl e
  at_place (y ∷ ys) zero (inr none) = absurd none
  at_place (y ∷ ys) (suc i) h = inr (at_place ys i h)

  of_pick : (xs : List A) (is : List ℕ) → Among x (pick xs is) → Among x xs
  of_pick xs [] h = absurd h
  of_pick xs (i ∷ is) h = go (of_pick xs is) (among_split x (option_to_list (slice_get xs i)) (pick xs is) h)
    where
      go : (Among x (pick xs is) → Among x xs) → Among x (option_to_list (slice_get xs i)) ⊎ Among x (pick xs is) → Among x xs
      go rest (inl a) = at_place xs i a
      go rest (inr b) = rest b

module _ (shape : Shape) (f : Entry) where
  -- the entry stands in what is left of a node
  abbrev InOutcome : (level : ℕ) → Outcome (Body level) → Type 0
  InOutcome level (one a) = Among f (entries level a.body)
  InOutcome level (two a b) = Among f (entries level a.body) ⊎ Among f (entries level b.body)

  entries-pick : (level : ℕ) (members : Body level) (is : List ℕ) → Among f (entries level (pick members is)) → Among f (entries level members)
  entries-pick zero es is h = of_pick f es is h
  entries-pick (suc level) bs is h =
      let r = from_flat_map (λ (b : Branch (Body level)). entries level b.body) f (pick bs is) h in
      among_flat_map (λ (b : Branch (Body level)). entries level b.body) f r.0 bs (of_pick r.0 bs is r.1) r.2

  settles_from : (level number next : ℕ) (members : Body level) (outcome : Outcome (Body level)) (next' : ℕ) → Settles shape level number next members outcome next' → InOutcome level outcome → Among f (entries level members)
  settles_from level number next members (one a) next' h i = subst (λ (m : Body level). Among f (entries level m)) h.1.has i
  settles_from level number next members (two a b) next' h (inl i) = entries-pick level members h.0 (subst (λ (m : Body level). Among f (entries level m)) h.4.has i)
  settles_from level number next members (two a b) next' h (inr i) = entries-pick level members h.1 (subst (λ (m : Body level). Among f (entries level m)) h.5.has i)

  -- in a branch of those that are left, or below the one that changed
  with_from : (level : ℕ) (front : List (Branch (Body level))) (b : Branch (Body level)) (outcome : Outcome (Body level)) (back : List (Branch (Body level))) (c : Branch (Body level))
      → Among c (with_outcome front outcome back) → Among f (entries level c.body) → InOutcome level outcome ⊎ Among c (front ++ b ∷ back)
  with_from level front b (one a) back c i j = go (among_split c front (a ∷ back) i)
    where
      go : Among c front ⊎ Among c (a ∷ back) → InOutcome level (one a) ⊎ Among c (front ++ b ∷ back)
      go (inl k) = inr (among_left c front (b ∷ back) k)
      go (inr (inl e)) = inl (subst (λ (z : Branch (Body level)). Among f (entries level z.body)) e j)
      go (inr (inr k)) = inr (among_right c front (b ∷ back) (inr k))
  with_from level front b (two a d) back c i j = go (among_split c front (a ∷ (back ++ d ∷ [])) i)
    where
      last : Among c back ⊎ Among c (d ∷ []) → InOutcome level (two a d) ⊎ Among c (front ++ b ∷ back)
      last (inl k) = inr (among_right c front (b ∷ back) (inr k))
      last (inr (inl e)) = inl (inr (subst (λ (z : Branch (Body level)). Among f (entries level z.body)) e j))
      last (inr (inr none)) = absurd none

      go : Among c front ⊎ Among c (a ∷ (back ++ d ∷ [])) → InOutcome level (two a d) ⊎ Among c (front ++ b ∷ back)
      go (inl k) = inr (among_left c front (b ∷ back) k)
      go (inr (inl e)) = inl (inl (subst (λ (z : Branch (Body level)). Among f (entries level z.body)) e j))
      go (inr (inr k)) = last (among_split c back (d ∷ []) k)

  grows_from : (e : Entry) (level number next : ℕ) (body : Body level) (outcome : Outcome (Body level)) (next' : ℕ) → Grows shape 0 e level number next body outcome next' → InOutcome level outcome → (f ≡ e) ⊎ Among f (entries level body)
  grows_from e level number next es outcome next' (here h) i = go (among_split f es (e ∷ []) (settles_from zero number next (es ++ e ∷ []) outcome next' h i))
    where
      go : Among f es ⊎ Among f (e ∷ []) → (f ≡ e) ⊎ Among f es
      go (inl j) = inr j
      go (inr (inl s)) = inl s
      go (inr (inr none)) = absurd none
  grows_from e (suc level) number next branches outcome next' (below front b back under mid split chosen grows settles) i =
      let r = from_flat_map (λ (z : Branch (Body level)). entries level z.body) f (with_outcome front under back) (settles_from (suc level) number mid (with_outcome front under back) outcome next' settles i) in
      go (grows_from e level b.number next b.body under mid grows) r.0 (with_from level front b under back r.0 r.1 r.2) r.2
    where
      stands : (c : Branch (Body level)) → Among c (front ++ b ∷ back) → Among f (entries level c.body) → Among f (entries (suc level) branches)
      stands c k j = subst (λ (bs : List (Branch (Body level))). Among f (entries (suc level) bs)) (sym split) (among_flat_map (λ (z : Branch (Body level)). entries level z.body) f c (front ++ b ∷ back) k j)

      under_b : (f ≡ e) ⊎ Among f (entries level b.body) → (f ≡ e) ⊎ Among f (entries (suc level) branches)
      under_b (inl s) = inl s
      under_b (inr j) = inr (stands b (among_right b front (b ∷ back) (inl refl)) j)

      go : (InOutcome level under → (f ≡ e) ⊎ Among f (entries level b.body)) → (c : Branch (Body level)) → InOutcome level under ⊎ Among c (front ++ b ∷ back) → Among f (entries level c.body) → (f ≡ e) ⊎ Among f (entries (suc level) branches)
      go rest c (inl k) j = under_b (rest k)
      go rest c (inr k) j = inr (stands c k j)

  root_from : (level : ℕ) (outcome : Outcome (Body level)) (next : ℕ) (t' : Table) → IsRoot level outcome next t' → Among f (entries_of t') → InOutcome level outcome
  root_from level (one a) next t' h i =
      subst (λ (b : Body level). Among f (entries level b)) h.3 (subst (λ (l : ℕ). Among f (entries l (body_at (look t'.nodes) l t'.root))) h.2 i)
  root_from level (two a b) next t' h i = go (among_split f (entries level a.body) (entries level b.body ++ [])
      (subst (λ (m : Body (suc level)). Among f (entries (suc level) m)) h.3 (subst (λ (l : ℕ). Among f (entries l (body_at (look t'.nodes) l t'.root))) h.2 i)))
    where
      go : Among f (entries level a.body) ⊎ Among f (entries level b.body ++ []) → InOutcome level (two a b)
      go (inl j) = inl j
      go (inr j) = last (among_split f (entries level b.body) [] j)
        where
          last : Among f (entries level b.body) ⊎ Among f [] → InOutcome level (two a b)
          last (inl k) = inr k
          last (inr none) = absurd none

-- what stands in a tree after an insertion is the new entry, or stood there
pub grown_only : (t : Table) (e : Entry) (t' : Table) → IsGrown t e t' → (f : Entry) → Among f (entries_of t') → (f ≡ e) ⊎ Among f (entries_of t)
grown_only t e t' g f i =
    grows_from t.shape f e (level_of t) t.root t.next (body_at (look t.nodes) (level_of t) t.root) g.outcome g.next g.grows
    (root_from t.shape f (level_of t) g.outcome g.next t' g.root i)
