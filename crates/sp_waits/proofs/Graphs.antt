-- The nodes of the sessions that wait.
use Rattle.std.proofs.Common.{◌≡◌, ℕ, Bool, true, false, ◌||◌, if◌then◌else◌, nat_eq, List, [], ◌∷◌, ◌++◌, map, Option, None, Some, is_some, refl, sym, ap, ◌∙◌, subst, inl, inr, true≢false, arith}
use Rattle.sp_locks.specs.declared.mode.Mode.{Mode}
use Rattle.sp_locks.specs.declared.row.Name.{Name}
use Rattle.sp_locks.specs.declared.row.Row.{Row}
use Rattle.sp_locks.specs.Rows.{waiting_in}
use Rattle.sp_locks.proofs.Members.{numbers-same, numbers-tell}
use Rattle.sp_waits.specs.declared.graph.Node.{Node}
use Rattle.sp_waits.specs.Edges.{member, of_row}
use Rattle.sp_waits.specs.Search.{waits_for}
use Rattle.sp_waits.specs.Levels.{edges_of, In_graph, IsGraph}

module _ (f : ℕ → List ℕ) where
  abbrev pub node : ℕ → Node
  node u = record { session = u; waits_for = f u }

  -- a session has its edges, or no node
  edges-among : (ss : List ℕ) (u : ℕ) → edges_of (map node ss) u ≡ (if member u ss then f u else [])
  edges-among [] u = refl
  edges-among (s ∷ ss) u = go (nat_eq s u) refl (nat_eq u s) refl (edges-among ss u)
    where
      go : (a : Bool) → nat_eq s u ≡ a → (b : Bool) → nat_eq u s ≡ b → edges_of (map node ss) u ≡ (if member u ss then f u else []) → (if a then f s else edges_of (map node ss) u) ≡ (if b || member u ss then f u else [])
      go true e true g rest = ap f (numbers-same s u e)
      go true e false g rest = absurd (true≢false (sym (numbers-tell u s (sym (numbers-same s u e))) ∙ g))
      go false e true g rest = absurd (true≢false (sym (numbers-tell s u (sym (numbers-same u s g))) ∙ e))
      go false e false g rest = rest

  pub all-edges : (ss : List ℕ) → ((u : ℕ) → member u ss ≡ false → f u ≡ []) → edges_of (map node ss) ≡ f
  all-edges ss only = λ i u. each u i
    where
      each : (u : ℕ) → edges_of (map node ss) u ≡ f u
      each u = edges-among ss u ∙ go (member u ss) refl
        where
          go : (b : Bool) → member u ss ≡ b → (if b then f u else []) ≡ f u
          go true e = refl
          go false e = sym (only u e)

  node-of : (ss : List ℕ) (n : Node) → In_graph n (map node ss) → n.waits_for ≡ f n.session
  node-of [] n i = absurd i
  node-of (s ∷ ss) n (inl e) = subst (λ (m : Node). m.waits_for ≡ f m.session) e refl
  node-of (s ∷ ss) n (inr j) = node-of ss n j

  pub is-graph : (ss : List ℕ) → edges_of (map node ss) ≡ f → IsGraph (map node ss)
  is-graph ss all n i = node-of ss n i ∙ ap (λ (g : ℕ → List ℕ). g n.session) (sym all)

member-last : (u s : ℕ) (ss : List ℕ) → member u (ss ++ s ∷ []) ≡ (member u ss || nat_eq u s)
member-last u s [] = swap (nat_eq u s)
  where
    swap : (a : Bool) → (a || false) ≡ (false || a)
    swap a = grind arith
member-last u s (x ∷ xs) = ap (λ b. nat_eq u x || b) (member-last u s xs) ∙ three (nat_eq u x) (member u xs) (nat_eq u s)
  where
    three : (a b c : Bool) → (a || (b || c)) ≡ ((a || b) || c)
    three a b c = grind arith

-- who neither waits nor asks has no edges
pub no-edges : (rows : List Row) (s : ℕ) (name : Name) (mode : Mode) (ss : List ℕ) → ((u : ℕ) → member u ss ≡ is_some (waiting_in u rows)) → (u : ℕ) → member u (ss ++ s ∷ []) ≡ false → waits_for rows s name mode u ≡ []
no-edges rows s name mode ss all u out =
    let k = neither (member u ss) (nat_eq u s) (sym (member-last u s ss) ∙ out) in
    rw k.1 (go (waiting_in u rows) (sym (all u) ∙ k.0))
  where
    neither : (a b : Bool) → (a || b) ≡ false → (a ≡ false) × (b ≡ false)
    neither true b h = absurd (true≢false h)
    neither false b h = (refl, h)

    go : (o : Option Row) → is_some o ≡ false → of_row u rows o ≡ []
    go None h = refl
    go (Some r) h = absurd (true≢false h)
