-- Levels, one after another, and where they end.
use Rattle.std.proofs.Common.{◌≡◌, ◌≢◌, ◌⊎◌, ℕ, ◌+◌, ◌<◌, ◌≤◌, zero, suc, Bool, true, false, not, ◌&&◌, ◌||◌, if◌then◌else◌, nat_eq, nat_le, List, [], ◌∷◌, ◌++◌, length, map, filter, refl, sym, ap, ◌∙◌, subst, inl, inr, true≢false, arith}
use Rattle.std.specs.List.{list_any}
use Rattle.std.proofs.lemmas.Bool.Decides.{nat_tests}
use Rattle.sp_locks.proofs.Members.{numbers-same, numbers-tell, first_of_both, second_of_both, both}
use Rattle.sp_waits.specs.declared.graph.Node.{Node}
use Rattle.sp_waits.specs.declared.levels.Step.{Step}
use Rattle.sp_waits.specs.Edges.{member}
use Rattle.sp_waits.specs.Levels.{edges_of, is_at, is_reached, leads_to, is_new, stepped, level, Goes, In_graph, IsGraph, AreLevels}

pub any-append : {A : Type 0} (test : A → Bool) (xs ys : List A) → list_any test (xs ++ ys) ≡ (list_any test xs || list_any test ys)
any-append test [] ys = refl
any-append {A} test (x ∷ xs) ys = ap (λ b. test x || b) (any-append test xs ys) ∙ three (test x) (list_any test xs) (list_any test ys)
  where
    three : (a b c : Bool) → (a || (b || c)) ≡ ((a || b) || c)
    three a b c = grind arith

pub or-cases : (a b : Bool) → (a || b) ≡ true → (a ≡ true) ⊎ (b ≡ true)
or-cases true b h = inl refl
or-cases false b h = inr h

pub or-left : (a b : Bool) → a ≡ true → (a || b) ≡ true
or-left a b h = grind arith

pub or-right : (a b : Bool) → b ≡ true → (a || b) ≡ true
or-right a b h = grind arith

flip : (b : Bool) → not b ≡ true → b ≡ false
flip b h = grind arith

unflip : (b : Bool) → b ≡ false → not b ≡ true
unflip b h = grind arith

-- whether the first is below the second or not
pub below-or : (a b : ℕ) → a ≤ b → (a ≡ b) ⊎ (a < b)
below-or a b h = go (nat_eq a b) refl
  where
    apart : (a b : ℕ) → a ≤ b → nat_eq a b ≡ false → a < b
    apart a b h e = grind (arith, nat_tests)

    go : (c : Bool) → nat_eq a b ≡ c → (a ≡ b) ⊎ (a < b)
    go true e = inl (numbers-same a b e)
    go false e = inr (apart a b h e)

pub le-or : (a b : ℕ) → (a ≤ b) ⊎ (b < a)
le-or a b = go (nat_le a b) refl
  where
    yes : (a b : ℕ) → nat_le a b ≡ true → a ≤ b
    yes a b e = grind (arith, nat_tests)

    no : (a b : ℕ) → nat_le a b ≡ false → b < a
    no a b e = grind (arith, nat_tests)

    go : (c : Bool) → nat_le a b ≡ c → (a ≤ b) ⊎ (b < a)
    go true e = inl (yes a b e)
    go false e = inr (no a b e)

-- a session that is reached is so in some number of steps
pub reached-at : (v : ℕ) (R : List Step) → is_reached v R ≡ true → (e : ℕ) × (is_at v e R ≡ true)
reached-at v [] h = absurd (true≢false (sym h))
reached-at v (x ∷ xs) h = go (or-cases (nat_eq x.session v) (is_reached v xs) h) (reached-at v xs)
  where
    go : (nat_eq x.session v ≡ true) ⊎ (is_reached v xs ≡ true) → (is_reached v xs ≡ true → (e : ℕ) × (is_at v e xs ≡ true)) → (e : ℕ) × (is_at v e (x ∷ xs) ≡ true)
    go (inl e) rest = (x.steps, or-left (nat_eq x.session v && nat_eq x.steps x.steps) (is_at v x.steps xs) (both (nat_eq x.session v) (nat_eq x.steps x.steps) e (numbers-tell x.steps x.steps refl)))
    go (inr k) rest = let r = rest k in (r.0, or-right (nat_eq x.session v && nat_eq x.steps r.0) (is_at v r.0 xs) r.1)

pub at-reached : (v e : ℕ) (R : List Step) → is_at v e R ≡ true → is_reached v R ≡ true
at-reached v e [] h = absurd (true≢false (sym h))
at-reached v e (x ∷ xs) h = go (or-cases (nat_eq x.session v && nat_eq x.steps e) (is_at v e xs) h) (at-reached v e xs)
  where
    go : ((nat_eq x.session v && nat_eq x.steps e) ≡ true) ⊎ (is_at v e xs ≡ true) → (is_at v e xs ≡ true → is_reached v xs ≡ true) → is_reached v (x ∷ xs) ≡ true
    go (inl k) rest = or-left (nat_eq x.session v) (is_reached v xs) (first_of_both (nat_eq x.session v) (nat_eq x.steps e) k)
    go (inr k) rest = or-right (nat_eq x.session v) (is_reached v xs) (rest k)

pub leads-one : (d : ℕ) (R : List Step) (vs : List ℕ) → leads_to d R vs ≡ true → (v : ℕ) × (member v vs ≡ true) × (is_at v d R ≡ true)
leads-one d R [] h = absurd (true≢false (sym h))
leads-one d R (v ∷ vs) h = go (or-cases (is_at v d R) (leads_to d R vs) h) (leads-one d R vs)
  where
    go : (is_at v d R ≡ true) ⊎ (leads_to d R vs ≡ true) → (leads_to d R vs ≡ true → (w : ℕ) × (member w vs ≡ true) × (is_at w d R ≡ true)) → (w : ℕ) × (member w (v ∷ vs) ≡ true) × (is_at w d R ≡ true)
    go (inl k) rest = (v, or-left (nat_eq v v) (member v vs) (numbers-tell v v refl), k)
    go (inr k) rest = let r = rest k in (r.0, or-right (nat_eq r.0 v) (member r.0 vs) r.1, r.2)

pub one-leads : (d : ℕ) (R : List Step) (vs : List ℕ) (v : ℕ) → member v vs ≡ true → is_at v d R ≡ true → leads_to d R vs ≡ true
one-leads d R [] v m h = absurd (true≢false (sym m))
one-leads d R (w ∷ vs) v m h = go (or-cases (nat_eq v w) (member v vs) m) (one-leads d R vs v)
  where
    go : (nat_eq v w ≡ true) ⊎ (member v vs ≡ true) → (member v vs ≡ true → is_at v d R ≡ true → leads_to d R vs ≡ true) → leads_to d R (w ∷ vs) ≡ true
    go (inl e) rest = or-left (is_at w d R) (leads_to d R vs) (subst (λ (u : ℕ). is_at u d R ≡ true) (numbers-same v w e) h)
    go (inr k) rest = or-right (is_at w d R) (leads_to d R vs) (rest k h)

-- a session with edges has a node
pub has-node : (graph : List Node) (u v : ℕ) → member v (edges_of graph u) ≡ true → (n : Node) × In_graph n graph × (n.session ≡ u)
has-node [] u v m = absurd (true≢false (sym m))
has-node (n ∷ ns) u v m = go (nat_eq n.session u) refl m (has-node ns u v)
  where
    go : (b : Bool) → nat_eq n.session u ≡ b → member v (if b then n.waits_for else edges_of ns u) ≡ true → (member v (edges_of ns u) ≡ true → (k : Node) × In_graph k ns × (k.session ≡ u)) → (k : Node) × In_graph k (n ∷ ns) × (k.session ≡ u)
    go true e m rest = (n, inl refl, numbers-same n.session u e)
    go false e m rest = let r = rest m in (r.0, inr r.1, r.2)

-- what stands on the next level
pub level-one : (d : ℕ) (R : List Step) (ns : List Node) (v e : ℕ) → is_at v e (level d R ns) ≡ true → (e ≡ d + 1) × ((n : Node) × In_graph n ns × (n.session ≡ v) × (is_new d R n ≡ true))
level-one d R [] v e h = absurd (true≢false (sym h))
level-one d R (n ∷ ns) v e h = go (is_new d R n) refl h (level-one d R ns v e)
  where
    here : is_new d R n ≡ true → ((nat_eq n.session v && nat_eq (d + 1) e) ≡ true) ⊎ (is_at v e (level d R ns) ≡ true) → (is_at v e (level d R ns) ≡ true → (e ≡ d + 1) × ((k : Node) × In_graph k ns × (k.session ≡ v) × (is_new d R k ≡ true)))
        → (e ≡ d + 1) × ((k : Node) × In_graph k (n ∷ ns) × (k.session ≡ v) × (is_new d R k ≡ true))
    here new (inl k) rest = (sym (numbers-same (d + 1) e (second_of_both (nat_eq n.session v) (nat_eq (d + 1) e) k)), (n, inl refl, numbers-same n.session v (first_of_both (nat_eq n.session v) (nat_eq (d + 1) e) k), new))
    here new (inr k) rest = let r = rest k in (r.0, (r.1.0, inr r.1.1, r.1.2, r.1.3))

    go : (b : Bool) → is_new d R n ≡ b → is_at v e (map (stepped d) (if b then n ∷ filter (is_new d R) ns else filter (is_new d R) ns)) ≡ true → (is_at v e (level d R ns) ≡ true → (e ≡ d + 1) × ((k : Node) × In_graph k ns × (k.session ≡ v) × (is_new d R k ≡ true)))
        → (e ≡ d + 1) × ((k : Node) × In_graph k (n ∷ ns) × (k.session ≡ v) × (is_new d R k ≡ true))
    go true new h rest = here new (or-cases (nat_eq n.session v && nat_eq (d + 1) e) (is_at v e (level d R ns)) h) rest
    go false old h rest = let r = rest h in (r.0, (r.1.0, inr r.1.1, r.1.2, r.1.3))

pub one-level : (d : ℕ) (R : List Step) (ns : List Node) (n : Node) → In_graph n ns → is_new d R n ≡ true → is_at n.session (d + 1) (level d R ns) ≡ true
one-level d R [] n i new = absurd i
one-level d R (m ∷ ms) n i new = go (is_new d R m) refl i (one-level d R ms n)
  where
    go : (b : Bool) → is_new d R m ≡ b → (m ≡ n) ⊎ In_graph n ms → (In_graph n ms → is_new d R n ≡ true → is_at n.session (d + 1) (level d R ms) ≡ true)
        → is_at n.session (d + 1) (map (stepped d) (if b then m ∷ filter (is_new d R) ms else filter (is_new d R) ms)) ≡ true
    go true k (inl e) rest =
        or-left (nat_eq m.session n.session && nat_eq (d + 1) (d + 1)) (is_at n.session (d + 1) (level d R ms))
        (both (nat_eq m.session n.session) (nat_eq (d + 1) (d + 1)) (numbers-tell m.session n.session (ap (λ (q : Node). q.session) e)) (numbers-tell (d + 1) (d + 1) refl))
    go true k (inr j) rest = or-right (nat_eq m.session n.session && nat_eq (d + 1) (d + 1)) (is_at n.session (d + 1) (level d R ms)) (rest j new)
    go false k (inl e) rest = absurd (true≢false (sym new ∙ ap (is_new d R) (sym e) ∙ k))
    go false k (inr j) rest = rest j new

-- the session itself, no step away
pub first-level : (graph : List Node) (s : ℕ) → AreLevels graph s 0 (record { session = s; steps = 0 } ∷ [])
first-level graph s = record { sound = sound; nearest = λ v e f h g. subst (λ (k : ℕ). k ≤ f) (sym (tell v e h).1) (omega arith); within = λ v e h. subst (λ (k : ℕ). k ≤ 0) (sym (tell v e h).1) (omega arith); complete = complete; unclosed = λ v e l m h. omega arith }
  where
    drop : (a : Bool) → (a || false) ≡ true → a ≡ true
    drop a h = grind arith

    tell : (v e : ℕ) → is_at v e (record { session = s; steps = 0 } ∷ []) ≡ true → (v ≡ s) × (e ≡ 0)
    tell v e h =
        let k = drop (nat_eq s v && nat_eq 0 e) h in
        (sym (numbers-same s v (first_of_both (nat_eq s v) (nat_eq 0 e) k)), sym (numbers-same 0 e (second_of_both (nat_eq s v) (nat_eq 0 e) k)))

    sound : (v e : ℕ) → is_at v e (record { session = s; steps = 0 } ∷ []) ≡ true → Goes (edges_of graph) s e v
    sound v e h = let t = tell v e h in subst (λ (k : ℕ). Goes (edges_of graph) s k v) (sym t.1) t.0

    complete : (v f : ℕ) → f ≤ 0 → Goes (edges_of graph) s f v → (e : ℕ) × (is_at v e (record { session = s; steps = 0 } ∷ []) ≡ true)
    complete v zero l g = (0, or-left (nat_eq s v && nat_eq 0 0) false (both (nat_eq s v) (nat_eq 0 0) (numbers-tell s v (sym g)) refl))
    complete v (suc f) l g = absurd (omega arith)

module _ (graph : List Node) (s d : ℕ) (R : List Step) (are : AreLevels graph s d R) (is : IsGraph graph) where
  -- one that waits for a session of the last level is reached, or is on the next
  onto : (v w : ℕ) → member w (edges_of graph v) ≡ true → is_at w d R ≡ true → ((e : ℕ) × (is_at v e R ≡ true)) ⊎ (is_at v (d + 1) (level d R graph) ≡ true)
  onto v w m h = go (is_reached v R) refl
    where
      go : (b : Bool) → is_reached v R ≡ b → ((e : ℕ) × (is_at v e R ≡ true)) ⊎ (is_at v (d + 1) (level d R graph) ≡ true)
      go true k = inl (reached-at v R k)
      go false k =
          let n = has-node graph v w m in
          let on : n.0.waits_for ≡ edges_of graph v = is n.0 n.1 ∙ ap (edges_of graph) n.2 in
          let new : is_new d R n.0 ≡ true = both (not (is_reached n.0.session R)) (leads_to d R n.0.waits_for) (ap (λ u. not (is_reached u R)) n.2 ∙ unflip (is_reached v R) k) (one-leads d R n.0.waits_for w (ap (member w) on ∙ m) h) in
          inr (subst (λ (u : ℕ). is_at u (d + 1) (level d R graph) ≡ true) n.2 (one-level d R graph n.0 n.1 new))

  -- a shorter way to one that waits for a nearer session
  nearer : (v w e : ℕ) → member w (edges_of graph v) ≡ true → is_at w e R ≡ true → e < d → (f : ℕ) × (is_at v f R ≡ true)
  nearer v w e m h l = are.complete v (suc e) (omega arith) (w, m, are.sound w e h)

  next : leads_to d R (edges_of graph s) ≡ false → AreLevels graph s (d + 1) (R ++ level d R graph)
  next shut = record { sound = sound; nearest = nearest; within = within; complete = complete; unclosed = unclosed }
    where
      cases : (v e : ℕ) → is_at v e (R ++ level d R graph) ≡ true → (is_at v e R ≡ true) ⊎ (is_at v e (level d R graph) ≡ true)
      cases v e h = or-cases (is_at v e R) (is_at v e (level d R graph)) (sym (any-append (λ x. nat_eq x.session v && nat_eq x.steps e) R (level d R graph)) ∙ h)

      old : (v e : ℕ) → is_at v e R ≡ true → is_at v e (R ++ level d R graph) ≡ true
      old v e h = any-append (λ x. nat_eq x.session v && nat_eq x.steps e) R (level d R graph) ∙ or-left (is_at v e R) (is_at v e (level d R graph)) h

      new : (v e : ℕ) → is_at v e (level d R graph) ≡ true → is_at v e (R ++ level d R graph) ≡ true
      new v e h = any-append (λ x. nat_eq x.session v && nat_eq x.steps e) R (level d R graph) ∙ or-right (is_at v e R) (is_at v e (level d R graph)) h

      sound : (v e : ℕ) → is_at v e (R ++ level d R graph) ≡ true → Goes (edges_of graph) s e v
      sound v e h = go (cases v e h)
        where
          go : (is_at v e R ≡ true) ⊎ (is_at v e (level d R graph) ≡ true) → Goes (edges_of graph) s e v
          go (inl k) = are.sound v e k
          go (inr k) =
              let l = level-one d R graph v e k in
              let n = l.1 in
              let o = leads-one d R n.0.waits_for (second_of_both (not (is_reached n.0.session R)) (leads_to d R n.0.waits_for) n.3) in
              let at : e ≡ suc d = omega (arith, l.0) in
              subst (λ (f : ℕ). Goes (edges_of graph) s f v) (sym at) (o.0, ap (member o.0) (sym (is n.0 n.1 ∙ ap (edges_of graph) n.2)) ∙ o.1, are.sound o.0 d o.2)

      nearest : (v e f : ℕ) → is_at v e (R ++ level d R graph) ≡ true → Goes (edges_of graph) s f v → e ≤ f
      nearest v e f h g = go (cases v e h)
        where
          go : (is_at v e R ≡ true) ⊎ (is_at v e (level d R graph) ≡ true) → e ≤ f
          go (inl k) = are.nearest v e f k g
          go (inr k) = far (le-or f d)
            where
              far : (f ≤ d) ⊎ (d < f) → e ≤ f
              far (inl l) =
                  let o = level-one d R graph v e k in
                  let c = are.complete v f l g in
                  absurd (true≢false (sym (at-reached v c.0 R c.1) ∙ ap (λ u. is_reached u R) (sym o.1.2) ∙ flip (is_reached o.1.0.session R) (first_of_both (not (is_reached o.1.0.session R)) (leads_to d R o.1.0.waits_for) o.1.3)))
              far (inr l) = let o = level-one d R graph v e k in omega (arith, o.0)

      within : (v e : ℕ) → is_at v e (R ++ level d R graph) ≡ true → e ≤ d + 1
      within v e h = go (cases v e h)
        where
          go : (is_at v e R ≡ true) ⊎ (is_at v e (level d R graph) ≡ true) → e ≤ d + 1
          go (inl k) = omega (arith, are.within v e k)
          go (inr k) = omega (arith, (level-one d R graph v e k).0)

      complete : (v f : ℕ) → f ≤ d + 1 → Goes (edges_of graph) s f v → (e : ℕ) × (is_at v e (R ++ level d R graph) ≡ true)
      complete v f l g = go (le-or f d)
        where
          keep : (e : ℕ) × (is_at v e R ≡ true) → (e : ℕ) × (is_at v e (R ++ level d R graph) ≡ true)
          keep c = (c.0, old v c.0 c.1)

          come : ((e : ℕ) × (is_at v e R ≡ true)) ⊎ (is_at v (d + 1) (level d R graph) ≡ true) → (e : ℕ) × (is_at v e (R ++ level d R graph) ≡ true)
          come (inl c) = keep c
          come (inr k) = (d + 1, new v (d + 1) k)

          go : (f ≤ d) ⊎ (d < f) → (e : ℕ) × (is_at v e (R ++ level d R graph) ≡ true)
          go (inl k) = keep (are.complete v f k g)
          go (inr k) =
              let at : f ≡ suc d = omega arith in
              let h : Goes (edges_of graph) s (suc d) v = subst (λ (n : ℕ). Goes (edges_of graph) s n v) at g in
              let c = are.complete h.0 d (omega arith) h.2 in
              way h.0 h.1 c.0 c.1 (below-or c.0 d (are.nearest h.0 c.0 d c.1 h.2))
            where
              way : (w : ℕ) → member w (edges_of graph v) ≡ true → (e : ℕ) → is_at w e R ≡ true → (e ≡ d) ⊎ (e < d) → (i : ℕ) × (is_at v i (R ++ level d R graph) ≡ true)
              way w m e i (inl same) = come (onto v w m (subst (λ (n : ℕ). is_at w n R ≡ true) same i))
              way w m e i (inr less) = keep (nearer v w e m i less)

      unclosed : (v e : ℕ) → e < d + 1 → member v (edges_of graph s) ≡ true → is_at v e (R ++ level d R graph) ≡ true → ⊥
      unclosed v e l m h = go (cases v e h)
        where
          last : (e ≡ d) ⊎ (e < d) → is_at v e R ≡ true → ⊥
          last (inl same) k = true≢false (sym (one-leads d R (edges_of graph s) v m (subst (λ (n : ℕ). is_at v n R ≡ true) same k)) ∙ shut)
          last (inr less) k = are.unclosed v e less m k

          go : (is_at v e R ≡ true) ⊎ (is_at v e (level d R graph) ≡ true) → ⊥
          go (inl k) = last (below-or e d (omega arith)) k
          go (inr k) = let o = level-one d R graph v e k in omega (arith, o.0)

  -- where no session is new, no edges lead back
  none-left : leads_to d R (edges_of graph s) ≡ false → level d R graph ≡ [] → (n v : ℕ) → member v (edges_of graph s) ≡ true → Goes (edges_of graph) s n v → ⊥
  none-left shut none n v m g = let c = all n v g in end c.0 c.1 (below-or c.0 d (are.within v c.0 c.1))
    where
      keep : (v : ℕ) → ((e : ℕ) × (is_at v e R ≡ true)) ⊎ (is_at v (d + 1) (level d R graph) ≡ true) → (e : ℕ) × (is_at v e R ≡ true)
      keep v (inl c) = c
      keep v (inr k) = absurd (true≢false (sym k ∙ ap (is_at v (d + 1)) none))

      way : (v w : ℕ) → member w (edges_of graph v) ≡ true → (e : ℕ) → is_at w e R ≡ true → (e ≡ d) ⊎ (e < d) → (i : ℕ) × (is_at v i R ≡ true)
      way v w m e i (inl same) = keep v (onto v w m (subst (λ (n : ℕ). is_at w n R ≡ true) same i))
      way v w m e i (inr less) = nearer v w e m i less

      all : (n v : ℕ) → Goes (edges_of graph) s n v → (e : ℕ) × (is_at v e R ≡ true)
      all zero v g = are.complete v 0 (omega arith) g
      all (suc n) v g = let c = all n g.0 g.2 in way v g.0 g.1 c.0 c.1 (below-or c.0 d (are.within g.0 c.0 c.1))

      end : (e : ℕ) → is_at v e R ≡ true → (e ≡ d) ⊎ (e < d) → ⊥
      end e k (inl same) = true≢false (sym (one-leads d R (edges_of graph s) v m (subst (λ (n : ℕ). is_at v n R ≡ true) same k)) ∙ shut)
      end e k (inr less) = are.unclosed v e less m k

pub levels-next : (graph : List Node) (s d : ℕ) (R : List Step) → AreLevels graph s d R → IsGraph graph → leads_to d R (edges_of graph s) ≡ false → AreLevels graph s (d + 1) (R ++ level d R graph)
levels-next graph s d R are is shut = next graph s d R are is shut

pub levels-end : (graph : List Node) (s d : ℕ) (R : List Step) → AreLevels graph s d R → IsGraph graph → leads_to d R (edges_of graph s) ≡ false → level d R graph ≡ [] → (n v : ℕ) → member v (edges_of graph s) ≡ true → Goes (edges_of graph) s n v → ⊥
levels-end graph s d R are is shut none = none-left graph s d R are is shut none

-- the nodes whose session is not reached
abbrev pub left : List Step → List Node → ℕ
left R graph = length (filter (λ n. not (is_reached n.session R)) graph)

more-reached : (v : ℕ) (R L : List Step) → is_reached v R ≡ true → is_reached v (R ++ L) ≡ true
more-reached v R L h = any-append (λ x. nat_eq x.session v) R L ∙ or-left (is_reached v R) (is_reached v L) h

fewer : (R L : List Step) (graph : List Node) → left (R ++ L) graph ≤ left R graph
fewer R L [] = omega arith
fewer R L (n ∷ ns) = go (is_reached n.session (R ++ L)) refl (is_reached n.session R) refl (fewer R L ns)
  where
    go : (a : Bool) → is_reached n.session (R ++ L) ≡ a → (b : Bool) → is_reached n.session R ≡ b → left (R ++ L) ns ≤ left R ns
        → length (if not a then n ∷ filter (λ m. not (is_reached m.session (R ++ L))) ns else filter (λ m. not (is_reached m.session (R ++ L))) ns) ≤ length (if not b then n ∷ filter (λ m. not (is_reached m.session R)) ns else filter (λ m. not (is_reached m.session R)) ns)
    go true e true f h = h
    go true e false f h = omega arith
    go false e true f h = absurd (true≢false (sym (more-reached n.session R L f) ∙ e))
    go false e false f h = omega arith

less : (R L : List Step) (graph : List Node) (k : Node) → In_graph k graph → is_reached k.session R ≡ false → is_reached k.session (R ++ L) ≡ true → left (R ++ L) graph < left R graph
less R L [] k i was now = absurd i
less R L (n ∷ ns) k i was now = go (is_reached n.session (R ++ L)) refl (is_reached n.session R) refl i (fewer R L ns) (λ j. less R L ns k j was now)
  where
    go : (a : Bool) → is_reached n.session (R ++ L) ≡ a → (b : Bool) → is_reached n.session R ≡ b → (n ≡ k) ⊎ In_graph k ns → left (R ++ L) ns ≤ left R ns → (In_graph k ns → left (R ++ L) ns < left R ns)
        → length (if not a then n ∷ filter (λ m. not (is_reached m.session (R ++ L))) ns else filter (λ m. not (is_reached m.session (R ++ L))) ns) < length (if not b then n ∷ filter (λ m. not (is_reached m.session R)) ns else filter (λ m. not (is_reached m.session R)) ns)
    go true e true f (inl g) h rest = absurd (true≢false (sym f ∙ ap (λ (q : Node). is_reached q.session R) g ∙ was))
    go true e true f (inr j) h rest = rest j
    go true e false f j h rest = omega arith
    go false e true f j h rest = absurd (true≢false (sym (more-reached n.session R L f) ∙ e))
    go false e false f (inl g) h rest = absurd (true≢false (sym now ∙ ap (λ (q : Node). is_reached q.session (R ++ L)) (sym g) ∙ e))
    go false e false f (inr j) h rest = let r = rest j in omega arith

pub left-falls : (d : ℕ) (R : List Step) (graph : List Node) → level d R graph ≢ [] → left (R ++ level d R graph) graph < left R graph
left-falls d R graph some = go (level d R graph) refl
  where
    go : (L : List Step) → level d R graph ≡ L → left (R ++ level d R graph) graph < left R graph
    go [] e = absurd (some e)
    go (x ∷ L) e =
        let at : is_at x.session x.steps (level d R graph) ≡ true = ap (is_at x.session x.steps) e ∙ or-left (nat_eq x.session x.session && nat_eq x.steps x.steps) (is_at x.session x.steps L) (both (nat_eq x.session x.session) (nat_eq x.steps x.steps) (numbers-tell x.session x.session refl) (numbers-tell x.steps x.steps refl)) in
        let o = level-one d R graph x.session x.steps at in
        let n = o.1 in
        less R (level d R graph) graph n.0 n.1 (flip (is_reached n.0.session R) (first_of_both (not (is_reached n.0.session R)) (leads_to d R n.0.waits_for) n.3))
        (any-append (λ (y : Step). nat_eq y.session n.0.session) R (level d R graph) ∙ or-right (is_reached n.0.session R) (is_reached n.0.session (level d R graph)) (at-reached n.0.session (d + 1) (level d R graph) (one-level d R graph n.0 n.1 n.3)))

pub left-all : (R : List Step) (graph : List Node) → left R graph ≤ length graph
left-all R [] = omega arith
left-all R (n ∷ ns) = go (is_reached n.session R) (left-all R ns)
  where
    go : (b : Bool) → left R ns ≤ length ns → length (if not b then n ∷ filter (λ m. not (is_reached m.session R)) ns else filter (λ m. not (is_reached m.session R)) ns) ≤ suc (length ns)
    go true h = omega arith
    go false h = omega arith
