-- What a transaction wants on the new nodes of a plan is what the gifts are.
use Rattle.std.proofs.Common.{◌≡◌, ℕ, zero, suc, ◌+◌, ◌<◌, ◌↔◌, ◌⊎◌, ◌||◌, Bool, true, false, true≢false, cond, List, [], ◌∷◌, ◌++◌, map, length, take, get_or, Option, Some, None, is_some, if◌then◌else◌, refl, sym, ap, ◌∙◌, subst, inl, inr, arith}
use Rattle.std.specs.Prelude.{nat_eq, MatchOption, MatchBool}
use Rattle.std.specs.List.{list_any}
use Rattle.std.proofs.lemmas.Bool.Decides.{nat_tests}
use Rattle.sp_rect.specs.Plane.{Rectangle}
use Rattle.sp_locks.specs.declared.mode.Mode.{Mode}
use Rattle.sp_locks.specs.declared.mode.Mode.TheVariants.{IX, S}
use Rattle.sp_locks.specs.declared.row.Name.{Name}
use Rattle.sp_locks.specs.declared.row.Name.TheVariants.{Granule as OnGranule}
use Rattle.sp_locks.specs.declared.row.Duration.TheVariants.{Commit}
use Rattle.sp_locks.specs.declared.needs.Need.{Need}
use Rattle.sp_node.specs.declared.node.Entry.{Entry}
use Rattle.sp_node.specs.declared.node.Node.{Node}
use Rattle.sp_node.specs.declared.node.Node.TheVariants.{Leaf, Inner}
use Rattle.sp_node.specs.declared.plan.Part.{Part}
use Rattle.sp_node.specs.declared.plan.Plan.{Plan}
use Rattle.sp_node.specs.Among.{Among}
use Rattle.sp_node.specs.Look.{look, entries_in, entries_of_node}
use Rattle.sp_node.specs.Marks.{is_marked}
use Rattle.sp_node.specs.Nested.{Body, node}
use Rattle.sp_node.specs.Plan.{number_of, content, planned, AreOrdered, IsMadeOf}
use Rattle.sp_node.specs.Standing.{IsNodeOf, HasNoNode}
use Rattle.sp_node.specs.Table.{Table, IsValid, places_of, entries_of}
use Rattle.sp_node.proofs.Adopt.{part_at, listed, look_parts, unlisted}
use Rattle.sp_node.proofs.Among.{all_among, among_split, among_flat_map, among_left, among_right}
use Rattle.sp_node.proofs.Laws.{one_of_number}
use Rattle.sp_node.proofs.Single.{own}
use Rattle.sp_node.proofs.Standing.{own_all, node_stands, place_stands}
use Rattle.sp_granule.specs.Granules.{Granule, Standing, standing, granule, granule_of_node, granules, IsMeeting}
use Rattle.sp_granule.proofs.Numbered.{number_kept}
use Rattle.sp_ops.specs.declared.wants.Want.{Want}
use Rattle.sp_ops.specs.Wanted.{IsWanted}
use Rattle.sp_protection.specs.Needs.{AreNeedsOf}
use Rattle.sp_protection.specs.Reshape.{HasNumber}
use Rattle.sp_protection.proofs.Leaves.{among_map, from_map}
use Rattle.sp_model.specs.Plans.{GiftWant}
use Rattle.sp_model.proofs.Holding.{any-among, among-any}
use Rattle.sp_model.proofs.Planned.{needs_alike}
use Rattle.sp_apply.specs.Given.{PartWant, Owns, Searched, modes_on}
use Rattle.sp_apply.proofs.Meetings.{granule_in, place_of, among_more, more_among}

none_some : {A P : Type 0} (o : Option A) (x : A) → o ≡ None → o ≡ Some x → P
none_some o x e f = cc

-- one part
module _ (nodes : List (ℕ × Node)) (gs' : List Granule) (txn : ℕ) (searches : List Rectangle) (part : Part) where
  abbrev Wanted : Name → Mode → Type 0
  Wanted = PartWant nodes gs' txn searches part

  -- a node that the tree has gets nothing
  pub nothing_wanted : (b : Bool) → b ≡ is_some (look nodes (number_of part)) → b ≡ true → (name : Name) (mode : Mode) → Wanted name mode → ⊥
  nothing_wanted b e on name mode (Owns none own) = absurd (true≢false (sym (sym e ∙ on) ∙ ap is_some none))
  nothing_wanted b e on name mode (Searched rect none among meets) = absurd (true≢false (sym (sym e ∙ on) ∙ ap is_some none))

  lacks : (o : Option Node) → is_some o ≡ false → o ≡ None
  lacks None e = refl
  lacks (Some m) e = absurd (true≢false e)

  module _ (none : look nodes (number_of part) ≡ None) (own met : Bool) (owns : own ≡ list_any (is_marked txn) (entries_in (content part)))
      (meets : MatchBool met ((rect : Rectangle) × Among rect searches × IsMeeting gs' rect (number_of part)) ((rect : Rectangle) → Among rect searches → IsMeeting gs' rect (number_of part) → ⊥)) where
    abbrev ix : Want
    ix = record { name = OnGranule (number_of part); mode = IX }

    abbrev s : Want
    s = record { name = OnGranule (number_of part); mode = S }

    of_owns : (w : Want) (b : Bool) → own ≡ b → Among w (if b then ix ∷ [] else []) → Wanted w.name w.mode
    of_owns w true e (inl same) = subst (λ (v : Want). Wanted v.name v.mode) (sym same) (Owns none (sym owns ∙ e))
    of_owns w true e (inr i) = absurd i
    of_owns w false e i = absurd i

    of_meets : (w : Want) (b : Bool) → MatchBool b ((rect : Rectangle) × Among rect searches × IsMeeting gs' rect (number_of part)) ((rect : Rectangle) → Among rect searches → IsMeeting gs' rect (number_of part) → ⊥)
        → Among w (if b then s ∷ [] else []) → Wanted w.name w.mode
    of_meets w true m (inl same) = subst (λ (v : Want). Wanted v.name v.mode) (sym same) (Searched m.0 none m.1 m.2)
    of_meets w true m (inr i) = absurd i
    of_meets w false m i = absurd i

    of_modes : (w : Want) → Among w (modes_on (OnGranule (number_of part)) own met) → Wanted w.name w.mode
    of_modes w i = go (among_split w (if own then ix ∷ [] else []) (if met then s ∷ [] else []) i)
      where
        go : Among w (if own then ix ∷ [] else []) ⊎ Among w (if met then s ∷ [] else []) → Wanted w.name w.mode
        go (inl j) = of_owns w own refl j
        go (inr j) = of_meets w met meets j

    has_ix : (b : Bool) → b ≡ true → Among ix (if b then ix ∷ [] else [])
    has_ix true e = inl refl
    has_ix false e = absurd (true≢false (sym e))

    has_s : (b : Bool) (rect : Rectangle) → MatchBool b ((rect : Rectangle) × Among rect searches × IsMeeting gs' rect (number_of part)) ((rect : Rectangle) → Among rect searches → IsMeeting gs' rect (number_of part) → ⊥)
        → Among rect searches → IsMeeting gs' rect (number_of part) → Among s (if b then s ∷ [] else [])
    has_s true rect m i j = inl refl
    has_s false rect m i j = absurd (m rect i j)

    to_modes : (name : Name) (mode : Mode) → Wanted name mode → IsWanted (modes_on (OnGranule (number_of part)) own met) name mode
    to_modes name mode (Owns absent e) = among_left ix (if own then ix ∷ [] else []) (if met then s ∷ [] else []) (has_ix own (owns ∙ e))
    to_modes name mode (Searched rect absent i j) = among_right s (if own then ix ∷ [] else []) (if met then s ∷ [] else []) (has_s met rect meets i j)

    pub modes_wanted : (before after : List Want) → after ≡ before ++ modes_on (OnGranule (number_of part)) own met → (name : Name) (mode : Mode) → IsWanted after name mode ↔ (IsWanted before name mode ⊎ Wanted name mode)
    modes_wanted before after is name mode = (λ i. forth (among_split w before modes (subst (λ (ws : List Want). Among w ws) is i)), λ h. subst (λ (ws : List Want). Among w ws) (sym is) (back h))
      where
        w : Want
        w = record { name = name; mode = mode }

        modes : List Want
        modes = modes_on (OnGranule (number_of part)) own met

        forth : Among w before ⊎ Among w modes → IsWanted before name mode ⊎ Wanted name mode
        forth (inl i) = inl i
        forth (inr i) = inr (of_modes w i)

        back : IsWanted before name mode ⊎ Wanted name mode → Among w (before ++ modes)
        back (inl i) = among_left w before modes i
        back (inr h) = among_right w before modes (to_modes name mode h)

  -- of a node that the tree has, nothing more is wanted
  pub same_wanted : (wants : List Want) (b : Bool) → b ≡ is_some (look nodes (number_of part)) → b ≡ true → (name : Name) (mode : Mode) → IsWanted wants name mode ↔ (IsWanted wants name mode ⊎ Wanted name mode)
  same_wanted wants b e on name mode = (λ i. inl i, λ h. elim h [ inl i ↦ i | inr n ↦ absurd (nothing_wanted b e on name mode n) ])

  pub is_new : (b : Bool) → b ≡ is_some (look nodes (number_of part)) → b ≡ false → look nodes (number_of part) ≡ None
  is_new b e off = lacks (look nodes (number_of part)) (sym e ∙ off)

-- one part more
pub one_part_more : (nodes : List (ℕ × Node)) (gs' : List Granule) (txn : ℕ) (searches : List Rectangle) (parts : List Part) (i : ℕ) (part : Part) (before after : List Want) → i < length parts → part ≡ get_or parts i part
    → ((name : Name) (mode : Mode) → IsWanted before name mode ↔ ((p : Part) × Among p (take i parts) × PartWant nodes gs' txn searches p name mode))
    → ((name : Name) (mode : Mode) → IsWanted after name mode ↔ (IsWanted before name mode ⊎ PartWant nodes gs' txn searches part name mode))
    → (name : Name) (mode : Mode) → IsWanted after name mode ↔ ((p : Part) × Among p (take (i + 1) parts) × PartWant nodes gs' txn searches p name mode)
one_part_more nodes gs' txn searches parts i part before after within is so_far step name mode = (λ w. forth ((step name mode).0 w), λ h. (step name mode).1 (back h.0 h.2 (among_more parts i part h.0 within is h.1)))
  where
    Wanted : Part → Type 0
    Wanted p = PartWant nodes gs' txn searches p name mode

    forth : IsWanted before name mode ⊎ PartWant nodes gs' txn searches part name mode → (p : Part) × Among p (take (i + 1) parts) × PartWant nodes gs' txn searches p name mode
    forth (inl w) = let p = (so_far name mode).0 w in (p.0, more_among parts i part p.0 within is (inl p.1), p.2)
    forth (inr w) = (part, more_among parts i part part within is (inr refl), w)

    back : (p : Part) → PartWant nodes gs' txn searches p name mode → Among p (take i parts) ⊎ (p ≡ part) → IsWanted before name mode ⊎ PartWant nodes gs' txn searches part name mode
    back p w (inl a) = inl ((so_far name mode).1 (p, a, w))
    back p w (inr e) = inr (subst (λ (q : Part). PartWant nodes gs' txn searches q name mode) e w)

pub none_yet : (nodes : List (ℕ × Node)) (gs' : List Granule) (txn : ℕ) (searches : List Rectangle) (wants : List Want) → wants ≡ [] → (name : Name) (mode : Mode) → IsWanted wants name mode ↔ ((p : Part) × ⊥ × PartWant nodes gs' txn searches p name mode)
none_yet nodes gs' txn searches wants e name mode = (λ i. absurd (subst (λ (ws : List Want). Among (record { name = name; mode = mode }) ws) e i), λ h. absurd h.1)

self_equal : (k : ℕ) → nat_eq k k ≡ true
self_equal k = grind (arith, nat_tests)

equal_from : (j k : ℕ) → nat_eq j k ≡ true → j ≡ k
equal_from j k e = grind (arith, nat_tests)

less_apart : (j k : ℕ) → j < k → nat_eq k j ≡ false
less_apart j k lt = grind (arith, nat_tests)

-- a part says what stands under its number
own_part : (ps : List Part) (p : Part) (o : Option Node) → AreOrdered ps → Among p ps → part_at ps (number_of p) o ≡ content p
own_part [] p o h a = absurd a
own_part (x ∷ ps) p o h (inl e) =
    ap (λ (y : Part). cond (nat_eq (number_of p) (number_of y)) (content y) (part_at ps (number_of p) o)) (sym e)
    ∙ ap (λ (b : Bool). cond b (content p) (part_at ps (number_of p) o)) (self_equal (number_of p))
own_part (x ∷ ps) p o h (inr a) =
    ap (λ (b : Bool). cond b (content x) (part_at ps (number_of p) o)) (less_apart (number_of x) (number_of p) (all_among (λ q. number_of x < number_of q) p ps h.0 a))
    ∙ own_part ps p o h.1 a

part_for : (ps : List Part) (k : ℕ) → listed ps k ≡ true → (p : Part) × Among p ps × (number_of p ≡ k) × ((o : Option Node) → part_at ps k o ≡ content p)
part_for [] k l = cc
part_for (x ∷ ps) k l = by_test (nat_eq k (number_of x)) refl l (part_for ps k)
  where
    by_test : (b : Bool) → nat_eq k (number_of x) ≡ b → (b || listed ps k) ≡ true → (listed ps k ≡ true → (p : Part) × Among p ps × (number_of p ≡ k) × ((o : Option Node) → part_at ps k o ≡ content p))
        → (p : Part) × Among p (x ∷ ps) × (number_of p ≡ k) × ((o : Option Node) → part_at (x ∷ ps) k o ≡ content p)
    by_test true e h f = (x, inl refl, sym (equal_from k (number_of x) e), λ o. ap (λ (b : Bool). cond b (content x) (part_at ps k o)) e)
    by_test false e h f = let more = f h in (more.0, inr more.1, more.2, λ o. ap (λ (b : Bool). cond b (content x) (part_at ps k o)) e ∙ more.3 o)

-- the entries of a leaf's granule
leaf_entries : (level n : ℕ) (s : Rectangle) (body : Body level) (es : List Entry) → Leaf es ≡ node level body → ((granule_of_node level n s body).is_leaf ≡ true) × ((granule_of_node level n s body).entries ≡ map standing es)
leaf_entries zero n s body es e = (refl, ap (map standing) (sym (one e)))
  where
    one : Leaf es ≡ Leaf body → es ≡ body
    one k = cc
leaf_entries (suc level) n s body es e = absurd (none e)
  where
    none : {cs : _} → Leaf es ≡ Inner cs → ⊥
    none k = cc

standing_in : (level n : ℕ) (s : Rectangle) (body : Body level) (x : Standing) → Among x (granule_of_node level n s body).entries → Among x (map standing (entries_of_node (node level body)))
standing_in zero n s body x i = i
standing_in (suc level) n s body x i = absurd i

leaf_of : (o : Option Node) (e : Entry) → Among e (entries_in o) → (es : List Entry) × (o ≡ Some (Leaf es)) × Among e es
leaf_of None e a = absurd a
leaf_of (Some (Leaf es)) e a = (es, refl, a)
leaf_of (Some (Inner cs)) e a = absurd a

module _ (t : Table) (v : IsValid t) (plan : Plan) (made : IsMadeOf t plan) (txn : ℕ) (searches : List Rectangle) where
  abbrev after : Table
  after = planned t plan

  abbrev Given : Name → Mode → Type 0
  Given = GiftWant (granules t) (granules after) (entries_of after) txn searches

  -- a number that the tree lacks is no granule's, and back
  no_number : (n : ℕ) → look t.nodes n ≡ None → HasNumber (granules t) n → ⊥
  no_number n none h =
      let p = place_of t h.0 h.1 in
      none_some (look t.nodes n) (node p.0.level p.0.body) none (ap (look t.nodes) (sym (sym (number_kept p.0) ∙ ap (λ (g : Granule). g.number) p.2 ∙ h.2)) ∙ place_stands t v p.0 p.1)

  lacking : (n : ℕ) → (HasNumber (granules t) n → ⊥) → look t.nodes n ≡ None
  lacking n none = go (look t.nodes n) (node_stands t v n)
    where
      go : (o : Option Node) → MatchOption o (HasNoNode t n) (IsNodeOf t n) → o ≡ None
      go None h = refl
      go (Some m) h = absurd (none (granule h.place, granule_in t h.place h.among, number_kept h.place ∙ h.named))

  there : (p : Part) → Among p plan.parts → look after.nodes (number_of p) ≡ content p
  there p i = look_parts t.nodes plan.parts (number_of p) ∙ own_part plan.parts p (look t.nodes (number_of p)) made.ordered i

  -- what is wanted on a part's node is a gift
  given : (p : Part) (name : Name) (mode : Mode) → Among p plan.parts → PartWant t.nodes (granules after) txn searches p name mode → Given name mode
  given p name mode i (Owns none bears) =
      let e = any-among (is_marked txn) (entries_in (content p)) bears in
      let leaf = leaf_of (content p) e.0 e.1 in
      let stands : look after.nodes (number_of p) ≡ Some (Leaf leaf.0) = there p i ∙ leaf.1 in
      go e.0 leaf.0 e.2 leaf.2 (subst (λ (o : Option Node). MatchOption o (HasNoNode after (number_of p)) (IsNodeOf after (number_of p))) stands (node_stands after made.valid (number_of p)))
    where
      go : (e : Entry) (es : List Entry) → is_marked txn e ≡ true → Among e es → IsNodeOf after (number_of p) (Leaf es) → Given (OnGranule (number_of p)) IX
      go e es m a h =
          let g = granule h.place in
          let named : g.number ≡ number_of p = number_kept h.place ∙ h.named in
          let is = leaf_entries h.place.level h.place.number h.place.space h.place.body es h.is in
          let among : Among e (entries_of after) = subst (Among e) (own_all after made.valid) (among_flat_map own e h.place (places_of after) h.among (subst (λ (n : Node). Among e (entries_of_node n)) h.is a)) in
          subst (λ (n : ℕ). Given (OnGranule n) IX) named
          (GiftWant.OwnLeaf e g among m (granule_in after h.place h.among) (is.0, subst (λ (xs : List Standing). Among (standing e) xs) (sym is.1) (among_map standing e es a)) (λ has. no_number g.number (subst (λ (n : ℕ). look t.nodes n ≡ None) (sym named) none) has))
  given p name mode i (Searched rect none among meets) =
      let g = meets.2.0 in
      let named : g.number ≡ number_of p = meets.2.2 in
      subst (λ (n : ℕ). Given (OnGranule n) S) named
      (GiftWant.OwnSearch rect g among meets.2.1 (meets.0, meets.2.3, meets.1) (λ has. no_number g.number (subst (λ (n : ℕ). look t.nodes n ≡ None) (sym named) none) has))

  -- a new granule has a part
  part_of_new : (g : Granule) → Among g (granules after) → look t.nodes g.number ≡ None → (p : Part) × Among p plan.parts × (number_of p ≡ g.number) × (look after.nodes g.number ≡ content p)
  part_of_new g i none = go (listed plan.parts g.number) refl
    where
      go : (b : Bool) → listed plan.parts g.number ≡ b → (p : Part) × Among p plan.parts × (number_of p ≡ g.number) × (look after.nodes g.number ≡ content p)
      go true l = let p = part_for plan.parts g.number l in (p.0, p.1, p.2, look_parts t.nodes plan.parts g.number ∙ p.3 (look t.nodes g.number))
      go false l =
          let q = place_of after g i in
          absurd (none_some (look after.nodes g.number) (node q.0.level q.0.body) (look_parts t.nodes plan.parts g.number ∙ unlisted plan.parts g.number (look t.nodes g.number) l ∙ none)
          (ap (look after.nodes) (sym (sym (number_kept q.0) ∙ ap (λ (h : Granule). h.number) q.2)) ∙ place_stands after made.valid q.0 q.1))

  -- an entry that stands in a granule is one of its node's
  in_node : (e : Entry) (g : Granule) (n : Node) → Among e (entries_of after) → Among g (granules after) → Among (standing e) g.entries → look after.nodes g.number ≡ Some n → Among e (entries_of_node n)
  in_node e g n a i has stands =
      let q = place_of after g i in
      let f = from_map standing (standing e) (own q.0) (standing_in q.0.level q.0.number q.0.space q.0.body (standing e) (subst (λ (h : Granule). Among (standing e) h.entries) (sym q.2) has)) in
      let among : Among f.0 (entries_of after) = subst (Among f.0) (own_all after made.valid) (among_flat_map own f.0 q.0 (places_of after) q.1 f.1) in
      let same : f.0 ≡ e = one_of_number after made.valid f.0 e among a (ap (λ (x : Standing). x.number) f.2) in
      let is : node q.0.level q.0.body ≡ n = one (node q.0.level q.0.body) n (sym (place_stands after made.valid q.0 q.1) ∙ ap (look after.nodes) (sym (number_kept q.0) ∙ ap (λ (h : Granule). h.number) q.2) ∙ stands) in
      subst (λ (m : Node). Among e (entries_of_node m)) is (subst (λ (x : Entry). Among x (own q.0)) same f.1)
    where
      one : (m n : Node) → Some m ≡ Some n → m ≡ n
      one m n k = cc

  entries_there : (e : Entry) (g : Granule) (o : Option Node) → Among e (entries_of after) → Among g (granules after) → Among (standing e) g.entries → look after.nodes g.number ≡ o → Among e (entries_in o)
  entries_there e g None a i has stands =
      let q = place_of after g i in
      none_some (look after.nodes g.number) (node q.0.level q.0.body) stands (ap (look after.nodes) (sym (sym (number_kept q.0) ∙ ap (λ (h : Granule). h.number) q.2)) ∙ place_stands after made.valid q.0 q.1)
  entries_there e g (Some n) a i has stands = in_node e g n a i has stands

  -- a gift is wanted on a part's node
  wanted : (name : Name) (mode : Mode) → Given name mode → (p : Part) × Among p plan.parts × PartWant t.nodes (granules after) txn searches p name mode
  wanted name mode (GiftWant.OwnLeaf e g among m i stands new) =
      let none = lacking g.number new in
      let p = part_of_new g i none in
      let has : list_any (is_marked txn) (entries_in (content p.0)) ≡ true = among-any (is_marked txn) e (entries_in (content p.0)) (entries_there e g (content p.0) among i stands.1 p.3) m in
      (p.0, p.1, subst (λ (n : ℕ). PartWant t.nodes (granules after) txn searches p.0 (OnGranule n) IX) p.2 (Owns (subst (λ (n : ℕ). look t.nodes n ≡ None) (sym p.2) none) has))
  wanted name mode (GiftWant.OwnSearch rect g among i meets new) =
      let none = lacking g.number new in
      let p = part_of_new g i none in (
        p.0,
        p.1,
        subst (λ (n : ℕ). PartWant t.nodes (granules after) txn searches p.0 (OnGranule n) S) p.2
            (Searched rect (subst (λ (n : ℕ). look t.nodes n ≡ None) (sym p.2) none) among (meets.0, meets.2, (g, i, sym p.2, meets.1))),
      )

  pub gifts_are : (wants : List Want) (needs : List Need) → ((name : Name) (mode : Mode) → IsWanted wants name mode ↔ ((p : Part) × Among p plan.parts × PartWant t.nodes (granules after) txn searches p name mode))
      → AreNeedsOf (IsWanted wants) Commit needs → AreNeedsOf Given Commit needs
  gifts_are wants needs are h = needs_alike (IsWanted wants) Given (λ n m w. let p = (are n m).0 w in given p.0 n m p.1 p.2) (λ n m g. (are n m).1 (wanted n m g)) Commit needs h
