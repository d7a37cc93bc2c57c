-- What lists of wants have to do with the reasons of an operation that leaves the tree as it is.
use Rattle.std.proofs.Common.{◌≡◌, ◌↔◌, ℕ, ◌+◌, ◌<◌, Bool, true, false, ◌&&◌, List, [], ◌∷◌, ◌++◌, map, take, length, get_or, Option, Some, None, refl, sym, ap, ◌∙◌, subst, inl, inr, arith, append_assoc}
use Rattle.std.specs.Prelude.{nat_eq}
use Rattle.std.specs.List.{filter, cons_option}
use Rattle.std.specs.List.Sorted.{IsPermutation}
use Rattle.std.proofs.lemmas.Bool.Decides.{nat_tests}
use Rattle.std.proofs.lemmas.List.{take_more, map-append}
use Rattle.std.proofs.lemmas.List.Elements.{filter_map-append}
use Rattle.sp_locks.specs.declared.mode.Mode.{Mode}
use Rattle.sp_locks.specs.declared.mode.Mode.TheVariants.{IX, S, SIX, X}
use Rattle.sp_locks.specs.declared.row.Name.{Name}
use Rattle.sp_locks.specs.declared.row.Name.TheVariants.{Granule as OnGranule, Object}
use Rattle.sp_rect.specs.Plane.{Rectangle, IsRectangle}
use Rattle.sp_rect.specs.declared.record.Record.{Record}
use Rattle.sp_rect.specs.declared.operation.Op.{Op}
use Rattle.sp_rect.specs.declared.operation.Op.TheVariants.{Put, Drop, Set, Get, Find, Fill, Clear}
use Rattle.sp_rect.specs.Store.{Part, Id, Area, part_of, touches}
use Rattle.sp_node.specs.declared.node.Entry.{Entry}
use Rattle.sp_node.specs.declared.node.Node.{Node}
use Rattle.sp_node.specs.Among.{Among}
use Rattle.sp_node.specs.Index.{leaf_with, entry_of}
use Rattle.sp_node.specs.Table.{Table, IsValid, entries_of}
use Rattle.sp_node.proofs.Among.{among_left, among_right, among_split}
use Rattle.sp_node.proofs.Standing.{entry_of_among}
use Rattle.sp_granule.specs.Granules.{Granule, granules, IsMeeting}
use Rattle.sp_txn.specs.Visible.{is_visible, record_for}
use Rattle.sp_protection.specs.Needs.{StayWant, Finds, MarksOne, MarksLeaf, MarksRegion, MarksObject, MarksArea, MarksId, GranuleMeets, EntryMeets, StandsIn}
use Rattle.sp_protection.specs.Effects.{is_seen_in}
use Rattle.sp_ops.specs.declared.wants.Want.{Want}
use Rattle.sp_ops.specs.Seen.{is_in, numbers_in, numbers_seen, entries_at}
use Rattle.sp_ops.specs.Wanted.{IsWanted, AreWants, on_granule, on_leaf, on_leaves, on_object}
use Rattle.sp_ops.proofs.Arranging.{among_map, from_map, among_filter, from_filter, among_permutation, among_back}
use Rattle.sp_ops.proofs.Leaves.{meet_at, leaf_granule, granule_leaf, entry_meets}

-- one more of what is pushed
pushed : {X : Type 0} (f : List ℕ → List X) → ((xs ys : List ℕ) → f (xs ++ ys) ≡ f xs ++ f ys) → (numbers : List ℕ) (i d : ℕ) (first old new : List X) → i < length numbers
    → old ≡ first ++ f (take i numbers) → new ≡ old ++ f (get_or numbers i d ∷ []) → new ≡ first ++ f (take (i + 1) numbers)
pushed f splits numbers i d first old new lt was is =
    is ∙ ap (λ xs. xs ++ f (get_or numbers i d ∷ [])) was ∙ append_assoc first (f (take i numbers)) (f (get_or numbers i d ∷ []))
    ∙ ap (λ xs. first ++ xs) (sym (splits (take i numbers) (get_or numbers i d ∷ [])) ∙ ap f (sym (take_more numbers i d lt)))

pub leaves_more : (nodes : List (ℕ × Node)) (mode : Mode) (numbers : List ℕ) (i d : ℕ) (first old new : List Want) → i < length numbers
    → old ≡ first ++ on_leaves nodes mode (take i numbers) → new ≡ old ++ on_leaves nodes mode (get_or numbers i d ∷ []) → new ≡ first ++ on_leaves nodes mode (take (i + 1) numbers)
leaves_more nodes mode = pushed (on_leaves nodes mode) (filter_map-append (λ n. on_leaf mode (leaf_with nodes n)))

pub objects_more : (nodes : List (ℕ × Node)) (numbers : List ℕ) (i d : ℕ) (first old new : List Want) → i < length numbers
    → old ≡ first ++ map on_object (entries_at nodes (take i numbers)) → new ≡ old ++ map on_object (entries_at nodes (get_or numbers i d ∷ [])) → new ≡ first ++ map on_object (entries_at nodes (take (i + 1) numbers))
objects_more nodes = pushed (λ ns. map on_object (entries_at nodes ns)) (λ xs ys. ap (map on_object) (filter_map-append (entry_of nodes) xs ys) ∙ map-append on_object (entries_at nodes xs) (entries_at nodes ys))

-- the entries of some numbers
some_entry : (e f : Entry) → Some e ≡ Some f → e ≡ f
some_entry e f k = cc

module _ (nodes : List (ℕ × Node)) where
  from_entries : (numbers : List ℕ) (e : Entry) → Among e (entries_at nodes numbers) → (n : ℕ) × Among n numbers × (entry_of nodes n ≡ Some e)
  from_entries [] e a = absurd a
  from_entries (n ∷ ns) e a = by_entry (entry_of nodes n) refl a (from_entries ns e)
    where
      later : (m : ℕ) × Among m ns × (entry_of nodes m ≡ Some e) → (m : ℕ) × Among m (n ∷ ns) × (entry_of nodes m ≡ Some e)
      later h = (h.0, inr h.1, h.2)

      by_entry : (o : Option Entry) → entry_of nodes n ≡ o → Among e (cons_option o (entries_at nodes ns)) → (Among e (entries_at nodes ns) → (m : ℕ) × Among m ns × (entry_of nodes m ≡ Some e)) → (m : ℕ) × Among m (n ∷ ns) × (entry_of nodes m ≡ Some e)
      by_entry None k a f = later (f a)
      by_entry (Some x) k (inl s) f = (n, inl refl, k ∙ ap (λ (y : Entry). Some y) (sym s))
      by_entry (Some x) k (inr a) f = later (f a)

  in_entries : (numbers : List ℕ) (n : ℕ) (e : Entry) → Among n numbers → entry_of nodes n ≡ Some e → Among e (entries_at nodes numbers)
  in_entries [] n e a k = absurd a
  in_entries (m ∷ ns) n e (inl s) k = subst (λ (o : Option Entry). Among e (cons_option o (entries_at nodes ns))) (sym (ap (entry_of nodes) (sym s) ∙ k)) (inl refl)
  in_entries (m ∷ ns) n e (inr a) k = by_entry (entry_of nodes m) (in_entries ns n e a k)
    where
      by_entry : (o : Option Entry) → Among e (entries_at nodes ns) → Among e (cons_option o (entries_at nodes ns))
      by_entry None h = h
      by_entry (Some x) h = inr h

-- a reason for one of the list's wants is one for the want that it equals
module _ (W : Name → Mode → Type 0) where
  as_wanted : (name : Name) (mode : Mode) (w : Want) → (record { name = name; mode = mode }) ≡ w → W w.name w.mode → W name mode
  as_wanted name mode w e h = subst (λ (x : Want). W x.name x.mode) (sym e) h

-- granules
module _ (t : Table) (txn : ℕ) where
  abbrev Stay : Op → Name → Mode → Type 0
  Stay op = StayWant (granules t) (entries_of t) txn op

  granule_meets : (rect : Rectangle) (n : ℕ) → IsMeeting (granules t) rect n → (g : Granule) × Among g (granules t) × (g.number ≡ n) × GranuleMeets g rect
  granule_meets rect n m = (m.2.0, m.2.1, m.2.2, (m.0, m.2.3, m.1))

  is_meeting : (rect : Rectangle) (g : Granule) → Among g (granules t) → GranuleMeets g rect → IsMeeting (granules t) rect g.number
  is_meeting rect g a m = (m.0, m.2, (g, a, refl, m.1))

  module _ (rect : Rectangle) (numbers : List ℕ) (exact : (n : ℕ) → Among n numbers ↔ IsMeeting (granules t) rect n) where
    pub search_wants : AreWants (Stay (Find rect)) (map (on_granule S) numbers)
    search_wants name mode = (λ w. here w, λ s. there name mode s)
      where
        here : IsWanted (map (on_granule S) numbers) name mode → Stay (Find rect) name mode
        here w =
            let at = from_map (on_granule S) numbers (record { name = name; mode = mode }) w in
            let g = granule_meets rect at.0 ((exact at.0).0 at.1) in
            as_wanted (Stay (Find rect)) name mode (on_granule S at.0) at.2 (subst (λ (n : ℕ). Stay (Find rect) (OnGranule n) S) g.2 (Finds rect g.0 refl g.1 g.3))

        there : (name : Name) (mode : Mode) → Stay (Find rect) name mode → IsWanted (map (on_granule S) numbers) name mode
        there name mode (Finds q g e a m) = among_map (on_granule S) numbers g.number ((exact g.number).1 (is_meeting rect g a (subst (GranuleMeets g) (same q e) m)))
          where
            same : (q : Rectangle) → Find rect ≡ Find q → q ≡ rect
            same q e = cc
        there name mode (MarksOne id e g m a vis s b st) = absurd m
        there name mode (MarksLeaf q e g m a meet b st) = absurd m
        there name mode (MarksRegion q g m a meet) = absurd m
        there name mode (MarksObject q e m a meet) = absurd m

  -- leaves of entries
  module _ (v : IsValid t) where
    -- what is wanted on the leaf of one of the numbers
    from_leaves : (mode : Mode) (numbers : List ℕ) (w : Want) → Among w (on_leaves t.nodes mode numbers) → (n : ℕ) × (k : ℕ) × Among n numbers × (leaf_with t.nodes n ≡ Some k) × (w ≡ on_granule mode k)
    from_leaves mode [] w a = absurd a
    from_leaves mode (n ∷ ns) w a = by_leaf (leaf_with t.nodes n) refl a (from_leaves mode ns w)
      where
        later : (n' : ℕ) × (k : ℕ) × Among n' ns × (leaf_with t.nodes n' ≡ Some k) × (w ≡ on_granule mode k) → (n' : ℕ) × (k : ℕ) × Among n' (n ∷ ns) × (leaf_with t.nodes n' ≡ Some k) × (w ≡ on_granule mode k)
        later h = (h.0, h.1, inr h.2, h.3, h.4)

        by_leaf : (o : Option ℕ) → leaf_with t.nodes n ≡ o → Among w (cons_option (on_leaf mode o) (on_leaves t.nodes mode ns))
            → (Among w (on_leaves t.nodes mode ns) → (n' : ℕ) × (k : ℕ) × Among n' ns × (leaf_with t.nodes n' ≡ Some k) × (w ≡ on_granule mode k))
            → (n' : ℕ) × (k : ℕ) × Among n' (n ∷ ns) × (leaf_with t.nodes n' ≡ Some k) × (w ≡ on_granule mode k)
        by_leaf None e a f = later (f a)
        by_leaf (Some k) e (inl s) f = (n, k, inl refl, e, s)
        by_leaf (Some k) e (inr a) f = later (f a)

    in_leaves : (mode : Mode) (numbers : List ℕ) (n k : ℕ) → Among n numbers → leaf_with t.nodes n ≡ Some k → Among (on_granule mode k) (on_leaves t.nodes mode numbers)
    in_leaves mode [] n k a e = absurd a
    in_leaves mode (x ∷ ns) n k (inl s) e =
        subst (λ (o : Option ℕ). Among (on_granule mode k) (cons_option (on_leaf mode o) (on_leaves t.nodes mode ns))) (sym (ap (leaf_with t.nodes) (sym s) ∙ e)) (inl refl)
    in_leaves mode (x ∷ ns) n k (inr a) e = by_leaf (leaf_with t.nodes x) (in_leaves mode ns n k a e)
      where
        by_leaf : (o : Option ℕ) → Among (on_granule mode k) (on_leaves t.nodes mode ns) → Among (on_granule mode k) (cons_option (on_leaf mode o) (on_leaves t.nodes mode ns))
        by_leaf None m = m
        by_leaf (Some j) m = inr m

    -- what is wanted on the leaf of an entry that is known by its number
    on_its_leaf : (W : Name → Mode → Type 0) (mode : Mode) (e : Entry) (k : ℕ) → Among e (entries_of t) → leaf_with t.nodes e.number ≡ Some k → ((g : Granule) → Among g (granules t) → StandsIn e g → W (OnGranule g.number) mode) → W (OnGranule k) mode
    on_its_leaf W mode e k a h f = let g = leaf_granule t v e k a h in subst (λ (n : ℕ). W (OnGranule n) mode) g.2 (f g.0 g.1 g.3)

    -- a drop or a set
    module _ (op : Op) (id : ℕ) (part : part_of op ≡ Id id) (marks : MarksId op id) (other : (i : ℕ) → MarksId op i → i ≡ id) (no_find : (rect : Rectangle) → op ≡ Find rect → ⊥) (no_area : (rect : Rectangle) → MarksArea op rect → ⊥)
        (numbers : List ℕ) (p : IsPermutation (numbers_seen t txn (part_of op)) numbers) where
      pub entry_wants : AreWants (Stay op) (on_leaves t.nodes IX numbers)
      entry_wants name mode = (λ w. here w, λ s. there name mode s)
        where
          q : IsPermutation (numbers_seen t txn (Id id)) numbers
          q = subst (λ (x : Part). IsPermutation (numbers_seen t txn x) numbers) part p

          parts : (a b : Bool) → (a && b) ≡ true → (a ≡ true) × (b ≡ true)
          parts true b h = (refl, h)
          parts false b h = cc

          both : (a b : Bool) → a ≡ true → b ≡ true → (a && b) ≡ true
          both true b h k = k
          both false b h k = cc

          equal_from : (j k : ℕ) → nat_eq j k ≡ true → j ≡ k
          equal_from j k e = grind (arith, nat_tests)

          equal_to : (j k : ℕ) → j ≡ k → nat_eq j k ≡ true
          equal_to j k e = grind (arith, nat_tests)

          here : IsWanted (on_leaves t.nodes IX numbers) name mode → Stay op name mode
          here w =
              let at = from_leaves IX numbers (record { name = name; mode = mode }) w in
              let e = from_map (λ (x : Entry). x.number) (filter (is_seen_in txn (Id id)) (entries_of t)) at.0 (among_back (numbers_seen t txn (Id id)) numbers at.0 q at.2) in
              let seen = from_filter (is_seen_in txn (Id id)) (entries_of t) e.0 e.1 in
              let tests = parts (is_visible txn e.0) (touches (Id id) (record_for txn e.0)) seen.1 in
              as_wanted (Stay op) name mode (on_granule IX at.1) at.4
              (on_its_leaf (Stay op) IX e.0 at.1 seen.0 (ap (leaf_with t.nodes) (sym e.2) ∙ at.3) (λ g a st. MarksOne id e.0 g marks seen.0 tests.0 (equal_from e.0.id id tests.1) a st))

          there : (name : Name) (mode : Mode) → Stay op name mode → IsWanted (on_leaves t.nodes IX numbers) name mode
          there name mode (Finds r g e a m) = absurd (no_find r e)
          there name mode (MarksOne i e g m a vis s b st) =
              in_leaves IX numbers e.number g.number
              (among_permutation (numbers_seen t txn (Id id)) numbers e.number q (among_map (λ (x : Entry). x.number) (filter (is_seen_in txn (Id id)) (entries_of t)) e (among_filter (is_seen_in txn (Id id)) (entries_of t) e a (both (is_visible txn e) (nat_eq e.id id) vis (equal_to e.id id (s ∙ other i m))))))
              (granule_leaf t v e g b st)
          there name mode (MarksLeaf r e g m a meet b st) = absurd (no_area r m)
          there name mode (MarksRegion r g m a meet) = absurd (no_area r m)
          there name mode (MarksObject r e m a meet) = absurd (no_area r m)

    drop_wants : (id : ℕ) (numbers : List ℕ) → IsPermutation (numbers_seen t txn (Id id)) numbers → AreWants (Stay (Drop id)) (on_leaves t.nodes IX numbers)
    drop_wants id numbers p = entry_wants (Drop id) id refl refl (λ i m. sym m) (λ rect e. cc) (λ rect m. m) numbers p

    set_wants : (id : ℕ) (value : List ℕ) (numbers : List ℕ) → IsPermutation (numbers_seen t txn (Id id)) numbers → AreWants (Stay (Set id value)) (on_leaves t.nodes IX numbers)
    set_wants id value numbers p = entry_wants (Set id value) id refl refl (λ i m. sym m) (λ rect e. cc) (λ rect m. m) numbers p

    pub marks_one : (op : Op) (id : ℕ) → MarksId op id → (numbers : List ℕ) → IsPermutation (numbers_seen t txn (part_of op)) numbers → AreWants (Stay op) (on_leaves t.nodes IX numbers)
    marks_one (Put r) id m numbers p = absurd m
    marks_one (Drop i) id m numbers p = drop_wants i numbers p
    marks_one (Set i value) id m numbers p = set_wants i value numbers p
    marks_one (Get i) id m numbers p = absurd m
    marks_one (Find rect) id m numbers p = absurd m
    marks_one (Fill rect value) id m numbers p = absurd m
    marks_one (Clear rect) id m numbers p = absurd m

    -- a fill or a clear
    module _ (op : Op) (rect : Rectangle) (space : IsRectangle rect) (marks : MarksArea op rect) (other : (q : Rectangle) → MarksArea op q → q ≡ rect) (no_find : (q : Rectangle) → op ≡ Find q → ⊥) (no_id : (id : ℕ) → MarksId op id → ⊥)
        (found : List ℕ) (exact : (n : ℕ) → Among n found ↔ IsMeeting (granules t) rect n) (numbers : List ℕ) (p : IsPermutation (numbers_in t (Area rect)) numbers) where
      abbrev wanted : List Want
      wanted = (map (on_granule S) found ++ on_leaves t.nodes SIX numbers) ++ map on_object (entries_at t.nodes numbers)

      entry_at : (n : ℕ) → Among n numbers → (e : Entry) × Among e (entries_of t) × EntryMeets e rect × (n ≡ e.number)
      entry_at n a =
          let e = from_map (λ (x : Entry). x.number) (filter (is_in (Area rect)) (entries_of t)) n (among_back (numbers_in t (Area rect)) numbers n p a) in
          let inside = from_filter (is_in (Area rect)) (entries_of t) e.0 e.1 in
          (e.0, inside.0, entry_meets t v rect space e.0 inside.0 inside.1, e.2)

      number_of : (e : Entry) → Among e (entries_of t) → EntryMeets e rect → Among e.number numbers
      number_of e a m =
          among_permutation (numbers_in t (Area rect)) numbers e.number p (among_map (λ (x : Entry). x.number) (filter (is_in (Area rect)) (entries_of t)) e (among_filter (is_in (Area rect)) (entries_of t) e a (meet_at e.rect rect m.0 m.1 m.2)))

      pub area_wants : AreWants (Stay op) wanted
      area_wants name mode = (λ w. here w, λ s. there name mode s)
        where
          w : Want
          w = record { name = name; mode = mode }

          here : IsWanted wanted name mode → Stay op name mode
          here a = elim (among_split w (map (on_granule S) found ++ on_leaves t.nodes SIX numbers) (map on_object (entries_at t.nodes numbers)) a) [
            | inl b ↦ elim (among_split w (map (on_granule S) found) (on_leaves t.nodes SIX numbers) b) [
              | inl h ↦
                  let at = from_map (on_granule S) found w h in
                  let g = granule_meets rect at.0 ((exact at.0).0 at.1) in
                  as_wanted (Stay op) name mode (on_granule S at.0) at.2 (subst (λ (n : ℕ). Stay op (OnGranule n) S) g.2 (MarksRegion rect g.0 marks g.1 g.3))
              | inr h ↦
                  let at = from_leaves SIX numbers w h in
                  let e = entry_at at.0 at.2 in
                  as_wanted (Stay op) name mode (on_granule SIX at.1) at.4 (on_its_leaf (Stay op) SIX e.0 at.1 e.1 (ap (leaf_with t.nodes) (sym e.3) ∙ at.3) (λ g b st. MarksLeaf rect e.0 g marks e.1 e.2 b st))
            ]
            | inr h ↦
                let at = from_map on_object (entries_at t.nodes numbers) w h in
                let n = from_entries t.nodes numbers at.0 at.1 in
                let e = entry_at n.0 n.1 in
                let same : Some e.0 ≡ Some at.0 = sym (entry_of_among t v e.0 e.1) ∙ ap (entry_of t.nodes) (sym e.3) ∙ n.2 in
                as_wanted (Stay op) name mode (on_object at.0) at.2 (subst (λ (x : Entry). Stay op (Object x.id) X) (some_entry e.0 at.0 same) (MarksObject rect e.0 marks e.1 e.2))
          ]

          there : (name : Name) (mode : Mode) → Stay op name mode → IsWanted wanted name mode
          there name mode (Finds q g e a m) = absurd (no_find q e)
          there name mode (MarksOne i e g m a vis s b st) = absurd (no_id i m)
          there name mode (MarksLeaf q e g m a meet b st) =
              among_left _ (map (on_granule S) found ++ on_leaves t.nodes SIX numbers) (map on_object (entries_at t.nodes numbers))
              (among_right _ (map (on_granule S) found) (on_leaves t.nodes SIX numbers) (in_leaves SIX numbers e.number g.number (number_of e a (subst (EntryMeets e) (other q m) meet)) (granule_leaf t v e g b st)))
          there name mode (MarksRegion q g m a meet) =
              among_left _ (map (on_granule S) found ++ on_leaves t.nodes SIX numbers) (map on_object (entries_at t.nodes numbers))
              (among_left _ (map (on_granule S) found) (on_leaves t.nodes SIX numbers) (among_map (on_granule S) found g.number ((exact g.number).1 (is_meeting rect g a (subst (GranuleMeets g) (other q m) meet)))))
          there name mode (MarksObject q e m a meet) =
              among_right _ (map (on_granule S) found ++ on_leaves t.nodes SIX numbers) (map on_object (entries_at t.nodes numbers))
              (among_map on_object (entries_at t.nodes numbers) e (in_entries t.nodes numbers e.number e (number_of e a (subst (EntryMeets e) (other q m) meet)) (entry_of_among t v e a)))

    module _ (rect : Rectangle) (space : IsRectangle rect) (found : List ℕ) (exact : (n : ℕ) → Among n found ↔ IsMeeting (granules t) rect n) (numbers : List ℕ) (p : IsPermutation (numbers_in t (Area rect)) numbers) where
      pub each_area : (op : Op) → MarksArea op rect → AreWants (Stay op) ((map (on_granule S) found ++ on_leaves t.nodes SIX numbers) ++ map on_object (entries_at t.nodes numbers))
      each_area (Put r) m = absurd m
      each_area (Drop id) m = absurd m
      each_area (Set id value) m = absurd m
      each_area (Get id) m = absurd m
      each_area (Find q) m = absurd m
      each_area (Fill q value) m = area_wants (Fill q value) rect space m (λ r k. sym k ∙ m) (λ r e. cc) (λ id k. k) found exact numbers p
      each_area (Clear q) m = area_wants (Clear q) rect space m (λ r k. sym k ∙ m) (λ r e. cc) (λ id k. k) found exact numbers p

  -- a put and a get want nothing
  pub no_wants : (op : Op) → ((rect : Rectangle) → op ≡ Find rect → ⊥) → ((id : ℕ) → MarksId op id → ⊥) → ((rect : Rectangle) → MarksArea op rect → ⊥) → AreWants (Stay op) []
  no_wants op no_find no_id no_area name mode = (λ w. absurd w, λ s. there name mode s)
    where
      there : (name : Name) (mode : Mode) → Stay op name mode → IsWanted [] name mode
      there name mode (Finds q g e a m) = absurd (no_find q e)
      there name mode (MarksOne i e g m a vis s b st) = absurd (no_id i m)
      there name mode (MarksLeaf q e g m a meet b st) = absurd (no_area q m)
      there name mode (MarksRegion q g m a meet) = absurd (no_area q m)
      there name mode (MarksObject q e m a meet) = absurd (no_area q m)

  pub put_wants : (r : Record) → AreWants (Stay (Put r)) []
  put_wants r = no_wants (Put r) (λ rect e. cc) (λ id m. m) (λ rect m. m)

  pub get_wants : (id : ℕ) → AreWants (Stay (Get id)) []
  get_wants id = no_wants (Get id) (λ rect e. cc) (λ i m. m) (λ rect m. m)
