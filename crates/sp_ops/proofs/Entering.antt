-- What the parts of a plan say of the leaf that a new entry enters, and of the granules that were searched.
use Rattle.std.proofs.Common.{◌≡◌, ◌≢◌, ℕ, zero, suc, ◌+◌, ◌-◌, ◌<◌, ◌≤◌, Bool, true, false, ◌&&◌, ◌||◌, ◌↔◌, cond, List, [], ◌∷◌, ◌++◌, map, length, take, get_or, Option, Some, None, is_some, refl, sym, ap, ◌∙◌, subst, inl, inr, ◌⊎◌, arith}
use Rattle.std.specs.Prelude.{nat_eq, is_none, MatchOption}
use Rattle.std.specs.List.{filter, list_any}
use Rattle.std.proofs.lemmas.Bool.Decides.{nat_tests}
use Rattle.std.proofs.lemmas.List.{take_more}
use Rattle.std.proofs.lemmas.List.Folds.{list_any-append}
use Rattle.sp_locks.specs.declared.mode.Mode.{Mode}
use Rattle.sp_locks.specs.declared.mode.Mode.TheVariants.{IX, S}
use Rattle.sp_locks.specs.declared.row.Name.{Name}
use Rattle.sp_locks.specs.declared.row.Name.TheVariants.{Granule as OnGranule}
use Rattle.sp_rect.specs.Plane.{Rectangle}
use Rattle.sp_node.specs.declared.node.Entry.{Entry}
use Rattle.sp_node.specs.declared.node.Node.{Node}
use Rattle.sp_node.specs.declared.node.Node.TheVariants.{Leaf, Inner}
use Rattle.sp_node.specs.declared.plan.Part.{Part}
use Rattle.sp_node.specs.declared.plan.Plan.{Plan}
use Rattle.sp_node.specs.Among.{Among}
use Rattle.sp_node.specs.Look.{look, entries_in, entries_of_node}
use Rattle.sp_node.specs.Index.{leaf_with, has_number}
use Rattle.sp_node.specs.Nested.{Body, node}
use Rattle.sp_node.specs.Plan.{number_of, content, with_parts, planned, AreOrdered, IsMadeOf}
use Rattle.sp_node.specs.Standing.{IsLeafOf, HasNoEntry}
use Rattle.sp_node.specs.Table.{Table, IsValid}
use Rattle.sp_node.proofs.Adopt.{part_at, listed, look_parts, has}
use Rattle.sp_node.proofs.Among.{all_among, among_left, among_right, among_split}
use Rattle.sp_node.proofs.Entries.{has_from_among}
use Rattle.sp_node.proofs.Single.{own, first_leaf}
use Rattle.sp_node.proofs.Standing.{keys_distinct, leaf_stands, place_stands}
use Rattle.sp_granule.specs.Granules.{Granule, Standing, standing, granule, granule_of_node, granules, IsMeeting}
use Rattle.sp_protection.specs.Guarding.{AreSame}
use Rattle.sp_protection.specs.Reshape.{HasNumber}
use Rattle.sp_protection.specs.Needs.{HasNewEntry, PutWant, Enters, KeepsSearched}
use Rattle.sp_ops.specs.declared.wants.Want.{Want}
use Rattle.sp_ops.specs.Changes.{is_new, is_entered, IsSearched}
use Rattle.sp_ops.specs.Wanted.{IsWanted, AreWants, on_granule}
use Rattle.sp_ops.proofs.Arranging.{among_map, from_map, among_filter, from_filter}
use Rattle.sp_ops.proofs.ByNumber.{granule_as, granule_at, found_among, node_of_granule, HasNode}
use Rattle.sp_ops.proofs.Leaves.{stands_at, granule_among, place_of_granule}
use Rattle.sp_ops.proofs.Parts.{unlisted_kept}

self_equal : (k : ℕ) → nat_eq k k ≡ true
self_equal k = grind (arith, nat_tests)

equal_from : (j k : ℕ) → nat_eq j k ≡ true → j ≡ k
equal_from j k e = grind (arith, nat_tests)

less_apart : (j k : ℕ) → j < k → nat_eq k j ≡ false
less_apart j k lt = grind (arith, nat_tests)

clash : (b : Bool) → b ≡ true → b ≡ false → ⊥
clash b e f = cc

parts : (a b : Bool) → (a && b) ≡ true → (a ≡ true) × (b ≡ true)
parts true b h = (refl, h)
parts false b h = cc

-- of the first of them, the last is one or none
pub any_back : (p : Entry → Bool) (es : List Entry) (i : ℕ) (e : Entry) → 0 < i → i ≤ length es → e ≡ get_or es (i - 1) e → list_any p (take i es) ≡ (list_any p (take (i - 1) es) || p e)
any_back p es i e some l is =
    let more : i ≡ (i - 1) + 1 = omega (arith, some) in
    ap (λ (n : ℕ). list_any p (take n es)) more
    ∙ ap (list_any p) (take_more es (i - 1) e (omega (arith, some, l)) ∙ ap (λ (d : Entry). take (i - 1) es ++ d ∷ []) (sym is))
    ∙ list_any-append p (take (i - 1) es) (e ∷ [])
    ∙ ap (λ (b : Bool). list_any p (take (i - 1) es) || b) (or_false (p e))
  where
    or_false : (b : Bool) → (b || false) ≡ b
    or_false true = refl
    or_false false = refl

pub or_true : (a : Bool) → (a || true) ≡ true
or_true true = refl
or_true false = refl

pub or_none : (a b : Bool) → b ≡ false → (a || b) ≡ a
or_none true b e = refl
or_none false b e = e

both : (a b : Bool) → a ≡ true → b ≡ true → (a && b) ≡ true
both true b h k = k
both false b h k = cc

none_is : {X : Type 0} (o : Option X) → is_none o ≡ true → o ≡ None
none_is None e = refl
none_is (Some x) e = cc

is_nothing : {X : Type 0} (o : Option X) → o ≡ None → is_none o ≡ true
is_nothing None e = refl
is_nothing (Some x) e = cc

is_something : {X : Type 0} (o : Option X) (x : X) → o ≡ Some x → is_some o ≡ true
is_something None x e = cc
is_something (Some y) x e = refl

-- a test that one of a list passes
module _ {X : Type 0} (f : X → Bool) where
  any_from : (xs : List X) (x : X) → Among x xs → f x ≡ true → list_any f xs ≡ true
  any_from [] x a h = absurd a
  any_from (y ∷ ys) x (inl e) h = left (f y) (ap f (sym e) ∙ h)
    where
      left : (b : Bool) → b ≡ true → (b || list_any f ys) ≡ true
      left true k = refl
      left false k = cc
  any_from (y ∷ ys) x (inr a) h = right (f y) (any_from ys x a h)
    where
      right : (b : Bool) → list_any f ys ≡ true → (b || list_any f ys) ≡ true
      right true k = refl
      right false k = k

  some_passes : (xs : List X) → list_any f xs ≡ true → (x : X) × Among x xs × (f x ≡ true)
  some_passes [] h = cc
  some_passes (y ∷ ys) h = by_test (f y) refl h (some_passes ys)
    where
      by_test : (b : Bool) → f y ≡ b → (b || list_any f ys) ≡ true → (list_any f ys ≡ true → (x : X) × Among x ys × (f x ≡ true)) → (x : X) × Among x (y ∷ ys) × (f x ≡ true)
      by_test true e h g = (y, inl refl, e)
      by_test false e h g = let more = g h in (more.0, inr more.1, more.2)

-- a part says what stands under its number
own_part : (ps : List Part) (p : Part) (o : Option Node) → AreOrdered ps → Among p ps → part_at ps (number_of p) o ≡ content p
own_part [] p o h a = absurd a
own_part (x ∷ ps) p o h (inl e) =
    ap (λ (y : Part). cond (nat_eq (number_of p) (number_of y)) (content y) (part_at ps (number_of p) o)) (sym e)
    ∙ ap (λ (b : Bool). cond b (content p) (part_at ps (number_of p) o)) (self_equal (number_of p))
own_part (x ∷ ps) p o h (inr a) =
    ap (λ (b : Bool). cond b (content x) (part_at ps (number_of p) o)) (less_apart (number_of x) (number_of p) (all_among (λ q. number_of x < number_of q) p ps h.0 a))
    ∙ own_part ps p o h.1 a

part_for : (ps : List Part) (k : ℕ) → listed ps k ≡ true → (p : Part) × Among p ps × (number_of p ≡ k) × ((o : Option Node) → part_at ps k o ≡ content p)
part_for [] k l = cc
part_for (x ∷ ps) k l = by_test (nat_eq k (number_of x)) refl l (part_for ps k)
  where
    by_test : (b : Bool) → nat_eq k (number_of x) ≡ b → (b || listed ps k) ≡ true → (listed ps k ≡ true → (p : Part) × Among p ps × (number_of p ≡ k) × ((o : Option Node) → part_at ps k o ≡ content p))
        → (p : Part) × Among p (x ∷ ps) × (number_of p ≡ k) × ((o : Option Node) → part_at (x ∷ ps) k o ≡ content p)
    by_test true e h f = (x, inl refl, sym (equal_from k (number_of x) e), λ o. ap (λ (b : Bool). cond b (content x) (part_at ps k o)) e)
    by_test false e h f = let more = f h in (more.0, inr more.1, more.2, λ o. ap (λ (b : Bool). cond b (content x) (part_at ps k o)) e ∙ more.3 o)

-- what stands in a granule is one of its node's entries
standing_has : (level number : ℕ) (space : Rectangle) (body : Body level) (e : Standing) → Among e (granule_of_node level number space body).entries → has_number (entries_of_node (node level body)) e.number ≡ true
standing_has zero number space body e a =
    let at = from_map standing body e a in
    ap (has_number body) (ap (λ (x : Standing). x.number) at.2) ∙ has_from_among at.0 body at.1
standing_has (suc level) number space body e a = absurd a

-- the entries of a leaf
leaf_of_entries : (o : Option Node) (e : Entry) → Among e (entries_in o) → (es : List Entry) × (o ≡ Some (Leaf es)) × Among e es
leaf_of_entries None e a = absurd a
leaf_of_entries (Some (Leaf es)) e a = (es, refl, a)
leaf_of_entries (Some (Inner cs)) e a = absurd a

module _ (t : Table) (v : IsValid t) where
  pub had_number : (n : ℕ) → HasNumber (granules t) n → is_some (look t.nodes n) ≡ true
  had_number n h =
      let m = node_of_granule t v h.0 h.1 in
      ap (λ (k : ℕ). is_some (look t.nodes k)) (sym h.2) ∙ is_something (look t.nodes h.0.number) m.node m.stands

  pub number_had : (n : ℕ) → is_some (look t.nodes n) ≡ true → HasNumber (granules t) n
  number_had n h = by_node (look t.nodes n) refl h
    where
      by_node : (o : Option Node) → look t.nodes n ≡ o → is_some o ≡ true → HasNumber (granules t) n
      by_node None e h = cc
      by_node (Some m) e h =
          let at = granule_at t v n m e in
          let f = found_among (granules t) n (granule_as n at.0 m) at.1 in
          (granule_as n at.0 m, f.0, f.1)

  -- an entry that no leaf is known of stands in none
  stands_nowhere : (q : ℕ) → leaf_with t.nodes q ≡ None → (k : ℕ) → has (look t.nodes k) q ≡ true → ⊥
  stands_nowhere q e k h = by_leaf (first_leaf q t.nodes (keys_distinct t v))
    where
      not_both : (j : ℕ) (o : Option ℕ) → o ≡ None → o ≡ Some j → ⊥
      not_both j o e f = cc

      by_leaf : (((j : ℕ) × (leaf_with t.nodes q ≡ Some j) × (has (look t.nodes j) q ≡ true)) ⊎ ((leaf_with t.nodes q ≡ None) × ((j : ℕ) → has (look t.nodes j) q ≡ false))) → ⊥
      by_leaf (inl l) = not_both l.0 (leaf_with t.nodes q) e l.1
      by_leaf (inr l) = clash (has (look t.nodes k) q) h (l.1 k)

  in_no_granule : (q : ℕ) → leaf_with t.nodes q ≡ None → (g : Granule) (e : Standing) → Among g (granules t) → Among e g.entries → e.number ≢ q
  in_no_granule q none g e a b same =
      let at = place_of_granule t v g a in
      let here = standing_has at.0.level at.0.number at.0.space at.0.body e (subst (λ (x : Granule). Among e x.entries) at.2 b) in
      stands_nowhere q none at.0.number (ap (λ (o : Option Node). has o q) (place_stands t v at.0 at.1) ∙ ap (has_number (own at.0)) (sym same) ∙ here)

  -- an entry that stands in no granule has no leaf that is known of it
  no_leaf : (q : ℕ) → ((g : Granule) (e : Standing) → Among g (granules t) → Among e g.entries → e.number ≢ q) → leaf_with t.nodes q ≡ None
  no_leaf q new = by_leaf (leaf_with t.nodes q) (leaf_stands t v q)
    where
      by_leaf : (o : Option ℕ) → MatchOption o (HasNoEntry t q) (IsLeafOf t q) → o ≡ None
      by_leaf None h = refl
      by_leaf (Some k) h =
          absurd (new (granule h.place) (standing h.entry) (granule_among t v h.place h.among) (stands_at h.place.level h.place.number h.place.space h.place.body h.entry h.has).1 h.is)

  module _ (plan : Plan) (made : IsMadeOf t plan) where
    abbrev EntersAt : ℕ → Type 0
    EntersAt n = (after : Granule) × Among after (granules (planned t plan)) × HasNewEntry (granules t) after × HasNumber (granules t) after.number × (after.number ≡ n)

    enters : (p : Part) → Among p plan.parts → is_entered t.nodes p ≡ true → EntersAt (number_of p)
    enters p a h =
        let tests = parts (is_some (look t.nodes (number_of p))) (list_any (is_new t.nodes) (entries_in (content p))) h in
        let e = some_passes (is_new t.nodes) (entries_in (content p)) tests.1 in
        let leaf = leaf_of_entries (content p) e.0 e.1 in
        let there : look (with_parts t.nodes plan.parts) (number_of p) ≡ Some (Leaf leaf.0) = look_parts t.nodes plan.parts (number_of p) ∙ own_part plan.parts p (look t.nodes (number_of p)) made.ordered a ∙ leaf.1 in
        let at = granule_at (planned t plan) made.valid (number_of p) (Leaf leaf.0) there in
        let after = granule_as (number_of p) at.0 (Leaf leaf.0) in (
          after,
          (found_among (granules (planned t plan)) (number_of p) after at.1).0,
          record {
            entry = standing e.0;
            stands = among_map standing leaf.0 e.0 leaf.2;
            is_leaf = refl;
            new = λ g f b d. in_no_granule e.0.number (none_is (leaf_with t.nodes e.0.number) e.2) g f b d;
          },
          number_had (number_of p) tests.0,
          refl,
        )

    enters_back : (after : Granule) → Among after (granules (planned t plan)) → HasNewEntry (granules t) after → HasNumber (granules t) after.number → Among after.number (map number_of (filter (is_entered t.nodes) plan.parts))
    enters_back after a new had = by_test (listed plan.parts after.number) refl
      where
        m : HasNode (planned t plan) made.valid after
        m = node_of_granule (planned t plan) made.valid after a

        e : (x : Entry) × Among x (entries_of_node m.node) × (new.entry ≡ standing x)
        e = from_map standing (entries_of_node m.node) new.entry (subst (λ (g : Granule). Among new.entry g.entries) m.is new.stands)

        named : new.entry.number ≡ e.0.number
        named = ap (λ (x : Standing). x.number) e.2

        none : leaf_with t.nodes e.0.number ≡ None
        none = no_leaf e.0.number (λ g f b d same. new.new g f b d (same ∙ sym named))

        by_test : (b : Bool) → listed plan.parts after.number ≡ b → Among after.number (map number_of (filter (is_entered t.nodes) plan.parts))
        by_test false l =
            let old : look t.nodes after.number ≡ Some m.node = sym (unlisted_kept t v plan made after.number l) ∙ m.stands in
            absurd (stands_nowhere e.0.number none after.number (ap (λ (o : Option Node). has o e.0.number) old ∙ has_from_among e.0 (entries_of_node m.node) e.1))
        by_test true l =
            let p = part_for plan.parts after.number l in
            let is : content p.0 ≡ Some m.node = sym (p.3 (look t.nodes after.number)) ∙ sym (look_parts t.nodes plan.parts after.number) ∙ m.stands in
            let entered =
            both (is_some (look t.nodes (number_of p.0))) (list_any (is_new t.nodes) (entries_in (content p.0)))
            (ap (λ (k : ℕ). is_some (look t.nodes k)) p.2 ∙ had_number after.number had)
            (any_from (is_new t.nodes) (entries_in (content p.0)) e.0 (subst (λ (o : Option Node). Among e.0 (entries_in o)) (sym is) e.1) (is_nothing (leaf_with t.nodes e.0.number) none)) in
            subst (λ (k : ℕ). Among k (map number_of (filter (is_entered t.nodes) plan.parts))) p.2 (among_map number_of (filter (is_entered t.nodes) plan.parts) p.0 (among_filter (is_entered t.nodes) plan.parts p.0 p.1 entered))

    -- what a put wants
    module _ (searches : List Rectangle) (leaves met : List ℕ) (are : leaves ≡ map number_of (filter (is_entered t.nodes) plan.parts))
        (meets : (n : ℕ) → Among n met ↔ ((AreSame (granules t) (granules (planned t plan)) → ⊥) × IsSearched t.nodes (granules (planned t plan)) searches n)) where
      abbrev Wanted : Name → Mode → Type 0
      Wanted = PutWant (granules t) (granules (planned t plan)) searches

      pub put_wanted : AreWants Wanted (map (on_granule IX) leaves ++ map (on_granule S) met)
      put_wanted name mode = (λ w. here w, λ s. there name mode s)
        where
          w : Want
          w = record { name = name; mode = mode }

          as_wanted : (x : Want) → w ≡ x → Wanted x.name x.mode → Wanted name mode
          as_wanted x e h = subst (λ (y : Want). Wanted y.name y.mode) (sym e) h

          here : IsWanted (map (on_granule IX) leaves ++ map (on_granule S) met) name mode → Wanted name mode
          here a = elim (among_split w (map (on_granule IX) leaves) (map (on_granule S) met) a) [
            | inl h ↦
                let at = from_map (on_granule IX) leaves w h in
                let p = from_map number_of (filter (is_entered t.nodes) plan.parts) at.0 (subst (Among at.0) are at.1) in
                let f = from_filter (is_entered t.nodes) plan.parts p.0 p.1 in
                let g = enters p.0 f.0 f.1 in
                as_wanted (on_granule IX at.0) at.2 (subst (λ (n : ℕ). Wanted (OnGranule n) IX) (g.4 ∙ sym p.2) (Enters g.0 g.1 g.2 g.3))
            | inr h ↦
                let at = from_map (on_granule S) met w h in
                let k = (meets at.0).0 at.1 in
                let s = k.1 in
                let g = s.meets.2 in
                as_wanted (on_granule S at.0) at.2 (subst (λ (n : ℕ). Wanted (OnGranule n) S) g.2 (KeepsSearched s.rect g.0 k.0 s.among g.1 (s.meets.0, g.3, s.meets.1) (number_had g.0.number (ap (λ (n : ℕ). is_some (look t.nodes n)) g.2 ∙ s.had))))
          ]

          there : (name : Name) (mode : Mode) → Wanted name mode → IsWanted (map (on_granule IX) leaves ++ map (on_granule S) met) name mode
          there name mode (Enters after a new had) =
              among_left _ (map (on_granule IX) leaves) (map (on_granule S) met) (among_map (on_granule IX) leaves after.number (subst (Among after.number) (sym are) (enters_back after a new had)))
          there name mode (KeepsSearched rect after other b a m had) =
              among_right _ (map (on_granule IX) leaves) (map (on_granule S) met)
              (among_map (on_granule S) met after.number ((meets after.number).1 (other, record { rect = rect; among = b; meets = (m.0, m.2, (after, a, refl, m.1)); had = had_number after.number had })))

-- one more rectangle
pub searched_more : (nodes : List (ℕ × Node)) (gs' : List Granule) (searches : List Rectangle) (i : ℕ) (rect : Rectangle) (old new : List ℕ) → i < length searches → rect ≡ get_or searches i rect
    → ((n : ℕ) → Among n old ↔ IsSearched nodes gs' (take i searches) n) → ((n : ℕ) → Among n new ↔ (Among n old ⊎ (IsMeeting gs' rect n × (is_some (look nodes n) ≡ true))))
    → (n : ℕ) → Among n new ↔ IsSearched nodes gs' (take (i + 1) searches) n
searched_more nodes gs' searches i rect old new lt same was is n = (
  λ a. elim ((is n).0 a) [
    | inl b ↦ let s = (was n).0 b in record { rect = s.rect; among = subst (Among s.rect) (sym more) (among_left s.rect (take i searches) (rect ∷ []) s.among); meets = s.meets; had = s.had }
    | inr b ↦ record { rect = rect; among = subst (Among rect) (sym more) (among_right rect (take i searches) (rect ∷ []) (inl refl)); meets = b.0; had = b.1 }
  ],
  λ s. (is n).1 (by_rect s (among_split s.rect (take i searches) (rect ∷ []) (subst (Among s.rect) more s.among))),
)
  where
    more : take (i + 1) searches ≡ take i searches ++ rect ∷ []
    more = take_more searches i rect lt ∙ ap (λ (r : Rectangle). take i searches ++ r ∷ []) (sym same)

    by_rect : (s : IsSearched nodes gs' (take (i + 1) searches) n) → (Among s.rect (take i searches) ⊎ Among s.rect (rect ∷ [])) → Among n old ⊎ (IsMeeting gs' rect n × (is_some (look nodes n) ≡ true))
    by_rect s (inl b) = inl ((was n).1 (record { rect = s.rect; among = b; meets = s.meets; had = s.had }))
    by_rect s (inr (inl e)) = inr (subst (λ (r : Rectangle). IsMeeting gs' r n) e s.meets, s.had)
    by_rect s (inr (inr b)) = absurd b

pub none_searched : (nodes : List (ℕ × Node)) (gs' : List Granule) (n : ℕ) → Among n [] ↔ IsSearched nodes gs' [] n
none_searched nodes gs' n = (λ a. absurd a, λ s. absurd s.among)

-- those that were met and are old come in addition
pub old_added : (nodes : List (ℕ × Node)) (gs' : List Granule) (rect : Rectangle) (numbers old new : List ℕ) → ((n : ℕ) → Among n numbers ↔ IsMeeting gs' rect n) → new ≡ old ++ filter (λ n. is_some (look nodes n)) numbers
    → (n : ℕ) → Among n new ↔ (Among n old ⊎ (IsMeeting gs' rect n × (is_some (look nodes n) ≡ true)))
old_added nodes gs' rect numbers old new exact is n = (
  λ a. elim (among_split n old (filter (λ k. is_some (look nodes k)) numbers) (subst (Among n) is a)) [
    | inl b ↦ inl b
    | inr b ↦ let f = from_filter (λ k. is_some (look nodes k)) numbers n b in inr ((exact n).0 f.0, f.1)
  ],
  λ s. subst (Among n) (sym is) (elim s [
    | inl b ↦ among_left n old (filter (λ k. is_some (look nodes k)) numbers) b
    | inr b ↦ among_right n old (filter (λ k. is_some (look nodes k)) numbers) (among_filter (λ k. is_some (look nodes k)) numbers n ((exact n).1 b.0) b.1)
  ]),
)

-- where nothing changes, or nothing was searched, nothing is wanted
pub unchanged_none : (Same Searched : Type 0) (n : ℕ) (found : List ℕ) → found ≡ [] → (Same ⊎ (Searched → ⊥)) → Among n found ↔ ((Same → ⊥) × Searched)
unchanged_none Same Searched n found e h = (λ a. absurd (subst (Among n) e a), λ s. absurd (elim h [ inl y ↦ s.0 y | inr z ↦ z s.1 ]))
