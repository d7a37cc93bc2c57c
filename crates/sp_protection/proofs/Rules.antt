-- What the rules of an operation's needs give: a license for the change, and what is guarded and owned.
use Rattle.std.proofs.Common.{◌≡◌, ◌⊎◌, ℕ, zero, suc, Bool, true, false, ◌&&◌, IsTrue, List, [], ◌∷◌, ◌++◌, map, Option, Some, None, nat_eq, refl, sym, ap, ◌∙◌, subst, inl, inr, true≢false, arith}
use Rattle.std.specs.List.{flat_map}
use Rattle.std.proofs.lemmas.List.{append-nil}
use Rattle.sp_rect.specs.Plane.{Point, Rectangle, IsRectangle, holds, meets, whole}
use Rattle.sp_rect.specs.declared.operation.Op.{Op}
use Rattle.sp_rect.specs.declared.operation.Op.TheVariants.{Put, Drop, Set, Get, Find, Fill, Clear}
use Rattle.sp_rect.specs.Store.{Area, part_of}
use Rattle.sp_locks.specs.declared.mode.Mode.{Mode}
use Rattle.sp_locks.specs.declared.mode.Mode.TheVariants.{IX, S, SIX, X}
use Rattle.sp_locks.specs.declared.row.Name.{Name}
use Rattle.sp_locks.specs.declared.row.Name.TheVariants.{Granule as OnGranule, Object}
use Rattle.sp_locks.specs.declared.row.Duration.TheVariants.{Commit, Short}
use Rattle.sp_locks.specs.declared.needs.Need.{Need}
use Rattle.sp_node.specs.declared.node.Entry.{Entry}
use Rattle.sp_node.specs.Among.{Among}
use Rattle.sp_node.specs.Look.{look}
use Rattle.sp_node.specs.Nested.{Body, places, entries}
use Rattle.sp_node.specs.Table.{Table, IsValid, level_of, body_at, entries_of}
use Rattle.sp_node.proofs.Among.{all_among, among_flat_map, from_flat_map}
use Rattle.sp_granule.specs.Granules.{Granule, Standing, standing, granule, granule_of_node, granules, in_granule}
use Rattle.sp_txn.specs.Visible.{is_visible}
use Rattle.sp_protection.specs.Holding.{Lock, GranuleNeed, HoldsMode, has}
use Rattle.sp_protection.specs.Guarding.{Guarded, Owned, HoldsMeeting, AreSame}
use Rattle.sp_protection.specs.Reshape.{HasNumber, Licensed, MeetsShort, MeetsEntry, EntersOrGives}
use Rattle.sp_protection.specs.Needs.{MarksArea, MarksId, StayWant, PutWant, ShortWant, AreNeedsOf}
use Rattle.sp_protection.specs.Needs.StayWant.{Finds, MarksOne, MarksLeaf, MarksRegion, MarksObject}
use Rattle.sp_protection.specs.Needs.PutWant.{Enters, KeepsSearched}
use Rattle.sp_protection.specs.Needs.ShortWant.{LosesPoint, Goes, Reached, GivesAway}
use Rattle.sp_protection.specs.Effects.{is_changed}
use Rattle.sp_protection.specs.Asking.{HoldsEach, HoldsNamed, AreAskedOrHeld, granule_needs, held_needs, IsNew, HoldsGifts}
use Rattle.sp_protection.specs.Insertion.{HoldsOwn}
use Rattle.sp_protection.proofs.Choice.{some_or_none, same, tells}
use Rattle.sp_protection.proofs.Reshapes.{short_license_removal, needs_license_put}
use Rattle.sp_protection.proofs.Leaves.{among_map, from_map, common_point, search_guards, same_guards}
use Rattle.sp_protection.proofs.Insertions.{holds-more, guarded-more}
use Rattle.sp_protection.proofs.Wanted.{holds_weaker, holds_or_not, held_wanted, all_asked, asked_wanted}

-- The license of a change.
module _ (gs gs' : List Granule) (needs : List GranuleNeed) where
  short_met : (chosen : Option ℕ) → ((number : ℕ) (mode : Mode) → ShortWant gs gs' chosen (OnGranule number) mode → has needs number mode ≡ true) → MeetsShort gs gs' chosen needs
  short_met chosen all = record {
    loses = λ g i h. all g.number IX (LosesPoint g i h);
    gone = λ g i h. all g.number IX (Goes g i h);
    reached = λ g i h. all g.number IX (Reached g i h);
    gives = λ g i l h. all g.number SIX (GivesAway g i l h);
  }

  entry_met : (searches : List Rectangle) (e : Standing) → IsNew gs e → ((number : ℕ) (mode : Mode) → PutWant gs gs' searches (OnGranule number) mode → has needs number mode ≡ true) → MeetsEntry gs gs' e needs
  entry_met searches e new all after i l stands has = all after.number IX (Enters after i (record { entry = e; stands = stands; is_leaf = l; new = new }) has)

pub removal_licensed : (gs gs' : List Granule) (short : List Need) → AreNeedsOf (ShortWant gs gs' None) Short short → Licensed gs gs' (granule_needs short)
removal_licensed gs gs' short are =
    short_license_removal gs gs' (granule_needs short)
    (short_met gs gs' (granule_needs short) None (λ number mode w. sym (ap (λ needs. has needs number mode) (append-nil (granule_needs short))) ∙ asked_wanted (ShortWant gs gs' None) Short short short [] 0 are (all_asked [] 0 short) number mode w))

pub put_licensed : (gs gs' : List Granule) (searches : List Rectangle) (chosen : ℕ) (e : Standing) (locks : List Lock) (t : ℕ) (commit short asked : List Need)
    → AreNeedsOf (PutWant gs gs' searches) Commit commit → AreNeedsOf (ShortWant gs gs' (Some chosen)) Short short
    → AreAskedOrHeld locks t commit asked → AreAskedOrHeld locks t short asked → IsNew gs e → EntersOrGives gs gs' chosen e
    → Licensed gs gs' (granule_needs asked ++ held_needs locks t)
put_licensed gs gs' searches chosen e locks t commit short asked are_commit are_short met_commit met_short new enters =
    needs_license_put gs gs' chosen e (granule_needs asked ++ held_needs locks t)
    (short_met gs gs' (granule_needs asked ++ held_needs locks t) (Some chosen) (asked_wanted (ShortWant gs gs' (Some chosen)) Short short asked locks t are_short met_short))
    (entry_met gs gs' (granule_needs asked ++ held_needs locks t) searches e new (asked_wanted (PutWant gs gs' searches) Commit commit asked locks t are_commit met_commit)) enters

-- What an operation that leaves the tree as it is guards and owns by its needs.
area : {q rect : Rectangle} → Area q ≡ Area rect → q ≡ rect
area e = cc

wanted_meeting : (gs : List Granule) (es : List Entry) (locks : List Lock) (t : ℕ) (op : Op) (rect : Rectangle) → part_of op ≡ Area rect → ((name : Name) (mode : Mode) → StayWant gs es t op name mode → HoldsMode locks t name mode) → HoldsMeeting gs locks t rect
wanted_meeting gs es locks t (Put r) rect e all g p i had here = absurd (cc)
wanted_meeting gs es locks t (Drop id) rect e all g p i had here = absurd (cc)
wanted_meeting gs es locks t (Set id value) rect e all g p i had here = absurd (cc)
wanted_meeting gs es locks t (Get id) rect e all g p i had here = absurd (cc)
wanted_meeting gs es locks t (Find q) rect e all g p i had here = all (OnGranule g.number) S (Finds rect g (ap Find (area e)) i (p, had, here))
wanted_meeting gs es locks t (Fill q value) rect e all g p i had here = all (OnGranule g.number) S (MarksRegion rect g (area e) i (p, had, here))
wanted_meeting gs es locks t (Clear q) rect e all g p i had here = all (OnGranule g.number) S (MarksRegion rect g (area e) i (p, had, here))

pub needs_meet : (tree : Table) (es : List Entry) (locks : List Lock) (t : ℕ) (op : Op) (rect : Rectangle) (needs : List Need) → part_of op ≡ Area rect → AreNeedsOf (StayWant (granules tree) es t op) Commit needs → HoldsEach locks t needs → HoldsMeeting (granules tree) locks t rect
needs_meet tree es locks t op rect needs e are held = wanted_meeting (granules tree) es locks t op rect e (held_wanted (StayWant (granules tree) es t op) Commit needs locks t are held)

pub needs_guard : (tree : Table) (es : List Entry) (locks : List Lock) (t : ℕ) (op : Op) (rect : Rectangle) (needs : List Need) → part_of op ≡ Area rect → IsRectangle rect → AreNeedsOf (StayWant (granules tree) es t op) Commit needs → HoldsEach locks t needs → Guarded (granules tree) locks t rect
needs_guard tree es locks t op rect needs e v are held = search_guards tree locks t rect v (needs_meet tree es locks t op rect needs e are held)

-- the leaf of an entry
record HasLeaf (gs : List Granule) (e : Standing) : Type 0 where
  leaf : Granule
  among : Among leaf gs
  is_leaf : leaf.is_leaf ≡ true
  stands : Among e leaf.entries

leaf_below : (level number : ℕ) (space : Rectangle) (body : Body level) (e : Entry) → Among e (entries level body) → HasLeaf (map granule (places level number space body)) (standing e)
leaf_below zero number space body e a = record { leaf = granule_of_node zero number space body; among = inl refl; is_leaf = refl; stands = among_map standing e body a }
leaf_below (suc level) number space body e a =
    let b = from_flat_map (λ b. entries level b.body) e body a in
    let below = leaf_below level b.0.number b.0.rect b.0.body e b.2 in
    let place = from_map granule below.leaf (places level b.0.number b.0.rect b.0.body) below.among in
    record {
      leaf = below.leaf;
      among =
          inr
          (subst (λ (g : Granule). Among g (map granule (flat_map (λ b. places level b.number b.rect b.body) body))) place.2
          (among_map granule place.0 (flat_map (λ b. places level b.number b.rect b.body) body) (among_flat_map (λ b. places level b.number b.rect b.body) place.0 b.0 body b.1 place.1)));
      is_leaf = below.is_leaf;
      stands = below.stands;
    }

leaf_of : (t : Table) (e : Entry) → Among e (entries_of t) → HasLeaf (granules t) (standing e)
unfolding granules
leaf_of t e a = leaf_below (level_of t) t.root whole (body_at (look t.nodes) (level_of t) t.root) e a

both_parts : (a b : Bool) → (a && b) ≡ true → (a ≡ true) × (b ≡ true)
both_parts a b h = grind arith

module _ (tree : Table) (valid : IsValid tree) (locks : List Lock) (t : ℕ) (op : Op) (all : (name : Name) (mode : Mode) → StayWant (granules tree) (entries_of tree) t op name mode → HoldsMode locks t name mode) (e : Entry) (i : Among e (entries_of tree)) where
  abbrev of : HasLeaf (granules tree) (standing e)
  of = leaf_of tree e i

  one_owned : (id : ℕ) → MarksId op id → HoldsMode locks t (Object id) X → (is_visible t e && nat_eq e.id id) ≡ true → Owned (granules tree) locks t (standing e)
  one_owned id marks object h =
      let parts = both_parts (is_visible t e) (nat_eq e.id id) h in
      record {
        leaf = of.leaf;
        among = of.among;
        is_leaf = of.is_leaf;
        entry = of.stands;
        intent = all (OnGranule of.leaf.number) IX (MarksOne id e of.leaf marks i parts.0 (same _ _ parts.1) of.among (of.is_leaf, of.stands));
        object = subst (λ n. HoldsMode locks t (Object n) X) (sym (same _ _ parts.1)) object;
      }

  area_owned : (rect : Rectangle) → MarksArea op rect → IsRectangle rect → (is_visible t e && meets e.rect rect) ≡ true → Owned (granules tree) locks t (standing e)
  area_owned rect marks v h =
      let m = common_point e.rect rect (all_among (λ (y : Entry). IsRectangle y.rect) e (entries_of tree) valid.in_space i) v (both_parts (is_visible t e) (meets e.rect rect) h).1 in
      record {
        leaf = of.leaf;
        among = of.among;
        is_leaf = of.is_leaf;
        entry = of.stands;
        intent = holds_weaker locks t (OnGranule of.leaf.number) SIX IX (all (OnGranule of.leaf.number) SIX (MarksLeaf rect e of.leaf marks i m of.among (of.is_leaf, of.stands))) refl;
        object = all (Object e.id) X (MarksObject rect e marks i m);
      }

changed_by : (tree : Table) (valid : IsValid tree) (locks : List Lock) (t : ℕ) (op : Op) → ((name : Name) (mode : Mode) → StayWant (granules tree) (entries_of tree) t op name mode → HoldsMode locks t name mode) → ((rect : Rectangle) → part_of op ≡ Area rect → IsRectangle rect) → HoldsNamed locks t op → (e : Entry) → Among e (entries_of tree) → is_changed t op e ≡ true → Owned (granules tree) locks t (standing e)
changed_by tree valid locks t (Put r) all rects named e i h = absurd (cc)
changed_by tree valid locks t (Drop id) all rects named e i h = one_owned tree valid locks t (Drop id) all e i id refl (named id refl) h
changed_by tree valid locks t (Set id value) all rects named e i h = one_owned tree valid locks t (Set id value) all e i id refl (named id refl) h
changed_by tree valid locks t (Get id) all rects named e i h = absurd (cc)
changed_by tree valid locks t (Find rect) all rects named e i h = absurd (cc)
changed_by tree valid locks t (Fill rect value) all rects named e i h = area_owned tree valid locks t (Fill rect value) all e i rect refl (rects rect refl) h
changed_by tree valid locks t (Clear rect) all rects named e i h = area_owned tree valid locks t (Clear rect) all e i rect refl (rects rect refl) h

pub changed_owned : (tree : Table) (locks : List Lock) (t : ℕ) (op : Op) (needs : List Need) (e : Entry) → IsValid tree → ((rect : Rectangle) → part_of op ≡ Area rect → IsRectangle rect) → AreNeedsOf (StayWant (granules tree) (entries_of tree) t op) Commit needs → HoldsEach locks t needs → HoldsNamed locks t op → Among e (entries_of tree) → is_changed t op e ≡ true → Owned (granules tree) locks t (standing e)
changed_owned tree locks t op needs e valid rects are held named = changed_by tree valid locks t op (held_wanted (StayWant (granules tree) (entries_of tree) t op) Commit needs locks t are held) rects named e

-- What a put keeps of its own.
some_or_none_of : {A : Type 0} (P : A → Type 0) → ((x : A) → P x ⊎ (P x → ⊥)) → (xs : List A) → ((x : A) × Among x xs × P x) ⊎ ((x : A) → Among x xs → P x → ⊥)
some_or_none_of P decide [] = inr (λ x i h. i)
some_or_none_of {A} P decide (y ∷ ys) = go (decide y) (some_or_none_of P decide ys)
  where
    go : P y ⊎ (P y → ⊥) → ((x : A) × Among x ys × P x) ⊎ ((x : A) → Among x ys → P x → ⊥) → ((x : A) × Among x (y ∷ ys) × P x) ⊎ ((x : A) → Among x (y ∷ ys) → P x → ⊥)
    go (inl h) rest = inl (y, inl refl, h)
    go (inr never) (inl r) = inl (r.0, inr r.1, r.2)
    go (inr never) (inr none) = inr each
      where
        each : (x : A) → Among x (y ∷ ys) → P x → ⊥
        each x (inl s) h = never (subst P s h)
        each x (inr i) h = none x i h

-- what can't be false is so, of a guarded rectangle
guarded_stable : (gs : List Granule) (locks : List Lock) (t : ℕ) (rect : Rectangle) → ((Guarded gs locks t rect → ⊥) → ⊥) → Guarded gs locks t rect
guarded_stable gs locks t rect stable = record {
  leaves = λ g p i l had here. leaf g p i l had here (holds_or_not locks t (OnGranule g.number) S);
  points = λ p here. at p here (some_or_none_of (Holder p) (decide p) gs);
}
  where
    Holder : Point → Granule → Type 0
    Holder p g = IsTrue (in_granule g p) × HoldsMode locks t (OnGranule g.number) S

    decide : (p : Point) (g : Granule) → Holder p g ⊎ (Holder p g → ⊥)
    decide p g = by_test (in_granule g p) refl (holds_or_not locks t (OnGranule g.number) S)
      where
        by_test : (b : Bool) → in_granule g p ≡ b → HoldsMode locks t (OnGranule g.number) S ⊎ (HoldsMode locks t (OnGranule g.number) S → ⊥) → Holder p g ⊎ (Holder p g → ⊥)
        by_test true e (inl h) = inl (e, h)
        by_test true e (inr never) = inr (λ h. never h.1)
        by_test false e d = inr (λ h. true≢false (sym h.0 ∙ e))

    leaf : (g : Granule) (p : Point) → Among g gs → g.is_leaf ≡ true → IsTrue (in_granule g p) → IsTrue (holds rect p) → HoldsMode locks t (OnGranule g.number) S ⊎ (HoldsMode locks t (OnGranule g.number) S → ⊥) → HoldsMode locks t (OnGranule g.number) S
    leaf g p i l had here (inl h) = h
    leaf g p i l had here (inr never) = absurd (stable (λ h. never (h.leaves g p i l had here)))

    at : (p : Point) → IsTrue (holds rect p) → ((g : Granule) × Among g gs × Holder p g) ⊎ ((g : Granule) → Among g gs → Holder p g → ⊥) → (g : Granule) × Among g gs × IsTrue (in_granule g p) × HoldsMode locks t (OnGranule g.number) S
    at p here (inl h) = (h.0, h.1, h.2.0, h.2.1)
    at p here (inr none) = absurd (stable (λ h. let k = h.points p here in none k.0 k.1 (k.2, k.3)))

number_or_not : (gs : List Granule) (number : ℕ) → HasNumber gs number ⊎ (HasNumber gs number → ⊥)
number_or_not gs number = go (some_or_none (λ (g : Granule). nat_eq g.number number) gs)
  where
    go : ((g : Granule) × Among g gs × (nat_eq g.number number ≡ true)) ⊎ ((g : Granule) → Among g gs → nat_eq g.number number ≡ false) → HasNumber gs number ⊎ (HasNumber gs number → ⊥)
    go (inl h) = inl (h.0, h.1, same _ _ h.2)
    go (inr none) = inr (λ h. true≢false (sym (tells _ _ h.2) ∙ none h.0 h.1))

module _ (before after : Table) (searches : List Rectangle) (locks gifts : List Lock) (t : ℕ) (commit : List Need) (are : AreNeedsOf (PutWant (granules before) (granules after) searches) Commit commit) (held : HoldsEach locks t commit) (es : List Entry) (e : Standing) (given : HoldsGifts es (granules before) (granules after) searches (locks ++ gifts) t e) where
  abbrev gs : List Granule
  gs = granules before

  abbrev gs' : List Granule
  gs' = granules after

  -- what a rule of a put wants is held
  has_wanted : (name : Name) (mode : Mode) → PutWant gs gs' searches name mode → HoldsMode (locks ++ gifts) t name mode
  has_wanted name mode w = holds-more locks gifts t name mode (held_wanted (PutWant gs gs' searches) Commit commit locks t are held name mode w)

  searched_guarded : (rect : Rectangle) → Among rect searches → IsRectangle rect → Guarded gs locks t rect → Guarded gs' (locks ++ gifts) t rect
  searched_guarded rect i v guarded = guarded_stable gs' (locks ++ gifts) t rect (λ never. never (search_guards after (locks ++ gifts) t rect v (meeting (λ s. never (guarded-more gs' locks gifts t rect (same_guards gs gs' locks t rect s.0 s.1 guarded))))))
    where
      meeting : (AreSame gs gs' → ⊥) → HoldsMeeting gs' (locks ++ gifts) t rect
      meeting differ g p j had here = go (number_or_not gs g.number)
        where
          go : HasNumber gs g.number ⊎ (HasNumber gs g.number → ⊥) → HoldsMode (locks ++ gifts) t (OnGranule g.number) S
          go (inl old) = has_wanted (OnGranule g.number) S (KeepsSearched rect g differ i j (p, had, here) old)
          go (inr new) = given.searched g rect j new i (p, had, here)

  own_held : IsNew gs e → HoldsMode locks t (Object e.id) X → HoldsOwn es gs gs' locks (locks ++ gifts) t e
  own_held fresh object = record {
    new_leaves = λ g x j l new stands mine owned. given.intent g x j l new stands (inl mine);
    new_entry = λ g j l stands. entry g j l stands (number_or_not gs g.number);
    object = holds-more locks gifts t (Object e.id) X object;
  }
    where
      entry : (g : Granule) → Among g gs' → g.is_leaf ≡ true → Among e g.entries → HasNumber gs g.number ⊎ (HasNumber gs g.number → ⊥) → HoldsMode (locks ++ gifts) t (OnGranule g.number) IX
      entry g j l stands (inl old) = has_wanted (OnGranule g.number) IX (Enters g j (record { entry = e; stands = stands; is_leaf = l; new = fresh }) old)
      entry g j l stands (inr new) = given.intent g e j l new stands (inr refl)

pub put_keeps_searched : (before after : Table) (searches : List Rectangle) (locks gifts : List Lock) (t : ℕ) (commit : List Need) (es : List Entry) (e : Standing) (rect : Rectangle)
    → AreNeedsOf (PutWant (granules before) (granules after) searches) Commit commit → HoldsEach locks t commit → HoldsGifts es (granules before) (granules after) searches (locks ++ gifts) t e
    → Among rect searches → IsRectangle rect → Guarded (granules before) locks t rect → Guarded (granules after) (locks ++ gifts) t rect
put_keeps_searched before after searches locks gifts t commit es e rect are held given = searched_guarded before after searches locks gifts t commit are held es e given rect

pub put_holds_own : (before after : Table) (searches : List Rectangle) (locks gifts : List Lock) (t : ℕ) (commit : List Need) (es : List Entry) (e : Standing)
    → AreNeedsOf (PutWant (granules before) (granules after) searches) Commit commit → HoldsEach locks t commit → HoldsGifts es (granules before) (granules after) searches (locks ++ gifts) t e
    → IsNew (granules before) e → HoldsMode locks t (Object e.id) X → HoldsOwn es (granules before) (granules after) locks (locks ++ gifts) t e
put_holds_own before after searches locks gifts t commit es e are held given = own_held before after searches locks gifts t commit are held es e given
