-- Marks after the end of a transaction and after an operation, and the locks that own what bears them.
use Rattle.std.proofs.Common.{◌≡◌, ◌≢◌, ◌⊎◌, ℕ, Bool, true, false, not, cond, ◌&&◌, ◌||◌, List, [], ◌∷◌, map, nat_eq, refl, sym, ap, ◌∙◌, subst, inl, inr, true≢false, arith}
use Rattle.std.proofs.lemmas.Bool.Decides.{nat_tests}
use Rattle.sp_rect.specs.Plane.{Rectangle}
use Rattle.sp_rect.specs.declared.operation.Op.{Op}
use Rattle.sp_rect.specs.declared.operation.Op.TheVariants.{Put, Drop, Set, Get, Find, Fill, Clear}
use Rattle.sp_rect.specs.declared.record.Record.{Record}
use Rattle.sp_rect.specs.Store.{Part, Id, Area, part_of, touches, within}
use Rattle.sp_locks.specs.declared.mode.Mode.{Mode}
use Rattle.sp_locks.specs.declared.mode.Mode.TheVariants.{IX, S, X}
use Rattle.sp_locks.specs.declared.row.Name.{Name}
use Rattle.sp_locks.specs.declared.row.Name.TheVariants.{Granule as OnGranule, Object}
use Rattle.sp_node.specs.declared.marks.Made.{Made}
use Rattle.sp_node.specs.declared.marks.Ended.{Ended}
use Rattle.sp_node.specs.declared.marks.Draft.{Draft}
use Rattle.sp_node.specs.declared.node.Entry.{Entry}
use Rattle.sp_node.specs.Among.{Among}
use Rattle.sp_node.specs.Marks.{is_committed, is_made_by, is_done, is_ended_by, is_draft_of, is_marked, draft_left, made_settled, ended_settled, ended_undone, settled, undone, marked}
use Rattle.sp_node.proofs.Among.{among_split}
use Rattle.sp_granule.specs.Granules.{Granule, Standing, standing}
use Rattle.sp_txn.specs.Visible.{is_visible, record_for, view}
use Rattle.sp_protection.specs.Holding.{Lock, HoldsMode}
use Rattle.sp_protection.specs.Guarding.{Guarded, Owned, MarksOwned}
use Rattle.sp_protection.specs.Effects.{is_seen_in, is_changed, ended_by, drafted_by, marks_by, marked_by, fresh, entered, applied}
use Rattle.sp_protection.specs.Replays.{HoldsPart}
use Rattle.sp_protection.specs.Insertion.{KeepsAll}
use Rattle.sp_protection.specs.Asking.{KeepsLocks}
use Rattle.sp_protection.proofs.Choice.{same, tells}
use Rattle.sp_protection.proofs.Leaves.{from_map}
use Rattle.sp_protection.proofs.Commits.{marks_parts, settled-marked}
use Rattle.sp_protection.proofs.Wanted.{holds_weaker}

-- What a transaction guards and owns rests on its own locks.
module _ (locks left : List Lock) (t : ℕ) (kept : KeepsLocks locks left t) where
  pub holds_still : (name : Name) (mode : Mode) → HoldsMode locks t name mode → HoldsMode left t name mode
  holds_still name mode h = holds_weaker left t name h.lock.mode mode (subst (λ n. HoldsMode left t n h.lock.mode) h.on_name (kept h.lock h.held h.by_txn)) h.enough

  pub guarded_still : (gs : List Granule) (rect : Rectangle) → Guarded gs locks t rect → Guarded gs left t rect
  guarded_still gs rect h = record {
    leaves = λ g p i l k q. holds_still (OnGranule g.number) S (h.leaves g p i l k q);
    points = λ p q. let k = h.points p q in (k.0, k.1, k.2, holds_still (OnGranule k.0.number) S k.3);
  }

  pub owned_still : (gs : List Granule) (e : Standing) → Owned gs locks t e → Owned gs left t e
  owned_still gs e h = record {
    leaf = h.leaf;
    among = h.among;
    is_leaf = h.is_leaf;
    entry = h.entry;
    intent = holds_still (OnGranule h.leaf.number) IX h.intent;
    object = holds_still (Object e.id) X h.object;
  }

  pub part_still : (gs : List Granule) (part : Part) → HoldsPart gs locks t part → HoldsPart gs left t part
  part_still gs (Id id) h = holds_still (Object id) S h
  part_still gs (Area rect) h = guarded_still gs rect h

-- a transaction that has ended has no marks
settled-unmarked : (t : ℕ) (e : Entry) → is_marked t (settled t e) ≡ false
settled-unmarked t e = go (is_made_by t (settled t e).marks.made) (is_ended_by t (settled t e).marks.ended) (is_draft_of t (settled t e).marks.draft) (is_done (settled t e).marks.ended) (made e.marks.made) (ended e.marks.ended) (draft e.marks.draft)
  where
    made : (m : Made) → is_made_by t (made_settled t m) ≡ false
    made m = grind (arith, nat_tests)

    ended : (n : Ended) → is_ended_by t (ended_settled t n) ≡ false
    ended n = grind (arith, nat_tests)

    draft : (d : Draft) → is_draft_of t (draft_left t d) ≡ false
    draft d = grind (arith, nat_tests)

    go : (m x f d : Bool) → m ≡ false → x ≡ false → f ≡ false → ((m || x || f) && not d) ≡ false
    go m x f d a b c = grind arith

undone-unmarked : (t : ℕ) (e : Entry) → is_marked t (undone t e) ≡ false
undone-unmarked t e =
    go (is_made_by t e.marks.made) (is_ended_by t (ended_undone t e.marks.made e.marks.ended)) (is_draft_of t (draft_left t e.marks.draft)) (is_done (ended_undone t e.marks.made e.marks.ended))
    (made e.marks.made e.marks.ended) (ended e.marks.made e.marks.ended) (draft e.marks.draft)
  where
    made : (m : Made) (n : Ended) → is_made_by t m ≡ true → is_done (ended_undone t m n) ≡ true
    made m n k = grind (arith, nat_tests)

    ended : (m : Made) (n : Ended) → is_ended_by t (ended_undone t m n) ≡ false
    ended m n = grind (arith, nat_tests)

    draft : (d : Draft) → is_draft_of t (draft_left t d) ≡ false
    draft d = grind (arith, nat_tests)

    go : (m x f d : Bool) → (m ≡ true → d ≡ true) → x ≡ false → f ≡ false → ((m || x || f) && not d) ≡ false
    go m x f d a b c = grind arith

-- a mark that is left was there
undone-marked : (v t : ℕ) (e : Entry) → is_marked v (undone t e) ≡ true → is_marked v e ≡ true
undone-marked v t e h =
    marks_parts (is_made_by v e.marks.made) (is_ended_by v e.marks.ended) (is_draft_of v e.marks.draft) (is_done e.marks.ended)
    (is_made_by v e.marks.made) (is_ended_by v (ended_undone t e.marks.made e.marks.ended)) (is_draft_of v (draft_left t e.marks.draft)) (is_done (ended_undone t e.marks.made e.marks.ended)) h
    (λ k. k) (ended e.marks.made e.marks.ended) (draft e.marks.draft) (done e.marks.made e.marks.ended)
  where
    ended : (m : Made) (n : Ended) → is_ended_by v (ended_undone t m n) ≡ true → is_ended_by v n ≡ true
    ended m n k = grind (arith, nat_tests)

    draft : (d : Draft) → is_draft_of v (draft_left t d) ≡ true → is_draft_of v d ≡ true
    draft d k = grind (arith, nat_tests)

    done : (m : Made) (n : Ended) → is_done (ended_undone t m n) ≡ false → is_done n ≡ false
    done m n k = grind (arith, nat_tests)

-- so what is still marked after the end of a transaction is still owned, whatever becomes of that one's locks
module _ (gs : List Granule) (locks left : List Lock) (u : ℕ) (es : List Entry) (kept : (v : ℕ) → v ≢ u → KeepsLocks locks left v) (ends : Entry → Entry) (same_place : (e : Entry) → standing (ends e) ≡ standing e) (unmarked : (e : Entry) → is_marked u (ends e) ≡ false) (was_marked : (v : ℕ) (e : Entry) → is_marked v (ends e) ≡ true → is_marked v e ≡ true) where
  end_keeps_owned : MarksOwned gs locks es → MarksOwned gs left (map ends es)
  end_keeps_owned owned v x i marks =
      let from = from_map ends x es i in
      let marks' : is_marked v (ends from.0) ≡ true = subst (λ (z : Entry). is_marked v z ≡ true) (sym from.2) marks in
      subst (λ (z : Entry). Owned gs left v (standing z)) from.2
      (subst (Owned gs left v) (sym (same_place from.0))
      (owned_still locks left v (kept v (λ s. true≢false (sym marks' ∙ ap (λ n. is_marked n (ends from.0)) s ∙ unmarked from.0))) gs (standing from.0) (owned v from.0 from.1 (was_marked v from.0 marks'))))

pub commit_keeps_marks_owned : (gs : List Granule) (locks left : List Lock) (u : ℕ) (es : List Entry) → ((v : ℕ) → v ≢ u → KeepsLocks locks left v) → MarksOwned gs locks es → MarksOwned gs left (map (settled u) es)
commit_keeps_marks_owned gs locks left u es kept = end_keeps_owned gs locks left u es kept (settled u) (λ e. refl) (settled-unmarked u) (λ v e h. settled-marked v u e h)

pub rollback_keeps_marks_owned : (gs : List Granule) (locks left : List Lock) (u : ℕ) (es : List Entry) → ((v : ℕ) → v ≢ u → KeepsLocks locks left v) → MarksOwned gs locks es → MarksOwned gs left (map (undone u) es)
rollback_keeps_marks_owned gs locks left u es kept = end_keeps_owned gs locks left u es kept (undone u) (λ e. refl) (undone-unmarked u) (λ v e h. undone-marked v u e h)

-- a mark after an operation is an old one, or the operation's own on an entry that it changes
pub marked-marked : (v t : ℕ) (op : Op) (e : Entry) → is_marked v (marked_by t op e) ≡ true → (is_marked v e ≡ true) ⊎ ((v ≡ t) × (is_changed t op e ≡ true))
marked-marked v t op e h = go op h
  where
    other : (b : Bool) → nat_eq v t ≡ b → b ≡ false → nat_eq t v ≡ false
    other b k l = grind (arith, nat_tests)

    ended : (c m m' x x' d f q : Bool) → ((c || m) && not (x || d)) ≡ true → q ≡ false → ((m' || q || f) && not false) ≡ true → ((m' || x' || f) && not d) ≡ true
    ended c m m' x x' d f q a b h = grind arith

    drafted : (m x d f q : Bool) → q ≡ false → ((m || x || q) && not d) ≡ true → ((m || x || f) && not d) ≡ true
    drafted m x d f q b h = grind arith

    sees : (part : Part) → is_seen_in t part e ≡ true → is_visible t e ≡ true
    sees part k = first (is_visible t e) (touches part (record_for t e)) k
      where
        first : (a b : Bool) → (a && b) ≡ true → a ≡ true
        first a b k = grind arith

    ends : (part : Part) (b : Bool) → is_seen_in t part e ≡ b → is_marked v (cond b (marked (ended_by t e.marks) e) e) ≡ true → (is_marked v e ≡ true) ⊎ ((v ≡ t) × (is_seen_in t part e ≡ true))
    ends part false k l = inl l
    ends part true k l = who (nat_eq v t) refl
      where
        who : (b : Bool) → nat_eq v t ≡ b → (is_marked v e ≡ true) ⊎ ((v ≡ t) × (is_seen_in t part e ≡ true))
        who true w = inr (same _ _ w, k)
        who false w =
            inl (ended (is_committed e.marks.made) (is_made_by t e.marks.made) (is_made_by v e.marks.made) (is_ended_by t e.marks.ended) (is_ended_by v e.marks.ended) (is_done e.marks.ended) (is_draft_of v e.marks.draft) (nat_eq t v) (sees part k) (other false w refl) l)

    drafts : (part : Part) (value : List ℕ) (b : Bool) → is_seen_in t part e ≡ b → is_marked v (cond b (marked (drafted_by t value e.marks) e) e) ≡ true → (is_marked v e ≡ true) ⊎ ((v ≡ t) × (is_seen_in t part e ≡ true))
    drafts part value false k l = inl l
    drafts part value true k l = who (nat_eq v t) refl
      where
        who : (b : Bool) → nat_eq v t ≡ b → (is_marked v e ≡ true) ⊎ ((v ≡ t) × (is_seen_in t part e ≡ true))
        who true w = inr (same _ _ w, k)
        who false w = inl (drafted (is_made_by v e.marks.made) (is_ended_by v e.marks.ended) (is_done e.marks.ended) (is_draft_of v e.marks.draft) (nat_eq t v) (other false w refl) l)

    go : (o : Op) → is_marked v (marked_by t o e) ≡ true → (is_marked v e ≡ true) ⊎ ((v ≡ t) × (is_changed t o e ≡ true))
    go (Put r) l = inl l
    go (Drop id) l = ends (Id id) (is_seen_in t (Id id) e) refl l
    go (Set id value) l = drafts (Id id) value (is_seen_in t (Id id) e) refl l
    go (Get id) l = inl l
    go (Find rect) l = inl l
    go (Fill rect value) l = drafts (Area rect) value (is_seen_in t (Area rect) e) refl l
    go (Clear rect) l = ends (Area rect) (is_seen_in t (Area rect) e) refl l

same_place : (t : ℕ) (op : Op) (e : Entry) → standing (marked_by t op e) ≡ standing e
same_place t op e = go (is_changed t op e)
  where
    go : (b : Bool) → standing (cond b (marked (marks_by t op e.marks) e) e) ≡ standing e
    go true = refl
    go false = refl

pub operation_keeps_marks_owned : (gs : List Granule) (locks : List Lock) (t number : ℕ) (op : Op) (es : List Entry) → ((e : Entry) → Among e es → is_changed t op e ≡ true → Owned gs locks t (standing e)) → ((e : Entry) → Among e (entered t number op (within (part_of op) (view es t))) → Owned gs locks t (standing e)) → MarksOwned gs locks es → MarksOwned gs locks (applied t number op es)
operation_keeps_marks_owned gs locks t number op es changes enters owned v x i marks = go (among_split x (entered t number op (within (part_of op) (view es t))) (map (marked_by t op) es) i)
  where
    of : (e : Entry) → Among e es → (is_marked v e ≡ true) ⊎ ((v ≡ t) × (is_changed t op e ≡ true)) → Owned gs locks v (standing e)
    of e j (inl old) = owned v e j old
    of e j (inr new) = subst (λ n. Owned gs locks n (standing e)) (sym new.0) (changes e j new.1)

    fresh-marked : (o : Op) (found : List Record) → Among x (entered t number o found) → v ≡ t
    fresh-marked (Put r) [] (inl s) = mine (nat_eq t v) refl (subst (λ (z : Entry). is_marked v z ≡ true) s marks)
      where
        mine : (b : Bool) → nat_eq t v ≡ b → ((b || false || false) && not false) ≡ true → v ≡ t
        mine true e h = sym (same _ _ e)
        mine false e h = absurd (true≢false (sym h))
    fresh-marked (Put r) [] (inr k) = absurd k
    fresh-marked (Put r) (y ∷ ys) k = absurd k
    fresh-marked (Drop id) found k = absurd k
    fresh-marked (Set id value) found k = absurd k
    fresh-marked (Get id) found k = absurd k
    fresh-marked (Find rect) found k = absurd k
    fresh-marked (Fill rect value) found k = absurd k
    fresh-marked (Clear rect) found k = absurd k

    go : Among x (entered t number op (within (part_of op) (view es t))) ⊎ Among x (map (marked_by t op) es) → Owned gs locks v (standing x)
    go (inl j) = subst (λ n. Owned gs locks n (standing x)) (sym (fresh-marked op (within (part_of op) (view es t)) j)) (enters x j)
    go (inr j) =
        let from = from_map (marked_by t op) x es j in
        subst (λ (z : Entry). Owned gs locks v (standing z)) from.2
        (subst (Owned gs locks v) (sym (same_place t op from.0)) (of from.0 from.1 (marked-marked v t op from.0 (subst (λ (z : Entry). is_marked v z ≡ true) (sym from.2) marks))))

-- what an insertion keeps, and its new entry, is owned
pub insertion_keeps_marks_owned : (gs gs' : List Granule) (locks locks' : List Lock) (t number : ℕ) (r : Record) (es : List Entry) → KeepsAll es gs gs' locks locks' t (standing (fresh t number r)) → MarksOwned gs locks es → MarksOwned gs' locks' (applied t number (Put r) es)
insertion_keeps_marks_owned gs gs' locks locks' t number r es keeps owned = operation_keeps_marks_owned gs' locks' t number (Put r) es (λ e i h. absurd (true≢false (sym h))) (λ e j. enters e (within (Id r.id) (view es t)) j) (λ v e i marks. moved v e i marks (nat_eq v t) refl)
  where
    enters : (e : Entry) (found : List Record) → Among e (entered t number (Put r) found) → Owned gs' locks' t (standing e)
    enters e [] (inl s) = subst (λ (z : Entry). Owned gs' locks' t (standing z)) (sym s) keeps.own_new
    enters e [] (inr k) = absurd k
    enters e (x ∷ xs) k = absurd k

    moved : (v : ℕ) (e : Entry) → Among e es → is_marked v e ≡ true → (b : Bool) → nat_eq v t ≡ b → Owned gs' locks' v (standing e)
    moved v e i marks true b =
        let s = same v t b in
        subst (λ n. Owned gs' locks' n (standing e)) (sym s)
        (keeps.own_owned (standing e) (e, i, subst (λ n. is_marked n e ≡ true) s marks, refl) (subst (λ n. Owned gs locks n (standing e)) s (owned v e i marks)))
    moved v e i marks false b = keeps.owned v (standing e) (λ s. true≢false (sym (tells v t s) ∙ b)) (owned v e i marks)
