-- A commit of one transaction does not disturb another.
use Rattle.std.proofs.Common.{◌≡◌, ◌≢◌, ◌⊎◌, ℕ, Bool, true, false, not, ◌&&◌, ◌||◌, List, [], ◌∷◌, map, filter, nat_eq, refl, sym, ap, ap₂, ◌∙◌, subst, inl, inr, arith}
use Rattle.std.specs.Prelude.{if◌then◌else◌}
use Rattle.std.proofs.lemmas.Bool.Decides.{nat_tests}
use Rattle.sp_rect.specs.Plane.{Rectangle, meets}
use Rattle.sp_rect.specs.declared.record.Record.{Record}
use Rattle.sp_rect.specs.declared.operation.Answered.{Answered}
use Rattle.sp_rect.specs.declared.operation.Op.{Op}
use Rattle.sp_rect.specs.Store.{IsAscendingFrom, Part, Id, Area, part_of, touches, within}
use Rattle.sp_rect.specs.Serial.{records_after}
use Rattle.sp_locks.specs.declared.mode.Mode.TheVariants.{S, X}
use Rattle.sp_locks.specs.declared.row.Name.TheVariants.{Object}
use Rattle.sp_node.specs.declared.marks.Made.{Made}
use Rattle.sp_node.specs.declared.marks.Ended.{Ended}
use Rattle.sp_node.specs.declared.marks.Draft.{Draft}
use Rattle.sp_node.specs.declared.marks.Draft.TheVariants.{None as NoDraft, Of}
use Rattle.sp_node.specs.declared.node.Entry.{Entry}
use Rattle.sp_node.specs.Among.{Among}
use Rattle.sp_node.specs.Marks.{is_committed, is_made_by, is_done, is_ended_by, is_draft_of, is_marked, drafted, draft_left, made_settled, ended_settled, settled}
use Rattle.sp_node.specs.Table.{Table, IsValid}
use Rattle.sp_granule.specs.Granules.{standing, granules}
use Rattle.sp_txn.specs.Visible.{is_live, is_visible, record_of, record_for, sorted, live, view}
use Rattle.sp_protection.specs.Holding.{Lock, HoldsMode, AllCompatible}
use Rattle.sp_protection.specs.Guarding.{Owned, MarksOwned}
use Rattle.sp_protection.specs.Apart.{IsApart, AreApart, SameAt, DifferApart, Undisturbed}
use Rattle.sp_protection.specs.Replays.{Replays, HoldsPart, HoldsParts, HasRectangles, OneEach, LeavesMarks, HoldsChanged}
use Rattle.sp_protection.proofs.Clashes.{clash, exclusive-against_shared, exclusive-against_exclusive}
use Rattle.sp_protection.proofs.Choice.{some_or_none, same as equal_from_test, tells}
use Rattle.sp_protection.proofs.Leaves.{owned_apart}
use Rattle.sp_protection.proofs.Runs.{sorted-ascends, within-sorted, same_store, undisturbed, run-ascends}

made_alike : (t : ℕ) (m : Made) → is_committed (made_settled t m) ≡ (is_committed m || is_made_by t m)
made_alike t m = grind (arith, nat_tests)

ended_alike : (t : ℕ) (e : Ended) → is_done (ended_settled t e) ≡ (is_ended_by t e || is_done e)
ended_alike t e = grind (arith, nat_tests)

settled-live : (t : ℕ) (e : Entry) → is_live (settled t e) ≡ is_visible t e
settled-live t e = ap₂ (λ a b. a && not b) (made_alike t e.marks.made) (ended_alike t e.marks.ended)

settled_records : (t : ℕ) (es : List Entry) → map record_of (filter is_live (map (settled t) es)) ≡ map (record_for t) (filter (is_visible t) es)
settled_records t [] = refl
settled_records t (e ∷ es) = rw (settled-live t e) (go (is_visible t e) (settled_records t es))
  where
    go : (b : Bool) → map record_of (filter is_live (map (settled t) es)) ≡ map (record_for t) (filter (is_visible t) es)
        → map record_of (if b then settled t e ∷ filter is_live (map (settled t) es) else filter is_live (map (settled t) es)) ≡ map (record_for t) (if b then e ∷ filter (is_visible t) es else filter (is_visible t) es)
    go true ih = ap (λ rs. record_for t e ∷ rs) ih
    go false ih = ih

-- what a transaction sees is what is live once it has committed
pub commit_shows_view : (t : ℕ) (es : List Entry) → live (map (settled t) es) ≡ view es t
commit_shows_view t es = ap sorted (settled_records t es)

-- what the commit of u changes: an entry that u made and still sees, or a live one that u ended or drafted
abbrev commit_changes : ℕ → Entry → Bool
commit_changes u e = (is_made_by u e.marks.made && is_visible u e) || (is_live e && (is_ended_by u e.marks.ended || is_draft_of u e.marks.draft))

changed-marked : (u : ℕ) (e : Entry) → commit_changes u e ≡ true → is_marked u e ≡ true
changed-marked u e h = go (is_committed e.marks.made) (is_made_by u e.marks.made) (is_ended_by u e.marks.ended) (is_done e.marks.ended) (is_draft_of u e.marks.draft) h
  where
    go : (c m x d f : Bool) → ((m && ((c || m) && not (x || d))) || ((c && not d) && (x || f))) ≡ true → ((m || x || f) && not d) ≡ true
    go c m x d f h = grind arith

drafted-none : (t : ℕ) (d : Draft) (value : List ℕ) → is_draft_of t d ≡ false → drafted t d value ≡ value
drafted-none t NoDraft value h = refl
drafted-none t (Of u draft) value h = rw h

draft_left-none : (u : ℕ) (d : Draft) → is_draft_of u d ≡ false → draft_left u d ≡ d
draft_left-none u NoDraft h = refl
draft_left-none u (Of v draft) h = rw h

other-made : (t u : ℕ) (m : Made) → u ≢ t → is_made_by t (made_settled u m) ≡ is_made_by t m
other-made t u m apart = grind (arith, nat_tests)

other-ended : (t u : ℕ) (e : Ended) → u ≢ t → is_ended_by t (ended_settled u e) ≡ is_ended_by t e
other-ended t u e apart = grind (arith, nat_tests)

other-draft : (t u : ℕ) (d : Draft) → u ≢ t → is_draft_of t (draft_left u d) ≡ is_draft_of t d
other-draft t u d apart = grind (arith, nat_tests)

one_maker : (u : ℕ) (m : Made) → (is_committed m && is_made_by u m) ≡ false
one_maker u m = grind arith

settled-visible : (t u : ℕ) (e : Entry) → u ≢ t → is_visible t (settled u e) ≡ (((is_committed e.marks.made || is_made_by u e.marks.made) || is_made_by t e.marks.made) && not (is_ended_by t e.marks.ended || (is_ended_by u e.marks.ended || is_done e.marks.ended)))
settled-visible t u e apart = cc (made_alike u e.marks.made, ended_alike u e.marks.ended, other-made t u e.marks.made apart, other-ended t u e.marks.ended apart)

-- an entry without a change by u is as live as before, and t sees it as before
unchanged-live : (u : ℕ) (e : Entry) → commit_changes u e ≡ false → (is_live (settled u e) ≡ is_live e) × (is_live e ≡ true → record_of (settled u e) ≡ record_of e)
unchanged-live u e h = (
  settled-live u e ∙ alike (is_committed e.marks.made) (is_made_by u e.marks.made) (is_ended_by u e.marks.ended) (is_done e.marks.ended) (is_draft_of u e.marks.draft) h,
  λ l. ap (λ v. record { id = e.id; rect = e.rect; value = v }) (drafted-none u e.marks.draft e.value (undrafted (is_committed e.marks.made) (is_made_by u e.marks.made) (is_ended_by u e.marks.ended) (is_done e.marks.ended) (is_draft_of u e.marks.draft) h l)),
)
  where
    alike : (c m x d f : Bool) → ((m && ((c || m) && not (x || d))) || ((c && not d) && (x || f))) ≡ false → ((c || m) && not (x || d)) ≡ (c && not d)
    alike c m x d f h = grind arith

    undrafted : (c m x d f : Bool) → ((m && ((c || m) && not (x || d))) || ((c && not d) && (x || f))) ≡ false → (c && not d) ≡ true → f ≡ false
    undrafted c m x d f h l = grind arith

pub unchanged-visible : (t u : ℕ) (e : Entry) → u ≢ t → (is_marked t e ≡ true → is_marked u e ≡ true → ⊥) → commit_changes u e ≡ false → (is_visible t (settled u e) ≡ is_visible t e) × (is_visible t e ≡ true → record_for t (settled u e) ≡ record_for t e)
unchanged-visible t u e apart one h = (
  settled-visible t u e apart
      ∙ alike (is_committed e.marks.made) (is_made_by u e.marks.made) (is_made_by t e.marks.made) (is_ended_by u e.marks.ended) (is_ended_by t e.marks.ended) (is_done e.marks.ended) (is_draft_of u e.marks.draft) (is_draft_of t e.marks.draft) (one_maker u e.marks.made) one h,
  λ l.
      let none = undrafted (is_committed e.marks.made) (is_made_by u e.marks.made) (is_made_by t e.marks.made) (is_ended_by u e.marks.ended) (is_ended_by t e.marks.ended) (is_done e.marks.ended) (is_draft_of u e.marks.draft) (is_draft_of t e.marks.draft) one h l in
      ap₂ (λ d v. record { id = e.id; rect = e.rect; value = drafted t d v }) (draft_left-none u e.marks.draft none) (drafted-none u e.marks.draft e.value none),
)
  where
    alike : (c m n x y d f k : Bool) → (c && m) ≡ false → (((n || y || k) && not d) ≡ true → ((m || x || f) && not d) ≡ true → ⊥) → ((m && ((c || m) && not (x || d))) || ((c && not d) && (x || f))) ≡ false
        → (((c || m) || n) && not (y || (x || d))) ≡ ((c || n) && not (y || d))
    alike c m n x y d f k e one h = grind arith

    undrafted : (c m n x y d f k : Bool) → (((n || y || k) && not d) ≡ true → ((m || x || f) && not d) ≡ true → ⊥) → ((m && ((c || m) && not (x || d))) || ((c && not d) && (x || f))) ≡ false
        → ((c || n) && not (y || d)) ≡ true → f ≡ false
    undrafted c m n x y d f k one h l = grind arith

-- of an entry without a mark of t, t sees what is live
unmarked-visible : (t u : ℕ) (e : Entry) → u ≢ t → is_marked t e ≡ false → (is_visible t (settled u e) ≡ is_live (settled u e)) × (is_live (settled u e) ≡ true → record_for t (settled u e) ≡ record_of (settled u e))
unmarked-visible t u e apart h = (
  settled-visible t u e apart ∙ alike (is_committed e.marks.made) (is_made_by u e.marks.made) (is_made_by t e.marks.made) (is_ended_by u e.marks.ended) (is_ended_by t e.marks.ended) (is_done e.marks.ended) (is_draft_of t e.marks.draft) h ∙ sym (settled-live u e),
  λ l. ap (λ v. record { id = e.id; rect = e.rect; value = v })
      (drafted-none t (settled u e).marks.draft (settled u e).value
      (other-draft t u e.marks.draft apart ∙ undrafted (is_committed e.marks.made) (is_made_by u e.marks.made) (is_made_by t e.marks.made) (is_ended_by u e.marks.ended) (is_ended_by t e.marks.ended) (is_done e.marks.ended) (is_draft_of t e.marks.draft) h (sym (settled-live u e) ∙ l))),
)
  where
    alike : (c m n x y d k : Bool) → ((n || y || k) && not d) ≡ false → (((c || m) || n) && not (y || (x || d))) ≡ ((c || m) && not (x || d))
    alike c m n x y d k h = grind arith

    undrafted : (c m n x y d k : Bool) → ((n || y || k) && not d) ≡ false → ((c || m) && not (x || d)) ≡ true → k ≡ false
    undrafted c m n x y d k h l = grind arith

-- two ways to show entries agree at an id where they agree on its entries
shown_alike : (f g : Entry → Bool) (r s : Entry → Record) → ((e : Entry) → (r e).id ≡ e.id) → ((e : Entry) → (s e).id ≡ e.id) → (id : ℕ) (es : List Entry)
    → ((e : Entry) → Among e es → e.id ≡ id → (f e ≡ g e) × (g e ≡ true → r e ≡ s e))
    → SameAt id (map r (filter f es)) (map s (filter g es))
shown_alike f g r s ids ids' id [] alike = refl
shown_alike f g r s ids ids' id (e ∷ es) alike = go (nat_eq e.id id) refl (shown_alike f g r s ids ids' id es (λ x i. alike x (inr i)))
  where
    skips : (h : Entry → Record) → (h e).id ≡ e.id → nat_eq e.id id ≡ false → (b : Bool) (xs : List Entry) → within (Id id) (map h (if b then e ∷ xs else xs)) ≡ within (Id id) (map h xs)
    skips h same k true xs = rw (same, k)
    skips h same k false xs = refl

    joins : (b : Bool) → (b ≡ true → r e ≡ s e) → SameAt id (map r (filter f es)) (map s (filter g es))
        → within (Id id) (map r (if b then e ∷ filter f es else filter f es)) ≡ within (Id id) (map s (if b then e ∷ filter g es else filter g es))
    joins true same ih = ap₂ (λ x xs. if nat_eq x.id id then x ∷ xs else xs) (same refl) ih
    joins false same ih = ih

    go : (b : Bool) → nat_eq e.id id ≡ b → SameAt id (map r (filter f es)) (map s (filter g es)) → SameAt id (map r (filter f (e ∷ es))) (map s (filter g (e ∷ es)))
    go true k ih =
        let both = alike e (inl refl) (equal_from_test _ _ k) in
        ap (λ b. within (Id id) (map r (if b then e ∷ filter f es else filter f es))) both.0 ∙ joins (g e) both.1 ih
    go false k ih = skips r (ids e) k (f e) (filter f es) ∙ ih ∙ sym (skips s (ids' e) k (g e) (filter g es))

filter_map_map : (f : Entry → Bool) (r : Entry → Record) (h : Entry → Entry) (es : List Entry) → map r (filter f (map h es)) ≡ map (λ e. r (h e)) (filter (λ e. f (h e)) es)
filter_map_map f r h [] = refl
filter_map_map f r h (e ∷ es) = go (f (h e)) (filter_map_map f r h es)
  where
    go : (b : Bool) → map r (filter f (map h es)) ≡ map (λ e. r (h e)) (filter (λ e. f (h e)) es)
        → map r (if b then h e ∷ filter f (map h es) else filter f (map h es)) ≡ map (λ e. r (h e)) (if b then e ∷ filter (λ e. f (h e)) es else filter (λ e. f (h e)) es)
    go true ih = ap (λ rs. r (h e) ∷ rs) ih
    go false ih = ih

in-shown : (f : Entry → Bool) (r : Entry → Record) → (x : Record) (es : List Entry) → Among x (map r (filter f es)) → (e : Entry) × Among e es × (f e ≡ true) × (r e ≡ x)
in-shown f r x [] h = absurd h
in-shown f r x (e ∷ es) h = go (f e) refl (in-shown f r x es) h
  where
    go : (b : Bool) → f e ≡ b → (Among x (map r (filter f es)) → (y : Entry) × Among y es × (f y ≡ true) × (r y ≡ x)) → Among x (map r (if b then e ∷ filter f es else filter f es))
        → (y : Entry) × Among y (e ∷ es) × (f y ≡ true) × (r y ≡ x)
    go true k rest (inl same) = (e, inl refl, k, sym same)
    go true k rest (inr i) = let h = rest i in (h.0, inr h.1, h.2, h.3)
    go false k rest i = let h = rest i in (h.0, inr h.1, h.2, h.3)

in-filter : (test : Record → Bool) (x : Record) (rs : List Record) → Among x (filter test rs) → Among x rs × (test x ≡ true)
in-filter test x [] h = absurd h
in-filter test x (r ∷ rs) h = go (test r) refl (in-filter test x rs) h
  where
    go : (b : Bool) → test r ≡ b → (Among x (filter test rs) → Among x rs × (test x ≡ true)) → Among x (if b then r ∷ filter test rs else filter test rs) → Among x (r ∷ rs) × (test x ≡ true)
    go true k rest (inl same) = (inl same, subst (λ (y : Record). test y ≡ true) (sym same) k)
    go true k rest (inr i) = let h = rest i in (inr h.0, h.1)
    go false k rest i = let h = rest i in (inr h.0, h.1)

filter-none : (test : Record → Bool) (rs : List Record) → ((x : Record) → Among x rs → test x ≡ false) → filter test rs ≡ []
filter-none test [] none = refl
filter-none test (r ∷ rs) none = rw (none r (inl refl)) (filter-none test rs (λ x i. none x (inr i)))

-- where u's commit changes an entry of the id, the operations of t do not look
apart_at : (tree : Table) (locks : List Lock) (t u : ℕ) (pairs : List Answered) (id : ℕ) (test : Entry → Bool) (shown : Entry → Record) (es : List Entry)
    → IsValid tree → AllCompatible locks → u ≢ t → HasRectangles pairs → HoldsParts (granules tree) locks t pairs
    → HoldsMode locks u (Object id) X
    → ((e : Entry) → (shown e).id ≡ e.id) → ((e : Entry) → (shown e).rect ≡ e.rect)
    → ((e : Entry) → Among e es → e.id ≡ id → test e ≡ true → Owned (granules tree) locks u (standing e))
    → AreApart pairs id (sorted (map shown (filter test es)))
apart_at tree locks t u pairs id test shown es valid compatible apart ordered parts object ids rects owned pair i = go (part_of pair.op) refl (parts pair i)
  where
    go : (part : Part) → part_of pair.op ≡ part → HoldsPart (granules tree) locks t part → IsApart part id (sorted (map shown (filter test es)))
    go (Id other) e held = λ same.
        clash locks t u (Object other) S X compatible apart exclusive-against_shared held (subst (λ n. HoldsMode locks u (Object n) X) (sym same) object)
    go (Area rect) e held =
        ap (within (Area rect)) (within-sorted id (map shown (filter test es)))
        ∙ filter-none (touches (Area rect)) (within (Id id) (map shown (filter test es))) (λ x k.
        let at = in-filter (touches (Id id)) x (map shown (filter test es)) k in
        let from = in-shown test shown x es at.0 in
        let is_id : from.0.id ≡ id = sym (ids from.0) ∙ ap (λ (y : Record). y.id) from.3 ∙ equal_from_test _ _ at.1 in
        ap (λ (q : Rectangle). meets q rect) (sym (ap (λ (y : Record). y.rect) from.3) ∙ rects from.0)
        ∙ owned_apart tree locks t u rect (standing from.0) valid compatible apart (ordered pair rect i e) held (owned from.0 from.1 is_id from.2))

-- an entry that is live, or that u sees, carries a mark of u where another entry of its id is changed by u
live-marked : (u : ℕ) (es : List Entry) (e0 e : Entry) → OneEach is_live es → OneEach (is_visible u) es → Among e0 es → Among e es → e0.id ≡ e.id → commit_changes u e0 ≡ true → is_live e ≡ true → is_marked u e ≡ true
live-marked u es e0 e one_live one_seen i0 i same change alive = go (is_live e0) refl (is_ended_by u e.marks.ended) refl
  where
    ends : (c m x d f : Bool) → (c && not d) ≡ true → x ≡ true → ((m || x || f) && not d) ≡ true
    ends c m x d f h k = grind arith

    sees : (c m x d : Bool) → (c && not d) ≡ true → x ≡ false → ((c || m) && not (x || d)) ≡ true
    sees c m x d h k = grind arith

    seen0 : (m v l y : Bool) → ((m && v) || (l && y)) ≡ true → l ≡ false → v ≡ true
    seen0 m v l y h k = grind arith

    as_first : e0 ≡ e → is_marked u e ≡ true
    as_first is = subst (λ (z : Entry). is_marked u z ≡ true) is (changed-marked u e0 change)

    go : (b : Bool) → is_live e0 ≡ b → (x : Bool) → is_ended_by u e.marks.ended ≡ x → is_marked u e ≡ true
    go true k x h = as_first (one_live e0 e i0 i k alive same)
    go false k true h = ends (is_committed e.marks.made) (is_made_by u e.marks.made) (is_ended_by u e.marks.ended) (is_done e.marks.ended) (is_draft_of u e.marks.draft) alive h
    go false k false h =
        as_first (one_seen e0 e i0 i
        (seen0 (is_made_by u e0.marks.made) (is_visible u e0) (is_live e0) (is_ended_by u e0.marks.ended || is_draft_of u e0.marks.draft) change k)
        (sees (is_committed e.marks.made) (is_made_by u e.marks.made) (is_ended_by u e.marks.ended) (is_done e.marks.ended) alive h) same)

seen-marked : (u : ℕ) (es : List Entry) (e0 e : Entry) → OneEach is_live es → OneEach (is_visible u) es → Among e0 es → Among e es → e0.id ≡ e.id → commit_changes u e0 ≡ true → is_visible u e ≡ true → is_marked u e ≡ true
seen-marked u es e0 e one_live one_seen i0 i same change seen = go (is_visible u e0) refl (is_made_by u e.marks.made) refl
  where
    makes : (c m x d f : Bool) → ((c || m) && not (x || d)) ≡ true → m ≡ true → ((m || x || f) && not d) ≡ true
    makes c m x d f h k = grind arith

    lives : (c m x d : Bool) → ((c || m) && not (x || d)) ≡ true → m ≡ false → (c && not d) ≡ true
    lives c m x d h k = grind arith

    live0 : (m v l y : Bool) → ((m && v) || (l && y)) ≡ true → v ≡ false → l ≡ true
    live0 m v l y h k = grind arith

    as_first : e0 ≡ e → is_marked u e ≡ true
    as_first is = subst (λ (z : Entry). is_marked u z ≡ true) is (changed-marked u e0 change)

    go : (b : Bool) → is_visible u e0 ≡ b → (m : Bool) → is_made_by u e.marks.made ≡ m → is_marked u e ≡ true
    go true k m h = as_first (one_seen e0 e i0 i k seen same)
    go false k true h = makes (is_committed e.marks.made) (is_made_by u e.marks.made) (is_ended_by u e.marks.ended) (is_done e.marks.ended) (is_draft_of u e.marks.draft) seen h
    go false k false h =
        as_first (one_live e0 e i0 i
        (live0 (is_made_by u e0.marks.made) (is_visible u e0) (is_live e0) (is_ended_by u e0.marks.ended || is_draft_of u e0.marks.draft) change k)
        (lives (is_committed e.marks.made) (is_made_by u e.marks.made) (is_ended_by u e.marks.ended) (is_done e.marks.ended) seen h) same)

-- the entries of the id are as live, and t sees them, as before; or the operations leave the id alone and t sees what is live
abbrev Settles : List Entry → ℕ → ℕ → List Answered → ℕ → Type 0
Settles es t u pairs id =
    (SameAt id (live es) (live (map (settled u) es)) × SameAt id (view es t) (view (map (settled u) es) t))
    ⊎ (AreApart pairs id (live es) × AreApart pairs id (live (map (settled u) es)) × SameAt id (view (map (settled u) es) t) (live (map (settled u) es)))

-- the same of sorted lists
shown_same : (id : ℕ) (rs rs' : List Record) → SameAt id rs rs' → SameAt id (sorted rs) (sorted rs')
shown_same id rs rs' e = within-sorted id rs ∙ e ∙ sym (within-sorted id rs')

-- two lists of entries shown in two ways, the first settled
settled_same : (f g : Entry → Bool) (r s : Entry → Record) (u id : ℕ) (es : List Entry)
    → SameAt id (map (λ e. r (settled u e)) (filter (λ e. f (settled u e)) es)) (map s (filter g es)) → SameAt id (sorted (map r (filter f (map (settled u) es)))) (sorted (map s (filter g es)))
settled_same f g r s u id es e = shown_same id (map r (filter f (map (settled u) es))) (map s (filter g es)) (rw (filter_map_map f r (settled u) es) e)

both_settled : (f g : Entry → Bool) (r s : Entry → Record) (u id : ℕ) (es : List Entry)
    → SameAt id (map (λ e. r (settled u e)) (filter (λ e. f (settled u e)) es)) (map (λ e. s (settled u e)) (filter (λ e. g (settled u e)) es))
    → SameAt id (sorted (map r (filter f (map (settled u) es)))) (sorted (map s (filter g (map (settled u) es))))
both_settled f g r s u id es e =
    shown_same id (map r (filter f (map (settled u) es))) (map s (filter g (map (settled u) es))) (rw (filter_map_map f r (settled u) es, filter_map_map g s (settled u) es) e)

settles : (tree : Table) (locks : List Lock) (t u : ℕ) (es : List Entry) (pairs : List Answered)
    → IsValid tree → AllCompatible locks → u ≢ t → MarksOwned (granules tree) locks es → OneEach is_live es → OneEach (is_visible u) es
    → HasRectangles pairs → HoldsParts (granules tree) locks t pairs → (id : ℕ) → Settles es t u pairs id
settles tree locks t u es pairs valid compatible apart owned one_live one_seen ordered parts id = go (some_or_none (λ (e : Entry). nat_eq e.id id && commit_changes u e) es)
  where
    of_id : (a b : Bool) → (a && b) ≡ true → (a ≡ true) × (b ≡ true)
    of_id a b h = grind arith

    of_none : (a b : Bool) → (a && b) ≡ false → a ≡ true → b ≡ false
    of_none a b h k = grind arith

    not_true : (b : Bool) → (b ≡ true → ⊥) → b ≡ false
    not_true b h = grind arith

    go : ((e : Entry) × Among e es × ((nat_eq e.id id && commit_changes u e) ≡ true)) ⊎ ((e : Entry) → Among e es → (nat_eq e.id id && commit_changes u e) ≡ false) → Settles es t u pairs id
    go (inl found) = inr (
      apart_at tree locks t u pairs id is_live record_of es valid compatible apart ordered parts object (λ e. refl) (λ e. refl)
          (λ e i k alive. owned u e i (live-marked u es found.0 e one_live one_seen found.1 i (is_id ∙ sym k) changes alive)),
      subst (λ rs. AreApart pairs id rs) (sym (commit_shows_view u es))
          (apart_at tree locks t u pairs id (is_visible u) (record_for u) es valid compatible apart ordered parts object (λ e. refl) (λ e. refl)
          (λ e i k seen. owned u e i (seen-marked u es found.0 e one_live one_seen found.1 i (is_id ∙ sym k) changes seen))),
      both_settled (is_visible t) is_live (record_for t) record_of u id es
          (
          (shown_alike (λ e. is_visible t (settled u e)) (λ e. is_live (settled u e)) (λ e. record_for t (settled u e)) (λ e. record_of (settled u e)) (λ e. refl) (λ e. refl) id es
          (λ e i k. unmarked-visible t u e apart (not_true (is_marked t e) (λ marked.
          clash locks t u (Object id) X X compatible apart exclusive-against_exclusive (subst (λ n. HoldsMode locks t (Object n) X) k (owned t e i marked).object) object))))),
    )
      where
        is_id : found.0.id ≡ id
        is_id = equal_from_test _ _ (of_id (nat_eq found.0.id id) (commit_changes u found.0) found.2).0

        changes : commit_changes u found.0 ≡ true
        changes = (of_id (nat_eq found.0.id id) (commit_changes u found.0) found.2).1

        object : HoldsMode locks u (Object id) X
        object = subst (λ n. HoldsMode locks u (Object n) X) is_id (owned u found.0 found.1 (changed-marked u found.0 changes)).object
    go (inr none) = inl (
      sym (settled_same is_live is_live record_of record_of u id es
          (
          (shown_alike (λ e. is_live (settled u e)) is_live (λ e. record_of (settled u e)) record_of (λ e. refl) (λ e. refl) id es
          (λ e i k. unchanged-live u e (unchanged e i k))))),
      sym (settled_same (is_visible t) (is_visible t) (record_for t) (record_for t) u id es
          (
          (shown_alike (λ e. is_visible t (settled u e)) (is_visible t) (λ e. record_for t (settled u e)) (record_for t) (λ e. refl) (λ e. refl) id es
          (λ e i k. unchanged-visible t u e apart
          (λ mine theirs. clash locks t u (Object e.id) X X compatible apart exclusive-against_exclusive (owned t e i mine).object (owned u e i theirs).object)
          (unchanged e i k))))),
    )
      where
        unchanged : (e : Entry) → Among e es → e.id ≡ id → commit_changes u e ≡ false
        unchanged e i k = of_none (nat_eq e.id id) (commit_changes u e) (none e i) (tells _ _ k)

live-ascends : (es : List Entry) → IsAscendingFrom 0 (live es)
live-ascends es = sorted-ascends (map record_of (filter is_live es))

view-ascends : (es : List Entry) (t : ℕ) → IsAscendingFrom 0 (view es t)
view-ascends es t = sorted-ascends (map (record_for t) (filter (is_visible t) es))

-- a commit of u does not disturb t
pub commit_undisturbed : (tree : Table) (locks : List Lock) (t u : ℕ) (es : List Entry) (pairs : List Answered)
    → IsValid tree → AllCompatible locks → u ≢ t → MarksOwned (granules tree) locks es → OneEach is_live es → OneEach (is_visible u) es
    → HasRectangles pairs → HoldsParts (granules tree) locks t pairs → Replays es t pairs → Replays (map (settled u) es) t pairs
commit_undisturbed tree locks t u es pairs valid compatible apart owned one_live one_seen ordered parts replays = record {
  same_replies = calm.same_replies.0 replays.same_replies;
  same_view = same_store 0 (records_after (live es') pairs) (view es' t) (run-ascends pairs (live es') (live-ascends es')) (view-ascends es' t) (λ id. at id (each id));
}
  where
    es' : List Entry
    es' = map (settled u) es

    each : (id : ℕ) → Settles es t u pairs id
    each = settles tree locks t u es pairs valid compatible apart owned one_live one_seen ordered parts

    differ : DifferApart pairs (live es) (live es')
    differ id = split (each id)
      where
        split : Settles es t u pairs id → SameAt id (live es) (live es') ⊎ (AreApart pairs id (live es) × AreApart pairs id (live es'))
        split (inl h) = inl h.0
        split (inr h) = inr (h.0, h.1)

    calm : Undisturbed pairs (live es) (live es')
    calm = undisturbed pairs (live es) (live es') (live-ascends es) (live-ascends es') differ

    at : (id : ℕ) → Settles es t u pairs id → SameAt id (records_after (live es') pairs) (view es' t)
    at id (inl h) = sym (calm.same_changes id h.0) ∙ ap (within (Id id)) replays.same_view ∙ h.1
    at id (inr h) = (undisturbed pairs (live es') (live es') (live-ascends es') (live-ascends es') (λ i. inl refl)).left_alone id h.1 ∙ sym h.2

pub marks_parts : (m x f d : Bool) (m' x' f' d' : Bool) → ((m' || x' || f') && not d') ≡ true → (m' ≡ true → m ≡ true) → (x' ≡ true → x ≡ true) → (f' ≡ true → f ≡ true) → (d' ≡ false → d ≡ false) → ((m || x || f) && not d) ≡ true
marks_parts m x f d m' x' f' d' h a b c e = grind arith

pub settled-marked : (v u : ℕ) (e : Entry) → is_marked v (settled u e) ≡ true → is_marked v e ≡ true
settled-marked v u e h =
    marks_parts (is_made_by v e.marks.made) (is_ended_by v e.marks.ended) (is_draft_of v e.marks.draft) (is_done e.marks.ended)
    (is_made_by v (settled u e).marks.made) (is_ended_by v (settled u e).marks.ended) (is_draft_of v (settled u e).marks.draft) (is_done (settled u e).marks.ended) h
    (made e.marks.made) (ended e.marks.ended) (draft e.marks.draft) (done e.marks.ended)
  where
    made : (m : Made) → is_made_by v (made_settled u m) ≡ true → is_made_by v m ≡ true
    made m h = grind (arith, nat_tests)

    ended : (n : Ended) → is_ended_by v (ended_settled u n) ≡ true → is_ended_by v n ≡ true
    ended n h = grind (arith, nat_tests)

    draft : (d : Draft) → is_draft_of v (draft_left u d) ≡ true → is_draft_of v d ≡ true
    draft d h = grind (arith, nat_tests)

    done : (n : Ended) → is_done (ended_settled u n) ≡ false → is_done n ≡ false
    done n h = grind (arith, nat_tests)

-- exclusive locks on the objects keep an operation off the marks of others
pub locks_leave_marks : (tree : Table) (locks : List Lock) (t u : ℕ) (op : Op) (es : List Entry) → AllCompatible locks → u ≢ t → MarksOwned (granules tree) locks es → HoldsChanged locks t op es → LeavesMarks t u op es
locks_leave_marks tree locks t u op es compatible apart owned holds e i changes = go (is_marked u e) refl
  where
    go : (b : Bool) → is_marked u e ≡ b → b ≡ false
    go false k = refl
    go true k = absurd (clash locks t u (Object e.id) X X compatible apart exclusive-against_exclusive (holds e i changes) (owned u e i k).object)
