-- An operation leaves what is live as it is, and turns what its transaction sees as it turns the plain store.
use Rattle.std.proofs.Common.{◌≡◌, ◌≢◌, ℕ, Bool, true, false, not, cond, ◌&&◌, ◌||◌, List, [], ◌∷◌, ◌++◌, map, filter, nat_eq, refl, sym, ap, ap₂, ◌∙◌, subst, inl, inr, arith}
use Rattle.std.specs.Prelude.{if◌then◌else◌}
use Rattle.std.proofs.lemmas.Bool.Decides.{nat_tests}
use Rattle.sp_rect.specs.declared.record.Record.{Record}
use Rattle.sp_rect.specs.declared.operation.Answered.{Answered}
use Rattle.sp_rect.specs.declared.operation.Op.{Op}
use Rattle.sp_rect.specs.declared.operation.Op.TheVariants.{Put, Drop, Set, Get, Find, Fill, Clear}
use Rattle.sp_rect.specs.Store.{Part, Id, Area, part_of, touches, within, replied, with_record, with_value, written, without, changed, after}
use Rattle.sp_rect.specs.Serial.{records_after, RepliesAsPlain}
use Rattle.sp_node.specs.declared.marks.Made.{Made}
use Rattle.sp_node.specs.declared.marks.Ended.{Ended}
use Rattle.sp_node.specs.declared.marks.Draft.{Draft}
use Rattle.sp_node.specs.declared.marks.Draft.TheVariants.{None as NoDraft, Of}
use Rattle.sp_node.specs.declared.node.Entry.{Entry}
use Rattle.sp_node.specs.Among.{Among}
use Rattle.sp_node.specs.Marks.{is_committed, is_made_by, is_done, is_ended_by, is_draft_of, is_marked, drafted, draft_left, ended_undone, marked, undone}
use Rattle.sp_txn.specs.Visible.{is_live, is_visible, record_of, record_for, sorted, live, view}
use Rattle.sp_protection.specs.Effects.{is_seen_in, is_changed, ended_by, drafted_by, marked_by, entered, applied}
use Rattle.sp_protection.specs.Replays.{Replays, LeavesMarks}
use Rattle.sp_protection.proofs.Runs.{sorted-ascends, filter-with_record}

abbrev ended_entry : ℕ → Entry → Entry
ended_entry t e = marked (ended_by t e.marks) e

abbrev drafted_entry : ℕ → List ℕ → Entry → Entry
drafted_entry t value e = marked (drafted_by t value e.marks) e

-- two ways to show entries are alike where they agree on each entry
pub show_alike : (f g : Entry → Bool) (r s : Entry → Record) (es : List Entry) → ((e : Entry) → Among e es → (f e ≡ g e) × (g e ≡ true → r e ≡ s e)) → map r (filter f es) ≡ map s (filter g es)
show_alike f g r s [] alike = refl
show_alike f g r s (e ∷ es) alike = go (g e) (alike e (inl refl)).0 (alike e (inl refl)).1 (show_alike f g r s es (λ x i. alike x (inr i)))
  where
    go : (b : Bool) → f e ≡ b → (b ≡ true → r e ≡ s e) → map r (filter f es) ≡ map s (filter g es) → map r (filter f (e ∷ es)) ≡ map s (if b then e ∷ filter g es else filter g es)
    go true k same ih = rw k (ap₂ (λ x xs. x ∷ xs) (same refl) ih)
    go false k same ih = rw k ih

show-map : (f : Entry → Bool) (r : Entry → Record) (h : Entry → Entry) (es : List Entry) → map r (filter f (map h es)) ≡ map (λ e. r (h e)) (filter (λ e. f (h e)) es)
show-map f r h [] = refl
show-map f r h (e ∷ es) = go (f (h e)) (show-map f r h es)
  where
    go : (b : Bool) → map r (filter f (map h es)) ≡ map (λ e. r (h e)) (filter (λ e. f (h e)) es)
        → map r (if b then h e ∷ filter f (map h es) else filter f (map h es)) ≡ map (λ e. r (h e)) (if b then e ∷ filter (λ e. f (h e)) es else filter (λ e. f (h e)) es)
    go true ih = ap (λ rs. r (h e) ∷ rs) ih
    go false ih = ih

show-append : (f : Entry → Bool) (r : Entry → Record) (es es' : List Entry) → map r (filter f (es ++ es')) ≡ map r (filter f es) ++ map r (filter f es')
show-append f r [] es' = refl
show-append f r (e ∷ es) es' = go (f e) (show-append f r es es')
  where
    go : (b : Bool) → map r (filter f (es ++ es')) ≡ map r (filter f es) ++ map r (filter f es')
        → map r (if b then e ∷ filter f (es ++ es') else filter f (es ++ es')) ≡ map r (if b then e ∷ filter f es else filter f es) ++ map r (filter f es')
    go true ih = ap (λ rs. r e ∷ rs) ih
    go false ih = ih

-- a change of each entry, shown
pub changed_alike : (f g : Entry → Bool) (r s : Entry → Record) (h : Entry → Entry) (es : List Entry) → ((e : Entry) → Among e es → (f (h e) ≡ g e) × (g e ≡ true → r (h e) ≡ s e)) → map r (filter f (map h es)) ≡ map s (filter g es)
changed_alike f g r s h es alike = show-map f r h es ∙ show_alike (λ e. f (h e)) g (λ e. r (h e)) s es alike

marked-live : (t : ℕ) (op : Op) (e : Entry) → (is_live (marked_by t op e) ≡ is_live e) × (is_live e ≡ true → record_of (marked_by t op e) ≡ record_of e)
marked-live t (Put r) e = (refl, λ l. refl)
marked-live t (Drop id) e = go (is_seen_in t (Id id) e) refl
  where
    go : (b : Bool) → is_seen_in t (Id id) e ≡ b → (is_live (cond b (ended_entry t e) e) ≡ is_live e) × (is_live e ≡ true → record_of (cond b (ended_entry t e) e) ≡ record_of e)
    go true k = (grind arith, λ l. refl)
    go false k = (refl, λ l. refl)
marked-live t (Set id value) e = go (is_seen_in t (Id id) e)
  where
    go : (b : Bool) → (is_live (cond b (drafted_entry t value e) e) ≡ is_live e) × (is_live e ≡ true → record_of (cond b (drafted_entry t value e) e) ≡ record_of e)
    go true = (refl, λ l. refl)
    go false = (refl, λ l. refl)
marked-live t (Get id) e = (refl, λ l. refl)
marked-live t (Find rect) e = (refl, λ l. refl)
marked-live t (Fill rect value) e = go (is_seen_in t (Area rect) e)
  where
    go : (b : Bool) → (is_live (cond b (drafted_entry t value e) e) ≡ is_live e) × (is_live e ≡ true → record_of (cond b (drafted_entry t value e) e) ≡ record_of e)
    go true = (refl, λ l. refl)
    go false = (refl, λ l. refl)
marked-live t (Clear rect) e = go (is_seen_in t (Area rect) e) refl
  where
    go : (b : Bool) → is_seen_in t (Area rect) e ≡ b → (is_live (cond b (ended_entry t e) e) ≡ is_live e) × (is_live e ≡ true → record_of (cond b (ended_entry t e) e) ≡ record_of e)
    go true k = (grind arith, λ l. refl)
    go false k = (refl, λ l. refl)

entered-hidden : (t number : ℕ) (op : Op) (found : List Record) → map record_of (filter is_live (entered t number op found)) ≡ []
entered-hidden t number (Put r) [] = refl
entered-hidden t number (Put r) (x ∷ xs) = refl
entered-hidden t number (Drop id) found = refl
entered-hidden t number (Set id value) found = refl
entered-hidden t number (Get id) found = refl
entered-hidden t number (Find rect) found = refl
entered-hidden t number (Fill rect value) found = refl
entered-hidden t number (Clear rect) found = refl

pub applied-live : (t number : ℕ) (op : Op) (es : List Entry) → live (applied t number op es) ≡ live es
applied-live t number op es =
    ap sorted
    (show-append is_live record_of (entered t number op (within (part_of op) (view es t))) (map (marked_by t op) es)
    ∙ ap₂ (λ xs ys. xs ++ ys) (entered-hidden t number op (within (part_of op) (view es t))) (changed_alike is_live is_live record_of record_of (marked_by t op) es (λ e i. marked-live t op e)))

undone-live : (t : ℕ) (e : Entry) → is_live (undone t e) ≡ is_live e
undone-live t e = go e.marks.made e.marks.ended
  where
    go : (m : Made) (n : Ended) → (is_committed m && not (is_done (ended_undone t m n))) ≡ (is_committed m && not (is_done n))
    go m n = grind (arith, nat_tests)

pub undone-visible : (t u : ℕ) (e : Entry) → u ≢ t → is_visible u (undone t e) ≡ is_visible u e
undone-visible t u e apart = go e.marks.made e.marks.ended
  where
    go : (m : Made) (n : Ended) → ((is_committed m || is_made_by u m) && not (is_ended_by u (ended_undone t m n) || is_done (ended_undone t m n))) ≡ ((is_committed m || is_made_by u m) && not (is_ended_by u n || is_done n))
    go m n = grind (arith, nat_tests)

undone-draft : (t u : ℕ) (d : Draft) (value : List ℕ) → u ≢ t → drafted u (draft_left t d) value ≡ drafted u d value
undone-draft t u d value apart = grind (arith, nat_tests)

-- a rollback leaves what is live, and what each other transaction sees
pub rollback-live : (t : ℕ) (es : List Entry) → live (map (undone t) es) ≡ live es
rollback-live t es = ap sorted (changed_alike is_live is_live record_of record_of (undone t) es (λ e i. (undone-live t e, λ l. refl)))

pub rollback-view : (t u : ℕ) (es : List Entry) → u ≢ t → view (map (undone t) es) u ≡ view es u
rollback-view t u es apart =
    ap sorted (changed_alike (is_visible u) (is_visible u) (record_for u) (record_for u) (undone t) es
    (λ e i. (undone-visible t u e apart, λ l. ap (λ v. record { id = e.id; rect = e.rect; value = v }) (undone-draft t u e.marks.draft e.value apart))))

-- sorting goes past a filter, and past a change that keeps ids
filter-sorted : (test : Record → Bool) (rs : List Record) → sorted (filter test rs) ≡ filter test (sorted rs)
filter-sorted test [] = refl
filter-sorted test (r ∷ rs) = go (test r) (filter-sorted test rs) ∙ sym (filter-with_record test r 0 (sorted rs) (sorted-ascends rs))
  where
    go : (b : Bool) → sorted (filter test rs) ≡ filter test (sorted rs) → sorted (if b then r ∷ filter test rs else filter test rs) ≡ (if b then with_record r (filter test (sorted rs)) else filter test (sorted rs))
    go true ih = ap (with_record r) ih
    go false ih = ih

map-with_record : (f : Record → Record) (r : Record) (rs : List Record) → ((x : Record) → (f x).id ≡ x.id) → with_record (f r) (map f rs) ≡ map f (with_record r rs)
map-with_record f r [] ids = refl
map-with_record f r (x ∷ xs) ids = grind (arith, nat_tests, ids r, ids x, map-with_record f r xs ids)

map-sorted : (f : Record → Record) (rs : List Record) → ((x : Record) → (f x).id ≡ x.id) → sorted (map f rs) ≡ map f (sorted rs)
map-sorted f [] ids = refl
map-sorted f (r ∷ rs) ids = ap (with_record (f r)) (map-sorted f rs ids) ∙ map-with_record f r (sorted rs) ids

-- the entries of a part ended, shown, are the records outside it
ended-shown : (t : ℕ) (part : Part) (es : List Entry) → map (record_for t) (filter (is_visible t) (map (λ e. cond (is_seen_in t part e) (ended_entry t e) e) es)) ≡ without part (map (record_for t) (filter (is_visible t) es))
ended-shown t part [] = refl
ended-shown t part (e ∷ es) = go (is_visible t e) refl (touches part (record_for t e)) refl (ended-shown t part es)
  where
    hidden : is_visible t (ended_entry t e) ≡ false
    hidden = grind (arith, nat_tests)

    go : (v : Bool) → is_visible t e ≡ v → (b : Bool) → touches part (record_for t e) ≡ b
        → map (record_for t) (filter (is_visible t) (map (λ e. cond (is_seen_in t part e) (ended_entry t e) e) es)) ≡ without part (map (record_for t) (filter (is_visible t) es))
        → map (record_for t) (filter (is_visible t) (map (λ e. cond (is_seen_in t part e) (ended_entry t e) e) (e ∷ es))) ≡ without part (map (record_for t) (filter (is_visible t) (e ∷ es)))
    go true k true l ih = rw (k, l, hidden) ih
    go true k false l ih = rw (k, l, k) (ap (λ rs. record_for t e ∷ rs) ih)
    go false k b l ih = rw (k, k) ih

-- a value drafted for the entries of a part, shown, is the value written into its records
drafted-shown : (t : ℕ) (part : Part) (value : List ℕ) (es : List Entry) → map (record_for t) (filter (is_visible t) (map (λ e. cond (is_seen_in t part e) (drafted_entry t value e) e) es)) ≡ written part value (map (record_for t) (filter (is_visible t) es))
drafted-shown t part value [] = refl
drafted-shown t part value (e ∷ es) = go (is_visible t e) refl (touches part (record_for t e)) refl (drafted-shown t part value es)
  where
    own : nat_eq t t ≡ true
    own = grind (arith, nat_tests)

    go : (v : Bool) → is_visible t e ≡ v → (b : Bool) → touches part (record_for t e) ≡ b
        → map (record_for t) (filter (is_visible t) (map (λ e. cond (is_seen_in t part e) (drafted_entry t value e) e) es)) ≡ written part value (map (record_for t) (filter (is_visible t) es))
        → map (record_for t) (filter (is_visible t) (map (λ e. cond (is_seen_in t part e) (drafted_entry t value e) e) (e ∷ es))) ≡ written part value (map (record_for t) (filter (is_visible t) (e ∷ es)))
    go true k true l ih = rw (k, l, k, own) (ap (λ rs. record { id = e.id; rect = e.rect; value = value } ∷ rs) ih)
    go true k false l ih = rw (k, l, k) (ap (λ rs. record_for t e ∷ rs) ih)
    go false k b l ih = rw (k, k) ih

with_value-id : (part : Part) (value : List ℕ) (r : Record) → (with_value part value r).id ≡ r.id
with_value-id part value r = grind arith

map-same : (es : List Entry) → map (λ e. e) es ≡ es
map-same [] = refl
map-same (e ∷ es) = ap (λ xs. e ∷ xs) (map-same es)

-- what the transaction sees is turned as the plain store is
pub applied-view : (t number : ℕ) (op : Op) (es : List Entry) → view (applied t number op es) t ≡ after op (view es t)
applied-view t number (Put r) es = go (within (Id r.id) (view es t))
  where
    same : view (map (λ e. e) es) t ≡ view es t
    same = ap (λ xs. view xs t) (map-same es)

    own : nat_eq t t ≡ true
    own = grind (arith, nat_tests)

    go : (found : List Record) → view (entered t number (Put r) found ++ map (marked_by t (Put r)) es) t ≡ changed (Put r) found (view es t)
    go [] = rw own (ap (with_record r) same)
    go (x ∷ xs) = same
applied-view t number (Drop id) es = ap sorted (ended-shown t (Id id) es) ∙ filter-sorted (λ r. not (touches (Id id) r)) (map (record_for t) (filter (is_visible t) es))
applied-view t number (Set id value) es = ap sorted (drafted-shown t (Id id) value es) ∙ map-sorted (with_value (Id id) value) (map (record_for t) (filter (is_visible t) es)) (with_value-id (Id id) value)
applied-view t number (Get id) es = ap (λ xs. view xs t) (map-same es)
applied-view t number (Find rect) es = ap (λ xs. view xs t) (map-same es)
applied-view t number (Fill rect value) es = ap sorted (drafted-shown t (Area rect) value es) ∙ map-sorted (with_value (Area rect) value) (map (record_for t) (filter (is_visible t) es)) (with_value-id (Area rect) value)
applied-view t number (Clear rect) es = ap sorted (ended-shown t (Area rect) es) ∙ filter-sorted (λ r. not (touches (Area rect) r)) (map (record_for t) (filter (is_visible t) es))

records_after-append : (pairs : List Answered) (pair : Answered) (rs : List Record) → records_after rs (pairs ++ pair ∷ []) ≡ after pair.op (records_after rs pairs)
records_after-append [] pair rs = refl
records_after-append (p ∷ pairs) pair rs = records_after-append pairs pair (after p.op rs)

replies-append : (pairs : List Answered) (pair : Answered) (rs : List Record) → RepliesAsPlain rs pairs → pair.reply ≡ replied pair.op (records_after rs pairs) → RepliesAsPlain rs (pairs ++ pair ∷ [])
replies-append [] pair rs h k = (k, tt)
replies-append (p ∷ pairs) pair rs h k = (h.0, replies-append pairs pair (after p.op rs) h.1 k)

-- the operation joins those that its transaction replays, with its reply on what the transaction sees
pub apply_replays : (t number : ℕ) (op : Op) (es : List Entry) (pairs : List Answered) → Replays es t pairs → Replays (applied t number op es) t (pairs ++ record { op = op; reply = replied op (view es t) } ∷ [])
apply_replays t number op es pairs replays = record {
  same_replies =
      subst (λ rs. RepliesAsPlain rs (pairs ++ pair ∷ [])) (sym (applied-live t number op es))
      (replies-append pairs pair (live es) replays.same_replies (ap (replied op) (sym replays.same_view)));
  same_view =
      ap (λ rs. records_after rs (pairs ++ pair ∷ [])) (applied-live t number op es) ∙ records_after-append pairs pair (live es) ∙ ap (after op) replays.same_view ∙ sym (applied-view t number op es);
}
  where
    pair : Answered
    pair = record { op = op; reply = replied op (view es t) }

-- an entry that t sees and that carries no mark of u
ended-seen : (t u : ℕ) (e : Entry) → u ≢ t → is_visible t e ≡ true → is_marked u e ≡ false → is_visible u (ended_entry t e) ≡ is_visible u e
ended-seen t u e apart seen none = go (is_committed e.marks.made) (is_made_by t e.marks.made) (is_made_by u e.marks.made) (is_ended_by t e.marks.ended) (is_ended_by u e.marks.ended) (is_done e.marks.ended) (is_draft_of u e.marks.draft) (nat_eq t u) (grind (arith, nat_tests)) seen none
  where
    go : (c m n x y d k q : Bool) → q ≡ false → ((c || m) && not (x || d)) ≡ true → ((n || y || k) && not d) ≡ false → ((c || n) && not (q || false)) ≡ ((c || n) && not (y || d))
    go c m n x y d k q h seen none = grind arith

drafted-seen : (t u : ℕ) (value : List ℕ) (e : Entry) → u ≢ t → is_visible t e ≡ true → is_marked u e ≡ false → record_for u (drafted_entry t value e) ≡ record_for u e
drafted-seen t u value e apart seen none = ap (λ v. record { id = e.id; rect = e.rect; value = v }) (other (nat_eq t u) (grind (arith, nat_tests)) ∙ sym (draftless e.marks.draft (undrafted (is_committed e.marks.made) (is_made_by t e.marks.made) (is_made_by u e.marks.made) (is_ended_by t e.marks.ended) (is_ended_by u e.marks.ended) (is_done e.marks.ended) (is_draft_of u e.marks.draft) seen none)))
  where
    other : (b : Bool) → b ≡ false → (if b then value else e.value) ≡ e.value
    other b h = grind arith

    undrafted : (c m n x y d k : Bool) → ((c || m) && not (x || d)) ≡ true → ((n || y || k) && not d) ≡ false → k ≡ false
    undrafted c m n x y d k seen none = grind arith

    draftless : (d : Draft) → is_draft_of u d ≡ false → drafted u d e.value ≡ e.value
    draftless NoDraft h = refl
    draftless (Of v draft) h = rw h

both_parts : (a b : Bool) → (a && b) ≡ true → a ≡ true
both_parts a b h = grind arith

marked-seen : (t u : ℕ) (op : Op) (e : Entry) → u ≢ t → (is_changed t op e ≡ true → is_marked u e ≡ false) → (is_visible u (marked_by t op e) ≡ is_visible u e) × (is_visible u e ≡ true → record_for u (marked_by t op e) ≡ record_for u e)
marked-seen t u op e apart none = go op none
  where
    ends : (part : Part) → (b : Bool) → is_seen_in t part e ≡ b → (is_seen_in t part e ≡ true → is_marked u e ≡ false)
        → (is_visible u (cond b (ended_entry t e) e) ≡ is_visible u e) × (is_visible u e ≡ true → record_for u (cond b (ended_entry t e) e) ≡ record_for u e)
    ends part true k free = (ended-seen t u e apart (both_parts (is_visible t e) (touches part (record_for t e)) k) (free k), λ l. refl)
    ends part false k free = (refl, λ l. refl)

    drafts : (part : Part) (value : List ℕ) → (b : Bool) → is_seen_in t part e ≡ b → (is_seen_in t part e ≡ true → is_marked u e ≡ false)
        → (is_visible u (cond b (drafted_entry t value e) e) ≡ is_visible u e) × (is_visible u e ≡ true → record_for u (cond b (drafted_entry t value e) e) ≡ record_for u e)
    drafts part value true k free = (refl, λ l. drafted-seen t u value e apart (both_parts (is_visible t e) (touches part (record_for t e)) k) (free k))
    drafts part value false k free = (refl, λ l. refl)

    go : (o : Op) → (is_changed t o e ≡ true → is_marked u e ≡ false) → (is_visible u (marked_by t o e) ≡ is_visible u e) × (is_visible u e ≡ true → record_for u (marked_by t o e) ≡ record_for u e)
    go (Put r) free = (refl, λ l. refl)
    go (Drop id) free = ends (Id id) (is_seen_in t (Id id) e) refl free
    go (Set id value) free = drafts (Id id) value (is_seen_in t (Id id) e) refl free
    go (Get id) free = (refl, λ l. refl)
    go (Find rect) free = (refl, λ l. refl)
    go (Fill rect value) free = drafts (Area rect) value (is_seen_in t (Area rect) e) refl free
    go (Clear rect) free = ends (Area rect) (is_seen_in t (Area rect) e) refl free

entered-unseen : (t u number : ℕ) (op : Op) (found : List Record) → u ≢ t → map (record_for u) (filter (is_visible u) (entered t number op found)) ≡ []
entered-unseen t u number (Put r) [] apart = let other : nat_eq t u ≡ false = grind (arith, nat_tests) in rw other
entered-unseen t u number (Put r) (x ∷ xs) apart = refl
entered-unseen t u number (Drop id) found apart = refl
entered-unseen t u number (Set id value) found apart = refl
entered-unseen t u number (Get id) found apart = refl
entered-unseen t u number (Find rect) found apart = refl
entered-unseen t u number (Fill rect value) found apart = refl
entered-unseen t u number (Clear rect) found apart = refl

-- what each other transaction sees stays
pub applied-other : (t u number : ℕ) (op : Op) (es : List Entry) → u ≢ t → LeavesMarks t u op es → view (applied t number op es) u ≡ view es u
applied-other t u number op es apart free =
    ap sorted
    (show-append (is_visible u) (record_for u) (entered t number op (within (part_of op) (view es t))) (map (marked_by t op) es)
    ∙ ap₂ (λ xs ys. xs ++ ys) (entered-unseen t u number op (within (part_of op) (view es t)) apart)
    (changed_alike (is_visible u) (is_visible u) (record_for u) (record_for u) (marked_by t op) es (λ e i. marked-seen t u op e apart (free e i))))

-- what stands on the same records, and shows the same, replays the same
replays_alike : (u : ℕ) (es es' : List Entry) (pairs : List Answered) → live es' ≡ live es → view es' u ≡ view es u → Replays es u pairs → Replays es' u pairs
replays_alike u es es' pairs same_live same_view replays = record {
  same_replies = subst (λ rs. RepliesAsPlain rs pairs) (sym same_live) replays.same_replies;
  same_view = ap (λ rs. records_after rs pairs) same_live ∙ replays.same_view ∙ sym same_view;
}

pub rollback_replays : (t u : ℕ) (es : List Entry) (pairs : List Answered) → u ≢ t → Replays es u pairs → Replays (map (undone t) es) u pairs
rollback_replays t u es pairs apart = replays_alike u es (map (undone t) es) pairs (rollback-live t es) (rollback-view t u es apart)

pub other_replays : (t u number : ℕ) (op : Op) (es : List Entry) (pairs : List Answered) → u ≢ t → LeavesMarks t u op es → Replays es u pairs → Replays (applied t number op es) u pairs
other_replays t u number op es pairs apart free = replays_alike u es (applied t number op es) pairs (applied-live t number op es) (applied-other t u number op es apart free)
