-- A removal of a dead entry, and one that is put off, keep a kernel sound.
use Rattle.std.proofs.Common.{◌≡◌, ◌≢◌, ◌⊎◌, ℕ, zero, suc, ◌+◌, ◌<◌, ◌≤◌, ◌^◌, Bool, true, false, not, cond, ◌&&◌, ◌||◌, List, [], ◌∷◌, ◌++◌, map, length, nat_eq, None, Some, refl, sym, ap, ◌∙◌, subst, inl, inr, true≢false, arith}
use Rattle.std.specs.Prelude.{nat_le}
use Rattle.std.specs.List.{IsDistinct}
use Rattle.std.proofs.lemmas.Bool.Decides.{nat_tests}
use Rattle.sp_rect.specs.Serial.{records_after, RepliesAsPlain}
use Rattle.std.proofs.lemmas.List.{length-map}
use Rattle.std.proofs.lemmas.Map.Keys.{IsDistinct-tail}
use Rattle.sp_rect.specs.Plane.{Rectangle, whole}
use Rattle.sp_rect.specs.Store.{Part, Id, Area, part_of, IsOrdered}
use Rattle.sp_rect.specs.declared.operation.Op.{Op}
use Rattle.sp_locks.specs.declared.mode.Mode.{Mode}
use Rattle.sp_locks.specs.declared.row.Name.{Name}
use Rattle.sp_locks.specs.declared.row.Name.TheVariants.{Granule as OnGranule, Object}
use Rattle.sp_locks.specs.declared.row.Duration.TheVariants.{Short}
use Rattle.sp_locks.specs.declared.needs.Need.{Need}
use Rattle.sp_locks.specs.Modes.{compatible}
use Rattle.sp_locks.specs.Table.{rows_on}
use Rattle.sp_locks.specs.Soundness.{In}
use Rattle.sp_locks.proofs.Blocking.{held-against}
use Rattle.sp_locks.proofs.Keeping.{in-name}
use Rattle.sp_node.specs.declared.node.Entry.{Entry}
use Rattle.sp_node.specs.Among.{Among}
use Rattle.sp_node.specs.Look.{look}
use Rattle.sp_node.specs.Marks.{is_committed, is_made_by, is_ended_by, is_done, is_marked}
use Rattle.sp_node.specs.Nested.{Body, Branch, Place, places, entries}
use Rattle.sp_node.specs.Table.{Table, body_at, level_of, places_of, entries_of}
use Rattle.sp_node.proofs.Among.{among_left, among_right, among_split, among_flat_map, from_flat_map}
use Rattle.sp_node.proofs.Laws.{one_of_number}
use Rattle.sp_granule.specs.Granules.{Granule, Standing, standing, granule, granules}
use Rattle.sp_txn.specs.Visible.{is_live, is_visible, record_of, record_for, live, view}
use Rattle.sp_event.specs.declared.event.Event.TheVariants.{Clean}
use Rattle.sp_event.specs.declared.answer.Answer.TheVariants.{LatchBusy}
use Rattle.sp_protection.specs.Asking.{on_granule, granule_needs}
use Rattle.sp_protection.specs.Holding.{Lock, GranuleNeed, UnopposedByAll}
use Rattle.sp_protection.specs.Guarding.{Guarded, Owned}
use Rattle.sp_protection.specs.Needs.{ShortWant, AreNeedsOf}
use Rattle.sp_protection.specs.Replays.{Replays, HoldsPart, SameMembers}
use Rattle.sp_protection.specs.Reshape.{Licensed, SameStandings, StillHas}
use Rattle.sp_protection.proofs.Leaves.{among_map, from_map, standing_entry}
use Rattle.sp_protection.proofs.Rearranging.{rearranged, ordered_parts, run_ordered, one_each}
use Rattle.sp_protection.proofs.Reshapes.{removal_keeps_guarded, removal_keeps_owned}
use Rattle.sp_protection.proofs.Rules.{removal_licensed}
use Rattle.sp_model.specs.declared.session.Session.{Session}
use Rattle.sp_model.specs.declared.session.Stage.TheVariants.{Planned}
use Rattle.sp_model.specs.State.{Kernel, entries_in, locks_of}
use Rattle.sp_model.specs.Refusals.{first_unused, holds_latch, first_holder, turned_away}
use Rattle.sp_model.specs.Moves.{cleaned, put_off}
use Rattle.sp_model.specs.Removal.{KeepsOthers}
use Rattle.sp_model.specs.Stepped.{AreUnopposed}
use Rattle.sp_model.specs.Soundness.{DeadListed}
use Rattle.sp_model.proofs.Bare.{Bare}
use Rattle.sp_model.proofs.Holding.{among-in, rows-stay, OfLock, of_locks}
use Rattle.sp_model.proofs.Turned.{is_let}
use Rattle.sp_model.proofs.Dead.{distinct-cons, distinct-out, distinct-append, distinct-empty}
use Rattle.sp_model.proofs.Planned.{stage_from}
use Rattle.sp_model.proofs.Endings.{run_all}
use Rattle.sp_model.proofs.Flushing.{listed-sound}

-- the first of the list goes to its end
among-rotated : (n m : ℕ) (rest : List ℕ) → Among m (n ∷ rest) → Among m (rest ++ n ∷ [])
among-rotated n m rest (inl e) = among_right m rest (n ∷ []) (inl e)
among-rotated n m rest (inr i) = among_left m rest (n ∷ []) i

of_rotated : (n m : ℕ) (rest : List ℕ) → Among m (rest ++ n ∷ []) → Among m (n ∷ rest)
of_rotated n m rest i = go (among_split m rest (n ∷ []) i)
  where
    go : Among m rest ⊎ Among m (n ∷ []) → Among m (n ∷ rest)
    go (inl j) = inr j
    go (inr (inl e)) = inl e
    go (inr (inr none)) = absurd none

-- the first dead entry is put off
pub put_off-sound : (k : Kernel) (n : ℕ) (rest : List ℕ) → Bare k → k.dead ≡ n ∷ rest → Bare (put_off n rest k)
put_off-sound k n rest sound first = listed-sound k (rest ++ n ∷ []) k.queue k.flight k.calls sound (record {
  once = distinct-append rest (n ∷ []) (IsDistinct-tail nat_eq n rest once) (distinct-cons n [] (λ i. i) distinct-empty) apart;
  there = λ e i d. among-rotated n e.number rest (subst (Among e.number) first (sound.dead.there e i d));
  back = λ m i. sound.dead.back m (subst (Among m) (sym first) (of_rotated n m rest i));
}) sound.queued
  where
    once : IsDistinct nat_eq (n ∷ rest)
    once = subst (IsDistinct nat_eq) first sound.dead.once

    apart : (m : ℕ) → Among m rest → Among m (n ∷ []) → ⊥
    apart m i (inl e) = distinct-out n rest once (subst (λ l. Among l rest) e i)
    apart m i (inr none) = none

-- distinct numbers that are all among others are no more
split_at : (n : ℕ) (ys : List ℕ) → Among n ys → (front : List ℕ) × (back : List ℕ) × (ys ≡ front ++ n ∷ back)
split_at n [] i = absurd i
split_at n (y ∷ ys) (inl e) = ([], ys, ap (λ m. m ∷ ys) (sym e))
split_at n (y ∷ ys) (inr i) = let s = split_at n ys i in (y ∷ s.0, s.1, ap (λ ms. y ∷ ms) s.2)

length-middle : (front : List ℕ) (n : ℕ) (back : List ℕ) → length (front ++ n ∷ back) ≡ suc (length (front ++ back))
length-middle [] n back = refl
length-middle (m ∷ front) n back = ap suc (length-middle front n back)

no_more : (xs ys : List ℕ) → IsDistinct nat_eq xs → ((n : ℕ) → Among n xs → Among n ys) → length xs ≤ length ys
no_more [] ys h part = omega arith
no_more (x ∷ xs) ys h part =
    let s = split_at x ys (part x (inl refl)) in
    let rest = no_more xs (s.0 ++ s.1) (IsDistinct-tail nat_eq x xs h) (λ n i. other n i s.0 s.1 (subst (Among n) s.2 (part n (inr i)))) in
    let l = length-middle s.0 x s.1 in
    let e = ap (λ (zs : List ℕ). length zs) s.2 in
    omega (arith, rest, l, e)
  where
    other : (n : ℕ) → Among n xs → (front back : List ℕ) → Among n (front ++ x ∷ back) → Among n (front ++ back)
    other n i front back j = go (among_split n front (x ∷ back) j)
      where
        go : Among n front ⊎ Among n (x ∷ back) → Among n (front ++ back)
        go (inl a) = among_left n front back a
        go (inr (inl e)) = absurd (distinct-out x xs h (subst (λ m. Among m xs) e i))
        go (inr (inr b)) = among_right n front back b

-- each entry stands in a leaf
below_stands : (level number : ℕ) (space : Rectangle) (body : Body level) (e : Entry) → Among e (entries level body) → (p : Place) × Among p (places level number space body) × ((granule p).is_leaf ≡ true) × Among (standing e) (granule p).entries
below_stands zero number space body e i = (record { number = number; space = space; level = 0; body = body }, inl refl, refl, among_map standing e body i)
below_stands (suc level) number space body e i =
    let b = from_flat_map (λ (b : Branch (Body level)). entries level b.body) e body i in
    let p = below_stands level b.0.number b.0.rect b.0.body e b.2 in
    (p.0, inr (among_flat_map (λ (b : Branch (Body level)). places level b.number b.rect b.body) p.0 b.0 body b.1 p.1), p.2, p.3)

pub entry_stands : (t : Table) (e : Entry) → Among e (entries_of t) → (g : Granule) × Among g (granules t) × (g.is_leaf ≡ true) × Among (standing e) g.entries
unfolding granules
entry_stands t e i = let p = below_stands (level_of t) t.root whole (body_at (look t.nodes) (level_of t) t.root) e i in (granule p.0, among_map granule p.0 (places_of t) p.1, p.2, p.3)

-- nobody has planned
free-all : (xs : List Session) → first_holder false (λ y. true) xs ≡ None → (y : Session) → Among y xs → holds_latch false y.stage ≡ false
free-all [] h y i = absurd i
free-all (x ∷ xs) h y i = go (holds_latch false x.stage) refl h i (λ e j. free-all xs e y j)
  where
    some : Some (LatchBusy x.txn.session) ≡ None → ⊥
    some e = cc

    go : (b : Bool) → holds_latch false x.stage ≡ b → cond b (Some (LatchBusy x.txn.session)) (first_holder false (λ y. true) xs) ≡ None → Among y (x ∷ xs) → (first_holder false (λ y. true) xs ≡ None → Among y xs → holds_latch false y.stage ≡ false) → holds_latch false y.stage ≡ false
    go true k e i rest = absurd (some e)
    go false k e (inl f) rest = ap (λ (z : Session). holds_latch false z.stage) f ∙ k
    go false k e (inr j) rest = rest e j

pub clean-unplanned : (k : Kernel) → turned_away k Clean ≡ None → (y : Session) (op : Op) (left : List Need) → Among y k.sessions → y.stage ≡ Planned op left → ⊥
clean-unplanned k free y op left i at = true≢false (sym (ap (holds_latch false) at) ∙ free-all k.sessions (is_let k Clean free).latched y i)

-- the removal of the first dead entry, against whose needs nobody holds a lock, while nobody has planned
module _ (k : Kernel) (n : ℕ) (rest : List ℕ) (after : Table) (short : List Need) (sound : Bare k) (first : k.dead ≡ n ∷ rest) (keeps : KeepsOthers k.tree n after)
    (needs : AreNeedsOf (ShortWant (granules k.tree) (granules after) None) Short short) (in_numbers : (first_unused ≤ k.tree.next) → (k.tree.next < after.next) → ⊥) (unopposed : AreUnopposed k.locks short)
    (free : (y : Session) (op : Op) (left : List Need) → Among y k.sessions → y.stage ≡ Planned op left → ⊥) where
  once : IsDistinct nat_eq (n ∷ rest)
  once = subst (IsDistinct nat_eq) first sound.dead.once

  -- the entry that goes is dead
  gone : (e : Entry) → Among e (entries_in k) → e.number ≡ n → is_done e.marks.ended ≡ true
  gone e i s = let b = sound.dead.back n (subst (Among n) (sym first) (inl refl)) in
      ap (λ (y : Entry). is_done y.marks.ended) (one_of_number k.tree sound.valid e b.0 i b.1 (s ∙ sym b.2)) ∙ b.3

  dead-cleaned : DeadListed rest (entries_of after)
  dead-cleaned = record { once = IsDistinct-tail nat_eq n rest once; there = there; back = back }
    where
      there : (e : Entry) → Among e (entries_of after) → is_done e.marks.ended ≡ true → Among e.number rest
      there e i d = let b = keeps.back e i in go b.1 (subst (Among e.number) first (sound.dead.there e b.0 d))
        where
          go : e.number ≢ n → Among e.number (n ∷ rest) → Among e.number rest
          go other (inl s) = absurd (other s)
          go other (inr j) = j

      back : (m : ℕ) → Among m rest → (e : Entry) × Among e (entries_of after) × (e.number ≡ m) × (is_done e.marks.ended ≡ true)
      back m i = let b = sound.dead.back m (subst (Among m) (sym first) (inr i)) in
          (b.0, keeps.there b.0 b.1 (λ s. distinct-out n rest once (subst (λ l. Among l rest) (sym b.2 ∙ s) i)), b.2, b.3)

  members : (test : Entry → Bool) → ((e : Entry) → test e ≡ true → is_done e.marks.ended ≡ false) → SameMembers test (entries_in k) (entries_of after)
  members test alive = record {
    distinct = sound.valid.distinct_entries;
    distinct_others = keeps.valid.distinct_entries;
    there = λ e i h. keeps.there e i (λ s. true≢false (sym (gone e i s) ∙ alive e h));
    back = λ e i h. (keeps.back e i).0;
  }

  live-undead : (e : Entry) → is_live e ≡ true → is_done e.marks.ended ≡ false
  live-undead e h = go (is_committed e.marks.made) (is_done e.marks.ended) h
    where
      go : (c d : Bool) → (c && not d) ≡ true → d ≡ false
      go c d h = grind arith

  seen-undead : (t : ℕ) (e : Entry) → is_visible t e ≡ true → is_done e.marks.ended ≡ false
  seen-undead t e h = go (is_committed e.marks.made) (is_made_by t e.marks.made) (is_ended_by t e.marks.ended) (is_done e.marks.ended) h
    where
      go : (c m x d : Bool) → ((c || m) && not (x || d)) ≡ true → d ≡ false
      go c m x d h = grind arith

  ordered-live : IsOrdered (live (entries_in k))
  ordered-live = subst IsOrdered (sym sound.current) (run_all k.base k.commits sound.base)

  -- what is live, and what an active transaction sees, stays
  live-cleaned : live (entries_of after) ≡ live (entries_in k)
  live-cleaned = sym (rearranged is_live record_of (entries_in k) (entries_of after) (λ e. refl) (members is_live live-undead) (one_each is_live record_of (entries_in k) (λ e. refl) (ordered_parts (live (entries_in k)) ordered-live).1))

  replays-cleaned : (y : Session) → Replays (entries_in k) y.txn.number y.txn.ops → Replays (entries_of after) y.txn.number y.txn.ops
  replays-cleaned y h = record {
    same_replies = subst (λ rs. RepliesAsPlain rs y.txn.ops) (sym live-cleaned) h.same_replies;
    same_view = ap (λ rs. records_after rs y.txn.ops) live-cleaned ∙ h.same_view ∙ same;
  }
    where
      seen : IsOrdered (view (entries_in k) y.txn.number)
      seen = subst IsOrdered h.same_view (run_ordered y.txn.ops (live (entries_in k)) ordered-live)

      same : view (entries_in k) y.txn.number ≡ view (entries_of after) y.txn.number
      same = rearranged (is_visible y.txn.number) (record_for y.txn.number) (entries_in k) (entries_of after) (λ e. refl) (members (is_visible y.txn.number) (seen-undead y.txn.number))
          (one_each (is_visible y.txn.number) (record_for y.txn.number) (entries_in k) (λ e. refl) (ordered_parts (view (entries_in k) y.txn.number) seen).1)

  -- nobody's lock is against a need
  unopposed_by_all : UnopposedByAll (locks_of k.sessions k.locks) (granule_needs short)
  unopposed_by_all lock need i j on = go (of_locks k.sessions k.locks lock i) (from_flat_map (λ (m : Need). on_granule m.name m.mode) need short j)
    where
      turned : (a b : Mode) → compatible a b ≡ compatible b a
      turned a b = grind arith

      same : (name : Name) (mode : Mode) → Among need (on_granule name mode) → (name ≡ OnGranule need.number) × (mode ≡ need.mode)
      same (OnGranule number) mode (inl e) = (ap (λ (g : GranuleNeed). OnGranule g.number) (sym e), ap (λ (g : GranuleNeed). g.mode) (sym e))
      same (OnGranule number) mode (inr none) = absurd none
      same (Object id) mode none = absurd none

      go : OfLock k.sessions k.locks lock → (m : Need) × Among m short × Among need (on_granule m.name m.mode) → compatible lock.mode need.mode ≡ true
      go o (m, l, at) = by (compatible lock.mode need.mode) refl
        where
          is : (m.name ≡ OnGranule need.number) × (m.mode ≡ need.mode)
          is = same m.name m.mode at

          named : o.row.name ≡ m.name
          named = ap (λ (z : Lock). z.name) o.same ∙ on ∙ sym is.0

          stands : In o.row (rows_on m.name k.locks)
          stands = subst (λ (x : Name). In o.row (rows_on x k.locks)) named (in-name o.row k.locks (among-in o.row k.locks o.stands))

          by : (b : Bool) → compatible lock.mode need.mode ≡ b → b ≡ true
          by true h = refl
          by false h = absurd (unopposed m l o.owner.txn.session
              (held-against o.owner.txn.session m.mode o.row (rows_on m.name k.locks) stands o.is.held o.is.by
              (turned m.mode o.row.mode ∙ ap (compatible o.row.mode) is.1 ∙ ap (λ (z : Lock). compatible z.mode need.mode) o.same ∙ h)))

  licensed : Licensed (granules k.tree) (granules after) (granule_needs short)
  licensed = removal_licensed (granules k.tree) (granules after) short needs

  guards : (t : ℕ) (rect : Rectangle) → Guarded (granules k.tree) (locks_of k.sessions k.locks) t rect → Guarded (granules after) (locks_of k.sessions k.locks) t rect
  guards t rect h = removal_keeps_guarded (granules k.tree) (granules after) (locks_of k.sessions k.locks) t (granule_needs short) rect licensed unopposed_by_all h

  same_standings : SameStandings (granules k.tree) (granules after)
  same_standings g g' e e' i j i' j' same =
      let x = standing_entry k.tree g e i j in
      let x' = standing_entry after g' e' i' j' in
      let alike : x'.0.number ≡ x.0.number = ap (λ (s : Standing). s.number) x'.2 ∙ same ∙ ap (λ (s : Standing). s.number) (sym x.2) in
      sym x'.2 ∙ ap standing (one_of_number k.tree sound.valid x'.0 x.0 (keeps.back x'.0 x'.1).0 x.1 alike) ∙ x.2

  still_has : (e : Entry) → Among e (entries_of after) → StillHas (granules after) e.number
  still_has e i = let s = entry_stands after e i in record { after = s.0; among = s.1; is_leaf = s.2; entry = standing e; stands = s.3; same = refl }

  owns : (t : ℕ) (e : Entry) → Among e (entries_of after) → is_marked t e ≡ true → Owned (granules after) (locks_of k.sessions k.locks) t (standing e)
  owns t e i m =
      removal_keeps_owned (granules k.tree) (granules after) (locks_of k.sessions k.locks) t (granule_needs short) (standing e) licensed same_standings unopposed_by_all (sound.owned t e (keeps.back e i).0 m) (still_has e i)

  part : (y : Session) (p : Part) → HoldsPart (granules k.tree) (locks_of k.sessions k.locks) y.txn.number p → HoldsPart (granules after) (locks_of k.sessions k.locks) y.txn.number p
  part y (Id id) h = h
  part y (Area rect) h = guards y.txn.number rect h

  fewer : length (entries_of after) ≤ length (entries_in k)
  fewer =
      let l = no_more (map (λ (e : Entry). e.number) (entries_of after)) (map (λ (e : Entry). e.number) (entries_in k)) keeps.valid.distinct_entries
      (λ m i. let r = from_map (λ (e : Entry). e.number) m (entries_of after) i in subst (λ q. Among q (map (λ (e : Entry). e.number) (entries_in k))) r.2 (among_map (λ (e : Entry). e.number) r.0 (entries_in k) (keeps.back r.0 r.1).0)) in
      let a = length-map (entries_of after) (λ (e : Entry). e.number) in
      let b = length-map (entries_in k) (λ (e : Entry). e.number) in
      omega (arith, l, a, b)

  numbered : after.next < 2 ^ 63 + 2 ^ 32
  numbered = go (nat_le first_unused k.tree.next) refl
    where
      go : (b : Bool) → nat_le first_unused k.tree.next ≡ b → after.next < 2 ^ 63 + 2 ^ 32
      go true h = small (nat_le after.next k.tree.next) refl
        where
          reached : first_unused ≤ k.tree.next
          reached = grind (arith, nat_tests)

          small : (b : Bool) → nat_le after.next k.tree.next ≡ b → after.next < 2 ^ 63 + 2 ^ 32
          small true l = let c = sound.counts.node_numbers in let d : after.next ≤ k.tree.next = grind (arith, nat_tests) in omega (arith, c, d)
          small false l = absurd (in_numbers reached (grind (arith, nat_tests)))
      go false h = let f = keeps.few in let d : k.tree.next < first_unused = grind (arith, nat_tests) in omega (arith, f, d)

  pub cleaned-sound : Bare (cleaned after rest k)
  cleaned-sound = record {
    valid = keeps.valid;
    ascending = keeps.ascending;
    entry_numbers = λ e i. sound.entry_numbers e (keeps.back e i).0;
    base = sound.base;
    serial = sound.serial;
    current = live-cleaned ∙ sound.current;
    locks = sound.locks;
    acyclic = sound.acyclic;
    rows = sound.rows;
    names = λ row number i on. let l = sound.names row number i on in let g = keeps.onward in omega (arith, l, g);
    sessions = sound.sessions;
    latch = sound.latch;
    stages = λ y i. stage_from k (cleaned after rest k) y y.stage (λ op left commit short at h. absurd (free y op left i at)) (rows-stay y.txn.session k.locks k.locks (λ row j w. j)) (λ op h. h) (sound.stages y i);
    in_space = sound.in_space;
    rectangles = sound.rectangles;
    parts = λ y i a pair j. part y (part_of pair.op) (sound.parts y i a pair j);
    objects = sound.objects;
    owned = owns;
    replays = λ y i a. replays-cleaned y (sound.replays y i a);
    active = λ t e i m. sound.active t e (keeps.back e i).0 m;
    numbers = λ t e later i. sound.numbers t e later (keeps.back e i).0;
    dead = dead-cleaned;
    queued = sound.queued;
    counts = record {
      transactions = sound.counts.transactions;
      endings = sound.counts.endings;
      operations = sound.counts.operations;
      history = sound.counts.history;
      replies = sound.counts.replies;
      entries = let l = sound.counts.entries in let f = fewer in omega (arith, l, f);
      node_numbers = numbered;
      entry_numbers = sound.counts.entry_numbers;
      txn_numbers = sound.counts.txn_numbers;
    };
  }
