-- A put that adds an entry keeps a kernel sound.
use Rattle.std.proofs.Common.{◌≡◌, ◌≢◌, ◌⊎◌, ℕ, ◌+◌, ◌<◌, ◌≤◌, ◌^◌, Bool, true, false, not, ◌&&◌, ◌||◌, List, [], ◌∷◌, ◌++◌, map, filter, length, Option, Some, None, nat_eq, nat_lt, refl, sym, ap, ap₂, ◌∙◌, subst, inl, inr, true≢false, arith}
use Rattle.std.specs.Prelude.{nat_le}
use Rattle.std.specs.Option.{MatchOption}
use Rattle.std.proofs.lemmas.Bool.Decides.{nat_tests}
use Rattle.sp_list.specs.Emptiness.{is_empty}
use Rattle.sp_rect.specs.Plane.{Rectangle, IsRectangle}
use Rattle.sp_rect.specs.Serial.{records_after, RepliesAsPlain}
use Rattle.sp_rect.specs.Store.{Part, Id, Area, part_of, within, reply_to, IsOrdered}
use Rattle.sp_rect.specs.declared.record.Record.{Record}
use Rattle.sp_rect.specs.declared.operation.Op.{Op}
use Rattle.sp_rect.specs.declared.operation.Op.TheVariants.{Put}
use Rattle.sp_rect.specs.declared.operation.Reply.{Reply}
use Rattle.sp_rect.specs.declared.operation.Answered.{Answered}
use Rattle.sp_locks.specs.declared.mode.Mode.{Mode}
use Rattle.sp_locks.specs.declared.mode.Mode.TheVariants.{IX, S, X}
use Rattle.sp_locks.specs.declared.row.Name.{Name}
use Rattle.sp_locks.specs.declared.row.Name.TheVariants.{Granule as OnGranule, Object}
use Rattle.sp_locks.specs.declared.row.Row.{Row}
use Rattle.sp_locks.specs.declared.row.Scope.TheVariants.{ShortLocks}
use Rattle.sp_locks.specs.declared.row.Duration.TheVariants.{Commit, Short}
use Rattle.sp_locks.specs.declared.needs.Need.{Need}
use Rattle.sp_locks.specs.Modes.{covers}
use Rattle.sp_locks.specs.Rows.{same_name, waiting_in}
use Rattle.sp_locks.specs.Table.{released, lock_for, given}
use Rattle.sp_locks.specs.Soundness.{IsSound}
use Rattle.sp_locks.proofs.Giving.{free-in_turn}
use Rattle.sp_locks.proofs.Keeping.{release-sound, gifts-sound}
use Rattle.sp_locks.proofs.Names.{same_is}
use Rattle.sp_waits.specs.Edges.{NoCycle}
use Rattle.sp_waits.proofs.Acyclic.{release_short-acyclic}
use Rattle.sp_waits.proofs.Granting.{gifts-acyclic}
use Rattle.sp_node.specs.declared.node.Entry.{Entry}
use Rattle.sp_node.specs.Among.{Among}
use Rattle.sp_node.specs.Index.{leaf_with}
use Rattle.sp_node.specs.Marks.{is_marked, is_made_by, is_ended_by, is_draft_of, is_done}
use Rattle.sp_node.specs.Standing.{HasNoEntry, IsLeafOf}
use Rattle.sp_node.specs.Table.{Table, IsValid, places_of, entries_of}
use Rattle.sp_node.proofs.Among.{among_left, among_right, among_split, among_flat_map}
use Rattle.sp_node.proofs.Single.{own}
use Rattle.sp_node.proofs.Standing.{own_all, leaf_stands}
use Rattle.sp_grow.specs.Chosen.{ReachesOf}
use Rattle.sp_grow.specs.Grown.{IsGrown}
use Rattle.sp_grow.proofs.After.{among_from_contains}
use Rattle.sp_granule.specs.Granules.{Granule, Standing, standing, granules}
use Rattle.sp_txn.specs.Visible.{is_live, is_visible, record_of, record_for, live, view}
use Rattle.sp_protection.specs.Holding.{Lock, HoldsMode}
use Rattle.sp_protection.specs.Guarding.{MarksOwned}
use Rattle.sp_protection.specs.Effects.{marked_by, fresh, entered, applied}
use Rattle.sp_protection.specs.Insertion.{IsMarkedEntry, KeepsAll}
use Rattle.sp_protection.specs.Asking.{IsAsked, AreAskedOrHeld, HoldsEach}
use Rattle.sp_protection.specs.Needs.{PutWant, ShortWant, AreNeedsOf}
use Rattle.sp_protection.specs.Replays.{Replays, HoldsPart, LeavesMarks, SameMembers}
use Rattle.sp_protection.specs.Reshape.{HasNumber}
use Rattle.sp_protection.proofs.Applying.{applied-live, apply_replays, other_replays}
use Rattle.sp_protection.proofs.Insertions.{holds-more}
use Rattle.sp_protection.proofs.Leaves.{among_map, from_map}
use Rattle.sp_protection.proofs.Marking.{insertion_keeps_marks_owned}
use Rattle.sp_protection.proofs.Places.{granule_below_next}
use Rattle.sp_protection.proofs.Rearranging.{rearranged, ordered_parts, run_ordered, one_each}
use Rattle.sp_protection.proofs.Wanted.{holds_weaker, held_wanted}
use Rattle.sp_lawful.specs.Put.{IsPutInto, HoldsPutNeeds, AreGiven}
use Rattle.sp_lawful.proofs.Putting.{put_keeps_all, put_still_guards}
use Rattle.sp_model.specs.declared.session.Session.{Session}
use Rattle.sp_model.specs.declared.session.Stage.{Stage}
use Rattle.sp_model.specs.declared.session.Stage.TheVariants.{Planned}
use Rattle.sp_model.specs.State.{Kernel, entries_in, is_active_stage, is_active, area_of, with_change, locks_of}
use Rattle.sp_model.specs.Refusals.{under_way, first_unused}
use Rattle.sp_model.specs.Moves.{inserted}
use Rattle.sp_model.specs.Plans.{is_adding, Inserts, HasNeeds, Stays, Adds, GiftWant, AreGiftsOf, is_covered}
use Rattle.sp_model.specs.Stepped.{records_in, kept_records, most_records_told, reply_of, PassesEntries, PassesNumbers, most_entries}
use Rattle.sp_model.specs.Soundness.{MayHave, RowsOwned, HasOwner, NamesUsed, SharesLatch, HoldsStage, NumbersUsed, DeadListed, is_met, is_queued}
use Rattle.sp_model.proofs.Bare.{Bare}
use Rattle.sp_model.proofs.Sessions.{number-same, number-differ, among-kept, of_kept}
use Rattle.sp_model.proofs.Holding.{any-among, first_of_both, second_of_both, StayHeld, HoldsStill, of_met, given-stays, met-held, released-others, released-short, locks-still, row-mode, of_locks, parts-still, part-still, marks_owned-still}
use Rattle.sp_model.proofs.Released.{released-owned, released-names, released-awaits_object}
use Rattle.sp_model.proofs.Requesting.{met-then}
use Rattle.sp_model.proofs.Awake.{released-long}
use Rattle.sp_model.proofs.Planned.{stage_from}
use Rattle.sp_model.proofs.Restaging.{there-changed}
use Rattle.sp_model.proofs.Staging.{told}
use Rattle.sp_model.proofs.Endings.{numbers-other, run_all}
use Rattle.sp_model.proofs.Finishing.{planned-awake}
use Rattle.sp_model.proofs.Growing.{grown_granules, grown_numbers, grown_next, few_levels, entered_only, entered_new, entered_old, entered_members, entered_length}
use Rattle.sp_model.proofs.Giving.{all_locks, met_mode, among_all_locks, all_compatible, OnNew, gift_new, gifts_free, gift_locks, gifts_new, of_given, given-awaits_object}
use Rattle.sp_model.proofs.Operating.{done_with, done-keeps, kept-idle, with_done, FitsDone, done_with-sound}
use Rattle.sp_model.proofs.Ready.{part_held, owned_done, ready, ready_space, ready_object, ready_commit}

-- what a put needs, in the tree that its insertion leaves
record PutNeeds (k : Kernel) (x : Session) (r : Record) (after : Table) (commit short : List Need) : Type 0 where
  chosen : ℕ
  reaches : ReachesOf k.tree r.rect chosen
  are_commit : AreNeedsOf (PutWant (granules k.tree) (granules after) x.txn.searches) Commit commit
  are_short : AreNeedsOf (ShortWant (granules k.tree) (granules after) (Some chosen)) Short short

put_needs : (k : Kernel) (x : Session) (r : Record) (after : Table) (chosen : ℕ) (commit short : List Need) → IsValid k.tree → is_adding k x (Put r) ≡ true → Inserts k x r after chosen → HasNeeds k x (Put r) commit short → PutNeeds k x r after commit short
put_needs k x r after chosen _ _ valid adding inserts (Stays _ commit none needs) = absurd (true≢false (sym adding ∙ none))
put_needs k x r after chosen _ _ valid adding inserts (Adds _ planned leaf commit short some other wanted wanted_short) =
    let same : granules planned ≡ granules after = grown_granules k.tree (fresh x.txn.number k.next_entry r) planned after valid.shape other.inserted.grown inserts.inserted.grown in
    record {
      chosen = leaf;
      reaches = other.reaches;
      are_commit = subst (λ (gs : List Granule). AreNeedsOf (PutWant (granules k.tree) gs x.txn.searches) Commit commit) same wanted;
      are_short = subst (λ (gs : List Granule). AreNeedsOf (ShortWant (granules k.tree) gs (Some leaf)) Short short) same wanted_short;
    }

-- a put marks no entry that stands there
put_same : (t : ℕ) (r : Record) (es : List Entry) → map (marked_by t (Put r)) es ≡ es
put_same t r [] = refl
put_same t r (e ∷ es) = ap (λ (zs : List Entry). e ∷ zs) (put_same t r es)

-- a number that no entry has is in no leaf
unheld : (t : Table) (q : ℕ) → IsValid t → ((e : Entry) → Among e (entries_of t) → e.number ≢ q) → leaf_with t.nodes q ≡ None
unheld t q valid none = go (leaf_with t.nodes q) (leaf_stands t valid q)
  where
    go : (o : Option ℕ) → MatchOption o (HasNoEntry t q) (IsLeafOf t q) → o ≡ None
    go None h = refl
    go (Some leaf) h = absurd (none h.entry (subst (Among h.entry) (own_all t valid) (among_flat_map own h.entry h.place (places_of t) h.among h.has)) h.is)

module _ (k : Kernel) (x : Session) (r : Record) (after : Table) (chosen : ℕ) (gifts : List Need) (sound : Bare k) (here : Among x k.sessions) (at : x.stage ≡ Planned (Put r) []) (adding : is_adding k x (Put r) ≡ true)
    (few : PassesEntries k → ⊥) (inserts : Inserts k x r after chosen) (in_numbers : PassesNumbers k after → ⊥) (gifts_are : AreGiftsOf k x after gifts) where
  abbrev s : ℕ
  s = x.txn.session

  abbrev t : ℕ
  t = x.txn.number

  abbrev e : Entry
  e = fresh t k.next_entry r

  abbrev es : List Entry
  es = entries_in k

  abbrev locks : List Lock
  locks = locks_of k.sessions k.locks

  abbrev all : List Lock
  all = all_locks k.sessions k.locks

  abbrev gs : List Granule
  gs = granules k.tree

  abbrev gs' : List Granule
  gs' = granules after

  abbrev handed : List Lock
  handed = gift_locks t gifts

  abbrev reply : Reply
  reply = reply_of k x (Put r)

  abbrev with_gifts : List Row
  with_gifts = k.locks ++ given s gifts

  abbrev rows : List Row
  rows = released ShortLocks s with_gifts

  abbrev xs : List Session
  xs = with_change s (done_with (Put r) reply) k.sessions

  abbrev k' : Kernel
  k' = with_done x (Put r) reply after (k.next_entry + 1) rows k

  grown : IsGrown k.tree e after
  grown = inserts.inserted.grown

  active : is_active x ≡ true
  active = told (λ (z : Stage). is_active_stage z ≡ true) x at refl

  -- the entries
  unused : (f : Entry) → Among f es → f.number ≢ k.next_entry
  unused f i same = low f.number k.next_entry (sound.entry_numbers f i) same
    where
      low : (m n : ℕ) → m < n → m ≡ n → ⊥
      low m n a b = omega arith

  only : (f : Entry) → Among f (entries_of after) → (f ≡ e) ⊎ Among f es
  only = entered_only k.tree e after sound.valid inserts.inserted unused

  new_in : Among e (entries_of after)
  new_in = entered_new k.tree e after sound.valid inserts.inserted unused

  old_in : (f : Entry) → Among f es → Among f (entries_of after)
  old_in = entered_old k.tree e after sound.valid inserts.inserted unused

  nothing_found : within (Id r.id) (view es t) ≡ []
  nothing_found = go (within (Id r.id) (view es t)) adding
    where
      go : (rs : List Record) → is_empty rs ≡ true → rs ≡ []
      go [] h = refl
      go (y ∷ ys) h = absurd (true≢false (sym h))

  as_applied : applied t k.next_entry (Put r) es ≡ e ∷ es
  as_applied = ap₂ (λ (a b : List Entry). a ++ b) (ap (entered t k.next_entry (Put r)) nothing_found) (put_same t r es)

  members : (test : Entry → Bool) → SameMembers test (e ∷ es) (entries_of after)
  members = entered_members k.tree e after sound.valid inserts.inserted unused

  -- what is live and what each transaction sees is what the operation leaves
  current : live (e ∷ es) ≡ live es
  current = ap live (sym as_applied) ∙ applied-live t k.next_entry (Put r) es

  ordered : IsOrdered (live (e ∷ es))
  ordered = subst IsOrdered (sym (current ∙ sound.current)) (run_all k.base k.commits sound.base)

  live_after : live (entries_of after) ≡ live (e ∷ es)
  live_after = sym (rearranged is_live record_of (e ∷ es) (entries_of after) (λ z. refl) (members is_live) (one_each is_live record_of (e ∷ es) (λ z. refl) (ordered_parts (live (e ∷ es)) ordered).1))

  replays_after : (u : ℕ) (pairs : List Answered) → Replays (e ∷ es) u pairs → Replays (entries_of after) u pairs
  replays_after u pairs h = record {
    same_replies = subst (λ rs. RepliesAsPlain rs pairs) (sym live_after) h.same_replies;
    same_view = ap (λ rs. records_after rs pairs) live_after ∙ h.same_view ∙ same;
  }
    where
      seen : IsOrdered (view (e ∷ es) u)
      seen = subst IsOrdered h.same_view (run_ordered pairs (live (e ∷ es)) ordered)

      same : view (e ∷ es) u ≡ view (entries_of after) u
      same = rearranged (is_visible u) (record_for u) (e ∷ es) (entries_of after) (λ z. refl) (members (is_visible u)) (one_each (is_visible u) (record_for u) (e ∷ es) (λ z. refl) (ordered_parts (view (e ∷ es) u) seen).1)

  leaves_marks : (u : ℕ) → LeavesMarks t u (Put r) es
  leaves_marks u f i c = absurd (true≢false (sym c))

  -- the needs: those that are asked for the moment are those that no commit need covers
  abbrev commit : List Need
  commit = (ready k x (Put r) sound here at).1.commit

  abbrev short : List Need
  short = (ready k x (Put r) sound here at).1.short

  abbrev asked : List Need
  asked = filter (λ need. not (is_covered commit need)) short

  needs : PutNeeds k x r after commit short
  needs = put_needs k x r after chosen commit short sound.valid adding inserts (ready k x (Put r) sound here at).1.needs

  put : IsPutInto k.tree after e needs.chosen
  put = record {
    valid = sound.valid;
    valid_after = inserts.inserted.valid;
    same_entries = λ f g i j n. inserts.inserted.same f g (among_from_contains es f i) (among_from_contains (entries_of after) g j) n;
    grown = grown;
    new = unheld k.tree k.next_entry sound.valid unused;
    reaches = needs.reaches;
  }

  among_all : (lock : Lock) → Among lock locks → Among lock all
  among_all lock i = let o = of_locks k.sessions k.locks lock i in subst (λ (l : Lock). Among l all) o.same (among_all_locks k.sessions k.locks o.owner o.row o.among o.stands o.is.held o.is.by)

  asked_short : AreAskedOrHeld locks t short asked
  asked_short need i = go (is_covered commit need) refl
    where
      itself : (m : Mode) → covers m m ≡ true
      itself m = grind arith

      go : (b : Bool) → is_covered commit need ≡ b
          → IsAsked asked need.name need.mode ⊎ HoldsMode locks t need.name need.mode
      go false c = inl (record { need = need; among = among-kept (λ n. not (is_covered commit n)) need short i (ap not c); on_name = refl; enough = itself need.mode })
      go true c =
          let o = any-among (λ other. same_name other.name need.name && covers other.mode need.mode) commit c in
          let named : o.0.name ≡ need.name = same_is o.0.name need.name (first_of_both (same_name o.0.name need.name) (covers o.0.mode need.mode) o.2) in
          inr (subst (λ (n : Name). HoldsMode locks t n need.mode) named
          (holds_weaker locks t o.0.name o.0.mode need.mode (ready_commit k x (Put r) sound here at o.0 o.1) (second_of_both (same_name o.0.name need.name) (covers o.0.mode need.mode) o.2)))

  holds_asked : HoldsEach all t asked
  holds_asked need i =
      let m = of_kept (λ n. not (is_covered commit n)) need short i in
      met_mode k.sessions k.locks x need.name need.mode here (of_met k.locks s need (held ((ready k x (Put r) sound here at).1.short_met need m.0 (uncovered (is_covered commit need) m.1))))
    where
      uncovered : (b : Bool) → not b ≡ true → b ≡ false
      uncovered b h = grind arith

      held : (is_met k.locks s need ≡ true) ⊎ Among need [] → is_met k.locks s need ≡ true
      held (inl h) = h
      held (inr n) = absurd n

  holds_needs : HoldsPutNeeds k.tree after needs.chosen x.txn.searches locks all t commit short asked
  holds_needs = record {
    are_commit = needs.are_commit;
    are_short = needs.are_short;
    holds_commit = ready_commit k x (Put r) sound here at;
    asked_short = asked_short;
    holds_asked = holds_asked;
    compatible = all_compatible k.next_txn (length k.commits) k.sessions k.locks sound.sessions sound.locks;
    among_all = among_all;
  }

  -- the gifts
  on_new : (need : Need) → Among need gifts → OnNew gs' k.tree.next need.name
  on_new = gift_new gs gs' (entries_of after) t k.tree.next x.txn.searches gifts gifts_are (grown_numbers k.tree e after sound.valid.shape grown)

  holds_gifts : HoldsEach (locks ++ handed) t gifts
  holds_gifts need i = record {
    lock = record { txn = t; name = need.name; mode = need.mode };
    held = among_right (record { txn = t; name = need.name; mode = need.mode }) locks handed (among_map (λ (n : Need). record { txn = t; name = n.name; mode = n.mode }) need gifts i);
    by_txn = refl;
    on_name = refl;
    enough = itself need.mode;
  }
    where
      itself : (m : Mode) → covers m m ≡ true
      itself m = grind arith

  wanted_gift : (name : Name) (mode : Mode) → GiftWant gs gs' (entries_of after) t x.txn.searches name mode → HoldsMode (locks ++ handed) t name mode
  wanted_gift = held_wanted (GiftWant gs gs' (entries_of after) t x.txn.searches) Commit gifts (locks ++ handed) t gifts_are holds_gifts

  given_all : AreGiven k.tree after e x.txn.searches es locks handed t
  given_all = record {
    below = λ lock number i named. let o = of_locks k.sessions k.locks lock i in sound.names o.row number o.stands (ap (λ (l : Lock). l.name) o.same ∙ named);
    on_new = gifts_new gs' t k.tree.next gifts on_new;
    given = record {
      intent = λ g y j leaf new i how. intent g y j leaf new i how;
      searched = λ g rect j new i meets. wanted_gift (OnGranule g.number) S (GiftWant.OwnSearch rect g i j meets new);
    };
    object = ready_object k x (Put r) sound here at (Object r.id) X refl;
  }
    where
      mine : is_marked t e ≡ true
      mine = own_mark t t refl
        where
          own_mark : (a b : ℕ) → a ≡ b → ((nat_eq a b || false || false) && not false) ≡ true
          own_mark a b h = grind (arith, nat_tests)

      intent : (g : Granule) (y : Standing) → Among g gs' → g.is_leaf ≡ true → (HasNumber gs g.number → ⊥) → Among y g.entries → IsMarkedEntry es t y ⊎ (y ≡ standing e) → HoldsMode (locks ++ handed) t (OnGranule g.number) IX
      intent g y j leaf new i (inl m) = wanted_gift (OnGranule g.number) IX (GiftWant.OwnLeaf m.0 g (old_in m.0 m.1) m.2 j (leaf, subst (λ (z : Standing). Among z g.entries) (sym m.3) i) new)
      intent g y j leaf new i (inr same) = wanted_gift (OnGranule g.number) IX (GiftWant.OwnLeaf e g new_in mine j (leaf, subst (λ (z : Standing). Among z g.entries) same i) new)

  keeps : KeepsAll es gs gs' locks (locks ++ handed) t (standing e)
  keeps = put_keeps_all k.tree after e needs.chosen t x.txn.searches es locks all handed commit short
      asked put holds_needs given_all

  -- the rows
  quiet : waiting_in s k.locks ≡ None
  quiet = planned-awake k x (Put r) [] sound here at

  gifted : IsSound with_gifts × ((u : ℕ) → waiting_in u with_gifts ≡ waiting_in u k.locks)
  gifted = gifts-sound s gifts k.locks (free-in_turn s k.locks gifts (gifts_free gs gs' (entries_of after) t k.tree.next x.txn.searches gifts gifts_are (grown_numbers k.tree e after sound.valid.shape grown) k.locks sound.names)) sound.locks

  quiet_after : waiting_in s with_gifts ≡ None
  quiet_after = gifted.1 s ∙ quiet

  acyclic : NoCycle with_gifts
  acyclic = gifts-acyclic k.locks s gifts (gifts_free gs gs' (entries_of after) t k.tree.next x.txn.searches gifts gifts_are (grown_numbers k.tree e after sound.valid.shape grown) k.locks sound.names) quiet sound.locks sound.acyclic

  owners : RowsOwned k.sessions with_gifts
  owners row i = go (of_given s k.locks gifts row i)
    where
      go : Among row k.locks ⊎ ((need : Need) × Among need gifts × (lock_for s need ≡ row)) → HasOwner k.sessions row
      go (inl j) = sound.rows row j
      go (inr n) = record {
        owner = x;
        among = here;
        is_owner = ap (λ (q : Row). q.session) n.2;
        may = subst (λ (z : Stage). MayHave z row) (sym at) (ap (λ (q : Row). q.waiting) (sym n.2));
      }

  onward : k.tree.next ≤ after.next
  onward = (grown_next k.tree e after grown).0

  names : NamesUsed after.next with_gifts
  names row number i named = go (of_given s k.locks gifts row i)
    where
      number_of : {m n : ℕ} → OnGranule m ≡ OnGranule n → m ≡ n
      number_of h = cc

      go : Among row k.locks ⊎ ((need : Need) × Among need gifts × (lock_for s need ≡ row)) → number < after.next
      go (inl j) = let l = sound.names row number j named in let o = onward in omega (arith, l, o)
      go (inr n) =
          let w = on_new n.0 n.1 in
          let same : w.granule.number ≡ number = number_of (sym w.named ∙ ap (λ (q : Row). q.name) n.2 ∙ named) in
          subst (λ (m : ℕ). m < after.next) same (granule_below_next after w.granule inserts.inserted.valid w.among)

  held_release : (u : ℕ) → StayHeld u with_gifts rows
  held_release u = go (nat_eq u s) refl
    where
      go : (b : Bool) → nat_eq u s ≡ b → StayHeld u with_gifts rows
      go true h = subst (λ (n : ℕ). StayHeld n with_gifts rows) (sym (number-same u s h)) (released-short s with_gifts)
      go false h = met-held u with_gifts rows (released-others ShortLocks s u with_gifts (number-differ u s h))

  held : (u : ℕ) → StayHeld u k.locks rows
  held u row i l = held_release u row (among_left row k.locks (given s gifts) i) l

  -- what is held with the gifts is held afterwards
  still : (u : ℕ) → HoldsStill (locks ++ handed) (locks_of xs rows) u
  still u name mode h = go (among_split h.lock locks handed h.held)
    where
      gift : (need : Need) → Among need gifts → HoldsMode (locks_of k.sessions with_gifts) t need.name need.mode
      gift need i = row-mode k.sessions with_gifts x need.name need.mode here (record {
        row = lock_for s need;
        stands = among_right (lock_for s need) k.locks (given s gifts) (among_map (lock_for s) need gifts i);
        lock = record { held = refl; by = refl; lasts = refl };
        on = refl;
        enough = itself need.mode;
      })
        where
          itself : (m : Mode) → covers m m ≡ true
          itself m = grind arith

      on_with : (v : ℕ) → HoldsStill (locks_of k.sessions with_gifts) (locks_of xs rows) v
      on_with v = locks-still k.sessions xs with_gifts rows v (there-changed s (done_with (Put r) reply) (done-keeps (Put r) reply) k.sessions v) (λ y i same. held_release y.txn.session)

      on_old : (v : ℕ) → HoldsStill locks (locks_of xs rows) v
      on_old v = locks-still k.sessions xs k.locks rows v (there-changed s (done_with (Put r) reply) (done-keeps (Put r) reply) k.sessions v) (λ y i same. held y.txn.session)

      go : Among h.lock locks ⊎ Among h.lock handed → HoldsMode (locks_of xs rows) u name mode
      go (inl i) = on_old u name mode (record { lock = h.lock; held = i; by_txn = h.by_txn; on_name = h.on_name; enough = h.enough })
      go (inr i) =
          let n = from_map (λ (need : Need). record { txn = t; name = need.name; mode = need.mode }) h.lock gifts i in
          let who : t ≡ u = ap (λ (l : Lock). l.txn) n.2 ∙ h.by_txn in
          let what : n.0.name ≡ name = ap (λ (l : Lock). l.name) n.2 ∙ h.on_name in
          subst (λ (v : ℕ). HoldsMode (locks_of xs rows) v name mode) who
          (subst (λ (m : Name). HoldsMode (locks_of xs rows) t m mode) what
          (on_with t n.0.name mode (holds_weaker (locks_of k.sessions with_gifts) t n.0.name n.0.mode mode (gift n.0 n.1) (subst (λ (l : Lock). covers l.mode mode ≡ true) (sym n.2) h.enough))))

  -- nobody else has planned
  alone : (y : Session) (op : Op) (left : List Need) → Among y k.sessions → y.txn.session ≢ s → y.stage ≡ Planned op left → ⊥
  alone y op left i other planned =
      let shares : SharesLatch (Planned (Put r) []) (Planned op left) =
      subst (λ (z : Stage). SharesLatch z (Planned op left)) at (subst (λ (z : Stage). SharesLatch x.stage z) planned (sound.latch x y here i (λ h. other (sym h)))) in
      true≢false (sym shares.0)

  stages : (y : Session) → Among y k.sessions → y.txn.session ≢ s → HoldsStage k' y y.stage
  stages y i other = stage_from k k' y y.stage (λ op left commit short planned h. absurd (alone y op left i other planned))
      (met-then y.txn.session k.locks with_gifts rows (given-stays s y.txn.session gifts k.locks) (released-others ShortLocks s y.txn.session with_gifts other))
      (λ op h. released-awaits_object ShortLocks s y.txn.session with_gifts op other (given-awaits_object s y.txn.session k.locks gifts op h)) (sound.stages y i)

  -- what each looked at
  part_after : (u : ℕ) → u ≢ t → (p : Part) → HoldsPart gs locks u p → HoldsPart gs' (locks ++ handed) u p
  part_after u other (Id id) h = holds-more locks handed u (Object id) S h
  part_after u other (Area rect) h = keeps.guarded u rect other h

  own_part : (p : Part) → ((rect : Rectangle) → p ≡ Area rect → Among rect x.txn.searches × IsRectangle rect) → HoldsPart gs locks t p → HoldsPart gs' (locks ++ handed) t p
  own_part (Id id) looked h = holds-more locks handed t (Object id) S h
  own_part (Area rect) looked h = let l = looked rect refl in
      put_still_guards k.tree after e needs.chosen t x.txn.searches es locks all handed commit short
      asked rect holds_needs given_all l.0 l.1 h

  looked : (pair : Answered) → Among pair x.txn.ops → (rect : Rectangle) → part_of pair.op ≡ Area rect → Among rect x.txn.searches × IsRectangle rect
  looked pair i rect is = (
    subst (Among rect) (sym (sound.sessions.searches x here)) (among_flat_map (λ (p : Answered). area_of (part_of p.op)) rect pair x.txn.ops i (subst (λ (p : Part). Among rect (area_of p)) (sym is) (inl refl))),
    sound.rectangles x here active pair rect i is,
  )

  owned : MarksOwned gs' (locks ++ handed) (entries_of after)
  owned u f i m = insertion_keeps_marks_owned gs gs' locks (locks ++ handed) t k.next_entry r es keeps sound.owned u f (subst (Among f) (sym as_applied) (back (only f i))) m
    where
      back : (f ≡ e) ⊎ Among f es → Among f (e ∷ es)
      back (inl same) = inl same
      back (inr j) = inr j

  dead : DeadListed k.dead (entries_of after)
  dead = record {
    once = sound.dead.once;
    there = λ f i d. there f d (only f i);
    back = λ n i. let b = sound.dead.back n i in (b.0, old_in b.0 b.1, b.2, b.3);
  }
    where
      there : (f : Entry) → is_done f.marks.ended ≡ true → (f ≡ e) ⊎ Among f es → Among f.number k.dead
      there f d (inl same) = absurd (true≢false (sym d ∙ ap (λ (z : Entry). is_done z.marks.ended) same))
      there f d (inr i) = sound.dead.there f i d

  numbers : NumbersUsed k.next_txn (entries_of after)
  numbers u f later i = go (only f i)
    where
      apart : (a u next : ℕ) → a < next → next ≤ u → nat_eq a u ≡ false
      apart a u next h l = grind (arith, nat_tests)

      go : (f ≡ e) ⊎ Among f es → (is_made_by u f.marks.made ≡ false) × (is_ended_by u f.marks.ended ≡ false) × (is_draft_of u f.marks.draft ≡ false)
      go (inl same) = subst (λ (z : Entry). (is_made_by u z.marks.made ≡ false) × (is_ended_by u z.marks.ended ≡ false) × (is_draft_of u z.marks.draft ≡ false)) (sym same) (apart t u k.next_txn (sound.sessions.used x here) later, refl, refl)
      go (inr j) = sound.numbers u f later j

  marks : (u : ℕ) (f : Entry) → Among f (entries_of after) → is_marked u f ≡ true → (u ≡ t) ⊎ ((o : Entry) × Among o es × (is_marked u o ≡ true))
  marks u f i m = go (only f i)
    where
      mine : (a b : ℕ) → ((nat_eq a b || false || false) && not false) ≡ true → b ≡ a
      mine a b h = grind (arith, nat_tests)

      go : (f ≡ e) ⊎ Among f es → (u ≡ t) ⊎ ((o : Entry) × Among o es × (is_marked u o ≡ true))
      go (inl same) = inl (mine t u (subst (λ (z : Entry). is_marked u z ≡ true) same m))
      go (inr j) = inr (f, j, m)

  entry_numbers : (f : Entry) → Among f (entries_of after) → f.number < k.next_entry + 1
  entry_numbers f i = go (only f i)
    where
      self : (n : ℕ) → n < n + 1
      self n = omega arith

      go : (f ≡ e) ⊎ Among f es → f.number < k.next_entry + 1
      go (inl same) = subst (λ (z : Entry). z.number < k.next_entry + 1) (sym same) (self k.next_entry)
      go (inr j) = let l = sound.entry_numbers f j in omega (arith, l)

  -- the counts
  one_more : length (entries_of after) ≡ length es + 1
  one_more = entered_length k.tree e after sound.valid inserts.inserted unused

  entries : length (entries_of after) ≤ most_entries
  entries = go (nat_le most_entries (length es)) refl
    where
      go : (b : Bool) → nat_le most_entries (length es) ≡ b → length (entries_of after) ≤ most_entries
      go true h = absurd (few (at_least most_entries (length es) h))
        where
          at_least : (a b : ℕ) → nat_le a b ≡ true → a ≤ b
          at_least a b h = grind (arith, nat_tests)
      go false h = let l : length es < most_entries = grind (arith, nat_tests) in let m = one_more in omega (arith, l, m)

  next_few : k.next_entry + 1 ≤ first_unused
  next_few = go (nat_le first_unused k.next_entry) refl
    where
      go : (b : Bool) → nat_le first_unused k.next_entry ≡ b → k.next_entry + 1 ≤ first_unused
      go true h = absurd (in_numbers (inl (grind (arith, nat_tests))))
      go false h = let l : k.next_entry < first_unused = grind (arith, nat_tests) in omega (arith, l)

  node_numbers : after.next < 2 ^ 63 + 2 ^ 32
  node_numbers = go (nat_le first_unused k.tree.next) refl
    where
      go : (b : Bool) → nat_le first_unused k.tree.next ≡ b → after.next < 2 ^ 63 + 2 ^ 32
      go true h = small (nat_lt k.tree.next after.next) refl
        where
          small : (b : Bool) → nat_lt k.tree.next after.next ≡ b → after.next < 2 ^ 63 + 2 ^ 32
          small true l = absurd (in_numbers (inr (grind (arith, nat_tests), grind (arith, nat_tests))))
          small false l = let c = sound.counts.node_numbers in let d : after.next ≤ k.tree.next = grind (arith, nat_tests) in omega (arith, c, d)
      go false h =
          let l : k.tree.next < first_unused = grind (arith, nat_tests) in
          let n = (grown_next k.tree e after grown).1 in
          let v = few_levels k.tree sound.valid in
          let c = sound.counts.entries in
          omega (arith, l, n, v, c)

  replies : kept_records k + records_in reply ≤ most_records_told
  replies = subst (λ (rs : List Record). kept_records k + records_in (reply_to (Put r) rs) ≤ most_records_told) (sym nothing_found) (let c = sound.counts.replies in omega (arith, c))

  fits : FitsDone k x (Put r) reply after (k.next_entry + 1) rows
  fits = record {
    here = here;
    active = active;
    unqueued = told (λ (z : Stage). is_queued z ≡ false) x at refl;
    one = told (λ (z : Stage). under_way z ≡ 1) x at refl;
    in_space = ready_space k x (Put r) sound here at;
    valid = inserts.inserted.valid;
    ascending = inserts.inserted.ascending;
    entry_numbers = entry_numbers;
    current = live_after ∙ current ∙ sound.current;
    locks = release-sound ShortLocks s with_gifts gifted.0;
    acyclic = release_short-acyclic with_gifts s gifted.0 quiet_after acyclic;
    owned_rows = owned_done x (Put r) reply k.sessions rows (released-owned ShortLocks s k.sessions with_gifts owners) (λ row i h. released-long s with_gifts quiet_after row i h);
    names = released-names ShortLocks s after.next with_gifts names;
    held = held;
    stages = stages;
    parts = λ y i other a. parts-still gs' (locks ++ handed) (locks_of xs rows) y.txn.number y.txn.ops (still y.txn.number) (λ pair j. part_after y.txn.number (numbers-other k x y sound here i other) (part_of pair.op) (sound.parts y i a pair j));
    own_parts = parts-still gs' (locks ++ handed) (locks_of xs rows) t x.txn.ops (still t) (λ pair j. own_part (part_of pair.op) (looked pair j) (sound.parts x here active pair j));
    part = part-still gs' (locks ++ handed) (locks_of xs rows) t (Id r.id) (still t) (holds-more locks handed t (Object r.id) S (part_held gs locks t (Put r) (ready_object k x (Put r) sound here at) (λ rect h. absurd (not_area h))));
    object = (ready k x (Put r) sound here at).0;
    owned = marks_owned-still gs' (locks ++ handed) (locks_of xs rows) (entries_of after) still owned;
    replays = λ y i other a. replays_after y.txn.number y.txn.ops (subst (λ (zs : List Entry). Replays zs y.txn.number y.txn.ops) as_applied
        (other_replays t y.txn.number k.next_entry (Put r) es y.txn.ops (numbers-other k x y sound here i other) (leaves_marks y.txn.number) (sound.replays y i a)));
    own_replays = replays_after t (x.txn.ops ++ record { op = Put r; reply = reply } ∷ []) (subst (λ (zs : List Entry). Replays zs t (x.txn.ops ++ record { op = Put r; reply = reply } ∷ [])) as_applied
        (apply_replays t k.next_entry (Put r) es x.txn.ops (sound.replays x here active)));
    marks = marks;
    numbers = numbers;
    dead = dead;
    replies = replies;
    entries = entries;
    node_numbers = node_numbers;
    next_few = next_few;
  }
    where
      not_area : {rect : Rectangle} → Id r.id ≡ Area rect → ⊥
      not_area h = cc

  pub inserted-sound : Bare (inserted x (Put r) after gifts k)
  inserted-sound = subst (λ (zs : List Session). Bare (record (with_done x (Put r) reply after (k.next_entry + 1) rows k) { sessions = zs })) (sym (kept-idle s (Put r) reply k.sessions)) (done_with-sound k x (Put r) reply after (k.next_entry + 1) rows sound fits)
