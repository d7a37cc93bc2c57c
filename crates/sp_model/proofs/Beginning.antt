-- A begin keeps a kernel sound.
use Rattle.std.proofs.Common.{◌≡◌, ◌≢◌, ◌⊎◌, ℕ, ◌+◌, ◌<◌, ◌≤◌, Bool, true, false, not, cond, ◌&&◌, ◌||◌, List, [], ◌∷◌, ◌++◌, map, filter, None, length, nat_eq, refl, sym, ap, ◌∙◌, subst, inl, inr, true≢false, arith}
use Rattle.std.specs.Prelude.{nat_lt}
use Rattle.std.specs.List.{AllByRecursion, IsDistinct, sum_by}
use Rattle.std.proofs.lemmas.Bool.Decides.{nat_tests}
use Rattle.std.proofs.lemmas.Map.Keys.{IsDistinct-head, IsDistinct-tail, IsDistinct-cons}
use Rattle.sp_rect.specs.declared.operation.Answered.{Answered}
use Rattle.sp_node.specs.declared.marks.Draft.{Draft}
use Rattle.sp_node.specs.declared.marks.Draft.TheVariants.{None as NoDraft, Of}
use Rattle.sp_node.specs.declared.node.Entry.{Entry}
use Rattle.sp_node.specs.Among.{Among}
use Rattle.sp_node.specs.Marks.{is_committed, is_made_by, is_ended_by, is_done, is_draft_of, drafted}
use Rattle.sp_granule.specs.Granules.{granules}
use Rattle.sp_txn.specs.Visible.{is_live, is_visible, record_of, record_for, sorted, live, view}
use Rattle.sp_protection.specs.Replays.{Replays, HoldsParts, HasRectangles}
use Rattle.sp_protection.proofs.Applying.{show_alike}
use Rattle.sp_event.specs.declared.event.Event.TheVariants.{Begin}
use Rattle.sp_model.specs.declared.session.Session.{Session}
use Rattle.sp_model.specs.declared.session.Stage.{Stage}
use Rattle.sp_model.specs.declared.session.Stage.TheVariants.{Idle, Started, NameWait, Named, NeedWait, Planned, Queued, Placed}
use Rattle.sp_model.specs.State.{Kernel, entries_in, is_active, with_session, searched, locks_of}
use Rattle.sp_model.specs.Refusals.{open_transactions, open_operations, kept_operations, most_transactions, most_endings, most_operations, most_history, first_unused, under_way, turned_away}
use Rattle.sp_model.specs.Moves.{begun}
use Rattle.sp_model.specs.Stepped.{records_told, most_records_told}
use Rattle.sp_model.specs.Plans.{HasRectangle}
use Rattle.sp_model.specs.Soundness.{AreAscending, SharesLatch, HoldsObject, HoldsStage, is_queued, OfStage}
use Rattle.sp_model.proofs.Bare.{Bare}
use Rattle.sp_model.proofs.Sessions.{none-among, of_with, among-with}
use Rattle.sp_model.proofs.Planned.{stage_stays}
use Rattle.sp_model.proofs.Holding.{HoldsStill, rows-stay, met-held, locks-still, parts-still, marks_owned-still}
use Rattle.sp_model.proofs.Counting.{length-sum, with-sum}
use Rattle.sp_model.proofs.Turned.{MayBegin, may_begin}

less-from : (a b : ℕ) → nat_lt a b ≡ true → a < b
less-from a b h = grind (arith, nat_tests)

-- a session that comes stands in its place by number
module _ (x : Session) where
  all-with : (P : Session → Type 0) (xs : List Session) → P x → AllByRecursion P xs → AllByRecursion P (with_session x xs)
  all-with P [] p h = (p, tt)
  all-with P (y ∷ ys) p h = go (nat_lt x.txn.session y.txn.session) (all-with P ys p h.1)
    where
      go : (b : Bool) → AllByRecursion P (with_session x ys) → AllByRecursion P (cond b (x ∷ y ∷ ys) (y ∷ with_session x ys))
      go true rest = (p, h)
      go false rest = (h.0, rest)

  all-more : (a b : ℕ) → a < b → (xs : List Session) → AllByRecursion (λ y. b < y.txn.session) xs → AllByRecursion (λ y. a < y.txn.session) xs
  all-more a b l [] h = tt
  all-more a b l (y ∷ ys) h = (chain a b y.txn.session l h.0, all-more a b l ys h.1)
    where
      chain : (a b c : ℕ) → a < b → b < c → a < c
      chain a b c l m = omega arith

  ascending-with : (xs : List Session) → AreAscending xs → ((y : Session) → Among y xs → y.txn.session ≢ x.txn.session) → AreAscending (with_session x xs)
  ascending-with [] h none = (tt, tt)
  ascending-with (y ∷ ys) h none = go (nat_lt x.txn.session y.txn.session) refl (ascending-with ys h.1 (λ z i. none z (inr i)))
    where
      after : (a b : ℕ) → nat_lt a b ≡ false → b ≢ a → b < a
      after a b e f = grind (arith, nat_tests)

      go : (b : Bool) → nat_lt x.txn.session y.txn.session ≡ b → AreAscending (with_session x ys) → AreAscending (cond b (x ∷ y ∷ ys) (y ∷ with_session x ys))
      go true e rest = let l = less-from x.txn.session y.txn.session e in ((l, all-more x.txn.session y.txn.session l ys h.0), h)
      go false e rest = (all-with (λ z. y.txn.session < z.txn.session) ys (after x.txn.session y.txn.session e (none y (inl refl))) h.0, rest)

  numbers-all : (n : ℕ) (xs : List Session) → nat_eq n x.txn.number ≡ false → AllByRecursion (λ m. nat_eq n m ≡ false) (map (λ z. z.txn.number) xs) → AllByRecursion (λ m. nat_eq n m ≡ false) (map (λ z. z.txn.number) (with_session x xs))
  numbers-all n [] p h = (p, tt)
  numbers-all n (y ∷ ys) p h = go (nat_lt x.txn.session y.txn.session) (numbers-all n ys p h.1)
    where
      go : (b : Bool) → AllByRecursion (λ m. nat_eq n m ≡ false) (map (λ z. z.txn.number) (with_session x ys)) → AllByRecursion (λ m. nat_eq n m ≡ false) (map (λ z. z.txn.number) (cond b (x ∷ y ∷ ys) (y ∷ with_session x ys)))
      go true rest = (p, h)
      go false rest = (h.0, rest)

  distinct-with : (xs : List Session) → IsDistinct nat_eq (map (λ z. z.txn.number) xs) → ((y : Session) → Among y xs → y.txn.number < x.txn.number) → IsDistinct nat_eq (map (λ z. z.txn.number) (with_session x xs))
  distinct-with [] h less = IsDistinct-cons nat_eq x.txn.number [] tt h
  distinct-with (y ∷ ys) h less = go (nat_lt x.txn.session y.txn.session) (distinct-with ys (IsDistinct-tail nat_eq y.txn.number (map (λ z. z.txn.number) ys) h) (λ z i. less z (inr i)))
    where
      above : (m n : ℕ) → m < n → nat_eq n m ≡ false
      above m n l = grind (arith, nat_tests)

      under : (m n : ℕ) → m < n → nat_eq m n ≡ false
      under m n l = grind (arith, nat_tests)

      all : (zs : List Session) → ((z : Session) → Among z zs → z.txn.number < x.txn.number) → AllByRecursion (λ m. nat_eq x.txn.number m ≡ false) (map (λ z. z.txn.number) zs)
      all [] l = tt
      all (z ∷ zs) l = (above z.txn.number x.txn.number (l z (inl refl)), all zs (λ w i. l w (inr i)))

      go : (b : Bool) → IsDistinct nat_eq (map (λ z. z.txn.number) (with_session x ys)) → IsDistinct nat_eq (map (λ z. z.txn.number) (cond b (x ∷ y ∷ ys) (y ∷ with_session x ys)))
      go true rest = IsDistinct-cons nat_eq x.txn.number (map (λ z. z.txn.number) (y ∷ ys)) (all (y ∷ ys) less) h
      go false rest = IsDistinct-cons nat_eq y.txn.number (map (λ z. z.txn.number) (with_session x ys))
          (numbers-all y.txn.number ys (under y.txn.number x.txn.number (less y (inl refl))) (IsDistinct-head nat_eq y.txn.number (map (λ z. z.txn.number) ys) h)) rest

-- a transaction without marks sees what is live
unmarked-sees : (t : ℕ) (es : List Entry) → ((e : Entry) → Among e es → (is_made_by t e.marks.made ≡ false) × (is_ended_by t e.marks.ended ≡ false) × (is_draft_of t e.marks.draft ≡ false)) → live es ≡ view es t
unmarked-sees t es unused = ap sorted (show_alike is_live (is_visible t) record_of (record_for t) es alike)
  where
    alike : (e : Entry) → Among e es → (is_live e ≡ is_visible t e) × (is_visible t e ≡ true → record_of e ≡ record_for t e)
    alike e i = let u = unused e i in (one (is_committed e.marks.made) (is_made_by t e.marks.made) (is_ended_by t e.marks.ended) (is_done e.marks.ended) u.0 u.1, λ l. ap (λ (v : List ℕ). record { id = e.id; rect = e.rect; value = v }) (sym (none e.marks.draft u.2)))
      where
        one : (c m x d : Bool) → m ≡ false → x ≡ false → (c && not d) ≡ ((c || m) && not (x || d))
        one c m x d a b = grind arith

        none : (d : Draft) → is_draft_of t d ≡ false → drafted t d e.value ≡ e.value
        none NoDraft h = refl
        none (Of u draft) h = ap (λ (b : Bool). cond b draft e.value) h

pub begin-sound : (k : Kernel) (s : ℕ) → Bare k → turned_away k (Begin s) ≡ None → Bare (begun s k)
begin-sound k s sound let_in = record {
  valid = sound.valid;
  ascending = sound.ascending;
  entry_numbers = sound.entry_numbers;
  base = sound.base;
  serial = sound.serial;
  current = sound.current;
  locks = sound.locks;
  acyclic = sound.acyclic;
  rows = λ row i. let o = sound.rows row i in record { owner = o.owner; among = in_new o.owner o.among; is_owner = o.is_owner; may = o.may };
  names = sound.names;
  sessions = record {
    ascending = ascending-with x k.sessions sound.sessions.ascending none;
    numbers = distinct-with x k.sessions sound.sessions.numbers sound.sessions.used;
    used = λ y i. used y (of_with x k.sessions y i);
    seen = λ y i. seen y (of_with x k.sessions y i);
    searches = λ y i. searches y (of_with x k.sessions y i);
  };
  latch = λ a b i j apart. latch a b (of_with x k.sessions a i) (of_with x k.sessions b j) apart;
  stages = λ y i. stages y (of_with x k.sessions y i);
  in_space = λ y i. in_space y (of_with x k.sessions y i);
  rectangles = λ y i a. rectangles y a (of_with x k.sessions y i);
  parts = λ y i a. parts-still (granules k.tree) (locks_of k.sessions k.locks) (locks_of xs k.locks) y.txn.number y.txn.ops (still y.txn.number) (parts y a (of_with x k.sessions y i));
  objects = λ y pair i a j. objects y pair a j (of_with x k.sessions y i);
  owned = marks_owned-still (granules k.tree) (locks_of k.sessions k.locks) (locks_of xs k.locks) (entries_in k) still sound.owned;
  replays = λ y i a. replays y a (of_with x k.sessions y i);
  active = λ t e i m. let a = sound.active t e i m in (a.0, in_new a.0 a.1, a.2, a.3);
  numbers = λ t e l i. sound.numbers t e (later k.next_txn t l) i;
  dead = sound.dead;
  queued = record {
    once = sound.queued.once;
    there = λ y i q. there y q (of_with x k.sessions y i);
    back = λ n i. let b = sound.queued.back n i in (b.0, in_new b.0 b.1, b.2, b.3);
    calls_few = sound.queued.calls_few;
    begun = sound.queued.begun;
    none = sound.queued.none;
  };
  counts = record {
    transactions = one_more (open_transactions xs) (open_transactions k.sessions) most_transactions opened may.transactions;
    endings = two_more (length k.commits + length k.ended) (open_transactions xs) (open_transactions k.sessions) most_endings opened may.endings;
    operations = λ y i a. operations y a (of_with x k.sessions y i);
    history = subst (λ n. kept_operations k.commits + n ≤ most_history) (sym (with-sum (λ (y : Session). length y.txn.ops + under_way y.stage) x k.sessions)) (no_more (kept_operations k.commits) (open_operations k.sessions) most_history sound.counts.history);
    replies = subst (λ n. sum_by (λ c. records_told c.ops) k.commits + n ≤ most_records_told) (sym (with-sum (λ (y : Session). records_told y.txn.ops) x k.sessions)) (no_more (sum_by (λ c. records_told c.ops) k.commits) (sum_by (λ (y : Session). records_told y.txn.ops) (filter is_active k.sessions)) most_records_told sound.counts.replies);
    entries = sound.counts.entries;
    node_numbers = sound.counts.node_numbers;
    entry_numbers = sound.counts.entry_numbers;
    txn_numbers = upto k.next_txn first_unused may.number;
  };
}
  where
    x : Session
    x = record { txn = record { number = k.next_txn; session = s; seen = length k.commits; ops = []; searches = [] }; stage = Idle }

    xs : List Session
    xs = with_session x k.sessions

    may : MayBegin k s
    may = may_begin k s let_in

    in_new : (y : Session) → Among y k.sessions → Among y xs
    in_new y i = among-with x k.sessions y (inr i)

    none : (y : Session) → Among y k.sessions → y.txn.session ≢ s
    none y i = none-among s k.sessions y may.out i

    later : (n t : ℕ) → n + 1 ≤ t → n ≤ t
    later n t l = omega arith

    upto : (n most : ℕ) → n < most → n + 1 ≤ most
    upto n most l = omega arith

    one_more : (new old most : ℕ) → new ≡ 1 + old → old < most → new ≤ most
    one_more new old most e l = omega arith

    two_more : (a new old most : ℕ) → new ≡ 1 + old → a + old < most → a + new ≤ most
    two_more a new old most e l = omega arith

    no_more : (a b most : ℕ) → a + b ≤ most → a + (0 + b) ≤ most
    no_more a b most l = omega arith

    opened : open_transactions xs ≡ 1 + open_transactions k.sessions
    opened = length-sum (filter is_active xs) ∙ with-sum (λ (y : Session). 1) x k.sessions ∙ ap (λ n. 1 + n) (sym (length-sum (filter is_active k.sessions)))

    still : (t : ℕ) → HoldsStill (locks_of k.sessions k.locks) (locks_of xs k.locks) t
    still t = locks-still k.sessions xs k.locks k.locks t (λ y i e. (y, in_new y i, refl, e)) (λ y i e. met-held y.txn.session k.locks k.locks (rows-stay y.txn.session k.locks k.locks (λ row j w. j)))

    used : (y : Session) → (y ≡ x) ⊎ Among y k.sessions → y.txn.number < k.next_txn + 1
    used y (inl e) = subst (λ (z : Session). z.txn.number < k.next_txn + 1) (sym e) (self k.next_txn)
      where
        self : (n : ℕ) → n < n + 1
        self n = omega arith
    used y (inr i) = further y.txn.number k.next_txn (sound.sessions.used y i)
      where
        further : (m n : ℕ) → m < n → m < n + 1
        further m n l = omega arith

    seen : (y : Session) → (y ≡ x) ⊎ Among y k.sessions → y.txn.seen ≤ length k.commits
    seen y (inl e) = subst (λ (z : Session). z.txn.seen ≤ length k.commits) (sym e) (self (length k.commits))
      where
        self : (n : ℕ) → n ≤ n
        self n = omega arith
    seen y (inr i) = sound.sessions.seen y i

    searches : (y : Session) → (y ≡ x) ⊎ Among y k.sessions → y.txn.searches ≡ searched y.txn.ops
    searches y (inl e) = subst (λ (z : Session). z.txn.searches ≡ searched z.txn.ops) (sym e) refl
    searches y (inr i) = sound.sessions.searches y i

    from_idle : (stage : Stage) → SharesLatch stage Idle
    from_idle Idle = tt
    from_idle (Started op) = tt
    from_idle (NameWait op) = tt
    from_idle (Named op) = tt
    from_idle (NeedWait op) = tt
    from_idle (Planned op left) = tt
    from_idle Queued = tt
    from_idle Placed = tt

    latch : (a b : Session) → (a ≡ x) ⊎ Among a k.sessions → (b ≡ x) ⊎ Among b k.sessions → a.txn.session ≢ b.txn.session → SharesLatch a.stage b.stage
    latch a b (inl e) j apart = subst (λ (z : Session). SharesLatch z.stage b.stage) (sym e) tt
    latch a b (inr i) (inl e) apart = subst (λ (z : Session). SharesLatch a.stage z.stage) (sym e) (from_idle a.stage)
    latch a b (inr i) (inr j) apart = sound.latch a b i j apart

    stages : (y : Session) → (y ≡ x) ⊎ Among y k.sessions → HoldsStage (begun s k) y y.stage
    stages y (inl e) = subst (λ (z : Session). HoldsStage (begun s k) z z.stage) (sym e) tt
    stages y (inr i) = stage_stays k (begun s k) y y.stage refl refl (rows-stay y.txn.session k.locks k.locks (λ row j w. j)) (λ op h. h) (sound.stages y i)

    in_space : (y : Session) → (y ≡ x) ⊎ Among y k.sessions → OfStage HasRectangle y.stage
    in_space y (inl e) = subst (λ (z : Session). OfStage HasRectangle z.stage) (sym e) tt
    in_space y (inr i) = sound.in_space y i

    rectangles : (y : Session) → is_active y ≡ true → (y ≡ x) ⊎ Among y k.sessions → HasRectangles y.txn.ops
    rectangles y a (inl e) = subst (λ (z : Session). HasRectangles z.txn.ops) (sym e) (λ pair rect i p. absurd i)
    rectangles y a (inr i) = sound.rectangles y i a

    parts : (y : Session) → is_active y ≡ true → (y ≡ x) ⊎ Among y k.sessions → HoldsParts (granules k.tree) (locks_of k.sessions k.locks) y.txn.number y.txn.ops
    parts y a (inl e) = subst (λ (z : Session). HoldsParts (granules k.tree) (locks_of k.sessions k.locks) z.txn.number z.txn.ops) (sym e) (λ pair i. absurd i)
    parts y a (inr i) = sound.parts y i a

    objects : (y : Session) (pair : Answered) → is_active y ≡ true → Among pair y.txn.ops → (y ≡ x) ⊎ Among y k.sessions → HoldsObject k.locks y.txn.session pair.op
    objects y pair a j (inl e) = absurd (subst (λ (z : Session). Among pair z.txn.ops) e j)
    objects y pair a j (inr i) = sound.objects y pair i a j

    replays : (y : Session) → is_active y ≡ true → (y ≡ x) ⊎ Among y k.sessions → Replays (entries_in k) y.txn.number y.txn.ops
    replays y a (inl e) = subst (λ (z : Session). Replays (entries_in k) z.txn.number z.txn.ops) (sym e)
        (record { same_replies = tt; same_view = unmarked-sees k.next_txn (entries_in k) (λ z i. sound.numbers k.next_txn z (omega arith) i) })
    replays y a (inr i) = sound.replays y i a

    there : (y : Session) → is_queued y.stage ≡ true → (y ≡ x) ⊎ Among y k.sessions → Among y.txn.session (k.flight ++ k.queue)
    there y q (inl e) = absurd (true≢false (sym q ∙ ap (λ (z : Session). is_queued z.stage) e))
    there y q (inr i) = sound.queued.there y i q

    operations : (y : Session) → is_active y ≡ true → (y ≡ x) ⊎ Among y k.sessions → length y.txn.ops + under_way y.stage ≤ most_operations
    operations y a (inl e) = subst (λ (z : Session). length z.txn.ops + under_way z.stage ≤ most_operations) (sym e) (omega arith)
    operations y a (inr i) = sound.counts.operations y i a
