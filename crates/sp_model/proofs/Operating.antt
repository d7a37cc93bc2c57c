-- An operation is kept and over: what its transaction and the others are to hold afterwards for a sound kernel.
use Rattle.std.proofs.Common.{◌≡◌, ◌≢◌, ◌⊎◌, ℕ, ◌+◌, ◌<◌, ◌≤◌, ◌^◌, Bool, true, false, cond, List, [], ◌∷◌, ◌++◌, filter, length, refl, sym, ap, ap₂, ◌∙◌, subst, inl, inr, true≢false, arith}
use Rattle.std.specs.List.{sum_by}
use Rattle.std.proofs.lemmas.List.{append-nil, length-append, append_assoc}
use Rattle.std.proofs.lemmas.List.Sums.{sum_by_push}
use Rattle.sp_rect.specs.Plane.{Rectangle}
use Rattle.sp_rect.specs.Serial.{after_all}
use Rattle.sp_rect.specs.Store.{part_of}
use Rattle.sp_rect.specs.declared.operation.Op.{Op}
use Rattle.sp_rect.specs.declared.operation.Reply.{Reply}
use Rattle.sp_rect.specs.declared.operation.Answered.{Answered}
use Rattle.sp_locks.specs.declared.row.Row.{Row}
use Rattle.sp_locks.specs.Soundness.{IsSound}
use Rattle.sp_waits.specs.Edges.{NoCycle}
use Rattle.sp_node.specs.declared.node.Entry.{Entry}
use Rattle.sp_node.specs.Among.{Among}
use Rattle.sp_node.specs.Look.{IsAscending}
use Rattle.sp_node.specs.Marks.{is_marked}
use Rattle.sp_node.specs.Table.{Table, IsValid, entries_of}
use Rattle.sp_node.proofs.Among.{among_split}
use Rattle.sp_granule.specs.Granules.{granules}
use Rattle.sp_txn.specs.Visible.{live}
use Rattle.sp_protection.specs.Guarding.{MarksOwned}
use Rattle.sp_protection.specs.Replays.{Replays, HoldsPart, HoldsParts, HasRectangles}
use Rattle.sp_protection.proofs.Leaves.{among_map}
use Rattle.sp_model.specs.declared.session.Session.{Session}
use Rattle.sp_model.specs.declared.session.Stage.TheVariants.{Idle}
use Rattle.sp_model.specs.State.{Kernel, entries_in, is_active, is_session, with_change, at_stage, staged, area_of, searched, locks_of}
use Rattle.sp_model.specs.Refusals.{under_way, open_transactions, open_operations, kept_operations, most_transactions, most_endings, most_operations, most_history, first_unused}
use Rattle.sp_model.specs.Moves.{lengthened}
use Rattle.sp_model.specs.Plans.{HasRectangle}
use Rattle.sp_model.specs.Stepped.{records_in, records_told, kept_records, most_entries, most_records_told}
use Rattle.sp_model.specs.Soundness.{RowsOwned, NamesUsed, SharesLatch, LatchShared, HoldsObject, HoldsStage, OfStage, NumbersUsed, DeadListed, is_queued, QueueSound}
use Rattle.sp_model.proofs.Bare.{Bare}
use Rattle.sp_model.proofs.Sessions.{Fate, Changes, Stays, fate, of_change, others-among, one-session}
use Rattle.sp_model.proofs.Holding.{StayHeld, object-stays}
use Rattle.sp_model.proofs.Counting.{change-sum, length-sum}
use Rattle.sp_model.proofs.Limits.{share-active}
use Rattle.sp_model.proofs.Restaging.{KeepsTxn, sessions-changed}
use Rattle.sp_model.proofs.Finishing.{shares-idle}

-- the session with the operation kept, and idle
abbrev pub done_with : Op → Reply → Session → Session
done_with op reply x = at_stage Idle (lengthened op reply x)

pub done-keeps : (op : Op) (reply : Reply) → KeepsTxn (done_with op reply)
done-keeps op reply = record { session = λ x. refl; number = λ x. refl; seen = λ x. refl }

-- it is kept first, and then the session is idle
pub kept-idle : (s : ℕ) (op : Op) (reply : Reply) (xs : List Session) → staged s Idle (with_change s (lengthened op reply) xs) ≡ with_change s (done_with op reply) xs
kept-idle s op reply [] = refl
kept-idle s op reply (x ∷ xs) = ap₂ (λ y ys. y ∷ ys) (one (is_session s x) refl) (kept-idle s op reply xs)
  where
    one : (b : Bool) → is_session s x ≡ b → cond (is_session s (cond b (lengthened op reply x) x)) (at_stage Idle (cond b (lengthened op reply x) x)) (cond b (lengthened op reply x) x) ≡ cond b (done_with op reply x) x
    one true e = ap (λ (c : Bool). cond c (done_with op reply x) (lengthened op reply x)) e
    one false e = ap (λ (c : Bool). cond c (at_stage Idle x) x) e

-- the kernel with this tree, next entry number and rows, in which the operation is kept and over
abbrev pub with_done : Session → Op → Reply → Table → ℕ → List Row → Kernel → Kernel
with_done x op reply tree next rows k = record k { tree = tree; next_entry = next; locks = rows; sessions = with_change x.txn.session (done_with op reply) k.sessions }

-- what the new tree and rows are to fit
pub record FitsDone (k : Kernel) (x : Session) (op : Op) (reply : Reply) (tree : Table) (next : ℕ) (rows : List Row) : Type 0 where
  pub here : Among x k.sessions
  pub active : is_active x ≡ true
  pub unqueued : is_queued x.stage ≡ false
  pub one : under_way x.stage ≡ 1
  pub in_space : HasRectangle op
  pub valid : IsValid tree
  pub ascending : IsAscending tree.nodes
  pub entry_numbers : (e : Entry) → Among e (entries_of tree) → e.number < next
  pub current : live (entries_of tree) ≡ after_all k.base k.commits
  pub locks : IsSound rows
  pub acyclic : NoCycle rows
  pub owned_rows : RowsOwned (with_change x.txn.session (done_with op reply) k.sessions) rows
  pub names : NamesUsed tree.next rows
  pub held : (t : ℕ) → StayHeld t k.locks rows
  pub stages : (y : Session) → Among y k.sessions → y.txn.session ≢ x.txn.session → HoldsStage (with_done x op reply tree next rows k) y y.stage
  pub parts : (y : Session) → Among y k.sessions → y.txn.session ≢ x.txn.session → is_active y ≡ true → HoldsParts (granules tree) (locks_of (with_change x.txn.session (done_with op reply) k.sessions) rows) y.txn.number y.txn.ops
  pub own_parts : HoldsParts (granules tree) (locks_of (with_change x.txn.session (done_with op reply) k.sessions) rows) x.txn.number x.txn.ops
  pub part : HoldsPart (granules tree) (locks_of (with_change x.txn.session (done_with op reply) k.sessions) rows) x.txn.number (part_of op)
  pub object : HoldsObject k.locks x.txn.session op
  pub owned : MarksOwned (granules tree) (locks_of (with_change x.txn.session (done_with op reply) k.sessions) rows) (entries_of tree)
  pub replays : (y : Session) → Among y k.sessions → y.txn.session ≢ x.txn.session → is_active y ≡ true → Replays (entries_of tree) y.txn.number y.txn.ops
  pub own_replays : Replays (entries_of tree) x.txn.number (x.txn.ops ++ record { op = op; reply = reply } ∷ [])
  pub marks : (t : ℕ) (e : Entry) → Among e (entries_of tree) → is_marked t e ≡ true → (t ≡ x.txn.number) ⊎ ((o : Entry) × Among o (entries_in k) × (is_marked t o ≡ true))
  pub numbers : NumbersUsed k.next_txn (entries_of tree)
  pub dead : DeadListed k.dead (entries_of tree)
  pub replies : kept_records k + records_in reply ≤ most_records_told
  pub entries : length (entries_of tree) ≤ most_entries
  pub node_numbers : tree.next < 2 ^ 63 + 2 ^ 32
  pub next_few : next ≤ first_unused

module _ (k : Kernel) (x : Session) (op : Op) (reply : Reply) (tree : Table) (next : ℕ) (rows : List Row) (sound : Bare k) (fits : FitsDone k x op reply tree next rows) where
  abbrev s : ℕ
  s = x.txn.session

  abbrev change : Session → Session
  change = done_with op reply

  abbrev xs : List Session
  xs = with_change s change k.sessions

  abbrev k' : Kernel
  k' = with_done x op reply tree next rows k

  abbrev pair : Answered
  pair = record { op = op; reply = reply }

  same : (y : Session) → Among y k.sessions → y.txn.session ≡ s → y ≡ x
  same y i e = one-session k.sessions sound.sessions.ascending y x i fits.here e

  was-active : (y : Session) → Among y k.sessions → y.txn.session ≡ s → is_active y ≡ true
  was-active y i e = subst (λ (z : Session). is_active z ≡ true) (sym (same y i e)) fits.active

  searches : (y : Session) → y.txn.searches ≡ searched y.txn.ops → (change y).txn.searches ≡ searched (change y).txn.ops
  searches y e = ap (λ (qs : List Rectangle). qs ++ area_of (part_of op)) e ∙ sym (push y.txn.ops)
    where
      push : (pairs : List Answered) → searched (pairs ++ pair ∷ []) ≡ searched pairs ++ area_of (part_of op)
      push [] = append-nil (area_of (part_of op))
      push (p ∷ pairs) = ap (λ (qs : List Rectangle). area_of (part_of p.op) ++ qs) (push pairs) ∙ sym (append_assoc (area_of (part_of p.op)) (searched pairs) (area_of (part_of op)))

  latch : LatchShared xs
  latch a b i j apart = let o = of_change s change k.sessions a i in let p = of_change s change k.sessions b j in go o.old p.old a b o.stood p.stood o.how p.how apart
    where
      go : (y z a b : Session) → Among y k.sessions → Among z k.sessions → Fate s change y a → Fate s change z b → a.txn.session ≢ b.txn.session → SharesLatch a.stage b.stage
      go y z _ _ i j (Changes e) (Changes f) apart = absurd (apart (e ∙ sym f))
      go y z _ _ i j (Changes e) (Stays f) apart = (shares-idle z.stage).0
      go y z _ _ i j (Stays e) (Changes f) apart = (shares-idle y.stage).1
      go y z _ _ i j (Stays e) (Stays f) apart = sound.latch y z i j apart

  stages : (z y : Session) → Among z k.sessions → Fate s change z y → HoldsStage k' y y.stage
  stages z _ j (Changes e) = tt
  stages z _ j (Stays e) = fits.stages z j e

  in_space : (z y : Session) → Among z k.sessions → Fate s change z y → OfStage HasRectangle y.stage
  in_space z _ j (Changes e) = tt
  in_space z _ j (Stays e) = sound.in_space z j

  -- what holds of each operation and of this one holds of all that are kept now
  each : (P : Answered → Type 0) (pairs : List Answered) → ((p : Answered) → Among p pairs → P p) → P pair → (p : Answered) → Among p (pairs ++ pair ∷ []) → P p
  each P pairs old new p i = go (among_split p pairs (pair ∷ []) i)
    where
      go : Among p pairs ⊎ Among p (pair ∷ []) → P p
      go (inl j) = old p j
      go (inr (inl e)) = subst P (sym e) new
      go (inr (inr n)) = absurd n

  rectangles : (z y : Session) → Among z k.sessions → Fate s change z y → is_active y ≡ true → HasRectangles y.txn.ops
  rectangles z _ j (Changes e) a = λ p rect i. each (λ (q : Answered). HasRectangle q.op) z.txn.ops (λ q l r. sound.rectangles z j (was-active z j e) q r l) fits.in_space p i rect
  rectangles z _ j (Stays e) a = sound.rectangles z j a

  parts : (z y : Session) → Among z k.sessions → Fate s change z y → is_active y ≡ true → HoldsParts (granules tree) (locks_of xs rows) y.txn.number y.txn.ops
  parts z _ j (Changes e) a =
      subst (λ (w : Session). HoldsParts (granules tree) (locks_of xs rows) w.txn.number (w.txn.ops ++ pair ∷ [])) (sym (same z j e))
      (each (λ (q : Answered). HoldsPart (granules tree) (locks_of xs rows) x.txn.number (part_of q.op)) x.txn.ops fits.own_parts fits.part)
  parts z _ j (Stays e) a = fits.parts z j e a

  objects : (z y : Session) (p : Answered) → Among z k.sessions → Fate s change z y → is_active y ≡ true → Among p y.txn.ops → HoldsObject k.locks y.txn.session p.op
  objects z _ p j (Changes e) a i = each (λ (q : Answered). HoldsObject k.locks z.txn.session q.op) z.txn.ops (λ q l. sound.objects z q j (was-active z j e) l) (subst (λ (n : ℕ). HoldsObject k.locks n op) (sym e) fits.object) p i
  objects z _ p j (Stays e) a i = sound.objects z p j a i

  replays : (z y : Session) → Among z k.sessions → Fate s change z y → is_active y ≡ true → Replays (entries_of tree) y.txn.number y.txn.ops
  replays z _ j (Changes e) a = subst (λ (w : Session). Replays (entries_of tree) w.txn.number (w.txn.ops ++ pair ∷ [])) (sym (same z j e)) fits.own_replays
  replays z _ j (Stays e) a = fits.replays z j e a

  marks : (t : ℕ) (y : Session) → Among y k.sessions → is_active y ≡ true → y.txn.number ≡ t → (w : Session) × Among w xs × (is_active w ≡ true) × (w.txn.number ≡ t)
  marks t y i a n = go (cond (is_session s y) (change y) y) (fate s change y) (among_map (λ z. cond (is_session s z) (change z) z) y k.sessions i)
    where
      go : (z : Session) → Fate s change y z → Among z xs → (w : Session) × Among w xs × (is_active w ≡ true) × (w.txn.number ≡ t)
      go _ (Changes e) j = (change y, j, refl, n)
      go _ (Stays e) j = (y, j, a, n)

  active : (t : ℕ) (e : Entry) → Among e (entries_of tree) → is_marked t e ≡ true → (w : Session) × Among w xs × (is_active w ≡ true) × (w.txn.number ≡ t)
  active t e i m = go (fits.marks t e i m)
    where
      go : (t ≡ x.txn.number) ⊎ ((o : Entry) × Among o (entries_in k) × (is_marked t o ≡ true)) → (w : Session) × Among w xs × (is_active w ≡ true) × (w.txn.number ≡ t)
      go (inl own) = marks t x fits.here fits.active (sym own)
      go (inr old) = let a = sound.active t old.0 old.1 old.2 in marks t a.0 a.1 a.2 a.3

  queued : QueueSound xs k.queue k.flight k.calls
  queued = record {
    once = sound.queued.once;
    there = λ y i q. let o = of_change s change k.sessions y i in there o.old y o.stood o.how q;
    back = λ n i. let b = sound.queued.back n i in again n b.0 b.1 b.2 b.3;
    calls_few = sound.queued.calls_few;
    begun = sound.queued.begun;
    none = sound.queued.none;
  }
    where
      there : (z y : Session) → Among z k.sessions → Fate s change z y → is_queued y.stage ≡ true → Among y.txn.session (k.flight ++ k.queue)
      there z _ j (Changes e) q = absurd (true≢false (sym q))
      there z _ j (Stays e) q = sound.queued.there z j q

      again : (n : ℕ) (y : Session) → Among y k.sessions → y.txn.session ≡ n → is_queued y.stage ≡ true → (z : Session) × Among z xs × (z.txn.session ≡ n) × (is_queued z.stage ≡ true)
      again n y i e q = (y, others-among s change k.sessions y i (λ f. true≢false (sym q ∙ ap (λ (z : Session). is_queued z.stage) (same y i f) ∙ fits.unqueued)), e, q)

  -- a sum over active sessions changes by what this session counts
  sums : (f : Session → ℕ) → sum_by f (filter is_active xs) + f x ≡ sum_by f (filter is_active k.sessions) + f (change x)
  sums f = let c = change-sum f change k.sessions sound.sessions.ascending x fits.here in let a = share-active f x fits.active in omega (arith, c, a)

  opened : open_transactions xs ≡ open_transactions k.sessions
  opened = let p = length-sum (filter is_active xs) in let q = length-sum (filter is_active k.sessions) in let r = sums (λ y. 1) in omega (arith, p, q, r)

  operations : (z y : Session) → Among z k.sessions → Fate s change z y → is_active y ≡ true → length y.txn.ops + under_way y.stage ≤ most_operations
  operations z _ j (Changes e) a = subst (λ (w : Session). length (w.txn.ops ++ pair ∷ []) + 0 ≤ most_operations) (sym (same z j e)) (room (length x.txn.ops) (under_way x.stage) most_operations (length (x.txn.ops ++ pair ∷ [])) (length-append x.txn.ops (pair ∷ [])) fits.one (sound.counts.operations x fits.here fits.active))
    where
      room : (n u most m : ℕ) → m ≡ n + 1 → u ≡ 1 → n + u ≤ most → m + 0 ≤ most
      room n u most m e f l = omega arith
  operations z _ j (Stays e) a = sound.counts.operations z j a

  history : kept_operations k.commits + open_operations xs ≤ most_history
  history = same_sum (kept_operations k.commits) (open_operations xs) (open_operations k.sessions) (length x.txn.ops) (under_way x.stage) (length (x.txn.ops ++ pair ∷ [])) most_history (length-append x.txn.ops (pair ∷ [])) fits.one (sums (λ y. length y.txn.ops + under_way y.stage)) sound.counts.history
    where
      same_sum : (kept new old n u m most : ℕ) → m ≡ n + 1 → u ≡ 1 → new + (n + u) ≡ old + (m + 0) → kept + old ≤ most → kept + new ≤ most
      same_sum kept new old n u m most e f g l = omega arith

  told : kept_records k' ≤ most_records_told
  told = more (sum_by (λ c. records_told c.ops) k.commits) (sum_by (λ y. records_told y.txn.ops) (filter is_active xs)) (sum_by (λ y. records_told y.txn.ops) (filter is_active k.sessions)) (records_told x.txn.ops) (records_told (x.txn.ops ++ pair ∷ [])) (records_in reply) most_records_told
      (sum_by_push (λ (p : Answered). records_in p.reply) x.txn.ops pair) (sums (λ y. records_told y.txn.ops)) fits.replies
    where
      more : (kept new old n m r most : ℕ) → m ≡ n + r → new + n ≡ old + m → kept + old + r ≤ most → kept + new ≤ most
      more kept new old n m r most e g l = omega arith

  pub done_with-sound : Bare (with_done x op reply tree next rows k)
  done_with-sound = record {
    valid = fits.valid;
    ascending = fits.ascending;
    entry_numbers = fits.entry_numbers;
    base = sound.base;
    serial = sound.serial;
    current = fits.current;
    locks = fits.locks;
    acyclic = fits.acyclic;
    rows = fits.owned_rows;
    names = fits.names;
    sessions = sessions-changed s change (done-keeps op reply) k.next_txn (length k.commits) k.sessions (λ y i e. searches y (sound.sessions.searches y i)) sound.sessions;
    latch = latch;
    stages = λ y i. let o = of_change s change k.sessions y i in stages o.old y o.stood o.how;
    in_space = λ y i. let o = of_change s change k.sessions y i in in_space o.old y o.stood o.how;
    rectangles = λ y i a. let o = of_change s change k.sessions y i in rectangles o.old y o.stood o.how a;
    parts = λ y i a. let o = of_change s change k.sessions y i in parts o.old y o.stood o.how a;
    objects = λ y p i a j. let o = of_change s change k.sessions y i in object-stays y.txn.session k.locks rows (fits.held y.txn.session) p.op (objects o.old y p o.stood o.how a j);
    owned = fits.owned;
    replays = λ y i a. let o = of_change s change k.sessions y i in replays o.old y o.stood o.how a;
    active = active;
    numbers = fits.numbers;
    dead = fits.dead;
    queued = queued;
    counts = record {
      transactions = subst (λ n. n ≤ most_transactions) (sym opened) sound.counts.transactions;
      endings = subst (λ n. length k.commits + length k.ended + n ≤ most_endings) (sym opened) sound.counts.endings;
      operations = λ y i a. let o = of_change s change k.sessions y i in operations o.old y o.stood o.how a;
      history = history;
      replies = told;
      entries = fits.entries;
      node_numbers = fits.node_numbers;
      entry_numbers = fits.next_few;
      txn_numbers = sound.counts.txn_numbers;
    };
  }
