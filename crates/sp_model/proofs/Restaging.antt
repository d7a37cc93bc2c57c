-- A change of one session's stage and of the rows alone keeps a kernel sound.
use Rattle.std.proofs.Common.{◌≡◌, ◌≢◌, ℕ, ◌<◌, ◌≤◌, true, false, cond, List, [], ◌∷◌, ◌++◌, map, length, nat_eq, refl, sym, ap, ap₂, ◌∙◌, subst, true≢false}
use Rattle.std.specs.List.{AllByRecursion, IsDistinct}
use Rattle.sp_rect.specs.declared.operation.Op.{Op}
use Rattle.sp_rect.specs.declared.operation.Answered.{Answered}
use Rattle.sp_locks.specs.declared.row.Row.{Row}
use Rattle.sp_locks.specs.declared.needs.Need.{Need}
use Rattle.sp_locks.specs.Soundness.{IsSound}
use Rattle.sp_waits.specs.Edges.{NoCycle}
use Rattle.sp_node.specs.Among.{Among}
use Rattle.sp_granule.specs.Granules.{granules}
use Rattle.sp_protection.specs.Replays.{Replays, HoldsParts, HasRectangles}
use Rattle.sp_protection.proofs.Leaves.{among_map}
use Rattle.sp_model.specs.declared.session.Session.{Session}
use Rattle.sp_model.specs.declared.session.Stage.{Stage}
use Rattle.sp_model.specs.State.{Kernel, entries_in, is_active, is_active_stage, is_session, with_change, at_stage, staged, searched, locks_of}
use Rattle.sp_model.specs.Plans.{HasNeeds, Stays as Needs_stay, Adds, HasRectangle}
use Rattle.sp_model.specs.Moves.{at_place}
use Rattle.sp_model.specs.Soundness.{AreAscending, SoundSessions, RowsOwned, NamesUsed, SharesLatch, LatchShared, HoldsObject, AwaitsObject, HoldsStage, is_queued, QueueSound, WithinCounts, OfStage}
use Rattle.sp_model.proofs.Bare.{Bare}
use Rattle.sp_model.proofs.Sessions.{Fate, Changes, Stays, fate, of_change, others-among, one-session}
use Rattle.sp_model.proofs.Planned.{stage_stays}
use Rattle.sp_model.proofs.Holding.{StayMet, StayHeld, object-stays, StayThere, HoldsStill, locks-still, parts-still, marks_owned-still}

-- the kernel with these sessions and rows
abbrev pub with_both : List Session → List Row → Kernel → Kernel
with_both xs rows k = record k { sessions = xs; locks = rows }

-- what an operation needs is the same for the transaction at any stage
pub needs-still : (k : Kernel) (xs : List Session) (rows : List Row) (x : Session) (stage : Stage) (op : Op) (commit short : List Need) → HasNeeds k x op commit short → HasNeeds (with_both xs rows k) (at_stage stage x) op commit short
needs-still k xs rows x stage _ _ _ (Needs_stay op commit none needs) = Needs_stay op commit none needs
needs-still k xs rows x stage _ _ _ (Adds r after chosen commit short some inserts wanted wanted_short) = Adds r after chosen commit short some (record { inserted = inserts.inserted; reaches = inserts.reaches }) wanted wanted_short

-- one session changes, and keeps its transaction's number, session and count of places
pub record KeepsTxn (change : Session → Session) : Type 0 where
  pub session : (x : Session) → (change x).txn.session ≡ x.txn.session
  pub number : (x : Session) → (change x).txn.number ≡ x.txn.number
  pub seen : (x : Session) → (change x).txn.seen ≡ x.txn.seen

pub staged-keeps : (stage : Stage) → KeepsTxn (at_stage stage)
staged-keeps stage = record { session = λ x. refl; number = λ x. refl; seen = λ x. refl }

pub placed-keeps : KeepsTxn at_place
placed-keeps = record { session = λ x. refl; number = λ x. refl; seen = λ x. refl }

module _ (s : ℕ) (change : Session → Session) (keeps : KeepsTxn change) where
  fate-session : (x y : Session) → Fate s change x y → y.txn.session ≡ x.txn.session
  fate-session x _ (Changes e) = keeps.session x
  fate-session x _ (Stays e) = refl

  fate-number : (x y : Session) → Fate s change x y → y.txn.number ≡ x.txn.number
  fate-number x _ (Changes e) = keeps.number x
  fate-number x _ (Stays e) = refl

  fate-seen : (x y : Session) → Fate s change x y → y.txn.seen ≡ x.txn.seen
  fate-seen x _ (Changes e) = keeps.seen x
  fate-seen x _ (Stays e) = refl

  ascending-changed : (xs : List Session) → AreAscending xs → AreAscending (with_change s change xs)
  ascending-changed [] h = tt
  ascending-changed (x ∷ xs) h = (later xs h.0, ascending-changed xs h.1)
    where
      at : (y : Session) → (cond (is_session s y) (change y) y).txn.session ≡ y.txn.session
      at y = fate-session y (cond (is_session s y) (change y) y) (fate s change y)

      later : (ys : List Session) → AllByRecursion (λ y. x.txn.session < y.txn.session) ys → AllByRecursion (λ y. (cond (is_session s x) (change x) x).txn.session < y.txn.session) (with_change s change ys)
      later [] a = tt
      later (y ∷ ys) a = (rw (at x, at y) a.0, later ys a.1)

  numbers-changed : (xs : List Session) → map (λ x. x.txn.number) (with_change s change xs) ≡ map (λ x. x.txn.number) xs
  numbers-changed [] = refl
  numbers-changed (x ∷ xs) = ap₂ (λ n ns. n ∷ ns) (fate-number x (cond (is_session s x) (change x) x) (fate s change x)) (numbers-changed xs)

  pub sessions-changed : (next commits : ℕ) (xs : List Session) → ((x : Session) → Among x xs → x.txn.session ≡ s → (change x).txn.searches ≡ searched (change x).txn.ops)
      → SoundSessions next commits xs → SoundSessions next commits (with_change s change xs)
  sessions-changed next commits xs told h = record {
    ascending = ascending-changed xs h.ascending;
    numbers = subst (IsDistinct nat_eq) (sym (numbers-changed xs)) h.numbers;
    used = λ y i. let o = of_change s change xs y i in subst (λ n. n < next) (sym (fate-number o.old y o.how)) (h.used o.old o.stood);
    seen = λ y i. let o = of_change s change xs y i in subst (λ n. n ≤ commits) (sym (fate-seen o.old y o.how)) (h.seen o.old o.stood);
    searches = λ y i. let o = of_change s change xs y i in searches o.old y o.stood o.how;
  }
    where
      searches : (x y : Session) → Among x xs → Fate s change x y → y.txn.searches ≡ searched y.txn.ops
      searches x _ i (Changes e) = told x i e
      searches x _ i (Stays e) = h.searches x i

  pub there-changed : (xs : List Session) (t : ℕ) → StayThere xs (with_change s change xs) t
  there-changed xs t x i e = let y = cond (is_session s x) (change x) x in let f = fate s change x in (y, among_map (λ x. cond (is_session s x) (change x) x) x xs i, fate-session x y f, fate-number x y f ∙ e)

-- a session at another stage
pub sessions-staged : (next commits s : ℕ) (stage : Stage) (xs : List Session) → SoundSessions next commits xs → SoundSessions next commits (staged s stage xs)
sessions-staged next commits s stage xs h = sessions-changed s (at_stage stage) (staged-keeps stage) next commits xs (λ x i e. h.searches x i) h

-- the queue is that of the sessions that are queued before and after
pub queue-staged : (k : Kernel) (x : Session) (stage : Stage) → AreAscending k.sessions → QueueSound k.sessions k.queue k.flight k.calls → Among x k.sessions → is_queued x.stage ≡ false → is_queued stage ≡ false
    → QueueSound (staged x.txn.session stage k.sessions) k.queue k.flight k.calls
queue-staged k x stage ascending sound here unqueued unqueued' = record {
  once = sound.once;
  there = λ y i q. let o = of_change x.txn.session (at_stage stage) k.sessions y i in queued o.old y o.stood o.how q;
  back = λ s i. let b = sound.back s i in again s b.0 b.1 b.2 b.3;
  calls_few = sound.calls_few;
  begun = sound.begun;
  none = sound.none;
}
  where
    queued : (z y : Session) → Among z k.sessions → Fate x.txn.session (at_stage stage) z y → is_queued y.stage ≡ true → Among y.txn.session (k.flight ++ k.queue)
    queued z _ j (Changes e) q = absurd (true≢false (sym q ∙ unqueued'))
    queued z _ j (Stays e) q = sound.there z j q

    again : (s : ℕ) (y : Session) → Among y k.sessions → y.txn.session ≡ s → is_queued y.stage ≡ true → (z : Session) × Among z (staged x.txn.session stage k.sessions) × (z.txn.session ≡ s) × (is_queued z.stage ≡ true)
    again s y i n q = (y, others-among x.txn.session (at_stage stage) k.sessions y i (λ e. true≢false (sym q ∙ ap (λ (z : Session). is_queued z.stage) (one-session k.sessions ascending y x i here e) ∙ unqueued)), n, q)

pub latch-staged : (x : Session) (stage : Stage) (xs : List Session) → LatchShared xs → ((y : Session) → Among y xs → y.txn.session ≢ x.txn.session → SharesLatch stage y.stage × SharesLatch y.stage stage) → LatchShared (staged x.txn.session stage xs)
latch-staged x stage xs latch shares a b i j apart = let o = of_change x.txn.session (at_stage stage) xs a i in let p = of_change x.txn.session (at_stage stage) xs b j in go o.old p.old a b o.stood p.stood o.how p.how apart
  where
    go : (y z a b : Session) → Among y xs → Among z xs → Fate x.txn.session (at_stage stage) y a → Fate x.txn.session (at_stage stage) z b → a.txn.session ≢ b.txn.session → SharesLatch a.stage b.stage
    go y z _ _ i j (Changes e) (Changes f) apart = absurd (apart (e ∙ sym f))
    go y z _ _ i j (Changes e) (Stays f) apart = (shares z j f).0
    go y z _ _ i j (Stays e) (Changes f) apart = (shares y i e).1
    go y z _ _ i j (Stays e) (Stays f) apart = latch y z i j apart

-- what a new stage of a session and new rows are to fit
pub record Fits (k : Kernel) (x : Session) (stage : Stage) (rows : List Row) : Type 0 where
  pub here : Among x k.sessions
  pub active : is_active x ≡ true
  pub active' : is_active_stage stage ≡ true
  pub unqueued : is_queued x.stage ≡ false
  pub unqueued' : is_queued stage ≡ false
  pub locks : IsSound rows
  pub acyclic : NoCycle rows
  pub owned : RowsOwned (staged x.txn.session stage k.sessions) rows
  pub names : NamesUsed k.tree.next rows
  pub held : (s : ℕ) → StayHeld s k.locks rows
  pub met : (y : Session) → Among y k.sessions → y.txn.session ≢ x.txn.session → StayMet y.txn.session k.locks rows
  pub awaits : (y : Session) (op : Op) → Among y k.sessions → y.txn.session ≢ x.txn.session → AwaitsObject k.locks y.txn.session op → AwaitsObject rows y.txn.session op
  pub shares : (y : Session) → Among y k.sessions → y.txn.session ≢ x.txn.session → SharesLatch stage y.stage × SharesLatch y.stage stage
  pub in_space : OfStage HasRectangle stage
  pub at : HoldsStage (with_both (staged x.txn.session stage k.sessions) rows k) (at_stage stage x) stage
  pub counts : WithinCounts (with_both (staged x.txn.session stage k.sessions) rows k)

pub restaged-sound : (k : Kernel) (x : Session) (stage : Stage) (rows : List Row) → Bare k → Fits k x stage rows → Bare (with_both (staged x.txn.session stage k.sessions) rows k)
restaged-sound k x stage rows sound fits = record {
  valid = sound.valid;
  ascending = sound.ascending;
  entry_numbers = sound.entry_numbers;
  base = sound.base;
  serial = sound.serial;
  current = sound.current;
  locks = fits.locks;
  acyclic = fits.acyclic;
  rows = fits.owned;
  names = fits.names;
  sessions = sessions-staged k.next_txn (length k.commits) s stage k.sessions sound.sessions;
  latch = latch-staged x stage k.sessions sound.latch fits.shares;
  stages = λ y i. let o = of_change s (at_stage stage) k.sessions y i in stages o.old y o.stood o.how;
  in_space = λ y i. let o = of_change s (at_stage stage) k.sessions y i in in_space o.old y o.stood o.how;
  rectangles = λ y i a. let o = of_change s (at_stage stage) k.sessions y i in rectangles o.old y o.stood o.how a;
  parts = λ y i a. let o = of_change s (at_stage stage) k.sessions y i in parts-still (granules k.tree) (locks_of k.sessions k.locks) (locks_of xs rows) y.txn.number y.txn.ops (still y.txn.number) (parts o.old y o.stood o.how a);
  objects = λ y pair i a j. let o = of_change s (at_stage stage) k.sessions y i in object-stays y.txn.session k.locks rows (fits.held y.txn.session) pair.op (objects o.old y pair o.stood o.how a j);
  owned = marks_owned-still (granules k.tree) (locks_of k.sessions k.locks) (locks_of xs rows) (entries_in k) still sound.owned;
  replays = λ y i a. let o = of_change s (at_stage stage) k.sessions y i in replays o.old y o.stood o.how a;
  active = λ t e i m. let a = sound.active t e i m in marks t a.0 a.1 a.2 a.3 (cond (is_session s a.0) (at_stage stage a.0) a.0) (fate s (at_stage stage) a.0) (among_map (λ z. cond (is_session s z) (at_stage stage z) z) a.0 k.sessions a.1);
  numbers = sound.numbers;
  dead = sound.dead;
  queued = queue-staged k x stage sound.sessions.ascending sound.queued fits.here fits.unqueued fits.unqueued';
  counts = fits.counts;
}
  where
    s : ℕ
    s = x.txn.session

    xs : List Session
    xs = staged s stage k.sessions

    same : (y : Session) → Among y k.sessions → y.txn.session ≡ s → y ≡ x
    same y i e = one-session k.sessions sound.sessions.ascending y x i fits.here e

    was-active : (y : Session) → Among y k.sessions → y.txn.session ≡ s → is_active y ≡ true
    was-active y i e = subst (λ (z : Session). is_active z ≡ true) (sym (same y i e)) fits.active

    still : (t : ℕ) → HoldsStill (locks_of k.sessions k.locks) (locks_of xs rows) t
    still t = locks-still k.sessions xs k.locks rows t (there-changed s (at_stage stage) (staged-keeps stage) k.sessions t) (λ y i e. fits.held y.txn.session)

    stages : (z y : Session) → Among z k.sessions → Fate s (at_stage stage) z y → HoldsStage (with_both xs rows k) y y.stage
    stages z _ j (Changes e) = subst (λ (w : Session). HoldsStage (with_both xs rows k) (at_stage stage w) stage) (sym (same z j e)) fits.at
    stages z _ j (Stays e) = stage_stays k (with_both xs rows k) z z.stage refl refl (fits.met z j e) (λ op. fits.awaits z op j e) (sound.stages z j)

    in_space : (z y : Session) → Among z k.sessions → Fate s (at_stage stage) z y → OfStage HasRectangle y.stage
    in_space z _ j (Changes e) = fits.in_space
    in_space z _ j (Stays e) = sound.in_space z j

    rectangles : (z y : Session) → Among z k.sessions → Fate s (at_stage stage) z y → is_active y ≡ true → HasRectangles y.txn.ops
    rectangles z _ j (Changes e) a = sound.rectangles z j (was-active z j e)
    rectangles z _ j (Stays e) a = sound.rectangles z j a

    parts : (z y : Session) → Among z k.sessions → Fate s (at_stage stage) z y → is_active y ≡ true → HoldsParts (granules k.tree) (locks_of k.sessions k.locks) y.txn.number y.txn.ops
    parts z _ j (Changes e) a = sound.parts z j (was-active z j e)
    parts z _ j (Stays e) a = sound.parts z j a

    objects : (z y : Session) (pair : Answered) → Among z k.sessions → Fate s (at_stage stage) z y → is_active y ≡ true → Among pair y.txn.ops → HoldsObject k.locks y.txn.session pair.op
    objects z _ pair j (Changes e) a i = sound.objects z pair j (was-active z j e) i
    objects z _ pair j (Stays e) a i = sound.objects z pair j a i

    replays : (z y : Session) → Among z k.sessions → Fate s (at_stage stage) z y → is_active y ≡ true → Replays (entries_in k) y.txn.number y.txn.ops
    replays z _ j (Changes e) a = sound.replays z j (was-active z j e)
    replays z _ j (Stays e) a = sound.replays z j a

    marks : (t : ℕ) (y : Session) → Among y k.sessions → is_active y ≡ true → y.txn.number ≡ t → (z : Session) → Fate s (at_stage stage) y z → Among z xs → (w : Session) × Among w xs × (is_active w ≡ true) × (w.txn.number ≡ t)
    marks t y i a n _ (Changes e) j = (at_stage stage y, j, fits.active', n)
    marks t y i a n _ (Stays e) j = (y, j, a, n)
