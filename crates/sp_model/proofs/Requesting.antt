-- A request of a lock keeps a kernel sound, whether it is granted or has to wait.
use Rattle.std.proofs.Common.{◌≡◌, ◌≢◌, ◌⊎◌, ℕ, ◌<◌, ◌≤◌, Bool, true, false, not, ◌&&◌, ◌||◌, if◌then◌else◌, List, [], ◌∷◌, ◌++◌, filter, None, nat_eq, refl, sym, ap, ◌∙◌, subst, inl, inr, true≢false, arith, append-nil, append_assoc}
use Rattle.sp_list.specs.Emptiness.{is_empty}
use Rattle.sp_locks.specs.declared.mode.Mode.{Mode}
use Rattle.sp_locks.specs.declared.row.Name.{Name}
use Rattle.sp_locks.specs.declared.row.Name.TheVariants.{Granule as OnGranule}
use Rattle.sp_locks.specs.declared.row.Row.{Row}
use Rattle.sp_locks.specs.declared.row.Duration.{Duration}
use Rattle.sp_locks.specs.declared.row.Duration.TheVariants.{Short}
use Rattle.sp_locks.specs.declared.row.Scope.TheVariants.{ShortLocks}
use Rattle.sp_locks.specs.Modes.{compatible, covers}
use Rattle.sp_locks.specs.Rows.{is_held_by, is_short, same_duration, is_blocked, goes, held_in, retried, waiting_in, with_lock, granted}
use Rattle.sp_locks.specs.Table.{rows_on, row_of, with_row_on, released, held, blockers}
use Rattle.sp_locks.specs.Soundness.{In, IsSound, WaitersBlocked}
use Rattle.sp_locks.specs.Changes.{IsCovered}
use Rattle.sp_locks.specs.Blocking.{member, is_compatible_with, WaitsAgainst, Blocks}
use Rattle.sp_locks.proofs.Members.{none-any}
use Rattle.sp_locks.proofs.Blocking.{blocked-is, held-nothing, held-against, against-held, blockers-block, block-blockers}
use Rattle.sp_locks.proofs.OnNames.{released-on}
use Rattle.sp_locks.proofs.Keeping.{in-name, in-table, no_waiter, grant-sound, wait-sound, release-sound}
use Rattle.sp_waits.specs.Edges.{Closes}
use Rattle.sp_waits.proofs.Acyclic.{wait-acyclic, release_short-acyclic}
use Rattle.sp_waits.proofs.Granting.{grant-acyclic}
use Rattle.sp_node.specs.Among.{Among}
use Rattle.sp_protection.proofs.Clashes.{covers-trans}
use Rattle.sp_model.specs.declared.session.Session.{Session}
use Rattle.sp_model.specs.declared.session.Stage.{Stage}
use Rattle.sp_model.specs.State.{Kernel, is_active, is_active_stage, at_stage, staged}
use Rattle.sp_model.specs.Refusals.{under_way}
use Rattle.sp_model.specs.Plans.{HasRectangle}
use Rattle.sp_model.specs.Soundness.{MayHave, HasOwner, RowsOwned, SharesLatch, HoldsStage, is_queued, OfStage}
use Rattle.sp_model.proofs.Bare.{Bare}
use Rattle.sp_model.proofs.Sessions.{number-tell, number-same, number-differ, changed-among}
use Rattle.sp_model.proofs.Holding.{in-among, among-in, StayMet, StayHeld, met-held, released-others, released-short}
use Rattle.sp_model.proofs.Released.{ComesOf, may-come, released-owned, released-names, released-awaits_object}
use Rattle.sp_model.proofs.Locking.{locked-stays, of_locked, of_waiting, waiting-met, locked-awaits_object, waiting-awaits_object}
use Rattle.sp_model.proofs.Limits.{counts-no_more}
use Rattle.sp_model.proofs.Awake.{released-awake, released-long, owned-staged}
use Rattle.sp_model.proofs.Restaging.{with_both, restaged-sound}

-- rows of which each that waits is blocked stay as they are when they are tried
retried-same : (before rest : List Row) → WaitersBlocked (before ++ rest) → retried before rest ≡ before ++ rest
retried-same before [] h = sym (append-nil before)
retried-same before (r ∷ rest) h = go r.waiting refl (retried-same (before ++ r ∷ []) rest (subst WaitersBlocked (sym (append_assoc before (r ∷ []) rest)) h))
  where
    either : (a b : Bool) → b ≡ true → (a || b) ≡ true
    either a b e = grind arith

    stays : (w : Bool) → r.waiting ≡ w → (not w || is_blocked before rest r.session r.mode) ≡ true
    stays false e = refl
    stays true e = either false (is_blocked before rest r.session r.mode) (h before rest r refl e)

    go : (w : Bool) → r.waiting ≡ w → retried (before ++ r ∷ []) rest ≡ (before ++ r ∷ []) ++ rest → retried before (r ∷ rest) ≡ before ++ r ∷ rest
    go w e next = choose (not r.waiting || is_blocked before rest r.session r.mode) (stays r.waiting refl)
      where
        choose : (b : Bool) → b ≡ true
            → (if b then retried (before ++ r ∷ []) rest else (if is_short r then retried before rest else retried (with_lock (granted r) before) rest)) ≡ before ++ r ∷ rest
        choose true k = next ∙ append_assoc before (r ∷ []) rest
        choose false k = absurd (true≢false (sym k))

all-kept : {A : Type 0} (test : A → Bool) (xs : List A) → ((x : A) → Among x xs → test x ≡ true) → filter test xs ≡ xs
all-kept test [] h = refl
all-kept test (x ∷ xs) h = rw (h x (inl refl)) (ap (λ zs. x ∷ zs) (all-kept test xs (λ y i. h y (inr i))))

-- on a name on which the session holds nothing, the release of its short locks changes nothing
released-same : (s : ℕ) (name : Name) (rows : List Row) → IsSound rows → held s name rows ≡ None → rows_on name (released ShortLocks s rows) ≡ rows_on name rows
released-same s name rows sound none =
    released-on ShortLocks s name rows
    ∙ ap (retried []) (all-kept (λ x. not (goes ShortLocks s x)) (rows_on name rows) stay)
    ∙ retried-same [] (rows_on name rows) (sound.blocked name)
  where
    none_of : (a b : Bool) → a ≡ false → not (a && b) ≡ true
    none_of a b e = grind arith

    stay : (x : Row) → Among x (rows_on name rows) → not (goes ShortLocks s x) ≡ true
    stay x i = none_of (is_held_by s x) (same_duration x.duration Short) (none-any (is_held_by s) (rows_on name rows) x (held-nothing s (rows_on name rows) none) (among-in x (rows_on name rows) i))

-- who blocks a request blocks it once the requester's short locks are gone
pub still-blocks : (s other : ℕ) (name : Name) (mode : Mode) (rows : List Row) → IsSound rows → Blocks s name mode rows other → Blocks s name mode (released ShortLocks s rows) other
still-blocks s other name mode rows sound (apart, how) = (apart, go how)
  where
    against : (a b m : Mode) → covers a b ≡ true → compatible m b ≡ false → compatible m a ≡ false
    against a b m c d = grind arith

    holder : is_compatible_with mode (held other name rows) ≡ false → is_compatible_with mode (held other name (released ShortLocks s rows)) ≡ false
    holder h =
        let x = against-held other mode (rows_on name rows) h in
        let n = in-table name x.0 rows x.1 in
        let c = released-others ShortLocks s other rows apart x.0 (in-among x.0 rows n.0) x.2 x.3 in
        held-against other mode c.row (rows_on name (released ShortLocks s rows)) (subst (λ (m : Name). In c.row (rows_on m (released ShortLocks s rows))) (c.name ∙ sym n.1) (in-name c.row (released ShortLocks s rows) c.stands)) c.held (c.session ∙ x.3) (against c.row.mode x.0.mode mode c.covers x.4)

    go : (is_compatible_with mode (held other name rows) ≡ false) ⊎ ((held s name rows ≡ None) × WaitsAgainst mode name other rows)
        → (is_compatible_with mode (held other name (released ShortLocks s rows)) ≡ false) ⊎ ((held s name (released ShortLocks s rows) ≡ None) × WaitsAgainst mode name other (released ShortLocks s rows))
    go (inl h) = inl (holder h)
    go (inr (none, w)) =
        let same = released-same s name rows sound none in
        inr (
          ap (held_in s) same ∙ none,
          record {
            row = w.row;
            stands = (in-table name w.row (released ShortLocks s rows) (subst (In w.row) (sym same) (subst (λ (m : Name). In w.row (rows_on m rows)) w.on (in-name w.row rows w.stands)))).0;
            waits = w.waits;
            on = w.on;
            by = w.by;
            against = w.against;
          },
        )

pub unblocked-before : (s : ℕ) (name : Name) (mode : Mode) (rows : List Row) → IsSound rows → blockers s name mode (released ShortLocks s rows) ≡ [] → blockers s name mode rows ≡ []
unblocked-before s name mode rows sound free = go (blockers s name mode rows) refl
  where
    none : (us : List ℕ) (u : ℕ) → us ≡ [] → member u us ≡ true → ⊥
    none us u e m = true≢false (sym m ∙ ap (member u) e)

    first : (u : ℕ) (us : List ℕ) → member u (u ∷ us) ≡ true
    first u us = ap (λ b. b || member u us) (number-tell u u refl)

    go : (us : List ℕ) → blockers s name mode rows ≡ us → us ≡ []
    go [] e = refl
    go (u ∷ us) e =
        let b = still-blocks s u name mode rows sound (blockers-block rows s u name mode (ap (member u) e ∙ first u us)) in
        absurd (none (blockers s name mode (released ShortLocks s rows)) u free (block-blockers (released ShortLocks s rows) s u name mode b))

some : (xs : List ℕ) → xs ≢ [] → not (is_empty xs) ≡ true
some [] h = absurd (h refl)
some (x ∷ xs) h = refl

-- what is covered by what is covered is covered
covered-then : (rows : List Row) (row : Row) (x : Row) → row.session ≡ x.session → row.name ≡ x.name → row.duration ≡ x.duration → covers row.mode x.mode ≡ true → IsCovered rows row → IsCovered rows x
covered-then rows row x s n d c k = record { row = k.row; stands = k.stands; held = k.held; session = k.session ∙ s; name = k.name ∙ n; duration = k.duration ∙ d; covers = covers-trans k.row.mode row.mode x.mode k.covers c }

pub met-then : (s : ℕ) (rows rows' rows'' : List Row) → StayMet s rows rows' → StayMet s rows' rows'' → StayMet s rows rows''
met-then s rows rows' rows'' a b x i w e = let c = a x i w e in covered-then rows'' c.row x c.session c.name c.duration c.covers (b c.row (in-among c.row rows' c.stands) c.held (c.session ∙ e))

pub held-then : (s : ℕ) (rows rows' rows'' : List Row) → StayHeld s rows rows' → StayMet s rows' rows'' → StayHeld s rows rows''
held-then s rows rows' rows'' a b x i l = let c = a x i l in covered-then rows'' c.row x c.session c.name c.duration c.covers (b c.row (in-among c.row rows' c.stands) c.held (c.session ∙ l.by))

-- what a request and the stage after it are to fit
pub record FitsRequest (k : Kernel) (x : Session) (name : Name) (stage : Stage) : Type 0 where
  pub here : Among x k.sessions
  pub active : is_active x ≡ true
  pub active' : is_active_stage stage ≡ true
  pub unqueued : is_queued x.stage ≡ false
  pub unqueued' : is_queued stage ≡ false
  pub awake : waiting_in x.txn.session k.locks ≡ None
  pub used : (number : ℕ) → name ≡ OnGranule number → number < k.tree.next
  pub shares : (y : Session) → Among y k.sessions → y.txn.session ≢ x.txn.session → SharesLatch stage y.stage × SharesLatch y.stage stage
  pub in_space : OfStage HasRectangle stage
  pub no_more : under_way stage ≤ under_way x.stage

pub granted-sound : (k : Kernel) (x : Session) (name : Name) (mode : Mode) (duration : Duration) (stage : Stage) → Bare k → FitsRequest k x name stage
    → blockers x.txn.session name mode (released ShortLocks x.txn.session k.locks) ≡ []
    → ((row : Row) → Among row k.locks → row.session ≡ x.txn.session → MayHave stage row)
    → MayHave stage (row_of x.txn.session name mode duration false)
    → HoldsStage (with_both (staged x.txn.session stage k.sessions) (with_row_on (row_of x.txn.session name mode duration false) k.locks) k) (at_stage stage x) stage
    → Bare (with_both (staged x.txn.session stage k.sessions) (with_row_on (row_of x.txn.session name mode duration false) k.locks) k)
granted-sound k x name mode duration stage sound fits free may may_r at = restaged-sound k x stage rows sound (record {
  here = fits.here;
  active = fits.active;
  active' = fits.active';
  unqueued = fits.unqueued;
  unqueued' = fits.unqueued';
  locks = locks;
  acyclic = grant-acyclic k.locks r refl fits.awake sound.locks locks sound.acyclic;
  owned = λ row i. owned row (of_locked r k.locks refl row (among-in row rows i));
  names = λ row number i on. names row number on (of_locked r k.locks refl row (among-in row rows i));
  held = λ s. met-held s k.locks rows (locked-stays s r k.locks refl);
  met = λ y i e. locked-stays y.txn.session r k.locks refl;
  awaits = λ y op i e h. locked-awaits_object y.txn.session r k.locks op refl h;
  shares = fits.shares;
  in_space = fits.in_space;
  at = at;
  counts = counts-no_more k x stage rows sound.sessions.ascending sound.counts fits.here fits.active fits.active' fits.no_more;
})
  where
    r : Row
    r = row_of x.txn.session name mode duration false

    rows : List Row
    rows = with_row_on r k.locks

    locks : IsSound rows
    locks = grant-sound r k.locks refl (λ q i. no_waiter x.txn.session k.locks fits.awake q (in-table name q k.locks i).0)
        (blocked-is x.txn.session mode (rows_on name k.locks) ∙ ap (λ xs. not (is_empty xs)) (unblocked-before x.txn.session name mode k.locks sound.locks free)) sound.locks

    before : RowsOwned (staged x.txn.session stage k.sessions) k.locks
    before = owned-staged x stage k.sessions k.locks sound.rows may

    owned : (row : Row) → ComesOf k.locks row ⊎ ComesOf (r ∷ []) row → HasOwner (staged x.txn.session stage k.sessions) row
    owned row (inl c) = let o = before c.row (in-among c.row k.locks c.stands) in record { owner = o.owner; among = o.among; is_owner = o.is_owner ∙ c.session; may = may-come k.locks row c o.owner.stage o.may }
    owned row (inr c) = record {
      owner = at_stage stage x;
      among = changed-among x.txn.session (at_stage stage) k.sessions x fits.here refl;
      is_owner = is c.stands ∙ c.session;
      may = may-come (r ∷ []) row c stage (own c.stands);
    }
      where
        is : In c.row (r ∷ []) → x.txn.session ≡ c.row.session
        is (inl e) = ap (λ (q : Row). q.session) e
        is (inr n) = absurd n

        own : In c.row (r ∷ []) → MayHave stage c.row
        own (inl e) = subst (MayHave stage) e may_r
        own (inr n) = absurd n

    names : (row : Row) (number : ℕ) → row.name ≡ OnGranule number → ComesOf k.locks row ⊎ ComesOf (r ∷ []) row → number < k.tree.next
    names row number on (inl c) = sound.names c.row number (in-among c.row k.locks c.stands) (c.name ∙ on)
    names row number on (inr c) = fits.used number (is c.stands ∙ c.name ∙ on)
      where
        is : In c.row (r ∷ []) → name ≡ c.row.name
        is (inl e) = ap (λ (q : Row). q.name) e
        is (inr n) = absurd n

pub waits-sound : (k : Kernel) (x : Session) (name : Name) (mode : Mode) (duration : Duration) (stage : Stage) → Bare k → FitsRequest k x name stage
    → blockers x.txn.session name mode (released ShortLocks x.txn.session k.locks) ≢ []
    → (Closes (released ShortLocks x.txn.session k.locks) x.txn.session name mode → ⊥)
    → ((row : Row) → (row.waiting ≡ false) × (is_short row ≡ false) → MayHave stage row)
    → MayHave stage (row_of x.txn.session name mode duration true)
    → HoldsStage (with_both (staged x.txn.session stage k.sessions) (with_row_on (row_of x.txn.session name mode duration true) (released ShortLocks x.txn.session k.locks)) k) (at_stage stage x) stage
    → Bare (with_both (staged x.txn.session stage k.sessions) (with_row_on (row_of x.txn.session name mode duration true) (released ShortLocks x.txn.session k.locks)) k)
waits-sound k x name mode duration stage sound fits stuck open_end may may_r at = restaged-sound k x stage rows sound (record {
  here = fits.here;
  active = fits.active;
  active' = fits.active';
  unqueued = fits.unqueued;
  unqueued' = fits.unqueued';
  locks = wait-sound r left refl awake (blocked-is s mode (rows_on name left) ∙ some (blockers s name mode left) stuck) left_sound;
  acyclic = wait-acyclic left s name mode duration left_sound awake (release_short-acyclic k.locks s sound.locks fits.awake sound.acyclic) open_end;
  owned = λ row i. owned row (of_waiting r left refl row (among-in row rows i));
  names = λ row number i on. names row number on (of_waiting r left refl row (among-in row rows i));
  held = λ t. held t (nat_eq t s) refl;
  met = λ y i e. met-then y.txn.session k.locks left rows (released-others ShortLocks s y.txn.session k.locks e) (waiting-met y.txn.session r left refl);
  awaits = λ y op i e h. waiting-awaits_object y.txn.session r left op refl (released-awaits_object ShortLocks s y.txn.session k.locks op e h);
  shares = fits.shares;
  in_space = fits.in_space;
  at = at;
  counts = counts-no_more k x stage rows sound.sessions.ascending sound.counts fits.here fits.active fits.active' fits.no_more;
})
  where
    s : ℕ
    s = x.txn.session

    left : List Row
    left = released ShortLocks s k.locks

    r : Row
    r = row_of s name mode duration true

    rows : List Row
    rows = with_row_on r left

    left_sound : IsSound left
    left_sound = release-sound ShortLocks s k.locks sound.locks

    awake : waiting_in s left ≡ None
    awake = released-awake s k.locks fits.awake

    before : RowsOwned (staged s stage k.sessions) left
    before = owned-staged x stage k.sessions left (released-owned ShortLocks s k.sessions k.locks sound.rows) (λ row i e. may row (released-long s k.locks fits.awake row i e))

    owned : (row : Row) → In row left ⊎ (r ≡ row) → HasOwner (staged s stage k.sessions) row
    owned row (inl i) = before row (in-among row left i)
    owned row (inr e) = record { owner = at_stage stage x; among = changed-among s (at_stage stage) k.sessions x fits.here refl; is_owner = ap (λ (q : Row). q.session) e; may = subst (MayHave stage) e may_r }

    names : (row : Row) (number : ℕ) → row.name ≡ OnGranule number → In row left ⊎ (r ≡ row) → number < k.tree.next
    names row number on (inl i) = released-names ShortLocks s k.tree.next k.locks sound.names row number (in-among row left i) on
    names row number on (inr e) = fits.used number (ap (λ (q : Row). q.name) e ∙ on)

    held : (t : ℕ) (b : Bool) → nat_eq t s ≡ b → StayHeld t k.locks rows
    held t true e = held-then t k.locks left rows (subst (λ (n : ℕ). StayHeld n k.locks left) (sym (number-same t s e)) (released-short s k.locks)) (waiting-met t r left refl)
    held t false e = met-held t k.locks rows (met-then t k.locks left rows (released-others ShortLocks s t k.locks (number-differ t s e)) (waiting-met t r left refl))
