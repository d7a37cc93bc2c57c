-- What is held, as rows and sessions come, change and go.
use Rattle.std.proofs.Common.{◌≡◌, ◌≢◌, ℕ, Bool, true, false, not, ◌&&◌, ◌||◌, List, [], ◌∷◌, ◌++◌, map, filter, nat_eq, refl, sym, ap, ◌∙◌, subst, inl, inr, true≢false, arith}
use Rattle.std.specs.List.{list_any}
use Rattle.sp_rect.specs.Plane.{Rectangle}
use Rattle.sp_rect.specs.Store.{Part, Id, Area, part_of}
use Rattle.sp_rect.specs.declared.operation.Op.{Op}
use Rattle.sp_rect.specs.declared.operation.Answered.{Answered}
use Rattle.sp_locks.specs.declared.mode.Mode.{Mode}
use Rattle.sp_locks.specs.declared.mode.Mode.TheVariants.{IX, S, X}
use Rattle.sp_locks.specs.declared.row.Name.{Name}
use Rattle.sp_locks.specs.declared.row.Name.TheVariants.{Granule as OnGranule, Object}
use Rattle.sp_locks.specs.declared.row.Row.{Row}
use Rattle.sp_locks.specs.declared.row.Duration.{Duration}
use Rattle.sp_locks.specs.declared.row.Duration.TheVariants.{Commit, Short}
use Rattle.sp_locks.specs.declared.row.Scope.{Scope}
use Rattle.sp_locks.specs.declared.row.Scope.TheVariants.{ShortLocks, AllRows}
use Rattle.sp_locks.specs.declared.needs.Need.{Need}
use Rattle.sp_locks.specs.Modes.{compatible, covers}
use Rattle.sp_locks.specs.Rows.{is_lock_of, is_held_by, same_name, same_duration, goes}
use Rattle.sp_locks.specs.Table.{rows_on, released, given}
use Rattle.sp_locks.specs.Soundness.{In, IsSound}
use Rattle.sp_locks.specs.Changes.{IsCovered}
use Rattle.sp_locks.proofs.Names.{same_is, same-refl}
use Rattle.sp_locks.proofs.Members.{in-left}
use Rattle.sp_locks.proofs.Keeping.{in-name}
use Rattle.sp_locks.proofs.Changing.{released-covers}
use Rattle.sp_node.specs.declared.node.Entry.{Entry}
use Rattle.sp_node.specs.Among.{Among}
use Rattle.sp_node.proofs.Among.{among_flat_map, from_flat_map}
use Rattle.sp_granule.specs.Granules.{Granule, Standing, standing}
use Rattle.sp_protection.specs.Holding.{Lock, HoldsMode, AllCompatible}
use Rattle.sp_protection.specs.Guarding.{Guarded, Owned, MarksOwned}
use Rattle.sp_protection.specs.Replays.{HoldsPart, HoldsParts}
use Rattle.sp_protection.proofs.Clashes.{covers-trans}
use Rattle.sp_protection.proofs.Leaves.{among_map, from_map}
use Rattle.sp_model.specs.declared.session.Session.{Session}
use Rattle.sp_model.specs.State.{lock_of, locks_of}
use Rattle.sp_model.specs.Plans.{is_held}
use Rattle.sp_model.specs.Soundness.{SoundSessions, HoldsObject, is_met}
use Rattle.sp_model.proofs.Sessions.{number-same, number-tell, number-apart, not-true, to-not, among-kept, of_kept, one-session}

pub in-among : (x : Row) (xs : List Row) → In x xs → Among x xs
in-among x [] h = absurd h
in-among x (y ∷ ys) (inl e) = inl (sym e)
in-among x (y ∷ ys) (inr h) = inr (in-among x ys h)

pub among-in : (x : Row) (xs : List Row) → Among x xs → In x xs
among-in x [] h = absurd h
among-in x (y ∷ ys) (inl e) = inl (sym e)
among-in x (y ∷ ys) (inr h) = inr (among-in x ys h)

pub any-among : {A : Type 0} (test : A → Bool) (xs : List A) → list_any test xs ≡ true → (x : A) × Among x xs × (test x ≡ true)
any-among test [] h = absurd (true≢false (sym h))
any-among {A} test (y ∷ ys) h = go (any-among test ys) (test y) refl h
  where
    go : (list_any test ys ≡ true → (x : A) × Among x ys × (test x ≡ true)) → (b : Bool) → test y ≡ b → (b || list_any test ys) ≡ true → (x : A) × Among x (y ∷ ys) × (test x ≡ true)
    go rest true k l = (y, inl refl, k)
    go rest false k l = let r = rest l in (r.0, inr r.1, r.2)

pub among-any : {A : Type 0} (test : A → Bool) (x : A) (xs : List A) → Among x xs → test x ≡ true → list_any test xs ≡ true
among-any test x [] i k = absurd i
among-any {A} test x (y ∷ ys) (inl e) k = first (test y) (list_any test ys) (subst (λ (z : A). test z ≡ true) e k)
  where
    first : (a b : Bool) → a ≡ true → (a || b) ≡ true
    first a b h = grind arith
among-any test x (y ∷ ys) (inr i) k = second (test y) (list_any test ys) (among-any test x ys i k)
  where
    second : (a b : Bool) → b ≡ true → (a || b) ≡ true
    second a b h = grind arith

pub first_of_both : (a b : Bool) → (a && b) ≡ true → a ≡ true
first_of_both a b h = grind arith

pub second_of_both : (a b : Bool) → (a && b) ≡ true → b ≡ true
second_of_both a b h = grind arith

pub both : (a b : Bool) → a ≡ true → b ≡ true → (a && b) ≡ true
both a b h k = grind arith

pub lasts-same : (a b : Duration) → same_duration a b ≡ true → a ≡ b
lasts-same Commit Commit h = refl
lasts-same Short Short h = refl
lasts-same Commit Short h = absurd (true≢false (sym h))
lasts-same Short Commit h = absurd (true≢false (sym h))

pub lasts-tell : (a b : Duration) → a ≡ b → same_duration a b ≡ true
lasts-tell a b e = subst (λ c. same_duration a c ≡ true) e (itself a)
  where
    itself : (c : Duration) → same_duration c c ≡ true
    itself Commit = refl
    itself Short = refl

pub name-tell : (a b : Name) → a ≡ b → same_name a b ≡ true
name-tell a b e = subst (λ c. same_name a c ≡ true) e (same-refl a)

-- what is said of a lock of a session
pub record IsLock (s : ℕ) (duration : Duration) (row : Row) : Type 0 where
  pub held : row.waiting ≡ false
  pub by : row.session ≡ s
  pub lasts : row.duration ≡ duration

pub of_held_by : (s : ℕ) (row : Row) → is_held_by s row ≡ true → (row.waiting ≡ false) × (row.session ≡ s)
of_held_by s row h = (not-true row.waiting (first_of_both (not row.waiting) _ h), number-same row.session s (second_of_both (not row.waiting) _ h))

pub to_held_by : (s : ℕ) (row : Row) → row.waiting ≡ false → row.session ≡ s → is_held_by s row ≡ true
to_held_by s row w e = both (not row.waiting) (nat_eq row.session s) (to-not row.waiting w) (number-tell row.session s e)

pub of_lock : (s : ℕ) (duration : Duration) (row : Row) → is_lock_of s duration row ≡ true → IsLock s duration row
of_lock s duration row h =
    let k = of_held_by s row (first_of_both (is_held_by s row) _ h) in
    record { held = k.0; by = k.1; lasts = lasts-same row.duration duration (second_of_both (is_held_by s row) _ h) }

pub to_lock : (s : ℕ) (duration : Duration) (row : Row) → IsLock s duration row → is_lock_of s duration row ≡ true
to_lock s duration row l = both (is_held_by s row) (same_duration row.duration duration) (to_held_by s row l.held l.by) (lasts-tell row.duration duration l.lasts)

-- a lock of the session to its end covers the mode on the name
pub record HoldsRow (rows : List Row) (s : ℕ) (name : Name) (mode : Mode) : Type 0 where
  pub row : Row
  pub stands : Among row rows
  pub lock : IsLock s Commit row
  pub on : row.name ≡ name
  pub enough : covers row.mode mode ≡ true

-- some lock of the session does, for however long it is held
pub record MeetsRow (rows : List Row) (s : ℕ) (name : Name) (mode : Mode) : Type 0 where
  pub row : Row
  pub stands : Among row rows
  pub held : row.waiting ≡ false
  pub by : row.session ≡ s
  pub on : row.name ≡ name
  pub enough : covers row.mode mode ≡ true

pub of_held : (rows : List Row) (s : ℕ) (need : Need) → is_held rows s need ≡ true → HoldsRow rows s need.name need.mode
of_held rows s need h =
    let a = any-among (λ row. is_lock_of s Commit row && (same_name row.name need.name && covers row.mode need.mode)) rows h in
    let k = second_of_both (is_lock_of s Commit a.0) _ a.2 in
    record { row = a.0; stands = a.1; lock = of_lock s Commit a.0 (first_of_both (is_lock_of s Commit a.0) _ a.2); on = same_is a.0.name need.name (first_of_both (same_name a.0.name need.name) _ k); enough = second_of_both (same_name a.0.name need.name) _ k }

pub to_held : (rows : List Row) (s : ℕ) (need : Need) → HoldsRow rows s need.name need.mode → is_held rows s need ≡ true
to_held rows s need h =
    among-any (λ row. is_lock_of s Commit row && (same_name row.name need.name && covers row.mode need.mode)) h.row rows h.stands
    (both (is_lock_of s Commit h.row) (same_name h.row.name need.name && covers h.row.mode need.mode) (to_lock s Commit h.row h.lock) (both (same_name h.row.name need.name) (covers h.row.mode need.mode) (name-tell h.row.name need.name h.on) h.enough))

pub of_met : (rows : List Row) (s : ℕ) (need : Need) → is_met rows s need ≡ true → MeetsRow rows s need.name need.mode
of_met rows s need h =
    let a = any-among (λ row. is_held_by s row && (same_name row.name need.name && covers row.mode need.mode)) rows h in
    let k = second_of_both (is_held_by s a.0) _ a.2 in
    let l = of_held_by s a.0 (first_of_both (is_held_by s a.0) _ a.2) in
    record { row = a.0; stands = a.1; held = l.0; by = l.1; on = same_is a.0.name need.name (first_of_both (same_name a.0.name need.name) _ k); enough = second_of_both (same_name a.0.name need.name) _ k }

pub to_met : (rows : List Row) (s : ℕ) (need : Need) → MeetsRow rows s need.name need.mode → is_met rows s need ≡ true
to_met rows s need h =
    among-any (λ row. is_held_by s row && (same_name row.name need.name && covers row.mode need.mode)) h.row rows h.stands
    (both (is_held_by s h.row) (same_name h.row.name need.name && covers h.row.mode need.mode) (to_held_by s h.row h.held h.by) (both (same_name h.row.name need.name) (covers h.row.mode need.mode) (name-tell h.row.name need.name h.on) h.enough))

-- each lock of the session is covered by one that it holds as long
abbrev pub StayMet : ℕ → List Row → List Row → Type 0
StayMet s rows rows' = (row : Row) → Among row rows → row.waiting ≡ false → row.session ≡ s → IsCovered rows' row

-- each of its locks to the end is
abbrev pub StayHeld : ℕ → List Row → List Row → Type 0
StayHeld s rows rows' = (row : Row) → Among row rows → IsLock s Commit row → IsCovered rows' row

pub met-held : (s : ℕ) (rows rows' : List Row) → StayMet s rows rows' → StayHeld s rows rows'
met-held s rows rows' stay row i l = stay row i l.held l.by

pub row-stays : (s : ℕ) (rows rows' : List Row) → StayHeld s rows rows' → (name : Name) (mode : Mode) → HoldsRow rows s name mode → HoldsRow rows' s name mode
row-stays s rows rows' stay name mode h =
    let c = stay h.row h.stands h.lock in
    record { row = c.row; stands = in-among c.row rows' c.stands; lock = record { held = c.held; by = c.session ∙ h.lock.by; lasts = c.duration ∙ h.lock.lasts }; on = c.name ∙ h.on; enough = covers-trans c.row.mode h.row.mode mode c.covers h.enough }

pub meets-stays : (s : ℕ) (rows rows' : List Row) → StayMet s rows rows' → (name : Name) (mode : Mode) → MeetsRow rows s name mode → MeetsRow rows' s name mode
meets-stays s rows rows' stay name mode h =
    let c = stay h.row h.stands h.held h.by in
    record { row = c.row; stands = in-among c.row rows' c.stands; held = c.held; by = c.session ∙ h.by; on = c.name ∙ h.on; enough = covers-trans c.row.mode h.row.mode mode c.covers h.enough }

pub held-stays : (s : ℕ) (rows rows' : List Row) → StayHeld s rows rows' → (need : Need) → is_held rows s need ≡ true → is_held rows' s need ≡ true
held-stays s rows rows' stay need h = to_held rows' s need (row-stays s rows rows' stay need.name need.mode (of_held rows s need h))

pub met-stays : (s : ℕ) (rows rows' : List Row) → StayMet s rows rows' → (need : Need) → is_met rows s need ≡ true → is_met rows' s need ≡ true
met-stays s rows rows' stay need h = to_met rows' s need (meets-stays s rows rows' stay need.name need.mode (of_met rows s need h))

pub object-stays : (s : ℕ) (rows rows' : List Row) → StayHeld s rows rows' → (op : Op) → HoldsObject rows s op → HoldsObject rows' s op
object-stays s rows rows' stay op h = λ name mode e. held-stays s rows rows' stay (record { name = name; mode = mode; duration = Commit }) (h name mode e)

-- a row covers itself
pub covered-self : (row : Row) (rows : List Row) → Among row rows → row.waiting ≡ false → IsCovered rows row
covered-self row rows i w = record { row = row; stands = among-in row rows i; held = w; session = refl; name = refl; duration = refl; covers = itself row.mode }
  where
    itself : (a : Mode) → covers a a ≡ true
    itself a = grind arith

pub rows-stay : (s : ℕ) (rows rows' : List Row) → ((row : Row) → Among row rows → row.waiting ≡ false → Among row rows') → StayMet s rows rows'
rows-stay s rows rows' more row i w e = covered-self row rows' (more row i w) w

-- a release takes locks of its session alone, and one of short locks takes short ones alone
pub released-others : (scope : Scope) (s t : ℕ) (rows : List Row) → t ≢ s → StayMet t rows (released scope s rows)
released-others scope s t rows apart row i w e = released-covers scope s rows row (among-in row rows i) w (stays scope)
  where
    other : nat_eq row.session s ≡ false
    other = number-apart row.session s (λ f. apart (sym e ∙ f))

    none : (a b c : Bool) → b ≡ false → ((a && b) && c) ≡ false
    none a b c h = grind arith

    stays : (scope : Scope) → goes scope s row ≡ false
    stays ShortLocks = none (not row.waiting) (nat_eq row.session s) (same_duration row.duration Short) other
    stays AllRows = other

pub released-short : (s : ℕ) (rows : List Row) → StayHeld s rows (released ShortLocks s rows)
released-short s rows row i l = released-covers ShortLocks s rows row (among-in row rows i) l.held (none (is_held_by s row) (same_duration row.duration Short) (long row.duration l.lasts))
  where
    none : (a b : Bool) → b ≡ false → (a && b) ≡ false
    none a b h = grind arith

    long : (d : Duration) → d ≡ Commit → same_duration d Short ≡ false
    long d e = subst (λ (c : Duration). same_duration c Short ≡ false) (sym e) refl

-- gifts come behind
pub given-stays : (s t : ℕ) (needs : List Need) (rows : List Row) → StayMet t rows (rows ++ given s needs)
given-stays s t needs rows = rows-stay t rows (rows ++ given s needs) (λ row i w. in-among row (rows ++ given s needs) (in-left row rows (given s needs) (among-in row rows i)))

-- where a lock of a transaction comes from
pub record OfLock (xs : List Session) (rows : List Row) (lock : Lock) : Type 0 where
  pub owner : Session
  pub among : Among owner xs
  pub row : Row
  pub stands : Among row rows
  pub is : IsLock owner.txn.session Commit row
  pub same : lock_of owner row ≡ lock

pub of_locks : (xs : List Session) (rows : List Row) (lock : Lock) → Among lock (locks_of xs rows) → OfLock xs rows lock
of_locks xs rows lock i =
    let a = from_flat_map (λ (x : Session). map (lock_of x) (filter (is_lock_of x.txn.session Commit) rows)) lock xs i in
    let b = from_map (lock_of a.0) lock (filter (is_lock_of a.0.txn.session Commit) rows) a.2 in
    let c = of_kept (is_lock_of a.0.txn.session Commit) b.0 rows b.1 in
    record { owner = a.0; among = a.1; row = b.0; stands = c.0; is = of_lock a.0.txn.session Commit b.0 c.1; same = b.2 }

pub among-locks : (xs : List Session) (rows : List Row) (x : Session) (row : Row) → Among x xs → Among row rows → IsLock x.txn.session Commit row → Among (lock_of x row) (locks_of xs rows)
among-locks xs rows x row i j l =
    among_flat_map (λ (x : Session). map (lock_of x) (filter (is_lock_of x.txn.session Commit) rows)) (lock_of x row) x xs i
    (among_map (lock_of x) row (filter (is_lock_of x.txn.session Commit) rows) (among-kept (is_lock_of x.txn.session Commit) row rows j (to_lock x.txn.session Commit row l)))

-- what a session of the transaction holds, and back
pub row-mode : (xs : List Session) (rows : List Row) (x : Session) (name : Name) (mode : Mode) → Among x xs → HoldsRow rows x.txn.session name mode → HoldsMode (locks_of xs rows) x.txn.number name mode
row-mode xs rows x name mode i h = record { lock = lock_of x h.row; held = among-locks xs rows x h.row i h.stands h.lock; by_txn = refl; on_name = h.on; enough = h.enough }

pub mode-row : (xs : List Session) (rows : List Row) (t : ℕ) (name : Name) (mode : Mode) → HoldsMode (locks_of xs rows) t name mode → (x : Session) × Among x xs × (x.txn.number ≡ t) × HoldsRow rows x.txn.session name mode
mode-row xs rows t name mode h =
    let o = of_locks xs rows h.lock h.held in (
      o.owner,
      o.among,
      ap (λ (l : Lock). l.txn) o.same ∙ h.by_txn,
      record { row = o.row; stands = o.stands; lock = o.is; on = ap (λ (l : Lock). l.name) o.same ∙ h.on_name; enough = subst (λ (l : Lock). covers l.mode mode ≡ true) (sym o.same) h.enough },
    )

-- what the transaction holds it holds still
abbrev pub HoldsStill : List Lock → List Lock → ℕ → Type 0
HoldsStill locks locks' t = (name : Name) (mode : Mode) → HoldsMode locks t name mode → HoldsMode locks' t name mode

-- the sessions of the transaction are there still, under its number
abbrev pub StayThere : List Session → List Session → ℕ → Type 0
StayThere xs xs' t = (x : Session) → Among x xs → x.txn.number ≡ t → (y : Session) × Among y xs' × (y.txn.session ≡ x.txn.session) × (y.txn.number ≡ t)

pub locks-still : (xs xs' : List Session) (rows rows' : List Row) (t : ℕ) → StayThere xs xs' t → ((x : Session) → Among x xs → x.txn.number ≡ t → StayHeld x.txn.session rows rows') → HoldsStill (locks_of xs rows) (locks_of xs' rows') t
locks-still xs xs' rows rows' t there stay name mode h =
    let o = mode-row xs rows t name mode h in
    let y = there o.0 o.1 o.2 in
    subst (λ (n : ℕ). HoldsMode (locks_of xs' rows') n name mode) y.3
    (row-mode xs' rows' y.0 name mode y.1 (subst (λ (s : ℕ). HoldsRow rows' s name mode) (sym y.2) (row-stays o.0.txn.session rows rows' (stay o.0 o.1 o.2) name mode o.3)))

-- what follows for what is guarded and owned
pub guarded-still : (gs : List Granule) (locks locks' : List Lock) (t : ℕ) (rect : Rectangle) → HoldsStill locks locks' t → Guarded gs locks t rect → Guarded gs locks' t rect
guarded-still gs locks locks' t rect still h = record {
  leaves = λ g p i l had here. still (OnGranule g.number) S (h.leaves g p i l had here);
  points = λ p here. let k = h.points p here in (k.0, k.1, k.2, still (OnGranule k.0.number) S k.3);
}

pub owned-still : (gs : List Granule) (locks locks' : List Lock) (t : ℕ) (e : Standing) → HoldsStill locks locks' t → Owned gs locks t e → Owned gs locks' t e
owned-still gs locks locks' t e still h = record {
  leaf = h.leaf;
  among = h.among;
  is_leaf = h.is_leaf;
  entry = h.entry;
  intent = still (OnGranule h.leaf.number) IX h.intent;
  object = still (Object e.id) X h.object;
}

pub part-still : (gs : List Granule) (locks locks' : List Lock) (t : ℕ) (part : Part) → HoldsStill locks locks' t → HoldsPart gs locks t part → HoldsPart gs locks' t part
part-still gs locks locks' t (Id id) still h = still (Object id) S h
part-still gs locks locks' t (Area rect) still h = guarded-still gs locks locks' t rect still h

pub parts-still : (gs : List Granule) (locks locks' : List Lock) (t : ℕ) (pairs : List Answered) → HoldsStill locks locks' t → HoldsParts gs locks t pairs → HoldsParts gs locks' t pairs
parts-still gs locks locks' t pairs still h = λ pair i. part-still gs locks locks' t (part_of pair.op) still (h pair i)

pub marks_owned-still : (gs : List Granule) (locks locks' : List Lock) (es : List Entry) → ((t : ℕ) → HoldsStill locks locks' t) → MarksOwned gs locks es → MarksOwned gs locks' es
marks_owned-still gs locks locks' es still h = λ t e i m. owned-still gs locks locks' t (standing e) (still t) (h t e i m)

-- different transactions hold compatible modes
pub locks-compatible : (next commits : ℕ) (xs : List Session) (rows : List Row) → SoundSessions next commits xs → IsSound rows → AllCompatible (locks_of xs rows)
locks-compatible next commits xs rows sessions sound a b i j other on = go (of_locks xs rows a i) (of_locks xs rows b j)
  where
    go : OfLock xs rows a → OfLock xs rows b → compatible a.mode b.mode ≡ true
    go p q =
        let named : p.row.name ≡ q.row.name = ap (λ (l : Lock). l.name) p.same ∙ on ∙ ap (λ (l : Lock). l.name) (sym q.same) in
        let apart : p.row.session ≢ q.row.session = λ e. other
        (ap (λ (l : Lock). l.txn) (sym p.same)
        ∙ ap (λ (x : Session). x.txn.number) (one-session xs sessions.ascending p.owner q.owner p.among q.among (sym p.is.by ∙ e ∙ q.is.by))
        ∙ ap (λ (l : Lock). l.txn) q.same) in
        subst (λ (l : Lock). compatible l.mode b.mode ≡ true) p.same
        (subst (λ (l : Lock). compatible p.row.mode l.mode ≡ true) q.same
        (sound.compatible p.row.name p.row q.row (in-name p.row rows (among-in p.row rows p.stands))
        (subst (λ (n : Name). In q.row (rows_on n rows)) (sym named) (in-name q.row rows (among-in q.row rows q.stands))) p.is.held q.is.held apart))
