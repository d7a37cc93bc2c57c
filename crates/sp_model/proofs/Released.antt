-- What a release makes of rows: where each comes from, and what becomes of one that waits for a lock to the end.
use Rattle.std.proofs.Common.{◌≡◌, ◌≢◌, ◌⊎◌, ℕ, Bool, true, false, not, ◌||◌, if◌then◌else◌, List, [], ◌∷◌, ◌++◌, filter, refl, sym, ap, ◌∙◌, subst, inl, inr, true≢false, arith, append-nil, append_assoc}
use Rattle.sp_rect.specs.declared.operation.Op.{Op}
use Rattle.sp_locks.specs.declared.mode.Mode.{Mode}
use Rattle.sp_locks.specs.declared.row.Row.{Row}
use Rattle.sp_locks.specs.declared.row.Duration.{Duration}
use Rattle.sp_locks.specs.declared.row.Duration.TheVariants.{Commit, Short}
use Rattle.sp_locks.specs.declared.row.Scope.{Scope}
use Rattle.sp_locks.specs.declared.row.Scope.TheVariants.{ShortLocks, AllRows}
use Rattle.sp_locks.specs.Modes.{covers, join}
use Rattle.sp_locks.specs.Rows.{same_duration, is_lock_of, is_blocked, is_short, raised, with_lock, granted, goes, retried, released_in}
use Rattle.sp_locks.specs.Table.{rows_on, row_of, released}
use Rattle.sp_locks.specs.Soundness.{In}
use Rattle.sp_locks.specs.Changes.{IsCovered}
use Rattle.sp_locks.proofs.Members.{in-left, in-right, in-split, in-kept, of_kept}
use Rattle.sp_locks.proofs.Compatibility.{Made, New, Raised, in-with_lock}
use Rattle.sp_locks.proofs.Once.{waits-same, waiters-with_lock}
use Rattle.sp_locks.proofs.OnNames.{released-on}
use Rattle.sp_locks.proofs.Keeping.{in-name, in-table}
use Rattle.sp_node.specs.Among.{Among}
use Rattle.sp_model.specs.declared.session.Session.{Session}
use Rattle.sp_model.specs.declared.session.Stage.{Stage}
use Rattle.sp_model.specs.declared.session.Stage.TheVariants.{Idle, Started, NameWait, Named, NeedWait, Planned, Queued, Placed}
use Rattle.sp_model.specs.Plans.{is_held}
use Rattle.sp_model.specs.Soundness.{MayHave, RowsOwned, NamesUsed, AwaitsObject}
use Rattle.sp_model.proofs.Sessions.{number-apart, number-tell}
use Rattle.sp_model.proofs.Holding.{in-among, among-in, of_lock, to_held, held-stays, released-others, met-held}

-- what holds of rows while short ones that wait are dropped and others are granted holds of them once all were tried
pub tried-keeps : (P : List Row → Type 0) → ((xs ys : List Row) (r : Row) → r.waiting ≡ true → is_short r ≡ true → P (xs ++ r ∷ ys) → P (xs ++ ys))
    → ((xs ys : List Row) (r : Row) → r.waiting ≡ true → is_short r ≡ false → P (xs ++ r ∷ ys) → P (with_lock (granted r) xs ++ ys))
    → (before rest : List Row) → P (before ++ rest) → P (retried before rest)
tried-keeps P drops grants before [] h = subst P (append-nil before) h
tried-keeps P drops grants before (r ∷ rest) h = go r.waiting refl (is_blocked before rest r.session r.mode) (is_short r) refl (λ b k. tried-keeps P drops grants b rest k)
  where
    go : (w : Bool) → r.waiting ≡ w → (b t : Bool) → is_short r ≡ t → ((b : List Row) → P (b ++ rest) → P (retried b rest))
        → P (if not w || b then retried (before ++ r ∷ []) rest else (if t then retried before rest else retried (with_lock (granted r) before) rest))
    go false w b t e next = next (before ++ r ∷ []) (subst P (sym (append_assoc before (r ∷ []) rest)) h)
    go true w true t e next = next (before ++ r ∷ []) (subst P (sym (append_assoc before (r ∷ []) rest)) h)
    go true w false true e next = next before (drops before rest r w e h)
    go true w false false e next = next (with_lock (granted r) before) (grants before rest r w e h)

-- where a row comes from: it is one of these, but for its mode, or was granted and is none for a moment
pub record ComesOf (rows : List Row) (x : Row) : Type 0 where
  pub row : Row
  pub stands : In row rows
  pub session : row.session ≡ x.session
  pub name : row.name ≡ x.name
  pub duration : row.duration ≡ x.duration
  pub how : (row.waiting ≡ x.waiting) ⊎ ((row.waiting ≡ true) × (x.waiting ≡ false) × (is_short row ≡ false))

of_tried : (before rest : List Row) (x : Row) → In x (retried before rest) → ComesOf (before ++ rest) x
of_tried before rest = tried-keeps (λ zs. (x : Row) → In x zs → ComesOf (before ++ rest) x) drops grants before rest (λ x i. record { row = x; stands = i; session = refl; name = refl; duration = refl; how = inl refl })
  where
    wider : (xs ys : List Row) (r x : Row) → In x xs ⊎ In x ys → In x (xs ++ r ∷ ys)
    wider xs ys r x (inl i) = in-left x xs (r ∷ ys) i
    wider xs ys r x (inr i) = in-right x xs (r ∷ ys) (inr i)

    drops : (xs ys : List Row) (r : Row) → r.waiting ≡ true → is_short r ≡ true → ((x : Row) → In x (xs ++ r ∷ ys) → ComesOf (before ++ rest) x) → (x : Row) → In x (xs ++ ys) → ComesOf (before ++ rest) x
    drops xs ys r w e old x i = old x (wider xs ys r x (in-split x xs ys i))

    grants : (xs ys : List Row) (r : Row) → r.waiting ≡ true → is_short r ≡ false → ((x : Row) → In x (xs ++ r ∷ ys) → ComesOf (before ++ rest) x) → (x : Row) → In x (with_lock (granted r) xs ++ ys) → ComesOf (before ++ rest) x
    grants xs ys r w e old x i = at (in-split x (with_lock (granted r) xs) ys i)
      where
        of_waiting : (o : ComesOf (before ++ rest) r) → (granted r ≡ x) → ComesOf (before ++ rest) x
        of_waiting o f = record {
          row = o.row;
          stands = o.stands;
          session = o.session ∙ ap (λ (q : Row). q.session) f;
          name = o.name ∙ ap (λ (q : Row). q.name) f;
          duration = o.duration ∙ ap (λ (q : Row). q.duration) f;
          how = inr (waited o.how, sym (ap (λ (q : Row). q.waiting) f), ap (λ (d : Duration). same_duration d Short) o.duration ∙ e);
        }
          where
            waited : (o.row.waiting ≡ r.waiting) ⊎ ((o.row.waiting ≡ true) × (r.waiting ≡ false) × (is_short o.row ≡ false)) → o.row.waiting ≡ true
            waited (inl k) = k ∙ w
            waited (inr k) = k.0

        of_raised : (z : Row) → ComesOf (before ++ rest) z → raised r.mode z ≡ x → ComesOf (before ++ rest) x
        of_raised z o f = record {
          row = o.row;
          stands = o.stands;
          session = o.session ∙ ap (λ (q : Row). q.session) f;
          name = o.name ∙ ap (λ (q : Row). q.name) f;
          duration = o.duration ∙ ap (λ (q : Row). q.duration) f;
          how = subst (λ (b : Bool). (o.row.waiting ≡ b) ⊎ ((o.row.waiting ≡ true) × (b ≡ false) × (is_short o.row ≡ false))) (ap (λ (q : Row). q.waiting) f) o.how;
        }

        made : In x xs ⊎ Made (granted r) xs x → ComesOf (before ++ rest) x
        made (inl j) = old x (in-left x xs (r ∷ ys) j)
        made (inr (New f)) = of_waiting (old r (in-right r xs (r ∷ ys) (inl refl))) f
        made (inr (Raised z j h s f)) = of_raised z (old z (in-left z xs (r ∷ ys) j)) f

        at : In x (with_lock (granted r) xs) ⊎ In x ys → ComesOf (before ++ rest) x
        at (inl j) = made (in-with_lock (granted r) xs x j)
        at (inr j) = old x (in-right x xs (r ∷ ys) (inr j))

-- each row after a release comes from one that the release did not take
pub of_released : (scope : Scope) (s : ℕ) (rows : List Row) (x : Row) → In x (released scope s rows) → (c : ComesOf rows x) × (goes scope s c.row ≡ false)
of_released scope s rows x i =
    let j : In x (released_in scope s (rows_on x.name rows)) = subst (In x) (released-on scope s x.name rows) (in-name x (released scope s rows) i) in
    let o = of_tried [] (filter (λ z. not (goes scope s z)) (rows_on x.name rows)) x j in
    let l = of_kept (λ z. not (goes scope s z)) o.row (rows_on x.name rows) o.stands in
    let n = in-table x.name o.row rows l.0 in
    (record { row = o.row; stands = n.0; session = o.session; name = sym n.1; duration = o.duration; how = o.how }, back (goes scope s o.row) l.1)
  where
    back : (b : Bool) → not b ≡ true → b ≡ false
    back b h = grind arith

-- a lock covers itself among those that it joins, and takes nothing from what is covered
abbrev pub Covered : List Row → Row → Type 0
Covered xs x = (y : Row) × In y xs × (y.waiting ≡ false) × (y.session ≡ x.session) × (y.duration ≡ x.duration) × (covers y.mode x.mode ≡ true)

covers-raised : (a b c : Mode) → covers a c ≡ true → covers (join a b) c ≡ true
covers-raised a b c h = grind arith

covers-join : (a b : Mode) → covers (join a b) b ≡ true
covers-join a b = grind arith

covers-self : (a : Mode) → covers a a ≡ true
covers-self a = grind arith

pub covered-lock : (lock : Row) (xs : List Row) (x : Row) → Covered xs x → Covered (with_lock lock xs) x
covered-lock lock [] x (y, i, w, e, f, c) = absurd i
covered-lock lock (z ∷ zs) x (y, i, w, e, f, c) = go (is_lock_of lock.session lock.duration z) i (λ j. covered-lock lock zs x (y, j, w, e, f, c))
  where
    go : (b : Bool) → (z ≡ y) ⊎ In y zs → (In y zs → Covered (with_lock lock zs) x) → Covered (if b then raised lock.mode z ∷ zs else z ∷ with_lock lock zs) x
    go true (inl s) rest =
        (raised lock.mode z, inl refl, ap (λ (q : Row). q.waiting) s ∙ w, ap (λ (q : Row). q.session) s ∙ e, ap (λ (q : Row). q.duration) s ∙ f, covers-raised z.mode lock.mode x.mode (ap (λ (q : Row). covers q.mode x.mode) s ∙ c))
    go true (inr j) rest = (y, inr j, w, e, f, c)
    go false (inl s) rest = (y, inl s, w, e, f, c)
    go false (inr j) rest = let k = rest j in (k.0, inr k.1, k.2, k.3, k.4, k.5)

pub lock-covered : (lock : Row) (xs : List Row) → lock.waiting ≡ false → Covered (with_lock lock xs) lock
lock-covered lock [] w = (lock, inl refl, w, refl, refl, covers-self lock.mode)
lock-covered lock (z ∷ zs) w = go (is_lock_of lock.session lock.duration z) refl (lock-covered lock zs w)
  where
    go : (b : Bool) → is_lock_of lock.session lock.duration z ≡ b → Covered (with_lock lock zs) lock → Covered (if b then raised lock.mode z ∷ zs else z ∷ with_lock lock zs) lock
    go true k rest = let l = of_lock lock.session lock.duration z k in (raised lock.mode z, inl refl, l.held, l.by, l.lasts, covers-join z.mode lock.mode)
    go false k rest = (rest.0, inr rest.1, rest.2, rest.3, rest.4, rest.5)

-- a row that waits for a lock to the end waits on, or its lock is covered
tried-awaits : (x : Row) → x.waiting ≡ true → is_short x ≡ false → (before rest : List Row) → In x (before ++ rest) ⊎ Covered (before ++ rest) (granted x) → In x (retried before rest) ⊎ Covered (retried before rest) (granted x)
tried-awaits x w long before rest h = tried-keeps (λ zs. In x zs ⊎ Covered zs (granted x)) drops grants before rest h
  where
    covered-append : (xs ys : List Row) → Covered xs (granted x) ⊎ Covered ys (granted x) → Covered (xs ++ ys) (granted x)
    covered-append xs ys (inl k) = (k.0, in-left k.0 xs ys k.1, k.2, k.3, k.4, k.5)
    covered-append xs ys (inr k) = (k.0, in-right k.0 xs ys k.1, k.2, k.3, k.4, k.5)

    covered-split : (xs ys : List Row) (r : Row) → r.waiting ≡ true → Covered (xs ++ r ∷ ys) (granted x) → Covered xs (granted x) ⊎ Covered ys (granted x)
    covered-split xs ys r v k = at (in-split k.0 xs (r ∷ ys) k.1)
      where
        at : In k.0 xs ⊎ In k.0 (r ∷ ys) → Covered xs (granted x) ⊎ Covered ys (granted x)
        at (inl j) = inl (k.0, j, k.2, k.3, k.4, k.5)
        at (inr (inl e)) = absurd (true≢false (sym v ∙ ap (λ (q : Row). q.waiting) e ∙ k.2))
        at (inr (inr j)) = inr (k.0, j, k.2, k.3, k.4, k.5)

    drops : (xs ys : List Row) (r : Row) → r.waiting ≡ true → is_short r ≡ true → In x (xs ++ r ∷ ys) ⊎ Covered (xs ++ r ∷ ys) (granted x) → In x (xs ++ ys) ⊎ Covered (xs ++ ys) (granted x)
    drops xs ys r v e (inl i) = at (in-split x xs (r ∷ ys) i)
      where
        at : In x xs ⊎ In x (r ∷ ys) → In x (xs ++ ys) ⊎ Covered (xs ++ ys) (granted x)
        at (inl j) = inl (in-left x xs ys j)
        at (inr (inl f)) = absurd (true≢false (sym e ∙ ap is_short f ∙ long))
        at (inr (inr j)) = inl (in-right x xs ys j)
    drops xs ys r v e (inr k) = inr (covered-append xs ys (covered-split xs ys r v k))

    grants : (xs ys : List Row) (r : Row) → r.waiting ≡ true → is_short r ≡ false → In x (xs ++ r ∷ ys) ⊎ Covered (xs ++ r ∷ ys) (granted x) → In x (with_lock (granted r) xs ++ ys) ⊎ Covered (with_lock (granted r) xs ++ ys) (granted x)
    grants xs ys r v e (inl i) = at (in-split x xs (r ∷ ys) i)
      where
        at : In x xs ⊎ In x (r ∷ ys) → In x (with_lock (granted r) xs ++ ys) ⊎ Covered (with_lock (granted r) xs ++ ys) (granted x)
        at (inl j) = inl (in-left x (with_lock (granted r) xs) ys (waits-there j))
          where
            waits-there : In x xs → In x (with_lock (granted r) xs)
            waits-there j = waits-same xs (with_lock (granted r) xs) x (sym (waiters-with_lock (granted r) xs refl)) j w
        at (inr (inl f)) = inr (covered-append (with_lock (granted r) xs) ys (inl (subst (λ (q : Row). Covered (with_lock (granted r) xs) (granted q)) f (lock-covered (granted r) xs refl))))
        at (inr (inr j)) = inl (in-right x (with_lock (granted r) xs) ys j)
    grants xs ys r v e (inr k) = at (covered-split xs ys r v k)
      where
        at : Covered xs (granted x) ⊎ Covered ys (granted x) → In x (with_lock (granted r) xs ++ ys) ⊎ Covered (with_lock (granted r) xs ++ ys) (granted x)
        at (inl c) = inr (covered-append (with_lock (granted r) xs) ys (inl (covered-lock (granted r) xs (granted x) c)))
        at (inr c) = inr (covered-append (with_lock (granted r) xs) ys (inr c))

pub released-awaits : (scope : Scope) (s : ℕ) (rows : List Row) (x : Row) → In x rows → x.waiting ≡ true → is_short x ≡ false → goes scope s x ≡ false → In x (released scope s rows) ⊎ IsCovered (released scope s rows) (granted x)
released-awaits scope s rows x i w long stays = at (tried-awaits x w long [] left (inl (in-kept (λ z. not (goes scope s z)) x (rows_on x.name rows) (in-name x rows i) (ap not stays))))
  where
    left : List Row
    left = filter (λ z. not (goes scope s z)) (rows_on x.name rows)

    at : In x (retried [] left) ⊎ Covered (retried [] left) (granted x) → In x (released scope s rows) ⊎ IsCovered (released scope s rows) (granted x)
    at (inl j) = inl (in-table x.name x (released scope s rows) (subst (In x) (sym (released-on scope s x.name rows)) j)).0
    at (inr d) =
        let n = in-table x.name d.0 (released scope s rows) (subst (In d.0) (sym (released-on scope s x.name rows)) d.1) in
        inr (record { row = d.0; stands = n.0; held = d.2; session = d.3; name = sym n.1; duration = d.4; covers = d.5 })

-- a session may have a row that comes from one that it may have
pub may-come : (rows : List Row) (x : Row) (c : ComesOf rows x) (stage : Stage) → MayHave stage c.row → MayHave stage x
may-come rows x c = go
  where
    brief : is_short c.row ≡ is_short x
    brief = ap (λ (d : Duration). same_duration d Short) c.duration

    held : c.row.waiting ≡ false → x.waiting ≡ false
    held h = at c.how
      where
        at : (c.row.waiting ≡ x.waiting) ⊎ ((c.row.waiting ≡ true) × (x.waiting ≡ false) × (is_short c.row ≡ false)) → x.waiting ≡ false
        at (inl e) = sym e ∙ h
        at (inr k) = k.1

    long : (c.row.waiting ≡ false → is_short c.row ≡ false) → x.waiting ≡ false → is_short x ≡ false
    long m h = at c.how
      where
        at : (c.row.waiting ≡ x.waiting) ⊎ ((c.row.waiting ≡ true) × (x.waiting ≡ false) × (is_short c.row ≡ false)) → is_short x ≡ false
        at (inl e) = sym brief ∙ m (e ∙ h)
        at (inr k) = sym brief ∙ k.2

    plain : (c.row.waiting ≡ false) × (is_short c.row ≡ false) → (x.waiting ≡ false) × (is_short x ≡ false)
    plain m = (held m.0, sym brief ∙ m.1)

    go : (stage : Stage) → MayHave stage c.row → MayHave stage x
    go Idle m = plain m
    go (Started op) m = plain m
    go (NameWait op) m = sym brief ∙ m
    go (Named op) m = plain m
    go (NeedWait op) m = long m
    go (Planned op left) m = held m
    go Queued m = plain m
    go Placed m = m

pub released-owned : (scope : Scope) (s : ℕ) (xs : List Session) (rows : List Row) → RowsOwned xs rows → RowsOwned xs (released scope s rows)
released-owned scope s xs rows owned x i =
    let c = of_released scope s rows x (among-in x (released scope s rows) i) in
    let o = owned c.0.row (in-among c.0.row rows c.0.stands) in
    record { owner = o.owner; among = o.among; is_owner = o.is_owner ∙ c.0.session; may = may-come rows x c.0 o.owner.stage o.may }

pub released-names : (scope : Scope) (s next : ℕ) (rows : List Row) → NamesUsed next rows → NamesUsed next (released scope s rows)
released-names scope s next rows used x number i on =
    let c = of_released scope s rows x (among-in x (released scope s rows) i) in
    used c.0.row number (in-among c.0.row rows c.0.stands) (c.0.name ∙ on)

-- after a release of all its rows the session has none
pub released-none : (s : ℕ) (rows : List Row) (x : Row) → Among x (released AllRows s rows) → x.session ≢ s
released-none s rows x i e =
    let c = of_released AllRows s rows x (among-in x (released AllRows s rows) i) in
    true≢false (sym (number-tell c.0.row.session s (c.0.session ∙ e)) ∙ c.1)

-- a release of another session's rows lets a session wait on for its object, or hold it
pub released-awaits_object : (scope : Scope) (s t : ℕ) (rows : List Row) (op : Op) → t ≢ s → AwaitsObject rows t op → AwaitsObject (released scope s rows) t op
released-awaits_object scope s t rows op apart h name mode e = go (h name mode e)
  where
    wait : Row
    wait = row_of t name mode Commit true

    stays : (scope : Scope) → goes scope s wait ≡ false
    stays ShortLocks = refl
    stays AllRows = number-apart t s apart

    at : In wait (released scope s rows) ⊎ IsCovered (released scope s rows) (granted wait) → (is_held (released scope s rows) t (record { name = name; mode = mode; duration = Commit }) ≡ true) ⊎ Among wait (released scope s rows)
    at (inl i) = inr (in-among wait (released scope s rows) i)
    at (inr c) = inl (to_held (released scope s rows) t (record { name = name; mode = mode; duration = Commit })
        (record { row = c.row; stands = in-among c.row (released scope s rows) c.stands; lock = record { held = c.held; by = c.session; lasts = c.duration }; on = c.name; enough = c.covers }))

    go : (is_held rows t (record { name = name; mode = mode; duration = Commit }) ≡ true) ⊎ Among wait rows → (is_held (released scope s rows) t (record { name = name; mode = mode; duration = Commit }) ≡ true) ⊎ Among wait (released scope s rows)
    go (inl k) = inl (held-stays t rows (released scope s rows) (met-held t rows (released scope s rows) (released-others scope s t rows apart)) (record { name = name; mode = mode; duration = Commit }) k)
    go (inr i) = at (released-awaits scope s rows wait (among-in wait rows i) refl refl (stays scope))
