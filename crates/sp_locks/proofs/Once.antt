-- No session waits twice on one name.
use Rattle.std.proofs.Common.{◌≡◌, Bool, true, false, not, ◌||◌, if◌then◌else◌, List, [], ◌∷◌, ◌++◌, filter, refl, sym, ap, ◌∙◌, subst, inl, inr, append-nil, append_assoc}
use Rattle.sp_locks.specs.declared.row.Row.{Row}
use Rattle.sp_locks.specs.Rows.{is_lock_of, is_blocked, raised, with_lock, granted, is_short, retried}
use Rattle.sp_locks.specs.Soundness.{In, Before, WaitOnce}
use Rattle.sp_locks.proofs.Members.{in-right, in-kept, of_kept, before-kept, before-filtered}
use Rattle.sp_locks.proofs.Compatibility.{is-lock}

-- the rows that wait, in order
abbrev pub waiters : List Row → List Row
waiters rows = filter (λ x. x.waiting) rows

pub waiters-append : (xs ys : List Row) → waiters (xs ++ ys) ≡ waiters xs ++ waiters ys
waiters-append [] ys = refl
waiters-append (x ∷ xs) ys = go x.waiting (waiters-append xs ys)
  where
    go : (b : Bool) → waiters (xs ++ ys) ≡ waiters xs ++ waiters ys → (if b then x ∷ waiters (xs ++ ys) else waiters (xs ++ ys)) ≡ (if b then x ∷ waiters xs else waiters xs) ++ waiters ys
    go true e = ap (λ (zs : List Row). x ∷ zs) e
    go false e = e

-- a lock is no waiting row
pub waiters-with_lock : (lock : Row) (xs : List Row) → lock.waiting ≡ false → waiters (with_lock lock xs) ≡ waiters xs
waiters-with_lock lock [] held = rw held refl
waiters-with_lock lock (x ∷ xs) held = go (is_lock_of lock.session lock.duration x) refl (waiters-with_lock lock xs held)
  where
    go : (b : Bool) → is_lock_of lock.session lock.duration x ≡ b → waiters (with_lock lock xs) ≡ waiters xs → waiters (if b then raised lock.mode x ∷ xs else x ∷ with_lock lock xs) ≡ waiters (x ∷ xs)
    go true e rest = rw ((is-lock lock.session lock.duration x e).0) refl
    go false e rest = rw rest refl

once-waiters : (xs : List Row) → WaitOnce xs → WaitOnce (waiters xs)
once-waiters xs once x y b v w = once x y (before-filtered (λ z. z.waiting) x y xs b) v w

once-from : (xs : List Row) → WaitOnce (waiters xs) → WaitOnce xs
once-from xs once x y b v w = once x y (before-kept (λ z. z.waiting) x y xs b v w) v w

pub once-same : (xs ys : List Row) → waiters xs ≡ waiters ys → WaitOnce xs → WaitOnce ys
once-same xs ys same once = once-from ys (subst WaitOnce same (once-waiters xs once))

-- who waits among rows with the same waiters
pub waits-same : (xs ys : List Row) (x : Row) → waiters xs ≡ waiters ys → In x xs → x.waiting ≡ true → In x ys
waits-same xs ys x same i w = (of_kept (λ z. z.waiting) x ys (subst (In x) same (in-kept (λ z. z.waiting) x xs i w))).0

in-without : (x r : Row) (xs ys : List Row) → In x (xs ++ ys) → In x (xs ++ r ∷ ys)
in-without x r [] ys i = inr i
in-without x r (z ∷ xs) ys (inl e) = inl e
in-without x r (z ∷ xs) ys (inr i) = inr (in-without x r xs ys i)

before-without : (x y r : Row) (xs ys : List Row) → Before x y (xs ++ ys) → Before x y (xs ++ r ∷ ys)
before-without x y r [] ys b = inr b
before-without x y r (z ∷ xs) ys (inl h) = inl (h.0, in-without y r xs ys h.1)
before-without x y r (z ∷ xs) ys (inr h) = inr (before-without x y r xs ys h)

pub before-middle : (x r : Row) (xs ys : List Row) → In x xs → Before x r (xs ++ r ∷ ys)
before-middle x r [] ys i = absurd i
before-middle x r (z ∷ xs) ys (inl e) = inl (e, in-right r xs (r ∷ ys) (inl refl))
before-middle x r (z ∷ xs) ys (inr i) = inr (before-middle x r xs ys i)

pub once-without : (xs ys : List Row) (r : Row) → WaitOnce (xs ++ r ∷ ys) → WaitOnce (xs ++ ys)
once-without xs ys r once x y b = once x y (before-without x y r xs ys b)

waiters-locked : (xs ys : List Row) (r : Row) → waiters (xs ++ ys) ≡ waiters (with_lock (granted r) xs ++ ys)
waiters-locked xs ys r = waiters-append xs ys ∙ ap (λ (zs : List Row). zs ++ waiters ys) (sym (waiters-with_lock (granted r) xs refl)) ∙ sym (waiters-append (with_lock (granted r) xs) ys)

pub once-locked : (xs ys : List Row) (r : Row) → WaitOnce (xs ++ r ∷ ys) → WaitOnce (with_lock (granted r) xs ++ ys)
once-locked xs ys r once = once-same (xs ++ ys) (with_lock (granted r) xs ++ ys) (waiters-locked xs ys r) (once-without xs ys r once)

-- what holds of rows while some are dropped or granted holds of them once all were tried
pub retried-keeps : (P : List Row → Type 0) → ((xs ys : List Row) (r : Row) → P (xs ++ r ∷ ys) → P (xs ++ ys)) → ((xs ys : List Row) (r : Row) → P (xs ++ r ∷ ys) → P (with_lock (granted r) xs ++ ys))
    → (before rest : List Row) → P (before ++ rest) → P (retried before rest)
retried-keeps P drops grants before [] h = subst P (append-nil before) h
retried-keeps P drops grants before (r ∷ rest) h = go (not r.waiting || is_blocked before rest r.session r.mode) (is_short r) (λ b k. retried-keeps P drops grants b rest k)
  where
    go : (s t : Bool) → ((b : List Row) → P (b ++ rest) → P (retried b rest)) → P (if s then retried (before ++ r ∷ []) rest else (if t then retried before rest else retried (with_lock (granted r) before) rest))
    go true t next = next (before ++ r ∷ []) (subst P (sym (append_assoc before (r ∷ []) rest)) h)
    go false true next = next before (drops before rest r h)
    go false false next = next (with_lock (granted r) before) (grants before rest r h)

pub once-retried : (before rest : List Row) → WaitOnce (before ++ rest) → WaitOnce (retried before rest)
once-retried = retried-keeps WaitOnce once-without once-locked

-- who waits once all were tried waited before
pub waits-retried : (x : Row) → x.waiting ≡ true → (before rest : List Row) → In x (retried before rest) → In x (before ++ rest)
waits-retried x w before rest i = retried-keeps (λ zs. In x zs → In x (before ++ rest)) drops grants before rest (λ j. j) i
  where
    drops : (xs ys : List Row) (r : Row) → (In x (xs ++ r ∷ ys) → In x (before ++ rest)) → In x (xs ++ ys) → In x (before ++ rest)
    drops xs ys r old j = old (in-without x r xs ys j)

    grants : (xs ys : List Row) (r : Row) → (In x (xs ++ r ∷ ys) → In x (before ++ rest)) → In x (with_lock (granted r) xs ++ ys) → In x (before ++ rest)
    grants xs ys r old j = old (in-without x r xs ys (waits-same (with_lock (granted r) xs ++ ys) (xs ++ ys) x (sym (waiters-locked xs ys r)) j w))
