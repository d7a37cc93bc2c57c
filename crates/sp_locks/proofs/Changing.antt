-- Where the rows after a release come from, and what is held still.
use Rattle.std.proofs.Common.{◌≡◌, ◌⊎◌, ℕ, Bool, true, false, not, ◌&&◌, ◌||◌, if◌then◌else◌, nat_eq, List, [], ◌∷◌, ◌++◌, filter, refl, sym, ap, ◌∙◌, subst, inl, inr, true≢false, arith, append-nil, append_assoc}
use Rattle.sp_locks.specs.declared.mode.Mode.{Mode}
use Rattle.sp_locks.specs.declared.row.Scope.{Scope}
use Rattle.sp_locks.specs.declared.row.Duration.{Duration}
use Rattle.sp_locks.specs.declared.row.Duration.TheVariants.{Commit, Short}
use Rattle.sp_locks.specs.declared.row.Row.{Row}
use Rattle.sp_locks.specs.Modes.{covers, join}
use Rattle.sp_locks.specs.Rows.{is_lock_of, same_duration, is_blocked, is_short, raised, with_lock, granted, goes, retried, released_in}
use Rattle.sp_locks.specs.Table.{rows_on, released}
use Rattle.sp_locks.specs.Soundness.{In}
use Rattle.sp_locks.specs.Changes.{ComesFrom, IsCovered}
use Rattle.sp_locks.proofs.Members.{in-left, in-right, in-split, in-kept, of_kept, numbers-same}
use Rattle.sp_locks.proofs.OnNames.{released-on}
use Rattle.sp_locks.proofs.Keeping.{in-name, in-table}

covers-itself : (a : Mode) → covers a a ≡ true
covers-itself a = grind arith

covers-raised : (a b c : Mode) → covers a c ≡ true → covers (join a b) c ≡ true
covers-raised a b c h = grind arith

same-lasting : (a b : Duration) → same_duration a b ≡ true → a ≡ b
same-lasting Commit Commit h = refl
same-lasting Short Short h = refl
same-lasting Commit Short h = absurd (true≢false (sym h))
same-lasting Short Commit h = absurd (true≢false (sym h))

pub record IsLock (s : ℕ) (d : Duration) (x : Row) : Type 0 where
  pub held : x.waiting ≡ false
  pub own : x.session ≡ s
  pub lasts : x.duration ≡ d

pub of_lock : (s : ℕ) (d : Duration) (x : Row) → is_lock_of s d x ≡ true → IsLock s d x
of_lock s d x h = record { held = one x.waiting (nat_eq x.session s) (same_duration x.duration d) h; own = numbers-same x.session s (two x.waiting (nat_eq x.session s) (same_duration x.duration d) h); lasts = same-lasting x.duration d (three x.waiting (nat_eq x.session s) (same_duration x.duration d) h) }
  where
    one : (a b c : Bool) → ((not a && b) && c) ≡ true → a ≡ false
    one a b c h = grind arith

    two : (a b c : Bool) → ((not a && b) && c) ≡ true → b ≡ true
    two a b c h = grind arith

    three : (a b c : Bool) → ((not a && b) && c) ≡ true → c ≡ true
    three a b c h = grind arith

-- a row that a lock joins is of those there, or the lock
pub from-lock : (lock : Row) (xs : List Row) (x : Row) → In x (with_lock lock xs) → ((y : Row) × In y xs × (y.session ≡ x.session) × (y.duration ≡ x.duration)) ⊎ ((lock.session ≡ x.session) × (lock.duration ≡ x.duration))
from-lock lock [] x (inl e) = inr (ap (λ (z : Row). z.session) e, ap (λ (z : Row). z.duration) e)
from-lock lock [] x (inr i) = absurd i
from-lock lock (y ∷ ys) x i = go (is_lock_of lock.session lock.duration y) i (from-lock lock ys x)
  where
    go : (b : Bool) → In x (if b then raised lock.mode y ∷ ys else y ∷ with_lock lock ys)
        → (In x (with_lock lock ys) → ((z : Row) × In z ys × (z.session ≡ x.session) × (z.duration ≡ x.duration)) ⊎ ((lock.session ≡ x.session) × (lock.duration ≡ x.duration)))
        → ((z : Row) × In z (y ∷ ys) × (z.session ≡ x.session) × (z.duration ≡ x.duration)) ⊎ ((lock.session ≡ x.session) × (lock.duration ≡ x.duration))
    go true (inl e) rest = inl (y, inl refl, ap (λ (z : Row). z.session) e, ap (λ (z : Row). z.duration) e)
    go true (inr j) rest = inl (x, inr j, refl, refl)
    go false (inl e) rest = inl (x, inl e, refl, refl)
    go false (inr j) rest = wider (rest j)
      where
        wider : ((z : Row) × In z ys × (z.session ≡ x.session) × (z.duration ≡ x.duration)) ⊎ ((lock.session ≡ x.session) × (lock.duration ≡ x.duration)) → ((z : Row) × In z (y ∷ ys) × (z.session ≡ x.session) × (z.duration ≡ x.duration)) ⊎ ((lock.session ≡ x.session) × (lock.duration ≡ x.duration))
        wider (inl (z, k, e, f)) = inl (z, inr k, e, f)
        wider (inr h) = inr h

pub from-retried : (before rest : List Row) (x : Row) → In x (retried before rest) → (y : Row) × In y (before ++ rest) × (y.session ≡ x.session) × (y.duration ≡ x.duration)
from-retried before [] x i = (x, subst (In x) (sym (append-nil before)) i, refl, refl)
from-retried before (r ∷ rest) x i = go (not r.waiting || is_blocked before rest r.session r.mode) (is_short r) i (λ b. from-retried b rest x)
  where
    Old : List Row → Type 0
    Old xs = (y : Row) × In y xs × (y.session ≡ x.session) × (y.duration ≡ x.duration)

    more : (y : Row) → In y before ⊎ In y rest → In y (before ++ r ∷ rest)
    more y (inl j) = in-left y before (r ∷ rest) j
    more y (inr j) = in-right y before (r ∷ rest) (inr j)

    go : (s t : Bool) → In x (if s then retried (before ++ r ∷ []) rest else (if t then retried before rest else retried (with_lock (granted r) before) rest))
        → ((b : List Row) → In x (retried b rest) → (y : Row) × In y (b ++ rest) × (y.session ≡ x.session) × (y.duration ≡ x.duration)) → (y : Row) × In y (before ++ r ∷ rest) × (y.session ≡ x.session) × (y.duration ≡ x.duration)
    go true t i old = let k = old (before ++ r ∷ []) i in (k.0, subst (In k.0) (append_assoc before (r ∷ []) rest) k.1, k.2, k.3)
    go false true i old = let k = old before i in (k.0, more k.0 (in-split k.0 before rest k.1), k.2, k.3)
    go false false i old = let k = old (with_lock (granted r) before) i in at k.0 k.2 k.3 (in-split k.0 (with_lock (granted r) before) rest k.1)
      where
        lock : (y : Row) → y.session ≡ x.session → y.duration ≡ x.duration → ((z : Row) × In z before × (z.session ≡ y.session) × (z.duration ≡ y.duration)) ⊎ ((r.session ≡ y.session) × (r.duration ≡ y.duration)) → (z : Row) × In z (before ++ r ∷ rest) × (z.session ≡ x.session) × (z.duration ≡ x.duration)
        lock y e f (inl (z, j, g, h)) = (z, in-left z before (r ∷ rest) j, g ∙ e, h ∙ f)
        lock y e f (inr (g, h)) = (r, in-right r before (r ∷ rest) (inl refl), g ∙ e, h ∙ f)

        at : (y : Row) → y.session ≡ x.session → y.duration ≡ x.duration → In y (with_lock (granted r) before) ⊎ In y rest → (z : Row) × In z (before ++ r ∷ rest) × (z.session ≡ x.session) × (z.duration ≡ x.duration)
        at y e f (inl j) = lock y e f (from-lock (granted r) before y j)
        at y e f (inr j) = (y, in-right y before (r ∷ rest) (inr j), e, f)

-- a held row is covered still
abbrev Covered : List Row → Row → Type 0
Covered xs x = (y : Row) × In y xs × (y.waiting ≡ false) × (y.session ≡ x.session) × (y.duration ≡ x.duration) × (covers y.mode x.mode ≡ true)

covered-lock : (lock : Row) (xs : List Row) (x : Row) → Covered xs x → Covered (with_lock lock xs) x
covered-lock lock [] x (y, i, w, e, f, c) = absurd i
covered-lock lock (z ∷ zs) x (y, i, w, e, f, c) = go (is_lock_of lock.session lock.duration z) i (λ j. covered-lock lock zs x (y, j, w, e, f, c))
  where
    go : (b : Bool) → (z ≡ y) ⊎ In y zs → (In y zs → Covered (with_lock lock zs) x) → Covered (if b then raised lock.mode z ∷ zs else z ∷ with_lock lock zs) x
    go true (inl s) rest =
        (raised lock.mode z, inl refl, ap (λ (q : Row). q.waiting) s ∙ w, ap (λ (q : Row). q.session) s ∙ e, ap (λ (q : Row). q.duration) s ∙ f, covers-raised z.mode lock.mode x.mode (ap (λ (q : Row). covers q.mode x.mode) s ∙ c))
    go true (inr j) rest = (y, inr j, w, e, f, c)
    go false (inl s) rest = (y, inl s, w, e, f, c)
    go false (inr j) rest = let k = rest j in (k.0, inr k.1, k.2, k.3, k.4, k.5)

covered-retried : (before rest : List Row) (x : Row) → Covered (before ++ rest) x → Covered (retried before rest) x
covered-retried before [] x c = subst (λ (xs : List Row). Covered xs x) (append-nil before) c
covered-retried before (r ∷ rest) x c = go r.waiting refl (is_blocked before rest r.session r.mode) (is_short r) (λ b. covered-retried b rest x)
  where
    without : r.waiting ≡ true → Covered (before ++ r ∷ rest) x → Covered (before ++ rest) x
    without w (y, i, h, e, f, k) = at (in-split y before (r ∷ rest) i)
      where
        at : In y before ⊎ In y (r ∷ rest) → Covered (before ++ rest) x
        at (inl j) = (y, in-left y before rest j, h, e, f, k)
        at (inr (inl g)) = absurd (true≢false (sym w ∙ ap (λ (q : Row). q.waiting) g ∙ h))
        at (inr (inr j)) = (y, in-right y before rest j, h, e, f, k)

    lock : Covered (before ++ rest) x → Covered (with_lock (granted r) before ++ rest) x
    lock (y, i, h, e, f, k) = at (in-split y before rest i)
      where
        at : In y before ⊎ In y rest → Covered (with_lock (granted r) before ++ rest) x
        at (inl j) = let d = covered-lock (granted r) before x (y, j, h, e, f, k) in (d.0, in-left d.0 (with_lock (granted r) before) rest d.1, d.2, d.3, d.4, d.5)
        at (inr j) = (y, in-right y (with_lock (granted r) before) rest j, h, e, f, k)

    go : (w : Bool) → r.waiting ≡ w → (b t : Bool) → ((bs : List Row) → Covered (bs ++ rest) x → Covered (retried bs rest) x)
        → Covered (if not w || b then retried (before ++ r ∷ []) rest else (if t then retried before rest else retried (with_lock (granted r) before) rest)) x
    go false w b t next = next (before ++ r ∷ []) (subst (λ (xs : List Row). Covered xs x) (sym (append_assoc before (r ∷ []) rest)) c)
    go true w true t next = next (before ++ r ∷ []) (subst (λ (xs : List Row). Covered xs x) (sym (append_assoc before (r ∷ []) rest)) c)
    go true w false true next = next before (without w c)
    go true w false false next = next (with_lock (granted r) before) (lock (without w c))

-- each row after a release comes from one that the release did not take
pub released-from : (scope : Scope) (s : ℕ) (rows : List Row) (x : Row) → In x (released scope s rows) → (f : ComesFrom rows x) × (goes scope s f.row ≡ false)
released-from scope s rows x i =
    let j : In x (released_in scope s (rows_on x.name rows)) = subst (In x) (released-on scope s x.name rows) (in-name x (released scope s rows) i) in
    let k = from-retried [] (filter (λ z. not (goes scope s z)) (rows_on x.name rows)) x j in
    let l = of_kept (λ z. not (goes scope s z)) k.0 (rows_on x.name rows) k.1 in
    let n = in-table x.name k.0 rows l.0 in
    (record { row = k.0; stands = n.0; session = k.2; name = sym n.1; duration = k.3 }, back (goes scope s k.0) l.1)
  where
    back : (b : Bool) → not b ≡ true → b ≡ false
    back b h = grind arith

-- what is held and not taken is held still
pub released-covers : (scope : Scope) (s : ℕ) (rows : List Row) (x : Row) → In x rows → x.waiting ≡ false → goes scope s x ≡ false → IsCovered (released scope s rows) x
released-covers scope s rows x i w g =
    let c : Covered (filter (λ z. not (goes scope s z)) (rows_on x.name rows)) x = (x, in-kept (λ z. not (goes scope s z)) x (rows_on x.name rows) (in-name x rows i) (ap not g), w, refl, refl, covers-itself x.mode) in
    let d = covered-retried [] (filter (λ z. not (goes scope s z)) (rows_on x.name rows)) x c in
    let on : In d.0 (rows_on x.name (released scope s rows)) = subst (In d.0) (sym (released-on scope s x.name rows)) d.1 in
    let n = in-table x.name d.0 (released scope s rows) on in
    record { row = d.0; stands = n.0; held = d.2; session = d.3; name = sym n.1; duration = d.4; covers = d.5 }
