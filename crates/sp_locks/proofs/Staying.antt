-- Rows that wait on one name stay blocked.
use Rattle.std.proofs.Common.{◌≡◌, ◌≢◌, ℕ, Bool, true, false, not, ◌&&◌, ◌||◌, if◌then◌else◌, nat_eq, List, [], ◌∷◌, ◌++◌, refl, sym, ap, ◌∙◌, subst, inl, inr, true≢false, arith, append-nil, append_assoc}
use Rattle.std.specs.List.{list_any}
use Rattle.sp_locks.specs.declared.mode.Mode.{Mode}
use Rattle.sp_locks.specs.declared.row.Row.{Row}
use Rattle.sp_locks.specs.Modes.{compatible}
use Rattle.sp_locks.specs.Rows.{is_held_by, is_lock_of, stops, holds_in, is_blocked, raised, with_lock, granted, is_short, retried}
use Rattle.sp_locks.specs.Soundness.{In, WaitOnce}
use Rattle.sp_locks.proofs.ModeLaws.{join-compatible}
use Rattle.sp_locks.proofs.Members.{any-append, numbers-apart}
use Rattle.sp_locks.proofs.Compatibility.{is-lock}
use Rattle.sp_locks.proofs.Once.{before-middle, once-without, once-locked}

-- each row that waits among these, which stand between those in front and those behind, is blocked
abbrev pub Blocked : List Row → List Row → List Row → Type 0
Blocked front [] back = Unit {0}
Blocked front (r ∷ rows) back = (r.waiting ≡ true → is_blocked front (rows ++ back) r.session r.mode ≡ true) × Blocked (front ++ r ∷ []) rows back

-- no row of the session waits among these
abbrev pub NoWaiter : ℕ → List Row → Type 0
NoWaiter s rows = (x : Row) → In x rows → x.waiting ≡ true → x.session ≢ s

-- what blocks in one place blocks where there is no less
pub more-blocks : (front after front' after' : List Row) (s : ℕ) (m : Mode)
    → holds_in s front' ≡ holds_in s front → holds_in s after' ≡ holds_in s after
    → ((h : Bool) → list_any (stops h s m) front ≡ true → list_any (stops h s m) front' ≡ true)
    → (list_any (stops true s m) after ≡ true → list_any (stops true s m) after' ≡ true)
    → is_blocked front after s m ≡ true → is_blocked front' after' s m ≡ true
more-blocks front after front' after' s m f a less behind h =
    rw (f, a)
    (either (list_any (stops (holds_in s front || holds_in s after) s m) front) (list_any (stops true s m) after) (list_any (stops (holds_in s front || holds_in s after) s m) front') (list_any (stops true s m) after')
    (less (holds_in s front || holds_in s after)) behind h)
  where
    either : (a b c d : Bool) → (a ≡ true → c ≡ true) → (b ≡ true → d ≡ true) → (a || b) ≡ true → (c || d) ≡ true
    either true b c d f g h = rw (f refl) refl
    either false true c d f g h = rw (g refl) (right c)
      where
        right : (e : Bool) → (e || true) ≡ true
        right e = grind arith
    either false false c d f g h = absurd (true≢false (sym h))

-- a raised row stops what it stopped
stops-raised : (h : Bool) (s : ℕ) (m n : Mode) (x : Row) → stops h s m x ≡ true → stops h s m (raised n x) ≡ true
stops-raised h s m n x k = rw (join-compatible m x.mode n) (five (nat_eq x.session s) (compatible m x.mode) (compatible m n) x.waiting h k)
  where
    five : (a b c w h : Bool) → ((not a && not b) && not (w && h)) ≡ true → ((not a && not (b && c)) && not (w && h)) ≡ true
    five a b c w h k = grind arith

any-with_lock : (h : Bool) (s : ℕ) (m : Mode) (lock : Row) (xs : List Row) → list_any (stops h s m) xs ≡ true → list_any (stops h s m) (with_lock lock xs) ≡ true
any-with_lock h s m lock [] k = absurd (true≢false (sym k))
any-with_lock h s m lock (x ∷ xs) k = go (is_lock_of lock.session lock.duration x) (any-with_lock h s m lock xs)
  where
    first : (a b c : Bool) → (a ≡ true → b ≡ true) → (a || c) ≡ true → (b || c) ≡ true
    first true b c f k = rw (f refl) refl
    first false true c f k = refl
    first false false c f k = k

    second : (a b c : Bool) → (b ≡ true → c ≡ true) → (a || b) ≡ true → (a || c) ≡ true
    second true b c f k = refl
    second false b c f k = f k

    go : (b : Bool) → (list_any (stops h s m) xs ≡ true → list_any (stops h s m) (with_lock lock xs) ≡ true) → list_any (stops h s m) (if b then raised lock.mode x ∷ xs else x ∷ with_lock lock xs) ≡ true
    go true rest = first (stops h s m x) (stops h s m (raised lock.mode x)) (list_any (stops h s m) xs) (stops-raised h s m lock.mode x) k
    go false rest = second (stops h s m x) (list_any (stops h s m) xs) (list_any (stops h s m) (with_lock lock xs)) rest k

-- a lock of another session changes nothing of what one holds
holds-with_lock : (s : ℕ) (lock : Row) (xs : List Row) → s ≢ lock.session → holds_in s (with_lock lock xs) ≡ holds_in s xs
holds-with_lock s lock [] other = rw (numbers-apart lock.session s (λ e. other (sym e))) (none (not lock.waiting))
  where
    none : (a : Bool) → ((a && false) || false) ≡ false
    none a = grind arith
holds-with_lock s lock (x ∷ xs) other = go (is_lock_of lock.session lock.duration x) (holds-with_lock s lock xs other)
  where
    go : (b : Bool) → holds_in s (with_lock lock xs) ≡ holds_in s xs → holds_in s (if b then raised lock.mode x ∷ xs else x ∷ with_lock lock xs) ≡ holds_in s (x ∷ xs)
    go true rest = refl
    go false rest = ap (λ b. is_held_by s x || b) rest

holds-append : (s : ℕ) (xs ys : List Row) → holds_in s (xs ++ ys) ≡ (holds_in s xs || holds_in s ys)
holds-append s xs ys = any-append (is_held_by s) xs ys

-- what is raised in front blocks no less
raised-front : (front xs back : List Row) (lock x : Row) → x.session ≡ lock.session → NoWaiter lock.session xs → Blocked (front ++ x ∷ []) xs back → Blocked (front ++ raised lock.mode x ∷ []) xs back
raised-front front xs back lock x own none h =
    subst (λ (zs : List Row). Blocked zs xs back) (append-nil (front ++ raised lock.mode x ∷ [])) (walk front xs back [] none (subst (λ (zs : List Row). Blocked zs xs back) (sym (append-nil (front ++ x ∷ []))) h))
  where
    raise : (front mid after : List Row) (s : ℕ) (m : Mode) → is_blocked ((front ++ x ∷ []) ++ mid) after s m ≡ true → is_blocked ((front ++ raised lock.mode x ∷ []) ++ mid) after s m ≡ true
    raise front mid after s m =
        more-blocks ((front ++ x ∷ []) ++ mid) after ((front ++ raised lock.mode x ∷ []) ++ mid) after s m
        (holds-append s (front ++ raised lock.mode x ∷ []) mid ∙ ap (λ b. b || holds_in s mid) (holds-append s front (raised lock.mode x ∷ []) ∙ sym (holds-append s front (x ∷ []))) ∙ sym (holds-append s (front ++ x ∷ []) mid))
        refl
        (λ g k. any g k)
        (λ k. k)
      where
        split : (g : Bool) (y : Row) → list_any (stops g s m) ((front ++ y ∷ []) ++ mid) ≡ ((list_any (stops g s m) front || (stops g s m y || false)) || list_any (stops g s m) mid)
        split g y = any-append (stops g s m) (front ++ y ∷ []) mid ∙ ap (λ b. b || list_any (stops g s m) mid) (any-append (stops g s m) front (y ∷ []))

        between : (a b c d : Bool) → (b ≡ true → c ≡ true) → ((a || (b || false)) || d) ≡ true → ((a || (c || false)) || d) ≡ true
        between a true c d f k = rw (f refl) (grind arith)
        between a false true d f k = grind arith
        between a false false d f k = k

        any : (g : Bool) → list_any (stops g s m) ((front ++ x ∷ []) ++ mid) ≡ true → list_any (stops g s m) ((front ++ raised lock.mode x ∷ []) ++ mid) ≡ true
        any g k = split g (raised lock.mode x) ∙ between (list_any (stops g s m) front) (stops g s m x) (stops g s m (raised lock.mode x)) (list_any (stops g s m) mid) (stops-raised g s m lock.mode x) (sym (split g x) ∙ k)

    walk : (front xs back mid : List Row) → NoWaiter lock.session xs → Blocked ((front ++ x ∷ []) ++ mid) xs back → Blocked ((front ++ raised lock.mode x ∷ []) ++ mid) xs back
    walk front [] back mid none h = tt
    walk front (r ∷ xs) back mid none h = (
      (λ w. raise front mid (xs ++ back) r.session r.mode (h.0 w)),
      subst (λ (zs : List Row). Blocked zs xs back) (sym (append_assoc (front ++ raised lock.mode x ∷ []) mid (r ∷ [])))
          (walk front xs back (mid ++ r ∷ []) (λ y i. none y (inr i)) (subst (λ (zs : List Row). Blocked zs xs back) (append_assoc (front ++ x ∷ []) mid (r ∷ [])) h.1)),
    )

-- a lock leaves the waiting rows of other sessions blocked
pub blocked-with_lock : (lock : Row) (front xs back : List Row) → lock.waiting ≡ false → NoWaiter lock.session xs → Blocked front xs back → Blocked front (with_lock lock xs) back
blocked-with_lock lock front [] back held none h = ((λ w. absurd (true≢false (sym w ∙ held))), tt)
blocked-with_lock lock front (x ∷ xs) back held none h = go (is_lock_of lock.session lock.duration x) refl (blocked-with_lock lock (front ++ x ∷ []) xs back held (λ y i. none y (inr i)) h.1)
  where
    behind : x.waiting ≡ true → is_blocked front (with_lock lock xs ++ back) x.session x.mode ≡ true
    behind w =
        more-blocks front (xs ++ back) front (with_lock lock xs ++ back) x.session x.mode refl
        (holds-append x.session (with_lock lock xs) back ∙ ap (λ b. b || holds_in x.session back) (holds-with_lock x.session lock xs (none x (inl refl) w)) ∙ sym (holds-append x.session xs back))
        (λ g k. k)
        (λ k. any-append (stops true x.session x.mode) (with_lock lock xs) back ∙ either (list_any (stops true x.session x.mode) xs) (list_any (stops true x.session x.mode) (with_lock lock xs)) (list_any (stops true x.session x.mode) back) (any-with_lock true x.session x.mode lock xs) (sym (any-append (stops true x.session x.mode) xs back) ∙ k))
        (h.0 w)
      where
        either : (a b c : Bool) → (a ≡ true → b ≡ true) → (a || c) ≡ true → (b || c) ≡ true
        either true b c f k = rw (f refl) refl
        either false true c f k = refl
        either false false c f k = k

    go : (b : Bool) → is_lock_of lock.session lock.duration x ≡ b → Blocked (front ++ x ∷ []) (with_lock lock xs) back → Blocked front (if b then raised lock.mode x ∷ xs else x ∷ with_lock lock xs) back
    go true e rest = let l = is-lock lock.session lock.duration x e in
        ((λ w. absurd (true≢false (sym w ∙ l.0))), raised-front front xs back lock x l.1 (λ y i. none y (inr i)) h.1)
    go false e rest = (behind, rest)

-- a row that waits behind blocks none before it
waits-behind : (front after : List Row) (r : Row) (s : ℕ) (m : Mode) → r.waiting ≡ true → is_blocked front (r ∷ after) s m ≡ is_blocked front after s m
waits-behind front after r s m w = rw (w) (same (list_any (stops (holds_in s front || holds_in s after) s m) front) (not (nat_eq r.session s) && not (compatible m r.mode)) (list_any (stops true s m) after))
  where
    same : (a b c : Bool) → (a || ((b && false) || c)) ≡ (a || c)
    same a b c = grind arith

waits-between : (front xs back : List Row) (r : Row) (s : ℕ) (m : Mode) → r.waiting ≡ true → is_blocked front (xs ++ r ∷ back) s m ≡ is_blocked front (xs ++ back) s m
waits-between front xs back r s m w =
    let held : holds_in s (xs ++ r ∷ back) ≡ holds_in s (xs ++ back) = holds-append s xs (r ∷ back) ∙ rw w refl ∙ sym (holds-append s xs back) in
    let any : list_any (stops true s m) (xs ++ r ∷ back) ≡ list_any (stops true s m) (xs ++ back) =
    any-append (stops true s m) xs (r ∷ back) ∙ rw w (same (list_any (stops true s m) xs) (not (nat_eq r.session s) && not (compatible m r.mode)) (list_any (stops true s m) back)) ∙ sym (any-append (stops true s m) xs back) in
    rw (held, any) refl
  where
    same : (a b c : Bool) → (a || ((b && false) || c)) ≡ (a || c)
    same a b c = grind arith

-- so one that waits may come or go behind the others
pub blocked-waiter : (front xs back : List Row) (r : Row) → r.waiting ≡ true → Blocked front xs (r ∷ back) → Blocked front xs back
blocked-waiter front [] back r w h = tt
blocked-waiter front (x ∷ xs) back r w h = ((λ v. sym (waits-between front xs back r x.session x.mode w) ∙ h.0 v), blocked-waiter (front ++ x ∷ []) xs back r w h.1)

pub blocked-more : (front xs back : List Row) (r : Row) → r.waiting ≡ true → Blocked front xs back → Blocked front xs (r ∷ back)
blocked-more front [] back r w h = tt
blocked-more front (x ∷ xs) back r w h = ((λ v. waits-between front xs back r x.session x.mode w ∙ h.0 v), blocked-more (front ++ x ∷ []) xs back r w h.1)

pub blocked-append : (front xs ys back : List Row) → Blocked front xs (ys ++ back) → Blocked (front ++ xs) ys back → Blocked front (xs ++ ys) back
blocked-append front [] ys back h k = subst (λ (zs : List Row). Blocked zs ys back) (append-nil front) k
blocked-append front (x ∷ xs) ys back h k = (
  (λ w. subst (λ (zs : List Row). is_blocked front zs x.session x.mode ≡ true) (sym (append_assoc xs ys back)) (h.0 w)),
  blocked-append (front ++ x ∷ []) xs ys back h.1 (subst (λ (zs : List Row). Blocked zs ys back) (sym (append_assoc front (x ∷ []) xs)) k),
)

-- a request that waits comes last
pub blocked-last : (xs : List Row) (r : Row) → r.waiting ≡ true → is_blocked xs [] r.session r.mode ≡ true → Blocked [] xs [] → Blocked [] (xs ++ r ∷ []) []
blocked-last xs r w h k = blocked-append [] xs (r ∷ []) [] (blocked-more [] xs [] r w k) ((λ v. h), tt)

-- trying the waiting rows leaves each that waits on blocked
pub blocked-retried : (before rest : List Row) → Blocked [] before rest → WaitOnce (before ++ rest) → Blocked [] (retried before rest) []
blocked-retried before [] h once = h
blocked-retried before (r ∷ rest) h once = go r.waiting refl (is_blocked before rest r.session r.mode) refl (is_short r) (λ b k o. blocked-retried b rest k o)
  where
    next_stays : (r.waiting ≡ true → is_blocked before rest r.session r.mode ≡ true) → Blocked [] (before ++ r ∷ []) rest
    next_stays k = blocked-append [] before (r ∷ []) rest h (k, tt)

    once_stays : WaitOnce ((before ++ r ∷ []) ++ rest)
    once_stays = subst WaitOnce (sym (append_assoc before (r ∷ []) rest)) once

    go : (w : Bool) → r.waiting ≡ w → (b : Bool) → is_blocked before rest r.session r.mode ≡ b → (t : Bool) → ((bs : List Row) → Blocked [] bs rest → WaitOnce (bs ++ rest) → Blocked [] (retried bs rest) [])
        → Blocked [] (if not w || b then retried (before ++ r ∷ []) rest else (if t then retried before rest else retried (with_lock (granted r) before) rest)) []
    go false e b f t next = next (before ++ r ∷ []) (next_stays (λ w. absurd (true≢false (sym w ∙ e)))) once_stays
    go true e true f t next = next (before ++ r ∷ []) (next_stays (λ w. f)) once_stays
    go true e false f true next = next before (blocked-waiter [] before rest r e h) (once-without before rest r once)
    go true e false f false next =
        next (with_lock (granted r) before)
        (blocked-with_lock (granted r) [] before rest refl (λ x i w s. once x r (before-middle x r before rest i) w e s) (blocked-waiter [] before rest r e h))
        (once-locked before rest r once)
