-- What blocks a request once the requester's short locks are gone, and what the request comes to.
use Rattle.std.proofs.Common.{◌≡◌, ◌≢◌, ℕ, Bool, true, false, not, ◌&&◌, ◌||◌, if◌then◌else◌, List, [], ◌∷◌, ◌++◌, filter, None, Some, refl, sym, ap, ◌∙◌, subst, true≢false, arith, append-nil, append_assoc}
use Rattle.std.specs.Prelude.{Result, Ok, Err, IfOk, Option}
use Rattle.std.specs.List.{list_any}
use Rattle.sp_list.specs.Emptiness.{is_empty}
use Rattle.sp_locks.specs.declared.needs.Need.{Need}
use Rattle.sp_locks.specs.declared.row.Row.{Row}
use Rattle.sp_locks.specs.declared.row.Scope.TheVariants.{ShortLocks}
use Rattle.sp_locks.specs.Rows.{is_short, is_open, is_blocked, goes, retried, with_lock, granted, waiting_in, blockers_in}
use Rattle.sp_locks.specs.Table.{rows_on, row_of, with_row_on, released, blockers}
use Rattle.sp_locks.specs.Soundness.{IsSound, WaitersBlocked}
use Rattle.sp_locks.proofs.OnNames.{released-on}
use Rattle.sp_waits.specs.declared.edge.Edge.{Edge}
use Rattle.sp_waits.specs.Cycles.{IsToldCycle}
use Rattle.sp_model.proofs.Requesting.{unblocked-before}
use Rattle.sp_model.proofs.Awake.{released-awake}
use Rattle.sp_requests.specs.declared.requesting.Outcome.TheVariants.{Granted, Waits, Closes}
use Rattle.sp_requests.specs.Requested.{blocking, with_lock_of, with_wait_of, IsClosed, ComesTo, IsGranted, HasToWait, ClosesCycle}

-- rows of which each that waits is blocked stay as they are when they are tried
retried-same : (before rest : List Row) → WaitersBlocked (before ++ rest) → retried before rest ≡ before ++ rest
retried-same before [] h = sym (append-nil before)
retried-same before (r ∷ rest) h = go (retried-same (before ++ r ∷ []) rest (subst WaitersBlocked (sym (append_assoc before (r ∷ []) rest)) h))
  where
    either : (a b : Bool) → b ≡ true → (a || b) ≡ true
    either a b e = grind arith

    stays : (w : Bool) → r.waiting ≡ w → (not w || is_blocked before rest r.session r.mode) ≡ true
    stays false e = refl
    stays true e = either false (is_blocked before rest r.session r.mode) (h before rest r refl e)

    go : retried (before ++ r ∷ []) rest ≡ (before ++ r ∷ []) ++ rest → retried before (r ∷ rest) ≡ before ++ r ∷ rest
    go next = choose (not r.waiting || is_blocked before rest r.session r.mode) (stays r.waiting refl)
      where
        choose : (b : Bool) → b ≡ true
            → (if b then retried (before ++ r ∷ []) rest else (if is_short r then retried before rest else retried (with_lock (granted r) before) rest)) ≡ before ++ r ∷ rest
        choose true k = next ∙ append_assoc before (r ∷ []) rest
        choose false k = absurd (true≢false (sym k))

none-kept : (test : Row → Bool) (xs : List Row) → list_any test xs ≡ false → filter (λ x. not (test x)) xs ≡ xs
none-kept test [] h = refl
none-kept test (x ∷ xs) h = go (test x) (list_any test xs) h (none-kept test xs)
  where
    go : (a b : Bool) → (a || b) ≡ false → (b ≡ false → filter (λ y. not (test y)) xs ≡ xs) → (if not a then x ∷ filter (λ y. not (test y)) xs else filter (λ y. not (test y)) xs) ≡ x ∷ xs
    go true b h k = absurd (true≢false h)
    go false b h k = ap (λ ys. x ∷ ys) (k h)

-- where the session has no short lock on the name, its short locks make no difference to who blocks it there
pub blocking-same : (s : ℕ) (need : Need) (rows : List Row) → IsSound rows → list_any (goes ShortLocks s) (rows_on need.name rows) ≡ false → blocking s need rows ≡ blockers s need.name need.mode rows
unfolding blocking
blocking-same s need rows sound none = ap (blockers_in s need.mode) same
  where
    same : rows_on need.name (released ShortLocks s rows) ≡ rows_on need.name rows
    same = released-on ShortLocks s need.name rows
        ∙ ap (retried []) (none-kept (goes ShortLocks s) (rows_on need.name rows) none)
        ∙ retried-same [] (rows_on need.name rows) (sound.blocked need.name)

-- who blocks it by a table without those locks
pub blocking-of_bare : {E : Type 0} (s : ℕ) (need : Need) (rows left : List Row) (found : Result (List ℕ) E) → left ≡ released ShortLocks s rows → IfOk found (λ us. us ≡ blockers s need.name need.mode left) → IfOk found (λ us. us ≡ blocking s need rows)
unfolding blocking
blocking-of_bare s need rows left (Ok us) e u = u ∙ ap (blockers s need.name need.mode) e
blocking-of_bare s need rows left (Err x) e u = tt

pub bare-awake : (s : ℕ) (rows left : List Row) → waiting_in s rows ≡ None → left ≡ released ShortLocks s rows → waiting_in s left ≡ None
bare-awake s rows left awake e = ap (waiting_in s) e ∙ released-awake s rows awake

waits-if : (us : List ℕ) → us ≢ [] → not (is_empty us) ≡ true
waits-if [] h = absurd (h refl)
waits-if (u ∷ us) h = refl

pub comes-held : (s : ℕ) (need : Need) (rows after : List Row) → IsSound rows → blocking s need rows ≡ []
    → after ≡ with_row_on (row_of s need.name need.mode need.duration (not (is_empty (blockers s need.name need.mode rows)))) rows → ComesTo s need rows Granted after
unfolding blocking with_lock_of
comes-held s need rows after sound free e =
    subst (ComesTo s need rows Granted) (sym (e ∙ ap (λ us. with_row_on (row_of s need.name need.mode need.duration (not (is_empty us))) rows) (unblocked-before s need.name need.mode rows sound free))) (IsGranted free)

pub comes-closed : (s : ℕ) (need : Need) (rows left : List Row) (told : Option (List Edge)) (cycle : List Edge) → left ≡ released ShortLocks s rows → blocking s need rows ≢ []
    → IsToldCycle left s need.name need.mode told → told ≡ Some cycle → ComesTo s need rows (Closes cycle) rows
unfolding IsClosed
comes-closed s need rows left told cycle e blocked told_is is =
    ClosesCycle cycle blocked (subst (λ o. IsToldCycle (released ShortLocks s rows) s need.name need.mode o) is (subst (λ xs. IsToldCycle xs s need.name need.mode told) e told_is))

pub comes-waiting : (s : ℕ) (need : Need) (rows left after : List Row) (told : Option (List Edge)) (us : List ℕ) → left ≡ released ShortLocks s rows → blocking s need rows ≢ []
    → IsToldCycle left s need.name need.mode told → told ≡ None → us ≡ blocking s need rows
    → after ≡ with_row_on (row_of s need.name need.mode need.duration (not (is_empty (blockers s need.name need.mode left)))) left → ComesTo s need rows (Waits us) after
unfolding blocking with_wait_of IsClosed
comes-waiting s need rows left after told us e blocked told_is is those new =
    subst (λ xs. ComesTo s need rows (Waits us) xs) (sym (new ∙ ap (λ (xs : List Row). with_row_on (row_of s need.name need.mode need.duration (not (is_empty (blockers s need.name need.mode xs)))) xs) e ∙ ap (λ b. with_row_on (row_of s need.name need.mode need.duration b) (released ShortLocks s rows)) (waits-if (blocking s need rows) blocked)))
    (subst (λ vs. ComesTo s need rows (Waits vs) (with_wait_of s need rows)) (sym those) (HasToWait blocked (subst (λ o. IsToldCycle (released ShortLocks s rows) s need.name need.mode o) is (subst (λ xs. IsToldCycle xs s need.name need.mode told) e told_is))))

-- a lock that is granted at once
pub comes-open : (s : ℕ) (need : Need) (rows after : List Row) (granted : Bool) → IsSound rows → granted ≡ is_open s need.mode (rows_on need.name rows)
    → after ≡ (if granted then with_row_on (row_of s need.name need.mode need.duration false) rows else rows) → granted ≡ true → ComesTo s need rows Granted after
unfolding with_lock_of
comes-open s need rows after granted sound tells new is =
    subst (ComesTo s need rows Granted) (sym (new ∙ ap (λ b. if b then with_row_on (row_of s need.name need.mode need.duration false) rows else rows) is)) (IsGranted free)
  where
    no_short : (a b : Bool) → (not a && b) ≡ true → a ≡ false
    no_short a b h = grind arith

    no_blocker : (a b : Bool) → (a && b) ≡ true → b ≡ true
    no_blocker a b h = grind arith

    nobody : (us : List ℕ) → is_empty us ≡ true → us ≡ []
    nobody [] h = refl
    nobody (u ∷ us) h = absurd (true≢false (sym h))

    open_is : is_open s need.mode (rows_on need.name rows) ≡ true
    open_is = sym tells ∙ is

    free : blocking s need rows ≡ []
    free = blocking-same s need rows sound (no_short (list_any (goes ShortLocks s) (rows_on need.name rows)) (is_empty (blockers s need.name need.mode rows)) open_is)
        ∙ nobody (blockers s need.name need.mode rows) (no_blocker (not (list_any (goes ShortLocks s) (rows_on need.name rows))) (is_empty (blockers s need.name need.mode rows)) open_is)
