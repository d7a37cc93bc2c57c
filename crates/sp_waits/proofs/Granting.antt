-- Granted requests and gifts make no cycle.
use Rattle.std.proofs.Common.{◌≡◌, ◌≢◌, ◌⊎◌, ℕ, Bool, true, false, List, [], ◌∷◌, ◌++◌, Option, None, Some, refl, sym, ap, ◌∙◌, subst, inl, inr, true≢false, append-nil, append_assoc}
use Rattle.sp_locks.specs.declared.row.Name.{Name}
use Rattle.sp_locks.specs.declared.row.Row.{Row}
use Rattle.sp_locks.specs.declared.needs.Need.{Need}
use Rattle.sp_locks.specs.Rows.{same_name, is_blocked, is_waiter, holds_in, waiting_in, with_lock}
use Rattle.sp_locks.specs.Table.{rows_on, with_row_on, lock_for, given, AreFree, AreFreeInTurn}
use Rattle.sp_locks.specs.Soundness.{In, Before, IsSound}
use Rattle.sp_locks.proofs.Names.{same_is}
use Rattle.sp_locks.proofs.Members.{before-kept, before-filtered}
use Rattle.sp_locks.proofs.Compatibility.{Made, New, Raised, in-with_lock}
use Rattle.sp_locks.proofs.Once.{waiters, waiters-with_lock}
use Rattle.sp_locks.proofs.OnNames.{with_row-on, with_row-off}
use Rattle.sp_locks.proofs.Giving.{added-free, free-in_turn}
use Rattle.sp_locks.proofs.Keeping.{found-waits, waiter-is, in-name, once-on, grant-waits, grant-sound}
use Rattle.sp_waits.specs.Edges.{member, stopping, stopped_by, of_row, waits_of, NoCycle}
use Rattle.sp_waits.proofs.Acyclic.{Ahead, IsStopping, starts-waiting, of_stopping, to_stopping, ahead-before, before-ahead, no_cycle-kept, holds-with}

-- an edge between sessions that wait, neither of which gets the lock
locked-edge : (lock : Row) (xs : List Row) (u v : ℕ) (q : Row) → lock.waiting ≡ false → v ≢ lock.session → is_waiter u q ≡ true → In q (with_lock lock xs) → ((ys : List Row) → ys ≡ xs → Rattle.sp_locks.specs.Soundness.WaitOnce ys)
    → member v (stopping (holds_in u (with_lock lock xs)) u q.mode (with_lock lock xs)) ≡ true → member v (stopping (holds_in u xs) u q.mode xs) ≡ true
locked-edge lock xs u v q held other own there once h = subst (λ (n : ℕ). member n (stopping (holds_in u xs) u q.mode xs) ≡ true) k.by (to_stopping (holds_in u xs) u q.mode xs k.row (old k.how) k.other k.against (how k.how))
  where
    k : IsStopping (holds_in u (with_lock lock xs)) u q.mode (with_lock lock xs) v
    k = of_stopping (holds_in u (with_lock lock xs)) u q.mode (with_lock lock xs) v h

    owner : (a : Row) → Made lock xs a → a.session ≡ lock.session
    owner a (New f) = ap (λ (z : Row). z.session) (sym f)
    owner a (Raised y j w s f) = ap (λ (z : Row). z.session) (sym f) ∙ s

    stood : In k.row xs ⊎ Made lock xs k.row → In k.row xs
    stood (inl i) = i
    stood (inr m) = absurd (other (sym k.by ∙ owner k.row m))

    old : (k.row.waiting ≡ false) ⊎ ((holds_in u (with_lock lock xs) ≡ false) × Ahead u k.row (with_lock lock xs)) → In k.row xs
    old w = stood (in-with_lock lock xs k.row k.stands)

    nothing : holds_in u (with_lock lock xs) ≡ false → holds_in u xs ≡ false
    nothing none = go (holds_in u xs) refl
      where
        go : (b : Bool) → holds_in u xs ≡ b → b ≡ false
        go false e = refl
        go true e = absurd (true≢false (sym (holds-with u lock xs e) ∙ none))

    how : (k.row.waiting ≡ false) ⊎ ((holds_in u (with_lock lock xs) ≡ false) × Ahead u k.row (with_lock lock xs)) → (k.row.waiting ≡ false) ⊎ ((holds_in u xs ≡ false) × Ahead u k.row xs)
    how (inl w) = inl w
    how (inr (none, a)) = go k.row.waiting refl
      where
        go : (b : Bool) → k.row.waiting ≡ b → (k.row.waiting ≡ false) ⊎ ((holds_in u xs ≡ false) × Ahead u k.row xs)
        go false w = inl w
        go true w =
            let b : Before k.row q (with_lock lock xs) = ahead-before u k.row q (with_lock lock xs) k.other own there a in
            let c : Before k.row q (waiters xs) = subst (λ (zs : List Row). Before k.row q zs) (waiters-with_lock lock xs held) (before-kept (λ z. z.waiting) k.row q (with_lock lock xs) b w (waiter-is u q own).0) in
            inr (nothing none, before-ahead u k.row q xs (once xs refl) own (before-filtered (λ z. z.waiting) k.row q xs c))

pub grant-acyclic : (rows : List Row) (r : Row) → r.waiting ≡ false → waiting_in r.session rows ≡ None → IsSound rows → IsSound (with_row_on r rows) → NoCycle rows → NoCycle (with_row_on r rows)
grant-acyclic rows r held awake sound now none = no_cycle-kept rows (with_row_on r rows) kept none
  where
    same : (u : ℕ) → waiting_in u (with_row_on r rows) ≡ waiting_in u rows
    same u = grant-waits u r rows held sound.once now.once

    kept : (u v : ℕ) (y : Row) → waiting_in v (with_row_on r rows) ≡ Some y → member v (waits_of (with_row_on r rows) u) ≡ true → member v (waits_of rows u) ≡ true
    kept u v y w h = subst (λ (o : Option Row). member v (of_row u rows o) ≡ true) (sym (sym (same u) ∙ start.1)) (go (same_name q.name r.name) refl start.2)
      where
        start : (q : Row) × (waiting_in u (with_row_on r rows) ≡ Some q) × (member v (stopped_by u q.name q.mode (with_row_on r rows)) ≡ true)
        start = starts-waiting (with_row_on r rows) u v h

        q : Row
        q = start.0

        f : In q (with_row_on r rows) × (is_waiter u q ≡ true)
        f = found-waits u (with_row_on r rows) q start.1

        other : v ≢ r.session
        other e = let k : Some y ≡ None = sym w ∙ same v ∙ ap (λ (n : ℕ). waiting_in n rows) e ∙ awake in cc

        go : (b : Bool) → same_name q.name r.name ≡ b → member v (stopped_by u q.name q.mode (with_row_on r rows)) ≡ true → member v (stopped_by u q.name q.mode rows) ≡ true
        go false e k = subst (λ (xs : List Row). member v (stopping (holds_in u xs) u q.mode xs) ≡ true) (with_row-off q.name r rows e) k
        go true e k =
            let n : q.name ≡ r.name = same_is q.name r.name e in
            let is : rows_on q.name (with_row_on r rows) ≡ with_lock r (rows_on q.name rows) = subst (λ (m : Name). rows_on m (with_row_on r rows) ≡ with_lock r (rows_on m rows)) (sym n) (with_row-on r rows ∙ rw held refl) in
            locked-edge r (rows_on q.name rows) u v q held other f.1 (subst (In q) is (in-name q (with_row_on r rows) f.0)) (λ ys g. subst Rattle.sp_locks.specs.Soundness.WaitOnce (sym g) (once-on q.name rows sound.once))
            (subst (λ (xs : List Row). member v (stopping (holds_in u xs) u q.mode xs) ≡ true) is k)

gifts-in_turn : (s : ℕ) (needs : List Need) (rows : List Row) → AreFreeInTurn s rows needs → waiting_in s rows ≡ None → IsSound rows → NoCycle rows → NoCycle (rows ++ given s needs)
gifts-in_turn s [] rows free awake sound none = subst NoCycle (sym (append-nil rows)) none
gifts-in_turn s (need ∷ needs) rows free awake sound none =
    let lock : Row = lock_for s need in
    let is : with_row_on lock rows ≡ rows ++ lock ∷ [] = added-free s need rows free.0 in
    let now : IsSound (with_row_on lock rows) =
    grant-sound lock rows refl (λ (x : Row) (i : In x (rows_on need.name rows)) (w : x.waiting ≡ true) (e : x.session ≡ s). subst (In x) free.0 i) (ap (λ (xs : List Row). is_blocked xs [] s need.mode) free.0) sound in
    subst NoCycle (append_assoc rows (lock ∷ []) (given s needs))
    (gifts-in_turn s needs (rows ++ lock ∷ []) free.1 (ap (waiting_in s) (sym is) ∙ grant-waits s lock rows refl sound.once now.once ∙ awake) (subst IsSound is now) (subst NoCycle is (grant-acyclic rows lock refl awake sound now none)))

pub gifts-acyclic : (rows : List Row) (s : ℕ) (needs : List Need) → AreFree rows needs → waiting_in s rows ≡ None → IsSound rows → NoCycle rows → NoCycle (rows ++ given s needs)
gifts-acyclic rows s needs free awake sound none = gifts-in_turn s needs rows (free-in_turn s rows needs free) awake sound none
