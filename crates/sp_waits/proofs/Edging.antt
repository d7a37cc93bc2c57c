-- The edge between two sessions, in the table with one more wait.
use Rattle.std.proofs.Common.{◌≡◌, ◌≢◌, ◌⊎◌, ℕ, Bool, true, false, not, ◌&&◌, if◌then◌else◌, nat_eq, List, [], ◌∷◌, ◌++◌, Option, None, Some, refl, sym, ap, ◌∙◌, subst, inl, inr, true≢false, arith}
use Rattle.std.specs.Prelude.{unwrap_or}
use Rattle.sp_locks.specs.declared.mode.Mode.{Mode}
use Rattle.sp_locks.specs.declared.row.Name.{Name}
use Rattle.sp_locks.specs.declared.row.Row.{Row}
use Rattle.sp_locks.specs.declared.row.Duration.TheVariants.{Commit}
use Rattle.sp_locks.specs.Modes.{compatible}
use Rattle.sp_locks.specs.Rows.{same_name, is_held_by, is_waiter, stops, holds_in, join_onto, held_in, waiting_in}
use Rattle.sp_locks.specs.Table.{rows_on, held, row_of, with_row_on}
use Rattle.sp_locks.specs.Soundness.{In, WaitOnce, IsSound}
use Rattle.sp_locks.specs.Blocking.{is_compatible_with}
use Rattle.sp_locks.proofs.Names.{same_is}
use Rattle.sp_locks.proofs.Members.{numbers-same, numbers-tell, both}
use Rattle.sp_locks.proofs.OnNames.{with_row-off}
use Rattle.sp_locks.proofs.Keeping.{in-table, in-name, once-on, once-waiting, waiting-stays, found-one, wait-waits, wait-others}
use Rattle.sp_locks.proofs.Blocking.{held-against}
use Rattle.sp_waits.specs.Edges.{member, stopping, stopped_by, of_row, waits_of, once_waiting}
use Rattle.sp_waits.specs.Search.{waits_for}
use Rattle.sp_waits.specs.Cycles.{blocking_mode, IsEdge}
use Rattle.sp_waits.proofs.Levelling.{or-cases}
use Rattle.sp_waits.proofs.Waiting.{on-waiting, waits-are}

pub waits-own : (rows : List Row) (s : ℕ) (name : Name) (mode : Mode) → IsSound rows → waiting_in s rows ≡ None → waiting_in s (once_waiting s name mode rows) ≡ Some (row_of s name mode Commit true)
waits-own rows s name mode sound awake = let r = row_of s name mode Commit true in wait-waits r rows refl (once-waiting r rows refl awake sound.once)

pub waits-other : (rows : List Row) (s : ℕ) (name : Name) (mode : Mode) → IsSound rows → waiting_in s rows ≡ None → (u : ℕ) → u ≢ s → waiting_in u (once_waiting s name mode rows) ≡ waiting_in u rows
waits-other rows s name mode sound awake u other = let r = row_of s name mode Commit true in wait-others u r rows refl other sound.once (once-waiting r rows refl awake sound.once)

-- what the session asks for
pub asks-own : (rows : List Row) (s u : ℕ) (name : Name) (mode : Mode) (row : Row) → IsSound rows → waiting_in s rows ≡ None → u ≡ s → waiting_in u (once_waiting s name mode rows) ≡ Some row → (name ≡ row.name) × (mode ≡ row.mode)
asks-own rows s u name mode row sound awake same is =
    let e : Some (row_of s name mode Commit true) ≡ Some row = sym (waits-own rows s name mode sound awake) ∙ ap (λ (v : ℕ). waiting_in v (once_waiting s name mode rows)) (sym same) ∙ is in
    let f : row_of s name mode Commit true ≡ row = cc in
    (ap (λ (q : Row). q.name) f, ap (λ (q : Row). q.mode) f)

pub asks-other : (rows : List Row) (s u : ℕ) (name : Name) (mode : Mode) (row r : Row) → IsSound rows → waiting_in s rows ≡ None → u ≢ s → waiting_in u rows ≡ Some r → waiting_in u (once_waiting s name mode rows) ≡ Some row → (r.name ≡ row.name) × (r.mode ≡ row.mode)
asks-other rows s u name mode row r sound awake other old is =
    let e : Some r ≡ Some row = sym old ∙ sym (waits-other rows s name mode sound awake u other) ∙ is in
    let f : r ≡ row = cc in
    (ap (λ (q : Row). q.name) f, ap (λ (q : Row). q.mode) f)

pub asks-none : (rows : List Row) (s u : ℕ) (name : Name) (mode : Mode) (row : Row) → IsSound rows → waiting_in s rows ≡ None → u ≢ s → waiting_in u rows ≡ None → waiting_in u (once_waiting s name mode rows) ≡ Some row → ⊥
asks-none rows s u name mode row sound awake other old is = let e : None ≡ Some row = sym old ∙ sym (waits-other rows s name mode sound awake u other) ∙ is in cc

-- a session that blocks has a row that does
pub stopping-row : (h : Bool) (u v : ℕ) (m : Mode) (xs : List Row) → member v (stopping h u m xs) ≡ true → (x : Row) × In x xs × (x.session ≡ v) × (compatible m x.mode ≡ false)
stopping-row h u v m [] k = absurd (true≢false (sym k))
stopping-row h u v m (x ∷ xs) k = go (is_waiter u x) (stops h u m x) refl k (λ c. stopping-row c u v m xs)
  where
    later : (y : Row) × In y xs × (y.session ≡ v) × (compatible m y.mode ≡ false) → (y : Row) × In y (x ∷ xs) × (y.session ≡ v) × (compatible m y.mode ≡ false)
    later (y, i, e, c) = (y, inr i, e, c)

    against : (a b c : Bool) → ((not a && not b) && c) ≡ true → b ≡ false
    against a b c k = grind arith

    here : stops h u m x ≡ true → (nat_eq v x.session ≡ true) ⊎ (member v (stopping h u m xs) ≡ true) → (member v (stopping h u m xs) ≡ true → (y : Row) × In y xs × (y.session ≡ v) × (compatible m y.mode ≡ false)) → (y : Row) × In y (x ∷ xs) × (y.session ≡ v) × (compatible m y.mode ≡ false)
    here t (inl e) rest = (x, inl refl, sym (numbers-same v x.session e), against (nat_eq x.session u) (compatible m x.mode) (not (x.waiting && h)) t)
    here t (inr j) rest = later (rest j)

    go : (a b : Bool) → stops h u m x ≡ b → member v (if a then stopping true u m xs else (if b then x.session ∷ stopping h u m xs else stopping h u m xs)) ≡ true
        → ((c : Bool) → member v (stopping c u m xs) ≡ true → (y : Row) × In y xs × (y.session ≡ v) × (compatible m y.mode ≡ false)) → (y : Row) × In y (x ∷ xs) × (y.session ≡ v) × (compatible m y.mode ≡ false)
    go true b t k rest = later (rest true k)
    go false true t k rest = here t (or-cases (nat_eq v x.session) (member v (stopping h u m xs)) k) (rest h)
    go false false t k rest = later (rest h k)

held-last : (u : ℕ) (xs : List Row) (r : Row) → r.waiting ≡ true → held_in u (xs ++ r ∷ []) ≡ held_in u xs
held-last u [] r w = rw w refl
held-last u (x ∷ xs) r w = ap (λ (o : Option Mode). if is_held_by u x then join_onto x.mode o else o) (held-last u xs r w)

held-once : (rows : List Row) (r : Row) (u : ℕ) (n : Name) → r.waiting ≡ true → held u n (with_row_on r rows) ≡ held u n rows
held-once rows r u n w = go (same_name n r.name) refl
  where
    go : (b : Bool) → same_name n r.name ≡ b → held u n (with_row_on r rows) ≡ held u n rows
    go true e =
        let same : n ≡ r.name = same_is n r.name e in
        subst (λ (m : Name). held u m (with_row_on r rows) ≡ held u m rows) (sym same) (ap (held_in u) (on-waiting r rows w) ∙ held-last u (rows_on r.name rows) r w)
    go false e = ap (held_in u) (with_row-off n r rows e)

-- the session that blocks holds an incompatible mode, or waits for one
tells : (rows : List Row) (s : ℕ) (name : Name) (mode : Mode) → IsSound rows → waiting_in s rows ≡ None → (to : ℕ) (n : Name) (m : Mode) (x : Row) → In x (rows_on n rows) → x.session ≡ to → compatible m x.mode ≡ false
    → blocking_mode m (held to n (once_waiting s name mode rows)) (waiting_in to (rows_on n (once_waiting s name mode rows))) ≡ Some (unwrap_or (blocking_mode m (held to n rows) (waiting_in to rows)) (m, true))
tells rows s name mode sound awake to n m x i by against = ap (λ (o : Option Mode). blocking_mode m o (waiting_in to (rows_on n (with_row_on r rows)))) (held-once rows r to n refl) ∙ go (held to n rows) refl
  where
    r : Row
    r = row_of s name mode Commit true

    once : WaitOnce (with_row_on r rows)
    once = once-waiting r rows refl awake sound.once

    k : In x rows × (n ≡ x.name)
    k = in-table n x rows i

    waits : is_compatible_with m (held to n rows) ≡ true → x.waiting ≡ true
    waits free = at x.waiting refl
      where
        at : (b : Bool) → x.waiting ≡ b → b ≡ true
        at true e = refl
        at false e = absurd (true≢false (sym free ∙ held-against to m x (rows_on n rows) i e by against))

    old : x.waiting ≡ true → waiting_in to rows ≡ Some x
    old w = found-one to rows x sound.once k.0 (both x.waiting (nat_eq x.session to) w (numbers-tell x.session to by))

    new : x.waiting ≡ true → waiting_in to (rows_on n (with_row_on r rows)) ≡ Some x
    new w =
        found-one to (rows_on n (with_row_on r rows)) x (once-on n (with_row_on r rows) once)
        (subst (λ (p : Name). In x (rows_on p (with_row_on r rows))) (sym k.1) (in-name x (with_row_on r rows) (waiting-stays r rows refl x (inl k.0)))) (both x.waiting (nat_eq x.session to) w (numbers-tell x.session to by))

    free-none : (o : Option Mode) → held to n rows ≡ o → is_compatible_with m o ≡ true → is_compatible_with m (held to n rows) ≡ true
    free-none o e h = ap (is_compatible_with m) e ∙ h

    waiting : (o : Option Mode) → held to n rows ≡ o → is_compatible_with m o ≡ true → ((p : Option Row) → p ≡ Some x → blocking_mode m o p ≡ Some (x.mode, true)) → blocking_mode m o (waiting_in to (rows_on n (with_row_on r rows))) ≡ Some (unwrap_or (blocking_mode m o (waiting_in to rows)) (m, true))
    waiting o e free says =
        let w = waits (free-none o e free) in
        says (waiting_in to (rows_on n (with_row_on r rows))) (new w) ∙ ap (λ (q : Option (Mode × Bool)). Some (unwrap_or q (m, true))) (sym (says (waiting_in to rows) (old w)))

    go : (o : Option Mode) → held to n rows ≡ o → blocking_mode m o (waiting_in to (rows_on n (with_row_on r rows))) ≡ Some (unwrap_or (blocking_mode m o (waiting_in to rows)) (m, true))
    go None e = waiting None e refl (λ p q. ap (blocking_mode m None) q)
    go (Some h) e = by_mode (compatible m h) refl
      where
        shut : (p : Option Row) → compatible m h ≡ false → blocking_mode m (Some h) p ≡ Some (h, false)
        shut None f = rw f refl
        shut (Some w) f = rw f refl

        by_mode : (b : Bool) → compatible m h ≡ b → blocking_mode m (Some h) (waiting_in to (rows_on n (with_row_on r rows))) ≡ Some (unwrap_or (blocking_mode m (Some h) (waiting_in to rows)) (m, true))
        by_mode true f = waiting (Some h) e f (λ p q. ap (blocking_mode m (Some h)) q ∙ rw f refl)
        by_mode false f = shut (waiting_in to (rows_on n (with_row_on r rows))) f ∙ ap (λ (q : Option (Mode × Bool)). Some (unwrap_or q (m, true))) (sym (shut (waiting_in to rows) f))

pub edge-is : (rows : List Row) (s : ℕ) (name : Name) (mode : Mode) → IsSound rows → waiting_in s rows ≡ None → (from to : ℕ) → member to (waits_for rows s name mode from) ≡ true → (n : Name) (m : Mode) (has : Mode × Bool)
    → ((row : Row) → waiting_in from (once_waiting s name mode rows) ≡ Some row → (n ≡ row.name) × (m ≡ row.mode)) → has ≡ unwrap_or (blocking_mode m (held to n rows) (waiting_in to rows)) (m, true)
    → IsEdge (once_waiting s name mode rows) (record { from = from; to = to; name = n; wanted = m; has = has.0; waiting = has.1 })
edge-is rows s name mode sound awake from to waits n m has asked is = go (waiting_in from (once_waiting s name mode rows)) refl
  where
    edge : member to (waits_of (once_waiting s name mode rows) from) ≡ true
    edge = ap (member to) (waits-are rows s name mode sound awake from) ∙ waits

    -- by the rows without the wait
    stopped : (row : Row) → waiting_in from (once_waiting s name mode rows) ≡ Some row → member to (stopped_by from row.name row.mode rows) ≡ true
    stopped row e = by (nat_eq from s) refl waits
      where
        by : (b : Bool) → nat_eq from s ≡ b → member to (if b then stopped_by s name mode rows else waits_of rows from) ≡ true → member to (stopped_by from row.name row.mode rows) ≡ true
        by true t k =
            let same = numbers-same from s t in
            let a = asks-own rows s from name mode row sound awake same e in
            subst (λ (p : Name). member to (stopped_by from p row.mode rows) ≡ true) a.0 (subst (λ (p : Mode). member to (stopped_by from name p rows) ≡ true) a.1 (subst (λ (u : ℕ). member to (stopped_by u name mode rows) ≡ true) (sym same) k))
        by false t k =
            let other : from ≢ s = (λ (same : from ≡ s). true≢false (sym (numbers-tell from s same) ∙ t)) in
            ap (λ (o : Option Row). member to (of_row from rows o)) (sym e ∙ waits-other rows s name mode sound awake from other) ∙ k

    go : (o : Option Row) → waiting_in from (once_waiting s name mode rows) ≡ o → IsEdge (once_waiting s name mode rows) (record { from = from; to = to; name = n; wanted = m; has = has.0; waiting = has.1 })
    go None e = absurd (true≢false (sym edge ∙ ap (λ (o : Option Row). member to (of_row from (once_waiting s name mode rows) o)) e))
    go (Some row) e =
        let a = asked row e in
        let b = stopping-row (holds_in from (rows_on row.name rows)) from to row.mode (rows_on row.name rows) (stopped row e) in
        let on : In b.0 (rows_on n rows) = subst (λ (p : Name). In b.0 (rows_on p rows)) (sym a.0) b.1 in
        let against : compatible m b.0.mode ≡ false = ap (λ (p : Mode). compatible p b.0.mode) a.1 ∙ b.3 in
        record { waits = edge; row = row; by = e; on = sym a.0; asked = sym a.1; blocked = tells rows s name mode sound awake to n m b.0 on b.2 against ∙ ap (λ (q : Mode × Bool). Some q) (sym is) }
