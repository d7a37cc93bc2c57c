-- The table with one more wait: who waits for whom there.
use Rattle.std.proofs.Common.{◌≡◌, ◌≢◌, ℕ, Bool, true, false, not, ◌&&◌, ◌||◌, if◌then◌else◌, nat_eq, List, [], ◌∷◌, ◌++◌, Option, None, Some, refl, sym, ap, ◌∙◌, subst, true≢false, arith}
use Rattle.sp_locks.specs.declared.mode.Mode.{Mode}
use Rattle.sp_locks.specs.declared.row.Name.{Name}
use Rattle.sp_locks.specs.declared.row.Row.{Row}
use Rattle.sp_locks.specs.declared.row.Duration.{Duration}
use Rattle.sp_locks.specs.declared.row.Duration.TheVariants.{Commit}
use Rattle.sp_locks.specs.Modes.{compatible}
use Rattle.sp_locks.specs.Rows.{same_name, is_held_by, is_waiter, stops, holds_in, waiting_in}
use Rattle.sp_locks.specs.Table.{rows_on, row_of, with_row_on}
use Rattle.sp_locks.specs.Soundness.{In, WaitOnce, IsSound}
use Rattle.sp_locks.proofs.Names.{same_is}
use Rattle.sp_locks.proofs.Members.{numbers-same, numbers-tell, numbers-apart, any-append}
use Rattle.sp_locks.proofs.OnNames.{with_row-on, with_row-off}
use Rattle.sp_locks.proofs.Keeping.{found-waits, none-waits, in-name, once-waiting, wait-waits, wait-others}
use Rattle.sp_waits.specs.Edges.{stopping, stopped_by, of_row, waits_of, once_waiting}
use Rattle.sp_waits.specs.Search.{waits_for}

-- a row that waits is held by nobody
holds-last : (u : ℕ) (xs : List Row) (r : Row) → r.waiting ≡ true → holds_in u (xs ++ r ∷ []) ≡ holds_in u xs
holds-last u xs r w = any-append (is_held_by u) xs (r ∷ []) ∙ ap (λ b. holds_in u xs || ((not b && nat_eq r.session u) || false)) w ∙ none (holds_in u xs)
  where
    none : (a : Bool) → (a || (false || false)) ≡ a
    none a = grind arith

-- behind the session's own request nobody waits ahead of it
stopping-own : (h : Bool) (m : Mode) (xs : List Row) (r : Row) → r.waiting ≡ true → stopping h r.session m (xs ++ r ∷ []) ≡ stopping h r.session m xs
stopping-own h m [] r w = rw (w, numbers-tell r.session r.session refl) refl
stopping-own h m (x ∷ xs) r w = go (is_waiter r.session x) (stops h r.session m x) (λ b. stopping-own b m xs r w)
  where
    go : (a b : Bool) → ((c : Bool) → stopping c r.session m (xs ++ r ∷ []) ≡ stopping c r.session m xs)
        → (if a then stopping true r.session m (xs ++ r ∷ []) else (if b then x.session ∷ stopping h r.session m (xs ++ r ∷ []) else stopping h r.session m (xs ++ r ∷ [])))
        ≡ (if a then stopping true r.session m xs else (if b then x.session ∷ stopping h r.session m xs else stopping h r.session m xs))
    go true b rest = rest true
    go false true rest = ap (λ (ys : List ℕ). x.session ∷ ys) (rest h)
    go false false rest = rest h

-- and what waits behind another's request blocks it not
stopping-behind : (u : ℕ) (m : Mode) (xs : List Row) (r : Row) → r.waiting ≡ true → u ≢ r.session → stopping true u m (xs ++ r ∷ []) ≡ stopping true u m xs
stopping-behind u m [] r w other = rw (w, numbers-apart r.session u (λ e. other (sym e))) (free (compatible m r.mode))
  where
    free : (c : Bool) → (if (not false && not c) && false then r.session ∷ [] else []) ≡ []
    free true = refl
    free false = refl
stopping-behind u m (x ∷ xs) r w other = go (is_waiter u x) (stops true u m x) (stopping-behind u m xs r w other)
  where
    go : (a b : Bool) → stopping true u m (xs ++ r ∷ []) ≡ stopping true u m xs
        → (if a then stopping true u m (xs ++ r ∷ []) else (if b then x.session ∷ stopping true u m (xs ++ r ∷ []) else stopping true u m (xs ++ r ∷ [])))
        ≡ (if a then stopping true u m xs else (if b then x.session ∷ stopping true u m xs else stopping true u m xs))
    go true b rest = rest
    go false true rest = ap (λ (ys : List ℕ). x.session ∷ ys) rest
    go false false rest = rest

stopping-other : (h : Bool) (u : ℕ) (m : Mode) (xs : List Row) (r : Row) → r.waiting ≡ true → u ≢ r.session → (x : Row) → waiting_in u xs ≡ Some x → stopping h u m (xs ++ r ∷ []) ≡ stopping h u m xs
stopping-other h u m [] r w other x is = absurd (let k : None ≡ Some x = is in cc)
stopping-other h u m (y ∷ xs) r w other x is = go (is_waiter u y) (stops h u m y) is (stopping-other h u m xs r w other x) (stopping-behind u m xs r w other)
  where
    go : (a b : Bool) → (if a then Some y else waiting_in u xs) ≡ Some x → (waiting_in u xs ≡ Some x → stopping h u m (xs ++ r ∷ []) ≡ stopping h u m xs) → stopping true u m (xs ++ r ∷ []) ≡ stopping true u m xs
        → (if a then stopping true u m (xs ++ r ∷ []) else (if b then y.session ∷ stopping h u m (xs ++ r ∷ []) else stopping h u m (xs ++ r ∷ [])))
        ≡ (if a then stopping true u m xs else (if b then y.session ∷ stopping h u m xs else stopping h u m xs))
    go true b e rest behind = behind
    go false true e rest behind = ap (λ (ys : List ℕ). y.session ∷ ys) (rest e)
    go false false e rest behind = rest e

-- the rows on the name of the wait
pub on-waiting : (r : Row) (rows : List Row) → r.waiting ≡ true → rows_on r.name (with_row_on r rows) ≡ rows_on r.name rows ++ r ∷ []
on-waiting r rows w = with_row-on r rows ∙ rw w refl

-- who waits for whom once s waits, by the table without that wait
pub waits-are_for : (rows : List Row) (s : ℕ) (name : Name) (mode : Mode) (duration : Duration) → IsSound rows → waiting_in s rows ≡ None → (u : ℕ) → waits_of (with_row_on (row_of s name mode duration true) rows) u ≡ waits_for rows s name mode u
waits-are_for rows s name mode duration sound awake u = go (nat_eq u s) refl
  where
    r : Row
    r = row_of s name mode duration true

    once : WaitOnce (with_row_on r rows)
    once = once-waiting r rows refl awake sound.once

    own : stopped_by s name mode (with_row_on r rows) ≡ stopped_by s name mode rows
    own =
        ap (λ (xs : List Row). stopping (holds_in s xs) s mode xs) (on-waiting r rows refl) ∙ ap (λ b. stopping b s mode (rows_on name rows ++ r ∷ [])) (holds-last s (rows_on name rows) r refl)
        ∙ stopping-own (holds_in s (rows_on name rows)) mode (rows_on name rows) r refl

    others : u ≢ s → (o : Option Row) → waiting_in u rows ≡ o → of_row u (with_row_on r rows) o ≡ of_row u rows o
    others other None e = refl
    others other (Some x) e = here (same_name x.name name) refl
      where
        f : waiting_in u (rows_on x.name rows) ≡ Some x
        f = Rattle.sp_locks.proofs.Keeping.waiting-on u x.name rows sound.once (ap Rattle.sp_locks.specs.Soundness.name_of e) ∙ e

        here : (b : Bool) → same_name x.name name ≡ b → stopped_by u x.name x.mode (with_row_on r rows) ≡ stopped_by u x.name x.mode rows
        here true k =
            let n : x.name ≡ name = same_is x.name name k in
            let on : rows_on x.name (with_row_on r rows) ≡ rows_on x.name rows ++ r ∷ [] = subst (λ (m : Name). rows_on m (with_row_on r rows) ≡ rows_on m rows ++ r ∷ []) (sym n) (on-waiting r rows refl) in
            ap (λ (xs : List Row). stopping (holds_in u xs) u x.mode xs) on ∙ ap (λ b. stopping b u x.mode (rows_on x.name rows ++ r ∷ [])) (holds-last u (rows_on x.name rows) r refl)
            ∙ stopping-other (holds_in u (rows_on x.name rows)) u x.mode (rows_on x.name rows) r refl other x f
        here false k = ap (λ (xs : List Row). stopping (holds_in u xs) u x.mode xs) (with_row-off x.name r rows k)

    go : (b : Bool) → nat_eq u s ≡ b → waits_of (with_row_on r rows) u ≡ (if b then stopped_by s name mode rows else waits_of rows u)
    go true e =
        let same : u ≡ s = numbers-same u s e in
        subst (λ (v : ℕ). waits_of (with_row_on r rows) v ≡ stopped_by s name mode rows) (sym same) (ap (of_row s (with_row_on r rows)) (wait-waits r rows refl once) ∙ own)
    go false e =
        let other : u ≢ s = (λ (k : u ≡ s). true≢false (sym (numbers-tell u s k) ∙ e)) in
        ap (of_row u (with_row_on r rows)) (wait-others u r rows refl other sound.once once) ∙ others other (waiting_in u rows) refl

pub waits-are : (rows : List Row) (s : ℕ) (name : Name) (mode : Mode) → IsSound rows → waiting_in s rows ≡ None → (u : ℕ) → waits_of (once_waiting s name mode rows) u ≡ waits_for rows s name mode u
waits-are rows s name mode sound awake u = waits-are_for rows s name mode Commit sound awake u
