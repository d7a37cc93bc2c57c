-- Where sessions stand in their list, and the list as one comes, changes or goes.
use Rattle.std.proofs.Common.{◌≡◌, ◌≢◌, ℕ, zero, suc, ◌+◌, ◌<◌, ◌≤◌, Bool, true, false, not, ◌&&◌, cond, List, [], ◌∷◌, ◌++◌, map, filter, length, take, drop, get_or, Option, None, Some, nat_eq, refl, sym, ap, ◌∙◌, subst, arith}
use Rattle.std.specs.Prelude.{nat_lt, slice_get, slice_set, IfSome, IfNone, position, find}
use Rattle.std.specs.List.{position_or_len, prefix_len, insert, remove, count_by}
use Rattle.std.proofs.lemmas.List.Folds.{find_at}
use Rattle.std.proofs.lemmas.List.Sums.{length-filter}
use Rattle.std.proofs.lemmas.Option.{slice_get_past, slice_get_read}
use Rattle.std.proofs.lemmas.Bool.Decides.{nat_tests}
use Rattle.sp_event.specs.declared.answer.Answer.TheVariants.{LatchBusy}
use Rattle.sp_model.specs.declared.session.Session.{Session}
use Rattle.sp_model.specs.State.{is_session, session_at, sessions_without, with_session, with_change}
use Rattle.sp_model.specs.Refusals.{first_holder, holds_latch}
use Rattle.sp_model.specs.Soundness.{AreAscending}
use Rattle.std.specs.List.{AllByRecursion}
use Rattle.sp_state.specs.Held.{holder_answer}

pub session-find : (s : ℕ) (xs : List Session) → session_at s xs ≡ find (is_session s) xs
session-find s [] = refl
session-find s (x ∷ xs) = ap (cond (is_session s x) (Some x)) (session-find s xs)

-- the session stands at its place
pub found_at : (s : ℕ) (xs : List Session) → IfSome (position (is_session s) xs) (λ i. session_at s xs ≡ slice_get xs i)
found_at s xs = go (nat_lt (position_or_len (is_session s) xs) (length xs))
  where
    go : (b : Bool) → IfSome (cond b (Some (position_or_len (is_session s) xs)) None) (λ i. session_at s xs ≡ slice_get xs i)
    go true = session-find s xs ∙ find_at (is_session s) xs
    go false = tt

pub found_none : (s : ℕ) (xs : List Session) → IfNone (position (is_session s) xs) (session_at s xs ≡ None)
found_none s xs = go (nat_lt (position_or_len (is_session s) xs) (length xs)) refl
  where
    past : nat_lt (position_or_len (is_session s) xs) (length xs) ≡ false → length xs ≤ position_or_len (is_session s) xs
    past h = grind (arith, nat_tests)

    go : (b : Bool) → nat_lt (position_or_len (is_session s) xs) (length xs) ≡ b → IfNone (cond b (Some (position_or_len (is_session s) xs)) None) (session_at s xs ≡ None)
    go true h = tt
    go false h = session-find s xs ∙ find_at (is_session s) xs ∙ slice_get_past xs (position_or_len (is_session s) xs) (past h)

-- a session comes to stand in its place
pub with-insert : (x : Session) (xs : List Session) → with_session x xs ≡ insert xs (position_or_len (λ (y : Session). nat_lt x.txn.session y.txn.session) xs) x
with-insert x [] = refl
with-insert x (y ∷ ys) = go (nat_lt x.txn.session y.txn.session) (with-insert x ys)
  where
    go : (b : Bool) → with_session x ys ≡ insert ys (position_or_len (λ (z : Session). nat_lt x.txn.session z.txn.session) ys) x
        → cond b (x ∷ y ∷ ys) (y ∷ with_session x ys) ≡ insert (y ∷ ys) (cond (not b) (1 + position_or_len (λ (z : Session). nat_lt x.txn.session z.txn.session) ys) 0) x
    go true e = refl
    go false e = ap (λ zs. y ∷ zs) e ∙ step (position_or_len (λ (z : Session). nat_lt x.txn.session z.txn.session) ys) (1 + position_or_len (λ (z : Session). nat_lt x.txn.session z.txn.session) ys) (omega arith)
      where
        step : (i j : ℕ) → j ≡ suc i → y ∷ insert ys i x ≡ insert (y ∷ ys) j x
        step i j e = rw e refl

-- the sessions behind have greater numbers
none-behind : (s : ℕ) (xs : List Session) → AllByRecursion (λ y. s < y.txn.session) xs → sessions_without s xs ≡ xs
none-behind s [] h = refl
none-behind s (y ∷ ys) h = go (is_session s y) (apart y.txn.session h.0) (none-behind s ys h.1)
  where
    apart : (n : ℕ) → s < n → nat_eq n s ≡ false
    apart n l = grind (arith, nat_tests)

    go : (b : Bool) → b ≡ false → sessions_without s ys ≡ ys → cond (not b) (y ∷ sessions_without s ys) (sessions_without s ys) ≡ y ∷ ys
    go true e r = cc
    go false e r = ap (λ zs. y ∷ zs) r

before : (x : Session) (xs : List Session) (i : ℕ) (s : ℕ) → slice_get xs i ≡ Some x → AllByRecursion (λ y. s < y.txn.session) xs → s < x.txn.session
before x [] i s e h = cc
before x (y ∷ ys) zero s e h = subst (λ (z : Session). s < z.txn.session) (one e) h.0
  where
    one : Some y ≡ Some x → y ≡ x
    one e = cc
before x (y ∷ ys) (suc i) s e h = before x ys i s e h.1

-- a session leaves its place
pub without-remove : (xs : List Session) (i : ℕ) (x : Session) → AreAscending xs → slice_get xs i ≡ Some x → remove xs i ≡ sessions_without x.txn.session xs
without-remove [] i x h e = cc
without-remove (y ∷ ys) zero x h e = go (is_session x.txn.session y) (same y.txn.session x.txn.session (ap (λ (z : Session). z.txn.session) (one e)))
  where
    one : Some y ≡ Some x → y ≡ x
    one e = cc

    same : (m n : ℕ) → m ≡ n → nat_eq m n ≡ true
    same m n e = grind (arith, nat_tests)

    go : (b : Bool) → b ≡ true → ys ≡ cond (not b) (y ∷ sessions_without x.txn.session ys) (sessions_without x.txn.session ys)
    go true e' = sym (none-behind x.txn.session ys (subst (λ (z : Session). AllByRecursion (λ w. z.txn.session < w.txn.session) ys) (one e) h.0))
    go false e' = cc
without-remove (y ∷ ys) (suc i) x h e = go (is_session x.txn.session y) (apart y.txn.session x.txn.session (before x ys i y.txn.session e h.0)) (without-remove ys i x h.1 e)
  where
    apart : (m n : ℕ) → m < n → nat_eq m n ≡ false
    apart m n l = grind (arith, nat_tests)

    go : (b : Bool) → b ≡ false → remove ys i ≡ sessions_without x.txn.session ys → y ∷ remove ys i ≡ cond (not b) (y ∷ sessions_without x.txn.session ys) (sessions_without x.txn.session ys)
    go true e' r = cc
    go false e' r = ap (λ zs. y ∷ zs) r

changed-behind : (s : ℕ) (change : Session → Session) (xs : List Session) → AllByRecursion (λ y. s < y.txn.session) xs → with_change s change xs ≡ xs
changed-behind s change [] h = refl
changed-behind s change (y ∷ ys) h = go (is_session s y) (apart y.txn.session h.0) (changed-behind s change ys h.1)
  where
    apart : (n : ℕ) → s < n → nat_eq n s ≡ false
    apart n l = grind (arith, nat_tests)

    go : (b : Bool) → b ≡ false → with_change s change ys ≡ ys → cond b (change y) y ∷ with_change s change ys ≡ y ∷ ys
    go true e r = cc
    go false e r = ap (λ zs. y ∷ zs) r

-- the session in its place changes
pub with_change-set : (xs : List Session) (i : ℕ) (x : Session) (change : Session → Session) → AreAscending xs → slice_get xs i ≡ Some x → slice_set xs i (change x) ≡ with_change x.txn.session change xs
with_change-set [] i x change h e = cc
with_change-set (y ∷ ys) zero x change h e = go (is_session x.txn.session y) (same y.txn.session x.txn.session (ap (λ (z : Session). z.txn.session) (one e)))
  where
    one : Some y ≡ Some x → y ≡ x
    one e = cc

    same : (m n : ℕ) → m ≡ n → nat_eq m n ≡ true
    same m n e = grind (arith, nat_tests)

    go : (b : Bool) → b ≡ true → change x ∷ ys ≡ cond b (change y) y ∷ with_change x.txn.session change ys
    go true e' = ap (λ (z : Session). change z ∷ ys) (sym (one e)) ∙ ap (λ zs. change y ∷ zs) (sym (changed-behind x.txn.session change ys (subst (λ (z : Session). AllByRecursion (λ w. z.txn.session < w.txn.session) ys) (one e) h.0)))
    go false e' = cc
with_change-set (y ∷ ys) (suc i) x change h e = go (is_session x.txn.session y) (apart y.txn.session x.txn.session (before x ys i y.txn.session e h.0)) (with_change-set ys i x change h.1 e)
  where
    apart : (m n : ℕ) → m < n → nat_eq m n ≡ false
    apart m n l = grind (arith, nat_tests)

    go : (b : Bool) → b ≡ false → slice_set ys i (change x) ≡ with_change x.txn.session change ys → y ∷ slice_set ys i (change x) ≡ cond b (change y) y ∷ with_change x.txn.session change ys
    go true e' r = cc
    go false e' r = ap (λ zs. y ∷ zs) r

-- the least session that holds the latch
abbrev pub session_in : Option Session → Option ℕ
session_in None = None
session_in (Some x) = Some x.txn.session

pub holder-find : (shared : Bool) (others : Session → Bool) (xs : List Session) → first_holder shared others xs ≡ holder_answer (session_in (find (λ y. others y && holds_latch shared y.stage) xs))
holder-find shared others [] = refl
holder-find shared others (x ∷ xs) = go (others x && holds_latch shared x.stage) (holder-find shared others xs)
  where
    go : (b : Bool) → first_holder shared others xs ≡ holder_answer (session_in (find (λ y. others y && holds_latch shared y.stage) xs))
        → cond b (Some (LatchBusy x.txn.session)) (first_holder shared others xs) ≡ holder_answer (session_in (cond b (Some x) (find (λ y. others y && holds_latch shared y.stage) xs)))
    go true e = refl
    go false e = e

-- the place of the first that passes, or the end
pub position-some : (p : Session → Bool) (xs : List Session) (i : ℕ) → position p xs ≡ Some i → (i ≡ position_or_len p xs) × (i < length xs)
position-some p xs i e = go (nat_lt (position_or_len p xs) (length xs)) refl e
  where
    below : nat_lt (position_or_len p xs) (length xs) ≡ true → position_or_len p xs < length xs
    below h = grind (arith, nat_tests)

    one : (m n : ℕ) → Some m ≡ Some n → n ≡ m
    one m n e = cc

    none : None ≡ Some i → ⊥
    none e = cc

    go : (b : Bool) → nat_lt (position_or_len p xs) (length xs) ≡ b → cond b (Some (position_or_len p xs)) None ≡ Some i → (i ≡ position_or_len p xs) × (i < length xs)
    go true h e = let s = one (position_or_len p xs) i e in (s, subst (λ n. n < length xs) (sym s) (below h))
    go false h e = absurd (none e)

pub position-none : (p : Session → Bool) (xs : List Session) → position p xs ≡ None → length xs ≡ position_or_len p xs
position-none p xs e = go (nat_lt (position_or_len p xs) (length xs)) refl e
  where
    fits : (xs : List Session) → position_or_len p xs ≤ length xs
    fits [] = omega arith
    fits (x ∷ xs) = each (not (p x)) (fits xs)
      where
        each : (b : Bool) → position_or_len p xs ≤ length xs → cond b (1 + position_or_len p xs) 0 ≤ suc (length xs)
        each true h = omega arith
        each false h = omega arith

    past : nat_lt (position_or_len p xs) (length xs) ≡ false → position_or_len p xs ≤ length xs → length xs ≡ position_or_len p xs
    past h l = grind (arith, nat_tests)

    some : Some (position_or_len p xs) ≡ None → ⊥
    some e = cc

    go : (b : Bool) → nat_lt (position_or_len p xs) (length xs) ≡ b → cond b (Some (position_or_len p xs)) None ≡ None → length xs ≡ position_or_len p xs
    go true h e = absurd (some e)
    go false h e = past h (fits xs)

-- the member at a place
pub got_at : {A : Type 0} (xs : List A) (i : ℕ) (x : A) → i < length xs → x ≡ get_or xs i x → slice_get xs i ≡ Some x
got_at xs i x h e = slice_get_read xs (length xs) i x refl h e

-- who holds the latch, by the first that does
pub held_by : (shared : Bool) (others : Session → Bool) (xs : List Session) (o : Option Session) → o ≡ find (λ y. others y && holds_latch shared y.stage) xs → first_holder shared others xs ≡ holder_answer (session_in o)
held_by shared others xs o e = holder-find shared others xs ∙ ap (λ p. holder_answer (session_in p)) (sym e)
