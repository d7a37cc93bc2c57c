-- What a change of one session leaves of each.
use Rattle.std.proofs.Common.{◌≡◌, ℕ, Bool, true, false, not, cond, List, [], ◌∷◌, nat_eq, Option, None, Some, refl, sym, ap, ◌∙◌, subst, arith}
use Rattle.std.specs.Prelude.{nat_lt}
use Rattle.std.proofs.lemmas.Bool.Decides.{nat_tests}
use Rattle.sp_model.specs.declared.session.Session.{Session}
use Rattle.sp_model.specs.State.{is_session, session_at, sessions_without, with_session, with_change}

-- that session becomes the one given, or goes, and each other one stays
pub record SessionsAnew (s : ℕ) (old new : List Session) (mine : Option Session) : Type 0 where
  pub own : session_at s new ≡ mine
  pub others : (n : ℕ) → nat_eq n s ≡ false → session_at n new ≡ session_at n old

apart : (n s m : ℕ) → nat_eq n s ≡ false → nat_eq m s ≡ true → nat_eq m n ≡ false
apart n s m e f = grind (arith, nat_tests)

pub at_once : (s : ℕ) (xs ys zs : List Session) (o p : Option Session) → SessionsAnew s xs ys o → SessionsAnew s ys zs p → SessionsAnew s xs zs p
at_once s xs ys zs o p a b = record { own = b.own; others = λ n e. b.others n e ∙ a.others n e }

-- a session goes
none_left : (s : ℕ) (xs : List Session) → session_at s (sessions_without s xs) ≡ None
none_left s [] = refl
none_left s (x ∷ xs) = go (is_session s x) refl (none_left s xs)
  where
    go : (b : Bool) → is_session s x ≡ b → session_at s (sessions_without s xs) ≡ None → session_at s (cond (not b) (x ∷ sessions_without s xs) (sessions_without s xs)) ≡ None
    go true e h = h
    go false e h = rw e h

others_left : (n s : ℕ) (xs : List Session) → nat_eq n s ≡ false → session_at n (sessions_without s xs) ≡ session_at n xs
others_left n s [] other = refl
others_left n s (x ∷ xs) other = go (is_session s x) refl (others_left n s xs other)
  where
    go : (b : Bool) → is_session s x ≡ b → session_at n (sessions_without s xs) ≡ session_at n xs → session_at n (cond (not b) (x ∷ sessions_without s xs) (sessions_without s xs)) ≡ cond (is_session n x) (Some x) (session_at n xs)
    go true e h = rw (apart n s x.txn.session other e) h
    go false e h = ap (λ (o : Option Session). cond (is_session n x) (Some x) o) h

pub session_goes : (s m : ℕ) (xs : List Session) → m ≡ s → SessionsAnew s xs (sessions_without m xs) None
session_goes s m xs e = subst (λ n. SessionsAnew s xs (sessions_without n xs) None) (sym e) (record { own = none_left s xs; others = λ n other. others_left n s xs other })

-- a session changes
module _ (s : ℕ) (change : Session → Session) (keeps : (x : Session) → (change x).txn.session ≡ x.txn.session) where
  one_changed : (xs : List Session) (x : Session) → session_at s xs ≡ Some x → session_at s (with_change s change xs) ≡ Some (change x)
  one_changed [] x h = absurd (none h)
    where
      none : None ≡ Some x → ⊥
      none h = cc
  one_changed (y ∷ ys) x h = go (is_session s y) refl h (one_changed ys x)
    where
      is : Some y ≡ Some x → y ≡ x
      is h = cc

      go : (b : Bool) → is_session s y ≡ b → cond b (Some y) (session_at s ys) ≡ Some x → (session_at s ys ≡ Some x → session_at s (with_change s change ys) ≡ Some (change x)) → session_at s (cond b (change y) y ∷ with_change s change ys) ≡ Some (change x)
      go true e l rest = rw (ap (λ m. nat_eq m s) (keeps y) ∙ e) (ap (λ (z : Session). Some (change z)) (is l))
      go false e l rest = rw e (rest l)

  others_unchanged : (n : ℕ) (xs : List Session) → nat_eq n s ≡ false → session_at n (with_change s change xs) ≡ session_at n xs
  others_unchanged n [] other = refl
  others_unchanged n (y ∷ ys) other = go (is_session s y) refl (others_unchanged n ys other)
    where
      go : (b : Bool) → is_session s y ≡ b → session_at n (with_change s change ys) ≡ session_at n ys → session_at n (cond b (change y) y ∷ with_change s change ys) ≡ cond (is_session n y) (Some y) (session_at n ys)
      go true e h = rw (ap (λ m. nat_eq m n) (keeps y) ∙ apart n s y.txn.session other e, apart n s y.txn.session other e) h
      go false e h = ap (λ (o : Option Session). cond (is_session n y) (Some y) o) h

pub session_changes : (s m : ℕ) (change : Session → Session) (xs : List Session) (x : Session) → m ≡ s → ((y : Session) → (change y).txn.session ≡ y.txn.session) → session_at s xs ≡ Some x → SessionsAnew s xs (with_change m change xs) (Some (change x))
session_changes s m change xs x e keeps at = subst (λ n. SessionsAnew s xs (with_change n change xs) (Some (change x))) (sym e) (record { own = one_changed s change keeps xs x at; others = λ n other. others_unchanged s change keeps n xs other })

-- a session comes
one_more : (x : Session) (xs : List Session) → session_at x.txn.session xs ≡ None → session_at x.txn.session (with_session x xs) ≡ Some x
one_more x [] h = rw (itself x.txn.session) refl
  where
    itself : (n : ℕ) → nat_eq n n ≡ true
    itself n = grind (arith, nat_tests)
one_more x (y ∷ ys) h = go (nat_lt x.txn.session y.txn.session) (is_session x.txn.session y) refl h (one_more x ys)
  where
    itself : (n : ℕ) → nat_eq n n ≡ true
    itself n = grind (arith, nat_tests)

    some : Some y ≡ None → ⊥
    some h = cc

    go : (less b : Bool) → is_session x.txn.session y ≡ b → cond b (Some y) (session_at x.txn.session ys) ≡ None → (session_at x.txn.session ys ≡ None → session_at x.txn.session (with_session x ys) ≡ Some x) → session_at x.txn.session (cond less (x ∷ y ∷ ys) (y ∷ with_session x ys)) ≡ Some x
    go less true e l rest = absurd (some l)
    go true false e l rest = rw (itself x.txn.session) refl
    go false false e l rest = rw e (rest l)

others_before : (n : ℕ) (x : Session) (xs : List Session) → nat_eq x.txn.session n ≡ false → session_at n (with_session x xs) ≡ session_at n xs
others_before n x [] other = rw other refl
others_before n x (y ∷ ys) other = go (nat_lt x.txn.session y.txn.session) (others_before n x ys other)
  where
    go : (less : Bool) → session_at n (with_session x ys) ≡ session_at n ys → session_at n (cond less (x ∷ y ∷ ys) (y ∷ with_session x ys)) ≡ session_at n (y ∷ ys)
    go true h = rw other refl
    go false h = ap (λ (o : Option Session). cond (is_session n y) (Some y) o) h

pub session_comes : (x : Session) (xs : List Session) → session_at x.txn.session xs ≡ None → SessionsAnew x.txn.session xs (with_session x xs) (Some x)
session_comes x xs out = record { own = one_more x xs out; others = λ n other. others_before n x xs (swap n x.txn.session other) }
  where
    swap : (n m : ℕ) → nat_eq n m ≡ false → nat_eq m n ≡ false
    swap n m e = grind (arith, nat_tests)
