-- Sums over the active sessions, as one comes, changes or goes.
use Rattle.std.proofs.Common.{◌≡◌, ◌≢◌, ℕ, ◌+◌, ◌<◌, Bool, true, false, cond, List, [], ◌∷◌, filter, length, refl, sym, ap, subst, inl, inr, arith}
use Rattle.std.specs.Prelude.{nat_lt}
use Rattle.std.specs.List.{sum_by}
use Rattle.std.proofs.lemmas.List.Sums.{sum_by-cons}
use Rattle.sp_node.specs.Among.{Among}
use Rattle.sp_node.proofs.Among.{all_among}
use Rattle.sp_model.specs.declared.session.Session.{Session}
use Rattle.sp_model.specs.State.{is_active, sessions_without, with_session, with_change}
use Rattle.sp_model.specs.Soundness.{AreAscending}
use Rattle.sp_model.proofs.Sessions.{number-apart, number-tell}

-- a length is a sum of ones
pub length-sum : {A : Type 0} (xs : List A) → length xs ≡ sum_by (λ x. 1) xs
length-sum [] = refl
length-sum {A} (x ∷ xs) = let a = length-sum xs in let b = sum_by-cons (λ (y : A). 1) x xs in omega (arith, a, b)

module _ (f : Session → ℕ) where
  -- what the session adds to the sum over the active ones
  abbrev pub share : Session → ℕ
  share x = cond (is_active x) (f x) 0

  pub active-sum : (x : Session) (xs : List Session) → sum_by f (filter is_active (x ∷ xs)) ≡ share x + sum_by f (filter is_active xs)
  active-sum x xs = go (is_active x)
    where
      go : (b : Bool) → sum_by f (cond b (x ∷ filter is_active xs) (filter is_active xs)) ≡ cond b (f x) 0 + sum_by f (filter is_active xs)
      go true = sum_by-cons f x (filter is_active xs)
      go false = omega arith

  pub with-sum : (x : Session) (xs : List Session) → sum_by f (filter is_active (with_session x xs)) ≡ share x + sum_by f (filter is_active xs)
  with-sum x [] = active-sum x []
  with-sum x (y ∷ ys) = go (nat_lt x.txn.session y.txn.session) (with-sum x ys)
    where
      go : (b : Bool) → sum_by f (filter is_active (with_session x ys)) ≡ share x + sum_by f (filter is_active ys) → sum_by f (filter is_active (cond b (x ∷ y ∷ ys) (y ∷ with_session x ys))) ≡ share x + sum_by f (filter is_active (y ∷ ys))
      go true h = active-sum x (y ∷ ys)
      go false h = let a = active-sum y (with_session x ys) in let b = active-sum y ys in omega (arith, a, b, h)

  -- no session has the number
  abbrev NoneAt : ℕ → List Session → Type 0
  NoneAt s xs = (y : Session) → Among y xs → y.txn.session ≢ s

  changed-none : (s : ℕ) (change : Session → Session) (xs : List Session) → NoneAt s xs → with_change s change xs ≡ xs
  changed-none s change [] none = refl
  changed-none s change (y ∷ ys) none = rw (number-apart y.txn.session s (none y (inl refl))) (ap (λ zs. y ∷ zs) (changed-none s change ys (λ z i. none z (inr i))))

  without-none : (s : ℕ) (xs : List Session) → NoneAt s xs → sessions_without s xs ≡ xs
  without-none s [] none = refl
  without-none s (y ∷ ys) none = rw (number-apart y.txn.session s (none y (inl refl))) (ap (λ zs. y ∷ zs) (without-none s ys (λ z i. none z (inr i))))

  apart : (x : Session) (xs : List Session) → AreAscending (x ∷ xs) → NoneAt x.txn.session xs
  apart x xs h y i e = let less : x.txn.session < y.txn.session = all_among (λ (w : Session). x.txn.session < w.txn.session) y xs h.0 i in differ x.txn.session y.txn.session less e
    where
      differ : (a b : ℕ) → a < b → b ≡ a → ⊥
      differ a b l e = omega arith

  pub change-sum : (change : Session → Session) (xs : List Session) → AreAscending xs → (x : Session) → Among x xs
      → sum_by f (filter is_active (with_change x.txn.session change xs)) + share x ≡ sum_by f (filter is_active xs) + share (change x)
  change-sum change [] h x i = absurd i
  change-sum change (y ∷ ys) h x (inl e) = subst (λ (z : Session). sum_by f (filter is_active (with_change z.txn.session change (y ∷ ys))) + share z ≡ sum_by f (filter is_active (y ∷ ys)) + share (change z)) (sym e) here
    where
      here : sum_by f (filter is_active (with_change y.txn.session change (y ∷ ys))) + share y ≡ sum_by f (filter is_active (y ∷ ys)) + share (change y)
      here = rw (number-tell y.txn.session y.txn.session refl, changed-none y.txn.session change ys (apart y ys h)) (let a = active-sum (change y) ys in let b = active-sum y ys in omega (arith, a, b))
  change-sum change (y ∷ ys) h x (inr i) = go (change-sum change ys h.1 x i)
    where
      go : sum_by f (filter is_active (with_change x.txn.session change ys)) + share x ≡ sum_by f (filter is_active ys) + share (change x)
          → sum_by f (filter is_active (with_change x.txn.session change (y ∷ ys))) + share x ≡ sum_by f (filter is_active (y ∷ ys)) + share (change x)
      go k = rw (number-apart y.txn.session x.txn.session (λ e. apart y ys h x i (sym e))) (let a = active-sum y (with_change x.txn.session change ys) in let b = active-sum y ys in omega (arith, a, b, k))

  pub without-sum : (xs : List Session) → AreAscending xs → (x : Session) → Among x xs → sum_by f (filter is_active (sessions_without x.txn.session xs)) + share x ≡ sum_by f (filter is_active xs)
  without-sum [] h x i = absurd i
  without-sum (y ∷ ys) h x (inl e) = subst (λ (z : Session). sum_by f (filter is_active (sessions_without z.txn.session (y ∷ ys))) + share z ≡ sum_by f (filter is_active (y ∷ ys))) (sym e) here
    where
      here : sum_by f (filter is_active (sessions_without y.txn.session (y ∷ ys))) + share y ≡ sum_by f (filter is_active (y ∷ ys))
      here = rw (number-tell y.txn.session y.txn.session refl, without-none y.txn.session ys (apart y ys h)) (let b = active-sum y ys in omega (arith, b))
  without-sum (y ∷ ys) h x (inr i) = go (without-sum ys h.1 x i)
    where
      go : sum_by f (filter is_active (sessions_without x.txn.session ys)) + share x ≡ sum_by f (filter is_active ys)
          → sum_by f (filter is_active (sessions_without x.txn.session (y ∷ ys))) + share x ≡ sum_by f (filter is_active (y ∷ ys))
      go k = rw (number-apart y.txn.session x.txn.session (λ e. apart y ys h x i (sym e))) (let a = active-sum y (sessions_without x.txn.session ys) in let b = active-sum y ys in omega (arith, a, b, k))
