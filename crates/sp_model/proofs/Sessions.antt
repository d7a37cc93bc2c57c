-- Who is among the sessions, as one comes, changes or goes.
use Rattle.std.proofs.Common.{◌≡◌, ◌≢◌, ◌⊎◌, ℕ, ◌<◌, Bool, true, false, not, cond, List, [], ◌∷◌, map, filter, Option, None, Some, nat_eq, refl, sym, ap, ◌∙◌, subst, inl, inr, true≢false, arith}
use Rattle.std.specs.Prelude.{nat_lt}
use Rattle.std.specs.List.{IsDistinct}
use Rattle.std.proofs.lemmas.Bool.Decides.{nat_tests}
use Rattle.std.proofs.lemmas.Map.Keys.{IsDistinct-head, IsDistinct-tail}
use Rattle.sp_node.specs.Among.{Among}
use Rattle.sp_node.proofs.Among.{all_among}
use Rattle.sp_protection.proofs.Leaves.{among_map, from_map}
use Rattle.sp_model.specs.declared.session.Session.{Session}
use Rattle.sp_model.specs.State.{is_session, session_at, sessions_without, with_session, with_change}
use Rattle.sp_model.specs.Soundness.{AreAscending}

pub number-same : (a b : ℕ) → nat_eq a b ≡ true → a ≡ b
number-same a b h = grind (arith, nat_tests)

pub number-tell : (a b : ℕ) → a ≡ b → nat_eq a b ≡ true
number-tell a b h = grind (arith, nat_tests)

pub number-differ : (a b : ℕ) → nat_eq a b ≡ false → a ≢ b
number-differ a b h e = grind (arith, nat_tests)

pub number-apart : (a b : ℕ) → a ≢ b → nat_eq a b ≡ false
number-apart a b h = grind (arith, nat_tests)

pub not-true : (b : Bool) → not b ≡ true → b ≡ false
not-true b h = grind arith

pub to-not : (b : Bool) → b ≡ false → not b ≡ true
to-not b h = grind arith

-- members of a filtered list
pub among-kept : {A : Type 0} (test : A → Bool) (x : A) (xs : List A) → Among x xs → test x ≡ true → Among x (filter test xs)
among-kept test x [] i k = absurd i
among-kept {A} test x (y ∷ ys) (inl e) k = rw (subst (λ (z : A). test z ≡ true) e k) (inl e)
among-kept test x (y ∷ ys) (inr i) k = go (test y) (among-kept test x ys i k)
  where
    go : (b : Bool) → Among x (filter test ys) → Among x (cond b (y ∷ filter test ys) (filter test ys))
    go true h = inr h
    go false h = h

pub of_kept : {A : Type 0} (test : A → Bool) (x : A) (xs : List A) → Among x (filter test xs) → Among x xs × (test x ≡ true)
of_kept test x [] i = absurd i
of_kept {A} test x (y ∷ ys) i = go (test y) refl i (of_kept test x ys)
  where
    go : (b : Bool) → test y ≡ b → Among x (cond b (y ∷ filter test ys) (filter test ys)) → (Among x (filter test ys) → Among x ys × (test x ≡ true)) → Among x (y ∷ ys) × (test x ≡ true)
    go true k (inl e) rest = (inl e, subst (λ (z : A). test z ≡ true) (sym e) k)
    go true k (inr j) rest = let r = rest j in (inr r.0, r.1)
    go false k j rest = let r = rest j in (inr r.0, r.1)

-- the found session is one of them
pub found-among : (s : ℕ) (xs : List Session) (x : Session) → session_at s xs ≡ Some x → Among x xs × (x.txn.session ≡ s)
found-among s [] x h = absurd (none h)
  where
    none : None ≡ Some x → ⊥
    none h = cc
found-among s (y ∷ ys) x h = go (is_session s y) refl h (found-among s ys x)
  where
    is : Some y ≡ Some x → y ≡ x
    is h = cc

    go : (b : Bool) → is_session s y ≡ b → cond b (Some y) (session_at s ys) ≡ Some x → (session_at s ys ≡ Some x → Among x ys × (x.txn.session ≡ s)) → Among x (y ∷ ys) × (x.txn.session ≡ s)
    go true k l rest = (inl (sym (is l)), ap (λ (z : Session). z.txn.session) (sym (is l)) ∙ number-same y.txn.session s k)
    go false k l rest = let r = rest l in (inr r.0, r.1)

-- no session of that number is among them
pub none-among : (s : ℕ) (xs : List Session) (x : Session) → session_at s xs ≡ None → Among x xs → x.txn.session ≢ s
none-among s [] x h i = absurd i
none-among s (y ∷ ys) x h i = go (is_session s y) refl h i (none-among s ys x)
  where
    some : Some y ≡ None → ⊥
    some h = cc

    go : (b : Bool) → is_session s y ≡ b → cond b (Some y) (session_at s ys) ≡ None → Among x (y ∷ ys) → (session_at s ys ≡ None → Among x ys → x.txn.session ≢ s) → x.txn.session ≢ s
    go true k l i rest = absurd (some l)
    go false k l (inl e) rest = λ f. number-differ y.txn.session s k (ap (λ (z : Session). z.txn.session) (sym e) ∙ f)
    go false k l (inr j) rest = rest l j

-- one session of each number
pub one-session : (xs : List Session) → AreAscending xs → (x y : Session) → Among x xs → Among y xs → x.txn.session ≡ y.txn.session → x ≡ y
one-session [] h x y i j e = absurd i
one-session (z ∷ xs) h x y (inl a) (inl b) e = a ∙ sym b
one-session (z ∷ xs) h x y (inl a) (inr j) e =
    let less : z.txn.session < y.txn.session = all_among (λ (w : Session). z.txn.session < w.txn.session) y xs h.0 j in
    let same : z.txn.session ≡ y.txn.session = ap (λ (w : Session). w.txn.session) (sym a) ∙ e in
    absurd (apart z.txn.session y.txn.session less same)
  where
    apart : (a b : ℕ) → a < b → a ≡ b → ⊥
    apart a b l e = omega arith
one-session (z ∷ xs) h x y (inr i) (inl b) e =
    let less : z.txn.session < x.txn.session = all_among (λ (w : Session). z.txn.session < w.txn.session) x xs h.0 i in
    let same : z.txn.session ≡ x.txn.session = ap (λ (w : Session). w.txn.session) (sym b) ∙ sym e in
    absurd (apart z.txn.session x.txn.session less same)
  where
    apart : (a b : ℕ) → a < b → a ≡ b → ⊥
    apart a b l e = omega arith
one-session (z ∷ xs) h x y (inr i) (inr j) e = one-session xs h.1 x y i j e

-- of sessions by number each is found
pub among-found : (xs : List Session) → AreAscending xs → (x : Session) → Among x xs → session_at x.txn.session xs ≡ Some x
among-found xs h x i = go (session_at x.txn.session xs) refl
  where
    go : (o : Option Session) → session_at x.txn.session xs ≡ o → o ≡ Some x
    go None k = absurd (none-among x.txn.session xs x k i refl)
    go (Some y) k = let f = found-among x.txn.session xs y k in ap Some (one-session xs h y x f.0 i f.1)

module _ {A : Type 0} (key : A → ℕ) where
  -- distinct keys tell the members apart
  pub one-keyed : (xs : List A) → IsDistinct nat_eq (map key xs) → (x y : A) → Among x xs → Among y xs → key x ≡ key y → x ≡ y
  one-keyed [] h x y i j e = absurd i
  one-keyed (z ∷ xs) h x y (inl a) (inl b) e = a ∙ sym b
  one-keyed (z ∷ xs) h x y (inl a) (inr j) e = absurd (head z y j (ap key (sym a) ∙ e) h)
    where
      head : (z y : A) → Among y xs → key z ≡ key y → IsDistinct nat_eq (key z ∷ map key xs) → ⊥
      head z y j e h = true≢false (sym (number-tell (key z) (key y) e) ∙ all_among (λ n. nat_eq (key z) n ≡ false) (key y) (map key xs) (IsDistinct-head nat_eq (key z) (map key xs) h) (among_map key y xs j))
  one-keyed (z ∷ xs) h x y (inr i) (inl b) e = absurd (head z x i (ap key (sym b) ∙ sym e) h)
    where
      head : (z y : A) → Among y xs → key z ≡ key y → IsDistinct nat_eq (key z ∷ map key xs) → ⊥
      head z y j e h = true≢false (sym (number-tell (key z) (key y) e) ∙ all_among (λ n. nat_eq (key z) n ≡ false) (key y) (map key xs) (IsDistinct-head nat_eq (key z) (map key xs) h) (among_map key y xs j))
  one-keyed (z ∷ xs) h x y (inr i) (inr j) e = one-keyed xs (IsDistinct-tail nat_eq (key z) (map key xs) h) x y i j e

-- what became of a session, where one changes
pub data Fate (s : ℕ) (change : Session → Session) (x : Session) : Session → Type 0 where
  Changes : x.txn.session ≡ s → Fate s change x (change x)
  Stays : x.txn.session ≢ s → Fate s change x x

pub fate : (s : ℕ) (change : Session → Session) (x : Session) → Fate s change x (cond (is_session s x) (change x) x)
fate s change x = go (is_session s x) refl
  where
    go : (b : Bool) → is_session s x ≡ b → Fate s change x (cond b (change x) x)
    go true k = Changes (number-same x.txn.session s k)
    go false k = Stays (number-differ x.txn.session s k)

pub record OfChange (s : ℕ) (change : Session → Session) (xs : List Session) (y : Session) : Type 0 where
  pub old : Session
  pub stood : Among old xs
  pub how : Fate s change old y

pub of_change : (s : ℕ) (change : Session → Session) (xs : List Session) (y : Session) → Among y (with_change s change xs) → OfChange s change xs y
of_change s change xs y i = let r = from_map (λ x. cond (is_session s x) (change x) x) y xs i in record { old = r.0; stood = r.1; how = subst (Fate s change r.0) r.2 (fate s change r.0) }

pub changed-among : (s : ℕ) (change : Session → Session) (xs : List Session) (x : Session) → Among x xs → x.txn.session ≡ s → Among (change x) (with_change s change xs)
changed-among s change xs x i e = subst (λ (b : Bool). Among (cond b (change x) x) (with_change s change xs)) (number-tell x.txn.session s e) (among_map (λ x. cond (is_session s x) (change x) x) x xs i)

pub others-among : (s : ℕ) (change : Session → Session) (xs : List Session) (x : Session) → Among x xs → x.txn.session ≢ s → Among x (with_change s change xs)
others-among s change xs x i e = subst (λ (b : Bool). Among (cond b (change x) x) (with_change s change xs)) (number-apart x.txn.session s e) (among_map (λ x. cond (is_session s x) (change x) x) x xs i)

-- a session that is left is another one
pub of_without : (s : ℕ) (xs : List Session) (x : Session) → Among x (sessions_without s xs) → Among x xs × (x.txn.session ≢ s)
of_without s xs x i = let k = of_kept (λ x. not (is_session s x)) x xs i in (k.0, number-differ x.txn.session s (not-true (is_session s x) k.1))

pub among-without : (s : ℕ) (xs : List Session) (x : Session) → Among x xs → x.txn.session ≢ s → Among x (sessions_without s xs)
among-without s xs x i e = among-kept (λ x. not (is_session s x)) x xs i (to-not (is_session s x) (number-apart x.txn.session s e))

-- a session that comes
pub of_with : (x : Session) (xs : List Session) (y : Session) → Among y (with_session x xs) → (y ≡ x) ⊎ Among y xs
of_with x [] y (inl e) = inl e
of_with x [] y (inr i) = absurd i
of_with x (z ∷ zs) y i = go (nat_lt x.txn.session z.txn.session) i (of_with x zs y)
  where
    later : (y ≡ x) ⊎ Among y zs → (y ≡ x) ⊎ Among y (z ∷ zs)
    later (inl e) = inl e
    later (inr j) = inr (inr j)

    go : (b : Bool) → Among y (cond b (x ∷ z ∷ zs) (z ∷ with_session x zs)) → (Among y (with_session x zs) → (y ≡ x) ⊎ Among y zs) → (y ≡ x) ⊎ Among y (z ∷ zs)
    go true (inl e) rest = inl e
    go true (inr j) rest = inr j
    go false (inl e) rest = inr (inl e)
    go false (inr j) rest = later (rest j)

pub among-with : (x : Session) (xs : List Session) (y : Session) → (y ≡ x) ⊎ Among y xs → Among y (with_session x xs)
among-with x [] y (inl e) = inl e
among-with x [] y (inr i) = absurd i
among-with x (z ∷ zs) y i = go (nat_lt x.txn.session z.txn.session) i (among-with x zs y)
  where
    go : (b : Bool) → (y ≡ x) ⊎ Among y (z ∷ zs) → ((y ≡ x) ⊎ Among y zs → Among y (with_session x zs)) → Among y (cond b (x ∷ z ∷ zs) (z ∷ with_session x zs))
    go true (inl e) rest = inl e
    go true (inr j) rest = inr j
    go false (inl e) rest = inr (rest (inl e))
    go false (inr (inl e)) rest = inl e
    go false (inr (inr j)) rest = inr (rest (inr j))
