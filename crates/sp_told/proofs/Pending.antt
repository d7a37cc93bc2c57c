-- What a change of one session's pending commits leaves of those of each session.
use Rattle.std.proofs.Common.{◌≡◌, ℕ, Bool, true, false, not, cond, ◌||◌, List, [], ◌∷◌, ◌++◌, map, filter, nat_eq, refl, sym, ap, ap₂, ◌∙◌, subst, true≢false, append-nil, arith}
use Rattle.std.specs.List.{list_any}
use Rattle.std.proofs.lemmas.Bool.Decides.{nat_tests}
use Rattle.std.proofs.lemmas.List.Elements.{filter-append}
use Rattle.sp_rect.specs.declared.operation.Answered.{Answered}
use Rattle.sp_rect.specs.declared.commit.Commit.{Commit}
use Rattle.sp_text.specs.Transcripts.{of_others, of_session, with_pair}

pub number-swap : (a b : ℕ) → nat_eq a b ≡ nat_eq b a
number-swap a b = grind (arith, nat_tests)

-- of two tests, where the second is passed by none that pass the first, or by all
filter-apart : {A : Type 0} (p q : A → Bool) → ((x : A) → q x ≡ true → p x ≡ false) → (xs : List A) → filter p (filter q xs) ≡ []
filter-apart p q apart [] = refl
filter-apart {A} p q apart (x ∷ xs) = go (q x) refl (filter-apart p q apart xs)
  where
    go : (b : Bool) → q x ≡ b → filter p (filter q xs) ≡ [] → filter p (cond b (x ∷ filter q xs) (filter q xs)) ≡ []
    go true e h = rw (apart x e) h
    go false e h = h

filter-within : {A : Type 0} (p q : A → Bool) → ((x : A) → q x ≡ false → p x ≡ false) → (xs : List A) → filter p (filter q xs) ≡ filter p xs
filter-within p q within [] = refl
filter-within {A} p q within (x ∷ xs) = go (q x) refl (filter-within p q within xs)
  where
    go : (b : Bool) → q x ≡ b → filter p (filter q xs) ≡ filter p xs → filter p (cond b (x ∷ filter q xs) (filter q xs)) ≡ cond (p x) (x ∷ filter p xs) (filter p xs)
    go true e h = ap (λ ys. cond (p x) (x ∷ ys) ys) h
    go false e h = rw (within x e) h

-- a test that a change leaves as it is
filter-changed : {A : Type 0} (p : A → Bool) (f : A → A) → ((x : A) → p (f x) ≡ p x) → (xs : List A) → filter p (map f xs) ≡ map f (filter p xs)
filter-changed p f same [] = refl
filter-changed {A} p f same (x ∷ xs) = rw (same x) (go (p x) (filter-changed p f same xs))
  where
    go : (b : Bool) → filter p (map f xs) ≡ map f (filter p xs) → cond b (f x ∷ filter p (map f xs)) (filter p (map f xs)) ≡ map f (cond b (x ∷ filter p xs) (filter p xs))
    go true h = ap (λ ys. f x ∷ ys) h
    go false h = h

filter-none : {A : Type 0} (p : A → Bool) (x : A) → p x ≡ false → filter p (x ∷ []) ≡ []
filter-none p x e = ap (λ b. cond b (x ∷ []) []) e

filter-one : {A : Type 0} (p : A → Bool) (x : A) → p x ≡ true → filter p (x ∷ []) ≡ x ∷ []
filter-one p x e = ap (λ b. cond b (x ∷ []) []) e

-- the tests of two sessions
module _ (n s : ℕ) (other : nat_eq n s ≡ false) where
  not-both : (m : ℕ) → nat_eq m s ≡ true → nat_eq m n ≡ false
  not-both m e = grind (arith, nat_tests)

  others-stay : (m : ℕ) → not (nat_eq m s) ≡ false → nat_eq m n ≡ false
  others-stay m e = not-both m (back (nat_eq m s) e)
    where
      back : (b : Bool) → not b ≡ false → b ≡ true
      back b h = grind arith

not-own : (s m : ℕ) → not (nat_eq m s) ≡ true → nat_eq m s ≡ false
not-own s m e = back (nat_eq m s) e
  where
    back : (b : Bool) → not b ≡ true → b ≡ false
    back b h = grind arith

own-own : (s m : ℕ) → nat_eq m s ≡ false → nat_eq m s ≡ false
own-own s m e = e

pub own_one : (s : ℕ) (c : Commit) → c.session ≡ s → of_session s (c ∷ []) ≡ c ∷ []
unfolding of_session
own_one s c e = filter-one (λ (c : Commit). nat_eq c.session s) c (same c.session e)
  where
    same : (m : ℕ) → m ≡ s → nat_eq m s ≡ true
    same m e = grind (arith, nat_tests)

pub other_one : (n s : ℕ) (c : Commit) → nat_eq n s ≡ false → c.session ≡ s → of_session n (c ∷ []) ≡ []
unfolding of_session
other_one n s c other e = filter-none (λ (c : Commit). nat_eq c.session n) c (apart c.session e)
  where
    apart : (m : ℕ) → m ≡ s → nat_eq m n ≡ false
    apart m e = grind (arith, nat_tests)

pub session-append : (s : ℕ) (cs ds : List Commit) → of_session s (cs ++ ds) ≡ of_session s cs ++ of_session s ds
unfolding of_session
session-append s cs ds = filter-append (λ (c : Commit). nat_eq c.session s) cs ds

own_own : (s : ℕ) (cs : List Commit) → of_session s (of_session s cs) ≡ of_session s cs
unfolding of_session
own_own s cs = filter-within (λ (c : Commit). nat_eq c.session s) (λ c. nat_eq c.session s) (λ c e. e) cs

pub own_others : (s : ℕ) (cs : List Commit) → of_session s (of_others s cs) ≡ []
unfolding of_session of_others
own_others s cs = filter-apart (λ (c : Commit). nat_eq c.session s) (λ c. not (nat_eq c.session s)) (λ c e. not-own s c.session e) cs

other_own : (n s : ℕ) (cs : List Commit) → nat_eq n s ≡ false → of_session n (of_session s cs) ≡ []
unfolding of_session
other_own n s cs other = filter-apart (λ (c : Commit). nat_eq c.session n) (λ c. nat_eq c.session s) (λ c e. not-both n s other c.session e) cs

other_others : (n s : ℕ) (cs : List Commit) → nat_eq n s ≡ false → of_session n (of_others s cs) ≡ of_session n cs
unfolding of_session of_others
other_others n s cs other = filter-within (λ (c : Commit). nat_eq c.session n) (λ c. not (nat_eq c.session s)) (λ c e. others-stay n s other c.session e) cs

session-changed : (n : ℕ) (f : Commit → Commit) → ((c : Commit) → (f c).session ≡ c.session) → (cs : List Commit) → of_session n (map f cs) ≡ map f (of_session n cs)
unfolding of_session
session-changed n f same cs = filter-changed (λ (c : Commit). nat_eq c.session n) f (λ c. ap (λ m. nat_eq m n) (same c)) cs

-- one session has those pending, and the others those that they had
pub record PendsAnew (s : ℕ) (old new mine : List Commit) : Type 0 where
  pub own : of_session s new ≡ mine
  pub others : (n : ℕ) → nat_eq n s ≡ false → of_session n new ≡ of_session n old

pub pends_same : (s : ℕ) (cs : List Commit) → PendsAnew s cs cs (of_session s cs)
pends_same s cs = record { own = refl; others = λ n e. refl }

pub pends_dropped : (s : ℕ) (cs : List Commit) → PendsAnew s cs (of_others s cs) []
pends_dropped s cs = record { own = own_others s cs; others = λ n e. other_others n s cs e }

pub pends_opened : (s : ℕ) (cs : List Commit) (c : Commit) → c.session ≡ s → PendsAnew s cs (c ∷ of_others s cs) (c ∷ [])
pends_opened s cs c is = record {
  own = session-append s (c ∷ []) (of_others s cs) ∙ ap₂ (λ xs ys. xs ++ ys) (own_one s c is) (own_others s cs);
  others = λ n e. session-append n (c ∷ []) (of_others s cs) ∙ ap₂ (λ xs ys. xs ++ ys) (other_one n s c e is) (other_others n s cs e);
}

pub pends_replied : (s : ℕ) (cs : List Commit) (pair : Answered) → PendsAnew s cs (map (with_pair pair) (of_session s cs) ++ of_others s cs) (map (with_pair pair) (of_session s cs))
pends_replied s cs pair = record {
  own = session-append s (map (with_pair pair) (of_session s cs)) (of_others s cs)
      ∙ ap₂ (λ xs ys. xs ++ ys) (session-changed s (with_pair pair) (λ c. refl) (of_session s cs) ∙ ap (map (with_pair pair)) (own_own s cs)) (own_others s cs)
      ∙ append-nil (map (with_pair pair) (of_session s cs));
  others = λ n e. session-append n (map (with_pair pair) (of_session s cs)) (of_others s cs)
      ∙ ap₂ (λ xs ys. xs ++ ys) (session-changed n (with_pair pair) (λ c. refl) (of_session s cs) ∙ ap (map (with_pair pair)) (other_own n s cs e)) (other_others n s cs e);
}

-- of commits of sessions without that one, none is of that one
none_named : (s : ℕ) (cs : List Commit) → list_any (nat_eq s) (map (λ (c : Commit). c.session) cs) ≡ false → of_session s cs ≡ []
unfolding of_session
none_named s [] h = refl
none_named s (c ∷ cs) h = go (nat_eq c.session s) refl (none_named s cs)
  where
    tests : (m : ℕ) (b : Bool) → (nat_eq s m || b) ≡ false → (nat_eq m s ≡ false) × (b ≡ false)
    tests m b h = (grind (arith, nat_tests), grind (arith, nat_tests))

    go : (b : Bool) → nat_eq c.session s ≡ b → (list_any (nat_eq s) (map (λ (c : Commit). c.session) cs) ≡ false → of_session s cs ≡ []) → cond b (c ∷ filter (λ (c : Commit). nat_eq c.session s) cs) (filter (λ (c : Commit). nat_eq c.session s) cs) ≡ []
    go true e rest = absurd (true≢false (sym e ∙ (tests c.session (list_any (nat_eq s) (map (λ (c : Commit). c.session) cs)) h).0))
    go false e rest = rest (tests c.session (list_any (nat_eq s) (map (λ (c : Commit). c.session) cs)) h).1

pub none_late : (s : ℕ) (cs : List Commit) (owed : List ℕ) → map (λ (c : Commit). c.session) cs ≡ owed → list_any (nat_eq s) owed ≡ false → of_session s cs ≡ []
none_late s cs owed are out = none_named s cs (subst (λ ns. list_any (nat_eq s) ns ≡ false) (sym are) out)
