-- The lists of names by session, where rows come and go.
use Rattle.std.proofs.Common.{◌≡◌, ◌⊎◌, ℕ, Bool, true, false, not, ◌&&◌, ◌||◌, if◌then◌else◌, cond, nat_eq, List, [], ◌∷◌, ◌++◌, Option, None, Some, Ok, Err, is_ok, refl, sym, ap, ◌∙◌, subst, inl, inr, true≢false, arith}
use Rattle.std.specs.Prelude.{Result, OnOk}
use Rattle.std.specs.List.{list_any}
use Rattle.std.specs.List.{AllZip}
use Rattle.std.specs.Map.{lookup}
use Rattle.sp_locks.specs.declared.row.Name.{Name}
use Rattle.sp_locks.specs.declared.row.Scope.{Scope}
use Rattle.sp_locks.specs.declared.row.Scope.TheVariants.{ShortLocks, AllRows}
use Rattle.sp_locks.specs.declared.row.Duration.{Duration}
use Rattle.sp_locks.specs.declared.row.Duration.TheVariants.{Commit, Short}
use Rattle.sp_locks.specs.declared.row.Row.{Row}
use Rattle.sp_locks.specs.Rows.{same_name, same_duration, is_row_of, waiting_in, is_short, with_lock, with_row, goes}
use Rattle.sp_locks.specs.Table.{is_on, rows_on, replaced, with_row_on, released}
use Rattle.sp_locks.specs.Soundness.{In, IsSound}
use Rattle.sp_locks.specs.Lists.{names_of_list, names_at, is_listed, KeepsLists, IsWithout, AreListed}
use Rattle.sp_locks.proofs.Names.{same_is, others}
use Rattle.sp_locks.proofs.Members.{in-split, of_kept, of_any, numbers-same, numbers-tell, first_of_both, second_of_both}
use Rattle.sp_locks.proofs.OnNames.{with_row-on, with_row-off}
use Rattle.sp_locks.proofs.Keeping.{in-name, in-table, none-waits}
use Rattle.sp_locks.proofs.Changing.{of_lock, from-lock, released-from}
use Rattle.sp_locks.specs.Slots.{worked_through}
use Rattle.sp_locks.proofs.Working.{Covers, through-released}

-- a row of a table where one came is of the session, name and duration of one that was there, or of that one
abbrev Alike : Row → Row → Type 0
Alike y x = (y.session ≡ x.session) × (y.name ≡ x.name) × (y.duration ≡ x.duration)

from-row : (r : Row) (xs : List Row) (x : Row) → In x (with_row r xs) → ((y : Row) × In y xs × (y.session ≡ x.session) × (y.duration ≡ x.duration)) ⊎ ((r.session ≡ x.session) × (r.duration ≡ x.duration))
from-row r xs x i = go r.waiting i
  where
    last : In x xs ⊎ In x (r ∷ []) → ((y : Row) × In y xs × (y.session ≡ x.session) × (y.duration ≡ x.duration)) ⊎ ((r.session ≡ x.session) × (r.duration ≡ x.duration))
    last (inl j) = inl (x, j, refl, refl)
    last (inr (inl e)) = inr (ap (λ (q : Row). q.session) e, ap (λ (q : Row). q.duration) e)
    last (inr (inr j)) = absurd j

    go : (b : Bool) → In x (if b then xs ++ r ∷ [] else with_lock r xs) → ((y : Row) × In y xs × (y.session ≡ x.session) × (y.duration ≡ x.duration)) ⊎ ((r.session ≡ x.session) × (r.duration ≡ x.duration))
    go true j = last (in-split x xs (r ∷ []) j)
    go false j = from-lock r xs x j

from-added : (r : Row) (rows : List Row) (x : Row) → In x (with_row_on r rows) → ((y : Row) × In y rows × Alike y x) ⊎ Alike r x
from-added r rows x i = go (same_name x.name r.name) refl (in-name x (with_row_on r rows) i)
  where
    named : x.name ≡ r.name → ((y : Row) × In y (rows_on r.name rows) × (y.session ≡ x.session) × (y.duration ≡ x.duration)) ⊎ ((r.session ≡ x.session) × (r.duration ≡ x.duration)) → ((y : Row) × In y rows × Alike y x) ⊎ Alike r x
    named n (inl (y, j, e, f)) = let k = in-table r.name y rows j in inl (y, k.0, (e, sym k.1 ∙ sym n, f))
    named n (inr (e, f)) = inr (e, sym n, f)

    go : (b : Bool) → same_name x.name r.name ≡ b → In x (rows_on x.name (with_row_on r rows)) → ((y : Row) × In y rows × Alike y x) ⊎ Alike r x
    go true e j = let n = same_is x.name r.name e in
        named n (from-row r (rows_on r.name rows) x (subst (In x) (with_row-on r rows) (subst (λ (m : Name). In x (rows_on m (with_row_on r rows))) n j)))
    go false e j = inl (x, (in-table x.name x rows (subst (In x) (with_row-off x.name r rows e) j)).0, (refl, refl, refl))

from-replaced : (n : Name) (rows : List Row) (x : Row) → In x (replaced n [] rows) → In x rows
from-replaced n [] x i = absurd i
from-replaced n (y ∷ ys) x i = go (is_on n y) i (from-replaced n ys x)
  where
    go : (b : Bool) → In x (if b then [] ++ others n ys else y ∷ replaced n [] ys) → (In x (replaced n [] ys) → In x ys) → In x (y ∷ ys)
    go true j rest = inr (of_kept (λ z. not (is_on n z)) x ys j).0
    go false (inl e) rest = inl e
    go false (inr j) rest = inr (rest j)

alike-any : (n : Name) (names more : List Name) → list_any (same_name n) names ≡ true → list_any (same_name n) (names ++ more) ≡ true
alike-any n [] more h = absurd (true≢false (sym h))
alike-any n (m ∷ names) more h = go (same_name n m) h (alike-any n names more)
  where
    go : (b : Bool) → (b || list_any (same_name n) names) ≡ true → (list_any (same_name n) names ≡ true → list_any (same_name n) (names ++ more) ≡ true) → (b || list_any (same_name n) (names ++ more)) ≡ true
    go true h rest = refl
    go false h rest = rest h

alike-more : (n : Name) (names more : List Name) → list_any (same_name n) more ≡ true → list_any (same_name n) (names ++ more) ≡ true
alike-more n [] more h = h
alike-more n (m ∷ names) more h = go (same_name n m) (list_any (same_name n) (names ++ more)) (alike-more n names more h)
  where
    go : (a b : Bool) → b ≡ true → (a || b) ≡ true
    go a b h = grind arith

-- what holds of a success
pub of_ok : {T E : Type 0} (r : Result T E) (A : Type 0) → OnOk r A → is_ok r ≡ true → A
of_ok (Ok v) A h k = h
of_ok (Err e) A h k = absurd (true≢false (sym k))

module _ {V : Type 0} (items : V → List Name) where
  alike-listed : (commits shorts : List (ℕ × V)) (y x : Row) → Alike y x → is_listed items (if is_short y then shorts else commits) y.session y.name ≡ true → is_listed items (if is_short x then shorts else commits) x.session x.name ≡ true
  alike-listed commits shorts y x (e, f, g) h =
      subst (λ (d : Duration). is_listed items (if same_duration d Short then shorts else commits) x.session x.name ≡ true) g
      (subst (λ (n : Name). is_listed items (if is_short y then shorts else commits) x.session n ≡ true) f (subst (λ (s : ℕ). is_listed items (if is_short y then shorts else commits) s y.name ≡ true) e h))

  -- longer lists list what was listed
  pub listed-kept : (commits shorts commits' shorts' : List (ℕ × V)) (rows : List Row) → KeepsLists items commits commits' → KeepsLists items shorts shorts' → AreListed items commits shorts rows → AreListed items commits' shorts' rows
  listed-kept commits shorts commits' shorts' rows k l are x i = go (is_short x) (are x i)
    where
      go : (b : Bool) → is_listed items (if b then shorts else commits) x.session x.name ≡ true → is_listed items (if b then shorts' else commits') x.session x.name ≡ true
      go true h = l x.session x.name h
      go false h = k x.session x.name h

  -- a row whose name is listed may come
  pub listed-added : (commits shorts : List (ℕ × V)) (r : Row) (rows : List Row) → AreListed items commits shorts rows → is_listed items (if is_short r then shorts else commits) r.session r.name ≡ true → AreListed items commits shorts (with_row_on r rows)
  listed-added commits shorts r rows are listed x i = go (from-added r rows x i)
    where
      go : ((y : Row) × In y rows × Alike y x) ⊎ Alike r x → is_listed items (if is_short x then shorts else commits) x.session x.name ≡ true
      go (inl (y, j, a)) = alike-listed commits shorts y x a (are y j)
      go (inr a) = alike-listed commits shorts r x a listed

  pub listed-replaced : (commits shorts : List (ℕ × V)) (n : Name) (rows : List Row) → AreListed items commits shorts rows → AreListed items commits shorts (replaced n [] rows)
  listed-replaced commits shorts n rows are x i = are x (from-replaced n rows x i)

  -- a session that has such a row on the name has it listed
  pub listed-has : (commits shorts : List (ℕ × V)) (r : Row) (rows : List Row) → AreListed items commits shorts rows → list_any (is_row_of r.session r.duration) (rows_on r.name rows) ≡ true → is_listed items (if is_short r then shorts else commits) r.session r.name ≡ true
  listed-has commits shorts r rows are has =
      let a = of_any (is_row_of r.session r.duration) (rows_on r.name rows) has in
      let k = in-table r.name a.0 rows a.1 in
      let e = numbers-same a.0.session r.session (first_of_both (nat_eq a.0.session r.session) (same_duration a.0.duration r.duration) a.2) in
      let f = lasting a.0.duration r.duration (second_of_both (nat_eq a.0.session r.session) (same_duration a.0.duration r.duration) a.2) in
      alike-listed commits shorts a.0 r (e, sym k.1, f) (are a.0 k.0)
    where
      lasting : (a b : Duration) → same_duration a b ≡ true → a ≡ b
      lasting Commit Commit h = refl
      lasting Short Short h = refl
      lasting Commit Short h = absurd (true≢false (sym h))
      lasting Short Commit h = absurd (true≢false (sym h))

  -- a row comes, or not
  pub listed-more : (commits shorts commits' shorts' : List (ℕ × V)) (r : Row) (ok : Bool) (rows new : List Row) → AreListed items commits shorts rows → KeepsLists items commits commits' → KeepsLists items shorts shorts'
      → (ok ≡ true → list_any (is_row_of r.session r.duration) (rows_on r.name rows) ≡ false → is_listed items (if is_short r then shorts' else commits') r.session r.name ≡ true)
      → new ≡ (if ok then with_row_on r rows else rows) → AreListed items commits' shorts' new
  listed-more commits shorts commits' shorts' r ok rows new are k l listed is = subst (AreListed items commits' shorts') (sym is) (go ok listed)
    where
      wider : (b : Bool) → is_listed items (if b then shorts else commits) r.session r.name ≡ true → is_listed items (if b then shorts' else commits') r.session r.name ≡ true
      wider true h = l r.session r.name h
      wider false h = k r.session r.name h

      now : (b : Bool) → list_any (is_row_of r.session r.duration) (rows_on r.name rows) ≡ b → (list_any (is_row_of r.session r.duration) (rows_on r.name rows) ≡ false → is_listed items (if is_short r then shorts' else commits') r.session r.name ≡ true)
          → is_listed items (if is_short r then shorts' else commits') r.session r.name ≡ true
      now true e listed = wider (is_short r) (listed-has commits shorts r rows are e)
      now false e listed = listed e

      go : (b : Bool) → (b ≡ true → list_any (is_row_of r.session r.duration) (rows_on r.name rows) ≡ false → is_listed items (if is_short r then shorts' else commits') r.session r.name ≡ true) → AreListed items commits' shorts' (if b then with_row_on r rows else rows)
      go true listed = listed-added commits' shorts' r rows (listed-kept commits shorts commits' shorts' rows k l are) (now (list_any (is_row_of r.session r.duration) (rows_on r.name rows)) refl (listed refl))
      go false listed = listed-kept commits shorts commits' shorts' rows k l are

  other-list : (s u : ℕ) (n : Name) (old new : List (ℕ × V)) → IsWithout items s old new → nat_eq s u ≡ false → is_listed items old u n ≡ true → is_listed items new u n ≡ true
  other-list s u n old new without other h = ap (list_any (same_name n)) (without u ∙ (rw other refl)) ∙ h

  -- the lists have the names of the rows that a release takes
  pub covers-all : (commits shorts : List (ℕ × V)) (s : ℕ) (rows : List Row) → AreListed items commits shorts rows → Covers AllRows s (names_at items s commits ++ names_at items s shorts) rows
  covers-all commits shorts s rows are x i g = go (is_short x) (subst (λ (u : ℕ). is_listed items (if is_short x then shorts else commits) u x.name ≡ true) (numbers-same x.session s g) (are x i))
    where
      go : (b : Bool) → is_listed items (if b then shorts else commits) s x.name ≡ true → list_any (same_name x.name) (names_at items s commits ++ names_at items s shorts) ≡ true
      go true h = alike-more x.name (names_at items s commits) (names_at items s shorts) h
      go false h = alike-any x.name (names_at items s commits) (names_at items s shorts) h

  pub covers-short : (commits shorts : List (ℕ × V)) (s : ℕ) (rows : List Row) → AreListed items commits shorts rows → Covers ShortLocks s (names_at items s shorts ++ []) rows
  covers-short commits shorts s rows are x i g =
      let l = of_lock s Short x g in
      let short : is_short x ≡ true = ap (λ (d : Duration). same_duration d Short) l.lasts in
      alike-any x.name (names_at items s shorts) [] (subst (λ (u : ℕ). is_listed items shorts u x.name ≡ true) l.own (ap (λ b. is_listed items (if b then shorts else commits) x.session x.name) (sym short) ∙ are x i))

  pub released-all : (commits shorts : List (ℕ × V)) (s : ℕ) (rows new : List Row) (ns ms : List Name) → AreListed items commits shorts rows → IsSound rows → ns ≡ names_at items s commits → ms ≡ names_at items s shorts
      → new ≡ worked_through AllRows s (ns ++ ms) rows → new ≡ released AllRows s rows
  released-all commits shorts s rows new ns ms are sound n m is =
      is ∙ ap (λ (k : List Name). worked_through AllRows s (k ++ ms) rows) n ∙ ap (λ (k : List Name). worked_through AllRows s (names_at items s commits ++ k) rows) m
      ∙ through-released AllRows s (names_at items s commits ++ names_at items s shorts) rows sound (covers-all commits shorts s rows are)

  pub released-short : (commits shorts : List (ℕ × V)) (s : ℕ) (rows new : List Row) (ns : List Name) → AreListed items commits shorts rows → IsSound rows → ns ≡ names_at items s shorts
      → new ≡ worked_through ShortLocks s (ns ++ []) rows → new ≡ released ShortLocks s rows
  released-short commits shorts s rows new ns are sound n is =
      is ∙ ap (λ (k : List Name). worked_through ShortLocks s (k ++ []) rows) n ∙ through-released ShortLocks s (names_at items s shorts ++ []) rows sound (covers-short commits shorts s rows are)

  -- and after it those of its session may be forgotten
  pub listed-all : (commits shorts commits' shorts' : List (ℕ × V)) (s : ℕ) (rows : List Row) → AreListed items commits shorts rows → IsWithout items s commits commits' → IsWithout items s shorts shorts'
      → AreListed items commits' shorts' (released AllRows s rows)
  listed-all commits shorts commits' shorts' s rows are k l x i =
      let f = released-from AllRows s rows x i in
      alike-listed commits' shorts' f.0.row x (f.0.session, f.0.name, f.0.duration) (go f.0.row (apart f.0.row.session s f.1) (is_short f.0.row) (are f.0.row f.0.stands))
    where
      apart : (a b : ℕ) → nat_eq a b ≡ false → nat_eq b a ≡ false
      apart a b h = same (nat_eq b a) refl
        where
          same : (c : Bool) → nat_eq b a ≡ c → nat_eq b a ≡ false
          same true e = absurd (true≢false (sym (numbers-tell a b (sym (numbers-same b a e))) ∙ h))
          same false e = e

      go : (y : Row) → nat_eq s y.session ≡ false → (b : Bool) → is_listed items (if b then shorts else commits) y.session y.name ≡ true → is_listed items (if b then shorts' else commits') y.session y.name ≡ true
      go y other true h = other-list s y.session y.name shorts shorts' l other h
      go y other false h = other-list s y.session y.name commits commits' k other h

  pub listed-short : (commits shorts shorts' : List (ℕ × V)) (s : ℕ) (rows : List Row) → AreListed items commits shorts rows → waiting_in s rows ≡ None → IsWithout items s shorts shorts'
      → AreListed items commits shorts' (released ShortLocks s rows)
  listed-short commits shorts shorts' s rows are awake l x i =
      let f = released-from ShortLocks s rows x i in
      alike-listed commits shorts' f.0.row x (f.0.session, f.0.name, f.0.duration) (go f.0.row f.0.stands f.1 (is_short f.0.row) refl (are f.0.row f.0.stands))
    where
      waits : (a b c : Bool) → b ≡ true → c ≡ true → ((not a && b) && c) ≡ false → (a && b) ≡ true
      waits a b c h k g = grind arith

      go : (y : Row) → In y rows → goes ShortLocks s y ≡ false → (b : Bool) → is_short y ≡ b → is_listed items (if b then shorts else commits) y.session y.name ≡ true → is_listed items (if b then shorts' else commits) y.session y.name ≡ true
      go y j g false short h = h
      go y j g true short h = own (nat_eq s y.session) refl
        where
          own : (c : Bool) → nat_eq s y.session ≡ c → is_listed items shorts' y.session y.name ≡ true
          own true e =
              absurd (true≢false (sym (waits y.waiting (nat_eq y.session s) (is_short y) (numbers-tell y.session s (sym (numbers-same s y.session e))) short g) ∙ none-waits s rows y awake j))
          own false e = other-list s y.session y.name shorts shorts' l e h

  -- or stay
  pub listed-released : (commits shorts : List (ℕ × V)) (scope : Scope) (s : ℕ) (rows : List Row) → AreListed items commits shorts rows → AreListed items commits shorts (released scope s rows)
  listed-released commits shorts scope s rows are x i =
      let f = released-from scope s rows x i in
      alike-listed commits shorts f.0.row x (f.0.session, f.0.name, f.0.duration) (are f.0.row f.0.stands)

  -- a longer list of one session
  module _ (s : ℕ) (v w : V) (old new : List (ℕ × V)) (found : Some v ≡ lookup (nat_eq s) old) (is : (u : ℕ) → lookup (nat_eq u) new ≡ cond (nat_eq s u) (Some w) (lookup (nat_eq u) old)) where
    pub longer-kept : ((n : Name) → list_any (same_name n) (items v) ≡ true → list_any (same_name n) (items w) ≡ true) → KeepsLists items old new
    longer-kept more u n h = ap (λ (o : Option V). list_any (same_name n) (names_of_list items o)) (is u) ∙ go (nat_eq s u) refl
      where
        own : s ≡ u → list_any (same_name n) (items w) ≡ true
        own e = more n (ap (λ (o : Option V). list_any (same_name n) (names_of_list items o)) (found ∙ ap (λ (k : ℕ). lookup (nat_eq k) old) e) ∙ h)

        go : (b : Bool) → nat_eq s u ≡ b → list_any (same_name n) (names_of_list items (cond b (Some w) (lookup (nat_eq u) old))) ≡ true
        go true e = own (numbers-same s u e)
        go false e = h

    pub longer-listed : (n : Name) → list_any (same_name n) (items w) ≡ true → is_listed items new s n ≡ true
    longer-listed n h = ap (λ (o : Option V). list_any (same_name n) (names_of_list items o)) (is s ∙ ap (λ (b : Bool). cond b (Some w) (lookup (nat_eq s) old)) (numbers-tell s s refl)) ∙ h

  -- clones of lists
  pub lists-cloned : (C : ℕ → ℕ → Type 0) (D : V → V → Type 0) → ((a b : ℕ) → C a b → a ≡ b) → ((v w : V) → D v w → items v ≡ items w) → (es fs : List (ℕ × V)) → AllZip (λ p q. C p.0 q.0 × D p.1 q.1) es fs → KeepsLists items es fs
  lists-cloned C D keys values es fs h u n l = ap (list_any (same_name n)) (go es fs h) ∙ l
    where
      one : (b : Bool) (v w : V) (o p : Option V) → items v ≡ items w → names_of_list items p ≡ names_of_list items o → names_of_list items (cond b (Some w) p) ≡ names_of_list items (cond b (Some v) o)
      one true v w o p e k = sym e
      one false v w o p e k = k

      go : (es fs : List (ℕ × V)) → AllZip (λ p q. C p.0 q.0 × D p.1 q.1) es fs → names_at items u fs ≡ names_at items u es
      go [] [] h = refl
      go [] (f ∷ fs) h = absurd h
      go (e ∷ es) [] h = absurd h
      go (e ∷ es) (f ∷ fs) h =
          ap (λ (k : ℕ). names_of_list items (cond (nat_eq u k) (Some f.1) (lookup (nat_eq u) fs))) (sym (keys e.0 f.0 h.0.0))
          ∙ one (nat_eq u e.0) e.1 f.1 (lookup (nat_eq u) es) (lookup (nat_eq u) fs) (values e.1 f.1 h.0.1) (go es fs h.1)
