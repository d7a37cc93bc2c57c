-- A release on some names is one on all, where those have the rows that go.
use Rattle.std.proofs.Common.{◌≡◌, ◌≢◌, ℕ, Bool, true, false, not, ◌&&◌, ◌||◌, if◌then◌else◌, nat_eq, List, [], ◌∷◌, ◌++◌, filter, flat_map, None, refl, sym, ap, ◌∙◌, subst, inl, inr, ◌⊎◌, append-nil, append_assoc, true≢false, arith}
use Rattle.std.specs.List.{list_any}
use Rattle.std.specs.Map.{lookup}
use Rattle.sp_locks.specs.declared.row.Name.{Name}
use Rattle.sp_locks.specs.declared.row.Scope.{Scope}
use Rattle.sp_locks.specs.declared.row.Scope.TheVariants.{ShortLocks, AllRows}
use Rattle.sp_locks.specs.declared.row.Duration.{Duration}
use Rattle.sp_locks.specs.declared.row.Duration.TheVariants.{Short}
use Rattle.sp_locks.specs.declared.row.Row.{Row}
use Rattle.sp_locks.specs.Rows.{same_name, same_duration, is_lock_of, is_blocked, is_short, raised, with_lock, granted, goes, retried, released_in}
use Rattle.sp_locks.specs.Table.{is_on, rows_on, names_of, released, AreOn, rows_in, AreNamed}
use Rattle.sp_locks.specs.Slots.{starts, worked, worked_through, rows_of, AreSlots, made}
use Rattle.sp_locks.specs.Soundness.{In, WaitersBlocked, IsSound}
use Rattle.sp_locks.proofs.Names.{same_is, same-refl}
use Rattle.sp_locks.proofs.Members.{in-left, in-right, in-split, of_kept, of_any}
use Rattle.sp_locks.proofs.OnNames.{rows-on, released-on}
use Rattle.sp_locks.proofs.Releasing.{each_name}
use Rattle.sp_locks.proofs.Staying.{Blocked}
use Rattle.sp_locks.proofs.Keeping.{to_blocked, release-sound}
use Rattle.sp_locks.proofs.Changing.{of_lock, from-retried}
use Rattle.sp_locks.proofs.Standing.{on-first, on-second, starts-not, starts-on}

-- without rows nothing is done
worked-none : (scope : Scope) (s : ℕ) (names : List Name) → worked scope s names [] ≡ []
worked-none scope s [] = refl
worked-none scope s (n ∷ names) = worked-none scope s names

module _ {V : Type 0} (items : V → List Row) where
  abbrev with_entry : List Row → V → List (Name × V) → List (Name × V)
  with_entry [] v es = es
  with_entry (x ∷ xs) v es = (x.name, v) ∷ es

  -- the slots that have rows, with their names
  abbrev entries : List V → List (Name × V)
  entries [] = []
  entries (v ∷ vs) = with_entry (items v) v (entries vs)

  entry-rows : (xs : List Row) (v : V) (es : List (Name × V)) → items v ≡ xs → rows_in items (with_entry xs v es) ≡ items v ++ rows_in items es
  entry-rows [] v es is = ap (λ (zs : List Row). zs ++ rows_in items es) (sym is)
  entry-rows (x ∷ xs) v es is = refl

  entries-rows : (vs : List V) → rows_in items (entries vs) ≡ rows_of items vs
  entries-rows [] = refl
  entries-rows (v ∷ vs) = entry-rows (items v) v (entries vs) refl ∙ ap (λ (zs : List Row). items v ++ zs) (entries-rows vs)

  entry-none : (n : Name) (xs : List Row) (v : V) (es : List (Name × V)) → starts n xs ≡ false → lookup (same_name n) es ≡ None → lookup (same_name n) (with_entry xs v es) ≡ None
  entry-none n [] v es h none = none
  entry-none n (x ∷ xs) v es h none = rw h none

  entries-none : (n : Name) (vs : List V) → rows_on n (rows_of items vs) ≡ [] → lookup (same_name n) (entries vs) ≡ None
  entries-none n [] none = refl
  entries-none n (v ∷ vs) none = entry-none n (items v) v (entries vs) (starts-not n (items v) (on-first n (items v) (rows_of items vs) none)) (entries-none n vs (on-second n (items v) (rows_of items vs) none))

  entry-named : (xs : List Row) (v : V) (es : List (Name × V)) → items v ≡ xs → ((n : Name) → starts n xs ≡ true → AreOn n xs × (lookup (same_name n) es ≡ None)) → AreNamed items es → AreNamed items (with_entry xs v es)
  entry-named [] v es is leads named = named
  entry-named (x ∷ xs) v es is leads named =
      let l = leads x.name (same-refl x.name) in
      (subst (AreOn x.name) (sym is) l.0, (λ e. let k : x ∷ xs ≡ [] = sym is ∙ e in cc), l.1, named)

  entries-named : (vs : List V) → AreSlots items vs → AreNamed items (entries vs)
  entries-named [] slots = tt
  entries-named (v ∷ vs) slots = entry-named (items v) v (entries vs) refl (λ n h. ((slots.0 n h).0, entries-none n vs (slots.0 n h).1)) (entries-named vs slots.1)

  entry-made : (scope : Scope) (s : ℕ) (names : List Name) (xs : List Row) (v : V) (es : List (Name × V)) → items v ≡ xs
      → flat_map (λ e. worked scope s names (items e.1)) (with_entry xs v es) ≡ worked scope s names (items v) ++ flat_map (λ e. worked scope s names (items e.1)) es
  entry-made scope s names [] v es is = ap (λ (zs : List Row). zs ++ flat_map (λ e. worked scope s names (items e.1)) es) (sym (ap (worked scope s names) is ∙ worked-none scope s names))
  entry-made scope s names (x ∷ xs) v es is = refl

  entries-made : (scope : Scope) (s : ℕ) (names : List Name) (vs : List V) → flat_map (λ e. worked scope s names (items e.1)) (entries vs) ≡ made items scope s names vs
  entries-made scope s names [] = refl
  entries-made scope s names (v ∷ vs) = entry-made scope s names (items v) v (entries vs) refl ∙ ap (λ (zs : List Row). worked scope s names (items v) ++ zs) (entries-made scope s names vs)

  -- what a release on the names makes of the slots
  pub made-through : (scope : Scope) (s : ℕ) (names : List Name) (vs : List V) → AreSlots items vs → made items scope s names vs ≡ worked_through scope s names (rows_of items vs)
  made-through scope s names vs slots =
      sym (entries-made scope s names vs) ∙ sym (each_name items (worked scope s names) (entries vs) (entries-named vs slots))
      ∙ ap (λ (rows : List Row). flat_map (λ n. worked scope s names (rows_on n rows)) (names_of rows)) (entries-rows vs)

  pub made-none : (scope : Scope) (s : ℕ) (vs : List V) → made items scope s [] vs ≡ rows_of items vs
  made-none scope s [] = refl
  made-none scope s (v ∷ vs) = ap (λ (zs : List Row). items v ++ zs) (made-none scope s vs)

-- where a release changes nothing, none does
worked-fixed : (scope : Scope) (s : ℕ) (names : List Name) (xs : List Row) → released_in scope s xs ≡ xs → worked scope s names xs ≡ xs
worked-fixed scope s [] xs same = refl
worked-fixed scope s (n ∷ names) xs same = go (starts n xs) (worked-fixed scope s names xs same)
  where
    go : (b : Bool) → worked scope s names xs ≡ xs → worked scope s names (if b then released_in scope s xs else xs) ≡ xs
    go true rest = ap (worked scope s names) same ∙ rest
    go false rest = rest

-- and where a second one changes nothing, many are one
worked-once : (scope : Scope) (s : ℕ) (names : List Name) (xs : List Row) → released_in scope s (released_in scope s xs) ≡ released_in scope s xs → list_any (λ m. starts m xs) names ≡ true → worked scope s names xs ≡ released_in scope s xs
worked-once scope s [] xs twice some = absurd (true≢false (sym some))
worked-once scope s (n ∷ names) xs twice some = go (starts n xs) some (worked-once scope s names xs twice)
  where
    go : (b : Bool) → (b || list_any (λ m. starts m xs) names) ≡ true → (list_any (λ m. starts m xs) names ≡ true → worked scope s names xs ≡ released_in scope s xs)
        → worked scope s names (if b then released_in scope s xs else xs) ≡ released_in scope s xs
    go true some rest = worked-fixed scope s names (released_in scope s xs) twice
    go false some rest = rest some

-- where each that waits is blocked, trying changes nothing
retried-still : (before rest : List Row) → Blocked before rest [] → retried before rest ≡ before ++ rest
retried-still before [] h = sym (append-nil before)
retried-still before (r ∷ rest) h = go r.waiting refl (is_blocked before rest r.session r.mode) refl (retried-still (before ++ r ∷ []) rest h.1)
  where
    stuck : r.waiting ≡ true → is_blocked before rest r.session r.mode ≡ true
    stuck w = subst (λ (zs : List Row). is_blocked before zs r.session r.mode ≡ true) (append-nil rest) (h.0 w)

    go : (w : Bool) → r.waiting ≡ w → (b : Bool) → is_blocked before rest r.session r.mode ≡ b → retried (before ++ r ∷ []) rest ≡ (before ++ r ∷ []) ++ rest
        → (if not w || b then retried (before ++ r ∷ []) rest else (if is_short r then retried before rest else retried (with_lock (granted r) before) rest)) ≡ before ++ r ∷ rest
    go false e b f next = next ∙ append_assoc before (r ∷ []) rest
    go true e true f next = next ∙ append_assoc before (r ∷ []) rest
    go true e false f next = absurd (true≢false (sym (stuck e) ∙ f))

filter-still : (scope : Scope) (s : ℕ) (xs : List Row) → list_any (goes scope s) xs ≡ false → filter (λ x. not (goes scope s x)) xs ≡ xs
filter-still scope s [] none = refl
filter-still scope s (x ∷ xs) none = go (goes scope s x) none (filter-still scope s xs)
  where
    go : (b : Bool) → (b || list_any (goes scope s) xs) ≡ false → (list_any (goes scope s) xs ≡ false → filter (λ x. not (goes scope s x)) xs ≡ xs)
        → (if not b then x ∷ filter (λ x. not (goes scope s x)) xs else filter (λ x. not (goes scope s x)) xs) ≡ x ∷ xs
    go true none rest = absurd (true≢false none)
    go false none rest = ap (λ (ys : List Row). x ∷ ys) (rest none)

still : (scope : Scope) (s : ℕ) (xs : List Row) → WaitersBlocked xs → list_any (goes scope s) xs ≡ false → released_in scope s xs ≡ xs
still scope s xs stuck none = ap (retried []) (filter-still scope s xs none) ∙ retried-still [] xs (to_blocked [] xs stuck)

-- a short row is made by no trying
short-locked : (lock : Row) (xs : List Row) (y : Row) → In y (with_lock lock xs) → is_short y ≡ true → is_short lock ≡ false → In y xs
short-locked lock [] y (inl e) short long = absurd (true≢false (sym short ∙ ap is_short (sym e) ∙ long))
short-locked lock [] y (inr i) short long = absurd i
short-locked lock (x ∷ xs) y i short long = go (is_lock_of lock.session lock.duration x) refl i (short-locked lock xs y)
  where
    go : (b : Bool) → is_lock_of lock.session lock.duration x ≡ b → In y (if b then raised lock.mode x ∷ xs else x ∷ with_lock lock xs) → (In y (with_lock lock xs) → is_short y ≡ true → is_short lock ≡ false → In y xs) → In y (x ∷ xs)
    go true e (inl f) rest =
        let d = (of_lock lock.session lock.duration x e).lasts in
        absurd (true≢false (sym short ∙ ap is_short (sym f) ∙ ap (λ (k : Duration). same_duration k Short) d ∙ long))
    go true e (inr j) rest = inr j
    go false e (inl f) rest = inl f
    go false e (inr j) rest = inr (rest j short long)

short-retried : (before rest : List Row) (y : Row) → In y (retried before rest) → is_short y ≡ true → In y (before ++ rest)
short-retried before [] y i short = subst (In y) (sym (append-nil before)) i
short-retried before (r ∷ rest) y i short = go (not r.waiting || is_blocked before rest r.session r.mode) (is_short r) refl i (λ b j. short-retried b rest y j short)
  where
    more : In y before ⊎ In y rest → In y (before ++ r ∷ rest)
    more (inl j) = in-left y before (r ∷ rest) j
    more (inr j) = in-right y before (r ∷ rest) (inr j)

    go : (s t : Bool) → is_short r ≡ t → In y (if s then retried (before ++ r ∷ []) rest else (if t then retried before rest else retried (with_lock (granted r) before) rest))
        → ((b : List Row) → In y (retried b rest) → In y (b ++ rest)) → In y (before ++ r ∷ rest)
    go true t e i old = subst (In y) (append_assoc before (r ∷ []) rest) (old (before ++ r ∷ []) i)
    go false true e i old = more (in-split y before rest (old before i))
    go false false e i old = at (in-split y (with_lock (granted r) before) rest (old (with_lock (granted r) before) i))
      where
        at : In y (with_lock (granted r) before) ⊎ In y rest → In y (before ++ r ∷ rest)
        at (inl j) = more (inl (short-locked (granted r) before y j short e))
        at (inr j) = more (inr j)

not_true : (b : Bool) → not b ≡ true → b ≡ false
not_true b h = grind arith

-- no row that goes is left
none-left : (scope : Scope) (s : ℕ) (xs : List Row) (y : Row) → In y (released_in scope s xs) → goes scope s y ≡ false
none-left ShortLocks s xs y i = go (is_short y) refl
  where
    long : (a b c : Bool) → c ≡ false → ((a && b) && c) ≡ false
    long a b c h = grind arith

    go : (b : Bool) → is_short y ≡ b → goes ShortLocks s y ≡ false
    go false e = long (not y.waiting) (nat_eq y.session s) (is_short y) e
    go true e = not_true (goes ShortLocks s y) (of_kept (λ x. not (goes ShortLocks s x)) y xs (short-retried [] (filter (λ x. not (goes ShortLocks s x)) xs) y i e)).1
none-left AllRows s xs y i =
    let k = from-retried [] (filter (λ x. not (goes AllRows s x)) xs) y i in
    ap (λ (u : ℕ). nat_eq u s) (sym k.2) ∙ not_true (goes AllRows s k.0) (of_kept (λ x. not (goes AllRows s x)) k.0 xs k.1).1

twice : (scope : Scope) (s : ℕ) (n : Name) (rows : List Row) → IsSound rows → released_in scope s (released_in scope s (rows_on n rows)) ≡ released_in scope s (rows_on n rows)
twice scope s n rows sound = still scope s (released_in scope s (rows_on n rows)) (subst WaitersBlocked (released-on scope s n rows) ((release-sound scope s rows sound).blocked n)) (go (list_any (goes scope s) (released_in scope s (rows_on n rows))) refl)
  where
    go : (b : Bool) → list_any (goes scope s) (released_in scope s (rows_on n rows)) ≡ b → list_any (goes scope s) (released_in scope s (rows_on n rows)) ≡ false
    go true e = let a = of_any (goes scope s) (released_in scope s (rows_on n rows)) e in absurd (true≢false (sym a.2 ∙ none-left scope s (rows_on n rows) a.0 a.1))
    go false e = e

-- the names are those of the rows that go, and maybe more
abbrev pub Covers : Scope → ℕ → List Name → List Row → Type 0
Covers scope s names rows = (x : Row) → In x rows → goes scope s x ≡ true → list_any (same_name x.name) names ≡ true

starts-any : (n : Name) (xs : List Row) (names : List Name) → AreOn n xs → xs ≢ [] → list_any (same_name n) names ≡ true → list_any (λ m. starts m xs) names ≡ true
starts-any n xs [] on some any = any
starts-any n xs (m ∷ names) on some any = go (same_name n m) refl any (starts-any n xs names on some)
  where
    later : (a b : Bool) → b ≡ true → (a || b) ≡ true
    later a b h = grind arith

    go : (b : Bool) → same_name n m ≡ b → (b || list_any (same_name n) names) ≡ true → (list_any (same_name n) names ≡ true → list_any (λ m. starts m xs) names ≡ true) → (starts m xs || list_any (λ m. starts m xs) names) ≡ true
    go true e any rest = rw (subst (λ (k : Name). starts k xs ≡ true) (same_is n m e) (starts-on n xs on some)) refl
    go false e any rest = later (starts m xs) (list_any (λ m. starts m xs) names) (rest any)

done-on : (scope : Scope) (s : ℕ) (names : List Name) (rows : List Row) (n : Name) → IsSound rows → Covers scope s names rows → worked scope s names (rows_on n rows) ≡ released_in scope s (rows_on n rows)
done-on scope s names rows n sound covers = go (list_any (goes scope s) (rows_on n rows)) refl
  where
    stands : (x : Row) (xs : List Row) → In x xs → xs ≢ []
    stands x xs i e = subst (In x) e i

    go : (b : Bool) → list_any (goes scope s) (rows_on n rows) ≡ b → worked scope s names (rows_on n rows) ≡ released_in scope s (rows_on n rows)
    go false e = let same = still scope s (rows_on n rows) (sound.blocked n) e in worked-fixed scope s names (rows_on n rows) same ∙ sym same
    go true e =
        let a = of_any (goes scope s) (rows_on n rows) e in
        let k = of_kept (is_on n) a.0 rows a.1 in
        worked-once scope s names (rows_on n rows) (twice scope s n rows sound)
        (starts-any n (rows_on n rows) names (rows-on n rows) (stands a.0 (rows_on n rows) a.1) (subst (λ (m : Name). list_any (same_name m) names ≡ true) (sym (same_is n a.0.name k.1)) (covers a.0 k.0 a.2)))

-- so a release on those names is a release
pub through-released : (scope : Scope) (s : ℕ) (names : List Name) (rows : List Row) → IsSound rows → Covers scope s names rows → worked_through scope s names rows ≡ released scope s rows
through-released scope s names rows sound covers = each (names_of rows)
  where
    each : (ns : List Name) → flat_map (λ n. worked scope s names (rows_on n rows)) ns ≡ flat_map (λ n. released_in scope s (rows_on n rows)) ns
    each [] = refl
    each (n ∷ ns) = rw (done-on scope s names rows n sound covers) (ap (λ (zs : List Row). released_in scope s (rows_on n rows) ++ zs) (each ns))
