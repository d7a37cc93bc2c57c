-- Who blocks a request.
use Rattle.std.proofs.Common.{◌≡◌, ◌≢◌, ◌⊎◌, inl, inr, ℕ, ◌<◌, Bool, true, false, not, ◌&&◌, ◌||◌, if◌then◌else◌, nat_eq, nat_le, List, [], ◌∷◌, filter, Option, None, Some, refl, sym, ap, ◌∙◌, subst, arith, true≢false}
use Rattle.std.specs.List.{list_any}
use Rattle.std.proofs.lemmas.Bool.Decides.{nat_tests}
use Rattle.sp_list.specs.Emptiness.{is_empty}
use Rattle.sp_locks.specs.declared.mode.Mode.{Mode}
use Rattle.sp_locks.specs.declared.row.Name.{Name}
use Rattle.sp_locks.specs.declared.row.Row.{Row}
use Rattle.sp_locks.specs.declared.row.Scope.TheVariants.{ShortLocks}
use Rattle.sp_locks.specs.Modes.{compatible, join}
use Rattle.sp_locks.specs.Rows.{same_name, is_held_by, stops, holds_in, is_blocked, is_open, goes, join_onto, held_in, with_session, sessions_of, blockers_in}
use Rattle.sp_locks.specs.Table.{is_on, rows_on, held, blockers}
use Rattle.sp_locks.specs.Soundness.{In, HeldCompatible}
use Rattle.sp_locks.specs.Blocking.{member, IsAscending, is_compatible_with, WaitsAgainst, Blocks}
use Rattle.sp_locks.proofs.Names.{same_is, same-refl}
use Rattle.sp_locks.proofs.Members.{in-kept, of_kept, of_any, to_any, numbers-same, numbers-tell, numbers-apart, second_of_both}
use Rattle.sp_locks.proofs.ModeLaws.{held-tells, compatible-sym}

some-session : (s : ℕ) (xs : List ℕ) → is_empty (with_session s xs) ≡ false
some-session s [] = refl
some-session s (x ∷ xs) = go (nat_le s x) (nat_eq x s)
  where
    go : (a b : Bool) → is_empty (if a then (if b then x ∷ xs else s ∷ x ∷ xs) else x ∷ with_session s xs) ≡ false
    go true true = refl
    go true false = refl
    go false b = refl

some-sessions : (test : Row → Bool) (xs : List Row) → not (is_empty (sessions_of (filter test xs))) ≡ list_any test xs
some-sessions test [] = refl
some-sessions test (x ∷ xs) = go (test x) (some-sessions test xs)
  where
    go : (b : Bool) → not (is_empty (sessions_of (filter test xs))) ≡ list_any test xs → not (is_empty (sessions_of (if b then x ∷ filter test xs else filter test xs))) ≡ (b || list_any test xs)
    go true rest = ap not (some-session x.session (sessions_of (filter test xs)))
    go false rest = rest

pub blocked-is : (s : ℕ) (m : Mode) (rows : List Row) → is_blocked rows [] s m ≡ not (is_empty (blockers_in s m rows))
blocked-is s m rows = drop (holds_in s rows) ∙ sym (some-sessions (stops (holds_in s rows) s m) rows)
  where
    no_more : (a : Bool) → (a || false) ≡ a
    no_more a = grind arith

    drop : (h : Bool) → (list_any (stops (h || false) s m) rows || false) ≡ list_any (stops h s m) rows
    drop h = no_more (list_any (stops (h || false) s m) rows) ∙ ap (λ b. list_any (stops b s m) rows) (no_more h)

-- no row stops a request exactly where nobody blocks it
pub unblocked-is : (s : ℕ) (m : Mode) (rows : List Row) → not (list_any (stops (holds_in s rows) s m) rows) ≡ is_empty (blockers_in s m rows)
unblocked-is s m rows = ap not (sym (some-sessions (stops (holds_in s rows) s m) rows)) ∙ twice (is_empty (blockers_in s m rows))
  where
    twice : (b : Bool) → not (not b) ≡ b
    twice true = refl
    twice false = refl

-- what is open to a request does not block it
pub open-unblocked : (s : ℕ) (m : Mode) (rows : List Row) → is_open s m rows ≡ true → is_blocked rows [] s m ≡ false
open-unblocked s m rows open_is = blocked-is s m rows ∙ ap not (second_of_both (not (list_any (goes ShortLocks s) rows)) (is_empty (blockers_in s m rows)) open_is)

member-with_session : (u s : ℕ) (xs : List ℕ) → member u (with_session s xs) ≡ (nat_eq u s || member u xs)
member-with_session u s [] = refl
member-with_session u s (x ∷ xs) = go (nat_le s x) (nat_eq x s) refl (member-with_session u s xs)
  where
    same : (a : Bool) → a ≡ (a || a)
    same a = grind arith

    twice : (a b : Bool) → (a || b) ≡ (a || (a || b))
    twice a b = grind arith

    swap : (a b c : Bool) → (a || (b || c)) ≡ (b || (a || c))
    swap a b c = grind arith

    go : (a b : Bool) → nat_eq x s ≡ b → member u (with_session s xs) ≡ (nat_eq u s || member u xs) → member u (if a then (if b then x ∷ xs else s ∷ x ∷ xs) else x ∷ with_session s xs) ≡ (nat_eq u s || (nat_eq u x || member u xs))
    go true true e rest = subst (λ (y : ℕ). (nat_eq u y || member u xs) ≡ (nat_eq u s || (nat_eq u y || member u xs))) (sym (numbers-same x s e)) (twice (nat_eq u s) (member u xs))
    go true false e rest = refl
    go false b e rest = ap (λ c. nat_eq u x || c) rest ∙ swap (nat_eq u x) (nat_eq u s) (member u xs)

member-sessions : (u : ℕ) (xs : List Row) → member u (sessions_of xs) ≡ list_any (λ x. nat_eq u x.session) xs
member-sessions u [] = refl
member-sessions u (x ∷ xs) = member-with_session u x.session (sessions_of xs) ∙ ap (λ c. nat_eq u x.session || c) (member-sessions u xs)

-- the least number of a list in order
abbrev Above : ℕ → List ℕ → Type 0
Above s [] = Unit {0}
Above s (x ∷ xs) = s < x

cons-ascending : (s : ℕ) (xs : List ℕ) → Above s xs → IsAscending xs → IsAscending (s ∷ xs)
cons-ascending s [] h k = tt
cons-ascending s (x ∷ xs) h k = (h, k)

tail-ascending : (s : ℕ) (xs : List ℕ) → IsAscending (s ∷ xs) → Above s xs × IsAscending xs
tail-ascending s [] h = (tt, tt)
tail-ascending s (x ∷ xs) h = (h.0, h.1)

above-with_session : (t s : ℕ) (xs : List ℕ) → t < s → Above t xs → Above t (with_session s xs)
above-with_session t s [] h k = h
above-with_session t s (x ∷ xs) h k = go (nat_le s x) (nat_eq x s)
  where
    go : (a b : Bool) → Above t (if a then (if b then x ∷ xs else s ∷ x ∷ xs) else x ∷ with_session s xs)
    go true true = k
    go true false = h
    go false b = k

ascending-with_session : (s : ℕ) (xs : List ℕ) → IsAscending xs → IsAscending (with_session s xs)
ascending-with_session s [] h = tt
ascending-with_session s (x ∷ xs) h = go (nat_le s x) refl (nat_eq x s) refl (ascending-with_session s xs (tail-ascending x xs h).1)
  where
    go : (a : Bool) → nat_le s x ≡ a → (b : Bool) → nat_eq x s ≡ b → IsAscending (with_session s xs) → IsAscending (if a then (if b then x ∷ xs else s ∷ x ∷ xs) else x ∷ with_session s xs)
    go true e true f rest = h
    go true e false f rest = (below s x e f, h)
      where
        below : (s x : ℕ) → nat_le s x ≡ true → nat_eq x s ≡ false → s < x
        below s x e f = grind (arith, nat_tests)
    go false e b f rest = cons-ascending x (with_session s xs) (above-with_session x s xs (above s x e) (tail-ascending x xs h).0) rest
      where
        above : (s x : ℕ) → nat_le s x ≡ false → x < s
        above s x e = grind (arith, nat_tests)

pub sessions-ascending : (xs : List Row) → IsAscending (sessions_of xs)
sessions-ascending [] = tt
sessions-ascending (x ∷ xs) = ascending-with_session x.session (sessions_of xs) (sessions-ascending xs)

-- a session holds nothing where it holds no row
pub held-nothing : (s : ℕ) (xs : List Row) → held_in s xs ≡ None → holds_in s xs ≡ false
held-nothing s [] h = refl
held-nothing s (x ∷ xs) h = go (is_held_by s x) h (held-nothing s xs)
  where
    some : (o : Option Mode) → join_onto x.mode o ≡ None → ⊥
    some None h = let k : Some x.mode ≡ None = h in cc
    some (Some m) h = let k : Some (join x.mode m) ≡ None = h in cc

    go : (b : Bool) → (if b then join_onto x.mode (held_in s xs) else held_in s xs) ≡ None → (held_in s xs ≡ None → holds_in s xs ≡ false) → (b || holds_in s xs) ≡ false
    go true h rest = absurd (some (held_in s xs) h)
    go false h rest = rest h

pub holds-nothing : (s : ℕ) (xs : List Row) → holds_in s xs ≡ false → held_in s xs ≡ None
holds-nothing s [] h = refl
holds-nothing s (x ∷ xs) h = go (is_held_by s x) h (holds-nothing s xs)
  where
    go : (b : Bool) → (b || holds_in s xs) ≡ false → (holds_in s xs ≡ false → held_in s xs ≡ None) → (if b then join_onto x.mode (held_in s xs) else held_in s xs) ≡ None
    go true h rest = absurd (true≢false h)
    go false h rest = rest h

-- a row that stops a request, by its parts
record Stops (h : Bool) (s : ℕ) (m : Mode) (x : Row) : Type 0 where
  other : nat_eq x.session s ≡ false
  against : compatible m x.mode ≡ false
  free : (x.waiting ≡ false) ⊎ (h ≡ false)

of_stops : (h : Bool) (s : ℕ) (m : Mode) (x : Row) → stops h s m x ≡ true → Stops h s m x
of_stops h s m x k = record { other = first (nat_eq x.session s) (compatible m x.mode) x.waiting h k; against = second (nat_eq x.session s) (compatible m x.mode) x.waiting h k; free = third x.waiting h (last (not (nat_eq x.session s) && not (compatible m x.mode)) (not (x.waiting && h)) k) }
  where
    first : (a b c d : Bool) → ((not a && not b) && not (c && d)) ≡ true → a ≡ false
    first a b c d k = grind arith

    second : (a b c d : Bool) → ((not a && not b) && not (c && d)) ≡ true → b ≡ false
    second a b c d k = grind arith

    last : (a b : Bool) → (a && b) ≡ true → b ≡ true
    last a b k = grind arith

    third : (c d : Bool) → not (c && d) ≡ true → (c ≡ false) ⊎ (d ≡ false)
    third false d k = inl refl
    third true false k = inr refl
    third true true k = absurd (true≢false (sym k))

to_stops : (h : Bool) (s : ℕ) (m : Mode) (x : Row) → Stops h s m x → stops h s m x ≡ true
to_stops h s m x k = four (nat_eq x.session s) (compatible m x.mode) x.waiting h k.other k.against k.free
  where
    four : (a b c d : Bool) → a ≡ false → b ≡ false → (c ≡ false) ⊎ (d ≡ false) → ((not a && not b) && not (c && d)) ≡ true
    four a b c d e f (inl g) = grind arith
    four a b c d e f (inr g) = grind arith

-- a held row tells what its session holds
pub held-against : (u : ℕ) (m : Mode) (x : Row) (xs : List Row) → In x xs → x.waiting ≡ false → x.session ≡ u → compatible m x.mode ≡ false → is_compatible_with m (held_in u xs) ≡ false
held-against u m x xs i h e k = held-tells u m xs ∙ ap not (to_any (λ y. is_held_by u y && not (compatible m y.mode)) x xs i (three x.waiting (nat_eq x.session u) (compatible m x.mode) h (numbers-tell x.session u e) k))
  where
    three : (a b c : Bool) → a ≡ false → b ≡ true → c ≡ false → ((not a && b) && not c) ≡ true
    three a b c f g h = grind arith

pub against-held : (u : ℕ) (m : Mode) (xs : List Row) → is_compatible_with m (held_in u xs) ≡ false → (x : Row) × In x xs × (x.waiting ≡ false) × (x.session ≡ u) × (compatible m x.mode ≡ false)
against-held u m xs h =
    let a = of_any (λ y. is_held_by u y && not (compatible m y.mode)) xs (flip (list_any (λ y. is_held_by u y && not (compatible m y.mode)) xs) (sym (held-tells u m xs) ∙ h)) in
    (a.0, a.1, first a.0.waiting (nat_eq a.0.session u) (compatible m a.0.mode) a.2, numbers-same a.0.session u (second a.0.waiting (nat_eq a.0.session u) (compatible m a.0.mode) a.2), third a.0.waiting (nat_eq a.0.session u) (compatible m a.0.mode) a.2)
  where
    flip : (b : Bool) → not b ≡ false → b ≡ true
    flip b k = grind arith

    first : (a b c : Bool) → ((not a && b) && not c) ≡ true → a ≡ false
    first a b c k = grind arith

    second : (a b c : Bool) → ((not a && b) && not c) ≡ true → b ≡ true
    second a b c k = grind arith

    third : (a b c : Bool) → ((not a && b) && not c) ≡ true → c ≡ false
    third a b c k = grind arith

pub blockers-block : (rows : List Row) (s u : ℕ) (n : Name) (m : Mode) → member u (blockers s n m rows) ≡ true → Blocks s n m rows u
blockers-block rows s u n m k =
    let on = rows_on n rows in
    let a = of_any (λ x. nat_eq u x.session) (filter (stops (holds_in s on) s m) on) (sym (member-sessions u (filter (stops (holds_in s on) s m) on)) ∙ k) in
    let f = of_kept (stops (holds_in s on) s m) a.0 on a.1 in
    let t = of_stops (holds_in s on) s m a.0 f.1 in
    let e : u ≡ a.0.session = numbers-same u a.0.session a.2 in
    ((λ same. true≢false (sym (numbers-tell a.0.session s (sym e ∙ same)) ∙ t.other)), go a.0 f.0 t (sym e) a.0.waiting refl t.free)
  where
    go : (x : Row) → In x (rows_on n rows) → Stops (holds_in s (rows_on n rows)) s m x → x.session ≡ u → (w : Bool) → x.waiting ≡ w → (x.waiting ≡ false) ⊎ (holds_in s (rows_on n rows) ≡ false)
        → (is_compatible_with m (held u n rows) ≡ false) ⊎ ((held s n rows ≡ None) × WaitsAgainst m n u rows)
    go x i t e false w f = inl (held-against u m x (rows_on n rows) i w e t.against)
    go x i t e true w (inl f) = absurd (true≢false (sym w ∙ f))
    go x i t e true w (inr f) =
        let k = of_kept (is_on n) x rows i in
        inr (holds-nothing s (rows_on n rows) f, record { row = x; stands = k.0; waits = w; on = sym (same_is n x.name k.1); by = e; against = t.against })

pub block-blockers : (rows : List Row) (s u : ℕ) (n : Name) (m : Mode) → Blocks s n m rows u → member u (blockers s n m rows) ≡ true
block-blockers rows s u n m (other, how) = member-sessions u (filter (stops (holds_in s (rows_on n rows)) s m) (rows_on n rows)) ∙ go how
  where
    stands : (x : Row) → In x (rows_on n rows) → x.session ≡ u → compatible m x.mode ≡ false → (x.waiting ≡ false) ⊎ (holds_in s (rows_on n rows) ≡ false)
        → list_any (λ y. nat_eq u y.session) (filter (stops (holds_in s (rows_on n rows)) s m) (rows_on n rows)) ≡ true
    stands x i e k f =
        to_any (λ y. nat_eq u y.session) x (filter (stops (holds_in s (rows_on n rows)) s m) (rows_on n rows))
        (in-kept (stops (holds_in s (rows_on n rows)) s m) x (rows_on n rows) i (to_stops (holds_in s (rows_on n rows)) s m x (record { other = numbers-apart x.session s (λ g. other (sym e ∙ g)); against = k; free = f })))
        (numbers-tell u x.session (sym e))

    go : (is_compatible_with m (held u n rows) ≡ false) ⊎ ((held s n rows ≡ None) × WaitsAgainst m n u rows) → list_any (λ y. nat_eq u y.session) (filter (stops (holds_in s (rows_on n rows)) s m) (rows_on n rows)) ≡ true
    go (inl h) = let a = against-held u m (rows_on n rows) h in stands a.0 a.1 a.3 a.4 (inl a.2)
    go (inr (none, w)) =
        stands w.row (in-kept (is_on n) w.row rows w.stands (subst (λ (k : Name). same_name k w.row.name ≡ true) w.on (same-refl w.row.name))) w.by w.against (inr (held-nothing s (rows_on n rows) none))

-- what two sessions hold
pub held-compatible : (rows : List Row) (s u : ℕ) (a b : Mode) → HeldCompatible rows → s ≢ u → held_in s rows ≡ Some a → held_in u rows ≡ Some b → compatible a b ≡ true
held-compatible rows s u a b together other e f = go (compatible a b) refl
  where
    go : (c : Bool) → compatible a b ≡ c → c ≡ true
    go true k = refl
    go false k =
        let y = against-held u a rows (ap (is_compatible_with a) f ∙ k) in
        let x = against-held s y.0.mode rows (ap (is_compatible_with y.0.mode) e ∙ compatible-sym y.0.mode a ∙ y.4) in
        absurd (true≢false (sym (together y.0 x.0 y.1 x.1 y.2 x.2 (λ g. other (sym x.3 ∙ sym g ∙ y.3))) ∙ x.4))
