-- Waits that close no cycle, and releases, leave a table without one.
use Rattle.std.proofs.Common.{◌≡◌, ◌≢◌, ◌⊎◌, ℕ, Bool, true, false, not, ◌&&◌, ◌||◌, if◌then◌else◌, nat_eq, List, [], ◌∷◌, ◌++◌, filter, Option, None, Some, refl, sym, ap, ◌∙◌, subst, inl, inr, true≢false, arith, append-nil, append_assoc}
use Rattle.sp_locks.specs.declared.mode.Mode.{Mode}
use Rattle.sp_locks.specs.declared.row.Name.{Name}
use Rattle.sp_locks.specs.declared.row.Duration.{Duration}
use Rattle.sp_locks.specs.declared.row.Scope.{Scope}
use Rattle.sp_locks.specs.declared.row.Scope.TheVariants.{ShortLocks, AllRows}
use Rattle.sp_locks.specs.declared.row.Row.{Row}
use Rattle.sp_locks.specs.Modes.{compatible}
use Rattle.sp_locks.specs.Rows.{is_held_by, is_lock_of, is_waiter, stops, holds_in, is_blocked, is_short, waiting_in, raised, with_lock, granted, goes, retried, released_in}
use Rattle.sp_locks.specs.Table.{rows_on, released, row_of, with_row_on}
use Rattle.sp_locks.specs.Soundness.{In, Before, WaitOnce, IsSound}
use Rattle.sp_locks.proofs.Members.{in-left, in-right, in-split, in-kept, of_kept, of_any, to_any, any-append, before-in, before-kept, before-filtered, numbers-same, numbers-tell, second_of_both, both}
use Rattle.sp_locks.proofs.Compatibility.{Made, New, Raised, in-with_lock, is-lock}
use Rattle.sp_locks.proofs.Once.{waiters, waiters-append, waiters-with_lock, waits-same, once-without, once-locked, before-middle, waits-retried}
use Rattle.sp_locks.proofs.OnNames.{released-on}
use Rattle.sp_locks.proofs.Keeping.{in-name, in-table, one_name, once-on, found-waits, found-one, waiter-is, none-waits, released-waits, release-sound}
use Rattle.sp_waits.specs.Edges.{member, stopping, stopped_by, of_row, waits_of, once_waiting, Chain, Link, Then, Closes, NoCycle}
use Rattle.sp_waits.specs.Search.{waits_for}
use Rattle.sp_waits.proofs.Levelling.{or-cases, or-left, or-right}
use Rattle.sp_waits.proofs.Telling.{same-edges}
use Rattle.sp_waits.proofs.Waiting.{waits-are_for}

joined : (edges : ℕ → List ℕ) (u v w : ℕ) → Chain edges u v → Chain edges v w → Chain edges u w
joined edges u v w (Link h) d = Then v h d
joined edges u v w (Then m h c) d = Then m h (joined edges m v w c d)

-- a chain goes by the edges of the others alone, or through s
module _ (rows : List Row) (s : ℕ) (name : Name) (mode : Mode) where
  abbrev edges : ℕ → List ℕ
  edges = waits_for rows s name mode

  abbrev Through : ℕ → ℕ → Type 0
  Through u w = ((u ≡ s) ⊎ Chain edges u s) × Chain edges s w

  old-edge : (u v : ℕ) → nat_eq u s ≡ false → member v (edges u) ≡ true → member v (waits_of rows u) ≡ true
  old-edge u v e h = go (nat_eq u s) e h
    where
      go : (b : Bool) → b ≡ false → member v (if b then stopped_by s name mode rows else waits_of rows u) ≡ true → member v (waits_of rows u) ≡ true
      go true e h = absurd (true≢false e)
      go false e h = h

  by-or-through : (u w : ℕ) → Chain edges u w → Chain (waits_of rows) u w ⊎ Through u w
  by-or-through u w (Link h) = go (nat_eq u s) refl
    where
      go : (b : Bool) → nat_eq u s ≡ b → Chain (waits_of rows) u w ⊎ Through u w
      go true e = let same = numbers-same u s e in inr (inl same, subst (λ (x : ℕ). Chain edges x w) same (Link h))
      go false e = inl (Link (old-edge u w e h))
  by-or-through u w (Then v h c) = go (nat_eq u s) refl (by-or-through v w c)
    where
      more : (v ≡ s) ⊎ Chain edges v s → Chain edges u s
      more (inl same) = Link (subst (λ (x : ℕ). member x (edges u) ≡ true) same h)
      more (inr d) = Then v h d

      on : nat_eq u s ≡ false → Chain (waits_of rows) v w ⊎ Through v w → Chain (waits_of rows) u w ⊎ Through u w
      on e (inl d) = inl (Then v (old-edge u v e h) d)
      on e (inr t) = inr (inr (more t.0), t.1)

      go : (b : Bool) → nat_eq u s ≡ b → Chain (waits_of rows) v w ⊎ Through v w → Chain (waits_of rows) u w ⊎ Through u w
      go true e rest = let same = numbers-same u s e in inr (inl same, subst (λ (x : ℕ). Chain edges x w) same (Then v h c))
      go false e rest = on e rest

  still-none : NoCycle rows → (Chain edges s s → ⊥) → (u : ℕ) → Chain edges u u → ⊥
  still-none none shut u c = go (by-or-through u u c)
    where
      go : Chain (waits_of rows) u u ⊎ Through u u → ⊥
      go (inl d) = none u d
      go (inr (inl same, d)) = shut (subst (λ (x : ℕ). Chain edges s x) same d)
      go (inr (inr p, d)) = shut (joined edges s u s d p)

pub wait-acyclic : (rows : List Row) (s : ℕ) (name : Name) (mode : Mode) (duration : Duration) → IsSound rows → waiting_in s rows ≡ None → NoCycle rows → (Closes rows s name mode → ⊥) → NoCycle (with_row_on (row_of s name mode duration true) rows)
wait-acyclic rows s name mode duration sound awake none shut u c =
    let same = same-edges rows s name mode sound awake in
    let now : waits_of (with_row_on (row_of s name mode duration true) rows) ≡ waits_for rows s name mode = (λ i v. waits-are_for rows s name mode duration sound awake v i) in
    still-none rows s name mode none (λ d. shut (subst (λ (f : ℕ → List ℕ). Chain f s s) (sym same) d)) u (subst (λ (f : ℕ → List ℕ). Chain f u u) now c)

-- who has an edge waits
pub starts-waiting : (rows : List Row) (u v : ℕ) → member v (waits_of rows u) ≡ true → (r : Row) × (waiting_in u rows ≡ Some r) × (member v (stopped_by u r.name r.mode rows) ≡ true)
starts-waiting rows u v h = go (waiting_in u rows) refl h
  where
    go : (o : Option Row) → waiting_in u rows ≡ o → member v (of_row u rows o) ≡ true → (r : Row) × (waiting_in u rows ≡ Some r) × (member v (stopped_by u r.name r.mode rows) ≡ true)
    go None e h = absurd (true≢false (sym h))
    go (Some r) e h = (r, e, h)

chain-starts : (rows : List Row) (u v : ℕ) → Chain (waits_of rows) u v → (r : Row) × (waiting_in u rows ≡ Some r)
chain-starts rows u v (Link h) = let k = starts-waiting rows u v h in (k.0, k.1)
chain-starts rows u v (Then m h c) = let k = starts-waiting rows u m h in (k.0, k.1)

chain-kept : (rows out : List Row) → ((u v : ℕ) (y : Row) → waiting_in v out ≡ Some y → member v (waits_of out u) ≡ true → member v (waits_of rows u) ≡ true) → (u v : ℕ) (y : Row) → waiting_in v out ≡ Some y → Chain (waits_of out) u v → Chain (waits_of rows) u v
chain-kept rows out kept u v y w (Link h) = Link (kept u v y w h)
chain-kept rows out kept u v y w (Then m h c) = let k = chain-starts out m v c in Then m (kept u m k.0 k.1 h) (chain-kept rows out kept m v y w c)

pub no_cycle-kept : (rows out : List Row) → ((u v : ℕ) (y : Row) → waiting_in v out ≡ Some y → member v (waits_of out u) ≡ true → member v (waits_of rows u) ≡ true) → NoCycle rows → NoCycle out
no_cycle-kept rows out kept none u c = let k = chain-starts out u u c in none u (chain-kept rows out kept u u k.0 k.1 c)

-- the row x stands ahead of the request of u
abbrev pub Ahead : ℕ → Row → List Row → Type 0
Ahead u x [] = ⊥
Ahead u x (y ∷ ys) = (is_waiter u y ≡ false) × ((y ≡ x) ⊎ Ahead u x ys)

pub record IsStopping (h : Bool) (u : ℕ) (m : Mode) (xs : List Row) (v : ℕ) : Type 0 where
  pub row : Row
  pub stands : In row xs
  pub by : row.session ≡ v
  pub other : nat_eq row.session u ≡ false
  pub against : compatible m row.mode ≡ false
  pub how : (row.waiting ≡ false) ⊎ ((h ≡ false) × Ahead u row xs)

pub of_stopping : (h : Bool) (u : ℕ) (m : Mode) (xs : List Row) (v : ℕ) → member v (stopping h u m xs) ≡ true → IsStopping h u m xs v
of_stopping h u m [] v k = absurd (true≢false (sym k))
of_stopping h u m (x ∷ xs) v k = go (is_waiter u x) refl (stops h u m x) refl k (λ c. of_stopping c u m xs v)
  where
    one : (a b w g : Bool) → ((not a && not b) && not (w && g)) ≡ true → a ≡ false
    one a b w g k = grind arith

    two : (a b w g : Bool) → ((not a && not b) && not (w && g)) ≡ true → b ≡ false
    two a b w g k = grind arith

    free : (a b w g : Bool) → ((not a && not b) && not (w && g)) ≡ true → (w ≡ false) ⊎ (g ≡ false)
    free a b false g k = inl refl
    free a b true false k = inr refl
    free a b true true k = absurd (true≢false (sym k ∙ last (not a && not b)))
      where
        last : (c : Bool) → (c && false) ≡ false
        last c = grind arith

    behind : IsStopping true u m xs v → IsStopping h u m (x ∷ xs) v
    behind r = record { row = r.row; stands = inr r.stands; by = r.by; other = r.other; against = r.against; how = held r.how }
      where
        held : (r.row.waiting ≡ false) ⊎ ((true ≡ false) × Ahead u r.row xs) → (r.row.waiting ≡ false) ⊎ ((h ≡ false) × Ahead u r.row (x ∷ xs))
        held (inl w) = inl w
        held (inr (e, a)) = absurd (true≢false e)

    later : is_waiter u x ≡ false → IsStopping h u m xs v → IsStopping h u m (x ∷ xs) v
    later n r = record { row = r.row; stands = inr r.stands; by = r.by; other = r.other; against = r.against; how = more r.how }
      where
        more : (r.row.waiting ≡ false) ⊎ ((h ≡ false) × Ahead u r.row xs) → (r.row.waiting ≡ false) ⊎ ((h ≡ false) × Ahead u r.row (x ∷ xs))
        more (inl w) = inl w
        more (inr (e, a)) = inr (e, (n, inr a))

    here : is_waiter u x ≡ false → stops h u m x ≡ true → (nat_eq v x.session ≡ true) ⊎ (member v (stopping h u m xs) ≡ true) → (member v (stopping h u m xs) ≡ true → IsStopping h u m xs v) → IsStopping h u m (x ∷ xs) v
    here n t (inr j) rest = later n (rest j)
    here n t (inl e) rest = record { row = x; stands = inl refl; by = sym (numbers-same v x.session e); other = one (nat_eq x.session u) (compatible m x.mode) x.waiting h t; against = two (nat_eq x.session u) (compatible m x.mode) x.waiting h t; how = how (free (nat_eq x.session u) (compatible m x.mode) x.waiting h t) }
      where
        how : (x.waiting ≡ false) ⊎ (h ≡ false) → (x.waiting ≡ false) ⊎ ((h ≡ false) × Ahead u x (x ∷ xs))
        how (inl w) = inl w
        how (inr e) = inr (e, (n, inl refl))

    go : (a : Bool) → is_waiter u x ≡ a → (b : Bool) → stops h u m x ≡ b → member v (if a then stopping true u m xs else (if b then x.session ∷ stopping h u m xs else stopping h u m xs)) ≡ true
        → ((c : Bool) → member v (stopping c u m xs) ≡ true → IsStopping c u m xs v) → IsStopping h u m (x ∷ xs) v
    go true n b t k rest = behind (rest true k)
    go false n true t k rest = here n t (or-cases (nat_eq v x.session) (member v (stopping h u m xs)) k) (rest h)
    go false n false t k rest = later n (rest h k)

-- a row that stops, held or ahead
pub to_stopping : (h : Bool) (u : ℕ) (m : Mode) (xs : List Row) (x : Row) → In x xs → nat_eq x.session u ≡ false → compatible m x.mode ≡ false → (x.waiting ≡ false) ⊎ ((h ≡ false) × Ahead u x xs) → member x.session (stopping h u m xs) ≡ true
to_stopping h u m [] x i o a how = absurd i
to_stopping h u m (y ∷ ys) x i o a how = go (is_waiter u y) refl (stops h u m y) refl i how (λ c. to_stopping c u m ys x)
  where
    not_own : is_waiter u x ≡ true → ⊥
    not_own w = true≢false (sym (second_of_both x.waiting (nat_eq x.session u) w) ∙ o)

    four : (b c w g : Bool) → b ≡ false → c ≡ false → (w ≡ false) ⊎ (g ≡ false) → ((not b && not c) && not (w && g)) ≡ true
    four b c w g e f (inl k) = grind arith
    four b c w g e f (inr k) = grind arith

    drops : (x.waiting ≡ false) ⊎ ((h ≡ false) × Ahead u x (y ∷ ys)) → (x.waiting ≡ false) ⊎ (h ≡ false)
    drops (inl w) = inl w
    drops (inr e) = inr e.0

    stopped : y ≡ x → stops h u m y ≡ true
    stopped e = subst (λ (z : Row). stops h u m z ≡ true) (sym e) (four (nat_eq x.session u) (compatible m x.mode) x.waiting h o a (drops how))

    behind : is_waiter u y ≡ true → (x.waiting ≡ false) ⊎ ((h ≡ false) × Ahead u x (y ∷ ys)) → (x.waiting ≡ false) ⊎ ((true ≡ false) × Ahead u x ys)
    behind n (inl w) = inl w
    behind n (inr (e, a)) = absurd (true≢false (sym n ∙ a.0))

    later : In x ys → (x.waiting ≡ false) ⊎ ((h ≡ false) × Ahead u x (y ∷ ys)) → ((x.waiting ≡ false) ⊎ ((h ≡ false) × Ahead u x ys)) ⊎ (y ≡ x)
    later j (inl w) = inl (inl w)
    later j (inr (e, (n, inl same))) = inr same
    later j (inr (e, (n, inr k))) = inl (inr (e, k))

    go : (b : Bool) → is_waiter u y ≡ b → (c : Bool) → stops h u m y ≡ c → (y ≡ x) ⊎ In x ys → (x.waiting ≡ false) ⊎ ((h ≡ false) × Ahead u x (y ∷ ys))
        → ((d : Bool) → In x ys → nat_eq x.session u ≡ false → compatible m x.mode ≡ false → (x.waiting ≡ false) ⊎ ((d ≡ false) × Ahead u x ys) → member x.session (stopping d u m ys) ≡ true)
        → member x.session (if b then stopping true u m ys else (if c then y.session ∷ stopping h u m ys else stopping h u m ys)) ≡ true
    go true n c t (inl e) how rest = absurd (not_own (subst (λ (z : Row). is_waiter u z ≡ true) e n))
    go true n c t (inr j) how rest = rest true j o a (behind n how)
    go false n true t (inl e) how rest = or-left (nat_eq x.session y.session) (member x.session (stopping h u m ys)) (numbers-tell x.session y.session (ap (λ (z : Row). z.session) (sym e)))
    go false n false t (inl e) how rest = absurd (true≢false (sym (stopped e) ∙ t))
    go false n true t (inr j) how rest = at (later j how)
      where
        at : ((x.waiting ≡ false) ⊎ ((h ≡ false) × Ahead u x ys)) ⊎ (y ≡ x) → (nat_eq x.session y.session || member x.session (stopping h u m ys)) ≡ true
        at (inl k) = or-right (nat_eq x.session y.session) (member x.session (stopping h u m ys)) (rest h j o a k)
        at (inr e) = or-left (nat_eq x.session y.session) (member x.session (stopping h u m ys)) (numbers-tell x.session y.session (ap (λ (z : Row). z.session) (sym e)))
    go false n false t (inr j) how rest = at (later j how)
      where
        at : ((x.waiting ≡ false) ⊎ ((h ≡ false) × Ahead u x ys)) ⊎ (y ≡ x) → member x.session (stopping h u m ys) ≡ true
        at (inl k) = rest h j o a k
        at (inr e) = absurd (true≢false (sym (stopped e) ∙ t))

-- ahead of the only waiting row of u is before it
pub ahead-before : (u : ℕ) (x r : Row) (xs : List Row) → nat_eq x.session u ≡ false → is_waiter u r ≡ true → In r xs → Ahead u x xs → Before x r xs
ahead-before u x r [] o w i a = absurd i
ahead-before u x r (y ∷ ys) o w i a = go i (λ j k. ahead-before u x r ys o w j k) a
  where
    go : (y ≡ r) ⊎ In r ys → (In r ys → Ahead u x ys → Before x r ys) → Ahead u x (y ∷ ys) → Before x r (y ∷ ys)
    go (inl e) rest (n, k) = absurd (true≢false (sym (subst (λ (z : Row). is_waiter u z ≡ true) (sym e) w) ∙ n))
    go (inr j) rest (n, inl e) = inl (e, j)
    go (inr j) rest (n, inr k) = inr (rest j k)

pub before-ahead : (u : ℕ) (x r : Row) (xs : List Row) → WaitOnce xs → is_waiter u r ≡ true → Before x r xs → Ahead u x xs
before-ahead u x r [] once w b = absurd b
before-ahead u x r (y ∷ ys) once w b = (never (is_waiter u y) refl, go b (λ k. before-ahead u x r ys (λ p q c. once p q (inr c)) w k))
  where
    later : ((y ≡ x) × In r ys) ⊎ Before x r ys → In r ys
    later (inl h) = h.1
    later (inr k) = (before-in x r ys k).1

    never : (c : Bool) → is_waiter u y ≡ c → c ≡ false
    never false e = refl
    never true e = let p = waiter-is u y e in let q = waiter-is u r w in absurd (once y r (inl (refl, later b)) p.0 q.0 (p.1 ∙ sym q.1))

    go : ((y ≡ x) × In r ys) ⊎ Before x r ys → (Before x r ys → Ahead u x ys) → (y ≡ x) ⊎ Ahead u x ys
    go (inl h) rest = inl h.0
    go (inr k) rest = inr (rest k)

waiters-same : (xs ys : List Row) (r : Row) → waiters (with_lock (granted r) xs ++ ys) ≡ waiters (xs ++ ys)
waiters-same xs ys r = waiters-append (with_lock (granted r) xs) ys ∙ ap (λ (zs : List Row). zs ++ waiters ys) (waiters-with_lock (granted r) xs refl) ∙ sym (waiters-append xs ys)

in-more : (x r : Row) (xs ys : List Row) → In x (xs ++ ys) → In x (xs ++ r ∷ ys)
in-more x r xs ys i = go (in-split x xs ys i)
  where
    go : In x xs ⊎ In x ys → In x (xs ++ r ∷ ys)
    go (inl j) = in-left x xs (r ∷ ys) j
    go (inr j) = in-right x xs (r ∷ ys) (inr j)

before-more : (x y r : Row) (xs ys : List Row) → Before x y (xs ++ ys) → Before x y (xs ++ r ∷ ys)
before-more x y r [] ys b = inr b
before-more x y r (z ∷ xs) ys (inl h) = inl (h.0, in-more y r xs ys h.1)
before-more x y r (z ∷ xs) ys (inr h) = inr (before-more x y r xs ys h)

-- what holds while waiting rows are dropped or granted
steps-keep : (P : List Row → Type 0) → ((xs ys : List Row) (r : Row) → r.waiting ≡ true → P (xs ++ r ∷ ys) → P (xs ++ ys)) → ((xs ys : List Row) (r : Row) → r.waiting ≡ true → P (xs ++ r ∷ ys) → P (with_lock (granted r) xs ++ ys))
    → (before rest : List Row) → P (before ++ rest) → P (retried before rest)
steps-keep P drops grants before [] h = subst P (append-nil before) h
steps-keep P drops grants before (r ∷ rest) h = go r.waiting refl (is_blocked before rest r.session r.mode) (is_short r) (λ b k. steps-keep P drops grants b rest k)
  where
    go : (w : Bool) → r.waiting ≡ w → (s t : Bool) → ((b : List Row) → P (b ++ rest) → P (retried b rest)) → P (if not w || s then retried (before ++ r ∷ []) rest else (if t then retried before rest else retried (with_lock (granted r) before) rest))
    go false w s t next = next (before ++ r ∷ []) (subst P (sym (append_assoc before (r ∷ []) rest)) h)
    go true w true t next = next (before ++ r ∷ []) (subst P (sym (append_assoc before (r ∷ []) rest)) h)
    go true w false true next = next before (drops before rest r w h)
    go true w false false next = next (with_lock (granted r) before) (grants before rest r w h)

-- the order of rows that wait once all were tried
order-kept : (x y : Row) → x.waiting ≡ true → y.waiting ≡ true → (before rest : List Row) → Before x y (retried before rest) → Before x y (before ++ rest)
order-kept x y v w before rest b = steps-keep (λ zs. Before x y zs → Before x y (before ++ rest)) (λ xs ys r k old c. old (before-more x y r xs ys c)) grants before rest (λ c. c) b
  where
    grants : (xs ys : List Row) (r : Row) → r.waiting ≡ true → (Before x y (xs ++ r ∷ ys) → Before x y (before ++ rest)) → Before x y (with_lock (granted r) xs ++ ys) → Before x y (before ++ rest)
    grants xs ys r k old c =
        old (before-more x y r xs ys (before-filtered (λ z. z.waiting) x y (xs ++ ys) (subst (λ (zs : List Row). Before x y zs) (waiters-same xs ys r) (before-kept (λ z. z.waiting) x y (with_lock (granted r) xs ++ ys) c v w))))

-- what one holds is not lost
pub holds-with : (u : ℕ) (lock : Row) (xs : List Row) → holds_in u xs ≡ true → holds_in u (with_lock lock xs) ≡ true
holds-with u lock [] h = absurd (true≢false (sym h))
holds-with u lock (x ∷ xs) h = go (is_lock_of lock.session lock.duration x) (holds-with u lock xs)
  where
    first : (a b c : Bool) → (b ≡ true → c ≡ true) → (a || b) ≡ true → (a || c) ≡ true
    first true b c f h = refl
    first false b c f h = f h

    go : (b : Bool) → (holds_in u xs ≡ true → holds_in u (with_lock lock xs) ≡ true) → holds_in u (if b then raised lock.mode x ∷ xs else x ∷ with_lock lock xs) ≡ true
    go true rest = h
    go false rest = first (is_held_by u x) (holds_in u xs) (holds_in u (with_lock lock xs)) rest h

holds-two : (u : ℕ) (xs ys : List Row) → holds_in u (xs ++ ys) ≡ (holds_in u xs || holds_in u ys)
holds-two u xs ys = any-append (is_held_by u) xs ys

holds-retried : (u : ℕ) (before rest : List Row) → holds_in u (before ++ rest) ≡ true → holds_in u (retried before rest) ≡ true
holds-retried u = steps-keep (λ zs. holds_in u zs ≡ true) drops (λ xs ys r w h. grants xs ys r (drops xs ys r w h))
  where
    skip : (a b w c : Bool) → w ≡ true → (a || ((not w && b) || c)) ≡ true → (a || c) ≡ true
    skip a b w c e h = grind arith

    drops : (xs ys : List Row) (r : Row) → r.waiting ≡ true → holds_in u (xs ++ r ∷ ys) ≡ true → holds_in u (xs ++ ys) ≡ true
    drops xs ys r w h = holds-two u xs ys ∙ skip (holds_in u xs) (nat_eq r.session u) r.waiting (holds_in u ys) w (sym (holds-two u xs (r ∷ ys)) ∙ h)

    wider : (a b c : Bool) → (a ≡ true → b ≡ true) → (a || c) ≡ true → (b || c) ≡ true
    wider true b c f h = rw (f refl) refl
    wider false true c f h = refl
    wider false false c f h = h

    grants : (xs ys : List Row) (r : Row) → holds_in u (xs ++ ys) ≡ true → holds_in u (with_lock (granted r) xs ++ ys) ≡ true
    grants xs ys r h = holds-two u (with_lock (granted r) xs) ys ∙ wider (holds_in u xs) (holds_in u (with_lock (granted r) xs)) (holds_in u ys) (holds-with u (granted r) xs) (sym (holds-two u xs ys) ∙ h)

-- a session whose requests all wait on holds only what it held
held-old : (v : ℕ) (x : Row) → x.waiting ≡ false → x.session ≡ v → (before rest : List Row) → WaitOnce (before ++ rest) → ((r : Row) → In r (before ++ rest) → r.waiting ≡ true → r.session ≡ v → In r (retried before rest)) → In x (retried before rest) → In x (before ++ rest)
held-old v x h e before [] once quiet i = subst (In x) (sym (append-nil before)) i
held-old v x h e before (r ∷ rest) once quiet i = go r.waiting refl (is_blocked before rest r.session r.mode) (is_short r) quiet i (λ b. held-old v x h e b rest)
  where
    own : (a : Row) → Made (granted r) before a → a.session ≡ r.session
    own a (New f) = ap (λ (z : Row). z.session) (sym f)
    own a (Raised y j w s f) = ap (λ (z : Row). z.session) (sym f) ∙ s

    assoc : (before ++ r ∷ []) ++ rest ≡ before ++ r ∷ rest
    assoc = append_assoc before (r ∷ []) rest

    twice : (y : Row) → r.waiting ≡ true → y ≡ r → In y (before ++ rest) → ⊥
    twice y w same j = two (in-split r before rest (subst (λ (z : Row). In z (before ++ rest)) same j))
      where
        two : In r before ⊎ In r rest → ⊥
        two (inl k) = once r r (before-middle r r before rest k) w w refl
        two (inr k) = once r r (tail before) w w refl
          where
            tail : (bs : List Row) → Before r r (bs ++ r ∷ rest)
            tail [] = inl (refl, k)
            tail (b ∷ bs) = inr (tail bs)

    -- the row that is granted is another session's
    other : r.waiting ≡ true → ((y : Row) → In y (before ++ r ∷ rest) → y.waiting ≡ true → y.session ≡ v → In y (retried (with_lock (granted r) before) rest)) → r.session ≡ v → ⊥
    other w all same =
        let j = all r (in-right r before (r ∷ rest) (inl refl)) w same in
        twice r w refl (waits-same (with_lock (granted r) before ++ rest) (before ++ rest) r (waiters-same before rest r) (waits-retried r w (with_lock (granted r) before) rest j) w)

    go : (w : Bool) → r.waiting ≡ w → (b t : Bool)
        → ((y : Row) → In y (before ++ r ∷ rest) → y.waiting ≡ true → y.session ≡ v → In y (if not w || b then retried (before ++ r ∷ []) rest else (if t then retried before rest else retried (with_lock (granted r) before) rest)))
        → In x (if not w || b then retried (before ++ r ∷ []) rest else (if t then retried before rest else retried (with_lock (granted r) before) rest))
        → ((bs : List Row) → WaitOnce (bs ++ rest) → ((y : Row) → In y (bs ++ rest) → y.waiting ≡ true → y.session ≡ v → In y (retried bs rest)) → In x (retried bs rest) → In x (bs ++ rest)) → In x (before ++ r ∷ rest)
    go false w b t all i next = subst (In x) assoc (next (before ++ r ∷ []) (subst WaitOnce (sym assoc) once) (λ y j. all y (subst (In y) assoc j)) i)
    go true w true t all i next = subst (In x) assoc (next (before ++ r ∷ []) (subst WaitOnce (sym assoc) once) (λ y j. all y (subst (In y) assoc j)) i)
    go true w false true all i next = in-more x r before rest (next before (once-without before rest r once) (λ y j. all y (in-more y r before rest j)) i)
    go true w false false all i next =
        let k = next (with_lock (granted r) before) (once-locked before rest r once) (λ y j u. all y (in-more y r before rest (waits-same (with_lock (granted r) before ++ rest) (before ++ rest) y (waiters-same before rest r) j u)) u) i in
        at (in-split x (with_lock (granted r) before) rest k)
      where
        made : In x before ⊎ Made (granted r) before x → In x (before ++ r ∷ rest)
        made (inl j) = in-left x before (r ∷ rest) j
        made (inr m) = absurd (other w all (sym (own x m) ∙ e))

        at : In x (with_lock (granted r) before) ⊎ In x rest → In x (before ++ r ∷ rest)
        at (inl j) = made (in-with_lock (granted r) before x j)
        at (inr j) = in-right x before (r ∷ rest) (inr j)

-- an edge between sessions that wait on stood before
module _ (scope : Scope) (s : ℕ) (rows : List Row) (sound : IsSound rows) (awake : (x : Row) → In x rows → goes scope s x ≡ false → x.waiting ≡ true → x.session ≢ s) (own : (x : Row) → goes scope s x ≡ true → x.session ≡ s) where
  abbrev out : List Row
  out = released scope s rows

  abbrev left : Name → List Row
  left n = filter (λ x. not (goes scope s x)) (rows_on n rows)

  now : IsSound out
  now = release-sound scope s rows sound

  out-on : (n : Name) → rows_on n out ≡ retried [] (left n)
  out-on n = released-on scope s n rows

  left-once : (n : Name) → WaitOnce (left n)
  left-once n x y b = once-on n rows sound.once x y (before-filtered (λ z. not (goes scope s z)) x y (rows_on n rows) b)

  -- its requests wait on, so it holds what it held
  quiet : (n : Name) (v : ℕ) (y : Row) → waiting_in v out ≡ Some y → (r : Row) → In r (left n) → r.waiting ≡ true → r.session ≡ v → In r (retried [] (left n))
  quiet n v y w r i k e =
      let f = found-waits v out y w in
      let p = waiter-is v y f.1 in
      let on = in-table n r rows (of_kept (λ z. not (goes scope s z)) r (rows_on n rows) i).0 in
      let same : r ≡ y = one_name rows sound.once r y on.0 (released-waits scope s rows y f.0 p.0) k p.0 (e ∙ sym p.1) in
      let j : In r out = subst (λ (z : Row). In z out) (sym same) f.0 in
      subst (In r) (out-on n) (subst (λ (m : Name). In r (rows_on m out)) (sym on.1) (in-name r out j))

  held-stood : (n : Name) (v : ℕ) (y x : Row) → waiting_in v out ≡ Some y → x.waiting ≡ false → x.session ≡ v → In x (retried [] (left n)) → In x (rows_on n rows)
  held-stood n v y x w h e i = (of_kept (λ z. not (goes scope s z)) x (rows_on n rows) (held-old v x h e [] (left n) (left-once n) (quiet n v y w) i)).0

  not_kept : (b : Bool) → not b ≡ true → b ≡ false
  not_kept b h = grind arith

  -- who waits on loses nothing that it held
  lost-nothing : (n : Name) (u : ℕ) (r : Row) → waiting_in u out ≡ Some r → holds_in u (retried [] (left n)) ≡ false → holds_in u (rows_on n rows) ≡ false
  lost-nothing n u r w none = go (holds_in u (rows_on n rows)) refl
    where
      f : In r out × (is_waiter u r ≡ true)
      f = found-waits u out r w

      p : (r.waiting ≡ true) × (r.session ≡ u)
      p = waiter-is u r f.1

      stays : goes scope s r ≡ false
      stays =
          let j : In r (released_in scope s (rows_on r.name rows)) = subst (In r) (released-on scope s r.name rows) (in-name r out f.0) in
          not_kept (goes scope s r) (of_kept (λ z. not (goes scope s z)) r (rows_on r.name rows) (waits-retried r p.0 [] (left r.name) j)).1

      apart : u ≢ s
      apart e = awake r (released-waits scope s rows r f.0 p.0) stays p.0 (p.1 ∙ e)

      never : (z : Row) → In z (rows_on n rows) → is_held_by u z ≡ true → ⊥
      never z i h = by (goes scope s z) refl
        where
          by : (b : Bool) → goes scope s z ≡ b → ⊥
          by true g = apart (sym (numbers-same z.session u (second_of_both (not z.waiting) (nat_eq z.session u) h)) ∙ own z g)
          by false g =
              true≢false
              (sym (holds-retried u [] (left n) (to_any (is_held_by u) z (left n) (in-kept (λ q. not (goes scope s q)) z (rows_on n rows) i (ap not g)) h)) ∙ none)

      go : (b : Bool) → holds_in u (rows_on n rows) ≡ b → b ≡ false
      go false e = refl
      go true e = let a = of_any (is_held_by u) (rows_on n rows) e in absurd (never a.0 a.1 a.2)

  edge-stood : (u v : ℕ) (y : Row) → waiting_in v out ≡ Some y → member v (waits_of out u) ≡ true → member v (waits_of rows u) ≡ true
  edge-stood u v y w h = subst (λ (o : Option Row). member v (of_row u rows o) ≡ true) (sym was) (subst (λ (x : ℕ). member x (stopped_by u r.name r.mode rows) ≡ true) k.by (to_stopping (holds_in u (rows_on r.name rows)) u r.mode (rows_on r.name rows) k.row (stood k.how) k.other k.against (how k.how)))
    where
      start : (r : Row) × (waiting_in u out ≡ Some r) × (member v (stopped_by u r.name r.mode out) ≡ true)
      start = starts-waiting out u v h

      r : Row
      r = start.0

      f : In r out × (is_waiter u r ≡ true)
      f = found-waits u out r start.1

      p : (r.waiting ≡ true) × (r.session ≡ u)
      p = waiter-is u r f.1

      there : In r rows
      there = released-waits scope s rows r f.0 p.0

      was : waiting_in u rows ≡ Some r
      was = found-one u rows r sound.once there f.1

      k : IsStopping (holds_in u (retried [] (left r.name))) u r.mode (retried [] (left r.name)) v
      k = of_stopping (holds_in u (retried [] (left r.name))) u r.mode (retried [] (left r.name)) v (subst (λ (xs : List Row). member v (stopping (holds_in u xs) u r.mode xs) ≡ true) (out-on r.name) start.2)

      ahead : (k.row.waiting ≡ true) → Ahead u k.row (retried [] (left r.name)) → Before k.row r (rows_on r.name rows)
      ahead w a =
          let i : In r (retried [] (left r.name)) = subst (In r) (out-on r.name) (in-name r out f.0) in
          before-filtered (λ z. not (goes scope s z)) k.row r (rows_on r.name rows) (order-kept k.row r w p.0 [] (left r.name) (ahead-before u k.row r (retried [] (left r.name)) k.other f.1 i a))

      waits : (b : Bool) → k.row.waiting ≡ b → (b ≡ true) ⊎ (b ≡ false)
      waits true e = inl refl
      waits false e = inr refl

      stood : (k.row.waiting ≡ false) ⊎ ((holds_in u (retried [] (left r.name)) ≡ false) × Ahead u k.row (retried [] (left r.name))) → In k.row (rows_on r.name rows)
      stood (inl e) = held-stood r.name v y k.row w e k.by k.stands
      stood (inr (e, a)) = go k.row.waiting refl
        where
          go : (b : Bool) → k.row.waiting ≡ b → In k.row (rows_on r.name rows)
          go true z = (before-in k.row r (rows_on r.name rows) (ahead z a)).0
          go false z = held-stood r.name v y k.row w z k.by k.stands

      how : (k.row.waiting ≡ false) ⊎ ((holds_in u (retried [] (left r.name)) ≡ false) × Ahead u k.row (retried [] (left r.name))) → (k.row.waiting ≡ false) ⊎ ((holds_in u (rows_on r.name rows) ≡ false) × Ahead u k.row (rows_on r.name rows))
      how (inl e) = inl e
      how (inr (e, a)) = go k.row.waiting refl
        where
          go : (b : Bool) → k.row.waiting ≡ b → (k.row.waiting ≡ false) ⊎ ((holds_in u (rows_on r.name rows) ≡ false) × Ahead u k.row (rows_on r.name rows))
          go false z = inl z
          go true z = inr (lost-nothing r.name u r start.1 e, before-ahead u k.row r (rows_on r.name rows) (once-on r.name rows sound.once) f.1 (ahead z a))

  none-made : NoCycle rows → NoCycle out
  none-made none = no_cycle-kept rows out edge-stood none

pub release_all-acyclic : (rows : List Row) (s : ℕ) → IsSound rows → NoCycle rows → NoCycle (released AllRows s rows)
release_all-acyclic rows s sound none = none-made AllRows s rows sound (λ x i g w e. true≢false (sym (numbers-tell x.session s e) ∙ g)) (λ x h. numbers-same x.session s h) none

pub release_short-acyclic : (rows : List Row) (s : ℕ) → IsSound rows → waiting_in s rows ≡ None → NoCycle rows → NoCycle (released ShortLocks s rows)
release_short-acyclic rows s sound awake none =
    none-made ShortLocks s rows sound (λ x i g w e. true≢false (sym (both x.waiting (nat_eq x.session s) w (numbers-tell x.session s e)) ∙ none-waits s rows x awake i)) (λ x h. (is-lock s Rattle.sp_locks.specs.declared.row.Duration.TheVariants.Short x h).1) none
