-- The locks that an insertion hands out on new granules, among the rows.
use Rattle.std.proofs.Common.{◌≡◌, ◌≢◌, ◌⊎◌, ℕ, ◌<◌, ◌≤◌, Bool, true, false, cond, ◌||◌, List, [], ◌∷◌, ◌++◌, map, filter, refl, sym, ap, ◌∙◌, subst, inl, inr, true≢false, arith}
use Rattle.std.specs.List.{flat_map, list_any}
use Rattle.sp_rect.specs.declared.operation.Op.{Op}
use Rattle.sp_rect.specs.Plane.{Rectangle}
use Rattle.sp_locks.specs.declared.mode.Mode.{Mode}
use Rattle.sp_locks.specs.declared.row.Name.{Name}
use Rattle.sp_locks.specs.declared.row.Name.TheVariants.{Granule as OnGranule, Object}
use Rattle.sp_locks.specs.declared.row.Row.{Row}
use Rattle.sp_locks.specs.declared.row.Duration.{Duration}
use Rattle.sp_locks.specs.declared.row.Duration.TheVariants.{Commit}
use Rattle.sp_locks.specs.declared.needs.Need.{Need}
use Rattle.sp_locks.specs.Modes.{compatible}
use Rattle.sp_locks.specs.Rows.{is_held_by, same_name}
use Rattle.sp_locks.specs.Table.{is_on, rows_on, row_of, lock_for, given, AreFree}
use Rattle.sp_locks.specs.Soundness.{In, IsSound}
use Rattle.sp_locks.proofs.Keeping.{in-name}
use Rattle.sp_locks.proofs.Names.{same_is}
use Rattle.sp_node.specs.declared.node.Entry.{Entry}
use Rattle.sp_node.specs.Among.{Among}
use Rattle.sp_node.proofs.Among.{among_left, among_split, among_flat_map, from_flat_map}
use Rattle.sp_granule.specs.Granules.{Granule}
use Rattle.sp_protection.specs.Holding.{Lock, HoldsMode, AllCompatible, AreGifts}
use Rattle.sp_protection.specs.Reshape.{HasNumber}
use Rattle.sp_protection.specs.Needs.{by_kind, Precedes, AreInOrder, AreNeedsOf}
use Rattle.sp_protection.proofs.Leaves.{among_map, from_map}
use Rattle.sp_model.specs.declared.session.Session.{Session}
use Rattle.sp_model.specs.State.{lock_of}
use Rattle.sp_model.specs.Plans.{GiftWant, is_held}
use Rattle.sp_model.specs.Soundness.{NamesUsed, SoundSessions, AwaitsObject}
use Rattle.sp_model.proofs.Sessions.{among-kept, of_kept, one-session}
use Rattle.sp_model.proofs.Holding.{among-in, of_held_by, to_held_by, MeetsRow, met-held, held-stays, given-stays}

-- All locks that transactions hold, for the moment too.
abbrev pub all_locks : List Session → List Row → List Lock
all_locks xs rows = flat_map (λ x. map (lock_of x) (filter (is_held_by x.txn.session) rows)) xs

pub record OfHeld (xs : List Session) (rows : List Row) (lock : Lock) : Type 0 where
  pub owner : Session
  pub among : Among owner xs
  pub row : Row
  pub stands : Among row rows
  pub held : row.waiting ≡ false
  pub by : row.session ≡ owner.txn.session
  pub same : lock_of owner row ≡ lock

of_all : (xs : List Session) (rows : List Row) (lock : Lock) → Among lock (all_locks xs rows) → OfHeld xs rows lock
of_all xs rows lock i =
    let a = from_flat_map (λ (x : Session). map (lock_of x) (filter (is_held_by x.txn.session) rows)) lock xs i in
    let b = from_map (lock_of a.0) lock (filter (is_held_by a.0.txn.session) rows) a.2 in
    let c = of_kept (is_held_by a.0.txn.session) b.0 rows b.1 in
    let d = of_held_by a.0.txn.session b.0 c.1 in
    record { owner = a.0; among = a.1; row = b.0; stands = c.0; held = d.0; by = d.1; same = b.2 }

pub among_all_locks : (xs : List Session) (rows : List Row) (x : Session) (row : Row) → Among x xs → Among row rows → row.waiting ≡ false → row.session ≡ x.txn.session → Among (lock_of x row) (all_locks xs rows)
among_all_locks xs rows x row i j held by =
    among_flat_map (λ (x : Session). map (lock_of x) (filter (is_held_by x.txn.session) rows)) (lock_of x row) x xs i
    (among_map (lock_of x) row (filter (is_held_by x.txn.session) rows) (among-kept (is_held_by x.txn.session) row rows j (to_held_by x.txn.session row held by)))

pub met_mode : (xs : List Session) (rows : List Row) (x : Session) (name : Name) (mode : Mode) → Among x xs → MeetsRow rows x.txn.session name mode → HoldsMode (all_locks xs rows) x.txn.number name mode
met_mode xs rows x name mode i h = record { lock = lock_of x h.row; held = among_all_locks xs rows x h.row i h.stands h.held h.by; by_txn = refl; on_name = h.on; enough = h.enough }

pub all_compatible : (next commits : ℕ) (xs : List Session) (rows : List Row) → SoundSessions next commits xs → IsSound rows → AllCompatible (all_locks xs rows)
all_compatible next commits xs rows sessions sound a b i j other on = go (of_all xs rows a i) (of_all xs rows b j)
  where
    go : OfHeld xs rows a → OfHeld xs rows b → compatible a.mode b.mode ≡ true
    go p q =
        let named : p.row.name ≡ q.row.name = ap (λ (l : Lock). l.name) p.same ∙ on ∙ ap (λ (l : Lock). l.name) (sym q.same) in
        let apart : p.row.session ≢ q.row.session = λ e. other
        (ap (λ (l : Lock). l.txn) (sym p.same)
        ∙ ap (λ (x : Session). x.txn.number) (one-session xs sessions.ascending p.owner q.owner p.among q.among (sym p.by ∙ e ∙ q.by))
        ∙ ap (λ (l : Lock). l.txn) q.same) in
        subst (λ (l : Lock). compatible l.mode b.mode ≡ true) p.same
        (subst (λ (l : Lock). compatible p.row.mode l.mode ≡ true) q.same
        (sound.compatible p.row.name p.row q.row (in-name p.row rows (among-in p.row rows p.stands))
        (subst (λ (n : Name). In q.row (rows_on n rows)) (sym named) (in-name q.row rows (among-in q.row rows q.stands))) p.held q.held apart))

-- Gifts are on granules with new numbers.
pub record OnNew (gs' : List Granule) (next : ℕ) (name : Name) : Type 0 where
  pub granule : Granule
  pub among : Among granule gs'
  pub named : name ≡ OnGranule granule.number
  pub new : next ≤ granule.number

module _ (gs gs' : List Granule) (es : List Entry) (t next : ℕ) (searches : List Rectangle) (gifts : List Need) (are : AreNeedsOf (GiftWant gs gs' es t searches) Commit gifts) (numbers : (g : Granule) → Among g gs' → HasNumber gs g.number ⊎ (next ≤ g.number)) where
  wants_new : (name : Name) (mode : Mode) → GiftWant gs gs' es t searches name mode → OnNew gs' next name
  wants_new name mode (GiftWant.OwnLeaf e g i m j stands none) = record { granule = g; among = j; named = refl; new = go (numbers g j) }
    where
      go : HasNumber gs g.number ⊎ (next ≤ g.number) → next ≤ g.number
      go (inl has) = absurd (none has)
      go (inr n) = n
  wants_new name mode (GiftWant.OwnSearch rect g i j meets none) = record { granule = g; among = j; named = refl; new = go (numbers g j) }
    where
      go : HasNumber gs g.number ⊎ (next ≤ g.number) → next ≤ g.number
      go (inl has) = absurd (none has)
      go (inr n) = n

  pub gift_new : (need : Need) → Among need gifts → OnNew gs' next need.name
  gift_new need i = let w = (are.joined need i).0.some in wants_new need.name w.0 w.1

  -- no row is on their names
  none_on : (name : Name) (rows : List Row) → ((row : Row) → Among row rows → same_name name row.name ≡ false) → rows_on name rows ≡ []
  none_on name [] none = refl
  none_on name (row ∷ rows) none = go (same_name name row.name) (none row (inl refl)) (none_on name rows (λ r i. none r (inr i)))
    where
      go : (b : Bool) → b ≡ false → filter (is_on name) rows ≡ [] → cond b (row ∷ filter (is_on name) rows) (filter (is_on name) rows) ≡ []
      go true h rest = absurd (true≢false h)
      go false h rest = rest

  none_any : (test : Need → Bool) (needs : List Need) → ((n : Need) → Among n needs → test n ≡ false) → list_any test needs ≡ false
  none_any test [] none = refl
  none_any test (n ∷ needs) none = neither (test n) (list_any test needs) (none n (inl refl)) (none_any test needs (λ m i. none m (inr i)))
    where
      neither : (a b : Bool) → a ≡ false → b ≡ false → (a || b) ≡ false
      neither a b h k = grind arith

  off : (a b : Name) → (a ≡ b → ⊥) → same_name a b ≡ false
  off a b apart = go (same_name a b) refl
    where
      go : (c : Bool) → same_name a b ≡ c → c ≡ false
      go true h = absurd (apart (same_is a b h))
      go false h = refl

  number_of : {m n : ℕ} → OnGranule m ≡ OnGranule n → m ≡ n
  number_of e = cc

  -- one that stands before another has another name
  ordered : (a b : Need) → Among a gifts → Among b gifts → Precedes a b → a.name ≡ b.name → ⊥
  ordered a b i j before same = go a.name b.name (gift_new a i).named (gift_new b j).named same
      (subst (λ (d : Duration). by_kind Commit a.name d b.name) (are.joined b j).1 (subst (λ (d : Duration). by_kind d a.name b.duration b.name) (are.joined a i).1 before))
    where
      below : (m n : ℕ) → m < n → m ≡ n → ⊥
      below m n l e = omega arith

      go : (x y : Name) → x ≡ OnGranule (gift_new a i).granule.number → y ≡ OnGranule (gift_new b j).granule.number → x ≡ y → by_kind Commit x Commit y → ⊥
      go (OnGranule m) (OnGranule n) e f s l = below m n l (number_of s)
      go (OnGranule m) (Object n) e f s l = object f
        where
          object : {m n : ℕ} → Object m ≡ OnGranule n → ⊥
          object e = cc
      go (Object m) y e f s l = object e
        where
          object : {m n : ℕ} → Object m ≡ OnGranule n → ⊥
          object e = cc

  pub gifts_free : (rows : List Row) → NamesUsed next rows → AreFree rows gifts
  gifts_free rows used = all gifts (λ n i. i) are.in_order
    where
      unused : (need : Need) → Among need gifts → (row : Row) → Among row rows → same_name need.name row.name ≡ false
      unused need i row j = let n = gift_new need i in off need.name row.name (λ e. low n.granule.number (used row n.granule.number j (sym e ∙ n.named)) n.new)
        where
          low : (m : ℕ) → m < next → next ≤ m → ⊥
          low m a b = omega arith

      all : (needs : List Need) → ((n : Need) → Among n needs → Among n gifts) → AreInOrder needs → AreFree rows needs
      all [] part order = tt
      all (need ∷ needs) part order = (
        none_on need.name rows (unused need (part need (inl refl))),
        none_any (λ other. same_name need.name other.name) needs (λ other j. off need.name other.name (ordered need other (part need (inl refl)) (part other (inr j)) (order.0 other j))),
        all needs (λ n i. part n (inr i)) order.1,
      )

-- gifts as locks of the transaction
abbrev pub gift_locks : ℕ → List Need → List Lock
gift_locks t gifts = map (λ need. record { txn = t; name = need.name; mode = need.mode }) gifts

pub gifts_new : (gs' : List Granule) (t next : ℕ) (gifts : List Need) → ((need : Need) → Among need gifts → OnNew gs' next need.name) → AreGifts next t (gift_locks t gifts)
gifts_new gs' t next gifts new lock i =
    let n = from_map (λ (need : Need). record { txn = t; name = need.name; mode = need.mode }) lock gifts i in
    let w = new n.0 n.1 in
    (ap (λ (l : Lock). l.txn) (sym n.2), (w.granule.number, ap (λ (l : Lock). l.name) (sym n.2) ∙ w.named, w.new))

-- a row after the gifts is an old one, or a gift
pub of_given : (s : ℕ) (rows : List Row) (gifts : List Need) (row : Row) → Among row (rows ++ given s gifts) → Among row rows ⊎ ((need : Need) × Among need gifts × (lock_for s need ≡ row))
of_given s rows gifts row i = go (among_split row rows (given s gifts) i)
  where
    go : Among row rows ⊎ Among row (given s gifts) → Among row rows ⊎ ((need : Need) × Among need gifts × (lock_for s need ≡ row))
    go (inl j) = inl j
    go (inr j) = let n = from_map (lock_for s) row gifts j in inr (n.0, n.1, n.2)

pub given-awaits_object : (s t : ℕ) (rows : List Row) (gifts : List Need) (op : Op) → AwaitsObject rows t op → AwaitsObject (rows ++ given s gifts) t op
given-awaits_object s t rows gifts op h name mode e = go (h name mode e)
  where
    go : (is_held rows t (record { name = name; mode = mode; duration = Commit }) ≡ true) ⊎ Among (row_of t name mode Commit true) rows
        → (is_held (rows ++ given s gifts) t (record { name = name; mode = mode; duration = Commit }) ≡ true) ⊎ Among (row_of t name mode Commit true) (rows ++ given s gifts)
    go (inl m) = inl (held-stays t rows (rows ++ given s gifts) (met-held t rows (rows ++ given s gifts) (given-stays s t gifts rows)) (record { name = name; mode = mode; duration = Commit }) m)
    go (inr i) = inr (among_left (row_of t name mode Commit true) rows (given s gifts) i)
