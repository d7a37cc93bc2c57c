-- The places of names, where the map of them changes and where slots are numbered anew.
use Rattle.std.proofs.Common.{◌≡◌, ◌≢◌, ◌⊎◌, inl, inr, ℕ, ◌+◌, ◌<◌, zero, suc, Bool, true, false, cond, if◌then◌else◌, List, [], ◌∷◌, ◌++◌, length, filter, drop, get_or, slice_get, Option, None, Some, refl, sym, ap, ◌∙◌, subst, arith}
use Rattle.std.specs.Map.{lookup}
use Rattle.std.proofs.lemmas.List.{drop_more}
use Rattle.sp_locks.specs.contracts.row.NamePartialEq.TheImpl.{eq-value}
use Rattle.sp_locks.specs.declared.row.Name.{Name}
use Rattle.sp_locks.specs.declared.row.Row.{Row}
use Rattle.sp_locks.specs.Rows.{same_name}
use Rattle.sp_locks.specs.Table.{is_on, rows_on, has_rows, AreOn}
use Rattle.sp_locks.specs.Slots.{starts, Leads, HasRows, moved, IsMoved, rows_of, AreSlots, IsAt, Stands, AreNames, ArePlaces}
use Rattle.sp_locks.proofs.Names.{same_is, same-refl, same-sym, eq_is, lookup_is, on-none, filter-append}
use Rattle.sp_locks.proofs.Standing.{at-some}

pub lookup-same : (n : Name) (places : List (Name × ℕ)) → lookup (eq-value.it n) places ≡ lookup (same_name n) places
lookup-same n places = lookup_is (λ (k : ℕ). []) n places

pub place-after : (name n : Name) (w : Option ℕ) (old new : List (Name × ℕ)) → lookup (eq-value.it n) new ≡ cond (eq-value.it name n) w (lookup (eq-value.it n) old) → lookup (same_name n) new ≡ (if same_name name n then w else lookup (same_name n) old)
place-after name n w old new h = sym (lookup-same n new) ∙ h ∙ rw (eq_is name n, lookup-same n old) refl

pub move-after : (name n : Name) (i k : ℕ) (old new : List (Name × ℕ)) → Some k ≡ lookup (eq-value.it name) old → lookup (eq-value.it n) new ≡ cond (eq-value.it name n) (Some i) (lookup (eq-value.it n) old)
    → lookup (same_name n) new ≡ (if same_name name n then moved i (lookup (same_name n) old) else lookup (same_name n) old)
move-after name n i k old new found h = place-after name n (Some i) old new h ∙ go (same_name name n) refl
  where
    there : same_name name n ≡ true → Some i ≡ moved i (lookup (same_name n) old)
    there e = ap (moved i) (found ∙ lookup-same name old ∙ ap (λ (m : Name). lookup (same_name m) old) (same_is name n e))

    go : (b : Bool) → same_name name n ≡ b → (if b then Some i else lookup (same_name n) old) ≡ (if b then moved i (lookup (same_name n) old) else lookup (same_name n) old)
    go true e = there e
    go false e = refl

module _ {V : Type 0} (items : V → List Row) where
  -- the name has its place already, or its slot comes
  abbrev pub Settled : Name → Option ℕ → ℕ → List V → Type 0
  Settled n None i vs = rows_on n (rows_of items vs) ≡ []
  Settled n (Some j) i vs = IsAt items n j vs ⊎ (rows_on n (rows_of items (drop i vs)) ≢ [])

  at-index : (n : Name) (i : ℕ) (vs : List V) (d : V) → i < length vs → starts n (items (get_or vs i d)) ≡ true → IsAt items n i vs
  at-index n i [] d h s = omega arith
  at-index n zero (v ∷ vs) d h s = s
  at-index n (suc i) (v ∷ vs) d h s = at-index n i vs d (omega arith) s

  slot-on : (n : Name) (i : ℕ) (vs : List V) (d : V) → AreSlots items vs → starts n (items (get_or vs i d)) ≡ true → i < length vs → AreOn n (items (get_or vs i d))
  slot-on n i [] d slots s h = absurd (omega arith)
  slot-on n zero (v ∷ vs) d slots s h = (slots.0 n s).0
  slot-on n (suc i) (v ∷ vs) d slots s h = slot-on n i vs d slots.1 s (omega arith)

  -- a slot whose rows are not on the name is passed
  pass : (n : Name) (o : Option ℕ) (i : ℕ) (vs : List V) (d : V) → i < length vs → rows_on n (items (get_or vs i d)) ≡ [] → Settled n o i vs → Settled n o (i + 1) vs
  pass n None i vs d h off s = s
  pass n (Some j) i vs d h off (inl s) = inl s
  pass n (Some j) i vs d h off (inr s) = inr (λ e. s (ap (λ (ws : List V). rows_on n (rows_of items ws)) (drop_more vs i d h)
      ∙ filter-append (is_on n) (items (get_or vs i d)) (rows_of items (drop (i + 1) vs)) ∙ rw off e))

  pub settled-empty : (places : List (Name × ℕ)) (vs : List V) (i : ℕ) (d : V) → i < length vs → None ≡ slice_get (items (get_or vs i d)) 0
      → ((n : Name) → Settled n (lookup (same_name n) places) i vs) → (n : Name) → Settled n (lookup (same_name n) places) (i + 1) vs
  settled-empty places vs i d h none all n = pass n (lookup (same_name n) places) i vs d h (ap (rows_on n) (go (items (get_or vs i d)) none)) (all n)
    where
      go : (xs : List Row) → None ≡ slice_get xs 0 → xs ≡ []
      go [] e = refl
      go (x ∷ xs) e = absurd (let k : None ≡ Some x = e in cc)

  pub settled-next : (old new : List (Name × ℕ)) (vs : List V) (i : ℕ) (d : V) (r : Row) → AreSlots items vs → i < length vs → Some r ≡ slice_get (items (get_or vs i d)) 0 → IsMoved r.name i old new
      → ((n : Name) → Settled n (lookup (same_name n) old) i vs) → (n : Name) → Settled n (lookup (same_name n) new) (i + 1) vs
  settled-next old new vs i d r slots h first is all n = subst (λ (o : Option ℕ). Settled n o (i + 1) vs) (sym (is n)) (go (same_name r.name n) refl)
    where
      begins : (xs : List Row) → Some r ≡ slice_get xs 0 → starts r.name xs ≡ true
      begins [] e = absurd (let k : Some r ≡ None = e in cc)
      begins (x ∷ xs) e = let k : r ≡ x = (let l : Some r ≡ Some x = e in cc) in ap (λ (q : Row). same_name r.name q.name) (sym k) ∙ same-refl r.name

      leads : starts r.name (items (get_or vs i d)) ≡ true
      leads = begins (items (get_or vs i d)) first

      own : r.name ≡ n → (o : Option ℕ) → Settled n o i vs → Settled n (moved i o) (i + 1) vs
      own e None s = s
      own e (Some j) s = inl (subst (λ (m : Name). IsAt items m i vs) e (at-index r.name i vs d h leads))

      go : (b : Bool) → same_name r.name n ≡ b → Settled n (if b then moved i (lookup (same_name n) old) else lookup (same_name n) old) (i + 1) vs
      go true e = own (same_is r.name n e) (lookup (same_name n) old) (all n)
      go false e = pass n (lookup (same_name n) old) i vs d h (on-none n r.name (items (get_or vs i d)) (same-sym n r.name ∙ e) (slot-on r.name i vs d slots leads h)) (all n)

  -- without its empty slots a table has the same rows
  abbrev pub full : V → Bool
  full v = has_rows (items v)

  pub full-rows : (vs : List V) → rows_of items (filter full vs) ≡ rows_of items vs
  full-rows [] = refl
  full-rows (v ∷ vs) = go (items v) refl (full-rows vs)
    where
      go : (xs : List Row) → items v ≡ xs → rows_of items (filter full vs) ≡ rows_of items vs → rows_of items (if has_rows xs then v ∷ filter full vs else filter full vs) ≡ items v ++ rows_of items vs
      go [] e rest = rest ∙ ap (λ (zs : List Row). zs ++ rows_of items vs) (sym e)
      go (x ∷ xs) e rest = ap (λ (zs : List Row). items v ++ zs) rest

  pub full-slots : (vs : List V) → AreSlots items vs → AreSlots items (filter full vs)
  full-slots [] slots = tt
  full-slots (v ∷ vs) slots = go (full v) (full-slots vs slots.1)
    where
      go : (b : Bool) → AreSlots items (filter full vs) → AreSlots items (if b then v ∷ filter full vs else filter full vs)
      go true rest = (subst (Leads (items v)) (sym (full-rows vs)) slots.0, rest)
      go false rest = rest

  pub full-names : (places : List (Name × ℕ)) (vs : List V) → ArePlaces items places vs → AreNames items places (filter full vs)
  full-names places vs are n = subst (λ (rows : List Row). HasRows (lookup (same_name n) places) (rows_on n rows)) (sym (full-rows vs)) (go (lookup (same_name n) places) (are n))
    where
      go : (o : Option ℕ) → Stands items n o vs → HasRows o (rows_on n (rows_of items vs))
      go None h = h
      go (Some j) h = at-some items n j vs h
