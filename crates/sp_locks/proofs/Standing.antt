-- Rows of slots: what stands where, and what changes when one slot does.
use Rattle.std.proofs.Common.{◌≡◌, ◌≢◌, ℕ, ◌<◌, zero, suc, Bool, true, false, not, if◌then◌else◌, List, [], ◌∷◌, ◌++◌, length, get_or, set, Option, None, Some, refl, sym, ap, ◌∙◌, subst, append-nil, append_assoc, true≢false, arith}
use Rattle.std.specs.Map.{lookup}
use Rattle.sp_locks.specs.declared.row.Name.{Name}
use Rattle.sp_locks.specs.declared.row.Scope.{Scope}
use Rattle.sp_locks.specs.declared.row.Row.{Row}
use Rattle.sp_locks.specs.Rows.{same_name, released_in, with_row}
use Rattle.sp_locks.specs.Table.{is_on, rows_on, replaced, with_row_on, AreOn}
use Rattle.sp_locks.specs.Slots.{starts, Leads, worked, IsForgotten, IsPlaced, rows_of, AreSlots, IsAt, Stands, ArePlaces, made}
use Rattle.sp_locks.proofs.Names.{same_is, same-refl, same-sym, on-all, on-none, filter-append, others, others-all}
use Rattle.std.specs.List.{AllZip}
use Rattle.std.specs.Prelude.{drop, ◌+◌}
use Rattle.std.proofs.lemmas.List.{drop_more}
use Rattle.sp_locks.proofs.Groups.{on-with_row, some-with_row}
use Rattle.sp_locks.proofs.Giving.{replaced-free}
use Rattle.sp_locks.proofs.OnNames.{replaced-on, replaced-off}
use Rattle.sp_locks.proofs.Releasing.{on-released}

-- parts of a list that is empty
pub none-first : {A : Type 0} (xs ys : List A) → xs ++ ys ≡ [] → xs ≡ []
none-first [] ys h = refl
none-first (x ∷ xs) ys h = absurd (let k : x ∷ xs ++ ys ≡ [] = h in cc)

pub none-second : {A : Type 0} (xs ys : List A) → xs ++ ys ≡ [] → ys ≡ []
none-second [] ys h = h
none-second (x ∷ xs) ys h = absurd (let k : x ∷ xs ++ ys ≡ [] = h in cc)

pub on-first : (n : Name) (xs ys : List Row) → rows_on n (xs ++ ys) ≡ [] → rows_on n xs ≡ []
on-first n xs ys h = none-first (rows_on n xs) (rows_on n ys) (sym (filter-append (is_on n) xs ys) ∙ h)

pub on-second : (n : Name) (xs ys : List Row) → rows_on n (xs ++ ys) ≡ [] → rows_on n ys ≡ []
on-second n xs ys h = none-second (rows_on n xs) (rows_on n ys) (sym (filter-append (is_on n) xs ys) ∙ h)

-- the first of rows on a name
pub starts-some : (n : Name) (xs : List Row) → starts n xs ≡ true → rows_on n xs ≢ []
starts-some n [] h e = true≢false (sym h)
starts-some n (x ∷ xs) h e = let k : x ∷ rows_on n xs ≡ [] = (rw h at e) in cc

pub starts-not : (n : Name) (xs : List Row) → rows_on n xs ≡ [] → starts n xs ≡ false
starts-not n [] e = refl
starts-not n (x ∷ xs) e = go (same_name n x.name) refl e
  where
    go : (b : Bool) → same_name n x.name ≡ b → (if b then x ∷ rows_on n xs else rows_on n xs) ≡ [] → same_name n x.name ≡ false
    go true h e = absurd (let k : x ∷ rows_on n xs ≡ [] = e in cc)
    go false h e = h

pub starts-is : (m n : Name) (xs : List Row) → AreOn n xs → starts m xs ≡ true → m ≡ n
starts-is m n [] on h = absurd (true≢false (sym h))
starts-is m n (x ∷ xs) on h = same_is m x.name h ∙ sym (same_is n x.name on.0)

pub starts-on : (n : Name) (xs : List Row) → AreOn n xs → xs ≢ [] → starts n xs ≡ true
starts-on n [] on some = absurd (some refl)
starts-on n (x ∷ xs) on some = on.0

-- rows on one name lead
pub on-leads : (n : Name) (xs rest : List Row) → AreOn n xs → rows_on n rest ≡ [] → Leads xs rest
on-leads n xs rest on none m h = let e : n ≡ m = sym (starts-is m n xs on h) in
    (subst (λ (k : Name). AreOn k xs) e on, subst (λ (k : Name). rows_on k rest ≡ []) e none)

-- rows that lead are not on a name of the rest
pub leads-off : (n : Name) (xs rest : List Row) → Leads xs rest → rows_on n rest ≢ [] → rows_on n xs ≡ []
leads-off n [] rest leads some = refl
leads-off n (x ∷ xs) rest leads some = go (same_name n x.name) refl
  where
    go : (b : Bool) → same_name n x.name ≡ b → rows_on n (x ∷ xs) ≡ []
    go true h = absurd (some (leads n h).1)
    go false h = on-none n x.name (x ∷ xs) h (leads x.name (same-refl x.name)).0

pub others-none-on : (n : Name) (xs : List Row) → rows_on n xs ≡ [] → others n xs ≡ xs
others-none-on n [] h = refl
others-none-on n (x ∷ xs) h = go (is_on n x) h (others-none-on n xs)
  where
    go : (b : Bool) → (if b then x ∷ rows_on n xs else rows_on n xs) ≡ [] → (rows_on n xs ≡ [] → others n xs ≡ xs) → (if not b then x ∷ others n xs else others n xs) ≡ x ∷ xs
    go true h rest = absurd (let k : x ∷ rows_on n xs ≡ [] = h in cc)
    go false h rest = ap (λ (ys : List Row). x ∷ ys) (rest h)

-- rows are replaced where they lead, or behind others
pub replaced-leading : (n : Name) (new xs ys : List Row) → starts n xs ≡ true → AreOn n xs → rows_on n ys ≡ [] → replaced n new (xs ++ ys) ≡ new ++ ys
replaced-leading n new [] ys h on none = absurd (true≢false (sym h))
replaced-leading n new (x ∷ xs) ys h on none = rw (h, filter-append (λ y. not (is_on n y)) xs ys, others-all n xs on.1, others-none-on n ys none) refl

pub replaced-behind : (n : Name) (new xs ys : List Row) → rows_on n xs ≡ [] → replaced n new (xs ++ ys) ≡ xs ++ replaced n new ys
replaced-behind n new [] ys none = refl
replaced-behind n new (x ∷ xs) ys none = go (is_on n x) refl none (replaced-behind n new xs ys)
  where
    go : (b : Bool) → is_on n x ≡ b → (if b then x ∷ rows_on n xs else rows_on n xs) ≡ [] → (rows_on n xs ≡ [] → replaced n new (xs ++ ys) ≡ xs ++ replaced n new ys)
        → (if b then new ++ others n (xs ++ ys) else x ∷ replaced n new (xs ++ ys)) ≡ x ∷ xs ++ replaced n new ys
    go true h none rest = absurd (let k : x ∷ rows_on n xs ≡ [] = none in cc)
    go false h none rest = ap (λ (zs : List Row). x ∷ zs) (rest none)

module _ {V : Type 0} (items : V → List Row) where
  pub at-some : (n : Name) (i : ℕ) (vs : List V) → IsAt items n i vs → rows_on n (rows_of items vs) ≢ []
  at-some n i [] at e = at
  at-some n zero (v ∷ vs) at e = starts-some n (items v) at (on-first n (items v) (rows_of items vs) e)
  at-some n (suc i) (v ∷ vs) at e = at-some n i vs at (on-second n (items v) (rows_of items vs) e)

  pub at-below : (n : Name) (i : ℕ) (vs : List V) → IsAt items n i vs → i < length vs
  at-below n i [] at = absurd at
  at-below n zero (v ∷ vs) at = omega arith
  at-below n (suc i) (v ∷ vs) at = let h = at-below n i vs at in omega (arith, h)

  -- the rows of the slot are those on its name
  pub at-rows : (n : Name) (i : ℕ) (vs : List V) (d : V) → AreSlots items vs → IsAt items n i vs → rows_on n (rows_of items vs) ≡ items (get_or vs i d)
  at-rows n i [] d slots at = absurd at
  at-rows n zero (v ∷ vs) d slots at = let l = slots.0 n at in
      filter-append (is_on n) (items v) (rows_of items vs) ∙ rw (on-all n (items v) l.0, l.1) (append-nil (items v))
  at-rows n (suc i) (v ∷ vs) d slots at =
      filter-append (is_on n) (items v) (rows_of items vs) ∙ rw (leads-off n (items v) (rows_of items vs) slots.0 (at-some n i vs at)) (at-rows n i vs d slots.1 at)

  pub at-on : (n : Name) (i : ℕ) (vs : List V) (d : V) → AreSlots items vs → IsAt items n i vs → AreOn n (items (get_or vs i d))
  at-on n i [] d slots at = absurd at
  at-on n zero (v ∷ vs) d slots at = (slots.0 n at).0
  at-on n (suc i) (v ∷ vs) d slots at = at-on n i vs d slots.1 at

  -- a slot's rows are replaced
  pub set-rows : (n : Name) (i : ℕ) (vs : List V) (w : V) → AreSlots items vs → IsAt items n i vs → rows_of items (set vs i w) ≡ replaced n (items w) (rows_of items vs)
  set-rows n i [] w slots at = absurd at
  set-rows n zero (v ∷ vs) w slots at = let l = slots.0 n at in sym (replaced-leading n (items w) (items v) (rows_of items vs) at l.0 l.1)
  set-rows n (suc i) (v ∷ vs) w slots at =
      ap (λ (zs : List Row). items v ++ zs) (set-rows n i vs w slots.1 at) ∙ sym (replaced-behind n (items w) (items v) (rows_of items vs) (leads-off n (items v) (rows_of items vs) slots.0 (at-some n i vs at)))

  pub set-off : (m n : Name) (i : ℕ) (vs : List V) (w : V) → AreSlots items vs → IsAt items n i vs → AreOn n (items w) → same_name m n ≡ false → rows_on m (rows_of items (set vs i w)) ≡ rows_on m (rows_of items vs)
  set-off m n i vs w slots at on differ = ap (rows_on m) (set-rows n i vs w slots at) ∙ replaced-off m n (items w) (rows_of items vs) differ on

  -- a name that has no rows differs from one that has
  pub none-apart : (m n : Name) (i : ℕ) (vs : List V) → IsAt items n i vs → rows_on m (rows_of items vs) ≡ [] → same_name m n ≡ false
  none-apart m n i vs at none = go (same_name m n) refl
    where
      go : (b : Bool) → same_name m n ≡ b → same_name m n ≡ false
      go true h = absurd (at-some n i vs at (subst (λ (k : Name). rows_on k (rows_of items vs) ≡ []) (same_is m n h) none))
      go false h = h

  pub set-slots : (n : Name) (i : ℕ) (vs : List V) (w : V) → AreSlots items vs → IsAt items n i vs → AreOn n (items w) → AreSlots items (set vs i w)
  set-slots n i [] w slots at on = absurd at
  set-slots n zero (v ∷ vs) w slots at on = (on-leads n (items w) (rows_of items vs) on (slots.0 n at).1, slots.1)
  set-slots n (suc i) (v ∷ vs) w slots at on =
      ((λ m h. let l = slots.0 m h in (l.0, set-off m n i vs w slots.1 at on (none-apart m n i vs at l.1) ∙ l.1)), set-slots n i vs w slots.1 at on)

  -- other names stay where they are
  pub set-apart : (m n : Name) (j i : ℕ) (vs : List V) (w : V) → IsAt items n i vs → IsAt items m j vs → same_name m n ≡ false → AreSlots items vs → IsAt items m j (set vs i w)
  set-apart m n j i [] w at is differ slots = absurd at
  set-apart m n zero zero (v ∷ vs) w at is differ slots = absurd (true≢false (sym (same-refl n) ∙ subst (λ (k : Name). same_name k n ≡ false) (starts-is m n (items v) (slots.0 n at).0 is) differ))
  set-apart m n zero (suc i) (v ∷ vs) w at is differ slots = is
  set-apart m n (suc j) zero (v ∷ vs) w at is differ slots = is
  set-apart m n (suc j) (suc i) (v ∷ vs) w at is differ slots = set-apart m n j i vs w at is differ slots.1

  pub set-here : (n : Name) (i : ℕ) (vs : List V) (w : V) → IsAt items n i vs → starts n (items w) ≡ true → IsAt items n i (set vs i w)
  set-here n i [] w at h = at
  set-here n zero (v ∷ vs) w at h = h
  set-here n (suc i) (v ∷ vs) w at h = set-here n i vs w at h

  pub stands-apart : (m n : Name) (o : Option ℕ) (i : ℕ) (vs : List V) (w : V) → AreSlots items vs → IsAt items n i vs → AreOn n (items w) → same_name m n ≡ false → Stands items m o vs → Stands items m o (set vs i w)
  stands-apart m n None i vs w slots at on differ is = set-off m n i vs w slots at on differ ∙ is
  stands-apart m n (Some j) i vs w slots at on differ is = set-apart m n j i vs w at is differ slots

  -- the places stay where a slot keeps rows of its name
  pub set-places : (n : Name) (i : ℕ) (vs : List V) (w : V) (places : List (Name × ℕ)) → AreSlots items vs → lookup (same_name n) places ≡ Some i → ArePlaces items places vs → AreOn n (items w) → items w ≢ [] → ArePlaces items places (set vs i w)
  set-places n i vs w places slots found are on some m = go (same_name m n) refl
    where
      at : IsAt items n i vs
      at = subst (λ (o : Option ℕ). Stands items n o vs) found (are n)

      here : Stands items n (lookup (same_name n) places) (set vs i w)
      here = subst (λ (o : Option ℕ). Stands items n o (set vs i w)) (sym found) (set-here n i vs w at (starts-on n (items w) on some))

      go : (b : Bool) → same_name m n ≡ b → Stands items m (lookup (same_name m) places) (set vs i w)
      go true h = subst (λ (k : Name). Stands items k (lookup (same_name k) places) (set vs i w)) (sym (same_is m n h)) here
      go false h = stands-apart m n (lookup (same_name m) places) i vs w slots at on h (are m)

  -- and are without the name where none are left
  pub set-forgotten : (n : Name) (i : ℕ) (vs : List V) (w : V) (old new : List (Name × ℕ)) → AreSlots items vs → lookup (same_name n) old ≡ Some i → ArePlaces items old vs → items w ≡ [] → IsForgotten n old new → ArePlaces items new (set vs i w)
  set-forgotten n i vs w old new slots found are none forgotten m = subst (λ (o : Option ℕ). Stands items m o (set vs i w)) (sym (forgotten m)) (go (same_name n m) refl)
    where
      at : IsAt items n i vs
      at = subst (λ (o : Option ℕ). Stands items n o vs) found (are n)

      on : AreOn n (items w)
      on = subst (AreOn n) (sym none) tt

      here : rows_on n (rows_of items (set vs i w)) ≡ []
      here = ap (rows_on n) (set-rows n i vs w slots at) ∙ replaced-on n (items w) (rows_of items vs) on ∙ none

      go : (b : Bool) → same_name n m ≡ b → Stands items m (if b then None else lookup (same_name m) old) (set vs i w)
      go true h = subst (λ (k : Name). rows_on k (rows_of items (set vs i w)) ≡ []) (same_is n m h) here
      go false h = stands-apart m n (lookup (same_name m) old) i vs w slots at on (same-sym m n ∙ h) (are m)

  -- a slot at the end
  pub rows-append : (vs ws : List V) → rows_of items (vs ++ ws) ≡ rows_of items vs ++ rows_of items ws
  rows-append [] ws = refl
  rows-append (v ∷ vs) ws = ap (λ (zs : List Row). items v ++ zs) (rows-append vs ws) ∙ sym (append_assoc (items v) (rows_of items vs) (rows_of items ws))

  pub rows-push : (vs : List V) (w : V) → rows_of items (vs ++ w ∷ []) ≡ rows_of items vs ++ items w
  rows-push vs w = rows-append vs (w ∷ []) ∙ ap (λ (zs : List Row). rows_of items vs ++ zs) (append-nil (items w))

  pub push-off : (m n : Name) (vs : List V) (w : V) → AreOn n (items w) → same_name m n ≡ false → rows_on m (rows_of items (vs ++ w ∷ [])) ≡ rows_on m (rows_of items vs)
  push-off m n vs w on differ = ap (rows_on m) (rows-push vs w) ∙ filter-append (is_on m) (rows_of items vs) (items w) ∙ rw (on-none m n (items w) differ on) (append-nil (rows_on m (rows_of items vs)))

  pub push-slots : (n : Name) (vs : List V) (w : V) → AreSlots items vs → rows_on n (rows_of items vs) ≡ [] → AreOn n (items w) → AreSlots items (vs ++ w ∷ [])
  push-slots n [] w slots none on = (on-leads n (items w) [] on refl, tt)
  push-slots n (v ∷ vs) w slots none on =
      ((λ m h. let l = slots.0 m h in (l.0, push-off m n vs w on (differ m h) ∙ l.1)), push-slots n vs w slots.1 (on-second n (items v) (rows_of items vs) none) on)
    where
      differ : (m : Name) → starts m (items v) ≡ true → same_name m n ≡ false
      differ m h = go (same_name m n) refl
        where
          go : (b : Bool) → same_name m n ≡ b → same_name m n ≡ false
          go true e = absurd (starts-some n (items v) (subst (λ (k : Name). starts k (items v) ≡ true) (same_is m n e) h) (on-first n (items v) (rows_of items vs) none))
          go false e = e

  push-apart : (m : Name) (j : ℕ) (vs : List V) (w : V) → IsAt items m j vs → IsAt items m j (vs ++ w ∷ [])
  push-apart m j [] w at = absurd at
  push-apart m zero (v ∷ vs) w at = at
  push-apart m (suc j) (v ∷ vs) w at = push-apart m j vs w at

  push-here : (n : Name) (vs : List V) (w : V) → starts n (items w) ≡ true → IsAt items n (length vs) (vs ++ w ∷ [])
  push-here n [] w h = h
  push-here n (v ∷ vs) w h = push-here n vs w h

  pub push-places : (n : Name) (i : ℕ) (vs : List V) (w : V) (old new : List (Name × ℕ)) → ArePlaces items old vs → AreOn n (items w) → items w ≢ [] → i ≡ length vs → IsPlaced n i old new → ArePlaces items new (vs ++ w ∷ [])
  push-places n i vs w old new are on some is placed m = subst (λ (o : Option ℕ). Stands items m o (vs ++ w ∷ [])) (sym (placed m)) (go (same_name n m) refl)
    where
      other : (o : Option ℕ) → same_name m n ≡ false → Stands items m o vs → Stands items m o (vs ++ w ∷ [])
      other None differ none = push-off m n vs w on differ ∙ none
      other (Some j) differ at = push-apart m j vs w at

      go : (b : Bool) → same_name n m ≡ b → Stands items m (if b then Some i else lookup (same_name m) old) (vs ++ w ∷ [])
      go true h = subst (λ (k : ℕ). IsAt items m k (vs ++ w ∷ [])) (sym is) (push-here m vs w (subst (λ (k : Name). starts k (items w) ≡ true) (same_is n m h) (starts-on n (items w) on some)))
      go false h = other (lookup (same_name m) old) (same-sym m n ∙ h) (are m)

  -- a release on a name
  worked-off : (scope : Scope) (s : ℕ) (n : Name) (rest : List Name) (xs : List Row) → rows_on n xs ≡ [] → worked scope s rest xs ≡ worked scope s (n ∷ rest) xs
  worked-off scope s n rest xs none = rw (starts-not n xs none) refl

  pub made-off : (scope : Scope) (s : ℕ) (n : Name) (rest : List Name) (vs : List V) → rows_on n (rows_of items vs) ≡ [] → made items scope s rest vs ≡ made items scope s (n ∷ rest) vs
  made-off scope s n rest [] none = refl
  made-off scope s n rest (v ∷ vs) none =
      ap (λ (zs : List Row). zs ++ made items scope s rest vs) (worked-off scope s n rest (items v) (on-first n (items v) (rows_of items vs) none))
      ∙ ap (λ (zs : List Row). worked scope s (n ∷ rest) (items v) ++ zs) (made-off scope s n rest vs (on-second n (items v) (rows_of items vs) none))

  pub made-at : (scope : Scope) (s : ℕ) (n : Name) (rest : List Name) (i : ℕ) (vs : List V) (w d : V) → AreSlots items vs → IsAt items n i vs → items w ≡ released_in scope s (items (get_or vs i d))
      → made items scope s rest (set vs i w) ≡ made items scope s (n ∷ rest) vs
  made-at scope s n rest i [] w d slots at is = absurd at
  made-at scope s n rest zero (v ∷ vs) w d slots at is =
      ap (λ (zs : List Row). worked scope s rest zs ++ made items scope s rest vs) is
      ∙ ap (λ (zs : List Row). worked scope s rest (released_in scope s (items v)) ++ zs) (made-off scope s n rest vs (slots.0 n at).1)
      ∙ sym (rw at refl)
  made-at scope s n rest (suc i) (v ∷ vs) w d slots at is =
      ap (λ (zs : List Row). zs ++ made items scope s rest (set vs i w)) (worked-off scope s n rest (items v) (leads-off n (items v) (rows_of items vs) slots.0 (at-some n i vs at)))
      ∙ ap (λ (zs : List Row). worked scope s (n ∷ rest) (items v) ++ zs) (made-at scope s n rest i vs w d slots.1 at is)

  -- what a place tells
  pub place-at : (n : Name) (i : ℕ) (vs : List V) (places : List (Name × ℕ)) → ArePlaces items places vs → lookup (same_name n) places ≡ Some i → IsAt items n i vs
  place-at n i vs places are found = subst (λ (o : Option ℕ). Stands items n o vs) found (are n)

  pub place-none : (n : Name) (vs : List V) (places : List (Name × ℕ)) → ArePlaces items places vs → lookup (same_name n) places ≡ None → rows_on n (rows_of items vs) ≡ []
  place-none n vs places are none = subst (λ (o : Option ℕ). Stands items n o vs) none (are n)

  -- a release on one name, with its place
  module _ (scope : Scope) (s : ℕ) (n : Name) (i : ℕ) (vs : List V) (w d : V) (places : List (Name × ℕ)) (slots : AreSlots items vs) (are : ArePlaces items places vs) (found : lookup (same_name n) places ≡ Some i) (is : items w ≡ released_in scope s (items (get_or vs i d))) where
    release-on : AreOn n (items w)
    release-on = subst (AreOn n) (sym is) (on-released scope s n (items (get_or vs i d)) (at-on n i vs d slots (place-at n i vs places are found)))

    pub release-slots : AreSlots items (set vs i w)
    release-slots = set-slots n i vs w slots (place-at n i vs places are found) release-on

    pub release-kept : items w ≢ [] → ArePlaces items places (set vs i w)
    release-kept some = set-places n i vs w places slots found are release-on some

    pub release-rows : (rest : List Name) → made items scope s rest (set vs i w) ≡ made items scope s (n ∷ rest) vs
    release-rows rest = made-at scope s n rest i vs w d slots (place-at n i vs places are found) is

  -- the slot at the place of a name has the rows on it
  pub there : (n : Name) (i : ℕ) (vs : List V) (d : V) (places : List (Name × ℕ)) (rows : List Row) → AreSlots items vs → ArePlaces items places vs → lookup (same_name n) places ≡ Some i → d ≡ get_or vs i d → rows_of items vs ≡ rows → rows_on n rows ≡ items d
  there n i vs d places rows slots are found is view = ap (rows_on n) (sym view) ∙ at-rows n i vs d slots (place-at n i vs places are found) ∙ ap items (sym is)

  -- a row comes to a slot
  module _ (r : Row) (ok : Bool) (i : ℕ) (vs : List V) (w d : V) (places : List (Name × ℕ)) (slots : AreSlots items vs) (are : ArePlaces items places vs) (found : lookup (same_name r.name) places ≡ Some i)
      (is : items w ≡ (if ok then with_row r (items (get_or vs i d)) else items (get_or vs i d))) where
    slot-at : IsAt items r.name i vs
    slot-at = place-at r.name i vs places are found

    added-on : AreOn r.name (items w)
    added-on = subst (AreOn r.name) (sym is) (go ok)
      where
        go : (b : Bool) → AreOn r.name (if b then with_row r (items (get_or vs i d)) else items (get_or vs i d))
        go true = on-with_row r.name r (items (get_or vs i d)) (same-refl r.name) (at-on r.name i vs d slots slot-at)
        go false = at-on r.name i vs d slots slot-at

    added-some : items w ≢ []
    added-some e = go ok (sym is ∙ e)
      where
        go : (b : Bool) → (if b then with_row r (items (get_or vs i d)) else items (get_or vs i d)) ≡ [] → ⊥
        go true e = some-with_row r (items (get_or vs i d)) e
        go false e = at-some r.name i vs slot-at (at-rows r.name i vs d slots slot-at ∙ e)

    pub added-slots : AreSlots items (set vs i w)
    added-slots = set-slots r.name i vs w slots slot-at added-on

    pub added-places : ArePlaces items places (set vs i w)
    added-places = set-places r.name i vs w places slots found are added-on added-some

    pub added-slot-rows : rows_of items (set vs i w) ≡ (if ok then with_row_on r (rows_of items vs) else rows_of items vs)
    added-slot-rows = go ok is
      where
        same : (k : ℕ) (us : List V) → items w ≡ items (get_or us k d) → rows_of items (set us k w) ≡ rows_of items us
        same k [] e = refl
        same zero (u ∷ us) e = ap (λ (zs : List Row). zs ++ rows_of items us) e
        same (suc k) (u ∷ us) e = ap (λ (zs : List Row). items u ++ zs) (same k us e)

        go : (b : Bool) → items w ≡ (if b then with_row r (items (get_or vs i d)) else items (get_or vs i d)) → rows_of items (set vs i w) ≡ (if b then with_row_on r (rows_of items vs) else rows_of items vs)
        go true e = set-rows r.name i vs w slots slot-at ∙ ap (λ (zs : List Row). replaced r.name zs (rows_of items vs)) (e ∙ ap (with_row r) (sym (at-rows r.name i vs d slots slot-at)))
        go false e = same i vs e

  -- a row comes on a name that has none
  module _ (r : Row) (vs : List V) (w : V) (none : rows_on r.name (rows_of items vs) ≡ []) (is : items w ≡ with_row r []) where
    pub new-on : AreOn r.name (items w)
    new-on = subst (AreOn r.name) (sym is) (on-with_row r.name r [] (same-refl r.name) tt)

    pub new-some : items w ≢ []
    new-some e = some-with_row r [] (sym is ∙ e)

    pub new-slot-rows : rows_of items (vs ++ w ∷ []) ≡ with_row_on r (rows_of items vs)
    new-slot-rows = rows-push vs w ∙ ap (λ (zs : List Row). rows_of items vs ++ zs) is ∙ sym (replaced-free r.name (with_row r []) (rows_of items vs) none) ∙ ap (λ (zs : List Row). replaced r.name (with_row r zs) (rows_of items vs)) (sym none)

  -- all rows of a slot go
  pub cleared-rows : (n : Name) (i : ℕ) (vs : List V) (w : V) → AreSlots items vs → IsAt items n i vs → items w ≡ [] → rows_of items (set vs i w) ≡ replaced n [] (rows_of items vs)
  cleared-rows n i vs w slots at none = set-rows n i vs w slots at ∙ ap (λ (zs : List Row). replaced n zs (rows_of items vs)) none

  pub cleared-slots : (n : Name) (i : ℕ) (vs : List V) (w : V) → AreSlots items vs → IsAt items n i vs → items w ≡ [] → AreSlots items (set vs i w)
  cleared-slots n i vs w slots at none = set-slots n i vs w slots at (subst (AreOn n) (sym none) tt)

  -- the rows behind a slot
  pub drop-slots : (vs : List V) (i : ℕ) (d : V) → i < length vs → d ≡ get_or vs i d → rows_of items (drop i vs) ≡ items d ++ rows_of items (drop (i + 1) vs)
  drop-slots vs i d h is = ap (rows_of items) (drop_more vs i d h) ∙ ap (λ (v : V). items v ++ rows_of items (drop (i + 1) vs)) (sym is)

  -- slots with the same rows
  module _ (D : V → V → Type 0) (rows : (v w : V) → D v w → items v ≡ items w) where
    pub cloned-rows : (vs ws : List V) → AllZip D vs ws → rows_of items ws ≡ rows_of items vs
    cloned-rows [] [] h = refl
    cloned-rows [] (w ∷ ws) h = absurd h
    cloned-rows (v ∷ vs) [] h = absurd h
    cloned-rows (v ∷ vs) (w ∷ ws) h = ap (λ (zs : List Row). zs ++ rows_of items ws) (sym (rows v w h.0)) ∙ ap (λ (zs : List Row). items v ++ zs) (cloned-rows vs ws h.1)

    pub cloned-slots : (vs ws : List V) → AllZip D vs ws → AreSlots items vs → AreSlots items ws
    cloned-slots [] [] h slots = tt
    cloned-slots [] (w ∷ ws) h slots = absurd h
    cloned-slots (v ∷ vs) [] h slots = absurd h
    cloned-slots (v ∷ vs) (w ∷ ws) h slots = (subst (λ (zs : List Row). Leads zs (rows_of items ws)) (rows v w h.0) (subst (Leads (items v)) (sym (cloned-rows vs ws h.1)) slots.0), cloned-slots vs ws h.1 slots.1)

    cloned-at : (n : Name) (i : ℕ) (vs ws : List V) → AllZip D vs ws → IsAt items n i vs → IsAt items n i ws
    cloned-at n i [] [] h at = at
    cloned-at n i [] (w ∷ ws) h at = absurd h
    cloned-at n i (v ∷ vs) [] h at = absurd h
    cloned-at n zero (v ∷ vs) (w ∷ ws) h at = subst (λ (zs : List Row). starts n zs ≡ true) (rows v w h.0) at
    cloned-at n (suc i) (v ∷ vs) (w ∷ ws) h at = cloned-at n i vs ws h.1 at

    pub cloned-places : (vs ws : List V) (old new : List (Name × ℕ)) → AllZip D vs ws → old ≡ new → ArePlaces items old vs → ArePlaces items new ws
    cloned-places vs ws old new h same are n = subst (λ (es : List (Name × ℕ)). Stands items n (lookup (same_name n) es) ws) same (go (lookup (same_name n) old) (are n))
      where
        go : (o : Option ℕ) → Stands items n o vs → Stands items n o ws
        go None k = ap (rows_on n) (cloned-rows vs ws h) ∙ k
        go (Some i) k = cloned-at n i vs ws h k
