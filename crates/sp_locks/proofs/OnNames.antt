-- What requests, gifts and releases make of the rows on each name.
use Rattle.std.proofs.Common.{◌≡◌, ℕ, Bool, true, false, not, if◌then◌else◌, List, [], ◌∷◌, ◌++◌, filter, flat_map, refl, sym, ap, ◌∙◌, subst, append-nil}
use Rattle.std.proofs.lemmas.List.Elements.{filter-append}
use Rattle.sp_locks.specs.declared.row.Name.{Name}
use Rattle.sp_locks.specs.declared.row.Scope.{Scope}
use Rattle.sp_locks.specs.declared.row.Row.{Row}
use Rattle.sp_locks.specs.Rows.{same_name, with_row, released_in}
use Rattle.sp_locks.specs.Table.{is_on, rows_on, names_of, replaced, with_row_on, released, AreOn}
use Rattle.sp_locks.proofs.Names.{same_is, same-refl, same-sym, apart, on-all, on-none, others}
use Rattle.sp_locks.proofs.Groups.{on-with_row}
use Rattle.sp_locks.proofs.Releasing.{on-released}

-- the rows on a name are on it
pub rows-on : (n : Name) (rows : List Row) → AreOn n (rows_on n rows)
rows-on n [] = tt
rows-on n (x ∷ xs) = go (is_on n x) refl (rows-on n xs)
  where
    go : (b : Bool) → is_on n x ≡ b → AreOn n (rows_on n xs) → AreOn n (if b then x ∷ rows_on n xs else rows_on n xs)
    go true e rest = (e, rest)
    go false e rest = rest

-- names that differ do not both carry a row
pub on-other : (m n : Name) (x : Row) → same_name m n ≡ false → is_on n x ≡ true → is_on m x ≡ false
on-other m n x differ on = apart m n x.name differ on

others-on : (m n : Name) (rows : List Row) → same_name m n ≡ false → rows_on m (others n rows) ≡ rows_on m rows
others-on m n [] differ = refl
others-on m n (x ∷ xs) differ = go (is_on n x) refl (others-on m n xs differ)
  where
    go : (b : Bool) → is_on n x ≡ b → rows_on m (others n xs) ≡ rows_on m xs → rows_on m (if not b then x ∷ others n xs else others n xs) ≡ rows_on m (x ∷ xs)
    go true e rest = rest ∙ sym (rw (on-other m n x differ e) refl)
    go false e rest = more (is_on m x) rest
      where
        more : (c : Bool) → rows_on m (others n xs) ≡ rows_on m xs → (if c then x ∷ rows_on m (others n xs) else rows_on m (others n xs)) ≡ (if c then x ∷ rows_on m xs else rows_on m xs)
        more true k = ap (λ (zs : List Row). x ∷ zs) k
        more false k = k

none-among : (n : Name) (rows : List Row) → rows_on n (others n rows) ≡ []
none-among n [] = refl
none-among n (x ∷ xs) = go (is_on n x) refl (none-among n xs)
  where
    go : (b : Bool) → is_on n x ≡ b → rows_on n (others n xs) ≡ [] → rows_on n (if not b then x ∷ others n xs else others n xs) ≡ []
    go true e rest = rest
    go false e rest = rw e rest

-- replaced rows stand on their name
pub replaced-on : (n : Name) (new rows : List Row) → AreOn n new → rows_on n (replaced n new rows) ≡ new
replaced-on n new [] on = on-all n new on
replaced-on n new (x ∷ xs) on = go (is_on n x) refl (replaced-on n new xs on)
  where
    go : (b : Bool) → is_on n x ≡ b → rows_on n (replaced n new xs) ≡ new → rows_on n (if b then new ++ others n xs else x ∷ replaced n new xs) ≡ new
    go true e rest = rw (filter-append (is_on n) new (others n xs), on-all n new on, none-among n xs) (append-nil new)
    go false e rest = rw e rest

-- and change nothing on others
pub replaced-off : (m n : Name) (new rows : List Row) → same_name m n ≡ false → AreOn n new → rows_on m (replaced n new rows) ≡ rows_on m rows
replaced-off m n new [] differ on = on-none m n new differ on
replaced-off m n new (x ∷ xs) differ on = go (is_on n x) refl (replaced-off m n new xs differ on)
  where
    go : (b : Bool) → is_on n x ≡ b → rows_on m (replaced n new xs) ≡ rows_on m xs → rows_on m (if b then new ++ others n xs else x ∷ replaced n new xs) ≡ rows_on m (x ∷ xs)
    go true e rest = rw (filter-append (is_on m) new (others n xs), on-none m n new differ on, others-on m n xs differ) (sym (rw (on-other m n x differ e) refl))
    go false e rest = more (is_on m x) rest
      where
        more : (c : Bool) → rows_on m (replaced n new xs) ≡ rows_on m xs → (if c then x ∷ rows_on m (replaced n new xs) else rows_on m (replaced n new xs)) ≡ (if c then x ∷ rows_on m xs else rows_on m xs)
        more true k = ap (λ (zs : List Row). x ∷ zs) k
        more false k = k

-- a row comes to those on its name, and changes nothing on others
pub with_row-on : (r : Row) (rows : List Row) → rows_on r.name (with_row_on r rows) ≡ with_row r (rows_on r.name rows)
with_row-on r rows = replaced-on r.name (with_row r (rows_on r.name rows)) rows (on-with_row r.name r (rows_on r.name rows) (same-refl r.name) (rows-on r.name rows))

pub with_row-off : (m : Name) (r : Row) (rows : List Row) → same_name m r.name ≡ false → rows_on m (with_row_on r rows) ≡ rows_on m rows
with_row-off m r rows differ = replaced-off m r.name (with_row r (rows_on r.name rows)) rows differ (on-with_row r.name r (rows_on r.name rows) (same-refl r.name) (rows-on r.name rows))

-- rows that are made for each of some names
module _ (F : Name → List Row) (on : (n : Name) → AreOn n (F n)) where
  abbrev but : Name → List Name → List Name
  but k ns = filter (λ n. not (same_name k n)) ns

  gone : (m k : Name) (ns : List Name) → same_name k m ≡ true → rows_on m (flat_map F (but k ns)) ≡ []
  gone m k [] same = refl
  gone m k (n ∷ ns) same = go (same_name k n) refl (gone m k ns same)
    where
      go : (b : Bool) → same_name k n ≡ b → rows_on m (flat_map F (but k ns)) ≡ [] → rows_on m (flat_map F (if not b then n ∷ but k ns else but k ns)) ≡ []
      go true e rest = rest
      go false e rest =
          let d : same_name m n ≡ false = subst (λ (x : Name). same_name x n ≡ false) (same_is k m same) e in
          rw (filter-append (is_on m) (F n) (flat_map F (but k ns)), on-none m n (F n) d (on n)) rest

  still : (m k : Name) (ns : List Name) → same_name m k ≡ false → rows_on m (flat_map F (but k ns)) ≡ rows_on m (flat_map F ns)
  still m k [] differ = refl
  still m k (n ∷ ns) differ = go (same_name k n) refl (still m k ns differ)
    where
      go : (b : Bool) → same_name k n ≡ b → rows_on m (flat_map F (but k ns)) ≡ rows_on m (flat_map F ns) → rows_on m (flat_map F (if not b then n ∷ but k ns else but k ns)) ≡ rows_on m (F n ++ flat_map F ns)
      go true e rest =
          let d : same_name m n ≡ false = apart m k n differ e in
          rest ∙ sym (rw (filter-append (is_on m) (F n) (flat_map F ns), on-none m n (F n) d (on n)) refl)
      go false e rest = filter-append (is_on m) (F n) (flat_map F (but k ns)) ∙ ap (λ (zs : List Row). rows_on m (F n) ++ zs) rest ∙ sym (filter-append (is_on m) (F n) (flat_map F ns))

  -- those on a name are those made for it, where it is among the names
  pub made-on : (m : Name) (rows : List Row) → (rows_on m rows ≡ [] → F m ≡ []) → rows_on m (flat_map F (names_of rows)) ≡ F m
  made-on m [] empty = sym (empty refl)
  made-on m (x ∷ xs) empty = go (is_on m x) refl empty (made-on m xs)
    where
      go : (b : Bool) → same_name m x.name ≡ b → ((if b then x ∷ rows_on m xs else rows_on m xs) ≡ [] → F m ≡ []) → ((rows_on m xs ≡ [] → F m ≡ []) → rows_on m (flat_map F (names_of xs)) ≡ F m) → rows_on m (F x.name ++ flat_map F (but x.name (names_of xs))) ≡ F m
      go true e empty rest =
          let n : m ≡ x.name = same_is m x.name e in
          rw (filter-append (is_on m) (F x.name) (flat_map F (but x.name (names_of xs))), gone m x.name (names_of xs) (same-sym x.name m ∙ e))
          (append-nil (rows_on m (F x.name)) ∙ ap (λ (k : Name). rows_on m (F k)) (sym n) ∙ on-all m (F m) (on m))
      go false e empty rest =
          filter-append (is_on m) (F x.name) (flat_map F (but x.name (names_of xs))) ∙ rw (on-none m x.name (F x.name) e (on x.name)) (still m x.name (names_of xs) e) ∙ rest empty

-- a release does the same on each name
pub released-on : (scope : Scope) (s : ℕ) (m : Name) (rows : List Row) → rows_on m (released scope s rows) ≡ released_in scope s (rows_on m rows)
released-on scope s m rows =
    made-on (λ n. released_in scope s (rows_on n rows)) (λ n. on-released scope s n (rows_on n rows) (rows-on n rows)) m rows (λ (e : rows_on m rows ≡ []). ap (released_in scope s) e)
