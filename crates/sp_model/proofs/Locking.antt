-- What a row that comes makes of rows: a granted lock, and a request that waits.
use Rattle.std.proofs.Common.{◌≡◌, ◌⊎◌, ℕ, Bool, true, false, List, [], ◌∷◌, ◌++◌, refl, sym, ap, ◌∙◌, subst, inl, inr, arith}
use Rattle.sp_rect.specs.declared.operation.Op.{Op}
use Rattle.sp_locks.specs.declared.mode.Mode.{Mode}
use Rattle.sp_locks.specs.declared.row.Name.{Name}
use Rattle.sp_locks.specs.declared.row.Row.{Row}
use Rattle.sp_locks.specs.declared.row.Duration.TheVariants.{Commit}
use Rattle.sp_locks.specs.Modes.{covers}
use Rattle.sp_locks.specs.Rows.{same_name, with_lock, with_row}
use Rattle.sp_locks.specs.Table.{rows_on, row_of, with_row_on}
use Rattle.sp_locks.specs.Soundness.{In}
use Rattle.sp_locks.specs.Changes.{IsCovered}
use Rattle.sp_locks.proofs.Names.{same_is}
use Rattle.sp_locks.proofs.Members.{in-split}
use Rattle.sp_locks.proofs.Compatibility.{Made, New, Raised, in-with_lock}
use Rattle.sp_locks.proofs.Once.{waiters-with_lock, waits-same}
use Rattle.sp_locks.proofs.OnNames.{with_row-on, with_row-off}
use Rattle.sp_locks.proofs.Keeping.{in-name, in-table, waiting-stays}
use Rattle.sp_node.specs.Among.{Among}
use Rattle.sp_model.specs.Plans.{is_held}
use Rattle.sp_model.specs.Soundness.{AwaitsObject}
use Rattle.sp_model.proofs.Holding.{in-among, among-in, StayMet, covered-self, rows-stay, held-stays, met-held}
use Rattle.sp_model.proofs.Released.{ComesOf, Covered, covered-lock, lock-covered}

as_lock : (r : Row) (xs : List Row) → r.waiting ≡ false → with_lock r xs ≡ with_row r xs
as_lock r xs held = sym (rw held refl)

as_last : (r : Row) (xs : List Row) → r.waiting ≡ true → xs ++ r ∷ [] ≡ with_row r xs
as_last r xs w = sym (rw w refl)

-- the rows on the name of a granted lock
on-locked : (r : Row) (rows : List Row) → r.waiting ≡ false → rows_on r.name (with_row_on r rows) ≡ with_lock r (rows_on r.name rows)
on-locked r rows held = with_row-on r rows ∙ sym (as_lock r (rows_on r.name rows) held)

covered-on : (r x : Row) (rows : List Row) → r.waiting ≡ false → x.name ≡ r.name → Covered (with_lock r (rows_on r.name rows)) x → IsCovered (with_row_on r rows) x
covered-on r x rows held on d =
    let n = in-table r.name d.0 (with_row_on r rows) (subst (In d.0) (sym (on-locked r rows held)) d.1) in
    record { row = d.0; stands = n.0; held = d.2; session = d.3; name = sym n.1 ∙ sym on; duration = d.4; covers = d.5 }

-- a granted lock is covered, and takes no lock away
pub locked-there : (r : Row) (rows : List Row) → r.waiting ≡ false → IsCovered (with_row_on r rows) r
locked-there r rows held = covered-on r r rows held refl (lock-covered r (rows_on r.name rows) held)

pub locked-stays : (t : ℕ) (r : Row) (rows : List Row) → r.waiting ≡ false → StayMet t rows (with_row_on r rows)
locked-stays t r rows held x i w e = go (same_name x.name r.name) refl
  where
    itself : (a : Mode) → covers a a ≡ true
    itself a = grind arith

    go : (b : Bool) → same_name x.name r.name ≡ b → IsCovered (with_row_on r rows) x
    go true k =
        covered-on r x rows held (same_is x.name r.name k)
        (covered-lock r (rows_on r.name rows) x (x, subst (λ (n : Name). In x (rows_on n rows)) (same_is x.name r.name k) (in-name x rows (among-in x rows i)), w, refl, refl, itself x.mode))
    go false k = covered-self x (with_row_on r rows) (in-among x (with_row_on r rows) (in-table x.name x (with_row_on r rows) (subst (In x) (sym (with_row-off x.name r rows k)) (in-name x rows (among-in x rows i)))).0) w

-- where the rows come from
pub of_locked : (r : Row) (rows : List Row) → r.waiting ≡ false → (x : Row) → In x (with_row_on r rows) → ComesOf rows x ⊎ ComesOf (r ∷ []) x
of_locked r rows held x i = go (same_name x.name r.name) refl (in-name x (with_row_on r rows) i)
  where
    old : (y : Row) → In y rows → y.session ≡ x.session → y.name ≡ x.name → y.duration ≡ x.duration → y.waiting ≡ x.waiting → ComesOf rows x
    old y j s n d w = record { row = y; stands = j; session = s; name = n; duration = d; how = inl w }

    made : In x (rows_on r.name rows) ⊎ Made r (rows_on r.name rows) x → ComesOf rows x ⊎ ComesOf (r ∷ []) x
    made (inl j) = inl (old x (in-table r.name x rows j).0 refl refl refl refl)
    made (inr (New f)) = inr (record { row = r; stands = inl refl; session = ap (λ (q : Row). q.session) f; name = ap (λ (q : Row). q.name) f; duration = ap (λ (q : Row). q.duration) f; how = inl (ap (λ (q : Row). q.waiting) f) })
    made (inr (Raised y j w s f)) = inl (old y (in-table r.name y rows j).0 (ap (λ (q : Row). q.session) f) (ap (λ (q : Row). q.name) f) (ap (λ (q : Row). q.duration) f) (ap (λ (q : Row). q.waiting) f))

    go : (b : Bool) → same_name x.name r.name ≡ b → In x (rows_on x.name (with_row_on r rows)) → ComesOf rows x ⊎ ComesOf (r ∷ []) x
    go true k j = made (in-with_lock r (rows_on r.name rows) x (subst (In x) (on-locked r rows held) (subst (λ (m : Name). In x (rows_on m (with_row_on r rows))) (same_is x.name r.name k) j)))
    go false k j = inl (old x (in-table x.name x rows (subst (In x) (with_row-off x.name r rows k) j)).0 refl refl refl refl)

pub of_waiting : (r : Row) (rows : List Row) → r.waiting ≡ true → (x : Row) → In x (with_row_on r rows) → In x rows ⊎ (r ≡ x)
of_waiting r rows w x i = go (same_name x.name r.name) refl (in-name x (with_row_on r rows) i)
  where
    last : In x (rows_on r.name rows) ⊎ In x (r ∷ []) → In x rows ⊎ (r ≡ x)
    last (inl j) = inl (in-table r.name x rows j).0
    last (inr (inl e)) = inr e
    last (inr (inr none)) = absurd none

    go : (b : Bool) → same_name x.name r.name ≡ b → In x (rows_on x.name (with_row_on r rows)) → In x rows ⊎ (r ≡ x)
    go true e j =
        last (in-split x (rows_on r.name rows) (r ∷ []) (subst (In x) (with_row-on r rows ∙ sym (as_last r (rows_on r.name rows) w)) (subst (λ (m : Name). In x (rows_on m (with_row_on r rows))) (same_is x.name r.name e) j)))
    go false e j = inl (in-table x.name x rows (subst (In x) (with_row-off x.name r rows e) j)).0

pub waiting-met : (t : ℕ) (r : Row) (rows : List Row) → r.waiting ≡ true → StayMet t rows (with_row_on r rows)
waiting-met t r rows w = rows-stay t rows (with_row_on r rows) (λ x i h. in-among x (with_row_on r rows) (waiting-stays r rows w x (inl (among-in x rows i))))

-- a granted lock leaves what waits
locked-waits : (r : Row) (rows : List Row) → r.waiting ≡ false → (x : Row) → In x rows → x.waiting ≡ true → In x (with_row_on r rows)
locked-waits r rows held x i w = go (same_name x.name r.name) refl
  where
    go : (b : Bool) → same_name x.name r.name ≡ b → In x (with_row_on r rows)
    go true e =
        (in-table r.name x (with_row_on r rows) (subst (In x) (sym (on-locked r rows held))
        (waits-same (rows_on r.name rows) (with_lock r (rows_on r.name rows)) x (sym (waiters-with_lock r (rows_on r.name rows) held)) (subst (λ (m : Name). In x (rows_on m rows)) (same_is x.name r.name e) (in-name x rows i)) w))).0
    go false e = (in-table x.name x (with_row_on r rows) (subst (In x) (sym (with_row-off x.name r rows e)) (in-name x rows i))).0

awaits-more : (t : ℕ) (rows rows' : List Row) (op : Op) → StayMet t rows rows' → ((x : Row) → In x rows → x.waiting ≡ true → In x rows') → AwaitsObject rows t op → AwaitsObject rows' t op
awaits-more t rows rows' op stay more h name mode e = go (h name mode e)
  where
    go : (is_held rows t (record { name = name; mode = mode; duration = Commit }) ≡ true) ⊎ Among (row_of t name mode Commit true) rows → (is_held rows' t (record { name = name; mode = mode; duration = Commit }) ≡ true) ⊎ Among (row_of t name mode Commit true) rows'
    go (inl k) = inl (held-stays t rows rows' (met-held t rows rows' stay) (record { name = name; mode = mode; duration = Commit }) k)
    go (inr i) = inr (in-among (row_of t name mode Commit true) rows' (more (row_of t name mode Commit true) (among-in (row_of t name mode Commit true) rows i) refl))

pub locked-awaits_object : (t : ℕ) (r : Row) (rows : List Row) (op : Op) → r.waiting ≡ false → AwaitsObject rows t op → AwaitsObject (with_row_on r rows) t op
locked-awaits_object t r rows op held = awaits-more t rows (with_row_on r rows) op (locked-stays t r rows held) (locked-waits r rows held)

pub waiting-awaits_object : (t : ℕ) (r : Row) (rows : List Row) (op : Op) → r.waiting ≡ true → AwaitsObject rows t op → AwaitsObject (with_row_on r rows) t op
waiting-awaits_object t r rows op w = awaits-more t rows (with_row_on r rows) op (waiting-met t r rows w) (λ x i v. waiting-stays r rows w x (inl i))
