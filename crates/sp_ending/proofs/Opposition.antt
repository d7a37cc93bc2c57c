-- Who holds a lock against a need.
use Rattle.std.proofs.Common.{◌≡◌, ℕ, zero, suc, ◌+◌, ◌<◌, ◌≤◌, min, Bool, true, false, not, ◌&&◌, List, [], ◌∷◌, ◌++◌, take, drop, length, get_or, drop-cons, Option, Some, None, refl, sym, ap, ◌∙◌, subst, ◌⊎◌, inl, inr, true≢false, arith}
use Rattle.std.proofs.lemmas.Bool.{cases_lt}
use Rattle.std.proofs.lemmas.List.{take_more, take-append-drop}
use Rattle.sp_locks.specs.declared.mode.Mode.{Mode}
use Rattle.sp_locks.specs.declared.row.Name.TheVariants.{Granule}
use Rattle.sp_locks.specs.declared.row.Row.{Row}
use Rattle.sp_locks.specs.declared.needs.Need.{Need}
use Rattle.sp_locks.specs.Modes.{compatible}
use Rattle.sp_locks.specs.Soundness.{In}
use Rattle.sp_locks.specs.Table.{rows_on, held}
use Rattle.sp_locks.specs.Blocking.{is_compatible_with}
use Rattle.sp_locks.proofs.Blocking.{held-against, against-held}
use Rattle.sp_node.specs.Among.{Among}
use Rattle.sp_node.proofs.Among.{among_split}
use Rattle.sp_model.specs.Stepped.{IsAgainst, AreUnopposed, IsPutOff}
use Rattle.sp_ending.specs.declared.opposing.Opposed.{Opposed}
use Rattle.sp_ending.specs.Opposing.{is_against, IsLeastOf, IsLeast, IsOpposed}

in-more : (x : Row) (xs ys : List Row) → In x xs → In x (xs ++ ys)
in-more x [] ys i = absurd i
in-more x (z ∷ zs) ys (inl e) = inl e
in-more x (z ∷ zs) ys (inr i) = inr (in-more x zs ys i)

in-last : (x : Row) (xs : List Row) → In x (xs ++ x ∷ [])
in-last x [] = inl refl
in-last x (z ∷ zs) = inr (in-last x zs)

in-split : (x y : Row) (xs : List Row) → In x (xs ++ y ∷ []) → In x xs ⊎ (y ≡ x)
in-split x y [] (inl e) = inr e
in-split x y [] (inr i) = absurd i
in-split x y (z ∷ zs) (inl e) = inl (inl e)
in-split x y (z ∷ zs) (inr i) = go (in-split x y zs i)
  where
    go : In x zs ⊎ (y ≡ x) → In x (z ∷ zs) ⊎ (y ≡ x)
    go (inl j) = inl (inr j)
    go (inr e) = inr e

-- a row that is not against the mode changes nothing
pub least-same : (mode : Mode) (rows : List Row) (row : Row) (o : Option ℕ) → is_against mode row ≡ false → IsLeast mode rows o → IsLeast mode (rows ++ row ∷ []) o
least-same mode rows row None calm none = λ x i. go x (in-split x row rows i)
  where
    go : (x : Row) → In x rows ⊎ (row ≡ x) → is_against mode x ≡ false
    go x (inl j) = none x j
    go x (inr e) = ap (is_against mode) (sym e) ∙ calm
least-same mode rows row (Some s) calm is = record {
  row = is.row;
  stands = in-more is.row rows (row ∷ []) is.stands;
  against = is.against;
  by = is.by;
  least = λ x i against. go x (in-split x row rows i) against;
}
  where
    go : (x : Row) → In x rows ⊎ (row ≡ x) → is_against mode x ≡ true → s ≤ x.session
    go x (inl j) against = is.least x j against
    go x (inr e) against = absurd (true≢false (sym against ∙ ap (is_against mode) (sym e) ∙ calm))

-- the first that is
pub least-first : (mode : Mode) (rows : List Row) (row : Row) → is_against mode row ≡ true → IsLeast mode rows None → IsLeastOf mode (rows ++ row ∷ []) row.session
least-first mode rows row against none = record {
  row = row;
  stands = in-last row rows;
  against = against;
  by = refl;
  least = λ x i h. go x (in-split x row rows i) h;
}
  where
    go : (x : Row) → In x rows ⊎ (row ≡ x) → is_against mode x ≡ true → row.session ≤ x.session
    go x (inl j) h = absurd (true≢false (sym h ∙ none x j))
    go x (inr e) h = let same = ap (λ (y : Row). y.session) e in omega (arith, same)

-- one more that is
pub least-more : (mode : Mode) (rows : List Row) (row : Row) (s : ℕ) → is_against mode row ≡ true → IsLeastOf mode rows s → IsLeastOf mode (rows ++ row ∷ []) (min s row.session)
least-more mode rows row s against is = elim (cases_lt row.session s) [
  | inl low ↦ subst (IsLeastOf mode (rows ++ row ∷ [])) (let e : row.session ≡ min s row.session = omega (arith, low) in e) (record {
    row = row;
    stands = in-last row rows;
    against = against;
    by = refl;
    least = λ x i h. below low x (in-split x row rows i) h;
  })
  | inr high ↦ subst (IsLeastOf mode (rows ++ row ∷ [])) (let e : s ≡ min s row.session = omega (arith, high) in e) (record {
    row = is.row;
    stands = in-more is.row rows (row ∷ []) is.stands;
    against = is.against;
    by = is.by;
    least = λ x i h. above high x (in-split x row rows i) h;
  })
]
  where
    below : row.session < s → (x : Row) → In x rows ⊎ (row ≡ x) → is_against mode x ≡ true → row.session ≤ x.session
    below low x (inl j) h = let l = is.least x j h in omega (arith, low, l)
    below low x (inr e) h = let same = ap (λ (y : Row). y.session) e in omega (arith, same)

    above : s ≤ row.session → (x : Row) → In x rows ⊎ (row ≡ x) → is_against mode x ≡ true → s ≤ x.session
    above high x (inl j) h = is.least x j h
    above high x (inr e) h = let same = ap (λ (y : Row). y.session) e in omega (arith, same, high)

both : (mode : Mode) (x : Row) → x.waiting ≡ false → compatible mode x.mode ≡ false → is_against mode x ≡ true
both mode x w k = go x.waiting (compatible mode x.mode) w k
  where
    go : (a b : Bool) → a ≡ false → b ≡ false → (not a && not b) ≡ true
    go a b e f = grind arith

apart : (mode : Mode) (x : Row) → is_against mode x ≡ true → (x.waiting ≡ false) × (compatible mode x.mode ≡ false)
apart mode x h = go x.waiting (compatible mode x.mode) h
  where
    go : (a b : Bool) → (not a && not b) ≡ true → (a ≡ false) × (b ≡ false)
    go a b e = (grind arith, grind arith)

-- by the rows on the name of the need
pub nobody : (rows on : List Row) (need : Need) → on ≡ rows_on need.name rows → IsLeast need.mode on None → (s : ℕ) → IsAgainst rows need s → ⊥
nobody rows on need e none s h =
    let x = against-held s need.mode (rows_on need.name rows) h in
    true≢false (sym (both need.mode x.0 x.2 x.4) ∙ none x.0 (subst (In x.0) (sym e) x.1))

pub somebody : (rows on : List Row) (need : Need) (s : ℕ) → on ≡ rows_on need.name rows → IsLeastOf need.mode on s → IsAgainst rows need s
somebody rows on need s e is = let a = apart need.mode is.row is.against in held-against s need.mode is.row (rows_on need.name rows) (subst (In is.row) e is.stands) a.0 is.by a.1

pub opposed-is : (rows on : List Row) (need : Need) (o : Opposed) → on ≡ rows_on need.name rows → IsLeastOf need.mode on o.holder → need.name ≡ Granule o.granule → held o.holder need.name rows ≡ Some o.mode → IsOpposed rows need o
opposed-is rows on need o e is name holds = record {
  on = name;
  against = somebody rows on need o.holder e is;
  least = λ s h. let x = against-held s need.mode (rows_on need.name rows) h in subst (λ (n : ℕ). o.holder ≤ n) x.3 (is.least x.0 (subst (In x.0) (sym e) x.1) (both need.mode x.0 x.2 x.4));
  holds = holds;
}

-- who is against holds something
pub holds-nothing : (rows : List Row) (need : Need) (s : ℕ) → IsAgainst rows need s → held s need.name rows ≡ None → ⊥
holds-nothing rows need s h e = true≢false (sym (ap (is_compatible_with need.mode) e) ∙ h)

pub at-among : {A : Type 0} (xs : List A) (i : ℕ) (d : A) → i < length xs → Among (get_or xs i d) xs
at-among [] i d l = absurd (omega (arith, l))
at-among (x ∷ xs) zero d l = inl refl
at-among (x ∷ xs) (suc i) d l = inr (at-among xs i d (omega (arith, l)))

-- the first need that is opposed
pub first-is : (rows : List Row) (needs : List Need) (i : ℕ) (d : Need) (o : Opposed) → i < length needs → AreUnopposed rows (take i needs) → IsOpposed rows (get_or needs i d) o → IsPutOff rows needs o.granule o.holder o.mode
first-is rows needs i d o l before is = record {
  earlier = take i needs;
  need = get_or needs i d;
  later = drop (suc i) needs;
  stands = sym (take-append-drop i needs) ∙ ap (λ (ns : List Need). take i needs ++ ns) (drop-cons needs i d l);
  first = before;
  on = is.on;
  against = is.against;
  least = is.least;
  holds = is.holds;
}

pub unopposed-more : (rows : List Row) (needs : List Need) (i : ℕ) (d : Need) → i < length needs → AreUnopposed rows (take i needs) → ((s : ℕ) → IsAgainst rows (get_or needs i d) s → ⊥) → AreUnopposed rows (take (i + 1) needs)
unopposed-more rows needs i d l before calm need j s h = go (among_split need (take i needs) (get_or needs i d ∷ []) (subst (Among need) (take_more needs i d l) j))
  where
    go : Among need (take i needs) ⊎ Among need (get_or needs i d ∷ []) → ⊥
    go (inl k) = before need k s h
    go (inr (inl e)) = calm s (subst (λ (n : Need). IsAgainst rows n s) e h)
    go (inr (inr k)) = k
