-- Who dies as one entry changes.
use Rattle.std.proofs.Common.{◌≡◌, ◌≢◌, ℕ, Bool, true, false, not, ◌&&◌, cond, List, [], ◌∷◌, map, filter, nat_eq, refl, sym, ap, ◌∙◌, subst, inl, inr, true≢false}
use Rattle.std.specs.List.{IsDistinct, list_any}
use Rattle.std.proofs.lemmas.Map.Keys.{IsDistinct-tail}
use Rattle.sp_node.specs.declared.node.Entry.{Entry}
use Rattle.sp_node.specs.Among.{Among}
use Rattle.sp_node.specs.Change.{at_number, Keeps}
use Rattle.sp_node.specs.Marks.{is_done}
use Rattle.sp_protection.proofs.Leaves.{among_map}
use Rattle.sp_model.specs.Moves.{with_number, ascending, dead_among, newly_dead}
use Rattle.sp_model.proofs.Sessions.{number-tell, number-apart}
use Rattle.sp_model.proofs.Dead.{distinct-out}
use Rattle.sp_ending.proofs.Rising.{inserted-swap}

abbrev is_dead : Entry → Bool
is_dead e = is_done e.marks.ended

-- the number was not of a dead entry before
abbrev pub is_new : List Entry → ℕ → Bool
is_new before n = not (list_any (nat_eq n) (dead_among before))

newly-cons : (before : List Entry) (y : Entry) (ys : List Entry) → newly_dead before (y ∷ ys) ≡ cond (is_dead y && is_new before y.number) (with_number y.number (newly_dead before ys)) (newly_dead before ys)
newly-cons before y ys = go (is_dead y) (is_new before y.number) refl
  where
    go : (d k : Bool) → is_new before y.number ≡ k
        → ascending (filter (is_new before) (map (λ (e : Entry). e.number) (cond d (y ∷ filter is_dead ys) (filter is_dead ys)))) ≡ cond (d && k) (with_number y.number (newly_dead before ys)) (newly_dead before ys)
    go true k e = ap (λ (b : Bool). ascending (cond b (y.number ∷ filter (is_new before) (dead_among ys)) (filter (is_new before) (dead_among ys)))) e ∙ kept k
      where
        kept : (k : Bool) → ascending (cond k (y.number ∷ filter (is_new before) (dead_among ys)) (filter (is_new before) (dead_among ys))) ≡ cond k (with_number y.number (newly_dead before ys)) (newly_dead before ys)
        kept true = refl
        kept false = refl
    go false k e = refl

module _ (n : ℕ) (change : Entry → Entry) (keeps : Keeps change) (before : List Entry) (new : is_new before n ≡ true) where
  others-same : (ys : List Entry) → ((e : Entry) → Among e ys → e.number ≢ n) → map (at_number n change) ys ≡ ys
  others-same [] none = refl
  others-same (y ∷ ys) none = λ i. at y (none y (inl refl)) i ∷ others-same ys (λ e j. none e (inr j)) i
    where
      at : (y : Entry) → y.number ≢ n → at_number n change y ≡ y
      at y other = ap (λ (b : Bool). cond b (change y) y) (number-apart n y.number (λ s. other (sym s)))

  changed-here : (y : Entry) (ys : List Entry) → y.number ≡ n → is_dead y ≡ false → ((e : Entry) → Among e ys → e.number ≢ n)
      → newly_dead before (map (at_number n change) (y ∷ ys)) ≡ cond (is_dead (change y)) (with_number n (newly_dead before (y ∷ ys))) (newly_dead before (y ∷ ys))
  changed-here y ys named alive none =
      (λ i. newly_dead before (at i ∷ others-same ys none i))
      ∙ newly-cons before (change y) ys
      ∙ ap (λ (m : ℕ). cond (is_dead (change y) && is_new before m) (with_number m (newly_dead before ys)) (newly_dead before ys)) (keeps.number y ∙ named)
      ∙ go (is_dead (change y)) (is_new before n) new
      ∙ ap (λ (ms : List ℕ). cond (is_dead (change y)) (with_number n ms) ms) (sym was)
    where
      at : at_number n change y ≡ change y
      at = ap (λ (b : Bool). cond b (change y) y) (number-tell n y.number (sym named))

      was : newly_dead before (y ∷ ys) ≡ newly_dead before ys
      was = newly-cons before y ys ∙ ap (λ (b : Bool). cond (b && is_new before y.number) (with_number y.number (newly_dead before ys)) (newly_dead before ys)) alive

      go : (d k : Bool) → k ≡ true → cond (d && k) (with_number n (newly_dead before ys)) (newly_dead before ys) ≡ cond d (with_number n (newly_dead before ys)) (newly_dead before ys)
      go true true e = refl
      go true false e = absurd (true≢false (sym e))
      go false k e = refl

  -- an entry that was alive is changed: where it dies by that, its number joins the newly dead
  pub newly-changed : (es : List Entry) (e : Entry) → IsDistinct nat_eq (map (λ x. x.number) es) → Among e es → e.number ≡ n → is_done e.marks.ended ≡ false
      → newly_dead before (map (at_number n change) es) ≡ cond (is_done (change e).marks.ended) (with_number n (newly_dead before es)) (newly_dead before es)
  newly-changed [] e d i named alive = absurd i
  newly-changed (y ∷ ys) e d (inl same) named alive =
      subst (λ (z : Entry). newly_dead before (map (at_number n change) (y ∷ ys)) ≡ cond (is_dead (change z)) (with_number n (newly_dead before (y ∷ ys))) (newly_dead before (y ∷ ys))) (sym same)
      (changed-here y ys (ap (λ (z : Entry). z.number) (sym same) ∙ named) (ap is_dead (sym same) ∙ alive) none)
    where
      none : (x : Entry) → Among x ys → x.number ≢ n
      none x j s = distinct-out y.number (map (λ (z : Entry). z.number) ys) d (subst (λ (m : ℕ). Among m (map (λ (z : Entry). z.number) ys)) (s ∙ sym (ap (λ (z : Entry). z.number) (sym same) ∙ named)) (among_map (λ (z : Entry). z.number) x ys j))
  newly-changed (y ∷ ys) e d (inr i) named alive =
      ap (λ (z : Entry). newly_dead before (z ∷ map (at_number n change) ys)) at
      ∙ newly-cons before y (map (at_number n change) ys)
      ∙ ap (λ (ms : List ℕ). cond (is_dead y && is_new before y.number) (with_number y.number ms) ms) (newly-changed ys e (IsDistinct-tail nat_eq y.number (map (λ (z : Entry). z.number) ys) d) i named alive)
      ∙ go (is_dead y && is_new before y.number) (is_dead (change e))
      ∙ ap (λ (ms : List ℕ). cond (is_dead (change e)) (with_number n ms) ms) (sym (newly-cons before y ys))
    where
      apart : n ≢ y.number
      apart s = distinct-out y.number (map (λ (z : Entry). z.number) ys) d (subst (λ (m : ℕ). Among m (map (λ (z : Entry). z.number) ys)) (named ∙ s) (among_map (λ (z : Entry). z.number) e ys i))

      at : at_number n change y ≡ y
      at = ap (λ (b : Bool). cond b (change y) y) (number-apart n y.number apart)

      go : (b c : Bool) → cond b (with_number y.number (cond c (with_number n (newly_dead before ys)) (newly_dead before ys))) (cond c (with_number n (newly_dead before ys)) (newly_dead before ys))
          ≡ cond c (with_number n (cond b (with_number y.number (newly_dead before ys)) (newly_dead before ys))) (cond b (with_number y.number (newly_dead before ys)) (newly_dead before ys))
      go true true = inserted-swap y.number n (newly_dead before ys)
      go true false = refl
      go false true = refl
      go false false = refl
