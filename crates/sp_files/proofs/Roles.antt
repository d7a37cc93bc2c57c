-- Two files by their roles and by their names.
use Rattle.std.proofs.Common.{◌≡◌, inl, inr, ◌+◌, ◌<◌, ◌≤◌, ◌^◌, ℕ, Bool, true, false, not, if◌then◌else◌, List, refl, sym, ◌∙◌, ap, subst, arith}
use Rattle.std.proofs.lemmas.Bool.{cases_lt}
use Rattle.sp_journal.specs.Looking.{OnlyReads}
use Rattle.sp_journal.specs.Recovery.{Holds}
use Rattle.sp_pair.specs.Compacting.{next_generation, compacted, first_of, second_of, IsAtRest, HoldAsBefore, Keeps, IsCompacted}
use Rattle.sp_pair.specs.Pairs.{IsChosen, RecoversPair}
use Rattle.sp_pair.specs.Settling.{IsSettled}
use Rattle.sp_files.specs.Compacting.{Renews, StaysSame}

-- two files hold what they hold
held_still : (b : Bool) (c o : List ℕ) → HoldAsBefore b c o c o
held_still b c o = record { records = λ found is. (found, is, refl); damage = λ at is. is }

-- While the current file is only read and the other one written, whatever a stop leaves of the two since they were
-- settled holds the same.
module _ (b : Bool) (c o c' : List ℕ) (mid now mid' now' first first' : ℕ) (oldc newc oldo newo : ℕ → List ℕ → Type 0) where
  stop_by_roles : OnlyReads mid now c c' oldc newc → ((file : List ℕ) → oldc mid file → file ≡ c) → oldc mid c
      → ((k : ℕ) (file : List ℕ) → first ≤ k → k ≤ mid → oldc k file → file ≡ c) → ((j : ℕ) (file : List ℕ) → first' ≤ j → j ≤ mid' → oldo j file → file ≡ o)
      → Keeps b c o mid now mid' now' oldc newc oldo newo
      → (k j : ℕ) (file file' : List ℕ) → first ≤ k → k ≤ now → first' ≤ j → j ≤ now' → newc k file → newo j file' → HoldAsBefore b c o file file'
  stop_by_roles looks rest stands at_rest at_rest' keeps k j file file' low high low' high' left left' =
      let is : file ≡ c = elim (cases_lt k mid) [ inl less ↦ at_rest k file low (omega (arith, less)) ((looks.stop.past k file (omega (arith, less))).0 left) | inr more ↦ rest file (looks.stop.each k file more high left) ] in
      let stays : newc mid c = (looks.stop.past mid c (omega arith)).1 stands in
      elim (cases_lt mid' j) [
        | inl later ↦ subst (λ f. HoldAsBefore b c o f file') (sym is) (keeps.each mid j c file' (omega arith) looks.stop.later (omega (arith, later)) high' stays left')
        | inr early ↦ let is' : file' ≡ o = at_rest' j file' low' early ((keeps.other_past j file' early).0 left') in
            subst (λ f. HoldAsBefore b c o f file') (sym is) (subst (λ f. HoldAsBefore b c o c f) (sym is') (held_still b c o))
      ]

-- the same of equal files
hold_along : (main main' alt alt' file file' : List ℕ) → main' ≡ main → alt' ≡ alt → HoldAsBefore false main' alt' file file' → HoldAsBefore false main alt file file'
hold_along main main' alt alt' file file' e e' h = subst (λ x. HoldAsBefore false x alt file file') e (subst (λ x. HoldAsBefore false main' x file file') e' h)

-- by names, where the current file is the second
by_names : (main alt file file' : List ℕ) → HoldAsBefore true alt main file' file → HoldAsBefore false main alt file file'
by_names main alt file file' h = record { records = h.records; damage = h.damage }

-- The new file is current, with its generation.
newest_of : (b turned : Bool) (current other : List ℕ) (generation own : ℕ) (leaves leaves' : List ℕ → Type 0) → turned ≡ b → generation ≡ next_generation own → IsAtRest turned generation current other leaves leaves'
    → (main alt : List ℕ) → main ≡ (if b then other else current) → alt ≡ (if b then current else other) → (version : ℕ) × IsChosen main alt b version generation
newest_of b turned current other generation own leaves leaves' turns next rests main alt is is' =
    let number : rests.own ≡ generation = omega (arith, rests.same, next) in
    let here : IsChosen (first_of turned current other) (second_of turned current other) turned rests.version generation = subst (λ (n : ℕ). IsChosen (first_of turned current other) (second_of turned current other) turned rests.version n) number rests.chosen in
    let there : IsChosen (first_of b current other) (second_of b current other) b rests.version generation = subst (λ (t : Bool). IsChosen (first_of t current other) (second_of t current other) t rests.version generation) turns here in
    (rests.version, subst (λ x. IsChosen x alt b rests.version generation) (sym is) (subst (λ x. IsChosen (if b then other else current) x b rests.version generation) (sym is') there))

module _ {D : Type 0} (R : D → List ℕ) (M : D → ℕ) (I : D → ℕ → List ℕ → Type 0) where
  -- Since the first syncs, whatever a stop leaves of the two holds the same.
  pub stays_same : (b : Bool) (main alt current other current' other' main' alt' : D)
      → (let m = (if b then other else current) in IsSettled (M main) (M m) (R main) (R m) (I main) (I m))
      → (let a = (if b then current else other) in IsSettled (M alt) (M a) (R alt) (R a) (I alt) (I a))
      → ((file : List ℕ) → I current (M current) file → file ≡ R current) → I current (M current) (R current)
      → OnlyReads (M current) (M current') (R current) (R current') (I current) (I current')
      → Keeps b (R current) (R other) (M current) (M current') (M other) (M other') (I current) (I current') (I other) (I other')
      → main' ≡ (if b then other' else current') → alt' ≡ (if b then current' else other')
      → StaysSame (M main) (M main') (M alt) (M alt') (R main) (R alt) (I main') (I alt')
  stays_same false main alt current other current' other' main' alt' one two rest stands looks keeps is is' =
      let each = stop_by_roles false (R current) (R other) (R current') (M current) (M current') (M other) (M other') one.first two.first (I current) (I current') (I other) (I other') looks rest stands
      (λ k file low high left. one.each k file low high left ∙ sym one.bytes) (λ j file low high left. two.each j file low high left ∙ sym two.bytes) keeps in
      subst (λ (d : D). StaysSame (M main) (M d) (M alt) (M alt') (R main) (R alt) (I d) (I alt')) (sym is)
      (subst (λ (d : D). StaysSame (M main) (M current') (M alt) (M d) (R main) (R alt) (I current') (I d)) (sym is')
      (record {
        first = one.first;
        soon = one.soon;
        other_first = two.first;
        other_soon = two.soon;
        each = λ k j file file' low high low' high' left left'. hold_along (R main) (R current) (R alt) (R other) file file' one.bytes two.bytes (each k j file file' low high low' high' left left');
      }))
  stays_same true main alt current other current' other' main' alt' one two rest stands looks keeps is is' =
      let each = stop_by_roles true (R current) (R other) (R current') (M current) (M current') (M other) (M other') two.first one.first (I current) (I current') (I other) (I other') looks rest stands
      (λ k file low high left. two.each k file low high left ∙ sym two.bytes) (λ j file low high left. one.each j file low high left ∙ sym one.bytes) keeps in
      subst (λ (d : D). StaysSame (M main) (M d) (M alt) (M alt') (R main) (R alt) (I d) (I alt')) (sym is)
      (subst (λ (d : D). StaysSame (M main) (M other') (M alt) (M d) (R main) (R alt) (I other') (I d)) (sym is')
      (record {
        first = one.first;
        soon = one.soon;
        other_first = two.first;
        other_soon = two.soon;
        each = λ k j file file' low high low' high' left left'. hold_along (R main) (R other) (R alt) (R current) file file' one.bytes two.bytes (by_names (R other) (R current) file file' (each j k file' file low' high' low high left' left));
      }))

  -- The other file has become current.
  pub renews : (b turned : Bool) (version generation own count : ℕ) (main alt current other current' other' main' alt' : D)
      → (let m = (if b then other else current) in R m ≡ R main) → (let a = (if b then current else other) in R a ≡ R alt)
      → IsChosen (R main) (R alt) b version own → own + 1 < 2 ^ 63 → generation ≡ next_generation own → turned ≡ not b
      → IsCompacted b own count (R current) (R other) (R other') → R current' ≡ R current
      → IsAtRest turned generation (R other') (R current') (I other' (M other')) (I current' (M current'))
      → main' ≡ (if b then other' else current') → alt' ≡ (if b then current' else other')
      → Renews (R main) (R alt) (R main') (R alt') generation count
  renews false turned version generation own count main alt current other current' other' main' alt' one two chosen early next turns done looks rests is is' =
      record {
        is_alt = false;
        version = version;
        own = own;
        chosen = chosen;
        found = done.found;
        held = subst (λ x. RecoversPair x (R alt) (Holds done.found)) one (subst (λ x. RecoversPair (R current) x (Holds done.found)) two done.held);
        valid = done.valid;
        count_is = done.count_is;
        early = early;
        next = next;
        made = ap R is' ∙ done.file ∙ ap (λ (n : ℕ). compacted n done.found.records) (sym next);
        kept = ap R is ∙ looks ∙ one;
        newest = newest_of true turned (R other') (R current') generation own (I other' (M other')) (I current' (M current')) turns next rests (R main') (R alt') (ap R is) (ap R is');
      }
  renews true turned version generation own count main alt current other current' other' main' alt' one two chosen early next turns done looks rests is is' =
      record {
        is_alt = true;
        version = version;
        own = own;
        chosen = chosen;
        found = done.found;
        held = subst (λ x. RecoversPair x (R alt) (Holds done.found)) one (subst (λ x. RecoversPair (R other) x (Holds done.found)) two done.held);
        valid = done.valid;
        count_is = done.count_is;
        early = early;
        next = next;
        made = ap R is ∙ done.file ∙ ap (λ (n : ℕ). compacted n done.found.records) (sym next);
        kept = ap R is' ∙ looks ∙ two;
        newest = newest_of false turned (R other') (R current') generation own (I other' (M other')) (I current' (M current')) turns next rests (R main') (R alt') (ap R is) (ap R is');
      }

-- what the roles of a chosen pair are named
pub cond_not : {D : Type 0} (b turned : Bool) (x y z : D) → turned ≡ not b → z ≡ (if turned then x else y) → z ≡ (if b then y else x)
cond_not false turned x y z is e = e ∙ ap (λ (t : Bool). if t then x else y) is
cond_not true turned x y z is e = e ∙ ap (λ (t : Bool). if t then x else y) is

pub cond_along : {D : Type 0} (b turned : Bool) (x y z : D) → turned ≡ b → z ≡ (if turned then x else y) → z ≡ (if b then x else y)
cond_along b turned x y z is e = e ∙ ap (λ (t : Bool). if t then x else y) is

-- a test of both by names holds of both by roles
pub both_roles : {D : Type 0} (T : D → Bool) (b : Bool) (main alt current other : D) → (let m = (if b then other else current) in T m ≡ T main) → (let a = (if b then current else other) in T a ≡ T alt)
    → T main ≡ true → T alt ≡ true → (T current ≡ true) × (T other ≡ true)
both_roles T false main alt current other one two told also = (one ∙ told, two ∙ also)
both_roles T true main alt current other one two told also = (two ∙ also, one ∙ told)
