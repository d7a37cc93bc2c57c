-- What an insertion makes of the numbers and of the entries in a tree: the new numbers and the new entry come
-- to them, and nothing else changes. Said as sums over them, whatever is summed.
use Rattle.std.proofs.Common.{◌≡◌, ℕ, zero, suc, ◌+◌, ◌*◌, ◌<◌, ◌≤◌, ◌⊎◌, inl, inr, Bool, true, false, ◌||◌, List, [], ◌∷◌, ◌++◌, length, refl, sym, ap, ap₂, ◌∙◌, subst, arith}
use Rattle.std.specs.List.{flat_map, sum_by, AllByRecursion, IsDistinct}
use Rattle.std.specs.Option.{option_to_list}
use Rattle.std.specs.Prelude.{slice_get, nat_eq}
use Rattle.std.proofs.lemmas.Bool.{cases_lt}
use Rattle.std.proofs.lemmas.Cmp.{nat_eq_equiv}
use Rattle.std.proofs.lemmas.List.Folds.{list_any-append}
use Rattle.std.proofs.lemmas.Map.Keys.{IsDistinct-push, IsDistinct-from_apart}
use Rattle.std.proofs.lemmas.List.{length-map}
use Rattle.std.proofs.lemmas.List.Sums.{sum_by-cons, sum_by-append}
use Rattle.sp_rect.specs.Plane.{Rectangle}
use Rattle.sp_node.specs.declared.node.Entry.{Entry}
use Rattle.sp_node.specs.declared.node.Shape.{Shape}
use Rattle.sp_node.specs.Nested.{Member, Body, Branch, rects, rect_of, entries}
use Rattle.sp_node.specs.Table.{IsShape}
use Rattle.sp_node.proofs.Lists.{all_append}
use Rattle.sp_node.proofs.Frame.{all_from_flat_map, all_flat_map}
use Rattle.sp_split.specs.Split.{Splits, is_among}
use Rattle.sp_split.proofs.Members.{self_equal, equal_from, or_left, or_true}
use Rattle.sp_grow.specs.Members.{pick}
use Rattle.sp_grow.specs.Insertion.{Outcome, one, two, with_outcome, IsNode, Settles, Grows, here, below}
use Rattle.sp_grow.specs.Below.{numbers, numbers_in}
use Rattle.sp_grow.specs.Reached.{new_numbers}
use Rattle.sp_grow.proofs.Numbers.{numbers_left, all_front, all_back}
use Rattle.sp_grow.proofs.Sums.{sum_parts, sum_flat_map}

pub new_within : (next n k : ℕ) → is_among (new_numbers next n) k ≡ true → (next ≤ k) × (k < next + n)
new_within next zero k h = cc
new_within next (suc n) k h = by_test (is_among (new_numbers next n) k) (nat_eq k (next + n)) refl refl (sym (list_any-append (nat_eq k) (new_numbers next n) ((next + n) ∷ [])) ∙ h) (new_within next n k)
  where
    by_test : (a b : Bool) → is_among (new_numbers next n) k ≡ a → nat_eq k (next + n) ≡ b → (a || (b || false)) ≡ true → (is_among (new_numbers next n) k ≡ true → (next ≤ k) × (k < next + n)) → (next ≤ k) × (k < next + suc n)
    by_test true b x y m more = let r = more x in (r.0, omega (arith, r.1))
    by_test false true x y m more = let same : k ≡ next + n = equal_from k (next + n) y in (omega arith, omega arith)
    by_test false false x y m more = cc

pub new_there : (next n k : ℕ) → next ≤ k → k < next + n → is_among (new_numbers next n) k ≡ true
new_there next zero k low lt = absurd (omega arith)
new_there next (suc n) k low lt = list_any-append (nat_eq k) (new_numbers next n) ((next + n) ∷ []) ∙ by_order (cases_lt k (next + n)) (λ lt. new_there next n k low lt)
  where
    by_order : (k < next + n) ⊎ (next + n ≤ k) → (k < next + n → is_among (new_numbers next n) k ≡ true) → (is_among (new_numbers next n) k || (nat_eq k (next + n) || false)) ≡ true
    by_order (inl lt) more = or_left (is_among (new_numbers next n) k) (nat_eq k (next + n) || false) (more lt)
    by_order (inr le) more = let same : k ≡ next + n = omega arith in ap (λ (b : Bool). is_among (new_numbers next n) k || (b || false)) (ap (λ (j : ℕ). nat_eq j (next + n)) same ∙ self_equal (next + n)) ∙ or_true (is_among (new_numbers next n) k)

pub new_distinct : (next n : ℕ) → IsDistinct nat_eq (new_numbers next n)
new_distinct next zero = IsDistinct-from_apart nat_eq [] (λ i j d lt len. absurd (omega arith))
new_distinct next (suc n) = IsDistinct-push nat_eq_equiv (new_numbers next n) (next + n) (new_distinct next n) (off (is_among (new_numbers next n) (next + n)) refl)
  where
    off : (b : Bool) → is_among (new_numbers next n) (next + n) ≡ b → b ≡ false
    off true h = let r = new_within next n (next + n) h in absurd (omega (arith, r.1))
    off false h = refl

-- the entries of what is left
abbrev pub entries_left : (level : ℕ) → Outcome (Body level) → List Entry
entries_left level (one a) = entries level a.body
entries_left level (two a b) = entries level a.body ++ entries level b.body

-- the next numbers come to those before
pub record Counted (next next' : ℕ) (before after : List ℕ) : Type 0 where
  pub count : ℕ
  pub is : next' ≡ next + count
  pub sums : (f : ℕ → ℕ) → sum_by f after ≡ sum_by f before + sum_by f (new_numbers next count)

module _ (shape : Shape) (v : IsShape shape) where
  -- the members of the two groups, summed
  parts_of : {X : Type 0} (w : X → ℕ) (rs : List Rectangle) (xs : List X) (first second : List ℕ) → length rs ≡ length xs → shape.max < length xs → Splits rs shape.min first second → sum_by w (pick xs first) + sum_by w (pick xs second) ≡ sum_by w xs
  parts_of w rs xs first second size more s =
      let least : 2 ≤ shape.min = v.least in
      let half : 2 * shape.min ≤ shape.max = v.half in
      sum_parts w shape.min rs xs first second size (omega arith) (omega arith) s

  named : (level : ℕ) (b : Branch (Body level)) (number : ℕ) (members : Body level) → IsNode level b number members → numbers level b.number b.body ≡ numbers level number members
  named level b number members n = ap₂ (λ (k : ℕ) (m : Body level). numbers level k m) n.named n.has

  -- of a node's numbers
  own_first : (f : ℕ → ℕ) (level number : ℕ) (branches : List (Branch (Body level))) → sum_by f (numbers (suc level) number branches) ≡ f number + sum_by (λ (b : Branch (Body level)). sum_by f (numbers level b.number b.body)) branches
  own_first f level number branches = omega (arith, sum_by-cons f number (flat_map (λ (b : Branch (Body level)). numbers level b.number b.body) branches), sum_flat_map f (λ (b : Branch (Body level)). numbers level b.number b.body) branches)

  split_numbers :
      (level number next : ℕ) (members : Body level) (first second : List ℕ) → shape.max < length members → Splits (rects level members) shape.min first second → (f : ℕ → ℕ) → sum_by f (numbers level number (pick members first)) + sum_by f (numbers level next (pick members second)) ≡ sum_by f (numbers level number members) + f next
  split_numbers zero number next members first second more s f = omega (arith, sum_by-cons f number [], sum_by-cons f next [])
  split_numbers (suc level) number next members first second more s f =
      let w : Branch (Body level) → ℕ = λ b. sum_by f (numbers level b.number b.body) in
      omega (arith, own_first f level number (pick members first), own_first f level next (pick members second), own_first f level number members, parts_of w (rects (suc level) members) members first second (length-map members (rect_of (suc level))) more s)

  settles_numbers : (level number next : ℕ) (members : Body level) (outcome : Outcome (Body level)) (next' : ℕ) → Settles shape level number next members outcome next' → Counted next next' (numbers level number members) (numbers_left level outcome)
  settles_numbers level number next members (one a) next' s = record {
    count = 0;
    is = omega (arith, s.2);
    sums = λ f. omega (arith, ap (sum_by f) (named level a number members s.1));
  }
  settles_numbers level number next members (two a b) next' s = record {
    count = 1;
    is = omega (arith, s.6);
    sums = λ f.
        let e : next + 0 ≡ next = omega arith in
        omega (
          arith,
          ap (sum_by f) (named level a number (pick members s.0) s.4),
          ap (sum_by f) (named level b next (pick members s.1) s.5),
          split_numbers level number next members s.0 s.1 s.2 s.3 f,
          sum_by-append f (numbers level a.number a.body) (numbers level b.number b.body),
          sum_by-cons f (next + 0) [],
          ap f e,
        );
  }

  -- of the list with what is left of a child
  with_numbers : (f : ℕ → ℕ) (level number : ℕ) (front back : List (Branch (Body level))) (below : Outcome (Body level)) → let w : Branch (Body level) → ℕ = λ b. sum_by f (numbers level b.number b.body) in sum_by f (numbers (suc level) number (with_outcome front below back)) ≡ f number + (sum_by w front + sum_by f (numbers_left level below) + sum_by w back)
  with_numbers f level number front back (one a) =
      let w : Branch (Body level) → ℕ = λ b. sum_by f (numbers level b.number b.body) in
      omega (arith, own_first f level number (front ++ a ∷ back), sum_by-append w front (a ∷ back), sum_by-cons w a back)
  with_numbers f level number front back (two a b) =
      let w : Branch (Body level) → ℕ = λ b. sum_by f (numbers level b.number b.body) in
      omega (
        arith,
        own_first f level number (front ++ a ∷ (back ++ b ∷ [])),
        sum_by-append w front (a ∷ (back ++ b ∷ [])),
        sum_by-cons w a (back ++ b ∷ []),
        sum_by-append w back (b ∷ []),
        sum_by-cons w b [],
        sum_by-append f (numbers level a.number a.body) (numbers level b.number b.body),
      )

  new_more : (f : ℕ → ℕ) (next mid c d : ℕ) → mid ≡ next + c → sum_by f (new_numbers next (c + d)) ≡ sum_by f (new_numbers next c) + sum_by f (new_numbers mid d)
  new_more f next mid c zero e = let z : c + 0 ≡ c = omega arith in omega (arith, ap (λ (n : ℕ). sum_by f (new_numbers next n)) z)
  new_more f next mid c (suc d) e =
      let z : c + suc d ≡ suc (c + d) = omega arith in
      let y : next + (c + d) ≡ mid + d = omega arith in
      omega (
        arith,
        ap (λ (n : ℕ). sum_by f (new_numbers next n)) z,
        new_more f next mid c d e,
        sum_by-append f (new_numbers next (c + d)) ((next + (c + d)) ∷ []),
        sum_by-cons f (next + (c + d)) [],
        sum_by-append f (new_numbers mid d) ((mid + d) ∷ []),
        sum_by-cons f (mid + d) [],
        ap f y,
      )

  -- of a list with one more member
  more_numbers : (f : ℕ → ℕ) (k : ℕ) (x : Member k) (number : ℕ) (body : Body k) → sum_by f (numbers k number (body ++ x ∷ [])) ≡ sum_by f (numbers k number body ++ numbers_in k x)
  more_numbers f zero x number body = refl
  more_numbers f (suc k) x number body =
      let w : Branch (Body k) → ℕ = λ b. sum_by f (numbers k b.number b.body) in
      omega (
        arith,
        own_first f k number (body ++ x ∷ []),
        own_first f k number body,
        sum_by-append w body (x ∷ []),
        sum_by-cons w x [],
        sum_by-append f (numbers (suc k) number body) (numbers_in (suc k) x),
      )

  pub grows_numbers : (k : ℕ) (x : Member k) (level number next : ℕ) (body : Body level) (outcome : Outcome (Body level)) (next' : ℕ) → Grows shape k x level number next body outcome next' → Counted next next' (numbers level number body ++ numbers_in k x) (numbers_left level outcome)
  grows_numbers k x level number next body outcome next' (here s) =
      let c = settles_numbers k number next (body ++ x ∷ []) outcome next' s in
      record {
        count = c.count;
        is = c.is;
        sums = λ f. omega (arith, c.sums f, more_numbers f k x number body);
      }
  grows_numbers k x (suc level) number next branches outcome next' (below front b back under mid is chosen g s) =
      let under_c = grows_numbers k x level b.number next b.body under mid g in
      let here_c = settles_numbers (suc level) number mid (with_outcome front under back) outcome next' s in
      record {
        count = under_c.count + here_c.count;
        is = omega (arith, under_c.is, here_c.is);
        sums = λ f. let w : Branch (Body level) → ℕ = λ c. sum_by f (numbers level c.number c.body) in
            omega (
              arith,
              here_c.sums f,
              with_numbers f level number front back under,
              under_c.sums f,
              sum_by-append f (numbers level b.number b.body) (numbers_in k x),
              sum_by-append f (numbers (suc level) number branches) (numbers_in k x),
              own_first f level number branches,
              ap (sum_by w) is,
              sum_by-append w front (b ∷ back),
              sum_by-cons w b back,
              new_more f next mid under_c.count here_c.count under_c.is,
            );
      }

  -- the entries
  module _ (w : Entry → ℕ) where
    abbrev sum_under : (level : ℕ) → Body level → ℕ
    sum_under level body = sum_by w (entries level body)

    split_entries : (level : ℕ) (members : Body level) (first second : List ℕ) → shape.max < length members → Splits (rects level members) shape.min first second → sum_under level (pick members first) + sum_under level (pick members second) ≡ sum_under level members
    split_entries zero members first second more s = parts_of w (rects zero members) members first second (length-map members (rect_of zero)) more s
    split_entries (suc level) members first second more s =
        let f : Branch (Body level) → List Entry = λ b. entries level b.body in
        omega (
          arith,
          sum_flat_map w f (pick members first),
          sum_flat_map w f (pick members second),
          sum_flat_map w f members,
          parts_of (λ (b : Branch (Body level)). sum_by w (f b)) (rects (suc level) members) members first second (length-map members (rect_of (suc level))) more s,
        )

    abbrev sum_left : (level : ℕ) → Outcome (Body level) → ℕ
    sum_left level outcome = sum_by w (entries_left level outcome)

    settles_entries : (level number next : ℕ) (members : Body level) (outcome : Outcome (Body level)) (next' : ℕ) → Settles shape level number next members outcome next' → sum_left level outcome ≡ sum_under level members
    settles_entries level number next members (one a) next' s = ap (λ (m : Body level). sum_under level m) s.1.has
    settles_entries level number next members (two a b) next' s =
        omega (arith, sum_by-append w (entries level a.body) (entries level b.body), ap (λ (m : Body level). sum_under level m) s.4.has, ap (λ (m : Body level). sum_under level m) s.5.has, split_entries level members s.0 s.1 s.2 s.3)

    with_entries : (level : ℕ) (front back : List (Branch (Body level))) (below : Outcome (Body level)) → let f : Branch (Body level) → ℕ = λ b. sum_under level b.body in sum_under (suc level) (with_outcome front below back) ≡ sum_by f front + sum_left level below + sum_by f back
    with_entries level front back (one a) =
        let f : Branch (Body level) → ℕ = λ b. sum_under level b.body in
        omega (arith, sum_flat_map w (λ (b : Branch (Body level)). entries level b.body) (front ++ a ∷ back), sum_by-append f front (a ∷ back), sum_by-cons f a back)
    with_entries level front back (two a b) =
        let f : Branch (Body level) → ℕ = λ b. sum_under level b.body in
        omega (
          arith,
          sum_flat_map w (λ (b : Branch (Body level)). entries level b.body) (front ++ a ∷ (back ++ b ∷ [])),
          sum_by-append f front (a ∷ (back ++ b ∷ [])),
          sum_by-cons f a (back ++ b ∷ []),
          sum_by-append f back (b ∷ []),
          sum_by-cons f b [],
          sum_by-append w (entries level a.body) (entries level b.body),
        )

    more_entries : (k : ℕ) (x : Member k) (body : Body k) → sum_under k (body ++ x ∷ []) ≡ sum_under k body + sum_under k (x ∷ [])
    more_entries zero x body = sum_by-append w body (x ∷ [])
    more_entries (suc k) x body =
        let f : Branch (Body k) → List Entry = λ b. entries k b.body in
        let g : Branch (Body k) → ℕ = λ b. sum_under k b.body in
        omega (arith, sum_flat_map w f (body ++ x ∷ []), sum_flat_map w f body, sum_flat_map w f (x ∷ []), sum_by-append g body (x ∷ []))

    pub grows_entries : (k : ℕ) (x : Member k) (level number next : ℕ) (body : Body level) (outcome : Outcome (Body level)) (next' : ℕ) → Grows shape k x level number next body outcome next' → sum_by w (entries_left level outcome) ≡ sum_by w (entries level body) + sum_by w (entries k (x ∷ []))
    grows_entries k x level number next body outcome next' (here s) = settles_entries k number next (body ++ x ∷ []) outcome next' s ∙ more_entries k x body
    grows_entries k x (suc level) number next branches outcome next' (below front b back under mid is chosen g s) =
        let f : Branch (Body level) → ℕ = λ c. sum_under level c.body in
        omega (
          arith,
          settles_entries (suc level) number mid (with_outcome front under back) outcome next' s,
          with_entries level front back under,
          grows_entries k x level b.number next b.body under mid g,
          sum_flat_map w (λ (c : Branch (Body level)). entries level c.body) branches,
          ap (sum_by f) is,
          sum_by-append f front (b ∷ back),
          sum_by-cons f b back,
        )

-- what holds of the entries and of the new one holds of all after it
module _ {X : Type 0} (P : X → Type 0) where
  all_at : (xs : List X) (i : ℕ) → AllByRecursion P xs → AllByRecursion P (option_to_list (slice_get xs i))
  all_at [] i h = tt
  all_at (x ∷ xs) zero h = (h.0, tt)
  all_at (x ∷ xs) (suc i) h = all_at xs i h.1

  pub all_pick : (xs : List X) (is : List ℕ) → AllByRecursion P xs → AllByRecursion P (pick xs is)
  all_pick xs [] h = tt
  all_pick xs (i ∷ is) h = all_append P (option_to_list (slice_get xs i)) (pick xs is) (all_at xs i h) (all_pick xs is h)

module _ (shape : Shape) (P : Entry → Type 0) where
  abbrev Under : (level : ℕ) → Body level → Type 0
  Under level body = AllByRecursion P (entries level body)

  all_group : (level : ℕ) (members : Body level) (is : List ℕ) → Under level members → Under level (pick members is)
  all_group zero members is h = all_pick P members is h
  all_group (suc level) members is h =
      all_flat_map P (λ (b : Branch (Body level)). entries level b.body) (pick members is) (all_pick (λ (b : Branch (Body level)). Under level b.body) members is (all_from_flat_map P (λ (b : Branch (Body level)). entries level b.body) members h))

  settles_all : (level number next : ℕ) (members : Body level) (outcome : Outcome (Body level)) (next' : ℕ) → Settles shape level number next members outcome next' → Under level members → AllByRecursion P (entries_left level outcome)
  settles_all level number next members (one a) next' s h = subst (Under level) (sym s.1.has) h
  settles_all level number next members (two a b) next' s h =
      all_append P (entries level a.body) (entries level b.body) (subst (Under level) (sym s.4.has) (all_group level members s.0 h)) (subst (Under level) (sym s.5.has) (all_group level members s.1 h))

  all_with : (level : ℕ) (front back : List (Branch (Body level))) (below : Outcome (Body level)) → AllByRecursion (λ b. Under level b.body) front → AllByRecursion (λ b. Under level b.body) back → AllByRecursion P (entries_left level below) → AllByRecursion (λ b. Under level b.body) (with_outcome front below back)
  all_with level front back (one a) f k h = all_append (λ (b : Branch (Body level)). Under level b.body) front (a ∷ back) f (h, k)
  all_with level front back (two a b) f k h =
      all_append (λ (c : Branch (Body level)). Under level c.body) front (a ∷ (back ++ b ∷ [])) f
      (all_front P (entries level a.body) (entries level b.body) h, all_append (λ (c : Branch (Body level)). Under level c.body) back (b ∷ []) k (all_back P (entries level a.body) (entries level b.body) h, tt))

  pub grows_all : (k : ℕ) (x : Member k) (level number next : ℕ) (body : Body level) (outcome : Outcome (Body level)) (next' : ℕ) → Grows shape k x level number next body outcome next' → AllByRecursion P (entries level body) → Under k (x ∷ []) → AllByRecursion P (entries_left level outcome)
  grows_all k x level number next body outcome next' (here s) h p = settles_all k number next (body ++ x ∷ []) outcome next' s (more_under k x body h p)
    where
      more_under : (k : ℕ) (x : Member k) (body : Body k) → Under k body → Under k (x ∷ []) → Under k (body ++ x ∷ [])
      more_under zero x body h p = all_append P body (x ∷ []) h p
      more_under (suc k) x body h p =
          let f : Branch (Body k) → List Entry = λ b. entries k b.body in
          all_flat_map P f (body ++ x ∷ []) (all_append (λ b. Under k b.body) body (x ∷ []) (all_from_flat_map P f body h) (all_from_flat_map P f (x ∷ []) p))
  grows_all k x (suc level) number next branches outcome next' (below front b back under mid is chosen g s) h p =
      let U : Branch (Body level) → Type 0 = λ c. Under level c.body in
      let each : AllByRecursion U (front ++ b ∷ back) = subst (AllByRecursion U) is (all_from_flat_map P (λ (c : Branch (Body level)). entries level c.body) branches h) in
      let rest = all_back U front (b ∷ back) each in
      let under_all = grows_all k x level b.number next b.body under mid g rest.0 p in
      settles_all (suc level) number mid (with_outcome front under back) outcome next' s
      (all_flat_map P (λ (c : Branch (Body level)). entries level c.body) (with_outcome front under back) (all_with level front back under (all_front U front (b ∷ back) each) rest.1 under_all))
