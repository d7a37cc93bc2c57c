-- The changes of a transaction, from the numbers of the entries that bear its marks.
use Rattle.std.proofs.Common.{◌≡◌, ℕ, ◌+◌, get_or, Bool, true, false, not, ◌&&◌, ◌||◌, List, [], ◌∷◌, ◌++◌, map, Option, refl, sym, ap, ◌∙◌, subst, arith, inl, inr}
use Rattle.std.specs.Prelude.{nat_eq, nat_lt}
use Rattle.std.specs.List.{AllByRecursion, flat_map, filter, list_any, IsDistinct}
use Rattle.std.specs.List.Sorted.{IsPermutation, IsSortedBy}
use Rattle.std.specs.Option.{option_and_then, option_to_list}
use Rattle.std.specs.Ordering.{nat_cmp, bool_cmp, is_lt, ordering_then}
use Rattle.std.proofs.lemmas.Bool.Decides.{nat_tests}
use Rattle.std.proofs.lemmas.Cmp.{nat_eq_equiv}
use Rattle.std.proofs.lemmas.Grind.{flat_map-append}
use Rattle.std.proofs.lemmas.List.{append_assoc}
use Rattle.std.proofs.lemmas.List.Folds.{flat_map-map}
use Rattle.std.proofs.lemmas.List.Sorted.{IsPermutation-refl, IsPermutation-trans, IsPermutation-middle, IsPermutation-append_comm, IsPermutation-append_left, IsPermutation-append_right, list_any-IsPermutation}
use Rattle.std.proofs.lemmas.Map.Keys.{IsDistinct-head, IsDistinct-tail, IsDistinct-IsPermutation}
use Rattle.sp_plain.specs.declared.change.Change.{Change}
use Rattle.sp_node.specs.declared.node.Entry.{Entry}
use Rattle.sp_node.specs.Among.{Among}
use Rattle.sp_node.specs.Index.{entry_of}
use Rattle.sp_node.specs.Marked.{entries_marked}
use Rattle.sp_node.specs.Marks.{is_made_by, is_ended_by, is_draft_of, is_done, is_marked}
use Rattle.sp_node.specs.Table.{Table, IsValid, entries_of}
use Rattle.sp_node.proofs.Lists.{all_filter, flat_map-filter, distinct_filter}
use Rattle.sp_node.proofs.Members.{found_in}
use Rattle.sp_node.proofs.Standing.{entry_of_among}
use Rattle.sp_txn.specs.Changes.{change_by, change_of, changes_of, id_of, is_drop, precedes}

each : {X : Type 0} (P : X → Type 0) (xs : List X) → ((x : X) → Among x xs → P x) → AllByRecursion P xs
each P [] f = tt
each P (x ∷ xs) f = (f x (inl refl), each P xs (λ y a. f y (inr a)))

flat_same : {X Y : Type 0} (f g : X → List Y) (xs : List X) → AllByRecursion (λ x. f x ≡ g x) xs → flat_map f xs ≡ flat_map g xs
flat_same f g [] h = refl
flat_same f g (x ∷ xs) h = λ i. h.0 i ++ flat_same f g xs h.1 i

-- an entry without a mark gives no change
unmarked : (txn : ℕ) (e : Entry) → is_marked txn e ≡ false → option_to_list (change_of txn e) ≡ []
unmarked txn e h = by_tests (is_done e.marks.ended) (is_made_by txn e.marks.made) (is_ended_by txn e.marks.ended) (is_draft_of txn e.marks.draft) h
  where
    by_tests : (dead made ended draft : Bool) → ((made || ended || draft) && not dead) ≡ false → option_to_list (change_by txn e dead made ended draft) ≡ []
    by_tests true made ended draft h = refl
    by_tests false true ended draft h = cc
    by_tests false false true draft h = cc
    by_tests false false false true h = cc
    by_tests false false false false h = refl

-- what distinct numbers give, in another order
none_in : (y : ℕ) (ys : List ℕ) → AllByRecursion (λ z. nat_eq y z ≡ false) ys → list_any (nat_eq y) ys ≡ false
none_in y [] h = refl
none_in y (z ∷ zs) h = ap (λ (b : Bool). b || list_any (nat_eq y) zs) h.0 ∙ none_in y zs h.1

self_equal : (k : ℕ) → nat_eq k k ≡ true
self_equal k = grind (arith, nat_tests)

equal_from : (j k : ℕ) → nat_eq j k ≡ true → j ≡ k
equal_from j k e = grind (arith, nat_tests)

module _ {Y : Type 0} (f : ℕ → List Y) where
  moved_front : (a b : List ℕ) (y : ℕ) → IsPermutation (flat_map f (a ++ y ∷ b)) (f y ++ flat_map f (a ++ b))
  moved_front a b y =
      subst (λ (l : List Y). IsPermutation l (f y ++ flat_map f (a ++ b))) (sym (flat_map-append f a (y ∷ b)))
      (subst (λ (r : List Y). IsPermutation (flat_map f a ++ (f y ++ flat_map f b)) (f y ++ r)) (sym (flat_map-append f a b)) (turned (flat_map f a) (f y) (flat_map f b)))
    where
      turned : (u v w : List Y) → IsPermutation (u ++ (v ++ w)) (v ++ (u ++ w))
      turned u v w = subst (λ (l : List Y). IsPermutation l (v ++ (u ++ w))) (append_assoc u v w) (subst (λ (r : List Y). IsPermutation ((u ++ v) ++ w) r) (append_assoc v u w) (IsPermutation-append_left w (u ++ v) (v ++ u) (IsPermutation-append_comm u v)))

  flat_permuted : (xs ys : List ℕ) → IsDistinct nat_eq xs → IsDistinct nat_eq ys → ((q : ℕ) → list_any (nat_eq q) xs ≡ list_any (nat_eq q) ys) → IsPermutation (flat_map f xs) (flat_map f ys)
  flat_permuted [] [] d e same = IsPermutation-refl []
  flat_permuted (x ∷ xs) [] d e same = absurd (never (list_any (nat_eq x) xs) (ap (λ (b : Bool). b || list_any (nat_eq x) xs) (sym (self_equal x)) ∙ same x))
    where
      never : (b : Bool) → (true || b) ≡ false → ⊥
      never b h = cc
  flat_permuted xs (y ∷ ys) d e same =
      let at = found_in y xs (same y ∙ ap (λ (b : Bool). b || list_any (nat_eq y) ys) (self_equal y)) in
      let rest = at.0 ++ at.1 in
      let moved : IsPermutation xs (y ∷ rest) = subst (λ (zs : List ℕ). IsPermutation zs (y ∷ rest)) (sym at.2) (IsPermutation-middle at.0 y at.1) in
      let distinct = IsDistinct-IsPermutation nat_eq (nat_eq_equiv.symm) xs (y ∷ rest) moved d in
      let more = flat_permuted rest ys (IsDistinct-tail nat_eq y rest distinct) (IsDistinct-tail nat_eq y ys e) (λ q. others q rest (none_in y rest (IsDistinct-head nat_eq y rest distinct)) (none_in y ys (IsDistinct-head nat_eq y ys e)) (nat_eq q y) refl (sym (list_any-IsPermutation (nat_eq q) xs (y ∷ rest) moved) ∙ same q)) in
      let front : IsPermutation (flat_map f xs) (f y ++ flat_map f rest) = subst (λ (zs : List ℕ). IsPermutation (flat_map f zs) (f y ++ flat_map f rest)) (sym at.2) (moved_front at.0 at.1 y) in
      IsPermutation-trans (flat_map f xs) (f y ++ flat_map f rest) (f y ++ flat_map f ys) front (IsPermutation-append_right (f y) (flat_map f rest) (flat_map f ys) more)
    where
      others : (q : ℕ) (rest : List ℕ) → list_any (nat_eq y) rest ≡ false → list_any (nat_eq y) ys ≡ false → (b : Bool) → nat_eq q y ≡ b → (nat_eq q y || list_any (nat_eq q) rest) ≡ (nat_eq q y || list_any (nat_eq q) ys) → list_any (nat_eq q) rest ≡ list_any (nat_eq q) ys
      others q rest n m true k h = ap (λ (z : ℕ). list_any (nat_eq z) rest) (equal_from q y k) ∙ n ∙ sym m ∙ ap (λ (z : ℕ). list_any (nat_eq z) ys) (sym (equal_from q y k))
      others q rest n m false k h = ap (λ (b : Bool). b || list_any (nat_eq q) rest) (sym k) ∙ h ∙ ap (λ (b : Bool). b || list_any (nat_eq q) ys) k

-- the change at the entry of a number
abbrev pub change_at : Table → ℕ → ℕ → List Change
change_at t txn n = option_to_list (option_and_then (change_of txn) (entry_of t.nodes n))

module _ (t : Table) (v : IsValid t) (txn : ℕ) where
  at_entries : flat_map (change_at t txn) (map (λ e. e.number) (filter (is_marked txn) (entries_of t))) ≡ changes_of txn (entries_of t)
  at_entries =
      flat_map-map (change_at t txn) (λ e. e.number) (filter (is_marked txn) (entries_of t))
      ∙ flat_same (λ e. change_at t txn e.number) (λ e. option_to_list (change_of txn e)) (filter (is_marked txn) (entries_of t)) (first_of (λ e. change_at t txn e.number ≡ option_to_list (change_of txn e)) (λ e. is_marked txn e ≡ true) (filter (is_marked txn) (entries_of t)) (all_filter (λ e. change_at t txn e.number ≡ option_to_list (change_of txn e)) (is_marked txn) (entries_of t) (each (λ e. change_at t txn e.number ≡ option_to_list (change_of txn e)) (entries_of t) there)))
      ∙ sym (flat_map-filter (is_marked txn) (λ e. option_to_list (change_of txn e)) (entries_of t) (each (λ e. is_marked txn e ≡ false → option_to_list (change_of txn e) ≡ []) (entries_of t) (λ e a. unmarked txn e)))
    where
      there : (e : Entry) → Among e (entries_of t) → change_at t txn e.number ≡ option_to_list (change_of txn e)
      there e a = ap (λ (o : Option Entry). option_to_list (option_and_then (change_of txn) o)) (entry_of_among t v e a)

      first_of : (P Q : Entry → Type 0) (es : List Entry) → AllByRecursion (λ e. P e × Q e) es → AllByRecursion P es
      first_of P Q [] h = tt
      first_of P Q (e ∷ es) h = (h.0.0, first_of P Q es h.1)

  -- what is collected at the marked entries is what the transaction changes
  pub collected : (numbers : List ℕ) → IsPermutation (entries_marked t txn) numbers → IsPermutation (changes_of txn (entries_of t)) (flat_map (change_at t txn) numbers)
  unfolding entries_marked
  collected numbers p =
      let marked = map (λ (e : Entry). e.number) (filter (is_marked txn) (entries_of t)) in
      let distinct = distinct_filter (is_marked txn) (λ e. e.number) (entries_of t) v.distinct_entries in
      subst (λ (cs : List Change). IsPermutation cs (flat_map (change_at t txn) numbers)) at_entries
      (flat_permuted (change_at t txn) marked numbers distinct (IsDistinct-IsPermutation nat_eq (nat_eq_equiv.symm) marked numbers p distinct) (λ q. list_any-IsPermutation (nat_eq q) marked numbers p))

-- what changes are ordered by
abbrev pub order : Change → ℕ × Bool
order c = (id_of c, not (is_drop c))

precedes_is : (i j : ℕ) (a b : Bool) → is_lt (ordering_then (nat_cmp i j) (bool_cmp (not a) (not b))) ≡ (nat_lt i j || (nat_eq i j && (a && not b)))
precedes_is i j true true = grind (arith, nat_tests)
precedes_is i j true false = grind (arith, nat_tests)
precedes_is i j false true = grind (arith, nat_tests)
precedes_is i j false false = grind (arith, nat_tests)

pub ordered : (cs : List Change) → IsSortedBy (λ x y. is_lt (ordering_then (nat_cmp (order x).0 (order y).0) (bool_cmp (order x).1 (order y).1))) cs → IsSortedBy precedes cs
ordered cs s k d low high = sym (precedes_is (id_of (get_or cs (k + 1) d)) (id_of (get_or cs k d)) (is_drop (get_or cs (k + 1) d)) (is_drop (get_or cs k d))) ∙ s k d low high
