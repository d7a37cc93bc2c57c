-- The plan of the tests is one of the empty tree.
use Rattle.std.proofs.Common.{◌≡◌, false, ℕ, zero, suc, ◌<◌, ◌≤◌, List, [], ◌∷◌, Some, None, refl, arith}
use Rattle.std.specs.Prelude.{nat_eq, IsSome}
use Rattle.std.specs.List.{AllByRecursion, IsDistinct}
use Rattle.std.proofs.lemmas.Int.{ints}
use Rattle.std.specs.Prelude.{Bool, true, ℤ, if◌then◌else◌}
use Rattle.sp_rect.specs.Plane.{Rectangle, IsRectangle, corners, is_rectangle, made_rectangle}
use Rattle.std.proofs.lemmas.List.Sorted.{IsPermutation-to_front}
use Rattle.std.proofs.lemmas.Map.Keys.{IsDistinct-cons, IsDistinct-from_apart}
use Rattle.sp_node.specs.Look.{look}
use Rattle.sp_node.specs.Plan.{IsMadeOf, SameEntries, planned}
use Rattle.sp_node.specs.Table.{Table, IsValidAt, empty_tree, entries_of, level_of}
use Rattle.sp_node.specs.Sample.{sample_shape, sample_plan, square}
use Rattle.sp_node.proofs.Level.{valid_at}

abbrev sample : Table
sample = planned (empty_tree sample_shape) sample_plan

none_distinct : IsDistinct nat_eq []
none_distinct = IsDistinct-from_apart nat_eq [] (λ i j d lt len. absurd (omega arith))

square_is : (x1 y1 x2 y2 : ℕ) → x1 ≤ x2 → x2 ≤ 1073741823 → y1 ≤ y2 → y2 ≤ 1073741823 → IsRectangle (square x1 y1 x2 y2)
square_is x1 y1 x2 y2 a b c d = record {
  left = omega (arith, ints);
  across = omega (arith, ints);
  right = omega (arith, ints);
  lower = omega (arith, ints);
  along = omega (arith, ints);
  upper = omega (arith, ints);
}

apart : (n : ℕ) (ns : List ℕ) → AllByRecursion (λ m. nat_eq n m ≡ false) ns → IsDistinct nat_eq ns → IsDistinct nat_eq (n ∷ ns)
apart n ns h d = IsDistinct-cons nat_eq n ns h d

sample_valid : IsValidAt sample 1
sample_valid = record {
  shape = record { most = omega arith; half = omega arith; least = omega arith };
  stands = (tt, (tt, (tt, tt)));
  whole_table = IsPermutation-to_front (1 ∷ 2 ∷ []) 3;
  distinct = apart 3 (1 ∷ 2 ∷ []) (refl, (refl, tt)) (apart 1 (2 ∷ []) (refl, tt) (apart 2 [] tt none_distinct));
  below_next = (omega arith, (omega arith, (omega arith, tt)));
  root_size = (omega arith, omega arith);
  sound = ((refl, omega arith, omega arith, tt), ((refl, omega arith, omega arith, tt), tt));
  distinct_entries = apart 1 (2 ∷ 5 ∷ 3 ∷ 4 ∷ []) (refl, (refl, (refl, (refl, tt))))
      (apart 2 (5 ∷ 3 ∷ 4 ∷ []) (refl, (refl, (refl, tt))) (apart 5 (3 ∷ 4 ∷ []) (refl, (refl, tt)) (apart 3 (4 ∷ []) (refl, tt) (apart 4 [] tt none_distinct))));
  in_space = (
    square_is 0 0 2 2 (omega arith) (omega arith) (omega arith) (omega arith),
    (
      square_is 8 8 10 10 (omega arith) (omega arith) (omega arith) (omega arith),
      (
        square_is 4 4 6 6 (omega arith) (omega arith) (omega arith) (omega arith),
        (square_is 100 0 102 2 (omega arith) (omega arith) (omega arith) (omega arith), (square_is 108 8 110 10 (omega arith) (omega arith) (omega arith) (omega arith), tt)),
      ),
    ),
  );
}

kept_numbers : (k : ℕ) → k < 2 → IsSome (look sample.nodes k) → IsSome (look (empty_tree sample_shape).nodes k)
kept_numbers zero lt h = cc
kept_numbers (suc zero) lt h = refl
kept_numbers (suc (suc k)) lt h = absurd (omega arith)

none_before : SameEntries (entries_of (empty_tree sample_shape)) (entries_of sample)
unfolding level_of
none_before e f h k n = absurd (omega (arith, h.1))

pub sample_made : IsMadeOf (empty_tree sample_shape) sample_plan
sample_made = record {
  valid = valid_at sample 1 sample_valid;
  next_kept = omega arith;
  no_return = kept_numbers;
  same_entries = none_before;
  ordered = ((omega arith, (omega arith, tt)), ((omega arith, tt), (tt, tt)));
  differs = (λ e. cc, (λ e. cc, (λ e. cc, tt)));
}

-- a rectangle that was made has its corners
pub made_is : (x1 y1 x2 y2 : ℤ) (r : Rectangle) → Some r ≡ made_rectangle x1 y1 x2 y2 → r ≡ corners x1 y1 x2 y2
made_is x1 y1 x2 y2 r e = by_test (is_rectangle (corners x1 y1 x2 y2)) e
  where
    by_test : (b : Bool) → Some r ≡ (if b then Some (corners x1 y1 x2 y2) else None) → r ≡ corners x1 y1 x2 y2
    by_test true h = cc
    by_test false h = cc
