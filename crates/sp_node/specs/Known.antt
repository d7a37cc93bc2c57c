-- Which entry numbers are known under which keys: under their ids, and under the transactions whose marks they bear.
use Rattle.std.specs.Prelude.{◌≡◌, ℕ, ◌<◌, ◌≤◌, ◌^◌, Bool, true, false, ◌&&◌, ◌||◌, List, [], ◌∷◌, map, nat_eq}
use Rattle.std.specs.List.{AllByRecursion, filter}
use Rattle.sp_node.specs.declared.marks.Marks.{Marks}
use Rattle.sp_node.specs.declared.node.Entry.{Entry}
use Rattle.sp_node.specs.Marks.{bears}

-- the number is known under the key
abbrev pub is_known : List (ℕ × ℕ) → ℕ → ℕ → Bool
is_known [] key number = false
is_known (p ∷ ps) key number = (nat_eq key p.0 && nat_eq number p.1) || is_known ps key number

-- the numbers fit into 64 bits
abbrev pub AreNumbers : List (ℕ × ℕ) → Type 0
AreNumbers pairs = AllByRecursion (λ p. p.1 < 2 ^ 64) pairs

-- the numbers known under the key
abbrev pub numbers_under : List (ℕ × ℕ) → ℕ → List ℕ
numbers_under pairs key = map (λ p. p.1) (filter (λ p. nat_eq key p.0) pairs)

-- no number from this one on is known under the key
abbrev pub HasNoneFrom : List (ℕ × ℕ) → ℕ → ℕ → Type 0
HasNoneFrom pairs key start = (n : ℕ) → start ≤ n → is_known pairs key n ≡ false

-- the number is the least from this one on that is known under the key
pub record IsFirstFrom (pairs : List (ℕ × ℕ)) (key start number : ℕ) : Type 0 where
  pub known : is_known pairs key number ≡ true
  pub within : start ≤ number
  pub least : (n : ℕ) → start ≤ n → n < number → is_known pairs key n ≡ false

-- each entry is known under its id
abbrev pub AreKnown : List (ℕ × ℕ) → List Entry → Type 0
AreKnown pairs es = AllByRecursion (λ e. is_known pairs e.id e.number ≡ true) es

-- the number is noted under each transaction that the marks name
abbrev pub IsNoted : List (ℕ × ℕ) → ℕ → Marks → Type 0
IsNoted noted number marks = (txn : ℕ) → bears txn marks ≡ true → is_known noted txn number ≡ true

-- each entry is noted under each transaction whose marks it bears
abbrev pub AreMarksNoted : List (ℕ × ℕ) → List Entry → Type 0
AreMarksNoted noted es = AllByRecursion (λ e. IsNoted noted e.number e.marks) es
