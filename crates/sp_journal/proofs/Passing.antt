-- From one call of a disk to what a stop at any moment of it leaves.
use Rattle.std.proofs.Common.{◌≡◌, ◌⊎◌, inl, inr, ◌≤◌, ℕ, List, subst, arith}
use Rattle.sp_disk.specs.Moments.{Passes, LeavesOnly}

pub one_call : (before now : ℕ) (old new : ℕ → List ℕ → Type 0) (P : List ℕ → Type 0) → Passes before now old new
    → ((file : List ℕ) → old before file → P file) → ((file : List ℕ) → new now file → P file) → LeavesOnly before now old new P
one_call before now old new P passes first last = record {
  later = passes.later;
  each = λ k file low high left. elim (which k low high) [
    | inl is ↦ first file ((passes.past before file (omega arith)).0 (subst (λ m. new m file) is left))
    | inr is ↦ last file (subst (λ m. new m file) is left)
  ];
  past = passes.past;
}
  where
    which : (k : ℕ) → before ≤ k → k ≤ now → (k ≡ before) ⊎ (k ≡ now)
    which k low high = let step = passes.step in grind arith

-- no call at all
pub no_call : (now : ℕ) (images : ℕ → List ℕ → Type 0) (P : List ℕ → Type 0) → ((file : List ℕ) → images now file → P file) → LeavesOnly now now images images P
no_call now images P here = record {
  later = omega arith;
  each = λ k file low high left. let is : k ≡ now = omega arith in here file (subst (λ m. images m file) is left);
  past = λ k file low. (λ x. x, λ x. x);
}
