-- Which of two files is current.
use Rattle.std.proofs.Common.{◌≡◌, ◌⊎◌, inl, inr, ◌<◌, ◌≤◌, ℕ, true, false, List, subst, sym}
use Rattle.sp_journal.specs.declared.kind.Kind.{Kind}
use Rattle.sp_journal.specs.declared.kind.Kind.TheVariants.{Empty, Foreign, Unfinished, Settled}
use Rattle.sp_journal.specs.Kinds.{IsKind}
use Rattle.sp_pair.specs.Pairs.{IsUnsettled, IsNoNewer, IsOlder, IsChosen, first, second, neither}

pub older : (kind : Kind) (generation : ℕ) → IsUnsettled kind → IsOlder kind generation
older Empty generation is = tt
older Unfinished generation is = tt
older Foreign generation is = is
older (Settled version own) generation is = absurd is

pub no_newer : (kind : Kind) (generation : ℕ) → IsUnsettled kind → IsNoNewer kind generation
no_newer Empty generation is = tt
no_newer Unfinished generation is = tt
no_newer Foreign generation is = is
no_newer (Settled version own) generation is = absurd is

unsettled : (kind : Kind) → (kind ≡ Empty) ⊎ (kind ≡ Unfinished) → IsUnsettled kind
unsettled kind which = elim which [
  | inl so ↦ subst IsUnsettled (sym so) tt
  | inr so ↦ subst IsUnsettled (sym so) tt
]

pub second_alone : (one alt : Kind) (version generation : ℕ) (m a : List ℕ) → IsKind m one → IsUnsettled one → IsKind a alt → alt ≡ Settled version generation → IsChosen m a true version generation
second_alone one alt version generation m a is none also so = second version generation one (subst (λ k. IsKind a k) so also) is (older one generation none)

pub none_settled : (one alt : Kind) (m a : List ℕ) → IsKind m one → IsUnsettled one → IsKind a alt → (alt ≡ Empty) ⊎ (alt ≡ Unfinished) → IsChosen m a false 0 0
none_settled one alt m a is none also which = neither one alt is also none (unsettled alt which)

pub second_newer : (version generation other own : ℕ) (alt : Kind) (m a : List ℕ) → IsKind m (Settled version generation) → IsKind a alt → alt ≡ Settled other own → generation < own → IsChosen m a true other own
second_newer version generation other own alt m a is also so less = second other own (Settled version generation) (subst (λ k. IsKind a k) so also) is less

pub first_newer : (version generation other own : ℕ) (alt : Kind) (m a : List ℕ) → IsKind m (Settled version generation) → IsKind a alt → alt ≡ Settled other own → own ≤ generation → IsChosen m a false version generation
first_newer version generation other own alt m a is also so le = first version generation alt is also (subst (λ k. IsNoNewer k generation) (sym so) le)

pub first_alone : (version generation : ℕ) (alt : Kind) (m a : List ℕ) → IsKind m (Settled version generation) → IsKind a alt → (alt ≡ Empty) ⊎ (alt ≡ Unfinished) → IsChosen m a false version generation
first_alone version generation alt m a is also which = first version generation alt is also (no_newer alt generation (unsettled alt which))
