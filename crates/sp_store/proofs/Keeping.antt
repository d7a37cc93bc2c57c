-- What two files hold while a kernel runs over the current one.
use Rattle.std.proofs.Common.{◌≡◌, ◌⊎◌, inl, inr, ◌<◌, ◌≤◌, ℕ, Bool, true, false, List, length, sym, subst, arith}
use Rattle.sp_disk.specs.Moments.{LeavesOnly}
use Rattle.sp_journal.specs.declared.kind.Kind.{Kind}
use Rattle.sp_journal.specs.declared.kind.Kind.TheVariants.{Empty, Unfinished}
use Rattle.sp_journal.specs.Kinds.{IsKind, empty, foreign, unfinished, settled, IsFresh, unmade, first as is_first, KeepsKind, KeepsOneOf}
use Rattle.sp_journal.specs.Recovery.{Outcome, Recovers, NeedsMaking, short, unfinished as needs_unfinished}
use Rattle.sp_journal.proofs.Kinding.{keeps_on}
use Rattle.sp_pair.specs.Compacting.{first_of, second_of}
use Rattle.sp_pair.specs.Pairs.{IsUnsettled, IsChosen, first, second, neither, RecoversPair}
use Rattle.sp_pair.proofs.Choices.{no_newer}
use Rattle.sp_pair.proofs.Roles.{to_roles}
use Rattle.sp_store.specs.Keeping.{IsBeside}
use Rattle.sp_store.specs.Opening.{IsCurrent}

le_or_lt : (a b : ℕ) → (a ≤ b) ⊎ (b < a)
le_or_lt a b = grind arith

-- a file that is not settled is to be made anew
unsettled_needs : (file : List ℕ) (kind : Kind) → IsKind file kind → IsUnsettled kind → NeedsMaking file
unsettled_needs file kind (empty few) none = short few
unsettled_needs file kind (foreign long never) none = absurd none
unsettled_needs file kind (unfinished g gate tail long low high shut stands) none = needs_unfinished g gate tail low high shut stands
unsettled_needs file kind (settled v g gate tail long is open_gate stands) none = absurd none

-- and the other way round
needs_unsettled : (file : List ℕ) → NeedsMaking file → (kind : Kind) × IsKind file kind × IsUnsettled kind
needs_unsettled file (short few) = (Empty, empty few, tt)
needs_unsettled file (needs_unfinished g gate tail low high shut stands) = elim (le_or_lt (length file) 17) [
  | inl few ↦ (Empty, empty few, tt)
  | inr long ↦ (Unfinished, unfinished g gate tail long low high shut stands, tt)
]

-- beside a file that is not settled, a fresh one is the first
fresh_first : (file alt : List ℕ) (other : Kind) → IsKind alt other → IsUnsettled other → IsFresh file → (version generation : ℕ) × IsChosen file alt false version generation
fresh_first file alt other also none (unmade needs) = let kind = needs_unsettled file needs in (0, 0, neither kind.0 other kind.1 also kind.2 none)
fresh_first file alt other also none (is_first version generation kind low) = (version, generation, first version generation other kind also (no_newer other generation none))

kept_first : (c file o : List ℕ) (v g : ℕ) → IsChosen c o false v g → KeepsKind c file → (version generation : ℕ) × IsChosen file o false version generation
kept_first c file o v g (first v' g' other is also newer) keeps = (v, g, first v g other (keeps.settled v g is) also newer)
kept_first c file o v g (neither one other is also none none') keeps = fresh_first file o other also none' (keeps.fresh (unmade (unsettled_needs c one is none)))

kept_second : (c file o : List ℕ) (v g : ℕ) → IsChosen o c true v g → KeepsKind c file → (version generation : ℕ) × IsChosen o file true version generation
kept_second c file o v g (second v' g' other is also less) keeps = (v, g, second v g other (keeps.settled v g is) also less)

-- a file that keeps the kind of the current one is current
pub still_current : (b : Bool) (v g : ℕ) (c file o : List ℕ) → IsChosen (first_of b c o) (second_of b c o) b v g → KeepsKind c file → IsCurrent b file o
still_current true v g c file o chosen keeps = kept_second c file o v g chosen keeps
still_current false v g c file o chosen keeps = kept_first c file o v g chosen keeps

pub kept_recovers : (b : Bool) (v g : ℕ) (c file o : List ℕ) (outcome : Outcome) → IsChosen (first_of b c o) (second_of b c o) b v g → KeepsKind c file → Recovers file outcome → RecoversPair (first_of b file o) (second_of b file o) outcome
kept_recovers b v g c file o outcome chosen keeps is = let now = still_current b v g c file o chosen keeps in to_roles b now.0 now.1 file o now.2 outcome is

-- what a run over the current file leaves, beside what a stop leaves of the other
pub run_recovers : (b : Bool) (other : List ℕ) (before now : ℕ) (old new : ℕ → List ℕ → Type 0) (leaves' : List ℕ → Type 0) (k : ℕ) (file file' : List ℕ) (outcome : Outcome) → IsBeside b other (old before) leaves'
    → LeavesOnly before now old new (KeepsOneOf (old before)) → before ≤ k → k ≤ now → new k file → leaves' file' → Recovers file outcome → RecoversPair (first_of b file file') (second_of b file file') outcome
run_recovers b other before now old new leaves' k file file' outcome beside run low high left left' is =
    let one = run.each k file low high left in
    let keeps : KeepsKind beside.current file = keeps_on beside.current one.was file (beside.kept one.was one.left) one.keeps in
    subst (λ (f : List ℕ). RecoversPair (first_of b file f) (second_of b file f) outcome) (sym (beside.other_only file' left'))
    (kept_recovers b beside.version beside.generation beside.current file other outcome beside.chosen keeps is)
