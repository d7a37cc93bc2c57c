-- What a stop leaves of a kernel while the disk stands still.
use Rattle.std.proofs.Common.{ℕ, List, inl}
use Rattle.sp_disk.specs.Moments.{LeavesOnly}
use Rattle.sp_journal.specs.declared.work.Phase.{Phase}
use Rattle.sp_journal.specs.declared.work.Phase.TheVariants.{Ready, Written, Settled, Opened, Broken}
use Rattle.sp_journal.specs.declared.work.Work.{Work}
use Rattle.sp_journal.proofs.Passing.{no_call}
use Rattle.sp_model.specs.State.{Kernel}
use Rattle.sp_model.specs.Soundness.{Sound}
use Rattle.sp_model.proofs.Bare.{bare}
use Rattle.sp_durable.specs.Recovered.{IsLeft, IsLeftInCall, HoldsOrMore}
use Rattle.sp_durable.proofs.Leaving.{left_between}
use Rattle.sp_kernel.specs.Whole.{Agrees}

left_in_call : (phase : Phase) (k : Kernel) (file : List ℕ) → IsLeft phase k file → IsLeftInCall phase k file
left_in_call Ready k file h = h
left_in_call Written k file h = h
left_in_call Settled k file h = inl h
left_in_call Opened k file h = h
left_in_call Broken k file h = h

pub still_leaves : (k : Kernel) (work : Work) (reads : List ℕ) (now : ℕ) (images : ℕ → List ℕ → Type 0) → Sound k → Agrees k work reads (images now) → LeavesOnly now now images images (IsLeftInCall work.phase k)
still_leaves k work reads now images sound held = no_call now images (IsLeftInCall work.phase k)
    (λ file left. left_in_call work.phase k file (left_between k held.ledger (bare k sound) held.matches reads (images now) work held.stands file left))

or_more : (phase : Phase) (k : Kernel) (file : List ℕ) → IsLeft phase k file → HoldsOrMore k file
or_more Ready k file h = inl h
or_more Written k file h = inl h
or_more Settled k file h = inl h
or_more Opened k file h = h
or_more Broken k file h = h

pub still_holds : (k : Kernel) (work : Work) (reads : List ℕ) (leaves : List ℕ → Type 0) → Sound k → Agrees k work reads leaves → (file : List ℕ) → leaves file → HoldsOrMore k file
still_holds k work reads leaves sound held file left = or_more work.phase k file (left_between k held.ledger (bare k sound) held.matches reads leaves work held.stands file left)
