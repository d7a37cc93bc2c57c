-- What a stop leaves, in the kernel's words.
use Rattle.std.proofs.Common.{◌≡◌, ℕ, List, ◌++◌, Option, Some, ap, ◌∙◌, inl, inr}
use Rattle.std.specs.Option.{unwrap_or}
use Rattle.sp_rect.specs.declared.record.Record.{Record}
use Rattle.sp_plain.specs.Taking.{taken}
use Rattle.sp_txn.specs.Visible.{live}
use Rattle.sp_journal.specs.declared.work.Phase.{Phase}
use Rattle.sp_journal.specs.declared.work.Phase.TheVariants.{Ready, Written, Settled, Opened, Broken}
use Rattle.sp_journal.specs.declared.work.Work.{Work}
use Rattle.sp_journal.specs.Format.{framed}
use Rattle.sp_journal.specs.Recovery.{all_changes}
use Rattle.sp_journal.specs.Standing.{Ledger, Stands, Lies, IsInFlight, IsBefore, IsAfter, IsBeforeOrAfter, MayLeave, found_with}
use Rattle.sp_journal.proofs.Crashes.{closed_gate, any_gate}
use Rattle.sp_model.specs.State.{Kernel, entries_in}
use Rattle.sp_model.specs.Moves.{placed_all}
use Rattle.sp_model.proofs.Bare.{Bare}
use Rattle.sp_model.proofs.Flushing.{placed_all-sound}
use Rattle.sp_durable.specs.Standing.{Matches}
use Rattle.sp_durable.specs.Recovered.{HoldsCommits, HoldsOrMore, IsLeft, IsLeftInCall}
use Rattle.sp_durable.proofs.Batches.{flight_applies}

module _ (k : Kernel) (ledger : Ledger) (sound : Bare k) (same : Matches k ledger) where
  -- the batch in flight, made of what is written
  pub batch_made : taken (all_changes ledger.flight) ledger.base.found.records ≡ Some (live (entries_in (placed_all k)))
  batch_made = ap (taken (all_changes ledger.flight)) same.records ∙ flight_applies k ledger.flight sound same.flight

  before : (file : List ℕ) → IsBefore ledger file → HoldsCommits k file
  before file h = record { found = ledger.base.found; recovers = h; same = same.records ∙ sound.current }

  after : (file : List ℕ) → IsAfter ledger file → HoldsCommits (placed_all k) file
  after file h = record {
    found = found_with ledger.base ledger.flight;
    recovers = h;
    same = ap (λ (o : Option (List Record)). unwrap_or o ledger.base.found.records) batch_made ∙ (placed_all-sound k sound).current;
  }

  either : (file : List ℕ) → IsBeforeOrAfter ledger file → HoldsOrMore k file
  either file (inl h) = inl (before file h)
  either file (inr h) = inr (after file h)

  pub left_in_call : (phase : Phase) (file : List ℕ) → MayLeave phase ledger file → IsLeftInCall phase k file
  left_in_call Ready file h = before file h
  left_in_call Written file h = before file h
  left_in_call Settled file h = either file h
  left_in_call Opened file h = either file h
  left_in_call Broken file h = either file h

  module _ (reads : List ℕ) (leaves : List ℕ → Type 0) (work : Work) (stands : Stands reads leaves work ledger) (file : List ℕ) (left : leaves file) where
    at_phase : (phase : Phase) → Lies phase ledger reads leaves → IsInFlight phase ledger.flight → IsLeft phase k file
    at_phase Ready lies flies = before file (closed_gate ledger.base lies.0 lies.1 file stands.base lies.2 (lies.4 file left ∙ lies.3))
    at_phase Written lies flies = let rest = lies.4 file left in before file (closed_gate ledger.base lies.0 rest.0 file stands.base lies.2 rest.1)
    at_phase Settled lies flies = before file (closed_gate ledger.base lies.0 (framed ledger.flight ++ lies.1) file stands.base lies.2 (lies.4 file left ∙ lies.3))
    at_phase Opened lies flies = let gate = lies.2 file left in either file (any_gate ledger gate.0 lies.0 file (live (entries_in (placed_all k))) stands.base stands.settled flies batch_made gate.1)
    at_phase Broken lies flies = either file (lies file left)

    pub left_between : IsLeft work.phase k file
    left_between = at_phase work.phase stands.file stands.in_flight
