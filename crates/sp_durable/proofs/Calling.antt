-- What a commit and a flush leave of the commits that wait.
use Rattle.std.proofs.Common.{◌≡◌, ℕ, zero, suc, ◌+◌, ◌<◌, ◌≤◌, List, [], ◌∷◌, ◌++◌, length, Option, Some, None, refl, sym, ap, ◌∙◌, subst, arith}
use Rattle.sp_plain.specs.declared.change.Change.{Change}
use Rattle.sp_node.specs.Table.{Table}
use Rattle.sp_event.specs.declared.event.Event.TheVariants.{Commit as AskCommit, Flush}
use Rattle.sp_event.specs.declared.answer.Answer.{Answer}
use Rattle.sp_event.specs.declared.answer.Answer.TheVariants.{Queued as IsQueued, Stopped}
use Rattle.sp_rect.specs.declared.record.Record.{Record}
use Rattle.sp_journal.specs.declared.types.Call.TheVariants.{Nothing, Wrote, Durable, Fault}
use Rattle.sp_journal.specs.declared.work.Phase.{Phase}
use Rattle.sp_journal.specs.declared.work.Phase.TheVariants.{Ready, Written, Settled, Opened, Broken}
use Rattle.sp_journal.specs.Standing.{Ledger, turned, queued_behind}
use Rattle.std.specs.Option.{unwrap_or}
use Rattle.sp_model.specs.declared.session.Session.{Session}
use Rattle.sp_model.specs.declared.session.Stage.{Stage}
use Rattle.sp_model.specs.declared.session.Stage.TheVariants.{Idle, Queued, Placed}
use Rattle.sp_model.specs.State.{Kernel, entries_in, session_at}
use Rattle.sp_model.specs.Refusals.{stops, turned_away}
use Rattle.sp_model.specs.Moves.{with_stage, placed_all, taken_off}
use Rattle.sp_model.specs.Stepped.{Does, IsAt}
use Rattle.sp_model.proofs.Bare.{Bare}
use Rattle.sp_model.proofs.Sessions.{found-among}
use Rattle.sp_model.proofs.Turned.{none-first}
use Rattle.sp_model.proofs.Flushing.{queued_up}
use Rattle.sp_durable.specs.Held.{AreChanges}
use Rattle.sp_durable.specs.Standing.{Matches, phase_after, phase_of, call_of}
use Rattle.sp_durable.proofs.Batches.{joined, flight_joined, queue_stays_placed}
use Rattle.sp_durable.proofs.Leaving.{batch_made}

-- the session of a number is one
pub same_session : (o : Option Session) (x y : Session) → o ≡ Some x → o ≡ Some y → x ≡ y
same_session o x y h k = some (sym h ∙ k)
  where
    some : Some x ≡ Some y → x ≡ y
    some e = cc

pub other_stage : (k : Kernel) (s : ℕ) (x y : Session) (a b : Stage) → IsAt k s x → IsAt k s y → x.stage ≡ a → y.stage ≡ b → a ≡ b
other_stage k s x y a b h i j l = sym j ∙ ap (λ (z : Session). z.stage) (same_session (session_at s k.sessions) x y h i) ∙ l

pub waits_leave : (IsRemoved : Table → ℕ → Table → Type 0) (k : Kernel) (s : ℕ) (x : Session) (answer : Answer) (after : Kernel) (ledger : Ledger) → IsAt k s x → x.stage ≡ Queued → Does IsRemoved k (AskCommit s) answer after → Matches k ledger → Matches after ledger
waits_leave IsRemoved k s x _ _ ledger at queued (Does.Commits _ y found idle none) same = absurd (apart (other_stage k s x y Queued Idle at found queued idle))
  where
    apart : Queued ≡ Idle → ⊥
    apart e = cc
waits_leave IsRemoved k s x _ _ ledger at queued (Does.JoinsQueue _ y found idle some) same = absurd (apart (other_stage k s x y Queued Idle at found queued idle))
  where
    apart : Queued ≡ Idle → ⊥
    apart e = cc
waits_leave IsRemoved k s x _ _ ledger at queued (Does.StaysQueued _ y found stays) same = same
waits_leave IsRemoved k s x _ _ ledger at queued (Does.TellsPlace _ y found placed) same = absurd (apart (other_stage k s x y Queued Placed at found queued placed))
  where
    apart : Queued ≡ Placed → ⊥
    apart e = cc

-- a transaction with its changes joins the queue
queued_up-matches : (k : Kernel) (x : Session) (changes : List Change) (ledger : Ledger) → Bare k → IsAt k x.txn.session x → x.stage ≡ Idle → AreChanges (entries_in k) x.txn.number changes → Matches k ledger → Matches (queued_up x k) (queued_behind ledger changes)
queued_up-matches k x changes ledger sound at idle are same =
    let here = (found-among x.txn.session k.sessions x at).0 in
    record {
      records = same.records;
      flight = flight_joined k x changes sound here idle are ledger.flight same.flight;
      queued = joined k x changes sound here idle are ledger.queued same.queued;
    }

pub joins_leave : (IsRemoved : Table → ℕ → Table → Type 0) (k : Kernel) (s : ℕ) (x : Session) (changes : List Change) (answer : Answer) (after : Kernel) (ledger : Ledger) → Bare k → IsAt k s x → x.stage ≡ Idle → AreChanges (entries_in k) x.txn.number changes
    → Does IsRemoved k (AskCommit s) answer after → answer ≡ IsQueued → Matches k ledger → Matches after (queued_behind ledger changes)
joins_leave IsRemoved k s x changes _ _ ledger sound at idle are (Does.Commits _ y found stays none) is same = absurd (cc)
joins_leave IsRemoved k s x changes _ _ ledger sound at idle are (Does.JoinsQueue _ y found stays some) is same =
    let f = found-among s k.sessions x at in
    subst (λ (n : ℕ). Matches (record (with_stage n Queued k) { queue = k.queue ++ n ∷ [] }) (queued_behind ledger changes)) f.1
    (queued_up-matches k x changes ledger sound (subst (λ (n : ℕ). session_at n k.sessions ≡ Some x) (sym f.1) at) idle are same)
joins_leave IsRemoved k s x changes _ _ ledger sound at idle are (Does.StaysQueued _ y found queued) is same = absurd (apart (other_stage k s x y Idle Queued at found idle queued))
  where
    apart : Idle ≡ Queued → ⊥
    apart e = cc
joins_leave IsRemoved k s x changes _ _ ledger sound at idle are (Does.TellsPlace _ y found placed) is same = absurd (apart (other_stage k s x y Idle Placed at found idle placed))
  where
    apart : Idle ≡ Placed → ⊥
    apart e = cc

-- a flush that is made has met no fault
pub unstopped : (k : Kernel) → turned_away k Flush ≡ None → k.stopped ≡ None
unstopped k free = go k.stopped (none-first (stops k.stopped Flush None) _ free).0
  where
    go : (o : Option ℕ) → stops o Flush None ≡ None → o ≡ None
    go None h = refl
    go (Some offset) h = absurd (some h)
      where
        some : Some (Stopped offset) ≡ None → ⊥
        some e = cc

turned_nothing : (phase : Phase) (ledger : Ledger) → turned phase Nothing ledger ≡ ledger
turned_nothing Ready ledger = refl
turned_nothing Written ledger = refl
turned_nothing Settled ledger = refl
turned_nothing Opened ledger = refl
turned_nothing Broken ledger = refl

turned_between : (calls : ℕ) (ledger : Ledger) → 1 ≤ calls → calls < 3 → turned (phase_after calls) Wrote ledger ≡ ledger
turned_between zero ledger some few = absurd (omega arith)
turned_between (suc zero) ledger some few = refl
turned_between (suc (suc zero)) ledger some few = refl
turned_between (suc (suc (suc calls))) ledger some few = absurd (omega arith)

pub flush_leaves : (IsRemoved : Table → ℕ → Table → Type 0) (k : Kernel) (answer : Answer) (after : Kernel) (ledger : Ledger) → Bare k → k.stopped ≡ None → Does IsRemoved k Flush answer after → Matches k ledger → Matches after (turned (phase_of k.stopped k.calls) (call_of answer) ledger)
flush_leaves IsRemoved k _ _ ledger sound whole (Does.FlushesNothing none empty) same = subst (Matches k) (sym (turned_nothing (phase_of k.stopped k.calls) ledger)) same
flush_leaves IsRemoved k _ _ ledger sound whole (Does.TakesOff none some) same =
    subst (λ (p : Phase). Matches (taken_off k) (turned p Wrote ledger)) (sym (at k.stopped k.calls whole (sound.queued.none none)))
    (record { records = same.records; flight = same.queued; queued = tt })
  where
    at : (o : Option ℕ) (calls : ℕ) → o ≡ None → calls ≡ 0 → phase_of o calls ≡ Ready
    at o calls h z = rw (h, z) refl
flush_leaves IsRemoved k _ _ ledger sound whole (Does.Writes some few) same =
    subst (Matches (record k { calls = k.calls + 1 })) (sym (ap (λ (o : Option ℕ). turned (phase_of o k.calls) Wrote ledger) whole ∙ turned_between k.calls ledger (sound.queued.begun some) few))
    (record { records = same.records; flight = same.flight; queued = same.queued })
flush_leaves IsRemoved k _ _ ledger sound whole (Does.IsDurable some all) same =
    subst (λ (p : Phase). Matches (placed_all k) (turned p (Durable (length k.flight)) ledger)) (sym (at k.stopped k.calls whole all))
    (record {
      records = ap (λ (o : Option (List Record)). unwrap_or o ledger.base.found.records) (batch_made k ledger sound same);
      flight = tt;
      queued = queue_stays_placed k ledger.queued sound same.queued;
    })
  where
    at : (o : Option ℕ) (calls : ℕ) → o ≡ None → calls ≡ 3 → phase_of o calls ≡ Opened
    at o calls h z = rw (h, z) refl

turned_fault : (phase : Phase) (offset : ℕ) (ledger : Ledger) → turned phase (Fault offset) ledger ≡ ledger
turned_fault Ready offset ledger = refl
turned_fault Written offset ledger = refl
turned_fault Settled offset ledger = refl
turned_fault Opened offset ledger = refl
turned_fault Broken offset ledger = refl

-- a fault of the disk
pub fault_leaves : (k : Kernel) (offset : ℕ) (ledger : Ledger) → Matches k ledger → Matches (record k { stopped = Some offset }) (turned (phase_of k.stopped k.calls) (Fault offset) ledger)
fault_leaves k offset ledger same =
    subst (Matches (record k { stopped = Some offset })) (sym (turned_fault (phase_of k.stopped k.calls) offset ledger)) (record { records = same.records; flight = same.flight; queued = same.queued })
