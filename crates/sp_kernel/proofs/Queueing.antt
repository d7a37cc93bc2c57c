-- A commit, and what it leaves of the agreement of the kernel with its journal.
use Rattle.std.proofs.Common.{◌≡◌, ◌≢◌, ◌⊎◌, ℕ, ◌+◌, false, List, [], ◌∷◌, ◌++◌, length, Option, Some, None, refl, sym, ap, ◌∙◌, subst, inl, inr, true≢false}
use Rattle.std.specs.Prelude.{Result, Ok, Err, IsOk, IfOk}
use Rattle.sp_rect.specs.declared.record.Record.{Record}
use Rattle.sp_plain.specs.declared.change.Change.{Change}
use Rattle.sp_plain.specs.Taking.{taken}
use Rattle.sp_event.specs.declared.event.Event.{Event}
use Rattle.sp_event.specs.declared.event.Event.TheVariants.{Commit as AskCommit, Flush}
use Rattle.sp_event.specs.declared.answer.Answer.{Answer}
use Rattle.sp_event.specs.declared.answer.Answer.TheVariants.{Queued as IsQueued}
use Rattle.sp_event.specs.declared.answer.Why.{Why}
use Rattle.sp_journal.specs.declared.work.Work.{Work}
use Rattle.sp_journal.specs.Recovery.{all_changes}
use Rattle.sp_journal.specs.Standing.{Ledger, Stands, queued_behind}
use Rattle.sp_model.specs.declared.session.Session.{Session}
use Rattle.sp_model.specs.declared.session.Stage.{Stage}
use Rattle.sp_model.specs.declared.session.Stage.TheVariants.{Idle, Started, NameWait, Named, NeedWait, Planned, Queued, Placed}
use Rattle.sp_model.specs.State.{Kernel, entries_in, session_at}
use Rattle.sp_model.specs.Refusals.{refusal, turned_away}
use Rattle.sp_model.specs.Removal.{IsTakenOut}
use Rattle.sp_model.specs.Stepped.{Does, IsAt, has_changes}
use Rattle.sp_model.specs.Soundness.{Sound}
use Rattle.sp_model.proofs.Bare.{bare}
use Rattle.sp_model.proofs.Sessions.{found-among}
use Rattle.sp_model.proofs.Stepping.{does_keeps}
use Rattle.sp_model.proofs.Turned.{is_let}
use Rattle.std.specs.List.Sorted.{IsPermutation, IsSortedBy}
use Rattle.sp_node.specs.declared.node.Entry.{Entry}
use Rattle.sp_txn.specs.Changes.{changes_of, precedes}
use Rattle.sp_durable.specs.Held.{AreChanges}
use Rattle.sp_durable.specs.Standing.{Counted}
use Rattle.sp_durable.proofs.Batches.{one_more_applies}
use Rattle.sp_durable.proofs.Calling.{joins_leave, other_stage}
use Rattle.sp_durable.proofs.Counting.{joins_count, others_count}
use Rattle.sp_durable.proofs.Passing.{does_leave, matches_still}
use Rattle.sp_kernel.specs.Whole.{Agrees}

-- an answer that is there
ok_of : {A E : Type 0} (r : Result A E) (P Q : A → Type 0) → IsOk r → IfOk r P → IfOk r Q → (v : A) × P v × Q v
ok_of (Ok v) P Q is p q = (v, p, q)
ok_of (Err e) P Q is p q = absurd (true≢false (sym is))

-- the changes that were made out
pub changes_are : (es : List Entry) (n txn : ℕ) (changes : List Change) → n ≡ txn → IsPermutation (changes_of n es) changes → IsSortedBy precedes changes → AreChanges es txn changes
changes_are es n txn changes e exact ordered = record { exact = subst (λ (m : ℕ). IsPermutation (changes_of m es) changes) e exact; ordered = ordered }

-- a session that joins the queue is counted with its changes
pub joined_counted : {E : Type 0} (result : Result Answer E) (k : Kernel) (s : ℕ) (x : Session) (changes : List Change) (after : Kernel) (old new : Work) → Sound k → IsAt k s x → x.stage ≡ Idle → AreChanges (entries_in k) x.txn.number changes
    → IsOk result → IfOk result (λ answer. Does IsTakenOut k (AskCommit s) answer after) → IfOk result (λ answer. answer ≡ IsQueued)
    → Counted k old → new.phase ≡ old.phase → new.end ≡ old.end → new.flying ≡ old.flying → new.commits ≡ old.commits + 1 → new.changes ≡ old.changes + length changes → Counted after new
joined_counted result k s x changes after old new sound at idle are is done queued counted phase end flying commits made =
    let a = ok_of result (λ answer. Does IsTakenOut k (AskCommit s) answer after) (λ answer. answer ≡ IsQueued) is done queued in
    joins_count IsTakenOut k s x changes a.0 after old new (bare k sound) at idle are a.1 a.2 counted phase end flying commits made

-- and its changes stand behind those that are queued
pub joined_agrees : {E : Type 0} (result : Result Answer E) (k : Kernel) (s : ℕ) (x : Session) (changes : List Change) (after : Kernel) (old new : Work) (reads : List ℕ) (leaves : List ℕ → Type 0) → Sound k → IsAt k s x → x.stage ≡ Idle → AreChanges (entries_in k) x.txn.number changes
    → IsOk result → IfOk result (λ answer. Does IsTakenOut k (AskCommit s) answer after) → IfOk result (λ answer. answer ≡ IsQueued)
    → ((ledger : Ledger) (records : List Record) → Stands reads leaves old ledger → taken (all_changes (ledger.flight ++ (ledger.queued ++ changes ∷ []))) ledger.base.found.records ≡ Some records → Stands reads leaves new (queued_behind ledger changes))
    → Agrees k old reads leaves → Agrees after new reads leaves
joined_agrees result k s x changes after old new reads leaves sound at idle are is done queued stands held =
    let a = ok_of result (λ answer. Does IsTakenOut k (AskCommit s) answer after) (λ answer. answer ≡ IsQueued) is done queued in
    let f = found-among s k.sessions x at in
    let more = one_more_applies k x changes (bare k sound) f.0 idle are held.ledger.flight held.ledger.queued held.matches.flight held.matches.queued in
    record {
      ledger = queued_behind held.ledger changes;
      stands = stands held.ledger more.0 held.stands (ap (λ (rs : List Record). taken (all_changes (held.ledger.flight ++ (held.ledger.queued ++ changes ∷ []))) rs) held.matches.records ∙ more.1);
      matches = joins_leave IsTakenOut k s x changes a.0 after held.ledger (bare k sound) at idle are a.1 a.2 held.matches;
    }

-- the commit of a placed session, or of one without changes, does not join the queue
pub not_queued : (k : Kernel) (s : ℕ) (x : Session) (answer : Answer) (after : Kernel) → IsAt k s x → (x.stage ≡ Placed) ⊎ (has_changes k x ≡ false) → x.stage ≢ Queued → Does IsTakenOut k (AskCommit s) answer after → answer ≢ IsQueued
not_queued k s x _ _ at plain other (Does.Commits _ y found idle none) e = cc
not_queued k s x _ _ at (inl placed) other (Does.JoinsQueue _ y found idle some) e = apart (other_stage k s x y Placed Idle at found placed idle)
  where
    apart : Placed ≡ Idle → ⊥
    apart h = cc
not_queued k s x _ _ at (inr none) other (Does.JoinsQueue _ y found idle some) e = true≢false (sym some ∙ ap (has_changes k) (one y x (sym found ∙ at)) ∙ none)
  where
    one : (a b : Session) → Some a ≡ Some b → a ≡ b
    one a b h = cc
not_queued k s x _ _ at plain other (Does.StaysQueued _ y found queued) e = other (ap (λ (z : Session). z.stage) (one x y (sym at ∙ found)) ∙ queued)
  where
    one : (a b : Session) → Some a ≡ Some b → a ≡ b
    one a b h = cc
not_queued k s x _ _ at plain other (Does.TellsPlace _ y found placed) e = cc

-- an event that joins no queue and is no flush leaves the counts and what the disk holds
module _ (k : Kernel) (event : Event) (answer : Answer) (after : Kernel) (sound : Sound k) (free : turned_away k event ≡ None) (flush : event ≢ Flush) (queued : answer ≢ IsQueued) (does : Does IsTakenOut k event answer after) where
  sound' : Sound after
  sound' = does_keeps IsTakenOut (λ t number t' valid ascending few taken. taken.keeps) k event answer after sound free does

  pub others_counted : (work : Work) → Counted k work → Counted after work
  others_counted work counted = others_count k after work (bare k sound) (bare after sound') (does_leave k (bare k sound) IsTakenOut (λ t number t' valid ascending few taken. taken.keeps) event answer after does free flush queued (bare after sound')) counted

  pub others_agree : (work : Work) (reads : List ℕ) (leaves : List ℕ → Type 0) → Agrees k work reads leaves → Agrees after work reads leaves
  others_agree work reads leaves held = record {
    ledger = held.ledger;
    stands = held.stands;
    matches = matches_still k after held.ledger (bare k sound) (bare after sound') (does_leave k (bare k sound) IsTakenOut (λ t number t' valid ascending few taken. taken.keeps) event answer after does free flush queued (bare after sound')) held.matches;
  }

commit_flush : (s : ℕ) → AskCommit s ≢ Flush
commit_flush s e = cc

module _ (k : Kernel) (s : ℕ) (x : Session) (answer : Answer) (after : Kernel) (sound : Sound k) (free : turned_away k (AskCommit s) ≡ None) (at : IsAt k s x) (plain : (x.stage ≡ Placed) ⊎ (has_changes k x ≡ false)) (other : x.stage ≢ Queued) (does : Does IsTakenOut k (AskCommit s) answer after) where
  pub plain_counted : (work : Work) → Counted k work → Counted after work
  plain_counted work = others_counted k (AskCommit s) answer after sound free (commit_flush s) (not_queued k s x answer after at plain other does) does work

  pub plain_agrees : (work : Work) (reads : List ℕ) (leaves : List ℕ → Type 0) → Agrees k work reads leaves → Agrees after work reads leaves
  plain_agrees work reads leaves = others_agree k (AskCommit s) answer after sound free (commit_flush s) (not_queued k s x answer after at plain other does) does work reads leaves

-- a session whose commit is let is idle where it neither waits nor has its place
pub commit_idle : (k : Kernel) (s : ℕ) (x : Session) → turned_away k (AskCommit s) ≡ None → IsAt k s x → x.stage ≢ Queued → x.stage ≢ Placed → x.stage ≡ Idle
commit_idle k s x free at unqueued unplaced = go x.stage unqueued unplaced (subst (λ (o : Option Session). refusal (AskCommit s) o ≡ None) at (is_let k (AskCommit s) free).refusal)
  where
    some : (why : Why) → Some why ≡ None → ⊥
    some why e = cc

    go : (stage : Stage) → stage ≢ Queued → stage ≢ Placed → refusal (AskCommit s) (Some (record x { stage = stage })) ≡ None → stage ≡ Idle
    go Idle q p r = refl
    go (Started op) q p r = absurd (some _ r)
    go (NameWait op) q p r = absurd (some _ r)
    go (Named op) q p r = absurd (some _ r)
    go (NeedWait op) q p r = absurd (some _ r)
    go (Planned op left) q p r = absurd (some _ r)
    go Queued q p r = absurd (q refl)
    go Placed q p r = absurd (p refl)

pub commit_there : (k : Kernel) (s : ℕ) → turned_away k (AskCommit s) ≡ None → session_at s k.sessions ≡ None → ⊥
commit_there k s free none = some _ (subst (λ (o : Option Session). refusal (AskCommit s) o ≡ None) none (is_let k (AskCommit s) free).refusal)
  where
    some : (why : Why) → Some why ≡ None → ⊥
    some why e = cc
