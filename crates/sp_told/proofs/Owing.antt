-- What the commits of sessions whose places are to be told, and the end of a batch, leave of the agreement on commits.
use Rattle.std.proofs.Common.{◌≡◌, ◌≢◌, ℕ, Bool, true, false, not, ◌||◌, List, [], ◌∷◌, ◌++◌, map, nat_eq, Option, None, Some, refl, sym, ap, ◌∙◌, subst, inl, inr, true≢false, append-nil, append_assoc, arith}
use Rattle.std.specs.List.{IsDistinct, list_any}
use Rattle.std.proofs.lemmas.Bool.Decides.{nat_tests}
use Rattle.std.proofs.lemmas.Map.Keys.{IsDistinct-tail}
use Rattle.sp_rect.specs.declared.commit.Commit.{Commit}
use Rattle.sp_locks.specs.declared.mode.Mode.{Mode}
use Rattle.sp_locks.specs.declared.row.Name.{Name}
use Rattle.sp_locks.specs.declared.row.Duration.{Duration}
use Rattle.sp_locks.specs.declared.row.Duration.TheVariants.{Commit as ToTheEnd}
use Rattle.sp_node.specs.Among.{Among}
use Rattle.sp_node.specs.Table.{Table}
use Rattle.sp_node.proofs.Among.{among_left}
use Rattle.sp_event.specs.declared.event.Event.{Event}
use Rattle.sp_event.specs.declared.event.Event.TheVariants.{Commit as AskCommit, Flush}
use Rattle.sp_event.specs.declared.answer.Answer.{Answer}
use Rattle.sp_event.specs.declared.answer.Answer.TheVariants.{Stopped}
use Rattle.sp_text.specs.Transcripts.{Ledger, of_session, of_others, with_place, stepped_to}
use Rattle.sp_model.specs.declared.session.Session.{Session}
use Rattle.sp_model.specs.declared.session.Stage.{Stage}
use Rattle.sp_model.specs.declared.session.Stage.TheVariants.{Idle, Started, NameWait, Named, NeedWait, Planned, Queued, Placed}
use Rattle.sp_model.specs.State.{Kernel, is_active, is_active_stage, session_at, with_change}
use Rattle.sp_model.specs.Refusals.{first_of, answer_if, stops, is_placed, commit_refused, refusal, refused, turned_away}
use Rattle.sp_model.specs.Moves.{Requests, at_place, placed_found, placed_each, placed_all}
use Rattle.sp_model.specs.Stepped.{Does, IsAt, last_place}
use Rattle.sp_model.specs.Soundness.{is_queued, AreAscending, QueueSound}
use Rattle.sp_model.proofs.Sessions.{among-found, number-apart}
use Rattle.sp_model.proofs.Dead.{distinct-cons, distinct-out, distinct-empty}
use Rattle.sp_told.specs.Telling.{owed, TellsCommits, TellsStarted}
use Rattle.sp_told.proofs.Pending.{pends_dropped}
use Rattle.sp_told.proofs.Changes.{SessionsAnew, session_goes, session_changes}
use Rattle.sp_told.proofs.Steps.{as_before, place_tells}
use Rattle.sp_told.proofs.Late.{late_tells}
use Rattle.sp_told.proofs.Commits.{own_number, active_at}
use Rattle.sp_told.proofs.Starting.{started_same, started_idle}

-- the first session whose place is to be told is placed
pub first_placed : (before : List Commit) (l : Ledger) (k : Kernel) (s : ℕ) (rest : List ℕ) → TellsCommits before l k (s ∷ rest) → is_placed (session_at s k.sessions) ≡ true
first_placed before l k s rest t = t.placed s ∙ self s (list_any (nat_eq s) rest)
  where
    self : (n : ℕ) (b : Bool) → (nat_eq n n || b) ≡ true
    self n b = grind (arith, nat_tests)

-- so its commit is not turned away
stops-none : (stopped : Option ℕ) (s : ℕ) (o : Option Session) → is_placed o ≡ true → stops stopped (AskCommit s) o ≡ None
stops-none None s o h = refl
stops-none (Some offset) s o h = ap (λ b. answer_if (not b) (Stopped offset)) h

commit-placed : (stage : Stage) → not (is_active_stage stage) ≡ true → commit_refused stage ≡ None
commit-placed Placed h = refl
commit-placed Idle h = refl
commit-placed Queued h = refl
commit-placed (Started op) h = absurd (true≢false (sym h))
commit-placed (NameWait op) h = absurd (true≢false (sym h))
commit-placed (Named op) h = absurd (true≢false (sym h))
commit-placed (NeedWait op) h = absurd (true≢false (sym h))
commit-placed (Planned op left) h = absurd (true≢false (sym h))

refusal-none : (s : ℕ) (o : Option Session) → is_placed o ≡ true → refused (refusal (AskCommit s) o) ≡ None
refusal-none s None h = absurd (true≢false (sym h))
refusal-none s (Some x) h = ap refused (commit-placed x.stage h)

pub placed_let : (k : Kernel) (s : ℕ) → is_placed (session_at s k.sessions) ≡ true → turned_away k (AskCommit s) ≡ None
placed_let k s h = both (stops k.stopped (AskCommit s) (session_at s k.sessions)) (refused (refusal (AskCommit s) (session_at s k.sessions))) (stops-none k.stopped s (session_at s k.sessions) h) (refusal-none s (session_at s k.sessions) h)
  where
    both : (a b : Option Answer) → a ≡ None → b ≡ None → first_of (a ∷ b ∷ None ∷ None ∷ None ∷ []) ≡ None
    both a b e f = rw (e, f) refl

module _ (before : List Commit) (l : Ledger) (k : Kernel) (s : ℕ) (rest : List ℕ) (t : TellsCommits before l k (s ∷ rest)) where
  inactive : (x : Session) → IsAt k s x → is_active x ≡ false
  inactive x at = back (is_active x) (sym (ap is_placed at) ∙ first_placed before l k s rest t)
    where
      back : (b : Bool) → not b ≡ true → b ≡ false
      back b h = grind arith

  never : (x : Session) (stage : Stage) → IsAt k s x → x.stage ≡ stage → is_active_stage stage ≡ true → ⊥
  never x stage at is a = true≢false (sym (active_at x stage is a) ∙ inactive x at)

  pub told_tells : (IsRemoved : Table → ℕ → Table → Type 0) (answer : Answer) (after : Kernel) → Does IsRemoved k (AskCommit s) answer after → TellsCommits before (stepped_to l (AskCommit s) answer) after rest
  told_tells IsRemoved _ _ (Does.Commits _ x at is none) = absurd (never x Idle at is refl)
  told_tells IsRemoved _ _ (Does.JoinsQueue _ x at is some) = absurd (never x Idle at is refl)
  told_tells IsRemoved _ _ (Does.StaysQueued _ x at is) = absurd (never x Queued at is refl)
  told_tells IsRemoved _ _ (Does.TellsPlace _ x at is) =
      late_tells before l (record l { pending = of_others s l.pending; done = l.done ++ map (with_place (last_place s k.commits 0)) (of_session s l.pending) }) k _ s rest x t at (inactive x at)
      (session_goes s s k.sessions refl) (pends_dropped s l.pending) refl refl

-- the open transactions of these sessions
abbrev AreOpen : Kernel → List ℕ → Type 0
AreOpen k batch = (s : ℕ) → Among s batch → (x : Session) × IsAt k s x × (is_active x ≡ true)

distinct-first : (xs ys : List ℕ) → IsDistinct nat_eq (xs ++ ys) → IsDistinct nat_eq xs
distinct-first [] ys d = distinct-empty
distinct-first (x ∷ xs) ys d = distinct-cons x xs (λ i. distinct-out x (xs ++ ys) d (among_left x xs ys i)) (distinct-first xs ys (IsDistinct-tail nat_eq x (xs ++ ys) d))

one_placed : (k : Kernel) (s : ℕ) (x : Session) → IsAt k s x → SessionsAnew s k.sessions (with_change x.txn.session at_place k.sessions) (Some (at_place x))
one_placed k s x at = session_changes s x.txn.session at_place k.sessions x (own_number k s x at) (λ y. refl) at

rest_open : (k : Kernel) (s : ℕ) (rest : List ℕ) (x : Session) → IsAt k s x → IsDistinct nat_eq (s ∷ rest) → AreOpen k (s ∷ rest) → AreOpen (placed_found (Some x) k) rest
rest_open k s rest x at d all n i =
    let o = all n (inr i) in
    let apart : nat_eq n s ≡ false = number-apart n s (λ e. distinct-out s rest d (subst (λ m. Among m rest) e i)) in
    (o.0, (one_placed k s x at).others n apart ∙ o.1, o.2)

-- the batch takes its places, which are to be told
each_tells : (before : List Commit) (l : Ledger) (batch : List ℕ) (k : Kernel) (owing : List ℕ) → TellsCommits before l k owing → IsDistinct nat_eq batch → AreOpen k batch → TellsCommits before l (placed_each batch k) (owing ++ batch)
each_tells before l [] k owing t d all = subst (TellsCommits before l k) (sym (append-nil owing)) t
each_tells before l (s ∷ rest) k owing t d all =
    let o = all s (inl refl) in
    let x : Session = o.0 in
    let first : TellsCommits before l (placed_found (Some x) k) (owing ++ s ∷ []) = place_tells before l k (placed_found (Some x) k) owing s x t o.1 o.2 (own_number k s x o.1) (one_placed k s x o.1) refl in
    let more = each_tells before l rest (placed_found (Some x) k) (owing ++ s ∷ []) first (IsDistinct-tail nat_eq s rest d) (rest_open k s rest x o.1 d all) in
    subst (λ (p : Option Session). TellsCommits before l (placed_each rest (placed_found p k)) (owing ++ s ∷ rest)) (sym o.1)
    (subst (TellsCommits before l (placed_each rest (placed_found (Some x) k))) (append_assoc owing (s ∷ []) rest) more)

each_started : (l : Ledger) (batch : List ℕ) (k : Kernel) → TellsStarted l k → IsDistinct nat_eq batch → AreOpen k batch → TellsStarted l (placed_each batch k)
each_started l [] k t d all = t
each_started l (s ∷ rest) k t d all =
    let o = all s (inl refl) in
    let x : Session = o.0 in
    let first : TellsStarted l (placed_found (Some x) k) = started_idle l l k (placed_found (Some x) k) s (at_place x) t (one_placed k s x o.1) refl refl in
    let more = each_started l rest (placed_found (Some x) k) first (IsDistinct-tail nat_eq s rest d) (rest_open k s rest x o.1 d all) in
    subst (λ (p : Option Session). TellsStarted l (placed_each rest (placed_found p k))) (sym o.1) more

active-queued : (stage : Stage) → is_queued stage ≡ true → is_active_stage stage ≡ true
active-queued Queued q = refl
active-queued Idle q = refl
active-queued (Started op) q = refl
active-queued (NameWait op) q = refl
active-queued (Named op) q = refl
active-queued (NeedWait op) q = refl
active-queued (Planned op left) q = refl
active-queued Placed q = absurd (true≢false (sym q))

module _ (k : Kernel) (ascending : AreAscending k.sessions) (queued : QueueSound k.sessions k.queue k.flight k.calls) where
  flight-open : AreOpen k k.flight
  flight-open s i =
      let b = queued.back s (among_left s k.flight k.queue i) in
      (b.0, subst (λ n. session_at n k.sessions ≡ Some b.0) b.2 (among-found k.sessions ascending b.0 b.1), active-queued b.0.stage b.3)

  flight-once : IsDistinct nat_eq k.flight
  flight-once = distinct-first k.flight k.queue queued.once

  pub flush_tells : (IsRemoved : Table → ℕ → Table → Type 0) (before : List Commit) (l : Ledger) (answer : Answer) (after : Kernel) → TellsCommits before l k [] → Does IsRemoved k Flush answer after → TellsCommits before l after (owed k answer)
  flush_tells IsRemoved before l _ _ t (Does.FlushesNothing none empty) = t
  flush_tells IsRemoved before l _ _ t (Does.TakesOff none some) = as_before before l k _ [] refl refl t
  flush_tells IsRemoved before l _ _ t (Does.Writes some few) = as_before before l k _ [] refl refl t
  flush_tells IsRemoved before l _ _ t (Does.IsDurable some all) = as_before before l (placed_each k.flight k) (placed_all k) k.flight refl refl (each_tells before l k.flight k [] t flight-once flight-open)

  pub flush_started : (IsRemoved : Table → ℕ → Table → Type 0) (l : Ledger) (answer : Answer) (after : Kernel) → TellsStarted l k → Does IsRemoved k Flush answer after → TellsStarted l after
  flush_started IsRemoved l _ _ t (Does.FlushesNothing none empty) = t
  flush_started IsRemoved l _ _ t (Does.TakesOff none some) = started_same l l k _ refl refl t
  flush_started IsRemoved l _ _ t (Does.Writes some few) = started_same l l k _ refl refl t
  flush_started IsRemoved l _ _ t (Does.IsDurable some all) = started_same l l (placed_each k.flight k) (placed_all k) refl refl (each_started l k.flight k t flight-once flight-open)

requests_owe : (k : Kernel) (x : Session) (name : Name) (mode : Mode) (duration : Duration) (granted waits : Stage) (answer : Answer) (after : Kernel) → Requests k x name mode duration granted waits answer after → owed k answer ≡ []
requests_owe k x name mode duration granted waits _ _ (Requests.IsGranted free) = refl
requests_owe k x name mode duration granted waits _ _ (Requests.HasToWait some cycle) = refl
requests_owe k x name mode duration granted waits _ _ (Requests.ClosesCycle cycle some closes) = refl

-- after any event but a flush no place is to be told
pub none_owed : (IsRemoved : Table → ℕ → Table → Type 0) (k : Kernel) (event : Event) (answer : Answer) (after : Kernel) → event ≢ Flush → Does IsRemoved k event answer after → owed k answer ≡ []
none_owed IsRemoved k _ _ _ other (Does.Begins s) = refl
none_owed IsRemoved k _ _ _ other (Does.Starts s x op at in_space) = refl
none_owed IsRemoved k _ _ _ other (Does.NamesNothing s x op at is none) = refl
none_owed IsRemoved k _ _ _ other (Does.Names s x op name mode answer after at is asked asks) = requests_owe k x name mode ToTheEnd (Named op) (NameWait op) answer after asks
none_owed IsRemoved k _ _ _ other (Does.HasWaited s x op at is) = refl
none_owed IsRemoved k _ _ _ other (Does.Plans s x op commit short at is needs) = refl
none_owed IsRemoved k _ _ _ other (Does.Asks s x op need left answer after at is asks) = requests_owe k x need.name need.mode need.duration (Planned op left) (NeedWait op) answer after asks
none_owed IsRemoved k _ _ _ other (Does.FullOfEntries s x op at is adds passes) = refl
none_owed IsRemoved k _ _ _ other (Does.FullOfNumbers s x r tree chosen at is adds few inserts passes) = refl
none_owed IsRemoved k _ _ _ other (Does.FullOfReplies s x op at is passes) = refl
none_owed IsRemoved k _ _ _ other (Does.Applies s x op at is plain few) = refl
none_owed IsRemoved k _ _ _ other (Does.Inserts_entry s x r tree chosen gifts at is adds few inserts numbers given) = refl
none_owed IsRemoved k _ _ _ other (Does.Commits s x at is none) = refl
none_owed IsRemoved k _ _ _ other (Does.JoinsQueue s x at is some) = refl
none_owed IsRemoved k _ _ _ other (Does.StaysQueued s x at is) = refl
none_owed IsRemoved k _ _ _ other (Does.TellsPlace s x at is) = refl
none_owed IsRemoved k _ _ _ other (Does.RollsBack s x at) = refl
none_owed IsRemoved k _ _ _ other (Does.FlushesNothing none empty) = absurd (other refl)
none_owed IsRemoved k _ _ _ other (Does.TakesOff none some) = absurd (other refl)
none_owed IsRemoved k _ _ _ other (Does.Writes some few) = absurd (other refl)
none_owed IsRemoved k _ _ _ other (Does.IsDurable some all) = absurd (other refl)
none_owed IsRemoved k _ _ _ other (Does.CleansNothing none) = refl
none_owed IsRemoved k _ _ _ other (Does.CleanIsFull n rest tree first removed full more) = refl
none_owed IsRemoved k _ _ _ other (Does.Cleans n rest tree short may unopposed) = refl
none_owed IsRemoved k _ _ _ other (Does.PutsOff n rest tree short granule holder mode may off) = refl
