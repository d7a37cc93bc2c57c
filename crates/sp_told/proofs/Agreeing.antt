-- What an event, with what is told of it, leaves of the agreement between a transcript and a kernel.
use Rattle.std.proofs.Common.{◌≡◌, ◌≢◌, ℕ, List, [], ◌∷◌, ◌++◌, map, Option, None, Some, refl, sym, ap, ap₂, ◌∙◌, subst, append-nil}
use Rattle.sp_rect.specs.declared.operation.Op.{Op}
use Rattle.sp_rect.specs.declared.commit.Commit.{Commit}
use Rattle.sp_event.specs.declared.event.Event.{Event}
use Rattle.sp_event.specs.declared.event.Event.TheVariants.{Begin, Start, Name as AskName, Plan, Ask, Apply, Commit as AskCommit, Flush, Rollback, Clean}
use Rattle.sp_event.specs.declared.answer.Answer.{Answer}
use Rattle.sp_event.specs.declared.answer.Answer.TheVariants.{Memory, DiskFault}
use Rattle.sp_text.specs.declared.types.Command.TheVariants.{Do}
use Rattle.sp_text.specs.Transcripts.{Ledger, of_session, of_others, with_place, last_started, applied, replied_in, noted, stepped_to}
use Rattle.sp_model.specs.declared.session.Session.{Session}
use Rattle.sp_model.specs.State.{Kernel, session_at}
use Rattle.sp_model.specs.Refusals.{is_placed, turned_away}
use Rattle.sp_model.specs.Removal.{IsTakenOut}
use Rattle.sp_model.specs.Stepped.{Does, Stepped, IsAt}
use Rattle.sp_model.specs.Soundness.{Sound}
use Rattle.sp_model.proofs.Dead.{distinct-empty}
use Rattle.sp_kernel.specs.Answers.{Answers, stopped_at}
use Rattle.sp_told.specs.Telling.{operation_of, open_of, owed, IsOf, DoesNoOther, TellsCommits, TellsStarted, Tells}
use Rattle.sp_told.proofs.Pending.{none_late}
use Rattle.sp_told.proofs.Steps.{as_before}
use Rattle.sp_told.proofs.Starting.{started_same}
use Rattle.sp_told.proofs.Quiet.{IsQuiet, stepped_quiet, noted_quiet, owed_quiet, turned_quiet}
use Rattle.sp_told.proofs.Commits.{SaysRequest, begin_tells, start_tells, name_tells, plan_tells, ask_tells, apply_tells, rollback_tells, clean_tells, ask_commit_tells}
use Rattle.sp_told.proofs.Owing.{none_owed, first_placed, placed_let, told_tells, flush_tells, flush_started}
use Rattle.sp_told.proofs.Started.{does_started}

-- nothing was told, and no session has a transaction
pub nothing_told : (k : Kernel) → k.sessions ≡ [] → Tells k.commits (record { pending = []; done = []; started = [] }) k []
nothing_told k none = record {
  commits = record {
    late = [];
    sessions = refl;
    once = distinct-empty;
    placed = λ s. ap is_placed (out s);
    commits = sym (append-nil k.commits);
    pending = λ s. empty s ∙ ap₂ (λ (o : Option Session) (cs : List Commit). open_of o ++ map (with_place 0) cs) (sym (out s)) (sym (empty s));
  };
  started = record { last = λ s x op at under. absurd (never x (sym (out s) ∙ at)) };
}
  where
    out : (s : ℕ) → session_at s k.sessions ≡ None
    out s = ap (session_at s) none

    empty : (s : ℕ) → of_session s [] ≡ []
    empty s = none_late s [] [] refl refl

    never : (x : Session) → None ≡ Some x → ⊥
    never x h = cc

-- every event that is done, where no place is to be told, leaves the agreement on commits
module _ (before : List Commit) (l : Ledger) (k : Kernel) (t : TellsCommits before l k []) where
  owing : (l' : Ledger) (k' : Kernel) (answer : Answer) → owed k answer ≡ [] → TellsCommits before l' k' [] → TellsCommits before l' k' (owed k answer)
  owing l' k' answer none h = subst (TellsCommits before l' k') (sym none) h

  does_commits : (event : Event) (answer : Answer) (after : Kernel) → Sound k → ((s : ℕ) (x : Session) (op : Op) → event ≡ Apply s → IsAt k s x → operation_of x.stage ≡ Some op → last_started s l.started ≡ Some op)
      → turned_away k event ≡ None → Does IsTakenOut k event answer after → TellsCommits before (stepped_to l event answer) after (owed k answer)
  does_commits (Begin s) answer after sound started free does = owing _ after answer (none_owed IsTakenOut k (Begin s) answer after (λ e. cc) does) (begin_tells before l k [] t IsTakenOut s answer after free does)
  does_commits (Start s op) answer after sound started free does =
      owing _ after answer (none_owed IsTakenOut k (Start s op) answer after (λ e. cc) does)
      (told after answer does (start_tells before l k [] t IsTakenOut s op answer after free does))
    where
      told : (after : Kernel) (answer : Answer) → Does IsTakenOut k (Start s op) answer after → TellsCommits before l after [] → TellsCommits before (stepped_to l (Start s op) answer) after []
      told _ _ (Does.Starts _ x _ at in_space) h = record { late = h.late; sessions = h.sessions; once = h.once; placed = h.placed; commits = h.commits; pending = h.pending }
  does_commits (AskName s) answer after sound started free does =
      owing _ after answer (none_owed IsTakenOut k (AskName s) answer after (λ e. cc) does) (name_tells before l k [] t IsTakenOut s (stepped_to l (AskName s)) (record { granted = refl; waits = λ name mode blockers. refl; deadlock = λ cycle. refl }) answer after does)
  does_commits (Plan s) answer after sound started free does = owing _ after answer (none_owed IsTakenOut k (Plan s) answer after (λ e. cc) does) (plan_tells before l k [] t IsTakenOut s answer after does)
  does_commits (Ask s) answer after sound started free does =
      owing _ after answer (none_owed IsTakenOut k (Ask s) answer after (λ e. cc) does) (ask_tells before l k [] t IsTakenOut s (stepped_to l (Ask s)) (record { granted = refl; waits = λ name mode blockers. refl; deadlock = λ cycle. refl }) answer after does)
  does_commits (Apply s) answer after sound started free does =
      owing _ after answer (none_owed IsTakenOut k (Apply s) answer after (λ e. cc) does)
      (apply_tells before l k [] t IsTakenOut s (stepped_to l (Apply s)) (λ kind. refl) (λ x op reply at under. ap (λ (o : Option Op). applied l s o reply) (started s x op refl at under)) answer after does)
  does_commits (AskCommit s) answer after sound started free does = owing _ after answer (none_owed IsTakenOut k (AskCommit s) answer after (λ e. cc) does) (ask_commit_tells IsTakenOut before l k s answer after t does)
  does_commits (Rollback s) answer after sound started free does = owing _ after answer (none_owed IsTakenOut k (Rollback s) answer after (λ e. cc) does) (rollback_tells before l k [] t IsTakenOut s answer after free does)
  does_commits Flush answer after sound started free does = flush_tells k sound.sessions.ascending sound.queued IsTakenOut before l answer after t does
  does_commits Clean answer after sound started free does = owing _ after answer (none_owed IsTakenOut k Clean answer after (λ e. cc) does) (clean_tells before l k [] t IsTakenOut answer after does)

  quiet_commits : (event : Event) (answer : Answer) → IsQuiet answer → TellsCommits before (stepped_to l event answer) k (owed k answer)
  quiet_commits event answer quiet = subst (λ (m : Ledger). TellsCommits before m k (owed k answer)) (sym (stepped_quiet l event answer quiet)) (owing l k answer (owed_quiet k answer quiet) t)

  pub answers_commits : (event : Event) (answer : Answer) (after : Kernel) → Sound k → ((s : ℕ) (x : Session) (op : Op) → event ≡ Apply s → IsAt k s x → operation_of x.stage ≡ Some op → last_started s l.started ≡ Some op)
      → Answers k event answer after → TellsCommits before (stepped_to l event answer) after (owed k answer)
  answers_commits event _ _ sound started (Answers.IsStepped _ _ (Stepped.IsTurnedAway answer away)) = quiet_commits event answer (turned_quiet k event answer away)
  answers_commits event _ _ sound started (Answers.IsStepped _ _ (Stepped.IsDone answer after free does)) = does_commits event answer after sound started free does
  answers_commits event _ _ sound started Answers.WantsMemory = quiet_commits event Memory IsQuiet.Lacks
  answers_commits event _ _ sound started (Answers.Fails offset flush free some) = as_before before (stepped_to l event DiskFault) k (stopped_at offset k) [] refl refl (quiet_commits event DiskFault IsQuiet.Faults)

-- every event leaves the agreement on operations that were started
module _ (l : Ledger) (k : Kernel) (t : TellsStarted l k) where
  does_all : (event : Event) (answer : Answer) (after : Kernel) → Sound k → turned_away k event ≡ None → Does IsTakenOut k event answer after → TellsStarted (stepped_to l event answer) after
  does_all Flush answer after sound free does = flush_started k sound.sessions.ascending sound.queued IsTakenOut l answer after t does
  does_all (Begin s) answer after sound free does = does_started l k t IsTakenOut (Begin s) answer after free (λ e. cc) does
  does_all (Start s op) answer after sound free does = does_started l k t IsTakenOut (Start s op) answer after free (λ e. cc) does
  does_all (AskName s) answer after sound free does = does_started l k t IsTakenOut (AskName s) answer after free (λ e. cc) does
  does_all (Plan s) answer after sound free does = does_started l k t IsTakenOut (Plan s) answer after free (λ e. cc) does
  does_all (Ask s) answer after sound free does = does_started l k t IsTakenOut (Ask s) answer after free (λ e. cc) does
  does_all (Apply s) answer after sound free does = does_started l k t IsTakenOut (Apply s) answer after free (λ e. cc) does
  does_all (AskCommit s) answer after sound free does = does_started l k t IsTakenOut (AskCommit s) answer after free (λ e. cc) does
  does_all (Rollback s) answer after sound free does = does_started l k t IsTakenOut (Rollback s) answer after free (λ e. cc) does
  does_all Clean answer after sound free does = does_started l k t IsTakenOut Clean answer after free (λ e. cc) does

  quiet_started : (event : Event) (answer : Answer) → IsQuiet answer → TellsStarted (stepped_to l event answer) k
  quiet_started event answer quiet = subst (λ (m : Ledger). TellsStarted m k) (sym (stepped_quiet l event answer quiet)) t

  pub answers_started : (event : Event) (answer : Answer) (after : Kernel) → Sound k → Answers k event answer after → TellsStarted (stepped_to l event answer) after
  answers_started event _ _ sound (Answers.IsStepped _ _ (Stepped.IsTurnedAway answer away)) = quiet_started event answer (turned_quiet k event answer away)
  answers_started event _ _ sound (Answers.IsStepped _ _ (Stepped.IsDone answer after free does)) = does_all event answer after sound free does
  answers_started event _ _ sound Answers.WantsMemory = quiet_started event Memory IsQuiet.Lacks
  answers_started event _ _ sound (Answers.Fails offset flush free some) = started_same (stepped_to l event DiskFault) _ k (stopped_at offset k) refl refl (quiet_started event DiskFault IsQuiet.Faults)

pub answers_tell : (before : List Commit) (l : Ledger) (k : Kernel) (event : Event) (answer : Answer) (after : Kernel) → Sound k → Tells before l k [] → Answers k event answer after → Tells before (stepped_to l event answer) after (owed k answer)
answers_tell before l k event answer after sound t answers = record {
  commits = answers_commits before l k t.commits event answer after sound (λ s x op is at under. t.started.last s x op at under) answers;
  started = answers_started l k t.started event answer after sound answers;
}

-- the news of a place
pub late_commits : (before : List Commit) (l : Ledger) (k : Kernel) (s : ℕ) (rest : List ℕ) (answer : Answer) (after : Kernel) → TellsCommits before l k (s ∷ rest) → answer ≢ Memory → Answers k (AskCommit s) answer after → TellsCommits before (stepped_to l (AskCommit s) answer) after rest
late_commits before l k s rest _ _ t some (Answers.IsStepped _ _ (Stepped.IsTurnedAway answer away)) = absurd (never answer (sym (placed_let k s (first_placed before l k s rest t)) ∙ away))
  where
    never : (answer : Answer) → None ≡ Some answer → ⊥
    never answer h = cc
late_commits before l k s rest _ _ t some (Answers.IsStepped _ _ (Stepped.IsDone answer after free does)) = told_tells before l k s rest t IsTakenOut answer after does
late_commits before l k s rest _ _ t some Answers.WantsMemory = absurd (some refl)
late_commits before l k s rest _ _ t some (Answers.Fails offset flush free left) = absurd (cc)

pub late_memory : (before : List Commit) (l : Ledger) (k : Kernel) (s : ℕ) (rest : List ℕ) (after : Kernel) → TellsCommits before l k (s ∷ rest) → Answers k (AskCommit s) Memory after → after ≡ k
late_memory before l k s rest _ t answers = go Memory _ refl answers
  where
    never : (answer : Answer) → None ≡ Some answer → ⊥
    never answer h = cc

    go : (answer : Answer) (after : Kernel) → answer ≡ Memory → Answers k (AskCommit s) answer after → after ≡ k
    go _ _ is (Answers.IsStepped _ _ (Stepped.IsTurnedAway answer away)) = absurd (never answer (sym (placed_let k s (first_placed before l k s rest t)) ∙ away))
    go _ _ is (Answers.IsStepped _ _ (Stepped.IsDone answer after free does)) = done answer after is does
      where
        done : (answer : Answer) (after : Kernel) → answer ≡ Memory → Does IsTakenOut k (AskCommit s) answer after → after ≡ k
        done _ _ e (Does.Commits _ x at idle none) = absurd (cc)
        done _ _ e (Does.JoinsQueue _ x at idle some) = absurd (cc)
        done _ _ e (Does.StaysQueued _ x at is) = absurd (cc)
        done _ _ e (Does.TellsPlace _ x at is) = absurd (cc)
    go _ _ is Answers.WantsMemory = refl
    go _ _ is (Answers.Fails offset flush free left) = absurd (cc)

pub late_tell : (before : List Commit) (l : Ledger) (k : Kernel) (s : ℕ) (rest : List ℕ) (answer : Answer) (after : Kernel) → Sound k → Tells before l k (s ∷ rest) → answer ≢ Memory → Answers k (AskCommit s) answer after → Tells before (stepped_to l (AskCommit s) answer) after rest
late_tell before l k s rest answer after sound t some answers = record {
  commits = late_commits before l k s rest answer after t.commits some answers;
  started = answers_started l k t.started (AskCommit s) answer after sound answers;
}

-- where no place is to be told, the kernel's commits were all told
pub all_told : (before : List Commit) (l : Ledger) (k : Kernel) → TellsCommits before l k [] → k.commits ≡ before ++ l.done
all_told before l k t = t.commits ∙ ap (λ (cs : List Commit). before ++ cs) (ap (λ (cs : List Commit). l.done ++ cs) (none t.late t.sessions) ∙ append-nil l.done)
  where
    none : (cs : List Commit) → map (λ (c : Commit). c.session) cs ≡ [] → cs ≡ []
    none [] e = refl
    none (c ∷ cs) e = absurd (some e)
      where
        some : c.session ∷ map (λ (d : Commit). d.session) cs ≡ [] → ⊥
        some e = cc

-- an event of an operation of a session, where the answer is told of the command for that operation
module _ (before : List Commit) (l : Ledger) (k : Kernel) (owing : List ℕ) (t : TellsCommits before l k owing) (op : Op) where
  does_operation : (s : ℕ) (event : Event) (answer : Answer) (after : Kernel) → IsOf s op event → DoesNoOther k s op → turned_away k event ≡ None → Does IsTakenOut k event answer after → TellsCommits before (noted l s (Do op) answer) after owing
  does_operation s (Start n other) answer after is same free does = starts answer after does (start_tells before l k owing t IsTakenOut n other answer after free does)
    where
      starts : (answer : Answer) (after : Kernel) → Does IsTakenOut k (Start n other) answer after → TellsCommits before l after owing → TellsCommits before (noted l s (Do op) answer) after owing
      starts _ _ (Does.Starts _ x _ at in_space) h = h
  does_operation s (AskName n) answer after is same free does = name_tells before l k owing t IsTakenOut n (noted l s (Do op)) (says s n is) answer after does
    where
      says : (s n : ℕ) → n ≡ s → SaysRequest l n (noted l s (Do op))
      says s n is = record { granted = refl; waits = λ name mode blockers. refl; deadlock = λ cycle. ap (λ m. record l { pending = of_others m l.pending }) (sym is) }
  does_operation s (Plan n) answer after is same free does = plans answer after does (plan_tells before l k owing t IsTakenOut n answer after does)
    where
      plans : (answer : Answer) (after : Kernel) → Does IsTakenOut k (Plan n) answer after → TellsCommits before l after owing → TellsCommits before (noted l s (Do op) answer) after owing
      plans _ _ (Does.Plans _ x other commit short at under needs) h = h
  does_operation s (Ask n) answer after is same free does = ask_tells before l k owing t IsTakenOut n (noted l s (Do op)) (says s n is) answer after does
    where
      says : (s n : ℕ) → n ≡ s → SaysRequest l n (noted l s (Do op))
      says s n is = record { granted = refl; waits = λ name mode blockers. refl; deadlock = λ cycle. ap (λ m. record l { pending = of_others m l.pending }) (sym is) }
  does_operation s (Apply n) answer after is same free does =
      apply_tells before l k owing t IsTakenOut n (noted l s (Do op)) (λ kind. refl)
      (λ x other reply at under. ap₂ (λ (m : ℕ) (o : Op). replied_in l m o reply) (sym is) (sym (same x other (subst (λ m. session_at m k.sessions ≡ Some x) is at) under))) answer after does
  does_operation s (Begin n) answer after is same free does = absurd is
  does_operation s (AskCommit n) answer after is same free does = absurd is
  does_operation s (Rollback n) answer after is same free does = absurd is
  does_operation s Flush answer after is same free does = absurd is
  does_operation s Clean answer after is same free does = absurd is

  quiet_operation : (s : ℕ) (answer : Answer) → IsQuiet answer → TellsCommits before (noted l s (Do op) answer) k owing
  quiet_operation s answer quiet = subst (λ (m : Ledger). TellsCommits before m k owing) (sym (noted_quiet l s op answer quiet)) t

  pub operation_commits : (s : ℕ) (event : Event) (answer : Answer) (after : Kernel) → IsOf s op event → DoesNoOther k s op → Answers k event answer after → TellsCommits before (noted l s (Do op) answer) after owing
  operation_commits s event _ _ is same (Answers.IsStepped _ _ (Stepped.IsTurnedAway answer away)) = quiet_operation s answer (turned_quiet k event answer away)
  operation_commits s event _ _ is same (Answers.IsStepped _ _ (Stepped.IsDone answer after free does)) = does_operation s event answer after is same free does
  operation_commits s event _ _ is same Answers.WantsMemory = quiet_operation s Memory IsQuiet.Lacks
  operation_commits s event _ _ is same (Answers.Fails offset flush free some) = as_before before (noted l s (Do op) DiskFault) k (stopped_at offset k) owing refl refl (quiet_operation s DiskFault IsQuiet.Faults)
