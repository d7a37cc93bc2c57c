-- Events only add commits, at the end.
use Rattle.std.proofs.Common.{rules, ◌≡◌, ℕ, List, [], ◌∷◌, ◌++◌, Option, Some, None, refl, sym, ap, ◌∙◌, append_assoc}
use Rattle.sp_rect.specs.declared.commit.Commit.{Commit}
use Rattle.sp_locks.specs.declared.mode.Mode.{Mode}
use Rattle.sp_locks.specs.declared.row.Name.{Name}
use Rattle.sp_locks.specs.declared.row.Duration.{Duration}
use Rattle.sp_event.specs.declared.answer.Answer.{Answer}
use Rattle.sp_event.specs.declared.event.Event.{Event}
use Rattle.sp_event.specs.declared.step.Step.{Step}
use Rattle.sp_model.specs.declared.session.Session.{Session}
use Rattle.sp_model.specs.declared.session.Stage.{Stage}
use Rattle.sp_model.specs.State.{Kernel, session_at}
use Rattle.sp_model.specs.Moves.{Requests, placed_commit, placed_found, placed_each}
use Rattle.sp_model.specs.Removal.{IsTakenOut}
use Rattle.sp_model.specs.Stepped.{Does, Stepped}
use Rattle.sp_kernel.specs.Answers.{Answers, Histories}

-- the one list is the other with some more at its end
abbrev pub Grows : List Commit → List Commit → Type 0
Grows old new = (late : List Commit) × (new ≡ old ++ late)

append-nil : (x : List Commit) → x ++ [] ≡ x
append-nil x = search rules

pub grows_none : (x : List Commit) → Grows x x
grows_none x = ([], sym (append-nil x))

pub grows_more : (x y z : List Commit) → Grows x y → Grows y z → Grows x z
grows_more x y z p q = (p.0 ++ q.0, q.1 ∙ ap (λ (l : List Commit). l ++ q.0) p.1 ∙ append_assoc x p.0 q.0)

request_grows : (k : Kernel) (x : Session) (name : Name) (mode : Mode) (duration : Duration) (granted waits : Stage) (answer : Answer) (after : Kernel) → Requests k x name mode duration granted waits answer after → Grows k.commits after.commits
request_grows k x name mode duration granted waits _ _ (Requests.IsGranted free) = grows_none k.commits
request_grows k x name mode duration granted waits _ _ (Requests.HasToWait stuck open_end) = grows_none k.commits
request_grows k x name mode duration granted waits _ _ (Requests.ClosesCycle cycle stuck closes) = grows_none k.commits

found_grows : (x : Option Session) (k : Kernel) → Grows k.commits (placed_found x k).commits
found_grows None k = grows_none k.commits
found_grows (Some x) k = (placed_commit x k ∷ [], refl)

each_grows : (flight : List ℕ) (k : Kernel) → Grows k.commits (placed_each flight k).commits
each_grows [] k = grows_none k.commits
each_grows (s ∷ rest) k =
    let next = placed_found (session_at s k.sessions) k in
    grows_more k.commits next.commits (placed_each rest next).commits (found_grows (session_at s k.sessions) k) (each_grows rest next)

does_grows : (k : Kernel) (event : Event) (answer : Answer) (after : Kernel) → Does IsTakenOut k event answer after → Grows k.commits after.commits
does_grows k _ _ _ (Does.Begins s) = grows_none k.commits
does_grows k _ _ _ (Does.Starts s x op inside at) = grows_none k.commits
does_grows k _ _ _ (Does.NamesNothing s x op at stage none) = grows_none k.commits
does_grows k _ _ _ (Does.Names s x op name mode answer after at stage asked requests) = request_grows k x name mode _ _ _ answer after requests
does_grows k _ _ _ (Does.HasWaited s x op at stage) = grows_none k.commits
does_grows k _ _ _ (Does.Plans s x op commit short at stage needs) = grows_none k.commits
does_grows k _ _ _ (Does.Asks s x op need left answer after at stage requests) = request_grows k x need.name need.mode need.duration _ _ answer after requests
does_grows k _ _ _ (Does.FullOfEntries s x op at stage adding full) = grows_none k.commits
does_grows k _ _ _ (Does.FullOfNumbers s x r after chosen at stage adding room inserts full) = grows_none k.commits
does_grows k _ _ _ (Does.FullOfReplies s x op at stage full) = grows_none k.commits
does_grows k _ _ _ (Does.Applies s x op at stage adding room) = grows_none k.commits
does_grows k _ _ _ (Does.Inserts_entry s x r after chosen gifts at stage adding room inserts numbers given) = grows_none k.commits
does_grows k _ _ _ (Does.Commits s x at stage none) = (placed_commit x k ∷ [], refl)
does_grows k _ _ _ (Does.JoinsQueue s x at stage some) = grows_none k.commits
does_grows k _ _ _ (Does.StaysQueued s x at stage) = grows_none k.commits
does_grows k _ _ _ (Does.TellsPlace s x at stage) = grows_none k.commits
does_grows k _ _ _ (Does.RollsBack s x at) = grows_none k.commits
does_grows k _ _ _ (Does.FlushesNothing none empty) = grows_none k.commits
does_grows k _ _ _ (Does.TakesOff none some) = grows_none k.commits
does_grows k _ _ _ (Does.Writes some few) = grows_none k.commits
does_grows k _ _ _ (Does.IsDurable some all) = each_grows k.flight k
does_grows k _ _ _ (Does.CleansNothing none) = grows_none k.commits
does_grows k _ _ _ (Does.CleanIsFull n rest after first removed full more) = grows_none k.commits
does_grows k _ _ _ (Does.Cleans n rest after short removes unopposed) = grows_none k.commits
does_grows k _ _ _ (Does.PutsOff n rest after short granule holder mode removes off) = grows_none k.commits

stepped_grows : (k : Kernel) (event : Event) (answer : Answer) (after : Kernel) → Stepped IsTakenOut k event answer after → Grows k.commits after.commits
stepped_grows k event _ _ (Stepped.IsTurnedAway answer away) = grows_none k.commits
stepped_grows k event _ _ (Stepped.IsDone answer after free does) = does_grows k event answer after does

pub answer_grows : (k : Kernel) (event : Event) (answer : Answer) (after : Kernel) → Answers k event answer after → Grows k.commits after.commits
answer_grows k event _ _ (Answers.IsStepped answer after stepped) = stepped_grows k event answer after stepped
answer_grows k event _ _ Answers.WantsMemory = grows_none k.commits
answer_grows k event _ _ (Answers.Fails offset flush free some) = grows_none k.commits

pub history_grows : (k : Kernel) (steps : List Step) (last : Kernel) → Histories k steps last → Grows k.commits last.commits
history_grows k _ _ Histories.Stays = grows_none k.commits
history_grows k _ last (Histories.Goes between steps step goes answers) = grows_more k.commits between.commits last.commits (history_grows k steps between goes) (answer_grows between step.event step.answer last answers)
