-- The records at opening stay.
use Rattle.std.proofs.Common.{◌≡◌, ℕ, List, [], ◌∷◌, Option, Some, None, refl, ◌∙◌}
use Rattle.sp_locks.specs.declared.mode.Mode.{Mode}
use Rattle.sp_locks.specs.declared.row.Name.{Name}
use Rattle.sp_locks.specs.declared.row.Duration.{Duration}
use Rattle.sp_node.specs.Table.{Table}
use Rattle.sp_event.specs.declared.answer.Answer.{Answer}
use Rattle.sp_event.specs.declared.event.Event.{Event}
use Rattle.sp_event.specs.declared.step.Step.{Step}
use Rattle.sp_model.specs.declared.session.Session.{Session}
use Rattle.sp_model.specs.declared.session.Stage.{Stage}
use Rattle.sp_model.specs.State.{Kernel, session_at}
use Rattle.sp_model.specs.Moves.{Requests, placed_found, placed_each}
use Rattle.sp_model.specs.Runs.{Runs}
use Rattle.sp_model.specs.Stepped.{Does, Stepped}

request_base : (k : Kernel) (x : Session) (name : Name) (mode : Mode) (duration : Duration) (granted waits : Stage) (answer : Answer) (after : Kernel) → Requests k x name mode duration granted waits answer after → after.base ≡ k.base
request_base k x name mode duration granted waits _ _ (Requests.IsGranted free) = refl
request_base k x name mode duration granted waits _ _ (Requests.HasToWait stuck open_end) = refl
request_base k x name mode duration granted waits _ _ (Requests.ClosesCycle cycle stuck closes) = refl

found_base : (x : Option Session) (k : Kernel) → (placed_found x k).base ≡ k.base
found_base None k = refl
found_base (Some x) k = refl

each_base : (flight : List ℕ) (k : Kernel) → (placed_each flight k).base ≡ k.base
each_base [] k = refl
each_base (s ∷ rest) k = each_base rest (placed_found (session_at s k.sessions) k) ∙ found_base (session_at s k.sessions) k

module _ (IsRemoved : Table → ℕ → Table → Type 0) where
  does_base : (k : Kernel) (event : Event) (answer : Answer) (after : Kernel) → Does IsRemoved k event answer after → after.base ≡ k.base
  does_base k _ _ _ (Does.Begins s) = refl
  does_base k _ _ _ (Does.Starts s x op inside at) = refl
  does_base k _ _ _ (Does.NamesNothing s x op at stage none) = refl
  does_base k _ _ _ (Does.Names s x op name mode answer after at stage asked requests) = request_base k x name mode _ _ _ answer after requests
  does_base k _ _ _ (Does.HasWaited s x op at stage) = refl
  does_base k _ _ _ (Does.Plans s x op commit short at stage needs) = refl
  does_base k _ _ _ (Does.Asks s x op need left answer after at stage requests) = request_base k x need.name need.mode need.duration _ _ answer after requests
  does_base k _ _ _ (Does.FullOfEntries s x op at stage adding full) = refl
  does_base k _ _ _ (Does.FullOfNumbers s x r after chosen at stage adding room inserts full) = refl
  does_base k _ _ _ (Does.FullOfReplies s x op at stage full) = refl
  does_base k _ _ _ (Does.Applies s x op at stage adding room) = refl
  does_base k _ _ _ (Does.Inserts_entry s x r after chosen gifts at stage adding room inserts numbers given) = refl
  does_base k _ _ _ (Does.Commits s x at stage none) = refl
  does_base k _ _ _ (Does.JoinsQueue s x at stage some) = refl
  does_base k _ _ _ (Does.StaysQueued s x at stage) = refl
  does_base k _ _ _ (Does.TellsPlace s x at stage) = refl
  does_base k _ _ _ (Does.RollsBack s x at) = refl
  does_base k _ _ _ (Does.FlushesNothing none empty) = refl
  does_base k _ _ _ (Does.TakesOff none some) = refl
  does_base k _ _ _ (Does.Writes some few) = refl
  does_base k _ _ _ (Does.IsDurable some all) = each_base k.flight k
  does_base k _ _ _ (Does.CleansNothing none) = refl
  does_base k _ _ _ (Does.CleanIsFull n rest after first removed full more) = refl
  does_base k _ _ _ (Does.Cleans n rest after short removes unopposed) = refl
  does_base k _ _ _ (Does.PutsOff n rest after short granule holder mode removes off) = refl

  stepped_base : (k : Kernel) (event : Event) (answer : Answer) (after : Kernel) → Stepped IsRemoved k event answer after → after.base ≡ k.base
  stepped_base k event _ _ (Stepped.IsTurnedAway answer away) = refl
  stepped_base k event _ _ (Stepped.IsDone answer after free does) = does_base k event answer after does

  pub runs_base : (k : Kernel) (steps : List Step) (last : Kernel) → Runs IsRemoved k steps last → last.base ≡ k.base
  runs_base k _ _ Runs.Stays = refl
  runs_base k _ last (Runs.Goes between steps step runs stepped) = stepped_base between step.event step.answer last stepped ∙ runs_base k steps between runs
