-- The place that a placed session is told is that of its transaction.
use Rattle.std.proofs.Common.{◌≡◌, ◌≢◌, ◌⊎◌, ℕ, Bool, true, false, cond, List, [], ◌∷◌, ◌++◌, length, Option, None, Some, nat_eq, refl, sym, ap, ◌∙◌, subst, inl, inr, true≢false}
use Rattle.sp_rect.specs.declared.commit.Commit.{Commit}
use Rattle.sp_locks.specs.declared.mode.Mode.{Mode}
use Rattle.sp_locks.specs.declared.row.Name.{Name}
use Rattle.sp_locks.specs.declared.row.Duration.{Duration}
use Rattle.sp_node.specs.Among.{Among}
use Rattle.sp_node.specs.Table.{Table}
use Rattle.sp_event.specs.declared.event.Event.{Event}
use Rattle.sp_event.specs.declared.event.Event.TheVariants.{Begin, Start, Name as AskName, Plan, Ask, Apply, Commit as AskCommit, Flush, Rollback, Clean}
use Rattle.sp_event.specs.declared.answer.Answer.{Answer}
use Rattle.sp_event.specs.declared.answer.Answer.TheVariants.{Committed}
use Rattle.sp_rect.specs.declared.operation.Op.TheVariants.{Put}
use Rattle.sp_locks.specs.declared.row.Duration.TheVariants.{Commit as ToTheEnd}
use Rattle.sp_model.specs.Plans.{left_to_ask}
use Rattle.sp_model.specs.declared.session.Session.{Session}
use Rattle.sp_model.specs.declared.session.Stage.{Stage}
use Rattle.sp_model.specs.declared.session.Stage.TheVariants.{Idle, Started, NameWait, Named, NeedWait, Planned, Queued, Placed}
use Rattle.sp_model.specs.State.{Kernel, entries_in, session_at, sessions_without, with_session, with_change, at_stage, staged}
use Rattle.sp_model.specs.Moves.{Requests, lengthened, placed_commit, at_place, placed_found, placed_each}
use Rattle.sp_model.specs.Places.{last_commit, ArePlaced, HasPlaces}
use Rattle.sp_model.specs.Stepped.{Does, IsAt, reply_of, last_place}
use Rattle.sp_model.specs.Soundness.{AreAscending, DeadListed}
use Rattle.sp_model.proofs.Bare.{Bare}
use Rattle.sp_model.proofs.Sessions.{number-tell, number-apart, one-session, found-among, Fate, Changes, Stays, of_change, of_without, of_with}
use Rattle.sp_model.proofs.Dead.{StayDead}
use Rattle.sp_model.proofs.Flushing.{as_if, batch-sound, place_next}

last-push : (s : ℕ) (cs : List Commit) (c : Commit) (found : Option Commit) → last_commit s (cs ++ c ∷ []) found ≡ cond (nat_eq c.session s) (Some c) (last_commit s cs found)
last-push s [] c found = refl
last-push s (d ∷ cs) c found = last-push s cs c (cond (nat_eq d.session s) (Some d) found)

abbrev place_of : Option Commit → ℕ
place_of None = 0
place_of (Some c) = c.place

pub last-place : (s : ℕ) (cs : List Commit) (found : Option Commit) → last_place s cs (place_of found) ≡ place_of (last_commit s cs found)
last-place s [] found = refl
last-place s (c ∷ cs) found = ap (last_place s cs) (go (nat_eq c.session s)) ∙ last-place s cs (cond (nat_eq c.session s) (Some c) found)
  where
    go : (b : Bool) → cond b c.place (place_of found) ≡ place_of (cond b (Some c) found)
    go true = refl
    go false = refl

abbrev is_placed_stage : Stage → Bool
is_placed_stage Placed = true
is_placed_stage stage = false

-- no further session is placed
placed-from : (xs xs' : List Session) (commits : List Commit) → ((y : Session) → Among y xs' → y.stage ≡ Placed → Among y xs) → ArePlaced xs commits → ArePlaced xs' commits
placed-from xs xs' commits old placed y i at = placed y (old y i at) at

placed-staged : (s : ℕ) (stage : Stage) (xs : List Session) → is_placed_stage stage ≡ false → (y : Session) → Among y (staged s stage xs) → y.stage ≡ Placed → Among y xs × (y.txn.session ≢ s)
placed-staged s stage xs unplaced y i at = let o = of_change s (at_stage stage) xs y i in go o.old y o.stood o.how at
  where
    go : (z y : Session) → Among z xs → Fate s (at_stage stage) z y → y.stage ≡ Placed → Among y xs × (y.txn.session ≢ s)
    go z _ j (Changes e) p = absurd (true≢false (sym (ap is_placed_stage p) ∙ unplaced))
    go z _ j (Stays e) p = (j, e)

placed-kept : (s : ℕ) (change : Session → Session) (xs : List Session) → ((z : Session) → (change z).txn.session ≡ z.txn.session) → (y : Session) → Among y (with_change s change xs) → y.txn.session ≢ s → Among y xs
placed-kept s change xs session y i other = let o = of_change s change xs y i in go o.old y o.stood o.how other
  where
    go : (z y : Session) → Among z xs → Fate s change z y → y.txn.session ≢ s → Among y xs
    go z _ j (Changes e) far = absurd (far (session z ∙ e))
    go z _ j (Stays e) far = j

-- a commit joins the audit, of a session other than those that are placed
other-commit : (xs : List Session) (cs : List Commit) (c : Commit) (y : Session) → ArePlaced xs cs → Among y xs → y.stage ≡ Placed → y.txn.session ≢ c.session → (d : Commit) × (last_commit y.txn.session (cs ++ c ∷ []) None ≡ Some d) × (d.txn ≡ y.txn.number)
other-commit xs cs c y placed i at other =
    let p = placed y i at in
    (p.0, last-push y.txn.session cs c None ∙ ap (λ (b : Bool). cond b (Some c) (last_commit y.txn.session cs None)) (number-apart c.session y.txn.session (λ e. other (sym e))) ∙ p.1, p.2)

module _ (k : Kernel) (placed : HasPlaces k) where
  pub stage-places : (s : ℕ) (stage : Stage) → is_placed_stage stage ≡ false → ArePlaced (staged s stage k.sessions) k.commits
  stage-places s stage unplaced = placed-from k.sessions (staged s stage k.sessions) k.commits (λ y i at. (placed-staged s stage k.sessions unplaced y i at).0) placed

  pub kept-places : (s : ℕ) (stage : Stage) (change : Session → Session) → is_placed_stage stage ≡ false → ((z : Session) → (change z).txn.session ≡ z.txn.session) → ArePlaced (staged s stage (with_change s change k.sessions)) k.commits
  kept-places s stage change unplaced session = placed-from k.sessions (staged s stage (with_change s change k.sessions)) k.commits
      (λ y i at. let p = placed-staged s stage (with_change s change k.sessions) unplaced y i at in placed-kept s change k.sessions session y p.0 p.1) placed

  pub without-places : (s : ℕ) → ArePlaced (sessions_without s k.sessions) k.commits
  without-places s = placed-from k.sessions (sessions_without s k.sessions) k.commits (λ y i at. (of_without s k.sessions y i).0) placed

  pub begun-places : (new : Session) → is_placed_stage new.stage ≡ false → ArePlaced (with_session new k.sessions) k.commits
  begun-places new unplaced = placed-from k.sessions (with_session new k.sessions) k.commits (λ y i at. go y at (of_with new k.sessions y i)) placed
    where
      go : (y : Session) → y.stage ≡ Placed → (y ≡ new) ⊎ Among y k.sessions → Among y k.sessions
      go y at (inl e) = absurd (true≢false (sym (ap is_placed_stage at) ∙ ap (λ (z : Session). is_placed_stage z.stage) e ∙ unplaced))
      go y at (inr i) = i

  pub committed-places : (x : Session) → ArePlaced (sessions_without x.txn.session k.sessions) (k.commits ++ placed_commit x k ∷ [])
  committed-places x y i at = let o = of_without x.txn.session k.sessions y i in other-commit k.sessions k.commits (placed_commit x k) y placed o.0 at o.1

  requests : (x : Session) (name : Name) (mode : Mode) (duration : Duration) (granted waits : Stage) (answer : Answer) (after : Kernel) → is_placed_stage granted ≡ false → is_placed_stage waits ≡ false → Requests k x name mode duration granted waits answer after → HasPlaces after
  requests x name mode duration granted waits _ _ g w (Requests.IsGranted free) = stage-places x.txn.session granted g
  requests x name mode duration granted waits _ _ g w (Requests.HasToWait some told) = stage-places x.txn.session waits w
  requests x name mode duration granted waits _ _ g w (Requests.ClosesCycle cycle some told) = without-places x.txn.session

-- the commit of a batch that takes its place is its session's last
place-places : (k : Kernel) (x : Session) → AreAscending k.sessions → HasPlaces k → Among x k.sessions → ArePlaced (with_change x.txn.session at_place k.sessions) (k.commits ++ placed_commit x k ∷ [])
place-places k x ascending placed here y i at = let o = of_change x.txn.session at_place k.sessions y i in go o.old y o.stood o.how at
  where
    go : (z y : Session) → Among z k.sessions → Fate x.txn.session at_place z y → y.stage ≡ Placed → (d : Commit) × (last_commit y.txn.session (k.commits ++ placed_commit x k ∷ []) None ≡ Some d) × (d.txn ≡ y.txn.number)
    go z _ j (Changes e) p = (
      placed_commit x k,
      last-push z.txn.session k.commits (placed_commit x k) None ∙ ap (λ (b : Bool). cond b (Some (placed_commit x k)) (last_commit z.txn.session k.commits None)) (number-tell x.txn.session z.txn.session (sym e)),
      ap (λ (w : Session). w.txn.number) (one-session k.sessions ascending x z here j (sym e)),
    )
    go z _ j (Stays e) p = other-commit k.sessions k.commits (placed_commit x k) z placed j p e

place_each : (k0 k : Kernel) (batch : List ℕ) → DeadListed k0.dead (entries_in k0) → StayDead (entries_in k0) (entries_in k) → Bare (as_if k0 batch k) → HasPlaces k → HasPlaces (placed_each batch k)
place_each k0 k [] listed stay sound placed = placed
place_each k0 k (s ∷ rest) listed stay sound placed =
    let p = place_next k0 k s rest listed stay sound in
    place_each k0 (placed_found (session_at s k.sessions) k) rest listed p.1 p.0 (go (session_at s k.sessions) refl)
  where
    go : (o : Option Session) → session_at s k.sessions ≡ o → HasPlaces (placed_found o k)
    go None e = placed
    go (Some x) e = place-places k x sound.sessions.ascending placed (found-among s k.sessions x e).0

-- every event leaves the last commit of a placed session that of its transaction
pub does_place : (IsRemoved : Table → ℕ → Table → Type 0) (event : Event) (k : Kernel) (answer : Answer) (after : Kernel) → Bare k → HasPlaces k → Does IsRemoved k event answer after → HasPlaces after
does_place IsRemoved (Begin s) k = λ answer after sound placed does. begins k answer after placed does
  where
    begins : (k : Kernel) (answer : Answer) (after : Kernel) → HasPlaces k → Does IsRemoved k (Begin s) answer after → HasPlaces after
    begins k _ _ placed (Does.Begins _) = begun-places k placed (record { txn = record { number = k.next_txn; session = s; seen = length k.commits; ops = []; searches = [] }; stage = Idle }) refl
does_place IsRemoved (Start s op) k = λ answer after sound placed does. starts k answer after placed does
  where
    starts : (k : Kernel) (answer : Answer) (after : Kernel) → HasPlaces k → Does IsRemoved k (Start s op) answer after → HasPlaces after
    starts k _ _ placed (Does.Starts _ x _ found fits) = stage-places k placed s (Started op) refl
does_place IsRemoved (AskName s) k = λ answer after sound placed does. names k answer after placed does
  where
    names : (k : Kernel) (answer : Answer) (after : Kernel) → HasPlaces k → Does IsRemoved k (AskName s) answer after → HasPlaces after
    names k _ _ placed (Does.NamesNothing _ x op found started none) = stage-places k placed s (Named op) refl
    names k answer after placed (Does.Names _ x op name mode _ _ found started asked asks) = requests k placed x name mode ToTheEnd (Named op) (NameWait op) answer after refl refl asks
    names k _ _ placed (Does.HasWaited _ x op found waited) = stage-places k placed s (Named op) refl
does_place IsRemoved (Plan s) k = λ answer after sound placed does. plans k answer after placed does
  where
    plans : (k : Kernel) (answer : Answer) (after : Kernel) → HasPlaces k → Does IsRemoved k (Plan s) answer after → HasPlaces after
    plans k _ _ placed (Does.Plans _ x op commit short found named needs) = stage-places k placed s (Planned op (left_to_ask k.locks s commit short)) refl
does_place IsRemoved (Ask s) k = λ answer after sound placed does. asks k answer after placed does
  where
    asks : (k : Kernel) (answer : Answer) (after : Kernel) → HasPlaces k → Does IsRemoved k (Ask s) answer after → HasPlaces after
    asks k answer after placed (Does.Asks _ x op need left _ _ found planned told) = requests k placed x need.name need.mode need.duration (Planned op left) (NeedWait op) answer after refl refl told
does_place IsRemoved (Apply s) k = λ answer after sound placed does. applies k answer after placed does
  where
    applies : (k : Kernel) (answer : Answer) (after : Kernel) → HasPlaces k → Does IsRemoved k (Apply s) answer after → HasPlaces after
    applies k _ _ placed (Does.FullOfEntries _ x op found planned adds passes) = stage-places k placed x.txn.session Idle refl
    applies k _ _ placed (Does.FullOfNumbers _ x r t chosen found planned adds few inserts passes) = stage-places k placed x.txn.session Idle refl
    applies k _ _ placed (Does.FullOfReplies _ x op found planned passes) = stage-places k placed x.txn.session Idle refl
    applies k _ _ placed (Does.Applies _ x op found planned plain few) = kept-places k placed x.txn.session Idle (lengthened op (reply_of k x op)) refl (λ z. refl)
    applies k _ _ placed (Does.Inserts_entry _ x r t chosen gifts found planned adds few inserts numbers given) = kept-places k placed x.txn.session Idle (lengthened (Put r) (reply_of k x (Put r))) refl (λ z. refl)
does_place IsRemoved (AskCommit s) k = λ answer after sound placed does. commits k answer after placed does
  where
    commits : (k : Kernel) (answer : Answer) (after : Kernel) → HasPlaces k → Does IsRemoved k (AskCommit s) answer after → HasPlaces after
    commits k _ _ placed (Does.Commits _ x found idle none) = committed-places k placed x
    commits k _ _ placed (Does.JoinsQueue _ x found idle some) = stage-places k placed s Queued refl
    commits k _ _ placed (Does.StaysQueued _ x found queued) = placed
    commits k _ _ placed (Does.TellsPlace _ x found told) = without-places k placed s
does_place IsRemoved (Rollback s) k = λ answer after sound placed does. rolls k answer after placed does
  where
    rolls : (k : Kernel) (answer : Answer) (after : Kernel) → HasPlaces k → Does IsRemoved k (Rollback s) answer after → HasPlaces after
    rolls k _ _ placed (Does.RollsBack _ x found) = without-places k placed x.txn.session
does_place IsRemoved Flush k = λ answer after sound placed does. flushes k answer after sound placed does
  where
    flushes : (k : Kernel) (answer : Answer) (after : Kernel) → Bare k → HasPlaces k → Does IsRemoved k Flush answer after → HasPlaces after
    flushes k _ _ sound placed (Does.FlushesNothing none empty) = placed
    flushes k _ _ sound placed (Does.TakesOff none some) = placed
    flushes k _ _ sound placed (Does.Writes some few) = placed
    flushes k _ _ sound placed (Does.IsDurable some all) = place_each k k k.flight sound.dead (λ n i. i) (batch-sound k sound) placed
does_place IsRemoved Clean k = λ answer after sound placed does. cleans k answer after placed does
  where
    cleans : (k : Kernel) (answer : Answer) (after : Kernel) → HasPlaces k → Does IsRemoved k Clean answer after → HasPlaces after
    cleans k _ _ placed (Does.CleansNothing none) = placed
    cleans k _ _ placed (Does.CleanIsFull n rest t first removed full more) = placed
    cleans k _ _ placed (Does.Cleans n rest t short may unopposed) = placed
    cleans k _ _ placed (Does.PutsOff n rest t short granule holder mode may off) = placed

-- a commit of the audit
last-among : (s : ℕ) (cs : List Commit) (found : Option Commit) (c : Commit) → last_commit s cs found ≡ Some c → Among c cs ⊎ (found ≡ Some c)
last-among s [] found c h = inr h
last-among s (d ∷ cs) found c h = go (nat_eq d.session s) (last-among s cs (cond (nat_eq d.session s) (Some d) found) c h)
  where
    is : (a b : Commit) → Some a ≡ Some b → a ≡ b
    is a b e = cc

    go : (b : Bool) → Among c cs ⊎ (cond b (Some d) found ≡ Some c) → Among c (d ∷ cs) ⊎ (found ≡ Some c)
    go b (inl i) = inl (inr i)
    go true (inr e) = inl (inl (sym (is d c e)))
    go false (inr e) = inr e

-- what a placed session is told is the place of its transaction
pub told_own : (IsRemoved : Table → ℕ → Table → Type 0) (k : Kernel) (s : ℕ) (x : Session) (answer : Answer) (after : Kernel) → HasPlaces k → IsAt k s x → x.stage ≡ Placed → Does IsRemoved k (AskCommit s) answer after
    → (c : Commit) × Among c k.commits × (c.txn ≡ x.txn.number) × (answer ≡ Committed c.place)
told_own IsRemoved k s x _ _ placed at stage (Does.Commits _ y found idle none) = absurd (true≢false (sym (ap is_placed_stage stage) ∙ ap (λ (z : Session). is_placed_stage z.stage) (one_found x y (sym at ∙ found)) ∙ ap is_placed_stage idle))
  where
    one_found : (x y : Session) → Some x ≡ Some y → x ≡ y
    one_found x y e = cc
told_own IsRemoved k s x _ _ placed at stage (Does.JoinsQueue _ y found idle some) = absurd (true≢false (sym (ap is_placed_stage stage) ∙ ap (λ (z : Session). is_placed_stage z.stage) (one_found x y (sym at ∙ found)) ∙ ap is_placed_stage idle))
  where
    one_found : (x y : Session) → Some x ≡ Some y → x ≡ y
    one_found x y e = cc
told_own IsRemoved k s x _ _ placed at stage (Does.StaysQueued _ y found queued) = absurd (true≢false (sym (ap is_placed_stage stage) ∙ ap (λ (z : Session). is_placed_stage z.stage) (one_found x y (sym at ∙ found)) ∙ ap is_placed_stage queued))
  where
    one_found : (x y : Session) → Some x ≡ Some y → x ≡ y
    one_found x y e = cc
told_own IsRemoved k s x _ _ placed at stage (Does.TellsPlace _ y found told) =
    let f = found-among s k.sessions x at in
    let p = placed x f.0 stage in
    let l : last_commit s k.commits None ≡ Some p.0 = subst (λ (n : ℕ). last_commit n k.commits None ≡ Some p.0) f.1 p.1 in
    (p.0, among p.0 (last-among s k.commits None p.0 l), p.2, ap Committed (last-place s k.commits None ∙ ap place_of l))
  where
    none : (c : Commit) → None ≡ Some c → ⊥
    none c e = cc

    among : (c : Commit) → Among c k.commits ⊎ (None ≡ Some c) → Among c k.commits
    among c (inl i) = i
    among c (inr e) = absurd (none c e)
