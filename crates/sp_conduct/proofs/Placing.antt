-- The commit of an idle session, where no other one's waits: up to the place that it is told, which is the next.
use Rattle.std.proofs.Common.{◌≡◌, ◌≢◌, ◌⊎◌, ℕ, ◌+◌, Bool, not, cond, List, [], ◌∷◌, ◌++◌, Option, None, Some, length, nat_eq, refl, sym, ap, ◌∙◌, subst, inl, inr, append_assoc}
use Rattle.sp_rect.specs.declared.commit.Commit.{Commit as Entry}
use Rattle.sp_event.specs.declared.event.Event.TheVariants.{Commit, Flush}
use Rattle.sp_event.specs.declared.answer.Answer.{Answer}
use Rattle.sp_event.specs.declared.answer.Answer.TheVariants.{Committed, Queued as IsQueued, Wrote, Durable}
use Rattle.sp_model.specs.declared.session.Session.{Session}
use Rattle.sp_model.specs.declared.session.Stage.{Stage}
use Rattle.sp_model.specs.declared.session.Stage.TheVariants.{Idle, Queued, Placed}
use Rattle.sp_model.specs.State.{Kernel, is_active_stage, session_at, at_stage}
use Rattle.sp_model.specs.Refusals.{is_placed}
use Rattle.sp_model.specs.Moves.{at_place, placed_commit, placed_found, placed_each, placed_all}
use Rattle.sp_model.specs.Removal.{IsTakenOut}
use Rattle.sp_model.specs.Stepped.{Stepped, Does, IsAt, last_place}
use Rattle.sp_model.proofs.Sessions.{number-tell}
use Rattle.sp_kernel.specs.Answers.{Answers}
use Rattle.sp_told.proofs.Changes.{session_goes, session_changes}
use Rattle.sp_told.proofs.Commits.{own_number}
use Rattle.sp_told.proofs.Owing.{placed_let}
use Rattle.sp_desk.specs.Cleaning.{fault_in}
use Rattle.sp_desk.specs.Committing.{Writes, Stores, Queues, Commits}
use Rattle.sp_desk.proofs.Batches.{write_keeps, durable_one}
use Rattle.sp_conduct.proofs.Resting.{KeepsOthers, next_begun}
use Rattle.sp_conduct.proofs.Others.{next_kept, base_kept, kept_none, kept_more, others_kept, flush_kept}
use Rattle.sp_conduct.proofs.Turning.{memory_faults, commit_goes, is_loud, never_away}

-- a session has one stage
other_stage : (k : Kernel) (s : ℕ) (x y : Session) (a b : Stage) → IsAt k s x → IsAt k s y → x.stage ≡ a → y.stage ≡ b → a ≡ b
other_stage k s x y a b at found is stage = sym is ∙ ap (λ (z : Session). z.stage) (same (sym at ∙ found)) ∙ stage
  where
    same : Some x ≡ Some y → x ≡ y
    same e = cc

idle_queued : Idle ≡ Queued → ⊥
idle_queued e = cc

idle_placed : Idle ≡ Placed → ⊥
idle_placed e = cc

queued_placed : Queued ≡ Placed → ⊥
queued_placed e = cc

commit_flush : (s : ℕ) → Commit s ≡ Flush → ⊥
commit_flush s e = cc

-- what a commit has left of k so far, but for the session
record Goes (s : ℕ) (k m : Kernel) : Type 0 where
  others : KeepsOthers s k m
  next : m.next_txn ≡ k.next_txn
  base : m.base ≡ k.base

-- the session's commit waits alone
record IsAlone (s : ℕ) (k m : Kernel) : Type 0 where
  session : Session
  at : IsAt m s session
  batch : m.flight ++ m.queue ≡ s ∷ []
  commits : m.commits ≡ k.commits
  goes : Goes s k m

-- the session's commit has the next place
record HasPlace (s : ℕ) (k m : Kernel) : Type 0 where
  session : Session
  at : IsAt m s session
  stage : session.stage ≡ Placed
  place : last_place s m.commits 0 ≡ length k.commits + 1
  goes : Goes s k m

-- the session was told the next place, and has no transaction
pub record IsTold (s : ℕ) (k : Kernel) (answer : Answer) (n : Kernel) : Type 0 where
  pub told : answer ≡ Committed (length k.commits + 1)
  pub out : session_at s n.sessions ≡ None
  pub others : KeepsOthers s k n
  pub next : n.next_txn ≡ k.next_txn
  pub base : n.base ≡ k.base

-- a write of a batch leaves sessions, rows and commits
record IsSame (m n : Kernel) : Type 0 where
  sessions : n.sessions ≡ m.sessions
  locks : n.locks ≡ m.locks
  commits : n.commits ≡ m.commits

wrote_does : (m : Kernel) (answer : Answer) (n : Kernel) → answer ≡ Wrote → Does IsTakenOut m Flush answer n → IsSame m n
wrote_does m _ _ is (Does.FlushesNothing flight queue) = record { sessions = refl; locks = refl; commits = refl }
wrote_does m _ _ is (Does.TakesOff flight queue) = record { sessions = refl; locks = refl; commits = refl }
wrote_does m _ _ is (Does.Writes flight calls) = record { sessions = refl; locks = refl; commits = refl }
wrote_does m _ _ is (Does.IsDurable flight calls) = absurd (cc)

wrote_same : (m : Kernel) (answer : Answer) (n : Kernel) → answer ≡ Wrote → Answers m Flush answer n → IsSame m n
wrote_same m _ _ is (Answers.IsStepped _ _ (Stepped.IsTurnedAway answer away)) = record { sessions = refl; locks = refl; commits = refl }
wrote_same m _ _ is (Answers.IsStepped _ _ (Stepped.IsDone answer n free does)) = wrote_does m answer n is does
wrote_same m _ _ is Answers.WantsMemory = record { sessions = refl; locks = refl; commits = refl }
wrote_same m _ _ is (Answers.Fails offset flush free some) = record { sessions = refl; locks = refl; commits = refl }

-- the end of a batch
durable_does : (m : Kernel) (answer : Answer) (n : Kernel) (first count : ℕ) → answer ≡ Durable first count → Does IsTakenOut m Flush answer n → n ≡ placed_all m
durable_does m _ _ first count is (Does.FlushesNothing flight queue) = absurd (cc)
durable_does m _ _ first count is (Does.TakesOff flight queue) = absurd (cc)
durable_does m _ _ first count is (Does.Writes flight calls) = absurd (cc)
durable_does m _ _ first count is (Does.IsDurable flight calls) = refl

durable_is : (m : Kernel) (answer : Answer) (n : Kernel) (first count : ℕ) → answer ≡ Durable first count → Answers m Flush answer n → n ≡ placed_all m
durable_is m _ _ first count is (Answers.IsStepped _ _ (Stepped.IsTurnedAway answer away)) = absurd (never_away m Flush answer (ap is_loud is) away)
durable_is m _ _ first count is (Answers.IsStepped _ _ (Stepped.IsDone answer n free does)) = durable_does m answer n first count is does
durable_is m _ _ first count is Answers.WantsMemory = absurd (cc)
durable_is m _ _ first count is (Answers.Fails offset flush free some) = absurd (cc)

-- the last place of a session, where its commit is the last
last_pushed : (s : ℕ) (cs : List Entry) (c : Entry) (found : ℕ) → c.session ≡ s → last_place s (cs ++ c ∷ []) found ≡ c.place
last_pushed s [] c found is = ap (λ (b : Bool). cond b c.place found) (number-tell c.session s is)
last_pushed s (d ∷ cs) c found is = last_pushed s cs c (cond (nat_eq d.session s) d.place found) is

module _ (s : ℕ) (k : Kernel) where
  goes_none : Goes s k k
  goes_none = record { others = kept_none s k; next = refl; base = refl }

  goes_flush : (m : Kernel) (answer : Answer) (n : Kernel) → next_begun answer m.next_txn ≡ m.next_txn → m.flight ++ m.queue ≡ s ∷ [] → Goes s k m → Answers m Flush answer n → Goes s k n
  goes_flush m answer n quiet batch g h = record {
    others = kept_more s k m n g.others (flush_kept m s answer n batch h);
    next = next_kept m Flush answer n h ∙ quiet ∙ g.next;
    base = base_kept m Flush answer n h ∙ g.base;
  }

  goes_commit : (m : Kernel) (answer : Answer) (n : Kernel) → next_begun answer m.next_txn ≡ m.next_txn → Goes s k m → Answers m (Commit s) answer n → Goes s k n
  goes_commit m answer n quiet g h = record {
    others = kept_more s k m n g.others (others_kept m s (Commit s) answer n refl h);
    next = next_kept m (Commit s) answer n h ∙ quiet ∙ g.next;
    base = base_kept m (Commit s) answer n h ∙ g.base;
  }

  writes_alone : (m n : Kernel) → Writes m n → IsAlone s k m → IsAlone s k n
  writes_alone m _ Writes.Stays a = a
  writes_alone m _ (Writes.Goes {m = between} w n h) a =
      let b = writes_alone m between w a in
      let same = wrote_same between Wrote n refl h in
      record {
        session = b.session;
        at = ap (session_at s) same.sessions ∙ b.at;
        batch = write_keeps between Wrote n refl h ∙ b.batch;
        commits = same.commits ∙ b.commits;
        goes = goes_flush between Wrote n refl b.batch b.goes h;
      }

  durable_place : (m n : Kernel) (first count : ℕ) → IsAlone s k m → Answers m Flush (Durable first count) n → HasPlace s k n
  durable_place m n first count a h = record {
    session = at_place a.session;
    at = ap (λ (z : Kernel). session_at s z.sessions) is ∙ ap (λ (z : Kernel). session_at s z.sessions) one ∙ (session_changes s a.session.txn.session at_place m.sessions a.session own (λ y. refl) a.at).own;
    stage = refl;
    place = ap (λ (z : Kernel). last_place s z.commits 0) is ∙ ap (λ (z : Kernel). last_place s z.commits 0) one ∙ last_pushed s m.commits (placed_commit a.session m) 0 own ∙ ap (λ (cs : List Entry). length cs + 1) a.commits;
    goes = goes_flush m (Durable first count) n refl a.batch a.goes h;
  }
    where
      own : a.session.txn.session ≡ s
      own = own_number m s a.session a.at

      is : n ≡ placed_all m
      is = durable_is m (Durable first count) n first count refl h

      one : placed_each m.flight m ≡ placed_found (Some a.session) m
      one = ap (λ (l : List ℕ). placed_each l m) (durable_one m s (inr a.batch) (Durable first count) n first count refl h).0 ∙ ap (λ (o : Option Session). placed_found o m) a.at

  stores_place : (m n : Kernel) → Stores m n → IsAlone s k m → HasPlace s k n
  stores_place m n stores a = durable_place stores.before n stores.first stores.count (writes_alone m stores.before stores.writes a) stores.durable

  -- a session whose commit has its place does not queue it
  placed_does : (m : Kernel) (answer : Answer) (n : Kernel) → HasPlace s k m → answer ≡ IsQueued → Does IsTakenOut m (Commit s) answer n → ⊥
  placed_does m _ _ p is (Does.Commits _ y found idle none) = cc
  placed_does m _ _ p is (Does.JoinsQueue _ y found idle some) = idle_placed (other_stage m s y p.session Idle Placed found p.at idle p.stage)
  placed_does m _ _ p is (Does.StaysQueued _ y found queued) = queued_placed (other_stage m s y p.session Queued Placed found p.at queued p.stage)
  placed_does m _ _ p is (Does.TellsPlace _ y found placed) = cc

  placed_unqueued : (m : Kernel) (answer : Answer) (n : Kernel) → HasPlace s k m → answer ≡ IsQueued → Answers m (Commit s) answer n → ⊥
  placed_unqueued m _ _ p is (Answers.IsStepped _ _ (Stepped.IsTurnedAway answer away)) = never_away m (Commit s) answer (ap is_loud is) away
  placed_unqueued m _ _ p is (Answers.IsStepped _ _ (Stepped.IsDone answer n free does)) = placed_does m answer n p is does
  placed_unqueued m _ _ p is Answers.WantsMemory = cc
  placed_unqueued m _ _ p is (Answers.Fails offset flush free some) = cc

  abbrev Ends : Answer → Kernel → Type 0
  Ends answer n = (answer ≡ Committed (length k.commits + 1)) × (session_at s n.sessions ≡ None)

  placed_tells : (m : Kernel) (answer : Answer) (n : Kernel) → HasPlace s k m → answer ≢ IsQueued → Does IsTakenOut m (Commit s) answer n → Ends answer n
  placed_tells m _ _ p over (Does.Commits _ y found idle none) = absurd (idle_placed (other_stage m s y p.session Idle Placed found p.at idle p.stage))
  placed_tells m _ _ p over (Does.JoinsQueue _ y found idle some) = absurd (over refl)
  placed_tells m _ _ p over (Does.StaysQueued _ y found queued) = absurd (over refl)
  placed_tells m _ _ p over (Does.TellsPlace _ y found placed) = (ap Committed p.place, (session_goes s s m.sessions refl).own)

  placed_ends : (m : Kernel) (answer : Answer) (n : Kernel) → HasPlace s k m → answer ≢ IsQueued → fault_in answer ≡ None → Answers m (Commit s) answer n → Ends answer n
  placed_ends m _ _ p over free (Answers.IsStepped _ _ (Stepped.IsTurnedAway answer away)) = absurd (differ (sym (placed_let m s (ap is_placed p.at ∙ ap (λ (stage : Stage). not (is_active_stage stage)) p.stage)) ∙ away))
    where
      differ : None ≡ Some answer → ⊥
      differ e = cc
  placed_ends m _ _ p over free (Answers.IsStepped _ _ (Stepped.IsDone answer n goes does)) = placed_tells m answer n p over does
  placed_ends m _ _ p over free Answers.WantsMemory = absurd (memory_faults free)
  placed_ends m _ _ p over free (Answers.Fails offset flush goes some) = absurd (commit_flush s flush)

  -- from an idle session, where no commit waits
  module _ (x : Session) (at : IsAt k s x) (idle : x.stage ≡ Idle) where
    joins_does : (answer : Answer) (n : Kernel) → k.flight ++ k.queue ≡ [] → answer ≡ IsQueued → Does IsTakenOut k (Commit s) answer n → Goes s k n → IsAlone s k n
    joins_does _ _ none is (Does.Commits _ y found stage unchanged) g = absurd (cc)
    joins_does _ _ none is (Does.JoinsQueue _ y found stage some) g = record {
      session = at_stage Queued y;
      at = (session_changes s s (at_stage Queued) k.sessions y refl (λ z. refl) found).own;
      batch = sym (append_assoc k.flight k.queue (s ∷ [])) ∙ ap (λ (l : List ℕ). l ++ s ∷ []) none;
      commits = refl;
      goes = g;
    }
    joins_does _ _ none is (Does.StaysQueued _ y found queued) g = absurd (idle_queued (other_stage k s x y Idle Queued at found idle queued))
    joins_does _ _ none is (Does.TellsPlace _ y found placed) g = absurd (cc)

    joins_alone : (answer : Answer) (n : Kernel) → k.flight ++ k.queue ≡ [] → answer ≡ IsQueued → Answers k (Commit s) answer n → Goes s k n → IsAlone s k n
    joins_alone _ _ none is (Answers.IsStepped _ _ (Stepped.IsTurnedAway answer away)) g = absurd (never_away k (Commit s) answer (ap is_loud is) away)
    joins_alone _ _ none is (Answers.IsStepped _ _ (Stepped.IsDone answer n free does)) g = joins_does answer n none is does g
    joins_alone _ _ none is Answers.WantsMemory g = absurd (cc)
    joins_alone _ _ none is (Answers.Fails offset flush free some) g = absurd (commit_flush s flush)

    queues_place : (m : Kernel) → k.flight ++ k.queue ≡ [] → Queues s k m → (m ≡ k) ⊎ HasPlace s k m
    queues_place _ none Queues.Stays = inl refl
    queues_place _ none (Queues.Goes {m} q queued n h stores) = go (queues_place m none q)
      where
        go : (m ≡ k) ⊎ HasPlace s k m → (n ≡ k) ⊎ HasPlace s k n
        go (inl e) = let first = subst (λ (z : Kernel). Answers z (Commit s) IsQueued queued) e h in inr (stores_place queued n stores (joins_alone IsQueued queued none refl first (goes_commit k IsQueued queued refl goes_none first)))
        go (inr p) = absurd (placed_unqueued m IsQueued queued p refl h)

    idle_does : (answer : Answer) (n : Kernel) → answer ≢ IsQueued → Does IsTakenOut k (Commit s) answer n → Ends answer n
    idle_does _ _ over (Does.Commits _ y found stage unchanged) = (refl, (session_goes s y.txn.session k.sessions (own_number k s y found)).own)
    idle_does _ _ over (Does.JoinsQueue _ y found stage some) = absurd (over refl)
    idle_does _ _ over (Does.StaysQueued _ y found queued) = absurd (over refl)
    idle_does _ _ over (Does.TellsPlace _ y found placed) = absurd (idle_placed (other_stage k s x y Idle Placed at found idle placed))

    idle_ends : (answer : Answer) (n : Kernel) → answer ≢ IsQueued → fault_in answer ≡ None → Answers k (Commit s) answer n → Ends answer n
    idle_ends _ _ over free (Answers.IsStepped _ _ (Stepped.IsTurnedAway answer away)) = absurd (commit_goes k s x at idle answer free away)
    idle_ends _ _ over free (Answers.IsStepped _ _ (Stepped.IsDone answer n goes does)) = idle_does answer n over does
    idle_ends _ _ over free Answers.WantsMemory = absurd (memory_faults free)
    idle_ends _ _ over free (Answers.Fails offset flush goes some) = absurd (commit_flush s flush)

    -- the commit of an idle session is told the next place
    pub commits_told : (answer : Answer) (n : Kernel) → k.flight ++ k.queue ≡ [] → fault_in answer ≡ None → Commits s k answer n → IsTold s k answer n
    commits_told answer n none free c = go (queues_place c.before none c.queues)
      where
        all : (m : Kernel) → Goes s k m → Answers m (Commit s) answer n → Ends answer n → IsTold s k answer n
        all m g h e =
            let h' = goes_commit m answer n (ap (λ (a : Answer). next_begun a m.next_txn) e.0) g h in
            record { told = e.0; out = e.1; others = h'.others; next = h'.next; base = h'.base }

        go : (c.before ≡ k) ⊎ HasPlace s k c.before → IsTold s k answer n
        go (inl e) = let h = subst (λ (z : Kernel). Answers z (Commit s) answer n) e c.answered in all k goes_none h (idle_ends answer n c.over free h)
        go (inr p) = all c.before p.goes c.answered (placed_ends c.before answer n p c.over free c.answered)
