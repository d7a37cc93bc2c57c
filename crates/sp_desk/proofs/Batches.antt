-- The sessions whose commits wait for their places, as events leave them.
use Rattle.std.proofs.Common.{rules, ◌≡◌, ◌≢◌, ◌⊎◌, ℕ, Bool, true, false, List, [], ◌∷◌, ◌++◌, Option, None, Some, refl, sym, ap, ◌∙◌, subst, inl, inr, append_assoc}
use Rattle.sp_locks.specs.declared.mode.Mode.{Mode}
use Rattle.sp_locks.specs.declared.row.Name.{Name as OnName}
use Rattle.sp_locks.specs.declared.row.Duration.{Duration}
use Rattle.sp_event.specs.declared.event.Event.{Event}
use Rattle.sp_event.specs.declared.event.Event.TheVariants.{Commit as AskCommit, Flush}
use Rattle.sp_event.specs.declared.answer.Answer.{Answer}
use Rattle.sp_event.specs.declared.answer.Answer.TheVariants.{Queued, Wrote, Durable}
use Rattle.sp_node.specs.Among.{Among}
use Rattle.sp_model.specs.declared.session.Session.{Session}
use Rattle.sp_model.specs.declared.session.Stage.{Stage}
use Rattle.sp_model.specs.State.{Kernel, session_at}
use Rattle.sp_model.specs.Moves.{Requests, placed_each, placed_found}
use Rattle.sp_model.specs.Removal.{IsTakenOut}
use Rattle.sp_model.specs.Soundness.{Sound}
use Rattle.sp_model.specs.Stepped.{Stepped, Does}
use Rattle.sp_kernel.specs.Answers.{Answers}
use Rattle.sp_told.proofs.Quiet.{IsQuiet, turned_quiet}

append-nil : {A : Type 0} (x : List A) → x ++ [] ≡ x
append-nil x = search rules

-- those of the batch in flight, and those that wait for the next
abbrev pub batch : Kernel → List ℕ
batch k = k.flight ++ k.queue

module _ (k : Kernel) where
  requests_batch : (x : Session) (name : OnName) (mode : Mode) (duration : Duration) (granted waits : Stage) (answer : Answer) (n : Kernel) → Requests k x name mode duration granted waits answer n → batch n ≡ batch k
  requests_batch x name mode duration granted waits _ _ (Requests.IsGranted free) = refl
  requests_batch x name mode duration granted waits _ _ (Requests.HasToWait some told) = refl
  requests_batch x name mode duration granted waits _ _ (Requests.ClosesCycle cycle some told) = refl

  does_batch : (event : Event) (answer : Answer) (n : Kernel) → event ≢ Flush → ((s : ℕ) → event ≡ AskCommit s → answer ≡ Queued → ⊥) → Does IsTakenOut k event answer n → batch n ≡ batch k
  does_batch _ _ _ other plain (Does.Begins s) = refl
  does_batch _ _ _ other plain (Does.Starts s x op at in_space) = refl
  does_batch _ _ _ other plain (Does.NamesNothing s x op at started none) = refl
  does_batch _ _ _ other plain (Does.Names s x op name mode answer after at started object asked) = requests_batch x name mode _ _ _ answer after asked
  does_batch _ _ _ other plain (Does.HasWaited s x op at waited) = refl
  does_batch _ _ _ other plain (Does.Plans s x op commit short at stage needs) = refl
  does_batch _ _ _ other plain (Does.Asks s x op need left answer after at planned asked) = requests_batch x _ _ _ _ _ answer after asked
  does_batch _ _ _ other plain (Does.FullOfEntries s x op at planned adds passes) = refl
  does_batch _ _ _ other plain (Does.FullOfNumbers s x r after chosen at planned adds few inserts passes) = refl
  does_batch _ _ _ other plain (Does.FullOfReplies s x op at planned passes) = refl
  does_batch _ _ _ other plain (Does.Applies s x op at planned adds few) = refl
  does_batch _ _ _ other plain (Does.Inserts_entry s x r after chosen gifts at planned adds few inserts numbers are) = refl
  does_batch _ _ _ other plain (Does.Commits s x at idle none) = refl
  does_batch _ _ _ other plain (Does.JoinsQueue s x at idle some) = absurd (plain s refl refl)
  does_batch _ _ _ other plain (Does.StaysQueued s x at queued) = refl
  does_batch _ _ _ other plain (Does.TellsPlace s x at placed) = refl
  does_batch _ _ _ other plain (Does.RollsBack s x at) = refl
  does_batch _ _ _ other plain (Does.FlushesNothing flight queue) = absurd (other refl)
  does_batch _ _ _ other plain (Does.TakesOff flight queue) = absurd (other refl)
  does_batch _ _ _ other plain (Does.Writes flight calls) = absurd (other refl)
  does_batch _ _ _ other plain (Does.IsDurable flight calls) = absurd (other refl)
  does_batch _ _ _ other plain (Does.CleansNothing none) = refl
  does_batch _ _ _ other plain (Does.CleanIsFull n rest after dead removed unused passes) = refl
  does_batch _ _ _ other plain (Does.Cleans n rest after short removes free) = refl
  does_batch _ _ _ other plain (Does.PutsOff n rest after short granule holder mode removes put) = refl

  -- every event but a flush, and a commit that joins the queue, leaves them
  pub answers_batch : (event : Event) (answer : Answer) (n : Kernel) → event ≢ Flush → ((s : ℕ) → event ≡ AskCommit s → answer ≡ Queued → ⊥) → Answers k event answer n → batch n ≡ batch k
  answers_batch event _ _ other plain (Answers.IsStepped _ _ (Stepped.IsTurnedAway answer away)) = refl
  answers_batch event _ _ other plain (Answers.IsStepped _ _ (Stepped.IsDone answer n free does)) = does_batch event answer n other plain does
  answers_batch event _ _ other plain Answers.WantsMemory = refl
  answers_batch event _ _ other plain (Answers.Fails offset flush free some) = absurd (other flush)

  does_join : (s : ℕ) (answer : Answer) (n : Kernel) → batch k ≡ [] → Does IsTakenOut k (AskCommit s) answer n → (batch n ≡ []) ⊎ (batch n ≡ s ∷ [])
  does_join s _ _ e (Does.Commits _ x at idle none) = inl e
  does_join s _ _ e (Does.JoinsQueue _ x at idle some) = inr (sym (append_assoc k.flight k.queue (s ∷ [])) ∙ ap (λ (l : List ℕ). l ++ s ∷ []) e)
  does_join s _ _ e (Does.StaysQueued _ x at queued) = inl e
  does_join s _ _ e (Does.TellsPlace _ x at placed) = inl e

  -- a commit joins them at most
  pub commit_joins : (s : ℕ) (answer : Answer) (n : Kernel) → batch k ≡ [] → Answers k (AskCommit s) answer n → (batch n ≡ []) ⊎ (batch n ≡ s ∷ [])
  commit_joins s _ _ e (Answers.IsStepped _ _ (Stepped.IsTurnedAway answer away)) = inl e
  commit_joins s _ _ e (Answers.IsStepped _ _ (Stepped.IsDone answer n free does)) = does_join s answer n e does
  commit_joins s _ _ e Answers.WantsMemory = inl e
  commit_joins s _ _ e (Answers.Fails offset flush free some) = absurd (differ flush)
    where
      differ : AskCommit s ≡ Flush → ⊥
      differ h = cc

  does_write : (answer : Answer) (n : Kernel) → answer ≡ Wrote → Does IsTakenOut k Flush answer n → batch n ≡ batch k
  does_write _ _ is (Does.FlushesNothing flight queue) = refl
  does_write _ _ is (Does.TakesOff flight queue) = append-nil k.queue ∙ sym (ap (λ (l : List ℕ). l ++ k.queue) flight)
  does_write _ _ is (Does.Writes flight calls) = refl
  does_write _ _ is (Does.IsDurable flight calls) = absurd (cc)

  -- a write of a batch leaves them
  pub write_keeps : (answer : Answer) (n : Kernel) → answer ≡ Wrote → Answers k Flush answer n → batch n ≡ batch k
  write_keeps _ _ is (Answers.IsStepped _ _ (Stepped.IsTurnedAway answer away)) = refl
  write_keeps _ _ is (Answers.IsStepped _ _ (Stepped.IsDone answer n free does)) = does_write answer n is does
  write_keeps _ _ is Answers.WantsMemory = refl
  write_keeps _ _ is (Answers.Fails offset flush free some) = refl

found_queue : (o : Option Session) (k : Kernel) → (placed_found o k).queue ≡ k.queue
found_queue None k = refl
found_queue (Some x) k = refl

each_queue : (numbers : List ℕ) (k : Kernel) → (placed_each numbers k).queue ≡ k.queue
each_queue [] k = refl
each_queue (s ∷ numbers) k = each_queue numbers (placed_found (session_at s k.sessions) k) ∙ found_queue (session_at s k.sessions) k

one_left : (s : ℕ) (xs ys : List ℕ) → xs ≢ [] → (xs ++ ys ≡ []) ⊎ (xs ++ ys ≡ s ∷ []) → (xs ≡ s ∷ []) × (ys ≡ [])
one_left s [] ys some h = absurd (some refl)
one_left s (x ∷ []) [] some (inr e) = (e, refl)
one_left s (x ∷ []) (y ∷ ys) some (inr e) = absurd (differ e)
  where
    differ : x ∷ y ∷ ys ≡ s ∷ [] → ⊥
    differ h = cc
one_left s (x ∷ z ∷ xs) ys some (inr e) = absurd (differ e)
  where
    differ : x ∷ z ∷ (xs ++ ys) ≡ s ∷ [] → ⊥
    differ h = cc
one_left s (x ∷ xs) ys some (inl e) = absurd (differ e)
  where
    differ : x ∷ (xs ++ ys) ≡ [] → ⊥
    differ h = cc

abbrev is_durable : Answer → Bool
is_durable (Durable first count) = true
is_durable answer = false

quiet_plain : (answer : Answer) → IsQuiet answer → is_durable answer ≡ false
quiet_plain _ (IsQuiet.Stops offset) = refl
quiet_plain _ (IsQuiet.Refuses why) = refl
quiet_plain _ (IsQuiet.IsFull kind) = refl
quiet_plain _ (IsQuiet.WaitsStill name) = refl
quiet_plain _ (IsQuiet.IsLatched holder) = refl
quiet_plain _ IsQuiet.Lacks = refl
quiet_plain _ IsQuiet.Faults = refl

not_durable : (answer : Answer) (first count : ℕ) → is_durable answer ≡ false → answer ≡ Durable first count → ⊥
not_durable answer first count e h = differ (sym (ap is_durable h) ∙ e)
  where
    differ : true ≡ false → ⊥
    differ f = cc

module _ (k : Kernel) (s : ℕ) (few : (batch k ≡ []) ⊎ (batch k ≡ s ∷ [])) where
  does_store : (answer : Answer) (n : Kernel) (first count : ℕ) → answer ≡ Durable first count → Does IsTakenOut k Flush answer n → (k.flight ≡ s ∷ []) × (batch n ≡ [])
  does_store _ _ first count is (Does.FlushesNothing flight queue) = absurd (not_durable _ first count refl is)
  does_store _ _ first count is (Does.TakesOff flight queue) = absurd (not_durable _ first count refl is)
  does_store _ _ first count is (Does.Writes flight calls) = absurd (not_durable _ first count refl is)
  does_store _ _ first count is (Does.IsDurable flight calls) = let h = one_left s k.flight k.queue flight few in (h.0, each_queue k.flight k ∙ h.1)

  -- where one commit waits at most, the batch that is durable is that one, and nobody waits then
  pub durable_one : (answer : Answer) (n : Kernel) (first count : ℕ) → answer ≡ Durable first count → Answers k Flush answer n → (k.flight ≡ s ∷ []) × (batch n ≡ [])
  durable_one _ _ first count is (Answers.IsStepped _ _ (Stepped.IsTurnedAway answer away)) = absurd (not_durable answer first count (quiet_plain answer (turned_quiet k Flush answer away)) is)
  durable_one _ _ first count is (Answers.IsStepped _ _ (Stepped.IsDone answer n free does)) = does_store answer n first count is does
  durable_one _ _ first count is Answers.WantsMemory = absurd (not_durable _ first count refl is)
  durable_one _ _ first count is (Answers.Fails offset flush free some) = absurd (not_durable _ first count refl is)

-- where no session has a transaction nobody waits
pub none_batch : (k : Kernel) → Sound k → k.sessions ≡ [] → batch k ≡ []
none_batch k sound none = go (batch k) (λ s i. let b = sound.queued.back s i in subst (λ (xs : List Session). Among b.0 xs) none b.1)
  where
    go : (numbers : List ℕ) → ((s : ℕ) → Among s numbers → ⊥) → numbers ≡ []
    go [] h = refl
    go (s ∷ numbers) h = absurd (h s (inl refl))
