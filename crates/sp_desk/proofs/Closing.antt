-- The rollbacks at the end of a script.
use Rattle.std.proofs.Common.{rules, ◌≡◌, ◌⊎◌, ℕ, ◌+◌, ◌<◌, ◌≤◌, Bool, true, false, not, cond, List, [], ◌∷◌, ◌++◌, Option, None, Some, refl, sym, ap, ◌∙◌, subst, inl, inr, arith}
use Rattle.std.proofs.lemmas.Bool.{cases_lt}
use Rattle.std.specs.Io.KnownBytes.{Appends}
use Rattle.sp_io.specs.Streams.{AppendsFront}
use Rattle.sp_event.specs.declared.answer.Answer.{Answer}
use Rattle.sp_event.specs.declared.answer.Why.{Why}
use Rattle.sp_event.specs.declared.answer.Why.TheVariants.{NoTxn}
use Rattle.sp_event.specs.declared.event.Event.{Event}
use Rattle.sp_event.specs.declared.event.Event.TheVariants.{Rollback as AskRollback}
use Rattle.sp_event.specs.declared.answer.Answer.TheVariants.{RolledBack, Refused, Stopped}
use Rattle.sp_text.specs.declared.form.Form.{Form}
use Rattle.sp_text.specs.declared.form.Form.TheVariants.{Play}
use Rattle.sp_text.specs.Texts.{render, item_text}
use Rattle.sp_text.specs.declared.types.Item.{Item}
use Rattle.sp_text.specs.declared.types.Item.TheVariants.{Told}
use Rattle.sp_text.specs.declared.types.Command.TheVariants.{Rollback}
use Rattle.sp_lines.specs.declared.fault.Fault.{Fault}
use Rattle.sp_lines.specs.declared.fault.Fault.TheVariants.{Write, Disk, Memory}
use Rattle.sp_lines.specs.Keeping.{KeptAt}
use Rattle.sp_model.specs.declared.session.Session.{Session}
use Rattle.sp_model.specs.State.{Kernel, is_session, session_at, sessions_without}
use Rattle.sp_model.specs.Refusals.{first_of, refused, refusal, stops, turned_away}
use Rattle.sp_model.specs.Removal.{IsTakenOut}
use Rattle.sp_model.specs.Stepped.{Stepped, Does}
use Rattle.sp_model.proofs.Turned.{none-first}
use Rattle.sp_told.proofs.Quiet.{IsQuiet, turned_quiet}
use Rattle.sp_model.proofs.Sessions.{found-among, number-same}
use Rattle.sp_kernel.specs.Answers.{Answers}
use Rattle.sp_desk.specs.declared.stalled.Stalled.{Stalled}
use Rattle.sp_desk.specs.Course.{Leads}
use Rattle.sp_desk.specs.Playing.{Turn, Plays, IsOver, AreOver}
use Rattle.sp_desk.specs.Hearing.{place, Passes, Stops}
use Rattle.sp_desk.proofs.Joining.{leads_none}
use Rattle.sp_desk.proofs.Answering.{turned_by}

append-nil : {A : Type 0} (x : List A) → x ++ [] ≡ x
append-nil x = search rules

render_one : (item : Item) → render Play (item ∷ []) ≡ item_text Play item
render_one item = append-nil (item_text Play item)

-- a rollback that is refused leaves the session as it is: over
pub refused_over : (k : Kernel) (s : ℕ) (answer : Answer) (why : Why) (n : Kernel) → Answers k (AskRollback s) answer n → answer ≡ Refused why → (n ≡ k) × IsOver n s
refused_over k s answer why n h e =
    let t = turned_by k (AskRollback s) (Refused why) n (subst (λ (a : Answer). Answers k (AskRollback s) a n) e h) refl refl in
    (t.1, record { why = why; refused = subst (λ (m : Kernel). turned_away m (AskRollback s) ≡ Some (Refused why)) (sym t.1) t.0 })

pub over_more : (k n : Kernel) (count : ℕ) → AreOver k count → n ≡ k → IsOver n count → AreOver n (count + 1)
over_more k n count over e last t low = go (cases_lt t count)
  where
    go : (t < count) ⊎ (count ≤ t) → IsOver n t
    go (inl l) = subst (λ (m : Kernel). IsOver m t) (sym e) (over t l)
    go (inr l) = subst (λ (i : ℕ). IsOver n i) (let f : count ≡ t = omega (arith, l, low) in f) last

-- the answer to a rollback that is turned away, by the session and by whether the kernel is stopped
abbrev over_by : Option ℕ → ℕ → Option Session → Option Answer
over_by o s x = first_of (stops o (AskRollback s) x ∷ refused (refusal (AskRollback s) x) ∷ None ∷ None ∷ None ∷ [])

none_over : (s : ℕ) → over_by None s None ≡ Some (Refused NoTxn)
none_over s = refl

-- a kernel that lets a rollback be done is not stopped
unstopped : (k : Kernel) (s : ℕ) → turned_away k (AskRollback s) ≡ None → k.stopped ≡ None
unstopped k s h = go k.stopped (none-first (stops k.stopped (AskRollback s) (session_at s k.sessions)) _ h).0
  where
    go : (o : Option ℕ) → stops o (AskRollback s) (session_at s k.sessions) ≡ None → o ≡ None
    go None e = refl
    go (Some offset) e = absurd (some e)
      where
        some : Some (Stopped offset) ≡ None → ⊥
        some f = cc

abbrev is_done : Answer → Bool
is_done RolledBack = true
is_done answer = false

quiet_undone : (answer : Answer) → IsQuiet answer → is_done answer ≡ false
quiet_undone _ (IsQuiet.Stops offset) = refl
quiet_undone _ (IsQuiet.Refuses why) = refl
quiet_undone _ (IsQuiet.IsFull kind) = refl
quiet_undone _ (IsQuiet.WaitsStill name) = refl
quiet_undone _ (IsQuiet.IsLatched holder) = refl
quiet_undone _ IsQuiet.Lacks = refl
quiet_undone _ IsQuiet.Faults = refl

-- no session of that number is left
none_left : (s : ℕ) (xs : List Session) → session_at s (sessions_without s xs) ≡ None
none_left s [] = refl
none_left s (x ∷ xs) = go (is_session s x) refl (none_left s xs)
  where
    go : (a : Bool) → is_session s x ≡ a → session_at s (sessions_without s xs) ≡ None → session_at s (cond (not a) (x ∷ sessions_without s xs) (sessions_without s xs)) ≡ None
    go true e h = h
    go false e h = ap (λ (b : Bool). cond b (Some x) (session_at s (sessions_without s xs))) e ∙ h

-- a session that is not the one that leaves is found as before
found_after : (s t : ℕ) (xs : List Session) → (session_at t (sessions_without s xs) ≡ session_at t xs) ⊎ (session_at t (sessions_without s xs) ≡ None)
found_after s t [] = inl refl
found_after s t (x ∷ xs) = go (is_session s x) (is_session t x) refl refl (found_after s t xs)
  where
    go : (a b : Bool) → is_session s x ≡ a → is_session t x ≡ b → (session_at t (sessions_without s xs) ≡ session_at t xs) ⊎ (session_at t (sessions_without s xs) ≡ None)
        → (session_at t (cond (not a) (x ∷ sessions_without s xs) (sessions_without s xs)) ≡ cond b (Some x) (session_at t xs)) ⊎ (session_at t (cond (not a) (x ∷ sessions_without s xs) (sessions_without s xs)) ≡ None)
    go false true ea eb h = inl (ap (λ (b : Bool). cond b (Some x) (session_at t (sessions_without s xs))) eb)
    go false false ea eb (inl e) = inl (ap (λ (b : Bool). cond b (Some x) (session_at t (sessions_without s xs))) eb ∙ e)
    go false false ea eb (inr e) = inr (ap (λ (b : Bool). cond b (Some x) (session_at t (sessions_without s xs))) eb ∙ e)
    go true true ea eb (inl e) = gone (same ea eb)
      where
        same : is_session s x ≡ true → is_session t x ≡ true → s ≡ t
        same ea eb = sym (number-same x.txn.session s ea) ∙ number-same x.txn.session t eb

        gone : s ≡ t → (session_at t (sessions_without s xs) ≡ Some x) ⊎ (session_at t (sessions_without s xs) ≡ None)
        gone e = inr (subst (λ (i : ℕ). session_at i (sessions_without s xs) ≡ None) e (none_left s xs))
    go true true ea eb (inr e) = inr e
    go true false ea eb h = h

-- what a rollback that is done leaves
module _ (k : Kernel) (s : ℕ) (n : Kernel) (done : Answers k (AskRollback s) RolledBack n) where
  sessions_then : (n.stopped ≡ k.stopped) × (n.sessions ≡ sessions_without s k.sessions) × (k.stopped ≡ None)
  sessions_then = go RolledBack n done refl
    where
      left : (answer : Answer) (m : Kernel) → Does IsTakenOut k (AskRollback s) answer m → (m.stopped ≡ k.stopped) × (m.sessions ≡ sessions_without s k.sessions)
      left _ _ (Does.RollsBack _ x at) = (refl, ap (λ (i : ℕ). sessions_without i k.sessions) (found-among s k.sessions x at).1)

      go : (answer : Answer) (m : Kernel) → Answers k (AskRollback s) answer m → answer ≡ RolledBack → (m.stopped ≡ k.stopped) × (m.sessions ≡ sessions_without s k.sessions) × (k.stopped ≡ None)
      go _ _ (Answers.IsStepped answer m (Stepped.IsTurnedAway _ turned)) e = absurd (differ (sym (ap is_done e) ∙ quiet_undone answer (turned_quiet k (AskRollback s) answer turned)))
        where
          differ : true ≡ false → ⊥
          differ h = cc
      go _ _ (Answers.IsStepped answer m (Stepped.IsDone _ _ goes does)) e = let h = left answer m does in (h.0, h.1, unstopped k s goes)
      go _ _ Answers.WantsMemory e = absurd (apart e)
        where
          apart : Answer.Memory ≡ RolledBack → ⊥
          apart h = cc
      go _ _ (Answers.Fails offset flush goes batch) e = absurd (none flush)
        where
          none : AskRollback s ≡ Event.Flush → ⊥
          none h = cc

  -- a session that is refused among those that are left
  over_at : (t : ℕ) (o : Option Session) (why : Why) → session_at t (sessions_without s k.sessions) ≡ o → over_by k.stopped t o ≡ Some (Refused why) → IsOver n t
  over_at t o why f h =
      let e = sessions_then in
      record { why = why; refused = ap (λ (q : Option ℕ). over_by q t (session_at t n.sessions)) e.0 ∙ ap (λ (l : List Session). over_by k.stopped t (session_at t l)) e.1 ∙ ap (λ (p : Option Session). over_by k.stopped t p) f ∙ h }

  over_none : (t : ℕ) → session_at t (sessions_without s k.sessions) ≡ None → IsOver n t
  over_none t f = over_at t None NoTxn f (ap (λ (q : Option ℕ). over_by q t None) sessions_then.2 ∙ none_over t)

  -- a session that was over still is
  still_over : (t : ℕ) → IsOver k t → IsOver n t
  still_over t over = found (found_after s t k.sessions)
    where
      found : (session_at t (sessions_without s k.sessions) ≡ session_at t k.sessions) ⊎ (session_at t (sessions_without s k.sessions) ≡ None) → IsOver n t
      found (inl f) = over_at t (session_at t k.sessions) over.why f over.refused
      found (inr f) = over_none t f

-- the rollback was done and told
pub closed_over : (k : Kernel) (s : ℕ) (answer : Answer) (n : Kernel) → AreOver k s → Answers k (AskRollback s) answer n → answer ≡ RolledBack → AreOver n (s + 1)
closed_over k s answer n over h e t low = go (cases_lt t s)
  where
    done : Answers k (AskRollback s) RolledBack n
    done = subst (λ (a : Answer). Answers k (AskRollback s) a n) e h

    go : (t < s) ⊎ (s ≤ t) → IsOver n t
    go (inl l) = still_over k s n done t (over t l)
    go (inr l) = subst (λ (i : ℕ). IsOver n i) (let f : s ≡ t = omega (arith, l, low) in f) (over_none k s n done s (none_left s k.sessions))

plays_closed : (k : Kernel) (w : List Stalled) (s : ℕ) (answer : Answer) (n : Kernel) → AreOver k s → Answers k (AskRollback s) answer n → answer ≡ RolledBack
    → Plays k w Turn.Closing ([] ++ Told s Rollback answer true ∷ []) n w Turn.Closing
plays_closed k w s answer n over h e = subst (λ (a : Answer). Plays k w Turn.Closing ([] ++ Told s Rollback a true ∷ []) n w Turn.Closing) (sym e)
    (Plays.Closes Plays.Stays s n over (subst (λ (a : Answer). Answers k (AskRollback s) a n) e h))

pub closed_passes : (k : Kernel) (w : List Stalled) (s : ℕ) (answer : Answer) (n : Kernel) (is js : List Item) (old new : Option (List ℕ)) (form : Form) → form ≡ Play → AreOver k s → Answers k (AskRollback s) answer n → answer ≡ RolledBack
    → js ≡ is ++ Told s Rollback answer true ∷ [] → Appends old new (item_text form (Told s Rollback answer true)) → Passes Turn.Closing Turn.Closing [] (place is w k old) (place js w n new)
closed_passes k w s answer n is js old new form play over h e kept wrote = record {
  items = [] ++ Told s Rollback answer true ∷ [];
  kept = kept;
  heard_as = refl;
  plays = plays_closed k w s answer n over h e;
  written = subst (λ (l : List ℕ). Appends old new l) (ap (λ (f : Form). item_text f (Told s Rollback answer true)) play ∙ sym (render_one (Told s Rollback answer true))) wrote;
}

pub closed_stops : (fault : Fault) (k : Kernel) (w : List Stalled) (s : ℕ) (answer : Answer) (n : Kernel) (is js : List Item) (old new : Option (List ℕ)) (form : Form) → form ≡ Play → AreOver k s → Answers k (AskRollback s) answer n → answer ≡ RolledBack
    → Leads k n → KeptAt fault form is js (Told s Rollback answer true) old new → Stops fault Turn.Closing [] (place is w k old) (place js w n new)
closed_stops Write k w s answer n is js old new form play over h e leads kept = record {
  items = [] ++ Told s Rollback answer true ∷ [];
  kept = kept.0;
  unanswered = [];
  heard_as = refl;
  reached = n;
  waiting = w;
  turn = Turn.Closing;
  plays = plays_closed k w s answer n over h e;
  leads = leads_none n;
  whole = λ e. refl;
  written = subst (λ (l : List ℕ). AppendsFront old new l) (ap (λ (f : Form). item_text f (Told s Rollback answer true)) play ∙ sym (render_one (Told s Rollback answer true))) kept.1;
}
closed_stops Disk k w s answer n is js old new form play over h e leads kept = absurd kept
closed_stops Memory k w s answer n is js old new form play over h e leads kept = record {
  items = [];
  kept = kept.0 ∙ sym (append-nil is);
  unanswered = [];
  heard_as = refl;
  reached = k;
  waiting = w;
  turn = Turn.Closing;
  plays = Plays.Stays;
  leads = leads;
  whole = λ e. absurd (apart e);
  written = kept.1;
}
  where
    apart : Memory ≡ Write → ⊥
    apart e = cc
