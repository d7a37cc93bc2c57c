-- What each event leaves of the commits that wait.
use Rattle.std.proofs.Common.{◌≡◌, ◌≢◌, ◌⊎◌, ℕ, ◌+◌, ◌<◌, Bool, true, false, not, ◌&&◌, ◌||◌, cond, nat_eq, List, [], ◌∷◌, ◌++◌, map, length, Option, Some, None, refl, sym, ap, ◌∙◌, subst, inl, inr, true≢false, arith}
use Rattle.std.specs.List.{list_any}
use Rattle.std.specs.List.Sorted.{IsPermutation}
use Rattle.std.specs.Option.{option_to_list}
use Rattle.std.proofs.lemmas.Bool.Decides.{nat_tests}
use Rattle.std.proofs.lemmas.List.Sorted.{IsPermutation-refl}
use Rattle.sp_rect.specs.declared.record.Record.{Record}
use Rattle.sp_rect.specs.declared.operation.Op.{Op}
use Rattle.sp_rect.specs.declared.operation.Op.TheVariants.{Put}
use Rattle.sp_locks.specs.declared.mode.Mode.{Mode}
use Rattle.sp_locks.specs.declared.row.Name.{Name}
use Rattle.sp_locks.specs.declared.row.Duration.{Duration}
use Rattle.sp_locks.specs.declared.row.Duration.TheVariants.{Commit as ToTheEnd}
use Rattle.sp_plain.specs.declared.change.Change.{Change}
use Rattle.sp_node.specs.declared.node.Entry.{Entry}
use Rattle.sp_node.specs.Among.{Among}
use Rattle.sp_node.specs.Change.{table_with}
use Rattle.sp_node.specs.Marks.{is_made_by, is_ended_by, is_draft_of, is_done, is_marked, marked, settled, undone}
use Rattle.sp_node.specs.Table.{Table, entries_of}
use Rattle.sp_node.proofs.Changed.{entries_of_with}
use Rattle.sp_txn.specs.Changes.{change_by, change_of, changes_of}
use Rattle.sp_txn.specs.Visible.{live}
use Rattle.sp_protection.specs.Effects.{is_changed, marks_by, marked_by, fresh}
use Rattle.sp_protection.specs.Replays.{LeavesMarks}
use Rattle.sp_protection.proofs.Commits.{locks_leave_marks}
use Rattle.sp_protection.proofs.Marking.{marked-marked}
use Rattle.sp_protection.proofs.Rules.{changed_owned}
use Rattle.sp_event.specs.declared.event.Event.{Event}
use Rattle.sp_event.specs.declared.event.Event.TheVariants.{Flush, Rollback}
use Rattle.sp_event.specs.declared.answer.Answer.{Answer}
use Rattle.sp_event.specs.declared.answer.Answer.TheVariants.{Queued as IsQueued}
use Rattle.sp_journal.specs.Standing.{Ledger}
use Rattle.sp_model.specs.declared.session.Session.{Session}
use Rattle.sp_model.specs.declared.session.Stage.{Stage}
use Rattle.sp_model.specs.declared.session.Stage.TheVariants.{Idle, Started, NameWait, Named, NeedWait, Planned}
use Rattle.sp_model.specs.State.{Kernel, entries_in, is_active, is_active_stage, sessions_without, with_change, at_stage, staged, locks_of}
use Rattle.sp_model.specs.Refusals.{refusal, turned_away}
use Rattle.sp_model.specs.Moves.{Requests, lengthened}
use Rattle.sp_model.specs.Plans.{is_adding, Inserts}
use Rattle.sp_model.specs.Removal.{KeepsOthers, RemovesOne}
use Rattle.sp_model.specs.Stepped.{Does, IsAt, is_change, has_changes, reply_of}
use Rattle.sp_model.specs.Soundness.{is_queued}
use Rattle.sp_model.proofs.Bare.{Bare}
use Rattle.sp_model.proofs.Sessions.{found-among, one-session, one-keyed, among-found, others-among, among-without, among-with}
use Rattle.sp_model.proofs.Holding.{locks-compatible}
use Rattle.sp_model.proofs.Endings.{numbers-other}
use Rattle.sp_model.proofs.Settling.{settled-keeps, undone-keeps}
use Rattle.sp_model.proofs.Dying.{marks_keep}
use Rattle.sp_model.proofs.Growing.{entered_members}
use Rattle.sp_model.proofs.Ready.{named_held, stay_needs, ready, ready_space, ready_object, ready_commit}
use Rattle.sp_model.proofs.Turned.{is_let, may_start}
use Rattle.sp_model.proofs.Ends.{rollback-active}
use Rattle.sp_durable.specs.Held.{AreChanges, AreHeld}
use Rattle.sp_durable.specs.Standing.{Matches}
use Rattle.sp_durable.proofs.Alike.{unmarked_none, change_alike, changes_alike, changes_settled, changes_undone}
use Rattle.sp_durable.proofs.Members.{changes_permuted}
use Rattle.sp_durable.proofs.Owners.{changes_settle}
use Rattle.sp_durable.proofs.Staying.{queued-other, marks_apart, StayQueued, flight_stays, queue_stays}

-- the queued sessions are there, with the same changes
abbrev pub StayThere : Kernel → List Session → List Entry → Type 0
StayThere k xs es = (y : Session) → Among y k.sessions → is_queued y.stage ≡ true → Among y xs × IsPermutation (changes_of y.txn.number (entries_in k)) (changes_of y.txn.number es)

-- what an event leaves where no commit takes its place and none joins the queue
pub record Leaves (k k' : Kernel) : Type 0 where
  pub live : live (entries_in k') ≡ live (entries_in k)
  pub flight : k'.flight ≡ k.flight
  pub queue : k'.queue ≡ k.queue
  pub calls : k'.calls ≡ k.calls
  pub stopped : k'.stopped ≡ k.stopped
  pub there : StayThere k k'.sessions (entries_in k')

pub stay_queued : (k k' : Kernel) → Bare k' → StayThere k k'.sessions (entries_in k') → StayQueued k k'
stay_queued k k' sound' there y i q = let t = there y i q in record { stands = among-found k'.sessions sound'.sessions.ascending y t.0; same = t.1 }

pub matches_still : (k k' : Kernel) (ledger : Ledger) → Bare k → Bare k' → Leaves k k' → Matches k ledger → Matches k' ledger
matches_still k k' ledger sound sound' leaves same =
    let stay = stay_queued k k' sound' leaves.there in
    record {
      records = same.records ∙ sym leaves.live;
      flight = subst (λ (ns : List ℕ). AreHeld k' ns ledger.flight) (sym leaves.flight) (flight_stays k k' sound stay ledger.flight same.flight);
      queued = subst (λ (ns : List ℕ). AreHeld k' ns ledger.queued) (sym leaves.queue) (queue_stays k k' sound stay ledger.queued same.queued);
    }

live_still : (k k' : Kernel) → Bare k → Bare k' → k'.base ≡ k.base → k'.commits ≡ k.commits → live (entries_in k') ≡ live (entries_in k)
live_still k k' sound sound' base commits = sound'.current ∙ rw (base, commits) refl ∙ sym sound.current

-- a transaction without changes leaves what is live
no_changes : (t : ℕ) (es : List Entry) → list_any (is_change t) es ≡ false → changes_of t es ≡ []
no_changes t [] h = refl
no_changes t (e ∷ es) h = let p = parts (is_change t e) (list_any (is_change t) es) h in rw (none e p.0) (no_changes t es p.1)
  where
    parts : (a b : Bool) → (a || b) ≡ false → (a ≡ false) × (b ≡ false)
    parts a b h = (grind arith, grind arith)

    none : (e : Entry) → is_change t e ≡ false → change_of t e ≡ None
    none e k = by (is_done e.marks.ended) (is_made_by t e.marks.made) (is_ended_by t e.marks.ended) (is_draft_of t e.marks.draft) k
      where
        by : (d m x f : Bool) → (((m || x || f) && not d) && not (m && x)) ≡ false → change_by t e d m x f ≡ None
        by true m x f h = refl
        by false true true f h = refl
        by false true false f h = absurd (true≢false h)
        by false false true f h = absurd (true≢false h)
        by false false false true h = absurd (true≢false h)
        by false false false false h = refl

module _ (k : Kernel) (sound : Bare k) where
  entries_stay : (xs : List Session) → ((y : Session) → Among y k.sessions → is_queued y.stage ≡ true → Among y xs) → StayThere k xs (entries_in k)
  entries_stay xs there y i q = (there y i q, IsPermutation-refl (changes_of y.txn.number (entries_in k)))

  pub unchanged_live : (x : Session) → Among x k.sessions → is_active x ≡ true → has_changes k x ≡ false → live (map (settled x.txn.number) (entries_in k)) ≡ live (entries_in k)
  unchanged_live x here active none =
      let are : AreChanges (entries_in k) x.txn.number [] = record { exact = subst (λ (cs : List Change). IsPermutation cs []) (sym (no_changes x.txn.number (entries_in k) none)) (IsPermutation-refl []); ordered = λ i d low high. absurd (never i high) } in
      sym (some _ _ (changes_settle k sound x [] here active are))
    where
      never : (i : ℕ) → i + 1 < 0 → ⊥
      never i h = omega arith

      some : (a b : List Record) → Some a ≡ Some b → a ≡ b
      some a b e = cc

  -- an event of a session that is not queued
  module _ (x : Session) (here : Among x k.sessions) (unqueued : is_queued x.stage ≡ false) where
    apart : (y : Session) → Among y k.sessions → is_queued y.stage ≡ true → y.txn.session ≢ x.txn.session
    apart y i q = queued-other x y unqueued q k.sessions here i (one-session k.sessions sound.sessions.ascending)

    in_changed : (change : Session → Session) → (y : Session) → Among y k.sessions → is_queued y.stage ≡ true → Among y (with_change x.txn.session change k.sessions)
    in_changed change y i q = others-among x.txn.session change k.sessions y i (apart y i q)

    in_rest : (y : Session) → Among y k.sessions → is_queued y.stage ≡ true → Among y (sessions_without x.txn.session k.sessions)
    in_rest y i q = among-without x.txn.session k.sessions y i (apart y i q)

    in_done : (change : Session → Session) → (y : Session) → Among y k.sessions → is_queued y.stage ≡ true → Among y (staged x.txn.session Idle (with_change x.txn.session change k.sessions))
    in_done change y i q = others-among x.txn.session (at_stage Idle) (with_change x.txn.session change k.sessions) y (in_changed change y i q) (apart y i q)

    pub with_undone : StayThere k (sessions_without x.txn.session k.sessions) (entries_of (table_with (undone x.txn.number) k.tree))
    with_undone y i q = (
      in_rest y i q,
      subst (IsPermutation (changes_of y.txn.number (entries_in k)))
          (sym (ap (changes_of y.txn.number) (entries_of_with (undone x.txn.number) (undone-keeps x.txn.number) k.tree) ∙ changes_undone y.txn.number x.txn.number (entries_in k) (marks_apart k x y sound here i (apart y i q))))
          (IsPermutation-refl (changes_of y.txn.number (entries_in k))),
    )

    pub with_settled : StayThere k (sessions_without x.txn.session k.sessions) (entries_of (table_with (settled x.txn.number) k.tree))
    with_settled y i q = (
      in_rest y i q,
      subst (IsPermutation (changes_of y.txn.number (entries_in k)))
          (sym (ap (changes_of y.txn.number) (entries_of_with (settled x.txn.number) (settled-keeps x.txn.number) k.tree) ∙ changes_settled y.txn.number x.txn.number (entries_in k) (marks_apart k x y sound here i (apart y i q))))
          (IsPermutation-refl (changes_of y.txn.number (entries_in k))),
    )

    -- an operation that marks entries
    module _ (op : Op) (at : x.stage ≡ Planned op []) (plain : is_adding k x op ≡ false) where
      leaves_marks : (y : Session) → Among y k.sessions → y.txn.session ≢ x.txn.session → LeavesMarks x.txn.number y.txn.number op (entries_in k)
      leaves_marks y i other =
          let r = ready k x op sound here at in
          locks_leave_marks k.tree (locks_of k.sessions k.locks) x.txn.number y.txn.number op (entries_in k)
          (locks-compatible k.next_txn (length k.commits) k.sessions k.locks sound.sessions sound.locks) (numbers-other k x y sound here i other) sound.owned
          (λ e j c. (changed_owned k.tree (locks_of k.sessions k.locks) x.txn.number op r.1.commit e sound.valid (ready_space k x op sound here at)
          (stay_needs k x op r.1.commit r.1.short plain r.1.needs) (ready_commit k x op sound here at) (named_held (locks_of k.sessions k.locks) x.txn.number op (ready_object k x op sound here at)) j c).object)

      same_marked : (y : Session) → Among y k.sessions → y.txn.session ≢ x.txn.session → changes_of y.txn.number (map (marked_by x.txn.number op) (entries_in k)) ≡ changes_of y.txn.number (entries_in k)
      same_marked y i other = changes_alike y.txn.number (marked_by x.txn.number op) (entries_in k) (λ e j. change_alike y.txn.number e (marked_by x.txn.number op e) (λ m. stays e j m (is_changed x.txn.number op e) refl) (λ m. old e (marked-marked y.txn.number x.txn.number op e m)))
        where
          stays : (e : Entry) → Among e (entries_in k) → is_marked y.txn.number e ≡ true → (b : Bool) → is_changed x.txn.number op e ≡ b → marked_by x.txn.number op e ≡ e
          stays e j m true c = absurd (true≢false (sym m ∙ leaves_marks y i other e j c))
          stays e j m false c = ap (λ (b : Bool). cond b (marked (marks_by x.txn.number op e.marks) e) e) c

          old : (e : Entry) → (is_marked y.txn.number e ≡ true) ⊎ ((y.txn.number ≡ x.txn.number) × (is_changed x.txn.number op e ≡ true)) → is_marked y.txn.number e ≡ true
          old e (inl m) = m
          old e (inr n) = absurd (numbers-other k x y sound here i other n.0)

      pub with_marked : (change : Session → Session) → StayThere k (staged x.txn.session Idle (with_change x.txn.session change k.sessions)) (entries_of (table_with (marked_by x.txn.number op) k.tree))
      with_marked change y i q = (
        in_done change y i q,
        subst (IsPermutation (changes_of y.txn.number (entries_in k)))
            (sym (ap (changes_of y.txn.number) (entries_of_with (marked_by x.txn.number op) (marks_keep x.txn.number op) k.tree) ∙ same_marked y i (apart y i q)))
            (IsPermutation-refl (changes_of y.txn.number (entries_in k))),
      )

    -- an operation that adds an entry
    pub with_inserted : (r : Record) (after : Table) (chosen : ℕ) → Inserts k x r after chosen → (change : Session → Session) → StayThere k (staged x.txn.session Idle (with_change x.txn.session change k.sessions)) (entries_of after)
    with_inserted r after chosen inserts change y i q = (
      in_done change y i q,
      subst (λ (cs : List Change). IsPermutation cs (changes_of y.txn.number (entries_of after))) (ap (λ (o : Option Change). option_to_list o ++ changes_of y.txn.number (entries_in k)) (unmarked_none y.txn.number (fresh x.txn.number k.next_entry r) (new (nat_eq x.txn.number y.txn.number) (differ (numbers-other k x y sound here i (apart y i q))))))
          (changes_permuted y.txn.number (fresh x.txn.number k.next_entry r ∷ entries_in k) (entries_of after) (entered_members k.tree (fresh x.txn.number k.next_entry r) after sound.valid inserts.inserted unused (is_marked y.txn.number))),
    )
      where
        new : (b : Bool) → b ≡ false → ((b || false || false) && not false) ≡ false
        new b h = grind arith

        differ : y.txn.number ≢ x.txn.number → nat_eq x.txn.number y.txn.number ≡ false
        differ h = grind (arith, nat_tests)

        unused : (f : Entry) → Among f (entries_in k) → f.number ≢ k.next_entry
        unused f j e = let l = sound.entry_numbers f j in absurd (omega arith)

  -- the removal of a dead entry
  pub with_removed : (n : ℕ) (rest : List ℕ) (after : Table) → k.dead ≡ n ∷ rest → KeepsOthers k.tree n after → StayThere k k.sessions (entries_of after)
  with_removed n rest after first keeps y i q = (
    i,
    changes_permuted y.txn.number (entries_in k) (entries_of after) (record {
      distinct = sound.valid.distinct_entries;
      distinct_others = keeps.valid.distinct_entries;
      there = λ e j m. keeps.there e j (λ is. alive e m (dead e j is));
      back = λ e j m. (keeps.back e j).0;
    }),
  )
    where
      dead : (e : Entry) → Among e (entries_in k) → e.number ≡ n → is_done e.marks.ended ≡ true
      dead e j is =
          let b = sound.dead.back n (subst (Among n) (sym first) (inl refl)) in
          subst (λ (z : Entry). is_done z.marks.ended ≡ true) (one-keyed (λ (z : Entry). z.number) (entries_in k) sound.valid.distinct_entries b.0 e b.1 j (b.2 ∙ sym is)) b.3

      alive : (e : Entry) → is_marked y.txn.number e ≡ true → is_done e.marks.ended ≡ true → ⊥
      alive e m d = never (is_made_by y.txn.number e.marks.made || is_ended_by y.txn.number e.marks.ended || is_draft_of y.txn.number e.marks.draft) (is_done e.marks.ended) m d
        where
          never : (a b : Bool) → (a && not b) ≡ true → b ≡ true → ⊥
          never a b h l = grind arith

  requests_leave : (x : Session) (name : Name) (mode : Mode) (duration : Duration) (granted waits : Stage) (answer : Answer) (after : Kernel) → Bare after → Among x k.sessions → is_queued x.stage ≡ false → Requests k x name mode duration granted waits answer after → Leaves k after
  requests_leave x name mode duration granted waits _ after sound' here unqueued (Requests.IsGranted free) = record { live = refl; flight = refl; queue = refl; calls = refl; stopped = refl; there = entries_stay (staged x.txn.session granted k.sessions) (in_changed x here unqueued (at_stage granted)) }
  requests_leave x name mode duration granted waits _ after sound' here unqueued (Requests.HasToWait some told) = record { live = refl; flight = refl; queue = refl; calls = refl; stopped = refl; there = entries_stay (staged x.txn.session waits k.sessions) (in_changed x here unqueued (at_stage waits)) }
  requests_leave x name mode duration granted waits _ after sound' here unqueued (Requests.ClosesCycle cycle some told) = record { live = live_still k _ sound sound' refl refl; flight = refl; queue = refl; calls = refl; stopped = refl; there = with_undone x here unqueued }

  restaged : (s : ℕ) (x : Session) (stage : Stage) → IsAt k s x → is_queued x.stage ≡ false → StayThere k (staged s stage k.sessions) (entries_in k)
  restaged s x stage found unqueued =
      let f = found-among s k.sessions x found in
      subst (λ (n : ℕ). StayThere k (staged n stage k.sessions) (entries_in k)) f.1 (entries_stay (staged x.txn.session stage k.sessions) (in_changed x f.0 unqueued (at_stage stage)))

  -- every event but a flush and a commit that is queued
  pub does_leave : (IsRemoved : Table → ℕ → Table → Type 0) → RemovesOne IsRemoved → (event : Event) (answer : Answer) (after : Kernel) → Does IsRemoved k event answer after → turned_away k event ≡ None → event ≢ Flush → answer ≢ IsQueued → Bare after → Leaves k after
  does_leave IsRemoved removes _ _ _ (Does.Begins s) free other unqueued sound' = record { live = refl; flight = refl; queue = refl; calls = refl; stopped = refl; there = entries_stay _ (λ y i q. among-with _ k.sessions y (inr i)) }
  does_leave IsRemoved removes _ _ _ (Does.Starts s x op found in_space) free other unqueued sound' = record { live = refl; flight = refl; queue = refl; calls = refl; stopped = refl; there = restaged s x (Started op) found (ap is_queued (may_start k s op x found free).idle) }
  does_leave IsRemoved removes _ _ _ (Does.NamesNothing s x op found started none) free other unqueued sound' = record { live = refl; flight = refl; queue = refl; calls = refl; stopped = refl; there = restaged s x (Named op) found (ap is_queued started) }
  does_leave IsRemoved removes _ _ _ (Does.Names s x op name mode answer after found started asked asks) free other unqueued sound' = requests_leave x name mode ToTheEnd (Named op) (NameWait op) answer after sound' (found-among s k.sessions x found).0 (ap is_queued started) asks
  does_leave IsRemoved removes _ _ _ (Does.HasWaited s x op found waited) free other unqueued sound' = record { live = refl; flight = refl; queue = refl; calls = refl; stopped = refl; there = restaged s x (Named op) found (ap is_queued waited) }
  does_leave IsRemoved removes _ _ _ (Does.Plans s x op commit short found (inl named) needs) free other unqueued sound' = record { live = refl; flight = refl; queue = refl; calls = refl; stopped = refl; there = restaged s x _ found (ap is_queued named) }
  does_leave IsRemoved removes _ _ _ (Does.Plans s x op commit short found (inr waited) needs) free other unqueued sound' = record { live = refl; flight = refl; queue = refl; calls = refl; stopped = refl; there = restaged s x _ found (ap is_queued waited) }
  does_leave IsRemoved removes _ _ _ (Does.Asks s x op need left answer after found planned asks) free other unqueued sound' = requests_leave x need.name need.mode need.duration (Planned op left) (NeedWait op) answer after sound' (found-among s k.sessions x found).0 (ap is_queued planned) asks
  does_leave IsRemoved removes _ _ _ (Does.FullOfEntries s x op found planned adds passes) free other unqueued sound' = record { live = refl; flight = refl; queue = refl; calls = refl; stopped = refl; there = entries_stay _ (in_changed x (found-among s k.sessions x found).0 (ap is_queued planned) (at_stage Idle)) }
  does_leave IsRemoved removes _ _ _ (Does.FullOfNumbers s x r after chosen found planned adds few inserts passes) free other unqueued sound' = record { live = refl; flight = refl; queue = refl; calls = refl; stopped = refl; there = entries_stay _ (in_changed x (found-among s k.sessions x found).0 (ap is_queued planned) (at_stage Idle)) }
  does_leave IsRemoved removes _ _ _ (Does.FullOfReplies s x op found planned passes) free other unqueued sound' = record { live = refl; flight = refl; queue = refl; calls = refl; stopped = refl; there = entries_stay _ (in_changed x (found-among s k.sessions x found).0 (ap is_queued planned) (at_stage Idle)) }
  does_leave IsRemoved removes _ _ _ (Does.Applies s x op found planned plain few) free other unqueued sound' =
      record { live = live_still k _ sound sound' refl refl; flight = refl; queue = refl; calls = refl; stopped = refl; there = with_marked x (found-among s k.sessions x found).0 (ap is_queued planned) op planned plain (lengthened op (reply_of k x op)) }
  does_leave IsRemoved removes _ _ _ (Does.Inserts_entry s x r after chosen gifts found planned adds few inserts numbers given) free other unqueued sound' =
      record { live = live_still k _ sound sound' refl refl; flight = refl; queue = refl; calls = refl; stopped = refl; there = with_inserted x (found-among s k.sessions x found).0 (ap is_queued planned) r after chosen inserts (lengthened (Put r) (reply_of k x (Put r))) }
  does_leave IsRemoved removes _ _ _ (Does.Commits s x found idle none) free other unqueued sound' =
      let f = found-among s k.sessions x found in
      record {
        live = ap live (entries_of_with (settled x.txn.number) (settled-keeps x.txn.number) k.tree) ∙ unchanged_live x f.0 (ap is_active_stage idle) none;
        flight = refl;
        queue = refl;
        calls = refl;
        stopped = refl;
        there = with_settled x f.0 (ap is_queued idle);
      }
  does_leave IsRemoved removes _ _ _ (Does.JoinsQueue s x found idle some) free other unqueued sound' = absurd (unqueued refl)
  does_leave IsRemoved removes _ _ _ (Does.StaysQueued s x found queued) free other unqueued sound' = absurd (unqueued refl)
  does_leave IsRemoved removes _ _ _ (Does.TellsPlace s x found placed) free other unqueued sound' =
      let f = found-among s k.sessions x found in
      record { live = refl; flight = refl; queue = refl; calls = refl; stopped = refl; there = subst (λ (n : ℕ). StayThere k (sessions_without n k.sessions) (entries_in k)) f.1 (entries_stay _ (in_rest x f.0 (ap is_queued placed))) }
  does_leave IsRemoved removes _ _ _ (Does.RollsBack s x found) free other unqueued sound' =
      let f = found-among s k.sessions x found in
      let a = rollback-active x.stage (subst (λ (o : Option Session). refusal (Rollback s) o ≡ None) found (is_let k (Rollback s) free).refusal) in
      record { live = live_still k _ sound sound' refl refl; flight = refl; queue = refl; calls = refl; stopped = refl; there = with_undone x f.0 a.1 }
  does_leave IsRemoved removes _ _ _ (Does.FlushesNothing none empty) free other unqueued sound' = absurd (other refl)
  does_leave IsRemoved removes _ _ _ (Does.TakesOff none some) free other unqueued sound' = absurd (other refl)
  does_leave IsRemoved removes _ _ _ (Does.Writes some few) free other unqueued sound' = absurd (other refl)
  does_leave IsRemoved removes _ _ _ (Does.IsDurable some all) free other unqueued sound' = absurd (other refl)
  does_leave IsRemoved removes _ _ _ (Does.CleansNothing none) free other unqueued sound' = record { live = refl; flight = refl; queue = refl; calls = refl; stopped = refl; there = entries_stay k.sessions (λ y i q. i) }
  does_leave IsRemoved removes _ _ _ (Does.CleanIsFull n rest after first removed full more) free other unqueued sound' = record { live = refl; flight = refl; queue = refl; calls = refl; stopped = refl; there = entries_stay k.sessions (λ y i q. i) }
  does_leave IsRemoved removes _ _ _ (Does.Cleans n rest after short may unopposed) free other unqueued sound' =
      record { live = live_still k _ sound sound' refl refl; flight = refl; queue = refl; calls = refl; stopped = refl; there = with_removed n rest after may.first (removes k.tree n after sound.valid sound.ascending sound.counts.node_numbers may.removed) }
  does_leave IsRemoved removes _ _ _ (Does.PutsOff n rest after short granule holder mode may off) free other unqueued sound' = record { live = refl; flight = refl; queue = refl; calls = refl; stopped = refl; there = entries_stay k.sessions (λ y i q. i) }
