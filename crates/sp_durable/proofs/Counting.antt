-- How many changes the commits that wait make, and the counts of the work of a journal.
use Rattle.std.proofs.Common.{◌≡◌, ◌≢◌, ℕ, zero, suc, ◌+◌, ◌<◌, ◌≤◌, ◌^◌, Bool, true, false, not, ◌&&◌, ◌||◌, nat_eq, List, [], ◌∷◌, ◌++◌, length, Option, Some, None, refl, sym, ap, ◌∙◌, subst, inl, inr, true≢false, length-append, arith}
use Rattle.std.specs.List.{list_any, sum_by, IsDistinct, AllByRecursion}
use Rattle.std.specs.Option.{option_to_list}
use Rattle.std.proofs.lemmas.List.Sorted.{length_permutation}
use Rattle.std.proofs.lemmas.List.Sums.{sum_by-cons, sum_by_push}
use Rattle.std.proofs.lemmas.Map.Keys.{IsDistinct-tail}
use Rattle.sp_plain.specs.declared.change.Change.{Change}
use Rattle.sp_node.specs.declared.node.Entry.{Entry}
use Rattle.sp_node.specs.Among.{Among}
use Rattle.sp_node.specs.Marks.{is_made_by, is_ended_by, is_draft_of, is_done, is_marked}
use Rattle.sp_node.specs.Table.{Table}
use Rattle.sp_node.proofs.Among.{among_right}
use Rattle.sp_node.proofs.Lists.{sum_same}
use Rattle.sp_txn.specs.Changes.{change_by, change_of, changes_of}
use Rattle.sp_event.specs.declared.event.Event.TheVariants.{Commit as AskCommit, Flush}
use Rattle.sp_event.specs.declared.answer.Answer.{Answer}
use Rattle.sp_event.specs.declared.answer.Answer.TheVariants.{Queued as IsQueued}
use Rattle.sp_journal.specs.declared.types.Call.TheVariants.{Nothing, Wrote, Durable, Fault}
use Rattle.sp_journal.specs.declared.work.Phase.{Phase}
use Rattle.sp_journal.specs.declared.work.Phase.TheVariants.{Ready, Written, Settled, Opened, Broken}
use Rattle.sp_journal.specs.declared.work.Work.{Work}
use Rattle.sp_journal.specs.Standing.{Ledger, Stands, Answered, next_phase, queued_after}
use Rattle.sp_model.specs.declared.session.Session.{Session}
use Rattle.sp_model.specs.declared.session.Stage.TheVariants.{Idle, Queued, Placed}
use Rattle.sp_model.specs.State.{Kernel, entries_in, session_at, staged, at_stage}
use Rattle.sp_model.specs.Moves.{with_stage, placed_found, placed_each, placed_all}
use Rattle.sp_model.specs.Stepped.{Does, IsAt, is_change, has_changes}
use Rattle.sp_model.specs.Soundness.{is_queued}
use Rattle.sp_model.proofs.Bare.{Bare}
use Rattle.sp_model.proofs.Sessions.{found-among, among-found, changed-among}
use Rattle.sp_model.proofs.Dead.{distinct-out}
use Rattle.sp_model.proofs.Flushing.{queued_up, queued_up-sound}
use Rattle.sp_durable.specs.Held.{AreChanges, AreHeld}
use Rattle.sp_durable.specs.Standing.{Matches, phase_after, phase_of, call_of, changes_by, changes_queued, Counted}
use Rattle.sp_durable.proofs.Alike.{unmarked_none}
use Rattle.sp_durable.proofs.Batches.{joins-queued, same_queue, placed_stays}
use Rattle.sp_durable.proofs.Calling.{other_stage}
use Rattle.sp_durable.proofs.Passing.{Leaves, stay_queued}
use Rattle.sp_durable.proofs.Staying.{marks_apart, StaysSame}

-- a transaction with changes has one
pub some_changes : (k : Kernel) (x : Session) (changes : List Change) → has_changes k x ≡ true → AreChanges (entries_in k) x.txn.number changes → 1 ≤ length changes
some_changes k x changes some are = let l = length_permutation (changes_of x.txn.number (entries_in k)) changes are.exact in let m = one (entries_in k) some in omega (arith, l, m)
  where
    here : (e : Entry) → is_change x.txn.number e ≡ true → 1 ≤ length (option_to_list (change_of x.txn.number e))
    here e h = by (is_done e.marks.ended) (is_made_by x.txn.number e.marks.made) (is_ended_by x.txn.number e.marks.ended) (is_draft_of x.txn.number e.marks.draft) h
      where
        by : (d m y f : Bool) → (((m || y || f) && not d) && not (m && y)) ≡ true → 1 ≤ length (option_to_list (change_by x.txn.number e d m y f))
        by false true false f h = omega arith
        by false false true f h = omega arith
        by false false false true h = omega arith
        by false true true f h = absurd (true≢false (sym h))
        by false false false false h = absurd (true≢false (sym h))
        by true true y f h = absurd (true≢false (sym h))
        by true false true f h = absurd (true≢false (sym h))
        by true false false true h = absurd (true≢false (sym h))
        by true false false false h = absurd (true≢false (sym h))

    one : (es : List Entry) → list_any (is_change x.txn.number) es ≡ true → 1 ≤ length (changes_of x.txn.number es)
    one [] h = absurd (true≢false (sym h))
    one (e ∷ es) h = go (is_change x.txn.number e) refl h (one es)
      where
        go : (b : Bool) → is_change x.txn.number e ≡ b → (b || list_any (is_change x.txn.number) es) ≡ true → (list_any (is_change x.txn.number) es ≡ true → 1 ≤ length (changes_of x.txn.number es)) → 1 ≤ length (changes_of x.txn.number (e ∷ es))
        go true c h more = let l = length-append (option_to_list (change_of x.txn.number e)) (changes_of x.txn.number es) in let m = here e c in omega (arith, l, m)
        go false c h more = let l = length-append (option_to_list (change_of x.txn.number e)) (changes_of x.txn.number es) in let m = more h in omega (arith, l, m)

-- the changes at one entry, of one of these sessions at most
at_most_one : (o : Option Change) → length (option_to_list o) ≤ 1
at_most_one None = omega arith
at_most_one (Some c) = omega arith

module _ (k : Kernel) (sound : Bare k) where
  -- how many changes the session makes at the entry
  abbrev at_entry : Entry → ℕ → ℕ
  at_entry e s = changes_by (e ∷ []) (session_at s k.sessions)

  one_at : (e : Entry) (o : Option Session) → changes_by (e ∷ []) o ≤ 1
  one_at e None = omega arith
  one_at e (Some x) = let l = length-append (option_to_list (change_of x.txn.number e)) [] in let m = at_most_one (change_of x.txn.number e) in omega (arith, l, m)

  none_for : (x : Session) (e : Entry) → is_marked x.txn.number e ≡ false → changes_by (e ∷ []) (Some x) ≡ 0
  none_for x e m = rw (unmarked_none x.txn.number e m) refl

  -- where one session has marked an entry, no other makes a change there
  none_of_others : (x : Session) (e : Entry) → Among x k.sessions → Among e (entries_in k) → is_marked x.txn.number e ≡ true → (numbers : List ℕ) → (Among x.txn.session numbers → ⊥) → sum_by (at_entry e) numbers ≡ 0
  none_of_others x e here i m [] out = refl
  none_of_others x e here i m (s ∷ numbers) out =
      let more = none_of_others x e here i m numbers (λ j. out (inr j)) in
      let l = sum_by-cons (at_entry e) s numbers in
      let first = other (session_at s k.sessions) refl in
      omega (arith, more, l, first)
    where
      other : (o : Option Session) → session_at s k.sessions ≡ o → changes_by (e ∷ []) o ≡ 0
      other None at = refl
      other (Some y) at =
          let f = found-among s k.sessions y at in
          none_for y e (unmarked (is_marked y.txn.number e) refl f.0 (λ same. out (inl (sym same ∙ f.1))))
        where
          unmarked : (b : Bool) → is_marked y.txn.number e ≡ b → Among y k.sessions → y.txn.session ≢ x.txn.session → b ≡ false
          unmarked false n j apart = refl
          unmarked true n j apart = absurd (true≢false (sym m ∙ marks_apart k x y sound here j apart e i n))

  one_each : (e : Entry) → Among e (entries_in k) → (numbers : List ℕ) → IsDistinct nat_eq numbers → sum_by (at_entry e) numbers ≤ 1
  one_each e i [] once = omega arith
  one_each e i (s ∷ numbers) once = go (session_at s k.sessions) refl (one_each e i numbers (IsDistinct-tail nat_eq s numbers once))
    where
      l : sum_by (at_entry e) (s ∷ numbers) ≡ at_entry e s + sum_by (at_entry e) numbers
      l = sum_by-cons (at_entry e) s numbers

      go : (o : Option Session) → session_at s k.sessions ≡ o → sum_by (at_entry e) numbers ≤ 1 → sum_by (at_entry e) (s ∷ numbers) ≤ 1
      go None at more = let n : at_entry e s ≡ 0 = ap (changes_by (e ∷ [])) at in omega (arith, l, n, more)
      go (Some x) at more = marks (is_marked x.txn.number e) refl
        where
          same : at_entry e s ≡ changes_by (e ∷ []) (Some x)
          same = ap (changes_by (e ∷ [])) at

          marks : (b : Bool) → is_marked x.txn.number e ≡ b → sum_by (at_entry e) (s ∷ numbers) ≤ 1
          marks false m = let n = none_for x e m in omega (arith, l, same, n, more)
          marks true m =
              let f = found-among s k.sessions x at in
              let n = none_of_others x e f.0 i m numbers (λ j. distinct-out s numbers once (subst (λ (q : ℕ). Among q numbers) f.1 j)) in
              let one = one_at e (Some x) in
              omega (arith, l, same, n, one)

  split_entry : (e : Entry) (es : List Entry) (o : Option Session) → changes_by (e ∷ es) o ≡ changes_by (e ∷ []) o + changes_by es o
  split_entry e es None = refl
  split_entry e es (Some x) =
      let l = length-append (option_to_list (change_of x.txn.number e)) (changes_of x.txn.number es) in
      let m = length-append (option_to_list (change_of x.txn.number e)) [] in
      omega (arith, l, m)

  split_sum : (e : Entry) (es : List Entry) (numbers : List ℕ) → sum_by (λ s. changes_by (e ∷ es) (session_at s k.sessions)) numbers ≡ sum_by (at_entry e) numbers + sum_by (λ s. changes_by es (session_at s k.sessions)) numbers
  split_sum e es [] = refl
  split_sum e es (s ∷ numbers) =
      let more = split_sum e es numbers in
      let first = split_entry e es (session_at s k.sessions) in
      let a = sum_by-cons (λ s. changes_by (e ∷ es) (session_at s k.sessions)) s numbers in
      let b = sum_by-cons (at_entry e) s numbers in
      let c = sum_by-cons (λ s. changes_by es (session_at s k.sessions)) s numbers in
      omega (arith, more, first, a, b, c)

  none_in_all : (numbers : List ℕ) → sum_by (λ s. changes_by [] (session_at s k.sessions)) numbers ≡ 0
  none_in_all [] = refl
  none_in_all (s ∷ numbers) =
      let more = none_in_all numbers in
      let l = sum_by-cons (λ s. changes_by [] (session_at s k.sessions)) s numbers in
      let n = none (session_at s k.sessions) in
      omega (arith, more, l, n)
    where
      none : (o : Option Session) → changes_by [] o ≡ 0
      none None = refl
      none (Some x) = refl

  pub few_at : (numbers : List ℕ) → IsDistinct nat_eq numbers → (es : List Entry) → ((e : Entry) → Among e es → Among e (entries_in k)) → sum_by (λ s. changes_by es (session_at s k.sessions)) numbers ≤ length es
  few_at numbers once [] inside = let n = none_in_all numbers in omega (arith, n)
  few_at numbers once (e ∷ es) inside =
      let more = few_at numbers once es (λ f i. inside f (inr i)) in
      let split = split_sum e es numbers in
      let one = one_each e (inside e (inl refl)) numbers once in
      omega (arith, more, split, one)

  pub queued_few : changes_queued k ≤ length (entries_in k)
  queued_few = few_at k.queue (behind k.flight sound.queued.once) (entries_in k) (λ e i. i)
    where
      behind : (flight : List ℕ) → IsDistinct nat_eq (flight ++ k.queue) → IsDistinct nat_eq k.queue
      behind [] d = d
      behind (s ∷ flight) d = behind flight (IsDistinct-tail nat_eq s (flight ++ k.queue) d)

-- what is queued counts the same
queue_counts : (k k' : Kernel) → Bare k → ((y : Session) → session_at y.txn.session k.sessions ≡ Some y → is_queued y.stage ≡ true → Among y.txn.session k.queue → StaysSame k'.sessions (entries_in k) (entries_in k') y)
    → sum_by (λ s. changes_by (entries_in k') (session_at s k'.sessions)) k.queue ≡ changes_queued k
queue_counts k k' sound stay = sum_same (λ s. changes_by (entries_in k') (session_at s k'.sessions)) (λ s. changes_by (entries_in k) (session_at s k.sessions)) k.queue (each k.queue (λ s i. i))
  where
    same : (s : ℕ) → Among s k.queue → changes_by (entries_in k') (session_at s k'.sessions) ≡ changes_by (entries_in k) (session_at s k.sessions)
    same s i =
        let b = sound.queued.back s (among_right s k.flight k.queue i) in
        let at : session_at b.0.txn.session k.sessions ≡ Some b.0 = among-found k.sessions sound.sessions.ascending b.0 b.1 in
        let t = stay b.0 at b.3 (subst (λ (n : ℕ). Among n k.queue) (sym b.2) i) in
        subst (λ (n : ℕ). changes_by (entries_in k') (session_at n k'.sessions) ≡ changes_by (entries_in k) (session_at n k.sessions)) b.2
        (ap (changes_by (entries_in k')) t.stands ∙ length_permutation (changes_of b.0.txn.number (entries_in k)) (changes_of b.0.txn.number (entries_in k')) t.same ∙ sym (ap (changes_by (entries_in k)) at))

    each : (numbers : List ℕ) → ((s : ℕ) → Among s numbers → Among s k.queue) → AllByRecursion (λ s. changes_by (entries_in k') (session_at s k'.sessions) ≡ changes_by (entries_in k) (session_at s k.sessions)) numbers
    each [] inside = tt
    each (s ∷ numbers) inside = (same s (inside s (inl refl)), each numbers (λ n i. inside n (inr i)))

pub others_queued : (k k' : Kernel) → Bare k → Bare k' → Leaves k k' → changes_queued k' ≡ changes_queued k
others_queued k k' sound sound' leaves =
    ap (sum_by (λ s. changes_by (entries_in k') (session_at s k'.sessions))) leaves.queue ∙ queue_counts k k' sound (λ y at q i. stay_queued k k' sound' leaves.there y (found-among y.txn.session k.sessions y at).0 q)

pub others_count : (k k' : Kernel) (work : Work) → Bare k → Bare k' → Leaves k k' → Counted k work → Counted k' work
others_count k k' work sound sound' leaves counted = record {
  phase = counted.phase ∙ rw (leaves.stopped, leaves.calls) refl;
  flying = counted.flying ∙ ap length (sym leaves.flight);
  commits = counted.commits ∙ ap length (sym leaves.queue);
  changes = counted.changes ∙ sym (others_queued k k' sound sound' leaves);
  end = λ offset h. counted.end offset (sym leaves.stopped ∙ h);
}

module _ (k : Kernel) (x : Session) (sound : Bare k) (here : Among x k.sessions) (idle : x.stage ≡ Idle) where
  pub joined_queued : changes_queued (queued_up x k) ≡ changes_queued k + length (changes_of x.txn.number (entries_in k))
  joined_queued =
      sum_by_push (λ s. changes_by (entries_in k) (session_at s (staged x.txn.session Queued k.sessions))) k.queue x.txn.session
      ∙ both _ _ _ _ (queue_counts k (queued_up x k) sound (λ y at q i. joins-queued k x sound here idle y (found-among y.txn.session k.sessions y at).0 q))
      (ap (changes_by (entries_in k)) (among-found (staged x.txn.session Queued k.sessions) (queued_up-sound k x sound here idle).sessions.ascending (at_stage Queued x) (changed-among x.txn.session (at_stage Queued) k.sessions x here refl)))
    where
      both : (a b c d : ℕ) → a ≡ c → b ≡ d → a + b ≡ c + d
      both a b c d h g = omega arith

  pub few_changes : changes_queued k + length (changes_of x.txn.number (entries_in k)) ≤ 2 ^ 20
  few_changes =
      let a = queued_few (queued_up x k) (queued_up-sound k x sound here idle) in
      let b = joined_queued in
      let c = sound.counts.entries in
      omega (arith, a, b, c)

  pub room_left : (changes : List Change) (work : Work) → AreChanges (entries_in k) x.txn.number changes → Counted k work → work.changes + length changes ≤ 2 ^ 20
  room_left changes work are counted =
      let a = few_changes in
      let b = length_permutation (changes_of x.txn.number (entries_in k)) changes are.exact in
      let c = counted.changes in
      omega (arith, a, b, c)

  pub joined_counted : (changes : List Change) (old new : Work) → AreChanges (entries_in k) x.txn.number changes → Counted k old → new.phase ≡ old.phase → new.end ≡ old.end → new.flying ≡ old.flying → new.commits ≡ old.commits + 1 → new.changes ≡ old.changes + length changes
      → Counted (queued_up x k) new
  joined_counted changes old new are counted phase end flying commits made = record {
    phase = phase ∙ counted.phase;
    flying = flying ∙ counted.flying;
    commits = let l = length-append k.queue (x.txn.session ∷ []) in let m = counted.commits in omega (arith, l, m, commits);
    changes = let j = joined_queued in let l = length_permutation (changes_of x.txn.number (entries_in k)) changes are.exact in let m = counted.changes in omega (arith, j, l, m, made);
    end = λ offset h. counted.end offset h ∙ sym end;
  }

pub joins_count : (IsRemoved : Table → ℕ → Table → Type 0) (k : Kernel) (s : ℕ) (x : Session) (changes : List Change) (answer : Answer) (after : Kernel) (old new : Work) → Bare k → IsAt k s x → x.stage ≡ Idle → AreChanges (entries_in k) x.txn.number changes
    → Does IsRemoved k (AskCommit s) answer after → answer ≡ IsQueued → Counted k old → new.phase ≡ old.phase → new.end ≡ old.end → new.flying ≡ old.flying → new.commits ≡ old.commits + 1 → new.changes ≡ old.changes + length changes → Counted after new
joins_count IsRemoved k s x changes _ _ old new sound at idle are (Does.Commits _ y found stays none) is counted phase end flying commits made = absurd (cc)
joins_count IsRemoved k s x changes _ _ old new sound at idle are (Does.JoinsQueue _ y found stays some) is counted phase end flying commits made =
    let f = found-among s k.sessions x at in
    subst (λ (n : ℕ). Counted (record (with_stage n Queued k) { queue = k.queue ++ n ∷ [] }) new) f.1 (joined_counted k x sound f.0 idle changes old new are counted phase end flying commits made)
joins_count IsRemoved k s x changes _ _ old new sound at idle are (Does.StaysQueued _ y found queued) is counted phase end flying commits made = absurd (apart (other_stage k s x y Idle Queued at found idle queued))
  where
    apart : Idle ≡ Queued → ⊥
    apart e = cc
joins_count IsRemoved k s x changes _ _ old new sound at idle are (Does.TellsPlace _ y found placed) is counted phase end flying commits made = absurd (apart (other_stage k s x y Idle Placed at found idle placed))
  where
    apart : Idle ≡ Placed → ⊥
    apart e = cc

pub joins_queued : (IsRemoved : Table → ℕ → Table → Type 0) (k : Kernel) (s : ℕ) (x : Session) (answer : Answer) (after : Kernel) → Bare k → IsAt k s x → x.stage ≡ Idle → Does IsRemoved k (AskCommit s) answer after → answer ≡ IsQueued
    → changes_queued after ≡ changes_queued k + length (changes_of x.txn.number (entries_in k))
joins_queued IsRemoved k s x _ _ sound at idle (Does.Commits _ y found stays none) is = absurd (cc)
joins_queued IsRemoved k s x _ _ sound at idle (Does.JoinsQueue _ y found stays some) is =
    let f = found-among s k.sessions x at in
    subst (λ (n : ℕ). changes_queued (record (with_stage n Queued k) { queue = k.queue ++ n ∷ [] }) ≡ changes_queued k + length (changes_of x.txn.number (entries_in k))) f.1 (joined_queued k x sound f.0 idle)
joins_queued IsRemoved k s x _ _ sound at idle (Does.StaysQueued _ y found queued) is = absurd (apart (other_stage k s x y Idle Queued at found idle queued))
  where
    apart : Idle ≡ Queued → ⊥
    apart e = cc
joins_queued IsRemoved k s x _ _ sound at idle (Does.TellsPlace _ y found placed) is = absurd (apart (other_stage k s x y Idle Placed at found idle placed))
  where
    apart : Idle ≡ Placed → ⊥
    apart e = cc

pub waits_queued : (IsRemoved : Table → ℕ → Table → Type 0) (k : Kernel) (s : ℕ) (x : Session) (answer : Answer) (after : Kernel) → IsAt k s x → x.stage ≡ Queued → Does IsRemoved k (AskCommit s) answer after → changes_queued after ≡ changes_queued k
waits_queued IsRemoved k s x _ _ at queued (Does.Commits _ y found idle none) = absurd (apart (other_stage k s x y Queued Idle at found queued idle))
  where
    apart : Queued ≡ Idle → ⊥
    apart e = cc
waits_queued IsRemoved k s x _ _ at queued (Does.JoinsQueue _ y found idle some) = absurd (apart (other_stage k s x y Queued Idle at found queued idle))
  where
    apart : Queued ≡ Idle → ⊥
    apart e = cc
waits_queued IsRemoved k s x _ _ at queued (Does.StaysQueued _ y found stays) = refl
waits_queued IsRemoved k s x _ _ at queued (Does.TellsPlace _ y found placed) = absurd (apart (other_stage k s x y Queued Placed at found queued placed))
  where
    apart : Queued ≡ Placed → ⊥
    apart e = cc

pub waits_count : (IsRemoved : Table → ℕ → Table → Type 0) (k : Kernel) (s : ℕ) (x : Session) (answer : Answer) (after : Kernel) (work : Work) → IsAt k s x → x.stage ≡ Queued → Does IsRemoved k (AskCommit s) answer after → Counted k work → Counted after work
waits_count IsRemoved k s x _ _ work at queued (Does.Commits _ y found idle none) counted = absurd (apart (other_stage k s x y Queued Idle at found queued idle))
  where
    apart : Queued ≡ Idle → ⊥
    apart e = cc
waits_count IsRemoved k s x _ _ work at queued (Does.JoinsQueue _ y found idle some) counted = absurd (apart (other_stage k s x y Queued Idle at found queued idle))
  where
    apart : Queued ≡ Idle → ⊥
    apart e = cc
waits_count IsRemoved k s x _ _ work at queued (Does.StaysQueued _ y found stays) counted = counted
waits_count IsRemoved k s x _ _ work at queued (Does.TellsPlace _ y found placed) counted = absurd (apart (other_stage k s x y Queued Placed at found queued placed))
  where
    apart : Queued ≡ Placed → ⊥
    apart e = cc

-- the phases of the calls
next_after : (calls : ℕ) → calls < 3 → next_phase (phase_after calls) ≡ phase_after (calls + 1)
next_after zero few = refl
next_after (suc zero) few = refl
next_after (suc (suc zero)) few = refl
next_after (suc (suc (suc calls))) few = absurd (omega arith)

kept_between : (calls n : ℕ) → 1 ≤ calls → calls < 3 → queued_after (phase_after calls) Wrote n ≡ n
kept_between zero n some few = absurd (omega arith)
kept_between (suc zero) n some few = refl
kept_between (suc (suc zero)) n some few = refl
kept_between (suc (suc (suc calls))) n some few = absurd (omega arith)

kept_durable : (phase : Phase) (m n : ℕ) → queued_after phase (Durable m) n ≡ n
kept_durable Ready m n = refl
kept_durable Written m n = refl
kept_durable Settled m n = refl
kept_durable Opened m n = refl
kept_durable Broken m n = refl

same_stop : (batch : List ℕ) (k : Kernel) → (placed_each batch k).stopped ≡ k.stopped
same_stop [] k = refl
same_stop (s ∷ rest) k = same_stop rest (placed_found (session_at s k.sessions) k) ∙ go (session_at s k.sessions)
  where
    go : (o : Option Session) → (placed_found o k).stopped ≡ k.stopped
    go None = refl
    go (Some x) = refl

whole_end : (k : Kernel) (end : ℕ) → k.stopped ≡ None → (offset : ℕ) → k.stopped ≡ Some offset → offset ≡ end
whole_end k end whole offset h = absurd (never (sym whole ∙ h))
  where
    never : None ≡ Some offset → ⊥
    never e = cc

pub placed_queued : (k : Kernel) → Bare k → changes_queued (placed_all k) ≡ changes_queued k
placed_queued k sound = ap (sum_by (λ s. changes_by (entries_in (placed_all k)) (session_at s (placed_all k).sessions))) (same_queue k.flight k) ∙ queue_counts k (placed_all k) sound (λ y at q i. placed_stays k sound y at i)

kept_nothing : (phase : Phase) (n : ℕ) → queued_after phase Nothing n ≡ n
kept_nothing Ready n = refl
kept_nothing Written n = refl
kept_nothing Settled n = refl
kept_nothing Opened n = refl
kept_nothing Broken n = refl

-- the number of changes that are queued after a flush
pub flush_queued : (IsRemoved : Table → ℕ → Table → Type 0) (k : Kernel) (answer : Answer) (after : Kernel) → Bare k → k.stopped ≡ None → Does IsRemoved k Flush answer after → changes_queued after ≡ queued_after (phase_of k.stopped k.calls) (call_of answer) (changes_queued k)
flush_queued IsRemoved k _ _ sound whole (Does.FlushesNothing none empty) = sym (kept_nothing (phase_of k.stopped k.calls) (changes_queued k))
flush_queued IsRemoved k _ _ sound whole (Does.TakesOff none some) = sym (at k.stopped k.calls whole (sound.queued.none none))
  where
    at : (o : Option ℕ) (calls : ℕ) → o ≡ None → calls ≡ 0 → queued_after (phase_of o calls) Wrote (changes_queued k) ≡ 0
    at o calls h z = rw (h, z) refl
flush_queued IsRemoved k _ _ sound whole (Does.Writes some few) = sym (ap (λ (o : Option ℕ). queued_after (phase_of o k.calls) Wrote (changes_queued k)) whole ∙ kept_between k.calls (changes_queued k) (sound.queued.begun some) few)
flush_queued IsRemoved k _ _ sound whole (Does.IsDurable some all) = placed_queued k sound ∙ sym (kept_durable (phase_of k.stopped k.calls) (length k.flight) (changes_queued k))

-- the phase and the commits after a flush
record Follows (k : Kernel) (work : Work) : Type 0 where
  phase : work.phase ≡ phase_of k.stopped k.calls
  commits : work.commits ≡ length k.queue
  whole : k.stopped ≡ None

follows : (IsRemoved : Table → ℕ → Table → Type 0) (k : Kernel) (answer : Answer) (after : Kernel) (old new : Work) → Bare k → k.stopped ≡ None → Does IsRemoved k Flush answer after → Counted k old → Answered old.phase (call_of answer) old new
    → new.commits ≡ queued_after old.phase (call_of answer) old.commits → Follows after new
follows IsRemoved k _ _ old new sound whole (Does.FlushesNothing none empty) counted answered commits = record { phase = ap (λ (w : Work). w.phase) answered.2 ∙ counted.phase; commits = ap (λ (w : Work). w.commits) answered.2 ∙ counted.commits; whole = whole }
follows IsRemoved k _ _ old new sound whole (Does.TakesOff none some) counted answered commits =
    let at : old.phase ≡ Ready = counted.phase ∙ rw (whole, sound.queued.none none) refl in
    record {
      phase = answered.1 ∙ ap next_phase at ∙ sym (ap (λ (o : Option ℕ). phase_of o 1) whole);
      commits = commits ∙ ap (λ (p : Phase). queued_after p Wrote old.commits) at;
      whole = whole;
    }
follows IsRemoved k _ _ old new sound whole (Does.Writes some few) counted answered commits =
    let at : old.phase ≡ phase_after k.calls = counted.phase ∙ ap (λ (o : Option ℕ). phase_of o k.calls) whole in
    record {
      phase = answered.1 ∙ ap next_phase at ∙ next_after k.calls few ∙ sym (ap (λ (o : Option ℕ). phase_of o (k.calls + 1)) whole);
      commits = commits ∙ ap (λ (p : Phase). queued_after p Wrote old.commits) at ∙ kept_between k.calls old.commits (sound.queued.begun some) few ∙ counted.commits;
      whole = whole;
    }
follows IsRemoved k _ _ old new sound whole (Does.IsDurable some all) counted answered commits = record {
  phase = answered.2 ∙ sym (ap (λ (o : Option ℕ). phase_of o 0) (same_stop k.flight k ∙ whole));
  commits = commits ∙ kept_durable old.phase (length k.flight) old.commits ∙ counted.commits ∙ ap length (sym (same_queue k.flight k));
  whole = same_stop k.flight k ∙ whole;
}

pub flush_counts : (IsRemoved : Table → ℕ → Table → Type 0) (k : Kernel) (answer : Answer) (after : Kernel) (old new : Work) → Bare k → k.stopped ≡ None → Does IsRemoved k Flush answer after → Counted k old → Answered old.phase (call_of answer) old new
    → new.changes ≡ queued_after old.phase (call_of answer) old.changes → new.commits ≡ queued_after old.phase (call_of answer) old.commits → new.flying ≡ length after.flight → Counted after new
flush_counts IsRemoved k answer after old new sound whole does counted answered changes commits flying =
    let f = follows IsRemoved k answer after old new sound whole does counted answered commits in
    record {
      phase = f.phase;
      flying = flying;
      commits = f.commits;
      changes = changes ∙ ap (λ (n : ℕ). queued_after old.phase (call_of answer) n) counted.changes ∙ ap (λ (p : Phase). queued_after p (call_of answer) (changes_queued k)) counted.phase ∙ sym (flush_queued IsRemoved k answer after sound whole does);
      end = whole_end after new.end f.whole;
    }

pub fault_counts : (k : Kernel) (offset : ℕ) (old new : Work) → Counted k old → Answered old.phase (Fault offset) old new → Counted (record k { stopped = Some offset }) new
fault_counts k offset old new counted answered = record {
  phase = answered.1;
  flying = answered.2.flying ∙ counted.flying;
  commits = answered.2.commits ∙ counted.commits;
  changes = answered.2.changes ∙ counted.changes;
  end = λ other h. sym (same other h) ∙ answered.0 ∙ sym answered.2.end;
}
  where
    same : (other : ℕ) → Some offset ≡ Some other → offset ≡ other
    same other h = cc

-- as many commits as sessions
held_long : (k : Kernel) (numbers : List ℕ) (commits : List (List Change)) → AreHeld k numbers commits → length commits ≡ length numbers
held_long k [] [] h = refl
held_long k [] (cs ∷ commits) h = absurd h
held_long k (s ∷ numbers) [] h = absurd h
held_long k (s ∷ numbers) (cs ∷ commits) h = ap suc (held_long k numbers commits h.1)

pub standing_counts : (reads : List ℕ) (leaves : List ℕ → Type 0) (work : Work) (ledger : Ledger) (k : Kernel) → Stands reads leaves work ledger → Matches k ledger → (work.flying ≡ length k.flight) × (work.commits ≡ length k.queue)
standing_counts reads leaves work ledger k stands same = (stands.flying ∙ held_long k k.flight ledger.flight same.flight, stands.commits ∙ held_long k k.queue ledger.queued same.queued)
