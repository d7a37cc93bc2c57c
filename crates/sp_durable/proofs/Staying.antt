-- Sessions that stay queued with the same changes.
use Rattle.std.proofs.Common.{◌≡◌, ◌≢◌, ℕ, Bool, true, false, List, [], ◌∷◌, ◌++◌, Some, refl, sym, ap, ◌∙◌, subst, inl, inr, true≢false}
use Rattle.std.specs.List.Sorted.{IsPermutation}
use Rattle.std.proofs.lemmas.List.Sorted.{IsPermutation-sym, IsPermutation-trans}
use Rattle.sp_plain.specs.declared.change.Change.{Change}
use Rattle.sp_node.specs.declared.node.Entry.{Entry}
use Rattle.sp_node.specs.Among.{Among}
use Rattle.sp_node.specs.Marks.{is_marked}
use Rattle.sp_node.proofs.Among.{among_left, among_right}
use Rattle.sp_txn.specs.Changes.{changes_of}
use Rattle.sp_model.specs.declared.session.Session.{Session}
use Rattle.sp_model.specs.declared.session.Stage.{Stage}
use Rattle.sp_model.specs.declared.session.Stage.TheVariants.{Idle, Started, NameWait, Named, NeedWait, Planned, Queued, Placed}
use Rattle.sp_model.specs.State.{Kernel, entries_in, is_active_stage, session_at}
use Rattle.sp_model.specs.Soundness.{is_queued}
use Rattle.sp_model.proofs.Bare.{Bare}
use Rattle.sp_model.proofs.Sessions.{found-among, one-session, one-keyed}
use Rattle.sp_durable.specs.Held.{HasChanges, AreHeld}
use Rattle.sp_durable.proofs.Owners.{one_marker}

pub queued-active : (stage : Stage) → is_queued stage ≡ true → is_active_stage stage ≡ true
queued-active Queued q = refl
queued-active Idle q = refl
queued-active (Started op) q = refl
queued-active (NameWait op) q = refl
queued-active (Named op) q = refl
queued-active (NeedWait op) q = refl
queued-active (Planned op left) q = refl
queued-active Placed q = absurd (true≢false (sym q))

-- a queued session is another than one that is not
pub queued-other : (x y : Session) → is_queued x.stage ≡ false → is_queued y.stage ≡ true → (xs : List Session) → Among x xs → Among y xs → ((a b : Session) → Among a xs → Among b xs → a.txn.session ≡ b.txn.session → a ≡ b) → y.txn.session ≢ x.txn.session
queued-other x y not q xs i j one e = true≢false (sym q ∙ ap (λ (z : Session). is_queued z.stage) (one y x j i e) ∙ not)

-- sessions of two numbers have transactions of two numbers, and marks apart
pub marks_apart : (k : Kernel) (x y : Session) → Bare k → Among x k.sessions → Among y k.sessions → y.txn.session ≢ x.txn.session → (e : Entry) → Among e (entries_in k) → is_marked y.txn.number e ≡ true → is_marked x.txn.number e ≡ false
marks_apart k x y sound i j other e a m = go (is_marked x.txn.number e) refl
  where
    go : (b : Bool) → is_marked x.txn.number e ≡ b → b ≡ false
    go false n = refl
    go true n = absurd (other (ap (λ (z : Session). z.txn.session) (one-keyed (λ (z : Session). z.txn.number) k.sessions sound.sessions.numbers y x j i (one_marker k sound y.txn.number x.txn.number e a m n))))

-- the session stands as it did, and its changes are the same
pub record StaysSame (xs : List Session) (es es' : List Entry) (y : Session) : Type 0 where
  pub stands : session_at y.txn.session xs ≡ Some y
  pub same : IsPermutation (changes_of y.txn.number es) (changes_of y.txn.number es')

-- each queued session does
abbrev pub StayQueued : Kernel → Kernel → Type 0
StayQueued k k' = (y : Session) → Among y k.sessions → is_queued y.stage ≡ true → StaysSame k'.sessions (entries_in k) (entries_in k') y

pub changes_stay : (xs xs' : List Session) (es es' : List Entry) (s : ℕ) (cs : List Change) (h : HasChanges xs es s cs) → h.session.txn.session ≡ s → StaysSame xs' es es' h.session → HasChanges xs' es' s cs
changes_stay xs xs' es es' s cs h named still = record {
  session = h.session;
  at = subst (λ (n : ℕ). session_at n xs' ≡ Some h.session) named still.stands;
  are = record {
    exact = IsPermutation-trans (changes_of h.session.txn.number es') (changes_of h.session.txn.number es) cs (IsPermutation-sym (changes_of h.session.txn.number es) (changes_of h.session.txn.number es') still.same) h.are.exact;
    ordered = h.are.ordered;
  };
}

pub all_stay : (k k' : Kernel) (numbers : List ℕ) (commits : List (List Change)) → ((s : ℕ) (cs : List Change) → Among s numbers → HasChanges k.sessions (entries_in k) s cs → HasChanges k'.sessions (entries_in k') s cs)
    → AreHeld k numbers commits → AreHeld k' numbers commits
all_stay k k' [] [] each h = h
all_stay k k' [] (cs ∷ commits) each h = h
all_stay k k' (s ∷ numbers) [] each h = h
all_stay k k' (s ∷ numbers) (cs ∷ commits) each h = (each s cs (inl refl) h.0, all_stay k k' numbers commits (λ n ds i. each n ds (inr i)) h.1)

-- so what is held stays held
module _ (k k' : Kernel) (sound : Bare k) (stay : StayQueued k k') where
  one_stays : (s : ℕ) (cs : List Change) → Among s (k.flight ++ k.queue) → HasChanges k.sessions (entries_in k) s cs → HasChanges k'.sessions (entries_in k') s cs
  one_stays s cs i h =
      let f = found-among s k.sessions h.session h.at in
      let b = sound.queued.back s i in
      let same : b.0 ≡ h.session = one-session k.sessions sound.sessions.ascending b.0 h.session b.1 f.0 (b.2 ∙ sym f.1) in
      changes_stay k.sessions k'.sessions (entries_in k) (entries_in k') s cs h f.1 (stay h.session f.0 (subst (λ (z : Session). is_queued z.stage ≡ true) same b.3))

  pub flight_stays : (commits : List (List Change)) → AreHeld k k.flight commits → AreHeld k' k.flight commits
  flight_stays commits = all_stay k k' k.flight commits (λ s cs i. one_stays s cs (among_left s k.flight k.queue i))

  pub queue_stays : (commits : List (List Change)) → AreHeld k k.queue commits → AreHeld k' k.queue commits
  queue_stays commits = all_stay k k' k.queue commits (λ s cs i. one_stays s cs (among_right s k.flight k.queue i))
