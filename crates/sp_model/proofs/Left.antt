-- What is left of rows and sessions when a session's are gone.
use Rattle.std.proofs.Common.{◌≡◌, ◌≢◌, ℕ, ◌+◌, ◌<◌, ◌≤◌, Bool, true, false, not, cond, List, [], ◌∷◌, map, filter, length, nat_eq, None, sym, ap, ◌∙◌, subst, true≢false, arith}
use Rattle.std.specs.List.{AllByRecursion, IsDistinct, sum_by}
use Rattle.std.proofs.lemmas.Map.Keys.{IsDistinct-tail}
use Rattle.sp_rect.specs.declared.operation.Op.{Op}
use Rattle.sp_locks.specs.declared.row.Row.{Row}
use Rattle.sp_locks.specs.declared.row.Scope.TheVariants.{ShortLocks, AllRows}
use Rattle.sp_locks.specs.Rows.{waiting_in}
use Rattle.sp_locks.specs.Table.{released}
use Rattle.sp_locks.specs.Soundness.{IsSound}
use Rattle.sp_locks.proofs.Keeping.{release-sound}
use Rattle.sp_waits.specs.Edges.{NoCycle}
use Rattle.sp_waits.proofs.Acyclic.{release_all-acyclic, release_short-acyclic}
use Rattle.sp_node.specs.Among.{Among}
use Rattle.sp_protection.proofs.Clashes.{covers-trans}
use Rattle.sp_protection.proofs.Leaves.{among_map, from_map}
use Rattle.sp_model.specs.declared.session.Session.{Session}
use Rattle.sp_model.specs.State.{Kernel, entries_in, is_active, is_session, sessions_without}
use Rattle.sp_model.specs.Refusals.{under_way, open_transactions, kept_operations}
use Rattle.sp_model.specs.Stepped.{records_told}
use Rattle.sp_model.specs.Soundness.{AreAscending, SoundSessions, RowsOwned, NamesUsed, AwaitsObject, is_queued, QueueSound, WithinCounts}
use Rattle.sp_model.proofs.Sessions.{one-session, of_without, among-without, of_kept}
use Rattle.sp_model.proofs.Holding.{in-among, StayMet, released-others}
use Rattle.sp_model.proofs.Released.{released-owned, released-names, released-none, released-awaits_object}
use Rattle.sp_model.proofs.Counting.{length-sum, share}
use Rattle.sp_model.proofs.Dead.{distinct-cons, distinct-out}

-- the rows of a session are gone, and the others hold what they held
pub record Left (s : ℕ) (xs : List Session) (next : ℕ) (rows rows' : List Row) : Type 0 where
  pub locks : IsSound rows'
  pub acyclic : NoCycle rows'
  pub others : (row : Row) → Among row rows' → row.session ≢ s
  pub owned : RowsOwned xs rows'
  pub names : NamesUsed next rows'
  pub held : (t : ℕ) → t ≢ s → StayMet t rows rows'
  pub awaits : (t : ℕ) (op : Op) → t ≢ s → AwaitsObject rows t op → AwaitsObject rows' t op

pub left_released : (s : ℕ) (xs : List Session) (next : ℕ) (rows : List Row) → IsSound rows → NoCycle rows → RowsOwned xs rows → NamesUsed next rows → Left s xs next rows (released AllRows s rows)
left_released s xs next rows sound acyclic owned names = record {
  locks = release-sound AllRows s rows sound;
  acyclic = release_all-acyclic rows s sound acyclic;
  others = λ row i. released-none s rows row i;
  owned = released-owned AllRows s xs rows owned;
  names = released-names AllRows s next rows names;
  held = λ t other. released-others AllRows s t rows other;
  awaits = λ t op other. released-awaits_object AllRows s t rows op other;
}

-- what covers a cover covers
stay-twice : (t : ℕ) (rows rows' rows'' : List Row) → StayMet t rows rows' → StayMet t rows' rows'' → StayMet t rows rows''
stay-twice t rows rows' rows'' one two row i w e =
    let c = one row i w e in
    let d = two c.row (in-among c.row rows' c.stands) c.held (c.session ∙ e) in
    record { row = d.row; stands = d.stands; held = d.held; session = d.session ∙ c.session; name = d.name ∙ c.name; duration = d.duration ∙ c.duration; covers = covers-trans d.row.mode c.row.mode row.mode d.covers c.covers }

-- the same after its short locks went, where it does not wait
pub left_twice : (s : ℕ) (xs : List Session) (next : ℕ) (rows : List Row) → IsSound rows → NoCycle rows → waiting_in s rows ≡ None → RowsOwned xs rows → NamesUsed next rows → Left s xs next rows (released AllRows s (released ShortLocks s rows))
left_twice s xs next rows sound acyclic awake owned names =
    let first = released ShortLocks s rows in
    let l = left_released s xs next first (release-sound ShortLocks s rows sound) (release_short-acyclic rows s sound awake acyclic) (released-owned ShortLocks s xs rows owned) (released-names ShortLocks s next rows names) in
    record {
      locks = l.locks;
      acyclic = l.acyclic;
      others = l.others;
      owned = l.owned;
      names = l.names;
      held = λ t other. stay-twice t rows first (released AllRows s first) (released-others ShortLocks s t rows other) (l.held t other);
      awaits = λ t op other h. l.awaits t op other (released-awaits_object ShortLocks s t rows op other h);
    }

pub rows-without : (s : ℕ) (xs : List Session) (rows : List Row) → ((row : Row) → Among row rows → row.session ≢ s) → RowsOwned xs rows → RowsOwned (sessions_without s xs) rows
rows-without s xs rows others owned row i = let o = owned row i in
    record { owner = o.owner; among = among-without s xs o.owner o.among (λ e. others row i (sym o.is_owner ∙ e)); is_owner = o.is_owner; may = o.may }

-- distinct keys stay so among those that are kept
pub distinct-kept : {A : Type 0} (key : A → ℕ) (test : A → Bool) (xs : List A) → IsDistinct nat_eq (map key xs) → IsDistinct nat_eq (map key (filter test xs))
distinct-kept key test [] h = h
distinct-kept {A} key test (x ∷ xs) h = go (test x) (distinct-kept key test xs (IsDistinct-tail nat_eq (key x) (map key xs) h))
  where
    out : Among (key x) (map key (filter test xs)) → ⊥
    out i = let r = from_map key (key x) (filter test xs) i in distinct-out (key x) (map key xs) h (subst (λ n. Among n (map key xs)) r.2 (among_map key r.0 xs (of_kept test r.0 xs r.1).0))

    go : (b : Bool) → IsDistinct nat_eq (map key (filter test xs)) → IsDistinct nat_eq (map key (cond b (x ∷ filter test xs) (filter test xs)))
    go true k = distinct-cons (key x) (map key (filter test xs)) out k
    go false k = k

all-kept : {A : Type 0} (P : A → Type 0) (test : A → Bool) (xs : List A) → AllByRecursion P xs → AllByRecursion P (filter test xs)
all-kept P test [] h = tt
all-kept {A} P test (x ∷ xs) h = go (test x) (all-kept P test xs h.1)
  where
    go : (b : Bool) → AllByRecursion P (filter test xs) → AllByRecursion P (cond b (x ∷ filter test xs) (filter test xs))
    go true k = (h.0, k)
    go false k = k

ascending-without : (s : ℕ) (xs : List Session) → AreAscending xs → AreAscending (sessions_without s xs)
ascending-without s [] h = tt
ascending-without s (x ∷ xs) h = go (not (is_session s x)) (ascending-without s xs h.1)
  where
    go : (b : Bool) → AreAscending (sessions_without s xs) → AreAscending (cond b (x ∷ sessions_without s xs) (sessions_without s xs))
    go true k = (all-kept (λ (y : Session). x.txn.session < y.txn.session) (λ y. not (is_session s y)) xs h.0, k)
    go false k = k

pub sound-without : (next commits commits' s : ℕ) (xs : List Session) → commits ≤ commits' → SoundSessions next commits xs → SoundSessions next commits' (sessions_without s xs)
sound-without next commits commits' s xs more h = record {
  ascending = ascending-without s xs h.ascending;
  numbers = distinct-kept (λ (x : Session). x.txn.number) (λ x. not (is_session s x)) xs h.numbers;
  used = λ x i. h.used x (of_without s xs x i).0;
  seen = λ x i. let l = h.seen x (of_without s xs x i).0 in omega arith;
  searches = λ x i. h.searches x (of_without s xs x i).0;
}

pub queue-without : (x : Session) (xs : List Session) (queue flight : List ℕ) (calls : ℕ) → AreAscending xs → Among x xs → is_queued x.stage ≡ false → QueueSound xs queue flight calls → QueueSound (sessions_without x.txn.session xs) queue flight calls
queue-without x xs queue flight calls ascending here unqueued h = record {
  once = h.once;
  there = λ y i q. h.there y (of_without x.txn.session xs y i).0 q;
  back = λ n i. let b = h.back n i in
      (b.0, among-without x.txn.session xs b.0 b.1 (λ e. true≢false (sym b.3 ∙ ap (λ (y : Session). is_queued y.stage) (one-session xs ascending b.0 x b.1 here e) ∙ unqueued)), b.2, b.3);
  calls_few = h.calls_few;
  begun = h.begun;
  none = h.none;
}

-- the counts of what is left, where what ends adds to the audit no more than it was
pub record Counted (k k' : Kernel) (x : Session) : Type 0 where
  pub sums : (f : Session → ℕ) → sum_by f (filter is_active k'.sessions) + share f x ≡ sum_by f (filter is_active k.sessions)
  pub old : (y : Session) → Among y k'.sessions → is_active y ≡ true → Among y k.sessions
  pub endings : length k'.commits + length k'.ended ≤ length k.commits + length k.ended + share (λ y. 1) x
  pub kept : kept_operations k'.commits ≤ kept_operations k.commits + share (λ y. length y.txn.ops + under_way y.stage) x
  pub told : sum_by (λ c. records_told c.ops) k'.commits ≤ sum_by (λ c. records_told c.ops) k.commits + share (λ y. records_told y.txn.ops) x
  pub entries : length (entries_in k') ≡ length (entries_in k)
  pub next : k'.tree.next ≡ k.tree.next
  pub next_entry : k'.next_entry ≡ k.next_entry
  pub next_txn : k'.next_txn ≡ k.next_txn

pub counts_left : (k k' : Kernel) (x : Session) → WithinCounts k → Counted k k' x → WithinCounts k'
counts_left k k' x h c = record {
  transactions = let l = h.transactions in omega (arith, l, most', most, ones);
  endings = let l = h.endings in let e = c.endings in omega (arith, l, e, most', most, ones);
  operations = λ y i a. h.operations y (c.old y i a) a;
  history = let l = h.history in let e = c.kept in let s = c.sums (λ y. length y.txn.ops + under_way y.stage) in omega (arith, l, e, s);
  replies = let l = h.replies in let e = c.told in let s = c.sums (λ y. records_told y.txn.ops) in omega (arith, l, e, s);
  entries = let l = h.entries in let e = c.entries in omega (arith, l, e);
  node_numbers = let l = h.node_numbers in let e = c.next in omega (arith, l, e);
  entry_numbers = let l = h.entry_numbers in let e = c.next_entry in omega (arith, l, e);
  txn_numbers = let l = h.txn_numbers in let e = c.next_txn in omega (arith, l, e);
}
  where
    most' : open_transactions k'.sessions ≡ sum_by (λ y. 1) (filter is_active k'.sessions)
    most' = length-sum (filter is_active k'.sessions)

    most : open_transactions k.sessions ≡ sum_by (λ y. 1) (filter is_active k.sessions)
    most = length-sum (filter is_active k.sessions)

    ones : sum_by (λ y. 1) (filter is_active k'.sessions) + share (λ y. 1) x ≡ sum_by (λ y. 1) (filter is_active k.sessions)
    ones = c.sums (λ y. 1)
