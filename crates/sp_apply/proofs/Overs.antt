-- The state after an operation.
use Rattle.std.proofs.Common.{◌≡◌, ℕ, ◌+◌, ◌-◌, ◌<◌, ◌≤◌, true, false, List, [], ◌∷◌, ◌++◌, filter, length, refl, sym, ap, ap₂, ◌∙◌, subst, arith}
use Rattle.std.specs.List.{sum_by}
use Rattle.std.specs.VecDeque.{deque_capacity}
use Rattle.std.proofs.lemmas.List.{length-append, length-map}
use Rattle.std.proofs.lemmas.List.Sums.{sum_by_push}
use Rattle.sp_rect.specs.declared.operation.Answered.{Answered}
use Rattle.sp_rect.specs.declared.operation.Op.{Op}
use Rattle.sp_rect.specs.declared.operation.Reply.{Reply as Told}
use Rattle.sp_rect.specs.declared.commit.Commit.{Commit}
use Rattle.sp_locks.specs.declared.row.Row.{Row}
use Rattle.sp_locks.specs.declared.row.Scope.TheVariants.{ShortLocks}
use Rattle.sp_locks.specs.Table.{released}
use Rattle.sp_node.specs.declared.marks.Marks.{Marks}
use Rattle.sp_node.specs.declared.node.Entry.{Entry}
use Rattle.sp_node.specs.Among.{Among}
use Rattle.sp_node.specs.Change.{table_with}
use Rattle.sp_node.specs.Table.{Table, entries_of}
use Rattle.sp_node.proofs.Changed.{entries_of_with}
use Rattle.sp_protection.specs.Effects.{marked_by}
use Rattle.sp_ops.specs.Effect.{AreMarked}
use Rattle.sp_event.specs.declared.answer.Answer.{Answer}
use Rattle.sp_event.specs.declared.answer.Answer.TheVariants.{Reply, Full}
use Rattle.sp_event.specs.declared.answer.Kind.TheVariants.{Entries, Replies}
use Rattle.sp_event.specs.declared.event.Event.TheVariants.{Apply}
use Rattle.sp_audit.specs.History.{History}
use Rattle.sp_model.specs.declared.session.Session.{Session}
use Rattle.sp_model.specs.declared.session.Stage.{Stage}
use Rattle.sp_model.specs.declared.session.Stage.TheVariants.{Idle}
use Rattle.sp_model.specs.State.{Kernel, is_active, staged, with_change}
use Rattle.sp_model.specs.Refusals.{under_way, open_transactions, open_operations, kept_operations}
use Rattle.sp_model.specs.Moves.{finished, lengthened, marked}
use Rattle.sp_model.specs.Plans.{is_adding}
use Rattle.sp_model.specs.Removal.{IsTakenOut}
use Rattle.sp_model.specs.Stepped.{records_in, records_told, kept_records, most_records_told, reply_of, PassesEntries, Does}
use Rattle.sp_model.specs.Soundness.{Sound}
use Rattle.sp_model.proofs.Counting.{length-sum, change-sum}
use Rattle.sp_model.proofs.Dying.{marks_keep}
use Rattle.sp_model.proofs.Limits.{share-active, staged-sum, staged-open}
use Rattle.sp_model.proofs.Operating.{done_with, kept-idle}
use Rattle.sp_model.proofs.Sessions.{found-among}
use Rattle.sp_model.proofs.Staging.{told}
use Rattle.sp_state.specs.Held.{kernel_of, Fits}
use Rattle.sp_state.specs.declared.state.State.{State}
use Rattle.sp_state.specs.Sketches.{IsSketchOf}
use Rattle.sp_apply.specs.Acting.{IsReady}
use Rattle.sp_apply.proofs.Ready.{active_planned}

-- the kernel after an operation that is over
module _ (k : Kernel) (n at : ℕ) (x : Session) (op : Op) (ready : IsReady k n at x op) where
  rows_gone : (rows : List Row) (gone : List Row) → rows ≡ released ShortLocks n gone → rows ≡ released ShortLocks x.txn.session gone
  rows_gone rows gone e = e ∙ ap (λ (m : ℕ). released ShortLocks m gone) (sym (found-among n k.sessions x ready.found).1)

  pub over_is : (xs : List Session) (rows : List Row) → xs ≡ staged x.txn.session Idle k.sessions → rows ≡ released ShortLocks n k.locks → record k { sessions = xs; locks = rows } ≡ finished x k
  over_is xs rows e f = ap₂ (λ (ys : List Session) (rs : List Row). record k { sessions = ys; locks = rs }) e (rows_gone rows k.locks f)

  pub full_of_replies : (reply : Told) (kept : ℕ) (after : Kernel) → reply ≡ reply_of k x op → kept ≡ kept_records k → (0 < records_in reply) × (most_records_told < kept + records_in reply) → after ≡ finished x k
      → Does IsTakenOut k (Apply n) (Full Replies) after
  full_of_replies reply kept after e f passes over =
      subst (λ (z : Kernel). Does IsTakenOut k (Apply n) (Full Replies) z) (sym over) (Does.FullOfReplies n x op ready.found ready.planned
      (subst (λ (r : Told). (0 < records_in r) × (most_records_told < kept_records k + records_in r)) e (subst (λ (m : ℕ). (0 < records_in reply) × (most_records_told < m + records_in reply)) f passes)))

  pub full_of_entries : (after : Kernel) → is_adding k x op ≡ true → PassesEntries k → after ≡ finished x k → Does IsTakenOut k (Apply n) (Full Entries) after
  full_of_entries after adding passes over = subst (λ (z : Kernel). Does IsTakenOut k (Apply n) (Full Entries) z) (sym over) (Does.FullOfEntries n x op ready.found ready.planned adding passes)

  pub stayed : (reply : Told) (kept : ℕ) (tree : Table) (xs : List Session) (rows : List Row) → reply ≡ reply_of k x op → kept ≡ kept_records k → ((0 < records_in reply) × (most_records_told < kept + records_in reply) → ⊥)
      → is_adding k x op ≡ false → tree ≡ table_with (marked_by x.txn.number op) k.tree → xs ≡ staged x.txn.session Idle (with_change x.txn.session (lengthened op reply) k.sessions) → rows ≡ released ShortLocks n k.locks
      → Does IsTakenOut k (Apply n) (Reply reply) (record k { tree = tree; sessions = xs; locks = rows })
  stayed reply kept tree xs rows e f few plain trees sessions gone =
      subst (λ (a : Answer). Does IsTakenOut k (Apply n) a (record k { tree = tree; sessions = xs; locks = rows })) (ap Reply (sym e))
      (subst (λ (z : Kernel). Does IsTakenOut k (Apply n) (Reply (reply_of k x op)) z) (sym whole) (Does.Applies n x op ready.found ready.planned plain
      (λ passes. few (subst (λ (r : Told). (0 < records_in r) × (most_records_told < kept + records_in r)) (sym e) (subst (λ (m : ℕ). (0 < records_in (reply_of k x op)) × (most_records_told < m + records_in (reply_of k x op))) (sym f) passes)))))
    where
      same : xs ≡ staged x.txn.session Idle (with_change x.txn.session (lengthened op (reply_of k x op)) k.sessions)
      same = sessions ∙ ap (λ (r : Told). staged x.txn.session Idle (with_change x.txn.session (lengthened op r) k.sessions)) e

      gone' : rows ≡ released ShortLocks x.txn.session k.locks
      gone' = rows_gone rows k.locks gone

      whole : record k { tree = tree; sessions = xs; locks = rows } ≡ marked x op k
      whole = λ i. record k { tree = trees i; sessions = same i; locks = gone' i }

-- the state fits
module _ (s : State) (n at : ℕ) (x : Session) (op : Op) (sound : Sound (kernel_of s)) (fits : Fits s) (ready : IsReady (kernel_of s) n at x op) where
  abbrev xs : List Session
  xs = s.seats.items

  here : Among x xs
  here = (found-among n xs x ready.found).0

  active : is_active x ≡ true
  active = active_planned x op [] ready.planned

  one : under_way x.stage ≡ 1
  one = told (λ (stage : Stage). under_way stage ≡ 1) x ready.planned refl

  open_rested : open_operations (staged x.txn.session Idle xs) + 1 ≡ open_operations xs
  open_rested = go (open_operations (staged x.txn.session Idle xs)) (open_operations xs) (length x.txn.ops) (under_way x.stage) one (staged-sum (λ y. length y.txn.ops + under_way y.stage) x Idle xs sound.sessions.ascending here active refl)
    where
      go : (a b l u : ℕ) → u ≡ 1 → a + (l + u) ≡ b + (l + 0) → a + 1 ≡ b
      go a b l u e h = omega arith

  pub some_open : 1 ≤ s.operations
  some_open = let f = fits.operations in let o = open_rested in omega (arith, f, o)

  told_rested : sum_by (λ y. records_told y.txn.ops) (filter is_active (staged x.txn.session Idle xs)) ≡ sum_by (λ y. records_told y.txn.ops) (filter is_active xs)
  told_rested = go (sum_by (λ y. records_told y.txn.ops) (filter is_active (staged x.txn.session Idle xs))) (sum_by (λ y. records_told y.txn.ops) (filter is_active xs)) (records_told x.txn.ops) (staged-sum (λ y. records_told y.txn.ops) x Idle xs sound.sessions.ascending here active refl)
    where
      go : (a b m : ℕ) → a + m ≡ b + m → a ≡ b
      go a b m h = omega arith

  pub rested_fits : (s' : State) → s'.seats.items ≡ staged x.txn.session Idle xs → s'.audit ≡ s.audit → s'.tree.table ≡ s.tree.table → deque_capacity s'.dead ≡ deque_capacity s.dead → s'.operations ≡ s.operations - 1 → s'.records ≡ s.records → IsSketchOf s'.tree.table s'.sketch → Fits s'
  rested_fits s' seats audit tree dead operations records sketch = record {
    operations = operations ∙ fewer s.operations (kept_operations s.audit.commits) (open_operations (staged x.txn.session Idle xs)) (open_operations xs) fits.operations open_rested
        ∙ ap₂ (λ (a : History) (ys : List Session). kept_operations a.commits + open_operations ys) (sym audit) (sym seats);
    records = records ∙ fits.records ∙ ap (λ (m : ℕ). sum_by (λ (c : Commit). records_told c.ops) s.audit.commits + m) (sym told_rested)
        ∙ ap₂ (λ (a : History) (ys : List Session). sum_by (λ (c : Commit). records_told c.ops) a.commits + sum_by (λ (y : Session). records_told y.txn.ops) (filter is_active ys)) (sym audit) (sym seats);
    endings = within (open_transactions s'.seats.items) (open_transactions (staged x.txn.session Idle xs)) (open_transactions xs) s.audit.spare s'.audit.spare
        (ap open_transactions seats) (staged-open x Idle xs sound.sessions.ascending here active refl) fits.endings (ap (λ (a : History). a.spare) audit);
    graves = let g = fits.graves in let e = ap (λ (t : Table). length (entries_of t)) tree in omega (arith, g, e, dead);
    sketch = sketch;
  }
    where
      fewer : (total kept after before : ℕ) → total ≡ kept + before → after + 1 ≡ before → total - 1 ≡ kept + after
      fewer total kept after before e h = omega arith

      within : (a b c m m' : ℕ) → a ≡ b → b ≡ c → c ≤ m → m' ≡ m → a ≤ m'
      within a b c m m' e f h g = omega arith

  -- the operation is kept
  module _ (reply : Told) where
    abbrev pair : Answered
    pair = record { op = op; reply = reply }

    abbrev ys : List Session
    ys = staged x.txn.session Idle (with_change x.txn.session (lengthened op reply) xs)

    sums : (f : Session → ℕ) → sum_by f (filter is_active ys) + f x ≡ sum_by f (filter is_active xs) + f (done_with op reply x)
    sums f =
        let c = change-sum f (done_with op reply) xs sound.sessions.ascending x here in
        let a = share-active f x active in
        let k = ap (λ (zs : List Session). sum_by f (filter is_active zs)) (kept-idle x.txn.session op reply xs) in
        omega (arith, c, a, k)

    open_kept : open_operations ys ≡ open_operations xs
    open_kept = go (open_operations ys) (open_operations xs) (length x.txn.ops) (under_way x.stage) (length (x.txn.ops ++ pair ∷ [])) one (length-append x.txn.ops (pair ∷ [])) (sums (λ y. length y.txn.ops + under_way y.stage))
      where
        go : (a b l u m : ℕ) → u ≡ 1 → m ≡ l + 1 → a + (l + u) ≡ b + (m + 0) → a ≡ b
        go a b l u m e f h = omega arith

    told_kept : sum_by (λ y. records_told y.txn.ops) (filter is_active ys) ≡ sum_by (λ y. records_told y.txn.ops) (filter is_active xs) + records_in reply
    told_kept = go (sum_by (λ y. records_told y.txn.ops) (filter is_active ys)) (sum_by (λ y. records_told y.txn.ops) (filter is_active xs)) (records_told x.txn.ops) (records_told (x.txn.ops ++ pair ∷ [])) (records_in reply)
        (sum_by_push (λ (p : Answered). records_in p.reply) x.txn.ops pair) (sums (λ y. records_told y.txn.ops))
      where
        go : (a b m m' r : ℕ) → m' ≡ m + r → a + m ≡ b + m' → a ≡ b + r
        go a b m m' r e h = omega arith

    opened : open_transactions ys ≡ open_transactions xs
    opened = let p = length-sum (filter is_active ys) in let q = length-sum (filter is_active xs) in let r = sums (λ y. 1) in omega (arith, p, q, r)

    pub kept_fits : (s' : State) → s'.seats.items ≡ ys → s'.audit ≡ s.audit → length (entries_of s'.tree.table) ≤ deque_capacity s'.dead → s'.operations ≡ s.operations → s'.records ≡ s.records + records_in reply → IsSketchOf s'.tree.table s'.sketch → Fits s'
    kept_fits s' seats audit graves operations records sketch = record {
      operations = operations ∙ fits.operations ∙ ap (λ (m : ℕ). kept_operations s.audit.commits + m) (sym open_kept)
          ∙ ap₂ (λ (a : History) (zs : List Session). kept_operations a.commits + open_operations zs) (sym audit) (sym seats);
      records = records ∙ more s.records (sum_by (λ (c : Commit). records_told c.ops) s.audit.commits) (sum_by (λ (y : Session). records_told y.txn.ops) (filter is_active xs)) (records_in reply) (sum_by (λ (y : Session). records_told y.txn.ops) (filter is_active ys)) fits.records told_kept
          ∙ ap₂ (λ (a : History) (zs : List Session). sum_by (λ (c : Commit). records_told c.ops) a.commits + sum_by (λ (y : Session). records_told y.txn.ops) (filter is_active zs)) (sym audit) (sym seats);
      endings = within (open_transactions s'.seats.items) (open_transactions ys) (open_transactions xs) s.audit.spare s'.audit.spare (ap open_transactions seats) opened fits.endings (ap (λ (a : History). a.spare) audit);
      graves = graves;
      sketch = sketch;
    }
      where
        more : (total kept before r after : ℕ) → total ≡ kept + before → after ≡ before + r → total + r ≡ kept + after
        more total kept before r after e h = omega arith

        within : (a b c m m' : ℕ) → a ≡ b → b ≡ c → c ≤ m → m' ≡ m → a ≤ m'
        within a b c m m' e f h g = omega arith

-- marks leave as many entries
pub as_many_marked : (txn : ℕ) (op : Op) (t t' : Table) → t' ≡ table_with (marked_by txn op) t → length (entries_of t') ≡ length (entries_of t)
as_many_marked txn op t t' e = ap (λ (u : Table). length (entries_of u)) e ∙ ap (λ (es : List Entry). length es) (entries_of_with (marked_by txn op) (marks_keep txn op) t) ∙ length-map (entries_of t) (marked_by txn op)

-- the marks of the operation, set in a tree that is the same
pub marked_is : (t t0 t' : Table) (txn : ℕ) (op : Op) (marks marks' : List (ℕ × Marks)) → t0 ≡ t → marks' ≡ marks → AreMarked (entries_of t) txn op marks
    → ((u : ℕ) (o : Op) → AreMarked (entries_of t0) u o marks' → t' ≡ table_with (marked_by u o) t0) → t' ≡ table_with (marked_by txn op) t
marked_is t t0 t' txn op marks marks' same same_marks are h =
    h txn op (subst (λ (u : Table). AreMarked (entries_of u) txn op marks') (sym same) (subst (AreMarked (entries_of t) txn op) (sym same_marks) are)) ∙ ap (table_with (marked_by txn op)) same
