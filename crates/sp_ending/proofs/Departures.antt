-- A session whose transaction has ended.
use Rattle.std.proofs.Common.{◌≡◌, ℕ, zero, suc, ◌+◌, ◌-◌, ◌<◌, ◌≤◌, Bool, true, false, not, cond, List, [], ◌∷◌, ◌++◌, filter, length, take, drop, Some, None, nat_eq, refl, sym, ap, ◌∙◌, subst, inl, inr, arith}
use Rattle.std.specs.Prelude.{slice_get}
use Rattle.std.specs.List.{list_any, sum_by}
use Rattle.std.specs.VecDeque.{deque_capacity}
use Rattle.std.proofs.lemmas.List.{take-append-drop}
use Rattle.std.proofs.Math.Seq.{take-length, drop-length}
use Rattle.sp_locks.specs.declared.row.Row.{Row}
use Rattle.sp_locks.specs.declared.row.Scope.TheVariants.{AllRows}
use Rattle.sp_locks.specs.Table.{released}
use Rattle.sp_node.specs.declared.node.Entry.{Entry}
use Rattle.sp_node.specs.Among.{Among}
use Rattle.sp_node.specs.Change.{table_with}
use Rattle.sp_node.specs.Marks.{undone}
use Rattle.sp_node.specs.Table.{Table, entries_of}
use Rattle.sp_node.proofs.Changed.{entries_of_with}
use Rattle.sp_audit.specs.History.{History}
use Rattle.sp_model.specs.declared.session.Session.{Session}
use Rattle.sp_model.specs.State.{Kernel, entries_in, is_active, session_at, sessions_without}
use Rattle.sp_model.specs.Refusals.{under_way, open_operations, open_transactions, kept_operations}
use Rattle.sp_model.specs.Moves.{dead_among, newly_dead, ascending, rolled_back}
use Rattle.sp_model.specs.Soundness.{AreAscending, DeadListed, Sound}
use Rattle.sp_model.specs.Stepped.{records_told, kept_records}
use Rattle.sp_model.specs.Unmarked.{IsDeadUntouched}
use Rattle.sp_model.proofs.Counting.{without-sum, length-sum}
use Rattle.sp_model.proofs.Holding.{among-any}
use Rattle.sp_model.proofs.Sessions.{number-tell, found-among}
use Rattle.sp_model.proofs.Settling.{undone-keeps}
use Rattle.sp_model.proofs.Untouched.{settled-same, undone-same, untouched}
use Rattle.sp_state.specs.declared.state.State.{State}
use Rattle.sp_state.specs.Held.{kernel_of, Fits}
use Rattle.sp_state.specs.Sketches.{IsSketchOf}
use Rattle.sp_ending.specs.declared.marks.Ending.{Ending}
use Rattle.sp_ending.specs.declared.marks.Ending.TheVariants.{Commit, Rollback}
use Rattle.sp_ending.specs.Ends.{ended, AreClean, MayEnd}
use Rattle.sp_ending.specs.Tail.{IsTail}

pub got-among : (xs : List Session) (i : ℕ) (x : Session) → slice_get xs i ≡ Some x → Among x xs
got-among [] i x e = absurd (none e)
  where
    none : None ≡ Some x → ⊥
    none e = cc
got-among (y ∷ ys) zero x e = inl (one e)
  where
    one : Some y ≡ Some x → x ≡ y
    one e = cc
got-among (y ∷ ys) (suc i) x e = inr (got-among ys i x e)

pub one-got : (xs : List Session) (i : ℕ) (x y : Session) → slice_get xs i ≡ Some x → slice_get xs i ≡ Some y → x ≡ y
one-got xs i x y e f = one (sym e ∙ f)
  where
    one : Some x ≡ Some y → x ≡ y
    one e = cc

-- from soundness, and without a word of locks
pub may_end : (k : Kernel) → Sound k → MayEnd k
may_end k sound = record { ascending = sound.sessions.ascending; listed = sound.dead; untouched = sound.untouched }

pub may_end-locks : (k : Kernel) (rows : List Row) → MayEnd k → MayEnd (record k { locks = rows })
may_end-locks k rows may = record { ascending = may.ascending; listed = may.listed; untouched = may.untouched }

-- the end of an active transaction changes nothing on what bears none of its marks
pub clean-for : (ending : Ending) (k : Kernel) (x : Session) → IsDeadUntouched k → Among x k.sessions → is_active x ≡ true → AreClean ending x.txn.number (entries_in k)
unfolding ended
clean-for Commit k x dead here active e i none = settled-same x.txn.number e (untouched k.sessions (entries_in k) x e dead here active i none)
clean-for Rollback k x dead here active e i none = undone-same x.txn.number e (untouched k.sessions (entries_in k) x e dead here active i none)

-- nobody has died before anything changed
filter-none : (test : ℕ → Bool) (ns : List ℕ) → ((n : ℕ) → Among n ns → test n ≡ false) → filter test ns ≡ []
filter-none test [] none = refl
filter-none test (n ∷ ns) none = go (test n) (none n (inl refl)) (filter-none test ns (λ m i. none m (inr i)))
  where
    go : (b : Bool) → b ≡ false → filter test ns ≡ [] → cond b (n ∷ filter test ns) (filter test ns) ≡ []
    go true e r = cc
    go false e r = r

newly-none : (es : List Entry) → newly_dead es es ≡ []
newly-none es = ap ascending (filter-none (λ n. not (list_any (nat_eq n) (dead_among es))) (dead_among es) (λ n i. ap not (among-any (nat_eq n) n (dead_among es) i (number-tell n n refl))))

pub tail-begins : (dead : List ℕ) (from : ℕ) (es : List Entry) → from ≡ length dead → DeadListed dead es → IsTail dead from es es
tail-begins dead from es e h = record {
  within = omega (arith, e);
  listed = subst (λ (ns : List ℕ). DeadListed ns es) (sym (ap (λ (n : ℕ). take n dead) e ∙ take-length dead)) h;
  stay = λ n i. i;
  tail = ap (λ (n : ℕ). drop n dead) e ∙ drop-length dead ∙ sym (newly-none es);
}

-- what the list is in the end
pub tail-whole : (dead dead' : List ℕ) (from : ℕ) (es es' : List Entry) → from ≡ length dead → take from dead' ≡ take from dead → IsTail dead' from es es' → dead' ≡ dead ++ newly_dead es es'
tail-whole dead dead' from es es' e front tail =
    sym (take-append-drop from dead') ∙ ap (λ (ns : List ℕ). ns ++ drop from dead') (front ∙ ap (λ (n : ℕ). take n dead) e ∙ take-length dead) ∙ ap (λ (ns : List ℕ). dead ++ ns) tail.tail

-- the kernel in which a transaction is undone
pub rolled-is : (k : Kernel) (x : Session) (tree : Table) (dead : List ℕ) (locks : List Row) (sessions : List Session)
    → tree ≡ table_with (undone x.txn.number) k.tree → dead ≡ k.dead ++ newly_dead (entries_in k) (entries_of tree) → locks ≡ released AllRows x.txn.session k.locks → sessions ≡ sessions_without x.txn.session k.sessions
    → record k { tree = tree; dead = dead; locks = locks; sessions = sessions } ≡ rolled_back x k
rolled-is k x tree dead locks sessions is died freed left = λ i. record k {
  tree = is i;
  dead = (died ∙ ap (λ (es : List Entry). k.dead ++ newly_dead (entries_in k) es) (ap entries_of is ∙ entries_of_with (undone x.txn.number) (undone-keeps x.txn.number) k.tree)) i;
  locks = freed i;
  sessions = left i;
}

-- the counters without an active session
module _ (s : State) (x : Session) (fits : Fits s) (ascending : AreAscending s.seats.items) (here : Among x s.seats.items) (active : is_active x ≡ true) where
  loses : (f : Session → ℕ) → sum_by f (filter is_active (sessions_without x.txn.session s.seats.items)) + f x ≡ sum_by f (filter is_active s.seats.items)
  loses f = subst (λ (b : Bool). sum_by f (filter is_active (sessions_without x.txn.session s.seats.items)) + cond b (f x) 0 ≡ sum_by f (filter is_active s.seats.items)) active (without-sum f s.seats.items ascending x here)

  pub few-operations : length x.txn.ops + under_way x.stage ≤ s.operations
  few-operations = let a = fits.operations in let b = loses (λ y. length y.txn.ops + under_way y.stage) in omega (arith, a, b)

  pub few-records : records_told x.txn.ops ≤ s.records
  few-records = let a = fits.records in let b = loses (λ y. records_told y.txn.ops) in omega (arith, a, b)

  open-without : open_transactions (sessions_without x.txn.session s.seats.items) + 1 ≡ open_transactions s.seats.items
  open-without = let a = length-sum (filter is_active (sessions_without x.txn.session s.seats.items)) in let b = length-sum (filter is_active s.seats.items) in let d = loses (λ y. 1) in omega (arith, a, b, d)

  pub fits-without : (s' : State) → s'.seats.items ≡ sessions_without x.txn.session s.seats.items → s'.audit ≡ s.audit → s'.operations ≡ s.operations - (length x.txn.ops + under_way x.stage) → s'.records ≡ s.records - records_told x.txn.ops
      → length (entries_of s'.tree.table) ≤ deque_capacity s'.dead → IsSketchOf s'.tree.table s'.sketch → Fits s'
  fits-without s' left same ops told room sketch = record {
    operations = subst (λ (xs : List Session). s'.operations ≡ kept_operations s'.audit.commits + open_operations xs) (sym left) (subst (λ (a : History). s'.operations ≡ kept_operations a.commits + open_operations (sessions_without x.txn.session s.seats.items)) (sym same) fewer-operations);
    records = ops-told;
    endings = subst (λ (xs : List Session). open_transactions xs ≤ s'.audit.spare) (sym left) (subst (λ (a : History). open_transactions (sessions_without x.txn.session s.seats.items) ≤ a.spare) (sym same) fewer-open);
    graves = room;
    sketch = sketch;
  }
    where
      fewer-operations : s'.operations ≡ kept_operations s.audit.commits + open_operations (sessions_without x.txn.session s.seats.items)
      fewer-operations = let a = fits.operations in let b = loses (λ y. length y.txn.ops + under_way y.stage) in omega (arith, a, b, ops)

      fewer-records : s'.records ≡ sum_by (λ c. records_told c.ops) s.audit.commits + sum_by (λ y. records_told y.txn.ops) (filter is_active (sessions_without x.txn.session s.seats.items))
      fewer-records = let a = fits.records in let b = loses (λ y. records_told y.txn.ops) in omega (arith, a, b, told)

      fewer-open : open_transactions (sessions_without x.txn.session s.seats.items) ≤ s.audit.spare
      fewer-open = let a = fits.endings in let b = open-without in omega (arith, a, b)

      ops-told : s'.records ≡ kept_records (kernel_of s')
      ops-told = subst (λ (xs : List Session). s'.records ≡ sum_by (λ c. records_told c.ops) s'.audit.commits + sum_by (λ y. records_told y.txn.ops) (filter is_active xs)) (sym left)
          (subst (λ (a : History). s'.records ≡ sum_by (λ c. records_told c.ops) a.commits + sum_by (λ y. records_told y.txn.ops) (filter is_active (sessions_without x.txn.session s.seats.items))) (sym same) fewer-records)

pub got-there : (xs : List Session) (i : ℕ) → i < length xs → (x : Session) × (slice_get xs i ≡ Some x)
got-there [] i l = absurd (omega (arith, l))
got-there (x ∷ xs) zero l = (x, refl)
got-there (x ∷ xs) (suc i) l = got-there xs i (omega (arith, l))

-- the session that was found at a place
pub found-there : (s i : ℕ) (xs ys : List Session) → ys ≡ xs → session_at s ys ≡ slice_get ys i → i < length ys → (x : Session) × (slice_get xs i ≡ Some x) × (session_at s xs ≡ Some x)
found-there s i xs ys same e l =
    let g = got-there xs i (subst (λ (zs : List Session). i < length zs) same l) in
    (g.0, g.1, subst (λ (zs : List Session). session_at s zs ≡ slice_get zs i) same e ∙ g.1)

-- the session that sits at the place where it was found
pub record Sits (k : Kernel) (s : ℕ) (x : Session) : Type 0 where
  pub at : session_at s k.sessions ≡ Some x
  pub here : Among x k.sessions
  pub number : x.txn.session ≡ s

pub sits : (k : Kernel) (s i : ℕ) (ys : List Session) (x : Session) → ys ≡ k.sessions → session_at s ys ≡ slice_get ys i → slice_get k.sessions i ≡ Some x → Sits k s x
sits k s i ys x same e got =
    let at = subst (λ (zs : List Session). session_at s zs ≡ slice_get zs i) same e ∙ got in
    let f = found-among s k.sessions x at in
    record { at = at; here = f.0; number = f.1 }

pub one-at : (xs : List Session) (s : ℕ) (x y : Session) → session_at s xs ≡ Some x → session_at s xs ≡ Some y → x ≡ y
one-at xs s x y e f = one (sym e ∙ f)
  where
    one : Some x ≡ Some y → x ≡ y
    one e = cc
