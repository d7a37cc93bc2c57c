-- The events that change a stage alone keep a kernel sound.
use Rattle.std.proofs.Common.{◌≡◌, ◌≢◌, ◌⊎◌, ℕ, ◌+◌, ◌<◌, ◌≤◌, Bool, true, false, not, cond, ◌&&◌, List, [], ◌∷◌, ◌++◌, filter, None, Some, length, refl, sym, ap, ◌∙◌, subst, inl, inr, true≢false, arith}
use Rattle.sp_rect.specs.declared.operation.Op.{Op}
use Rattle.sp_locks.specs.declared.mode.Mode.{Mode}
use Rattle.sp_locks.specs.declared.row.Name.{Name}
use Rattle.sp_locks.specs.declared.row.Name.TheVariants.{Granule, Object}
use Rattle.sp_locks.specs.declared.row.Row.{Row}
use Rattle.sp_locks.specs.declared.row.Duration.{Duration}
use Rattle.sp_locks.specs.declared.row.Duration.TheVariants.{Commit, Short}
use Rattle.sp_locks.specs.declared.needs.Need.{Need}
use Rattle.sp_locks.specs.Rows.{waiting_in}
use Rattle.sp_locks.specs.Table.{row_of}
use Rattle.sp_node.specs.Among.{Among}
use Rattle.sp_node.proofs.Among.{among_left, among_right, among_split}
use Rattle.sp_event.specs.declared.event.Event.TheVariants.{Start, Name as AskName, Plan}
use Rattle.sp_protection.specs.Needs.{AreInOrder, Precedes, by_kind}
use Rattle.sp_model.specs.declared.session.Session.{Session}
use Rattle.sp_model.specs.declared.session.Stage.{Stage}
use Rattle.sp_model.specs.declared.session.Stage.TheVariants.{Idle, Started, NameWait, Named, NeedWait, Planned, Queued, Placed}
use Rattle.sp_model.specs.State.{Kernel, is_active, is_active_stage, session_at, at_stage, staged}
use Rattle.sp_model.specs.Refusals.{is_search, holds_latch, shares, under_way, most_operations, most_history, kept_operations, open_operations, turned_away}
use Rattle.sp_model.specs.Moves.{with_stage}
use Rattle.sp_model.specs.Plans.{object_of, HasNeeds, Stays, Adds, is_held, is_covered, left_to_ask, HasRectangle}
use Rattle.sp_model.specs.Soundness.{MayHave, SharesLatch, HoldsObject, is_met, IsPlanned, HoldsStage, is_queued, WithinCounts, OfStage}
use Rattle.sp_model.proofs.Bare.{Bare}
use Rattle.sp_model.proofs.Sessions.{found-among, among-kept, of_kept}
use Rattle.sp_model.proofs.Holding.{of_held, to_met, StayMet, rows-stay, met-held}
use Rattle.sp_model.proofs.Limits.{counts-staged, counts-no_more}
use Rattle.sp_model.proofs.Awake.{may-have, of_awake, owned-staged}
use Rattle.sp_model.proofs.Turned.{may_start, name-awake, plan-awake, plan-latch}
use Rattle.sp_model.proofs.Restaging.{restaged-sound, needs-still}

-- what the stage says of a session, told of the stage that it is at
pub told : {stage : Stage} (P : Stage → Type 0) (x : Session) → x.stage ≡ stage → P stage → P x.stage
told P x e h = subst P (sym e) h

-- a stage alone changes
pub stage-sound : (k : Kernel) (x : Session) (stage : Stage) → Bare k → Among x k.sessions → is_active x ≡ true → is_active_stage stage ≡ true → is_queued x.stage ≡ false → is_queued stage ≡ false
    → ((row : Row) → Among row k.locks → row.session ≡ x.txn.session → MayHave stage row)
    → ((y : Session) → Among y k.sessions → y.txn.session ≢ x.txn.session → SharesLatch stage y.stage × SharesLatch y.stage stage)
    → OfStage HasRectangle stage
    → HoldsStage (with_stage x.txn.session stage k) (at_stage stage x) stage
    → WithinCounts (with_stage x.txn.session stage k)
    → Bare (with_stage x.txn.session stage k)
stage-sound k x stage sound here active active' unqueued unqueued' may shares in_space at counts = restaged-sound k x stage k.locks sound (record {
  here = here;
  active = active;
  active' = active';
  unqueued = unqueued;
  unqueued' = unqueued';
  locks = sound.locks;
  acyclic = sound.acyclic;
  owned = owned-staged x stage k.sessions k.locks sound.rows may;
  names = sound.names;
  held = λ s. met-held s k.locks k.locks (same s);
  met = λ y i e. same y.txn.session;
  awaits = λ y op i e h. h;
  shares = shares;
  in_space = in_space;
  at = at;
  counts = counts;
})
  where
    same : (s : ℕ) → StayMet s k.locks k.locks
    same s = rows-stay s k.locks k.locks (λ row i w. i)

-- a stage without the latch shares it
pub shares-started : (op : Op) (stage : Stage) → SharesLatch (Started op) stage × SharesLatch stage (Started op)
shares-started op Idle = (tt, tt)
shares-started op (Started o) = (tt, tt)
shares-started op (NameWait o) = (tt, tt)
shares-started op (Named o) = (tt, tt)
shares-started op (NeedWait o) = (tt, tt)
shares-started op (Planned o left) = (tt, tt)
shares-started op Queued = (tt, tt)
shares-started op Placed = (tt, tt)

pub shares-named : (op : Op) (stage : Stage) → SharesLatch (Named op) stage × SharesLatch stage (Named op)
shares-named op Idle = (tt, tt)
shares-named op (Started o) = (tt, tt)
shares-named op (NameWait o) = (tt, tt)
shares-named op (Named o) = (tt, tt)
shares-named op (NeedWait o) = (tt, tt)
shares-named op (Planned o left) = (tt, tt)
shares-named op Queued = (tt, tt)
shares-named op Placed = (tt, tt)

pub start-sound : (k : Kernel) (s : ℕ) (x : Session) (op : Op) → Bare k → turned_away k (Start s op) ≡ None → session_at s k.sessions ≡ Some x → HasRectangle op → Bare (with_stage s (Started op) k)
start-sound k s x op sound let_in found in_space =
    let f = found-among s k.sessions x found in
    let m = may_start k s op x found let_in in
    let active : is_active x ≡ true = told (λ (stage : Stage). is_active_stage stage ≡ true) x m.idle refl in
    subst (λ (n : ℕ). Bare (with_stage n (Started op) k)) f.1
    (stage-sound k x (Started op) sound f.0 active refl (told (λ (stage : Stage). is_queued stage ≡ false) x m.idle refl) refl
    (λ row i e. subst (λ (stage : Stage). MayHave stage row) m.idle (may-have k.sessions k.locks sound.sessions.ascending sound.rows x f.0 row i e))
    (λ y i e. shares-started op y.stage)
    in_space
    tt
    (counts-staged k x (Started op) k.locks sound.sessions.ascending sound.counts f.0 active refl (more (length x.txn.ops) most_operations m.operations) (room (kept_operations k.commits + open_operations k.sessions) most_history (under_way x.stage) m.history)))
  where
    more : (a most : ℕ) → a < most → a + 1 ≤ most
    more a most l = omega arith

    room : (a most was : ℕ) → a < most → a + 1 ≤ most + was
    room a most was l = omega arith

-- an operation that asks no lock on an object
pub names_nothing-sound : (k : Kernel) (s : ℕ) (x : Session) (op : Op) → Bare k → session_at s k.sessions ≡ Some x → x.stage ≡ Started op → object_of op ≡ None → Bare (with_stage s (Named op) k)
names_nothing-sound k s x op sound found at none =
    let f = found-among s k.sessions x found in
    let active : is_active x ≡ true = told (λ (stage : Stage). is_active_stage stage ≡ true) x at refl in
    subst (λ (n : ℕ). Bare (with_stage n (Named op) k)) f.1
    (stage-sound k x (Named op) sound f.0 active refl (told (λ (stage : Stage). is_queued stage ≡ false) x at refl) refl
    (λ row i e. subst (λ (stage : Stage). MayHave stage row) at (may-have k.sessions k.locks sound.sessions.ascending sound.rows x f.0 row i e))
    (λ y i e. shares-named op y.stage)
    (subst (OfStage HasRectangle) at (sound.in_space x f.0))
    (λ name mode e. absurd (some (name, mode) (sym none ∙ e)))
    (counts-no_more k x (Named op) k.locks sound.sessions.ascending sound.counts f.0 active refl (told (λ (stage : Stage). 1 ≤ under_way stage) x at (omega arith))))
  where
    some : (p : Name × Mode) → None ≡ Some p → ⊥
    some p e = cc

-- the wait for the lock on its object is over
pub has_waited-sound : (k : Kernel) (s : ℕ) (x : Session) (op : Op) → Bare k → turned_away k (AskName s) ≡ None → session_at s k.sessions ≡ Some x → x.stage ≡ NameWait op → Bare (with_stage s (Named op) k)
has_waited-sound k s x op sound let_in found at =
    let f = found-among s k.sessions x found in
    let active : is_active x ≡ true = told (λ (stage : Stage). is_active_stage stage ≡ true) x at refl in
    let none : waiting_in x.txn.session k.locks ≡ None = subst (λ (n : ℕ). waiting_in n k.locks ≡ None) (sym f.1) (name-awake k s let_in) in
    subst (λ (n : ℕ). Bare (with_stage n (Named op) k)) f.1
    (stage-sound k x (Named op) sound f.0 active refl (told (λ (stage : Stage). is_queued stage ≡ false) x at refl) refl
    (λ row i e. (of_awake x.txn.session k.locks none row i e, subst (λ (stage : Stage). MayHave stage row) at (may-have k.sessions k.locks sound.sessions.ascending sound.rows x f.0 row i e)))
    (λ y i e. shares-named op y.stage)
    (subst (OfStage HasRectangle) at (sound.in_space x f.0))
    (λ name mode e. holds none name mode (subst (HoldsStage k x) at (sound.stages x f.0) name mode e))
    (counts-no_more k x (Named op) k.locks sound.sessions.ascending sound.counts f.0 active refl (told (λ (stage : Stage). 1 ≤ under_way stage) x at (omega arith))))
  where
    holds : waiting_in x.txn.session k.locks ≡ None → (name : Name) (mode : Mode)
        → (is_held k.locks x.txn.session (record { name = name; mode = mode; duration = Commit }) ≡ true) ⊎ Among (row_of x.txn.session name mode Commit true) k.locks → is_held k.locks x.txn.session (record { name = name; mode = mode; duration = Commit }) ≡ true
    holds none name mode (inl h) = h
    holds none name mode (inr i) = absurd (true≢false (of_awake x.txn.session k.locks none (row_of x.txn.session name mode Commit true) i refl))

-- needs stay in order where some are left out, and where short ones follow those to the end
order-kept : (test : Need → Bool) (needs : List Need) → AreInOrder needs → AreInOrder (filter test needs)
order-kept test [] h = tt
order-kept test (need ∷ needs) h = go (test need) (order-kept test needs h.1)
  where
    go : (b : Bool) → AreInOrder (filter test needs) → AreInOrder (cond b (need ∷ filter test needs) (filter test needs))
    go true k = (λ other i. h.0 other (of_kept test other needs i).0, k)
    go false k = k

order-append : (needs others : List Need) → AreInOrder needs → AreInOrder others → ((a b : Need) → Among a needs → Among b others → Precedes a b) → AreInOrder (needs ++ others)
order-append [] others h k before = k
order-append (need ∷ needs) others h k before = (λ other i. go other (among_split other needs others i), order-append needs others h.1 k (λ a b i j. before a b (inr i) j))
  where
    go : (other : Need) → Among other needs ⊎ Among other others → Precedes need other
    go other (inl i) = h.0 other i
    go other (inr j) = before need other (inl refl) j

short-last : (a b : Need) → a.duration ≡ Commit → b.duration ≡ Short → Precedes a b
short-last a b e f = subst (λ (d : Duration). by_kind d a.name b.duration b.name) (sym e) (subst (λ (d : Duration). by_kind Commit a.name d b.name) (sym f) (last a.name b.name))
  where
    last : (m n : Name) → by_kind Commit m Short n
    last (Granule m) n = tt
    last (Object m) n = tt

-- how long needs are asked for, and their order
pub commit-lasts : (k : Kernel) (x : Session) (op : Op) (commit short : List Need) → HasNeeds k x op commit short → (need : Need) → Among need commit → need.duration ≡ Commit
commit-lasts k x _ _ _ (Stays op commit none needs) need i = (needs.joined need i).1
commit-lasts k x _ _ _ (Adds r after chosen commit short some inserts needs short_needs) need i = (needs.joined need i).1

pub short-lasts : (k : Kernel) (x : Session) (op : Op) (commit short : List Need) → HasNeeds k x op commit short → (need : Need) → Among need short → need.duration ≡ Short
short-lasts k x _ _ _ (Stays op commit none needs) need i = absurd i
short-lasts k x _ _ _ (Adds r after chosen commit short some inserts needs short_needs) need i = (short_needs.joined need i).1

needs-order : (k : Kernel) (x : Session) (op : Op) (commit short : List Need) → HasNeeds k x op commit short → AreInOrder commit × AreInOrder short
needs-order k x _ _ _ (Stays op commit none needs) = (needs.in_order, tt)
needs-order k x _ _ _ (Adds r after chosen commit short some inserts needs short_needs) = (needs.in_order, short_needs.in_order)

held-met : (rows : List Row) (s : ℕ) (need : Need) → is_held rows s need ≡ true → is_met rows s need ≡ true
held-met rows s need h = let r = of_held rows s need h in to_met rows s need (record { row = r.row; stands = r.stands; held = r.lock.held; by = r.lock.by; on = r.on; enough = r.enough })

-- what is left to ask is planned
pub left-planned : (k : Kernel) (x : Session) (op : Op) (commit short : List Need) → HasNeeds k x op commit short → IsPlanned k x op (left_to_ask k.locks x.txn.session commit short)
left-planned k x op commit short needs = record {
  commit = commit;
  short = short;
  needs = needs;
  commit_met = λ need i. go need (is_held k.locks x.txn.session need) refl (among_left need commit left i);
  short_met = λ need i c. more need (go need (is_held k.locks x.txn.session need) refl (among_right need commit left (among-kept (λ n. not (is_covered commit n)) need short i (ap not c))));
  only = λ need i. from need (among_split need commit left (of_kept (λ n. not (is_held k.locks x.txn.session n)) need (commit ++ left) i).0);
  in_order = order-kept (λ n. not (is_held k.locks x.txn.session n)) (commit ++ left)
      (order-append commit left order.0 (order-kept (λ n. not (is_covered commit n)) short order.1)
      (λ a b i j. short-last a b (commit-lasts k x op commit short needs a i) (short-lasts k x op commit short needs b (of_kept (λ n. not (is_covered commit n)) b short j).0)));
}
  where
    left : List Need
    left = filter (λ n. not (is_covered commit n)) short

    order : AreInOrder commit × AreInOrder short
    order = needs-order k x op commit short needs

    go : (need : Need) (b : Bool) → is_held k.locks x.txn.session need ≡ b → Among need (commit ++ left) → (is_held k.locks x.txn.session need ≡ true) ⊎ Among need (left_to_ask k.locks x.txn.session commit short)
    go need true h i = inl h
    go need false h i = inr (among-kept (λ n. not (is_held k.locks x.txn.session n)) need (commit ++ left) i (ap not h))

    more : (need : Need) → (is_held k.locks x.txn.session need ≡ true) ⊎ Among need (left_to_ask k.locks x.txn.session commit short) → (is_met k.locks x.txn.session need ≡ true) ⊎ Among need (left_to_ask k.locks x.txn.session commit short)
    more need (inl h) = inl (held-met k.locks x.txn.session need h)
    more need (inr i) = inr i

    from : (need : Need) → Among need commit ⊎ Among need left → Among need commit ⊎ Among need short
    from need (inl i) = inl i
    from need (inr i) = inr (of_kept (λ n. not (is_covered commit n)) need short i).0

-- a plan: nobody holds the latch against it, and its needs are held or left to ask
pub plan-sound : (k : Kernel) (s : ℕ) (x : Session) (op : Op) (commit short : List Need) → Bare k → turned_away k (Plan s) ≡ None → session_at s k.sessions ≡ Some x → (x.stage ≡ Named op) ⊎ (x.stage ≡ NeedWait op)
    → HasNeeds k x op commit short → Bare (with_stage s (Planned op (left_to_ask k.locks s commit short)) k)
plan-sound k s x op commit short sound let_in found at needs =
    let f = found-among s k.sessions x found in
    let none : waiting_in x.txn.session k.locks ≡ None = subst (λ (n : ℕ). waiting_in n k.locks ≡ None) (sym f.1) (plan-awake k s let_in) in
    let active : is_active x ≡ true = either (λ (stage : Stage). is_active_stage stage ≡ true) refl refl at in
    subst (λ (n : ℕ). Bare (with_stage n (Planned op (left_to_ask k.locks n commit short)) k)) f.1
    (stage-sound k x (Planned op (left_to_ask k.locks x.txn.session commit short)) sound f.0 active refl (either (λ (stage : Stage). is_queued stage ≡ false) refl refl at) refl
    (λ row i e. of_awake x.txn.session k.locks none row i e)
    (λ y i e. latched y.stage (left_to_ask k.locks x.txn.session commit short) (plan-latch k s x y found let_in i (λ g. e (g ∙ sym f.1))))
    (in_space (sound.in_space x f.0) at)
    (object (sound.stages x f.0) at, planned (left-planned k x op commit short needs))
    (counts-no_more k x (Planned op (left_to_ask k.locks x.txn.session commit short)) k.locks sound.sessions.ascending sound.counts f.0 active refl (either (λ (stage : Stage). 1 ≤ under_way stage) (omega arith) (omega arith) at)))
  where
    either : (P : Stage → Type 0) → P (Named op) → P (NeedWait op) → (x.stage ≡ Named op) ⊎ (x.stage ≡ NeedWait op) → P x.stage
    either P a b (inl e) = subst P (sym e) a
    either P a b (inr e) = subst P (sym e) b

    object : HoldsStage k x x.stage → (x.stage ≡ Named op) ⊎ (x.stage ≡ NeedWait op) → HoldsObject k.locks x.txn.session op
    object h (inl e) = subst (HoldsStage k x) e h
    object h (inr e) = subst (HoldsStage k x) e h

    in_space : OfStage HasRectangle x.stage → (x.stage ≡ Named op) ⊎ (x.stage ≡ NeedWait op) → HasRectangle op
    in_space h (inl e) = subst (OfStage HasRectangle) e h
    in_space h (inr e) = subst (OfStage HasRectangle) e h

    planned : {left : List Need} → IsPlanned k x op left → IsPlanned (with_stage x.txn.session (Planned op left) k) (at_stage (Planned op left) x) op left
    planned {left} h = record {
      commit = h.commit;
      short = h.short;
      needs = needs-still k (staged x.txn.session (Planned op left) k.sessions) k.locks x (Planned op left) op h.commit h.short h.needs;
      commit_met = h.commit_met;
      short_met = h.short_met;
      only = h.only;
      in_order = h.in_order;
    }

    latched : (stage : Stage) (left : List Need) → holds_latch (shares x.stage) stage ≡ false → SharesLatch (Planned op left) stage × SharesLatch stage (Planned op left)
    latched Idle left h = (tt, tt)
    latched (Started o) left h = (tt, tt)
    latched (NameWait o) left h = (tt, tt)
    latched (Named o) left h = (tt, tt)
    latched (NeedWait o) left h = (tt, tt)
    latched (Planned o rest) left h = let k = two (shares x.stage) (is_search o) h in let m = either (λ (stage : Stage). shares stage ≡ true → is_search op ≡ true) (λ e. e) (λ e. e) at k.0 in ((m, k.1), (k.1, m))
      where
        two : (a b : Bool) → not (a && b) ≡ false → (a ≡ true) × (b ≡ true)
        two a b h = (grind arith, grind arith)
    latched Queued left h = (tt, tt)
    latched Placed left h = (tt, tt)
