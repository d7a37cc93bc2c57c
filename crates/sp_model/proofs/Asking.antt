-- The events that ask a lock keep a kernel sound: the name of an operation, and its needs one after the other.
use Rattle.std.proofs.Common.{◌≡◌, ◌≢◌, ◌⊎◌, ℕ, zero, suc, ◌<◌, ◌≤◌, Bool, true, false, List, ◌∷◌, map, Option, None, Some, refl, sym, ap, ◌∙◌, subst, inl, inr, true≢false, arith}
use Rattle.sp_rect.specs.Plane.{Rectangle}
use Rattle.sp_rect.specs.declared.operation.Op.{Op}
use Rattle.sp_rect.specs.declared.operation.Op.TheVariants.{Put, Drop, Set, Get, Find, Fill, Clear}
use Rattle.sp_locks.specs.declared.mode.Mode.{Mode}
use Rattle.sp_locks.specs.declared.row.Name.{Name}
use Rattle.sp_locks.specs.declared.row.Name.TheVariants.{Granule as OnGranule, Object}
use Rattle.sp_locks.specs.declared.row.Row.{Row}
use Rattle.sp_locks.specs.declared.row.Duration.{Duration}
use Rattle.sp_locks.specs.declared.row.Duration.TheVariants.{Commit}
use Rattle.sp_locks.specs.declared.row.Scope.TheVariants.{ShortLocks}
use Rattle.sp_locks.specs.declared.needs.Need.{Need}
use Rattle.sp_locks.specs.Rows.{waiting_in}
use Rattle.sp_locks.specs.Table.{row_of, with_row_on, released}
use Rattle.sp_locks.proofs.Keeping.{waiting-stays}
use Rattle.sp_node.specs.declared.node.Entry.{Entry}
use Rattle.sp_node.specs.Nested.{Body, Place}
use Rattle.sp_node.specs.Among.{Among}
use Rattle.sp_node.specs.Table.{Table, IsValid, places_of}
use Rattle.sp_node.proofs.Among.{all_among}
use Rattle.sp_granule.specs.Granules.{Granule, granule_of_node, granule, granules}
use Rattle.sp_event.specs.declared.answer.Answer.{Answer}
use Rattle.sp_protection.specs.Reshape.{HasNumber}
use Rattle.sp_protection.specs.Needs.{StayWant, Finds, MarksOne, MarksLeaf, MarksRegion, MarksObject, PutWant, Enters, KeepsSearched, ShortWant, LosesPoint, Goes, Reached, GivesAway}
use Rattle.sp_protection.proofs.Leaves.{among_map, from_map}
use Rattle.sp_model.specs.declared.session.Session.{Session}
use Rattle.sp_model.specs.declared.session.Stage.{Stage}
use Rattle.sp_model.specs.declared.session.Stage.TheVariants.{Idle, Started, NameWait, Named, NeedWait, Planned, Queued, Placed}
use Rattle.sp_model.specs.State.{Kernel, entries_in, is_active_stage, session_at, at_stage, staged}
use Rattle.sp_model.specs.Refusals.{under_way}
use Rattle.sp_model.specs.Moves.{Requests, IsGranted, HasToWait, ClosesCycle}
use Rattle.sp_model.specs.Plans.{object_of, HasNeeds, Stays, Adds, is_held, HasRectangle}
use Rattle.sp_model.specs.Soundness.{MayHave, SharesLatch, HoldsObject, AwaitsObject, is_met, IsPlanned, HoldsStage, is_queued, OfStage}
use Rattle.sp_model.proofs.Bare.{Bare}
use Rattle.sp_model.proofs.Sessions.{found-among}
use Rattle.sp_model.proofs.Holding.{in-among, to_held, to_met, StayMet, met-held, held-stays, met-stays, object-stays, released-short}
use Rattle.sp_model.proofs.Locking.{locked-there, locked-stays, waiting-met}
use Rattle.sp_model.proofs.Awake.{may-have, awake}
use Rattle.sp_model.proofs.Endings.{deadlock_ended-sound}
use Rattle.sp_model.proofs.Restaging.{with_both, needs-still}
use Rattle.sp_model.proofs.Staging.{told, shares-named, commit-lasts}
use Rattle.sp_model.proofs.Requesting.{FitsRequest, held-then, granted-sound, waits-sound}

-- a granted lock is held
granted-held : (s : ℕ) (name : Name) (mode : Mode) (rows : List Row) → is_held (with_row_on (row_of s name mode Commit false) rows) s (record { name = name; mode = mode; duration = Commit }) ≡ true
granted-held s name mode rows =
    let r : Row = row_of s name mode Commit false in
    let c = locked-there r rows refl in
    to_held (with_row_on r rows) s (record { name = name; mode = mode; duration = Commit })
    (record { row = c.row; stands = in-among c.row (with_row_on r rows) c.stands; lock = record { held = c.held; by = c.session; lasts = c.duration }; on = c.name; enough = c.covers })

granted-met : (s : ℕ) (need : Need) (duration : Duration) (rows : List Row) → is_met (with_row_on (row_of s need.name need.mode duration false) rows) s need ≡ true
granted-met s need duration rows =
    let r : Row = row_of s need.name need.mode duration false in
    let c = locked-there r rows refl in
    to_met (with_row_on r rows) s need (record { row = c.row; stands = in-among c.row (with_row_on r rows) c.stands; held = c.held; by = c.session; on = c.name; enough = c.covers })

-- an operation asks one lock on an object
object-one : (op : Op) (name other : Name) (mode another : Mode) → object_of op ≡ Some (name, mode) → object_of op ≡ Some (other, another) → (name ≡ other) × (mode ≡ another)
object-one op name other mode another e f = (ap first (sym e ∙ f), ap second (sym e ∙ f))
  where
    first : Option (Name × Mode) → Name
    first None = name
    first (Some p) = p.0

    second : Option (Name × Mode) → Mode
    second None = mode
    second (Some p) = p.1

abbrev is_granule : Name → Bool
is_granule (OnGranule n) = true
is_granule (Object id) = false

abbrev asks_granule : Option (Name × Mode) → Bool
asks_granule None = false
asks_granule (Some p) = is_granule p.0

object-no_granule : (op : Op) (name : Name) (mode : Mode) (number : ℕ) → object_of op ≡ Some (name, mode) → name ≡ OnGranule number → ⊥
object-no_granule op name mode number e on = true≢false (ap is_granule (sym on) ∙ sym (ap asks_granule e) ∙ none op)
  where
    none : (op : Op) → asks_granule (object_of op) ≡ false
    none (Put r) = refl
    none (Drop id) = refl
    none (Set id value) = refl
    none (Get id) = refl
    none (Find rect) = refl
    none (Fill rect value) = refl
    none (Clear rect) = refl

-- the numbers of granules are used
pub granule-below : (t : Table) → IsValid t → (g : Granule) → Among g (granules t) → g.number < t.next
unfolding granules
granule-below t valid g i =
    let p = from_map granule g (places_of t) i in
    subst (λ (n : ℕ). n < t.next) (sym (numbered p.0) ∙ ap (λ (z : Granule). z.number) p.2) (all_among (λ (n : ℕ). n < t.next) p.0.number (map (λ (q : Place). q.number) (places_of t)) valid.below_next (among_map (λ (q : Place). q.number) p.0 (places_of t) p.1))
  where
    numbered : (p : Place) → (granule p).number ≡ p.number
    numbered p = go p.level p.body
      where
        go : (level : ℕ) (body : Body level) → (granule_of_node level p.number p.space body).number ≡ p.number
        go zero body = refl
        go (suc level) body = refl

granule-same : (m n : ℕ) → OnGranule m ≡ OnGranule n → m ≡ n
granule-same m n e = ap number e
  where
    number : Name → ℕ
    number (OnGranule k) = k
    number (Object id) = m

object-granule : (m n : ℕ) → Object m ≡ OnGranule n → ⊥
object-granule m n e = true≢false (ap is_granule (sym e))

-- a need on a granule is on one of the tree
stay-there : (gs : List Granule) (es : List Entry) (txn : ℕ) (op : Op) (name : Name) (mode : Mode) → StayWant gs es txn op name mode → (number : ℕ) → name ≡ OnGranule number → HasNumber gs number
stay-there gs es txn op _ _ (Finds rect g is i meets) number on = (g, i, granule-same g.number number on)
stay-there gs es txn op _ _ (MarksOne id e g is i seen at j stands) number on = (g, j, granule-same g.number number on)
stay-there gs es txn op _ _ (MarksLeaf rect e g is i meets j stands) number on = (g, j, granule-same g.number number on)
stay-there gs es txn op _ _ (MarksRegion rect g is i meets) number on = (g, i, granule-same g.number number on)
stay-there gs es txn op _ _ (MarksObject rect e is i meets) number on = absurd (object-granule e.id number on)

put-there : (gs gs' : List Granule) (searches : List Rectangle) (name : Name) (mode : Mode) → PutWant gs gs' searches name mode → (number : ℕ) → name ≡ OnGranule number → HasNumber gs number
put-there gs gs' searches _ _ (Enters after i new old) number on = (old.0, old.1, old.2 ∙ granule-same after.number number on)
put-there gs gs' searches _ _ (KeepsSearched rect after changes i j meets old) number on = (old.0, old.1, old.2 ∙ granule-same after.number number on)

short-there : (gs gs' : List Granule) (chosen : Option ℕ) (name : Name) (mode : Mode) → ShortWant gs gs' chosen name mode → (number : ℕ) → name ≡ OnGranule number → HasNumber gs number
short-there gs gs' chosen _ _ (LosesPoint g i h) number on = (g, i, granule-same g.number number on)
short-there gs gs' chosen _ _ (Goes g i h) number on = (g, i, granule-same g.number number on)
short-there gs gs' chosen _ _ (Reached g i h) number on = (g, i, granule-same g.number number on)
short-there gs gs' chosen _ _ (GivesAway g i l h) number on = (g, i, granule-same g.number number on)

pub needs-there : (k : Kernel) (x : Session) (op : Op) (commit short : List Need) → HasNeeds k x op commit short → (need : Need) → Among need commit ⊎ Among need short → (number : ℕ) → need.name ≡ OnGranule number → HasNumber (granules k.tree) number
needs-there k x _ _ _ (Stays op commit none needs) need (inl i) number on = let w = (needs.joined need i).0.some in stay-there (granules k.tree) (entries_in k) x.txn.number op need.name w.0 w.1 number on
needs-there k x _ _ _ (Stays op commit none needs) need (inr i) number on = absurd i
needs-there k x _ _ _ (Adds r after chosen commit short some inserts needs short_needs) need (inl i) number on = let w = (needs.joined need i).0.some in put-there (granules k.tree) (granules after) x.txn.searches need.name w.0 w.1 number on
needs-there k x _ _ _ (Adds r after chosen commit short some inserts needs short_needs) need (inr i) number on = let w = (short_needs.joined need i).0.some in short-there (granules k.tree) (granules after) (Some chosen) need.name w.0 w.1 number on

-- a wait shares the latch
shares-name_wait : (op : Op) (stage : Stage) → SharesLatch (NameWait op) stage × SharesLatch stage (NameWait op)
shares-name_wait op Idle = (tt, tt)
shares-name_wait op (Started o) = (tt, tt)
shares-name_wait op (NameWait o) = (tt, tt)
shares-name_wait op (Named o) = (tt, tt)
shares-name_wait op (NeedWait o) = (tt, tt)
shares-name_wait op (Planned o left) = (tt, tt)
shares-name_wait op Queued = (tt, tt)
shares-name_wait op Placed = (tt, tt)

shares-need_wait : (op : Op) (stage : Stage) → SharesLatch (NeedWait op) stage × SharesLatch stage (NeedWait op)
shares-need_wait op Idle = (tt, tt)
shares-need_wait op (Started o) = (tt, tt)
shares-need_wait op (NameWait o) = (tt, tt)
shares-need_wait op (Named o) = (tt, tt)
shares-need_wait op (NeedWait o) = (tt, tt)
shares-need_wait op (Planned o left) = (tt, tt)
shares-need_wait op Queued = (tt, tt)
shares-need_wait op Placed = (tt, tt)

-- what is left to ask is nothing to the latch
shares-left : (op : Op) (left rest : List Need) (stage : Stage) → SharesLatch (Planned op left) stage → SharesLatch stage (Planned op left) → SharesLatch (Planned op rest) stage × SharesLatch stage (Planned op rest)
shares-left op left rest Idle h k = (tt, tt)
shares-left op left rest (Started o) h k = (tt, tt)
shares-left op left rest (NameWait o) h k = (tt, tt)
shares-left op left rest (Named o) h k = (tt, tt)
shares-left op left rest (NeedWait o) h k = (tt, tt)
shares-left op left rest (Planned o other) h k = (h, k)
shares-left op left rest Queued h k = (tt, tt)
shares-left op left rest Placed h k = (tt, tt)

-- the stages at which a lock is asked
module _ (k : Kernel) (x : Session) (sound : Bare k) (here : Among x k.sessions) where
  own : (stage : Stage) → x.stage ≡ stage → (row : Row) → Among row k.locks → row.session ≡ x.txn.session → MayHave stage row
  own stage at row i e = subst (λ (z : Stage). MayHave z row) at (may-have k.sessions k.locks sound.sessions.ascending sound.rows x here row i e)

  started-awake : (op : Op) → x.stage ≡ Started op → waiting_in x.txn.session k.locks ≡ None
  started-awake op at = awake x.txn.session k.locks (λ row i e. (own (Started op) at row i e).0)

  planned-awake : (op : Op) (left : List Need) → x.stage ≡ Planned op left → waiting_in x.txn.session k.locks ≡ None
  planned-awake op left at = awake x.txn.session k.locks (λ row i e. own (Planned op left) at row i e)

  started-fits : (op : Op) (name : Name) (mode : Mode) (stage : Stage) → x.stage ≡ Started op → object_of op ≡ Some (name, mode) → is_active_stage stage ≡ true → is_queued stage ≡ false → under_way stage ≡ 1
      → ((other : Stage) → SharesLatch stage other × SharesLatch other stage) → (HasRectangle op → OfStage HasRectangle stage) → FitsRequest k x name stage
  started-fits op name mode stage at asked active' unqueued' one shares in_space = record {
    here = here;
    active = told (λ (z : Stage). is_active_stage z ≡ true) x at refl;
    active' = active';
    unqueued = told (λ (z : Stage). is_queued z ≡ false) x at refl;
    unqueued' = unqueued';
    awake = started-awake op at;
    used = λ number on. absurd (object-no_granule op name mode number asked on);
    shares = λ y i e. shares y.stage;
    in_space = in_space (subst (OfStage HasRectangle) at (sound.in_space x here));
    no_more = told (λ (z : Stage). under_way stage ≤ under_way z) x at (subst (λ n. n ≤ 1) (sym one) (omega arith));
  }

  planned-fits : (op : Op) (need : Need) (left : List Need) (stage : Stage) → x.stage ≡ Planned op (need ∷ left) → IsPlanned k x op (need ∷ left) → is_active_stage stage ≡ true → is_queued stage ≡ false → under_way stage ≡ 1
      → ((y : Session) → Among y k.sessions → y.txn.session ≢ x.txn.session → SharesLatch stage y.stage × SharesLatch y.stage stage) → (HasRectangle op → OfStage HasRectangle stage) → FitsRequest k x need.name stage
  planned-fits op need left stage at plan active' unqueued' one shares in_space = record {
    here = here;
    active = told (λ (z : Stage). is_active_stage z ≡ true) x at refl;
    active' = active';
    unqueued = told (λ (z : Stage). is_queued z ≡ false) x at refl;
    unqueued' = unqueued';
    awake = planned-awake op (need ∷ left) at;
    used = λ number on. let g = needs-there k x op plan.commit plan.short plan.needs need (plan.only need (inl refl)) number on in subst (λ n. n < k.tree.next) g.2 (granule-below k.tree sound.valid g.0 g.1);
    shares = shares;
    in_space = in_space (subst (OfStage HasRectangle) at (sound.in_space x here));
    no_more = told (λ (z : Stage). under_way stage ≤ under_way z) x at (subst (λ n. n ≤ 1) (sym one) (omega arith));
  }

-- the name of an operation
pub names-sound : (k : Kernel) (s : ℕ) (x : Session) (op : Op) (name : Name) (mode : Mode) (answer : Answer) (after : Kernel) → Bare k → session_at s k.sessions ≡ Some x → x.stage ≡ Started op → object_of op ≡ Some (name, mode)
    → Requests k x name mode Commit (Named op) (NameWait op) answer after → Bare after
names-sound k s x op name mode _ _ sound found at asked (IsGranted free) =
    let here = (found-among s k.sessions x found).0 in
    granted-sound k x name mode Commit (Named op) sound (started-fits k x sound here op name mode (Named op) at asked refl refl refl (shares-named op) (λ h. h)) free (own k x sound here (Started op) at) (refl, refl) holds
  where
    rows : List Row
    rows = with_row_on (row_of x.txn.session name mode Commit false) k.locks

    holds : HoldsObject rows x.txn.session op
    holds other another e =
        let o = object-one op name other mode another asked e in
        subst (λ (n : Name). is_held rows x.txn.session (record { name = n; mode = another; duration = Commit }) ≡ true) o.0
        (subst (λ (m : Mode). is_held rows x.txn.session (record { name = name; mode = m; duration = Commit }) ≡ true) o.1 (granted-held x.txn.session name mode k.locks))
names-sound k s x op name mode _ _ sound found at asked (HasToWait stuck open_end) =
    let here = (found-among s k.sessions x found).0 in
    waits-sound k x name mode Commit (NameWait op) sound (started-fits k x sound here op name mode (NameWait op) at asked refl refl refl (shares-name_wait op) (λ h. h)) stuck open_end (λ row m. m.1) refl awaits
  where
    left : List Row
    left = released ShortLocks x.txn.session k.locks

    rows : List Row
    rows = with_row_on (row_of x.txn.session name mode Commit true) left

    awaits : AwaitsObject rows x.txn.session op
    awaits other another e =
        let o = object-one op name other mode another asked e in
        inr
        (subst (λ (n : Name). Among (row_of x.txn.session n another Commit true) rows) o.0
        (subst (λ (m : Mode). Among (row_of x.txn.session name m Commit true) rows) o.1
        (in-among (row_of x.txn.session name mode Commit true) rows (waiting-stays (row_of x.txn.session name mode Commit true) left refl (row_of x.txn.session name mode Commit true) (inr refl)))))
names-sound k s x op name mode _ _ sound found at asked (ClosesCycle cycle stuck closes) =
    let here = (found-among s k.sessions x found).0 in
    deadlock_ended-sound k x cycle sound here (told (λ (z : Stage). is_active_stage z ≡ true) x at refl) (told (λ (z : Stage). is_queued z ≡ false) x at refl) (started-awake k x sound here op at)

-- the first of the needs that are left
pub asks-sound : (k : Kernel) (s : ℕ) (x : Session) (op : Op) (need : Need) (left : List Need) (answer : Answer) (after : Kernel) → Bare k → session_at s k.sessions ≡ Some x → x.stage ≡ Planned op (need ∷ left)
    → Requests k x need.name need.mode need.duration (Planned op left) (NeedWait op) answer after → Bare after
asks-sound k s x op need left _ _ sound found at (IsGranted free) =
    let here = (found-among s k.sessions x found).0 in
    let h : HoldsStage k x (Planned op (need ∷ left)) = subst (HoldsStage k x) at (sound.stages x here) in
    granted-sound k x need.name need.mode need.duration (Planned op left) sound
    (planned-fits k x sound here op need left (Planned op left) at h.1 refl refl refl (λ y i e. shares-left op (need ∷ left) left y.stage (subst (λ (z : Stage). SharesLatch z y.stage) at (sound.latch x y here i (λ f. e (sym f)))) (subst (λ (z : Stage). SharesLatch y.stage z) at (sound.latch y x i here e))) (λ h. h))
    free (own k x sound here (Planned op (need ∷ left)) at) refl (object-stays x.txn.session k.locks rows (met-held x.txn.session k.locks rows stay) op h.0, planned h.1)
  where
    rows : List Row
    rows = with_row_on (row_of x.txn.session need.name need.mode need.duration false) k.locks

    stay : StayMet x.txn.session k.locks rows
    stay = locked-stays x.txn.session (row_of x.txn.session need.name need.mode need.duration false) k.locks refl

    planned : IsPlanned k x op (need ∷ left) → IsPlanned (with_both (staged x.txn.session (Planned op left) k.sessions) rows k) (at_stage (Planned op left) x) op left
    planned p = record {
      commit = p.commit;
      short = p.short;
      needs = needs-still k (staged x.txn.session (Planned op left) k.sessions) rows x (Planned op left) op p.commit p.short p.needs;
      commit_met = λ other i. held other i (p.commit_met other i);
      short_met = λ other i c. met other (p.short_met other i c);
      only = λ other i. p.only other (inr i);
      in_order = p.in_order.1;
    }
      where
        held : (other : Need) → Among other p.commit → (is_held k.locks x.txn.session other ≡ true) ⊎ Among other (need ∷ left) → (is_held rows x.txn.session other ≡ true) ⊎ Among other left
        held other i (inl a) = inl (held-stays x.txn.session k.locks rows (met-held x.txn.session k.locks rows stay) other a)
        held other i (inr (inl e)) =
            let lasts : need.duration ≡ Commit = commit-lasts k x op p.commit p.short p.needs need (subst (λ (n : Need). Among n p.commit) e i) in
            inl
            (subst (λ (n : Need). is_held rows x.txn.session n ≡ true) (sym e)
            (subst (λ (d : Duration). is_held (with_row_on (row_of x.txn.session need.name need.mode d false) k.locks) x.txn.session need ≡ true) (sym lasts) (granted-held x.txn.session need.name need.mode k.locks)))
        held other i (inr (inr j)) = inr j

        met : (other : Need) → (is_met k.locks x.txn.session other ≡ true) ⊎ Among other (need ∷ left) → (is_met rows x.txn.session other ≡ true) ⊎ Among other left
        met other (inl a) = inl (met-stays x.txn.session k.locks rows stay other a)
        met other (inr (inl e)) = inl (subst (λ (n : Need). is_met rows x.txn.session n ≡ true) (sym e) (granted-met x.txn.session need need.duration k.locks))
        met other (inr (inr j)) = inr j
asks-sound k s x op need left _ _ sound found at (HasToWait stuck open_end) =
    let here = (found-among s k.sessions x found).0 in
    let h : HoldsStage k x (Planned op (need ∷ left)) = subst (HoldsStage k x) at (sound.stages x here) in
    waits-sound k x need.name need.mode need.duration (NeedWait op) sound (planned-fits k x sound here op need left (NeedWait op) at h.1 refl refl refl (λ y i e. shares-need_wait op y.stage) (λ h. h)) stuck open_end (λ row m w. m.1) (λ w. absurd (true≢false w))
    (object-stays x.txn.session k.locks rows (held-then x.txn.session k.locks gone rows (released-short x.txn.session k.locks) (waiting-met x.txn.session (row_of x.txn.session need.name need.mode need.duration true) gone refl)) op h.0)
  where
    gone : List Row
    gone = released ShortLocks x.txn.session k.locks

    rows : List Row
    rows = with_row_on (row_of x.txn.session need.name need.mode need.duration true) gone
asks-sound k s x op need left _ _ sound found at (ClosesCycle cycle stuck closes) =
    let here = (found-among s k.sessions x found).0 in
    deadlock_ended-sound k x cycle sound here (told (λ (z : Stage). is_active_stage z ≡ true) x at refl) (told (λ (z : Stage). is_queued z ≡ false) x at refl) (planned-awake k x sound here op (need ∷ left) at)
