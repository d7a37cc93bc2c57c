-- A planned operation with nothing left to ask holds what it needs.
use Rattle.std.proofs.Common.{◌≡◌, ◌⊎◌, ℕ, ◌+◌, ◌<◌, ◌≤◌, Bool, true, false, List, [], ◌∷◌, Some, nat_eq, nat_lt, refl, sym, ◌∙◌, subst, inl, inr, true≢false, arith}
use Rattle.std.proofs.lemmas.Bool.Decides.{nat_tests}
use Rattle.sp_list.specs.Emptiness.{is_empty}
use Rattle.sp_rect.specs.Plane.{Rectangle}
use Rattle.sp_rect.specs.declared.record.Record.{Record}
use Rattle.sp_rect.specs.Store.{Id, Area, part_of, within}
use Rattle.sp_rect.specs.declared.operation.Op.{Op}
use Rattle.sp_rect.specs.declared.operation.Op.TheVariants.{Put, Drop, Set, Get, Find, Fill, Clear}
use Rattle.sp_rect.specs.declared.operation.Reply.{Reply}
use Rattle.sp_locks.specs.declared.mode.Mode.{Mode}
use Rattle.sp_locks.specs.declared.mode.Mode.TheVariants.{S, X}
use Rattle.sp_locks.specs.declared.row.Name.{Name}
use Rattle.sp_locks.specs.declared.row.Name.TheVariants.{Object}
use Rattle.sp_locks.specs.declared.row.Row.{Row}
use Rattle.sp_locks.specs.declared.row.Duration.TheVariants.{Commit}
use Rattle.sp_locks.specs.declared.needs.Need.{Need}
use Rattle.sp_locks.specs.Rows.{is_short}
use Rattle.sp_node.specs.Among.{Among}
use Rattle.sp_granule.specs.Granules.{Granule, granules}
use Rattle.sp_protection.specs.Holding.{Lock, HoldsMode}
use Rattle.sp_protection.specs.Guarding.{Guarded}
use Rattle.sp_protection.specs.Effects.{entered}
use Rattle.sp_protection.specs.Needs.{StayWant, AreNeedsOf}
use Rattle.sp_protection.specs.Replays.{HoldsPart}
use Rattle.sp_protection.specs.Asking.{HoldsEach, HoldsNamed}
use Rattle.sp_protection.proofs.Wanted.{holds_weaker}
use Rattle.sp_model.specs.declared.session.Session.{Session}
use Rattle.sp_model.specs.declared.session.Stage.TheVariants.{Planned}
use Rattle.sp_model.specs.State.{Kernel, entries_in, with_change, locks_of}
use Rattle.sp_model.specs.Plans.{object_of, HasRectangle, adds, is_adding, HasNeeds, Stays, Adds, is_held}
use Rattle.sp_model.specs.Stepped.{records_in, most_records_told, kept_records, reply_of, PassesReplies}
use Rattle.sp_model.specs.Soundness.{HasOwner, RowsOwned, HoldsObject, IsPlanned, HoldsStage, OfStage}
use Rattle.sp_model.proofs.Bare.{Bare}
use Rattle.sp_model.proofs.Sessions.{number-same, number-differ, changed-among, others-among}
use Rattle.sp_model.proofs.Holding.{of_held, row-mode}
use Rattle.sp_model.proofs.Operating.{done_with}

-- the lock on its object is enough for the id that it looks at, and its guarded rectangle for its area
pub part_held : (gs : List Granule) (locks : List Lock) (t : ℕ) (op : Op) → ((name : Name) (mode : Mode) → object_of op ≡ Some (name, mode) → HoldsMode locks t name mode)
    → ((rect : Rectangle) → part_of op ≡ Area rect → Guarded gs locks t rect) → HoldsPart gs locks t (part_of op)
part_held gs locks t (Put r) object guarded = holds_weaker locks t (Object r.id) X S (object (Object r.id) X refl) refl
part_held gs locks t (Drop id) object guarded = holds_weaker locks t (Object id) X S (object (Object id) X refl) refl
part_held gs locks t (Set id value) object guarded = holds_weaker locks t (Object id) X S (object (Object id) X refl) refl
part_held gs locks t (Get id) object guarded = object (Object id) S refl
part_held gs locks t (Find rect) object guarded = guarded rect refl
part_held gs locks t (Fill rect value) object guarded = guarded rect refl
part_held gs locks t (Clear rect) object guarded = guarded rect refl

pub named_held : (locks : List Lock) (t : ℕ) (op : Op) → ((name : Name) (mode : Mode) → object_of op ≡ Some (name, mode) → HoldsMode locks t name mode) → HoldsNamed locks t op
named_held locks t (Put r) object id h = absurd h
named_held locks t (Drop i) object id h = subst (λ (n : ℕ). HoldsMode locks t (Object n) X) h (object (Object i) X refl)
named_held locks t (Set i value) object id h = subst (λ (n : ℕ). HoldsMode locks t (Object n) X) h (object (Object i) X refl)
named_held locks t (Get i) object id h = absurd h
named_held locks t (Find rect) object id h = absurd h
named_held locks t (Fill rect value) object id h = absurd h
named_held locks t (Clear rect) object id h = absurd h

-- the needs of an operation that adds no entry
pub stay_needs : (k : Kernel) (x : Session) (op : Op) (commit short : List Need) → is_adding k x op ≡ false → HasNeeds k x op commit short → AreNeedsOf (StayWant (granules k.tree) (entries_in k) x.txn.number op) Commit commit
stay_needs k x _ _ _ plain (Stays op commit none needs) = needs
stay_needs k x _ _ _ plain (Adds r after chosen commit short some inserts wanted wanted_short) = absurd (true≢false (sym some ∙ plain))

-- an operation that adds no entry has none to enter
pub nothing_enters : (t number : ℕ) (op : Op) (records : List Record) → adds op records ≡ false → entered t number op (within (part_of op) records) ≡ []
nothing_enters t number (Put r) records plain = go (within (Id r.id) records) plain
  where
    go : (found : List Record) → is_empty found ≡ false → entered t number (Put r) found ≡ []
    go [] e = absurd (true≢false e)
    go (y ∷ ys) e = refl
nothing_enters t number (Drop id) records plain = refl
nothing_enters t number (Set id value) records plain = refl
nothing_enters t number (Get id) records plain = refl
nothing_enters t number (Find rect) records plain = refl
nothing_enters t number (Fill rect value) records plain = refl
nothing_enters t number (Clear rect) records plain = refl

-- the replies that are kept stay within their limit
pub replies_fit : (k : Kernel) (x : Session) (op : Op) → (PassesReplies k x op → ⊥) → kept_records k ≤ most_records_told → kept_records k + records_in (reply_of k x op) ≤ most_records_told
replies_fit k x op few old = go (records_in (reply_of k x op)) few (nat_lt 0 (records_in (reply_of k x op))) (nat_lt most_records_told (kept_records k + records_in (reply_of k x op))) refl refl
  where
    go : (r : ℕ) → ((0 < r) × (most_records_told < kept_records k + r) → ⊥) → (a b : Bool) → nat_lt 0 r ≡ a → nat_lt most_records_told (kept_records k + r) ≡ b → kept_records k + r ≤ most_records_told
    go r few true true e f = absurd (few (grind (arith, nat_tests), grind (arith, nat_tests)))
    go r few false b e f = let z : r ≡ 0 = grind (arith, nat_tests) in subst (λ (n : ℕ). kept_records k + n ≤ most_records_told) (sym z) (omega (arith, old))
    go r few true false e f = grind (arith, nat_tests)

-- the owners of rows of which the session's are neither short nor waiting, once its operation is over
pub owned_done : (x : Session) (op : Op) (reply : Reply) (xs : List Session) (rows : List Row) → RowsOwned xs rows → ((row : Row) → Among row rows → row.session ≡ x.txn.session → (row.waiting ≡ false) × (is_short row ≡ false))
    → RowsOwned (with_change x.txn.session (done_with op reply) xs) rows
owned_done x op reply xs rows owned long row i = go (nat_eq o.owner.txn.session x.txn.session) refl
  where
    o : HasOwner xs row
    o = owned row i

    go : (b : Bool) → nat_eq o.owner.txn.session x.txn.session ≡ b → HasOwner (with_change x.txn.session (done_with op reply) xs) row
    go true k =
        let e = number-same o.owner.txn.session x.txn.session k in
        record { owner = done_with op reply o.owner; among = changed-among x.txn.session (done_with op reply) xs o.owner o.among e; is_owner = o.is_owner; may = long row i (sym o.is_owner ∙ e) }
    go false k = record { owner = o.owner; among = others-among x.txn.session (done_with op reply) xs o.owner o.among (number-differ o.owner.txn.session x.txn.session k); is_owner = o.is_owner; may = o.may }

module _ (k : Kernel) (x : Session) (op : Op) (sound : Bare k) (here : Among x k.sessions) (at : x.stage ≡ Planned op []) where
  pub ready : HoldsObject k.locks x.txn.session op × IsPlanned k x op []
  ready = subst (HoldsStage k x) at (sound.stages x here)

  pub ready_space : HasRectangle op
  ready_space = subst (OfStage HasRectangle) at (sound.in_space x here)

  pub ready_object : (name : Name) (mode : Mode) → object_of op ≡ Some (name, mode) → HoldsMode (locks_of k.sessions k.locks) x.txn.number name mode
  ready_object name mode e = row-mode k.sessions k.locks x name mode here (of_held k.locks x.txn.session (record { name = name; mode = mode; duration = Commit }) (ready.0 name mode e))

  pub ready_commit : HoldsEach (locks_of k.sessions k.locks) x.txn.number ready.1.commit
  ready_commit need i = row-mode k.sessions k.locks x need.name need.mode here (of_held k.locks x.txn.session need (held (ready.1.commit_met need i)))
    where
      held : (is_held k.locks x.txn.session need ≡ true) ⊎ Among need [] → is_held k.locks x.txn.session need ≡ true
      held (inl h) = h
      held (inr n) = absurd n
