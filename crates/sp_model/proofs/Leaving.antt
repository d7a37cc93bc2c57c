-- A transaction ends, by whatever way: what is left of the others.
use Rattle.std.proofs.Common.{◌≡◌, ◌≢◌, ◌⊎◌, ℕ, ◌<◌, ◌≤◌, true, false, List, map, length, refl, sym, ap, ◌∙◌, subst, inl, inr, true≢false}
use Rattle.sp_rect.specs.Store.{IsOrdered}
use Rattle.sp_rect.specs.Serial.{Serial, after_all}
use Rattle.sp_rect.specs.declared.operation.Op.{Op}
use Rattle.sp_locks.specs.declared.needs.Need.{Need}
use Rattle.sp_locks.specs.Soundness.{IsSound}
use Rattle.sp_waits.specs.Edges.{NoCycle}
use Rattle.sp_node.specs.declared.node.Entry.{Entry}
use Rattle.sp_node.specs.Among.{Among}
use Rattle.sp_node.specs.Change.{Keeps}
use Rattle.sp_node.specs.Look.{IsAscending}
use Rattle.sp_node.specs.Marks.{is_marked, is_made_by, is_ended_by, is_draft_of}
use Rattle.sp_node.specs.Table.{Table, IsValid}
use Rattle.sp_node.proofs.Changed.{valid_with, ascending_with}
use Rattle.sp_granule.specs.Granules.{Granule, Standing, standing, granules}
use Rattle.sp_txn.specs.Visible.{live}
use Rattle.sp_protection.specs.Guarding.{Owned}
use Rattle.sp_protection.specs.Replays.{Replays, HoldsParts}
use Rattle.sp_protection.proofs.Leaves.{from_map}
use Rattle.sp_model.specs.declared.session.Session.{Session}
use Rattle.sp_model.specs.declared.session.Stage.{Stage}
use Rattle.sp_model.specs.declared.session.Stage.TheVariants.{Idle, Started, NameWait, Named, NeedWait, Planned, Queued, Placed}
use Rattle.sp_model.specs.State.{Kernel, entries_in, is_active, is_active_stage, locks_of}
use Rattle.sp_model.specs.Plans.{HasRectangle}
use Rattle.sp_model.specs.Soundness.{SoundSessions, RowsOwned, NamesUsed, SharesLatch, LatchShared, AwaitsObject, HoldsStage, DeadListed, QueueSound, WithinCounts, OfStage}
use Rattle.sp_model.proofs.Bare.{Bare}
use Rattle.sp_model.proofs.Sessions.{one-session, one-keyed}
use Rattle.sp_model.proofs.Holding.{StayMet, met-held, object-stays, HoldsStill, locks-still, parts-still, owned-still}
use Rattle.sp_model.proofs.Planned.{standing_same, MarksChange, same_granules, changed_entries, LeavesSight, stage_with}

-- no mark of the transaction stands on the entry, dead or not
abbrev pub IsFree : ℕ → Entry → Type 0
IsFree t e = (is_made_by t e.marks.made ≡ false) × (is_ended_by t e.marks.ended ≡ false) × (is_draft_of t e.marks.draft ≡ false)

-- the session's transaction ends by this change of marks, and the other sessions go on with what they hold
pub record Ends (change : Entry → Entry) (x : Session) (k k' : Kernel) : Type 0 where
  pub here : Among x k.sessions
  pub marks : MarksChange change k k'
  pub keeps : Keeps change
  pub marked : (t : ℕ) (e : Entry) → Among e (entries_in k) → is_marked t (change e) ≡ true → (is_marked t e ≡ true) × (t ≢ x.txn.number)
  pub free : (t : ℕ) (e : Entry) → IsFree t e → IsFree t (change e)
  pub sight : (y : Session) (op : Op) (left : List Need) → Among y k.sessions → y.txn.session ≢ x.txn.session → y.stage ≡ Planned op left → LeavesSight change (entries_in k) y.txn.number op
  pub replays : (y : Session) → Among y k.sessions → y.txn.session ≢ x.txn.session → is_active y ≡ true → Replays (map change (entries_in k)) y.txn.number y.txn.ops
  pub base : k'.base ≡ k.base
  pub serial : Serial k'.base k'.commits
  pub current : live (map change (entries_in k)) ≡ after_all k'.base k'.commits
  pub locks : IsSound k'.locks
  pub acyclic : NoCycle k'.locks
  pub rows : RowsOwned k'.sessions k'.locks
  pub names : NamesUsed k.tree.next k'.locks
  pub held : (y : Session) → Among y k.sessions → y.txn.session ≢ x.txn.session → StayMet y.txn.session k.locks k'.locks
  pub awaits : (y : Session) (op : Op) → Among y k.sessions → y.txn.session ≢ x.txn.session → AwaitsObject k.locks y.txn.session op → AwaitsObject k'.locks y.txn.session op
  pub next_txn : k'.next_txn ≡ k.next_txn
  pub sessions : SoundSessions k'.next_txn (length k'.commits) k'.sessions
  pub stay : (y : Session) → Among y k.sessions → y.txn.session ≢ x.txn.session → Among y k'.sessions
  pub was : (y : Session) → Among y k'.sessions → (Among y k.sessions × (y.txn.session ≢ x.txn.session)) ⊎ (y.stage ≡ Placed)
  pub dead : DeadListed k'.dead (map change (entries_in k))
  pub queued : QueueSound k'.sessions k'.queue k'.flight k'.calls
  pub counts : WithinCounts k'

pub shares_placed : (stage : Stage) → SharesLatch stage Placed
shares_placed Idle = tt
shares_placed (Started op) = tt
shares_placed (NameWait op) = tt
shares_placed (Named op) = tt
shares_placed (NeedWait op) = tt
shares_placed (Planned op left) = tt
shares_placed Queued = tt
shares_placed Placed = tt

module _ (change : Entry → Entry) (x : Session) (k k' : Kernel) (sound : Bare k) (ends : Ends change x k k') where
  entries : entries_in k' ≡ map change (entries_in k)
  entries = changed_entries change k k' ends.keeps ends.marks

  gs : granules k'.tree ≡ granules k.tree
  gs = same_granules change k k' ends.keeps ends.marks

  of_entry : (e : Entry) → Among e (entries_in k') → (o : Entry) × Among o (entries_in k) × (change o ≡ e)
  of_entry e i = from_map change e (entries_in k) (subst (Among e) entries i)

  -- the session of another transaction is another one, and the other way round
  apart : (y : Session) → Among y k.sessions → y.txn.number ≢ x.txn.number → y.txn.session ≢ x.txn.session
  apart y i other same = other (ap (λ (z : Session). z.txn.number) (one_of y x i ends.here same))
    where
      one_of : (a b : Session) → Among a k.sessions → Among b k.sessions → a.txn.session ≡ b.txn.session → a ≡ b
      one_of a b i j e = one-session k.sessions sound.sessions.ascending a b i j e

  old : (y : Session) → Among y k'.sessions → is_active y ≡ true → Among y k.sessions × (y.txn.session ≢ x.txn.session)
  old y i active = go (ends.was y i)
    where
      go : (Among y k.sessions × (y.txn.session ≢ x.txn.session)) ⊎ (y.stage ≡ Placed) → Among y k.sessions × (y.txn.session ≢ x.txn.session)
      go (inl h) = h
      go (inr placed) = absurd (true≢false (sym active ∙ ap is_active_stage placed))

  -- a transaction other than this one holds what it held
  still : (t : ℕ) → t ≢ x.txn.number → HoldsStill (locks_of k.sessions k.locks) (locks_of k'.sessions k'.locks) t
  still t other = locks-still k.sessions k'.sessions k.locks k'.locks t
      (λ y i e. (y, ends.stay y i (far y i e), refl, e))
      (λ y i e. met-held y.txn.session k.locks k'.locks (ends.held y i (far y i e)))
    where
      far : (y : Session) → Among y k.sessions → y.txn.number ≡ t → y.txn.session ≢ x.txn.session
      far y i e = apart y i (λ s. other (sym e ∙ s))

  numbers_apart : (y : Session) → Among y k.sessions → y.txn.session ≢ x.txn.session → y.txn.number ≢ x.txn.number
  numbers_apart y i other same = other (ap (λ (z : Session). z.txn.session) (one-keyed (λ (z : Session). z.txn.number) k.sessions sound.sessions.numbers y x i ends.here same))

  latch : LatchShared k'.sessions
  latch a b i j other = go (ends.was a i) (ends.was b j)
    where
      go : (Among a k.sessions × (a.txn.session ≢ x.txn.session)) ⊎ (a.stage ≡ Placed) → (Among b k.sessions × (b.txn.session ≢ x.txn.session)) ⊎ (b.stage ≡ Placed) → SharesLatch a.stage b.stage
      go (inl h) (inl l) = sound.latch a b h.0 l.0 other
      go (inr h) l = subst (λ (s : Stage). SharesLatch s b.stage) (sym h) tt
      go (inl h) (inr l) = subst (λ (s : Stage). SharesLatch a.stage s) (sym l) (shares_placed a.stage)

  stages : (y : Session) → Among y k'.sessions → HoldsStage k' y y.stage
  stages y i = go (ends.was y i)
    where
      go : (Among y k.sessions × (y.txn.session ≢ x.txn.session)) ⊎ (y.stage ≡ Placed) → HoldsStage k' y y.stage
      go (inl h) = stage_with change k k' y y.stage ends.marks (λ op left e. ends.sight y op left h.0 h.1 e) (ends.held y h.0 h.1) (λ op. ends.awaits y op h.0 h.1) (sound.stages y h.0)
      go (inr h) = subst (λ (s : Stage). HoldsStage k' y s) (sym h) tt

  in_space : (y : Session) → Among y k'.sessions → OfStage HasRectangle y.stage
  in_space y i = go (ends.was y i)
    where
      go : (Among y k.sessions × (y.txn.session ≢ x.txn.session)) ⊎ (y.stage ≡ Placed) → OfStage HasRectangle y.stage
      go (inl h) = sound.in_space y h.0
      go (inr h) = subst (OfStage HasRectangle) (sym h) tt

  parts : (y : Session) → Among y k'.sessions → is_active y ≡ true → HoldsParts (granules k'.tree) (locks_of k'.sessions k'.locks) y.txn.number y.txn.ops
  parts y i active =
      let o = old y i active in
      subst (λ (hs : List Granule). HoldsParts hs (locks_of k'.sessions k'.locks) y.txn.number y.txn.ops) (sym gs)
      (parts-still (granules k.tree) (locks_of k.sessions k.locks) (locks_of k'.sessions k'.locks) y.txn.number y.txn.ops (still y.txn.number (numbers_apart y o.0 o.1)) (sound.parts y o.0 active))

  -- what is left of the kernel is sound
  pub ends_sound : Bare k'
  ends_sound = record {
    valid = subst IsValid (sym ends.marks.tree) (valid_with change ends.keeps k.tree sound.valid);
    ascending = subst (λ (t : Table). IsAscending t.nodes) (sym ends.marks.tree) (ascending_with change ends.keeps k.tree.nodes sound.ascending);
    entry_numbers = λ e i. let o = of_entry e i in
        subst (λ (n : ℕ). e.number < n) (sym ends.marks.next_entry) (subst (λ (n : ℕ). n < k.next_entry) (sym (ends.keeps.number o.0) ∙ ap (λ (z : Entry). z.number) o.2) (sound.entry_numbers o.0 o.1));
    base = subst IsOrdered (sym ends.base) sound.base;
    serial = ends.serial;
    current = ap live entries ∙ ends.current;
    locks = ends.locks;
    acyclic = ends.acyclic;
    rows = ends.rows;
    names = subst (λ (t : Table). NamesUsed t.next k'.locks) (sym ends.marks.tree) ends.names;
    sessions = ends.sessions;
    latch = latch;
    stages = stages;
    in_space = in_space;
    rectangles = λ y i active. sound.rectangles y (old y i active).0 active;
    parts = parts;
    objects = λ y pair i active j. let o = old y i active in
        object-stays y.txn.session k.locks k'.locks (met-held y.txn.session k.locks k'.locks (ends.held y o.0 o.1)) pair.op (sound.objects y pair o.0 active j);
    owned = λ t e i m.
        let o = of_entry e i in
        let n = ends.marked t o.0 o.1 (subst (λ (z : Entry). is_marked t z ≡ true) (sym o.2) m) in
        subst (λ (z : Standing). Owned (granules k'.tree) (locks_of k'.sessions k'.locks) t z) (sym (standing_same change ends.keeps o.0) ∙ ap standing o.2)
        (subst (λ (hs : List Granule). Owned hs (locks_of k'.sessions k'.locks) t (standing o.0)) (sym gs)
        (owned-still (granules k.tree) (locks_of k.sessions k.locks) (locks_of k'.sessions k'.locks) t (standing o.0) (still t n.1) (sound.owned t o.0 o.1 n.0)));
    replays = λ y i active. let o = old y i active in subst (λ (es : List Entry). Replays es y.txn.number y.txn.ops) (sym entries) (ends.replays y o.0 o.1 active);
    active = λ t e i m.
        let o = of_entry e i in
        let n = ends.marked t o.0 o.1 (subst (λ (z : Entry). is_marked t z ≡ true) (sym o.2) m) in
        let a = sound.active t o.0 o.1 n.0 in
        (a.0, ends.stay a.0 a.1 (apart a.0 a.1 (λ e. n.1 (sym a.3 ∙ e))), a.2, a.3);
    numbers = λ t e later i. let o = of_entry e i in
        subst (IsFree t) o.2 (ends.free t o.0 (sound.numbers t o.0 (subst (λ (n : ℕ). n ≤ t) ends.next_txn later) o.1));
    dead = subst (DeadListed k'.dead) (sym entries) ends.dead;
    queued = ends.queued;
    counts = ends.counts;
  }
