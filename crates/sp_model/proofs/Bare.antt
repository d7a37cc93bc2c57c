-- What holds of a kernel between events, but for what its dead entries and its placed sessions say. Most laws need and keep this much alone.
use Rattle.std.proofs.Common.{◌≡◌, ◌<◌, true, length}
use Rattle.sp_rect.specs.Store.{IsOrdered}
use Rattle.sp_rect.specs.Serial.{Serial, after_all}
use Rattle.sp_rect.specs.declared.operation.Answered.{Answered}
use Rattle.sp_locks.specs.Soundness.{IsSound}
use Rattle.sp_waits.specs.Edges.{NoCycle}
use Rattle.sp_node.specs.declared.node.Entry.{Entry}
use Rattle.sp_node.specs.Among.{Among}
use Rattle.sp_node.specs.Look.{IsAscending}
use Rattle.sp_node.specs.Table.{IsValid}
use Rattle.sp_granule.specs.Granules.{granules}
use Rattle.sp_txn.specs.Visible.{live}
use Rattle.sp_protection.specs.Guarding.{MarksOwned}
use Rattle.sp_protection.specs.Replays.{Replays, HoldsParts, HasRectangles}
use Rattle.sp_model.specs.declared.session.Session.{Session}
use Rattle.sp_model.specs.State.{Kernel, entries_in, is_active, locks_of}
use Rattle.sp_model.specs.Plans.{HasRectangle}
use Rattle.sp_model.specs.Soundness.{SoundSessions, RowsOwned, NamesUsed, LatchShared, HoldsObject, HoldsStage, OfStage, MarksActive, NumbersUsed, DeadListed, QueueSound, WithinCounts, Sound}
use Rattle.sp_model.specs.Unmarked.{IsDeadUntouched}
use Rattle.sp_model.specs.Places.{HasPlaces}

pub record Bare (k : Kernel) : Type 0 where
  pub valid : IsValid k.tree
  pub ascending : IsAscending k.tree.nodes
  pub entry_numbers : (e : Entry) → Among e (entries_in k) → e.number < k.next_entry
  pub base : IsOrdered k.base
  pub serial : Serial k.base k.commits
  pub current : live (entries_in k) ≡ after_all k.base k.commits
  pub locks : IsSound k.locks
  pub acyclic : NoCycle k.locks
  pub rows : RowsOwned k.sessions k.locks
  pub names : NamesUsed k.tree.next k.locks
  pub sessions : SoundSessions k.next_txn (length k.commits) k.sessions
  pub latch : LatchShared k.sessions
  pub stages : (x : Session) → Among x k.sessions → HoldsStage k x x.stage
  pub in_space : (x : Session) → Among x k.sessions → OfStage HasRectangle x.stage
  pub rectangles : (x : Session) → Among x k.sessions → is_active x ≡ true → HasRectangles x.txn.ops
  pub parts : (x : Session) → Among x k.sessions → is_active x ≡ true → HoldsParts (granules k.tree) (locks_of k.sessions k.locks) x.txn.number x.txn.ops
  pub objects : (x : Session) (pair : Answered) → Among x k.sessions → is_active x ≡ true → Among pair x.txn.ops → HoldsObject k.locks x.txn.session pair.op
  pub owned : MarksOwned (granules k.tree) (locks_of k.sessions k.locks) (entries_in k)
  pub replays : (x : Session) → Among x k.sessions → is_active x ≡ true → Replays (entries_in k) x.txn.number x.txn.ops
  pub active : MarksActive k.sessions (entries_in k)
  pub numbers : NumbersUsed k.next_txn (entries_in k)
  pub dead : DeadListed k.dead (entries_in k)
  pub queued : QueueSound k.sessions k.queue k.flight k.calls
  pub counts : WithinCounts k

pub bare : (k : Kernel) → Sound k → Bare k
bare k sound = record {
  valid = sound.valid;
  ascending = sound.ascending;
  entry_numbers = sound.entry_numbers;
  base = sound.base;
  serial = sound.serial;
  current = sound.current;
  locks = sound.locks;
  acyclic = sound.acyclic;
  rows = sound.rows;
  names = sound.names;
  sessions = sound.sessions;
  latch = sound.latch;
  stages = sound.stages;
  in_space = sound.in_space;
  rectangles = sound.rectangles;
  parts = sound.parts;
  objects = sound.objects;
  owned = sound.owned;
  replays = sound.replays;
  active = sound.active;
  numbers = sound.numbers;
  dead = sound.dead;
  queued = sound.queued;
  counts = sound.counts;
}

pub whole : (k : Kernel) → Bare k → IsDeadUntouched k → HasPlaces k → Sound k
whole k sound untouched places = record {
  valid = sound.valid;
  ascending = sound.ascending;
  entry_numbers = sound.entry_numbers;
  base = sound.base;
  serial = sound.serial;
  current = sound.current;
  locks = sound.locks;
  acyclic = sound.acyclic;
  rows = sound.rows;
  names = sound.names;
  sessions = sound.sessions;
  latch = sound.latch;
  stages = sound.stages;
  in_space = sound.in_space;
  rectangles = sound.rectangles;
  parts = sound.parts;
  objects = sound.objects;
  owned = sound.owned;
  replays = sound.replays;
  active = sound.active;
  numbers = sound.numbers;
  dead = sound.dead;
  queued = sound.queued;
  counts = sound.counts;
  untouched = untouched;
  places = places;
}
