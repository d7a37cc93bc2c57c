-- A kernel whose disk failed is as sound as before.
use Rattle.std.proofs.Common.{ℕ, refl}
use Rattle.sp_model.specs.State.{Kernel}
use Rattle.sp_model.specs.Soundness.{Sound}
use Rattle.sp_model.proofs.Holding.{rows-stay}
use Rattle.sp_model.proofs.Planned.{stage_stays}
use Rattle.sp_kernel.specs.Answers.{stopped_at}

pub stopped-sound : (k : Kernel) (offset : ℕ) → Sound k → Sound (stopped_at offset k)
stopped-sound k offset sound = record {
  valid = sound.valid;
  ascending = sound.ascending;
  entry_numbers = sound.entry_numbers;
  base = sound.base;
  serial = sound.serial;
  current = sound.current;
  locks = sound.locks;
  acyclic = sound.acyclic;
  rows = sound.rows;
  names = sound.names;
  sessions = sound.sessions;
  latch = sound.latch;
  stages = λ x i. stage_stays k (stopped_at offset k) x x.stage refl refl (rows-stay x.txn.session k.locks k.locks (λ row j w. j)) (λ op h. h) (sound.stages x i);
  in_space = sound.in_space;
  rectangles = sound.rectangles;
  parts = sound.parts;
  objects = sound.objects;
  owned = sound.owned;
  replays = sound.replays;
  active = sound.active;
  numbers = sound.numbers;
  dead = sound.dead;
  queued = sound.queued;
  counts = record {
    transactions = sound.counts.transactions;
    endings = sound.counts.endings;
    operations = sound.counts.operations;
    history = sound.counts.history;
    replies = sound.counts.replies;
    entries = sound.counts.entries;
    node_numbers = sound.counts.node_numbers;
    entry_numbers = sound.counts.entry_numbers;
    txn_numbers = sound.counts.txn_numbers;
  };
  untouched = sound.untouched;
  places = sound.places;
}
