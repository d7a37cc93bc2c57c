-- What the state of a kernel stands for, and its counters and rooms.
use Rattle.std.specs.Prelude.{◌≡◌, ℕ, ◌+◌, ◌≤◌, length, Option, Some, None}
use Rattle.std.specs.VecDeque.{deque_capacity}
use Rattle.sp_node.specs.Table.{entries_of}
use Rattle.sp_model.specs.State.{Kernel}
use Rattle.sp_model.specs.Refusals.{open_transactions, open_operations, kept_operations}
use Rattle.sp_model.specs.Stepped.{kept_records}
use Rattle.sp_event.specs.declared.answer.Answer.{Answer}
use Rattle.sp_event.specs.declared.answer.Answer.TheVariants.{Full, LatchBusy}
use Rattle.sp_event.specs.declared.answer.Kind.{Kind}
use Rattle.sp_state.specs.declared.state.State.{State}
use Rattle.sp_state.specs.Sketches.{IsSketchOf}

-- the kernel that the state stands for
abbrev pub kernel_of : State → Kernel
kernel_of s = record {
  tree = s.tree.table;
  next_entry = s.next_entry;
  next_txn = s.next_txn;
  locks = s.locks;
  sessions = s.seats.items;
  dead = s.dead.items;
  queue = s.queue.items;
  flight = s.flight.items;
  calls = s.calls;
  base = s.audit.base;
  commits = s.audit.commits;
  ended = s.audit.ended;
  stopped = s.stopped;
}

-- the counters are right, the audit has room for the end of each open transaction, the dead list for each entry, and the sketch is one of the tree
pub record Fits (s : State) : Type 0 where
  pub operations : s.operations ≡ kept_operations s.audit.commits + open_operations s.seats.items
  pub records : s.records ≡ kept_records (kernel_of s)
  pub endings : open_transactions s.seats.items ≤ s.audit.spare
  pub graves : length (entries_of s.tree.table) ≤ deque_capacity s.dead
  pub sketch : IsSketchOf s.tree.table s.sketch

-- the answer at a limit
abbrev pub kind_answer : Option Kind → Option Answer
kind_answer None = None
kind_answer (Some kind) = Some (Full kind)

-- the answer where a session holds the latch
abbrev pub holder_answer : Option ℕ → Option Answer
holder_answer None = None
holder_answer (Some holder) = Some (LatchBusy holder)
