-- What a call of the disk tells of the batch, and what the kernel makes of it.
use Rattle.std.specs.Prelude.{◌≡◌, ◌≢◌, ◌+◌, ◌<◌, [], ◌++◌, cond}
use Rattle.sp_list.specs.Emptiness.{is_empty}
use Rattle.sp_journal.specs.declared.types.Call.{Call}
use Rattle.sp_journal.specs.declared.types.Call.TheVariants.{Nothing, Wrote, Durable, Fault, Memory}
use Rattle.sp_model.specs.State.{Kernel}
use Rattle.sp_model.specs.Moves.{taken_off, placed_all}
use Rattle.sp_kernel.specs.Answers.{stopped_at}

-- the answer of the call is one that a kernel with this batch may get
abbrev pub MayTell : Kernel → Call → Type 0
MayTell k Nothing = (k.flight ≡ []) × (k.queue ≡ [])
MayTell k Wrote = (k.flight ≡ [] → k.queue ≢ []) × (k.calls < 3)
MayTell k (Durable count) = (k.flight ≢ []) × (k.calls ≡ 3)
MayTell k (Fault offset) = k.flight ++ k.queue ≢ []
MayTell k Memory = Unit {0}

-- one more call was made
abbrev pub with_call : Kernel → Kernel
with_call k = record k { calls = k.calls + 1 }

-- what the call leaves
abbrev pub followed : Call → Kernel → Kernel
followed Nothing k = k
followed Wrote k = cond (is_empty k.flight) (taken_off k) (with_call k)
followed (Durable count) k = placed_all k
followed (Fault offset) k = stopped_at offset k
followed Memory k = k
