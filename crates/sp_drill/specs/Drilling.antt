-- What the items of a script of events make of a kernel.
use Rattle.std.specs.Prelude.{◌≢◌, ℕ, false, true, List, [], ◌∷◌, ◌++◌, Option}
use Rattle.sp_event.specs.declared.event.Event.{Event}
use Rattle.sp_event.specs.declared.event.Event.TheVariants.{Commit, Flush}
use Rattle.sp_event.specs.declared.answer.Answer.{Answer}
use Rattle.sp_event.specs.declared.answer.Answer.TheVariants.{Durable, DiskFault, Memory}
use Rattle.sp_text.specs.declared.types.Bad.{Bad as Reason}
use Rattle.sp_text.specs.declared.types.Item.{Item}
use Rattle.sp_text.specs.declared.types.Item.TheVariants.{Bad, Stepped}
use Rattle.sp_text.specs.declared.types.End.{End}
use Rattle.sp_text.specs.declared.types.End.TheVariants.{Input, Usage, ReadFault, WriteFault, DiskFault as DiskEnds, Foreign, Damaged, Memory as OutOfMemory, Long}
use Rattle.sp_model.specs.State.{Kernel}
use Rattle.sp_kernel.specs.Answers.{Answers}

-- What comes next: the commits of these sessions are told their places, and then the next line is heard; or nothing, since the disk failed.
pub data Next : Type 0 where
  Tells : List ℕ → Next
  Ends : Next

-- whose commits an answer leaves to be told their places: those of the batch in flight, where it is on the disk
abbrev pub owed : Kernel → Answer → List ℕ
owed k (Durable first count) = k.flight
owed k answer = []

-- the run goes on after the answer
abbrev pub GoesOn : Answer → Type 0
GoesOn answer = (answer ≢ DiskFault) × (answer ≢ Memory)

-- These items, one after the other, lead from one kernel to another, and from what came next there to what comes next here.
pub data Drilled (k : Kernel) (first : Next) : List Item → Kernel → Next → Type 0 where
  IsStart : Drilled k first [] k first
  HearsBad : {items : List Item} {m : Kernel} (session : Option ℕ) (bad : Reason) → Drilled k first items m (Next.Tells [])
      → Drilled k first (items ++ Bad session bad ∷ []) m (Next.Tells [])
  HearsEvent : {items : List Item} {m : Kernel} (event : Event) (answer : Answer) (n : Kernel) → Drilled k first items m (Next.Tells []) → GoesOn answer → Answers m event answer n
      → Drilled k first (items ++ Stepped event answer false ∷ []) n (Next.Tells (owed m answer))
  TellsPlace : {items : List Item} {m : Kernel} (s : ℕ) (rest : List ℕ) (answer : Answer) (n : Kernel) → Drilled k first items m (Next.Tells (s ∷ rest)) → GoesOn answer → Answers m (Commit s) answer n
      → Drilled k first (items ++ Stepped (Commit s) answer true ∷ []) n (Next.Tells rest)
  FlushFails : {items : List Item} {m : Kernel} (n : Kernel) → Drilled k first items m (Next.Tells []) → Answers m Flush DiskFault n
      → Drilled k first (items ++ Stepped Flush DiskFault false ∷ []) n Next.Ends

-- Where memory ran out, the kernel is the one that the items lead to, or one event further, whose item is missing: that of a line, or the next commit that is to be told its place.
pub data Lacks (m : Kernel) : List ℕ → Kernel → Type 0 where
  IsThere : {left : List ℕ} → Lacks m left m
  HasDone : (event : Event) (answer : Answer) (n : Kernel) → Answers m event answer n → Lacks m [] n
  HasTold : (s : ℕ) (rest : List ℕ) (answer : Answer) (n : Kernel) → Answers m (Commit s) answer n → Lacks m (s ∷ rest) n

-- How a run that began so has led from one kernel to another, by its end: where the input ended no place is left to tell, and where the disk failed the flush that it failed is the last item.
abbrev pub LeadsBy : End → Kernel → Next → List Item → Kernel → Type 0
LeadsBy Input k first items n = Drilled k first items n (Next.Tells [])
LeadsBy ReadFault k first items n = Drilled k first items n (Next.Tells [])
LeadsBy Long k first items n = Drilled k first items n (Next.Tells [])
LeadsBy WriteFault k first items n = (next : Next) × Drilled k first items n next
LeadsBy DiskEnds k first items n = Drilled k first items n Next.Ends
LeadsBy OutOfMemory k first items n = (m : Kernel) × (left : List ℕ) × Drilled k first items m (Next.Tells left) × Lacks m left n
LeadsBy Usage k first items n = ⊥
LeadsBy Foreign k first items n = ⊥
LeadsBy (Damaged offset) k first items n = ⊥

-- how the items of a run lead from the kernel at its start to the one at its end
abbrev pub DrillsTo : End → Kernel → List Item → Kernel → Type 0
DrillsTo end k items n = LeadsBy end k (Next.Tells []) items n
