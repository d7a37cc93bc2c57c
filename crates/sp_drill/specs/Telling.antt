-- What a script of events was told of commits, and what the kernel keeps.
use Rattle.std.specs.Prelude.{◌≡◌, ◌⊎◌, List, ◌++◌}
use Rattle.sp_rect.specs.declared.commit.Commit.{Commit}
use Rattle.sp_event.specs.declared.event.Event.{Event}
use Rattle.sp_event.specs.declared.answer.Answer.{Answer}
use Rattle.sp_text.specs.Transcripts.{committed}
use Rattle.sp_text.specs.declared.types.Item.{Item}
use Rattle.sp_text.specs.declared.types.End.{End}
use Rattle.sp_text.specs.declared.types.End.TheVariants.{WriteFault, Memory}
use Rattle.sp_model.specs.State.{Kernel}
use Rattle.sp_kernel.specs.Answers.{Answers}

-- the kernel's commits are those of before, those that were told, and perhaps last ones that were not
abbrev pub TellsFirst : List Commit → List Item → Kernel → Type 0
TellsFirst before items n = (late : List Commit) × (n.commits ≡ before ++ (committed items ++ late))

-- The commits that the kernel has more than those of before were all told, in order. A failed write may have cut off the last ones, of one batch; and where memory ran out, the kernel may be one event further.
abbrev pub ToldBy : End → List Commit → List Item → Kernel → Type 0
ToldBy WriteFault before items n = TellsFirst before items n
ToldBy Memory before items n = (m : Kernel) × TellsFirst before items m × ((m ≡ n) ⊎ ((event : Event) × (answer : Answer) × Answers m event answer n))
ToldBy end before items n = n.commits ≡ before ++ committed items
