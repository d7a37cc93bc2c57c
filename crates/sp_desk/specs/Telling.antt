-- What a script of commands was told of commits, and what the kernel keeps.
use Rattle.std.specs.Prelude.{◌≡◌, List, ◌++◌}
use Rattle.sp_rect.specs.declared.commit.Commit.{Commit}
use Rattle.sp_text.specs.Transcripts.{committed}
use Rattle.sp_text.specs.declared.types.Item.{Item}
use Rattle.sp_text.specs.declared.types.End.{End}
use Rattle.sp_text.specs.declared.types.End.TheVariants.{DiskFault, Memory}
use Rattle.sp_model.specs.State.{Kernel}
use Rattle.sp_desk.specs.Course.{Leads}

-- the kernel's commits are those of before, and then those that were told, in order
abbrev pub TellsAll : List Commit → List Item → Kernel → Type 0
TellsAll before items n = n.commits ≡ before ++ committed items

-- The commits that the kernel has more than those of before were all told; where the disk failed or memory ran out, events may have been done behind those that were told.
abbrev pub ToldBy : End → List Commit → List Item → Kernel → Type 0
ToldBy DiskFault before items n = (m : Kernel) × TellsAll before items m × Leads m n
ToldBy Memory before items n = (m : Kernel) × TellsAll before items m × Leads m n
ToldBy end before items n = TellsAll before items n
