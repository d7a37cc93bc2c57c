-- What a whole run of a script of commands answers, by how it ended.
use Rattle.std.specs.Prelude.{List, []}
use Rattle.sp_text.specs.declared.types.Item.{Item}
use Rattle.sp_text.specs.declared.types.End.{End}
use Rattle.sp_text.specs.declared.types.End.TheVariants.{Input, Usage, ReadFault, WriteFault, DiskFault, Foreign, Damaged, Memory, Long}
use Rattle.sp_model.specs.State.{Kernel}
use Rattle.sp_desk.specs.declared.stalled.Stalled.{Stalled}
use Rattle.sp_desk.specs.Course.{Leads}
use Rattle.sp_desk.specs.Playing.{Turn, Plays}

-- from a kernel for which nobody waits these items lead to another, and to that turn
pub record PlaysUpTo (turn : Turn) (k : Kernel) (items : List Item) (n : Kernel) : Type 0 where
  pub waiting : List Stalled
  pub plays : Plays k [] Turn.Hearing items n waiting turn

-- the same, and then events may have been done of which no item tells
pub record PlaysPart (k : Kernel) (items : List Item) (n : Kernel) : Type 0 where
  pub turn : Turn
  pub reached : Kernel
  pub plays : PlaysUpTo turn k items reached
  pub behind : Leads reached n

-- How the items of a run lead from the kernel at its start to the one at its end: to the rollbacks where the input ended, to the next line where the source failed or gave too much, to any item where a write failed, and otherwise to the events of the item that didn't come.
abbrev pub PlaysTo : End → Kernel → List Item → Kernel → Type 0
PlaysTo Input k items n = PlaysUpTo Turn.Closing k items n
PlaysTo ReadFault k items n = PlaysUpTo Turn.Hearing k items n
PlaysTo Long k items n = PlaysUpTo Turn.Hearing k items n
PlaysTo WriteFault k items n = (turn : Turn) × PlaysUpTo turn k items n
PlaysTo DiskFault k items n = PlaysPart k items n
PlaysTo Memory k items n = PlaysPart k items n
PlaysTo Usage k items n = ⊥
PlaysTo Foreign k items n = ⊥
PlaysTo (Damaged offset) k items n = ⊥
