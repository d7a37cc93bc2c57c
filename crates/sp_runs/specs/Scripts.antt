-- Scripts in two languages: what the items of a run make of a kernel.
use Rattle.std.specs.Prelude.{ℕ, List}
use Rattle.sp_rect.specs.declared.commit.Commit.{Commit}
use Rattle.sp_text.specs.declared.form.Form.{Form}
use Rattle.sp_text.specs.declared.form.Form.TheVariants.{Play, Drill}
use Rattle.sp_text.specs.declared.types.Item.{Item}
use Rattle.sp_text.specs.declared.types.End.{End}
use Rattle.sp_model.specs.State.{Kernel}
use Rattle.sp_drill.specs.Drilling.{DrillsTo}
use Rattle.sp_drill.specs.Leading.{IsLeftBetween as IsLeftByEvents}
use Rattle.sp_drill.specs.Telling.{ToldBy as ToldByEvents}
use Rattle.sp_desk.specs.Course.{IsLeftBetween as IsLeftByCommands}
use Rattle.sp_desk.specs.Hearing.{script_sessions}
use Rattle.sp_desk.specs.Playing.{AreOver}
use Rattle.sp_desk.specs.Script.{PlaysTo}
use Rattle.sp_desk.specs.Telling.{ToldBy as ToldByCommands}
use Rattle.sp_runs.specs.declared.language.Language.{Language}
use Rattle.sp_runs.specs.declared.language.Language.TheVariants.{Commands, Events}

-- the form of the language's lines and answers
abbrev pub form_of : Language → Form
form_of Commands = Play
form_of Events = Drill

-- how the items lead from the kernel at the start of a run to the one at its end
abbrev pub RunsBy : Language → End → Kernel → List Item → Kernel → Type 0
RunsBy Commands end k items n = PlaysTo end k items n
RunsBy Events end k items n = DrillsTo end k items n

-- what was told of commits, and what the kernel has more than those of before
abbrev pub ToldIn : Language → End → List Commit → List Item → Kernel → Type 0
ToldIn Commands end before items n = ToldByCommands end before items n
ToldIn Events end before items n = ToldByEvents end before items n

-- behind the last command no session that a script can name has a transaction that could be rolled back
abbrev pub ClosesIn : Language → Kernel → Type 0
ClosesIn Commands n = AreOver n script_sessions
ClosesIn Events n = Unit {0}

-- what a stop on the way leaves of the file: some kernel's commits, or these and its whole batch in flight
abbrev pub IsLeftIn : Language → Kernel → Kernel → List ℕ → Type 0
IsLeftIn Commands k n file = IsLeftByCommands k n file
IsLeftIn Events k n file = IsLeftByEvents k n file
