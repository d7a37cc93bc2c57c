-- What a begin, a start and the questions for locks do keeps a kernel sound.
use Rattle.std.proofs.Common.{◌≡◌, ℕ, None}
use Rattle.sp_rect.specs.declared.operation.Op.{Op}
use Rattle.sp_node.specs.Table.{Table}
use Rattle.sp_event.specs.declared.event.Event.TheVariants.{Begin, Start, Name, Plan, Ask}
use Rattle.sp_event.specs.declared.answer.Answer.{Answer}
use Rattle.sp_model.specs.State.{Kernel}
use Rattle.sp_model.specs.Refusals.{turned_away}
use Rattle.sp_model.specs.Stepped.{Does, Begins, Starts, NamesNothing, Names, HasWaited, Plans, Asks}
use Rattle.sp_model.proofs.Bare.{Bare}
use Rattle.sp_model.proofs.Beginning.{begin-sound}
use Rattle.sp_model.proofs.Staging.{start-sound, names_nothing-sound, has_waited-sound, plan-sound}
use Rattle.sp_model.proofs.Asking.{names-sound, asks-sound}

pub begin_keeps : (IsRemoved : Table → ℕ → Table → Type 0) (k : Kernel) (s : ℕ) (answer : Answer) (after : Kernel) → Bare k → turned_away k (Begin s) ≡ None → Does IsRemoved k (Begin s) answer after → Bare after
begin_keeps IsRemoved k s _ _ sound free (Begins _) = begin-sound k s sound free

pub start_keeps : (IsRemoved : Table → ℕ → Table → Type 0) (k : Kernel) (s : ℕ) (op : Op) (answer : Answer) (after : Kernel) → Bare k → turned_away k (Start s op) ≡ None → Does IsRemoved k (Start s op) answer after → Bare after
start_keeps IsRemoved k s op _ _ sound free (Starts _ x _ found in_space) = start-sound k s x op sound free found in_space

pub name_keeps : (IsRemoved : Table → ℕ → Table → Type 0) (k : Kernel) (s : ℕ) (answer : Answer) (after : Kernel) → Bare k → turned_away k (Name s) ≡ None → Does IsRemoved k (Name s) answer after → Bare after
name_keeps IsRemoved k s _ _ sound free (NamesNothing _ x op found at none) = names_nothing-sound k s x op sound found at none
name_keeps IsRemoved k s answer after sound free (Names _ x op name mode _ _ found at asked asks) = names-sound k s x op name mode answer after sound found at asked asks
name_keeps IsRemoved k s _ _ sound free (HasWaited _ x op found at) = has_waited-sound k s x op sound free found at

pub plan_keeps : (IsRemoved : Table → ℕ → Table → Type 0) (k : Kernel) (s : ℕ) (answer : Answer) (after : Kernel) → Bare k → turned_away k (Plan s) ≡ None → Does IsRemoved k (Plan s) answer after → Bare after
plan_keeps IsRemoved k s _ _ sound free (Plans _ x op commit short found at needs) = plan-sound k s x op commit short sound free found at needs

pub ask_keeps : (IsRemoved : Table → ℕ → Table → Type 0) (k : Kernel) (s : ℕ) (answer : Answer) (after : Kernel) → Bare k → Does IsRemoved k (Ask s) answer after → Bare after
ask_keeps IsRemoved k s answer after sound (Asks _ x op need left _ _ found at asks) = asks-sound k s x op need left answer after sound found at asks
