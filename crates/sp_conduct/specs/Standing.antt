-- How a session stands, by what it was told.
use Rattle.std.specs.Prelude.{ℕ, nat_eq, List, fold, cond}
use Rattle.sp_rect.specs.declared.operation.Op.{Op}
use Rattle.sp_locks.specs.declared.mode.Mode.{Mode}
use Rattle.sp_locks.specs.declared.row.Name.{Name}
use Rattle.sp_event.specs.declared.answer.Answer.{Answer}
use Rattle.sp_event.specs.declared.answer.Answer.TheVariants.{Began, Reply, Committed, RolledBack, Waits, Deadlock, Full}
use Rattle.sp_text.specs.declared.types.Command.{Command}
use Rattle.sp_text.specs.declared.types.Command.TheVariants.{Do}
use Rattle.sp_text.specs.declared.types.Item.{Item}
use Rattle.sp_text.specs.declared.types.Item.TheVariants.{Told}

-- It has no transaction; or one that does nothing now; or one whose operation was told to wait for the mode on the name.
pub data Standing : Type 0 where
  Out : Standing
  Open : Standing
  Stalled : Op → Name → Mode → Standing

-- after the answer to a command
abbrev pub stands_after : Command → Answer → Standing → Standing
stands_after command (Began txn seen) was = Standing.Open
stands_after command (Committed place) was = Standing.Out
stands_after command RolledBack was = Standing.Out
stands_after command (Deadlock cycle) was = Standing.Out
stands_after (Do op) (Waits name mode sessions) was = Standing.Stalled op name mode
stands_after (Do op) (Reply reply) was = Standing.Open
stands_after (Do op) (Full kind) was = Standing.Open
stands_after command answer was = was

-- one session stands otherwise
abbrev pub standing_with : ℕ → Standing → (ℕ → Standing) → ℕ → Standing
standing_with s now at v = cond (nat_eq s v) now (at v)

-- how every session stands after an item
abbrev pub stands_noted : (ℕ → Standing) → Item → ℕ → Standing
stands_noted at (Told s command answer late) = standing_with s (stands_after command answer (at s)) at
stands_noted at item = at

-- how every session stands after these items, where none had a transaction before them
abbrev pub standing : List Item → ℕ → Standing
standing items = fold stands_noted (λ s. Standing.Out) items
