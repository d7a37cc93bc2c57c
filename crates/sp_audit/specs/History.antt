-- What an audit has kept.
use Rattle.std.specs.Prelude.{ℕ, List}
use Rattle.sp_rect.specs.declared.record.Record.{Record}
use Rattle.sp_rect.specs.declared.commit.Commit.{Commit}
use Rattle.sp_audit.specs.declared.ended.Ended.{Ended}

-- the records at opening, what was added since, and how much can be added without memory
pub record History : Type 0 where
  pub base : List Record
  pub commits : List Commit
  pub ended : List Ended
  pub spare : ℕ
