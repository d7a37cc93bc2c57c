-- A run over a kernel, and what it hands back.
use Rattle.std.specs.Prelude.{◌≡◌, ◌⊎◌, List, [], ◌++◌}
use Rattle.sp_rect.specs.declared.commit.Commit.{Commit}
use Rattle.sp_text.specs.declared.types.Item.{Item}
use Rattle.sp_text.specs.declared.types.End.{End}
use Rattle.sp_text.specs.declared.types.End.TheVariants.{Input, WriteFault, Memory}
use Rattle.sp_text.specs.Transcripts.{committed}
use Rattle.sp_audit.specs.History.{History}
use Rattle.sp_model.specs.State.{Kernel}
use Rattle.sp_runs.specs.declared.language.Language.{Language}
use Rattle.sp_runs.specs.Scripts.{RunsBy, ToldIn, ClosesIn}

-- the audit is the kernel's
pub record IsAuditOf (k : Kernel) (audit : History) : Type 0 where
  pub base : audit.base ≡ k.base
  pub commits : audit.commits ≡ k.commits
  pub ended : audit.ended ≡ k.ended

-- A run ended where its script had ended, or behind that, as the audit's line was written.
abbrev pub IsCutShort : End → End → Type 0
IsCutShort before end = (end ≡ before) ⊎ ((before ≡ Input) × ((end ≡ WriteFault) ⊎ (end ≡ Memory)))

-- From one kernel the items lead to another; what was told of commits is what that one has more; at the end of the input no transaction of a script of commands is left open.
pub record Runs (language : Language) (k : Kernel) (end : End) (items : List Item) (n : Kernel) : Type 0 where
  pub answers : RunsBy language end k items n
  pub told : ToldIn language end k.commits items n
  pub closed : end ≡ Input → ClosesIn language n

-- The transactions that were told that they are committed are the first ones of the audit's; at the end of the input they are all of them.
pub record IsTold (end : End) (items : List Item) (audit : History) : Type 0 where
  pub first : (late : List Commit) × (audit.commits ≡ committed items ++ late)
  pub all : end ≡ Input → audit.commits ≡ committed items

-- nothing was heard, and the audit is empty
pub record IsNotRun (items : List Item) (audit : History) : Type 0 where
  pub silent : items ≡ []
  pub base : audit.base ≡ []
  pub commits : audit.commits ≡ []
  pub ended : audit.ended ≡ []
