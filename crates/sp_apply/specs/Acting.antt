-- The operation that is applied, and what it does.
use Rattle.std.specs.Prelude.{◌≡◌, ℕ, true, [], Some, slice_get}
use Rattle.sp_rect.specs.declared.operation.Op.{Op}
use Rattle.sp_rect.specs.declared.operation.Op.TheVariants.{Put}
use Rattle.sp_rect.specs.declared.record.Record.{Record}
use Rattle.sp_node.specs.declared.plan.Plan.{Plan}
use Rattle.sp_node.specs.Plan.{IsMadeOf, planned}
use Rattle.sp_protection.specs.Effects.{fresh}
use Rattle.sp_ops.specs.declared.effects.Effect.{Effect}
use Rattle.sp_ops.specs.Effect.{AreMarked}
use Rattle.sp_model.specs.declared.session.Session.{Session}
use Rattle.sp_model.specs.declared.session.Stage.TheVariants.{Planned}
use Rattle.sp_model.specs.State.{Kernel, entries_in, session_at}
use Rattle.sp_model.specs.Plans.{is_adding, IsInserted}
use Rattle.sp_model.specs.Stepped.{reply_of, PassesEntries, PassesNumbers}

-- the session stands at that place, with this operation planned and nothing left to ask
pub record IsReady (k : Kernel) (s at : ℕ) (x : Session) (op : Op) : Type 0 where
  pub found : session_at s k.sessions ≡ Some x
  pub stands : slice_get k.sessions at ≡ Some x
  pub planned : x.stage ≡ Planned op []

-- the reply of the operation, and the marks that it makes
pub record IsEffect (k : Kernel) (x : Session) (op : Op) (effect : Effect) : Type 0 where
  pub reply : effect.reply ≡ reply_of k x op
  pub marks : AreMarked (entries_in k) x.txn.number op effect.marks

-- the put adds an entry, by this plan, and passes no limit
pub record IsGoing (k : Kernel) (x : Session) (r : Record) (plan : Plan) : Type 0 where
  pub adding : is_adding k x (Put r) ≡ true
  pub entries : PassesEntries k → ⊥
  pub made : IsMadeOf k.tree plan
  pub inserted : IsInserted k.tree (fresh x.txn.number k.next_entry r) (planned k.tree plan)
  pub numbers : PassesNumbers k (planned k.tree plan) → ⊥
