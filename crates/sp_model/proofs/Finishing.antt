-- The end of an operation keeps a kernel sound: the latch and the short locks go.
use Rattle.std.proofs.Common.{◌≡◌, ℕ, ◌≤◌, Bool, true, false, List, None, nat_eq, refl, sym, subst, arith}
use Rattle.sp_rect.specs.declared.operation.Op.{Op}
use Rattle.sp_locks.specs.declared.needs.Need.{Need}
use Rattle.sp_locks.specs.declared.row.Row.{Row}
use Rattle.sp_locks.specs.declared.row.Scope.TheVariants.{ShortLocks}
use Rattle.sp_locks.specs.Rows.{waiting_in}
use Rattle.sp_locks.specs.Table.{released}
use Rattle.sp_node.specs.Among.{Among}
use Rattle.sp_model.specs.declared.session.Session.{Session}
use Rattle.sp_model.specs.declared.session.Stage.{Stage}
use Rattle.sp_model.specs.declared.session.Stage.TheVariants.{Idle, Started, NameWait, Named, NeedWait, Planned, Queued, Placed}
use Rattle.sp_model.specs.State.{Kernel, is_active, is_active_stage}
use Rattle.sp_model.specs.Moves.{finished}
use Rattle.sp_model.specs.Soundness.{MayHave, SharesLatch, is_queued}
use Rattle.sp_model.proofs.Bare.{Bare}
use Rattle.sp_locks.proofs.Keeping.{release-sound}
use Rattle.sp_waits.proofs.Acyclic.{release_short-acyclic}
use Rattle.sp_model.specs.Refusals.{under_way}
use Rattle.sp_model.proofs.Sessions.{number-same, number-differ}
use Rattle.sp_model.proofs.Holding.{StayHeld, met-held, released-others, released-short}
use Rattle.sp_model.proofs.Released.{released-owned, released-names, released-awaits_object}
use Rattle.sp_model.proofs.Limits.{counts-no_more}
use Rattle.sp_model.proofs.Awake.{may-have, awake, released-long, owned-staged}
use Rattle.sp_model.proofs.Restaging.{restaged-sound}
use Rattle.sp_model.proofs.Staging.{told}

-- an idle session shares the latch with all
pub shares-idle : (stage : Stage) → SharesLatch Idle stage × SharesLatch stage Idle
shares-idle Idle = (tt, tt)
shares-idle (Started o) = (tt, tt)
shares-idle (NameWait o) = (tt, tt)
shares-idle (Named o) = (tt, tt)
shares-idle (NeedWait o) = (tt, tt)
shares-idle (Planned o left) = (tt, tt)
shares-idle Queued = (tt, tt)
shares-idle Placed = (tt, tt)

-- a planned session waits for nothing
pub planned-awake : (k : Kernel) (x : Session) (op : Op) (left : List Need) → Bare k → Among x k.sessions → x.stage ≡ Planned op left → waiting_in x.txn.session k.locks ≡ None
planned-awake k x op left sound here at = awake x.txn.session k.locks (λ row i e. subst (λ (stage : Stage). MayHave stage row) at (may-have k.sessions k.locks sound.sessions.ascending sound.rows x here row i e))

pub finished-sound : (k : Kernel) (x : Session) (op : Op) (left : List Need) → Bare k → Among x k.sessions → x.stage ≡ Planned op left → Bare (finished x k)
finished-sound k x op left sound here at = restaged-sound k x Idle rows sound (record {
  here = here;
  active = active;
  active' = refl;
  unqueued = told (λ (stage : Stage). is_queued stage ≡ false) x at refl;
  unqueued' = refl;
  locks = release-sound ShortLocks s k.locks sound.locks;
  acyclic = release_short-acyclic k.locks s sound.locks quiet sound.acyclic;
  owned = owned-staged x Idle k.sessions rows (released-owned ShortLocks s k.sessions k.locks sound.rows) (λ row i e. released-long s k.locks quiet row i e);
  names = released-names ShortLocks s k.tree.next k.locks sound.names;
  held = λ t. held t (nat_eq t s) refl;
  met = λ y i e. released-others ShortLocks s y.txn.session k.locks e;
  awaits = λ y o i e h. released-awaits_object ShortLocks s y.txn.session k.locks o e h;
  shares = λ y i e. shares-idle y.stage;
  in_space = tt;
  at = tt;
  counts = counts-no_more k x Idle rows sound.sessions.ascending sound.counts here active refl (least (under_way x.stage));
})
  where
    s : ℕ
    s = x.txn.session

    rows : List Row
    rows = released ShortLocks s k.locks

    active : is_active x ≡ true
    active = told (λ (stage : Stage). is_active_stage stage ≡ true) x at refl

    quiet : waiting_in s k.locks ≡ None
    quiet = planned-awake k x op left sound here at

    least : (n : ℕ) → 0 ≤ n
    least n = omega arith

    held : (t : ℕ) (b : Bool) → nat_eq t s ≡ b → StayHeld t k.locks rows
    held t true e = subst (λ (n : ℕ). StayHeld n k.locks rows) (sym (number-same t s e)) (released-short s k.locks)
    held t false e = met-held t k.locks rows (released-others ShortLocks s t k.locks (number-differ t s e))
