-- A removal that nobody opposes keeps what everybody guards and owns.
use Rattle.std.proofs.Common.{◌≢◌, ℕ, List, None}
use Rattle.sp_rect.specs.Plane.{Rectangle}
use Rattle.sp_locks.specs.declared.row.Duration.TheVariants.{Short}
use Rattle.sp_locks.specs.declared.needs.Need.{Need}
use Rattle.sp_node.specs.declared.node.Entry.{Entry}
use Rattle.sp_node.specs.declared.plan.Plan.{Plan}
use Rattle.sp_node.specs.Plan.{planned, IsMadeOf}
use Rattle.sp_node.specs.Table.{Table}
use Rattle.sp_granule.specs.Granules.{Standing, standing, granules}
use Rattle.sp_protection.specs.Holding.{Lock, UnopposedByAll}
use Rattle.sp_protection.specs.Guarding.{Guarded, Owned, MarksOwned}
use Rattle.sp_protection.specs.Needs.{ShortWant, AreNeedsOf}
use Rattle.sp_protection.specs.Asking.{granule_needs}
use Rattle.sp_protection.specs.Removal.{KeepsOthers, AreLeftOf}
use Rattle.sp_protection.proofs.Reshapes.{removal_keeps_guarded, removal_keeps_owned}
use Rattle.sp_protection.proofs.Rules.{removal_licensed}
use Rattle.sp_protection.proofs.Places.{plan_keeps_standings}

pub removal_guarded : (t : Table) (plan : Plan) (locks : List Lock) (short : List Need) (txn : ℕ) (rect : Rectangle) → AreNeedsOf (ShortWant (granules t) (granules (planned t plan)) None) Short short → UnopposedByAll locks (granule_needs short)
    → Guarded (granules t) locks txn rect → Guarded (granules (planned t plan)) locks txn rect
removal_guarded t plan locks short txn rect are free = removal_keeps_guarded (granules t) (granules (planned t plan)) locks txn (granule_needs short) rect (removal_licensed (granules t) (granules (planned t plan)) short are) free

pub removal_owned : (t : Table) (plan : Plan) (locks : List Lock) (short : List Need) (number txn : ℕ) (x : Standing) → AreNeedsOf (ShortWant (granules t) (granules (planned t plan)) None) Short short → UnopposedByAll locks (granule_needs short)
    → IsMadeOf t plan → KeepsOthers (granules t) (granules (planned t plan)) number → x.number ≢ number → Owned (granules t) locks txn x → Owned (granules (planned t plan)) locks txn x
removal_owned t plan locks short number txn x are free made keeps other owned =
    removal_keeps_owned (granules t) (granules (planned t plan)) locks txn (granule_needs short) x (removal_licensed (granules t) (granules (planned t plan)) short are) (plan_keeps_standings t plan made) free owned
    (keeps owned.leaf x owned.among owned.entry other)

pub removal_keeps_marks : (t : Table) (plan : Plan) (locks : List Lock) (short : List Need) (number : ℕ) (es left : List Entry) → AreNeedsOf (ShortWant (granules t) (granules (planned t plan)) None) Short short → UnopposedByAll locks (granule_needs short)
    → IsMadeOf t plan → KeepsOthers (granules t) (granules (planned t plan)) number → AreLeftOf es number left → MarksOwned (granules t) locks es → MarksOwned (granules (planned t plan)) locks left
removal_keeps_marks t plan locks short number es left are free made keeps from owned txn e i marks =
    let was = from txn e i marks in
    removal_owned t plan locks short number txn (standing e) are free made keeps was.1 (owned txn e was.0 marks)
