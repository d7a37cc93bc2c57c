use Rattle.std.proofs.Common.{refl}
use Rattle.sp_txn.specs.Visible.{is_live, is_visible, record_of, record_for, live, view}
use Rattle.sp_protection.proofs.replays.ids_are_distinct.Goals as goal
use Rattle.sp_protection.proofs.Rearranging.{ordered_parts, parts_ordered, run_ordered, one_each}

pub returns-clause-parts : goal.returns-clause-parts
returns-clause-parts c = λ records. (ordered_parts records, λ h. parts_ordered records h.0 h.1)

pub returns-clause-run : goal.returns-clause-run
returns-clause-run c = run_ordered

pub returns-clause-live : goal.returns-clause-live
returns-clause-live c = λ es ordered. one_each is_live record_of es (λ e. refl) (ordered_parts (live es) ordered).1

pub returns-clause-view : goal.returns-clause-view
returns-clause-view c = λ t es ordered. one_each (is_visible t) (record_for t) es (λ e. refl) (ordered_parts (view es t) ordered).1
