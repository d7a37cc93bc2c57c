use Rattle.std.proofs.Common.{◌∙◌, ap, sym, refl, subst, ℕ}
use Rattle.sp_locks.specs.declared.row.Scope.TheVariants.{AllRows}
use Rattle.sp_locks.specs.Table.{released}
use Rattle.sp_node.specs.Change.{table_with}
use Rattle.sp_node.specs.Marks.{undone}
use Rattle.sp_node.specs.Table.{entries_of}
use Rattle.sp_model.specs.declared.session.Session.{Session}
use Rattle.sp_model.specs.Moves.{rolled_back}
use Rattle.sp_state.specs.Held.{kernel_of}
use Rattle.sp_ending.specs.declared.marks.Ending.TheVariants.{Rollback}
use Rattle.sp_ending.specs.Ends.{ended, AreClean}
use Rattle.sp_ending.proofs.Departures.{got-among, one-got, clean-for, tail-begins, tail-whole, rolled-is, few-operations, few-records, fits-without}
use Rattle.sp_ending.proofs.undoing.roll_back.Goals as goal

pub end_marks-requires-clause-clean : goal.end_marks-requires-clause-clean
end_marks-requires-clause-clean c =
    let s = c.args.state.now in
    let x = c.dismiss-seat.result in
    let one = c.dismiss-seat.ensures.one in
    subst (λ (n : ℕ). AreClean Rollback n (entries_of s.tree.table)) (sym c.number.ensures)
    (clean-for Rollback (kernel_of s) x c.requires.may.untouched (got-among s.seats.items c.args.at x one) (c.requires.active x one))

pub end_marks-requires-clause-tail : goal.end_marks-requires-clause-tail
end_marks-requires-clause-tail c =
    let s = c.args.state.now in
    (entries_of s.tree.table, tail-begins s.dead.items c.len-from.result (entries_of s.tree.table) (c.len-from.ensures ∙ s.dead.ok.0) c.requires.may.listed)

pub lower-requires-clause-operations : goal.lower-requires-clause-operations
lower-requires-clause-operations c =
    let s = c.args.state.now in
    let x = c.dismiss-seat.result in
    let one = c.dismiss-seat.ensures.one in
    few-operations s x c.requires.fits c.requires.may.ascending (got-among s.seats.items c.args.at x one) (c.requires.active x one)

pub lower-requires-clause-records : goal.lower-requires-clause-records
lower-requires-clause-records c =
    let s = c.args.state.now in
    let x = c.dismiss-seat.result in
    let one = c.dismiss-seat.ensures.one in
    few-records s x c.requires.fits c.requires.may.ascending (got-among s.seats.items c.args.at x one) (c.requires.active x one)

pub returns-clause-done : goal.returns-clause-done
unfolding ended
returns-clause-done c = λ x got.
    let s = c.args.state.now in
    let seat = c.dismiss-seat.result in
    let e = c.len-from.ensures ∙ s.dead.ok.0 in
    rolled-is (kernel_of s) seat _ _ _ _
    (c.end_marks.ensures.table ∙ ap (λ (n : ℕ). table_with (undone n) s.tree.table) c.number.ensures)
    (tail-whole s.dead.items c.end_marks.new.dead.items c.len-from.result (entries_of s.tree.table) (entries_of c.end_marks.new.tree.table) e c.end_marks.ensures.front
    (c.end_marks.ensures.tail (entries_of s.tree.table) (tail-begins s.dead.items c.len-from.result (entries_of s.tree.table) e c.requires.may.listed)))
    (c.release_all.ensures.rows ∙ ap (λ (n : ℕ). released AllRows n s.locks) c.session.ensures)
    c.dismiss-seat.ensures.others
    ∙ ap (λ (y : Session). rolled_back y (kernel_of s)) (one-got s.seats.items c.args.at seat x c.dismiss-seat.ensures.one got)

pub returns-clause-fits : goal.returns-clause-fits
returns-clause-fits c =
    let s = c.args.state.now in
    let x = c.dismiss-seat.result in
    let one = c.dismiss-seat.ensures.one in
    fits-without s x c.requires.fits c.requires.may.ascending (got-among s.seats.items c.args.at x one) (c.requires.active x one) _
    c.dismiss-seat.ensures.others refl c.lower.ensures.operations c.lower.ensures.records c.end_marks.ensures.room tt
