use Rattle.std.proofs.Common.{◌≡◌, [], None, Some, true, cond, nat_eq, sym, subst, ap, ◌∙◌}
use Rattle.std.specs.Map.{lookup}
use Rattle.sp_locks.specs.Rows.{is_blocked, waiting_in}
use Rattle.sp_locks.specs.Table.{rows_on, with_row_on}
use Rattle.sp_locks.specs.Soundness.{IsSound, AreWaits}
use Rattle.sp_locks.proofs.Keeping.{wait-sound, waits-more}
use Rattle.sp_locks.proofs.table.Table.wait.Goals as goal

pub invariant_of-self-2 : goal.invariant_of-self-2
invariant_of-self-2 c =
    let row = c.args.row in
    let old = c.self.inside.rows in
    let awake : waiting_in row.session old ≡ None = ap (waiting_in row.session) c.self.view_is ∙ c.requires.awake in
    let stuck : is_blocked (rows_on row.name old) [] row.session row.mode ≡ true = ap (λ rows. is_blocked (rows_on row.name rows) [] row.session row.mode) c.self.view_is ∙ c.requires.blocked in
    let sound : IsSound (with_row_on row old) = wait-sound row old c.requires.waiting awake stuck c.self.invariant.0 in
    let new = c.in_ok-add.ensures in (
      subst IsSound (sym new) sound,
      subst (AreWaits c.insert.new.self.entries) (sym new)
          (waits-more c.self.inside.waits.entries c.insert.new.self.entries row old c.requires.waiting c.self.invariant.0.once sound.once c.self.invariant.1 (λ s. c.in_ok-insert.ensures.updates.0 s ∙ ap (λ es. cond (nat_eq row.session s) (Some row.name) (lookup (nat_eq s) es)) c.in_ok-reserve.ensures.entries)),
    )
