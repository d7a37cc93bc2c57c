use Rattle.std.proofs.Common.{◌≡◌, ℕ, List, None, Bool, false, not, sym, subst, ap, ◌∙◌, rules}
use Rattle.sp_list.specs.Emptiness.{is_empty}
use Rattle.sp_locks.specs.declared.mode.Mode.{Mode}
use Rattle.sp_locks.specs.declared.row.Name.{Name}
use Rattle.sp_locks.specs.declared.row.Duration.{Duration}
use Rattle.sp_locks.specs.declared.row.Row.{Row}
use Rattle.sp_locks.specs.Rows.{waiting_in}
use Rattle.sp_locks.specs.Table.{rows_on, blockers, with_row_on, row_of}
use Rattle.sp_locks.specs.Soundness.{IsSound, AreWaits}
use Rattle.sp_locks.proofs.Blocking.{blocked-is}
use Rattle.sp_locks.proofs.Keeping.{grant-kept, wait-sound}
use Rattle.sp_locks.proofs.table.Table.ask.Goals as goal

pub wait-requires-clause-blocked : goal.wait-requires-clause-blocked
wait-requires-clause-blocked c =
    blocked-is c.args.session c.args.mode (rows_on c.args.name c.args.self.now) ∙ ap (λ xs. not (is_empty xs)) (sym c.in_ok-blockers.ensures) ∙ ap not (sym c.is_empty.ensures) ∙ c.if-row.true

granted : (session : ℕ) (name : Name) (mode : Mode) (duration : Duration) (held : Bool) (now old new : List Row) (es : List (ℕ × Name)) → old ≡ now → waiting_in session now ≡ None → not held ≡ false → held ≡ is_empty (blockers session name mode now)
    → IsSound old → AreWaits es old → new ≡ with_row_on (row_of session name mode duration (not held)) old → IsSound new × AreWaits es new
granted session name mode duration held now old new es view awake free tells sound are is =
    grant-kept (row_of session name mode duration (not held)) old new es free (ap (waiting_in session) view ∙ awake)
    (blocked-is session mode (rows_on name old) ∙ ap (λ rows. not (is_empty (blockers session name mode rows))) view ∙ ap not (sym tells) ∙ free) sound are is

pub invariant_of-self-else-row : goal.invariant_of-self-else-row
invariant_of-self-else-row c =
    granted c.args.session c.args.name c.args.mode c.args.duration c.is_empty.result c.args.self.now c.self.inside.rows c.add.new.self c.self.inside.waits.entries c.self.view_is c.requires.awake (search rules) (c.is_empty.ensures ∙ ap is_empty c.in_ok-blockers.ensures)
    c.self.invariant.0 c.self.invariant.1 c.in_ok-add.ensures

pub returns-in_ok-wait-clause-sound : goal.returns-in_ok-wait-clause-sound
returns-in_ok-wait-clause-sound c =
    subst IsSound (sym c.in_ok-wait.ensures.ok)
    (wait-sound (row_of c.args.session c.args.name c.args.mode c.args.duration (not c.is_empty.result)) c.args.self.now c.if-row.true c.requires.awake
    (blocked-is c.args.session c.args.mode (rows_on c.args.name c.args.self.now) ∙ ap (λ xs. not (is_empty xs)) (sym c.in_ok-blockers.ensures) ∙ ap not (sym c.is_empty.ensures) ∙ c.if-row.true)
    (subst IsSound c.self.view_is c.self.invariant.0))

pub returns-in_ok-add-clause-sound : goal.returns-in_ok-add-clause-sound
returns-in_ok-add-clause-sound c =
    (granted c.args.session c.args.name c.args.mode c.args.duration c.is_empty.result c.args.self.now c.self.inside.rows c.add.new.self c.self.inside.waits.entries c.self.view_is c.requires.awake (search rules) (c.is_empty.ensures ∙ ap is_empty c.in_ok-blockers.ensures)
    c.self.invariant.0 c.self.invariant.1 c.in_ok-add.ensures).0
