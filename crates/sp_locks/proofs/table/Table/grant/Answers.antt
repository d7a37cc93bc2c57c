use Rattle.std.proofs.Common.{◌≡◌, ℕ, List, None, Bool, true, false, Ok, Err, if◌then◌else◌, true≢false, refl, sym, ap, ◌∙◌}
use Rattle.std.specs.Prelude.{Result, IfOk}
use Rattle.sp_locks.specs.declared.mode.Mode.{Mode}
use Rattle.sp_locks.specs.declared.row.Name.{Name}
use Rattle.sp_locks.specs.declared.row.Duration.{Duration}
use Rattle.sp_locks.specs.declared.row.Row.{Row}
use Rattle.sp_locks.specs.Answers.{is_yes}
use Rattle.sp_locks.specs.Rows.{waiting_in, is_open}
use Rattle.sp_locks.specs.Table.{rows_on, with_row_on, row_of}
use Rattle.sp_locks.specs.Soundness.{IsSound, AreWaits}
use Rattle.sp_locks.proofs.Blocking.{open-unblocked}
use Rattle.sp_locks.proofs.Keeping.{grant-either}
use Rattle.sp_locks.proofs.table.Table.grant.Goals as goal

yes-open : {E : Type 0} (answer : Result Bool E) (open_is : Bool) → IfOk answer (λ granted. granted ≡ open_is) → is_yes answer ≡ true → open_is ≡ true
yes-open (Ok granted) open_is e is_so = sym e ∙ is_so
yes-open (Err error) open_is e is_so = absurd (true≢false (sym is_so))

granted : {E : Type 0} (answer : Result Bool E) (session : ℕ) (name : Name) (mode : Mode) (duration : Duration) (now old new : List Row) (es : List (ℕ × Name)) → old ≡ now → waiting_in session now ≡ None
    → IfOk answer (λ granted. granted ≡ is_open session mode (rows_on name old)) → IsSound old → AreWaits es old → new ≡ (if is_yes answer then with_row_on (row_of session name mode duration false) old else old) → IsSound new × AreWaits es new
granted answer session name mode duration now old new es view awake tells sound are is =
    grant-either (row_of session name mode duration false) (is_yes answer) old new es refl (ap (waiting_in session) view ∙ awake) (λ is_so. open-unblocked session mode (rows_on name old) (yes-open answer (is_open session mode (rows_on name old)) tells is_so)) sound are is

pub invariant_of-self : goal.invariant_of-self
invariant_of-self c =
    granted c.grant.result c.args.session c.args.name c.args.mode c.args.duration c.args.self.now c.self.inside.rows c.grant.new.self c.self.inside.waits.entries c.self.view_is c.requires.awake c.grant.ensures.answer c.self.invariant.0 c.self.invariant.1 c.grant.ensures.rows

pub returns-clause-sound : goal.returns-clause-sound
returns-clause-sound c =
    (granted c.grant.result c.args.session c.args.name c.args.mode c.args.duration c.args.self.now c.self.inside.rows c.grant.new.self c.self.inside.waits.entries c.self.view_is c.requires.awake c.grant.ensures.answer c.self.invariant.0 c.self.invariant.1 c.grant.ensures.rows).0
