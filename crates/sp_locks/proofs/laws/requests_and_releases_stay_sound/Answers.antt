use Rattle.std.proofs.Common.{◌≡◌, ◌≢◌, ℕ, true, not, List, [], ◌∷◌, ap, ◌∙◌}
use Rattle.sp_list.specs.Emptiness.{is_empty}
use Rattle.sp_locks.specs.Table.{rows_on}
use Rattle.sp_locks.proofs.Blocking.{blocked-is}
use Rattle.sp_locks.proofs.Giving.{free-in_turn}
use Rattle.sp_locks.proofs.Keeping.{grant-sound, wait-sound, gifts-sound, release-sound, no_waiter, in-table}
use Rattle.sp_locks.proofs.laws.requests_and_releases_stay_sound.Goals as goal

some : (xs : List ℕ) → xs ≢ [] → not (is_empty xs) ≡ true
some [] h = absurd (h (λ i. []))
some (x ∷ xs) h = λ i. true

pub returns-clause-granted : goal.returns-clause-granted
returns-clause-granted c rows row held awake free sound =
    grant-sound row rows held (λ x i. no_waiter row.session rows awake x (in-table row.name x rows i).0) (blocked-is row.session row.mode (rows_on row.name rows) ∙ ap (λ xs. not (is_empty xs)) free) sound

pub returns-clause-waits : goal.returns-clause-waits
returns-clause-waits c rows row waits awake stuck sound = wait-sound row rows waits awake (blocked-is row.session row.mode (rows_on row.name rows) ∙ some _ stuck) sound

pub returns-clause-given : goal.returns-clause-given
returns-clause-given c rows session needs free sound = (gifts-sound session needs rows (free-in_turn session rows needs free) sound).0

pub returns-clause-released : goal.returns-clause-released
returns-clause-released c rows scope session sound = release-sound scope session rows sound
