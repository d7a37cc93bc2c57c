-- The place that a session is told.
use Rattle.std.specs.Prelude.{◌≡◌, ℕ, nat_eq, List, [], ◌∷◌, Option, Some, None, cond}
use Rattle.sp_rect.specs.declared.commit.Commit.{Commit}
use Rattle.sp_node.specs.Among.{Among}
use Rattle.sp_model.specs.declared.session.Session.{Session}
use Rattle.sp_model.specs.declared.session.Stage.TheVariants.{Placed}
use Rattle.sp_model.specs.State.{Kernel}

-- the last commit of the session
abbrev pub last_commit : ℕ → List Commit → Option Commit → Option Commit
last_commit s [] found = found
last_commit s (c ∷ cs) found = last_commit s cs (cond (nat_eq c.session s) (Some c) found)

-- the last commit of a placed session is that of its transaction
abbrev pub ArePlaced : List Session → List Commit → Type 0
ArePlaced sessions commits = (x : Session) → Among x sessions → x.stage ≡ Placed → (c : Commit) × (last_commit x.txn.session commits None ≡ Some c) × (c.txn ≡ x.txn.number)

abbrev pub HasPlaces : Kernel → Type 0
HasPlaces k = ArePlaced k.sessions k.commits
