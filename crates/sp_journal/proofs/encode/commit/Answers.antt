use Rattle.std.proofs.Common.{◌≡◌, length, ap, ◌∷◌, ◌++◌, [], length-append, arith, rules}
use Rattle.sp_journal.specs.Format.{commit_bytes}
use Rattle.sp_journal.proofs.Bounds.{length-commit}
use Rattle.sp_journal.proofs.encode.commit.Goals as goal

pub returns-clause-size : goal.returns-clause-size
returns-clause-size c =
    let bytes : c.push.new.self.items ≡ commit_bytes c.args.changes.now ++ 0 ∷ [] = search rules in
    omega (arith, ap length bytes, length-append (commit_bytes c.args.changes.now) (0 ∷ []), length-commit c.args.changes.now c.in_ok-push_commit.ensures.valid)
