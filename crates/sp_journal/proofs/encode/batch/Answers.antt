use Rattle.std.proofs.Common.{◌≡◌, sym, subst, ap, ◌∙◌, length, arith}
use Rattle.std.proofs.lemmas.List.{take_all}
use Rattle.sp_journal.specs.Format.{AllCommits, IsCommit}
use Rattle.sp_journal.proofs.Bounds.{commits_more, batch_more, batch_whole}
use Rattle.sp_journal.proofs.Readers.{commit_at}
use Rattle.sp_journal.proofs.encode.batch.Goals as goal

pub returns-then-not-has_changes-clause-none : goal.returns-then-not-has_changes-clause-none
returns-then-not-has_changes-clause-none c = λ all few.
    let shown = subst AllCommits (sym c.as_slice-commit-items.ensures) all in
    let whole : IsCommit c.commit-item.result = subst IsCommit (sym c.commit-item.is) (commit_at c.as_slice-commit-items.result.now c.loop-commit.commit-index c.commit-item.result shown (omega arith)) in
    c.has_changes.ensures.no c.if-not-has_changes.true whole.some whole.count

pub loop-commit-preserved : goal.loop-commit-preserved
loop-commit-preserved c =
    let yes = c.has_changes.ensures.yes c.if-not-has_changes.false in
    record {
      bytes = batch_more c.as_slice-commit-items.result.now c.loop-commit.commit-index c.commit-item.result _ _ _ (omega arith) c.commit-item.is c.loop-commit.invariant.bytes c.in_ok-push_commit.ensures.bytes;
      valid = commits_more c.as_slice-commit-items.result.now c.loop-commit.commit-index c.commit-item.result (omega arith) c.commit-item.is c.loop-commit.invariant.valid (record { some = yes.0; count = yes.1; each = c.in_ok-push_commit.ensures.valid });
    }

pub returns-clause-some : goal.returns-clause-some
returns-clause-some c =
    let all : length c.as_slice-commit-items.result.now ≡ length c.args.commits.now = ap length c.as_slice-commit-items.ensures in
    let whole = subst AllCommits (take_all c.loop-commit.commit-index c.as_slice-commit-items.result.now (omega arith) ∙ c.as_slice-commit-items.ensures) c.loop-commit.invariant.valid in (
      batch_whole c.args.commits.now c.as_slice-commit-items.result.now c.loop-commit.commit-index _ c.as_slice-commit-items.ensures (omega arith) c.loop-commit.invariant.bytes,
      whole,
      omega (arith, c.len.ensures.len),
    )
