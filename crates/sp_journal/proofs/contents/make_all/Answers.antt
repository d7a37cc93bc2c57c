use Rattle.std.proofs.Common.{arith}
use Rattle.sp_journal.proofs.Payloads.{commit_made, commits_refused, was_taken, was_refused}
use Rattle.sp_journal.proofs.contents.make_all.Goals as goal

pub returns-then-not-branch-clause-made : goal.returns-then-not-branch-clause-made
returns-then-not-branch-clause-made c =
    commits_refused c.args.commits.now c.as_slice-commit-items.result.now c.loop-commit.commit-index c.commit-item.result c.args.store.now c.loop-commit.store c.as_slice-commit-items.ensures (omega arith) c.commit-item.is c.loop-commit.invariant.made
    (was_refused c.commit-item.result c.loop-commit.store c.take.new.store c.in_ok-take.field-0 c.if-not-branch.true c.in_ok-take.ensures.made)

pub loop-commit-preserved : goal.loop-commit-preserved
loop-commit-preserved c = record {
  made =
      commit_made c.as_slice-commit-items.result.now c.loop-commit.commit-index c.commit-item.result c.args.store.now c.loop-commit.store c.take.new.store (omega arith) c.commit-item.is c.loop-commit.invariant.made
      (was_taken c.commit-item.result c.loop-commit.store c.take.new.store c.in_ok-take.field-0 c.if-not-branch.false c.in_ok-take.ensures.made);
  small = λ h. c.in_ok-take.ensures.small (c.loop-commit.invariant.small h);
}
