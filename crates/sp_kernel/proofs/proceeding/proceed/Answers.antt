use Rattle.std.proofs.Common.{refl, arith}
use Rattle.sp_state.specs.Held.{kernel_of}
use Rattle.sp_journal.proofs.Kinding.{still_keeps}
use Rattle.sp_kernel.proofs.Stillness.{still_leaves}
use Rattle.sp_kernel.proofs.proceeding.proceed.Goals as goal

pub returns-in-Commit-clause-crash : goal.returns-in-Commit-clause-crash
returns-in-Commit-clause-crash g c = λ tells held.
    rw c.proceed_commit.ensures.disk (still_leaves (kernel_of c.args.state.now) c.args.journal.now.work _ _ _ c.requires.sound held)

pub returns-in_default : goal.returns-in_default
returns-in_default g c = record {
  answers = c.proceed_apart.ensures.answers;
  fits = c.proceed_apart.ensures.fits;
  counted = c.proceed_apart.ensures.counted;
  agrees = c.proceed_apart.ensures.agrees;
  crash = λ tells held. rw c.proceed_apart.ensures.disk (still_leaves (kernel_of c.args.state.now) c.args.journal.now.work _ _ _ c.requires.sound held);
  kinds = λ tells held. rw c.proceed_apart.ensures.disk (still_keeps _ _);
  still = λ other. c.proceed_apart.ensures.disk;
  once = rw c.proceed_apart.ensures.disk (omega arith);
  memory = λ e. c.proceed_apart.ensures.memory e _;
  later = rw c.proceed_apart.ensures.disk (omega arith);
  fault = λ e. absurd (c.proceed_apart.ensures.no_fault e);
  tells = rw c.proceed_apart.ensures.disk refl;
  takes = rw c.proceed_apart.ensures.disk refl;
}

pub returns-in-Commit-clause-kinds : goal.returns-in-Commit-clause-kinds
returns-in-Commit-clause-kinds g c = λ tells held. rw c.proceed_commit.ensures.disk (still_keeps _ _)
