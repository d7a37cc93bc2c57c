use Rattle.std.proofs.Common.{◌≡◌}
use Rattle.sp_journal.specs.declared.work.Phase.TheVariants.{Ready}
use Rattle.sp_bench_journal.proofs.work.write.Given as goal

abbrev pub invariant-loop : goal.invariant-loop
invariant-loop g l = record { ready : l.journal.work.phase ≡ Ready; empty : l.journal.work.changes ≡ 0 }
