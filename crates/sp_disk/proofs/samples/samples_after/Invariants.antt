use Rattle.std.proofs.Common.{◌≡◌, ◌↔◌, ℕ, List, take}
use Rattle.sp_disk.specs.History.{reads_after, left, is_sampled}
use Rattle.sp_disk.specs.Membership.{In}
use Rattle.sp_disk.proofs.samples.samples_after.Given as goal

abbrev pub invariant-loop-call : goal.invariant-loop-call
invariant-loop-call l = record {
  reads : l.reads.items ≡ reads_after l.start (take l.call-index l.calls);
  files : (file : List ℕ) → In file l.files ↔ left is_sampled l.start (λ f. f ≡ l.start) (take l.call-index l.calls) file;
}
