use Rattle.std.proofs.Common.{◌≡◌, ◌↔◌, List, subst, arith}
use Rattle.std.proofs.lemmas.List.{take_all}
use Rattle.sp_disk.specs.declared.history.DiskCall.{DiskCall}
use Rattle.sp_disk.specs.History.{left, is_sampled}
use Rattle.sp_disk.specs.Membership.{In}
use Rattle.sp_disk.proofs.Sampling.{one_turn, reads_turn}
use Rattle.sp_disk.proofs.samples.samples_after.Goals as goal

pub loop-call-preserved : goal.loop-call-preserved
loop-call-preserved c = record {
  reads = reads_turn c.args.start.now c.loop-call.reads.items c.advance.new.reads.items c.args.calls.now c.loop-call.call-index c.call-item.result (omega arith) c.call-item.is c.loop-call.invariant.reads c.in_ok-advance.ensures;
  files = one_turn c.args.start.now c.loop-call.reads.items c.as_slice.result.now c.args.calls.now c.loop-call.call-index c.call-item.result c.loop-call.files c.in_ok-files-2.files (omega arith) c.call-item.is c.as_slice.ensures.value c.loop-call.invariant.reads c.loop-call.invariant.files (λ file. c.in_ok-files-2.ensures file);
}

pub returns : goal.returns
returns c = λ file.
    let P : List DiskCall → Type 0 = λ l. In file c.loop-call.files ↔ left is_sampled c.args.start.now (λ f. f ≡ c.args.start.now) l file in
    subst P (take_all c.loop-call.call-index c.args.calls.now (omega arith)) (c.loop-call.invariant.files file)
