use Rattle.sp_disk.proofs.Sampling.{same_samples, front_part, sample_is_image}
use Rattle.sp_disk.proofs.memory.MemDisk.samples.Goals as goal

pub returns-clause-samples : goal.returns-clause-samples
returns-clause-samples c =
    same_samples _ _ _ _ _ c.args.moment _ c.start.ensures c.calls-calls.ensures (front_part c.calls-calls.result.now c.min-count.result c.args.moment c.min-count.ensures) c.in_ok-samples_after.ensures

pub returns-clause-images : goal.returns-clause-images
returns-clause-images c = λ file there. sample_is_image c.args.self.now.log c.args.moment file ((returns-clause-samples c file).0 there)
