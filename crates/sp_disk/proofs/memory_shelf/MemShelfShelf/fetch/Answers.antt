use Rattle.std.proofs.Common.{refl, ◌∙◌, ap}
use Rattle.sp_disk.specs.History.{reads_of}
use Rattle.sp_disk.proofs.Holding.{held_first, held_others, held_none}
use Rattle.sp_disk.proofs.memory_shelf.MemShelfShelf.fetch.Goals as goal

pub returns-in_ok-push-in-Some-clause-disk : goal.returns-in_ok-push-in-Some-clause-disk
returns-in_ok-push-in-Some-clause-disk c = λ told.
    (refl, held_first c.as_slice.result.now c.args.name.now c.args.self.now.disks.items c.in-Some.at c.remove-disk.result c.as_slice.ensures.value c.in-Some.ensures.place c.in-Some.ensures.named c.in-Some.ensures.first c.remove-disk.ensures.value)

pub returns-in_ok-push-in-Some-clause-others : goal.returns-in_ok-push-in-Some-clause-others
returns-in_ok-push-in-Some-clause-others c = λ told other apart.
    held_others c.as_slice.result.now c.args.name.now c.args.self.now.disks.items _ c.in-Some.at other c.as_slice.ensures.value c.remove-disk.ensures.items c.in-Some.ensures.place c.in-Some.ensures.named apart

pub returns-in_ok-push-in-None-clause-disk : goal.returns-in_ok-push-in-None-clause-disk
returns-in_ok-push-in-None-clause-disk c = λ told.
    (refl, ap reads_of c.in_ok-disk-in-None.ensures ∙ c.new.ensures.items ∙ held_none c.as_slice.result.now c.args.name.now c.args.self.now.disks.items c.as_slice.ensures.value c.in-None.ensures.absent)
