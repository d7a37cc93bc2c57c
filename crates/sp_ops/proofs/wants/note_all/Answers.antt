use Rattle.sp_locks.specs.declared.mode.Mode.TheVariants.{IS}
use Rattle.sp_locks.specs.declared.row.Name.TheVariants.{Granule}
use Rattle.sp_ops.specs.Wanted.{noted}
use Rattle.sp_ops.proofs.Joining.{joined-more}
use Rattle.sp_ops.proofs.wants.note_all.Goals as goal

pub loop-want-preserved : goal.loop-want-preserved
loop-want-preserved c = λ name. joined-more name c.args.wants.now c.loop-want.want-index (record { name = Granule 0; mode = IS }) (noted c.loop-want.modes name) (noted c.note.new.modes name) c.loop-want-test.true (c.loop-want.invariant name) (c.in_ok-note.ensures name)
