-- What a status of 0 says of the end.
use Rattle.std.proofs.Common.{◌≡◌, refl, arith}
use Rattle.sp_text.specs.declared.types.End.{End}
use Rattle.sp_text.specs.declared.types.End.TheVariants.{Input, Usage, ReadFault, WriteFault, DiskFault, Foreign, Damaged, Memory, Long}
use Rattle.sp_files.specs.Ending.{status_of as status_of_files}
use Rattle.sp_files.specs.declared.ending.FileEnd.{FileEnd}
use Rattle.sp_files.specs.declared.ending.FileEnd.TheVariants.{Written, WriteFault as FilesUnwritten, DiskFault as FilesFailed, Foreign as FilesForeign, Damaged as FilesDamaged, Worn, Memory as FilesMemory}
use Rattle.spatial.specs.Commands.{status_of}

pub input_of : (end : End) → status_of end ≡ 0 → end ≡ Input
input_of Input e = refl
input_of Usage e = absurd (omega (arith, e))
input_of ReadFault e = absurd (omega (arith, e))
input_of WriteFault e = absurd (omega (arith, e))
input_of DiskFault e = absurd (omega (arith, e))
input_of Foreign e = absurd (omega (arith, e))
input_of (Damaged offset) e = absurd (omega (arith, e))
input_of Memory e = absurd (omega (arith, e))
input_of Long e = absurd (omega (arith, e))

pub written_of : (end : FileEnd) → status_of_files end ≡ 0 → end ≡ Written
written_of Written e = refl
written_of FilesUnwritten e = absurd (omega (arith, e))
written_of FilesFailed e = absurd (omega (arith, e))
written_of FilesForeign e = absurd (omega (arith, e))
written_of (FilesDamaged at) e = absurd (omega (arith, e))
written_of Worn e = absurd (omega (arith, e))
written_of FilesMemory e = absurd (omega (arith, e))
