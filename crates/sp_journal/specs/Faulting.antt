-- Faults of a disk as errors of a journal.
use Rattle.sp_disk.specs.declared.disk.DiskError.{DiskError}
use Rattle.sp_disk.specs.declared.disk.DiskError.TheVariants.{Fault, Memory}
use Rattle.sp_journal.specs.declared.types.JournalError.{JournalError}
use Rattle.sp_journal.specs.declared.types.JournalError.TheVariants.{Fault as Failed, Memory as NoMemory}

abbrev pub of_disk : DiskError → JournalError
of_disk Fault = Failed
of_disk Memory = NoMemory
