-- Sources and sinks in memory.
use Rattle.std.specs.Prelude.{ℕ, List, drop}
use Rattle.sp_io.specs.declared.memory.MemSource.{MemSource}
use Rattle.sp_io.specs.declared.memory.MemSink.{MemSink}

-- the bytes that are left
abbrev pub bytes_left : MemSource → List ℕ
bytes_left s = drop s.at s.bytes.items

-- how often a read has failed
abbrev pub read_fault_count : MemSource → ℕ
read_fault_count s = s.faults

-- the numbers of the calls that are to fail
abbrev pub failing_reads : MemSource → List ℕ
failing_reads s = s.fail.items

abbrev pub failing_writes : MemSink → List ℕ
failing_writes s = s.fail.items

-- the bytes that were taken
abbrev pub bytes_taken : MemSink → List ℕ
bytes_taken s = s.bytes.items

-- how often a write has failed
abbrev pub write_fault_count : MemSink → ℕ
write_fault_count s = s.faults
