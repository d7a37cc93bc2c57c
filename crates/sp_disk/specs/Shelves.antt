-- What a shelf in memory holds.
use Rattle.std.specs.Prelude.{ℕ, Bool, if◌then◌else◌, List, [], ◌∷◌, nat_eq, String}
use Rattle.std.specs.Cmp.Lexicographic.{pointwise}
use Rattle.std.specs.String.{string_bytes}
use Rattle.std.specs.declared.alloc.Global.{Global}
use Rattle.sp_disk.specs.declared.memory.MemDisk.{MemDisk}
use Rattle.sp_disk.specs.History.{reads_of}

-- disks with their names
abbrev pub Named : Type 0
Named = String Global × MemDisk

-- whether the disk has that name
abbrev pub is_named : List ℕ → Named → Bool
is_named name disk = pointwise nat_eq (string_bytes disk.0) name

-- the bytes of the first disk of that name, none where there is none
abbrev pub held : List Named → List ℕ → List ℕ
held [] name = []
held (disk ∷ disks) name = if is_named name disk then reads_of disk.1.log else held disks name
