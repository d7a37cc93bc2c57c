use Rattle.std.proofs.Common.{◌≡◌, map}
use Rattle.sp_plain.specs.declared.change.Change.TheVariants.{Put}
use Rattle.sp_journal.proofs.contents.puts.Given as goal

abbrev pub invariant-loop-record : goal.invariant-loop-record
invariant-loop-record l = l.changes ≡ map Put l.yielded
