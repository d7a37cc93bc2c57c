use Rattle.std.proofs.Common.{◌≡◌, [], length}
use Rattle.sp_lines.specs.Taking.{CutsOff}
use Rattle.sp_lines.proofs.reader.LineReader.cut.Given as goal

abbrev pub invariant-loop-self : goal.invariant-loop-self
invariant-loop-self l = record {
  cut : CutsOff l.initial.self.chunk.bytes l.self.chunk.bytes l.initial.self.line [] l.self.line;
  room : l.self.chunk.room ≡ l.initial.self.chunk.room;
  ended : l.self.ended ≡ l.initial.self.ended;
}

abbrev pub decreases-loop-self : goal.decreases-loop-self
decreases-loop-self l = length l.self.chunk.bytes
