use Rattle.std.proofs.Common.{◌≡◌, ◌⊎◌, ◌≤◌, ◌+◌, ℕ, List, [], false, Option, length}
use Rattle.std.specs.Io.KnownBytes.{Appends}
use Rattle.sp_lines.specs.Taking.{HasTaken}
use Rattle.sp_lines.proofs.reader.LineReader.next.Given as goal

abbrev pub invariant-loop-sink : goal.invariant-loop-sink
invariant-loop-sink g l = record {
  taken : (start : Option (List ℕ)) (lines : List (List ℕ)) → HasTaken start (g.S.Source.left l.initial.source) l.initial.self.chunk [] lines
      → HasTaken start (g.S.Source.left l.source) l.self.chunk l.self.line lines;
  ended : l.self.ended ≡ false;
  fewer : l.self.chunk.room + length l.self.chunk.bytes ≤ l.initial.self.chunk.room + length l.initial.self.chunk.bytes;
  later : g.S.Source.read_faults l.initial.source ≤ g.S.Source.read_faults l.source;
  flushed : Appends (g.K.Sink.taken l.initial.sink) (g.K.Sink.taken l.sink) [];
  asked : (l.source ≡ l.initial.source) ⊎ (g.K.Sink.holds_back l.sink ≡ false);
  counts : g.K.Sink.write_faults l.initial.sink ≤ g.K.Sink.write_faults l.sink;
}

abbrev pub decreases-loop-sink : goal.decreases-loop-sink
decreases-loop-sink g l = l.self.chunk.room
