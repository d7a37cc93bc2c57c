use Rattle.std.proofs.Common.{◌≡◌, drop}
use Rattle.sp_command.specs.Reading.{steps, settled}
use Rattle.sp_command.specs.Grammar.{unset}
use Rattle.sp_command.proofs.reader.read_options.Given as goal

abbrev pub invariant-words : goal.invariant-words
invariant-words l = steps l.reader (drop l.i l.words) ≡ steps (settled unset) (drop 1 l.words)
