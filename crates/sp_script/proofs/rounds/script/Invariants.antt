use Rattle.std.proofs.Common.{◌≡◌, ◌<◌, ◌*◌}
use Rattle.sp_script.specs.Draws.{drawn}
use Rattle.sp_script.specs.Script.{script_text}
use Rattle.sp_script.proofs.rounds.script.Given as goal

abbrev pub invariant-rounds : goal.invariant-rounds
invariant-rounds l = record { text : l.text ≡ script_text l.seed l.done; number : l.number ≡ drawn l.seed (36 * l.done); small : l.number < 2147483647 }
