use Rattle.sp_pair.proofs.Resting.{roles_rest, only_reads}
use Rattle.sp_pair.proofs.pair.choose.Goals as goal

pub returns-in-Ok-clause-rests : goal.returns-in-Ok-clause-rests
returns-in-Ok-clause-rests g c = λ told also.
    let both = c.in-Ok.ensures.settled told also in
    let chosen = c.by_role.result in
    let role = c.by_role.ensures in
    let main = c.choose_of.new.main in
    let alt = c.choose_of.new.alt in
    let was = g.D.Disk.reads c.args.pair.main in
    let was' = g.D.Disk.reads c.args.pair.alt in
    roles_rest g.D.Disk.reads g.D.Disk.moment g.D.Disk.images chosen.is_alt c.in-Ok.choice.is_alt c.in-Ok.choice.version chosen.generation c.in-Ok.choice.generation main alt chosen.current chosen.other was was' role.main role.alt role.is_alt role.numbers.1 both.0.bytes both.1.bytes
    (c.in-Ok.ensures.chosen told also) (only_reads (g.D.Disk.moment c.args.pair.main) (g.D.Disk.moment main) was (g.D.Disk.reads main) (g.D.Disk.images c.args.pair.main) (g.D.Disk.images main) both.0)
    (only_reads (g.D.Disk.moment c.args.pair.alt) (g.D.Disk.moment alt) was' (g.D.Disk.reads alt) (g.D.Disk.images c.args.pair.alt) (g.D.Disk.images alt) both.1)
