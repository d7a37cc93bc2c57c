use Rattle.sp_store.proofs.Stopping.{since_chosen, both_roles}
use Rattle.sp_store.proofs.store.choose_renewed.Goals as goal

pub returns-in-Ok-clause-crash : goal.returns-in-Ok-clause-crash
returns-in-Ok-clause-crash g c = λ told also.
    let D = g.D.Disk in
    let was = c.in_ok-chosen.chosen in
    let now = c.in-Ok.renewed in
    let chose = c.in_ok-chosen.ensures in
    let law = g.met.D.Disk g.world.𝓛 g.world.𝓜 g.world.𝓡 ((λ s x. x), (λ x. x), (λ x. x), λ x. x) in
    let tell = both_roles D.tells was.is_alt c.args.pair.main c.args.pair.alt was.current was.other chose.main_same.1 chose.alt_same.1 told also in
    since_chosen D.reads D.moment D.images D.tells c.args.pair.main c.args.pair.alt was.is_alt now.is_alt was.generation was.current was.other now.current now.other (chose.main_settled told also) (chose.alt_settled told also) tell.0 tell.1 (chose.rests told also) (law.as_it_reads was.current tell.0) c.in-Ok.ensures.crash
