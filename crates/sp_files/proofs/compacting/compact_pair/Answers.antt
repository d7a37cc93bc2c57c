use Rattle.sp_files.specs.Compacting.{same}
use Rattle.sp_files.proofs.Roles.{stays_same, renews, cond_not, cond_along, both_roles}
use Rattle.sp_files.proofs.compacting.compact_pair.Goals as goal

pub returns-in-Ok-compact-clause-renews : goal.returns-in-Ok-compact-clause-renews
returns-in-Ok-compact-clause-renews g c = λ told also.
    let D = g.D.Disk in
    let was = c.in-Ok.chosen in
    let now = c.in-Ok-compact.chosen in
    let chose = c.in-Ok.ensures in
    let made = c.in-Ok-compact.ensures in
    let tell = both_roles D.tells was.is_alt c.args.pair.main c.args.pair.alt was.current was.other chose.main_same.1 chose.alt_same.1 told also in
    let rests = chose.rests told also in
    renews D.reads D.moment D.images was.is_alt now.is_alt was.version now.generation was.generation c.in-Ok-compact.records c.args.pair.main c.args.pair.alt was.current was.other now.other now.current c.by_name.result.main c.by_name.result.alt
    (chose.main_settled told also).bytes (chose.alt_settled told also).bytes (chose.chosen told also) made.early made.turned.2 made.turned.0
    (made.compacted tell.0 tell.1 rests) (made.looks tell.0).bytes (made.rests tell.0 tell.1 rests)
    (cond_not was.is_alt now.is_alt now.other now.current c.by_name.result.main made.turned.0 c.by_name.ensures.main) (cond_not was.is_alt now.is_alt now.current now.other c.by_name.result.alt made.turned.0 c.by_name.ensures.alt)

pub returns-in-Ok-compact-clause-crash : goal.returns-in-Ok-compact-clause-crash
returns-in-Ok-compact-clause-crash g c = λ told also.
    let D = g.D.Disk in
    let was = c.in-Ok.chosen in
    let now = c.in-Ok-compact.chosen in
    let chose = c.in-Ok.ensures in
    let made = c.in-Ok-compact.ensures in
    let law = g.met.D.Disk g.world.𝓛 g.world.𝓜 g.world.𝓡 ((λ s x. x), (λ x. x), (λ x. x), λ x. x) in
    let tell = both_roles D.tells was.is_alt c.args.pair.main c.args.pair.alt was.current was.other chose.main_same.1 chose.alt_same.1 told also in
    let rests = chose.rests told also in
    same (stays_same D.reads D.moment D.images was.is_alt c.args.pair.main c.args.pair.alt was.current was.other now.other now.current c.by_name.result.main c.by_name.result.alt
    (chose.main_settled told also) (chose.alt_settled told also) rests.current_only (law.as_it_reads was.current tell.0) (made.looks tell.0) (made.crash tell.0 tell.1 rests)
    (cond_not was.is_alt now.is_alt now.other now.current c.by_name.result.main made.turned.0 c.by_name.ensures.main) (cond_not was.is_alt now.is_alt now.current now.other c.by_name.result.alt made.turned.0 c.by_name.ensures.alt))

pub returns-in-Err-compact-clause-crash : goal.returns-in-Err-compact-clause-crash
returns-in-Err-compact-clause-crash g c = λ told also.
    let D = g.D.Disk in
    let was = c.in-Ok.chosen in
    let now = c.in-Err-compact.chosen in
    let chose = c.in-Ok.ensures in
    let made = c.in-Err-compact.ensures in
    let names = c.by_name-in-Err-compact in
    let law = g.met.D.Disk g.world.𝓛 g.world.𝓜 g.world.𝓡 ((λ s x. x), (λ x. x), (λ x. x), λ x. x) in
    let tell = both_roles D.tells was.is_alt c.args.pair.main c.args.pair.alt was.current was.other chose.main_same.1 chose.alt_same.1 told also in
    let rests = chose.rests told also in
    same (stays_same D.reads D.moment D.images was.is_alt c.args.pair.main c.args.pair.alt was.current was.other now.current now.other names.result.main names.result.alt
    (chose.main_settled told also) (chose.alt_settled told also) rests.current_only (law.as_it_reads was.current tell.0) (made.looks tell.0) (made.crash tell.0 tell.1 rests)
    (cond_along was.is_alt now.is_alt now.other now.current names.result.main made.same.0 names.ensures.main) (cond_along was.is_alt now.is_alt now.current now.other names.result.alt made.same.0 names.ensures.alt))
