use Rattle.std.proofs.Common.{◌≡◌, inr, arith}
use Rattle.std.proofs.lemmas.Grind.{common_steps}
use Rattle.sp_store.proofs.Coming.{come_turned}
use Rattle.sp_store.proofs.Versions.{chosen_renewed, renewed_version}
use Rattle.sp_store.proofs.store.renew.Goals as goal

pub returns-in-Ok-clause-come : goal.returns-in-Ok-clause-come
returns-in-Ok-clause-come g c = λ told also rest.
    let was = c.args.chosen in
    let now = c.in-Ok.renewed in
    let rests = c.in-Ok.ensures.rests told also rest in
    come_turned was.is_alt now.is_alt rests.version rests.own was.generation c.in-Ok.field-0-1 (g.D.Disk.reads was.current) (g.D.Disk.reads was.other) (g.D.Disk.reads now.current) (g.D.Disk.reads now.other)
    (c.in-Ok.ensures.compacted told also rest) c.in-Ok.ensures.early c.in-Ok.ensures.turned.0 (c.in-Ok.ensures.looks told).bytes rests.chosen

pub returns-in-Ok-clause-crash : goal.returns-in-Ok-clause-crash
returns-in-Ok-clause-crash g c = let made = c.in-Ok.ensures in inr (record { turned = made.turned.0; looks = made.looks; keeps = made.crash })

pub returns-in-Ok-clause-version : goal.returns-in-Ok-clause-version
returns-in-Ok-clause-version g c = λ told also rest chosen.
    let was = c.args.chosen in
    let now = c.in-Ok.renewed in
    let rests = c.in-Ok.ensures.rests told also rest in
    renewed_version was.is_alt now.is_alt rests.version rests.own was.generation c.in-Ok.field-0-1 (g.D.Disk.reads was.current) (g.D.Disk.reads was.other) (g.D.Disk.reads now.current) (g.D.Disk.reads now.other)
    (c.in-Ok.ensures.compacted told also rest) c.in-Ok.ensures.early rests.chosen

pub returns-in_default-clause-version : goal.returns-in_default-clause-version
returns-in_default-clause-version g c = λ told also rest chosen.
    let was = c.args.chosen in
    let not_old : was.version ≡ 1 → was.generation ≡ 0 → ⊥ = grind (arith, common_steps) in
    chosen_renewed was.is_alt was.version was.generation (g.D.Disk.reads was.current) (g.D.Disk.reads was.other) chosen not_old
