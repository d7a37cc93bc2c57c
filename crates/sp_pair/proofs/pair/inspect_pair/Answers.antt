use Rattle.std.proofs.Common.{◌≡◌, true, sym, subst}
use Rattle.sp_pair.proofs.Refusals.{held_by, refused_with}
use Rattle.sp_pair.proofs.pair.inspect_pair.Goals as goal

pub returns-clause-recovered : goal.returns-clause-recovered
returns-clause-recovered g c = λ told also.
    held_by (g.D.Disk.reads c.args.pair.now.main) (g.D.Disk.reads c.args.pair.now.alt) (g.D.Disk.reads c.look_both.new.main) (g.D.Disk.reads c.look_both.new.alt) c.in_ok-choice.choice c.inspect_current.result
    (c.look_both.ensures.main_looks told).bytes (c.look_both.ensures.alt_looks also).bytes (c.in_ok-choice.ensures.chosen told also)
    (c.inspect_current.ensures.recovered (subst (λ b. b ≡ true) (sym c.look_both.ensures.tells.0) told) (subst (λ b. b ≡ true) (sym c.look_both.ensures.tells.1) also))

pub returns-clause-refused : goal.returns-clause-refused
returns-clause-refused g c = λ told also.
    refused_with (g.D.Disk.reads c.args.pair.now.main) (g.D.Disk.reads c.args.pair.now.alt) (g.D.Disk.reads c.look_both.new.main) (g.D.Disk.reads c.look_both.new.alt) c.in_ok-choice.choice c.inspect_current.result
    (c.look_both.ensures.main_looks told).bytes (c.look_both.ensures.alt_looks also).bytes (c.in_ok-choice.ensures.chosen told also)
    (c.inspect_current.ensures.refused (subst (λ b. b ≡ true) (sym c.look_both.ensures.tells.0) told) (subst (λ b. b ≡ true) (sym c.look_both.ensures.tells.1) also))
