use Rattle.std.proofs.Common.{◌≡◌, true, sym, subst, ◌∙◌}
use Rattle.sp_pair.proofs.Renewing.{halves_only}
use Rattle.sp_pair.proofs.compaction.rewrite.Goals as goal

pub returns-in_err-finish-clause-crash : goal.returns-in_err-finish-clause-crash
returns-in_err-finish-clause-crash g c = λ told low high ordered only.
    let begun = c.in_ok-begin.ensures.begun told in
    halves_only (g.D.Disk.moment c.args.disk.now) (g.D.Disk.moment c.begin.new.disk) (g.D.Disk.moment c.finish.new.disk) (g.D.Disk.images c.args.disk.now) (g.D.Disk.images c.begin.new.disk) (g.D.Disk.images c.finish.new.disk) (g.D.Disk.reads c.args.disk.now) c.as_slice.result.now
    c.args.generation c.args.records.now (c.as_slice.ensures.value ∙ c.in_ok-body.ensures.bytes) (c.in_ok-body.ensures.valid ordered) (c.begin.ensures.crash told only)
    (c.finish.ensures.crash c.args.generation low high (subst (λ b. b ≡ true) (sym c.begin.ensures.tells) told) begun.0 begun.1)

pub returns-clause-crash : goal.returns-clause-crash
returns-clause-crash g c = λ told low high ordered only.
    let begun = c.in_ok-begin.ensures.begun told in
    halves_only (g.D.Disk.moment c.args.disk.now) (g.D.Disk.moment c.begin.new.disk) (g.D.Disk.moment c.finish.new.disk) (g.D.Disk.images c.args.disk.now) (g.D.Disk.images c.begin.new.disk) (g.D.Disk.images c.finish.new.disk) (g.D.Disk.reads c.args.disk.now) c.as_slice.result.now
    c.args.generation c.args.records.now (c.as_slice.ensures.value ∙ c.in_ok-body.ensures.bytes) (c.in_ok-body.ensures.valid ordered) (c.begin.ensures.crash told only)
    (c.finish.ensures.crash c.args.generation low high (subst (λ b. b ≡ true) (sym c.begin.ensures.tells) told) begun.0 begun.1)
