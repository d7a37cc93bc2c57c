use Rattle.std.proofs.Common.{◌≡◌, true, sym, subst, length, ◌∷◌, ◌++◌}
use Rattle.sp_journal.specs.Format.{header_bytes}
use Rattle.sp_pair.proofs.Stops.{body_only, gate_only, body_written, gate_written}
use Rattle.sp_pair.proofs.rewriting.finish.Goals as goal

pub returns-in_err-write-clause-crash : goal.returns-in_err-write-clause-crash
returns-in_err-write-clause-crash g c = λ generation low high told is only.
    body_only (g.D.Disk.moment c.args.disk.now) (g.D.Disk.moment c.write.new.disk) (g.D.Disk.images c.args.disk.now) (g.D.Disk.images c.write.new.disk) generation (length c.args.body.now) (g.D.Disk.reads c.args.disk.now) (header_bytes 2 generation ++ 1 ∷ c.args.body.now) low high is
    (c.write.ensures.crash told only)

pub returns-in_err-write-2-clause-crash : goal.returns-in_err-write-2-clause-crash
returns-in_err-write-2-clause-crash g c = λ generation low high told is only.
    let body = c.in_ok-write.ensures.settled told in
    gate_only (g.D.Disk.moment c.args.disk.now) (g.D.Disk.moment c.write.new.disk) (g.D.Disk.moment c.write-2.new.disk) (g.D.Disk.images c.args.disk.now) (g.D.Disk.images c.write.new.disk) (g.D.Disk.images c.write-2.new.disk) generation c.args.body.now (g.D.Disk.reads c.args.disk.now)
    (g.D.Disk.reads c.write.new.disk) low high is body.0 (c.write.ensures.crash told only) (c.write-2.ensures.crash (subst (λ b. b ≡ true) (sym c.write.ensures.tells) told) body.1)

pub returns-clause-crash : goal.returns-clause-crash
returns-clause-crash g c = λ generation low high told is only.
    let body = c.in_ok-write.ensures.settled told in
    gate_only (g.D.Disk.moment c.args.disk.now) (g.D.Disk.moment c.write.new.disk) (g.D.Disk.moment c.write-2.new.disk) (g.D.Disk.images c.args.disk.now) (g.D.Disk.images c.write.new.disk) (g.D.Disk.images c.write-2.new.disk) generation c.args.body.now (g.D.Disk.reads c.args.disk.now)
    (g.D.Disk.reads c.write.new.disk) low high is body.0 (c.write.ensures.crash told only) (c.write-2.ensures.crash (subst (λ b. b ≡ true) (sym c.write.ensures.tells) told) body.1)

pub returns-clause-filled : goal.returns-clause-filled
returns-clause-filled g c = λ generation told is.
    let body = c.in_ok-write.ensures.settled told in
    let gate = c.in_ok-write-2.ensures.settled (subst (λ b. b ≡ true) (sym c.write.ensures.tells) told) in
    (gate_written generation c.args.body.now (g.D.Disk.reads c.write.new.disk) (g.D.Disk.reads c.write-2.new.disk) (body_written generation c.args.body.now (g.D.Disk.reads c.args.disk.now) (g.D.Disk.reads c.write.new.disk) is body.0) gate.0, gate.1)
