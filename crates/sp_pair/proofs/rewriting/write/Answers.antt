use Rattle.std.proofs.Common.{◌≡◌, true, sym, subst, length}
use Rattle.sp_disk.specs.Files.{Torn}
use Rattle.sp_pair.proofs.Stops.{torn_only, and_sync}
use Rattle.sp_pair.proofs.rewriting.write.Goals as goal

pub returns-in_err-write_at-clause-crash : goal.returns-in_err-write_at-clause-crash
returns-in_err-write_at-clause-crash g c = λ told only.
    torn_only (g.D.Disk.moment c.args.disk.now) (g.D.Disk.moment c.write_at.new.self) (g.D.Disk.images c.args.disk.now) (g.D.Disk.images c.write_at.new.self) (g.D.Disk.reads c.args.disk.now) c.args.at (length c.args.bytes.now) c.write_at.ensures.time only
    (c.write_at.ensures.at_most told)

pub returns-in_err-sync-clause-crash : goal.returns-in_err-sync-clause-crash
returns-in_err-sync-clause-crash g c = λ told only.
    and_sync (g.D.Disk.moment c.args.disk.now) (g.D.Disk.moment c.write_at.new.self) (g.D.Disk.moment c.sync.new.self) (g.D.Disk.images c.args.disk.now) (g.D.Disk.images c.write_at.new.self) (g.D.Disk.images c.sync.new.self) (Torn c.args.at (length c.args.bytes.now) (g.D.Disk.reads c.args.disk.now))
    (torn_only (g.D.Disk.moment c.args.disk.now) (g.D.Disk.moment c.write_at.new.self) (g.D.Disk.images c.args.disk.now) (g.D.Disk.images c.write_at.new.self) (g.D.Disk.reads c.args.disk.now) c.args.at (length c.args.bytes.now) c.write_at.ensures.time only
    (c.write_at.ensures.at_most told))
    c.sync.ensures.time (c.sync.ensures.at_most (subst (λ b. b ≡ true) (sym c.write_at.ensures.tells) told))

pub returns-clause-crash : goal.returns-clause-crash
returns-clause-crash g c = λ told only.
    and_sync (g.D.Disk.moment c.args.disk.now) (g.D.Disk.moment c.write_at.new.self) (g.D.Disk.moment c.sync.new.self) (g.D.Disk.images c.args.disk.now) (g.D.Disk.images c.write_at.new.self) (g.D.Disk.images c.sync.new.self) (Torn c.args.at (length c.args.bytes.now) (g.D.Disk.reads c.args.disk.now))
    (torn_only (g.D.Disk.moment c.args.disk.now) (g.D.Disk.moment c.write_at.new.self) (g.D.Disk.images c.args.disk.now) (g.D.Disk.images c.write_at.new.self) (g.D.Disk.reads c.args.disk.now) c.args.at (length c.args.bytes.now) c.write_at.ensures.time only
    (c.write_at.ensures.at_most told))
    c.sync.ensures.time (c.sync.ensures.at_most (subst (λ b. b ≡ true) (sym c.write_at.ensures.tells) told))
