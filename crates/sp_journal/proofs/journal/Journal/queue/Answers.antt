use Rattle.std.proofs.Common.{arith}
use Rattle.sp_journal.proofs.Turning.{commit_queued}
use Rattle.sp_journal.proofs.journal.Journal.queue.Goals as goal

pub returns-clause-stands : goal.returns-clause-stands
returns-clause-stands g c = λ ledger records stands applies.
    commit_queued (g.D.Disk.reads c.args.self.now.disk) (g.D.Disk.images c.args.self.now.disk (g.D.Disk.moment c.args.self.now.disk)) c.args.self.now.work ledger stands c.queue.new.self c.args.changes.now records applies
    c.requires.some (omega (arith, c.requires.few)) c.in_ok-queue.ensures.valid (c.in_ok-queue.ensures.queued ledger.queued stands.queued_bytes stands.commits) c.in_ok-queue.ensures.commits
    c.queue.ensures.flight.0 c.queue.ensures.flight.1 c.queue.ensures.place.0 c.queue.ensures.place.1 c.queue.ensures.place.2
