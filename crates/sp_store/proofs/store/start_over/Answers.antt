use Rattle.sp_journal.specs.Recovery.{Holds}
use Rattle.sp_pair.proofs.Roles.{to_roles}
use Rattle.sp_store.proofs.Coming.{refused_over}
use Rattle.sp_store.proofs.Stopping.{since_started}
use Rattle.sp_store.proofs.Versions.{begins_renewed}
use Rattle.sp_store.proofs.store.start_over.Goals as goal

pub returns-in-Ok-clause-over : goal.returns-in-Ok-clause-over
returns-in-Ok-clause-over g c = λ told current.
    let started = c.in-Ok.ensures.started told in
    let was = c.args.chosen in
    record {
      found = started.found;
      recovered = to_roles was.is_alt current.0 current.1 (g.D.Disk.reads was.current) (g.D.Disk.reads was.other) current.2 (Holds started.found) started.recovered;
      opened = started.opened;
    }

pub returns-in-Err-clause-refused : goal.returns-in-Err-clause-refused
returns-in-Err-clause-refused g c = λ told current.
    let was = c.args.chosen in
    refused_over was.is_alt current.0 current.1 (g.D.Disk.reads was.current) (g.D.Disk.reads was.other) _ current.2 c.in-Err.error c.refusal_of.result c.refusal_of.ensures (c.in-Err.ensures.refused told)

pub returns-in-Ok-clause-beside : goal.returns-in-Ok-clause-beside
returns-in-Ok-clause-beside g c = λ told current only. record {
  current = g.D.Disk.reads c.args.chosen.current;
  version = current.0;
  generation = current.1;
  chosen = current.2;
  kept = c.in-Ok.ensures.kept told;
  other_only = only;
}

pub returns-in-Ok-clause-crash : goal.returns-in-Ok-clause-crash
returns-in-Ok-clause-crash g c = λ main alt told current since.
    let D = g.D.Disk in
    let was = c.args.chosen in
    let law = g.met.D.Disk g.world.𝓛 g.world.𝓜 g.world.𝓡 ((λ s x. x), (λ x. x), (λ x. x), λ x. x) in
    since_started D.reads D.moment D.images main alt was.is_alt current.0 current.1 was.current was.other c.in-Ok.kernel.disk since current.2 (law.as_it_reads was.current told) (c.in-Ok.ensures.kinds told) (c.in-Ok.ensures.crash told)

pub returns-in-Ok-clause-version : goal.returns-in-Ok-clause-version
returns-in-Ok-clause-version g c = λ told renewed file left.
    let was = c.args.chosen in
    begins_renewed was.is_alt (g.D.Disk.reads was.current) (g.D.Disk.reads was.other) file renewed (c.in-Ok.ensures.begins told file left)
