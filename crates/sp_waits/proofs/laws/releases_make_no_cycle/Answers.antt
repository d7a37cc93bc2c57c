use Rattle.sp_waits.proofs.Acyclic.{release_all-acyclic, release_short-acyclic}
use Rattle.sp_waits.proofs.laws.releases_make_no_cycle.Goals as goal

pub returns-clause-all : goal.returns-clause-all
returns-clause-all c = release_all-acyclic

pub returns-clause-short : goal.returns-clause-short
returns-clause-short c = release_short-acyclic
