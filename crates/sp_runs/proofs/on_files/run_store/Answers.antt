use Rattle.std.proofs.Common.{Bool, IsTrue, refl, sym, subst}
use Rattle.sp_journal.proofs.Kinding.{run_keeps_version}
use Rattle.sp_pair.specs.Compacting.{first_of, second_of}
use Rattle.sp_runs.proofs.Holding.{since_pair, now_pair, opening_pair}
use Rattle.sp_runs.proofs.Roles.{faulted}
use Rattle.sp_runs.proofs.on_files.run_store.Goals as goal

pub returns-clause-over : goal.returns-clause-over
returns-clause-over g c = λ told main alt shape opened beside opening version.
    let R = g.D.Disk.reads in
    let M = g.D.Disk.moment in
    let I = g.D.Disk.images in
    let b = c.args.store.is_alt in
    let other = c.args.store.other in
    let start = c.args.store.kernel in
    let last = c.run-transcript.new.kernel in
    let since = c.run-transcript.ensures.crash told in
    let kinds = c.run-transcript.ensures.kinds told in
    let now = c.audit-left.ensures.left (subst (λ (b : Bool). IsTrue b) (sym c.run-transcript.ensures.tells) told) in
    record {
      found = opened.found;
      recovered = opened.recovered;
      start = start.kernel;
      opened = opened.opened;
      sound = c.audit-begins.ensures.sound;
      last = last.kernel;
      runs = c.run-transcript.ensures.runs opened.opened.sessions;
      audited = record { base = c.finish-audit.ensures.base; commits = c.finish-audit.ensures.commits; ended = c.finish-audit.ensures.ended };
      kept = record {
        is_alt = b;
        first = start.disk;
        current = last.disk;
        other = other;
        main_is = c.finish-audit.ensures.main;
        alt_is = c.finish-audit.ensures.alt;
        begins = c.audit-begins.ensures.left told;
        since = since;
        now = now;
        pair = record {
          was_main = main;
          was_alt = alt;
          main_held = refl;
          alt_held = refl;
          since = opening;
          opening = λ i j file file' low high low' high' left left'.
              opening_pair shape opened.found start.kernel (R main) (R alt) (first_of b file file') (second_of b file file') opened.recovered opened.opened (opening.each i j file file' low high low' high' ((since.past i file high).0 left) left');
          running = λ i j file file' low high low' high' left left'.
              since_pair b (R other) (M start.disk) (M last.disk) (I start.disk) (I last.disk) (I other (M other)) beside kinds c.args.language start.kernel last.kernel since i file file' low high left (opening.other_only j file' low' high' left');
          now = λ j file file' low' high' left left'.
              now_pair b (R other) (M start.disk) (M last.disk) (I start.disk) (I last.disk) (I other (M other)) beside kinds last.kernel file file' since.later left (opening.other_only j file' low' high' left') (now file left);
        };
        header = run_keeps_version 2 (M start.disk) (M last.disk) (I start.disk) (I last.disk) kinds version;
      };
    }

pub returns-clause-disk_fault : goal.returns-clause-disk_fault
returns-clause-disk_fault g c = λ free ends.
    faulted g.D.Disk.faults c.args.store.is_alt c.args.store.kernel.disk c.run-transcript.new.kernel.disk c.args.store.other c.finish-audit.result.1.main c.finish-audit.result.1.alt c.finish-audit.ensures.main c.finish-audit.ensures.alt (c.run-transcript.ensures.disk_fault free ends)
