use Rattle.sp_text.specs.declared.types.End.TheVariants.{Memory}
use Rattle.sp_runs.specs.Scripts.{form_of}
use Rattle.sp_runs.proofs.Telling.{from_told}
use Rattle.sp_runs.proofs.Unstarted.{reads_none}
use Rattle.sp_runs.proofs.in_memory.run_in_memory.Goals as goal

pub returns-in_default-clause-read : goal.returns-in_default-clause-read
returns-in_default-clause-read g c =
    reads_none (form_of c.args.language) (g.S.Source.left c.args.source.now) c.unstarted.result.transcript.end Memory c.unstarted.result.transcript.items c.unstarted.ensures.end tt c.unstarted.ensures.none.silent

pub returns-clause-told : goal.returns-clause-told
returns-clause-told g c =
    let kernel = c.in-Ok.kernel in
    from_told c.args.language c.args.shape _ c.run-transcript.result.end c.run-transcript.result.items c.finish-audit.result.0 (record {
      start = kernel.kernel;
      opened = c.in-Ok.ensures;
      sound = c.audit-begins.ensures.sound;
      last = c.run-transcript.new.kernel.kernel;
      runs = c.run-transcript.ensures.runs c.in-Ok.ensures.sessions;
      audited = record { base = c.finish-audit.ensures.base; commits = c.finish-audit.ensures.commits; ended = c.finish-audit.ensures.ended };
    })
