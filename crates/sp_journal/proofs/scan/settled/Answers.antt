use Rattle.std.proofs.Common.{sym, ◌∙◌}
use Rattle.std.proofs.lemmas.Result.{err_from_is_err_and}
use Rattle.sp_journal.proofs.Scans.{same_err, settled_is, behind_header, rests_here}
use Rattle.sp_journal.proofs.scan.settled.Goals as goal

pub returns-in_err-chain-clause-damaged : goal.returns-in_err-chain-clause-damaged
returns-in_err-chain-clause-damaged g c = λ at told size kind damaged.
    let is = settled_is (g.D.Disk.reads c.args.disk.now) c.args.version c.args.generation kind in
    let p = err_from_is_err_and c.from_residual.result c.from_residual.ensures.1 in
    let from = c.in_err-chain.ensures.damaged c.args.version at told size is.header (behind_header (g.D.Disk.reads c.args.disk.now) c.args.version c.args.generation is) in
    from (same_err c.in_err-chain.field-0.0 p.0 _ p.2 c.from_residual.result p.1 damaged)

pub returns-clause-scan : goal.returns-clause-scan
returns-clause-scan g c = λ told size kind.
    let file = g.D.Disk.reads c.args.disk.now in
    let is = settled_is file c.args.version c.args.generation kind in
    let ended = c.in_ok-chain.ensures.ended c.args.version told size is.header (behind_header file c.args.version c.args.generation is) in
    record {
      kind = kind;
      held = (ended.0, ended.1, ended.2.generation ∙ c.in_ok-chain.ensures.generation, ended.2.found ∙ sym c.in_ok-recovered.ensures.found, rests_here file c.in_ok-chain.chain c.args.version c.args.generation ended.0 ended.1 (ended.2.generation ∙ c.in_ok-chain.ensures.generation) is ended.2);
    }
