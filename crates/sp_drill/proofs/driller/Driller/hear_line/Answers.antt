use Rattle.std.proofs.Common.{rules, [], ◌∷◌, subst}
use Rattle.std.specs.Io.KnownBytes.{Appends}
use Rattle.sp_text.specs.Texts.{item_text}
use Rattle.sp_text.specs.declared.form.Form.{Form}
use Rattle.sp_text.specs.declared.types.Item.TheVariants.{Bad}
use Rattle.sp_lines.specs.Keeping.{KeptAt}
use Rattle.sp_lines.proofs.Results.{err_along}
use Rattle.sp_drill.proofs.Joining.{stops_none}
use Rattle.sp_drill.proofs.Going.{ok_both, goes_bad}
use Rattle.sp_drill.proofs.Stopping.{stops_bad}
use Rattle.sp_drill.proofs.driller.Driller.hear_line.Goals as goal

pub returns-in-Err-Bad-clause-goes : goal.returns-in-Err-Bad-clause-goes
returns-in-Err-Bad-clause-goes g c = ok_both _ _ _ _ (λ kept wrote.
    goes_bad g.D.Disk.tells g.D.Disk.takes_memory g.D.Disk.faults g.D.Disk.moment g.D.Disk.images c.args.line.now c.in-Err-Bad.session c.in-Err-Bad.bad c.args.self.now.scribe c.keep.new.self c.args.kernel.now (g.K.Sink.taken c.args.sink.now) (g.K.Sink.taken c.keep.new.sink) (search rules) kept
    (subst (λ (form : Form). Appends (g.K.Sink.taken c.args.sink.now) (g.K.Sink.taken c.keep.new.sink) (item_text form (Bad c.in-Err-Bad.session c.in-Err-Bad.bad))) c.requires.form wrote))
    c.keep.ensures.items c.keep.ensures.written

pub returns-in-Err-Bad-clause-stops : goal.returns-in-Err-Bad-clause-stops
returns-in-Err-Bad-clause-stops g c = err_along _ _ _ (λ fault kept.
    stops_bad g.D.Disk.tells g.D.Disk.takes_memory g.D.Disk.faults g.D.Disk.moment g.D.Disk.images fault c.args.line.now c.in-Err-Bad.session c.in-Err-Bad.bad c.args.self.now.scribe c.keep.new.self c.args.kernel.now (g.K.Sink.taken c.args.sink.now) (g.K.Sink.taken c.keep.new.sink) (search rules)
    (subst (λ (form : Form). KeptAt fault form c.args.self.now.scribe.items c.keep.new.self.items (Bad c.in-Err-Bad.session c.in-Err-Bad.bad) (g.K.Sink.taken c.args.sink.now) (g.K.Sink.taken c.keep.new.sink)) c.requires.form kept))
    c.keep.ensures.stops

pub returns-in-Err-Memory-clause-stops : goal.returns-in-Err-Memory-clause-stops
returns-in-Err-Memory-clause-stops g c = stops_none g.D.Disk.tells g.D.Disk.takes_memory g.D.Disk.faults g.D.Disk.moment g.D.Disk.images (c.args.line.now ∷ []) [] c.args.self.now.scribe c.args.kernel.now (g.K.Sink.taken c.args.sink.now)
