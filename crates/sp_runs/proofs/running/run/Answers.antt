use Rattle.std.proofs.Common.{◌≡◌, ℕ, List, false, sym, ap, subst, arith}
use Rattle.std.specs.Io.KnownBytes.{Appends}
use Rattle.sp_io.specs.Streams.{AppendsFront}
use Rattle.sp_text.specs.Texts.{render}
use Rattle.sp_runs.specs.Scripts.{form_of}
use Rattle.sp_runs.specs.Writing.{audit_line, last_line}
use Rattle.sp_runs.proofs.LastLine.{writes_all}
use Rattle.sp_runs.proofs.Lines.{same_line}
use Rattle.sp_runs.proofs.Shortening.{cut_runs}
use Rattle.sp_runs.proofs.running.run.Goals as goal

pub returns-clause-written : goal.returns-clause-written
returns-clause-written g c = λ audit is.
    let a = g.K.Sink.taken c.args.sink.now in
    let b = g.K.Sink.taken c.listen-items.new.sink in
    let d = g.K.Sink.taken c.tell_audit-end.new.sink in
    let e = g.K.Sink.taken c.write_last.new.sink in
    let told = c.tell_audit-end.ensures in
    let same = same_line c.args.audited c.listen-items.new.kernel.kernel c.audit.result.now audit (record { base = c.audit.ensures.base; commits = c.audit.ensures.commits; ended = c.audit.ensures.ended }) is in
    writes_all a b d e (g.K.Sink.write_faults c.args.sink.now) (g.K.Sink.write_faults c.tell_audit-end.new.sink) (g.K.Sink.write_faults c.write_last.new.sink) (render (form_of c.args.language) c.listen-items.result.items) (audit_line c.args.audited audit)
    c.listen-items.result.end c.tell_audit-end.result told.short c.listen-items.ensures.written
    (λ now. subst (λ (l : List ℕ). Appends b d l) same (told.whole now))
    (λ was now. subst (λ (l : List ℕ). AppendsFront b d l) same (told.front was now))
    told.none
    (λ apart. ap g.K.Sink.taken (told.other apart))
    c.write_last.ensures.written (λ e. ap g.K.Sink.taken (c.write_last.ensures.none e)) (omega (arith, c.listen-items.ensures.later, told.later))

pub returns-clause-runs : goal.returns-clause-runs
returns-clause-runs g c = λ none.
    cut_runs c.args.language c.args.kernel.now.kernel c.listen-items.result.items c.listen-items.new.kernel.kernel c.listen-items.result.end c.tell_audit-end.result c.tell_audit-end.ensures.short
    c.listen-items.ensures.answers (c.listen-items.ensures.told none) c.listen-items.ensures.closed

pub returns-clause-handed : goal.returns-clause-handed
returns-clause-handed g c = λ e.
    subst (λ s. g.K.Sink.holds_back s ≡ false) (sym (c.write_last.ensures.none (ap last_line e))) (c.tell_audit-end.ensures.handed e)
