use Rattle.std.proofs.Common.{◌≡◌, ℕ, List, ◌++◌, codes, decimal, subst, ◌∙◌}
use Rattle.std.specs.Io.KnownBytes.{Appends}
use Rattle.sp_io.specs.Streams.{AppendsFront}
use Rattle.sp_runs.proofs.LastLine.{front_of, front_after, at_error, error_along}
use Rattle.sp_runs.proofs.ending.write_damaged.Goals as goal

pub returns-in_err-write_all-clause-front : goal.returns-in_err-write_all-clause-front
returns-in_err-write_all-clause-front g c =
    at_error c.from_residual.result _ (front_of (g.K.Sink.taken c.args.sink.now) (g.K.Sink.taken c.write_all.new.sink) (codes "! damaged ") (decimal c.args.offset ++ codes "\n") c.in_err-write_all.ensures.front)

pub returns-in_err-write_all-2-clause-front : goal.returns-in_err-write_all-2-clause-front
returns-in_err-write_all-2-clause-front g c =
    let a = g.K.Sink.taken c.args.sink.now in
    let b = g.K.Sink.taken c.write_all.new.sink in
    let d = g.K.Sink.taken c.write_all-2.new.sink in
    let is : c.as_bytes.result.now ≡ decimal c.args.offset = c.as_bytes.ensures.value ∙ c.format.ensures.text in
    let front : AppendsFront b d (decimal c.args.offset) = subst (λ (l : List ℕ). AppendsFront b d l) is c.in_err-write_all-2.ensures.front in
    at_error c.from_residual-in_err-write_all-2.result _ (front_after a b d (codes "! damaged ") (decimal c.args.offset ++ codes "\n") c.in_ok-write_all.ensures.written (front_of b d (decimal c.args.offset) (codes "\n") front))

pub returns-clause-front : goal.returns-clause-front
returns-clause-front g c =
    let a = g.K.Sink.taken c.args.sink.now in
    let b = g.K.Sink.taken c.write_all.new.sink in
    let d = g.K.Sink.taken c.write_all-2.new.sink in
    let e = g.K.Sink.taken c.write_all-3.new.sink in
    let is : c.as_bytes.result.now ≡ decimal c.args.offset = c.as_bytes.ensures.value ∙ c.format.ensures.text in
    let number : Appends b d (decimal c.args.offset) = subst (λ (l : List ℕ). Appends b d l) is c.in_ok-write_all-2.ensures.written in
    error_along c.write_all-3.result (AppendsFront d e (codes "\n")) _
    (λ front. front_after a b e (codes "! damaged ") (decimal c.args.offset ++ codes "\n") c.in_ok-write_all.ensures.written (front_after b d e (decimal c.args.offset) (codes "\n") number front))
    c.write_all-3.ensures.front
