use Rattle.std.proofs.Common.{◌++◌, ◌∷◌, List, ℕ, drop, get_or, ◌∙◌, ap, arith}
use Rattle.sp_journal.specs.Kinds.{empty}
use Rattle.sp_journal.proofs.Heads.{behind_front, is_foreign}
use Rattle.sp_journal.proofs.kind.kind_of.Goals as goal

pub returns-then-len-le17-clause-kind : goal.returns-then-len-le17-clause-kind
returns-then-len-le17-clause-kind c = λ file size front. let low = c.if-len-le17.true in empty (omega arith)

pub returns-in-Some-clause-kind : goal.returns-in-Some-clause-kind
returns-in-Some-clause-kind c = λ file size front.
    let high = c.if-len-le17.false in
    let is = front (omega arith) in
    c.kind_with.ensures file (drop 17 file) (omega arith) c.in-Some.ensures.some.0 (behind_front file c.args.front.now (omega arith) is ∙ ap (λ (l : List ℕ). l ++ get_or c.args.front.now 16 0 ∷ drop 17 file) c.in-Some.ensures.some.1)

pub returns-in-None-clause-kind : goal.returns-in-None-clause-kind
returns-in-None-clause-kind c = λ file size front. let high = c.if-len-le17.false in is_foreign file c.args.front.now (omega arith) (front (omega arith)) c.in-None.ensures.none
