use Rattle.std.proofs.Common.{◌∙◌, ◌∷◌, ◌++◌, [], sym, subst}
use Rattle.sp_ending.specs.Opposing.{IsLeast, IsLeastOf}
use Rattle.sp_ending.proofs.Opposition.{least-same, least-first, least-more}
use Rattle.sp_ending.proofs.opposing.lesser.Goals as goal

pub returns-then-not-is_against : goal.returns-then-not-is_against
returns-then-not-is_against c = λ rows is. least-same c.args.mode rows c.args.row.now c.args.least (sym c.is_against.ensures ∙ c.if-not-is_against.true) is

pub returns-in-Some : goal.returns-in-Some
returns-in-Some c = λ rows is.
    subst (IsLeastOf c.args.mode (rows ++ c.args.row.now ∷ [])) (sym c.min.ensures)
    (least-more c.args.mode rows c.args.row.now c.in-Some.session (sym c.is_against.ensures ∙ c.if-not-is_against.false) (subst (IsLeast c.args.mode rows) c.in-Some.is is))

pub returns-in-None : goal.returns-in-None
returns-in-None c = λ rows is. least-first c.args.mode rows c.args.row.now (sym c.is_against.ensures ∙ c.if-not-is_against.false) (subst (IsLeast c.args.mode rows) c.in-None.is is)
