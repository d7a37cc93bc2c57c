use Rattle.std.proofs.Common.{◌≡◌, ℕ, ◌↔◌, List, Option, Some, None, refl, sym, ◌∙◌}
use Rattle.std.specs.Prelude.{Result, Ok, Err, IfOk, IfSome}
use Rattle.sp_command.specs.declared.task.Task.{Task}
use Rattle.sp_command.specs.Bounds.{IsBounded}
use Rattle.sp_command.specs.Grammar.{Says}
use Rattle.sp_command.specs.Reading.{task_in}
use Rattle.sp_command.proofs.Meaning.{task_in-Says}
use Rattle.sp_command.proofs.Ranges.{Says-fit}
use Rattle.sp_command.proofs.words.read_words.Goals as goal

exact : {E : Type 0} (words : List (List ℕ)) (r : Result (Option Task) E) → IfOk r (λ o. o ≡ task_in words)
    → IfOk r (λ o. (task : Task) → (o ≡ Some task) ↔ Says words task)
exact words (Err e) is = is
exact words (Ok o) is = λ task. let means = task_in-Says words task in ((λ e. means.0 (sym is ∙ e)), (λ s. is ∙ means.1 s))

fit : {E : Type 0} (words : List (List ℕ)) (r : Result (Option Task) E) → IfOk r (λ o. (task : Task) → (o ≡ Some task) ↔ Says words task)
    → IfOk r (λ o. IfSome o IsBounded)
fit words (Err e) means = means
fit words (Ok None) means = tt
fit words (Ok (Some task)) means = Says-fit words task ((means task).0 refl)

pub returns-clause-says : goal.returns-clause-says
returns-clause-says c = exact c.args.words.now c.task_in.result c.task_in.ensures

pub returns-clause-bounded : goal.returns-clause-bounded
returns-clause-bounded c = fit c.args.words.now c.task_in.result (exact c.args.words.now c.task_in.result c.task_in.ensures)
