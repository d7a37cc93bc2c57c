-- What is read is what the grammar says.
use Rattle.std.proofs.Common.{◌≡◌, ◌↔◌, ℕ, List, [], ◌∷◌, Some, sym, ap, ◌∙◌, subst}
use Rattle.std.specs.Option.{option_and_then}
use Rattle.std.proofs.lemmas.Option.{none-some, option_and_then_some}
use Rattle.sp_command.specs.declared.task.Task.{Task}
use Rattle.sp_command.specs.Reading.{task_in, task_of, options_in, command_of, settled}
use Rattle.sp_command.specs.Grammar.{Says, says, Leads, unset}
use Rattle.sp_command.proofs.Settings.{command_of-word, command_of-is}
use Rattle.sp_command.proofs.Steps.{ended-leads, Leads-ended}
use Rattle.sp_command.proofs.Asking.{task_of-asks, asks-task_of}

task_in-said : (words : List (List ℕ)) (task : Task) → task_in words ≡ Some task → Says words task
task_in-said [] task e = absurd (none-some task e)
task_in-said (word ∷ words) task e =
    option_and_then_some (λ command. option_and_then (task_of command) (options_in words)) (command_of word) task e (λ command is rest.
    option_and_then_some (task_of command) (options_in words) task rest (λ o read asked.
    let led : Leads unset words o = ended-leads (settled unset) o words read in
    subst (λ (w : List ℕ). Says (w ∷ words) task) (sym (command_of-word word command is)) (says command words o task led (task_of-asks command o task asked))))

said-task_in : (words : List (List ℕ)) (task : Task) → Says words task → task_in words ≡ Some task
said-task_in _ task (says command words o _ led asked) =
    ap (option_and_then (λ c. option_and_then (task_of c) (options_in words))) (command_of-is command)
    ∙ ap (option_and_then (task_of command)) (Leads-ended unset o words led) ∙ asks-task_of command o task asked

pub task_in-Says : (words : List (List ℕ)) (task : Task) → (task_in words ≡ Some task) ↔ Says words task
task_in-Says words task = (task_in-said words task, said-task_in words task)
