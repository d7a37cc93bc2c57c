-- The task that the words say, and which tasks are scripts and on files.
use Rattle.std.proofs.Common.{◌≡◌, inl, inr, ℕ, List, Option, Some, None, refl, sym, ap, ◌∙◌, subst}
use Rattle.std.specs.Prelude.{◌↔◌, unwrap_or}
use Rattle.sp_node.specs.declared.node.Shape.{Shape}
use Rattle.sp_command.specs.declared.task.Run.{Run}
use Rattle.sp_command.specs.declared.task.Task.{Task}
use Rattle.sp_command.specs.declared.task.Task.TheVariants.{Play, Drill, Dump, Check, Compact, Make, Stress}
use Rattle.sp_command.specs.Grammar.{Says}
use Rattle.sp_runs.specs.declared.language.Language.{Language}
use Rattle.sp_runs.specs.declared.language.Language.TheVariants.{Commands, Events}
use Rattle.spatial.specs.Commands.{script_task, KeepsIn, IsOnFiles, NamesJournal}

module _ (words : List (List ℕ)) (o : Option Task) (task : Task) (says : (x : Task) → (o ≡ Some x) ↔ Says words x) (is : o ≡ Some task) where
  pub said : (t : Task) → Says words t → task ≡ t
  said t h = ap (λ (x : Option Task). unwrap_or x task) (sym is ∙ (says t).1 h)

  pub says_it : (t : Task) → task ≡ t → Says words t
  says_it t e = (says t).0 (is ∙ ap Some e)

  pub on_files : (name : List ℕ) → NamesJournal words name → IsOnFiles name task
  on_files name h = subst (λ (t : Task). IsOnFiles name t) (sym (said h.0 h.1)) h.2

  pub names_journal : (name : List ℕ) → IsOnFiles name task → NamesJournal words name
  names_journal name h = (task, says_it task refl, h)

-- a script of commands is one run so
pub is_play : (language : Language) (run other : Run) → Play run ≡ script_task language other → (language ≡ Commands) × (run ≡ other)
is_play Commands run other h = (refl, cc)
is_play Events run other h = absurd (never h)
  where
    never : Play run ≡ Drill other → ⊥
    never e = cc

-- a script of events is one run so
pub is_drill : (language : Language) (run other : Run) → Drill run ≡ script_task language other → (language ≡ Events) × (run ≡ other)
is_drill Events run other h = (refl, cc)
is_drill Commands run other h = absurd (never h)
  where
    never : Drill run ≡ Play other → ⊥
    never e = cc

-- no other task is a script
pub dump_is_none : (name : List ℕ) (language : Language) (run : Run) → Dump name ≡ script_task language run → ⊥
dump_is_none name Commands run h = cc
dump_is_none name Events run h = cc

pub check_is_none : (name : List ℕ) (language : Language) (run : Run) → Check name ≡ script_task language run → ⊥
check_is_none name Commands run h = cc
check_is_none name Events run h = cc

pub compact_is_none : (name : List ℕ) (language : Language) (run : Run) → Compact name ≡ script_task language run → ⊥
compact_is_none name Commands run h = cc
compact_is_none name Events run h = cc

pub make_is_none : (seed count : ℕ) (language : Language) (run : Run) → Make seed count ≡ script_task language run → ⊥
make_is_none seed count Commands run h = cc
make_is_none seed count Events run h = cc

pub stress_is_none : (seed count : ℕ) (shape : Shape) (language : Language) (run : Run) → Stress seed count shape ≡ script_task language run → ⊥
stress_is_none seed count shape Commands run h = cc
stress_is_none seed count shape Events run h = cc

module _ (name : List ℕ) (run : Run) where
  -- a script of commands is on files exactly where it keeps its commits in them
  pub play_keeps : IsOnFiles name (Play run) → run.journal ≡ Some name
  play_keeps (inl e) = absurd (never e)
    where
      never : Play run ≡ Dump name → ⊥
      never h = cc
  play_keeps (inr (inl e)) = absurd (never e)
    where
      never : Play run ≡ Check name → ⊥
      never h = cc
  play_keeps (inr (inr (inl e))) = absurd (never e)
    where
      never : Play run ≡ Compact name → ⊥
      never h = cc
  play_keeps (inr (inr (inr k))) = ap (λ (r : Run). r.journal) (is_play k.0 run k.1 k.2).1 ∙ k.3

  pub keeps_play : run.journal ≡ Some name → IsOnFiles name (Play run)
  keeps_play e = inr (inr (inr (Commands, run, refl, e)))

  -- and so is one of events
  pub drill_keeps : IsOnFiles name (Drill run) → run.journal ≡ Some name
  drill_keeps (inl e) = absurd (never e)
    where
      never : Drill run ≡ Dump name → ⊥
      never h = cc
  drill_keeps (inr (inl e)) = absurd (never e)
    where
      never : Drill run ≡ Check name → ⊥
      never h = cc
  drill_keeps (inr (inr (inl e))) = absurd (never e)
    where
      never : Drill run ≡ Compact name → ⊥
      never h = cc
  drill_keeps (inr (inr (inr k))) = ap (λ (r : Run). r.journal) (is_drill k.0 run k.1 k.2).1 ∙ k.3

  pub keeps_drill : run.journal ≡ Some name → IsOnFiles name (Drill run)
  keeps_drill e = inr (inr (inr (Events, run, refl, e)))

-- make and stress are on no files
pub make_keeps_none : (seed count : ℕ) (name : List ℕ) → IsOnFiles name (Make seed count) → ⊥
make_keeps_none seed count name (inl e) = cc
make_keeps_none seed count name (inr (inl e)) = cc
make_keeps_none seed count name (inr (inr (inl e))) = cc
make_keeps_none seed count name (inr (inr (inr k))) = make_is_none seed count k.0 k.1 k.2

pub stress_keeps_none : (seed count : ℕ) (shape : Shape) (name : List ℕ) → IsOnFiles name (Stress seed count shape) → ⊥
stress_keeps_none seed count shape name (inl e) = cc
stress_keeps_none seed count shape name (inr (inl e)) = cc
stress_keeps_none seed count shape name (inr (inr (inl e))) = cc
stress_keeps_none seed count shape name (inr (inr (inr k))) = stress_is_none seed count shape k.0 k.1 k.2

-- what holds of the run of a script of commands holds of every run that the task asks for
pub for_play : (P : Language → Run → Type 0) (task : Task) (own : Run) → task ≡ Play own → P Commands own → (language : Language) (run : Run) → task ≡ script_task language run → P language run
for_play P task own is h language run asks =
    let e = is_play language own run (sym is ∙ asks) in
    subst (λ (l : Language). P l run) (sym e.0) (subst (λ (r : Run). P Commands r) e.1 h)

-- and so of one of events
pub for_drill : (P : Language → Run → Type 0) (task : Task) (own : Run) → task ≡ Drill own → P Events own → (language : Language) (run : Run) → task ≡ script_task language run → P language run
for_drill P task own is h language run asks =
    let e = is_drill language own run (sym is ∙ asks) in
    subst (λ (l : Language). P l run) (sym e.0) (subst (λ (r : Run). P Events r) e.1 h)

unkept : (o : Option (List ℕ)) → ((name : List ℕ) → o ≡ Some name → ⊥) → o ≡ None
unkept None none = refl
unkept (Some name) none = absurd (none name refl)

-- a script that is on no files keeps its commits in none
pub play_unkept : (task : Task) (run : Run) → task ≡ Play run → ((name : List ℕ) → IsOnFiles name task → ⊥) → run.journal ≡ None
play_unkept task run is none = unkept run.journal (λ name e. none name (subst (λ (t : Task). IsOnFiles name t) (sym is) (keeps_play name run e)))

pub drill_unkept : (task : Task) (run : Run) → task ≡ Drill run → ((name : List ℕ) → IsOnFiles name task → ⊥) → run.journal ≡ None
drill_unkept task run is none = unkept run.journal (λ name e. none name (subst (λ (t : Task). IsOnFiles name t) (sym is) (keeps_drill name run e)))
