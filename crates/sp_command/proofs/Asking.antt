-- What a command asks for with its options, and what is made of them.
use Rattle.std.proofs.Common.{◌≡◌, ℕ, ◌*◌, ◌/◌, ◌≤◌, max, Bool, true, false, List, Option, Some, None, refl, sym, ap, ◌∙◌, subst, cond}
use Rattle.std.specs.Prelude.{nat_le, unwrap_or}
use Rattle.std.specs.Option.{option_map}
use Rattle.std.proofs.lemmas.Option.{none-some, same_Some}
use Rattle.sp_node.specs.declared.node.Shape.{Shape}
use Rattle.sp_command.specs.declared.options.Options.{Options}
use Rattle.sp_command.specs.declared.words.Command.{Command}
use Rattle.sp_command.specs.declared.words.Command.TheVariants.{Play, Drill, Dump, Check, Compact, Make, Stress}
use Rattle.sp_command.specs.declared.task.Run.{Run}
use Rattle.sp_command.specs.declared.task.Task.{Task}
use Rattle.sp_command.specs.declared.task.Task.TheVariants.{Play as PlayIt, Drill as DrillIt, Dump as DumpIt, Check as CheckIt, Compact as CompactIt, Stress as StressIt}
use Rattle.sp_command.specs.Grammar.{options, HasSizes, Asks, play, drill, dump, check, compact, make, stress}
use Rattle.sp_command.specs.Reading.{shape_of, run_of, journal_of, make_of, stress_of, task_of}
use Rattle.sp_command.proofs.Settings.{mapped, picked}
use Rattle.sp_command.proofs.Joining.{chosen}
use Rattle.sp_command.proofs.Numerals.{at_most, is_at_most}

shape_of-sizes : (most least : Option ℕ) (shape : Shape) → shape_of most least ≡ Some shape → HasSizes most least shape
unfolding shape_of
shape_of-sizes most least shape e =
    let m = unwrap_or most 16 in let k = unwrap_or least (max 2 (2 * m / 5)) in
    picked (nat_le k (m / 2)) (record { max = m; min = k }) shape None e
    (λ fits same. subst (λ (s : Shape). HasSizes most least s) same (refl, refl, at_most k (m / 2) fits)) (λ miss. absurd (none-some shape miss))

made : (m k : ℕ) (shape : Shape) → m ≡ shape.max → k ≡ shape.min → shape.min ≤ shape.max / 2
    → cond (nat_le k (m / 2)) (Some (record { max = m; min = k })) None ≡ Some shape
made m k shape p q fits = rw (p, q) (chosen _ _ _ (is_at_most shape.min (shape.max / 2) fits))

sizes-shape_of : (most least : Option ℕ) (shape : Shape) → HasSizes most least shape → shape_of most least ≡ Some shape
unfolding shape_of
sizes-shape_of most least shape sizes =
    let top : unwrap_or most 16 ≡ shape.max = sym sizes.0 in
    made _ _ shape top (ap (λ m. unwrap_or least (max 2 (2 * m / 5))) top ∙ sym sizes.1) sizes.2

run-parts : (j : Option (List ℕ)) (most least : Option ℕ) (a : Bool) (s k : Option ℕ) (r : Run) → run_of (options j most least a s k) ≡ Some r
    → (s ≡ None) × (k ≡ None) × HasSizes most least r.shape × (r ≡ record { journal = j; shape = r.shape; audit = a })
run-parts j most least a None None r e = mapped _ (shape_of most least) r e (λ shape is same.
    let P : Run → Type 0 = λ t. HasSizes most least t.shape × (t ≡ record { journal = j; shape = t.shape; audit = a }) in
    let parts : P r = subst P same (shape_of-sizes most least shape is, refl) in (refl, refl, parts.0, parts.1))
run-parts j most least a None (Some k) r e = absurd (none-some r e)
run-parts j most least a (Some s) k r e = absurd (none-some r e)

journal-parts : (j : Option (List ℕ)) (most least : Option ℕ) (a : Bool) (s k : Option ℕ) (name : List ℕ) → journal_of (options j most least a s k) ≡ Some name
    → options j most least a s k ≡ options (Some name) None None false None None
journal-parts j None None false None None name e = ap (λ n. options n None None false None None) e
journal-parts j None None true None None name e = absurd (none-some name e)
journal-parts j None (Some l) a None None name e = absurd (none-some name e)
journal-parts j (Some m) least a None None name e = absurd (none-some name e)
journal-parts j most least a None (Some k) name e = absurd (none-some name e)
journal-parts j most least a (Some s) k name e = absurd (none-some name e)

make-asks : (j : Option (List ℕ)) (most least : Option ℕ) (a : Bool) (s k : Option ℕ) (task : Task) → make_of (options j most least a s k) ≡ Some task
    → Asks Make (options j most least a s k) task
make-asks None None None false (Some s) (Some k) task e = subst (λ (t : Task). Asks Make (options None None None false (Some s) (Some k)) t) (same_Some _ task e) (make s k)
make-asks None None None false (Some s) None task e = absurd (none-some task e)
make-asks None None None false None k task e = absurd (none-some task e)
make-asks None None (Some l) false s k task e = absurd (none-some task e)
make-asks None (Some m) least false s k task e = absurd (none-some task e)
make-asks None most least true s k task e = absurd (none-some task e)
make-asks (Some j) most least a s k task e = absurd (none-some task e)

stress-asks : (j : Option (List ℕ)) (most least : Option ℕ) (a : Bool) (s k : Option ℕ) (task : Task) → stress_of (options j most least a s k) ≡ Some task
    → Asks Stress (options j most least a s k) task
stress-asks None most least false (Some s) (Some k) task e = mapped _ (shape_of most least) task e (λ shape is same.
    subst (λ (t : Task). Asks Stress (options None most least false (Some s) (Some k)) t) same (stress s k most least shape (shape_of-sizes most least shape is)))
stress-asks None most least false (Some s) None task e = absurd (none-some task e)
stress-asks None most least false None k task e = absurd (none-some task e)
stress-asks None most least true s k task e = absurd (none-some task e)
stress-asks (Some j) most least a s k task e = absurd (none-some task e)

without_script : (o : Options) → o.seed ≡ None → o.count ≡ None → options o.journal o.max o.min o.audit None None ≡ o
without_script o s k =
    ap (λ n. options o.journal o.max o.min o.audit n None) (sym s) ∙ ap (λ n. options o.journal o.max o.min o.audit o.seed n) (sym k)

pub task_of-asks : (command : Command) (o : Options) (task : Task) → task_of command o ≡ Some task → Asks command o task
task_of-asks Play o task e = mapped PlayIt (run_of o) task e (λ r is same.
    let parts = run-parts o.journal o.max o.min o.audit o.seed o.count r is in
    let start = without_script o parts.0 parts.1 in
    let run : PlayIt (record { journal = o.journal; shape = r.shape; audit = o.audit }) ≡ task = ap PlayIt (sym parts.3) ∙ same in
    subst (λ (p : Options). Asks Play p task) start (subst (λ (t : Task). Asks Play (options o.journal o.max o.min o.audit None None) t) run
    (play o.journal o.max o.min o.audit r.shape parts.2)))
task_of-asks Drill o task e = mapped DrillIt (run_of o) task e (λ r is same.
    let parts = run-parts o.journal o.max o.min o.audit o.seed o.count r is in
    let start = without_script o parts.0 parts.1 in
    let run : DrillIt (record { journal = o.journal; shape = r.shape; audit = o.audit }) ≡ task = ap DrillIt (sym parts.3) ∙ same in
    subst (λ (p : Options). Asks Drill p task) start (subst (λ (t : Task). Asks Drill (options o.journal o.max o.min o.audit None None) t) run
    (drill o.journal o.max o.min o.audit r.shape parts.2)))
task_of-asks Dump o task e = mapped DumpIt (journal_of o) task e (λ name is same.
    let only = journal-parts o.journal o.max o.min o.audit o.seed o.count name is in
    subst (λ (p : Options). Asks Dump p task) (sym only) (subst (λ (t : Task). Asks Dump (options (Some name) None None false None None) t) same (dump name)))
task_of-asks Check o task e = mapped CheckIt (journal_of o) task e (λ name is same.
    let only = journal-parts o.journal o.max o.min o.audit o.seed o.count name is in
    subst (λ (p : Options). Asks Check p task) (sym only) (subst (λ (t : Task). Asks Check (options (Some name) None None false None None) t) same (check name)))
task_of-asks Compact o task e = mapped CompactIt (journal_of o) task e (λ name is same.
    let only = journal-parts o.journal o.max o.min o.audit o.seed o.count name is in
    subst (λ (p : Options). Asks Compact p task) (sym only) (subst (λ (t : Task). Asks Compact (options (Some name) None None false None None) t) same (compact name)))
task_of-asks Make o task e = make-asks o.journal o.max o.min o.audit o.seed o.count task e
task_of-asks Stress o task e = stress-asks o.journal o.max o.min o.audit o.seed o.count task e

pub asks-task_of : (command : Command) (o : Options) (task : Task) → Asks command o task → task_of command o ≡ Some task
asks-task_of _ _ _ (play j most least a shape sizes) =
    ap (λ s. option_map PlayIt (option_map (λ (shape : Shape). record { journal = j; shape = shape; audit = a }) s)) (sizes-shape_of most least shape sizes)
asks-task_of _ _ _ (drill j most least a shape sizes) =
    ap (λ s. option_map DrillIt (option_map (λ (shape : Shape). record { journal = j; shape = shape; audit = a }) s)) (sizes-shape_of most least shape sizes)
asks-task_of _ _ _ (dump j) = refl
asks-task_of _ _ _ (check j) = refl
asks-task_of _ _ _ (compact j) = refl
asks-task_of _ _ _ (make s k) = refl
asks-task_of _ _ _ (stress s k most least shape sizes) = ap (option_map (λ shape. StressIt s k shape)) (sizes-shape_of most least shape sizes)
