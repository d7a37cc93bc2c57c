-- What each step of the reading gives.
use Rattle.std.specs.Prelude.{ℕ, ◌*◌, ◌/◌, max, Bool, true, ◌==◌, ◌&&◌, not, nat_le, nat_lt, List, [], ◌∷◌, length, bytes_eq, codes, decimal, Option, Some, None, is_none, is_some, unwrap_or, if◌then◌else◌}
use Rattle.std.specs.List.{position_or_len, before_first, after_first}
use Rattle.std.specs.Option.{option_and_then, option_map}
use Rattle.std.specs.Str.Parse.{digits_value, without_leading_plus}
use Rattle.sp_node.specs.declared.node.Shape.{Shape}
use Rattle.sp_command.specs.declared.options.Key.{Key}
use Rattle.sp_command.specs.declared.options.Key.TheVariants.{Journal, Max, Min, Seed, Count}
use Rattle.sp_command.specs.declared.options.Options.{Options}
use Rattle.sp_command.specs.declared.reader.Reader.{Reader}
use Rattle.sp_command.specs.declared.words.Command.{Command}
use Rattle.sp_command.specs.declared.words.Command.TheVariants.{Play, Drill, Dump, Check, Compact, Make, Stress}
use Rattle.sp_command.specs.declared.task.Run.{Run}
use Rattle.sp_command.specs.declared.task.Task.{Task}
use Rattle.sp_command.specs.declared.task.Task.TheVariants.{Play as PlayIt, Drill as DrillIt, Dump as DumpIt, Check as CheckIt, Compact as CompactIt, Make as MakeIt, Stress as StressIt}
use Rattle.sp_command.specs.Names.{is_name}
use Rattle.sp_command.specs.Grammar.{unset}

-- the number that the digits of the word write
abbrev pub value_of : List ℕ → ℕ
value_of word = digits_value 10 (without_leading_plus word)

-- that number, where the word is how it is written and it is in the range
unfoldable pub number_of : ℕ → ℕ → List ℕ → Option ℕ
number_of least most word =
    if bytes_eq (decimal (value_of word)) word && nat_le least (value_of word) && nat_le (value_of word) most then Some (value_of word) else None

abbrev pub free_number : Bool → ℕ → ℕ → List ℕ → Option ℕ
free_number is_set least most word = if is_set then None else number_of least most word

abbrev pub free_name : Bool → List ℕ → Option (List ℕ)
free_name is_set word = if is_set then None else (if is_name word then Some word else None)

unfoldable pub put_in : Key → List ℕ → Options → Option Options
put_in Journal word o = option_map (λ n. record o { journal = Some n }) (free_name (is_some o.journal) word)
put_in Max word o = option_map (λ n. record o { max = Some n }) (free_number (is_some o.max) 4 64 word)
put_in Min word o = option_map (λ n. record o { min = Some n }) (free_number (is_some o.min) 2 32 word)
put_in Seed word o = option_map (λ n. record o { seed = Some n }) (free_number (is_some o.seed) 1 2147483646 word)
put_in Count word o = option_map (λ n. record o { count = Some n }) (free_number (is_some o.count) 0 10000 word)

unfoldable pub key_of : List ℕ → Option Key
key_of word = if bytes_eq word (codes "--journal") then Some Journal
    else (if bytes_eq word (codes "--max") then Some Max
    else (if bytes_eq word (codes "--min") then Some Min
    else (if bytes_eq word (codes "--seed") then Some Seed
    else (if bytes_eq word (codes "--count") then Some Count else None))))

abbrev pub settled : Options → Reader
settled o = record { options = o; pending = None }

abbrev pub waiting : Options → Key → Reader
waiting o key = record { options = o; pending = Some key }

abbrev pub with_audit : Options → Option Reader
with_audit o = if o.audit then None else Some (settled (record o { audit = true }))

abbrev pub with_value : Options → Key → List ℕ → Option Reader
with_value o key word = option_map settled (put_in key word o)

-- an option and its value in one word
abbrev pub with_joined : Options → List ℕ → List ℕ → Option Reader
with_joined o name word = option_and_then (λ key. with_value o key word) (key_of name)

abbrev pub is_equals : ℕ → Bool
is_equals b = b == 61

unfoldable pub next_option : Options → List ℕ → Option Reader
next_option o word = if nat_lt (position_or_len is_equals word) (length word)
    then with_joined o (before_first is_equals word) (after_first is_equals word) else option_map (waiting o) (key_of word)

unfoldable pub next_open : Options → List ℕ → Option Reader
next_open o word = if bytes_eq word (codes "--audit") then with_audit o else next_option o word

abbrev pub next_after : Option Key → Options → List ℕ → Option Reader
next_after None o word = next_open o word
next_after (Some key) o word = with_value o key word

abbrev pub next : Reader → List ℕ → Option Reader
next r word = next_after r.pending r.options word

abbrev pub steps : Reader → List (List ℕ) → Option Reader
steps r [] = Some r
steps r (word ∷ words) = option_and_then (λ s. steps s words) (next r word)

-- the options, where none waits for its value
abbrev pub finished : Reader → Option Options
finished r = if is_none r.pending then Some r.options else None

abbrev pub options_in : List (List ℕ) → Option Options
options_in words = option_and_then finished (steps (settled unset) words)

unfoldable pub shape_of : Option ℕ → Option ℕ → Option Shape
shape_of most least =
    let m = unwrap_or most 16 in let k = unwrap_or least (max 2 (2 * m / 5)) in
    if nat_le k (m / 2) then Some (record { max = m; min = k }) else None

unfoldable pub command_of : List ℕ → Option Command
command_of word = if bytes_eq word (codes "play") then Some Play
    else (if bytes_eq word (codes "drill") then Some Drill
    else (if bytes_eq word (codes "dump") then Some Dump
    else (if bytes_eq word (codes "check") then Some Check
    else (if bytes_eq word (codes "compact") then Some Compact
    else (if bytes_eq word (codes "make") then Some Make
    else (if bytes_eq word (codes "stress") then Some Stress else None))))))

abbrev pub is_without_script : Options → Bool
is_without_script o = is_none o.seed && is_none o.count

abbrev pub is_without_sizes : Options → Bool
is_without_sizes o = is_none o.max && is_none o.min

abbrev pub is_without_run : Options → Bool
is_without_run o = is_none o.journal && not o.audit

abbrev pub run_of : Options → Option Run
run_of o = if is_without_script o
    then option_map (λ shape. record { journal = o.journal; shape = shape; audit = o.audit }) (shape_of o.max o.min) else None

abbrev pub journal_of : Options → Option (List ℕ)
journal_of o = if is_without_script o && is_without_sizes o && not o.audit then o.journal else None

abbrev pub make_of : Options → Option Task
make_of o = if is_without_run o && is_without_sizes o
    then option_and_then (λ s. option_map (λ k. MakeIt s k) o.count) o.seed else None

abbrev pub stress_of : Options → Option Task
stress_of o = if is_without_run o
    then option_and_then (λ s. option_and_then (λ k. option_map (λ shape. StressIt s k shape) (shape_of o.max o.min)) o.count) o.seed else None

abbrev pub task_of : Command → Options → Option Task
task_of Play o = option_map PlayIt (run_of o)
task_of Drill o = option_map DrillIt (run_of o)
task_of Dump o = option_map DumpIt (journal_of o)
task_of Check o = option_map CheckIt (journal_of o)
task_of Compact o = option_map CompactIt (journal_of o)
task_of Make o = make_of o
task_of Stress o = stress_of o

abbrev pub task_in : List (List ℕ) → Option Task
task_in [] = None
task_in (word ∷ words) = option_and_then (λ command. option_and_then (task_of command) (options_in words)) (command_of word)
