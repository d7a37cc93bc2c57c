-- The grammar of command lines: a relation between words and what they ask for.
use Rattle.std.specs.Prelude.{◌≡◌, ℕ, ◌*◌, ◌/◌, ◌≤◌, max, Bool, true, false, List, [], ◌∷◌, ◌++◌, codes, decimal, Option, Some, None, unwrap_or}
use Rattle.sp_node.specs.declared.node.Shape.{Shape}
use Rattle.sp_command.specs.declared.options.Key.{Key}
use Rattle.sp_command.specs.declared.options.Key.TheVariants.{Journal, Max, Min, Seed, Count}
use Rattle.sp_command.specs.declared.options.Options.{Options}
use Rattle.sp_command.specs.declared.words.Command.{Command}
use Rattle.sp_command.specs.declared.words.Command.TheVariants.{Play, Drill, Dump, Check, Compact, Make, Stress}
use Rattle.sp_command.specs.declared.task.Task.{Task}
use Rattle.sp_command.specs.declared.task.Task.TheVariants.{Play as PlayIt, Drill as DrillIt, Dump as DumpIt, Check as CheckIt, Compact as CompactIt, Make as MakeIt, Stress as StressIt}
use Rattle.sp_command.specs.Names.{is_name}

abbrev pub command_word : Command → List ℕ
command_word Play = codes "play"
command_word Drill = codes "drill"
command_word Dump = codes "dump"
command_word Check = codes "check"
command_word Compact = codes "compact"
command_word Make = codes "make"
command_word Stress = codes "stress"

abbrev pub key_word : Key → List ℕ
key_word Journal = codes "--journal"
key_word Max = codes "--max"
key_word Min = codes "--min"
key_word Seed = codes "--seed"
key_word Count = codes "--count"

-- options that are given by name
abbrev pub options : Option (List ℕ) → Option ℕ → Option ℕ → Bool → Option ℕ → Option ℕ → Options
options j most least a s k = record { journal = j; max = most; min = least; audit = a; seed = s; count = k }

-- no option is given
abbrev pub unset : Options
unset = options None None None false None None

-- the word writes the number, which is in the range; `decimal` has no sign and no leading zero
abbrev pub Writes : ℕ → ℕ → ℕ → List ℕ → Type 0
Writes least most n word = (least ≤ n) × (n ≤ most) × (word ≡ decimal n)

-- the option is set to what the word says; it was not set before
abbrev pub Sets : Key → List ℕ → Options → Options → Type 0
Sets Journal word old new = (is_name word ≡ true) × (old.journal ≡ None) × (new ≡ record old { journal = Some word })
Sets Max word old new = (n : ℕ) × Writes 4 64 n word × (old.max ≡ None) × (new ≡ record old { max = Some n })
Sets Min word old new = (n : ℕ) × Writes 2 32 n word × (old.min ≡ None) × (new ≡ record old { min = Some n })
Sets Seed word old new = (n : ℕ) × Writes 1 2147483646 n word × (old.seed ≡ None) × (new ≡ record old { seed = Some n })
Sets Count word old new = (n : ℕ) × Writes 0 10000 n word × (old.count ≡ None) × (new ≡ record old { count = Some n })

-- The words, option after option, lead from the old options to the new ones.
pub data Leads : Options → List (List ℕ) → Options → Type 0 where
  none : (o : Options) → Leads o [] o
  -- `--max 4`
  apart : (key : Key) (word : List ℕ) (words : List (List ℕ)) (o p q : Options) → Sets key word o p → Leads p words q → Leads o (key_word key ∷ word ∷ words) q
  -- `--max=4`
  joined : (key : Key) (word : List ℕ) (words : List (List ℕ)) (o p q : Options) → Sets key word o p → Leads p words q → Leads o ((key_word key ++ codes "=" ++ word) ∷ words) q
  audit : (words : List (List ℕ)) (o q : Options) → o.audit ≡ false → Leads (record o { audit = true }) words q → Leads o (codes "--audit" ∷ words) q

-- the sizes of nodes: 16 and the larger of 2 and two fifths where none are given, and the least at most half of the greatest
abbrev pub HasSizes : Option ℕ → Option ℕ → Shape → Type 0
HasSizes most least shape =
    (shape.max ≡ unwrap_or most 16) × (shape.min ≡ unwrap_or least (max 2 (2 * shape.max / 5))) × (shape.min ≤ shape.max / 2)

-- What a command asks for with these options: no others may stand, and those without a default must.
pub data Asks : Command → Options → Task → Type 0 where
  play : (j : Option (List ℕ)) (most least : Option ℕ) (a : Bool) (shape : Shape) → HasSizes most least shape
      → Asks Play (options j most least a None None) (PlayIt (record { journal = j; shape = shape; audit = a }))
  drill : (j : Option (List ℕ)) (most least : Option ℕ) (a : Bool) (shape : Shape) → HasSizes most least shape
      → Asks Drill (options j most least a None None) (DrillIt (record { journal = j; shape = shape; audit = a }))
  dump : (j : List ℕ) → Asks Dump (options (Some j) None None false None None) (DumpIt j)
  check : (j : List ℕ) → Asks Check (options (Some j) None None false None None) (CheckIt j)
  compact : (j : List ℕ) → Asks Compact (options (Some j) None None false None None) (CompactIt j)
  make : (s k : ℕ) → Asks Make (options None None None false (Some s) (Some k)) (MakeIt s k)
  stress : (s k : ℕ) (most least : Option ℕ) (shape : Shape) → HasSizes most least shape
      → Asks Stress (options None most least false (Some s) (Some k)) (StressIt s k shape)

-- the words say the task: a command's word, and then options in any order
pub data Says : List (List ℕ) → Task → Type 0 where
  says : (command : Command) (words : List (List ℕ)) (o : Options) (task : Task)
      → Leads unset words o → Asks command o task → Says (command_word command ∷ words) task
