-- Items that are kept, and their texts that are written.
use Rattle.std.specs.Prelude.{◌≡◌, ℕ, List, [], ◌∷◌, ◌++◌, map, Option}
use Rattle.std.specs.Io.KnownBytes.{Appends}
use Rattle.sp_io.specs.Streams.{AppendsFront}
use Rattle.sp_text.specs.Grammar.{said}
use Rattle.sp_text.specs.declared.form.Form.{Form}
use Rattle.sp_text.specs.Texts.{render, item_text}
use Rattle.sp_text.specs.Transcripts.{heard}
use Rattle.sp_text.specs.declared.types.Item.{Item}
use Rattle.sp_lines.specs.declared.fault.Fault.{Fault}
use Rattle.sp_lines.specs.declared.fault.Fault.TheVariants.{Write, Disk, Memory}

-- what a scribe has: the form of its texts, and the items that it has kept
pub record Notes : Type 0 where
  pub form : Form
  pub items : List Item

-- What was written of a text before a fault: a front of it where a write failed, and otherwise all of it.
abbrev pub WrittenAt : Fault → Option (List ℕ) → Option (List ℕ) → List ℕ → Type 0
WrittenAt Write old new text = AppendsFront old new text
WrittenAt Disk old new text = Appends old new text
WrittenAt Memory old new text = Appends old new text

-- An item at a fault: where memory ran out it was neither kept nor written; where a write failed it was kept, and a front of its text written.
abbrev pub KeptAt : Fault → Form → List Item → List Item → Item → Option (List ℕ) → Option (List ℕ) → Type 0
KeptAt Write form before after item old new = (after ≡ before ++ item ∷ []) × AppendsFront old new (item_text form item)
KeptAt Disk form before after item old new = ⊥
KeptAt Memory form before after item old new = (after ≡ before) × Appends old new []

-- These items came behind the old ones. They are those of these lines, but for late ones, and their texts were written.
pub record Hears (form : Form) (lines : List (List ℕ)) (items before after : List Item) (old new : Option (List ℕ)) : Type 0 where
  pub kept : after ≡ before ++ items
  pub heard_as : heard form items ≡ map (said form) lines
  pub written : Appends old new (render form items)

-- these items are those of some first ones of these lines, but for late ones
pub record HeardFront (form : Form) (lines : List (List ℕ)) (items : List Item) : Type 0 where
  pub front : List (List ℕ)
  pub unanswered : List (List ℕ)
  pub parts : lines ≡ front ++ unanswered
  pub heard_as : heard form items ≡ map (said form) front

-- The same as Hears up to a fault.
pub record HearsUntil (fault : Fault) (form : Form) (lines : List (List ℕ)) (items before after : List Item) (old new : Option (List ℕ)) : Type 0 where
  pub kept : after ≡ before ++ items
  pub heard_as : HeardFront form lines items
  pub written : WrittenAt fault old new (render form items)
