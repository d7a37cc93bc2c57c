-- How what is said is written: a good line has just these words.
use Rattle.std.specs.Prelude.{ℕ, List, [], ◌∷◌, ◌++◌, Some, None, codes, decimal}
use Rattle.std.specs.Fmt.{signed_decimal}
use Rattle.sp_rect.specs.Plane.{Rectangle}
use Rattle.sp_rect.specs.declared.operation.Op.{Op}
use Rattle.sp_rect.specs.declared.operation.Op.TheVariants.{Put, Drop, Set, Get, Find, Fill, Clear}
use Rattle.sp_event.specs.declared.event.Event.{Event}
use Rattle.sp_event.specs.declared.event.Event.TheVariants.{Begin as BeginEvent, Start, Name, Plan, Ask, Apply, Commit as CommitEvent, Flush, Rollback as RollbackEvent, Clean}
use Rattle.sp_text.specs.Names.{script_name}
use Rattle.sp_text.specs.declared.types.Command.{Command}
use Rattle.sp_text.specs.declared.types.Command.TheVariants.{Begin, Do, Commit, Rollback}
use Rattle.sp_text.specs.declared.types.Said.{Said}
use Rattle.sp_text.specs.declared.types.Said.TheVariants.{Do as Tells, Step}

abbrev pub corner_texts : Rectangle → List (List ℕ)
corner_texts r = signed_decimal r.x1 ∷ signed_decimal r.y1 ∷ signed_decimal r.x2 ∷ signed_decimal r.y2 ∷ []

abbrev pub operation_words : Op → List (List ℕ)
operation_words (Put r) = codes "put" ∷ decimal r.id ∷ corner_texts r.rect ++ r.value ∷ []
operation_words (Drop id) = codes "drop" ∷ decimal id ∷ []
operation_words (Set id value) = codes "set" ∷ decimal id ∷ value ∷ []
operation_words (Get id) = codes "get" ∷ decimal id ∷ []
operation_words (Find rect) = codes "find" ∷ corner_texts rect
operation_words (Fill rect value) = codes "fill" ∷ corner_texts rect ++ value ∷ []
operation_words (Clear rect) = codes "clear" ∷ corner_texts rect

abbrev pub command_words : Command → List (List ℕ)
command_words Begin = codes "begin" ∷ []
command_words (Do op) = operation_words op
command_words Commit = codes "commit" ∷ []
command_words Rollback = codes "rollback" ∷ []

abbrev pub event_words : Event → List (List ℕ)
event_words (BeginEvent s) = script_name s ∷ codes "begin" ∷ []
event_words (Start s op) = script_name s ∷ codes "start" ∷ operation_words op
event_words (Name s) = script_name s ∷ codes "name" ∷ []
event_words (Plan s) = script_name s ∷ codes "plan" ∷ []
event_words (Ask s) = script_name s ∷ codes "ask" ∷ []
event_words (Apply s) = script_name s ∷ codes "apply" ∷ []
event_words (CommitEvent s) = script_name s ∷ codes "commit" ∷ []
event_words (RollbackEvent s) = script_name s ∷ codes "rollback" ∷ []
event_words Flush = codes "flush" ∷ []
event_words Clean = codes "clean" ∷ []

abbrev pub said_words : Said → List (List ℕ)
said_words (Tells None command) = command_words command
said_words (Tells (Some session) command) = script_name session ∷ command_words command
said_words (Step event) = event_words event
