-- What a script was played to, in six numbers.
use Rattle.std.specs.Prelude.{Bool, true, false, List, length, filter}
use Rattle.sp_rect.specs.Serial.{after_all}
use Rattle.sp_event.specs.declared.answer.Answer.{Answer}
use Rattle.sp_event.specs.declared.answer.Answer.TheVariants.{Waits, Refused}
use Rattle.sp_text.specs.declared.types.Item.{Item}
use Rattle.sp_text.specs.declared.types.Item.TheVariants.{Told, Stepped}
use Rattle.sp_audit.specs.History.{History}
use Rattle.sp_script.specs.declared.summary.Summary.{Summary}

-- a command waits
unfoldable pub says_waits : Answer → Bool
says_waits (Waits name mode sessions) = true
says_waits answer = false

-- a command is refused
unfoldable pub says_refused : Answer → Bool
says_refused (Refused why) = true
says_refused answer = false

-- the item answers a line of its own; a late one doesn't
unfoldable pub is_of_line : Item → Bool
is_of_line (Told session command answer true) = false
is_of_line (Stepped event answer true) = false
is_of_line item = true

-- the item tells an answer of that sort
unfoldable pub tells_such : (Answer → Bool) → Item → Bool
tells_such such (Told session command answer late) = such answer
tells_such such item = false

-- the summary of these items and this audit
abbrev pub summary_of : List Item → History → Summary
summary_of items audit = record {
  lines = length (filter is_of_line items);
  commits = length audit.commits;
  waits = length (filter (tells_such says_waits) items);
  deadlocks = length audit.ended;
  refused = length (filter (tells_such says_refused) items);
  records = length (after_all audit.base audit.commits);
}
