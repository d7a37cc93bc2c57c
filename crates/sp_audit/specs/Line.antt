-- The text of an audit: one line of compact JSON, the keys of an object in alphabetical order.
use Rattle.std.specs.Prelude.{ℕ, ℤ, ◌∷◌, [], ◌++◌, List, if◌then◌else◌, map, codes}
use Rattle.serde_json.specs.Data.{Data, number, unsigned, string, array, object, member, no_members}
use Rattle.serde_json.specs.Find.{of_integer}
use Rattle.serde_json.specs.View.{items_of}
use Rattle.serde_json.specs.Written.{compact_text}
use Rattle.sp_rect.specs.Plane.{Rectangle}
use Rattle.sp_rect.specs.declared.record.Record.{Record}
use Rattle.sp_rect.specs.declared.operation.Op.{Op}
use Rattle.sp_rect.specs.declared.operation.Op.TheVariants.{Put, Drop, Set, Get, Find, Fill, Clear}
use Rattle.sp_rect.specs.declared.operation.Reply.{Reply}
use Rattle.sp_rect.specs.declared.operation.Reply.TheVariants.{Done, Exists, Absent, Rec, Found, Count}
use Rattle.sp_rect.specs.declared.operation.Answered.{Answered}
use Rattle.sp_rect.specs.declared.commit.Commit.{Commit}
use Rattle.sp_locks.specs.declared.mode.Mode.{Mode}
use Rattle.sp_locks.specs.declared.mode.Mode.TheVariants.{IS, IX, S, SIX, X}
use Rattle.sp_locks.specs.declared.row.Name.{Name}
use Rattle.sp_locks.specs.declared.row.Name.TheVariants.{Granule, Object}
use Rattle.sp_waits.specs.declared.edge.Edge.{Edge}
use Rattle.sp_audit.specs.declared.ended.Ended.{Ended}
use Rattle.sp_audit.specs.History.{History}

-- a list, a number, a signed number
abbrev pub listed : List Data → Data
listed ds = array (items_of ds)

abbrev pub whole : ℕ → Data
whole n = number (unsigned n)

abbrev pub signed : ℤ → Data
signed z = number (of_integer z)

-- the four corners of a rectangle
abbrev pub corners_told : Rectangle → List Data
corners_told r = signed r.x1 ∷ signed r.y1 ∷ signed r.x2 ∷ signed r.y2 ∷ []

-- [id,x1,y1,x2,y2,"value"]
abbrev pub record_told : Record → Data
record_told r = listed ((whole r.id ∷ corners_told r.rect) ++ string r.value ∷ [])

-- the word of the operation, and what it takes
abbrev pub op_told : Op → Data
op_told (Put r) = listed ((string (codes "put") ∷ whole r.id ∷ corners_told r.rect) ++ string r.value ∷ [])
op_told (Drop id) = listed (string (codes "drop") ∷ whole id ∷ [])
op_told (Set id value) = listed (string (codes "set") ∷ whole id ∷ string value ∷ [])
op_told (Get id) = listed (string (codes "get") ∷ whole id ∷ [])
op_told (Find rect) = listed (string (codes "find") ∷ corners_told rect)
op_told (Fill rect value) = listed ((string (codes "fill") ∷ corners_told rect) ++ string value ∷ [])
op_told (Clear rect) = listed (string (codes "clear") ∷ corners_told rect)

-- the word of the reply, and what it gives
abbrev pub reply_told : Reply → Data
reply_told Done = listed (string (codes "done") ∷ [])
reply_told Exists = listed (string (codes "exists") ∷ [])
reply_told Absent = listed (string (codes "absent") ∷ [])
reply_told (Rec r) = listed (string (codes "rec") ∷ record_told r ∷ [])
reply_told (Found records) = listed (string (codes "found") ∷ listed (map record_told records) ∷ [])
reply_told (Count n) = listed (string (codes "count") ∷ whole n ∷ [])

-- [op,reply]
abbrev pub pair_told : Answered → Data
pair_told p = listed (op_told p.op ∷ reply_told p.reply ∷ [])

-- {"ops":[[op,reply], ...],"place":n,"seen":n,"session":n,"txn":n}
abbrev pub commit_told : Commit → Data
commit_told c =
    object (member (codes "ops") (listed (map pair_told c.ops)) (member (codes "place") (whole c.place) (member (codes "seen") (whole c.seen) (member (codes "session") (whole c.session) (member (codes "txn") (whole c.txn) no_members)))))

abbrev pub mode_word : Mode → List ℕ
mode_word IS = codes "IS"
mode_word IX = codes "IX"
mode_word S = codes "S"
mode_word SIX = codes "SIX"
mode_word X = codes "X"

abbrev pub kind_word : Name → List ℕ
kind_word (Granule n) = codes "granule"
kind_word (Object n) = codes "object"

abbrev pub number_of_name : Name → ℕ
number_of_name (Granule n) = n
number_of_name (Object n) = n

-- [from,to,"granule" or "object",number,"wanted","held" or "waiting","has"]
abbrev pub edge_told : Edge → Data
edge_told e =
    listed (whole e.from ∷ whole e.to ∷ string (kind_word e.name) ∷ whole (number_of_name e.name) ∷ string (mode_word e.wanted) ∷ string (if e.waiting then codes "waiting" else codes "held") ∷ string (mode_word e.has) ∷ [])

-- {"cycle":[edge, ...],"txn":n}
abbrev pub ended_told : Ended → Data
ended_told e = object (member (codes "cycle") (listed (map edge_told e.cycle)) (member (codes "txn") (whole e.txn) no_members))

-- {"base":[record, ...],"commits":[commit, ...],"ended":[ended, ...]}
unfoldable pub audit_told : History → Data
audit_told a =
    object (member (codes "base") (listed (map record_told a.base)) (member (codes "commits") (listed (map commit_told a.commits)) (member (codes "ended") (listed (map ended_told a.ended)) no_members)))

-- the line, with its LF
unfoldable pub audit_text : History → List ℕ
audit_text a = compact_text (audit_told a) ++ 10 ∷ []
