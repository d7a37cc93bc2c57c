-- No number of an audit is a float, so its text is told.
use Rattle.std.proofs.Common.{◌≡◌, ℤ, pos, negsuc, false, List, [], ◌∷◌, map, refl}
use Rattle.serde_json.specs.Data.{Data}
use Rattle.serde_json.specs.Find.{is_float, of_integer}
use Rattle.serde_json.specs.Written.{has_float}
use Rattle.sp_rect.specs.declared.record.Record.{Record}
use Rattle.sp_rect.specs.declared.operation.Op.{Op}
use Rattle.sp_rect.specs.declared.operation.Op.TheVariants.{Put, Drop, Set, Get, Find, Fill, Clear}
use Rattle.sp_rect.specs.declared.operation.Reply.{Reply}
use Rattle.sp_rect.specs.declared.operation.Reply.TheVariants.{Done, Exists, Absent, Rec, Found, Count}
use Rattle.sp_rect.specs.declared.operation.Answered.{Answered}
use Rattle.sp_rect.specs.declared.commit.Commit.{Commit}
use Rattle.sp_audit.specs.declared.ended.Ended.{Ended}
use Rattle.sp_audit.specs.History.{History}
use Rattle.sp_audit.specs.Line.{listed, record_told, op_told, reply_told, pair_told, commit_told, edge_told, ended_told, audit_told}

abbrev pub HasNone : Data → Type 0
HasNone d = has_float d ≡ false

integer : (z : ℤ) → is_float (of_integer z) ≡ false
integer (pos n) = refl
integer (negsuc n) = refl

in_map : {T : Type 0} (f : T → Data) → ((x : T) → HasNone (f x)) → (xs : List T) → HasNone (listed (map f xs))
in_map f h [] = refl
in_map f h (x ∷ xs) = rw (h x) (in_map f h xs)

in_record : (r : Record) → HasNone (record_told r)
in_record r = rw (integer r.rect.x1, integer r.rect.y1, integer r.rect.x2, integer r.rect.y2) refl

in_op : (op : Op) → HasNone (op_told op)
in_op (Put r) = rw (integer r.rect.x1, integer r.rect.y1, integer r.rect.x2, integer r.rect.y2) refl
in_op (Drop id) = refl
in_op (Set id value) = refl
in_op (Get id) = refl
in_op (Find r) = rw (integer r.x1, integer r.y1, integer r.x2, integer r.y2) refl
in_op (Fill r value) = rw (integer r.x1, integer r.y1, integer r.x2, integer r.y2) refl
in_op (Clear r) = rw (integer r.x1, integer r.y1, integer r.x2, integer r.y2) refl

in_reply : (reply : Reply) → HasNone (reply_told reply)
in_reply Done = refl
in_reply Exists = refl
in_reply Absent = refl
in_reply (Rec r) = rw (integer r.rect.x1, integer r.rect.y1, integer r.rect.x2, integer r.rect.y2) refl
in_reply (Found records) = rw (in_map record_told in_record records) refl
in_reply (Count n) = refl

in_pair : (p : Answered) → HasNone (pair_told p)
in_pair p = rw (in_op p.op, in_reply p.reply) refl

in_commit : (c : Commit) → HasNone (commit_told c)
in_commit c = rw (in_map pair_told in_pair c.ops) refl

in_ended : (e : Ended) → HasNone (ended_told e)
in_ended e = rw (in_map edge_told (λ _. refl) e.cycle) refl

pub in_audit : (a : History) → HasNone (audit_told a)
unfolding audit_told
in_audit a = rw (in_map record_told in_record a.base, in_map commit_told in_commit a.commits, in_map ended_told in_ended a.ended) refl
