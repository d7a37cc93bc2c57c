-- What the end of a transaction makes of its marks on an entry.
use Rattle.std.specs.Prelude.{ℕ, Bool, true, false, not, ◌&&◌, ◌||◌, List, cond, nat_eq}
use Rattle.sp_node.specs.declared.marks.Made.{Made}
use Rattle.sp_node.specs.declared.marks.Made.TheVariants.{Committed, By as MadeBy}
use Rattle.sp_node.specs.declared.marks.Ended.{Ended}
use Rattle.sp_node.specs.declared.marks.Ended.TheVariants.{Nobody, By as EndedBy, Done}
use Rattle.sp_node.specs.declared.marks.Draft.{Draft}
use Rattle.sp_node.specs.declared.marks.Draft.TheVariants.{None as NoDraft, Of}
use Rattle.sp_node.specs.declared.marks.Marks.{Marks}
use Rattle.sp_node.specs.declared.node.Entry.{Entry}

-- the transaction made it
abbrev pub is_made_by : ℕ → Made → Bool
is_made_by txn Committed = false
is_made_by txn (MadeBy t) = nat_eq t txn

-- the transaction ended it, and has not committed
abbrev pub is_ended_by : ℕ → Ended → Bool
is_ended_by txn Nobody = false
is_ended_by txn (EndedBy t) = nat_eq t txn
is_ended_by txn Done = false

-- the draft is the transaction's
abbrev pub is_draft_of : ℕ → Draft → Bool
is_draft_of txn NoDraft = false
is_draft_of txn (Of t value) = nat_eq t txn

abbrev pub is_committed : Made → Bool
is_committed Committed = true
is_committed (MadeBy t) = false

-- its end is final: it is dead
abbrev pub is_done : Ended → Bool
is_done Nobody = false
is_done (EndedBy t) = false
is_done Done = true

-- the marks name the transaction, and what bears them is not dead
abbrev pub bears : ℕ → Marks → Bool
bears txn m = (is_made_by txn m.made || is_ended_by txn m.ended || is_draft_of txn m.draft) && not (is_done m.ended)

-- the entry bears a mark of the transaction, and is not dead
abbrev pub is_marked : ℕ → Entry → Bool
is_marked txn e = bears txn e.marks

-- the value with a draft of the transaction in its place
abbrev pub drafted : ℕ → Draft → List ℕ → List ℕ
drafted txn NoDraft value = value
drafted txn (Of t draft) value = cond (nat_eq t txn) draft value

abbrev pub made_settled : ℕ → Made → Made
made_settled txn made = cond (is_made_by txn made) Committed made

abbrev pub ended_settled : ℕ → Ended → Ended
ended_settled txn ended = cond (is_ended_by txn ended) Done ended

abbrev pub ended_undone : ℕ → Made → Ended → Ended
ended_undone txn made ended = cond (is_made_by txn made) Done (cond (is_ended_by txn ended) Nobody ended)

-- the drafts of others
abbrev pub draft_left : ℕ → Draft → Draft
draft_left txn draft = cond (is_draft_of txn draft) NoDraft draft

-- a commit: what the transaction made is committed, what it ended is done, and its draft becomes the value
abbrev pub settled : ℕ → Entry → Entry
settled txn e = record {
  number = e.number;
  id = e.id;
  rect = e.rect;
  value = drafted txn e.marks.draft e.value;
  marks = record {
    made = made_settled txn e.marks.made;
    ended = ended_settled txn e.marks.ended;
    draft = draft_left txn e.marks.draft;
  };
}

-- a rollback: what the transaction made is done, what else it ended is ended by nobody, and its draft goes
abbrev pub undone : ℕ → Entry → Entry
undone txn e = record {
  number = e.number;
  id = e.id;
  rect = e.rect;
  value = e.value;
  marks = record {
    made = e.marks.made;
    ended = ended_undone txn e.marks.made e.marks.ended;
    draft = draft_left txn e.marks.draft;
  };
}

-- the entry with these marks
abbrev pub marked : Marks → Entry → Entry
marked marks e = record { number = e.number; id = e.id; rect = e.rect; value = e.value; marks = marks }
