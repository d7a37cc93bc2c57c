-- What a transaction changes in the plain store, by the marks that it left on entries.
use Rattle.std.specs.Prelude.{ℕ, Bool, true, false, not, ◌&&◌, ◌||◌, nat_eq, nat_lt, List, flat_map, Option, None, Some}
use Rattle.std.specs.Option.{option_to_list}
use Rattle.sp_plain.specs.declared.change.Change.{Change}
use Rattle.sp_plain.specs.declared.change.Change.TheVariants.{Put, Drop, Set}
use Rattle.sp_node.specs.declared.node.Entry.{Entry}
use Rattle.sp_node.specs.Marks.{is_made_by, is_ended_by, is_draft_of, is_done, drafted}
use Rattle.sp_txn.specs.Visible.{record_for}

-- the change by what the transaction did to the entry: whether it is dead, made by it, ended by it, drafted by it
abbrev pub change_by : ℕ → Entry → Bool → Bool → Bool → Bool → Option Change
change_by txn e true made ended draft = None
change_by txn e false true true draft = None
change_by txn e false true false draft = Some (Put (record_for txn e))
change_by txn e false false true draft = Some (Drop e.id)
change_by txn e false false false true = Some (Set e.id (drafted txn e.marks.draft e.value))
change_by txn e false false false false = None

-- a put of an entry that it made, a drop of one that it ended, a set of one that it gave a draft; none for what it both made and ended
abbrev pub change_of : ℕ → Entry → Option Change
change_of txn e = change_by txn e (is_done e.marks.ended) (is_made_by txn e.marks.made) (is_ended_by txn e.marks.ended) (is_draft_of txn e.marks.draft)

-- the changes in the order in which the entries stand
abbrev pub changes_of : ℕ → List Entry → List Change
changes_of txn es = flat_map (λ e. option_to_list (change_of txn e)) es

abbrev pub id_of : Change → ℕ
id_of (Put r) = r.id
id_of (Drop id) = id
id_of (Set id value) = id

abbrev pub is_drop : Change → Bool
is_drop (Put r) = false
is_drop (Drop id) = true
is_drop (Set id value) = false

-- the change stands before the other: by id, and of one id the drop first
abbrev pub precedes : Change → Change → Bool
precedes a b = nat_lt (id_of a) (id_of b) || (nat_eq (id_of a) (id_of b) && (is_drop a && not (is_drop b)))
