-- A plan: the nodes in which the tree after a change differs from the tree before.
use Rattle.std.specs.Prelude.{◌≡◌, ℕ, ◌+◌, ◌<◌, ◌≤◌, List, [], ◌∷◌, length, Option, Some, None, ltb, cond}
use Rattle.std.specs.List.{AllByRecursion, Contains}
use Rattle.std.specs.Option.{IsSome}
use Rattle.sp_node.specs.declared.node.Entry.{Entry}
use Rattle.sp_node.specs.declared.node.Node.{Node}
use Rattle.sp_node.specs.declared.plan.Part.{Part}
use Rattle.sp_node.specs.declared.plan.Part.TheVariants.{Now, Gone}
use Rattle.sp_node.specs.declared.plan.Plan.{Plan}
use Rattle.sp_node.specs.Look.{look, put_node, take_out, entries_in}
use Rattle.sp_node.specs.Known.{AreKnown, AreMarksNoted}
use Rattle.sp_node.specs.Table.{Table, IsValid, entries_of}

abbrev pub number_of : Part → ℕ
number_of (Now k n) = k
number_of (Gone k) = k

-- what the part leaves under its number
abbrev pub content : Part → Option Node
content (Now k n) = Some n
content (Gone k) = None

-- the part in front of those with larger numbers
abbrev pub put_part : List Part → Part → List Part
put_part [] p = p ∷ []
put_part (x ∷ xs) p = cond (ltb (number_of x) (number_of p)) (x ∷ put_part xs p) (p ∷ x ∷ xs)

abbrev pub with_part : List (ℕ × Node) → Part → List (ℕ × Node)
with_part nodes (Now k n) = put_node nodes k n
with_part nodes (Gone k) = take_out nodes k

abbrev pub with_parts : List (ℕ × Node) → List Part → List (ℕ × Node)
with_parts nodes [] = nodes
with_parts nodes (p ∷ ps) = with_part (with_parts nodes ps) p

-- the tree that a plan gives in place of t
abbrev pub planned : Table → Plan → Table
planned t plan = record { shape = t.shape; root = plan.root; next = plan.next; nodes = with_parts t.nodes plan.parts }

-- the numbers rise
abbrev pub AreOrdered : List Part → Type 0
AreOrdered [] = Unit {0}
AreOrdered (p ∷ ps) = AllByRecursion (λ q. number_of p < number_of q) ps × AreOrdered ps

-- the part names a node that the change makes, changes or drops
abbrev pub Differs : List (ℕ × Node) → Part → Type 0
Differs nodes (Now k n) = ¬ (look nodes k ≡ Some n)
Differs nodes (Gone k) = IsSome (look nodes k)

-- an entry number that both have names the same entry
abbrev pub SameEntries : List Entry → List Entry → Type 0
SameEntries before after = (e f : Entry) → Contains before e → Contains after f → e.number ≡ f.number → e ≡ f

-- a plan that was made of t
pub record IsMadeOf (t : Table) (plan : Plan) : Type 0 where
  pub valid : IsValid (planned t plan)
  pub next_kept : t.next ≤ plan.next
  -- a number that t has used names a node of t
  pub no_return : (k : ℕ) → k < t.next → IsSome (look (with_parts t.nodes plan.parts) k) → IsSome (look t.nodes k)
  pub same_entries : SameEntries (entries_of t) (entries_of (planned t plan))
  pub ordered : AreOrdered plan.parts
  -- each part differs from t; that each node that differs has a part, `planned` says
  pub differs : AllByRecursion (Differs t.nodes) plan.parts

-- how many entries the parts have
abbrev pub entry_count : List Part → ℕ
entry_count [] = 0
entry_count (p ∷ ps) = length (entries_in (content p)) + entry_count ps

-- the ids of the parts' entries have their room
abbrev pub AreNoted : List (ℕ × ℕ) → List Part → Type 0
AreNoted known parts = AllByRecursion (λ p. AreKnown known (entries_in (content p))) parts

-- the marks of the parts' entries have their room
abbrev pub ArePartsNoted : List (ℕ × ℕ) → List Part → Type 0
ArePartsNoted noted parts = AllByRecursion (λ p. AreMarksNoted noted (entries_in (content p))) parts

-- a tree with its room: for new nodes, for entries by number, for entries by id, and for marks by transaction and entry
pub record Roomy : Type 0 where
  pub table : Table
  pub node_room : ℕ
  pub entry_room : ℕ
  pub known : List (ℕ × ℕ)
  pub noted : List (ℕ × ℕ)

pub record HasRoom (t : Roomy) (plan : Plan) : Type 0 where
  pub nodes : length plan.parts ≤ t.node_room
  pub entries : entry_count plan.parts ≤ t.entry_room
  pub ids : AreNoted t.known plan.parts
  pub marks : ArePartsNoted t.noted plan.parts
