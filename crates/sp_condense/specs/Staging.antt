-- A tree between the removal of an entry and the end: sound but for the size of its root, with orphans beside it. No
-- public clause speaks of it.
use Rattle.std.specs.Prelude.{◌≡◌, ℕ, ◌+◌, ◌*◌, ◌^◌, ◌<◌, ◌≤◌, ◌⊎◌, true, List, [], ◌∷◌, ◌++◌, length, map, Option, Some, None, is_some, nat_eq}
use Rattle.std.specs.List.{AllByRecursion, IsDistinct, flat_map, sum_by}
use Rattle.std.specs.Option.{IsSome}
use Rattle.sp_node.specs.declared.node.Entry.{Entry}
use Rattle.sp_node.specs.declared.node.Child.{Child}
use Rattle.sp_node.specs.declared.node.Node.{Node}
use Rattle.sp_node.specs.declared.node.Node.TheVariants.{Leaf, Inner}
use Rattle.sp_node.specs.declared.plan.Part.{Part}
use Rattle.sp_node.specs.declared.plan.Part.TheVariants.{Now, Gone}
use Rattle.sp_node.specs.Among.{Among}
use Rattle.sp_node.specs.Nested.{entries, AreSound, IsRootSize}
use Rattle.sp_node.specs.Look.{look}
use Rattle.sp_node.specs.declared.plan.Plan.{Plan}
use Rattle.sp_node.specs.Plan.{Differs, AreOrdered}
use Rattle.sp_node.specs.Table.{Table, body_at, Stands, IsShape, entries_of}
use Rattle.sp_split.specs.Split.{is_among}
use Rattle.sp_grow.specs.Below.{numbers}
use Rattle.sp_grow.specs.Nest.{Nest, nest}
use Rattle.sp_grow.specs.Overlay.{Overlay, table_of, unchanged, with_plan, with_one}
use Rattle.sp_grow.specs.Reached.{IsPart}
use Rattle.sp_condense.specs.declared.orphans.Orphan.{Orphan as Found}
use Rattle.sp_condense.specs.Removal.{Orphan, Inserts, collapsed}
use Rattle.sp_condense.specs.Taking.{AreFound, orphan_numbers}

abbrev pub orphan_entries : List Orphan → List Entry
orphan_entries os = flat_map (λ o. entries o.level (o.member ∷ [])) os

-- the numbers of the tree and of its orphans
abbrev pub all_numbers : (ℕ → Option Node) → ℕ → ℕ → List Orphan → List ℕ
all_numbers at root level orphans = numbers level root (body_at at level root) ++ orphan_numbers orphans

-- the tree t without e, of which some members are orphans still
pub record IsStage (t : Table) (e : Entry) (at : ℕ → Option Node) (root next level : ℕ) (orphans : List Orphan) : Type 0 where
  pub shape : IsShape t.shape
  pub stands : Stands at level root
  pub some : 0 < level → 0 < length (body_at at level root)
  pub most : length (body_at at level root) ≤ t.shape.max
  pub sound : AreSound t.shape level (body_at at level root)
  pub parts : AllByRecursion (λ o. IsPart t.shape o.level o.member) orphans
  pub distinct : IsDistinct nat_eq (all_numbers at root level orphans)
  pub low : AllByRecursion (λ n. n < next) (all_numbers at root level orphans)
  -- exactly these numbers have a node
  pub exact : (k : ℕ) → is_some (at k) ≡ is_among (all_numbers at root level orphans) k
  pub old : (k : ℕ) → is_among (all_numbers at root level orphans) k ≡ true → k < t.next → IsSome (look t.nodes k)
  pub onward : t.next ≤ next
  pub entry_sums : (w : Entry → ℕ) → sum_by w (entries level (body_at at level root)) + sum_by w (orphan_entries orphans) + w e ≡ sum_by w (entries_of t)
  -- each entry is one of t
  pub each : AllByRecursion (λ f. Among f (entries_of t)) (entries level (body_at at level root))
  pub each_orphan : AllByRecursion (λ f. Among f (entries_of t)) (orphan_entries orphans)
  -- numbers are left for the orphans
  pub room : next + 80 * length orphans < 2 ^ 63 + 2 ^ 33
  -- and few are used
  pub few : next + 80 * length orphans ≤ t.next + 2 ^ 32

abbrev pub at_of : Overlay → ℕ → Option Node
at_of o = look (table_of o).nodes

-- such a tree with changes on it, and its orphans as they were found
pub record Ready (e : Entry) (o : Overlay) (fs : List Found) (raised : ℕ) : Type 0 where
  pub level : ℕ
  pub top : ℕ
  pub orphans : List Orphan
  pub stage : IsStage o.before e (at_of o) o.plan.root o.plan.next level orphans
  pub found : AreFound (at_of o) top fs orphans
  pub raised_is : level ≡ top + raised

abbrev pub nest_of : (o : Overlay) → ℕ → Nest
nest_of o level = nest level o.plan.root o.plan.next (body_at (at_of o) level o.plan.root)

-- from one such tree to another, orphans are inserted
pub record Goes (e : Entry) (o o' : Overlay) (fs fs' : List Found) (raised raised' : ℕ) (r : Ready e o fs raised) : Type 0 where
  pub then : Ready e o' fs' raised'
  pub same : o'.before ≡ o.before
  pub onward : (m : Nest) → Inserts o.before.shape then.orphans (nest_of o' then.level) m → Inserts o.before.shape r.orphans (nest_of o r.level) m

-- how a turn counts the new roots
pub data Counts (before after raised raised' : ℕ) : Type 0 where
  stays : after ≡ before → raised' ≡ raised → Counts before after raised raised'
  rises : (after ≡ before → ⊥) → raised' ≡ raised + 1 → Counts before after raised raised'

-- the changes that a removal begins with
abbrev pub begun : Table → List Part → Node → Overlay
begun t parts node = with_one (with_plan (unchanged t) (record { parts = parts; root = t.root; next = t.next })) (Now t.root node)

-- the root is replaced by its one child, as often as it has one
pub record IsEnd (e : Entry) (o : Overlay) (level : ℕ) (o' : Overlay) : Type 0 where
  pub low : ℕ
  pub stage : IsStage o.before e (at_of o') o'.plan.root o'.plan.next low []
  pub same : o'.before ≡ o.before
  pub is : nest_of o' low ≡ collapsed level o.plan.root o.plan.next (body_at (at_of o) level o.plan.root)
  pub full : IsRootSize o.before.shape low (length (body_at (at_of o') low o'.plan.root))

-- the node has this one child
abbrev pub HasOnly : Overlay → ℕ → Type 0
HasOnly o child = (c : Child) × (c.node ≡ child) × (at_of o o.plan.root ≡ Some (Inner (c ∷ [])))

abbrev pub HasNotOne : Overlay → Type 0
HasNotOne o = (c : Child) → at_of o o.plan.root ≡ Some (Inner (c ∷ [])) → ⊥

-- the nodes have the same members, entries by their numbers
abbrev pub SameMembers : Node → Node → Type 0
SameMembers (Leaf es) (Leaf fs) = map (λ e. e.number) es ≡ map (λ e. e.number) fs
SameMembers (Leaf es) (Inner cs) = ⊥
SameMembers (Inner cs) (Leaf es) = ⊥
SameMembers (Inner cs) (Inner ds) = cs ≡ ds

-- the part says what stands already
abbrev pub Agrees : List (ℕ × Node) → Part → Type 0
Agrees nodes (Now k n) = (m : Node) × (look nodes k ≡ Some m) × SameMembers m n
Agrees nodes (Gone k) = look nodes k ≡ None

-- the part is put in front where it differs
abbrev pub IsKeptIf : List (ℕ × Node) → Part → List Part → List Part → Type 0
IsKeptIf nodes p old new = (Differs nodes p × (new ≡ p ∷ old)) ⊎ (Agrees nodes p × (new ≡ old))

-- those of the parts that differ
abbrev pub IsSettled : List (ℕ × Node) → List Part → List Part → Type 0
IsSettled nodes [] qs = qs ≡ []
IsSettled nodes (p ∷ ps) qs = (Differs nodes p × ((rs : List Part) × (qs ≡ p ∷ rs) × IsSettled nodes ps rs)) ⊎ (Agrees nodes p × IsSettled nodes ps qs)

-- the plan that is left of the changes
abbrev pub IsOutcome : List (ℕ × Node) → Overlay → Plan → Type 0
IsOutcome nodes o plan = (plan.root ≡ o.plan.root) × (plan.next ≡ o.plan.next) × IsSettled nodes o.plan.parts plan.parts × AreOrdered o.plan.parts
