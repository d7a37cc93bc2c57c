-- The steps of an insertion on a table of nodes, from the chosen leaf up. No public clause speaks of them.
use Rattle.std.specs.Prelude.{◌≡◌, ℕ, zero, suc, ◌+◌, ◌*◌, ◌^◌, ◌<◌, ◌≤◌, ◌⊎◌, true, false, List, [], ◌∷◌, ◌++◌, length, nat_eq, Option, Some, None}
use Rattle.std.specs.List.{flat_map, AllByRecursion, IsDistinct}
use Rattle.sp_rect.specs.Plane.{whole}
use Rattle.sp_rect.specs.Inside.{bound_of}
use Rattle.sp_node.specs.declared.node.Child.{Child as ChildOf}
use Rattle.sp_node.specs.declared.node.Node.{Node}
use Rattle.sp_node.specs.declared.node.Node.TheVariants.{Leaf, Inner}
use Rattle.sp_node.specs.declared.node.Shape.{Shape}
use Rattle.sp_node.specs.declared.plan.Part.{Part}
use Rattle.sp_node.specs.declared.plan.Plan.{Plan}
use Rattle.sp_node.specs.declared.plan.Part.TheVariants.{Now, Gone}
use Rattle.sp_node.specs.Nested.{Member, Body, Branch, AreSound}
use Rattle.sp_node.specs.Look.{look}
use Rattle.sp_node.specs.Plan.{with_parts, put_part, number_of, AreOrdered, Differs}
use Rattle.sp_node.specs.Table.{Table, body_at, Stands, IsShape}
use Rattle.std.specs.Option.{IsSome}
use Rattle.sp_split.specs.Split.{Splits, is_among}
use Rattle.sp_grow.specs.Insertion.{Outcome, one, two, Grows}
use Rattle.sp_grow.specs.Members.{rects_in, pick_node, put_left, goes_below}
use Rattle.sp_grow.specs.declared.member.Member.{Member as Item}
use Rattle.sp_grow.specs.declared.member.Member.TheVariants.{Entry, Child}
use Rattle.sp_grow.specs.declared.left.Left.{Left}
use Rattle.sp_grow.specs.declared.left.Left.TheVariants.{One, Two}
use Rattle.sp_grow.specs.declared.left.Draft.{Draft}
use Rattle.sp_grow.specs.declared.left.Step.{Step}

-- the numbers of a node and of those below it
abbrev pub numbers : (level : ℕ) → ℕ → Body level → List ℕ
numbers zero number es = number ∷ []
numbers (suc level) number branches = number ∷ flat_map (λ b. numbers level b.number b.body) branches

-- the numbers in a member of a node of this level
abbrev pub numbers_in : (k : ℕ) → Member k → List ℕ
numbers_in zero e = []
numbers_in (suc k) b = numbers k b.number b.body

-- a node of a tree, which stands at this level
pub record IsSpot (t : Table) (level number : ℕ) : Type 0 where
  pub shape : IsShape t.shape
  pub stands : Stands (look t.nodes) level number
  pub some : 0 < level → 0 < length (body_at (look t.nodes) level number)
  pub most : length (body_at (look t.nodes) level number) ≤ t.shape.max
  pub sound : AreSound t.shape level (body_at (look t.nodes) level number)
  pub low : level ≤ t.next
  pub distinct : IsDistinct nat_eq (numbers level number (body_at (look t.nodes) level number))
  pub below_next : AllByRecursion (λ n. n < t.next) (numbers level number (body_at (look t.nodes) level number))
  pub fresh : (k : ℕ) → t.next ≤ k → look t.nodes k ≡ None
  -- numbers are left for a split of each node on a way down, and a new root
  pub room : t.next + level + 2 < 2 ^ 64

-- a child with all that stands below it
abbrev pub branch_at : (ℕ → Option Node) → (level : ℕ) → ChildOf → Branch (Body level)
branch_at at level c = record { rect = c.rect; number = c.node; body = body_at at level c.node }

-- the node is where the way down ends: a leaf, or so many steps are made as a child goes down
abbrev pub IsHome : Node → Item → ℕ → Type 0
IsHome (Leaf es) item steps = Unit {0}
IsHome (Inner cs) item steps = goes_below item steps ≡ false

-- an entry is a member of level 0; a child is one of the level above its node's, and goes so many steps down
abbrev pub IsMember : Table → Item → (steps level : ℕ) → (k : ℕ) → Member k → Type 0
IsMember t (Entry e) steps level zero x = x ≡ e
IsMember t (Entry e) steps level (suc j) x = ⊥
IsMember t (Child c) steps level zero x = ⊥
IsMember t (Child c) steps level (suc j) x = (level ≡ steps + suc j) × (x ≡ branch_at (look t.nodes) j c) × Stands (look t.nodes) j c.node

-- what is inserted at or below a node of t is a member of level k, whose numbers do not stand there
pub record IsPlaced (t : Table) (item : Item) (steps level number k : ℕ) (x : Member k) : Type 0 where
  pub member : IsMember t item steps level k x
  pub free : (j : ℕ) → is_among (numbers_in k x) j ≡ true → (is_among (numbers level number (body_at (look t.nodes) level number)) j ≡ false) × (j < t.next)

-- A node is put under its number, or its two groups under that number and the next.
abbrev pub IsSettled : Shape → Draft → ℕ → Node → Left → Draft → Type 0
IsSettled shape draft number n (One a) after =
    (length (rects_in n) ≤ shape.max) × (a.node ≡ number) × (bound_of (rects_in n) ≡ Some a.rect) × (after.parts ≡ put_part draft.parts (Now number n)) × (after.next ≡ draft.next)
IsSettled shape draft number n (Two a b) after =
    (first : List ℕ) × (second : List ℕ) × (shape.max < length (rects_in n)) × Splits (rects_in n) shape.min first second
    × (a.node ≡ number) × (bound_of (rects_in (pick_node n first)) ≡ Some a.rect) × (b.node ≡ draft.next) × (bound_of (rects_in (pick_node n second)) ≡ Some b.rect)
    × (after.parts ≡ put_part (put_part draft.parts (Now number (pick_node n first))) (Now draft.next (pick_node n second))) × (after.next ≡ draft.next + 1)

-- The node of a child that is left as it was stays; any other is settled with what is left of that child.
abbrev pub IsStepped : Shape → ℕ → List ChildOf → ChildOf → List ChildOf → Step → Step → Type 0
IsStepped shape number front c back below after =
    ((below.left ≡ One c) × (after.draft ≡ below.draft) × ((a : ChildOf) × (after.left ≡ One a) × (a.node ≡ number) × (bound_of (rects_in (Inner (front ++ c ∷ back))) ≡ Some a.rect)))
    ⊎ (¬ (below.left ≡ One c) × IsSettled shape below.draft number (Inner (put_left front below.left back)) after.left after.draft)

-- what a root is when it is raised: the node that is left, or a new one above the two, with the next number
abbrev pub IsRaisedTo : Left → Draft → Plan → Type 0
IsRaisedTo (One a) draft plan = (plan.root ≡ a.node) × (plan.next ≡ draft.next) × (plan.parts ≡ draft.parts)
IsRaisedTo (Two a b) draft plan = (plan.root ≡ draft.next) × (plan.next ≡ draft.next + 1) × (plan.parts ≡ put_part draft.parts (Now draft.next (Inner (a ∷ b ∷ []))))

abbrev pub IsRaised : Step → Plan → Type 0
IsRaised step plan = IsRaisedTo step.left step.draft plan

-- any child, where a place has none
abbrev pub no_child : ChildOf
no_child = record { rect = whole; node = 0 }

-- what is left of a node, with all that stands below it
abbrev pub outcome_at : (ℕ → Option Node) → (level : ℕ) → Left → Outcome (Body level)
outcome_at at level (One a) = one (branch_at at level a)
outcome_at at level (Two a b) = two (branch_at at level a) (branch_at at level b)

abbrev pub EachStands : (ℕ → Option Node) → (level : ℕ) → Left → Type 0
EachStands at level (One a) = Stands at level a.node
EachStands at level (Two a b) = Stands at level a.node × Stands at level b.node

abbrev pub IsNow : Part → Type 0
IsNow (Now k n) = Unit {0}
IsNow (Gone k) = ⊥

-- what is inserted at or below this node, and at which level
pub record Aims (t : Table) (item : Item) (steps number : ℕ) : Type 0 where
  pub level : ℕ
  pub spot : IsSpot t level number
  pub k : ℕ
  pub x : Member k
  pub inserted : IsPlaced t item steps level number k x

-- the children of a node below which the member goes
abbrev pub GoesBelow : Node → Item → ℕ → List ChildOf → Type 0
GoesBelow n item steps cs = (n ≡ Inner cs) × (goes_below item steps ≡ true)

-- Changes of t at these numbers and at new ones.
pub record AreChanges (t : Table) (ns : List ℕ) (draft : Draft) : Type 0 where
  pub owned : AllByRecursion (λ p. (is_among ns (number_of p) ≡ true) ⊎ ((t.next ≤ number_of p) × (number_of p < draft.next))) draft.parts
  pub made : (k : ℕ) → t.next ≤ k → k < draft.next → IsSome (look (with_parts t.nodes draft.parts) k)
  pub now : AllByRecursion IsNow draft.parts
  pub ordered : AreOrdered draft.parts
  pub differs : AllByRecursion (Differs t.nodes) draft.parts
  pub onward : t.next ≤ draft.next

-- an insertion at or below a node of t, and all that it changes
pub record IsGrownAt (t : Table) (k : ℕ) (x : Member k) (level number : ℕ) (left : Left) (draft : Draft) : Type 0 where
  pub grows : Grows t.shape k x level number t.next (body_at (look t.nodes) level number) (outcome_at (look (with_parts t.nodes draft.parts)) level left) draft.next
  pub stands : EachStands (look (with_parts t.nodes draft.parts)) level left
  pub changes : AreChanges t (numbers level number (body_at (look t.nodes) level number)) draft
  pub few : length draft.parts ≤ 2 * (level + 1)
  pub few_new : draft.next ≤ t.next + level + 1

-- no change yet
abbrev pub no_draft : ℕ → Draft
no_draft next = record { parts = []; next = next }

-- what an insertion below the root of t makes of it
pub record IsInsertion (t : Table) (k : ℕ) (x : Member k) (level : ℕ) (plan : Plan) : Type 0 where
  pub step : Step
  pub grown : IsGrownAt t k x level t.root step.left step.draft
  pub raised : IsRaised step plan
