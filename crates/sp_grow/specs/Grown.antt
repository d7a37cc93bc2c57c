-- A tree after the insertion of an entry, after Guttman, "R-Trees", SIGMOD 1984.
use Rattle.std.specs.Prelude.{◌≡◌, ◌≤◌, ℕ, suc, ◌+◌, ◌*◌, [], ◌∷◌, length}
use Rattle.sp_node.specs.declared.node.Entry.{Entry}
use Rattle.sp_node.specs.Nested.{Body}
use Rattle.sp_node.specs.declared.plan.Plan.{Plan}
use Rattle.sp_node.specs.Look.{look}
use Rattle.sp_node.specs.Plan.{IsMadeOf, planned}
use Rattle.sp_node.specs.Table.{Table, body_at, level_of}
use Rattle.sp_grow.specs.Insertion.{Outcome, one, two, Grows}

-- the tree is what is left of the old root, or a new root above its two halves, with the next number
abbrev pub IsRoot : (level : ℕ) → Outcome (Body level) → ℕ → Table → Type 0
IsRoot level (one a) next t = (t.root ≡ a.number) × (t.next ≡ next) × (level_of t ≡ level) × (body_at (look t.nodes) level t.root ≡ a.body)
IsRoot level (two a b) next t = (t.root ≡ next) × (t.next ≡ next + 1) × (level_of t ≡ suc level) × (body_at (look t.nodes) (suc level) t.root ≡ a ∷ b ∷ [])

-- t' is t after the insertion of e
pub record IsGrown (t : Table) (e : Entry) (t' : Table) : Type 0 where
  pub outcome : Outcome (Body (level_of t))
  pub next : ℕ
  pub grows : Grows t.shape 0 e (level_of t) t.root t.next (body_at (look t.nodes) (level_of t) t.root) outcome next
  pub root : IsRoot (level_of t) outcome next t'
  pub shape : t'.shape ≡ t.shape

-- what the plan of an insertion is
pub record IsDone (t : Table) (e : Entry) (plan : Plan) : Type 0 where
  pub made : IsMadeOf t plan
  pub grown : IsGrown t e (planned t plan)
  pub few : length plan.parts ≤ 2 * (level_of t + 1) + 1
