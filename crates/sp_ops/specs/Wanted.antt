-- Locks that are wanted, each for a reason of its own.
use Rattle.std.specs.Prelude.{◌↔◌, ℕ, List, [], ◌∷◌, ◌++◌, map, Option, None, if◌then◌else◌}
use Rattle.std.specs.BTreeMap.{get}
use Rattle.std.specs.Ordering.{nat_cmp}
use Rattle.std.specs.List.{AllByRecursion, filter_map}
use Rattle.std.specs.Option.{option_map}
use Rattle.sp_locks.specs.declared.mode.Mode.{Mode}
use Rattle.sp_locks.specs.declared.mode.Mode.TheVariants.{X}
use Rattle.sp_locks.specs.declared.row.Name.{Name}
use Rattle.sp_locks.specs.declared.row.Name.TheVariants.{Granule, Object}
use Rattle.sp_locks.specs.declared.row.Duration.{Duration}
use Rattle.sp_locks.specs.declared.row.Duration.TheVariants.{Commit, Short}
use Rattle.sp_locks.specs.declared.needs.Need.{Need}
use Rattle.sp_locks.specs.Rows.{same_name, join_onto}
use Rattle.sp_node.specs.declared.node.Entry.{Entry}
use Rattle.sp_node.specs.declared.node.Node.{Node}
use Rattle.sp_node.specs.Among.{Among}
use Rattle.sp_node.specs.Index.{leaf_with}
use Rattle.sp_ops.specs.declared.wants.Want.{Want}
use Rattle.sp_ops.specs.declared.wants.Modes.{Modes}

-- the list wants the mode on the name
abbrev pub IsWanted : List Want → Name → Mode → Type 0
IsWanted wants name mode = Among (record { name = name; mode = mode }) wants

-- a lock on the name may be asked for that long: short ones are on granules alone
abbrev pub MayLast : Duration → Name → Type 0
MayLast Commit name = Unit {0}
MayLast Short (Granule number) = Unit {0}
MayLast Short (Object id) = ⊥

abbrev pub AllMayLast : Duration → List Want → Type 0
AllMayLast duration wants = AllByRecursion (λ w. MayLast duration w.name) wants

-- what the list wants on the name, joined
abbrev pub joined_on : Name → List Want → Option Mode
joined_on name [] = None
joined_on name (w ∷ ws) = if same_name name w.name then join_onto w.mode (joined_on name ws) else joined_on name ws

-- the mode noted for the name
abbrev pub noted : Modes → Name → Option Mode
noted modes (Granule number) = get nat_cmp modes.granules number
noted modes (Object id) = get nat_cmp modes.objects id

abbrev pub need_on : (ℕ → Name) → Duration → ℕ × Mode → Need
need_on name duration e = record { name = name e.0; mode = e.1; duration = duration }

-- the needs noted, first those on granules and then those on objects
abbrev pub needs_of : Modes → Duration → List Need
needs_of modes duration = map (need_on Granule duration) modes.granules.entries ++ map (need_on Object duration) modes.objects.entries

-- the list wants exactly what the rule wants
abbrev pub AreWants : (Name → Mode → Type 0) → List Want → Type 0
AreWants Wanted wants = (name : Name) (mode : Mode) → IsWanted wants name mode ↔ Wanted name mode

abbrev pub on_granule : Mode → ℕ → Want
on_granule mode number = record { name = Granule number; mode = mode }

abbrev pub on_leaf : Mode → Option ℕ → Option Want
on_leaf mode leaf = option_map (on_granule mode) leaf

-- the mode on the leaf of each entry
abbrev pub on_leaves : List (ℕ × Node) → Mode → List ℕ → List Want
on_leaves nodes mode numbers = filter_map (λ n. on_leaf mode (leaf_with nodes n)) numbers

abbrev pub on_object : Entry → Want
on_object e = record { name = Object e.id; mode = X }
