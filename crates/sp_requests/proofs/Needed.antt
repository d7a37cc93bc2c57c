-- What an operation needs, and which of it is held.
use Rattle.std.proofs.Common.{◌≡◌, ℕ, Bool, true, false, ◌&&◌, ◌||◌, cond, nat_eq, List, [], ◌∷◌, Some, None, refl, sym, ap, ◌∙◌, subst, arith}
use Rattle.std.specs.List.{list_any}
use Rattle.std.proofs.lemmas.Bool.Decides.{nat_tests}
use Rattle.sp_rect.specs.Plane.{Rectangle}
use Rattle.sp_rect.specs.declared.record.Record.{Record}
use Rattle.sp_rect.specs.declared.operation.Op.{Op}
use Rattle.sp_rect.specs.declared.operation.Op.TheVariants.{Put}
use Rattle.sp_locks.specs.declared.row.Name.{Name}
use Rattle.sp_locks.specs.declared.row.Name.TheVariants.{Granule, Object}
use Rattle.sp_locks.specs.declared.row.Row.{Row}
use Rattle.sp_locks.specs.declared.row.Duration.TheVariants.{Commit, Short}
use Rattle.sp_locks.specs.declared.needs.Need.{Need}
use Rattle.sp_locks.specs.Modes.{covers}
use Rattle.sp_locks.specs.Rows.{is_lock_of, same_name}
use Rattle.sp_locks.specs.Table.{rows_on}
use Rattle.sp_node.specs.declared.node.Entry.{Entry}
use Rattle.sp_node.specs.declared.plan.Plan.{Plan}
use Rattle.sp_node.specs.Plan.{planned}
use Rattle.sp_grow.specs.Chosen.{ReachesOf}
use Rattle.sp_granule.specs.Granules.{granules}
use Rattle.sp_protection.specs.Effects.{fresh}
use Rattle.sp_protection.specs.Needs.{PutWant, ShortWant, AreNeedsOf}
use Rattle.sp_ops.specs.Commit.{AreCommitNeeds}
use Rattle.sp_model.specs.declared.session.Session.{Session}
use Rattle.sp_model.specs.State.{Kernel}
use Rattle.sp_model.specs.Plans.{is_adding, is_held, HasNeeds, Stays, Adds, IsInserted}

name-turned : (a b : Name) → same_name a b ≡ same_name b a
name-turned (Granule m) (Granule n) = turned m n
  where
    turned : (m n : ℕ) → nat_eq m n ≡ nat_eq n m
    turned m n = grind (arith, nat_tests)
name-turned (Object m) (Object n) = turned m n
  where
    turned : (m n : ℕ) → nat_eq m n ≡ nat_eq n m
    turned m n = grind (arith, nat_tests)
name-turned (Granule m) (Object n) = refl
name-turned (Object m) (Granule n) = refl

-- some of the rows is a lock that is enough
abbrev pub any_on : ℕ → Need → List Row → Bool
any_on s need xs = list_any (λ x. is_lock_of s Commit x && covers x.mode need.mode) xs

-- the rows on the name tell whether the need is held
pub held-on : (s : ℕ) (need : Need) (rows : List Row) → list_any (λ row. is_lock_of s Commit row && covers row.mode need.mode) (rows_on need.name rows) ≡ is_held rows s need
held-on s need [] = refl
held-on s need (row ∷ rows) = go (same_name need.name row.name) (same_name row.name need.name) (name-turned need.name row.name) (held-on s need rows)
  where
    go : (b c : Bool) → b ≡ c → any_on s need (rows_on need.name rows) ≡ is_held rows s need
        → any_on s need (cond b (row ∷ rows_on need.name rows) (rows_on need.name rows)) ≡ ((is_lock_of s Commit row && (c && covers row.mode need.mode)) || is_held rows s need)
    go true true e h = ap (λ r. (is_lock_of s Commit row && covers row.mode need.mode) || r) h
    go false false e h = h ∙ sym (none (is_lock_of s Commit row) (is_held rows s need))
      where
        none : (a r : Bool) → ((a && false) || r) ≡ r
        none a r = grind arith
    go true false e h = cc
    go false true e h = cc

pub stays-needs : (k : Kernel) (x : Session) (op : Op) (txn : ℕ) (searches : List Rectangle) (commit short : List Need) → txn ≡ x.txn.number → is_adding k x op ≡ false → AreCommitNeeds k.tree None op txn searches commit → short ≡ []
    → HasNeeds k x op commit short
stays-needs k x op txn searches commit short t none are e =
    subst (HasNeeds k x op commit) (sym e) (Stays op commit none (subst (λ n. AreCommitNeeds k.tree None op n searches commit) t are))

pub put-needs : (k : Kernel) (x : Session) (r : Record) (txn : ℕ) (entry : Entry) (plan : Plan) (chosen : ℕ) (searches : List Rectangle) (commit short : List Need)
    → txn ≡ x.txn.number → searches ≡ x.txn.searches → is_adding k x (Put r) ≡ true
    → entry ≡ fresh txn k.next_entry r → IsInserted k.tree entry (planned k.tree plan) → ReachesOf k.tree r.rect chosen
    → AreNeedsOf (PutWant (granules k.tree) (granules (planned k.tree plan)) searches) Commit commit
    → AreNeedsOf (ShortWant (granules k.tree) (granules (planned k.tree plan)) (Some chosen)) Short short
    → HasNeeds k x (Put r) commit short
put-needs k x r txn entry plan chosen searches commit short t s adding e inserted reaches are_commit are_short =
    Adds r (planned k.tree plan) chosen commit short adding
    (record { inserted = subst (λ (f : Entry). IsInserted k.tree f (planned k.tree plan)) (e ∙ ap (λ n. fresh n k.next_entry r) t) inserted; reaches = reaches })
    (subst (λ qs. AreNeedsOf (PutWant (granules k.tree) (granules (planned k.tree plan)) qs) Commit commit) s are_commit) are_short
