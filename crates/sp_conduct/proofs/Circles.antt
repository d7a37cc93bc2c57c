-- Who is in the way of a session, and the circle that its wait would close, by the rows of the lock table.
use Rattle.std.proofs.Common.{◌≡◌, ◌≢◌, ◌⊎◌, ℕ, suc, ◌≤◌, true, false, List, [], ◌∷◌, None, Some, length, nat_eq, refl, sym, ap, ◌∙◌, subst, inl, inr, true≢false, arith}
use Rattle.sp_locks.specs.declared.mode.Mode.{Mode}
use Rattle.sp_locks.specs.declared.row.Name.{Name}
use Rattle.sp_locks.specs.declared.row.Row.{Row}
use Rattle.sp_locks.specs.declared.row.Duration.TheVariants.{Commit}
use Rattle.sp_locks.specs.Rows.{is_waiter, holds_in}
use Rattle.sp_locks.specs.Table.{rows_on, held, row_of, blockers}
use Rattle.sp_locks.specs.Soundness.{In}
use Rattle.sp_locks.specs.Blocking.{member, is_compatible_with, WaitsAgainst}
use Rattle.sp_locks.proofs.Members.{numbers-tell}
use Rattle.sp_locks.proofs.Blocking.{against-held, blockers-block}
use Rattle.sp_locks.proofs.Keeping.{found-waits, waiter-is, in-table}
use Rattle.sp_waits.specs.declared.edge.Edge.{Edge}
use Rattle.sp_waits.specs.Edges.{waits_of, once_waiting}
use Rattle.sp_waits.specs.Cycles.{IsEdge, Leads, IsToldCycle}
use Rattle.sp_waits.proofs.Acyclic.{starts-waiting, of_stopping}
use Rattle.sp_waits.proofs.Levelling.{or-left, or-right}
use Rattle.sp_node.specs.Among.{Among}
use Rattle.sp_model.proofs.Holding.{in-among}
use Rattle.sp_conduct.specs.Fitting.{JoinUp}
use Rattle.sp_conduct.proofs.Rows.{asked_waits}

among_member : (v : ℕ) (vs : List ℕ) → Among v vs → member v vs ≡ true
among_member v [] i = absurd i
among_member v (u ∷ us) (inl e) = or-left (nat_eq v u) (member v us) (numbers-tell v u e)
among_member v (u ∷ us) (inr i) = or-right (nat_eq v u) (member v us) (among_member v us i)

-- who blocks a request is somebody else, and has a row
pub blocker_row : (s : ℕ) (name : Name) (mode : Mode) (rows : List Row) (v : ℕ) → Among v (blockers s name mode rows) → (v ≢ s) × (row : Row) × Among row rows × (row.session ≡ v)
blocker_row s name mode rows v i = let b = blockers-block rows s v name mode (among_member v (blockers s name mode rows) i) in go b.0 b.1
  where
    go : v ≢ s → (is_compatible_with mode (held v name rows) ≡ false) ⊎ ((held s name rows ≡ None) × WaitsAgainst mode name v rows) → (v ≢ s) × (row : Row) × Among row rows × (row.session ≡ v)
    go apart (inl against) = let x = against-held v mode (rows_on name rows) against in (apart, x.0, in-among x.0 rows (in-table name x.0 rows x.1).0, x.3)
    go apart (inr (none, w)) = (apart, w.row, in-among w.row rows w.stands, w.by)

-- nobody waits for himself
not_own : (rows : List Row) (s : ℕ) → member s (waits_of rows s) ≡ true → ⊥
not_own rows s m =
    let w = starts-waiting rows s s m in
    let b = of_stopping (holds_in s (rows_on w.0.name rows)) s w.0.mode (rows_on w.0.name rows) s w.2 in
    true≢false (sym (numbers-tell b.row.session s b.by) ∙ b.other)

join_up : (rows : List Row) (u : ℕ) (es : List Edge) (w : ℕ) → Leads rows u es w → JoinUp u es w
join_up rows u [] w l = l
join_up rows u (e ∷ es) w l = (l.0, join_up rows e.to es w l.2)

-- the edges from one of them on lead to the same end
record LeadsOn (rows : List Row) (e : Edge) (es : List Edge) (w : ℕ) : Type 0 where
  rest : List Edge
  leads : Leads rows e.from (e ∷ rest) w
  fewer : length (e ∷ rest) ≤ length es

leads_on : (rows : List Row) (u : ℕ) (es : List Edge) (w : ℕ) → Leads rows u es w → (e : Edge) → Among e es → LeadsOn rows e es w
leads_on rows u [] w l e i = absurd i
leads_on rows u (d ∷ es) w l e (inl is) = subst (λ (x : Edge). LeadsOn rows x (d ∷ es) w) (sym is) (record { rest = es; leads = (refl, l.1, l.2); fewer = omega arith })
leads_on rows u (d ∷ es) w l e (inr i) = let r = leads_on rows d.to es w l.2 e i in record { rest = r.rest; leads = r.leads; fewer = longer (length (e ∷ r.rest)) (length es) r.fewer }
  where
    longer : (a b : ℕ) → a ≤ b → a ≤ suc b
    longer a b h = omega arith

pub told_not_empty : (rows : List Row) (s : ℕ) (name : Name) (mode : Mode) (cycle : List Edge) → IsToldCycle rows s name mode (Some cycle) → cycle ≢ []
told_not_empty rows s name mode cycle told = told.leads.0

-- The told cycle leads from the session back to itself over others, each of which waits as its edge says. It is a shortest one, so that no edge but the first starts at the session.
module _ (rows : List Row) (s : ℕ) (name : Name) (mode : Mode) (first : Edge) (others : List Edge) (told : IsToldCycle rows s name mode (Some (first ∷ others))) where
  abbrev table : List Row
  table = once_waiting s name mode rows

  some_others : others ≢ []
  some_others e = loop (subst (λ (es : List Edge). Leads table s (first ∷ es) s) e told.leads.1)
    where
      loop : Leads table s (first ∷ []) s → ⊥
      loop l = not_own table s (subst (λ (v : ℕ). member v (waits_of table s) ≡ true) l.2 (subst (λ (u : ℕ). member first.to (waits_of table u) ≡ true) l.0 l.1.waits))

  on : (e : Edge) → Among e others → LeadsOn table e others s
  on e i = leads_on table first.to others s told.leads.1.2 e i

  starts_apart : (e : Edge) → Among e others → e.from ≢ s
  starts_apart e i same =
      let r = on e i in
      longer (length (e ∷ r.rest)) (length others) r.fewer (told.shortest (e ∷ r.rest) (some, subst (λ (u : ℕ). Leads table u (e ∷ r.rest) s) same r.leads))
    where
      some : e ∷ (on e i).rest ≡ [] → ⊥
      some h = cc

      longer : (a b : ℕ) → a ≤ b → suc b ≤ a → ⊥
      longer a b h k = omega arith

  waits_so : (e : Edge) → Among e others → (e.from ≢ s) × (row : Row) × Among row rows × (row.session ≡ e.from) × (row.waiting ≡ true) × (row.name ≡ e.name) × (row.mode ≡ e.wanted)
  waits_so e i = (apart, edge.row, stands (asked_waits s name mode Commit rows edge.row (in-among edge.row table found.0) w.0), w.1, w.0, edge.on, edge.asked)
    where
      apart : e.from ≢ s
      apart = starts_apart e i

      edge : IsEdge table e
      edge = (on e i).leads.1

      found : In edge.row table × (is_waiter e.from edge.row ≡ true)
      found = found-waits e.from table edge.row edge.by

      w : (edge.row.waiting ≡ true) × (edge.row.session ≡ e.from)
      w = waiter-is e.from edge.row found.1

      stands : (edge.row ≡ row_of s name mode Commit true) ⊎ Among edge.row rows → Among edge.row rows
      stands (inl is) = absurd (apart (sym w.1 ∙ ap (λ (q : Row). q.session) is))
      stands (inr j) = j

  pub circle_of : JoinUp s (first ∷ others) s × (others ≢ []) × ((e : Edge) → Among e others → (e.from ≢ s) × (row : Row) × Among row rows × (row.session ≡ e.from) × (row.waiting ≡ true) × (row.name ≡ e.name) × (row.mode ≡ e.wanted))
  circle_of = (join_up table s (first ∷ others) s told.leads.1, some_others, waits_so)
