-- The first dead entry, and what its removal leaves.
use Rattle.std.proofs.Common.{◌≡◌, ℕ, ◌<◌, ◌≤◌, List, [], ◌∷◌, ◌++◌, map, length, Option, Some, None, refl, sym, subst, arith}
use Rattle.std.specs.Option.{IsSome, option_and_then}
use Rattle.std.specs.VecDeque.{deque_capacity}
use Rattle.std.specs.List.Sorted.{IsPermutation}
use Rattle.std.proofs.lemmas.List.{length-map}
use Rattle.std.proofs.lemmas.List.Sorted.{length_permutation}
use Rattle.sp_locks.specs.declared.row.Duration.TheVariants.{Short}
use Rattle.sp_locks.specs.declared.row.Name.{Name}
use Rattle.sp_locks.specs.declared.mode.Mode.{Mode}
use Rattle.sp_locks.specs.declared.needs.Need.{Need}
use Rattle.sp_node.specs.declared.node.Entry.{Entry}
use Rattle.sp_node.specs.Among.{Among}
use Rattle.sp_node.specs.Index.{entry_in, leaf_with}
use Rattle.sp_node.specs.Look.{look, entries_in}
use Rattle.sp_node.specs.Table.{Table, IsValid, entries_of}
use Rattle.sp_node.proofs.Standing.{entry_of_among}
use Rattle.sp_granule.specs.Granules.{Granule, granules}
use Rattle.sp_condense.specs.Removal.{IsRemoved, KeepsOthers}
use Rattle.sp_event.specs.declared.event.Event.TheVariants.{Clean}
use Rattle.sp_event.specs.declared.answer.Answer.TheVariants.{Full, Later, Removed}
use Rattle.sp_event.specs.declared.answer.Kind.TheVariants.{Numbers}
use Rattle.sp_model.specs.State.{Kernel}
use Rattle.sp_model.specs.Refusals.{first_unused}
use Rattle.sp_model.specs.Stepped.{Does, Removes, IsPutOff, AreUnopposed}
use Rattle.sp_model.specs.Removal.{IsTakenOut}
use Rattle.sp_protection.specs.Needs.{ShortWant, AreNeedsOf}
use Rattle.sp_model.specs.Soundness.{DeadListed}
use Rattle.sp_state.specs.declared.state.State.{State}
use Rattle.sp_state.specs.Held.{Fits}
use Rattle.sp_state.specs.Sketches.{IsSketchOf}
use Rattle.sp_ending.specs.Opposing.{IsGranule}

-- each dead entry has its leaf
pub leaf-there : (t : Table) (dead : List ℕ) (n : ℕ) → IsValid t → DeadListed dead (entries_of t) → Among n dead → IsSome (leaf_with t.nodes n)
leaf-there t dead n valid listed i =
    let b = listed.back n i in
    subst (λ (m : ℕ). IsSome (leaf_with t.nodes m)) b.2 (go b.0.number b.0 (leaf_with t.nodes b.0.number) (entry_of_among t valid b.0 b.1))
  where
    none : (e : Entry) → None ≡ Some e → ⊥
    none e h = cc

    go : (q : ℕ) (e : Entry) (o : Option ℕ) → option_and_then (λ k. entry_in (entries_in (look t.nodes k)) q) o ≡ Some e → IsSome o
    go q e None h = absurd (none e h)
    go q e (Some k) h = refl

-- short needs are on granules
want-granule : (gs gs' : List Granule) (chosen : Option ℕ) (name : Name) (mode : Mode) → ShortWant gs gs' chosen name mode → IsGranule name
want-granule gs gs' chosen _ _ (ShortWant.LosesPoint g i l) = (g.number, refl)
want-granule gs gs' chosen _ _ (ShortWant.Goes g i l) = (g.number, refl)
want-granule gs gs' chosen _ _ (ShortWant.Reached g i l) = (g.number, refl)
want-granule gs gs' chosen _ _ (ShortWant.GivesAway g i leaf l) = (g.number, refl)

pub need-granule : (gs gs' : List Granule) (chosen : Option ℕ) (needs : List Need) → AreNeedsOf (ShortWant gs gs' chosen) Short needs → (need : Need) → Among need needs → IsGranule need.name
need-granule gs gs' chosen needs are need i = let j = (are.joined need i).0 in want-granule gs gs' chosen need.name j.some.0 j.some.1

-- one entry less
pub fewer-entries : (t t' : Table) (n : ℕ) → IsPermutation (map (λ e. e.number) (entries_of t)) (n ∷ map (λ e. e.number) (entries_of t')) → length (entries_of t') ≤ length (entries_of t)
fewer-entries t t' n p =
    let a = length_permutation (map (λ (e : Entry). e.number) (entries_of t)) (n ∷ map (λ (e : Entry). e.number) (entries_of t')) p in
    let b = length-map (entries_of t) (λ (e : Entry). e.number) in
    let d = length-map (entries_of t') (λ (e : Entry). e.number) in
    omega (arith, a, b, d)

-- the room after a removal
pub fits-cleaned : (s s' : State) → Fits s → s'.seats ≡ s.seats → s'.audit ≡ s.audit → s'.operations ≡ s.operations → s'.records ≡ s.records → length (entries_of s'.tree.table) ≤ length (entries_of s.tree.table) → deque_capacity s.dead ≤ deque_capacity s'.dead → IsSketchOf s'.tree.table s'.sketch → Fits s'
fits-cleaned s s' fits seats audit operations records fewer room sketch = record {
  operations = rw (seats, audit, operations) fits.operations;
  records = rw (seats, audit, records) fits.records;
  endings = rw (seats, audit) fits.endings;
  graves = let a = fits.graves in omega (arith, a, fewer, room);
  sketch = sketch;
}

-- what the removal that is planned comes to
pub taken_out : (t : Table) (n : ℕ) (t' : Table) → IsRemoved t n t' → KeepsOthers t n t' → IsTakenOut t n t'
taken_out t n t' removed keeps = record { removed = removed; keeps = keeps }

module _ (k : Kernel) (n : ℕ) (rest : List ℕ) (after : Table) (first : k.dead ≡ n ∷ rest) (out : IsTakenOut k.tree n after) where
  pub clean-full : first_unused ≤ k.tree.next → k.tree.next < after.next → Does IsTakenOut k Clean (Full Numbers) k
  clean-full high more = Does.CleanIsFull n rest after first out high more

  module _ (short : List Need) (needs : AreNeedsOf (ShortWant (granules k.tree) (granules after) None) Short short) (within : (first_unused ≤ k.tree.next) → (k.tree.next < after.next) → ⊥) where
    removes : Removes IsTakenOut k n rest after short
    removes = record { first = first; removed = out; needs = needs; in_numbers = within }

    pub clean-later : (dead : List ℕ) (granule holder : ℕ) (mode : Mode) → IsPutOff k.locks short granule holder mode → dead ≡ rest ++ n ∷ [] → Does IsTakenOut k Clean (Later granule holder mode) (record k { dead = dead })
    clean-later dead granule holder mode off is = subst (λ (ns : List ℕ). Does IsTakenOut k Clean (Later granule holder mode) (record k { dead = ns })) (sym is) (Does.PutsOff n rest after short granule holder mode removes off)

    pub clean-done : (tree : Table) (dead : List ℕ) → AreUnopposed k.locks short → tree ≡ after → dead ≡ rest → Does IsTakenOut k Clean (Removed n) (record k { tree = tree; dead = dead })
    clean-done tree dead free is left =
        subst (λ (t : Table). Does IsTakenOut k Clean (Removed n) (record k { tree = t; dead = dead })) (sym is)
        (subst (λ (ns : List ℕ). Does IsTakenOut k Clean (Removed n) (record k { tree = after; dead = ns })) (sym left) (Does.Cleans n rest after short removes free))
